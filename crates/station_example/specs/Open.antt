-- An owner whose station is open, with its pool.
use Rattle.std.specs.Prelude.{◌≡◌, ℕ, ◌<◌, [], length, None}
use Rattle.owner_pool.specs.declared.pool.Pool.{Pool}
use Rattle.owner_pool.specs.Holding.{last_in, told_in}
use Rattle.step_cells.specs.declared.cell.Handle.{Handle}
use Rattle.station_rule.specs.Key.{Key}
use Rattle.station_rule.specs.declared.station.Station.{Station}
use Rattle.station_rule.specs.Core.{site_at}
use Rattle.station_rule.specs.Pools.{IsPoolOf}
use Rattle.station_rule.specs.Seats.{StationSeat, IsSeatOf, IsOwner}

-- the owner is writing no entry, it has not closed the station, and the pool is its own
pub record IsOpen {M N A : Type 0} (s : Station M N A) (owner : StationSeat M) (pool : Pool) : Type 0 where
  pub seat : IsSeatOf s owner
  pub offers : IsOwner owner
  pub entry : owner.me.0.entry ≡ []
  pub closed : owner.me.0.closed ≡ 0
  pub own : IsPoolOf owner.me.0 pool

-- the handle is one that the caller told, of its slot's last call
pub record IsKept (pool : Pool) (h : Handle) : Type 0 where
  pub told : 0 < told_in pool h.slot
  pub first : 0 < h.generation
  pub last : h.generation ≡ last_in pool h.slot

-- the instance is one whose calls the owner offers, with one input
pub record TakesOne (k : Key) (i : ℕ) : Type 0 where
  pub there : i < length k.sites
  pub width : (site_at k i).width ≡ 3
  pub own : (site_at k i).parent ≡ None
