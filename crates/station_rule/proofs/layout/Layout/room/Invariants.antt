use Rattle.std.proofs.Common.{◌≡◌, take}
use Rattle.owner_pool.specs.Noting.{room_for}
use Rattle.station_rule.specs.Pools.{sizes_of}
use Rattle.station_rule.proofs.layout.Layout.room.Given as goal

abbrev pub invariant-loop-index : goal.invariant-loop-index
invariant-loop-index l = l.room ≡ room_for (sizes_of (take l.index l.self.sites))
