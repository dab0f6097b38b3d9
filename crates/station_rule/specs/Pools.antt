-- When a pool is the owner's.
use Rattle.std.specs.Prelude.{◌≡◌, ◌≢◌, ℕ, ◌+◌, ◌*◌, ◌/◌, ◌<◌, ◌≤◌, None, List, map, length, slice_index}
use Rattle.step_cells.specs.declared.cell.Cell.{Cell}
use Rattle.owner_pool.specs.declared.pool.Pool.{Pool}
use Rattle.owner_pool.specs.Noting.{Call, Size, cell_slots}
use Rattle.owner_pool.specs.Holding.{Holds, named_in, last_in, seen_in, slot_count}
use Rattle.station_rule.specs.Key.{Key}
use Rattle.station_rule.specs.declared.layout.Site.{Site}
use Rattle.station_rule.specs.declared.view.Entry.{Entry}
use Rattle.station_rule.specs.declared.view.View.{View}
use Rattle.station_rule.specs.declared.job.Slot.{Slot}
use Rattle.station_rule.specs.Book.{slot_of}
use Rattle.station_rule.specs.Cells.{EachHeld, input_of}
use Rattle.station_rule.specs.Core.{site_at}

-- a call names its own slot and one for each input at most
abbrev pub size_of : Site → Size
size_of t = record { queue = t.queue; names = t.width / 2 + 1 }

abbrev pub sizes_of : List Site → List Size
sizes_of sites = map size_of sites

-- a call of the book, as a pool sees it
abbrev pub noted : Entry → Call
noted e = record { instance = e.instance; slot = slot_of e.words; inputs = cell_slots (input_of e) }

-- the pool says what the book says, and no call is done for it that the owner has not seen done
pub record IsPoolOf (v : View) (p : Pool) : Type 0 where
  pub holds : Holds (sizes_of v.layout.sites) p (map noted v.book)
  pub slots : slot_count p ≡ v.layout.slots
  pub behind : (i : ℕ) → seen_in p i ≤ slice_index v.seen i

-- what the owner's next call must meet, by the pool's counts: a slot that is not named, with its next generation, and inputs with their slot's last generation
pub record CanOffer (k : Key) (v : View) (p : Pool) (i : ℕ) (input : List Cell) (s : Slot) : Type 0 where
  pub opened : v.closed ≡ 0
  pub own : (site_at k i).parent ≡ None
  pub size : (site_at k i).width ≡ 1 + 2 * length input
  pub slot : s.slot < k.slots
  pub next : s.generation ≡ last_in p s.slot + 1
  pub unnamed : named_in p s.slot ≡ 0
  pub handles : EachHeld input (λ h. (0 < h.generation) × (h.generation ≡ last_in p h.slot) × (h.slot ≢ s.slot) × (h.component < k.components))
