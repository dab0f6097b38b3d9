-- A pool says what the book says.
use Rattle.std.specs.Prelude.{◌≡◌, ℕ, ◌+◌, ◌-◌, ◌^◌, ◌<◌, ◌≤◌, List, length, slice_index}
use Rattle.step_cells.specs.declared.cell.Cell.{Cell}
use Rattle.owner_pool.specs.declared.pool.Pool.{Pool}
use Rattle.owner_pool.specs.Counted.{AreCounts, times}
use Rattle.owner_pool.specs.Noting.{Call, Size, calls, issued, unseen, slots_of, room_for, size_at, cell_slots, AllFit, EachSlot, Fits}

-- the counts of a slot, its last generation, and how many calls of an instance were seen done
abbrev pub told_in : Pool → ℕ → ℕ
told_in p z = slice_index p.counts.told.items z

abbrev pub called_in : Pool → ℕ → ℕ
called_in p z = slice_index p.counts.called.items z

abbrev pub named_in : Pool → ℕ → ℕ
named_in p z = told_in p z + called_in p z

abbrev pub last_in : Pool → ℕ → ℕ
last_in p z = slice_index p.last.items z

abbrev pub seen_in : Pool → ℕ → ℕ
seen_in p i = slice_index p.seen.items i

abbrev pub slot_count : Pool → ℕ
slot_count p = length p.counts.told.items

pub record Holds (sizes : List Size) (p : Pool) (book : List Call) : Type 0 where
  pub counts : AreCounts p.counts.told.items p.counts.called.items p.counts.order.items p.counts.place.items p.counts.unnamed
  pub last_long : length p.last.items ≡ slot_count p
  pub seen_long : length p.seen.items ≡ length sizes
  pub roomy : room_for sizes ≤ p.room
  pub called_is : (z : ℕ) → called_in p z ≡ times z (slots_of p.waiting.items)
  pub last_is : (z : ℕ) → z < slot_count p → last_in p z ≡ length (issued z book)
  pub waiting_is : p.waiting.items ≡ unseen p.seen.items book
  pub fit : AllFit sizes book
  pub low : (i : ℕ) → seen_in p i ≤ length (calls i book)
  pub high : (i : ℕ) → i < length sizes → length (calls i book) ≤ seen_in p i + (size_at sizes i).queue

-- the next call of an instance, where its queue has room
pub record CanOffer (sizes : List Size) (p : Pool) (book : List Call) (i number slot : ℕ) (input : List Cell) : Type 0 where
  pub fits : Fits sizes record { instance = i; slot = slot; inputs = cell_slots input }
  pub numbered : number ≡ length (calls i book) + 1
  pub own : slot < slot_count p
  pub inputs : EachSlot input (λ s. s < slot_count p)
  pub waits : length (calls i book) < seen_in p i + (size_at sizes i).queue
  pub generation : last_in p slot < 2 ^ 32 - 1
