-- A book of calls as a pool sees it: which slots each call names.
use Rattle.std.specs.Prelude.{◌≡◌, ◌≢◌, ℕ, ◌+◌, ◌*◌, ◌<◌, ◌≤◌, ◌==◌, Bool, true, cond, List, [], ◌∷◌, ◌++◌, length, filter, map, nat_lt, slice_index, slice_index_or}
use mathlib.Core.Option.{some}
use lib.ListN.{get_elem?}
use Rattle.step_cells.specs.declared.cell.Handle.{Handle}
use Rattle.step_cells.specs.declared.cell.Cell.{Cell}
use Rattle.step_cells.specs.declared.cell.Cell.TheVariants.{Value, Ready, Held}
use Rattle.owner_pool.specs.declared.pool.Name.{Name}
use Rattle.owner_pool.specs.Counted.{one_if, times}

-- a call: its instance, its own slot, and the slots of the futures among its inputs
pub record Call : Type 0 where
  pub instance : ℕ
  pub slot : ℕ
  pub inputs : List ℕ

-- of an instance: how many calls wait at most, and how many slots one names at most
pub record Size : Type 0 where
  pub queue : ℕ
  pub names : ℕ

-- the slots of the futures in a row of cells
abbrev pub cell_slots : List Cell → List ℕ
cell_slots [] = []
cell_slots (Value v ∷ cs) = cell_slots cs
cell_slots (Ready v ∷ cs) = cell_slots cs
cell_slots (Held h ∷ cs) = h.slot ∷ cell_slots cs

-- each of them
abbrev pub EachSlot : List Cell → (ℕ → Type 0) → Type 0
EachSlot cells P = (j : ℕ) (h : Handle) → get_elem? cells j ≡ some (Held h) → P h.slot

-- the handle in a cell, where it has one, and whether it is of a slot
abbrev pub OfHandle : (Handle → Type 0) → Cell → Type 0
OfHandle P (Value v) = Unit {0}
OfHandle P (Ready v) = Unit {0}
OfHandle P (Held h) = P h

abbrev pub cell_names : ℕ → Cell → ℕ
cell_names s (Value v) = 0
cell_names s (Ready v) = 0
cell_names s (Held h) = one_if (h.slot == s)

abbrev pub pick : (Call → Bool) → List Call → List Call
pick p [] = []
pick p (c ∷ cs) = cond (p c) (c ∷ pick p cs) (pick p cs)

abbrev pub is_of : ℕ → Call → Bool
is_of i c = c.instance == i

abbrev pub has_slot : ℕ → Call → Bool
has_slot s c = c.slot == s

-- the calls of an instance, and those that were given a slot
abbrev pub calls : ℕ → List Call → List Call
calls i book = pick (is_of i) book

abbrev pub issued : ℕ → List Call → List Call
issued s book = pick (has_slot s) book

-- the names of the call number n of its instance
abbrev pub named_by : ℕ → ℕ → List ℕ → List Name
named_by i n slots = map (λ s. record { instance = i; number = n; slot = s }) slots

abbrev pub call_names : ℕ → Call → List Name
call_names n c = named_by c.instance n (c.slot ∷ c.inputs)

-- the names of all calls, in the order of offering, where these were offered before
abbrev pub names_after : List Call → List Call → List Name
names_after before [] = []
names_after before (c ∷ cs) = call_names (length (calls c.instance before) + 1) c ++ names_after (before ++ c ∷ []) cs

-- those of the calls that were not seen done
abbrev pub is_unseen : List ℕ → Name → Bool
is_unseen seen n = nat_lt (slice_index seen n.instance) n.number

abbrev pub unseen : List ℕ → List Call → List Name
unseen seen book = filter (is_unseen seen) (names_after [] book)

-- those that are left once so many calls of an instance were seen done
abbrev pub waits_still : ℕ → ℕ → Name → Bool
waits_still i done n = cond (n.instance == i) (nat_lt done n.number) true

abbrev pub slots_of : List Name → List ℕ
slots_of names = map (λ n. n.slot) names

-- room for the names of as many calls as may wait
abbrev pub room_for : List Size → ℕ
room_for [] = 0
room_for (t ∷ ts) = t.queue * t.names + room_for ts

abbrev pub no_size : Size
no_size = record { queue = 0; names = 0 }

abbrev pub size_at : List Size → ℕ → Size
size_at sizes i = slice_index_or sizes i no_size

-- the call is of an instance that there is, and names no more slots than it may
pub record Fits (sizes : List Size) (c : Call) : Type 0 where
  pub site : c.instance < length sizes
  pub few : 1 + length c.inputs ≤ (size_at sizes c.instance).names

abbrev pub AllFit : List Size → List Call → Type 0
AllFit sizes [] = Unit {0}
AllFit sizes (c ∷ cs) = Fits sizes c × AllFit sizes cs

-- no call that was not seen done names the slot
abbrev pub IsUnnamed : List ℕ → List Call → ℕ → Type 0
IsUnnamed seen book s = (i n : ℕ) (c : Call) → slice_index seen i ≤ n → get_elem? (calls i book) n ≡ some c → (c.slot ≢ s) × (times s c.inputs ≡ 0)
