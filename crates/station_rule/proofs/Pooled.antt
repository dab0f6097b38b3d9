-- What a pool says of an owner's book.
use Rattle.std.proofs.Common.{◌≡◌, ◌≢◌, ℕ, zero, suc, ◌+◌, ◌*◌, ◌<◌, ◌≤◌, Bool, true, false, cond, eqb, List, [], ◌∷◌, ◌++◌, map, length, get_or, slice_index, sym, refl, ap, ◌∙◌, arith, eq-eqb}
use Rattle.std.proofs.lemmas.List.{map-append}
use mathlib.Core.Option.{some, some-injective, some-ne-none}
use lib.ListN.{get_elem?}
use Rattle.step_cells.specs.declared.cell.Handle.{Handle}
use Rattle.step_cells.specs.declared.cell.Cell.{Cell}
use Rattle.step_cells.specs.declared.cell.Cell.TheVariants.{Value, Ready, Held}
use Rattle.owner_pool.specs.declared.pool.Name.{Name}
use Rattle.owner_pool.specs.declared.pool.Pool.{Pool}
use Rattle.owner_pool.specs.Counted.{one_if, times}
use Rattle.owner_pool.specs.Noting.{Call, Size, cell_slots, slots_of, size_at, no_size, room_for, IsUnnamed as IsUnnamedCall}
use Rattle.owner_pool.specs.Noting.{calls as calls_noted, issued as issued_noted}
use Rattle.owner_pool.specs.Holding.{named_in, last_in}
use Rattle.owner_pool.proofs.Names.{unnamed_at_zero, within}
use Rattle.station_rule.specs.Key.{Key}
use Rattle.station_rule.specs.declared.layout.Site.{Site}
use Rattle.station_rule.specs.declared.view.Sent.{Sent}
use Rattle.station_rule.specs.declared.view.Entry.{Entry}
use Rattle.station_rule.specs.declared.view.View.{View}
use Rattle.station_rule.specs.declared.job.Slot.{Slot}
use Rattle.station_rule.specs.Book.{calls, issued, slot_of, cell_slot, IsUnnamed}
use Rattle.station_rule.specs.Cells.{input_of}
use Rattle.station_rule.specs.Core.{site_at, no_site}
use Rattle.station_rule.specs.Seats.{MayOffer, IsCall}
use Rattle.station_rule.specs.Pools.{size_of, sizes_of, noted, IsPoolOf, CanOffer}
use Rattle.station_rule.proofs.CellWords.{cell_held, input_there}

-- a pool sees the same calls
pub calls_are : (i : ℕ) (book : List Entry) → calls_noted i (map noted book) ≡ map noted (calls i book)
calls_are i [] = refl
calls_are i (e ∷ es) = by (calls_are i es) (eqb e.instance i)
  where
    by : calls_noted i (map noted es) ≡ map noted (calls i es) → (b : Bool) → cond b (noted e ∷ calls_noted i (map noted es)) (calls_noted i (map noted es)) ≡ map noted (cond b (e ∷ calls i es) (calls i es))
    by r true = ap (λ (l : List Call). noted e ∷ l) r
    by r false = r

issued_are : (s : ℕ) (book : List Entry) → issued_noted s (map noted book) ≡ map noted (issued s book)
issued_are s [] = refl
issued_are s (e ∷ es) = by (issued_are s es) (eqb (slot_of e.words) s)
  where
    by : issued_noted s (map noted es) ≡ map noted (issued s es) → (b : Bool) → cond b (noted e ∷ issued_noted s (map noted es)) (issued_noted s (map noted es)) ≡ map noted (cond b (e ∷ issued s es) (issued s es))
    by r true = ap (λ (l : List Call). noted e ∷ l) r
    by r false = r

as_many : (es : List Entry) → length (map noted es) ≡ length es
as_many [] = refl
as_many (e ∷ es) = let r = as_many es in omega arith

pub as_many_calls : (i : ℕ) (book : List Entry) → length (calls_noted i (map noted book)) ≡ length (calls i book)
as_many_calls i book = ap length (calls_are i book) ∙ as_many (calls i book)

pub as_many_issued : (s : ℕ) (book : List Entry) → length (issued_noted s (map noted book)) ≡ length (issued s book)
as_many_issued s book = ap length (issued_are s book) ∙ as_many (issued s book)

noted_at : (es : List Entry) (n : ℕ) (e : Entry) → get_elem? es n ≡ some e → get_elem? (map noted es) n ≡ some (noted e)
noted_at [] n e at = absurd (some-ne-none e (sym at))
noted_at (x ∷ es) zero e at = ap (λ (y : Entry). some (noted y)) (some-injective x e at)
noted_at (x ∷ es) (suc n) e at = noted_at es n e at

not_among : (s : ℕ) (cells : List Cell) (j : ℕ) (h : Handle) → times s (cell_slots cells) ≡ 0 → get_elem? cells j ≡ some (Held h) → h.slot ≢ s
not_among s [] j h none at same = absurd (some-ne-none (Held h) (sym at))
not_among s (Value v ∷ cells) zero h none at same = held_no (Value v) h refl (some-injective (Value v) (Held h) at)
  where
    held_no : (c : Cell) (h : Handle) → cell_slots (c ∷ []) ≡ [] → c ≡ Held h → ⊥
    held_no c h empty is = let l = ap length (sym empty ∙ ap (λ (x : Cell). cell_slots (x ∷ [])) is) in absurd (omega arith)
not_among s (Value v ∷ cells) (suc j) h none at same = not_among s cells j h none at same
not_among s (Ready v ∷ cells) zero h none at same = held_no (Ready v) h refl (some-injective (Ready v) (Held h) at)
  where
    held_no : (c : Cell) (h : Handle) → cell_slots (c ∷ []) ≡ [] → c ≡ Held h → ⊥
    held_no c h empty is = let l = ap length (sym empty ∙ ap (λ (x : Cell). cell_slots (x ∷ [])) is) in absurd (omega arith)
not_among s (Ready v ∷ cells) (suc j) h none at same = not_among s cells j h none at same
not_among s (Held g ∷ cells) zero h none at same =
    let is = some-injective (Held g) (Held h) at in
    let slots = ap (λ (x : Cell). times s (cell_slots (x ∷ []))) is in
    let e = ap one_if (eq-eqb h.slot s same) in absurd (omega arith)
not_among s (Held g ∷ cells) (suc j) h none at same = not_among s cells j h (omega arith) at same

-- a slot that no waiting call names
unnamed_words : (book : List Entry) (seen : List ℕ) (s : ℕ) → IsUnnamedCall seen (map noted book) s → IsUnnamed book seen s
unnamed_words book seen s un i n e low at =
    let c = un i n (noted e) low (ap (λ (l : List Call). get_elem? l n) (calls_are i book) ∙ noted_at (calls i book) n e at) in (
      c.0,
      λ j near held. not_among s (input_of e) j record { slot = cell_slot (get_or e.words (2 * j + 1) 0); component = _; generation = _ } c.1
          (input_there e.words j near ∙ ap (λ (z : Cell). some z) (cell_held (get_or e.words (2 * j + 1) 0) (get_or e.words (2 * j + 2) 0) held)),
    )

-- more calls seen done
later : (book : List Entry) (seen more : List ℕ) (s : ℕ) → ((i : ℕ) → slice_index seen i ≤ slice_index more i) → IsUnnamed book seen s → IsUnnamed book more s
later book seen more s up un i n e low at = un i n e (let u = up i in omega arith) at

module _ (v : View) (p : Pool) (is : IsPoolOf v p) where
  pub is_unnamed : (s : ℕ) → named_in p s ≡ 0 → IsUnnamed v.book v.seen s
  is_unnamed s none =
      let h = is.holds in
      let c = h.called_is s in
      let w = ap (λ (l : List Name). times s (slots_of l)) h.waiting_is in
      later v.book p.seen.items v.seen s is.behind (unnamed_words v.book p.seen.items s (unnamed_at_zero s p.seen.items (map noted v.book) (omega arith)))

  pub last_is : (s : ℕ) → s < v.layout.slots → last_in p s ≡ length (issued s v.book)
  last_is s near = let e = is.slots in is.holds.last_is s (omega arith) ∙ as_many_issued s v.book

  -- the last generation of a slot that was given
  pub given_near : (s : ℕ) → 0 < last_in p s → s < v.layout.slots
  given_near s some_given = let n = within p.last.items s some_given in let l = is.holds.last_long in let e = is.slots in omega arith

  -- what the station asks for
  pub may_offer : (k : Key) (i : ℕ) (input : List Cell) (s : Slot) → v.layout ≡ k → CanOffer k v p i input s → MayOffer k v i input s
  may_offer k i input s key can =
      let slots = ap (λ (y : Key). y.slots) key in
      record {
        opened = can.opened;
        own = can.own;
        size = can.size;
        slot = can.slot;
        next = (let l = last_is s.slot (let c = can.slot in omega arith) in let n = can.next in omega arith);
        unnamed = is_unnamed s.slot can.unnamed;
        handles = λ j h at. (let c = can.handles j h at in let first = c.0 in let g = c.1 in let l = last_is h.slot (given_near h.slot (omega arith)) in (c.0, sym l ∙ sym g, c.2, c.3));
      }

-- the sizes of a layout
pub sizes_long : (sites : List Site) → length (sizes_of sites) ≡ length sites
sizes_long [] = refl
sizes_long (t ∷ ts) = let r = sizes_long ts in omega arith

pub size_is : (k : Key) (i : ℕ) → i < length k.sites → size_at (sizes_of k.sites) i ≡ size_of (site_at k i)
size_is k i near = in_list k.sites i near
  where
    in_list : (ts : List Site) (i : ℕ) → i < length ts → get_or (sizes_of ts) i no_size ≡ size_of (get_or ts i no_site)
    in_list [] i near = absurd (omega arith)
    in_list (t ∷ ts) zero near = refl
    in_list (t ∷ ts) (suc i) near = in_list ts i (omega arith)

pub room_push : (ts : List Size) (t : Size) → room_for (ts ++ t ∷ []) ≡ room_for ts + t.queue * t.names
room_push [] t = omega arith
room_push (x ∷ xs) t = let r = room_push xs t in omega arith

-- the call that was published, as a pool sees it
pub noted_is : (given : ℕ → List Sent → List ℕ) (book : List Entry) (i : ℕ) (reset : Bool) (input : List Cell) (s : Slot) (e : Entry) → IsCall given book i reset input s e → noted e ≡ record { instance = i; slot = s.slot; inputs = cell_slots input }
noted_is given book i reset input s e is = λ y. record { instance = is.instance y; slot = is.slot y; inputs = cell_slots (is.inputs y) }

pub noted_push : (book : List Entry) (e : Entry) → map noted (book ++ e ∷ []) ≡ map noted book ++ noted e ∷ []
noted_push book e = map-append noted book (e ∷ [])
