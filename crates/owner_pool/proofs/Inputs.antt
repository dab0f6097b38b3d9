-- The slots of the futures among the inputs, in a pass through them.
use Rattle.std.proofs.Common.{◌≡◌, ℕ, zero, suc, ◌+◌, ◌<◌, List, [], ◌∷◌, ◌++◌, length, get_or, take, drop, sym, refl, ap, ◌∙◌, arith, append_assoc, append-nil}
use Rattle.std.proofs.lemmas.List.{map-append, take_more, drop_more}
use mathlib.Core.Option.{some}
use lib.ListN.{get_elem?}
use Rattle.step_cells.specs.declared.cell.Handle.{Handle}
use Rattle.step_cells.specs.declared.cell.Cell.{Cell}
use Rattle.step_cells.specs.declared.cell.Cell.TheVariants.{Value, Ready, Held}
use Rattle.owner_pool.specs.declared.pool.Name.{Name}
use Rattle.owner_pool.specs.Noting.{cell_slots, named_by}

slots-append : (xs ys : List Cell) → cell_slots (xs ++ ys) ≡ cell_slots xs ++ cell_slots ys
slots-append [] ys = refl
slots-append (Value v ∷ xs) ys = slots-append xs ys
slots-append (Ready v ∷ xs) ys = slots-append xs ys
slots-append (Held h ∷ xs) ys = ap (λ (l : List ℕ). h.slot ∷ l) (slots-append xs ys)

module _ (cells : List Cell) (k : ℕ) (near : k < length cells) where
  taken : (c : Cell) → get_or cells k (Value 0) ≡ c → cell_slots (take (k + 1) cells) ≡ cell_slots (take k cells) ++ cell_slots (c ∷ [])
  taken c is = ap cell_slots (take_more cells k (Value 0) near ∙ ap (λ (x : Cell). take k cells ++ x ∷ []) is) ∙ slots-append (take k cells) (c ∷ [])

  left : (c : Cell) → get_or cells k (Value 0) ≡ c → cell_slots (drop k cells) ≡ cell_slots (c ∷ drop (k + 1) cells)
  left c is = ap cell_slots (drop_more cells k (Value 0) near ∙ ap (λ (x : Cell). x ∷ drop (k + 1) cells) is)

  pub left_plain : (c : Cell) → get_or cells k (Value 0) ≡ c → cell_slots (c ∷ []) ≡ [] → cell_slots (take (k + 1) cells) ≡ cell_slots (take k cells)
  left_plain c is none = taken c is ∙ (ap (λ (l : List ℕ). cell_slots (take k cells) ++ l) none ∙ append-nil (cell_slots (take k cells)))

  pub value_left : (v : ℕ) → get_or cells k (Value 0) ≡ Value v → length (cell_slots (drop k cells)) ≡ length (cell_slots (drop (k + 1) cells))
  value_left v is = ap length (left (Value v) is)

  pub ready_left : (v : ℕ) → get_or cells k (Value 0) ≡ Ready v → length (cell_slots (drop k cells)) ≡ length (cell_slots (drop (k + 1) cells))
  ready_left v is = ap length (left (Ready v) is)

  pub held_left : (h : Handle) → get_or cells k (Value 0) ≡ Held h → length (cell_slots (drop k cells)) ≡ 1 + length (cell_slots (drop (k + 1) cells))
  held_left h is = let e = ap length (left (Held h) is) in omega arith

  pub held_taken : (h : Handle) → get_or cells k (Value 0) ≡ Held h → cell_slots (take (k + 1) cells) ≡ cell_slots (take k cells) ++ h.slot ∷ []
  held_taken h is = taken (Held h) is

-- the names so far
pub more_names : (w0 w : List Name) (i n s : ℕ) (xs ys : List ℕ) (z : ℕ) → ys ≡ xs ++ z ∷ [] → w ≡ w0 ++ named_by i n (s ∷ xs) → w ++ record { instance = i; number = n; slot = z } ∷ [] ≡ w0 ++ named_by i n (s ∷ ys)
more_names w0 w i n s xs ys z more is =
    ap (λ (l : List Name). l ++ record { instance = i; number = n; slot = z } ∷ []) is
    ∙ (append_assoc w0 (named_by i n (s ∷ xs)) (record { instance = i; number = n; slot = z } ∷ [])
    ∙ ap (λ (l : List Name). w0 ++ l) (sym (map-append (λ (a : ℕ). record { instance = i; number = n; slot = a }) (s ∷ xs) (z ∷ [])) ∙ ap (λ (l : List ℕ). named_by i n (s ∷ l)) (sym more)))

pub at_held : (cells : List Cell) (k : ℕ) (c : Cell) → k < length cells → get_or cells k (Value 0) ≡ c → get_elem? cells k ≡ some c
at_held [] k c near is = absurd (omega arith)
at_held (x ∷ cells) zero c near is = ap (λ (y : Cell). some y) is
at_held (x ∷ cells) (suc k) c near is = at_held cells k c (omega arith) is
