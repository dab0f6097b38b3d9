-- A row that a line spells fits its shape.
use Rattle.std.proofs.Common.{◌≡◌, ℕ, ◌+◌, ◌^◌, ◌<◌, suc, true, false, cond, leb, List, [], ◌∷◌, length, drop, Option, Some, None, Result, Ok, Err, codes, sym, refl, ap, ◌∙◌, subst, arith}
use Rattle.std.specs.Prelude.{◌&&◌, ◌||◌}
use Rattle.std.specs.List.{list_all}
use Rattle.std.specs.Char.{is_ascii_digit}
use Rattle.std.specs.Str.{bytes_eq}
use Rattle.std.specs.Str.Parse.{digits_value, starts_with_minus}
use Rattle.std.proofs.lemmas.Bool.Decides.{nat_tests}
use Rattle.hept_ast.specs.Texts.{Name, same, is_in, place_in}
use Rattle.step_objects.specs.declared.shape.Values.{Values}
use Rattle.step_objects.specs.declared.shape.Values.TheVariants.{Numbers, Truths, Constructors}
use Rattle.step_cells.specs.declared.cell.Cell.{Cell}
use Rattle.step_objects.specs.Shapes.{FitsShape, value_count}
use Rattle.step_cells.specs.Cells.{cells_of}
use Rattle.trace_io.specs.RowText.{IsRow, Word, words_from, magnitude, negated, number_text, truth_text, position_of, word_value, with_value, row_from}
use Rattle.trace_io.specs.declared.row_text.RowFault.{RowFault}

-- every value that may be there is below a bound
abbrev Below : ℕ → Option ℕ → Type 0
Below n o = (v : ℕ) → o ≡ Some v → v < n

none_below : (n : ℕ) → Below n None
none_below n = λ v e. absurd cc

some_below : (n v : ℕ) → v < n → Below n (Some v)
some_below n v l = λ w e. let same : v ≡ w = cc in subst (λ (k : ℕ). k < n) same l

magnitude_below : (greatest : ℕ) (ds : List ℕ) → Below (greatest + 1) (magnitude greatest ds)
magnitude_below greatest [] = none_below (greatest + 1)
magnitude_below greatest (d ∷ ds) = (elim (leb (digits_value 10 (d ∷ ds)) greatest) as (λ b. leb (digits_value 10 (d ∷ ds)) greatest ≡ b → Below (greatest + 1) (cond (list_all is_ascii_digit (d ∷ ds) && b) (Some (digits_value 10 (d ∷ ds))) None)) [
  | true ↦ λ e. elim (list_all is_ascii_digit (d ∷ ds)) as (λ a. Below (greatest + 1) (cond (a && true) (Some (digits_value 10 (d ∷ ds))) None)) [
    | true ↦ some_below (greatest + 1) _ (grind (arith, nat_tests))
    | false ↦ none_below (greatest + 1)
  ]
  | false ↦ λ e. elim (list_all is_ascii_digit (d ∷ ds)) as (λ a. Below (greatest + 1) (cond (a && false) (Some (digits_value 10 (d ∷ ds))) None)) [
    | true ↦ none_below (greatest + 1)
    | false ↦ none_below (greatest + 1)
  ]
]) refl

negated_below : (o : Option ℕ) → Below (2 ^ 32) (negated o)
negated_below None = none_below (2 ^ 32)
negated_below (Some m) = some_below (2 ^ 32) _ (omega arith)

number_below : (bs : List ℕ) → Below (2 ^ 32) (number_text bs)
number_below bs = elim (starts_with_minus bs) as (λ b. Below (2 ^ 32) (cond b (negated (magnitude 2147483648 (drop 1 bs))) (magnitude 2147483647 bs))) [
  | true ↦ negated_below (magnitude 2147483648 (drop 1 bs))
  | false ↦ λ v e. omega (arith, magnitude_below 2147483647 bs v e)
]

truth_below : (bs : List ℕ) → Below 2 (truth_text bs)
truth_below bs = elim (bytes_eq bs (codes "false")) as (λ b. Below 2 (cond b (Some 0) (cond (bytes_eq bs (codes "true")) (Some 1) None))) [
  | true ↦ some_below 2 0 (omega arith)
  | false ↦ elim (bytes_eq bs (codes "true")) as (λ b. Below 2 (cond b (Some 1) None)) [ true ↦ some_below 2 1 (omega arith) | false ↦ none_below 2 ]
]

place_within : (x : Name) (names : List Name) → is_in x names ≡ true → place_in x names < length names
place_within x [] h = absurd cc
place_within x (y ∷ ys) h = (elim (same x y) as (λ b. same x y ≡ b → cond b 0 (place_in x ys + 1) < suc (length ys)) [
  | true ↦ λ e. omega arith
  | false ↦ λ e. omega (arith, place_within x ys (rest e))
]) refl
  where
    rest : same x y ≡ false → is_in x ys ≡ true
    rest e = sym (ap (λ b. b || is_in x ys) e) ∙ h

position_below : (bs : List ℕ) (names : List Name) → Below (length names) (position_of bs names)
position_below bs names = (elim (is_in bs names) as (λ b. is_in bs names ≡ b → Below (length names) (cond b (Some (place_in bs names)) None)) [
  | true ↦ λ e. some_below (length names) _ (place_within bs names e)
  | false ↦ λ e. none_below (length names)
]) refl

value_below : (t : Values) (bs : List ℕ) → Below (value_count t) (word_value t bs)
value_below Numbers bs = number_below bs
value_below Truths bs = truth_below bs
value_below (Constructors names) bs = position_below bs names

fits_with : (t : Values) (ts : List Values) (w : Word) (o : Option ℕ) (rest : Result (List ℕ) RowFault) → Below (value_count t) o → ((row : List ℕ) → rest ≡ Ok row → FitsShape ts (cells_of row)) →
    (row : List ℕ) → with_value w o rest ≡ Ok row → FitsShape (t ∷ ts) (cells_of row)
fits_with t ts w None rest b h row e = absurd cc
fits_with t ts w (Some v) (Err f) b h row e = absurd cc
fits_with t ts w (Some v) (Ok more) b h row e = let same : v ∷ more ≡ row = cc in subst (λ (row : List ℕ). FitsShape (t ∷ ts) (cells_of row)) same (b v refl, h more refl)

row_fits : (shape : List Values) (kept : ℕ) (ws : List Word) (row : List ℕ) → row_from shape kept ws ≡ Ok row → FitsShape shape (cells_of row)
row_fits [] kept [] row e = let same : [] ≡ row = cc in subst (λ (row : List ℕ). FitsShape [] (cells_of row)) same tt
row_fits [] kept (w ∷ ws) row e = absurd cc
row_fits (t ∷ ts) kept [] row e = absurd cc
row_fits (t ∷ ts) kept (w ∷ ws) row e = fits_with t ts w (word_value t w.bytes) (row_from ts (kept + 1) ws) (value_below t w.bytes) (row_fits ts (kept + 1) ws) row e

pub is_row_fits : (shape : List Values) (line : List ℕ) (cells : List Cell) → IsRow shape line cells → FitsShape shape cells
is_row_fits shape line cells (row, read, is) = subst (λ (cells : List Cell). FitsShape shape cells) (sym is) (row_fits shape 0 (words_from 0 line) row read)
