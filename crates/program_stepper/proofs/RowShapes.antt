-- The rows of a program's inputs and outputs.
use Rattle.std.proofs.Common.{◌≡◌, ℕ, ◌<◌, List, [], ◌∷◌, length, All, refl, sym, ap, ◌∙◌, subst, arith}
use Rattle.std.proofs.lemmas.List.{length-map}
use Rattle.hept_ast.specs.declared.tree.TypeDec.{TypeDec}
use Rattle.hept_ast.specs.declared.tree.Decl.{Decl}
use Rattle.hept_ast.specs.declared.tree.Ty.{Ty}
use Rattle.hept_ast.specs.declared.tree.Ty.TheVariants as ty
use Rattle.hept_ast.specs.declared.tree.Plain.TheVariants.{Int, Bool as Truth, Named}
use Rattle.hept_ast.specs.TypedValues.{RowFits}
use Rattle.hept_ast.specs.TypedValues as typed
use Rattle.step_objects.specs.declared.shape.Values.{Values}
use Rattle.step_cells.specs.declared.cell.Cell.{Cell}
use Rattle.step_cells.specs.declared.cell.Cell.TheVariants.{Value, Ready, Held}
use Rattle.step_cells.specs.Cells.{cells_of, row_of}
use Rattle.step_plans.specs.Books.{IsNoHandle}
use Rattle.step_objects.specs.Shapes.{FitsShape, IsValueOf, shape_of, value_count, values_of}
use Rattle.std.proofs.lemmas.List.Elements.{All-cons, All-nil}

pub shape_length : (types : List TypeDec) (ds : List Decl) (shape : List Values) → shape ≡ shape_of types ds → length shape ≡ length ds
shape_length types ds shape e = ap length e ∙ length-map ds (λ (d : Decl). values_of types d.ty)

pub fits_length : (shape : List Values) (cells : List Cell) → FitsShape shape cells → length cells ≡ length shape
fits_length [] [] h = refl
fits_length [] (c ∷ cs) h = absurd h
fits_length (t ∷ ts) [] h = absurd h
fits_length (t ∷ ts) (c ∷ cs) h = let e : length cs ≡ length ts = fits_length ts cs h.1 in omega arith

-- a row that fits, under equal shapes and cells
pub fitting_row : (shape inputs : List Values) (cells row : List Cell) → shape ≡ inputs → row ≡ cells → FitsShape shape cells → FitsShape inputs row
fitting_row shape inputs cells row e f h = subst (λ (s : List Values). FitsShape s row) e (subst (λ (cs : List Cell). FitsShape shape cs) (sym f) h)

is_no_handle : (values : Values) (c : Cell) → IsValueOf values c → IsNoHandle c
is_no_handle values (Value v) h = tt
is_no_handle values (Ready v) h = tt
is_no_handle values (Held g) h = absurd h

-- cells of plain values hold no handle
pub no_handles : (shape : List Values) (cells : List Cell) → FitsShape shape cells → All IsNoHandle cells
no_handles [] [] h = All-nil IsNoHandle
no_handles [] (c ∷ cs) h = absurd h
no_handles (t ∷ ts) [] h = absurd h
no_handles (t ∷ ts) (c ∷ cs) h = All-cons IsNoHandle c cs (is_no_handle t c h.0) (no_handles ts cs h.1)

-- ---- values of types

counts : (types : List TypeDec) (t : Ty) → value_count (values_of types t) ≡ typed.value_count types t
counts types (ty.Plain Int) = refl
counts types (ty.Plain Truth) = refl
counts types (ty.Plain (Named t)) = refl
counts types (ty.Future Int) = refl
counts types (ty.Future Truth) = refl
counts types (ty.Future (Named t)) = refl

-- the values of a row that fits a shape are those of the declarations' types, and the other way round
pub row_fits : (types : List TypeDec) (ds : List Decl) (cells : List Cell) → FitsShape (shape_of types ds) cells → RowFits types ds (row_of cells)
row_fits types [] [] h = tt
row_fits types [] (c ∷ cs) h = absurd h
row_fits types (d ∷ ds) [] h = absurd h
row_fits types (d ∷ ds) (Value v ∷ cs) h = (subst (λ (n : ℕ). v < n) (counts types d.ty) h.0, row_fits types ds cs h.1)
row_fits types (d ∷ ds) (Ready v ∷ cs) h = absurd h.0
row_fits types (d ∷ ds) (Held g ∷ cs) h = absurd h.0

pub cells_fit : (types : List TypeDec) (ds : List Decl) (vs : List ℕ) → RowFits types ds vs → FitsShape (shape_of types ds) (cells_of vs)
cells_fit types [] [] h = tt
cells_fit types [] (v ∷ vs) h = absurd h
cells_fit types (d ∷ ds) [] h = absurd h
cells_fit types (d ∷ ds) (v ∷ vs) h = (subst (λ (n : ℕ). v < n) (sym (counts types d.ty)) h.0, cells_fit types ds vs h.1)
