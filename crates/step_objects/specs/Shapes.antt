-- The values that the cells of a row may have.
use Rattle.std.specs.Prelude.{ℕ, ◌<◌, ◌≤◌, ◌^◌, Bool, ◌&&◌, List, [], ◌∷◌, map, length, ⊤}
use Rattle.hept_ast.specs.Types.{is_plain, type_is_known, constructors_of}
use Rattle.hept_ast.specs.declared.tree.TypeDec.{TypeDec}
use Rattle.hept_ast.specs.declared.tree.Decl.{Decl}
use Rattle.hept_ast.specs.declared.tree.Ty.{Ty}
use Rattle.hept_ast.specs.declared.tree.Ty.TheVariants as ty
use Rattle.hept_ast.specs.declared.tree.Plain.{Plain}
use Rattle.hept_ast.specs.declared.tree.Plain.TheVariants.{Int, Bool as Truth, Named}
use Rattle.step_objects.specs.declared.shape.Values.{Values}
use Rattle.step_objects.specs.declared.shape.Values.TheVariants.{Numbers, Truths, Constructors}
use Rattle.step_cells.specs.declared.cell.Cell.{Cell}
use Rattle.step_cells.specs.declared.cell.Cell.TheVariants.{Value, Ready, Held}

-- a declaration of a plain type that is declared
abbrev pub is_declared_plain : List TypeDec → Decl → Bool
is_declared_plain types d = is_plain d.ty && type_is_known types d.ty

abbrev pub values_of_plain : List TypeDec → Plain → Values
values_of_plain types Int = Numbers
values_of_plain types Truth = Truths
values_of_plain types (Named t) = Constructors (constructors_of types t)

-- the values of a type, or of what a future is of
abbrev pub values_of : List TypeDec → Ty → Values
values_of types (ty.Plain t) = values_of_plain types t
values_of types (ty.Future t) = values_of_plain types t

abbrev pub shape_of : List TypeDec → List Decl → List Values
shape_of types ds = map (λ d. values_of types d.ty) ds

-- how many values there are
abbrev pub value_count : Values → ℕ
value_count Numbers = 2 ^ 32
value_count Truths = 2
value_count (Constructors cs) = length cs

-- every value is below 2 ^ 32
abbrev pub IsCountable : Values → Type 0
IsCountable values = value_count values ≤ 2 ^ 32

-- the lists of constructors of all types have fewer than 2 ^ 32 elements
abbrev pub HasFewConstructors : TypeDec → Type 0
HasFewConstructors d = length d.constructors < 2 ^ 32

-- the cell holds a value of these
abbrev pub IsValueOf : Values → Cell → Type 0
IsValueOf values (Value v) = v < value_count values
IsValueOf values (Ready v) = ⊥
IsValueOf values (Held h) = ⊥

-- a row of cells fits a shape: one cell for each of its types, which holds a value of it
abbrev pub FitsShape : List Values → List Cell → Type 0
FitsShape [] [] = ⊤
FitsShape [] (c ∷ cs) = ⊥
FitsShape (t ∷ ts) [] = ⊥
FitsShape (t ∷ ts) (c ∷ cs) = IsValueOf t c × FitsShape ts cs
