-- Values of types, and rows that fit declarations. A future's value is one of its plain type.
use Rattle.std.specs.Prelude.{FitsSigned, All, ◌≡◌, ℕ, ◌^◌, ◌<◌, ⊤, List, [], ◌∷◌, length}
use Rattle.std.specs.Int.{w32}
use Rattle.hept_ast.specs.Types.{Plain_type, constructors_of}
use Rattle.hept_ast.specs.declared.tree.Const.{Const as Constant}
use Rattle.hept_ast.specs.declared.tree.Const.TheVariants.{Number}
use Rattle.hept_ast.specs.declared.tree.TypeDec.{TypeDec}
use Rattle.hept_ast.specs.declared.tree.Decl.{Decl}
use Rattle.hept_ast.specs.declared.tree.Ty.{Ty}
use Rattle.hept_ast.specs.declared.tree.Ty.TheVariants as ty
use Rattle.hept_ast.specs.declared.tree.Plain.TheVariants.{Int, Bool as Truth_value, Named}

-- how many values a type has
abbrev pub plain_count : List TypeDec → Plain_type → ℕ
plain_count types Int = 2 ^ 32
plain_count types Truth_value = 2
plain_count types (Named t) = length (constructors_of types t)

abbrev pub value_count : List TypeDec → Ty → ℕ
value_count types (ty.Plain t) = plain_count types t
value_count types (ty.Future t) = plain_count types t

abbrev pub IsValueOf : List TypeDec → Ty → ℕ → Type 0
IsValueOf types t v = v < value_count types t

-- a number has 32 bits
abbrev pub FitsConst : Constant → Type 0
FitsConst (Number z) = FitsSigned w32 z
FitsConst _ = Unit {0}

-- one value for each type
abbrev pub AreValuesOf : List TypeDec → List Ty → List ℕ → Type 0
AreValuesOf types [] [] = ⊤
AreValuesOf types (t ∷ ts) (v ∷ vs) = IsValueOf types t v × AreValuesOf types ts vs
AreValuesOf types _ _ = ⊥

-- one value for each declaration
abbrev pub RowFits : List TypeDec → List Decl → List ℕ → Type 0
RowFits types [] [] = ⊤
RowFits types (d ∷ ds) (v ∷ vs) = IsValueOf types d.ty v × RowFits types ds vs
RowFits types _ _ = ⊥

abbrev pub RowsFit : List TypeDec → List Decl → List (List ℕ) → Type 0
RowsFit types ds [] = ⊤
RowsFit types ds (row ∷ rows) = RowFits types ds row × RowsFit types ds rows

-- each type that is declared has a constructor
abbrev pub HaveConstructors : List TypeDec → Type 0
HaveConstructors types = All (λ d. d.constructors ≡ [] → ⊥) types
