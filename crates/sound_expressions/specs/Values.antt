-- The values of constants and tags, by the types that are declared.
use Rattle.std.specs.Prelude.{◌≡◌, ◌==◌, ℕ, ◌<◌, true, List, Contains, Some, map}
use Rattle.std.specs.List.{find, flat_map}
use Rattle.hept_ast.specs.Texts.{const_value, tag_value}
use Rattle.hept_ast.specs.Types.{Plain_type, has_tags, type_of_const}
use Rattle.hept_ast.specs.declared.tree.Const.{Const as Constant}
use Rattle.hept_ast.specs.declared.tree.MergeBranch.{MergeBranch}
use Rattle.hept_ast.specs.declared.tree.TypeDec.{TypeDec}
use Rattle.hept_ast.specs.declared.tree.Ty.{Ty}
use Rattle.hept_ast.specs.TypedValues.{FitsConst, IsValueOf, plain_count}
use Rattle.sound_expressions.specs.Sound.{AreAllTags, branch_tags}
use Rattle.sound_expressions.specs.Demands.{NamesDiffer}

-- where types have different names, a constant is a value of its type
abbrev pub ConstantsFit : Type 0
ConstantsFit = (types : List TypeDec) → NamesDiffer (map (λ d. d.name) types) → (v : Constant) (t : Plain_type) → FitsConst v → type_of_const types v ≡ Some t → const_value types v < plain_count types t

-- where constructors have different names, a merge that has all tags of a type has a branch for each of its values
abbrev pub MergesHaveBranches : Type 0
MergesHaveBranches = (types : List TypeDec) → NamesDiffer (flat_map (λ d. d.constructors) types) →
    (t : Ty) (v : ℕ) (branches : List MergeBranch) → has_tags t ≡ true → AreAllTags types t (branch_tags branches) → IsValueOf types t v →
    (b : MergeBranch) × (find (λ m. tag_value types m.tag == v) branches ≡ Some b) × Contains branches b × (tag_value types b.tag ≡ v)
