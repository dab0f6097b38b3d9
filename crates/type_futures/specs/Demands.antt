-- What is demanded of the types of scrutinees and conditions.
use Rattle.std.specs.Prelude.{Bool, false, List, [], ◌∷◌, Option, None, Some}
use Rattle.hept_ast.specs.Types.{has_tags}
use Rattle.hept_ast.specs.declared.tree.Ty.{Ty}
use Rattle.declared_types.specs.Types.{only}

-- the one type, where there are types
abbrev pub only_of : Option (List Ty) → Option Ty
only_of None = None
only_of (Some ts) = only ts

-- one type with tags
abbrev pub has_branches : List Ty → Bool
has_branches (t ∷ []) = has_tags t
has_branches _ = false
