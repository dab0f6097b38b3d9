-- The types of the names on a left side.
use Rattle.std.specs.Prelude.{Bool, true, false, ◌&&◌, ◌||◌, not, List, [], ◌∷◌, is_some}
use Rattle.std.specs.List.{list_all}
use Rattle.std.specs.Option.{option_map_or}
use Rattle.hept_ast.specs.Parts.{declaration}
use Rattle.hept_ast.specs.Texts.{Name}
use Rattle.hept_ast.specs.Types.{same_type}
use Rattle.hept_ast.specs.declared.tree.Decl.{Decl}
use Rattle.hept_ast.specs.declared.tree.Ty.{Ty}

-- whether a variable is seen and has this type
abbrev pub has_type : (seen : List Decl) → Name → Ty → Bool
has_type seen x t = option_map_or (λ d. same_type d.ty t) (declaration seen x) false

-- whether there are as many types as names, each that of its name
abbrev pub have_types : (seen : List Decl) → List Name → List Ty → Bool
have_types seen [] [] = true
have_types seen (x ∷ xs) (t ∷ ts) = has_type seen x t && have_types seen xs ts
have_types seen _ _ = false

abbrev pub are_seen : (seen : List Decl) → List Name → Bool
are_seen seen xs = list_all (λ x. is_some (declaration seen x)) xs

-- whether some name is not seen, or the types are those of the names
abbrev pub fit_names : (seen : List Decl) → List Name → List Ty → Bool
fit_names seen xs ts = not (are_seen seen xs) || have_types seen xs ts
