-- Which paths lead to blocks inside nodes.
use Rattle.std.specs.Prelude.{◌≡◌, Bool, true, false, List, [], ◌∷◌}
use Rattle.hept_ast.specs.Texts.{Name}
use Rattle.hept_ast.specs.Scopes.{Scope, home}
use Rattle.answer_table.specs.declared.paths.Step.{Step}
use Rattle.answer_table.specs.declared.paths.Step.TheVariants as way
use Rattle.answer_table.specs.declared.answers.Answers.{Answers}
use Rattle.answer_table.specs.Things.{In}
use Rattle.answer_table.specs.Tables.{Declares, thing_in}

-- a step into a block inside a node
abbrev pub is_inner_step : Step → Bool
is_inner_step (way.Branch i j) = true
is_inner_step (way.Body i) = true
is_inner_step (way.State i k) = true
is_inner_step _ = false

-- the last step is one into a block inside a node; b is for no steps
abbrev pub ends_inner_or : Bool → List Step → Bool
ends_inner_or b [] = b
ends_inner_or b (x ∷ xs) = ends_inner_or (is_inner_step x) xs

abbrev pub ends_inner : List Step → Bool
ends_inner path = ends_inner_or false path

-- where a path leads to a scope, that scope is the home of the name if b is true, and if not, it is a block inside a node
abbrev pub IsOwnHome : Answers → List Step → Name → (b : Bool) → Type 0
IsOwnHome s path x true = (scope : Scope) → thing_in s path ≡ In scope → home x scope ≡ scope
IsOwnHome s path x false = (ends_inner path ≡ true) × Declares s path x false
