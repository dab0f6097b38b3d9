-- Conditions of clocks as equations of terms: variables and expressions by numbers, and steps by numbers.
use Rattle.std.specs.Prelude.{◌≡◌, ℕ, ◌+◌, Bool, true, ◌&&◌, List, [], ◌∷◌, ◌++◌, length, map, position, unwrap_or, slice_index_or, Some, None, ⊤, All}
use Rattle.std.specs.List.{list_any}
use Rattle.hept_ast.specs.Texts.{Name, same}
use Rattle.hept_ast.specs.Types.{same_tag}
use Rattle.hept_ast.specs.Clocks as clocks
use Rattle.hept_ast.specs.Clocks.{Base, Of, Inner, On, Condition}
use Rattle.hept_ast.specs.declared.tree.ClockStep.{ClockStep}
use Rattle.hept_ast.specs.Scopes.{Clock}
use Rattle.hept_ast.specs.declared.tree.Tag.TheVariants as tag
use Rattle.clock_calculus.specs.Unify.{Bindings, IsWithin, base_path, least}
use Rattle.clock_calculus.specs.Solving.{Equation}
use Rattle.clock_calculus.specs.Written.{condition_of}
use Rattle.clock_calculus.specs.declared.conditions.Step.{Step}
use Rattle.clock_calculus.specs.declared.conditions.Condition as written
use Rattle.clock_calculus.specs.declared.numbers.Numbers.{Numbers}
use Rattle.clock_calculus.specs.declared.unify.Term.{Term}

abbrev pub same_step : ClockStep → ClockStep → Bool
same_step s t = same_tag s.tag t.tag && same s.name t.name

abbrev pub step_of : Step → ClockStep
step_of s = record { tag = s.tag.now; name = s.name.now }

abbrev pub names_of : Numbers → List Name
names_of n = map (λ r. r.now) n.names.items

abbrev pub steps_of : Numbers → List ClockStep
steps_of n = map step_of n.steps.items

-- the number of a step
abbrev pub step_number : List ClockStep → ClockStep → ℕ
step_number steps s = unwrap_or (position (same_step s) steps) 0

-- a term with numbers: declared variables come first, then the expressions; a name that is not declared stands for the base clock
unfoldable pub encoded : List Name → List ClockStep → clocks.Term → Term
encoded names steps Base = record { base = None; steps = [] }
encoded names steps (Of x) = record { base = position (same x) names; steps = [] }
encoded names steps (Inner n) = record { base = Some (length names + n); steps = [] }
encoded names steps (On t tag x) = record { base = (encoded names steps t).base; steps = (encoded names steps t).steps ++ step_number steps (record { tag = tag; name = x }) ∷ [] }

abbrev pub equation_of : List Name → List ClockStep → Condition → Equation
equation_of names steps c = record { place = c.place; left = encoded names steps c.left; right = encoded names steps c.right }

abbrev pub equations_of : Numbers → List written.Condition → List Equation
equations_of n cs = map (λ c. equation_of (names_of n) (steps_of n) (condition_of c)) cs

-- the unknowns of a condition are numbered
abbrev pub IsNumbered : ℕ → List Name → List ClockStep → Condition → Type 0
IsNumbered unknowns names steps c = IsWithin unknowns (encoded names steps c.left).base × IsWithin unknowns (encoded names steps c.right).base

-- the step of a term is one of these
abbrev pub KnowsStep : List ClockStep → clocks.Term → Type 0
KnowsStep steps Base = ⊤
KnowsStep steps (Of x) = ⊤
KnowsStep steps (Inner n) = ⊤
KnowsStep steps (On t tag x) = KnowsStep steps t × (list_any (same_step (record { tag = tag; name = x })) steps ≡ true)

abbrev pub AreStepsOf : List ClockStep → List Condition → Type 0
AreStepsOf steps cs = All (λ c. KnowsStep steps c.left × KnowsStep steps c.right) cs

-- the step of a number, and the clock of a path of numbers
abbrev pub step_at : List ClockStep → ℕ → ClockStep
step_at steps i = slice_index_or steps i (record { tag = tag.Truth true; name = [] })

abbrev pub clock_path : List ClockStep → List ℕ → Clock
clock_path steps p = map (step_at steps) p

-- the clock of a variable under bindings; a name without a number is on the base clock
unfoldable pub solved_clock : List Name → List ClockStep → Bindings → Name → Clock
solved_clock names steps b x = clock_path steps (base_path (least b) (position (same x) names))

-- steps that are known stay known
abbrev pub IsKnownToo : (old new : List ClockStep) → Type 0
IsKnownToo old new = (s : ClockStep) → list_any (same_step s) old ≡ true → list_any (same_step s) new ≡ true
