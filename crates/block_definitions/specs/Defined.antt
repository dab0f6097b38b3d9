-- The faults of a block's definitions, of branches and of states, by what is seen there.
use Rattle.std.specs.Prelude.{ℕ, Bool, not, ◌&&◌, List, [], ◌++◌, map, is_some}
use Rattle.std.specs.List.{list_any, flat_map}
use Rattle.std.specs.Option.{option_and_then}
use Rattle.hept_ast.specs.Texts.{Name, is_in, names}
use Rattle.hept_ast.specs.Parts.{Case, declaration, equation_case, sets_of}
use Rattle.hept_ast.specs.Faults.{Fault, UnknownName, Duplicate, NotDefined, fault, second_definitions}
use Rattle.hept_ast.specs.declared.tree.TypeDec.{TypeDec}
use Rattle.hept_ast.specs.declared.tree.Decl.{Decl}
use Rattle.hept_ast.specs.declared.tree.Equation.{Equation}
use Rattle.hept_ast.specs.declared.tree.Branch.{Branch}
use Rattle.hept_ast.specs.declared.tree.State.{State}
use Rattle.hept_ast.specs.declared.tree.Tag.{Tag}
use Rattle.declared_types.specs.Typing.{decl_faults_by}

-- a declared variable that is none of those that equations define
abbrev pub undefined_fault : (sets : List Name) → Decl → List Fault
undefined_fault sets d = fault d.place.0 NotDefined (not (is_in d.name sets))

-- an equation that defines what one before it does
abbrev pub again_fault : (earlier : List Name) → Case (Unit {0}) → List Fault
again_fault earlier c = fault c.place Duplicate (list_any (λ x. is_in x earlier) c.sets)

-- the faults of a block that declares these and has these equations
abbrev pub block_faults : List TypeDec → List Decl → List Equation → List Fault
block_faults types ds body =
    flat_map (decl_faults_by types) ds ++ flat_map (undefined_fault (flat_map sets_of body)) ds ++ second_definitions [] (map equation_case body)

-- a name on a left side
abbrev pub left_faults_by : (inputs seen : List Decl) → ℕ → Name → List Fault
left_faults_by inputs seen p x = fault p UnknownName (not (is_some (declaration seen x))) ++ fault p Duplicate (is_in x (names inputs))

-- whether a variable is declared with `last`
abbrev pub last_in : List Decl → Name → Bool
last_in seen x = is_some (option_and_then (λ d. d.init) (declaration seen x))

-- a variable that a branch or state that defines these does not define, and that has no `last`
abbrev pub is_gap : (seen : List Decl) → (own : List Name) → Name → Bool
is_gap seen own x = not (is_in x own) && not (last_in seen x)

-- a branch or state that does not define what another does
abbrev pub block_gap : (seen : List Decl) → (all : List Name) → ℕ → (own : List Name) → List Fault
block_gap seen all p own = fault p NotDefined (list_any (is_gap seen own) all)

abbrev pub gaps_in : {A : Type 0} → (seen : List Decl) → List (Case A) → List Fault
gaps_in seen cases = flat_map (λ c. block_gap seen (flat_map (λ d. d.sets) cases) c.place c.sets) cases

-- the tag of a branch, with its place
abbrev pub tag_label : Branch → ℕ × Tag
tag_label b = (b.place.0, b.tag)

-- the name of a state, with its place
abbrev pub state_label : State → ℕ × Name
state_label q = (q.place.0, q.name)
