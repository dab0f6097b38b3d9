-- The parts of a node's text without what stands around them. Rules that do not ask what is seen go over these.
use Rattle.std.specs.Prelude.{ℕ, Bool, true, false, List, [], ◌∷◌, ◌++◌, map}
use Rattle.std.specs.List.{flat_map}
use Rattle.hept_ast.specs.Texts.{Name}
use Rattle.hept_ast.specs.Parts.{Part, Placed, Transition, equation_case, state_case, parts_of, inside, expressions_of, declared_in}
use Rattle.hept_ast.specs.Parts as parts
use Rattle.hept_ast.specs.declared.tree.Block.{Block}
use Rattle.hept_ast.specs.declared.tree.Decl.{Decl}
use Rattle.hept_ast.specs.declared.tree.Expr.{Expr}
use Rattle.hept_ast.specs.declared.tree.Equation.{Equation}
use Rattle.hept_ast.specs.declared.tree.State.{State}
use Rattle.hept_ast.specs.declared.tree.Escape.{Escape}

abbrev pub part_in : Placed → Part
part_in q = q.part

-- an equation and all parts inside it
abbrev pub inner_parts : Equation → List Part
inner_parts e = map part_in (parts_of [] e)

-- a block and all parts inside it
abbrev pub parts_of_block : Block → List Part
parts_of_block block = parts.Block block.locals (map equation_case block.body) ∷ flat_map inner_parts block.body

abbrev pub state_names : List State → List Name
state_names states = map (λ c. c.label) (map state_case states)

abbrev pub escape_parts : Bool → List State → List Escape → List Part
escape_parts strong states es = map (Transition strong (state_names states)) es

-- a state of an automaton with these states, and all parts inside it
abbrev pub parts_of_state : List State → State → List Part
parts_of_state states q = parts_of_block q.block ++ escape_parts false states q.weak ++ escape_parts true states q.strong

-- all expressions of a part
abbrev pub expressions_in : Part → List Expr
expressions_in q = flat_map inside (expressions_of q)

-- a declared name with its place
abbrev pub decl_label : Decl → ℕ × Name
decl_label d = (d.place.0, d.name)

-- what a part declares, with the places
abbrev pub declared_labels : Part → List (ℕ × Name)
declared_labels q = map decl_label (declared_in q)
