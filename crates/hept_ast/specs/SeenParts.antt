-- The parts of a node's text, each with what the blocks around it declare. The rules of names and types ask no more of what stands around.
use Rattle.std.specs.Prelude.{Bool, true, false, List, [], ◌∷◌, ◌++◌, map}
use Rattle.std.specs.List.{flat_map}
use Rattle.hept_ast.specs.Parts.{Surroundings, Body_of, Part, Placed, Transition, equation_case, locals_around, parts_of}
use Rattle.hept_ast.specs.Parts as parts
use Rattle.hept_ast.specs.InnerParts.{state_names}
use Rattle.hept_ast.specs.declared.tree.Block.{Block}
use Rattle.hept_ast.specs.declared.tree.Decl.{Decl}
use Rattle.hept_ast.specs.declared.tree.Equation.{Equation}
use Rattle.hept_ast.specs.declared.tree.State.{State}
use Rattle.hept_ast.specs.declared.tree.Escape.{Escape}
use Rattle.hept_ast.specs.declared.tree.Form.TheVariants as form

pub record SeenPart : Type 0 where
  -- what the blocks around it declare, the innermost first, without the node's own
  pub inner : List Decl
  pub part : Part

abbrev pub seen_in : Placed → SeenPart
seen_in q = record { inner = locals_around q.site; part = q.part }

-- a place inside one block that declares these
abbrev pub site_with : List Decl → Surroundings
site_with inner = Body_of (record { place = record { 0 = 0 }; form = form.Var [] }) inner ∷ []

-- an equation and all parts inside it, where the blocks around it declare these
abbrev pub seen_parts : List Decl → Equation → List SeenPart
seen_parts inner e = map seen_in (parts_of (site_with inner) e)

-- a block and all parts inside it
abbrev pub seen_block : List Decl → Block → List SeenPart
seen_block inner block = record { inner = block.locals ++ inner; part = parts.Block block.locals (map equation_case block.body) } ∷ flat_map (seen_parts (block.locals ++ inner)) block.body

abbrev pub seen_escapes : List Decl → Bool → List State → List Escape → List SeenPart
seen_escapes inner strong states es = map (λ e. record { inner = inner; part = Transition strong (state_names states) e }) es

-- a state of an automaton with these states, and all parts inside it
abbrev pub seen_state : List Decl → List State → State → List SeenPart
seen_state inner states q = seen_block inner q.block ++ seen_escapes (q.block.locals ++ inner) false states q.weak ++ seen_escapes inner true states q.strong
