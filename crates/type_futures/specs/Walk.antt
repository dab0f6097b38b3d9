-- The faults of a text's parts, where what is seen around them is given.
use Rattle.std.specs.Prelude.{Bool, false, List, [], ◌++◌}
use Rattle.std.specs.List.{flat_map}
use Rattle.hept_ast.specs.Faults.{Fault, Judging, is_strong, part_faults}
use Rattle.hept_ast.specs.Parts.{Part}
use Rattle.hept_ast.specs.SeenParts.{SeenPart, seen_block, seen_escapes, seen_parts, seen_state}
use Rattle.hept_ast.specs.declared.tree.Block.{Block}
use Rattle.hept_ast.specs.declared.tree.Branch.{Branch}
use Rattle.hept_ast.specs.declared.tree.Decl.{Decl}
use Rattle.hept_ast.specs.declared.tree.Equation.{Equation}
use Rattle.hept_ast.specs.declared.tree.Escape.{Escape}
use Rattle.hept_ast.specs.declared.tree.Node.{Node}
use Rattle.hept_ast.specs.declared.tree.State.{State}
use Rattle.expression_types.specs.declared.scenes.NodeScene.{NodeScene}

-- the same node, where these are seen
abbrev pub judging_at : Judging → (seen : List Decl) → (strong : Bool) → Judging
judging_at w seen strong = record { types = w.types; nodes = w.nodes; node = w.node; seen = seen; strong = strong }

-- the faults of a part where these are seen
unfoldable pub faults_at : Judging → (seen : List Decl) → Part → List Fault
faults_at w seen part = part_faults (judging_at w seen (is_strong part)) part

abbrev pub seen_faults : Judging → SeenPart → List Fault
seen_faults w q = faults_at w q.inner q.part

-- the faults of an equation and of all parts inside it
unfoldable pub equation_faults : Judging → (seen : List Decl) → Equation → List Fault
equation_faults w seen e = flat_map (seen_faults w) (seen_parts seen e)

-- the faults of a block and of all parts inside it
unfoldable pub inner_faults : Judging → (seen : List Decl) → Block → List Fault
inner_faults w seen block = flat_map (seen_faults w) (seen_block seen block)

unfoldable pub branch_faults : Judging → (seen : List Decl) → Branch → List Fault
branch_faults w seen b = inner_faults w seen b.block

unfoldable pub escape_faults : Judging → (seen : List Decl) → (strong : Bool) → List State → List Escape → List Fault
escape_faults w seen strong states es = flat_map (seen_faults w) (seen_escapes seen strong states es)

-- the faults of a state of an automaton with these states, and of all parts inside it
unfoldable pub state_faults : Judging → (seen : List Decl) → List State → State → List Fault
state_faults w seen states q = flat_map (seen_faults w) (seen_state seen states q)

-- what is seen in a node's own block
abbrev pub own_decls : Node → List Decl
own_decls node = node.block.locals ++ node.outputs ++ node.inputs

-- what a node is judged by
abbrev pub around_judging : NodeScene → Judging
around_judging a = record { types = a.types.now; nodes = a.nodes.now; node = a.node.now; seen = []; strong = false }
