-- The faults of a node, by what it is judged by.
use Rattle.std.specs.Prelude.{Bool, not, ◌&&◌, List}
use Rattle.std.specs.List.{flat_map}
use Rattle.hept_ast.specs.Faults.{Fault, FutureKept, fault, part_faults, judging}
use Rattle.hept_ast.specs.Parts.{parts}
use Rattle.hept_ast.specs.Types.{is_plain}
use Rattle.hept_ast.specs.declared.tree.Decl.{Decl}
use Rattle.hept_ast.specs.declared.tree.Node.{Node}
use Rattle.hept_ast.specs.declared.tree.Program.{Program}
use Rattle.expression_types.specs.declared.scenes.NodeScene.{NodeScene}

-- the program that a node is judged in
abbrev pub program_of : NodeScene → Program
program_of a = record { types = a.types.now; nodes = a.nodes.now }

-- an output of future type, where an async call names the node
abbrev pub kept_output : (is_async : Bool) → Decl → List Fault
kept_output is_async d = fault d.place.0 FutureKept (not (is_plain d.ty) && is_async)

-- the faults of all parts of a node
unfoldable pub all_parts_faults : Program → Node → List Fault
all_parts_faults program node = flat_map (λ q. part_faults (judging program node q) q.part) (parts node)
