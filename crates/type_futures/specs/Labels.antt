-- Names with their places.
use Rattle.std.specs.Prelude.{ℕ, List, [], ◌++◌, map}
use Rattle.std.specs.List.{flat_map}
use Rattle.hept_ast.specs.Texts.{Name, same}
use Rattle.hept_ast.specs.Faults.{Fault, seconds}
use Rattle.hept_ast.specs.declared.tree.Program.{Program}
use Rattle.hept_ast.specs.declared.tree.TypeDec.{TypeDec}
use Rattle.hept_ast.specs.declared.tree.Node.{Node}
use Rattle.earliest_fault.specs.Labels.{names_at}

abbrev pub type_label : TypeDec → ℕ × Name
type_label t = (t.place.0, t.name)

abbrev pub node_label : Node → ℕ × Name
node_label n = (n.place.0, n.name)

-- the constructors of a type, at the place of its declaration
abbrev pub constructor_labels : TypeDec → List (ℕ × Name)
constructor_labels t = names_at t.place.0 t.constructors

-- second declarations of types, of constructors and of nodes
abbrev pub second_declarations : Program → List Fault
second_declarations program =
    seconds same [] (map type_label program.types) ++ seconds same [] (flat_map constructor_labels program.types) ++ seconds same [] (map node_label program.nodes)
