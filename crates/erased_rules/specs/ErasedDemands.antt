-- Erasure keeps the demands that no value is undefined.
use Rattle.std.specs.Prelude.{◌≡◌, []}
use Rattle.hept_ast.specs.Initial.{Grades, unmet_in, IsInitialised}
use Rattle.hept_ast.specs.Erasure.{erased_node, erased}
use Rattle.hept_ast.specs.declared.tree.Node.{Node}
use Rattle.hept_ast.specs.declared.tree.Program.{Program}

-- grades that meet all demands of a node meet those of the erased node
abbrev pub ErasedKeepsDemands : Type 0
ErasedKeepsDemands = (g : Grades) (n : Node) → unmet_in g n ≡ [] → unmet_in g (erased_node n) ≡ []

-- a program that reads no undefined value has an erasure that reads none
abbrev pub ErasedKeepsInitialised : Type 0
ErasedKeepsInitialised = (p : Program) → IsInitialised p → IsInitialised (erased p)
