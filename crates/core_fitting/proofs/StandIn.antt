-- A node of a core in the place of a program's: its variables stand as inputs, so that they are seen and own with nothing around.
use Rattle.std.specs.Prelude.{[], map}
use Rattle.hept_ast.specs.Initial.{Grades}
use Rattle.hept_ast.specs.declared.tree.Core.{Core}
use Rattle.hept_ast.specs.declared.tree.CoreNode.{CoreNode}
use Rattle.hept_ast.specs.declared.tree.Node.{Node}
use Rattle.core_rules.specs.Cores.{as_equation, as_interface, core_clock, core_decls}
use Rattle.sound_expressions.specs.Sound.{Within}

abbrev pub stand_in : CoreNode → Node
stand_in node = record { place = record { 0 = 0 }; name = node.name; inputs = core_decls node; outputs = []; block = record { locals = []; body = map as_equation node.equations } }

abbrev pub program_within : Core → CoreNode → Grades → Within
program_within core node g = record { types = core.types; nodes = map as_interface core.nodes; node = stand_in node; clock = core_clock node; grade = g }
