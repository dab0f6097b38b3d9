-- What the static facts of a well-formed core give.
use Rattle.hept_ast.specs.Texts.{Name}
use Rattle.hept_ast.specs.TypedValues.{RowsFit}
use Rattle.hept_ast.specs.declared.tree.Core.{Core}
use Rattle.hept_ast.specs.declared.tree.CoreNode.{CoreNode}
use Rattle.std.specs.Prelude.{[]}
use Rattle.core_rules.specs.WellFormed.{IsWellFormed}
use Rattle.core_facts.specs.Undefined.{Grades}
use Rattle.core_facts.specs.Static.{StaticCore}
use Rattle.schedule.specs.Order.{IsOrdered}
use Rattle.core_fitting.specs.Sound.{IsNamed, SoundCore, within}
use Rattle.core_fitting.specs.Holding.{RepliesFit, Run, types_in}
use Rattle.core_fitting.specs.Laws.{IsFitRun}

abbrev pub StaticIsSound : Type 0
StaticIsSound = (core : Core) → IsWellFormed core → StaticCore core → SoundCore core

-- the premises of the laws, by the short facts
abbrev pub StaticFits : Type 0
StaticFits = (r : Run) (f : Name) (node : CoreNode) → IsOrdered r.core → StaticCore r.core → IsNamed r.core f node → RowsFit (types_in r) node.inputs r.rows → RepliesFit r node [] →
    (g : Grades) × IsFitRun r (within f node g)
