-- What keeps the static facts of a core, and a core that has them.
use Rattle.hept_ast.specs.Reordering.{Reordering}
use Rattle.hept_ast.specs.declared.tree.Core.{Core}
use Rattle.core_rules.specs.WellFormed.{sum_core}
use Rattle.core_facts.specs.Static.{StaticCore}

-- another order of the equations, with the same grades
abbrev pub OrderKeepsStatic : Type 0
OrderKeepsStatic = (core other : Core) → Reordering core other → StaticCore core → StaticCore other

-- the core of one node that sums its inputs
abbrev pub SumIsStatic : Type 0
SumIsStatic = StaticCore sum_core
