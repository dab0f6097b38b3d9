-- Flat cores in order, and the nodes that plans are built of.
use Rattle.std.specs.Prelude.{length}
use Rattle.hept_ast.specs.Texts.{Name}
use Rattle.hept_ast.specs.declared.tree.Core.{Core}
use Rattle.hept_ast.specs.declared.tree.CoreNode.{CoreNode}
use Rattle.core_facts.specs.Static.{StaticCore}
use Rattle.core_fitting.specs.Sound.{IsNamed}
use Rattle.schedule.specs.Order.{IsOrdered}
use Rattle.flat_cores.specs.Flat.{IsFlatCore}
use Rattle.plan_bodies.specs.Buildable.{IsBuildable}

-- each node of a flat core in order can be built, with the nodes that it calls; one in order is well formed and in normal form
abbrev pub FlatIsBuildable : Type 0
FlatIsBuildable = (core : Core) (f : Name) (node : CoreNode) → IsFlatCore core → IsOrdered core → StaticCore core → IsNamed core f node → IsBuildable core (length core.nodes) node
