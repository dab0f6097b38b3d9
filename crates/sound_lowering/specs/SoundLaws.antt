-- The core that comes of an accepted program without switches, resets, automata and `last` is well formed, and has the static facts.
use Rattle.hept_ast.specs.Stages.{ClockedProgram, IsAcceptedProgram}
use Rattle.hept_ast.specs.declared.tree.Core.{Core}
use Rattle.accepted_meaning.specs.Ranges.{IsInRange}
use Rattle.core_rules.specs.WellFormed.{IsWellFormed}
use Rattle.core_facts.specs.Static.{StaticCore}
use Rattle.lowering_rules.specs.Lowering.{LowersProgram}

abbrev pub LoweringIsWellFormed : Type 0
LoweringIsWellFormed = (c : ClockedProgram) (core : Core) → IsInRange c.program → IsAcceptedProgram c → LowersProgram c core → IsWellFormed core

abbrev pub LoweringIsStatic : Type 0
LoweringIsStatic = (c : ClockedProgram) (core : Core) → IsInRange c.program → IsAcceptedProgram c → LowersProgram c core → StaticCore core
