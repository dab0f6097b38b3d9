-- Served programs and the cores that come of them.
use Rattle.hept_ast.specs.Reordering.{Reordering}
use Rattle.hept_ast.specs.Stages.{ClockedProgram}
use Rattle.hept_ast.specs.declared.tree.Core.{Core}
use Rattle.hept_ast.specs.declared.tree.Program.{Program}
use Rattle.lowering_rules.specs.Lowering.{LowersProgram}
use Rattle.lowering_rules.specs.PlainPrograms.{IsPlainProgram}
use Rattle.naming_rules.specs.Namings.{Namings}
use Rattle.served_programs.specs.Served.{IsServed}
use Rattle.flat_cores.specs.Flat.{IsFlatCore}

-- a served program has plain equations alone
abbrev pub ServedIsPlain : Type 0
ServedIsPlain = (p : Program) → IsServed p → IsPlainProgram p

-- the core that comes of one is flat
abbrev pub LoweringIsFlat : Type 0
LoweringIsFlat = (c : ClockedProgram) (core : Core) → IsServed c.program → LowersProgram c core → IsFlatCore core

-- subexpressions of a flat core become variables
abbrev pub NamingKeepsFlat : Type 0
NamingKeepsFlat = (core other : Core) → Namings core other → IsFlatCore core → IsFlatCore other

-- its equations stand in another order
abbrev pub OrderKeepsFlat : Type 0
OrderKeepsFlat = (core other : Core) → Reordering core other → IsFlatCore core → IsFlatCore other
