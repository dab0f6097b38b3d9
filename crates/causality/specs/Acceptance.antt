-- Which programs are accepted.
use Rattle.std.specs.Prelude.{⊤}
use Rattle.hept_ast.specs.Causal.{IsCausal}
use Rattle.hept_ast.specs.ClockMaps.{clock_in}
use Rattle.hept_ast.specs.Initial.{IsInitialised}
use Rattle.hept_ast.specs.Stages.{ClockedProgram}
use Rattle.causality.specs.Cycles.{IsCausalFault}
use Rattle.causality.specs.Initialised.{IsInitFault}
use Rattle.causality.specs.declared.initial.InitFault.TheVariants as init
use Rattle.causality.specs.declared.causal.CausalFault.TheVariants as causal
use Rattle.causality.specs.declared.acceptance.AcceptFault.{AcceptFault}
use Rattle.causality.specs.declared.acceptance.AcceptFault.TheVariants.{Initial, Causal}

-- a program that reads no undefined value and has no cycle of reads
pub record IsAcceptable (c : ClockedProgram) : Type 0 where
  pub initialised : IsInitialised c.program
  pub causal : IsCausal c.program (clock_in c.clocks)

-- cycles are looked for only where every demand for a defined value is met
abbrev pub IsAcceptFault : ClockedProgram → AcceptFault → Type 0
IsAcceptFault c (Initial fault) = IsInitFault c.program fault
IsAcceptFault c (Causal fault) = IsInitialised c.program × IsCausalFault c.program (clock_in c.clocks) fault

abbrev pub IsWantOfMemory : AcceptFault → Type 0
IsWantOfMemory (Initial (init.MayBeNil at)) = ⊥
IsWantOfMemory (Initial init.Memory) = ⊤
IsWantOfMemory (Causal (causal.Cycle node vars)) = ⊥
IsWantOfMemory (Causal causal.Memory) = ⊤
