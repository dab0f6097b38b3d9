-- Erasure keeps what holds of a program with its clocks.
use Rattle.hept_ast.specs.Stages.{ClockedProgram, HasLeastClocks, IsClockedProgram, IsAcceptedProgram}
use Rattle.hept_ast.specs.Erasure.{erased}
use Rattle.hept_ast.specs.TypedValues.{HaveConstructors}

-- the erased program with the same clocks
abbrev pub erased_with_clocks : ClockedProgram → ClockedProgram
erased_with_clocks c = record { program = erased c.program; clocks = c.clocks }

-- the least clocks of a program are those of its erasure
abbrev pub ErasedHasLeastClocks : Type 0
ErasedHasLeastClocks = (c : ClockedProgram) → HasLeastClocks c.program c.clocks → HasLeastClocks (erased c.program) c.clocks

-- a program whose names, types and clocks are right has such an erasure
abbrev pub ErasedKeepsClockedProgram : Type 0
ErasedKeepsClockedProgram = (c : ClockedProgram) → HaveConstructors c.program.types → IsClockedProgram c → IsClockedProgram (erased_with_clocks c)

-- a program that is accepted has an erasure that is accepted
abbrev pub ErasedKeepsAccepted : Type 0
ErasedKeepsAccepted = (c : ClockedProgram) → HaveConstructors c.program.types → IsAcceptedProgram c → IsAcceptedProgram (erased_with_clocks c)
