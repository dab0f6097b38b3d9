-- The outputs of an accepted program on rows.
use Rattle.std.specs.Prelude.{ℕ, List, IsSomeAnd}
use Rattle.hept_ast.specs.Scopes.{Clock}
use Rattle.hept_ast.specs.Settings.{no_marks, no_replies, of_program}
use Rattle.hept_ast.specs.ClockMaps.{ClockMap, clock_in}
use Rattle.hept_ast.specs.Stages.{HasLeastClocks}
use Rattle.hept_ast.specs.Texts.{Name}
use Rattle.hept_ast.specs.Outputs.{Outputs}
use Rattle.hept_ast.specs.Erasure.{erased}
use Rattle.hept_ast.specs.declared.tree.Program.{Program}
use Rattle.step_objects.specs.Interfaces.{main_text}

-- the rows of output values that the stream meaning gives the node that is run on rows, where the variables have these
-- clocks, no instant restarts the node, and calls give their own outputs
abbrev pub ProgramOutputs : Program → (clock : ℕ → Name → Clock) → (rows outs : List (List ℕ)) → Type 0
ProgramOutputs p clock rows outs = IsSomeAnd (main_text p) (λ text. Outputs (of_program p clock no_marks no_replies) text rows outs)

-- The same of a program with its least clocks, which are the only ones, and with its futures erased.
pub record ErasedOutputs (p : Program) (rows outs : List (List ℕ)) : Type 0 where
  pub clocks : ClockMap
  pub least : HasLeastClocks p clocks
  pub outputs : ProgramOutputs (erased p) (clock_in clocks) rows outs
