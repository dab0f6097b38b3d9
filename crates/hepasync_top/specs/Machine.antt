-- What is made before the trace is first read, and what its turns do.
use Rattle.std.specs.Prelude.{◌≡◌, ℕ, ◌<◌, ◌≤◌, ◌^◌, false, length, List, [], ◌∷◌, ◌++◌, vec_len, Option, Result, Ok, Err}
use Rattle.std.specs.Io.KnownBytes.{Appends, Keeps, IsAtEnd}
use Rattle.hept_ast.specs.Stages.{ClockedProgram}
use Rattle.hept_ast.specs.declared.tree.Program.{Program}
use Rattle.ept_reader.specs.Spelling.{IsProgramText}
use Rattle.step_objects.specs.declared.shape.Values.{Values}
use Rattle.step_cells.specs.declared.cell.Cell.{Cell}
use Rattle.hept_io.specs.Lines.{Reading, to_come}
use Rattle.trace_io.specs.OutputText.{row_line, widest_row, AppendsPart}
use Rattle.step_cells.specs.Cells.{row_of}
use Rattle.step_objects.specs.Interfaces.{input_shape, output_shape}
use Rattle.run_checks.specs.Stops.{IsRunnable}
use Rattle.program_stepper.specs.Stepping.{GivesRows, IsReady, Stands, input_count, output_count}
use Rattle.hepasync_top.specs.Turns.{LosesRows, IsAhead, IsCutOff, NextIsBad, HasNext}
use Rattle.hepasync_top.specs.declared.machine.Machine.{Machine}
use Rattle.run_messages.specs.declared.end.End.{End}
use Rattle.run_messages.specs.declared.end.End.TheVariants.{Ended, BadRow, Limit, ReadFault, WriteFault}

-- it has done the instants of some rows of a program
pub record HasProgram (m : Machine) : Type 0 where
  pub accepted : ClockedProgram
  pub rows : List (List ℕ)
  pub stands : Stands accepted rows m.stepper
  pub input_shape : m.inputs ≡ input_shape accepted.program
  pub output_shape : m.outputs ≡ output_shape accepted.program

-- it may do a turn
pub record CanTurn (m : Machine) : Type 0 where
  pub goes_on : m.reader.is_spent ≡ false
  pub ready : IsReady m.stepper
  pub program : HasProgram m
  pub inputs : length m.inputs ≡ input_count m.stepper
  pub few : length m.inputs < 2 ^ 32
  pub row : vec_len m.row ≡ input_count m.stepper
  pub outputs : length m.outputs ≡ output_count m.stepper
  pub values : vec_len m.values ≡ output_count m.stepper
  pub writer : widest_row m.outputs ≤ m.writer

-- it has done the instants of these rows of a program that can be run, which have these outputs
pub record HasDone (c : ClockedProgram) (m : Machine) (rows outs : List (List ℕ)) : Type 0 where
  pub runs : IsRunnable c.program
  pub stands : Stands c rows m.stepper
  pub outputs : GivesRows c rows outs
  pub input_shape : m.inputs ≡ input_shape c.program
  pub output_shape : m.outputs ≡ output_shape c.program

-- it has done nothing yet of this program, which has clocks
abbrev pub HasBegun : Program → Machine → Type 0
HasBegun p m = (c : ClockedProgram) × (c.program ≡ p) × HasDone c m [] []

-- what a read of the next line, which has this number, into a row comes to
abbrev pub ReadsRow : (inputs : List Values) → (number : ℕ) → Reading → (left : Option (List ℕ)) → Result (Unit {0}) End → Reading → (rest : Option (List ℕ)) → (row : List Cell) → Type 0
ReadsRow inputs number old left (Ok u) new rest row = (new.is_spent ≡ false) × (length new.pending ≤ 65536) × LosesRows inputs (to_come old left) (row_of row ∷ []) (to_come new rest)
ReadsRow inputs number old left (Err Ended) new rest row = IsAtEnd (to_come old left) × IsAhead (to_come old left) rest
ReadsRow inputs number old left (Err (BadRow line fault)) new rest row = (line ≡ number) × NextIsBad inputs fault (to_come old left) × IsAhead (to_come old left) rest
ReadsRow inputs number old left (Err ReadFault) new rest row = IsCutOff (to_come old left) rest
ReadsRow inputs number old left (Err other) new rest row = ⊥

-- what the request for one more line comes to, where as many rows counted as may
abbrev pub EndsHere : (limit : ℕ) → (coming : Option (List ℕ)) → End → (left : Option (List ℕ)) → Type 0
EndsHere limit coming Ended left = IsAtEnd coming × IsAhead coming left
EndsHere limit coming (Limit rows) left = (rows ≡ limit) × HasNext coming × IsAhead coming left
EndsHere limit coming ReadFault left = IsCutOff coming left
EndsHere limit coming other left = ⊥

-- what a turn for the line of this number comes to, after some rows
abbrev pub Turns : ClockedProgram → (number : ℕ) → (rows outs : List (List ℕ)) → (coming held : Option (List ℕ)) → Result (Unit {0}) End → Machine → (left now : Option (List ℕ)) → Type 0
Turns c number rows outs coming held (Ok u) m left now = (row out : List ℕ) × HasDone c m (rows ++ row ∷ []) (outs ++ out ∷ [])
    × LosesRows (input_shape c.program) coming (row ∷ []) (to_come m.reader left) × Appends held now (row_line (output_shape c.program) out)
Turns c number rows outs coming held (Err Ended) m left now = IsAtEnd coming × IsAhead coming left × Keeps held now
Turns c number rows outs coming held (Err (BadRow line fault)) m left now = (line ≡ number) × NextIsBad (input_shape c.program) fault coming × IsAhead coming left × Keeps held now
Turns c number rows outs coming held (Err ReadFault) m left now = IsCutOff coming left × Keeps held now
Turns c number rows outs coming held (Err WriteFault) m left now = (row out : List ℕ) × GivesRows c (rows ++ row ∷ []) (outs ++ out ∷ [])
    × LosesRows (input_shape c.program) coming (row ∷ []) (to_come m.reader left) × (length m.reader.pending ≤ 65536) × AppendsPart held now (row_line (output_shape c.program) out)
Turns c number rows outs coming held (Err other) m left now = ⊥

-- It has done nothing yet of a program that the text spells.
pub record IsFresh (text : List ℕ) (m : Machine) : Type 0 where
  pub can : CanTurn m
  pub pending : m.reader.pending ≡ []
  pub accepted : ClockedProgram
  pub spelled : IsProgramText text accepted.program
  pub done : HasDone accepted m [] []
