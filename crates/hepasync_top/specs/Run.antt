-- What a run does.
use Rattle.std.specs.Prelude.{◌≡◌, ℕ, ◌<◌, ◌≤◌, length, List, [], ◌++◌, map, Option, Some, None, IfSome, IsSomeAnd, Ok, ◌⊎◌, ⊤}
use Rattle.hept_ast.specs.declared.tree.Program.{Program}
use Rattle.std.specs.Io.KnownBytes.{Appends}
use Rattle.ept_reader.specs.Spelling.{IsProgramText}
use Rattle.hept_io.specs.Outside.{Files, Rose, HasFile}
use Rattle.run_messages.specs.Ends.{status_of}
use Rattle.run_messages.specs.Lines.{line_of}
use Rattle.hept_io.specs.Lines.{lines_of}
use Rattle.run_checks.specs.Words.{file_of}
use Rattle.run_checks.specs.Stops.{IsNotRead, IsRefused, IsRefusedText, IsRunnable, IsUnreadText}
use Rattle.run_messages.specs.declared.end.End.{End}
use Rattle.run_messages.specs.declared.end.End.TheVariants.{Refused, Usage, File, Memory}
use Rattle.run_messages.specs.declared.end.FileFault.{FileFault}
use Rattle.run_messages.specs.declared.end.Refusal.{Refusal}
use Rattle.trace_io.specs.RowText.{row_text}
use Rattle.trace_io.specs.OutputText.{output_text, AppendsPart}
use Rattle.step_objects.specs.Interfaces.{input_shape, output_shape}
use Rattle.hepasync_top.specs.LineEnds.{FollowsTrace, ReadsWhole}
use Rattle.hepasync_top.specs.Objects.{StoreChange, StreamChange}
use Rattle.hepasync_top.specs.Outputs.{ErasedOutputs}
use Rattle.hepasync_top.specs.Turns.{RunEnds}

-- ---- the file

-- The words name a file, and the store gave these bytes for it, at most 1,048,576. Where it tells its files, they are the file's.
pub record IsFileText (files : Option Files) (words : List (List ℕ)) (text : List ℕ) : Type 0 where
  pub name : List ℕ
  pub named : file_of words ≡ Some name
  pub few : length text ≤ 1048576
  pub file : IfSome files (λ files. HasFile files name text)

-- the words name a file, and it isn't read
pub record FileIsNotRead (fault : FileFault) (words : List (List ℕ)) (store : StoreChange) : Type 0 where
  pub name : List ℕ
  pub named : file_of words ≡ Some name
  pub cause : IsNotRead fault store.files store.faults_before store.faults_after name

-- why a run ends so without a text
abbrev pub StopsFor : End → (words : List (List ℕ)) → StoreChange → Type 0
StopsFor Usage words store = file_of words ≡ None
StopsFor (File fault) words store = FileIsNotRead fault words store
StopsFor Memory words store = ⊤
StopsFor other words store = ⊥

-- ---- a run of a text

-- A program that the text spells runs over the trace, at most this many rows counting. Unless reading or writing failed, the end
-- is the one that the lines of the trace come to.
pub record Runs (limit : ℕ) (text : List ℕ) (trace out : StreamChange) (end : End) : Type 0 where
  pub program : Program
  pub spelled : IsProgramText text program
  pub runs : IsRunnable program
  pub ends : RunEnds program limit trace.before out.before trace.after out.after end
  pub follows : FollowsTrace (input_shape program) limit trace.before end

-- the text is refused so
abbrev pub RefusesText : List ℕ → End → Type 0
RefusesText text end = (refusal : Refusal) × (end ≡ Refused refusal) × IsRefusedText text refusal

-- how a run of a text ends, and why
abbrev pub EndsFor : (limit : ℕ) → (text : List ℕ) → (trace out : StreamChange) → End → Type 0
EndsFor limit text trace out end = Runs limit text trace out end ⊎ ((end ≡ Memory) ⊎ RefusesText text end)

-- Bytes that are no text of a program are refused so, unless memory runs out.
abbrev pub RefusesExactly : (text : List ℕ) → End → Type 0
RefusesExactly text end = (refusal : Refusal) → IsUnreadText text refusal → (end ≡ Refused refusal) ⊎ (end ≡ Memory)

-- A text that is to be refused is refused, unless memory runs out.
abbrev pub RefusesAll : (text : List ℕ) → End → Type 0
RefusesAll text end = (refusal : Refusal) → IsRefusedText text refusal → IsRefused end ⊎ (end ≡ Memory)

-- A program that can be run runs, unless memory runs out.
abbrev pub RunsServed : (limit : ℕ) → (text : List ℕ) → (trace out : StreamChange) → End → Type 0
RunsServed limit text trace out end =
    (p : Program) → IsProgramText text p → IsRunnable p → RunEnds p limit trace.before out.before trace.after out.after end ⊎ (end ≡ Memory)

-- What a run of a text comes to.
pub record RunsText (limit : ℕ) (text : List ℕ) (trace out : StreamChange) (end : End) : Type 0 where
  pub ends : EndsFor limit text trace out end
  pub refuses_text : RefusesExactly text end
  pub refuses : RefusesAll text end
  pub serves : RunsServed limit text trace out end

-- ---- a run

-- How a run ends, and why: without a text, or with the one text that the store gave for the file that the words name. So a
-- store that doesn't tell its files leaves open what the text is, and nothing else.
abbrev pub Ends : (limit : ℕ) → (words : List (List ℕ)) → StoreChange → (trace out : StreamChange) → End → Type 0
Ends limit words store trace out end = StopsFor end words store ⊎ ((text : List ℕ) × IsFileText store.files words text × RunsText limit text trace out end)

-- A sink grew by the line of an end, or where its count of faults rose by a part of it.
abbrev pub Says : End → (err : StreamChange) → Type 0
Says end err = Appends err.before err.after (line_of end) ⊎ (AppendsPart err.before err.after (line_of end) × Rose err.faults_before err.faults_after)

-- The one end of a run, which its status and the line on standard error tell.
pub record ComesTo (limit : ℕ) (words : List (List ℕ)) (store : StoreChange) (trace out err : StreamChange) (status : ℕ) : Type 0 where
  pub end : End
  pub status_is : status ≡ status_of end
  pub ends : Ends limit words store trace out end
  pub says : Says end err

-- a status of a run that ends before the trace is first read
abbrev pub IsBefore : ℕ → Type 0
IsBefore status = ((0 < status) × (status < 4)) ⊎ (status ≡ 8)

-- ---- the end of the trace

-- The store gave a text for the file that the words name, and it spells a program that can be run. Each line of the trace spells
-- a row, and what was written is the text of the outputs that the stream meaning gives the program, with its futures erased, on
-- these rows.
pub record Written (files : Option Files) (words : List (List ℕ)) (trace before after : List ℕ) : Type 0 where
  pub text : List ℕ
  pub file : IsFileText files words text
  pub program : Program
  pub spelled : IsProgramText text program
  pub runs : IsRunnable program
  pub rows : List (List ℕ)
  pub read : map (row_text (input_shape program)) (lines_of trace) ≡ map Ok rows
  pub outs : List (List ℕ)
  pub outputs : ErasedOutputs program rows outs
  pub written : after ≡ before ++ output_text (output_shape program) outs

-- Where the trace tells its bytes, none is left, and where the output tells its bytes too, this was written.
abbrev pub WrittenWhereTold : Option Files → (words : List (List ℕ)) → (trace left held now : Option (List ℕ)) → Type 0
WrittenWhereTold files words trace left held now =
    IfSome trace (λ bytes. (left ≡ Some []) × IfSome held (λ before. IsSomeAnd now (λ after. Written files words bytes before after)))

-- The store has the file that the words name, of at most 1,048,576 bytes, which spell a program that can be run, and each line
-- of the trace spells a row.
pub record IsWhole (limit : ℕ) (files : Files) (words : List (List ℕ)) (trace : List ℕ) : Type 0 where
  pub text : List ℕ
  pub file : IsFileText (Some files) words text
  pub program : Program
  pub spelled : IsProgramText text program
  pub runs : IsRunnable program
  pub read : ReadsWhole (input_shape program) limit trace

-- Where all this is told and so, the run ends with status 0, unless memory runs out or a count of faults rose.
abbrev pub EndsWhole : (limit : ℕ) → (words : List (List ℕ)) → StoreChange → (trace out : StreamChange) → (status : ℕ) → Type 0
EndsWhole limit words store trace out status = IfSome store.files (λ files. IfSome trace.before (λ bytes. IsWhole limit files words bytes →
    (status ≡ 0) ⊎ ((status ≡ 8) ⊎ (Rose store.faults_before store.faults_after ⊎ (Rose trace.faults_before trace.faults_after ⊎ Rose out.faults_before out.faults_after)))))

-- where the bytes are told, nothing is written unless some of the trace is read
abbrev pub WritesOnlyAfterReading : (trace left held now : Option (List ℕ)) → Type 0
WritesOnlyAfterReading trace left held now = IfSome trace (λ bytes. IfSome held (λ before. left ≡ trace → now ≡ held))
