-- How far the turns have come, and how they end.
use Rattle.std.proofs.Common.{◌≡◌, ℕ, ◌+◌, ◌<◌, ◌≤◌, List, [], ◌∷◌, ◌++◌, length, take, Option, Ok, Err, sym, refl, ap, ◌∙◌, subst, arith, length-append}
use Rattle.std.specs.Io.KnownBytes.{Appends, Keeps, IsAtEnd}
use Rattle.std.proofs.lemmas.Grind.{flat_map-append}
use Rattle.std.proofs.lemmas.List.{append-nil}
use Rattle.hept_ast.specs.Stages.{ClockedProgram}
use Rattle.hept_ast.specs.Laws.{ErasedKeepsOutputs}
use Rattle.hept_io.specs.Lines.{to_come}
use Rattle.trace_io.specs.OutputText.{row_line, output_text}
use Rattle.step_objects.specs.declared.shape.Values.{Values}
use Rattle.step_objects.specs.Interfaces.{input_shape, output_shape}
use Rattle.hepasync_top.specs.Turns.{LosesRows, IsAhead, IsCutOff, NextIsBad, HasNext, EndsAfter, RunEnds}
use Rattle.hepasync_top.specs.Machine.{HasDone, Turns, EndsHere}
use Rattle.hepasync_top.specs.declared.machine.Machine.{Machine}
use Rattle.run_messages.specs.declared.end.End.{End}
use Rattle.run_messages.specs.declared.end.End.TheVariants.{Ended, Refused, Usage, File, BadRow, Limit, ReadFault, WriteFault, Memory}
use Rattle.hepasync_top.proofs.NextOutputs.{erased_outputs}
use Rattle.trace_io.proofs.SinkBytes.{appends_both, appends_kept, appends_none, keeps_same}
use Rattle.hepasync_top.proofs.LineSteps.{ahead_of_coming, ahead_of_cut, loses_both, loses_none}

-- n rows counted
pub record SoFar (c : ClockedProgram) (n : ℕ) (coming held : Option (List ℕ)) (m : Machine) (rest now : Option (List ℕ)) : Type 0 where
  pub rows : List (List ℕ)
  pub outs : List (List ℕ)
  pub count : length rows ≡ n
  pub done : HasDone c m rows outs
  pub read : LosesRows (input_shape c.program) coming rows rest
  pub written : Appends held now (output_text (output_shape c.program) outs)

pub none_yet : (c : ClockedProgram) (coming held : Option (List ℕ)) (m : Machine) → HasDone c m [] [] → SoFar c 0 coming held m coming held
none_yet c coming held m h = record { rows = []; outs = []; count = refl; done = h; read = loses_none (input_shape c.program) coming; written = appends_none held }

text_of_more : (shape : List Values) (outs : List (List ℕ)) (out : List ℕ) → output_text shape (outs ++ out ∷ []) ≡ output_text shape outs ++ row_line shape out
text_of_more shape outs out = flat_map-append (row_line shape) outs (out ∷ []) ∙ ap (λ text. output_text shape outs ++ text) (append-nil (row_line shape out))

pub one_counted : (c : ClockedProgram) (n : ℕ) (coming held : Option (List ℕ)) (m new : Machine) (rest now left later : Option (List ℕ)) (u : Unit {0}) →
    (s : SoFar c n coming held m rest now) → Turns c (n + 1) s.rows s.outs rest now (Ok u) new left later → SoFar c (n + 1) coming held new (to_come new.reader left) later
one_counted c n coming held m new rest now left later u s (row, out, done, read, written) = record {
  rows = s.rows ++ row ∷ [];
  outs = s.outs ++ out ∷ [];
  count = omega (arith, length-append s.rows (row ∷ []), s.count);
  done = done;
  read = loses_both (input_shape c.program) coming rest (to_come new.reader left) s.rows (row ∷ []) s.read read;
  written = subst (Appends held later) (sym (text_of_more (output_shape c.program) s.outs out)) (appends_both held now later (output_text (output_shape c.program) s.outs) (row_line (output_shape c.program) out) s.written written);
}

ends : ErasedKeepsOutputs → (c : ClockedProgram) (n : ℕ) (coming held : Option (List ℕ)) (m : Machine) (rest now left later : Option (List ℕ)) (Why : ℕ → Option (List ℕ) → Type 0) →
    (s : SoFar c n coming held m rest now) → Keeps now later → IsAhead rest left → Why (length s.rows) rest → EndsAfter c.program coming held left later Why
ends law c n coming held m rest now left later Why s k ahead why = record {
  rows = s.rows;
  outs = s.outs;
  rest = rest;
  counted = record { read = s.read; outputs = erased_outputs c s.rows s.outs law s.done.stands.accepted.clocked s.done.outputs; written = appends_kept held now later (output_text (output_shape c.program) s.outs) s.written k };
  ahead = ahead;
  why = why;
}

-- a turn that doesn't count ends the run
pub stops : ErasedKeepsOutputs → (c : ClockedProgram) (limit n : ℕ) (coming held : Option (List ℕ)) (m new : Machine) (rest now left later : Option (List ℕ)) (end : End) → n < limit →
    (s : SoFar c n coming held m rest now) → Turns c (n + 1) s.rows s.outs rest now (Err end) new left later → RunEnds c.program limit coming held left later end
stops law c limit n coming held m new rest now left later Ended b s h = ends law c n coming held m rest now left later (λ k rest. (k ≤ limit) × IsAtEnd rest) s h.2 h.1 (omega (arith, b, s.count), h.0)
stops law c limit n coming held m new rest now left later (BadRow line fault) b s h =
    ends law c n coming held m rest now left later (λ k rest. (k < limit) × (line ≡ k + 1) × NextIsBad (input_shape c.program) fault rest) s h.3 h.2 (omega (arith, b, s.count), h.0 ∙ ap (λ k. k + 1) (sym s.count), h.1)
stops law c limit n coming held m new rest now left later ReadFault b s h =
    ends law c n coming held m rest now left later (λ k rest. (k ≤ limit) × IsCutOff rest left) s h.1 (ahead_of_cut rest left h.0) (omega (arith, b, s.count), h.0)
stops law c limit n coming held m new rest now left later WriteFault b s (row, out, outputs, read, few, part) = record {
  rows = s.rows;
  outs = s.outs;
  row = row;
  out = out;
  rest = to_come new.reader left;
  read = loses_both (input_shape c.program) coming rest (to_come new.reader left) s.rows (row ∷ []) s.read read;
  outputs = erased_outputs c (s.rows ++ row ∷ []) (s.outs ++ out ∷ []) law s.done.stands.accepted.clocked outputs;
  taken = part.0;
  part = part.1;
  written = appends_both held now later (output_text (output_shape c.program) s.outs) (take part.0 (row_line (output_shape c.program) out)) s.written part.2;
  ahead = ahead_of_coming new.reader.pending left few;
}
stops law c limit n coming held m new rest now left later (Refused refusal) b s h = absurd h
stops law c limit n coming held m new rest now left later Usage b s h = absurd h
stops law c limit n coming held m new rest now left later (File fault) b s h = absurd h
stops law c limit n coming held m new rest now left later (Limit rows) b s h = absurd h
stops law c limit n coming held m new rest now left later Memory b s h = absurd h

-- the limit's rows counted
pub at_limit : ErasedKeepsOutputs → (c : ClockedProgram) (limit n : ℕ) (coming held : Option (List ℕ)) (m : Machine) (rest now left : Option (List ℕ)) (end : End) →
    (s : SoFar c n coming held m rest now) → n ≡ limit → EndsHere limit rest end left → RunEnds c.program limit coming held left now end
at_limit law c limit n coming held m rest now left Ended s e h = ends law c n coming held m rest now left now (λ k rest. (k ≤ limit) × IsAtEnd rest) s (keeps_same now) h.1 (omega (arith, e, s.count), h.0)
at_limit law c limit n coming held m rest now left (Limit rows) s e h = (h.0, ends law c n coming held m rest now left now (λ k rest. (k ≡ limit) × HasNext rest) s (keeps_same now) h.2 (s.count ∙ e, h.1))
at_limit law c limit n coming held m rest now left ReadFault s e h = ends law c n coming held m rest now left now (λ k rest. (k ≤ limit) × IsCutOff rest left) s (keeps_same now) (ahead_of_cut rest left h) (omega (arith, e, s.count), h)
at_limit law c limit n coming held m rest now left (BadRow line fault) s e h = absurd h
at_limit law c limit n coming held m rest now left WriteFault s e h = absurd h
at_limit law c limit n coming held m rest now left (Refused refusal) s e h = absurd h
at_limit law c limit n coming held m rest now left Usage s e h = absurd h
at_limit law c limit n coming held m rest now left (File fault) s e h = absurd h
at_limit law c limit n coming held m rest now left Memory s e h = absurd h
