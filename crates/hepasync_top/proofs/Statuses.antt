-- What the statuses of a run say.
use Rattle.std.proofs.Common.{◌<◌, ◌≡◌, ℕ, ◌+◌, ◌≤◌, ◌⊎◌, inl, inr, List, [], ◌∷◌, ◌++◌, length, map, Option, Some, None, Result, Ok, Err, length-append, refl, sym, ap, ◌∙◌, subst, arith}
use Rattle.std.specs.Prelude.{IsSomeAnd, OnErr}
use Rattle.std.proofs.lemmas.List.{append-nil}
use Rattle.hept_io.specs.LineLaws.{NoneOfNone}
use Rattle.std.specs.Io.KnownBytes.{Appends, Consumes, IsAtEnd}
use Rattle.hept_ast.specs.declared.tree.Program.{Program}
use Rattle.hept_ast.specs.Scopes.{Text}
use Rattle.hept_ast.specs.Meaning.{Setting}
use Rattle.hept_ast.specs.Outputs.{OutputsFrom, Outputs}
use Rattle.hept_ast.specs.Erasure.{erased}
use Rattle.ept_reader.specs.Spelling.{IsProgramText}
use Rattle.hept_io.specs.Outside.{Files, Rose}
use Rattle.hept_io.specs.declared.outside.Failed.{Failed}
use Rattle.hept_io.specs.Lines.{Reading, to_come, lines_of}
use Rattle.run_messages.specs.Ends.{status_of}
use Rattle.run_checks.specs.Stops.{IsRunnable}
use Rattle.run_messages.specs.Lines.{Writes, line_of}
use Rattle.run_messages.specs.declared.end.Refusal.{Refusal}
use Rattle.trace_io.specs.RowText.{row_text}
use Rattle.trace_io.specs.OutputText.{output_text}
use Rattle.step_objects.specs.declared.shape.Values.{Values}
use Rattle.step_objects.specs.Interfaces.{input_shape, output_shape, main_text}
use Rattle.hepasync_top.specs.Outputs.{ErasedOutputs}
use Rattle.hept_ast.specs.Settings.{no_marks, no_replies, of_program}
use Rattle.hept_ast.specs.ClockMaps.{clock_in}
use Rattle.hepasync_top.specs.Turns.{TakesRows, LosesRows, IsAhead, IsCutOff, NextIsBad, HasNext, EndsAfter, EndsInPart, RunEnds}
use Rattle.hepasync_top.specs.Objects.{StoreChange, StreamChange}
use Rattle.hepasync_top.specs.Run.{Ends, EndsFor, IsBefore, IsFileText, Says, StopsFor, WritesOnlyAfterReading, Written, WrittenWhereTold}
use Rattle.run_messages.specs.declared.end.End.{End}
use Rattle.run_messages.specs.declared.end.End.TheVariants.{Ended, Refused, Usage, File, BadRow, Limit, ReadFault, WriteFault, Memory}

-- ---- statuses

pub ended_at : (e : End) → status_of e ≡ 0 → e ≡ Ended
ended_at Ended h = refl
ended_at (Refused r) h = absurd (omega arith)
ended_at Usage h = absurd (omega arith)
ended_at (File f) h = absurd (omega arith)
ended_at (BadRow l f) h = absurd (omega arith)
ended_at (Limit n) h = absurd (omega arith)
ended_at ReadFault h = absurd (omega arith)
ended_at WriteFault h = absurd (omega arith)
ended_at Memory h = absurd (omega arith)

pub usage_at : (e : End) → status_of e ≡ 2 → e ≡ Usage
usage_at Ended h = absurd (omega arith)
usage_at (Refused r) h = absurd (omega arith)
usage_at Usage h = refl
usage_at (File f) h = absurd (omega arith)
usage_at (BadRow l f) h = absurd (omega arith)
usage_at (Limit n) h = absurd (omega arith)
usage_at ReadFault h = absurd (omega arith)
usage_at WriteFault h = absurd (omega arith)
usage_at Memory h = absurd (omega arith)

pub read_fault_at : (e : End) → status_of e ≡ 6 → e ≡ ReadFault
read_fault_at Ended h = absurd (omega arith)
read_fault_at (Refused r) h = absurd (omega arith)
read_fault_at Usage h = absurd (omega arith)
read_fault_at (File f) h = absurd (omega arith)
read_fault_at (BadRow l f) h = absurd (omega arith)
read_fault_at (Limit n) h = absurd (omega arith)
read_fault_at ReadFault h = refl
read_fault_at WriteFault h = absurd (omega arith)
read_fault_at Memory h = absurd (omega arith)

pub write_fault_at : (e : End) → status_of e ≡ 7 → e ≡ WriteFault
write_fault_at Ended h = absurd (omega arith)
write_fault_at (Refused r) h = absurd (omega arith)
write_fault_at Usage h = absurd (omega arith)
write_fault_at (File f) h = absurd (omega arith)
write_fault_at (BadRow l f) h = absurd (omega arith)
write_fault_at (Limit n) h = absurd (omega arith)
write_fault_at ReadFault h = absurd (omega arith)
write_fault_at WriteFault h = refl
write_fault_at Memory h = absurd (omega arith)

pub at_most_eight : (e : End) → status_of e ≤ 8
at_most_eight Ended = omega arith
at_most_eight (Refused r) = omega arith
at_most_eight Usage = omega arith
at_most_eight (File f) = omega arith
at_most_eight (BadRow l f) = omega arith
at_most_eight (Limit n) = omega arith
at_most_eight ReadFault = omega arith
at_most_eight WriteFault = omega arith
at_most_eight Memory = omega arith

pub at_start : (r : Reading) (left : Option (List ℕ)) → r.pending ≡ [] → to_come r left ≡ left
at_start r None e = refl
at_start r (Some bytes) e = ap (λ pending. Some (pending ++ bytes)) e

-- ---- the end of the trace

whole : (inputs : List Values) (bytes rest : List ℕ) (rows : List (List ℕ)) → NoneOfNone → TakesRows inputs bytes rows rest → rest ≡ [] → map (row_text inputs) (lines_of bytes) ≡ map Ok rows
whole inputs bytes rest rows none h e =
    ap (map (row_text inputs)) (h.cut ∙ ap (λ more. h.lines ++ lines_of more) e ∙ ap (λ ls. h.lines ++ ls) none ∙ append-nil h.lines) ∙ h.read

told : (files : Option Files) (words : List (List ℕ)) (text : List ℕ) (p : Program) (bytes before : List ℕ) (rest now : Option (List ℕ)) (rows outs : List (List ℕ)) → NoneOfNone → IsFileText files words text → IsProgramText text p → IsRunnable p →
    LosesRows (input_shape p) (Some bytes) rows rest → ErasedOutputs p rows outs → Appends (Some before) now (output_text (output_shape p) outs) → IsAtEnd rest → IsSomeAnd now (λ after. Written files words bytes before after)
told files words text p bytes before None now rows outs none file spelled runs read outputs written e = absurd read
told files words text p bytes before (Some rest) None rows outs none file spelled runs read outputs written e = absurd written
told files words text p bytes before (Some rest) (Some after) rows outs none file spelled runs read outputs written e = record {
  text = text;
  file = file;
  program = p;
  spelled = spelled;
  runs = runs;
  rows = rows;
  read = whole (input_shape p) bytes rest rows none read e;
  outs = outs;
  outputs = outputs;
  written = written;
}

empty : (bytes : List ℕ) → length bytes ≤ 0 → bytes ≡ []
empty [] l = refl
empty (b ∷ bytes) l = absurd (omega arith)

none_left : (inputs : List Values) (bytes : List ℕ) (rest left : Option (List ℕ)) (rows : List (List ℕ)) → LosesRows inputs (Some bytes) rows rest → IsAhead rest left → IsAtEnd rest → left ≡ Some []
none_left inputs bytes None left rows read ahead e = absurd read
none_left inputs bytes (Some rest) None rows read ahead e = absurd ahead.consumed
none_left inputs bytes (Some rest) (Some left) rows read ahead e = ap Some (empty left (omega (arith, ap length e, ap length ahead.consumed, length-append ahead.taken left)))

where_told : (limit : ℕ) (files : Option Files) (words : List (List ℕ)) (text : List ℕ) (p : Program) (trace held left now : Option (List ℕ)) → NoneOfNone → IsFileText files words text → IsProgramText text p → IsRunnable p →
    EndsAfter p trace held left now (λ n rest. (n ≤ limit) × IsAtEnd rest) → WrittenWhereTold files words trace left held now
where_told limit files words text p None held left now none file spelled runs h = tt
where_told limit files words text p (Some bytes) None left now none file spelled runs h = (none_left (input_shape p) bytes h.rest left h.rows h.counted.read h.ahead h.why.1, tt)
where_told limit files words text p (Some bytes) (Some before) left now none file spelled runs h = (
  none_left (input_shape p) bytes h.rest left h.rows h.counted.read h.ahead h.why.1,
  told files words text p bytes before h.rest now h.rows h.outs none file spelled runs h.counted.read h.counted.outputs h.counted.written h.why.1,
)

text_written : (limit : ℕ) (files : Option Files) (words : List (List ℕ)) (text : List ℕ) (trace out : StreamChange) (end : End) → NoneOfNone → IsFileText files words text →
    EndsFor limit text trace out end → end ≡ Ended → WrittenWhereTold files words trace.before trace.after out.before out.after
text_written limit files words text trace out end none file (inl r) e =
    where_told limit files words text r.program trace.before out.before trace.after out.after none file r.spelled r.runs (subst (RunEnds r.program limit trace.before out.before trace.after out.after) e r.ends)
text_written limit files words text trace out end none file (inr (inl m)) e = absurd cc
text_written limit files words text trace out end none file (inr (inr (r, is, h))) e = absurd cc

pub written_at_end : (limit : ℕ) (words : List (List ℕ)) (store : StoreChange) (trace out : StreamChange) (end : End) → NoneOfNone →
    Ends limit words store trace out end → end ≡ Ended → WrittenWhereTold store.files words trace.before trace.after out.before out.after
written_at_end limit words store trace out end none (inl s) e = absurd (subst (λ (e : End). StopsFor e words store) e s)
written_at_end limit words store trace out end none (inr (text, file, h)) e = text_written limit store.files words text trace out end none file h.ends e

-- ---- nothing is written before some of the trace is read

-- where the trace is as it was, no row counted
none_counted : (inputs : List Values) (bytes : List ℕ) (rest left : Option (List ℕ)) (rows : List (List ℕ)) → LosesRows inputs (Some bytes) rows rest → IsAhead rest left → left ≡ Some bytes → length rows ≤ 0
none_counted inputs bytes None left rows read ahead e = absurd read
none_counted inputs bytes (Some rest) left rows read ahead e =
    let all : rest ≡ ahead.taken ++ bytes = subst (λ l. Consumes (Some rest) l ahead.taken) e ahead.consumed in
    omega (arith, read.shorter, ap length all, length-append ahead.taken bytes)

outs_of_none : (w : Setting) (rows : List (List ℕ)) (text : Text) (t : ℕ) (left outs : List (List ℕ)) → OutputsFrom w rows text t left outs → length left ≤ 0 → outs ≡ []
outs_of_none w rows text t [] [] h l = refl
outs_of_none w rows text t [] (out ∷ outs) h l = absurd h
outs_of_none w rows text t (row ∷ left) outs h l = absurd (omega arith)

outs_of_main : (w : Setting) (main : Option Text) (rows outs : List (List ℕ)) → IsSomeAnd main (λ text. Outputs w text rows outs) → length rows ≤ 0 → outs ≡ []
outs_of_main w None rows outs h l = absurd h
outs_of_main w (Some text) rows outs h l = outs_of_none w rows text 0 rows outs h l

same_text : (shape : List Values) (before : List ℕ) (now : Option (List ℕ)) (outs : List (List ℕ)) → Appends (Some before) now (output_text shape outs) → outs ≡ [] → now ≡ Some before
same_text shape before None outs h e = absurd h
same_text shape before (Some after) outs h e = ap Some (h ∙ ap (λ os. before ++ output_text shape os) e ∙ append-nil before)

after_rows : (p : Program) (trace held left now : Option (List ℕ)) (Why : ℕ → Option (List ℕ) → Type 0) → EndsAfter p trace held left now Why → WritesOnlyAfterReading trace left held now
after_rows p None held left now Why h = tt
after_rows p (Some bytes) None left now Why h = tt
after_rows p (Some bytes) (Some before) left now Why h = λ e.
    let n = none_counted (input_shape p) bytes h.rest left h.rows h.counted.read h.ahead e in
    same_text (output_shape p) before now h.outs h.counted.written (outs_of_main (of_program (erased p) (clock_in h.counted.outputs.clocks) no_marks no_replies) (main_text (erased p)) h.rows h.outs h.counted.outputs.outputs n)

after_part : (p : Program) (trace held left now : Option (List ℕ)) → EndsInPart p trace held left now → WritesOnlyAfterReading trace left held now
after_part p None held left now h = tt
after_part p (Some bytes) None left now h = tt
after_part p (Some bytes) (Some before) left now h = λ e.
    let n = none_counted (input_shape p) bytes h.rest left (h.rows ++ h.row ∷ []) h.read h.ahead e in
    absurd (omega (arith, length-append h.rows (h.row ∷ [])))

after_run : (p : Program) (limit : ℕ) (trace held left now : Option (List ℕ)) (end : End) → RunEnds p limit trace held left now end → WritesOnlyAfterReading trace left held now
after_run p limit trace held left now Ended h = after_rows p trace held left now (λ n rest. (n ≤ limit) × IsAtEnd rest) h
after_run p limit trace held left now (BadRow line fault) h = after_rows p trace held left now (λ n rest. (n < limit) × (line ≡ n + 1) × NextIsBad (input_shape p) fault rest) h
after_run p limit trace held left now (Limit rows) h = after_rows p trace held left now (λ n rest. (n ≡ limit) × HasNext rest) h.1
after_run p limit trace held left now ReadFault h = after_rows p trace held left now (λ n rest. (n ≤ limit) × IsCutOff rest left) h
after_run p limit trace held left now WriteFault h = after_part p trace held left now h
after_run p limit trace held left now (Refused r) h = absurd h
after_run p limit trace held left now Usage h = absurd h
after_run p limit trace held left now (File f) h = absurd h
after_run p limit trace held left now Memory h = absurd h

same_now : (trace left held now : Option (List ℕ)) → now ≡ held → WritesOnlyAfterReading trace left held now
same_now None left held now e = tt
same_now (Some bytes) left None now e = tt
same_now (Some bytes) left (Some before) now e = λ _. e

-- an end without a text is one before the trace is read
stops_before : (end : End) (words : List (List ℕ)) (store : StoreChange) → StopsFor end words store → IsBefore (status_of end)
stops_before Usage words store h = inl (omega arith, omega arith)
stops_before (File f) words store h = inl (omega arith, omega arith)
stops_before Memory words store h = inr refl
stops_before Ended words store h = absurd h
stops_before (Refused r) words store h = absurd h
stops_before (BadRow l f) words store h = absurd h
stops_before (Limit n) words store h = absurd h
stops_before ReadFault words store h = absurd h
stops_before WriteFault words store h = absurd h

-- and so is a refusal
refused_before : (r : Refusal) (end : End) → end ≡ Refused r → IsBefore (status_of end)
refused_before r end e = subst (λ (e : End). IsBefore (status_of e)) (sym e) (inl (omega arith, omega arith))

memory_before : (end : End) → end ≡ Memory → IsBefore (status_of end)
memory_before end e = subst (λ (e : End). IsBefore (status_of e)) (sym e) (inr refl)

text_untouched : (limit : ℕ) (text : List ℕ) (trace out : StreamChange) (end : End) → EndsFor limit text trace out end → (IsBefore (status_of end) → out.after ≡ out.before) →
    WritesOnlyAfterReading trace.before trace.after out.before out.after
text_untouched limit text trace out end (inl r) same = after_run r.program limit trace.before out.before trace.after out.after end r.ends
text_untouched limit text trace out end (inr (inl m)) same = same_now trace.before trace.after out.before out.after (same (memory_before end m))
text_untouched limit text trace out end (inr (inr (r, is, h))) same = same_now trace.before trace.after out.before out.after (same (refused_before r end is))

pub untouched : (limit : ℕ) (words : List (List ℕ)) (store : StoreChange) (trace out : StreamChange) (end : End) → Ends limit words store trace out end → (IsBefore (status_of end) → out.after ≡ out.before) →
    WritesOnlyAfterReading trace.before trace.after out.before out.after
untouched limit words store trace out end (inl s) same = same_now trace.before trace.after out.before out.after (same (stops_before end words store s))
untouched limit words store trace out end (inr (text, file, h)) same = text_untouched limit text trace out end h.ends same

-- ---- ends before the trace is read

not_before : (n : ℕ) → (n ≡ 0) ⊎ ((4 ≤ n) × (n ≤ 7)) → IsBefore n → ⊥
not_before n (inl z) (inl h) = omega (arith, z, h.0)
not_before n (inl z) (inr h) = omega (arith, z, h)
not_before n (inr l) (inl h) = omega (arith, l.0, h.1)
not_before n (inr l) (inr h) = omega (arith, l.1, h)

-- no run over a trace ends with such a status
pub runs_after : (p : Program) (limit : ℕ) (trace held left now : Option (List ℕ)) (end : End) → RunEnds p limit trace held left now end → IsBefore (status_of end) → ⊥
runs_after p limit trace held left now Ended h b = not_before 0 (inl refl) b
runs_after p limit trace held left now (BadRow line fault) h b = not_before 4 (inr (omega arith, omega arith)) b
runs_after p limit trace held left now (Limit rows) h b = not_before 5 (inr (omega arith, omega arith)) b
runs_after p limit trace held left now ReadFault h b = not_before 6 (inr (omega arith, omega arith)) b
runs_after p limit trace held left now WriteFault h b = not_before 7 (inr (omega arith, omega arith)) b
runs_after p limit trace held left now (Refused r) h b = absurd h
runs_after p limit trace held left now Usage h b = absurd h
runs_after p limit trace held left now (File f) h b = absurd h
runs_after p limit trace held left now Memory h b = absurd h

-- no run over a trace ends for its words
pub not_usage : (p : Program) (limit : ℕ) (trace held left now : Option (List ℕ)) (end : End) → RunEnds p limit trace held left now end → end ≡ Usage → ⊥
not_usage p limit trace held left now end h e = subst (RunEnds p limit trace held left now) e h

-- ---- the line

pub says_line : (end : End) (r : Result (Unit {0}) Failed) (err : StreamChange) → Writes r err.before err.after (line_of end) → OnErr r (Rose err.faults_before err.faults_after) → Says end err
says_line end (Ok u) err h k = inl h
says_line end (Err e) err h k = inr (h, k)
