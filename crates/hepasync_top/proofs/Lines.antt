-- The end of a run is the one that the lines of the trace come to.
use Rattle.std.proofs.Common.{◌≡◌, ◌≢◌, ℕ, ◌+◌, ◌<◌, ◌≤◌, Bool, true, false, cond, eqb, nat_lt, List, [], ◌∷◌, ◌++◌, length, map, Option, Some, None, Result, Ok, refl, sym, ap, ◌∙◌, arith}
use Rattle.std.specs.Io.KnownBytes.{IsAtEnd}
use Rattle.std.proofs.lemmas.Bool.Decides.{nat_tests}
use Rattle.std.proofs.lemmas.List.{append-nil}
use Rattle.hept_ast.specs.declared.tree.Program.{Program}
use Rattle.step_objects.specs.declared.shape.Values.{Values}
use Rattle.hept_io.specs.LineLaws.{NoneOfNone}
use Rattle.hept_io.specs.Lines.{lines_of}
use Rattle.trace_io.specs.RowText.{row_text}
use Rattle.trace_io.specs.declared.row_text.RowFault.{RowFault}
use Rattle.run_messages.specs.declared.end.BadRow.{BadRow}
use Rattle.run_messages.specs.declared.end.BadRow.TheVariants.{TooLong, Fault}
use Rattle.run_messages.specs.declared.end.End.{End}
use Rattle.run_messages.specs.declared.end.End.TheVariants.{Ended, Refused, Usage, File, BadRow as Bad_row, Limit, ReadFault, WriteFault, Memory}
use Rattle.step_objects.specs.Interfaces.{input_shape}
use Rattle.hepasync_top.specs.LineEnds.{row_end, lines_end, FollowsLines, FollowsTrace, ReadsWhole}
use Rattle.hepasync_top.specs.Turns.{AllShort, TakesRows, LosesRows, IsWrong, NextIsBad, HasNext, RunEnds}

apart : (n limit : ℕ) → n < limit → eqb n limit ≡ false
apart n limit l = grind (arith, nat_tests)

equal : (n limit : ℕ) → n ≡ limit → eqb n limit ≡ true
equal n limit l = grind (arith, nat_tests)

not_long : (n : ℕ) → n ≤ 65535 → nat_lt 65535 n ≡ false
not_long n l = grind (arith, nat_tests)

too_long : (n : ℕ) → 65535 < n → nat_lt 65535 n ≡ true
too_long n l = grind (arith, nat_tests)

-- a line that isn't too long, with room for one more row
short_end : (inputs : List Values) (limit n : ℕ) (line : List ℕ) (lines : List (List ℕ)) → n < limit → length line ≤ 65535 →
    lines_end inputs limit n (line ∷ lines) ≡ row_end (row_text inputs line) (n + 1) (lines_end inputs limit (n + 1) lines)
short_end inputs limit n line lines l s =
    ap (λ (b : Bool). cond b (Limit limit) (cond (nat_lt 65535 (length line)) (Bad_row (n + 1) TooLong) (row_end (row_text inputs line) (n + 1) (lines_end inputs limit (n + 1) lines)))) (apart n limit l)
    ∙ ap (λ (b : Bool). cond b (Bad_row (n + 1) TooLong) (row_end (row_text inputs line) (n + 1) (lines_end inputs limit (n + 1) lines))) (not_long (length line) s)

-- lines that spell rows go on
passes : (inputs : List Values) (limit n : ℕ) (lines more rows : List (List ℕ)) → map (row_text inputs) lines ≡ map Ok rows → AllShort lines → n + length lines ≤ limit →
    lines_end inputs limit n (lines ++ more) ≡ lines_end inputs limit (n + length lines) more
passes inputs limit n [] more rows e s l = let z : n ≡ n + 0 = omega arith in ap (λ k. lines_end inputs limit k more) z
passes inputs limit n (line ∷ lines) more [] e s l = absurd cc
passes inputs limit n (line ∷ lines) more (row ∷ rows) e s l =
    let first : row_text inputs line ≡ Ok row = cc in
    let rest : map (row_text inputs) lines ≡ map Ok rows = cc in
    let next : n + 1 + length lines ≡ n + length (line ∷ lines) = omega arith in
    short_end inputs limit n line (lines ++ more) (omega arith) s.0
    ∙ ap (λ (r : Result (List ℕ) RowFault). row_end r (n + 1) (lines_end inputs limit (n + 1) (lines ++ more))) first
    ∙ passes inputs limit (n + 1) lines more rows rest s.1 (omega arith)
    ∙ ap (λ k. lines_end inputs limit k more) next

-- as many lines as rows
rows_length : (inputs : List Values) (lines rows : List (List ℕ)) → map (row_text inputs) lines ≡ map Ok rows → length lines ≡ length rows
rows_length inputs [] [] e = refl
rows_length inputs [] (row ∷ rows) e = absurd cc
rows_length inputs (line ∷ lines) [] e = absurd cc
rows_length inputs (line ∷ lines) (row ∷ rows) e = let rest : map (row_text inputs) lines ≡ map Ok rows = cc in omega (arith, rows_length inputs lines rows rest)

-- the rest of the lines comes to the same, after the rows that counted
counted_end : (inputs : List Values) (limit : ℕ) (bytes rest : List ℕ) (rows : List (List ℕ)) → TakesRows inputs bytes rows rest → length rows ≤ limit →
    lines_end inputs limit 0 (lines_of bytes) ≡ lines_end inputs limit (length rows) (lines_of rest)
counted_end inputs limit bytes rest rows h l =
    let many : length h.lines ≡ length rows = rows_length inputs h.lines rows h.read in
    let start : 0 + length h.lines ≡ length rows = omega (arith, many) in
    ap (lines_end inputs limit 0) h.cut
    ∙ passes inputs limit 0 h.lines (lines_of rest) rows h.read h.short (omega (arith, many))
    ∙ ap (λ k. lines_end inputs limit k (lines_of rest)) start

bad_end : (inputs : List Values) (limit n number : ℕ) (line : List ℕ) (lines : List (List ℕ)) (fault : BadRow) → n < limit → number ≡ n + 1 → IsWrong inputs line fault →
    Bad_row number fault ≡ lines_end inputs limit n (line ∷ lines)
bad_end inputs limit n number line lines TooLong l e w =
    ap (λ k. Bad_row k TooLong) e
    ∙ sym (ap (λ (b : Bool). cond b (Limit limit) (cond (nat_lt 65535 (length line)) (Bad_row (n + 1) TooLong) (row_end (row_text inputs line) (n + 1) (lines_end inputs limit (n + 1) lines)))) (apart n limit l)
    ∙ ap (λ (b : Bool). cond b (Bad_row (n + 1) TooLong) (row_end (row_text inputs line) (n + 1) (lines_end inputs limit (n + 1) lines))) (too_long (length line) w))
bad_end inputs limit n number line lines (Fault fault) l e w =
    ap (λ k. Bad_row k (Fault fault)) e
    ∙ sym (short_end inputs limit n line lines l w.0 ∙ ap (λ (r : Result (List ℕ) RowFault). row_end r (n + 1) (lines_end inputs limit (n + 1) lines)) w.1)

limit_end : (inputs : List Values) (limit n : ℕ) (lines : List (List ℕ)) → n ≡ limit → lines ≢ [] → Limit limit ≡ lines_end inputs limit n lines
limit_end inputs limit n [] e h = absurd (h refl)
limit_end inputs limit n (line ∷ lines) e h =
    sym (ap (λ (b : Bool). cond b (Limit limit) (cond (nat_lt 65535 (length line)) (Bad_row (n + 1) TooLong) (row_end (row_text inputs line) (n + 1) (lines_end inputs limit (n + 1) lines)))) (equal n limit e))

-- ---- runs

ended_follows : NoneOfNone → (inputs : List Values) (limit : ℕ) (bytes : List ℕ) (rest : Option (List ℕ)) (rows : List (List ℕ)) → LosesRows inputs (Some bytes) rows rest → length rows ≤ limit → IsAtEnd rest → Ended ≡ lines_end inputs limit 0 (lines_of bytes)
ended_follows none inputs limit bytes None rows h l e = absurd h
ended_follows none inputs limit bytes (Some rest) rows h l e = sym (counted_end inputs limit bytes rest rows h l ∙ ap (λ bs. lines_end inputs limit (length rows) (lines_of bs)) e ∙ ap (lines_end inputs limit (length rows)) none)

bad_follows : (inputs : List Values) (limit number : ℕ) (fault : BadRow) (bytes : List ℕ) (rest : Option (List ℕ)) (rows : List (List ℕ)) → LosesRows inputs (Some bytes) rows rest → length rows < limit → number ≡ length rows + 1 → NextIsBad inputs fault rest →
    Bad_row number fault ≡ lines_end inputs limit 0 (lines_of bytes)
bad_follows inputs limit number fault bytes None rows h l e w = absurd h
bad_follows inputs limit number fault bytes (Some rest) rows h l e w =
    bad_end inputs limit (length rows) number w.line w.others fault l e w.wrong
    ∙ sym (counted_end inputs limit bytes rest rows h (omega arith) ∙ ap (lines_end inputs limit (length rows)) w.lines)

limit_follows : (inputs : List Values) (limit : ℕ) (bytes : List ℕ) (rest : Option (List ℕ)) (rows : List (List ℕ)) → LosesRows inputs (Some bytes) rows rest → length rows ≡ limit → HasNext rest →
    Limit limit ≡ lines_end inputs limit 0 (lines_of bytes)
limit_follows inputs limit bytes None rows h e w = absurd h
limit_follows inputs limit bytes (Some rest) rows h e w =
    limit_end inputs limit (length rows) (lines_of rest) e w ∙ sym (counted_end inputs limit bytes rest rows h (omega arith))

pub follows : NoneOfNone → (p : Program) (limit : ℕ) (bytes : List ℕ) (held left now : Option (List ℕ)) (end : End) → RunEnds p limit (Some bytes) held left now end → FollowsLines (input_shape p) limit bytes end
follows none p limit bytes held left now Ended h = ended_follows none (input_shape p) limit bytes h.rest h.rows h.counted.read h.why.0 h.why.1
follows none p limit bytes held left now (Bad_row line fault) h = bad_follows (input_shape p) limit line fault bytes h.rest h.rows h.counted.read h.why.0 h.why.1 h.why.2
follows none p limit bytes held left now (Limit rows) h = ap (λ n. Limit n) h.0 ∙ limit_follows (input_shape p) limit bytes h.1.rest h.1.rows h.1.counted.read h.1.why.0 h.1.why.1
follows none p limit bytes held left now ReadFault h = tt
follows none p limit bytes held left now WriteFault h = tt
follows none p limit bytes held left now (Refused r) h = absurd h
follows none p limit bytes held left now Usage h = absurd h
follows none p limit bytes held left now (File f) h = absurd h
follows none p limit bytes held left now Memory h = absurd h

pub follows_trace : NoneOfNone → (p : Program) (limit : ℕ) (trace held left now : Option (List ℕ)) (end : End) → RunEnds p limit trace held left now end → FollowsTrace (input_shape p) limit trace end
follows_trace none p limit None held left now end h = tt
follows_trace none p limit (Some bytes) held left now end h = follows none p limit bytes held left now end h

-- where all lines read, the run over them comes to the end of the trace
pub whole_end : (inputs : List Values) (limit : ℕ) (bytes : List ℕ) → ReadsWhole inputs limit bytes → lines_end inputs limit 0 (lines_of bytes) ≡ Ended
whole_end inputs limit bytes h =
    ap (lines_end inputs limit 0) (sym (append-nil (lines_of bytes))) ∙ passes inputs limit 0 (lines_of bytes) [] h.rows h.read h.short (omega (arith, h.few))
