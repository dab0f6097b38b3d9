-- What a call of a line reader leaves to come, and what is read from it.
use Rattle.std.proofs.Common.{◌≡◌, ℕ, ◌+◌, ◌<◌, ◌≤◌, ⊎_elim, List, [], ◌∷◌, ◌++◌, length, take, drop, map, Option, Some, None, Result, Ok, Err, sym, refl, ap, ◌∙◌, subst, arith, length-append, append_assoc}
use Rattle.std.specs.Io.KnownBytes.{Consumes, Keeps, prepend_known}
use Rattle.std.specs.Prelude.{IfSome}
use Rattle.hept_io.specs.Lines.{Reading, to_come, lines_of, IsFirstLine, IsLine, LosesLine, Ends as LineEnds, GivesLine, GivesUp, Moves}
use Rattle.hept_io.specs.declared.lines.LineFault.{LineFault}
use Rattle.std.specs.Borrow.{Bor}
use Rattle.std.proofs.lemmas.List.{append-nil, map-append}
use Rattle.hepasync_top.proofs.NextOutputs.{written_back}
use Rattle.step_objects.specs.declared.shape.Values.{Values}
use Rattle.step_cells.specs.declared.cell.Cell.{Cell}
use Rattle.step_cells.specs.Cells.{cells_of, row_of}
use Rattle.trace_io.specs.RowText.{IsRow, row_text}
use Rattle.run_messages.specs.declared.end.BadRow.TheVariants.{Fault}
use Rattle.hepasync_top.specs.Turns.{AllShort, TakesRows, LosesRows, HasNext, IsAhead, IsCutOff, NextIsBad}
use Rattle.trace_io.specs.declared.row_text.RowFault.{RowFault}

shorter_rest : (bytes line rest : List ℕ) → IsFirstLine bytes line rest → length rest + 1 ≤ length bytes
shorter_rest bytes line rest h = ⊎_elim
    (λ e. omega (arith, ap length e, length-append line (10 ∷ rest)))
    (λ e. omega (arith, ap length e.0, ap length e.1, e.2))
    h.cut

takes_one : (inputs : List Values) (bytes line rest row : List ℕ) → IsFirstLine bytes line rest → length line ≤ 65535 → row_text inputs line ≡ Ok row → TakesRows inputs bytes (row ∷ []) rest
takes_one inputs bytes line rest row h s r = record {
  lines = line ∷ [];
  cut = h.lines;
  read = ap (λ read. read ∷ []) r;
  short = (s, tt);
  shorter = shorter_rest bytes line rest h;
}

loses_one : (inputs : List Values) (coming rest : Option (List ℕ)) (line row : List ℕ) → LosesLine coming line rest → length line ≤ 65535 → row_text inputs line ≡ Ok row → LosesRows inputs coming (row ∷ []) rest
loses_one inputs None rest line row h s r = tt
loses_one inputs (Some bytes) None line row h s r = absurd h
loses_one inputs (Some bytes) (Some rest) line row h s r = takes_one inputs bytes line rest row h s r

pub next_is_bad : (inputs : List Values) (coming rest : Option (List ℕ)) (line : List ℕ) (e : RowFault) → LosesLine coming line rest → length line ≤ 65535 → row_text inputs line ≡ Err e → NextIsBad inputs (Fault e) coming
next_is_bad inputs None rest line e h s r = tt
next_is_bad inputs (Some bytes) None line e h s r = absurd h
next_is_bad inputs (Some bytes) (Some rest) line e h s r = record { line = line; others = lines_of rest; lines = h.lines; wrong = (s, r) }

empty_back : (pending left : List ℕ) → pending ++ left ≡ [] → left ≡ []
empty_back [] left e = e
empty_back (b ∷ pending) left e = absurd cc

-- a line was taken, and what is pending behind it
pub ahead_of_line : (coming : Option (List ℕ)) (pending : List ℕ) (left : Option (List ℕ)) (line : List ℕ) → LosesLine coming line (prepend_known pending left) → length line ≤ 65535 → length pending ≤ 65536 → IsAhead coming left
ahead_of_line None pending left line h short few = record { taken = []; few = omega arith; consumed = tt }
ahead_of_line (Some bytes) pending None line h short few = absurd h
ahead_of_line (Some bytes) pending (Some left) line h short few = ⊎_elim
    (λ e. record {
      taken = line ++ 10 ∷ pending;
      few = omega (arith, length-append line (10 ∷ pending));
      consumed = e ∙ sym (append_assoc line (10 ∷ pending) left);
    })
    (λ e. record {
      taken = line;
      few = omega arith;
      consumed = e.0 ∙ sym (append-nil line) ∙ ap (λ bs. line ++ bs) (sym (empty_back pending left e.1));
    })
    h.cut

-- what was pending and what came is taken
consumes_coming : (pending came : List ℕ) (left rest : Option (List ℕ)) → Consumes left rest came → Consumes (prepend_known pending left) rest (pending ++ came)
consumes_coming pending came None rest h = tt
consumes_coming pending came (Some left) None h = absurd h
consumes_coming pending came (Some left) (Some rest) h = ap (λ bs. pending ++ bs) h ∙ sym (append_assoc pending came rest)

pub ahead_of_up : (old : Reading) (left : Option (List ℕ)) (new : Reading) (rest : Option (List ℕ)) → (up : GivesUp old left new rest) → length (old.pending ++ up.came) ≤ 65536 → IsAhead (to_come old left) rest
ahead_of_up old left new rest up few = record { taken = old.pending ++ up.came; few = omega arith; consumed = consumes_coming old.pending up.came left rest up.consumed }

pub cut_off : (old : Reading) (left : Option (List ℕ)) (new : Reading) (rest : Option (List ℕ)) → (up : GivesUp old left new rest) × (length (old.pending ++ up.came) < 65536) → IsCutOff (to_come old left) rest
cut_off old left new rest (up, few) = record { taken = old.pending ++ up.came; few = few; clean = up.clean; consumed = consumes_coming old.pending up.came left rest up.consumed }

consumes_none : (pending : List ℕ) (left rest : Option (List ℕ)) → pending ≡ [] → Keeps left rest → Consumes (prepend_known pending left) rest []
consumes_none pending None rest e k = tt
consumes_none pending (Some left) None e k = absurd k
consumes_none pending (Some left) (Some rest) e k = ap (λ bs. bs ++ left) e ∙ sym k

pub ahead_at_end : (old : Reading) (left : Option (List ℕ)) (new : Reading) (rest : Option (List ℕ)) → LineEnds old left new rest → IsAhead (to_come old left) rest
ahead_at_end old left new rest h = record { taken = []; few = omega arith; consumed = consumes_none old.pending left rest h.none_pending h.kept }

pub ahead_of_cut : (coming left : Option (List ℕ)) → IsCutOff coming left → IsAhead coming left
ahead_of_cut coming left h = record { taken = h.taken; few = omega (arith, h.few); consumed = h.consumed }

pub next_is_there : (coming rest : Option (List ℕ)) (line : List ℕ) → LosesLine coming line rest → HasNext coming
next_is_there None rest line h = tt
next_is_there (Some bytes) None line h = absurd h
next_is_there (Some bytes) (Some rest) line h = λ e. let first : lines_of bytes ≡ line ∷ lines_of rest = h.lines in absurd cc

pub given : (old : Reading) (left : Option (List ℕ)) (answer : Result (Option (Bor (List ℕ))) LineFault) (line : Bor (List ℕ)) (new : Reading) (rest : Option (List ℕ)) →
    answer ≡ Ok (Some line) → Moves old left answer new rest → GivesLine old left line.now new rest
given old left answer line new rest e h = subst (λ a. Moves old left a new rest) e h

pub short_line : (o : Option (Bor (List ℕ))) (line : Bor (List ℕ)) → o ≡ Some line → IfSome o (λ l. IsLine l.now) → length line.now ≤ 65535
short_line o line e h = let l : IsLine line.now = subst (λ (p : Option (Bor (List ℕ))). IfSome p (λ l. IsLine l.now)) e h in omega (arith, l.1)

-- ---- several turns

all_short : (lines more : List (List ℕ)) → AllShort lines → AllShort more → AllShort (lines ++ more)
all_short [] more h k = k
all_short (line ∷ lines) more h k = (h.0, all_short lines more h.1 k)

loses_lines : (inputs : List Values) (a b c : List ℕ) (rows more : List (List ℕ)) → TakesRows inputs a rows b → TakesRows inputs b more c → TakesRows inputs a (rows ++ more) c
loses_lines inputs a b c rows more h k = record {
  lines = h.lines ++ k.lines;
  cut = h.cut ∙ ap (λ ls. h.lines ++ ls) k.cut ∙ sym (append_assoc h.lines k.lines (lines_of c));
  short = all_short h.lines k.lines h.short k.short;
  read = map-append (row_text inputs) h.lines k.lines ∙ ap (λ read. read ++ map (row_text inputs) k.lines) h.read ∙ ap (λ read. map Ok rows ++ read) k.read ∙ sym (map-append Ok rows more);
  shorter = omega (arith, h.shorter, k.shorter, length-append rows more);
}

pub loses_both : (inputs : List Values) (a b c : Option (List ℕ)) (rows more : List (List ℕ)) → LosesRows inputs a rows b → LosesRows inputs b more c → LosesRows inputs a (rows ++ more) c
loses_both inputs None b c rows more h k = tt
loses_both inputs (Some a) None c rows more h k = absurd h
loses_both inputs (Some a) (Some b) None rows more h k = absurd k
loses_both inputs (Some a) (Some b) (Some c) rows more h k = loses_lines inputs a b c rows more h k

pub loses_none : (inputs : List Values) (a : Option (List ℕ)) → LosesRows inputs a [] a
loses_none inputs None = tt
loses_none inputs (Some a) = record { lines = []; cut = refl; read = refl; short = tt; shorter = omega arith }

pub ahead_of_coming : (pending : List ℕ) (left : Option (List ℕ)) → length pending ≤ 65536 → IsAhead (prepend_known pending left) left
ahead_of_coming pending None few = record { taken = pending; few = omega arith; consumed = tt }
ahead_of_coming pending (Some left) few = record { taken = pending; few = omega arith; consumed = refl }

-- the same loss, of a row that was written into a whole vector
pub loses_row : (shape inputs : List Values) (len : ℕ) (coming : Option (List ℕ)) (old new : List Cell) (r s : Reading) (left : Option (List ℕ)) →
    shape ≡ inputs → len ≡ length new → s ≡ r → LosesRows shape coming (row_of new ∷ []) (to_come r left) →
    LosesRows inputs coming (row_of (take len (new ++ drop (length new) old)) ∷ []) (to_come s left)
loses_row shape inputs len coming old new r s left same_shape whole same h =
    let a = subst (λ (types : List Values). LosesRows types coming (row_of new ∷ []) (to_come r left)) same_shape h in
    let b = subst (λ (row : List Cell). LosesRows inputs coming (row_of row ∷ []) (to_come r left)) (sym (written_back old new len whole)) a in
    subst (λ (reader : Reading). LosesRows inputs coming (row_of (take len (new ++ drop (length new) old)) ∷ []) (to_come reader left)) (sym same) b

-- the values of cells that hold values
pub row_of_cells : (row : List ℕ) → row_of (cells_of row) ≡ row
row_of_cells [] = refl
row_of_cells (v ∷ row) = ap (λ vs. v ∷ vs) (row_of_cells row)

pub loses_read : (shape : List Values) (coming rest : Option (List ℕ)) (line : List ℕ) (cells : List Cell) → LosesLine coming line rest → length line ≤ 65535 → IsRow shape line cells → LosesRows shape coming (row_of cells ∷ []) rest
loses_read shape coming rest line cells h s (row, read, is) = loses_one shape coming rest line (row_of cells) h s (read ∙ ap Ok (sym (ap row_of is ∙ row_of_cells row)))
