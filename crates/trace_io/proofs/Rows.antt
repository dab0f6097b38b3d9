-- How far a line has been read into a row.
use Rattle.std.proofs.Common.{◌≡◌, ℕ, ◌+◌, ◌<◌, ◌≤◌, suc, zero, false, List, [], ◌∷◌, ◌++◌, length, take, drop, set, get_or, Some, None, Result, Ok, Err, sym, refl, ap, ◌∙◌, arith, append_assoc}
use Rattle.std.proofs.Math.ListN.{drop_of_length-le}
use Rattle.std.proofs.lemmas.List.{take_all, take_more_set, map-append, append-nil}
use Rattle.step_objects.specs.declared.shape.Values.{Values}
use Rattle.step_cells.specs.declared.cell.Cell.{Cell}
use Rattle.step_cells.specs.declared.cell.Cell.TheVariants.{Value}
use Rattle.step_cells.specs.Cells.{cells_of}
use Rattle.trace_io.specs.RowText.{IsRow, is_blank, Word, word_at, words_from, word_value, with_value, row_from, row_text}
use Rattle.trace_io.specs.declared.row_text.RowFault.{RowFault}
use Rattle.trace_io.specs.declared.row_text.RowFault.TheVariants.{TooFew, TooMany, BadValue}
use Rattle.trace_io.proofs.LineWords.{begins_there}

-- values, and then a row that was read
abbrev pub after : List ℕ → Result (List ℕ) RowFault → Result (List ℕ) RowFault
after kept (Ok row) = Ok (kept ++ row)
after kept (Err e) = Err e

-- the first cells of `out` hold the values of the words before a place of the line
pub record Progress (shape : List Values) (line : List ℕ) (out : List Cell) (kept at : ℕ) : Type 0 where
  pub values : List ℕ
  pub front : take kept out ≡ cells_of values
  pub rest : row_text shape line ≡ after values (row_from (drop kept shape) kept (words_from at (drop at line)))
  pub within : at ≤ length line
  pub start : at < length line → is_blank (get_or line at 0) ≡ false

-- nothing has been read
same_after : (r : Result (List ℕ) RowFault) → r ≡ after [] r
same_after (Ok row) = refl
same_after (Err e) = refl

pub nothing : (shape : List Values) (line : List ℕ) (out : List Cell) (at : ℕ) → words_from at (drop at line) ≡ words_from 0 (drop 0 line) → at ≤ length line → (at < length line → is_blank (get_or line at 0) ≡ false) → Progress shape line out 0 at
nothing shape line out at e within start = record {
  values = [];
  front = refl;
  rest = ap (row_from shape 0) (sym e) ∙ same_after (row_from shape 0 (words_from at (drop at line)));
  within = within;
  start = start;
}

-- the type of the next cell
pub next_type : (shape : List Values) (kept : ℕ) (d : Values) → kept < length shape → drop kept shape ≡ get_or shape kept d ∷ drop (kept + 1) shape
next_type [] kept d l = absurd (omega arith)
next_type (t ∷ ts) zero d l = refl
next_type (t ∷ ts) (suc k) d l = next_type ts k d (omega arith) ∙ let e : suc (k + 1) ≡ suc k + 1 = omega arith in ap (λ n. get_or ts k d ∷ drop n (t ∷ ts)) e

-- the words end early
pub few : (shape : List Values) (line : List ℕ) (out : List Cell) (kept at : ℕ) (d : Values) → Progress shape line out kept at → kept < length shape → length line ≤ at → row_text shape line ≡ Err (TooFew kept)
few shape line out kept at d p l end =
    p.rest
    ∙ ap (λ ts. after p.values (row_from ts kept (words_from at (drop at line)))) (next_type shape kept d l)
    ∙ ap (λ bs. after p.values (row_from (get_or shape kept d ∷ drop (kept + 1) shape) kept (words_from at bs))) (drop_of_length-le line end)

-- a word is no value
pub bad : (shape : List Values) (line : List ℕ) (out : List Cell) (kept at : ℕ) (d : Values) (bs : List ℕ) (ws : List Word) → Progress shape line out kept at → kept < length shape → words_from at (drop at line) ≡ word_at at bs ∷ ws →
    word_value (get_or shape kept d) bs ≡ None → row_text shape line ≡ Err (BadValue at)
bad shape line out kept at d bs ws p l e v =
    p.rest
    ∙ ap (λ ts. after p.values (row_from ts kept (words_from at (drop at line)))) (next_type shape kept d l)
    ∙ ap (λ words. after p.values (row_from (get_or shape kept d ∷ drop (kept + 1) shape) kept words)) e
    ∙ ap (λ value. after p.values (with_value (word_at at bs) value (row_from (drop (kept + 1) shape) (kept + 1) ws))) v

after_one : (kept : List ℕ) (w : Word) (v : ℕ) (r : Result (List ℕ) RowFault) → after kept (with_value w (Some v) r) ≡ after (kept ++ v ∷ []) r
after_one kept w v (Ok row) = ap Ok (sym (append_assoc kept (v ∷ []) row))
after_one kept w v (Err e) = refl

pub one_read : (shape : List Values) (line : List ℕ) (out : List Cell) (kept at next : ℕ) (t : Values) (bs : List ℕ) (ws : List Word) (v : ℕ) → Progress shape line out kept at → kept < length shape → length out ≡ length shape → t ≡ get_or shape kept t →
    words_from at (drop at line) ≡ word_at at bs ∷ ws → word_value t bs ≡ Some v → words_from next (drop next line) ≡ ws →
    next ≤ length line → (next < length line → is_blank (get_or line next 0) ≡ false) → Progress shape line (set out kept (Value v)) (kept + 1) next
one_read shape line out kept at next t bs ws v p l same type e value n within start = record {
  values = p.values ++ v ∷ [];
  front = take_more_set out kept (Value v) (omega arith) ∙ ap (λ front. front ++ Value v ∷ []) p.front ∙ sym (map-append Value p.values (v ∷ []));
  rest =
      p.rest
      ∙ ap (λ ts. after p.values (row_from ts kept (words_from at (drop at line)))) (next_type shape kept t l)
      ∙ ap (λ words. after p.values (row_from (get_or shape kept t ∷ drop (kept + 1) shape) kept words)) e
      ∙ ap (λ t. after p.values (with_value (word_at at bs) (word_value t bs) (row_from (drop (kept + 1) shape) (kept + 1) ws))) (sym type)
      ∙ ap (λ read. after p.values (with_value (word_at at bs) read (row_from (drop (kept + 1) shape) (kept + 1) ws))) value
      ∙ after_one p.values (word_at at bs) v (row_from (drop (kept + 1) shape) (kept + 1) ws)
      ∙ ap (λ words. after (p.values ++ v ∷ []) (row_from (drop (kept + 1) shape) (kept + 1) words)) (sym n);
  within = within;
  start = start;
}

-- all cells are read
pub many : (shape : List Values) (line : List ℕ) (out : List Cell) (kept at : ℕ) → Progress shape line out kept at → length shape ≤ kept → at < length line → row_text shape line ≡ Err (TooMany at)
many shape line out kept at p e l =
    p.rest
    ∙ ap (λ ts. after p.values (row_from ts kept (words_from at (drop at line)))) (drop_of_length-le shape e)
    ∙ ap (λ words. after p.values (row_from [] kept words)) (begins_there line at l (p.start l))

pub all_read : (shape : List Values) (line : List ℕ) (out : List Cell) (kept at : ℕ) → Progress shape line out kept at → length shape ≤ kept → length out ≡ length shape → length line ≤ at → IsRow shape line out
all_read shape line out kept at p e same l = (
  p.values,
  p.rest
      ∙ ap (λ ts. after p.values (row_from ts kept (words_from at (drop at line)))) (drop_of_length-le shape e)
      ∙ ap (λ bs. after p.values (row_from [] kept (words_from at bs))) (drop_of_length-le line l)
      ∙ ap Ok (append-nil p.values),
  sym (take_all kept out (omega arith)) ∙ p.front,
)
