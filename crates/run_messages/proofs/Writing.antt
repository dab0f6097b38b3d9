-- Bytes that are written one piece after another.
use Rattle.std.proofs.Common.{◌≡◌, ℕ, ◌+◌, ◌-◌, List, [], ◌∷◌, ◌++◌, codes, refl, length, take, drop, ◌<◌, slice_index_or, Option, Result, Ok, Err, sym, subst, ap, ◌∙◌, arith, length-append}
use Rattle.std.specs.Result.{IsErrAnd}
use Rattle.std.proofs.lemmas.Result.{err_from_is_err_and}
use Rattle.std.specs.List.{flat_map}
use Rattle.std.proofs.lemmas.List.{take-append-le, take-append-drop, take_rest, drop_more}
use Rattle.std.proofs.lemmas.Grind.{flat_map-append}
use Rattle.std.proofs.Math.Seq.{take-append-add}
use Rattle.std.specs.Io.KnownBytes.{Appends}
use Rattle.hept_ast.specs.Texts.{Name}
use Rattle.hept_io.specs.declared.outside.Failed.{Failed}
use Rattle.trace_io.specs.OutputText.{AppendsPart}
use Rattle.trace_io.proofs.SinkBytes.{appends_both}
use Rattle.run_messages.specs.declared.end.End.{End}
use Rattle.run_messages.specs.declared.end.End.TheVariants.{Ended, Refused, Usage, File, BadRow, Limit, ReadFault, WriteFault, Memory}
use Rattle.run_messages.specs.Lines.{Writes, behind_space, end_text, line_of, spaced}

-- a part of the front is a part of the whole
part_of_front : (a b : Option (List ℕ)) (xs ys : List ℕ) → AppendsPart a b xs → AppendsPart a b (xs ++ ys)
part_of_front a b xs ys h = (
  h.0,
  omega (arith, h.1, length-append xs ys),
  subst (Appends a b) (sym (take-append-le h.0 xs ys (omega (arith, h.1)))) h.2,
)

-- so is a part of what is behind
part_behind : (a b c : Option (List ℕ)) (xs ys : List ℕ) → Appends a b xs → AppendsPart b c ys → AppendsPart a c (xs ++ ys)
part_behind a b c xs ys h k = (
  length xs + k.0,
  omega (arith, k.1, length-append xs ys),
  subst (Appends a c) (sym (take-append-add xs ys k.0)) (appends_both a b c xs (take k.0 ys) h k.2),
)

pub then_writes : (a b c : Option (List ℕ)) (xs ys : List ℕ) (r : Result (Unit {0}) Failed) → Appends a b xs → Writes r b c ys → Writes r a c (xs ++ ys)
then_writes a b c xs ys (Ok u) h k = appends_both a b c xs ys h k
then_writes a b c xs ys (Err e) h k = part_behind a b c xs ys h k

-- the first piece was written in part, and its failure is handed on
pub stops_in_front : (a b : Option (List ℕ)) (xs ys : List ℕ) (r : Result (Unit {0}) Failed) (e : Failed) → IsErrAnd r (λ y. y ≡ e) → AppendsPart a b xs → Writes r a b (xs ++ ys)
stops_in_front a b xs ys r e i h =
    let is = err_from_is_err_and r i in
    subst (λ (s : Result (Unit {0}) Failed). Writes s a b (xs ++ ys)) (sym (is.1 ∙ ap (λ x. Err x) is.2)) (part_of_front a b xs ys h)

-- what each of a list stands for, in its order: the front, one more, and those behind
split_at : {X : Type 0} (f : X → List ℕ) (xs : List X) (i : ℕ) (x : X) → i < length xs → flat_map f (take i xs) ++ (f (slice_index_or xs i x) ++ flat_map f (drop (i + 1) xs)) ≡ flat_map f xs
split_at f xs i x below =
    sym (flat_map-append f (take i xs) (slice_index_or xs i x ∷ drop (i + 1) xs)) ∙ ap (λ ys. flat_map f (take i xs ++ ys)) (sym (drop_more xs i x below)) ∙ ap (flat_map f) (take-append-drop i xs)

-- those in front of one were written, and it in part
pub stops_among : {X : Type 0} (f : X → List ℕ) (xs : List X) (i : ℕ) (x : X) (a b c : Option (List ℕ)) (r : Result (Unit {0}) Failed) (e : Failed)
    → i < length xs → x ≡ slice_index_or xs i x → Appends a b (flat_map f (take i xs)) → AppendsPart b c (f x) → IsErrAnd r (λ y. y ≡ e) → Writes r a c (flat_map f xs)
stops_among f xs i x a b c r e below same h part is =
    subst (Writes r a c) (split_at f xs i x below)
    (then_writes a b c (flat_map f (take i xs)) (f (slice_index_or xs i x) ++ flat_map f (drop (i + 1) xs)) r h
    (stops_in_front b c (f (slice_index_or xs i x)) (flat_map f (drop (i + 1) xs)) r e is (subst (λ y. AppendsPart b c (f y)) same part)))

-- the first of some names was written, and then the others
pub first_written : (xs : List Name) (x : Name) (a b c : Option (List ℕ)) (r : Result (Unit {0}) Failed) → 0 < length xs → x ≡ slice_index_or xs 0 x → Appends a b x → Writes r b c (flat_map behind_space (take (length xs - 1) (drop 1 xs))) → Writes r a c (spaced xs)
first_written [] x a b c r below same h k = absurd (omega (arith, below))
first_written (y ∷ ys) x a b c r below same h k = subst (λ z. Writes r a c (z ++ flat_map behind_space ys)) same (then_writes a b c x (flat_map behind_space ys) r h (subst (λ zs. Writes r b c (flat_map behind_space zs)) (take_rest (y ∷ ys) 1) k))

-- the text of the same thing
pub text_as : {T : Type 0} (text : T → List ℕ) (x y : T) (r : Result (Unit {0}) Failed) (a b : Option (List ℕ)) → x ≡ y → Writes r a b (text y) → Writes r a b (text x)
text_as text x y r a b e h = subst (λ z. Writes r a b (text z)) (sym e) h

-- the line of a run that stopped
pub stopped_line : (end : End) → (end ≡ Ended → ⊥) → codes "hepasync: " ++ (end_text end ++ 10 ∷ []) ≡ line_of end
stopped_line Ended h = absurd (h refl)
stopped_line (Refused refusal) h = refl
stopped_line Usage h = refl
stopped_line (File fault) h = refl
stopped_line (BadRow line fault) h = refl
stopped_line (Limit rows) h = refl
stopped_line ReadFault h = refl
stopped_line WriteFault h = refl
stopped_line Memory h = refl
