-- The text of a row, value by value.
use Rattle.std.proofs.Common.{◌≡◌, ℕ, ◌+◌, ◌<◌, ◌≤◌, suc, zero, Bool, true, false, cond, eqb, List, [], ◌∷◌, ◌++◌, length, take, drop, get_or, sym, refl, ap, ◌∙◌, subst, arith, append_assoc}
use Rattle.std.specs.List.{join_with_byte}
use Rattle.std.proofs.lemmas.List.{take_more, take_all}
use Rattle.std.proofs.lemmas.Bool.Decides.{nat_tests}
use Rattle.step_objects.specs.declared.shape.Values.{Values}
use Rattle.step_objects.specs.declared.shape.Values.TheVariants.{Constructors}
use Rattle.step_cells.specs.declared.cell.Cell.{Cell}
use Rattle.step_cells.specs.declared.cell.Cell.TheVariants.{Value, Ready, Held}
use Rattle.step_objects.specs.Shapes.{FitsShape, IsValueOf, value_count}
use Rattle.step_cells.specs.Cells.{row_of, value_in}
use Rattle.trace_io.specs.OutputText.{value_text, value_texts, row_line, longest, widest, widest_row}

-- the byte between texts and a further one
abbrev gap : List (List ℕ) → List ℕ
gap [] = []
gap (x ∷ xs) = 32 ∷ []

join_push : (xs : List (List ℕ)) (y : List ℕ) → join_with_byte 32 (xs ++ y ∷ []) ≡ join_with_byte 32 xs ++ (gap xs ++ y)
join_push [] y = refl
join_push (x ∷ []) y = refl
join_push (x ∷ next ∷ xs) y = ap (λ zs. x ++ (32 ∷ zs)) (join_push (next ∷ xs) y) ∙ sym (append_assoc x (32 ∷ join_with_byte 32 (next ∷ xs)) (32 ∷ y))

gap_is : (texts : List (List ℕ)) (k : ℕ) → k < length texts → gap (take k texts) ≡ cond (eqb k 0) [] (32 ∷ [])
gap_is [] k l = absurd (omega arith)
gap_is (t ∷ ts) zero l = refl
gap_is (t ∷ ts) (suc k) l = let e : eqb (suc k) 0 ≡ false = grind (arith, nat_tests) in rw e

-- the text of the first values of a row
abbrev pub front_text : List Values → List Cell → ℕ → List ℕ
front_text shape cells k = join_with_byte 32 (take k (value_texts shape (row_of cells)))

pub fits_length : (shape : List Values) (cells : List Cell) → FitsShape shape cells → length cells ≡ length shape
fits_length [] [] h = refl
fits_length [] (c ∷ cs) h = absurd h
fits_length (t ∷ ts) [] h = absurd h
fits_length (t ∷ ts) (c ∷ cs) h = ap suc (fits_length ts cs h.1)

texts_length : (shape : List Values) (cells : List Cell) → FitsShape shape cells → length (value_texts shape (row_of cells)) ≡ length shape
texts_length [] [] h = refl
texts_length [] (c ∷ cs) h = absurd h
texts_length (t ∷ ts) [] h = absurd h
texts_length (t ∷ ts) (c ∷ cs) h = ap suc (texts_length ts cs h.1)

text_at : (shape : List Values) (cells : List Cell) (k : ℕ) (t : Values) (c : Cell) → FitsShape shape cells → k < length shape →
    get_or (value_texts shape (row_of cells)) k [] ≡ value_text (get_or shape k t) (value_in (get_or cells k c))
text_at [] cells k t c h l = absurd (omega arith)
text_at (s ∷ ts) [] k t c h l = absurd h
text_at (s ∷ ts) (d ∷ cs) zero t c h l = refl
text_at (s ∷ ts) (d ∷ cs) (suc k) t c h l = text_at ts cs k t c h.1 (omega arith)

value_is : (t : Values) (c : Cell) → IsValueOf t c → value_in c < value_count t
value_is t (Value v) h = h
value_is t (Ready v) h = absurd h
value_is t (Held handle) h = absurd h

pub value_at : (shape : List Values) (cells : List Cell) (k : ℕ) (t : Values) (c : Cell) → FitsShape shape cells → k < length shape → value_in (get_or cells k c) < value_count (get_or shape k t)
value_at [] cells k t c h l = absurd (omega arith)
value_at (s ∷ ts) [] k t c h l = absurd h
value_at (s ∷ ts) (d ∷ cs) zero t c h l = value_is s d h.0
value_at (s ∷ ts) (d ∷ cs) (suc k) t c h l = value_at ts cs k t c h.1 (omega arith)

pub next_value : (shape : List Values) (cells : List Cell) (k : ℕ) (t : Values) (c : Cell) → FitsShape shape cells → k < length shape →
    front_text shape cells (k + 1) ≡ front_text shape cells k ++ cond (eqb k 0) [] (32 ∷ []) ++ value_text (get_or shape k t) (value_in (get_or cells k c))
next_value shape cells k t c h l =
    let texts = value_texts shape (row_of cells) in
    let within : k < length texts = omega (arith, texts_length shape cells h) in
    ap (join_with_byte 32) (take_more texts k [] within)
    ∙ join_push (take k texts) (get_or texts k [])
    ∙ ap (λ between. front_text shape cells k ++ (between ++ get_or texts k [])) (gap_is texts k within)
    ∙ ap (λ text. front_text shape cells k ++ (cond (eqb k 0) [] (32 ∷ []) ++ text)) (text_at shape cells k t c h l)
    ∙ sym (append_assoc (front_text shape cells k) (cond (eqb k 0) [] (32 ∷ [])) (value_text (get_or shape k t) (value_in (get_or cells k c))))

pub whole_row : (shape : List Values) (cells : List Cell) (k : ℕ) → FitsShape shape cells → length shape ≤ k → front_text shape cells k ++ 10 ∷ [] ≡ row_line shape (row_of cells)
whole_row shape cells k h l = ap (λ texts. join_with_byte 32 texts ++ 10 ∷ []) (take_all k (value_texts shape (row_of cells)) (omega (arith, texts_length shape cells h)))

-- what is left of the room of a row
pub room_left : (shape : List Values) (k : ℕ) (t : Values) → k < length shape → widest_row (drop k shape) ≡ widest (get_or shape k t) + 1 + widest_row (drop (k + 1) shape)
room_left [] k t l = absurd (omega arith)
room_left (s ∷ ts) zero t l = refl
room_left (s ∷ ts) (suc k) t l = room_left ts k t (omega arith) ∙ let e : suc (k + 1) ≡ suc k + 1 = omega arith in ap (λ n. widest (get_or ts k t) + 1 + widest_row (drop n (s ∷ ts))) e

pub some_left : (shape : List Values) → 1 ≤ widest_row shape
some_left [] = omega arith
some_left (t ∷ ts) = omega (arith, some_left ts)

pub longest_at : (names : List (List ℕ)) (k : ℕ) (d : List ℕ) → k < length names → length (get_or names k d) ≤ longest names
longest_at [] k d l = absurd (omega arith)
longest_at (c ∷ cs) zero d l = omega arith
longest_at (c ∷ cs) (suc k) d l = omega (arith, longest_at cs k d (omega arith))

pub name_within : (values : Values) (names list : List (List ℕ)) (v : ℕ) (item bytes : List ℕ) → values ≡ Constructors names → list ≡ names → item ≡ get_or list v item → bytes ≡ item → v < value_count values → length bytes ≤ widest values
name_within values names list v item bytes is same at e l =
    let within : v < length names = subst (λ (t : Values). v < value_count t) is l in
    let most : length (get_or names v item) ≤ longest names = longest_at names v item within in
    let text : bytes ≡ get_or names v item = e ∙ at ∙ ap (λ xs. get_or xs v item) same in
    subst (λ (t : Values). length bytes ≤ widest t) (sym is) (subst (λ (text : List ℕ). length text ≤ longest names) (sym text) most)

-- ---- one more value

pub value_fits : (shape : List Values) (cells : List Cell) (k : ℕ) (t : Values) (c : Cell) (v : ℕ) → FitsShape shape cells → k < length shape → t ≡ get_or shape k t → v ≡ value_in (get_or cells k c) → v < value_count t
value_fits shape cells k t c v h l type value = subst (λ (s : Values). v < value_count s) (sym type) (subst (λ (n : ℕ). n < value_count (get_or shape k t)) (sym value) (value_at shape cells k t c h l))

pub one_more : (shape : List Values) (cells : List Cell) (k : ℕ) (t : Values) (c : Cell) (v : ℕ) (text new : List ℕ) → FitsShape shape cells → k < length shape → t ≡ get_or shape k t → v ≡ value_in (get_or cells k c) →
    text ≡ front_text shape cells k → new ≡ text ++ cond (eqb k 0) [] (32 ∷ []) ++ value_text t v → new ≡ front_text shape cells (k + 1)
one_more shape cells k t c v text new h l type value front e =
    e ∙ ap (λ text. text ++ cond (eqb k 0) [] (32 ∷ []) ++ value_text t v) front
    ∙ ap (λ s. front_text shape cells k ++ cond (eqb k 0) [] (32 ∷ []) ++ value_text s v) type
    ∙ ap (λ n. front_text shape cells k ++ cond (eqb k 0) [] (32 ∷ []) ++ value_text (get_or shape k t) n) value
    ∙ sym (next_value shape cells k t c h l)

room_next : (k new old w left more all : ℕ) → new + cond (eqb k 0) 1 0 ≤ old + w + 1 → old + cond (eqb k 0) 0 1 + left ≤ all → left ≡ w + 1 + more → new + cond (eqb (k + 1) 0) 0 1 + more ≤ all
room_next k new old w left more all h i r =
    let e : eqb (k + 1) 0 ≡ false = grind (arith, nat_tests) in
    subst (λ (b : Bool). new + cond b 0 1 + more ≤ all) (sym e) ((elim (eqb k 0) as (λ b. new + cond b 1 0 ≤ old + w + 1 → old + cond b 0 1 + left ≤ all → new + 1 + more ≤ all) [
      | true ↦ λ h i. omega (arith, r)
      | false ↦ λ h i. omega (arith, r)
    ]) h i)

pub room_kept : (shape : List Values) (k : ℕ) (t : Values) (new old : ℕ) → k < length shape → t ≡ get_or shape k t → new + cond (eqb k 0) 1 0 ≤ old + widest t + 1 →
    old + cond (eqb k 0) 0 1 + widest_row (drop k shape) ≤ widest_row shape → new + cond (eqb (k + 1) 0) 0 1 + widest_row (drop (k + 1) shape) ≤ widest_row shape
room_kept shape k t new old l type h i = room_next k new old (widest t) (widest_row (drop k shape)) (widest_row (drop (k + 1) shape)) (widest_row shape) h i (room_left shape k t l ∙ ap (λ s. widest s + 1 + widest_row (drop (k + 1) shape)) (sym type))
