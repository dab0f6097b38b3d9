-- The names of the calls that were not seen done, as the book grows and calls are seen done.
use Rattle.std.proofs.Common.{◌≡◌, ◌≢◌, ℕ, zero, suc, ◌+◌, ◌<◌, ◌≤◌, Bool, true, false, cond, eqb, ltb, List, [], ◌∷◌, ◌++◌, length, get_or, slice_index, set, take, drop, sym, refl, ap, ◌∙◌, subst, arith, append_assoc, append-nil, length-append, eq-eqb, ne_eqb, get_or-set_other, get_or-set_same}
use Rattle.std.specs.Prelude.{filter}
use Rattle.std.proofs.lemmas.List.{map-append, drop_more}
use Rattle.std.proofs.lemmas.List.Elements.{filter-append, filter_more}
use Rattle.std.proofs.lemmas.Bool.{lt-ltb, le-ltb}
use mathlib.Core.Option.{some, some-injective, some-ne-none}
use mathlib.Core.Logic.{dite}
use native.Mathlib.Decide.{ℕ_discrete, dec_le}
use lib.ListN.{get_elem?}
use Rattle.owner_pool.specs.declared.pool.Name.{Name}
use Rattle.owner_pool.specs.Counted.{one_if, times}
use Rattle.owner_pool.specs.Noting.{Call, pick, is_of, has_slot, calls, issued, named_by, call_names, names_after, is_unseen, unseen, waits_still, slots_of, IsUnnamed}

pub times-append : (s : ℕ) (xs ys : List ℕ) → times s (xs ++ ys) ≡ times s xs + times s ys
times-append s [] ys = omega arith
times-append s (x ∷ xs) ys = let r = times-append s xs ys in omega arith

one_at_most : (b : Bool) → one_if b ≤ 1
one_at_most true = omega arith
one_at_most false = omega arith

pub times_few : (s : ℕ) (xs : List ℕ) → times s xs ≤ length xs
times_few s [] = omega arith
times_few s (x ∷ xs) = let r = times_few s xs in let o = one_at_most (eqb x s) in omega arith

pub times_first : (s : ℕ) (xs : List ℕ) → times s (s ∷ xs) ≡ 1 + times s xs
times_first s xs = let e = ap one_if (eq-eqb s s refl) in omega arith

pub slots_of-append : (xs ys : List Name) → slots_of (xs ++ ys) ≡ slots_of xs ++ slots_of ys
slots_of-append xs ys = map-append (λ n. n.slot) xs ys

-- the picked calls of a longer book
pub pick_hit : (p : Call → Bool) (cs : List Call) (c : Call) → p c ≡ true → pick p (cs ++ c ∷ []) ≡ pick p cs ++ c ∷ []
pick_hit p [] c is = ap (λ (b : Bool). cond b (c ∷ []) []) is
pick_hit p (x ∷ xs) c is = by (pick_hit p xs c is) (p x)
  where
    by : pick p (xs ++ c ∷ []) ≡ pick p xs ++ c ∷ [] → (b : Bool) → cond b (x ∷ pick p (xs ++ c ∷ [])) (pick p (xs ++ c ∷ [])) ≡ cond b (x ∷ pick p xs) (pick p xs) ++ c ∷ []
    by r true = ap (λ (l : List Call). x ∷ l) r
    by r false = r

pub pick_miss : (p : Call → Bool) (cs : List Call) (c : Call) → p c ≡ false → pick p (cs ++ c ∷ []) ≡ pick p cs
pick_miss p [] c is = ap (λ (b : Bool). cond b (c ∷ []) []) is
pick_miss p (x ∷ xs) c is = let r = pick_miss p xs c is in λ i. cond (p x) (x ∷ r i) (r i)

pub length-calls_hit : (i : ℕ) (cs : List Call) (c : Call) → c.instance ≡ i → length (calls i (cs ++ c ∷ [])) ≡ length (calls i cs) + 1
length-calls_hit i cs c is = ap length (pick_hit (is_of i) cs c (eq-eqb c.instance i is)) ∙ length-append (calls i cs) (c ∷ [])

pub length-calls_miss : (i : ℕ) (cs : List Call) (c : Call) → c.instance ≢ i → length (calls i (cs ++ c ∷ [])) ≡ length (calls i cs)
length-calls_miss i cs c is = ap length (pick_miss (is_of i) cs c (ne_eqb c.instance i is))

pub length-issued_hit : (s : ℕ) (cs : List Call) (c : Call) → c.slot ≡ s → length (issued s (cs ++ c ∷ [])) ≡ length (issued s cs) + 1
length-issued_hit s cs c is = ap length (pick_hit (has_slot s) cs c (eq-eqb c.slot s is)) ∙ length-append (issued s cs) (c ∷ [])

pub length-issued_miss : (s : ℕ) (cs : List Call) (c : Call) → c.slot ≢ s → length (issued s (cs ++ c ∷ [])) ≡ length (issued s cs)
length-issued_miss s cs c is = ap length (pick_miss (has_slot s) cs c (ne_eqb c.slot s is))

-- the names of one call stay or go together
pub all_unseen : (seen : List ℕ) (i n : ℕ) (slots : List ℕ) → slice_index seen i < n → filter (is_unseen seen) (named_by i n slots) ≡ named_by i n slots
all_unseen seen i n [] later = refl
all_unseen seen i n (s ∷ ss) later =
    ap (λ (b : Bool). cond b (record { instance = i; number = n; slot = s } ∷ filter (is_unseen seen) (named_by i n ss)) (filter (is_unseen seen) (named_by i n ss))) (lt-ltb (slice_index seen i) n later)
    ∙ ap (λ (l : List Name). record { instance = i; number = n; slot = s } ∷ l) (all_unseen seen i n ss later)

pub none_unseen : (seen : List ℕ) (i n : ℕ) (slots : List ℕ) → n ≤ slice_index seen i → filter (is_unseen seen) (named_by i n slots) ≡ []
none_unseen seen i n [] done = refl
none_unseen seen i n (s ∷ ss) done =
    ap (λ (b : Bool). cond b (record { instance = i; number = n; slot = s } ∷ filter (is_unseen seen) (named_by i n ss)) (filter (is_unseen seen) (named_by i n ss))) (le-ltb (slice_index seen i) n done)
    ∙ none_unseen seen i n ss done

pub slots_of-named_by : (i n : ℕ) (slots : List ℕ) → slots_of (named_by i n slots) ≡ slots
slots_of-named_by i n [] = refl
slots_of-named_by i n (s ∷ ss) = ap (λ (l : List ℕ). s ∷ l) (slots_of-named_by i n ss)

pub length-named_by : (i n : ℕ) (slots : List ℕ) → length (named_by i n slots) ≡ length slots
length-named_by i n [] = refl
length-named_by i n (s ∷ ss) = let r = length-named_by i n ss in omega arith

pub length-slots_of : (ns : List Name) → length (slots_of ns) ≡ length ns
length-slots_of [] = refl
length-slots_of (n ∷ ns) = let r = length-slots_of ns in omega arith

-- a count above 0 is that of a slot that there is
pub within : (l : List ℕ) (i : ℕ) → 0 < slice_index l i → i < length l
within [] i high = absurd (omega arith)
within (x ∷ xs) zero high = omega arith
within (x ∷ xs) (suc i) high = let r = within xs i high in omega arith

-- the next element of a list, in a pass through it
pub next_drop : (l : List Name) (i : ℕ) (x : Name) → i < length l → x ≡ get_or l i x → drop i l ≡ x ∷ drop (i + 1) l
next_drop l i x near is = drop_more l i x near ∙ ap (λ (y : Name). y ∷ drop (i + 1) l) (sym is)

pub next_kept : (p : Name → Bool) (l : List Name) (i : ℕ) (x : Name) → i < length l → x ≡ get_or l i x → filter p (take (i + 1) l) ≡ filter p (take i l) ++ cond (p x) (x ∷ []) []
next_kept p l i x near is = filter_more p l i x near ∙ ap (λ (y : Name). filter p (take i l) ++ cond (p y) (y ∷ []) []) (sym is)

pub pass_gone : (p : Name → Bool) (l : List Name) (i z : ℕ) (x : Name) → i < length l → x ≡ get_or l i x → p x ≡ false → times z (slots_of (filter p (take (i + 1) l))) ≡ times z (slots_of (filter p (take i l)))
pass_gone p l i z x near is gone = ap (λ (m : List Name). times z (slots_of m)) (next_kept p l i x near is ∙ (ap (λ (b : Bool). filter p (take i l) ++ cond b (x ∷ []) []) gone ∙ append-nil (filter p (take i l))))

pub pass_kept : (p : Name → Bool) (l : List Name) (i z : ℕ) (x : Name) → i < length l → x ≡ get_or l i x → p x ≡ true → times z (slots_of (filter p (take (i + 1) l))) ≡ times z (slots_of (filter p (take i l))) + one_if (eqb x.slot z)
pass_kept p l i z x near is kept =
    let one = ap (λ (m : List Name). times z (slots_of m)) (next_kept p l i x near is ∙ ap (λ (b : Bool). filter p (take i l) ++ cond b (x ∷ []) []) kept) in
    let two = ap (times z) (slots_of-append (filter p (take i l)) (x ∷ [])) ∙ times-append z (slots_of (filter p (take i l))) (x.slot ∷ []) in omega arith

pub pass_rest : (l : List Name) (i z : ℕ) (x : Name) → i < length l → x ≡ get_or l i x → times z (slots_of (drop i l)) ≡ one_if (eqb x.slot z) + times z (slots_of (drop (i + 1) l))
pass_rest l i z x near is = ap (λ (m : List Name). times z (slots_of m)) (next_drop l i x near is)

-- one call more
names_push : (cs before : List Call) (c : Call) → names_after before (cs ++ c ∷ []) ≡ names_after before cs ++ call_names (length (calls c.instance (before ++ cs)) + 1) c
names_push [] before c = append-nil (call_names (length (calls c.instance before) + 1) c) ∙ ap (λ (l : List Call). call_names (length (calls c.instance l) + 1) c) (sym (append-nil before))
names_push (x ∷ xs) before c =
    let first : List Name = call_names (length (calls x.instance before) + 1) x in
    let r = names_push xs (before ++ x ∷ []) c in
    let moved : (before ++ x ∷ []) ++ xs ≡ before ++ x ∷ xs = append_assoc before (x ∷ []) xs in
    ap (λ (l : List Name). first ++ l) (r ∙ ap (λ (l : List Call). names_after (before ++ x ∷ []) xs ++ call_names (length (calls c.instance l) + 1) c) moved)
    ∙ sym (append_assoc first (names_after (before ++ x ∷ []) xs) (call_names (length (calls c.instance (before ++ x ∷ xs)) + 1) c))

pub unseen_push : (seen : List ℕ) (book : List Call) (c : Call) → slice_index seen c.instance ≤ length (calls c.instance book) → unseen seen (book ++ c ∷ []) ≡ unseen seen book ++ call_names (length (calls c.instance book) + 1) c
unseen_push seen book c low =
    ap (filter (is_unseen seen)) (names_push book [] c)
    ∙ (filter-append (is_unseen seen) (names_after [] book) (call_names (length (calls c.instance book) + 1) c)
    ∙ ap (λ (l : List Name). unseen seen book ++ l) (all_unseen seen c.instance (length (calls c.instance book) + 1) (c.slot ∷ c.inputs) (omega arith)))

-- two filters one after the other
filter_twice : (p q r : Name → Bool) → ((n : Name) → cond (p n) (q n) false ≡ r n) → (ns : List Name) → filter q (filter p ns) ≡ filter r ns
filter_twice p q r both [] = refl
filter_twice p q r both (n ∷ ns) = by (filter_twice p q r both ns) (p n) (both n)
  where
    by : filter q (filter p ns) ≡ filter r ns → (b : Bool) → cond b (q n) false ≡ r n → filter q (cond b (n ∷ filter p ns) (filter p ns)) ≡ cond (r n) (n ∷ filter r ns) (filter r ns)
    by rest true same = λ i. cond (same i) (n ∷ rest i) (rest i)
    by rest false none = rest ∙ ap (λ (b : Bool). cond b (n ∷ filter r ns) (filter r ns)) none

neither : (b : Bool) → cond b false false ≡ false
neither true = refl
neither false = refl

itself : (b : Bool) → cond b true false ≡ b
itself true = refl
itself false = refl

-- more calls seen done
pub unseen_less : (seen : List ℕ) (book : List Call) (i done : ℕ) → i < length seen → slice_index seen i ≤ done → filter (waits_still i done) (unseen seen book) ≡ unseen (set seen i done) book
unseen_less seen book i done near low = filter_twice (is_unseen seen) (waits_still i done) (is_unseen (set seen i done)) both (names_after [] book)
  where
    both : (n : Name) → cond (is_unseen seen n) (waits_still i done n) false ≡ is_unseen (set seen i done) n
    both n = dite (ℕ_discrete n.instance i)
        (λ same.
        let now : slice_index (set seen i done) n.instance ≡ done = ap (slice_index (set seen i done)) same ∙ get_or-set_same seen i done 0 near in
        let was : slice_index seen n.instance ≡ slice_index seen i = ap (slice_index seen) same in
        let still : waits_still i done n ≡ ltb done n.number = ap (λ (b : Bool). cond b (ltb done n.number) true) (eq-eqb n.instance i same) in
        let goal_is : is_unseen (set seen i done) n ≡ ltb done n.number = ap (λ (k : ℕ). ltb k n.number) now in
        dite (dec_le n.number done)
        (λ le.
        let no : ltb done n.number ≡ false = le-ltb done n.number le in
        ap (λ (b : Bool). cond (is_unseen seen n) b false) (still ∙ no) ∙ (neither (is_unseen seen n) ∙ sym (goal_is ∙ no)))
        (λ gt.
        let yes : is_unseen seen n ≡ true = lt-ltb (slice_index seen n.instance) n.number (omega arith) in
        ap (λ (b : Bool). cond b (waits_still i done n) false) yes ∙ (still ∙ sym goal_is)))
        (λ other.
        let now : slice_index (set seen i done) n.instance ≡ slice_index seen n.instance = get_or-set_other seen i n.instance done 0 other in
        let still : waits_still i done n ≡ true = ap (λ (b : Bool). cond b (ltb done n.number) true) (ne_eqb n.instance i other) in
        ap (λ (b : Bool). cond (is_unseen seen n) b false) still ∙ (itself (is_unseen seen n) ∙ sym (ap (λ (k : ℕ). ltb k n.number) now)))

-- the first of a list, or a later one
either_at : (l : List Call) (x c : Call) (n : ℕ) (Q : Type 0) → get_elem? (x ∷ l) n ≡ some c → (n ≡ 0 → x ≡ c → Q) → ((m : ℕ) → n ≡ m + 1 → get_elem? l m ≡ some c → Q) → Q
either_at l x c zero Q at here later = here refl (some-injective x c at)
either_at l x c (suc m) Q at here later = later m (omega arith) at

-- a slot that no name of a call not seen done has
module _ (s : ℕ) (seen : List ℕ) where
  abbrev Others : Call → Type 0
  Others c = (c.slot ≢ s) × (times s c.inputs ≡ 0)

  others_of : (i n : ℕ) (c : Call) → slice_index seen c.instance < n → times s (slots_of (filter (is_unseen seen) (call_names n c))) ≡ 0 → Others c
  others_of i n c later none =
      let all = ap (λ (l : List Name). times s (slots_of l)) (all_unseen seen c.instance n (c.slot ∷ c.inputs) later) ∙ ap (times s) (slots_of-named_by c.instance n (c.slot ∷ c.inputs)) in
      (λ is. absurd (let e = ap one_if (eq-eqb c.slot s is) in omega arith), omega arith)

  unnamed_after : (cs before : List Call) → times s (slots_of (filter (is_unseen seen) (names_after before cs))) ≡ 0 → (i n : ℕ) (c : Call) → slice_index seen i ≤ length (calls i before) + n → get_elem? (calls i cs) n ≡ some c → Others c
  unnamed_after [] before none i n c low at = absurd (some-ne-none c (sym at))
  unnamed_after (x ∷ xs) before none i n c low at =
      let number : ℕ = length (calls x.instance before) + 1 in
      let own : List Name = filter (is_unseen seen) (call_names number x) in
      let rest : List Name = filter (is_unseen seen) (names_after (before ++ x ∷ []) xs) in
      let parts = ap (λ (l : List Name). times s (slots_of l)) (filter-append (is_unseen seen) (call_names number x) (names_after (before ++ x ∷ []) xs)) ∙ (ap (times s) (slots_of-append own rest) ∙ times-append s (slots_of own) (slots_of rest)) in
      let rest_none : times s (slots_of rest) ≡ 0 = omega arith in
      let own_none : times s (slots_of own) ≡ 0 = omega arith in
      let r = unnamed_after xs (before ++ x ∷ []) rest_none in
      dite (ℕ_discrete x.instance i)
      (λ same.
      let more = length-calls_hit i before x same in
      let here : cond (is_of i x) (x ∷ calls i xs) (calls i xs) ≡ x ∷ calls i xs = ap (λ (b : Bool). cond b (x ∷ calls i xs) (calls i xs)) (eq-eqb x.instance i same) in
      either_at (calls i xs) x c n (Others c) (sym (ap (λ (l : List Call). get_elem? l n) here) ∙ at)
      (λ first is.
      let seen_is : slice_index seen x.instance ≡ slice_index seen i = ap (slice_index seen) same in
      let long : length (calls x.instance before) ≡ length (calls i before) = ap (λ (k : ℕ). length (calls k before)) same in
      subst (λ (y : Call). Others y) is (others_of i number x (omega arith) own_none))
      (λ m next at'. r i m c (omega arith) at'))
      (λ other.
      let more = length-calls_miss i before x other in
      let here : cond (is_of i x) (x ∷ calls i xs) (calls i xs) ≡ calls i xs = ap (λ (b : Bool). cond b (x ∷ calls i xs) (calls i xs)) (ne_eqb x.instance i other) in
      r i n c (omega arith) (sym (ap (λ (l : List Call). get_elem? l n) here) ∙ at))

pub unnamed_at_zero : (s : ℕ) (seen : List ℕ) (book : List Call) → times s (slots_of (unseen seen book)) ≡ 0 → IsUnnamed seen book s
unnamed_at_zero s seen book none i n c low at = unnamed_after s seen book [] none i n c (omega arith) at
