-- Sites of different paths have one text order, however they are listed.
use Rattle.std.proofs.Common.{◌≡◌, ◌⊎◌, inl, inr, ℕ, ◌<◌, Bool, true, false, List, [], ◌∷◌, map, refl, sym, ap, subst, arith, ◌∙◌}
use Rattle.std.specs.Prelude.{◌==◌, nat_lt}
use Rattle.std.specs.List.Sorted.{IsPermutation}
use Rattle.std.proofs.lemmas.Bool.Decides.{nat_tests}
use Rattle.std.proofs.lemmas.List.Sorted.{IsPermutation-refl, IsPermutation-cons, IsPermutation-trans}
use Rattle.hept_ast.specs.Sites.{Site, path_of, is_before, insert, by_number}
use Rattle.hept_ast.specs.Paths.{IsAmong, at_head, AllDiffer}
use Rattle.hept_ast.proofs.Exchanges.{Exchanged, nothing, one_more, first_two, in_turn, exchanged, differ_exchanged}

-- ---- the order of paths

data Upto : List ℕ → List ℕ → Type 0 where
  begins : {qs : List ℕ} → Upto [] qs
  less : {p q : ℕ} {ps qs : List ℕ} → p < q → Upto (p ∷ ps) (q ∷ qs)
  equal : {p q : ℕ} {ps qs : List ℕ} → p ≡ q → Upto ps qs → Upto (p ∷ ps) (q ∷ qs)

sides : (p q : ℕ) → (p ≡ q) ⊎ ((p < q) ⊎ (q < p))
sides p q = go (p == q) refl (nat_lt p q) refl
  where
    go : (b : Bool) → (p == q) ≡ b → (c : Bool) → nat_lt p q ≡ c → (p ≡ q) ⊎ ((p < q) ⊎ (q < p))
    go true e c f = inl (grind (arith, nat_tests))
    go false e true f = inr (inl (grind (arith, nat_tests)))
    go false e false f = inr (inr (grind (arith, nat_tests)))

before_equal : (p q : ℕ) (ps qs : List ℕ) → p ≡ q → is_before (p ∷ ps) (q ∷ qs) ≡ is_before ps qs
before_equal p q ps qs e = let f : (p == q) ≡ true = grind (arith, nat_tests) in rw f refl

before_less : (p q : ℕ) (ps qs : List ℕ) → p < q → is_before (p ∷ ps) (q ∷ qs) ≡ true
before_less p q ps qs h =
    let f : (p == q) ≡ false = grind (arith, nat_tests) in
    let g : nat_lt p q ≡ true = grind (arith, nat_tests) in
    rw f g

before_greater : (p q : ℕ) (ps qs : List ℕ) → q < p → is_before (p ∷ ps) (q ∷ qs) ≡ false
before_greater p q ps qs h =
    let f : (p == q) ≡ false = grind (arith, nat_tests) in
    let g : nat_lt p q ≡ false = grind (arith, nat_tests) in
    rw f g

upto : (ps qs : List ℕ) → is_before ps qs ≡ true → Upto ps qs
upto [] qs e = begins
upto (p ∷ ps) [] e = cc
upto (p ∷ ps) (q ∷ qs) e = go (sides p q) (upto ps qs)
  where
    go : (p ≡ q) ⊎ ((p < q) ⊎ (q < p)) → (is_before ps qs ≡ true → Upto ps qs) → Upto (p ∷ ps) (q ∷ qs)
    go (inl h) later = equal h (later (sym (before_equal p q ps qs h) ∙ e))
    go (inr (inl h)) later = less h
    go (inr (inr h)) later = let f : is_before (p ∷ ps) (q ∷ qs) ≡ false = before_greater p q ps qs h in cc

other_way : (ps qs : List ℕ) → is_before ps qs ≡ false → Upto qs ps
other_way [] qs e = cc
other_way (p ∷ ps) [] e = begins
other_way (p ∷ ps) (q ∷ qs) e = go (sides p q) (other_way ps qs)
  where
    go : (p ≡ q) ⊎ ((p < q) ⊎ (q < p)) → (is_before ps qs ≡ false → Upto qs ps) → Upto (q ∷ qs) (p ∷ ps)
    go (inl h) later = equal (sym h) (later (sym (before_equal p q ps qs h) ∙ e))
    go (inr (inl h)) later = let f : is_before (p ∷ ps) (q ∷ qs) ≡ true = before_less p q ps qs h in cc
    go (inr (inr h)) later = less h

before : (ps qs : List ℕ) → Upto ps qs → is_before ps qs ≡ true
before _ _ begins = refl
before _ _ (less {p = p} {q = q} {ps = ps} {qs = qs} h) = before_less p q ps qs h
before _ _ (equal {p = p} {q = q} {ps = ps} {qs = qs} e h) = before_equal p q ps qs e ∙ before ps qs h

upto_trans : (ps qs rs : List ℕ) → Upto ps qs → Upto qs rs → Upto ps rs
upto_trans _ _ _ begins k = begins
upto_trans _ _ _ (less h) (less k) = less (omega arith)
upto_trans _ _ _ (less h) (equal e k) = less (omega arith)
upto_trans _ _ _ (equal e h) (less k) = less (omega arith)
upto_trans _ _ _ (equal e h) (equal f k) = equal (e ∙ f) (upto_trans _ _ _ h k)

upto_both : (ps qs : List ℕ) → Upto ps qs → Upto qs ps → ps ≡ qs
upto_both _ _ begins begins = refl
upto_both _ _ (less h) (less k) = absurd (omega arith)
upto_both _ _ (less h) (equal e k) = absurd (omega arith)
upto_both _ _ (equal e h) (less k) = absurd (omega arith)
upto_both _ _ (equal {p = p} {q = q} {ps = ps} {qs = qs} e h) (equal f k) = let g : ps ≡ qs = upto_both ps qs h k in cc

before_trans : (ps qs rs : List ℕ) → is_before ps qs ≡ true → is_before qs rs ≡ true → is_before ps rs ≡ true
before_trans ps qs rs e f = before ps rs (upto_trans ps qs rs (upto ps qs e) (upto qs rs f))

-- ---- insertion

insert_yes : (x z : Site) (l : List Site) → is_before (path_of x) (path_of z) ≡ true → insert x (z ∷ l) ≡ x ∷ z ∷ l
insert_yes x z l e = rw e refl

insert_no : (x z : Site) (l : List Site) → is_before (path_of x) (path_of z) ≡ false → insert x (z ∷ l) ≡ z ∷ insert x l
insert_no x z l e = rw e refl

insert_ordered : (x y : Site) → is_before (path_of x) (path_of y) ≡ true → is_before (path_of y) (path_of x) ≡ false → (l : List Site) →
    insert x (insert y l) ≡ insert y (insert x l)
insert_ordered x y e f [] = insert_yes x y [] e ∙ sym (insert_no y x [] f)
insert_ordered x y e f (z ∷ l) = go (is_before (path_of y) (path_of z)) refl (is_before (path_of x) (path_of z)) refl (insert_ordered x y e f l)
  where
    go : (b : Bool) → is_before (path_of y) (path_of z) ≡ b → (c : Bool) → is_before (path_of x) (path_of z) ≡ c → insert x (insert y l) ≡ insert y (insert x l) →
        insert x (insert y (z ∷ l)) ≡ insert y (insert x (z ∷ l))
    go true h true k later =
        ap (insert x) (insert_yes y z l h) ∙ insert_yes x y (z ∷ l) e ∙ ap (λ m. x ∷ m) (sym (insert_yes y z l h)) ∙ sym (insert_no y x (z ∷ l) f) ∙ ap (insert y) (sym (insert_yes x z l k))
    go true h false k later = let g : is_before (path_of x) (path_of z) ≡ true = before_trans (path_of x) (path_of y) (path_of z) e h in cc
    go false h true k later =
        ap (insert x) (insert_no y z l h) ∙ insert_yes x z (insert y l) k ∙ ap (λ m. x ∷ m) (sym (insert_no y z l h)) ∙ sym (insert_no y x (z ∷ l) f) ∙ ap (insert y) (sym (insert_yes x z l k))
    go false h false k later =
        ap (insert x) (insert_no y z l h) ∙ insert_no x z (insert y l) k ∙ ap (λ m. z ∷ m) later ∙ sym (insert_no y z (insert x l) h) ∙ ap (insert y) (sym (insert_no x z l k))

insert_both : (x y : Site) → (path_of x ≡ path_of y → ⊥) → (l : List Site) → insert x (insert y l) ≡ insert y (insert x l)
insert_both x y differ l = go (is_before (path_of x) (path_of y)) refl (is_before (path_of y) (path_of x)) refl
  where
    go : (b : Bool) → is_before (path_of x) (path_of y) ≡ b → (c : Bool) → is_before (path_of y) (path_of x) ≡ c → insert x (insert y l) ≡ insert y (insert x l)
    go true e true f = absurd (differ (upto_both (path_of x) (path_of y) (upto (path_of x) (path_of y) e) (upto (path_of y) (path_of x) f)))
    go true e false f = insert_ordered x y e f l
    go false e true f = sym (insert_ordered y x f e l)
    go false e false f = absurd (differ (upto_both (path_of x) (path_of y) (other_way (path_of y) (path_of x) f) (other_way (path_of x) (path_of y) e)))

insert_permutes : (x : Site) (l : List Site) → IsPermutation (x ∷ l) (insert x l)
insert_permutes x [] = IsPermutation-refl (x ∷ [])
insert_permutes x (z ∷ l) = go (is_before (path_of x) (path_of z)) refl (insert_permutes x l)
  where
    swapped_two : IsPermutation (x ∷ z ∷ l) (z ∷ x ∷ l)
    swapped_two = record { moves = (0, 1) ∷ []; below = (omega arith, omega arith, tt); is = refl }

    go : (b : Bool) → is_before (path_of x) (path_of z) ≡ b → IsPermutation (x ∷ l) (insert x l) → IsPermutation (x ∷ z ∷ l) (insert x (z ∷ l))
    go true e later = subst (λ (m : List Site). IsPermutation (x ∷ z ∷ l) m) (sym (insert_yes x z l e)) (IsPermutation-refl (x ∷ z ∷ l))
    go false e later = subst (λ (m : List Site). IsPermutation (x ∷ z ∷ l) m) (sym (insert_no x z l e))
        (IsPermutation-trans _ _ _ swapped_two (IsPermutation-cons z _ _ later))

pub by_number_permutes : (sites : List Site) → IsPermutation sites (by_number sites)
by_number_permutes [] = IsPermutation-refl []
by_number_permutes (x ∷ xs) = IsPermutation-trans _ _ _ (IsPermutation-cons x _ _ (by_number_permutes xs)) (insert_permutes x (by_number xs))

by_number_exchanged : (xs ys : List Site) → Exchanged xs ys → AllDiffer (map path_of xs) → by_number xs ≡ by_number ys
by_number_exchanged _ _ nothing d = refl
by_number_exchanged _ _ (one_more {x = x} {xs = xs} {ys = ys} h) d = ap (insert x) (by_number_exchanged xs ys h d.1)
by_number_exchanged _ _ (first_two {x = x} {y = y} {xs = xs}) d =
    insert_both x y (λ e. d.0 (subst (λ (p : List ℕ). IsAmong p (map path_of (y ∷ xs))) (sym e) at_head)) (by_number xs)
by_number_exchanged _ _ (in_turn h k) d = by_number_exchanged _ _ h d ∙ by_number_exchanged _ _ k (differ_exchanged path_of _ _ h d)

-- where no two have one path, the text order of a list and of a permutation of it is one
pub by_number_permuted : (xs ys : List Site) → IsPermutation xs ys → AllDiffer (map path_of xs) → by_number xs ≡ by_number ys
by_number_permuted xs ys h d = by_number_exchanged xs ys (exchanged xs ys h) d

pub differ_permuted : (xs ys : List Site) → IsPermutation xs ys → AllDiffer (map path_of xs) → AllDiffer (map path_of ys)
differ_permuted xs ys h d = differ_exchanged path_of xs ys (exchanged xs ys h) d
