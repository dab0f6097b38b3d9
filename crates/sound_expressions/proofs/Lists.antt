-- Lists of faults that are empty, and what tests tell.
use Rattle.std.proofs.Common.{◌≡◌, ℕ, Bool, true, false, ◌||◌, List, [], ◌∷◌, ◌++◌, map, refl, sym, ap, subst, ◌∙◌, All, Contains}
use Rattle.std.specs.List.{list_any, flat_map}
use Rattle.std.proofs.lemmas.Bool.{false≢true, and_parts}
use Rattle.std.proofs.lemmas.List.Elements.{All-nil, All-cons, All-contains}
use Rattle.std.proofs.lemmas.Slice.Eq.{bytes_eq-Decides}
use Rattle.hept_ast.specs.Texts.{Name, same, is_in}
use Rattle.hept_ast.specs.Types.{Plain_type, same_plain, same_tag, same_type, same_types}
use Rattle.hept_ast.specs.Faults.{Kind, fault, seconds, Duplicate}
use Rattle.hept_ast.specs.declared.tree.Tag.{Tag}
use Rattle.hept_ast.specs.declared.tree.Tag.TheVariants as tag
use Rattle.hept_ast.specs.declared.tree.Ty.{Ty}
use Rattle.hept_ast.specs.declared.tree.Ty.TheVariants as ty
use Rattle.hept_ast.specs.declared.tree.Plain.TheVariants.{Int, Bool as Truth_value, Named}
use Rattle.sound_expressions.specs.Demands.{NamesDiffer, NoTagTwice}

-- ---- empty lists

pub not_nil : {A : Type 0} (x : A) (xs : List A) → x ∷ xs ≡ [] → ⊥
not_nil x xs e = cc

pub nil_left : {A : Type 0} (xs ys : List A) → xs ++ ys ≡ [] → xs ≡ []
nil_left [] ys e = refl
nil_left (x ∷ xs) ys e = absurd (not_nil x (xs ++ ys) e)

pub nil_right : {A : Type 0} (xs ys : List A) → xs ++ ys ≡ [] → ys ≡ []
nil_right [] ys e = e
nil_right (x ∷ xs) ys e = absurd (not_nil x (xs ++ ys) e)

pub none_of_each : {X A : Type 0} (f : X → List A) (xs : List X) → flat_map f xs ≡ [] → All (λ x. f x ≡ []) xs
none_of_each f [] e = All-nil (λ x. f x ≡ [])
none_of_each f (x ∷ xs) e = All-cons (λ x. f x ≡ []) x xs (nil_left (f x) (flat_map f xs) e) (none_of_each f xs (nil_right (f x) (flat_map f xs) e))

pub none_of : {X A : Type 0} (f : X → List A) (xs : List X) → flat_map f xs ≡ [] → (x : X) → Contains xs x → f x ≡ []
none_of f xs e x at = All-contains (λ x. f x ≡ []) xs x (none_of_each f xs e) at

pub no_fault : (p : ℕ) (k : Kind) (b : Bool) → fault p k b ≡ [] → b ≡ false
no_fault p k true e = absurd (not_nil _ _ e)
no_fault p k false e = refl

-- ---- tests

pub or_left : (b c : Bool) → b || c ≡ false → b ≡ false
or_left true c e = e
or_left false c e = refl

pub or_right : (b c : Bool) → b || c ≡ false → c ≡ false
or_right true c e = absurd (false≢true (sym e))
or_right false c e = e

pub any_false : {X : Type 0} (p : X → Bool) (xs : List X) → list_any p xs ≡ false → All (λ x. p x ≡ false) xs
any_false p [] e = All-nil (λ x. p x ≡ false)
any_false p (x ∷ xs) e = All-cons (λ x. p x ≡ false) x xs (or_left (p x) (list_any p xs) e) (any_false p xs (or_right (p x) (list_any p xs) e))

pub same_self : (x : Name) → same x x ≡ true
same_self x = (bytes_eq-Decides x x).1 refl

pub same_is : (x y : Name) → same x y ≡ true → x ≡ y
same_is x y e = (bytes_eq-Decides x y).0 e

pub same_turned : (x y : Name) → same x y ≡ false → same y x ≡ false
same_turned x y e = go (same y x) refl
  where
    go : (b : Bool) → same y x ≡ b → b ≡ false
    go true h = absurd (false≢true (sym e ∙ (bytes_eq-Decides x y).1 (sym (same_is y x h))))
    go false h = refl

pub same_plain_is : (s t : Plain_type) → same_plain s t ≡ true → s ≡ t
same_plain_is Int Int e = refl
same_plain_is Int Truth_value e = absurd (false≢true e)
same_plain_is Int (Named x) e = absurd (false≢true e)
same_plain_is Truth_value Int e = absurd (false≢true e)
same_plain_is Truth_value Truth_value e = refl
same_plain_is Truth_value (Named x) e = absurd (false≢true e)
same_plain_is (Named x) Int e = absurd (false≢true e)
same_plain_is (Named x) Truth_value e = absurd (false≢true e)
same_plain_is (Named x) (Named y) e = ap Named (same_is x y e)

pub same_type_is : (s t : Ty) → same_type s t ≡ true → s ≡ t
same_type_is (ty.Plain s) (ty.Plain t) e = ap ty.Plain (same_plain_is s t e)
same_type_is (ty.Plain s) (ty.Future t) e = absurd (false≢true e)
same_type_is (ty.Future s) (ty.Plain t) e = absurd (false≢true e)
same_type_is (ty.Future s) (ty.Future t) e = ap ty.Future (same_plain_is s t e)

pub same_types_is : (ss ts : List Ty) → same_types ss ts ≡ true → ss ≡ ts
same_types_is [] [] e = refl
same_types_is [] (t ∷ ts) e = absurd (false≢true e)
same_types_is (s ∷ ss) [] e = absurd (false≢true e)
same_types_is (s ∷ ss) (t ∷ ts) e =
    let (h, r) = and_parts (same_type s t) (same_types ss ts) e in
    let a = same_type_is s t h in
    let b = same_types_is ss ts r in
    cc

pub is_in_left : (x : Name) (xs ys : List Name) → is_in x xs ≡ true → is_in x (xs ++ ys) ≡ true
is_in_left x [] ys h = absurd (false≢true h)
is_in_left x (z ∷ zs) ys h = go (same x z) h (is_in_left x zs ys)
  where
    go : (b : Bool) → b || is_in x zs ≡ true → (is_in x zs ≡ true → is_in x (zs ++ ys) ≡ true) → b || is_in x (zs ++ ys) ≡ true
    go true h later = refl
    go false h later = later h

pub is_in_right : (x : Name) (xs ys : List Name) → is_in x ys ≡ true → is_in x (xs ++ ys) ≡ true
is_in_right x [] ys h = h
is_in_right x (z ∷ zs) ys h = go (same x z) (is_in_right x zs ys h)
  where
    go : (b : Bool) → is_in x (zs ++ ys) ≡ true → b || is_in x (zs ++ ys) ≡ true
    go true h = refl
    go false h = h

-- ---- different names

-- no later label equals an earlier one
unequal_to : {A : Type 0} (eq : A → A → Bool) → ((x y : A) → eq x y ≡ true → x ≡ y) → (earlier : List A) (qs : List (ℕ × A)) → seconds eq earlier qs ≡ [] → (y : A) → list_any (eq y) earlier ≡ true → list_any (eq y) (map (λ q. q.1) qs) ≡ false
unequal_to eq exact earlier [] e y h = refl
unequal_to {A} eq exact earlier (q ∷ rest) e y h =
    let here = fault q.0 Duplicate (list_any (eq q.1) earlier) in
    let head = no_fault q.0 Duplicate (list_any (eq q.1) earlier) (nil_left here (seconds eq (q.1 ∷ earlier) rest) e) in
    go (eq y q.1) refl head (unequal_to eq exact (q.1 ∷ earlier) rest (nil_right here (seconds eq (q.1 ∷ earlier) rest) e) y (later (eq y q.1) h))
  where
    later : (b : Bool) {c : Bool} → c ≡ true → b || c ≡ true
    later true h = refl
    later false h = h

    go : (b : Bool) → eq y q.1 ≡ b → list_any (eq q.1) earlier ≡ false → list_any (eq y) (map (λ (r : ℕ × A). r.1) rest) ≡ false → eq y q.1 || list_any (eq y) (map (λ (r : ℕ × A). r.1) rest) ≡ false
    go true s head tail = absurd (false≢true (sym head ∙ subst (λ (z : A). list_any (eq z) earlier ≡ true) (exact y q.1 s) h))
    go false s head tail = ap (λ b. b || list_any (eq y) (map (λ (r : ℕ × A). r.1) rest)) s ∙ tail

names_differ_from : (earlier : List Name) (qs : List (ℕ × Name)) → seconds same earlier qs ≡ [] → NamesDiffer (map (λ q. q.1) qs)
names_differ_from earlier [] e = tt
names_differ_from earlier (q ∷ rest) e =
    let tail = nil_right (fault q.0 Duplicate (list_any (same q.1) earlier)) (seconds same (q.1 ∷ earlier) rest) e in
    (unequal_to same same_is (q.1 ∷ earlier) rest tail q.1 (ap (λ b. b || is_in q.1 earlier) (same_self q.1)), names_differ_from (q.1 ∷ earlier) rest tail)

pub names_differ : (qs : List (ℕ × Name)) → seconds same [] qs ≡ [] → NamesDiffer (map (λ q. q.1) qs)
names_differ qs e = names_differ_from [] qs e

pub same_tag_is : (a b : Tag) → same_tag a b ≡ true → a ≡ b
same_tag_is (tag.Truth true) (tag.Truth true) e = refl
same_tag_is (tag.Truth true) (tag.Truth false) e = absurd (false≢true e)
same_tag_is (tag.Truth false) (tag.Truth true) e = absurd (false≢true e)
same_tag_is (tag.Truth false) (tag.Truth false) e = refl
same_tag_is (tag.Truth b) (tag.Constructor y) e = absurd (false≢true e)
same_tag_is (tag.Constructor x) (tag.Truth c) e = absurd (false≢true e)
same_tag_is (tag.Constructor x) (tag.Constructor y) e = ap tag.Constructor (same_is x y e)

pub same_tag_self : (a : Tag) → same_tag a a ≡ true
same_tag_self (tag.Truth true) = refl
same_tag_self (tag.Truth false) = refl
same_tag_self (tag.Constructor x) = same_self x

tags_differ_from : (earlier : List Tag) (qs : List (ℕ × Tag)) → seconds same_tag earlier qs ≡ [] → NoTagTwice (map (λ q. q.1) qs)
tags_differ_from earlier [] e = tt
tags_differ_from earlier (q ∷ rest) e =
    let tail = nil_right (fault q.0 Duplicate (list_any (same_tag q.1) earlier)) (seconds same_tag (q.1 ∷ earlier) rest) e in
    (unequal_to same_tag same_tag_is (q.1 ∷ earlier) rest tail q.1 (ap (λ b. b || list_any (same_tag q.1) earlier) (same_tag_self q.1)), tags_differ_from (q.1 ∷ earlier) rest tail)

pub no_tag_twice : (qs : List (ℕ × Tag)) → seconds same_tag [] qs ≡ [] → NoTagTwice (map (λ q. q.1) qs)
no_tag_twice qs e = tags_differ_from [] qs e
