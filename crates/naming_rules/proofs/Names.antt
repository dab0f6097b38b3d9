-- Names that are in lists of names, and names that are not.
use Rattle.std.proofs.Common.{◌≡◌, Bool, true, false, ◌||◌, List, [], ◌∷◌, ◌++◌, refl, sym, ap, subst, ◌∙◌, ◌⊎◌, inl, inr, Contains, length, arith, slice_index_or, zero, suc, ℕ, ◌<◌}
use Rattle.std.specs.List.{flat_map}
use Rattle.std.proofs.lemmas.Bool.{false≢true, or_parts}
use Rattle.std.proofs.lemmas.List.Folds.{list_any-append}
use Rattle.std.proofs.lemmas.List.{append_assoc}
use Rattle.hept_ast.specs.Texts.{Name, same, is_in}
use Rattle.core_rules.proofs.Ends.{same_self, same_is}

pub flat_append : {A B : Type 0} (f : A → List B) (xs ys : List A) → flat_map f (xs ++ ys) ≡ flat_map f xs ++ flat_map f ys
flat_append f [] ys = refl
flat_append f (x ∷ xs) ys = ap (λ (l : List _). f x ++ l) (flat_append f xs ys) ∙ sym (append_assoc (f x) (flat_map f xs) (flat_map f ys))

pub flat_flat : {A B C : Type 0} (f : B → List C) (g : A → List B) (xs : List A) → flat_map f (flat_map g xs) ≡ flat_map (λ x. flat_map f (g x)) xs
flat_flat f g [] = refl
flat_flat f g (x ∷ xs) = flat_append f (g x) (flat_map g xs) ∙ ap (λ (l : List _). flat_map f (g x) ++ l) (flat_flat f g xs)

-- ---- tests

pub both_false : (b c : Bool) → b ≡ false → c ≡ false → b || c ≡ false
both_false b c h k = ap (λ (z : Bool). z || c) h ∙ k

pub or_cases : (b c : Bool) → b || c ≡ true → (b ≡ true) ⊎ (c ≡ true)
or_cases true c h = inl refl
or_cases false c h = inr h

pub or_first : (b c : Bool) → b ≡ true → b || c ≡ true
or_first true c h = refl
or_first false c h = absurd (false≢true h)

pub or_second : (b c : Bool) → c ≡ true → b || c ≡ true
or_second true c h = refl
or_second false c h = h

pub either : (b : Bool) → (b ≡ true) ⊎ (b ≡ false)
either true = inl refl
either false = inr refl

pub never : {A : Type 0} {b : Bool} → b ≡ false → b ≡ true → A
never h k = absurd (false≢true (sym h ∙ k))

-- ---- names that are not in a list

pub same_turned : (x y : Name) → same x y ≡ false → same y x ≡ false
same_turned x y e = go (same y x) refl
  where
    go : (b : Bool) → same y x ≡ b → b ≡ false
    go true h = never e (subst (λ (z : Name). same x z ≡ true) (sym (same_is y x h)) (same_self x))
    go false h = refl

pub out_left : (x : Name) (xs ys : List Name) → is_in x (xs ++ ys) ≡ false → is_in x xs ≡ false
out_left x xs ys h = (or_parts (is_in x xs) (is_in x ys) (sym (list_any-append (same x) xs ys) ∙ h)).0

pub out_right : (x : Name) (xs ys : List Name) → is_in x (xs ++ ys) ≡ false → is_in x ys ≡ false
out_right x xs ys h = (or_parts (is_in x xs) (is_in x ys) (sym (list_any-append (same x) xs ys) ∙ h)).1

pub out_both : (x : Name) (xs ys : List Name) → is_in x xs ≡ false → is_in x ys ≡ false → is_in x (xs ++ ys) ≡ false
out_both x xs ys h k = list_any-append (same x) xs ys ∙ both_false (is_in x xs) (is_in x ys) h k

pub in_left : (x : Name) (xs ys : List Name) → is_in x xs ≡ true → is_in x (xs ++ ys) ≡ true
in_left x xs ys h = list_any-append (same x) xs ys ∙ or_first (is_in x xs) (is_in x ys) h

pub in_right : (x : Name) (xs ys : List Name) → is_in x ys ≡ true → is_in x (xs ++ ys) ≡ true
in_right x xs ys h = list_any-append (same x) xs ys ∙ or_second (is_in x xs) (is_in x ys) h

pub in_cases : (x : Name) (xs ys : List Name) → is_in x (xs ++ ys) ≡ true → (is_in x xs ≡ true) ⊎ (is_in x ys ≡ true)
in_cases x xs ys h = or_cases (is_in x xs) (is_in x ys) (sym (list_any-append (same x) xs ys) ∙ h)

-- ---- names of the elements of a list

contained : {A : Type 0} (f : A → List Name) (x : Name) (y : A) (ys : List A) (k : ℕ) → k < length ys → slice_index_or ys k y ≡ y → is_in x (flat_map f ys) ≡ false → is_in x (f y) ≡ false
contained f x y [] k lt e h = absurd (omega arith)
contained f x y (z ∷ zs) zero lt e h = subst (λ (v : _). is_in x (f v) ≡ false) e (out_left x (f z) (flat_map f zs) h)
contained f x y (z ∷ zs) (suc k) lt e h = contained f x y zs k (omega arith) e (out_right x (f z) (flat_map f zs) h)

pub out_each : {A : Type 0} (f : A → List Name) (x : Name) (y : A) (ys : List A) → Contains ys y → is_in x (flat_map f ys) ≡ false → is_in x (f y) ≡ false
out_each f x y ys c h = contained f x y ys c.0 c.1 c.2 h
