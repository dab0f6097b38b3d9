-- What stays the same in another order.
use Rattle.std.proofs.Common.{◌≡◌, ◌≤◌, Bool, true, false, List, [], ◌∷◌, ◌++◌, map, refl, sym, ap, subst, ◌∙◌, arith, append_assoc}
use Rattle.std.specs.Prelude.{count_by}
use Rattle.std.specs.List.{flat_map}
use Rattle.std.specs.List.Sorted.{IsPermutation}
use Rattle.std.proofs.lemmas.Bool.{false≢true}
use Rattle.std.proofs.lemmas.List.Sorted.{IsPermutation-refl, IsPermutation-trans, IsPermutation-append_left, IsPermutation-append_right, IsPermutation-append_comm}
use Rattle.hept_ast.specs.Texts.{Name, is_in}
use Rattle.hept_ast.specs.Paths.{AllDiffer}
use Rattle.hept_ast.specs.declared.tree.CoreEquation.{CoreEquation}
use Rattle.hept_ast.proofs.Exchanges.{Exchanged, nothing, one_more, first_two, in_turn, exchanged, differ_exchanged}
use Rattle.hept_ast.proofs.Reordering.{count_no, count_yes}
use Rattle.core_rules.proofs.CallsOf.{in_first, in_second, not_both, rest_differs}

three_moved : {A : Type 0} (xs ys zs : List A) → IsPermutation (xs ++ (ys ++ zs)) (ys ++ (xs ++ zs))
three_moved xs ys zs =
    subst (λ (l : List _). IsPermutation l (ys ++ (xs ++ zs))) (append_assoc xs ys zs)
    (subst (λ (l : List _). IsPermutation ((xs ++ ys) ++ zs) l) (append_assoc ys xs zs) (IsPermutation-append_left zs _ _ (IsPermutation-append_comm xs ys)))

flat_exchanged : {A B : Type 0} (f : A → List B) (xs ys : List A) → Exchanged xs ys → IsPermutation (flat_map f xs) (flat_map f ys)
flat_exchanged f _ _ nothing = IsPermutation-refl []
flat_exchanged f _ _ (one_more {x = x} {xs = xs} {ys = ys} h) = IsPermutation-append_right (f x) _ _ (flat_exchanged f xs ys h)
flat_exchanged f _ _ (first_two {x = x} {y = y} {xs = xs}) = three_moved (f x) (f y) (flat_map f xs)
flat_exchanged f _ _ (in_turn {xs = xs} {ys = ys} {zs = zs} h k) = IsPermutation-trans _ _ _ (flat_exchanged f xs ys h) (flat_exchanged f ys zs k)

pub flat_permuted : {A B : Type 0} (f : A → List B) (xs ys : List A) → IsPermutation xs ys → IsPermutation (flat_map f xs) (flat_map f ys)
flat_permuted f xs ys h = flat_exchanged f xs ys (exchanged xs ys h)

unmapped : {A : Type 0} (xs : List A) → map (λ x. x) xs ≡ xs
unmapped [] = refl
unmapped (x ∷ xs) = ap (λ l. x ∷ l) (unmapped xs)

pub differ_permuted : {A : Type 0} (xs ys : List A) → IsPermutation xs ys → AllDiffer xs → AllDiffer ys
differ_permuted xs ys h d =
    subst (λ (l : List _). AllDiffer l) (unmapped ys) (differ_exchanged (λ x. x) xs ys (exchanged xs ys h) (subst (λ (l : List _). AllDiffer l) (sym (unmapped xs)) d))

-- ---- left sides

no_left : (x : Name) (es : List CoreEquation) → is_in x (flat_map (λ e. e.left) es) ≡ false → count_by (λ e. is_in x e.left) es ≡ 0
no_left x [] h = refl
no_left x (e ∷ es) h = go (is_in x e.left) refl (is_in x (flat_map (λ e. e.left) es)) refl (no_left x es)
  where
    go : (b : Bool) → is_in x e.left ≡ b → (c : Bool) → is_in x (flat_map (λ e. e.left) es) ≡ c →
        (is_in x (flat_map (λ e. e.left) es) ≡ false → count_by (λ e. is_in x e.left) es ≡ 0) → count_by (λ e. is_in x e.left) (e ∷ es) ≡ 0
    go true f c g later = absurd (false≢true (sym h ∙ in_first x e.left (flat_map (λ e. e.left) es) f))
    go false f true g later = absurd (false≢true (sym h ∙ in_second x e.left (flat_map (λ e. e.left) es) g))
    go false f false g later = count_no (λ (e : CoreEquation). is_in x e.left) e es f ∙ later g

not_later : (x : Name) (xs ys : List Name) → AllDiffer (xs ++ ys) → is_in x xs ≡ true → is_in x ys ≡ false
not_later x xs ys d i = go (is_in x ys) refl
  where
    go : (b : Bool) → is_in x ys ≡ b → is_in x ys ≡ false
    go true j = absurd (false≢true (sym (not_both x xs ys d j) ∙ i))
    go false j = j

-- no name is on two left sides
pub one_left : (x : Name) (es : List CoreEquation) → AllDiffer (flat_map (λ e. e.left) es) → count_by (λ e. is_in x e.left) es ≤ 1
one_left x [] d = omega arith
one_left x (e ∷ es) d = go (is_in x e.left) refl (one_left x es (rest_differs e.left (flat_map (λ e. e.left) es) d))
  where
    go : (b : Bool) → is_in x e.left ≡ b → count_by (λ e. is_in x e.left) es ≤ 1 → count_by (λ e. is_in x e.left) (e ∷ es) ≤ 1
    go true i later =
        let a = count_yes (λ (e : CoreEquation). is_in x e.left) e es i in
        let b = no_left x es (not_later x e.left (flat_map (λ e. e.left) es) d i) in
        omega arith
    go false i later = let a = count_no (λ (e : CoreEquation). is_in x e.left) e es i in omega arith
