-- How what was found goes on over lists of faults.
use Rattle.std.proofs.Common.{add-one, zero, suc, ◌+◌, ◌<◌, ◌≤◌, length, take, get_or, map, ◌≡◌, ℕ, List, [], ◌∷◌, ◌++◌, refl, sym, ap, ◌∙◌, ap, arith, append_assoc, append-nil}
use Rattle.std.specs.Prelude.{Option, Result, Ok, Err, OnOk, Bool, true, false, ◌||◌}
use Rattle.std.specs.List.{flat_map, list_any}
use Rattle.hept_ast.specs.Faults.{Fault}
use Rattle.hept_ast.specs.Limits.{earlier_of, earliest}
use Rattle.hept_ast.specs.declared.name.Memory.{Memory}
use Rattle.hept_ast.proofs.Earliest.{earlier_of-assoc, earliest-append}

or_no : (a : Bool) → a || false ≡ a
or_no true = refl
or_no false = refl

or_assoc : (a b c : Bool) → a || (b || c) ≡ (a || b) || c
or_assoc true b c = refl
or_assoc false b c = refl

flat_take : {X Y : Type 0} (f : X → List Y) (xs : List X) (i : ℕ) (d : X) → i < length xs → flat_map f (take (suc i) xs) ≡ flat_map f (take i xs) ++ f (get_or xs i d)
flat_take f [] i d h = absurd (omega arith)
flat_take f (x ∷ xs) zero d h = append-nil (f x)
flat_take f (x ∷ xs) (suc i) d h = ap (λ t. f x ++ t) (flat_take f xs i d (omega arith)) ∙ sym (append_assoc (f x) _ _)

pub flat_mapped : {X Y Z : Type 0} (f : Y → List Z) (g : X → Y) (xs : List X) → flat_map f (map g xs) ≡ flat_map (λ x. f (g x)) xs
flat_mapped f g [] = refl
flat_mapped f g (x ∷ xs) = ap (λ t. f (g x) ++ t) (flat_mapped f g xs)

pub any_mapped : {X Y : Type 0} (p : Y → Bool) (f : X → Y) (xs : List X) → list_any p (map f xs) ≡ list_any (λ x. p (f x)) xs
any_mapped p f [] = refl
any_mapped p f (x ∷ xs) = ap (λ b. p (f x) || b) (any_mapped p f xs)

pub any_take : {X : Type 0} (p : X → Bool) (xs : List X) (i : ℕ) (d : X) → i < length xs → list_any p (take (suc i) xs) ≡ list_any p (take i xs) || p (get_or xs i d)
any_take p [] i d h = absurd (omega arith)
any_take p (x ∷ xs) zero d h = or_no (p x)
any_take p (x ∷ xs) (suc i) d h = ap (λ b. p x || b) (any_take p xs i d (omega arith)) ∙ or_assoc (p x) (list_any p (take i xs)) (p (get_or xs i d))

-- the faults of one list, and then those of another
pub noted_both : (fs gs : List Fault) (first o p : Option Fault) → o ≡ earlier_of first (earliest fs) → p ≡ earlier_of o (earliest gs) → p ≡ earlier_of first (earliest (fs ++ gs))
noted_both fs gs first o p e h = rw (earliest-append, ← earlier_of-assoc, ← e) h

-- one more element of a loop over a list
pub noted_step : {X : Type 0} (f : X → List Fault) (xs : List X) (i : ℕ) (d x : X) (first o p : Option Fault)
    → i < length xs → o ≡ earlier_of first (earliest (flat_map f (take i xs))) → x ≡ get_or xs i d → p ≡ earlier_of o (earliest (f x)) → p ≡ earlier_of first (earliest (flat_map f (take (i + 1) xs)))
noted_step f xs i d x first o p below e g h =
    rw (add-one, flat_take f xs i d below, earliest-append, ← earlier_of-assoc, ← e, ← g) h

whole : {X : Type 0} (xs : List X) (i : ℕ) → length xs ≤ i → take i xs ≡ xs
whole [] zero h = refl
whole [] (suc i) h = refl
whole (x ∷ xs) zero h = absurd (omega arith)
whole (x ∷ xs) (suc i) h = ap (λ t. x ∷ t) (whole xs i (omega arith))

-- the end of such a loop
pub noted_whole : {X : Type 0} (f : X → List Fault) (xs : List X) (i : ℕ) (first o : Option Fault)
    → length xs ≤ i → o ≡ earlier_of first (earliest (flat_map f (take i xs))) → o ≡ earlier_of first (earliest (flat_map f xs))
noted_whole f xs i first o past e = e ∙ ap (λ t. earlier_of first (earliest (flat_map f t))) (whole xs i past)

-- the same where the list is mapped
pub noted_mapped : {X Y : Type 0} (f : Y → List Fault) (g : X → Y) (xs : List X) (i : ℕ) (d x : X) (first o p : Option Fault)
    → i < length xs → o ≡ earlier_of first (earliest (flat_map f (map g (take i xs)))) → x ≡ get_or xs i d → p ≡ earlier_of o (earliest (f (g x))) → p ≡ earlier_of first (earliest (flat_map f (map g (take (i + 1) xs))))
noted_mapped f g xs i d x first o p below e same h =
    noted_step (λ y. f (g y)) xs i d x first o p below (e ∙ ap (λ t. earlier_of first (earliest t)) (flat_mapped f g (take i xs))) same h
    ∙ ap (λ t. earlier_of first (earliest t)) (sym (flat_mapped f g (take (i + 1) xs)))

-- the same, where the second list is known by another name
pub noted_then : (fs gs hs : List Fault) (first o p : Option Fault) → hs ≡ gs → o ≡ earlier_of first (earliest fs) → p ≡ earlier_of o (earliest hs) → p ≡ earlier_of first (earliest (fs ++ gs))
noted_then fs gs hs first o p same e h = noted_both fs gs first o p e (h ∙ ap (λ t. earlier_of o (earliest t)) same)

-- the same of a call that may want memory
pub also_noted : (fs gs : List Fault) (first o q : Option Fault) (r : Result (Unit {0}) Memory) → o ≡ earlier_of first (earliest fs) → OnOk r (q ≡ earlier_of o (earliest gs)) → OnOk r (q ≡ earlier_of first (earliest (fs ++ gs)))
also_noted fs gs first o q (Ok x) e h = noted_both fs gs first o q e h
also_noted fs gs first o q (Err x) e h = tt

-- the same, where the list is known by another name
pub renamed : (fs gs : List Fault) (first q : Option Fault) (r : Result (Unit {0}) Memory) → fs ≡ gs → OnOk r (q ≡ earlier_of first (earliest fs)) → OnOk r (q ≡ earlier_of first (earliest gs))
renamed fs gs first q (Ok x) e h = h ∙ ap (λ t. earlier_of first (earliest t)) e
renamed fs gs first q (Err x) e h = tt
