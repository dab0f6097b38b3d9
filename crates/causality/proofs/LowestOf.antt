-- The least of some places, and how it goes on over lists.
use Rattle.std.proofs.Common.{add-one, zero, suc, ◌+◌, ◌<◌, length, take, get_or, map, ◌≡◌, ℕ, min, List, [], ◌∷◌, ◌++◌, Some, None, refl, sym, ◌∙◌, ap, arith, append_assoc, append-nil, Bool, true, false, if◌then◌else◌}
use Rattle.std.specs.Prelude.{Option}
use Rattle.std.specs.List.{flat_map}
use Rattle.std.proofs.lemmas.Grind.{flat_map-append}
use Rattle.std.proofs.lemmas.List.{take_all}
use Rattle.hept_ast.proofs.PartsOf.{parts_of_each}
use Rattle.causality.specs.Lowest.{lower, lowest}

pub lower-none : (p : Option ℕ) → lower p None ≡ p
lower-none None = refl
lower-none (Some p) = refl

pub lower-assoc : (p q r : Option ℕ) → lower (lower p q) r ≡ lower p (lower q r)
lower-assoc None q r = refl
lower-assoc (Some p) None r = refl
lower-assoc (Some p) (Some q) None = refl
lower-assoc (Some p) (Some q) (Some r) = ap (λ n. Some n) (omega arith)

pub lowest-nil : lowest [] ≡ None
unfolding lowest
lowest-nil = refl

pub lowest-cons : (p : ℕ) (ps : List ℕ) → lowest (p ∷ ps) ≡ lower (Some p) (lowest ps)
unfolding lowest
lowest-cons p ps = refl

pub lowest-append : (ps qs : List ℕ) → lowest (ps ++ qs) ≡ lower (lowest ps) (lowest qs)
unfolding lowest
lowest-append [] qs = refl
lowest-append (p ∷ ps) qs = ap (lower (Some p)) (lowest-append ps qs) ∙ sym (lower-assoc (Some p) (lowest ps) (lowest qs))

pub ruleset lowest_of = (lower-none, lower-assoc, lowest-nil, lowest-cons, lowest-append)

flat_take : {X : Type 0} (f : X → List ℕ) (xs : List X) (i : ℕ) (d : X) → i < length xs → flat_map f (take (suc i) xs) ≡ flat_map f (take i xs) ++ f (get_or xs i d)
flat_take f [] i d h = absurd (omega arith)
flat_take f (x ∷ xs) zero d h = append-nil (f x)
flat_take f (x ∷ xs) (suc i) d h = ap (λ t. f x ++ t) (flat_take f xs i d (omega arith)) ∙ sym (append_assoc (f x) _ _)

-- one more element of a loop over a list
pub lowest_step : {X : Type 0} (f : X → List ℕ) (xs : List X) (i : ℕ) (d x : X) (first o p : Option ℕ)
    → i < length xs → o ≡ lower first (lowest (flat_map f (take i xs))) → x ≡ get_or xs i d → p ≡ lower o (lowest (f x)) → p ≡ lower first (lowest (flat_map f (take (i + 1) xs)))
lowest_step f xs i d x first o p below e g h =
    rw (add-one, flat_take f xs i d below, lowest-append, ← lower-assoc, ← e, ← g) h

pub flat_mapped : {X Y Z : Type 0} (f : Y → List Z) (g : X → Y) (xs : List X) → flat_map f (map g xs) ≡ flat_map (λ x. f (g x)) xs
flat_mapped f g [] = refl
flat_mapped f g (x ∷ xs) = ap (λ t. f (g x) ++ t) (flat_mapped f g xs)

-- the same where the list is mapped
pub lowest_mapped : {X Y : Type 0} (f : Y → List ℕ) (g : X → Y) (xs : List X) (i : ℕ) (d x : X) (first o p : Option ℕ)
    → i < length xs → o ≡ lower first (lowest (flat_map f (map g (take i xs)))) → x ≡ get_or xs i d → p ≡ lower o (lowest (f (g x))) → p ≡ lower first (lowest (flat_map f (map g (take (i + 1) xs))))
lowest_mapped f g xs i d x first o p below e same h =
    lowest_step (λ y. f (g y)) xs i d x first o p below (e ∙ ap (λ t. lower first (lowest t)) (flat_mapped f g (take i xs))) same h
    ∙ ap (λ t. lower first (lowest t)) (sym (flat_mapped f g (take (i + 1) xs)))

-- the places of one list, and then those of another
pub lowest_both : (ps qs : List ℕ) (first o p : Option ℕ) → o ≡ lower first (lowest ps) → p ≡ lower o (lowest qs) → p ≡ lower first (lowest (ps ++ qs))
lowest_both ps qs first o p e h = rw (lowest-append, ← lower-assoc, ← e) h

pub lowest_joined : (ps qs : List ℕ) (first o : Option ℕ) → o ≡ lower first (lowest ps) → lower o (lowest qs) ≡ lower first (lowest (ps ++ qs))
lowest_joined ps qs first o e = lowest_both ps qs first o (lower o (lowest qs)) e refl

pub flat_flat : {X Y : Type 0} (f : Y → List ℕ) (g : X → List Y) (xs : List X) → flat_map f (flat_map g xs) ≡ flat_map (λ x. flat_map f (g x)) xs
flat_flat f g [] = refl
flat_flat f g (x ∷ xs) = flat_map-append f (g x) (flat_map g xs) ∙ ap (λ t. flat_map f (g x) ++ t) (flat_flat f g xs)

pub ruleset part_steps = (lowest_of, parts_of_each, flat_flat, flat_map-append, take_all)

-- one part, and then others
pub one_more : {Y : Type 0} (F : Y → List ℕ) (y : Y) (ys : List Y) (first o p : Option ℕ) → o ≡ lower first (lowest (F y)) → p ≡ lower o (lowest (flat_map F ys)) → p ≡ lower first (lowest (flat_map F (y ∷ ys)))
one_more F y ys first o p e h = h ∙ (ap (λ t. lower t (lowest (flat_map F ys))) e ∙ (lower-assoc first (lowest (F y)) (lowest (flat_map F ys)) ∙ ap (lower first) (sym (lowest-append (F y) (flat_map F ys)))))

-- a part with one expression, alone and before others
pub just_one : (us : List ℕ) (first o : Option ℕ) → o ≡ lower first (lowest us) → o ≡ lower first (lowest ((us ++ []) ++ []))
just_one us first o e = e ∙ ap (λ t. lower first (lowest t)) (sym (append-nil us) ∙ sym (append-nil (us ++ [])))

pub expr_then : {X Y : Type 0} (F : Y → List ℕ) (G : X → List Y) (us : List ℕ) (y : Y) (xs zs : List X) (first o p : Option ℕ) → F y ≡ us ++ [] → zs ≡ xs
    → o ≡ lower first (lowest us) → p ≡ lower o (lowest (flat_map (λ x. flat_map F (G x)) zs)) → p ≡ lower first (lowest (flat_map F (y ∷ flat_map G xs)))
expr_then F G us y xs zs first o p f same e h =
    one_more F y (flat_map G xs) first o p (e ∙ ap (λ t. lower first (lowest t)) (sym (append-nil us) ∙ sym f))
    (h ∙ ap (λ t. lower o (lowest t)) (ap (flat_map (λ x. flat_map F (G x))) same ∙ sym (flat_flat F G xs)))

pub none_then : {X Y : Type 0} (F : Y → List ℕ) (G : X → List Y) (y : Y) (xs zs : List X) (first p : Option ℕ) → F y ≡ [] → zs ≡ xs
    → p ≡ lower first (lowest (flat_map (λ x. flat_map F (G x)) zs)) → p ≡ lower first (lowest (flat_map F (y ∷ flat_map G xs)))
none_then F G y xs zs first p f same h =
    h ∙ ap (λ t. lower first (lowest t)) (ap (flat_map (λ x. flat_map F (G x))) same ∙ (sym (flat_flat F G xs) ∙ ap (λ t. t ++ flat_map F (flat_map G xs)) (sym f)))

pub in_three : {Y : Type 0} (F : Y → List ℕ) (ps qs rs : List Y) (us vs : List ℕ) (first o p q : Option ℕ) → flat_map F qs ≡ us → flat_map F rs ≡ vs
    → o ≡ lower first (lowest (flat_map F ps)) → p ≡ lower o (lowest us) → q ≡ lower p (lowest vs) → q ≡ lower first (lowest (flat_map F (ps ++ qs ++ rs)))
in_three F ps qs rs us vs first o p q a b e h k =
    rw (flat_map-append F (ps ++ qs) rs, flat_map-append F ps qs, lowest-append, lowest-append, a, b, ← lower-assoc, ← lower-assoc, ← e, ← h) k
