-- Where equations stand, and which define what an earlier one does.
use Rattle.std.proofs.Common.{add-one, zero, suc, ◌+◌, ◌<◌, length, take, get_or, map, ◌≡◌, ℕ, Bool, true, false, ◌||◌, not, List, [], ◌∷◌, ◌++◌, refl, sym, ◌∙◌, ap, arith, append_assoc, append-nil}
use Rattle.std.specs.Prelude.{Option}
use Rattle.std.specs.List.{list_any, flat_map}
use Rattle.std.proofs.lemmas.List.Folds.{list_any-append}
use Rattle.hept_ast.specs.Texts.{Name, same, is_in}
use Rattle.hept_ast.specs.Faults.{Fault, Duplicate, NotDefined, fault, second_definitions}
use Rattle.hept_ast.specs.Limits.{earlier_of, earliest}
use Rattle.hept_ast.specs.Parts.{place_of, equation_case, sets_of}
use Rattle.hept_ast.specs.declared.name.Place.{Place}
use Rattle.hept_ast.specs.declared.tree.Decl.{Decl}
use Rattle.hept_ast.specs.declared.tree.Block.{Block}
use Rattle.hept_ast.specs.declared.tree.Branch.{Branch}
use Rattle.hept_ast.specs.declared.tree.State.{State}
use Rattle.hept_ast.specs.declared.tree.Expr.{Expr}
use Rattle.hept_ast.specs.declared.tree.Equation as eq
use Rattle.hept_ast.specs.declared.tree.Equation.{Equation}
use Rattle.hept_ast.proofs.Unfolded.{static}
use Rattle.block_definitions.specs.Defined.{again_fault, undefined_fault}
use Rattle.earliest_fault.proofs.Noting.{noted_both}

pub place-Define : (p : Place) (left : List Name) (right : Expr) → place_of (eq.Define p left right) ≡ p.0
unfolding static
place-Define p left right = refl

pub place-Switch : (p : Place) (on : Expr) (bs : List Branch) → place_of (eq.Switch p on bs) ≡ p.0
unfolding static
place-Switch p on bs = refl

pub place-Reset : (p : Place) (block : Block) (every : Expr) → place_of (eq.Reset p block every) ≡ p.0
unfolding static
place-Reset p block every = refl

pub place-Automaton : (p : Place) (qs : List State) → place_of (eq.Automaton p qs) ≡ p.0
unfolding static
place-Automaton p qs = refl

pub ruleset places_of = (place-Define, place-Switch, place-Reset, place-Automaton)

-- what is defined before depends on no order
any_same : {X : Type 0} (p q : X → Bool) → ((x : X) → p x ≡ q x) → (xs : List X) → list_any p xs ≡ list_any q xs
any_same p q h [] = refl
any_same p q h (x ∷ xs) = ap (λ b. b || list_any p xs) (h x) ∙ ap (λ b. q x || b) (any_same p q h xs)

or_swap : (a b c : Bool) → a || (b || c) ≡ (b || a) || c
or_swap true true c = refl
or_swap true false c = refl
or_swap false true c = refl
or_swap false false c = refl

or_no : (a : Bool) → a || false ≡ a
or_no true = refl
or_no false = refl

moved : (x : Name) (sets own earlier : List Name) → is_in x sets || is_in x (own ++ earlier) ≡ is_in x (own ++ sets) || is_in x earlier
moved x sets own earlier =
    ap (λ b. is_in x sets || b) (list_any-append (same x) own earlier)
    ∙ (or_swap (is_in x sets) (is_in x own) (is_in x earlier) ∙ ap (λ b. b || is_in x earlier) (sym (list_any-append (same x) own sets)))

-- one more equation
more : (earlier : List Name) (xs : List Equation) (i : ℕ) (d : Equation) → i < length xs
    → second_definitions earlier (map equation_case (take (suc i) xs))
    ≡ second_definitions earlier (map equation_case (take i xs)) ++ fault (place_of (get_or xs i d)) Duplicate (list_any (λ x. is_in x (flat_map sets_of (take i xs)) || is_in x earlier) (sets_of (get_or xs i d)))
more earlier [] i d h = absurd (omega arith)
more earlier (e ∷ xs) zero d h = append-nil _
more earlier (e ∷ xs) (suc i) d h =
    let q = get_or xs i d in
    let first = again_fault earlier (equation_case e) in
    ap (λ t. first ++ t) (more (sets_of e ++ earlier) xs i d (omega arith))
    ∙ (sym (append_assoc first _ _)
    ∙ ap (λ b. (first ++ second_definitions (sets_of e ++ earlier) (map equation_case (take i xs))) ++ fault (place_of q) Duplicate b)
    (any_same (λ x. is_in x (flat_map sets_of (take i xs)) || is_in x (sets_of e ++ earlier)) (λ x. is_in x (sets_of e ++ flat_map sets_of (take i xs)) || is_in x earlier)
    (λ x. moved x (flat_map sets_of (take i xs)) (sets_of e) earlier) (sets_of q)))

pub again_step : (xs : List Equation) (i : ℕ) (d e : Equation) (earlier : List Name) (first o p : Option Fault)
    → i < length xs → o ≡ earlier_of first (earliest (second_definitions [] (map equation_case (take i xs)))) → e ≡ get_or xs i d → earlier ≡ flat_map sets_of (take i xs)
    → p ≡ earlier_of o (earliest (again_fault earlier (equation_case e)))
    → p ≡ earlier_of first (earliest (second_definitions [] (map equation_case (take (i + 1) xs))))
again_step xs i d e earlier first o p below h g s n =
    let same_test = any_same (λ x. is_in x (flat_map sets_of (take i xs)) || is_in x []) (λ x. is_in x (flat_map sets_of (take i xs))) (λ x. or_no (is_in x (flat_map sets_of (take i xs)))) (sets_of e) in
    rw (add-one, more [] xs i d below, ← g, same_test, ← s) (noted_both _ _ first o p h n)

flat_take_sets : (xs : List Equation) (i : ℕ) (d : Equation) → i < length xs → flat_map sets_of (take (suc i) xs) ≡ flat_map sets_of (take i xs) ++ sets_of (get_or xs i d)
flat_take_sets [] i d h = absurd (omega arith)
flat_take_sets (x ∷ xs) zero d h = append-nil (sets_of x)
flat_take_sets (x ∷ xs) (suc i) d h = ap (λ t. sets_of x ++ t) (flat_take_sets xs i d (omega arith)) ∙ sym (append_assoc (sets_of x) _ _)

-- the same, by a set that has the names defined before
pub again_met : (xs : List Equation) (i : ℕ) (d e : Equation) (met : List Name) (first o p : Option Fault)
    → i < length xs → o ≡ earlier_of first (earliest (second_definitions [] (map equation_case (take i xs)))) → e ≡ get_or xs i d → ((x : Name) → is_in x met ≡ is_in x (flat_map sets_of (take i xs)))
    → p ≡ earlier_of o (earliest (again_fault met (equation_case e)))
    → p ≡ earlier_of first (earliest (second_definitions [] (map equation_case (take (i + 1) xs))))
again_met xs i d e met first o p below h g s n =
    again_step xs i d e (flat_map sets_of (take i xs)) first o p below h g refl
    (n ∙ ap (λ b. earlier_of o (earliest (fault (place_of e) Duplicate b))) (any_same (λ x. is_in x met) (λ x. is_in x (flat_map sets_of (take i xs))) s (sets_of e)))

pub met_step : (xs : List Equation) (i : ℕ) (d e : Equation) (x : Name) (met now : Bool) → i < length xs → met ≡ is_in x (flat_map sets_of (take i xs)) → e ≡ get_or xs i d
    → now ≡ met || is_in x (sets_of e) → now ≡ is_in x (flat_map sets_of (take (i + 1) xs))
met_step xs i d e x met now below h g n =
    rw (add-one, flat_take_sets xs i d below, ← g) (n ∙ (ap (λ b. b || is_in x (sets_of e)) h ∙ sym (list_any-append (same x) (flat_map sets_of (take i xs)) (sets_of e))))

-- what is undefined depends on which names are defined, and not on their order
pub undefined_same : (met names : List Name) (ds : List Decl) → ((x : Name) → is_in x met ≡ is_in x names) → flat_map (undefined_fault met) ds ≡ flat_map (undefined_fault names) ds
undefined_same met names [] h = refl
undefined_same met names (d ∷ ds) h =
    ap (λ b. fault d.place.0 NotDefined (not b) ++ flat_map (undefined_fault met) ds) (h d.name) ∙ ap (λ t. undefined_fault names d ++ t) (undefined_same met names ds h)
