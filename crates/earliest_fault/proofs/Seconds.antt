-- Labels that an earlier one equals.
use Rattle.std.proofs.Common.{add-one, zero, suc, ◌+◌, ◌<◌, length, take, get_or, map, ◌≡◌, ℕ, Bool, true, false, ◌||◌, not, List, [], ◌∷◌, ◌++◌, refl, sym, ◌∙◌, ap, arith, append_assoc, append-nil}
use Rattle.std.specs.Prelude.{Option}
use Rattle.std.specs.List.{list_any}
use Rattle.hept_ast.specs.Faults.{Fault, Duplicate, fault, seconds}
use Rattle.hept_ast.specs.Limits.{earlier_of, earliest}
use Rattle.earliest_fault.proofs.Noting.{any_take, noted_both}

or_swap : (a b c : Bool) → (a || b) || c ≡ b || (a || c)
or_swap true true c = refl
or_swap true false c = refl
or_swap false b c = refl

-- one more label
seconds_more : {X A : Type 0} (eq : A → A → Bool) (label : X → ℕ × A) (earlier : List A) (xs : List X) (i : ℕ) (d : X) → i < length xs
    → seconds eq earlier (map label (take (suc i) xs)) ≡ seconds eq earlier (map label (take i xs)) ++ fault (label (get_or xs i d)).0 Duplicate (list_any (λ x. eq (label (get_or xs i d)).1 (label x).1) (take i xs) || list_any (eq (label (get_or xs i d)).1) earlier)
seconds_more eq label earlier [] i d h = absurd (omega arith)
seconds_more eq label earlier (x ∷ xs) zero d h = append-nil _
seconds_more eq label earlier (x ∷ xs) (suc i) d h =
    let q = label (get_or xs i d) in
    ap (λ t. fault (label x).0 Duplicate (list_any (eq (label x).1) earlier) ++ t) (seconds_more eq label ((label x).1 ∷ earlier) xs i d (omega arith))
    ∙ (sym (append_assoc (fault (label x).0 Duplicate (list_any (eq (label x).1) earlier)) _ _)
    ∙ ap (λ b. (fault (label x).0 Duplicate (list_any (eq (label x).1) earlier) ++ seconds eq ((label x).1 ∷ earlier) (map label (take i xs))) ++ fault q.0 Duplicate b)
    (sym (or_swap (eq q.1 (label x).1) (list_any (λ y. eq q.1 (label y).1) (take i xs)) (list_any (eq q.1) earlier))))

or_no : (a : Bool) → a || false ≡ a
or_no true = refl
or_no false = refl

pub seconds_step : {X A : Type 0} (eq : A → A → Bool) (label : X → ℕ × A) (xs : List X) (i : ℕ) (d x : X) (b : Bool) (first o p : Option Fault)
    → i < length xs → o ≡ earlier_of first (earliest (seconds eq [] (map label (take i xs)))) → x ≡ get_or xs i d
    → b ≡ list_any (λ y. eq (label x).1 (label y).1) (take i xs) → p ≡ earlier_of o (earliest (fault (label x).0 Duplicate b))
    → p ≡ earlier_of first (earliest (seconds eq [] (map label (take (i + 1) xs))))
seconds_step eq label xs i d x b first o p below e g t h =
    rw (add-one, seconds_more eq label [] xs i d below, or_no, ← g, ← t) (noted_both _ _ first o p e h)

not_not : (b : Bool) → not (not b) ≡ b
not_not true = refl
not_not false = refl

-- the same, by what says that a label is a new one
pub seconds_added : {X A : Type 0} (eq : A → A → Bool) (label : X → ℕ × A) (xs : List X) (i : ℕ) (d x : X) (added met : Bool) (first o p : Option Fault)
    → i < length xs → o ≡ earlier_of first (earliest (seconds eq [] (map label (take i xs)))) → x ≡ get_or xs i d
    → met ≡ list_any (λ y. eq (label x).1 (label y).1) (take i xs) → added ≡ not met → p ≡ earlier_of o (earliest (fault (label x).0 Duplicate (not added)))
    → p ≡ earlier_of first (earliest (seconds eq [] (map label (take (i + 1) xs))))
seconds_added eq label xs i d x added met first o p below e g t n h =
    seconds_step eq label xs i d x (not added) first o p below e g ((ap not n ∙ not_not met) ∙ t) h

-- what was met, with one more label
pub met_step : {X A : Type 0} (eq : A → A → Bool) (label : X → ℕ × A) (xs : List X) (i : ℕ) (d x : X) (y : A) (met now : Bool)
    → i < length xs → x ≡ get_or xs i d → met ≡ list_any (λ z. eq y (label z).1) (take i xs) → now ≡ met || eq y (label x).1
    → now ≡ list_any (λ z. eq y (label z).1) (take (i + 1) xs)
met_step eq label xs i d x y met now below g m h =
    rw (add-one, any_take (λ z. eq y (label z).1) xs i d below, ← g, ← m) h
