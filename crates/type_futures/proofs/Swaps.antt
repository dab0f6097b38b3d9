-- A fault that is noted after those that stand behind it in the list.
use Rattle.std.proofs.Common.{◌≡◌, ℕ, List, ◌++◌, refl, sym, ◌∙◌, ap, arith, Bool, true, false, ◌&&◌, ◌||◌, Some, None, nat_lt, ◌==◌, if◌then◌else◌}
use Rattle.std.specs.Prelude.{Option}
use Rattle.std.proofs.lemmas.Bool.Decides.{nat_tests}
use Rattle.hept_ast.specs.Faults.{Fault, Kind, UnknownName, Duplicate, Mismatch, ZeroDivisor, Recursive, NotDefined, FutureKept, NestedAsync, Limit, fault, number}
use Rattle.hept_ast.specs.Limits.{comes_before, earlier, earlier_of, earliest}
use Rattle.hept_ast.proofs.Earliest.{earlier_of-assoc, earlier_of-none, earliest-nil, earliest-cons}

-- the one kind of its number
abbrev pub IsOnly : Kind → Type 0
IsOnly k = (j : Kind) → number j ≡ number k → j ≡ k

pub only_mismatch : IsOnly Mismatch
only_mismatch UnknownName h = absurd (omega arith)
only_mismatch Duplicate h = absurd (omega arith)
only_mismatch Mismatch h = refl
only_mismatch ZeroDivisor h = absurd (omega arith)
only_mismatch Recursive h = absurd (omega arith)
only_mismatch NotDefined h = absurd (omega arith)
only_mismatch FutureKept h = absurd (omega arith)
only_mismatch NestedAsync h = absurd (omega arith)
only_mismatch (Limit kept limit) h = absurd (omega arith)

level : (p k q l : ℕ) → (nat_lt p q || (p == q && nat_lt k l)) ≡ false → (nat_lt q p || (q == p && nat_lt l k)) ≡ false → (p ≡ q) × (k ≡ l)
level p k q l e h = let a : p ≡ q = grind (arith, nat_tests) in let b : k ≡ l = grind (arith, nat_tests) in (a, b)

not_both : (p k q l : ℕ) → (nat_lt p q || (p == q && nat_lt k l)) ≡ true → (nat_lt q p || (q == p && nat_lt l k)) ≡ false
not_both p k q l e = grind (arith, nat_tests)

tested : (f g : Fault) (a b : Bool) → IsOnly f.kind → comes_before f g ≡ a → comes_before g f ≡ b → (if a then f else g) ≡ (if b then g else f)
tested f g true true o e h = absurd (let n = not_both f.place (number f.kind) g.place (number g.kind) e in cc)
tested f g true false o e h = refl
tested f g false true o e h = refl
tested f g false false o e h =
    let s = level f.place (number f.kind) g.place (number g.kind) e h in
    ap (λ t. record { place = g.place; kind = t }) (o g.kind (sym s.1)) ∙ ap (λ t. record { place = t; kind = f.kind }) (sym s.0)

pub swapped : (f g : Fault) → IsOnly f.kind → earlier g f ≡ earlier f g
swapped f g o = tested f g (comes_before f g) (comes_before g f) o refl refl

of_option : (f : Fault) (q : Option Fault) → IsOnly f.kind → earlier_of q (Some f) ≡ earlier_of (Some f) q
of_option f None o = refl
of_option f (Some g) o = ap Some (swapped f g o)

one_first : (p : ℕ) (k : Kind) (b : Bool) (fs : List Fault) → IsOnly k → earlier_of (earliest fs) (earliest (fault p k b)) ≡ earliest (fault p k b ++ fs)
one_first p k false fs o = rw (earliest-nil, earlier_of-none) refl
one_first p k true fs o = rw (earliest-cons, earliest-nil, earliest-cons) (of_option (record { place = p; kind = k }) (earliest fs) o)

-- faults, and then one that stands before them in the list
pub noted_last : (p : ℕ) (k : Kind) (b : Bool) (fs : List Fault) (first o q : Option Fault) → IsOnly k
    → o ≡ earlier_of first (earliest fs) → q ≡ earlier_of o (earliest (fault p k b)) → q ≡ earlier_of first (earliest (fault p k b ++ fs))
noted_last p k b fs first o q only e h =
    h ∙ (ap (λ t. earlier_of t (earliest (fault p k b))) e ∙ (earlier_of-assoc first (earliest fs) (earliest (fault p k b)) ∙ ap (earlier_of first) (one_first p k b fs only)))
