-- What is found of an expression, by its own faults, its operands and how they fit.
use Rattle.std.proofs.Common.{◌≡◌, ℕ, Bool, true, false, List, [], ◌∷◌, ◌++◌, refl, sym, ◌∙◌, ap, arith}
use Rattle.std.specs.Prelude.{Option, None, Some, nat_lt, ◌==◌, ◌&&◌, ◌||◌, if◌then◌else◌}
use Rattle.std.specs.Option.{option_map}
use Rattle.std.proofs.lemmas.Bool.Decides.{nat_tests}
use Rattle.hept_ast.specs.Types.{Fit, Fits, Misfit, Untyped}
use Rattle.hept_ast.specs.Faults.{Fault, Kind, UnknownName, Duplicate, Mismatch, ZeroDivisor, Recursive, NotDefined, FutureKept, NestedAsync, Limit, Judged, judged, judged_of, judged_by, number}
use Rattle.hept_ast.specs.Limits.{comes_before, earlier_of, earliest}
use Rattle.hept_ast.proofs.Earliest.{earlier_of-assoc, earlier_of-none, earliest-cons, earliest-nil}
use Rattle.expression_types.specs.Fits.{mismatch, settled, stands}
use Rattle.earliest_fault.proofs.Noting.{noted_both}

-- ---- a mismatch may be noted last: no other fault at its place has its number

mismatch_of : (k : Kind) → number k ≡ 3 → k ≡ Mismatch
mismatch_of UnknownName e = absurd (omega arith)
mismatch_of Duplicate e = absurd (omega arith)
mismatch_of Mismatch e = refl
mismatch_of ZeroDivisor e = absurd (omega arith)
mismatch_of Recursive e = absurd (omega arith)
mismatch_of NotDefined e = absurd (omega arith)
mismatch_of FutureKept e = absurd (omega arith)
mismatch_of NestedAsync e = absurd (omega arith)
mismatch_of (Limit kept limit) e = absurd (omega arith)

abbrev mismatch_at : ℕ → Fault
mismatch_at p = record { place = p; kind = Mismatch }

abbrev before : (p k q l : ℕ) → Bool
before p k q l = nat_lt p q || (p == q && nat_lt k l)

not_both : (p k q l : ℕ) → before p k q l ≡ true → before q l p k ≡ true → ⊥
not_both p k q l e d = grind (arith, nat_tests)

as_early : (p k q l : ℕ) → before p k q l ≡ false → before q l p k ≡ false → (p ≡ q) × (k ≡ l)
as_early p k q l e d = (grind (arith, nat_tests), grind (arith, nat_tests))

same_fault : (p : ℕ) (k : Kind) (q : ℕ) → p ≡ q → k ≡ Mismatch → let f : Fault = record { place = p; kind = k } in f ≡ mismatch_at q
same_fault p k q e d = cc

late_tested : (p : ℕ) (f : Fault) (a b : Bool) → comes_before (mismatch_at p) f ≡ a → comes_before f (mismatch_at p) ≡ b
    → (if a then mismatch_at p else f) ≡ (if b then f else mismatch_at p)
late_tested p f true true e d = absurd (not_both p 3 f.place (number f.kind) e d)
late_tested p f true false e d = refl
late_tested p f false true e d = refl
late_tested p f false false e d = let s = as_early p 3 f.place (number f.kind) e d in same_fault f.place f.kind p (sym s.0) (mismatch_of f.kind (sym s.1))

late : (p : ℕ) (q : Option Fault) → earlier_of q (Some (mismatch_at p)) ≡ earlier_of (Some (mismatch_at p)) q
late p None = refl
late p (Some f) = ap (λ x. Some x) (late_tested p f (comes_before (mismatch_at p) f) (comes_before f (mismatch_at p)) refl refl)

-- ---- what is found

nothing_more : (o p : Option Fault) → p ≡ earlier_of o (earliest []) → p ≡ o
nothing_more o p e = e ∙ (ap (earlier_of o) earliest-nil ∙ earlier_of-none o)

one_more : (m : Fault) (o p : Option Fault) → p ≡ earlier_of o (earliest (m ∷ [])) → p ≡ earlier_of o (Some m)
one_more m o p e = e ∙ ap (earlier_of o) (earliest-cons m [] ∙ ap (earlier_of (Some m)) earliest-nil)

found_by : (p : ℕ) (fs : List Fault) (fit : Fit) (first o last : Option Fault) → o ≡ earlier_of first (earliest fs) → last ≡ earlier_of o (earliest (mismatch p (Some fit)))
    → last ≡ earlier_of first (earliest (judged_by p fs fit).faults)
found_by p fs (Fits ts) first o last e h = nothing_more o last h ∙ e
found_by p fs Untyped first o last e h = nothing_more o last h ∙ e
found_by p fs Misfit first o last e h =
    one_more (mismatch_at p) o last h
    ∙ (ap (λ t. earlier_of t (Some (mismatch_at p))) e
    ∙ (earlier_of-assoc first (earliest fs) (Some (mismatch_at p))
    ∙ (ap (earlier_of first) (late p (earliest fs) ∙ sym (earliest-cons (mismatch_at p) fs)))))

found_of : {A : Type 0} (p : ℕ) (fs : List Fault) (types : Option A) (fit : A → Fit) (first o last : Option Fault) → o ≡ earlier_of first (earliest fs) → last ≡ earlier_of o (earliest (mismatch p (option_map fit types)))
    → last ≡ earlier_of first (earliest (judged_of p fs types fit).faults)
found_of p fs None fit first o last e h = nothing_more o last h ∙ e
found_of p fs (Some ts) fit first o last e h = found_by p fs (fit ts) first o last e h

-- an expression's own faults are noted, then those of its operands, and then its mismatch
pub judged-found : {A : Type 0} (p : ℕ) (own : List Fault) (operands : Judged A) (fit : A → Fit) (first noted inner last : Option Fault)
    → noted ≡ earlier_of first (earliest own) → inner ≡ earlier_of noted (earliest operands.faults) → last ≡ earlier_of inner (earliest (mismatch p (option_map fit operands.types)))
    → last ≡ earlier_of first (earliest (judged p own operands fit).faults)
judged-found p own operands fit first noted inner last e d h =
    found_of p (own ++ operands.faults) operands.types fit first inner last (noted_both own operands.faults first noted inner e d) h

-- ---- what it gives

-- what has types has no fault
abbrev pub Clean : {A : Type 0} → List Fault → Option A → Type 0
Clean fs None = Unit {0}
Clean fs (Some ts) = fs ≡ []

types_by : (p : ℕ) (own : List Fault) (fit : Fit) → (judged_by p own fit).types ≡ settled (Some fit) (stands own)
types_by p [] (Fits ts) = refl
types_by p (f ∷ fs) (Fits ts) = refl
types_by p own Misfit = refl
types_by p own Untyped = refl

append_none : (fs : List Fault) → fs ++ [] ≡ fs
append_none [] = refl
append_none (f ∷ fs) = ap (λ t. f ∷ t) (append_none fs)

types_of : {A : Type 0} (p : ℕ) (own fs : List Fault) (types : Option A) (fit : A → Fit) → Clean fs types → (judged_of p (own ++ fs) types fit).types ≡ settled (option_map fit types) (stands own)
types_of p own fs None fit clean = refl
types_of p own fs (Some ts) fit clean = ap (λ t. (judged_by p t (fit ts)).types) (ap (λ t. own ++ t) clean ∙ append_none own) ∙ types_by p own (fit ts)

pub judged-types : {A : Type 0} (p : ℕ) (own : List Fault) (operands : Judged A) (fit : A → Fit) → Clean operands.faults operands.types
    → (judged p own operands fit).types ≡ settled (option_map fit operands.types) (stands own)
judged-types p own operands fit clean = types_of p own operands.faults operands.types fit clean

pub judged_by-clean : (p : ℕ) (own : List Fault) (fit : Fit) → Clean (judged_by p own fit).faults (judged_by p own fit).types
judged_by-clean p [] (Fits ts) = refl
judged_by-clean p (f ∷ fs) (Fits ts) = tt
judged_by-clean p own Misfit = tt
judged_by-clean p own Untyped = tt

clean_of : {A : Type 0} (p : ℕ) (fs : List Fault) (types : Option A) (fit : A → Fit) → Clean (judged_of p fs types fit).faults (judged_of p fs types fit).types
clean_of p fs None fit = tt
clean_of p fs (Some ts) fit = judged_by-clean p fs (fit ts)

pub judged-clean : {A : Type 0} (p : ℕ) (own : List Fault) (operands : Judged A) (fit : A → Fit) → Clean (judged p own operands fit).faults (judged p own operands fit).types
judged-clean p own operands fit = clean_of p (own ++ operands.faults) operands.types fit
