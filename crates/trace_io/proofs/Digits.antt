-- Digits and the value that they spell.
use Rattle.std.proofs.Common.{◌≡◌, ℕ, ◌+◌, ◌-◌, ◌*◌, ◌<◌, ◌≤◌, Bool, true, false, cond, leb, eqb, List, [], ◌∷◌, length, take, get_or, Option, Some, None, sym, refl, ap, ◌∙◌, subst, arith, rules, tests}
use Rattle.std.specs.Prelude.{◌&&◌}
use Rattle.std.specs.List.{list_all}
use Rattle.std.specs.Char.{is_ascii_digit}
use Rattle.std.specs.Int.{IsInRange}
use Rattle.std.specs.Str.Parse.{digits_value}
use Rattle.std.proofs.lemmas.List.Folds.{list_all_at, list_all_more}
use Rattle.std.proofs.lemmas.List.{take_all}
use Rattle.std.proofs.lemmas.Bool.Decides.{nat_tests}
use Rattle.std.proofs.lemmas.Int.Digits.{digits_value_more}
use Rattle.std.proofs.lemmas.Str.{digit_value_digit}
use Rattle.std.proofs.lemmas.Str.Parse.{digits_value-take-le}
use Rattle.trace_io.specs.RowText.{magnitude}

left_fails : (a b : Bool) (x : Option ℕ) → a ≡ false → cond (a && b) x None ≡ None
left_fails a b x e = rw e

right_fails : (a b : Bool) (x : Option ℕ) → b ≡ false → cond (a && b) x None ≡ None
right_fails a b x e = elim a as (λ v. cond (v && b) x None ≡ None) [ true ↦ rw e | false ↦ refl ]

both_hold : (a b : Bool) (x : Option ℕ) → a ≡ true → b ≡ true → cond (a && b) x None ≡ x
both_hold a b x e f = rw (e, f)

pub none_of_some : (greatest : ℕ) (ds : List ℕ) (i : ℕ) → i < length ds → is_ascii_digit (get_or ds i 0) ≡ false → magnitude greatest ds ≡ None
none_of_some greatest [] i l e = refl
none_of_some greatest (d ∷ ds) i l e = left_fails (list_all is_ascii_digit (d ∷ ds)) _ _ (list_all_at is_ascii_digit (d ∷ ds) i 0 l e)

pub too_large : (greatest : ℕ) (ds : List ℕ) → greatest < digits_value 10 ds → magnitude greatest ds ≡ None
too_large greatest [] l = refl
too_large greatest (d ∷ ds) l = let e : leb (digits_value 10 (d ∷ ds)) greatest ≡ false = grind (arith, nat_tests) in right_fails (list_all is_ascii_digit (d ∷ ds)) _ _ e

pub value_is : (greatest : ℕ) (ds : List ℕ) → 0 < length ds → list_all is_ascii_digit ds ≡ true → digits_value 10 ds ≤ greatest → magnitude greatest ds ≡ Some (digits_value 10 ds)
value_is greatest [] l e h = absurd (omega arith)
value_is greatest (d ∷ ds) l e h = let f : leb (digits_value 10 (d ∷ ds)) greatest ≡ true = grind (arith, nat_tests) in both_hold _ _ _ e f

pub one_more : (ds : List ℕ) (i v : ℕ) → i < length ds → is_ascii_digit (get_or ds i 0) ≡ true → v ≡ digits_value 10 (take i ds) →
    v * 10 + (get_or ds i 0 - 48) ≡ digits_value 10 (take (i + 1) ds)
one_more ds i v l e h =
    let digit : IsInRange 48 57 (get_or ds i 0) = search (rules, tests) in
    omega (arith, digits_value_more 10 ds i l, digit_value_digit (get_or ds i 0) digit)

pub longer_too_large : (greatest : ℕ) (ds : List ℕ) (i v : ℕ) → i < length ds → is_ascii_digit (get_or ds i 0) ≡ true → v ≡ digits_value 10 (take i ds) →
    greatest < v * 10 + (get_or ds i 0 - 48) → magnitude greatest ds ≡ None
longer_too_large greatest ds i v l e h large = too_large greatest ds (omega (arith, one_more ds i v l e h, digits_value-take-le 10 ds (i + 1) (omega arith)))

pub all_more : (ds : List ℕ) (i : ℕ) → i < length ds → list_all is_ascii_digit (take i ds) ≡ true → is_ascii_digit (get_or ds i 0) ≡ true → list_all is_ascii_digit (take (i + 1) ds) ≡ true
all_more ds i l e f = list_all_more is_ascii_digit ds i 0 l ∙ ap (λ b. b && is_ascii_digit (get_or ds i 0)) e ∙ f

pub value_at_end : (greatest : ℕ) (ds : List ℕ) (i v : ℕ) → 0 < length ds → length ds ≤ i → list_all is_ascii_digit (take i ds) ≡ true → v ≡ digits_value 10 (take i ds) → v ≤ greatest → magnitude greatest ds ≡ Some v
value_at_end greatest ds i v l end e h fits =
    let same : take i ds ≡ ds = take_all i ds end in
    let value : v ≡ digits_value 10 ds = h ∙ ap (digits_value 10) same in
    value_is greatest ds l (sym (ap (list_all is_ascii_digit) same) ∙ e) (subst (λ n. n ≤ greatest) value fits) ∙ ap Some (sym value)

pub not_empty : (ds : List ℕ) → eqb (length ds) 0 ≡ false → 0 < length ds
not_empty [] e = cc
not_empty (d ∷ ds) e = omega arith
