-- What a set of a clock leaves in a map of clocks.
use Rattle.std.proofs.Common.{◌≡◌, ℕ, zero, suc, ◌<◌, ◌≤◌, List, [], ◌∷◌, ◌++◌, length, refl, sym, ◌∙◌, ap, arith, subst, Bool, true, false, if◌then◌else◌, ◌==◌, ◌&&◌, slice_set, slice_index_or, Some, None}
use Rattle.std.specs.Prelude.{Option, position}
use Rattle.std.specs.List.{find, position_or_len}
use Rattle.std.specs.Option.{option_map, option_or}
use Rattle.std.proofs.lemmas.Slice.Eq.{bytes_eq-Decides}
use Rattle.std.proofs.lemmas.Bool.Decides.{nat_tests}
use Rattle.std.proofs.lemmas.List.Quantifiers.{position-Some}
use Rattle.std.proofs.lemmas.List.Folds.{find_at, find-set, find_past, find-append}
use Rattle.std.proofs.lemmas.Option.{slice_get_past}
use Rattle.hept_ast.specs.Texts.{Name, same}
use Rattle.hept_ast.specs.ClockMaps.{ClockMap, path_among, path_in, IsPut, IsSetIn, IsSameMap}
use Rattle.hept_ast.specs.declared.clocks.NamedClock.{NamedClock}
use Rattle.hept_ast.specs.declared.tree.ClockPath.{ClockPath}

-- the test of a name
abbrev named : Name → NamedClock → Bool
named x c = same x c.name

abbrev path_of : Option NamedClock → Option ClockPath
path_of o = option_map (λ c. c.path) o

-- a clock is found where it was written over the first of its name
module _ (cs : List NamedClock) (c : NamedClock) (i : ℕ) (found : position (named c.name) cs ≡ Some i) where
  set_same : (y : Name) → same y c.name ≡ true → path_among (slice_set cs i c) y ≡ Some c.path
  set_same y e =
      let h : y ≡ c.name = (bytes_eq-Decides y c.name).0 e in
      let w = position-Some (named c.name) cs i c found in
      let at : i ≡ position_or_len (named c.name) cs = grind (arith, nat_tests, found) in
      subst (λ z. path_among (slice_set cs i c) z ≡ Some c.path) (sym h) (ap path_of (find-set (named c.name) cs i c at w.0 ((bytes_eq-Decides c.name c.name).1 refl)))

  set_other : (y : Name) → same y c.name ≡ false → path_among (slice_set cs i c) y ≡ path_among cs y
  set_other y e =
      let w = position-Some (named c.name) cs i c found in
      let h : c.name ≡ (slice_index_or cs i c).name = (bytes_eq-Decides c.name (slice_index_or cs i c).name).0 w.1 in
      ap path_of (find_past (named y) cs i c c (ap (same y) (sym h) ∙ e) e)

  set_tested : (y : Name) (t : Bool) → same y c.name ≡ t → path_among (slice_set cs i c) y ≡ (if t then Some c.path else path_among cs y)
  set_tested y true e = set_same y e
  set_tested y false e = set_other y e

  pub put_over : IsPut cs (slice_set cs i c) c.name c.path
  put_over y = set_tested y (same y c.name) refl

-- a clock of a new name
module _ (cs : List NamedClock) (c : NamedClock) (none : position (named c.name) cs ≡ None) where
  not_found : find (named c.name) cs ≡ None
  not_found =
      let past : length cs ≤ position_or_len (named c.name) cs = grind (arith, nat_tests, none) in
      find_at (named c.name) cs ∙ slice_get_past cs (position_or_len (named c.name) cs) past

  push_tested : (y : Name) (t : Bool) → same y c.name ≡ t → path_among (cs ++ c ∷ []) y ≡ (if t then Some c.path else path_among cs y)
  push_tested y true e =
      let h : y ≡ c.name = (bytes_eq-Decides y c.name).0 e in
      let f : find (named y) cs ≡ None = subst (λ z. find (named z) cs ≡ None) (sym h) not_found in
      ap path_of (find-append (named y) cs (c ∷ [])) ∙ (ap (λ o. path_of (option_or o (find (named y) (c ∷ [])))) f ∙ ap (λ t. path_of (if t then Some c else None)) e)
  push_tested y false e = ap path_of (find-append (named y) cs (c ∷ []) ∙ (ap (λ t. option_or (find (named y) cs) (if t then Some c else None)) e ∙ or_none (find (named y) cs)))
    where
      or_none : (o : Option NamedClock) → option_or o None ≡ o
      or_none None = refl
      or_none (Some x) = refl

  pub put_last : IsPut cs (cs ++ c ∷ []) c.name c.path
  put_last y = push_tested y (same y c.name) refl

-- room for more nodes changes no clock
pub grown_same : (m : ClockMap) → IsSameMap m (m ++ [] ∷ [])
grown_same [] zero y = refl
grown_same [] (suc j) y = refl
grown_same (cs ∷ m) zero y = refl
grown_same (cs ∷ m) (suc j) y = grown_same m j y

pub same_then : (m n o : ClockMap) → IsSameMap m n → IsSameMap n o → IsSameMap m o
same_then m n o e f j y = f j y ∙ e j y

not_first : (j : ℕ) → (suc j == 0) ≡ false
not_first j = grind (arith, nat_tests)

first_not : (k : ℕ) → (0 == suc k) ≡ false
first_not k = grind (arith, nat_tests)

both_later : (j k : ℕ) → (j == k) ≡ (suc j == suc k)
both_later j k = grind (arith, nat_tests)

-- the clocks of one node put in their place
set_at : (m : ClockMap) (k : ℕ) (cs now : List NamedClock) → k < length m → now ≡ slice_index_or m k now → (j : ℕ) (y : Name) (x : Name) (p : ClockPath) → IsPut now cs x p
    → path_in (slice_set m k cs) j y ≡ (if j == k && same y x then Some p else path_in m j y)
set_at [] k cs now below e j y x p put = absurd (omega arith)
set_at (c ∷ m) zero cs now below e zero y x p put = subst (λ t. path_among cs y ≡ (if same y x then Some p else path_among t y)) e (put y)
set_at (c ∷ m) zero cs now below e (suc j) y x p put = ap (λ t. if t && same y x then Some p else path_in m j y) (sym (not_first j))
set_at (c ∷ m) (suc k) cs now below e zero y x p put = ap (λ t. if t && same y x then Some p else path_among c y) (sym (first_not k))
set_at (c ∷ m) (suc k) cs now below e (suc j) y x p put = set_at m k cs now (omega arith) e j y x p put ∙ ap (λ t. if t && same y x then Some p else path_in m j y) (both_later j k)

pub set_in_place : (m : ClockMap) (k : ℕ) (cs now : List NamedClock) → k < length m → now ≡ slice_index_or m k now → (x : Name) (p : ClockPath) → IsPut now cs x p → IsSetIn m (slice_set m k cs) k x p
set_in_place m k cs now below e x p put j y = set_at m k cs now below e j y x p put

pub set_after : (m n o : ClockMap) (k : ℕ) (x : Name) (p : ClockPath) → IsSameMap m n → IsSetIn n o k x p → IsSetIn m o k x p
set_after m n o k x p e f j y = f j y ∙ ap (λ t. if j == k && same y x then Some p else t) (e j y)
