-- A relation that leads on from finitely many names, and along no short path comes back, ends.
use Rattle.std.proofs.Common.{◌≡◌, ℕ, zero, suc, ◌+◌, ◌<◌, ◌≤◌, Bool, true, false, ◌||◌, if◌then◌else◌, List, [], ◌∷◌, length, refl, sym, ap, subst, ◌∙◌, ◌⊎◌, inl, inr, arith}
use Rattle.std.specs.Prelude.{⊤}
use Rattle.std.proofs.lemmas.Bool.{false≢true}
use Rattle.std.proofs.lemmas.Slice.Eq.{bytes_eq-Decides}
use Rattle.hept_ast.specs.Texts.{Name, same, is_in}
use Rattle.core_rules.specs.WellFormed.{Accessible, reach}

pub same_self : (x : Name) → same x x ≡ true
same_self x = (bytes_eq-Decides x x).1 refl

pub same_is : (x y : Name) → same x y ≡ true → x ≡ y
same_is x y e = (bytes_eq-Decides x y).0 e

-- ---- a list without a name

without : Name → List Name → List Name
without x [] = []
without x (z ∷ zs) = if same x z then without x zs else z ∷ without x zs

kept_by : (b : Bool) (z : Name) (zs rest : List Name) → length rest ≤ length zs → length (if b then rest else z ∷ rest) ≤ length (z ∷ zs)
kept_by true z zs rest h = omega arith
kept_by false z zs rest h = omega arith

kept : (x : Name) (zs : List Name) → length (without x zs) ≤ length zs
unfolding without
kept x [] = omega arith
kept x (z ∷ zs) = kept_by (same x z) z zs (without x zs) (kept x zs)

fewer_by : (b : Bool) (z : Name) (zs rest : List Name) (r : Bool) → length rest ≤ length zs → (r ≡ true → length rest < length zs) → b || r ≡ true → length (if b then rest else z ∷ rest) < length (z ∷ zs)
fewer_by true z zs rest r h later e = omega arith
fewer_by false z zs rest r h later e = let k = later e in omega arith

fewer : (x : Name) (zs : List Name) → is_in x zs ≡ true → length (without x zs) < length zs
unfolding without
fewer x [] e = absurd (false≢true e)
fewer x (z ∷ zs) e = fewer_by (same x z) z zs (without x zs) (is_in x zs) (kept x zs) (fewer x zs) e

still_by : (b : Bool) (x y z : Name) (rest : List Name) (r : Bool) → same x z ≡ b → same y x ≡ false → (r ≡ true → is_in y rest ≡ true) → same y z || r ≡ true → is_in y (if b then rest else z ∷ rest) ≡ true
still_by true x y z rest r s n later e = go (same y z) refl e
  where
    go : (c : Bool) → same y z ≡ c → c || r ≡ true → is_in y rest ≡ true
    go true t e = absurd (false≢true (sym n ∙ subst (λ (v : Name). same y v ≡ true) (sym (same_is x z s)) t))
    go false t e = later e
still_by false x y z rest r s n later e = go (same y z) e
  where
    go : (c : Bool) → c || r ≡ true → c || is_in y rest ≡ true
    go true e = refl
    go false e = later e

still : (x y : Name) (zs : List Name) → same y x ≡ false → is_in y zs ≡ true → is_in y (without x zs) ≡ true
unfolding without
still x y [] n e = absurd (false≢true e)
still x y (z ∷ zs) n e = still_by (same x z) x y z (without x zs) (is_in y zs) refl n (still x y zs n) e

-- ---- relations by lists

-- each name of a path leads to the one before, and the first to x
abbrev pub Chain : (Name → Name → Type 0) → Name → List Name → Type 0
Chain R x [] = ⊤
Chain R x (p ∷ ps) = R p x × Chain R p ps

-- each name that leads on is among these, and no path of at most as many names comes back
pub record Ends (R : Name → Name → Type 0) (all : List Name) : Type 0 where
  pub among : (x y : Name) → R x y → is_in x all ≡ true
  pub no_return : (x : Name) (path : List Name) → length path ≤ length all → Chain R x path → is_in x path ≡ true → ⊥

-- the names that are not on the path, at most so many
record LeftOver (all path rest : List Name) : Type 0 where
  covers : (z : Name) → is_in z all ≡ true → (is_in z path ≡ true) ⊎ (is_in z rest ≡ true)
  count : length path + length rest ≤ length all

left_over : (all path rest : List Name) (x : Name) → LeftOver all path rest → is_in x rest ≡ true → LeftOver all (x ∷ path) (without x rest)
left_over all path rest x h at = record {
  covers = λ z e. cover z (same z x) refl (h.covers z e);
  count = let k = fewer x rest at in omega (arith, h.count);
}
  where
    cover : (z : Name) (b : Bool) → same z x ≡ b → (is_in z path ≡ true) ⊎ (is_in z rest ≡ true) → (is_in z (x ∷ path) ≡ true) ⊎ (is_in z (without x rest) ≡ true)
    cover z true s e = inl (ap (λ b. b || is_in z path) s)
    cover z false s (inl e) = inl (ap (λ b. b || is_in z path) s ∙ e)
    cover z false s (inr e) = inr (still x z rest s e)

ends_from : (R : Name → Name → Type 0) (all : List Name) → Ends R all → (m : ℕ) (path rest : List Name) (x : Name) → length rest ≤ m → LeftOver all path rest → Chain R x path → Accessible R x
ends_from R all ends zero path rest x few left chain = reach (λ y r. go (left.covers x (ends.among x y r)))
  where
    go : {y : Name} → (is_in x path ≡ true) ⊎ (is_in x rest ≡ true) → Accessible R y
    go (inl e) = absurd (ends.no_return x path (omega (arith, left.count)) chain e)
    go (inr e) = let k = fewer x rest e in absurd (omega arith)
ends_from R all ends (suc m) path rest x few left chain =
    reach (λ y r. go y r (left.covers x (ends.among x y r)) (λ (e : is_in x rest ≡ true). ends_from R all ends m (x ∷ path) (without x rest) y (less e) (left_over all path rest x left e) (r, chain)))
  where
    less : is_in x rest ≡ true → length (without x rest) ≤ m
    less e = let k = fewer x rest e in omega arith

    go : (y : Name) → R x y → (is_in x path ≡ true) ⊎ (is_in x rest ≡ true) → (is_in x rest ≡ true → Accessible R y) → Accessible R y
    go y r (inl e) later = absurd (ends.no_return x path (omega (arith, left.count)) chain e)
    go y r (inr e) later = later e

pub all_end : (R : Name → Name → Type 0) (all : List Name) → Ends R all → (x : Name) → Accessible R x
all_end R all ends x = ends_from R all ends (length all) [] all x (omega arith) (record { covers = λ z e. inr e; count = omega arith }) tt
