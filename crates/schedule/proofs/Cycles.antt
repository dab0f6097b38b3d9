-- Where no reads have a cycle, one of some equations reads no left side of theirs.
use Rattle.std.proofs.Common.{◌≡◌, ◌≢◌, ℕ, suc, ◌<◌, Bool, true, false, ◌||◌, if◌then◌else◌, List, [], ◌∷◌, length, get_or, remove, All, Contains, refl, sym, ap, subst, ◌∙◌, arith}
use Rattle.std.specs.List.{flat_map, list_any}
use Rattle.std.proofs.lemmas.Bool.{false≢true}
use Rattle.std.proofs.lemmas.List.Elements.{All-contains}
use Rattle.std.proofs.lemmas.List.Folds.{Any-from_list_any, list_any-from_Any}
use Rattle.std.proofs.lemmas.List.Sorted.{Contains-permutation, IsPermutation-remove, IsPermutation-sym}
use Rattle.hept_ast.specs.Texts.{Name, same, is_in}
use Rattle.hept_ast.specs.Causal.{InTurn, HasNoCycle}
use Rattle.hept_ast.specs.declared.tree.CoreEquation.{CoreEquation}
use Rattle.core_rules.specs.Cores.{equation_reads}
use Rattle.core_rules.proofs.Ends.{same_self, same_is}
use Rattle.schedule.specs.Order.{is_left, waits, ReadsBy, HaveNoCycle}
use Rattle.schedule.proofs.ReadsOf.{any_flat}

-- ---- one or more steps of a relation

data Plus {A : Type 0} (R : A → A → Type 0) : A → A → Type 0 where
  one : {x y : A} → R x y → Plus R x y
  more : {x y z : A} → R x y → Plus R y z → Plus R x z

plus_trans : {A : Type 0} (R : A → A → Type 0) (x y z : A) → Plus R x y → Plus R y z → Plus R x z
plus_trans R x y z (one r) q = more r q
plus_trans R x y z (more {y = u} r p) q = more r (plus_trans R u y z p q)

turned : {A : Type 0} (R : A → A → Type 0) (x z : A) → Plus R x z → (rest : List A) × InTurn R z (x ∷ rest)
turned R x z (one r) = ([], r)
turned R x z (more {y = y} r p) = let t = turned R y z p in (y ∷ t.0, (r, t.1))

no_loop : {A : Type 0} (R : A → A → Type 0) → HasNoCycle R → (x : A) → Plus R x x → ⊥
no_loop R h x p = let t = turned R x x p in h (x ∷ t.0) t.1

-- fewer steps have no cycle either
turn_less : {A : Type 0} (R S : A → A → Type 0) → ((x y : A) → R x y → S x y) → (z : A) (xs : List A) → InTurn R z xs → InTurn S z xs
turn_less R S h z [] t = t
turn_less R S h z (x ∷ []) t = h x z t
turn_less R S h z (x ∷ y ∷ xs) t = (h x y t.0, turn_less R S h z (y ∷ xs) t.1)

no_cycle_less : {A : Type 0} (R S : A → A → Type 0) → ((x y : A) → R x y → S x y) → HasNoCycle S → HasNoCycle R
no_cycle_less R S h n [] c = c
no_cycle_less R S h n (x ∷ xs) c = n (x ∷ xs) (turn_less R S h x (x ∷ xs) c)

-- ---- names each of which leads to one of them

Leads : (Name → Name → Type 0) → List Name → Name → Type 0
Leads R xs y = (z : Name) × (is_in z xs ≡ true) × Plus R y z

leads_rest : (R : Name → Name → Type 0) (x : Name) (xs : List Name) → Leads R xs x → (y : Name) → Leads R (x ∷ xs) y → Leads R xs y
unfolding Leads
leads_rest R x xs from y (z, i, p) = go (same z x) refl i
  where
    go : (b : Bool) → same z x ≡ b → b || is_in z xs ≡ true → (u : Name) × (is_in u xs ≡ true) × Plus R y u
    go true s e = (from.0, from.1, plus_trans R y x from.0 (subst (λ (v : Name). Plus R y v) (same_is z x s) p) from.2)
    go false s e = (z, e, p)

in_more : (y x : Name) (xs : List Name) → is_in y xs ≡ true → is_in y (x ∷ xs) ≡ true
in_more y x xs e = go (same y x)
  where
    go : (b : Bool) → b || is_in y xs ≡ true
    go true = refl
    go false = e

in_head : (x : Name) (xs : List Name) → is_in x (x ∷ xs) ≡ true
in_head x xs = ap (λ b. b || is_in x xs) (same_self x)

comes_back : (R : Name → Name → Type 0) (xs : List Name) → ((y : Name) → is_in y xs ≡ true → Leads R xs y) → (x : Name) → is_in x xs ≡ true → (y : Name) × Plus R y y
unfolding Leads
comes_back R [] leads x i = absurd (false≢true i)
comes_back R (a ∷ xs) leads x i = go (leads a (in_head a xs)) (λ (from : Leads R xs a). comes_back R xs (λ y j. leads_rest R a xs from y (leads y (in_more y a xs j))) from.0 from.1)
  where
    go : (z : Name) × (is_in z (a ∷ xs) ≡ true) × Plus R a z → (((z : Name) × (is_in z xs ≡ true) × Plus R a z) → (y : Name) × Plus R y y) → (y : Name) × Plus R y y
    go (z, j, p) later = at (same z a) refl j
      where
        at : (b : Bool) → same z a ≡ b → b || is_in z xs ≡ true → (y : Name) × Plus R y y
        at true s e = (a, subst (λ (v : Name). Plus R a v) (same_is z a s) p)
        at false s e = later (z, e, p)

-- ---- equations

pub passes : {X : Type 0} (p : X → Bool) (xs : List X) (x : X) → Contains xs x → p x ≡ true → list_any p xs ≡ true
passes p xs x c e = list_any-from_Any p xs (c.0, x, c.1, c.2, e)

pub found : {X : Type 0} (p : X → Bool) (xs : List X) → list_any p xs ≡ true → (x : X) × Contains xs x × (p x ≡ true)
found p xs e = let a = Any-from_list_any p xs e in (a.1, (a.0, a.2, a.3), a.4)

reads_where : (x y : Name) (e : CoreEquation) → is_in x e.left ≡ true → is_in y (equation_reads e) ≡ true → is_in y (if is_in x e.left then equation_reads e else []) ≡ true
reads_where x y e i j = rw i j

pub reads_by : (es : List CoreEquation) (e : CoreEquation) (x y : Name) → Contains es e → is_in x e.left ≡ true → is_in y (equation_reads e) ≡ true → ReadsBy es x y
reads_by es e x y c i j =
    any_flat (same y) (λ e. if is_in x e.left then equation_reads e else []) es
    ∙ passes (λ (d : CoreEquation). is_in y (if is_in x d.left then equation_reads d else [])) es e c (reads_where x y e i j)

by_where : (x y : Name) (e : CoreEquation) → is_in y (if is_in x e.left then equation_reads e else []) ≡ true → (is_in x e.left ≡ true) × (is_in y (equation_reads e) ≡ true)
by_where x y e h = go (is_in x e.left) refl h
  where
    go : (b : Bool) → is_in x e.left ≡ b → is_in y (if b then equation_reads e else []) ≡ true → (is_in x e.left ≡ true) × (is_in y (equation_reads e) ≡ true)
    go true i j = (i, j)
    go false i j = absurd (false≢true j)

-- equations among others
pub no_cycle_among : (es others : List CoreEquation) → ((e : CoreEquation) → Contains others e → Contains es e) → HaveNoCycle es → HaveNoCycle others
no_cycle_among es others h n = no_cycle_less (ReadsBy others) (ReadsBy es) less n
  where
    less : (x y : Name) → ReadsBy others x y → ReadsBy es x y
    less x y r =
        let f = found (λ (d : CoreEquation). is_in y (if is_in x d.left then equation_reads d else [])) others
        (sym (any_flat (same y) (λ e. if is_in x e.left then equation_reads e else []) others) ∙ r) in
        let w = by_where x y f.0 f.2 in
        reads_by es f.0 x y (h f.0 f.1) w.0 w.1

left_sides : List CoreEquation → List Name
left_sides es = flat_map (λ e. e.left) es

in_sides : (es : List CoreEquation) (x : Name) → is_in x (left_sides es) ≡ is_left es x
unfolding left_sides
in_sides es x = any_flat (same x) (λ e. e.left) es

-- an equation that waits reads a name on a left side
reads_left : (es : List CoreEquation) (e : CoreEquation) → waits e es ≡ true → (x : Name) × (is_in x (equation_reads e) ≡ true) × (is_left es x ≡ true)
reads_left es e w =
    let f = found (is_left es) (equation_reads e) w in
    (f.0, passes (same f.0) (equation_reads e) f.0 f.1 (same_self f.0), f.2)

pub not_all_wait : (es : List CoreEquation) → es ≢ [] → HaveNoCycle es → All (λ e. waits e es ≡ true) es → ⊥
unfolding Leads
not_all_wait [] some n wait = some refl
not_all_wait (d ∷ ds) some n wait =
    let r = reads_left (d ∷ ds) d (wait 0 d (omega arith)) in
    let back = comes_back (ReadsBy (d ∷ ds)) (left_sides (d ∷ ds)) leads r.0 (in_sides (d ∷ ds) r.0 ∙ r.2) in
    no_loop (ReadsBy (d ∷ ds)) n back.0 back.1
  where
    leads : (y : Name) → is_in y (left_sides (d ∷ ds)) ≡ true → Leads (ReadsBy (d ∷ ds)) (left_sides (d ∷ ds)) y
    leads y i =
        let f = found (λ (e : CoreEquation). is_in y e.left) (d ∷ ds) (sym (in_sides (d ∷ ds) y) ∙ i) in
        let r = reads_left (d ∷ ds) f.0 (All-contains (λ (e : CoreEquation). waits e (d ∷ ds) ≡ true) (d ∷ ds) f.0 wait f.1) in
        (r.0, in_sides (d ∷ ds) r.0 ∙ r.2, one (reads_by (d ∷ ds) f.0 y r.0 f.1 f.2 r.1))

-- what is left after one is taken
pub among_left : {X : Type 0} (xs : List X) (k : ℕ) (x y : X) → k < length xs → x ≡ get_or xs k x → Contains (remove xs k) y → Contains xs y
among_left xs k x y lt e c = Contains-permutation (x ∷ remove xs k) xs y (IsPermutation-sym _ _ (IsPermutation-remove xs k x lt e)) (longer c)
  where
    longer : Contains (remove xs k) y → Contains (x ∷ remove xs k) y
    longer (i, less, at) = (suc i, omega arith, at)
