-- Taking the equations one by one.
use Rattle.std.proofs.Common.{◌≡◌, ℕ, zero, suc, ◌<◌, Bool, true, false, List, [], ◌∷◌, ◌++◌, Some, length, get_or, remove, slice_get, All, Contains, refl, sym, subst, ◌∙◌, arith}
use Rattle.std.specs.List.{list_any}
use Rattle.std.proofs.lemmas.Bool.{false≢true}
use Rattle.std.proofs.lemmas.List.Elements.{All-contains}
use Rattle.std.proofs.lemmas.List.Sorted.{IsPermutation-more}
use Rattle.hept_ast.specs.Texts.{Name, same, is_in}
use Rattle.hept_ast.specs.declared.tree.CoreEquation.{CoreEquation}
use Rattle.core_rules.specs.Cores.{equation_reads}
use Rattle.core_rules.proofs.Ends.{same_is}
use Rattle.hept_ast.proofs.Reordering.{all_cons, all_head, all_tail}
use Rattle.schedule.specs.Order.{AreInOrder, IsReady, ReadsLeft, Taking, is_left, waits}
use Rattle.schedule.proofs.Cycles.{among_left, found, no_cycle_among, passes}

-- ---- elements

at_place : {X : Type 0} (xs : List X) (k : ℕ) (x : X) → slice_get xs k ≡ Some x → (k < length xs) × (x ≡ get_or xs k x)
at_place [] k x e = cc
at_place (y ∷ ys) zero x e = let f : y ≡ x = cc in (omega arith, sym f)
at_place (y ∷ ys) (suc k) x e = let r = at_place ys k x e in let lt : k < length ys = r.0 in (omega arith, r.1)

contained : {X : Type 0} (xs : List X) (k : ℕ) (x : X) → slice_get xs k ≡ Some x → Contains xs x
contained xs k x e = let r = at_place xs k x e in (k, r.0, sym r.1)

-- an element of a list with one more at the end
data Last {X : Type 0} (xs : List X) (y : X) (k : ℕ) (x : X) : Type 0 where
  before : k < length xs → slice_get xs k ≡ Some x → Last xs y k x
  last : k ≡ length xs → x ≡ y → Last xs y k x

last_or : {X : Type 0} (xs : List X) (y : X) (k : ℕ) (x : X) → slice_get (xs ++ y ∷ []) k ≡ Some x → Last xs y k x
last_or [] y zero x e = let f : y ≡ x = cc in last refl (sym f)
last_or [] y (suc k) x e = cc
last_or (z ∷ zs) y zero x e = before (omega arith) e
last_or (z ∷ zs) y (suc k) x e = go (last_or zs y k x e)
  where
    go : Last zs y k x → Last (z ∷ zs) y (suc k) x
    go (before lt f) = before (omega arith) f
    go (last at f) = last (omega arith) f

all_last : {X : Type 0} (P : X → Type 0) (xs : List X) (y : X) → All P xs → P y → All P (xs ++ y ∷ [])
all_last P [] y h p = all_cons P y [] p h
all_last P (x ∷ xs) y h p = all_cons P x (xs ++ y ∷ []) (all_head P x xs h) (all_last P xs y (all_tail P x xs h) p)

-- ---- what waits

any_among : (left rest : List CoreEquation) → ((e : CoreEquation) → Contains rest e → Contains left e) → (xs : List Name) → list_any (is_left rest) xs ≡ true → list_any (is_left left) xs ≡ true
any_among left rest h xs e =
    let f = found (is_left rest) xs e in
    let g = found (λ (d : CoreEquation). is_in f.0 d.left) rest f.2 in
    passes (is_left left) xs f.0 f.1 (passes (λ (d : CoreEquation). is_in f.0 d.left) left g.0 (h g.0 g.1) g.2)

waits_less : (left rest : List CoreEquation) → ((e : CoreEquation) → Contains rest e → Contains left e) → (e : CoreEquation) → waits e left ≡ false → waits e rest ≡ false
waits_less left rest h e w = go (waits e rest) refl
  where
    go : (b : Bool) → waits e rest ≡ b → waits e rest ≡ false
    go true r = absurd (false≢true (sym w ∙ any_among left rest h (equation_reads e) r))
    go false r = r

-- what waits for nothing that is left reads no left side there
reads_none : (left : List CoreEquation) (e other : CoreEquation) → Contains left other → waits e left ≡ false → ReadsLeft e other → ⊥
reads_none left e other c w (x, i, j) =
    let f = found (same x) (equation_reads e) i in
    false≢true (sym w ∙ passes (is_left left) (equation_reads e) f.0 f.1
    (subst (λ (y : Name). is_left left y ≡ true) (same_is x f.0 f.2) (passes (λ (d : CoreEquation). is_in x d.left) left other c j)))

-- ---- the steps

order_last : (taken : List CoreEquation) (e : CoreEquation) → AreInOrder taken → All (λ d. ReadsLeft d e → ⊥) taken → (ReadsLeft e e → ⊥) → AreInOrder (taken ++ e ∷ [])
order_last taken e order free own i j a b at_i at_j reads = go (last_or taken e i a at_i) (last_or taken e j b at_j)
  where
    go : Last taken e i a → Last taken e j b → j < i
    go (before lt f) (before lt' g) = order i j a b f g reads
    go (last f g) (before lt' k) = omega arith
    go (before lt f) (last k g) = absurd (All-contains (λ (d : CoreEquation). ReadsLeft d e → ⊥) taken a free (contained taken i a f) (subst (λ (d : CoreEquation). ReadsLeft a d) g reads))
    go (last k f) (last k' g) = absurd (own (subst (λ (d : CoreEquation). ReadsLeft d e) f (subst (λ (d : CoreEquation). ReadsLeft a d) g reads)))

all_less : {X : Type 0} (P Q : X → Type 0) (xs : List X) → ((x : X) → P x → Q x) → All P xs → All Q xs
all_less P Q xs f h n d lt = f _ (h n d lt)

pub taking_one : (es taken left : List CoreEquation) (k : ℕ) (e : CoreEquation) → Taking es taken left → IsReady left k → slice_get left k ≡ Some e →
    Taking es (taken ++ e ∷ []) (remove left k)
taking_one es taken left k e h ready at = record {
  moved = IsPermutation-more es taken left k e (at_place left k e at).0 (at_place left k e at).1 h.moved;
  order = order_last taken e h.order
      (all_less (λ d. waits d left ≡ false) (λ d. ReadsLeft d e → ⊥) taken (λ d w. reads_none left d e (contained left k e at) w) h.free)
      (reads_none left e e (contained left k e at) (ready.ready e at));
  free = all_last (λ d. waits d (remove left k) ≡ false) taken e
      (all_less (λ d. waits d left ≡ false) (λ d. waits d (remove left k) ≡ false) taken (λ d w. waits_less left (remove left k) among d w) h.free)
      (waits_less left (remove left k) among e (ready.ready e at));
  acyclic = no_cycle_among left (remove left k) among h.acyclic;
}
  where
    among : (d : CoreEquation) → Contains (remove left k) d → Contains left d
    among d c = among_left left k e d (at_place left k e at).0 (at_place left k e at).1 c

pub taking_step : (es taken left longer rest : List CoreEquation) (k : ℕ) (e : CoreEquation) → Taking es taken left → IsReady left k → slice_get left k ≡ Some e →
    longer ≡ taken ++ e ∷ [] → rest ≡ remove left k → Taking es longer rest
taking_step es taken left longer rest k e h ready at a b =
    subst (λ (l : List CoreEquation). Taking es l rest) (sym a) (subst (λ (l : List CoreEquation). Taking es (taken ++ e ∷ []) l) (sym b) (taking_one es taken left k e h ready at))
