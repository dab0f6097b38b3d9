-- What stands for a list stands for its parts, and the other way.
use Rattle.std.proofs.Common.{◌≡◌, ◌⊎◌, inl, inr, ℕ, zero, suc, ◌+◌, ◌≤◌, List, [], ◌∷◌, ◌++◌, length, All, Some, refl, sym, subst, ap, ◌∙◌, arith}
use Rattle.std.specs.Prelude.{slice_get}
use Rattle.std.specs.List.{flat_map}
use Rattle.std.proofs.lemmas.List.{append-nil}
use Rattle.std.proofs.lemmas.List.Concat.{flat_map-append}
use Rattle.std.proofs.lemmas.List.Elements.{All-cons, All-head, All-nil, All-tail}
use Rattle.step_plans.specs.Things.{Memory}
use Rattle.step_plans.specs.Plans.{Ground, Entry, Progress}
use Rattle.plan_expressions.specs.Building.{KnowsMore}
use Rattle.plan_expressions.proofs.Adding.{registers_later}
use Rattle.plan_equations.specs.Equations.{inside_of}
use Rattle.plan_equations.specs.Grounds.{Body}
use Rattle.plan_equations.specs.Rights.{HasCells}
use Rattle.plan_bodies.specs.Buildable.{variables_of}
use Rattle.plan_bodies.specs.Expansions.{ArePlaced}
use Rattle.plan_bodies.specs.declared.bodies.PlacedBody.{PlacedBody}

-- ---- cells

pub cells_left : (g : Ground) (cell : ℕ) (xs ys : List Memory) → HasCells g cell (xs ++ ys) → HasCells g cell xs
cells_left g cell [] ys h = tt
cells_left g cell (m ∷ xs) ys h = (h.0, cells_left g (suc cell) xs ys h.1)

pub cells_right : (g : Ground) (cell : ℕ) (xs ys : List Memory) → HasCells g cell (xs ++ ys) → HasCells g (cell + length xs) ys
cells_right g cell [] ys h =
    let same : cell ≡ cell + 0 = omega arith in
    subst (λ (n : ℕ). HasCells g n ys) same h
cells_right g cell (m ∷ xs) ys h =
    let same : suc cell + length xs ≡ cell + suc (length xs) = omega arith in
    subst (λ (n : ℕ). HasCells g n ys) same (cells_right g (suc cell) xs ys h.1)

-- ---- bodies

pub placed_both : (entries : List Entry) (at : ℕ) (xs ys : List Body) (ps qs : List PlacedBody) → ArePlaced entries at xs ps → ArePlaced entries at ys qs → ArePlaced entries at (xs ++ ys) (ps ++ qs)
placed_both entries at [] ys [] qs h k = k
placed_both entries at [] ys (p ∷ ps) qs h k = absurd h
placed_both entries at (x ∷ xs) ys [] qs h k = absurd h
placed_both entries at (x ∷ xs) ys (p ∷ ps) qs h k = (h.0, placed_both entries at xs ys ps qs h.1 k)

-- what was placed is so where more is known
pub placed_later : (before after : Progress) (at later : ℕ) (xs : List Body) (ps : List PlacedBody) → at ≤ later → KnowsMore before after → ArePlaced before.entries at xs ps → ArePlaced after.entries later xs ps
placed_later before after at later [] [] le more h = tt
placed_later before after at later [] (p ∷ ps) le more h = absurd h
placed_later before after at later (x ∷ xs) [] le more h = absurd h
placed_later before after at later (x ∷ xs) (p ∷ ps) le more h = (
  record {
    node = h.0.node;
    values = registers_later before after x.scope (variables_of x.node) p.registers.items at later le more h.0.values;
    read = registers_later before after (inside_of x.scope) (variables_of x.node) p.registers.items at later le more h.0.read;
    present = λ k e get.
        let has = h.0.present k e get in
        (more.grows _ _ has.0, omega (arith, has.1));
  },
  placed_later before after at later xs ps le more h.1,
)

-- ---- lists

pub all_left : {X : Type 0} (P : X → Type 0) (xs ys : List X) → All P (xs ++ ys) → All P xs
all_left P [] ys h = All-nil P
all_left P (x ∷ xs) ys h = All-cons P x xs (All-head P x (xs ++ ys) h) (all_left P xs ys (All-tail P x (xs ++ ys) h))

pub all_right : {X : Type 0} (P : X → Type 0) (xs ys : List X) → All P (xs ++ ys) → All P ys
all_right P [] ys h = h
all_right P (x ∷ xs) ys h = all_right P xs ys (All-tail P x (xs ++ ys) h)

-- of a list that is split around an element: what is made of each
pub flat_around : {X A : Type 0} (f : X → List A) (done : List X) (e : X) (es all : List X) → done ++ e ∷ es ≡ all → flat_map f done ++ (f e ++ flat_map f es) ≡ flat_map f all
flat_around f done e es all same = sym (flat_map-append f done (e ∷ es)) ∙ ap (flat_map f) same

pub flat_push : {X A : Type 0} (f : X → List A) (done : List X) (e : X) → flat_map f (done ++ e ∷ []) ≡ flat_map f done ++ f e
flat_push f done e = flat_map-append f done (e ∷ []) ∙ ap (λ (zs : List _). flat_map f done ++ zs) (append-nil (f e))

pub last_or_before : {A : Type 0} (xs : List A) (y z : A) (k : ℕ) → slice_get (xs ++ y ∷ []) k ≡ Some z → (slice_get xs k ≡ Some z) ⊎ ((k ≡ length xs) × (z ≡ y))
last_or_before [] y z zero h = inr (refl, (cc))
last_or_before [] y z (suc k) h = absurd (cc)
last_or_before (x ∷ xs) y z zero h = inl h
last_or_before (x ∷ xs) y z (suc k) h = elim (last_or_before xs y z k h) [ inl a ↦ inl a | inr b ↦ inr (ap suc b.0, b.1) ]
