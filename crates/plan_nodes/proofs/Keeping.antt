-- A store keeps what it kept where more is known, and one cell more has its store and its first content.
use Rattle.std.proofs.Common.{◌≡◌, ◌⊎◌, inl, inr, ℕ, zero, suc, ◌≤◌, List, [], ◌∷◌, ◌++◌, length, Some, refl, sym, subst, ap, ◌∙◌, arith, length-append}
use Rattle.std.specs.Prelude.{slice_get}
use Rattle.std.proofs.lemmas.List.{map-append}
use Rattle.step_plans.specs.Things.{Thing, Memory, initial_of}
use Rattle.step_plans.specs.Operations.{Register, Storing, storing_of}
use Rattle.step_plans.specs.Plans.{Ground, Entry, Has, Keeps, value_where, value_unless, value_always, presence_where, presence_unless}
use Rattle.step_plans.specs.declared.instruction.Store.{Store}
use Rattle.step_plans.specs.declared.instruction.Store.TheVariants as keeps
use Rattle.step_engine.specs.Running.{IsStoreWithin}
use Rattle.plan_nodes.specs.Built.{HaveCells}
use Rattle.plan_nodes.specs.Stores.{IsPushed}
use Rattle.plan_nodes.specs.declared.stores.Cells.{Cells}

keeps_still : (g : Ground) (entries later : List Entry) (m : Memory) (s : Storing) → ((thing : Thing) (r : Register) → Has entries thing r → Has later thing r) → Keeps g entries m s → Keeps g later m s
keeps_still g entries later m s grows (value_where e c t n quiet here part) = value_where e c t n quiet (grows _ _ here) (grows _ _ part)
keeps_still g entries later m s grows (value_unless e c t n here part again) = value_unless e c t n (grows _ _ here) (grows _ _ part) (grows _ _ again)
keeps_still g entries later m s grows (value_always e c t n here part) = value_always e c t n (grows _ _ here) (grows _ _ part)
keeps_still g entries later m s grows (presence_where c t quiet here) = presence_where c t quiet (grows _ _ here)
keeps_still g entries later m s grows (presence_unless c t here again) = presence_unless c t (grows _ _ here) (grows _ _ again)

before_last : {A : Type 0} (xs : List A) (y x : A) (k : ℕ) → slice_get xs k ≡ Some x → slice_get (xs ++ y ∷ []) k ≡ Some x
before_last [] y x k h = absurd (cc)
before_last (z ∷ xs) y x zero h = h
before_last (z ∷ xs) y x (suc k) h = before_last xs y x k h

at_last : {A : Type 0} (xs : List A) (y : A) → slice_get (xs ++ y ∷ []) (length xs) ≡ Some y
at_last [] y = refl
at_last (x ∷ xs) y = at_last xs y

pub last_or_before : {A : Type 0} (xs : List A) (y z : A) (k : ℕ) → slice_get (xs ++ y ∷ []) k ≡ Some z → (slice_get xs k ≡ Some z) ⊎ ((k ≡ length xs) × (z ≡ y))
last_or_before [] y z zero h = inr (refl, (cc))
last_or_before [] y z (suc k) h = absurd (cc)
last_or_before (x ∷ xs) y z zero h = inl h
last_or_before (x ∷ xs) y z (suc k) h = elim (last_or_before xs y z k h) [ inl a ↦ inl a | inr b ↦ inr (ap suc b.0, b.1) ]

-- a cell more, where more may be known
pub one_cell_more : (g : Ground) (entries later : List Entry) (memories : List Memory) (before after : Cells) (m : Memory) (s : Store) → ((thing : Thing) (r : Register) → Has entries thing r → Has later thing r) → HaveCells g entries memories before →
    IsPushed before after s (initial_of m) → Keeps g later m (storing_of s) → HaveCells g later (memories ++ m ∷ []) after
one_cell_more g entries later memories before after m s grows have pushed keeps = record {
  as_many = ap length pushed.stores ∙ (omega (arith, length-append before.stores.items (s ∷ []), length-append memories (m ∷ []), have.as_many));
  keeps = λ k x get. elim (last_or_before memories m x k get) [
    | inl a ↦
        let h = have.keeps k x a in
        (h.0, ap (λ (ss : List Store). slice_get ss k) pushed.stores ∙ before_last before.stores.items s h.0 k h.1, keeps_still g entries later x (storing_of h.0) grows h.2)
    | inr b ↦ (
      s,
      ap (λ (ss : List Store). slice_get ss k) pushed.stores ∙ ap (slice_get (before.stores.items ++ s ∷ [])) (b.0 ∙ sym have.as_many) ∙ at_last before.stores.items s,
      subst (λ (z : Memory). Keeps g later z (storing_of s)) (sym b.1) keeps,
    )
  ];
  initial = pushed.initial ∙ ap (λ (ns : List ℕ). ns ++ initial_of m ∷ []) have.initial ∙ sym (map-append initial_of memories (m ∷ []));
}

pub store_within_later : (n later : ℕ) (s : Store) → n ≤ later → IsStoreWithin n s → IsStoreWithin later s
store_within_later n later (keeps.Always a) le w = omega arith
store_within_later n later (keeps.Where h a) le w = (omega (arith, w.0), omega (arith, w.1))
store_within_later n later (keeps.Unless h a g k) le w = (omega (arith, w.0), omega (arith, w.1), omega (arith, w.2))
