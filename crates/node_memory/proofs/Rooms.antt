-- The room of a memory.
use Rattle.std.proofs.Common.{Vec, ◌≡◌, ◌≢◌, ℕ, zero, suc, ◌+◌, ◌<◌, Bool, true, false, List, length, drop, eqb, set, get_or, get_or-set_same, get_or-set_other, All, replicate, refl, sym, subst, ap, ◌∙◌, arith}
use Rattle.std.specs.Prelude.{slice_index, slice_index_or}
use Rattle.std.specs.Vec.{with_items}
use Rattle.std.proofs.lemmas.List.{take_at}
use Rattle.std.proofs.lemmas.List.Elements.{All-cons, All-nil}
use Rattle.std.proofs.lemmas.Bool.Decides.{Decides-eqb}
use Rattle.step_plans.specs.Operations.{no_future}
use Rattle.step_cells.specs.declared.cell.Cell.{Cell}
use Rattle.step_cells.specs.declared.cell.Cell.TheVariants as cell
use Rattle.step_plans.specs.Books.{Book, IsCellOf}
use Rattle.step_plans.specs.declared.plan.NodePlan.{NodePlan}
use Rattle.step_engine.specs.Instant.{IsRunnable}
use Rattle.node_memory.specs.Standing.{HasFewSources, IsCallWithin, IsSound}

pub all_filled : (book : Book) (n : ℕ) → All (IsCellOf book) (replicate n (cell.Ready 0))
all_filled book zero = All-nil (IsCellOf book)
all_filled book (suc n) = All-cons (IsCellOf book) (cell.Ready 0) (replicate n (cell.Ready 0)) tt (all_filled book n)

pub zeros : (n k : ℕ) → slice_index (replicate n 0) k ≡ 0
zeros zero k = refl
zeros (suc n) zero = refl
zeros (suc n) (suc k) = zeros n k

-- what the plan names is there, in room of these lengths
pub runnable_at : (plan : NodePlan) (values cells futures marks scratch inputs outputs : ℕ) → IsSound plan → All (HasFewSources scratch) plan.offerings.items → values ≡ plan.values → cells ≡ length plan.stores.items → futures ≡ plan.futures →
    marks ≡ length plan.offerings.items → inputs ≡ plan.inputs → outputs ≡ length plan.outputs.items → IsRunnable plan values cells futures marks scratch inputs outputs
runnable_at plan values cells futures marks scratch inputs outputs sound few v c f m i o =
    subst (λ (n : ℕ). IsRunnable plan n cells futures marks scratch inputs outputs) (sym v)
    (subst (λ (n : ℕ). IsRunnable plan plan.values n futures marks scratch inputs outputs) (sym c)
    (subst (λ (n : ℕ). IsRunnable plan plan.values (length plan.stores.items) n marks scratch inputs outputs) (sym f)
    (record {
      inputs_fit = i;
      room = omega (arith, sound.room);
      futures_room = omega (arith, sound.futures_room);
      actions = sound.actions;
      offerings = λ k d lt.
          let w : IsCallWithin plan.values plan.futures (slice_index_or plan.offerings.items k d) = sound.calls k d lt in
          record { here = w.here; again = w.again; sources = w.sources; few = few k d lt; room = w.room };
      cells_fit = refl;
      stores = sound.stores;
      future_stores = sound.future_stores;
      marks_fit = m;
      outputs_fit = o;
      outputs_within = sound.outputs;
    })))

-- a `Vec` whose elements are all written
pub rewritten : {X Z : Type 0} (v : Vec X Z) (ws : List X) → length ws ≡ length v.items → (with_items v ws).items ≡ ws
rewritten v ws e = take_at ws (drop (length ws) v.items) v.len (e ∙ sym v.ok.0)

-- one future more that is there
pub ready_here : (values : List ℕ) (futures : List Cell) (i k : ℕ) → i < length futures → ((j : ℕ) → j < i → get_or futures j no_future ≡ cell.Ready (get_or values j 0)) → k < i + 1 →
    get_or (set futures i (cell.Ready (get_or values i 0))) k no_future ≡ cell.Ready (get_or values k 0)
ready_here values futures i k room have lt = by_place (eqb k i) refl
  where
    by_place : (b : Bool) → eqb k i ≡ b → get_or (set futures i (cell.Ready (get_or values i 0))) k no_future ≡ cell.Ready (get_or values k 0)
    by_place true e =
        let f : k ≡ i = (Decides-eqb k i).0 e in
        ap (λ (n : ℕ). get_or (set futures i (cell.Ready (get_or values i 0))) n no_future) f ∙ get_or-set_same futures i (cell.Ready (get_or values i 0)) no_future room
        ∙ ap (λ (n : ℕ). cell.Ready (get_or values n 0)) (sym f)
    by_place false e =
        let ne : k ≢ i = λ f. let g : eqb k i ≡ true = (Decides-eqb k i).1 f in cc in
        get_or-set_other futures i k (cell.Ready (get_or values i 0)) no_future ne ∙ have k (omega (arith, ne))
