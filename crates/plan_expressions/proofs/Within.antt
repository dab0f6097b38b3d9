-- The numbers that actions name are there, and stay so where there are more values.
use Rattle.std.proofs.Common.{ℕ, ◌≤◌, List, All, sym, subst, arith}
use Rattle.std.specs.Prelude.{slice_index_or}
use Rattle.std.proofs.lemmas.List.Elements.{All-push}
use Rattle.step_plans.specs.declared.instruction.Instruction.{Instruction}
use Rattle.step_plans.specs.declared.instruction.Instruction.TheVariants as does
use Rattle.step_plans.specs.declared.instruction.FutureInstruction.{FutureInstruction}
use Rattle.step_plans.specs.declared.instruction.FutureInstruction.TheVariants as moves
use Rattle.step_plans.specs.declared.action.Action.{Action}
use Rattle.step_plans.specs.declared.action.Action.TheVariants as act
use Rattle.step_engine.specs.Running.{IsWithin, IsFutureWithin}
use Rattle.step_engine.specs.Actions.{IsActionWithin}
use Rattle.plan_expressions.specs.Building.{AreActionsWithin, IsAdded}
use Rattle.plan_expressions.specs.declared.draft.Draft.{Draft}

within_more : (n later m : ℕ) (i : Instruction) → n ≤ later → IsWithin n m i → IsWithin later m i
within_more n later m (does.Constant k) le w = tt
within_more n later m (does.Minus a) le w = omega arith
within_more n later m (does.Not a) le w = omega arith
within_more n later m (does.Add a b) le w = (omega (arith, w.0), omega (arith, w.1))
within_more n later m (does.Subtract a b) le w = (omega (arith, w.0), omega (arith, w.1))
within_more n later m (does.Multiply a b) le w = (omega (arith, w.0), omega (arith, w.1))
within_more n later m (does.Or a b) le w = (omega (arith, w.0), omega (arith, w.1))
within_more n later m (does.And a b) le w = (omega (arith, w.0), omega (arith, w.1))
within_more n later m (does.Equal a b) le w = (omega (arith, w.0), omega (arith, w.1))
within_more n later m (does.Different a b) le w = (omega (arith, w.0), omega (arith, w.1))
within_more n later m (does.Less a b) le w = (omega (arith, w.0), omega (arith, w.1))
within_more n later m (does.AtMost a b) le w = (omega (arith, w.0), omega (arith, w.1))
within_more n later m (does.Greater a b) le w = (omega (arith, w.0), omega (arith, w.1))
within_more n later m (does.AtLeast a b) le w = (omega (arith, w.0), omega (arith, w.1))
within_more n later m (does.Quotient a k) le w = (omega (arith, w.0), w.1)
within_more n later m (does.Remainder a k) le w = (omega (arith, w.0), w.1)
within_more n later m (does.Select c k a b) le w = (omega (arith, w.0), omega (arith, w.1), omega (arith, w.2))
within_more n later m (does.Flag h x k) le w = (omega (arith, w.0), omega (arith, w.1))
within_more n later m (does.Again g h x) le w = (omega (arith, w.0), omega (arith, w.1), omega (arith, w.2))
within_more n later m (does.Read c) le w = w
within_more n later m (does.ReadUnless g c k) le w = (omega (arith, w.0), w.1)

future_more : (n later f : ℕ) (i : FutureInstruction) → n ≤ later → IsFutureWithin n f i → IsFutureWithin later f i
future_more n later f (moves.Ready k) le w = tt
future_more n later f (moves.Select c k a b) le w = (omega (arith, w.0), w.1, w.2)
future_more n later f (moves.Read m) le w = w
future_more n later f (moves.ReadUnless g m k) le w = (omega (arith, w.0), w.1)

pub action_more : (n later m f k : ℕ) (a : Action) → n ≤ later → IsActionWithin n m f k a → IsActionWithin later m f k a
action_more n later m f k (act.Compute to i) le w = (omega (arith, w.0), within_more n later m i le w.1)
action_more n later m f k (act.Move to i) le w = (w.0, future_more n later f i le w.1)
action_more n later m f k (act.Offer c) le w = w
action_more n later m f k (act.Get to h x) le w = (omega (arith, w.0), omega (arith, w.1), w.2)

-- one instruction more, of values that are there
pub added_within : (cells : ℕ) (old new : Draft) (i : Instruction) (r : ℕ) → IsAdded old new i r → IsWithin old.at cells i → AreActionsWithin cells old → AreActionsWithin cells new
added_within cells old new i r added within all =
    subst (λ (actions : List Action). All (IsActionWithin new.at cells 0 0) actions) (sym added.actions)
    (All-push (IsActionWithin new.at cells 0 0) old.actions.items (act.Compute old.at i)
    (λ k d lt. action_more old.at new.at cells 0 0 (slice_index_or old.actions.items k d) (omega (arith, added.next)) (all k d lt))
    (omega (arith, added.next), within_more old.at new.at cells i (omega (arith, added.next)) within))
