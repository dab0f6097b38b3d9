-- A call for each row, none of them marked.
use Rattle.std.proofs.Common.{◌≡◌, ℕ, zero, suc, false, List, [], ◌∷◌, ◌++◌, length, Some, refl, sym, ap}
use Rattle.std.specs.Prelude.{slice_get}
use Rattle.std.proofs.lemmas.List.{length-map}
use Rattle.hept_ast.specs.Calls.{marks_of}
use Rattle.hept_ast.specs.Settings.{no_marks, no_replies, of_core}
use Rattle.hept_ast.specs.declared.tree.Core.{Core}
use Rattle.hept_ast.specs.declared.tree.CoreNode.{CoreNode}
use Rattle.node_memory.specs.Standing.{no_calls}
use Rattle.plan_equations.specs.Grounds.{ground_of}
use Rattle.step_plans.specs.Instants.{HasNoReply}
use Rattle.step_plans.specs.Memories.{IsGroundIn, Suits, rows_of}
use Rattle.step_plans.specs.Plans.{Calling, Calls}
use Rattle.program_stepper.specs.Stepping.{unmarked}

pub rows_unmarked : (rows : List (List ℕ)) → rows_of (unmarked rows) ≡ rows
rows_unmarked [] = refl
rows_unmarked (row ∷ rows) = ap (λ rs. row ∷ rs) (rows_unmarked rows)

pub count_unmarked : (rows : List (List ℕ)) → length (unmarked rows) ≡ length rows
count_unmarked rows = length-map rows _

pub one_unmarked : (rows : List (List ℕ)) (row : List ℕ) → unmarked rows ++ (false, row) ∷ [] ≡ unmarked (rows ++ row ∷ [])
one_unmarked [] row = refl
one_unmarked (r ∷ rows) row = ap (λ cs. (false, r) ∷ cs) (one_unmarked rows row)

none_marked : (rows : List (List ℕ)) (t : ℕ) → marks_of (unmarked rows) t ≡ false
none_marked [] t = refl
none_marked (row ∷ rows) zero = refl
none_marked (row ∷ rows) (suc t) = none_marked rows t

nothing_at : {X : Type 0} (k : ℕ) (x : X) → slice_get [] k ≡ Some x → ⊥
nothing_at k x e = cc

silent : (core : Core) (call : Calling) → HasNoReply (of_core core no_marks no_replies) call
silent core (Calls c s place) = λ n. refl

-- no marks and no replies agree with the calls
pub suits_none : (core : Core) (node : CoreNode) (rows : List (List ℕ)) → Suits core (ground_of core node) [] no_calls (unmarked rows) no_marks no_replies
suits_none core node rows = record {
  marks = λ t lt. sym (none_marked rows t);
  agrees = λ k site j made at here. absurd (nothing_at k site at);
  no_reply = λ k call at. silent core call;
}

pub in_core : (core : Core) (node : CoreNode) → IsGroundIn core (ground_of core node)
in_core core node = record { types = refl; nodes = λ f text e. e }
