-- Where the last step of a path leads to a scope: what the path before it leads to.
use Rattle.std.proofs.Common.{◌≡◌, ℕ, List, Option, Some, None, refl, sym}
use Rattle.hept_ast.specs.Scopes.{Clock, Text, Scope, Called, In_branch, In_body, In_state, block_of}
use Rattle.hept_ast.specs.Meaning.{Setting, call_of}
use Rattle.hept_ast.specs.declared.tree.Expr.{Expr}
use Rattle.hept_ast.specs.declared.tree.Block.{Block}
use Rattle.hept_ast.specs.declared.tree.Branch.{Branch}
use Rattle.hept_ast.specs.declared.tree.State.{State}
use Rattle.hept_ast.specs.declared.tree.Form.{out-Form}
use Rattle.answer_table.specs.declared.paths.Step.TheVariants as way
use Rattle.answer_table.specs.Parts.{states_at, branch_at, body_at, on_at, every_at}
use Rattle.answer_table.specs.Things.{Thing, In, At, Nowhere, part, branch_thing, body_thing, state_thing, callee_thing}
use Rattle.answer_table.proofs.Shown.{nowhere_in, same_in}

-- ---- the records

-- a scope is a branch of this one
pub record IsBranchOf (thing : Thing) (i j : ℕ) (s : Scope) : Type 0 where
  pub outer : Scope
  pub on : Expr
  pub branch : Branch
  pub from : thing ≡ In outer
  pub chosen : on_at (block_of outer) i ≡ Some on
  pub found : branch_at (block_of outer) i j ≡ Some branch
  pub is : s ≡ In_branch outer on branch

pub record IsBodyOf (thing : Thing) (i : ℕ) (s : Scope) : Type 0 where
  pub outer : Scope
  pub every : Expr
  pub block : Block
  pub from : thing ≡ In outer
  pub condition : every_at (block_of outer) i ≡ Some every
  pub is : s ≡ In_body outer every block

pub record IsStateOf (thing : Thing) (i k : ℕ) (s : Scope) : Type 0 where
  pub outer : Scope
  pub states : List State
  pub from : thing ≡ In outer
  pub found : states_at (block_of outer) i ≡ Some states
  pub is : s ≡ In_state outer states k

pub record IsCalledBy (thing : Thing) (s : Scope) : Type 0 where
  pub expr : Expr
  pub clock : Clock
  pub outer : Scope
  pub args : List Expr
  pub text : Text
  pub from : thing ≡ At expr clock outer
  pub is : s ≡ Called outer clock expr.place.0 args text

-- ---- steps

branch_from : (z : Scope) (i j : ℕ) (on : Option Expr) (b : Option Branch) (s : Scope) → on_at (block_of z) i ≡ on → branch_at (block_of z) i j ≡ b →
    branch_thing z on b ≡ In s → IsBranchOf (In z) i j s
branch_from z i j None b s e f h = absurd (nowhere_in s h)
branch_from z i j (Some on) None s e f h = absurd (nowhere_in s h)
branch_from z i j (Some on) (Some b) s e f h = record { outer = z; on = on; branch = b; from = refl; chosen = e; found = f; is = sym (same_in _ _ h) }

module _ (w : Setting) (s : Scope) where
  pub branch_step : (thing : Thing) (i j : ℕ) → part w thing (way.Branch i j) ≡ In s → IsBranchOf thing i j s
  branch_step (In z) i j h = branch_from z i j _ _ s refl refl h
  branch_step (At e clock z) i j h = absurd (nowhere_in s h)
  branch_step Nowhere i j h = absurd (nowhere_in s h)

  body_from : (z : Scope) (i : ℕ) (every : Option Expr) (b : Option Block) → every_at (block_of z) i ≡ every → body_thing z every b ≡ In s → IsBodyOf (In z) i s
  body_from z i None b e h = absurd (nowhere_in s h)
  body_from z i (Some every) None e h = absurd (nowhere_in s h)
  body_from z i (Some every) (Some b) e h = record { outer = z; every = every; block = b; from = refl; condition = e; is = sym (same_in _ _ h) }

  pub body_step : (thing : Thing) (i : ℕ) → part w thing (way.Body i) ≡ In s → IsBodyOf thing i s
  body_step (In z) i h = body_from z i _ (body_at (block_of z) i) refl h
  body_step (At e clock z) i h = absurd (nowhere_in s h)
  body_step Nowhere i h = absurd (nowhere_in s h)

  state_from : (z : Scope) (i k : ℕ) (states : Option (List State)) → states_at (block_of z) i ≡ states → state_thing z states k ≡ In s → IsStateOf (In z) i k s
  state_from z i k None e h = absurd (nowhere_in s h)
  state_from z i k (Some states) e h = record { outer = z; states = states; from = refl; found = e; is = sym (same_in _ _ h) }

  pub state_step : (thing : Thing) (i k : ℕ) → part w thing (way.State i k) ≡ In s → IsStateOf thing i k s
  state_step (In z) i k h = state_from z i k _ refl h
  state_step (At e clock z) i k h = absurd (nowhere_in s h)
  state_step Nowhere i k h = absurd (nowhere_in s h)

  callee_from : (e : Expr) (clock : Clock) (z : Scope) (o : Option (List Expr × Text)) → callee_thing o e.place.0 clock z ≡ In s → IsCalledBy (At e clock z) s
  callee_from e clock z None h = absurd (nowhere_in s h)
  callee_from e clock z (Some c) h = record { expr = e; clock = clock; outer = z; args = c.0; text = c.1; from = refl; is = sym (same_in _ _ h) }

  pub callee_step : (thing : Thing) → part w thing way.Callee ≡ In s → IsCalledBy thing s
  callee_step (In z) h = absurd (nowhere_in s h)
  callee_step (At e clock z) h = callee_from e clock z (call_of w (out-Form e.form)) h
  callee_step Nowhere h = absurd (nowhere_in s h)
