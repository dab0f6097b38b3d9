-- One cell more, and the equations whose cells have stores.
use Rattle.std.specs.Prelude.{◌≡◌, ℕ, ◌<◌, List, [], ◌∷◌, ◌++◌, Some, length, slice_get, slice_index}
use Rattle.hept_ast.specs.Texts.{Name}
use Rattle.hept_ast.specs.Scopes.{Clock}
use Rattle.hept_ast.specs.declared.tree.TypeDec.{TypeDec}
use Rattle.hept_ast.specs.declared.tree.CoreEquation.{CoreEquation}
use Rattle.hept_ast.specs.declared.tree.Const.{Const}
use Rattle.hept_ast.specs.declared.tree.Expr.{Expr}
use Rattle.hept_ast.specs.declared.tree.Form.TheVariants as form
use Rattle.step_plans.specs.declared.instruction.Store.{Store}
use Rattle.plan_equations.specs.Rights.{IsRight}
use Rattle.plan_bodies.specs.Buildable.{IsKeepable}
use Rattle.plan_bodies.specs.declared.bodies.PlacedBody.{PlacedBody}
use Rattle.plan_nodes.specs.declared.stores.Cells.{Cells}

-- a `fby` starts with a constant or a variable
pub data IsStart : Expr → Type 0 where
  constant_start : {a : Expr} (k : Const) → a.form ≡ form.Const k → IsStart a
  variable_start : {a : Expr} (x : Name) → a.form ≡ form.Var x → IsStart a

-- one cell more: its store, and what it holds before the first instant
pub record IsPushed (old new : Cells) (store : Store) (first : ℕ) : Type 0 where
  pub stores : new.stores.items ≡ old.stores.items ++ store ∷ []
  pub initial : new.initial.items ≡ old.initial.items ++ first ∷ []

-- an equation of the body stands on this clock, and this is its presence
pub record IsPresence (placed : PlacedBody) (c : Clock) (here : ℕ) : Type 0 where
  pub place : ℕ
  pub equation : CoreEquation
  pub at : slice_get placed.node.now.equations place ≡ Some equation
  pub clock : equation.clock.steps ≡ c
  pub there : place < length placed.presences.items
  pub presence : slice_index placed.presences.items place ≡ here

-- a right side, or a call
pub data IsRightOrCall (types : List TypeDec) : Expr → Type 0 where
  a_right : {e : Expr} (known : List Name) (presences : ℕ) → IsRight types known presences e → IsRightOrCall types e
  a_call : {e : Expr} (f : Name) (args : List Expr) → e.form ≡ form.Call f args → IsRightOrCall types e

-- an equation without resets, whose cells take what is computed from variables
pub record IsStorable (types : List TypeDec) (variables : List Name) (e : CoreEquation) : Type 0 where
  pub right : IsRightOrCall types e.right
  pub kept : IsKeepable types variables e.right
  pub resets : e.resets ≡ []
