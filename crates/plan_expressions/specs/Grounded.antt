-- What the merges inside an expression need of the ground.
use Rattle.std.specs.Prelude.{◌≡◌, ℕ, ◌-◌, List, [], ◌∷◌, ◌++◌, length, take, Some, slice_get}
use Rattle.hept_ast.specs.Texts.{Name}
use Rattle.hept_ast.specs.Scopes.{Clock, Scope, Under, equation_of}
use Rattle.hept_ast.specs.Meaning.{clock_of_equation}
use Rattle.hept_ast.specs.declared.tree.CoreNode.{CoreNode}
use Rattle.hept_ast.specs.declared.tree.Const.{Const}
use Rattle.hept_ast.specs.declared.tree.Tag.{Tag}
use Rattle.hept_ast.specs.declared.tree.UnaryOp.{UnaryOp}
use Rattle.hept_ast.specs.declared.tree.BinaryOp.{BinaryOp}
use Rattle.hept_ast.specs.declared.tree.Expr.{Expr}
use Rattle.hept_ast.specs.declared.tree.MergeBranch.{MergeBranch}
use Rattle.hept_ast.specs.declared.tree.Form.TheVariants as form
use Rattle.step_plans.specs.Plans.{Ground, IsBodyOf, Tests, Covers}

-- the clock of a branch
abbrev pub branch_clock : Clock → Name → MergeBranch → Clock
branch_clock c x b = c ++ record { tag = b.tag; name = x } ∷ []

module _ (g : Ground) (node : CoreNode) (b s : Scope) where
  -- a variable of the body b on the clock, which a clock names; s is where a right side of the body stands
  pub record IsTested (c : Clock) (x : Name) : Type 0 where
    pub body : IsBodyOf b node
    pub resets : List Name
    pub under : s ≡ Under b resets
    pub place : ℕ
    pub tested : slice_get g.tested place ≡ Some (Tests node x b)
    pub clock : clock_of_equation (equation_of node x) ≡ c

  mutual
    -- the variable of each merge inside an expression is tested, and its branches are to be covered
    pub data Grounded : Clock → Expr → Type 0 where
      constant : {c : Clock} {e : Expr} (k : Const) → e.form ≡ form.Const k → Grounded c e
      variable : {c : Clock} {e : Expr} (x : Name) → e.form ≡ form.Var x → Grounded c e
      unary : {c : Clock} {e : Expr} (op : UnaryOp) (a : Expr) → e.form ≡ form.Unary op a → Grounded c a → Grounded c e
      binary : {c : Clock} {e : Expr} (op : BinaryOp) (a d : Expr) → e.form ≡ form.Binary op a d → Grounded c a → Grounded c d → Grounded c e
      conditional : {c : Clock} {e : Expr} (k a d : Expr) → e.form ≡ form.If k a d → Grounded c k → Grounded c a → Grounded c d → Grounded c e
      sampled : {c : Clock} {e : Expr} (a : Expr) (tag : Tag) (x : Name) → e.form ≡ form.When a tag x → Grounded (take (length c - 1) c) a → Grounded c e
      merged : {c : Clock} {e : Expr} (x : Name) (branches : List MergeBranch) (place : ℕ) → e.form ≡ form.Merge x branches → IsTested c x → slice_get g.covered place ≡ Some (Covers x s branches) →
          AreGrounded c x branches → Grounded c e

    -- the branches of a merge
    pub data AreGrounded : Clock → Name → List MergeBranch → Type 0 where
      none : {c : Clock} {x : Name} → AreGrounded c x []
      more : {c : Clock} {x : Name} {d : MergeBranch} {branches : List MergeBranch} → Grounded (branch_clock c x d) d.value → AreGrounded c x branches → AreGrounded c x (d ∷ branches)
