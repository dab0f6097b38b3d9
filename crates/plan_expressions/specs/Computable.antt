-- The expressions for which instructions are built.
use Rattle.std.specs.Prelude.{◌≡◌, ◌≢◌, ℕ, ◌+◌, ◌-◌, ◌<◌, true, List, [], ◌∷◌}
use Rattle.hept_ast.specs.Texts.{Name, const_value, is_in}
use Rattle.hept_ast.specs.declared.tree.TypeDec.{TypeDec}
use Rattle.hept_ast.specs.declared.tree.Const.{Const}
use Rattle.hept_ast.specs.declared.tree.Tag.{Tag}
use Rattle.hept_ast.specs.declared.tree.UnaryOp.{UnaryOp}
use Rattle.hept_ast.specs.declared.tree.BinaryOp.{BinaryOp}
use Rattle.hept_ast.specs.declared.tree.Expr.{Expr}
use Rattle.hept_ast.specs.declared.tree.MergeBranch.{MergeBranch}
use Rattle.hept_ast.specs.declared.tree.Form.TheVariants as form
use Rattle.step_engine.specs.Running.{IsDivision, IsNoDivision}

-- a constant other than 0
pub data HasDivisor (types : List TypeDec) : Expr → Type 0 where
  divisor : {e : Expr} (k : Const) → e.form ≡ form.Const k → const_value types k ≢ 0 → HasDivisor types e

-- and its value
pub record IsDivisorOf (types : List TypeDec) (e : Expr) (value : ℕ) : Type 0 where
  pub constant : Const
  pub is : e.form ≡ form.Const constant
  pub value_of : value ≡ const_value types constant
  pub nonzero : value ≢ 0

mutual
  -- an expression of constants, operators, `if`, and variables that are known; and of `when` and merges, where there is a
  -- presence for each beginning of its clock
  pub data Computable (types : List TypeDec) (known : List Name) : (presences : ℕ) → Expr → Type 0 where
    constant : {n : ℕ} {e : Expr} (k : Const) → e.form ≡ form.Const k → Computable types known n e
    variable : {n : ℕ} {e : Expr} (x : Name) → e.form ≡ form.Var x → is_in x known ≡ true → Computable types known n e
    unary : {n : ℕ} {e : Expr} (op : UnaryOp) (a : Expr) → e.form ≡ form.Unary op a → Computable types known n a → Computable types known n e
    binary : {n : ℕ} {e : Expr} (op : BinaryOp) (a b : Expr) → e.form ≡ form.Binary op a b → IsNoDivision op → Computable types known n a → Computable types known n b → Computable types known n e
    divided : {n : ℕ} {e : Expr} (op : BinaryOp) (a b : Expr) → e.form ≡ form.Binary op a b → IsDivision op → Computable types known n a → HasDivisor types b → Computable types known n e
    conditional : {n : ℕ} {e : Expr} (c a b : Expr) → e.form ≡ form.If c a b → Computable types known n c → Computable types known n a → Computable types known n b → Computable types known n e
    sampled : {n : ℕ} {e : Expr} (a : Expr) (tag : Tag) (x : Name) → e.form ≡ form.When a tag x → 1 < n → Computable types known (n - 1) a → Computable types known n e
    merged : {n : ℕ} {e : Expr} (x : Name) (branches : List MergeBranch) → e.form ≡ form.Merge x branches → 0 < n → is_in x known ≡ true → AreComputable types known (n + 1) branches →
        Computable types known n e

  -- the branches of a merge, at least one
  pub data AreComputable (types : List TypeDec) (known : List Name) : (presences : ℕ) → List MergeBranch → Type 0 where
    one : {n : ℕ} {b : MergeBranch} → Computable types known n b.value → AreComputable types known n (b ∷ [])
    more : {n : ℕ} {b : MergeBranch} {branches : List MergeBranch} → Computable types known n b.value → AreComputable types known n branches → AreComputable types known n (b ∷ branches)
