-- What the operands of an expression are, for which instructions are built.
use Rattle.std.proofs.Common.{◌≡◌, ℕ, ◌+◌, ◌-◌, ◌<◌, true, List, length, take, sym, subst, arith}
use Rattle.std.proofs.lemmas.List.{length-take-le}
use Rattle.hept_ast.specs.Texts.{Name, is_in}
use Rattle.hept_ast.specs.declared.tree.TypeDec.{TypeDec}
use Rattle.hept_ast.specs.declared.tree.Const.{Const}
use Rattle.hept_ast.specs.declared.tree.Tag.{Tag}
use Rattle.hept_ast.specs.declared.tree.UnaryOp.{UnaryOp}
use Rattle.hept_ast.specs.declared.tree.BinaryOp.{BinaryOp}
use Rattle.hept_ast.specs.declared.tree.BinaryOp.TheVariants.{Add, Sub, Mul, Div, Rem, Or, And, Eq, Ne, Lt, Le, Gt, Ge}
use Rattle.hept_ast.specs.declared.tree.Expr.{Expr}
use Rattle.hept_ast.specs.declared.tree.MergeBranch.{MergeBranch}
use Rattle.hept_ast.specs.declared.tree.Form.{Form, out-Form}
use Rattle.hept_ast.specs.declared.tree.Form.TheOpen.{Form-F}
use Rattle.hept_ast.specs.declared.tree.Form.TheVariants as form
use Rattle.step_plans.proofs.FormsOut.{const_form, var_form, unary_form, binary_form, if_form}
use Rattle.step_engine.specs.Running.{IsDivision, IsNoDivision}
use Rattle.plan_expressions.specs.Computable.{Computable, constant, variable, unary, binary, divided, conditional, sampled, merged, AreComputable, HasDivisor}
use Rattle.plan_expressions.proofs.FormsMore.{when_form, merge_form}

no_both : (op : BinaryOp) → IsDivision op → IsNoDivision op → ⊥
no_both Div d n = n
no_both Rem d n = n
no_both Add d n = d
no_both Sub d n = d
no_both Mul d n = d
no_both Or d n = d
no_both And d n = d
no_both Eq d n = d
no_both Ne d n = d
no_both Lt d n = d
no_both Le d n = d
no_both Gt d n = d
no_both Ge d n = d

module _ (types : List TypeDec) (ks : List Name) (n : ℕ) where
  -- what the operands of a form are
  abbrev AreOperands : Form-F Form Expr MergeBranch → Type 0
  AreOperands (Form-F.Const k) = Unit {0}
  AreOperands (Form-F.Var x) = is_in x ks ≡ true
  AreOperands (Form-F.Unary op a) = Computable types ks n a
  AreOperands (Form-F.Binary op a b) = Computable types ks n a × (IsNoDivision op → Computable types ks n b) × (IsDivision op → HasDivisor types b)
  AreOperands (Form-F.If c a b) = Computable types ks n c × Computable types ks n a × Computable types ks n b
  AreOperands (Form-F.When a tag x) = (1 < n) × Computable types ks (n - 1) a
  AreOperands (Form-F.Merge x branches) = (0 < n) × (is_in x ks ≡ true) × AreComputable types ks (n + 1) branches
  AreOperands _ = ⊥

  abbrev AreOperandsOf : Expr → Type 0
  AreOperandsOf e = AreOperands (out-Form e.form)

  operands : (e : Expr) → Computable types ks n e → AreOperandsOf e
  operands e (constant k is) = subst AreOperands (sym (const_form e k is)) tt
  operands e (variable x is among) = subst AreOperands (sym (var_form e x is)) among
  operands e (unary op a is h) = subst AreOperands (sym (unary_form e op a is)) h
  operands e (binary op a b is other h k) = subst AreOperands (sym (binary_form e op a b is)) (h, λ z. k, λ z. absurd (no_both op z other))
  operands e (divided op a b is divides h k) = subst AreOperands (sym (binary_form e op a b is)) (h, λ z. absurd (no_both op divides z), λ z. k)
  operands e (conditional c a b is h k l) = subst AreOperands (sym (if_form e c a b is)) (h, k, l)
  operands e (sampled a tag x is lt h) = subst AreOperands (sym (when_form e a tag x is)) (lt, h)
  operands e (merged x branches is lt among h) = subst AreOperands (sym (merge_form e x branches is)) (lt, among, h)

  pub variable_known : (e : Expr) (x : Name) → e.form ≡ form.Var x → Computable types ks n e → is_in x ks ≡ true
  variable_known e x is h = subst AreOperands (var_form e x is) (operands e h)

  pub right_divisor : (e : Expr) (op : BinaryOp) (a b : Expr) → IsDivision op → e.form ≡ form.Binary op a b → Computable types ks n e → HasDivisor types b
  right_divisor e op a b divides is h = (subst AreOperands (binary_form e op a b is) (operands e h)).2 divides

  pub merge_operands : (e : Expr) (x : Name) (branches : List MergeBranch) → e.form ≡ form.Merge x branches → Computable types ks n e → (0 < n) × (is_in x ks ≡ true) × AreComputable types ks (n + 1) branches
  merge_operands e x branches is h = subst AreOperands (merge_form e x branches is) (operands e h)

  pub when_operands : (e a : Expr) (tag : Tag) (x : Name) → e.form ≡ form.When a tag x → Computable types ks n e → (1 < n) × Computable types ks (n - 1) a
  when_operands e a tag x is h = subst AreOperands (when_form e a tag x is) (operands e h)

  -- it has one of these forms
  pub some_form : (e : Expr) → Computable types ks n e → ((k : Const) → e.form ≡ form.Const k → ⊥) → ((x : Name) → e.form ≡ form.Var x → ⊥) → ((op : UnaryOp) (a : Expr) → e.form ≡ form.Unary op a → ⊥) →
      ((op : BinaryOp) (a b : Expr) → e.form ≡ form.Binary op a b → ⊥) → ((c a b : Expr) → e.form ≡ form.If c a b → ⊥) → ((a : Expr) (tag : Tag) (x : Name) → e.form ≡ form.When a tag x → ⊥) →
      ((x : Name) (branches : List MergeBranch) → e.form ≡ form.Merge x branches → ⊥) → ⊥
  some_form e (constant k is) no_const no_var no_unary no_binary no_if no_when no_merge = no_const k is
  some_form e (variable x is among) no_const no_var no_unary no_binary no_if no_when no_merge = no_var x is
  some_form e (unary op a is h) no_const no_var no_unary no_binary no_if no_when no_merge = no_unary op a is
  some_form e (binary op a b is other h k) no_const no_var no_unary no_binary no_if no_when no_merge = no_binary op a b is
  some_form e (divided op a b is divides h k) no_const no_var no_unary no_binary no_if no_when no_merge = no_binary op a b is
  some_form e (conditional c a b is h k l) no_const no_var no_unary no_binary no_if no_when no_merge = no_if c a b is
  some_form e (sampled a tag x is lt h) no_const no_var no_unary no_binary no_if no_when no_merge = no_when a tag x is
  some_form e (merged x branches is lt among h) no_const no_var no_unary no_binary no_if no_when no_merge = no_merge x branches is

  -- ---- for the operand that a box holds

  to_operand : (a b : Expr) → a ≡ b → Computable types ks n b → Computable types ks n a
  to_operand a b same h = subst (λ (z : Expr). Computable types ks n z) (sym same) h

  pub unary_over : (e a l : Expr) (op : UnaryOp) → e.form ≡ form.Unary op a → l ≡ a → Computable types ks n e → Computable types ks n l
  unary_over e a l op is same h = to_operand l a same (subst AreOperands (unary_form e op a is) (operands e h))

  pub left_over : (e a b l : Expr) (op : BinaryOp) → e.form ≡ form.Binary op a b → l ≡ a → Computable types ks n e → Computable types ks n l
  left_over e a b l op is same h = to_operand l a same (subst AreOperands (binary_form e op a b is) (operands e h)).0

  pub right_over : (e a b l : Expr) (op : BinaryOp) → IsNoDivision op → e.form ≡ form.Binary op a b → l ≡ b → Computable types ks n e → Computable types ks n l
  right_over e a b l op other is same h = to_operand l b same ((subst AreOperands (binary_form e op a b is) (operands e h)).1 other)

  pub condition_over : (e c a b l : Expr) → e.form ≡ form.If c a b → l ≡ c → Computable types ks n e → Computable types ks n l
  condition_over e c a b l is same h = to_operand l c same (subst AreOperands (if_form e c a b is) (operands e h)).0

  pub then_over : (e c a b l : Expr) → e.form ≡ form.If c a b → l ≡ a → Computable types ks n e → Computable types ks n l
  then_over e c a b l is same h = to_operand l a same (subst AreOperands (if_form e c a b is) (operands e h)).1

  pub otherwise_over : (e c a b l : Expr) → e.form ≡ form.If c a b → l ≡ b → Computable types ks n e → Computable types ks n l
  otherwise_over e c a b l is same h = to_operand l b same (subst AreOperands (if_form e c a b is) (operands e h)).2

pub when_over : (types : List TypeDec) (ks : List Name) (presences : List ℕ) (e a l : Expr) (tag : Tag) (x : Name) → e.form ≡ form.When a tag x → l ≡ a → Computable types ks (length presences) e → Computable types ks (length (take (length presences - 1) presences)) l
when_over types ks presences e a l tag x is same h =
    let shorter : length (take (length presences - 1) presences) ≡ length presences - 1 = length-take-le (length presences - 1) presences (omega arith) in
    subst (λ (n : ℕ). Computable types ks n l) (sym shorter) (subst (λ (z : Expr). Computable types ks (length presences - 1) z) (sym same) (when_operands types ks (length presences) e a tag x is h).1)
