-- What the operands of a right side are, for which instructions are built.
use Rattle.std.proofs.Common.{◌≡◌, ℕ, true, List, sym, subst, ◌∙◌}
use Rattle.hept_ast.specs.Texts.{Name, is_in}
use Rattle.hept_ast.specs.Scopes.{Clock, Scope}
use Rattle.hept_ast.specs.declared.tree.TypeDec.{TypeDec}
use Rattle.hept_ast.specs.declared.tree.CoreNode.{CoreNode}
use Rattle.hept_ast.specs.declared.tree.Const.{Const}
use Rattle.hept_ast.specs.declared.tree.Expr.{Expr}
use Rattle.hept_ast.specs.declared.tree.MergeBranch.{MergeBranch}
use Rattle.hept_ast.specs.declared.tree.Form.{Form, out-Form}
use Rattle.hept_ast.specs.declared.tree.Form.TheOpen.{Form-F}
use Rattle.hept_ast.specs.declared.tree.Form.TheVariants as form
use Rattle.step_plans.specs.Plans.{Ground}
use Rattle.step_plans.proofs.FormsOut.{const_form, var_form, unary_form, binary_form, if_form, fby_form}
use Rattle.plan_expressions.specs.Computable.{Computable, constant, variable, unary, binary, divided, conditional, sampled, merged}
use Rattle.plan_expressions.specs.Grounded.{Grounded}
use Rattle.plan_expressions.proofs.FormsMore.{when_form, merge_form}
use Rattle.plan_expressions.proofs.Operands.{some_form}
use Rattle.plan_equations.specs.Rights.{GroundedForm, GroundedRight, IsRight, expression, from_constant, from_variable, previous, arrow}
use Rattle.plan_equations.proofs.FormsMore.{pre_form, arrow_form}

module _ (types : List TypeDec) (ks : List Name) (n : ℕ) where
  no_fby : (e a b : Expr) → e.form ≡ form.Fby a b → Computable types ks n e → ⊥
  no_fby e a b is h = some_form types ks n e h
      (λ k g. let q : Form-F.Fby a b ≡ Form-F.Const k = sym (fby_form e a b is) ∙ const_form e k g in cc)
      (λ x g. let q : Form-F.Fby a b ≡ Form-F.Var x = sym (fby_form e a b is) ∙ var_form e x g in cc)
      (λ op d g. let q : Form-F.Fby a b ≡ Form-F.Unary op d = sym (fby_form e a b is) ∙ unary_form e op d g in cc)
      (λ op d f g. let q : Form-F.Fby a b ≡ Form-F.Binary op d f = sym (fby_form e a b is) ∙ binary_form e op d f g in cc)
      (λ c d f g. let q : Form-F.Fby a b ≡ Form-F.If c d f = sym (fby_form e a b is) ∙ if_form e c d f g in cc)
      (λ d tag x g. let q : Form-F.Fby a b ≡ Form-F.When d tag x = sym (fby_form e a b is) ∙ when_form e d tag x g in cc)
      (λ x branches g. let q : Form-F.Fby a b ≡ Form-F.Merge x branches = sym (fby_form e a b is) ∙ merge_form e x branches g in cc)

  no_arrow : (e a b : Expr) → e.form ≡ form.Arrow a b → Computable types ks n e → ⊥
  no_arrow e a b is h = some_form types ks n e h
      (λ k g. let q : Form-F.Arrow a b ≡ Form-F.Const k = sym (arrow_form e a b is) ∙ const_form e k g in cc)
      (λ x g. let q : Form-F.Arrow a b ≡ Form-F.Var x = sym (arrow_form e a b is) ∙ var_form e x g in cc)
      (λ op d g. let q : Form-F.Arrow a b ≡ Form-F.Unary op d = sym (arrow_form e a b is) ∙ unary_form e op d g in cc)
      (λ op d f g. let q : Form-F.Arrow a b ≡ Form-F.Binary op d f = sym (arrow_form e a b is) ∙ binary_form e op d f g in cc)
      (λ c d f g. let q : Form-F.Arrow a b ≡ Form-F.If c d f = sym (arrow_form e a b is) ∙ if_form e c d f g in cc)
      (λ d tag x g. let q : Form-F.Arrow a b ≡ Form-F.When d tag x = sym (arrow_form e a b is) ∙ when_form e d tag x g in cc)
      (λ x branches g. let q : Form-F.Arrow a b ≡ Form-F.Merge x branches = sym (arrow_form e a b is) ∙ merge_form e x branches g in cc)

  -- a variable at the start of a `fby` is known
  pub start_known : (e a b d : Expr) (x : Name) → e.form ≡ form.Fby a b → d ≡ a → d.form ≡ form.Var x → IsRight types ks n e → is_in x ks ≡ true
  start_known e a b d x is same start (expression h) = absurd (no_fby e a b is h)
  start_known e a b d x is same start (from_constant f g k is_fby const) =
      let q : Form-F.Fby a b ≡ Form-F.Fby f g = sym (fby_form e a b is) ∙ fby_form e f g is_fby in
      let here : d ≡ f = cc in
      absurd (let p : Form-F.Var x ≡ Form-F.Const k = sym (var_form d x start) ∙ const_form d k (subst (λ (z : Expr). z.form ≡ form.Const k) (sym here) const) in cc)
  start_known e a b d x is same start (from_variable f g y is_fby named among) =
      let q : Form-F.Fby a b ≡ Form-F.Fby f g = sym (fby_form e a b is) ∙ fby_form e f g is_fby in
      let here : d ≡ f = cc in
      let p : Form-F.Var x ≡ Form-F.Var y = sym (var_form d x start) ∙ var_form d y (subst (λ (z : Expr). z.form ≡ form.Var y) (sym here) named) in
      let one : x ≡ y = cc in
      subst (λ (z : Name). is_in z ks ≡ true) (sym one) among
  start_known e a b d x is same start (previous f g) = absurd (let q : Form-F.Fby a b ≡ Form-F.Pre f = sym (fby_form e a b is) ∙ pre_form e f g in cc)
  start_known e a b d x is same start (arrow f g is_arrow h i) = absurd (let q : Form-F.Fby a b ≡ Form-F.Arrow f g = sym (fby_form e a b is) ∙ arrow_form e f g is_arrow in cc)

  -- and any other start is a constant
  pub start_constant : (e a b d : Expr) → e.form ≡ form.Fby a b → d ≡ a → ((x : Name) → d.form ≡ form.Var x → ⊥) → IsRight types ks n e → (k : Const) × (a.form ≡ form.Const k)
  start_constant e a b d is same other (expression h) = absurd (no_fby e a b is h)
  start_constant e a b d is same other (from_constant f g k is_fby const) =
      let q : Form-F.Fby a b ≡ Form-F.Fby f g = sym (fby_form e a b is) ∙ fby_form e f g is_fby in
      let here : f ≡ a = cc in
      (k, subst (λ (z : Expr). z.form ≡ form.Const k) here const)
  start_constant e a b d is same other (from_variable f g y is_fby named among) =
      let q : Form-F.Fby a b ≡ Form-F.Fby f g = sym (fby_form e a b is) ∙ fby_form e f g is_fby in
      let here : f ≡ d = cc in
      absurd (other y (subst (λ (z : Expr). z.form ≡ form.Var y) here named))
  start_constant e a b d is same other (previous f g) = absurd (let q : Form-F.Fby a b ≡ Form-F.Pre f = sym (fby_form e a b is) ∙ pre_form e f g in cc)
  start_constant e a b d is same other (arrow f g is_arrow h i) = absurd (let q : Form-F.Fby a b ≡ Form-F.Arrow f g = sym (fby_form e a b is) ∙ arrow_form e f g is_arrow in cc)

  -- both operands of an `->`
  pub arrow_operands : (e a b : Expr) → e.form ≡ form.Arrow a b → IsRight types ks n e → Computable types ks n a × Computable types ks n b
  arrow_operands e a b is (expression h) = absurd (no_arrow e a b is h)
  arrow_operands e a b is (from_constant f g k is_fby const) = absurd (let q : Form-F.Arrow a b ≡ Form-F.Fby f g = sym (arrow_form e a b is) ∙ fby_form e f g is_fby in cc)
  arrow_operands e a b is (from_variable f g y is_fby named among) = absurd (let q : Form-F.Arrow a b ≡ Form-F.Fby f g = sym (arrow_form e a b is) ∙ fby_form e f g is_fby in cc)
  arrow_operands e a b is (previous f g) = absurd (let q : Form-F.Arrow a b ≡ Form-F.Pre f = sym (arrow_form e a b is) ∙ pre_form e f g in cc)
  arrow_operands e a b is (arrow f g is_arrow h i) =
      let q : Form-F.Arrow a b ≡ Form-F.Arrow f g = sym (arrow_form e a b is) ∙ arrow_form e f g is_arrow in
      let first : f ≡ a = cc in
      let second : g ≡ b = cc in
      (subst (λ (z : Expr). Computable types ks n z) first h, subst (λ (z : Expr). Computable types ks n z) second i)

  -- and without a memory operator it is an expression
  pub plain_right : (e : Expr) → ((a b : Expr) → e.form ≡ form.Fby a b → ⊥) → ((a : Expr) → e.form ≡ form.Pre a → ⊥) → ((a b : Expr) → e.form ≡ form.Arrow a b → ⊥) → IsRight types ks n e → Computable types ks n e
  plain_right e no_start no_pre none (expression h) = h
  plain_right e no_start no_pre none (from_constant f g k is const) = absurd (no_start f g is)
  plain_right e no_start no_pre none (from_variable f g y is named among) = absurd (no_start f g is)
  plain_right e no_start no_pre none (previous f is) = absurd (no_pre f is)
  plain_right e no_start no_pre none (arrow f g is h i) = absurd (none f g is)

  -- ---- what its merges need of the ground

  module _ (g : Ground) (node : CoreNode) (b s : Scope) (c : Clock) where
    as_form : (e : Expr) (f : Form-F Form Expr MergeBranch) → out-Form e.form ≡ f → GroundedRight g node b s c e → GroundedForm g node b s c f e
    as_form e f is h = subst (λ (z : Form-F Form Expr MergeBranch). GroundedForm g node b s c z e) is h

    pub grounded_arrow : (e a d : Expr) → e.form ≡ form.Arrow a d → GroundedRight g node b s c e → Grounded g node b s c a × Grounded g node b s c d
    grounded_arrow e a d is h = as_form e (Form-F.Arrow a d) (arrow_form e a d is) h

    pub grounded_expression : (e : Expr) → Computable types ks n e → GroundedRight g node b s c e → Grounded g node b s c e
    grounded_expression e (constant k is) h = as_form e (Form-F.Const k) (const_form e k is) h
    grounded_expression e (variable x is among) h = as_form e (Form-F.Var x) (var_form e x is) h
    grounded_expression e (unary op a is i) h = as_form e (Form-F.Unary op a) (unary_form e op a is) h
    grounded_expression e (binary op a d is other i j) h = as_form e (Form-F.Binary op a d) (binary_form e op a d is) h
    grounded_expression e (divided op a d is divides i j) h = as_form e (Form-F.Binary op a d) (binary_form e op a d is) h
    grounded_expression e (conditional k a d is i j l) h = as_form e (Form-F.If k a d) (if_form e k a d is) h
    grounded_expression e (sampled a tag x is lt i) h = as_form e (Form-F.When a tag x) (when_form e a tag x is) h
    grounded_expression e (merged x branches is lt among i) h = as_form e (Form-F.Merge x branches) (merge_form e x branches is) h
