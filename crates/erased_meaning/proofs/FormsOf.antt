-- What each form gives, from what its operands give.
use Rattle.std.proofs.Common.{◌≡◌, ℕ, List, Some, if◌then◌else◌, ◌==◌, refl, ap, subst, ◌∙◌}
use Rattle.hept_ast.specs.Scopes.{Clock, Scope}
use Rattle.hept_ast.specs.Values.{unary_value, binary_value}
use Rattle.hept_ast.specs.Meaning.{Gives, Rule, Says, on_value}
use Rattle.hept_ast.specs.Meaning as meaning
use Rattle.hept_ast.specs.Outputs.{said}
use Rattle.hept_ast.specs.declared.tree.UnaryOp.{UnaryOp}
use Rattle.hept_ast.specs.declared.tree.BinaryOp.{BinaryOp}
use Rattle.hept_ast.specs.declared.tree.Expr.{Expr}
use Rattle.hept_ast.specs.declared.tree.MergeBranch.{MergeBranch}
use Rattle.hept_ast.specs.declared.tree.Form.{Form, out-Form}
use Rattle.hept_ast.specs.declared.tree.Form.TheOpen.{Form-F}
use Rattle.answer_table.specs.declared.paths.Step.{Step}
use Rattle.answer_table.specs.declared.questions.Answer.{Answer}
use Rattle.answer_table.specs.declared.questions.Answer.TheVariants as answer
use Rattle.answer_table.specs.declared.answers.Answers.{Answers}
use Rattle.answer_table.specs.Parts.{operand_of}
use Rattle.answer_table.specs.Things.{At, operand_clock}
use Rattle.answer_table.specs.Tables.{Gets, thing_in}
use Rattle.erased_meaning.specs.Rules.{FormGives, OperandGets}
use Rattle.erased_meaning.proofs.Following.{value_gives, absent_gives, nil_gives}

-- what follows the operands
abbrev after_unary : UnaryOp → ℕ → Rule
after_unary op v = Says (meaning.Value (unary_value op v))

abbrev after_right : BinaryOp → ℕ → ℕ → Rule
after_right op u v = Says (meaning.Value (binary_value op u v))

abbrev after_left : BinaryOp → Expr → Clock → Scope → ℕ → ℕ → Rule
after_left op b clock scope t u = on_value (Gives b clock scope t) (after_right op u)

abbrev after_no : ℕ → ℕ → ℕ → Rule
after_no k u v = Says (meaning.Value (if k == 1 then u else v))

abbrev after_yes : Expr → Clock → Scope → ℕ → ℕ → ℕ → Rule
after_yes b clock scope t k u = on_value (Gives b clock scope t) (after_no k u)

abbrev after_condition : Expr → Expr → Clock → Scope → ℕ → ℕ → Rule
after_condition a b clock scope t k = on_value (Gives a clock scope t) (after_yes b clock scope t k)

module _ (s : Answers) (path : List Step) (t : ℕ) where
  -- an operand of an expression of this form
  pub of_form : (form : Form-F Form Expr MergeBranch) (n : ℕ) (r : Answer) → OperandGets s path n t r → (e a : Expr) (clock : Clock) (scope : Scope) →
      thing_in s path ≡ At e clock scope → out-Form e.form ≡ form → operand_of form n ≡ Some a → Gets s (Gives a (operand_clock form n clock) scope t) r
  of_form form n r h e a clock scope is same found =
      subst (λ (f : Form-F Form Expr MergeBranch). Gets s (Gives a (operand_clock f n clock) scope t) r) same
      (h e a clock scope is (ap (λ (f : Form-F Form Expr MergeBranch). operand_of f n) same ∙ found))

  pub unary_gives : (op : UnaryOp) (v : ℕ) → OperandGets s path 0 t (answer.Value v) → (a : Expr) → FormGives s path (Form-F.Unary op a) t (answer.Value (unary_value op v))
  unary_gives op v h a e clock scope is same =
      value_gives s (Gives a clock scope t) (after_unary op) v (answer.Value (unary_value op v)) (of_form (Form-F.Unary op a) 0 (answer.Value v) h e a clock scope is same refl)
      (said)

  pub unary_nil : (op : UnaryOp) → OperandGets s path 0 t answer.Nil → (a : Expr) → FormGives s path (Form-F.Unary op a) t answer.Nil
  unary_nil op h a e clock scope is same = nil_gives s (Gives a clock scope t) (after_unary op) (of_form (Form-F.Unary op a) 0 answer.Nil h e a clock scope is same refl)

  pub binary_right_nil : (op : BinaryOp) (u : ℕ) → OperandGets s path 1 t answer.Nil → (a b : Expr) → OperandGets s path 0 t (answer.Value u) → FormGives s path (Form-F.Binary op a b) t answer.Nil
  binary_right_nil op u k a b h e clock scope is same =
      value_gives s (Gives a clock scope t) (after_left op b clock scope t) u answer.Nil (of_form (Form-F.Binary op a b) 0 (answer.Value u) h e a clock scope is same refl)
      (nil_gives s (Gives b clock scope t) (after_right op u) (of_form (Form-F.Binary op a b) 1 answer.Nil k e b clock scope is same refl))

  pub binary_nil : (op : BinaryOp) → OperandGets s path 0 t answer.Nil → (a b : Expr) → FormGives s path (Form-F.Binary op a b) t answer.Nil
  binary_nil op h a b e clock scope is same = nil_gives s (Gives a clock scope t) (after_left op b clock scope t) (of_form (Form-F.Binary op a b) 0 answer.Nil h e a clock scope is same refl)

  pub choice_no_nil : (k u : ℕ) → OperandGets s path 2 t answer.Nil → (c a b : Expr) → OperandGets s path 0 t (answer.Value k) → OperandGets s path 1 t (answer.Value u) → FormGives s path (Form-F.If c a b) t answer.Nil
  choice_no_nil k u h2 c a b h0 h1 e clock scope is same =
      value_gives s (Gives c clock scope t) (after_condition a b clock scope t) k answer.Nil (of_form (Form-F.If c a b) 0 (answer.Value k) h0 e c clock scope is same refl)
      (value_gives s (Gives a clock scope t) (after_yes b clock scope t k) u answer.Nil (of_form (Form-F.If c a b) 1 (answer.Value u) h1 e a clock scope is same refl)
      (nil_gives s (Gives b clock scope t) (after_no k u) (of_form (Form-F.If c a b) 2 answer.Nil h2 e b clock scope is same refl)))

  pub choice_yes_nil : (k : ℕ) → OperandGets s path 1 t answer.Nil → (c a b : Expr) → OperandGets s path 0 t (answer.Value k) → FormGives s path (Form-F.If c a b) t answer.Nil
  choice_yes_nil k h1 c a b h0 e clock scope is same =
      value_gives s (Gives c clock scope t) (after_condition a b clock scope t) k answer.Nil (of_form (Form-F.If c a b) 0 (answer.Value k) h0 e c clock scope is same refl)
      (nil_gives s (Gives a clock scope t) (after_yes b clock scope t k) (of_form (Form-F.If c a b) 1 answer.Nil h1 e a clock scope is same refl))

  pub choice_nil : OperandGets s path 0 t answer.Nil → (c a b : Expr) → FormGives s path (Form-F.If c a b) t answer.Nil
  choice_nil h0 c a b e clock scope is same = nil_gives s (Gives c clock scope t) (after_condition a b clock scope t) (of_form (Form-F.If c a b) 0 answer.Nil h0 e c clock scope is same refl)

  pub unary_absent : (op : UnaryOp) → OperandGets s path 0 t answer.Absent → (a : Expr) → FormGives s path (Form-F.Unary op a) t answer.Absent
  unary_absent op h a e clock scope is same = absent_gives s (Gives a clock scope t) (after_unary op) (of_form (Form-F.Unary op a) 0 answer.Absent h e a clock scope is same refl)

  pub binary_right_absent : (op : BinaryOp) (u : ℕ) → OperandGets s path 1 t answer.Absent → (a b : Expr) → OperandGets s path 0 t (answer.Value u) → FormGives s path (Form-F.Binary op a b) t answer.Absent
  binary_right_absent op u k a b h e clock scope is same =
      value_gives s (Gives a clock scope t) (after_left op b clock scope t) u answer.Absent (of_form (Form-F.Binary op a b) 0 (answer.Value u) h e a clock scope is same refl)
      (absent_gives s (Gives b clock scope t) (after_right op u) (of_form (Form-F.Binary op a b) 1 answer.Absent k e b clock scope is same refl))

  pub binary_absent : (op : BinaryOp) → OperandGets s path 0 t answer.Absent → (a b : Expr) → FormGives s path (Form-F.Binary op a b) t answer.Absent
  binary_absent op h a b e clock scope is same = absent_gives s (Gives a clock scope t) (after_left op b clock scope t) (of_form (Form-F.Binary op a b) 0 answer.Absent h e a clock scope is same refl)

  pub choice_no_absent : (k u : ℕ) → OperandGets s path 2 t answer.Absent → (c a b : Expr) → OperandGets s path 0 t (answer.Value k) → OperandGets s path 1 t (answer.Value u) → FormGives s path (Form-F.If c a b) t answer.Absent
  choice_no_absent k u h2 c a b h0 h1 e clock scope is same =
      value_gives s (Gives c clock scope t) (after_condition a b clock scope t) k answer.Absent (of_form (Form-F.If c a b) 0 (answer.Value k) h0 e c clock scope is same refl)
      (value_gives s (Gives a clock scope t) (after_yes b clock scope t k) u answer.Absent (of_form (Form-F.If c a b) 1 (answer.Value u) h1 e a clock scope is same refl)
      (absent_gives s (Gives b clock scope t) (after_no k u) (of_form (Form-F.If c a b) 2 answer.Absent h2 e b clock scope is same refl)))

  pub choice_yes_absent : (k : ℕ) → OperandGets s path 1 t answer.Absent → (c a b : Expr) → OperandGets s path 0 t (answer.Value k) → FormGives s path (Form-F.If c a b) t answer.Absent
  choice_yes_absent k h1 c a b h0 e clock scope is same =
      value_gives s (Gives c clock scope t) (after_condition a b clock scope t) k answer.Absent (of_form (Form-F.If c a b) 0 (answer.Value k) h0 e c clock scope is same refl)
      (absent_gives s (Gives a clock scope t) (after_yes b clock scope t k) (of_form (Form-F.If c a b) 1 answer.Absent h1 e a clock scope is same refl))

  pub choice_absent : OperandGets s path 0 t answer.Absent → (c a b : Expr) → FormGives s path (Form-F.If c a b) t answer.Absent
  choice_absent h0 c a b e clock scope is same = absent_gives s (Gives c clock scope t) (after_condition a b clock scope t) (of_form (Form-F.If c a b) 0 answer.Absent h0 e c clock scope is same refl)

  pub binary_gives : (op : BinaryOp) (u v : ℕ) → OperandGets s path 1 t (answer.Value v) → (a b : Expr) → OperandGets s path 0 t (answer.Value u) →
      FormGives s path (Form-F.Binary op a b) t (answer.Value (binary_value op u v))
  binary_gives op u v k a b h e clock scope is same =
      value_gives s (Gives a clock scope t) (after_left op b clock scope t) u (answer.Value (binary_value op u v)) (of_form (Form-F.Binary op a b) 0 (answer.Value u) h e a clock scope is same refl)
      (value_gives s (Gives b clock scope t) (after_right op u) v (answer.Value (binary_value op u v)) (of_form (Form-F.Binary op a b) 1 (answer.Value v) k e b clock scope is same refl)
      (said))

  pub choice_gives : (k u v : ℕ) → OperandGets s path 2 t (answer.Value v) → (c a b : Expr) → OperandGets s path 0 t (answer.Value k) → OperandGets s path 1 t (answer.Value u) →
      FormGives s path (Form-F.If c a b) t (answer.Value (if k == 1 then u else v))
  choice_gives k u v h2 c a b h0 h1 e clock scope is same =
      value_gives s (Gives c clock scope t) (after_condition a b clock scope t) k (answer.Value (if k == 1 then u else v)) (of_form (Form-F.If c a b) 0 (answer.Value k) h0 e c clock scope is same refl)
      (value_gives s (Gives a clock scope t) (after_yes b clock scope t k) u (answer.Value (if k == 1 then u else v)) (of_form (Form-F.If c a b) 1 (answer.Value u) h1 e a clock scope is same refl)
      (value_gives s (Gives b clock scope t) (after_no k u) v (answer.Value (if k == 1 then u else v)) (of_form (Form-F.If c a b) 2 (answer.Value v) h2 e b clock scope is same refl)
      (said)))
