-- What is known of an expression, from what its form gives.
use Rattle.std.proofs.Common.{◌≡◌, ◌≢◌, ℕ, ◌-◌, ◌==◌, true, false, List, [], ◌∷◌, ◌++◌, length, take, Option, Some, slice_get, if◌then◌else◌, refl, sym, ap, subst}
use Rattle.std.specs.List.{find}
use Rattle.std.specs.Option.{option_map}
use Rattle.hept_ast.specs.Texts.{Name, const_value, tag_value}
use Rattle.hept_ast.specs.Scopes.{Clock, Scope}
use Rattle.hept_ast.specs.Meaning.{Question, Gives, Output, Variable, Last, Present, Rule, Says, answer_to, if_present, on_value, form_rule, merged, rule}
use Rattle.hept_ast.specs.Meaning as meaning
use Rattle.hept_ast.specs.Outputs.{said}
use Rattle.hept_ast.proofs.Depths.{to_rule}
use Rattle.hept_ast.specs.declared.tree.Const.{Const}
use Rattle.hept_ast.specs.declared.tree.Tag.{Tag}
use Rattle.hept_ast.specs.declared.tree.Expr.{Expr}
use Rattle.hept_ast.specs.declared.tree.MergeBranch.{MergeBranch}
use Rattle.hept_ast.specs.declared.tree.Form.{out-Form}
use Rattle.hept_ast.specs.declared.tree.Form.TheOpen.{Form-F}
use Rattle.std.specs.Borrow.{Bor}
use Rattle.answer_table.specs.declared.paths.Step.{Step}
use Rattle.answer_table.specs.declared.questions.Asked.{Asked}
use Rattle.answer_table.specs.declared.questions.Asked.TheVariants as asked_of
use Rattle.answer_table.specs.declared.questions.Answer.{Answer}
use Rattle.answer_table.specs.declared.questions.Answer.TheVariants as answer
use Rattle.answer_table.specs.declared.answers.Answers.{Answers}
use Rattle.answer_table.specs.Things.{Thing, In, At, merge_clock}
use Rattle.answer_table.specs.Asking.{HasAnswer, answer_of, question_of}
use Rattle.answer_table.specs.Tables.{AnswerAt, Gets, IsExpressionAt, IsScopeOfPath, RuleGives, setting_in, thing_in}
use Rattle.erased_meaning.specs.Rules.{FormGives, IsValueAnswer, OperandGets, Tests}
use Rattle.erased_meaning.proofs.Following.{answer_gives, value_gives, absent_gives, nil_gives}
use Rattle.erased_meaning.proofs.FormsOf.{of_form}

is_answer : (r : Answer) → answer_of r ≢ meaning.Unknown
is_answer answer.Absent = λ h. cc
is_answer answer.Nil = λ h. cc
is_answer (answer.Value v) = λ h. cc
is_answer (answer.Is b) = λ h. cc
is_answer (answer.StateAt k m) = λ h. cc

-- the answer of a question is what its rule comes to
pub from_rule : (s : Answers) (path : List Step) (what : Asked) (t : ℕ) (q : Question) (r : Answer) →
    question_of (setting_in s) (thing_in s path) what t ≡ Some q → RuleGives s (rule (setting_in s) q) r → AnswerAt s path what t r
from_rule s path what t q r is h =
    subst (λ (o : Option Question). HasAnswer s.accepted.now s.rows.now o (answer_of r)) (sym is) (to_rule (setting_in s) s.rows.now q (answer_of r) h (is_answer r))

-- what is asked of the scope of an expression
of_scope : (s : Answers) (path scope : List Step) (what : Asked) (t : ℕ) (r : Answer) → IsScopeOfPath s path scope → AnswerAt s scope what t r →
    (e : Expr) (clock : Clock) (sc : Scope) → thing_in s path ≡ At e clock sc → HasAnswer s.accepted.now s.rows.now (question_of (setting_in s) (In sc) what t) (answer_of r)
of_scope s path scope what t r scoped h e clock sc is =
    subst (λ (thing : Thing). HasAnswer s.accepted.now s.rows.now (question_of (setting_in s) thing what t) (answer_of r)) (scoped e clock sc is) h

-- what is asked of an expression
of_expression : (s : Answers) (path : List Step) (what : Asked) (t : ℕ) (r : Answer) → AnswerAt s path what t r →
    (e : Expr) (clock : Clock) (sc : Scope) → thing_in s path ≡ At e clock sc → HasAnswer s.accepted.now s.rows.now (question_of (setting_in s) (At e clock sc) what t) (answer_of r)
of_expression s path what t r h e clock sc is =
    subst (λ (thing : Thing). HasAnswer s.accepted.now s.rows.now (question_of (setting_in s) thing what t) (answer_of r)) is h

-- whether an expression is present is this question
pub asked_present : (s : Answers) (path : List Step) (t : ℕ) (e : Expr) (clock : Clock) (sc : Scope) → thing_in s path ≡ At e clock sc →
    question_of (setting_in s) (thing_in s path) asked_of.Present t ≡ Some (Present clock sc t)
asked_present s path t e clock sc is = ap (λ (thing : Thing). question_of (setting_in s) thing asked_of.Present t) is

pub gives_absent : (s : Answers) (path : List Step) (t : ℕ) (e : Expr) → IsExpressionAt s path e → Tests s path asked_of.Present t false → AnswerAt s path asked_of.Gives t answer.Absent
gives_absent s path t e at h =
    let (clock, sc, is) = at in
    from_rule s path asked_of.Gives t (Gives e clock sc t) answer.Absent (ap (λ (thing : Thing). question_of (setting_in s) thing asked_of.Gives t) is)
    (h (Present clock sc t) (λ here. if here then form_rule (setting_in s) (out-Form e.form) e clock sc t else Says meaning.Absent) answer.Absent (asked_present s path t e clock sc is) said)

pub gives_form : (s : Answers) (path : List Step) (t : ℕ) (e : Expr) (r : Answer) → IsExpressionAt s path e → Tests s path asked_of.Present t true → FormGives s path (out-Form e.form) t r →
    AnswerAt s path asked_of.Gives t r
gives_form s path t e r at h form =
    let (clock, sc, is) = at in
    from_rule s path asked_of.Gives t (Gives e clock sc t) r (ap (λ (thing : Thing). question_of (setting_in s) thing asked_of.Gives t) is)
    (h (Present clock sc t) (λ here. if here then form_rule (setting_in s) (out-Form e.form) e clock sc t else Says meaning.Absent) r (asked_present s path t e clock sc is) (form e clock sc is refl))

-- ---- forms

module _ (s : Answers) (path scope : List Step) (t : ℕ) where
  -- what is a value is what the rule says
  value_said : (k : Const) (r : Answer) → IsValueAnswer (const_value (setting_in s).types k) r → RuleGives s (Says (meaning.Value (const_value (setting_in s).types k))) r
  value_said k r same = subst (λ (a : Answer). RuleGives s (Says (meaning.Value (const_value (setting_in s).types k))) a) (sym same) said

  pub const_gives : (k : Const) (r : Answer) → IsValueAnswer (const_value (setting_in s).types k) r → FormGives s path (Form-F.Const k) t r
  const_gives k r same e clock sc is form = value_said k r same

  pub async_const_gives : (k : Const) (r : Answer) → IsValueAnswer (const_value (setting_in s).types k) r → FormGives s path (Form-F.AsyncConst k) t r
  async_const_gives k r same e clock sc is form = value_said k r same

  pub variable_gives : (x : Bor Name) (r : Answer) → IsScopeOfPath s path scope → AnswerAt s scope (asked_of.Variable x) t r → FormGives s path (Form-F.Var x.now) t r
  variable_gives x r scoped h e clock sc is form = answer_gives s (Variable x.now sc t) r (of_scope s path scope (asked_of.Variable x) t r scoped h e clock sc is)

  pub last_gives : (x : Bor Name) (r : Answer) → IsScopeOfPath s path scope → AnswerAt s scope (asked_of.Last x) t r → FormGives s path (Form-F.Last x.now) t r
  last_gives x r scoped h e clock sc is form = answer_gives s (Last x.now sc t) r (of_scope s path scope (asked_of.Last x) t r scoped h e clock sc is)

  pub call_gives : (f : Name) (args : List Expr) (r : Answer) → AnswerAt s path (asked_of.Output 0) t r → FormGives s path (Form-F.Call f args) t r
  call_gives f args r h e clock sc is form = answer_gives s (Output e 0 clock sc t) r (of_expression s path (asked_of.Output 0) t r h e clock sc is)

  pub async_call_gives : (q : ℕ) (f : Name) (args : List Expr) (r : Answer) → AnswerAt s path (asked_of.Output 0) t r → FormGives s path (Form-F.AsyncCall q f args) t r
  async_call_gives q f args r h e clock sc is form = answer_gives s (Output e 0 clock sc t) r (of_expression s path (asked_of.Output 0) t r h e clock sc is)

  pub when_gives : (a : Expr) (tag : Tag) (x : Name) (r : Answer) → OperandGets s path 0 t r → FormGives s path (Form-F.When a tag x) t r
  when_gives a tag x r h e clock sc is form =
      answer_gives s (Gives a (take (length clock - 1) clock) sc t) r (of_form s path t (Form-F.When a tag x) 0 r h e a clock sc is form refl)

  pub get_gives : (a : Expr) (r : Answer) → OperandGets s path 0 t r → FormGives s path (Form-F.Get a) t r
  get_gives a r h e clock sc is form = answer_gives s (Gives a clock sc t) r (of_form s path t (Form-F.Get a) 0 r h e a clock sc is form refl)

  abbrev after_on : Name → List MergeBranch → Clock → Scope → ℕ → Rule
  after_on x branches clock sc v = merged (setting_in s) (find (λ b. tag_value (setting_in s).types b.tag == v) branches) x clock sc t

  pub merge_gives : (x : Bor Name) (branches : List MergeBranch) (v i : ℕ) (b : MergeBranch) (r : Answer) → IsScopeOfPath s path scope → AnswerAt s scope (asked_of.Variable x) t (answer.Value v) →
      slice_get branches i ≡ Some b → find (λ b. tag_value (setting_in s).types b.tag == v) branches ≡ Some b → OperandGets s path i t r → FormGives s path (Form-F.Merge x.now branches) t r
  merge_gives x branches v i b r scoped on got found h e clock sc is form =
      value_gives s (Variable x.now sc t) (after_on x.now branches clock sc) v r (of_scope s path scope (asked_of.Variable x) t (answer.Value v) scoped on e clock sc is)
      (subst (λ (o : Option MergeBranch). RuleGives s (merged (setting_in s) o x.now clock sc t) r) (sym found)
      (answer_gives s (Gives b.value (clock ++ record { tag = b.tag; name = x.now } ∷ []) sc t) r
      (subst (λ (o : Option MergeBranch). Gets s (Gives b.value (merge_clock o x.now clock) sc t) r) got
      (of_form s path t (Form-F.Merge x.now branches) i r h e b.value clock sc is form (ap (λ (o : Option MergeBranch). option_map (λ b. b.value) o) got)))))

  pub merge_nil : (x : Bor Name) (branches : List MergeBranch) → IsScopeOfPath s path scope → AnswerAt s scope (asked_of.Variable x) t answer.Nil → FormGives s path (Form-F.Merge x.now branches) t answer.Nil
  merge_nil x branches scoped on e clock sc is form =
      nil_gives s (Variable x.now sc t) (after_on x.now branches clock sc) (of_scope s path scope (asked_of.Variable x) t answer.Nil scoped on e clock sc is)

  pub merge_absent : (x : Bor Name) (branches : List MergeBranch) → IsScopeOfPath s path scope → AnswerAt s scope (asked_of.Variable x) t answer.Absent → FormGives s path (Form-F.Merge x.now branches) t answer.Absent
  merge_absent x branches scoped on e clock sc is form =
      absent_gives s (Variable x.now sc t) (after_on x.now branches clock sc) (of_scope s path scope (asked_of.Variable x) t answer.Absent scoped on e clock sc is)
