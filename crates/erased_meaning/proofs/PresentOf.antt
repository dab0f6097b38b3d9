-- Whether what is on a clock is present.
use Rattle.std.proofs.Common.{Result, IfOk, ◌≡◌, ℕ, Bool, true, false, List, Some, if◌then◌else◌, sym, ap, subst, ◌∙◌}
use Rattle.std.specs.Borrow.{Bor}
use Rattle.std.proofs.lemmas.Result.{IfOk-weaker}
use Rattle.hept_ast.specs.Texts.{Name}
use Rattle.hept_ast.specs.Scopes.{Clock, Scope, Text, text_of}
use Rattle.hept_ast.specs.Meaning.{Active, Present, Rule, Says, rule, steps_hold}
use Rattle.hept_ast.specs.Meaning as meaning
use Rattle.hept_ast.specs.Outputs.{said}
use Rattle.hept_ast.specs.ClockMaps.{clock_in}
use Rattle.hept_ast.specs.declared.tree.Expr.{Expr}
use Rattle.hept_ast.specs.declared.tree.Node.{Node}
use Rattle.hept_ast.specs.declared.tree.Block.{Block}
use Rattle.answer_table.specs.declared.paths.Held.{Held}
use Rattle.answer_table.specs.declared.paths.Step.{Step}
use Rattle.answer_table.specs.declared.questions.Asked.TheVariants as asked_of
use Rattle.answer_table.specs.declared.questions.Stop.{Stop}
use Rattle.answer_table.specs.declared.questions.Answer.{Answer}
use Rattle.answer_table.specs.declared.questions.Answer.TheVariants as answer
use Rattle.answer_table.specs.declared.answers.Answers.{Answers}
use Rattle.answer_table.specs.Things.{Thing, In}
use Rattle.answer_table.specs.Asking.{question_of}
use Rattle.answer_table.specs.Tables.{AnswerAt, IsExpressionAt, IsOnClock, IsScopeAt, IsScopeOfPath, RuleGives, held_clock, setting_in, thing_in}
use Rattle.erased_meaning.specs.Rules.{PresentGives, StepsHold, Tests}
use Rattle.erased_meaning.proofs.ExpressionsOf.{from_rule}

module _ (s : Answers) (path : List Step) (t : ℕ) where
  -- what follows the test whether the scope is active
  abbrev after_active : Clock → Scope → Bool → Rule
  after_active clock scope active = if active then steps_hold (setting_in s) clock scope t else Says (meaning.Is false)

  active_asked : (scope : Scope) → thing_in s path ≡ In scope → question_of (setting_in s) (thing_in s path) asked_of.Active t ≡ Some (Active scope t)
  active_asked scope is = ap (λ (thing : Thing). question_of (setting_in s) thing asked_of.Active t) is

  pub active_holds : (clock : Clock) (b : Bool) → Tests s path asked_of.Active t true → StepsHold s path clock t b → PresentGives s path clock t (answer.Is b)
  active_holds clock b active holds scope is = active (Active scope t) (after_active clock scope) (answer.Is b) (active_asked scope is) (holds scope is)

  pub not_active : (clock : Clock) → Tests s path asked_of.Active t false → PresentGives s path clock t (answer.Is false)
  not_active clock inactive scope is = inactive (Active scope t) (after_active clock scope) (answer.Is false) (active_asked scope is) said

  -- of an expression
  present_at : (scope_path : List Step) (e : Expr) (clock : Clock) (r : Answer) → IsExpressionAt s path e → IsScopeOfPath s path scope_path → IsOnClock s path clock →
      PresentGives s scope_path clock t r → AnswerAt s path asked_of.Present t r
  present_at scope_path e clock r at scoped on gives =
      let (k, scope, is) = at in
      from_rule s path asked_of.Present t (Present k scope t) r (ap (λ (thing : Thing). question_of (setting_in s) thing asked_of.Present t) is)
      (subst (λ (c : Clock). RuleGives s (rule (setting_in s) (Present c scope t)) r) (sym (on e k scope is)) (gives scope (scoped e k scope is)))

  pub present_through : (around given : List Step) (e : Expr) (clock steps : List Held) (r : Result Answer Stop) → IsExpressionAt s path e → IsScopeOfPath s path around → IsOnClock s path (held_clock clock) →
      given ≡ around → steps ≡ clock → IfOk r (PresentGives s given (held_clock steps) t) → IfOk r (AnswerAt s path asked_of.Present t)
  present_through around given e clock steps r at scoped on same held gives =
      IfOk-weaker r (PresentGives s given (held_clock steps) t) (AnswerAt s path asked_of.Present t)
      (λ answer there. present_at given e (held_clock steps) answer at (subst (λ (p : List Step). IsScopeOfPath s path p) (sym same) scoped)
      (subst (λ (k : List Held). IsOnClock s path (held_clock k)) (sym held) on) there) gives

  -- of a variable
  pub present_of_at : (x : Bor Name) (number : ℕ) (node : Node) (block : Block) (clock : Clock) (r : Answer) → IsScopeAt s path number node block →
      clock ≡ clock_in s.accepted.now.clocks number x.now → PresentGives s path clock t r → AnswerAt s path (asked_of.PresentOf x) t r
  present_of_at x number node block clock r at same gives =
      let words : meaning.clock_in (setting_in s) (text_of at.scope) x.now ≡ clock = ap (λ (text : Text). meaning.clock_in (setting_in s) text x.now) at.words ∙ sym same in
      from_rule s path (asked_of.PresentOf x) t (Present (meaning.clock_in (setting_in s) (text_of at.scope) x.now) at.scope t) r
      (ap (λ (thing : Thing). question_of (setting_in s) thing (asked_of.PresentOf x) t) at.is)
      (subst (λ (c : Clock). RuleGives s (rule (setting_in s) (Present c at.scope t)) r) (sym words) (gives at.scope at.is))
