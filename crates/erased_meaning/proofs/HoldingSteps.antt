-- Whether each step of a clock has its tag.
use Rattle.std.proofs.Common.{◌≡◌, ℕ, Bool, true, false, List, ◌∷◌, length, ◌<◌, ◌≤◌, ◌+◌, drop, get_or, if◌then◌else◌, sym, ap, subst, ◌∙◌}
use Rattle.std.proofs.lemmas.List.{drop_all, drop_more}
use Rattle.hept_ast.specs.Texts.{tag_value}
use Rattle.hept_ast.specs.Scopes.{Scope}
use Rattle.hept_ast.specs.Meaning.{Says, is_value, steps_hold}
use Rattle.hept_ast.specs.Meaning as meaning
use Rattle.hept_ast.specs.Outputs.{said, asked}
use Rattle.answer_table.specs.declared.paths.Held.{Held}
use Rattle.answer_table.specs.declared.paths.Step.{Step}
use Rattle.answer_table.specs.declared.questions.Asked.TheVariants as asked_of
use Rattle.answer_table.specs.declared.questions.Answer.{Answer}
use Rattle.answer_table.specs.declared.questions.Answer.TheVariants as answer
use Rattle.answer_table.specs.declared.answers.Answers.{Answers}
use Rattle.answer_table.specs.Things.{Thing, In}
use Rattle.answer_table.specs.Asking.{HasAnswer, answer_of, question_of}
use Rattle.answer_table.specs.Tables.{AnswerAt, RuleGives, held_clock, setting_in, thing_in}
use Rattle.erased_meaning.specs.Rules.{StepsHold}

-- what the steps from i on come to, the steps of the clock come to
abbrev pub HoldsFrom : Answers → List Step → List Held → ℕ → (i : ℕ) → Type 0
HoldsFrom s path clock t i = (at : Scope) (a : Answer) → thing_in s path ≡ In at → RuleGives s (steps_hold (setting_in s) (held_clock (drop i clock)) at t) a →
    RuleGives s (steps_hold (setting_in s) (held_clock clock) at t) a

module _ (s : Answers) (path : List Step) (t : ℕ) where
  -- the first of some steps
  one_step : (h : Held) (rest : List Held) (value a : Answer) (b : Bool) (at : Scope) → AnswerAt s path (asked_of.Variable h.name) t value → thing_in s path ≡ In at →
      is_value (tag_value (setting_in s).types h.tag.now) (answer_of value) ≡ b →
      RuleGives s (if b then steps_hold (setting_in s) (held_clock rest) at t else Says (meaning.Is false)) a → RuleGives s (steps_hold (setting_in s) (held_clock (h ∷ rest)) at t) a
  one_step h rest value a b at known is same next =
      asked (subst (λ (thing : Thing). HasAnswer s.accepted.now s.rows.now (question_of (setting_in s) thing (asked_of.Variable h.name) t) (answer_of value)) is known)
      (subst (λ (x : Bool). RuleGives s (if x then steps_hold (setting_in s) (held_clock rest) at t else Says (meaning.Is false)) a) (sym same) next)

  module _ (clock : List Held) (i : ℕ) (h : Held) (value : Answer) (within : i < length clock) (found : h ≡ get_or clock i h) (known : AnswerAt s path (asked_of.Variable h.name) t value) where
    rest_is : drop i clock ≡ h ∷ drop (i + 1) clock
    rest_is = drop_more clock i h within ∙ ap (λ (x : Held). x ∷ drop (i + 1) clock) (sym found)

    from_here : (a : Answer) (at : Scope) → RuleGives s (steps_hold (setting_in s) (held_clock (h ∷ drop (i + 1) clock)) at t) a → RuleGives s (steps_hold (setting_in s) (held_clock (drop i clock)) at t) a
    from_here a at holds = subst (λ (xs : List Held). RuleGives s (steps_hold (setting_in s) (held_clock xs) at t) a) (sym rest_is) holds

    pub step_fails : is_value (tag_value s.accepted.now.program.types h.tag.now) (answer_of value) ≡ false → HoldsFrom s path clock t i → StepsHold s path (held_clock clock) t false
    step_fails fails before at is = before at (answer.Is false) is (from_here (answer.Is false) at (one_step h (drop (i + 1) clock) value (answer.Is false) false at known is fails said))

    pub step_holds : is_value (tag_value s.accepted.now.program.types h.tag.now) (answer_of value) ≡ true → HoldsFrom s path clock t i → HoldsFrom s path clock t (i + 1)
    step_holds holds before at a is next = before at a is (from_here a at (one_step h (drop (i + 1) clock) value a true at known is holds next))

  pub all_hold : (clock : List Held) (i : ℕ) → length clock ≤ i → HoldsFrom s path clock t i → StepsHold s path (held_clock clock) t true
  all_hold clock i none before at is =
      before at (answer.Is true) is (subst (λ (xs : List Held). RuleGives s (steps_hold (setting_in s) (held_clock xs) at t) (answer.Is true)) (sym (drop_all i clock none)) said)
