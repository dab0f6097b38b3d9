-- Which branches are active, and which bodies and states are restarted.
use Rattle.std.proofs.Common.{◌≡◌, ℕ, Bool, true, false, List, [], ◌∷◌, ◌++◌, Option, Some, if◌then◌else◌, length, ◌+◌, refl, sym, ap, subst, ◌∙◌}
use Rattle.hept_ast.specs.Texts.{tag_value}
use Rattle.hept_ast.specs.Scopes.{Scope, block_of}
use Rattle.hept_ast.specs.Meaning.{Gives, Active_state, Restarted, Rule, Says, Asks, test, active_rule, restarted_rule, is_marked, is_true, is_value}
use Rattle.hept_ast.specs.Meaning as meaning
use Rattle.hept_ast.specs.Outputs.{said, asked}
use Rattle.hept_ast.specs.declared.tree.Expr.{Expr}
use Rattle.hept_ast.specs.declared.tree.Node.{Node}
use Rattle.hept_ast.specs.declared.tree.Block.{Block}
use Rattle.hept_ast.specs.declared.tree.Branch.{Branch}
use Rattle.std.specs.Borrow.{Bor}
use Rattle.answer_table.specs.declared.paths.Step.{Step}
use Rattle.answer_table.specs.declared.paths.Step.TheVariants as way
use Rattle.answer_table.specs.declared.questions.Asked.TheVariants as asked_of
use Rattle.answer_table.specs.declared.questions.Answer.{Answer}
use Rattle.answer_table.specs.declared.questions.Answer.TheVariants as answer
use Rattle.answer_table.specs.declared.answers.Answers.{Answers}
use Rattle.answer_table.specs.Parts.{branch_at}
use Rattle.answer_table.specs.Things.{Thing, In, part, base_thing}
use Rattle.answer_table.specs.Asking.{HasAnswer, answer_of, question_of}
use Rattle.answer_table.specs.Tables.{AnswerAt, Gets, IsScopeAt, IsScopeOfPath, RuleGives, setting_in, thing_in}
use Rattle.erased_meaning.specs.Rules.{ScopeRuleGives, Tests}
use Rattle.answer_table.proofs.Shown.{same_in, same_some}
use Rattle.erased_meaning.proofs.Following.{answer_gives, asked_further}
use Rattle.erased_meaning.proofs.ScopeSteps.{IsBranchOf, IsBodyOf, IsStateOf, IsCalledBy, branch_step, body_step, state_step, callee_step}
use Rattle.erased_meaning.proofs.ActiveOf.{answer_of_thing, asked_states, further, restarted_here}

module _ (s : Answers) (outer : List Step) (t : ℕ) where
  -- what an expression on the base clock gives, which a step from a scope leads to
  pub base_gets : (step : Step) (z : Scope) (e : Expr) (o : Option Expr) (a : Answer) → thing_in s outer ≡ In z → part (setting_in s) (In z) step ≡ base_thing z o → o ≡ Some e →
      AnswerAt s (outer ++ step ∷ []) asked_of.Gives t a → Gets s (Gives e [] z t) a
  base_gets step z e o a is leads found h =
      subst (λ (thing : Thing). HasAnswer s.accepted.now s.rows.now (question_of (setting_in s) thing asked_of.Gives t) (answer_of a))
      (ap (λ (thing : Thing). part (setting_in s) thing step) is ∙ leads ∙ ap (λ (x : Option Expr). base_thing z x) found)
      (asked_further s outer step asked_of.Gives t a h)

  pub branch_gives : (i j number : ℕ) (node : Bor Node) (block : Bor Block) (b : Bor Branch) (v : Answer) (holds : Bool) → IsScopeAt s outer number node.now block.now →
      branch_at block.now i j ≡ Some b.now → AnswerAt s (outer ++ way.On i ∷ []) asked_of.Gives t v → holds ≡ is_value (tag_value (setting_in s).types b.now.tag) (answer_of v) →
      ScopeRuleGives s (outer ++ way.Branch i j ∷ []) (λ sc. active_rule (setting_in s) sc t) (answer.Is holds)
  branch_gives i j number node block b v holds at chosen h same sc is =
      let of : IsBranchOf (thing_in s outer) i j sc = branch_step (setting_in s) sc (thing_in s outer) i j (further s outer t (way.Branch i j) sc is) in
      let scope_is : at.scope ≡ of.outer = same_in _ _ (sym at.is ∙ of.from) in
      let block_is : block.now ≡ block_of of.outer = sym at.own ∙ ap (λ (z : Scope). block_of z) scope_is in
      let branch_is : b.now ≡ of.branch = same_some _ _ (sym chosen ∙ ap (λ (x : Block). branch_at x i j) block_is ∙ of.found) in
      subst (λ (x : Scope). RuleGives s (active_rule (setting_in s) x t) (answer.Is holds)) (sym of.is)
      (asked (base_gets (way.On i) of.outer of.on _ v of.from refl of.chosen h)
      (subst (λ (x : Bool). RuleGives s (Says (meaning.Is x)) (answer.Is holds))
      (same ∙ ap (λ (x : Branch). is_value (tag_value (setting_in s).types x.tag) (answer_of v)) branch_is) said))

  asked_restarted : (z : Scope) → thing_in s outer ≡ In z → question_of (setting_in s) (thing_in s outer) asked_of.Restarted t ≡ Some (Restarted z t)
  asked_restarted z is = ap (λ (thing : Thing). question_of (setting_in s) thing asked_of.Restarted t) is

  abbrev after_outer : Rule → Bool → Rule
  after_outer rule again = if again then Says (meaning.Is true) else rule

  abbrev rest_of_body : Expr → Scope → Rule
  rest_of_body every z = test (Gives every [] z t) (λ b. Says (meaning.Is b))

  abbrev rest_of_state : ℕ → Scope → meaning.Question → Rule
  rest_of_state k z q = Asks q (λ a. Says (meaning.Is (is_marked k a)))

  pub body_with_outer : (i : ℕ) → Tests s outer asked_of.Restarted t true → ScopeRuleGives s (outer ++ way.Body i ∷ []) (λ sc. restarted_rule (setting_in s) sc t) (answer.Is true)
  body_with_outer i h sc is =
      let of : IsBodyOf (thing_in s outer) i sc = body_step (setting_in s) sc (thing_in s outer) i (further s outer t (way.Body i) sc is) in
      subst (λ (x : Scope). RuleGives s (restarted_rule (setting_in s) x t) (answer.Is true)) (sym of.is)
      (h (Restarted of.outer t) (after_outer (rest_of_body of.every of.outer)) (answer.Is true) (asked_restarted of.outer of.from) said)

  pub body_by_condition : (i : ℕ) (a : Answer) → Tests s outer asked_of.Restarted t false → AnswerAt s (outer ++ way.Every i ∷ []) asked_of.Gives t a →
      ScopeRuleGives s (outer ++ way.Body i ∷ []) (λ sc. restarted_rule (setting_in s) sc t) (answer.Is (is_true (answer_of a)))
  body_by_condition i a h gives sc is =
      let of : IsBodyOf (thing_in s outer) i sc = body_step (setting_in s) sc (thing_in s outer) i (further s outer t (way.Body i) sc is) in
      subst (λ (x : Scope). RuleGives s (restarted_rule (setting_in s) x t) (answer.Is (is_true (answer_of a)))) (sym of.is)
      (h (Restarted of.outer t) (after_outer (rest_of_body of.every of.outer)) (answer.Is (is_true (answer_of a))) (asked_restarted of.outer of.from)
      (asked (base_gets (way.Every i) of.outer of.every _ a of.from refl of.condition gives) said))

  pub state_with_outer : (i k : ℕ) → Tests s outer asked_of.Restarted t true → ScopeRuleGives s (outer ++ way.State i k ∷ []) (λ sc. restarted_rule (setting_in s) sc t) (answer.Is true)
  state_with_outer i k h sc is =
      let of : IsStateOf (thing_in s outer) i k sc = state_step (setting_in s) sc (thing_in s outer) i k (further s outer t (way.State i k) sc is) in
      subst (λ (x : Scope). RuleGives s (restarted_rule (setting_in s) x t) (answer.Is true)) (sym of.is)
      (h (Restarted of.outer t) (after_outer (rest_of_state k of.outer (Active_state of.outer of.states t))) (answer.Is true) (asked_restarted of.outer of.from) said)

  pub state_by_mark : (i k : ℕ) (a : Answer) → Tests s outer asked_of.Restarted t false → AnswerAt s outer (asked_of.ActiveState i) t a →
      ScopeRuleGives s (outer ++ way.State i k ∷ []) (λ sc. restarted_rule (setting_in s) sc t) (answer.Is (is_marked k (answer_of a)))
  state_by_mark i k a h active sc is =
      let of : IsStateOf (thing_in s outer) i k sc = state_step (setting_in s) sc (thing_in s outer) i k (further s outer t (way.State i k) sc is) in
      subst (λ (x : Scope). RuleGives s (restarted_rule (setting_in s) x t) (answer.Is (is_marked k (answer_of a)))) (sym of.is)
      (h (Restarted of.outer t) (after_outer (rest_of_state k of.outer (Active_state of.outer of.states t))) (answer.Is (is_marked k (answer_of a))) (asked_restarted of.outer of.from)
      (asked (asked_states s outer t i of.outer of.states a of.from of.found active) said))

module _ (s : Answers) (path outer : List Step) (t : ℕ) (number : ℕ) (node : Bor Node) (block : Bor Block) where
  -- the rule of the scope that one step more leads to answers
  pub restarted_part : (step : Step) (r : Answer) → (path ≡ outer ++ step ∷ []) × (length outer + 1 ≡ length path) → IsScopeAt s path number node.now block.now →
      ScopeRuleGives s (outer ++ step ∷ []) (λ sc. restarted_rule (setting_in s) sc t) r → AnswerAt s path asked_of.Restarted t r
  restarted_part step r split at h =
      restarted_here s path t r number node.now block.now at (subst (λ (p : List Step). ScopeRuleGives s p (λ sc. restarted_rule (setting_in s) sc t) r) (sym split.0) h)

  pub branch_restarted : (i j : ℕ) (r : Answer) → (path ≡ outer ++ way.Branch i j ∷ []) × (length outer + 1 ≡ length path) → IsScopeAt s path number node.now block.now →
      AnswerAt s outer asked_of.Restarted t r → AnswerAt s path asked_of.Restarted t r
  branch_restarted i j r split at h =
      restarted_part (way.Branch i j) r split at
      (λ sc is.
      let of : IsBranchOf (thing_in s outer) i j sc = branch_step (setting_in s) sc (thing_in s outer) i j (further s outer t (way.Branch i j) sc is) in
      subst (λ (x : Scope). RuleGives s (restarted_rule (setting_in s) x t) r) (sym of.is)
      (answer_gives s (Restarted of.outer t) r (answer_of_thing s outer (In of.outer) asked_of.Restarted t r of.from h)))

  pub callee_restarted : (caller : List Step) (r : Answer) → (path ≡ outer ++ way.Callee ∷ []) × (length outer + 1 ≡ length path) → IsScopeAt s path number node.now block.now →
      IsScopeOfPath s outer caller → AnswerAt s caller asked_of.Restarted t r → AnswerAt s path asked_of.Restarted t r
  callee_restarted caller r split at scoped h =
      restarted_part way.Callee r split at
      (λ sc is.
      let of : IsCalledBy (thing_in s outer) sc = callee_step (setting_in s) sc (thing_in s outer) (further s outer t way.Callee sc is) in
      subst (λ (x : Scope). RuleGives s (restarted_rule (setting_in s) x t) r) (sym of.is)
      (answer_gives s (Restarted of.outer t) r (answer_of_thing s caller (In of.outer) asked_of.Restarted t r (scoped of.expr of.clock of.outer of.from) h)))
