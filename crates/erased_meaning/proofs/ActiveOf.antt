-- Which scopes are active, and which are restarted, from what the scopes and expressions around them answer.
use Rattle.std.proofs.Common.{◌≡◌, ℕ, true, false, List, [], ◌∷◌, ◌++◌, Option, Some, None, slice_get, length, ◌+◌, refl, sym, ap, subst, ◌∙◌}
use Rattle.std.specs.Option.{option_map}
use Rattle.hept_ast.specs.Scopes.{Scope, Top, Written, block_of}
use Rattle.hept_ast.specs.Meaning.{Present, Active, Restarted, Active_state, active_rule, restarted_rule, is_state}
use Rattle.hept_ast.specs.Outputs.{said, asked}
use Rattle.hept_ast.specs.declared.tree.Node.{Node}
use Rattle.hept_ast.specs.declared.tree.Block.{Block}
use Rattle.hept_ast.specs.declared.tree.State.{State}
use Rattle.std.specs.Borrow.{Bor}
use Rattle.answer_table.specs.declared.paths.Step.{Step}
use Rattle.answer_table.specs.declared.paths.Step.TheVariants as way
use Rattle.answer_table.specs.declared.questions.Asked.{Asked}
use Rattle.answer_table.specs.declared.questions.Asked.TheVariants as asked_of
use Rattle.answer_table.specs.declared.questions.Answer.{Answer}
use Rattle.answer_table.specs.declared.questions.Answer.TheVariants as answer
use Rattle.answer_table.specs.declared.answers.Answers.{Answers}
use Rattle.answer_table.specs.Parts.{states_at}
use Rattle.answer_table.specs.Things.{Thing, In, At, part, body_of}
use Rattle.answer_table.specs.Asking.{HasAnswer, answer_of, question_of}
use Rattle.answer_table.specs.Tables.{AnswerAt, Gets, IsScopeAt, RuleGives, setting_in, thing_in}
use Rattle.erased_meaning.specs.Rules.{ScopeRuleGives}
use Rattle.answer_table.proofs.Shown.{same_in, thing_more}
use Rattle.erased_meaning.proofs.Following.{answer_gives}
use Rattle.erased_meaning.proofs.ExpressionsOf.{from_rule}
use Rattle.erased_meaning.proofs.ScopeSteps.{IsBodyOf, IsStateOf, IsCalledBy, body_step, state_step, callee_step}

-- what is asked of this thing
pub answer_of_thing : (s : Answers) (path : List Step) (thing : Thing) (what : Asked) (t : ℕ) (r : Answer) → thing_in s path ≡ thing → AnswerAt s path what t r →
    HasAnswer s.accepted.now s.rows.now (question_of (setting_in s) thing what t) (answer_of r)
answer_of_thing s path thing what t r is h = subst (λ (x : Thing). HasAnswer s.accepted.now s.rows.now (question_of (setting_in s) x what t) (answer_of r)) is h

-- the rule of each scope that a path leads to answers
pub active_here : (s : Answers) (path : List Step) (t : ℕ) (r : Answer) (number : ℕ) (node : Node) (block : Block) → IsScopeAt s path number node block →
    ScopeRuleGives s path (λ sc. active_rule (setting_in s) sc t) r → AnswerAt s path asked_of.Active t r
active_here s path t r number node block at h =
    from_rule s path asked_of.Active t (Active at.scope t) r (ap (λ (thing : Thing). question_of (setting_in s) thing asked_of.Active t) at.is) (h at.scope at.is)

pub restarted_here : (s : Answers) (path : List Step) (t : ℕ) (r : Answer) (number : ℕ) (node : Node) (block : Block) → IsScopeAt s path number node block →
    ScopeRuleGives s path (λ sc. restarted_rule (setting_in s) sc t) r → AnswerAt s path asked_of.Restarted t r
restarted_here s path t r number node block at h =
    from_rule s path asked_of.Restarted t (Restarted at.scope t) r (ap (λ (thing : Thing). question_of (setting_in s) thing asked_of.Restarted t) at.is) (h at.scope at.is)

module _ (s : Answers) (outer : List Step) (t : ℕ) where
  pub further : (step : Step) (sc : Scope) → thing_in s (outer ++ step ∷ []) ≡ In sc → part (setting_in s) (thing_in s outer) step ≡ In sc
  further step sc is = sym (thing_more s.accepted.now s.top _ outer step refl) ∙ is

  -- ---- active

  active_body : (i : ℕ) (r : Answer) → AnswerAt s outer asked_of.Active t r → ScopeRuleGives s (outer ++ way.Body i ∷ []) (λ sc. active_rule (setting_in s) sc t) r
  active_body i r h sc is =
      let b : IsBodyOf (thing_in s outer) i sc = body_step (setting_in s) sc (thing_in s outer) i (further (way.Body i) sc is) in
      subst (λ (x : Scope). RuleGives s (active_rule (setting_in s) x t) r) (sym b.is)
      (answer_gives s (Active b.outer t) r (answer_of_thing s outer (In b.outer) asked_of.Active t r b.from h))

  active_callee : (r : Answer) → AnswerAt s outer asked_of.Present t r → ScopeRuleGives s (outer ++ way.Callee ∷ []) (λ sc. active_rule (setting_in s) sc t) r
  active_callee r h sc is =
      let b : IsCalledBy (thing_in s outer) sc = callee_step (setting_in s) sc (thing_in s outer) (further way.Callee sc is) in
      subst (λ (x : Scope). RuleGives s (active_rule (setting_in s) x t) r) (sym b.is)
      (answer_gives s (Present b.clock b.outer t) r (answer_of_thing s outer (At b.expr b.clock b.outer) asked_of.Present t r b.from h))

  -- the automaton of a state
  pub asked_states : (i : ℕ) (z : Scope) (states : List State) (a : Answer) → thing_in s outer ≡ In z → states_at (block_of z) i ≡ Some states →
      AnswerAt s outer (asked_of.ActiveState i) t a → Gets s (Active_state z states t) a
  asked_states i z states a is found h =
      subst (λ (o : Option (List State)). HasAnswer s.accepted.now s.rows.now (option_map (λ q. Active_state z q t) o) (answer_of a)) found
      (answer_of_thing s outer (In z) (asked_of.ActiveState i) t a is h)

  active_in_state : (i k : ℕ) (a : Answer) → AnswerAt s outer (asked_of.ActiveState i) t a →
      ScopeRuleGives s (outer ++ way.State i k ∷ []) (λ sc. active_rule (setting_in s) sc t) (answer.Is (is_state k (answer_of a)))
  active_in_state i k a h sc is =
      let b : IsStateOf (thing_in s outer) i k sc = state_step (setting_in s) sc (thing_in s outer) i k (further (way.State i k) sc is) in
      subst (λ (x : Scope). RuleGives s (active_rule (setting_in s) x t) (answer.Is (is_state k (answer_of a)))) (sym b.is)
      (asked (asked_states i b.outer b.states a b.from b.found h) said)

module _ (s : Answers) (path outer : List Step) (t : ℕ) (number : ℕ) (node : Bor Node) (block : Bor Block) where
  -- the rule of the scope that one step more leads to answers
  pub active_part : (step : Step) (r : Answer) → (path ≡ outer ++ step ∷ []) × (length outer + 1 ≡ length path) → IsScopeAt s path number node.now block.now →
      ScopeRuleGives s (outer ++ step ∷ []) (λ sc. active_rule (setting_in s) sc t) r → AnswerAt s path asked_of.Active t r
  active_part step r split at h =
      active_here s path t r number node.now block.now at (subst (λ (p : List Step). ScopeRuleGives s p (λ sc. active_rule (setting_in s) sc t) r) (sym split.0) h)

  pub body_active : (i : ℕ) (r : Answer) → (path ≡ outer ++ way.Body i ∷ []) × (length outer + 1 ≡ length path) → IsScopeAt s path number node.now block.now →
      AnswerAt s outer asked_of.Active t r → AnswerAt s path asked_of.Active t r
  body_active i r split at h = active_part (way.Body i) r split at (active_body s outer t i r h)

  pub callee_active : (r : Answer) → (path ≡ outer ++ way.Callee ∷ []) × (length outer + 1 ≡ length path) → IsScopeAt s path number node.now block.now →
      AnswerAt s outer asked_of.Present t r → AnswerAt s path asked_of.Active t r
  callee_active r split at h = active_part way.Callee r split at (active_callee s outer t r h)

  pub state_active : (i k : ℕ) (a : Answer) → (path ≡ outer ++ way.State i k ∷ []) × (length outer + 1 ≡ length path) → IsScopeAt s path number node.now block.now →
      AnswerAt s outer (asked_of.ActiveState i) t a → AnswerAt s path asked_of.Active t (answer.Is (is_state k (answer_of a)))
  state_active i k a split at h = active_part (way.State i k) (answer.Is (is_state k (answer_of a))) split at (active_in_state s outer t i k a h)

-- ---- the chosen node

top_in : (number : ℕ) (o : Option Node) (sc : Scope) → body_of number o ≡ In sc → (node : Node) × (sc ≡ Top (Written number node))
top_in number None sc h = cc
top_in number (Some node) sc h = (node, sym (same_in _ _ h))

module _ (s : Answers) (t : ℕ) (number : ℕ) (node : Bor Node) (block : Bor Block) where
  pub top_active : (path : List Step) → path ≡ [] → IsScopeAt s path number node.now block.now → AnswerAt s path asked_of.Active t (answer.Is true)
  top_active path none at =
      active_here s path t (answer.Is true) number node.now block.now at
      (λ sc is.
      let (n, e) = top_in s.top (slice_get s.accepted.now.program.nodes s.top) sc (ap (λ (p : List Step). thing_in s p) (sym none) ∙ is) in
      subst (λ (x : Scope). RuleGives s (active_rule (setting_in s) x t) (answer.Is true)) (sym e) said)

  pub top_restarted : (path : List Step) → path ≡ [] → IsScopeAt s path number node.now block.now → AnswerAt s path asked_of.Restarted t (answer.Is false)
  top_restarted path none at =
      restarted_here s path t (answer.Is false) number node.now block.now at
      (λ sc is.
      let (n, e) = top_in s.top (slice_get s.accepted.now.program.nodes s.top) sc (ap (λ (p : List Step). thing_in s p) (sym none) ∙ is) in
      subst (λ (x : Scope). RuleGives s (restarted_rule (setting_in s) x t) (answer.Is false)) (sym e) said)
