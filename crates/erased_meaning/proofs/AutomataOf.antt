-- The states of automata, from what is asked of them.
use Rattle.std.proofs.Common.{◌≡◌, ℕ, Bool, true, false, List, Option, Some, None, slice_get, if◌then◌else◌, ap, subst, ◌∙◌}
use Rattle.std.specs.Option.{option_map}
use Rattle.hept_ast.specs.Scopes.{Scope, In_state, block_of}
use Rattle.hept_ast.specs.Meaning.{Active, Restarted, Active_state, Left_state, Rule, Says, on_state, previous, taken, from_pending, weak_of, active_state_rule, left_state_rule}
use Rattle.hept_ast.specs.Meaning as meaning
use Rattle.hept_ast.specs.Outputs.{said, asked}
use Rattle.hept_ast.specs.declared.tree.Node.{Node}
use Rattle.hept_ast.specs.declared.tree.Block.{Block}
use Rattle.hept_ast.specs.declared.tree.State.{State}
use Rattle.std.specs.Borrow.{Bor}
use Rattle.answer_table.specs.declared.paths.Step.{Step}
use Rattle.answer_table.specs.declared.questions.Asked.TheVariants as asked_of
use Rattle.answer_table.specs.declared.questions.Answer.{Answer}
use Rattle.answer_table.specs.declared.questions.Answer.TheVariants as answer
use Rattle.answer_table.specs.declared.answers.Answers.{Answers}
use Rattle.answer_table.specs.Parts.{states_at}
use Rattle.answer_table.specs.Things.{Thing, In}
use Rattle.answer_table.specs.Asking.{HasAnswer, answer_of, question_of}
use Rattle.answer_table.specs.Tables.{AnswerAt, Gets, IsScopeAt, RuleGives, setting_in, thing_in}
use Rattle.erased_meaning.specs.Rules.{GoesTo, Tests, Went}
use Rattle.erased_meaning.specs.Pending.{IsPending, StrongGives, WeakGives}
use Rattle.erased_meaning.proofs.ExpressionsOf.{from_rule}
use Rattle.erased_meaning.proofs.ActiveOf.{answer_of_thing, asked_states}

module _ (s : Answers) (path : List Step) (i t : ℕ) where
  -- ---- the state that is pending

  asked_left : (z : Scope) (states : List State) (p : ℕ) (a : Answer) → thing_in s path ≡ In z → states_at (block_of z) i ≡ Some states → AnswerAt s path (asked_of.LeftState i) p a →
      Gets s (Left_state z states p) a
  asked_left z states p a is found h =
      subst (λ (o : Option (List State)). HasAnswer s.accepted.now s.rows.now (option_map (λ q. Left_state z q p) o) (answer_of a)) found
      (answer_of_thing s path (In z) (asked_of.LeftState i) p a is h)

  search_of : (o : Option ℕ) (z : Scope) → Went s path asked_of.Active path t o → thing_in s path ≡ In z → GoesTo s (λ p. Active z p) (λ p. Restarted z p) t o
  search_of o z went is =
      went (λ p. Active z p) (λ p. Restarted z p)
      (λ p. ap (λ (thing : Thing). question_of (setting_in s) thing asked_of.Active p) is)
      (λ p. ap (λ (thing : Thing). question_of (setting_in s) thing asked_of.Restarted p) is)

  pub pending_first : Went s path asked_of.Active path t None → IsPending s path i t (Some (0, false))
  pending_first went z states go a is found h = search_of None z went is (λ p. on_state (Left_state z states p) go) (go 0 false) a h

  pub pending_left : (p k : ℕ) (mark : Bool) → Went s path asked_of.Active path t (Some p) → AnswerAt s path (asked_of.LeftState i) p (answer.StateAt k mark) → IsPending s path i t (Some (k, mark))
  pending_left p k mark went left z states go a is found h =
      search_of (Some p) z went is (λ n. on_state (Left_state z states n) go) (go 0 false) a (asked (asked_left z states p (answer.StateAt k mark) is found left) h)

  pub pending_absent : (p : ℕ) → Went s path asked_of.Active path t (Some p) → AnswerAt s path (asked_of.LeftState i) p answer.Absent → IsPending s path i t None
  pending_absent p went left z states go a is found h =
      search_of (Some p) z went is (λ n. on_state (Left_state z states n) go) (go 0 false) a (asked (asked_left z states p answer.Absent is found left) h)

  -- ---- the questions of an automaton

  module _ (number : ℕ) (node : Bor Node) (block : Bor Block) (states : Bor (List State)) (at : IsScopeAt s path number node.now block.now) (got : states_at block.now i ≡ Some states.now) where
    found_at : states_at (block_of at.scope) i ≡ Some states.now
    found_at = ap (λ (b : Block). states_at b i) at.own ∙ got

    by_active_rule : (r : Answer) → RuleGives s (active_state_rule (setting_in s) at.scope states.now t) r → AnswerAt s path (asked_of.ActiveState i) t r
    by_active_rule r h =
        from_rule s path (asked_of.ActiveState i) t (Active_state at.scope states.now t) r
        (ap (λ (thing : Thing). question_of (setting_in s) thing (asked_of.ActiveState i) t) at.is ∙ ap (λ (o : Option (List State)). option_map (λ q. Active_state at.scope q t) o) found_at) h

    by_left_rule : (r : Answer) → RuleGives s (left_state_rule (setting_in s) at.scope states.now t) r → AnswerAt s path (asked_of.LeftState i) t r
    by_left_rule r h =
        from_rule s path (asked_of.LeftState i) t (Left_state at.scope states.now t) r
        (ap (λ (thing : Thing). question_of (setting_in s) thing (asked_of.LeftState i) t) at.is ∙ ap (λ (o : Option (List State)). option_map (λ q. Left_state at.scope q t) o) found_at) h

    -- what follows where the scope is active
    abbrev where_active : Rule
    where_active =
        previous (λ p. Active at.scope p) (λ p. Restarted at.scope p) (λ p. on_state (Left_state at.scope states.now p) (from_pending (setting_in s) at.scope states.now t))
        (from_pending (setting_in s) at.scope states.now t 0 false) t

    abbrev if_active : Bool → Rule
    if_active here = if here then where_active else Says meaning.Absent

    asked_active : question_of (setting_in s) (thing_in s path) asked_of.Active t ≡ Some (Active at.scope t)
    asked_active = ap (λ (thing : Thing). question_of (setting_in s) thing asked_of.Active t) at.is

    pub state_absent : Tests s path asked_of.Active t false → AnswerAt s path (asked_of.ActiveState i) t answer.Absent
    state_absent h = by_active_rule answer.Absent (h (Active at.scope t) if_active answer.Absent asked_active said)

    pub state_pending : (r : Answer) (pending : ℕ × Bool) → Tests s path asked_of.Active t true → IsPending s path i t (Some pending) → StrongGives s path i states.now pending t r →
        AnswerAt s path (asked_of.ActiveState i) t r
    state_pending r pending h waits strong =
        by_active_rule r (h (Active at.scope t) if_active r asked_active
        (waits at.scope states.now (from_pending (setting_in s) at.scope states.now t) r at.is found_at (strong at.scope at.is found_at)))

    pub state_none : Tests s path asked_of.Active t true → IsPending s path i t None → AnswerAt s path (asked_of.ActiveState i) t answer.Absent
    state_none h waits =
        by_active_rule answer.Absent (h (Active at.scope t) if_active answer.Absent asked_active
        (waits at.scope states.now (from_pending (setting_in s) at.scope states.now t) answer.Absent at.is found_at said))

    -- what follows the active state
    abbrev after_state : ℕ → Bool → Rule
    after_state k mark = taken (setting_in s) (weak_of (setting_in s) (slice_get states.now k)) states.now (meaning.State_at k false) (In_state at.scope states.now k) t

    pub left_by_weak : (r : Answer) (k : ℕ) (mark : Bool) → AnswerAt s path (asked_of.ActiveState i) t (answer.StateAt k mark) → WeakGives s path i states.now k t r → AnswerAt s path (asked_of.LeftState i) t r
    left_by_weak r k mark active weak =
        by_left_rule r (asked (asked_states s path t i at.scope states.now (answer.StateAt k mark) at.is found_at active) (weak at.scope at.is found_at))

    pub left_absent : AnswerAt s path (asked_of.ActiveState i) t answer.Absent → AnswerAt s path (asked_of.LeftState i) t answer.Absent
    left_absent active = by_left_rule answer.Absent (asked (asked_states s path t i at.scope states.now answer.Absent at.is found_at active) said)
