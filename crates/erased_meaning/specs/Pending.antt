-- What rules about automata come to.
use Rattle.std.specs.Prelude.{◌≡◌, ℕ, Bool, false, List, Option, Some, None, slice_get}
use Rattle.hept_ast.specs.Scopes.{Scope, In_state, block_of}
use Rattle.hept_ast.specs.Meaning.{Active, Restarted, Left_state, Rule, Says, on_state, previous, taken, from_pending, weak_of}
use Rattle.hept_ast.specs.Meaning as meaning
use Rattle.hept_ast.specs.declared.tree.State.{State}
use Rattle.answer_table.specs.declared.paths.Step.{Step}
use Rattle.answer_table.specs.declared.questions.Answer.{Answer}
use Rattle.answer_table.specs.declared.answers.Answers.{Answers}
use Rattle.answer_table.specs.Parts.{states_at}
use Rattle.answer_table.specs.Things.{In}
use Rattle.answer_table.specs.Tables.{RuleGives, setting_in, thing_in}

-- where a path leads to a scope that has an automaton of these states, this is what a rule about it comes to
abbrev pub AutomatonGives : Answers → List Step → (equation : ℕ) → List State → (Scope → Rule) → Answer → Type 0
AutomatonGives s path i states rule_of a = (scope : Scope) → thing_in s path ≡ In scope → states_at (block_of scope) i ≡ Some states → RuleGives s (rule_of scope) a

-- the active state, by the state that is pending with its mark
abbrev pub StrongGives : Answers → List Step → (equation : ℕ) → List State → ℕ × Bool → ℕ → Answer → Type 0
StrongGives s path i states pending t a = AutomatonGives s path i states (λ scope. from_pending (setting_in s) scope states t pending.0 pending.1) a

-- the state that is left pending, by the active state
abbrev pub WeakGives : Answers → List Step → (equation : ℕ) → List State → ℕ → ℕ → Answer → Type 0
WeakGives s path i states k t a =
    AutomatonGives s path i states (λ scope. taken (setting_in s) (weak_of (setting_in s) (slice_get states k)) states (meaning.State_at k false) (In_state scope states k) t) a

-- what follows the state that is pending, where there is one
abbrev pub after_pending : Option (ℕ × Bool) → (ℕ → Bool → Rule) → Rule
after_pending None go = Says meaning.Absent
after_pending (Some pending) go = go pending.0 pending.1

-- the state that is pending at an instant in an automaton of the scope that a path leads to
abbrev pub IsPending : Answers → List Step → (equation : ℕ) → ℕ → Option (ℕ × Bool) → Type 0
IsPending s path i t o = (scope : Scope) (states : List State) (go : ℕ → Bool → Rule) (a : Answer) → thing_in s path ≡ In scope → states_at (block_of scope) i ≡ Some states →
    RuleGives s (after_pending o go) a → RuleGives s (previous (λ p. Active scope p) (λ p. Restarted scope p) (λ p. on_state (Left_state scope states p) go) (go 0 false) t) a
