-- What a table of answers holds.
use Rattle.std.specs.Prelude.{◌≡◌, ℕ, Bool, List, All, map}
use Rattle.hept_ast.specs.Texts.{Name}
use Rattle.hept_ast.specs.Scopes.{Clock, Scope, Written, declares, home}
use Rattle.hept_ast.specs.Meaning.{Question, Rule, Setting, clock_seen}
use Rattle.hept_ast.specs.declared.tree.Expr.{Expr}
use Rattle.hept_ast.specs.declared.tree.Node.{Node}
use Rattle.hept_ast.specs.declared.tree.Block.{Block}
use Rattle.answer_table.specs.declared.paths.Step.{Step}
use Rattle.answer_table.specs.declared.questions.Asked.{Asked}
use Rattle.answer_table.specs.declared.questions.Answer.{Answer}
use Rattle.answer_table.specs.declared.answers.Answers.{Answers}
use Rattle.answer_table.specs.declared.paths.Held.{Held}
use Rattle.answer_table.specs.Things.{IsScopeOf, Thing, In, At, setting_of, thing_at}
use Rattle.answer_table.specs.Asking.{Answered, IsKnown, IsRight, ComesTo, answer_of}

-- all answers are right
abbrev pub IsSound : Answers → Type 0
IsSound s = All (λ entries. All (IsRight s.accepted.now s.rows.now s.top) entries.items) s.known.items

-- the same run
abbrev pub thing_in : Answers → List Step → Thing
thing_in s path = thing_at s.accepted.now s.top path

-- the answer to what is asked at the end of a path
abbrev pub AnswerAt : Answers → List Step → Asked → ℕ → Answer → Type 0
AnswerAt s path what t a = Answered s.accepted.now s.rows.now (thing_in s path) what t a

-- what a rule comes to
abbrev pub RuleGives : Answers → Rule → Answer → Type 0
RuleGives s r a = ComesTo s.accepted.now s.rows.now r (answer_of a)

abbrev pub setting_in : Answers → Setting
setting_in s = setting_of s.accepted.now

-- a question has this answer
abbrev pub Gets : Answers → Question → Answer → Type 0
Gets s q a = IsKnown s.accepted.now s.rows.now q (answer_of a)

-- the second path leads to the scope of the expression that the first leads to
abbrev pub IsScopeOfPath : Answers → List Step → List Step → Type 0
IsScopeOfPath s path scope_path = (e : Expr) (clock : Clock) (scope : Scope) → thing_in s path ≡ At e clock scope → thing_in s scope_path ≡ In scope

-- a path leads to an expression
abbrev pub IsExpressionAt : Answers → List Step → Expr → Type 0
IsExpressionAt s path e = (clock : Clock) × (scope : Scope) × (thing_in s path ≡ At e clock scope)

-- a path leads to a scope of this text with this block
abbrev pub IsScopeAt : Answers → List Step → (number : ℕ) → Node → Block → Type 0
IsScopeAt s path number node block = IsScopeOf (thing_in s path) (Written number node) block

-- where a path leads to a scope, the scope itself declares the name exactly if b is true
abbrev pub Declares : Answers → List Step → Name → (b : Bool) → Type 0
Declares s path x b = (scope : Scope) → thing_in s path ≡ In scope → declares scope x ≡ b

-- where a path leads to a scope, the other leads to the scope that declares a name which is seen there
abbrev pub IsHomePath : Answers → List Step → Name → List Step → Type 0
IsHomePath s path x home_path = (scope : Scope) → thing_in s path ≡ In scope → thing_in s home_path ≡ In (home x scope)

abbrev pub held_clock : List Held → Clock
held_clock held = map (λ h. record { tag = h.tag.now; name = h.name.now }) held

-- where a path leads to a scope, a variable that is seen there has this clock
abbrev pub IsSeenOn : Answers → List Step → Name → Clock → Type 0
IsSeenOn s path x clock = (scope : Scope) → thing_in s path ≡ In scope → clock_seen (setting_in s) x scope ≡ clock

-- where a path leads to an expression, it is on this clock
abbrev pub IsOnClock : Answers → List Step → Clock → Type 0
IsOnClock s path clock = (e : Expr) (k : Clock) (scope : Scope) → thing_in s path ≡ At e k scope → k ≡ clock

-- two tables are about the same run
pub record IsSameRun (s u : Answers) : Type 0 where
  pub accepted : u.accepted ≡ s.accepted
  pub top : u.top ≡ s.top
  pub rows : u.rows ≡ s.rows
