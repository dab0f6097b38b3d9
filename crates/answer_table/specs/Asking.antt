-- What is asked of what a path leads to, and what is known of it.
use Rattle.std.specs.Prelude.{◌≡◌, ℕ, List, Option, Some, None, slice_get}
use Rattle.std.specs.Option.{option_map}
use Rattle.hept_ast.specs.Scopes.{Clock, Scope, block_of, text_of}
use Rattle.hept_ast.specs.Meaning.{Question, Gives, Output, Variable, Last, Defined, Defines, Present, Active, Restarted, Active_state, Left_state, Rule, Setting, clock_in}
use Rattle.hept_ast.specs.Meaning as meaning
use Rattle.hept_ast.specs.Outputs.{Knows, Follows}
use Rattle.hept_ast.specs.Stages.{ClockedProgram}
use Rattle.hept_ast.specs.declared.tree.Expr.{Expr}
use Rattle.answer_table.specs.declared.questions.Asked.{Asked}
use Rattle.answer_table.specs.declared.questions.Asked.TheVariants as asked
use Rattle.answer_table.specs.declared.questions.Answer.{Answer}
use Rattle.answer_table.specs.declared.questions.Answer.TheVariants as answer
use Rattle.answer_table.specs.declared.paths.Step.{Step}
use Rattle.answer_table.specs.declared.questions.Entry.{Entry}
use Rattle.answer_table.specs.Parts.{states_at}
use Rattle.answer_table.specs.Things.{Thing, In, At, Nowhere, setting_of, thing_at}

abbrev pub answer_of : Answer → meaning.Answer
answer_of answer.Absent = meaning.Absent
answer_of answer.Nil = meaning.Nil
answer_of (answer.Value v) = meaning.Value v
answer_of (answer.Is b) = meaning.Is b
answer_of (answer.StateAt k mark) = meaning.State_at k mark

-- the question of a scope
abbrev pub scope_question : Setting → Scope → Asked → ℕ → Option Question
scope_question w s (asked.Variable x) t = Some (Variable x.now s t)
scope_question w s (asked.Last x) t = Some (Last x.now s t)
scope_question w s (asked.Defined x) t = Some (Defined x.now s t)
scope_question w s (asked.Defines i x) t = option_map (λ e. Defines x.now e) (slice_get (block_of s).body i)
scope_question w s (asked.PresentOf x) t = Some (Present (clock_in w (text_of s) x.now) s t)
scope_question w s asked.Active t = Some (Active s t)
scope_question w s asked.Restarted t = Some (Restarted s t)
scope_question w s (asked.ActiveState i) t = option_map (λ states. Active_state s states t) (states_at (block_of s) i)
scope_question w s (asked.LeftState i) t = option_map (λ states. Left_state s states t) (states_at (block_of s) i)
scope_question w s _ t = None

-- the question of an expression on a clock in a scope
abbrev pub expression_question : Expr → Clock → Scope → Asked → ℕ → Option Question
expression_question e clock s asked.Gives t = Some (Gives e clock s t)
expression_question e clock s (asked.Output j) t = Some (Output e j clock s t)
expression_question e clock s asked.Present t = Some (Present clock s t)
expression_question e clock s _ t = None

abbrev pub question_of : Setting → Thing → Asked → ℕ → Option Question
question_of w (In s) asked t = scope_question w s asked t
question_of w (At e clock s) asked t = expression_question e clock s asked t
question_of w Nowhere asked t = None

-- what is known of a program on rows
abbrev pub IsKnown : ClockedProgram → List (List ℕ) → Question → meaning.Answer → Type 0
IsKnown c rows q a = Knows (setting_of c) rows q a

-- a question that there is has this answer
abbrev pub HasAnswer : ClockedProgram → List (List ℕ) → Option Question → meaning.Answer → Type 0
HasAnswer c rows None a = ⊥
HasAnswer c rows (Some q) a = IsKnown c rows q a

-- the answer to what is asked at the end of a path
abbrev pub Answered : ClockedProgram → List (List ℕ) → Thing → Asked → ℕ → Answer → Type 0
Answered c rows thing asked t a = HasAnswer c rows (question_of (setting_of c) thing asked t) (answer_of a)

-- what a rule comes to, by what is known
abbrev pub ComesTo : ClockedProgram → List (List ℕ) → Rule → meaning.Answer → Type 0
ComesTo c rows r a = Follows (IsKnown c rows) rows r a

-- the same is asked
abbrev pub IsSameAsked : Asked → Asked → Type 0
IsSameAsked asked.Gives asked.Gives = Unit {0}
IsSameAsked asked.Present asked.Present = Unit {0}
IsSameAsked asked.Active asked.Active = Unit {0}
IsSameAsked asked.Restarted asked.Restarted = Unit {0}
IsSameAsked (asked.Output i) (asked.Output j) = i ≡ j
IsSameAsked (asked.ActiveState i) (asked.ActiveState j) = i ≡ j
IsSameAsked (asked.LeftState i) (asked.LeftState j) = i ≡ j
IsSameAsked (asked.Variable x) (asked.Variable y) = x.now ≡ y.now
IsSameAsked (asked.Last x) (asked.Last y) = x.now ≡ y.now
IsSameAsked (asked.Defined x) (asked.Defined y) = x.now ≡ y.now
IsSameAsked (asked.PresentOf x) (asked.PresentOf y) = x.now ≡ y.now
IsSameAsked (asked.Defines i x) (asked.Defines j y) = (i ≡ j) × (x.now ≡ y.now)
IsSameAsked _ _ = ⊥

-- an entry is about what is asked at the end of a path, at an instant
abbrev pub IsAbout : Entry → List Step → Asked → ℕ → Type 0
IsAbout e path asked t = (e.question.instant ≡ t) × IsSameAsked e.question.asked asked × (e.question.path.items ≡ path)

-- an entry is right
abbrev pub IsRight : ClockedProgram → List (List ℕ) → (top : ℕ) → Entry → Type 0
IsRight c rows top e = Answered c rows (thing_at c top e.question.path.items) e.question.asked e.question.instant e.answer
