-- What rules come to, by what a table of answers holds.
use Rattle.std.specs.Prelude.{◌≡◌, ℕ, Bool, List, Option, Some, None}
use Rattle.hept_ast.specs.Texts.{Name}
use Rattle.hept_ast.specs.Scopes.{Clock, Scope, block_of}
use Rattle.hept_ast.specs.Meaning.{Question, Gives, Rule, form_rule, if_defined, present_rule, previous, steps_hold, test}
use Rattle.hept_ast.specs.declared.tree.Expr.{Expr}
use Rattle.hept_ast.specs.declared.tree.Equation.{Equation}
use Rattle.hept_ast.specs.declared.tree.MergeBranch.{MergeBranch}
use Rattle.hept_ast.specs.declared.tree.Form.{Form, out-Form}
use Rattle.hept_ast.specs.declared.tree.Form.TheOpen.{Form-F}
use Rattle.answer_table.specs.declared.paths.Step.{Step}
use Rattle.answer_table.specs.declared.questions.Asked.{Asked}
use Rattle.answer_table.specs.declared.questions.Asked.TheVariants as asked
use Rattle.answer_table.specs.declared.questions.Answer.{Answer}
use Rattle.answer_table.specs.declared.questions.Answer.TheVariants as answer
use Rattle.answer_table.specs.declared.answers.Answers.{Answers}
use Rattle.answer_table.specs.Parts.{operand_of}
use Rattle.answer_table.specs.Things.{In, At, operand_clock}
use Rattle.answer_table.specs.Asking.{question_of}
use Rattle.answer_table.specs.Tables.{Gets, RuleGives, setting_in, thing_in}

-- what an expression of this form at the end of a path gives where it is present
abbrev pub FormGives : Answers → List Step → Form-F Form Expr MergeBranch → ℕ → Answer → Type 0
FormGives s path form t a = (e : Expr) (clock : Clock) (scope : Scope) → thing_in s path ≡ At e clock scope → out-Form e.form ≡ form →
    RuleGives s (form_rule (setting_in s) form e clock scope t) a

-- what an operand of the expression at the end of a path gives
abbrev pub OperandGets : Answers → List Step → (operand : ℕ) → ℕ → Answer → Type 0
OperandGets s path n t r = (e a : Expr) (clock : Clock) (scope : Scope) → thing_in s path ≡ At e clock scope → operand_of (out-Form e.form) n ≡ Some a →
    Gets s (Gives a (operand_clock (out-Form e.form) n clock) scope t) r

-- a test of what is asked at the end of a path comes out so
abbrev pub Tests : Answers → List Step → Asked → ℕ → Bool → Type 0
Tests s path what t b = (q : Question) (go : Bool → Rule) (a : Answer) → question_of (setting_in s) (thing_in s path) what t ≡ Some q → RuleGives s (go b) a → RuleGives s (test q go) a

-- where a search for the previous instant goes
abbrev pub chosen : Option ℕ → (ℕ → Rule) → Rule → Rule
chosen None go none = none
chosen (Some p) go none = go p

-- questions that are asked at the ends of two paths, at each instant
abbrev pub AreAsked : Answers → List Step → Asked → (ℕ → Question) → Type 0
AreAsked s path what q = (t : ℕ) → question_of (setting_in s) (thing_in s path) what t ≡ Some (q t)

-- a search from instant t for the previous one goes where this is chosen
abbrev pub GoesTo : Answers → (present restarted : ℕ → Question) → ℕ → Option ℕ → Type 0
GoesTo s present restarted t o = (go : ℕ → Rule) (none : Rule) (a : Answer) → RuleGives s (chosen o go none) a → RuleGives s (previous present restarted go none t) a

-- where a search for the previous instant of what is at the end of a path goes
abbrev pub Went : Answers → List Step → Asked → List Step → ℕ → Option ℕ → Type 0
Went s path present scope t o = (p r : ℕ → Question) → AreAsked s path present p → AreAsked s scope asked.Restarted r → GoesTo s p r t o

-- an answer is this value
abbrev pub IsValueAnswer : ℕ → Answer → Type 0
IsValueAnswer v a = a ≡ answer.Value v

-- where a path leads to a scope, this answers whether what is on a clock is present there
abbrev pub PresentGives : Answers → List Step → Clock → ℕ → Answer → Type 0
PresentGives s path clock t a = (scope : Scope) → thing_in s path ≡ In scope → RuleGives s (present_rule (setting_in s) clock scope t) a

-- where a path leads to a scope, each step's variable has its tag there exactly if b is true
abbrev pub StepsHold : Answers → List Step → Clock → ℕ → (b : Bool) → Type 0
StepsHold s path clock t b = (scope : Scope) → thing_in s path ≡ In scope → RuleGives s (steps_hold (setting_in s) clock scope t) (answer.Is b)

-- a test whether one of some equations defines a name comes out so
abbrev pub TestsDefined : Answers → Name → List Equation → Bool → Type 0
TestsDefined s x es b = (go : Bool → Rule) (a : Answer) → RuleGives s (go b) a → RuleGives s (if_defined x es go) a

-- where a path leads to a scope, the equations of its block define a name exactly if b is true
abbrev pub BlockDefines : Answers → List Step → Name → (b : Bool) → Type 0
BlockDefines s path x b = (scope : Scope) → thing_in s path ≡ In scope → TestsDefined s x (block_of scope).body b

-- where a path leads to a scope, this is what a rule about it comes to
abbrev pub ScopeRuleGives : Answers → List Step → (Scope → Rule) → Answer → Type 0
ScopeRuleGives s path rule_of a = (scope : Scope) → thing_in s path ≡ In scope → RuleGives s (rule_of scope) a
