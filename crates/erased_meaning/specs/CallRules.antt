-- What is known of an expression as a call.
use Rattle.std.specs.Prelude.{◌≡◌, ℕ, List}
use Rattle.hept_ast.specs.Scopes.{Clock, Scope}
use Rattle.hept_ast.specs.Meaning.{Question, Rule, call_of, count_before, output_rule}
use Rattle.hept_ast.specs.declared.tree.Expr.{Expr}
use Rattle.hept_ast.specs.declared.tree.Form.{out-Form}
use Rattle.answer_table.specs.declared.paths.Step.{Step}
use Rattle.answer_table.specs.declared.questions.Asked.TheVariants as asked
use Rattle.answer_table.specs.declared.questions.Answer.{Answer}
use Rattle.answer_table.specs.declared.answers.Answers.{Answers}
use Rattle.answer_table.specs.Things.{At}
use Rattle.answer_table.specs.Tables.{RuleGives, setting_in, thing_in}
use Rattle.erased_meaning.specs.Rules.{AreAsked}

-- a count of the instants before the second one goes on as a count of those before the first does, where it goes on the same by each number
abbrev pub CountsOn : Answers → (present : ℕ → Question) → (at t : ℕ) → Type 0
CountsOn s present at t = (go : Rule) (a : Answer) → RuleGives s (count_before present (λ n. go) at) a → RuleGives s (count_before present (λ n. go) t) a

-- at each instant before this one it is known whether what is at the end of a path was present
abbrev pub IsCounted : Answers → List Step → (t : ℕ) → Type 0
IsCounted s path t = (present : ℕ → Question) → AreAsked s path asked.Present present → CountsOn s present 0 t

-- what an output of the expression at the end of a path gives where it is present, if it is a call
abbrev pub CallGives : Answers → List Step → (output : ℕ) → ℕ → Answer → Type 0
CallGives s path j t a = (e : Expr) (clock : Clock) (scope : Scope) → thing_in s path ≡ At e clock scope →
    RuleGives s (output_rule (setting_in s) (call_of (setting_in s) (out-Form e.form)) e.place.0 j clock scope t) a
