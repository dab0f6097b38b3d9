-- What the words of the rules come to, from what is known.
use Rattle.std.proofs.Common.{◌≡◌, ℕ, Bool, List, [], ◌∷◌, ◌++◌, Option, refl, subst}
use Rattle.hept_ast.specs.Meaning.{Question, Rule, Says, answer_to, test, on_value, is_true}
use Rattle.hept_ast.specs.Outputs.{said, asked}
use Rattle.hept_ast.specs.declared.tree.Expr.{Expr}
use Rattle.hept_ast.specs.declared.tree.Form.{out-Form}
use Rattle.answer_table.specs.declared.paths.Step.{Step}
use Rattle.answer_table.specs.declared.paths.Step.TheVariants as way
use Rattle.answer_table.specs.declared.questions.Asked.{Asked}
use Rattle.answer_table.specs.declared.questions.Asked.TheVariants as asked_of
use Rattle.answer_table.specs.declared.questions.Answer.{Answer}
use Rattle.answer_table.specs.declared.questions.Answer.TheVariants as answer
use Rattle.answer_table.specs.declared.answers.Answers.{Answers}
use Rattle.answer_table.specs.Things.{Thing, part, expression_thing, operand_clock}
use Rattle.answer_table.specs.Asking.{HasAnswer, answer_of, question_of}
use Rattle.answer_table.specs.Tables.{AnswerAt, Gets, RuleGives, setting_in, thing_in}
use Rattle.erased_meaning.specs.Rules.{OperandGets, Tests}
use Rattle.answer_table.proofs.Shown.{thing_more}

-- what is asked one step further is asked of what the step leads to
pub asked_further : (s : Answers) (path : List Step) (step : Step) (q : Asked) (t : ℕ) (a : Answer) →
    AnswerAt s (path ++ step ∷ []) q t a → HasAnswer s.accepted.now s.rows.now (question_of (setting_in s) (part (setting_in s) (thing_in s path) step) q t) (answer_of a)
asked_further s path step q t a h =
    subst (λ (thing : Thing). HasAnswer s.accepted.now s.rows.now (question_of (setting_in s) thing q t) (answer_of a)) (thing_more s.accepted.now s.top _ path step refl) h

-- what an operand gives
pub operand_gets : (s : Answers) (path : List Step) (n t : ℕ) (r : Answer) → AnswerAt s (path ++ way.Operand n ∷ []) asked_of.Gives t r → OperandGets s path n t r
operand_gets s path n t r h e a clock scope is found =
    subst (λ (o : Option Expr). HasAnswer s.accepted.now s.rows.now (question_of (setting_in s) (expression_thing o (operand_clock (out-Form e.form) n clock) scope) asked_of.Gives t) (answer_of r)) found
    (subst (λ (thing : Thing). HasAnswer s.accepted.now s.rows.now (question_of (setting_in s) (part (setting_in s) thing (way.Operand n)) asked_of.Gives t) (answer_of r)) is
    (asked_further s path (way.Operand n) asked_of.Gives t r h))

-- ---- words

pub says_gives : (s : Answers) (a : Answer) → RuleGives s (Says (answer_of a)) a
says_gives s a = said

pub answer_gives : (s : Answers) (q : Question) (a : Answer) → Gets s q a → RuleGives s (answer_to q) a
answer_gives s q a h = asked h said

pub test_gives : (s : Answers) (q : Question) (go : Bool → Rule) (a b : Answer) → Gets s q a → RuleGives s (go (is_true (answer_of a))) b → RuleGives s (test q go) b
test_gives s q go a b h k = asked h k

pub value_gives : (s : Answers) (q : Question) (go : ℕ → Rule) (v : ℕ) (b : Answer) → Gets s q (answer.Value v) → RuleGives s (go v) b → RuleGives s (on_value q go) b
value_gives s q go v b h k = asked h k

pub absent_gives : (s : Answers) (q : Question) (go : ℕ → Rule) → Gets s q answer.Absent → RuleGives s (on_value q go) answer.Absent
absent_gives s q go h = asked h said

pub nil_gives : (s : Answers) (q : Question) (go : ℕ → Rule) → Gets s q answer.Nil → RuleGives s (on_value q go) answer.Nil
nil_gives s q go h = asked h said

-- a test by an answer
pub tests : (s : Answers) (path : List Step) (q : Asked) (t : ℕ) (a : Answer) → AnswerAt s path q t a → Tests s path q t (is_true (answer_of a))
tests s path q t a h question go b is k =
    asked (subst (λ (o : Option Question). HasAnswer s.accepted.now s.rows.now o (answer_of a)) is h) k

-- an operand gives what is equal to what it gives
pub gets_as : (s : Answers) (path : List Step) (n t : ℕ) (a b : Answer) → a ≡ b → OperandGets s path n t a → OperandGets s path n t b
gets_as s path n t a b same h = subst (λ (r : Answer). OperandGets s path n t r) same h
