-- What the outputs of calls give.
use Rattle.std.proofs.Common.{◌≡◌, ℕ, suc, ◌-◌, ◌<◌, Bool, true, false, List, [], ◌∷◌, ◌++◌, Option, Some, None, slice_get, slice_index_or, if◌then◌else◌, refl, sym, ap, subst, ◌∙◌, arith}
use Rattle.hept_ast.specs.Texts.{Name, names}
use Rattle.hept_ast.specs.Scopes.{Clock, Scope, Called, Text, Written, outputs_of}
use Rattle.hept_ast.specs.Meaning.{Question, Output, Present, Rule, Says, Variable, answer_to, call_of, count_before, output_rule, outputs_rule}
use Rattle.hept_ast.specs.Meaning as meaning
use Rattle.hept_ast.specs.Outputs.{said}
use Rattle.hept_ast.specs.declared.tree.Expr.{Expr}
use Rattle.hept_ast.specs.declared.tree.MergeBranch.{MergeBranch}
use Rattle.hept_ast.specs.declared.tree.Form.{Form, out-Form, roll-Form}
use Rattle.hept_ast.specs.declared.tree.Form.TheViews.{roll-out-Form}
use Rattle.hept_ast.specs.declared.tree.Form.TheOpen.{Form-F}
use Rattle.hept_ast.specs.declared.tree.Form.TheVariants as form
use Rattle.hept_ast.specs.declared.tree.Node.{Node}
use Rattle.hept_ast.specs.declared.tree.Block.{Block}
use Rattle.hept_ast.specs.declared.tree.Decl.{Decl}
use Rattle.std.specs.Borrow.{Bor}
use Rattle.std.specs.Option.{option_map}
use Rattle.std.proofs.lemmas.Option.{get_or_from_slice_get, slice_get-map}
use Rattle.answer_table.specs.declared.paths.Step.{Step}
use Rattle.answer_table.specs.declared.paths.Step.TheVariants as way
use Rattle.answer_table.specs.declared.paths.View.TheVariants as seen
use Rattle.answer_table.specs.declared.questions.Asked.TheVariants as asked_of
use Rattle.answer_table.specs.declared.questions.Answer.{Answer}
use Rattle.answer_table.specs.declared.questions.Answer.TheVariants as answer
use Rattle.answer_table.specs.declared.answers.Answers.{Answers}
use Rattle.answer_table.specs.Things.{Thing, In, At, Shows, callee_thing, expression_thing, operand_clock, part}
use Rattle.answer_table.specs.Parts.{operand_of}
use Rattle.answer_table.specs.Asking.{HasAnswer, answer_of, question_of}
use Rattle.answer_table.specs.Tables.{AnswerAt, IsExpressionAt, RuleGives, setting_in, thing_in}
use Rattle.erased_meaning.specs.Rules.{AreAsked, Tests}
use Rattle.erased_meaning.specs.CallRules.{CallGives, CountsOn, IsCounted}
use Rattle.answer_table.proofs.Shown.{thing_more}
use Rattle.erased_meaning.proofs.Following.{answer_gives, asked_further}
use Rattle.erased_meaning.proofs.ExpressionsOf.{asked_present, from_rule}

-- ---- earlier instants

one_more : (s : Answers) (path : List Step) (present : ℕ → Question) (n : ℕ) (b : Bool) → AreAsked s path asked_of.Present present → Tests s path asked_of.Present n b → CountsOn s present n (suc n)
one_more s path present n b asked h go a k = h (present n) (λ here. count_before present (λ m. go) n) a (asked n) k

below_one : (at : ℕ) → 0 < at → suc (at - 1) ≡ at
below_one at h = omega arith

-- an instant before this one is counted
pub counts_more : (s : Answers) (path : List Step) (present : ℕ → Question) (at t : ℕ) (b : Bool) → AreAsked s path asked_of.Present present → 0 < at → Tests s path asked_of.Present (at - 1) b →
    CountsOn s present at t → CountsOn s present (at - 1) t
counts_more s path present at t b asked below h on go a k =
    on go a (subst (λ (n : ℕ). RuleGives s (count_before present (λ m. go) n) a) (below_one at below) (one_more s path present (at - 1) b asked h go a k))

-- ---- the called body

-- the name of a declaration at a position
pub name_at : (ds : List Decl) (j : ℕ) (d : Decl) → slice_get ds j ≡ Some d → slice_index_or (names ds) j [] ≡ d.name
name_at ds j d found = get_or_from_slice_get (names ds) j d.name [] (slice_get-map (λ x. x.name) ds j ∙ ap (option_map (λ x. x.name)) found)

module _ (s : Answers) (t j number : ℕ) (node : Bor Node) (block : Bor Block) (x : Bor Name) (r : Answer) (named : slice_index_or (names node.now.outputs) j [] ≡ x.now)
    (clock : Clock) (scope : Scope) (place : ℕ) (counted : CountsOn s (λ p. Present clock scope p) 0 t) where
  -- the body of a node in this text answers
  in_text : (args : List Expr) (text : Text) → text ≡ Written number node.now →
      HasAnswer s.accepted.now s.rows.now (question_of (setting_in s) (In (Called scope clock place args text)) (asked_of.Variable x) t) (answer_of r) →
      RuleGives s (output_rule (setting_in s) (Some (args, text)) place j clock scope t) r
  in_text args text same h =
      let name : slice_index_or (outputs_of text) j [] ≡ x.now = ap (λ (z : Text). slice_index_or (outputs_of z) j []) same ∙ named in
      counted (answer_to (Variable (slice_index_or (outputs_of text) j []) (Called scope clock place args text) t)) r
      (answer_gives s (Variable (slice_index_or (outputs_of text) j []) (Called scope clock place args text) t) r
      (subst (λ (y : Name). HasAnswer s.accepted.now s.rows.now (Some (Variable y (Called scope clock place args text) t)) (answer_of r)) (sym name) h))

  in_called : (o : Option (List Expr × Text)) → Shows (callee_thing o place clock scope) (seen.Scope number node block) →
      HasAnswer s.accepted.now s.rows.now (question_of (setting_in s) (callee_thing o place clock scope) (asked_of.Variable x) t) (answer_of r) →
      RuleGives s (output_rule (setting_in s) o place j clock scope t) r
  in_called None shows h = absurd shows
  in_called (Some c) shows h = in_text c.0 c.1 shows.0 h

-- what an output variable of the called body gives is what the call gives
pub call_gives_output : (s : Answers) (path body : List Step) (t j number : ℕ) (node : Bor Node) (block : Bor Block) (x : Bor Name) (r : Answer) →
    IsCounted s path t → body ≡ path ++ way.Callee ∷ [] → Shows (thing_in s body) (seen.Scope number node block) → slice_index_or (names node.now.outputs) j [] ≡ x.now →
    AnswerAt s body (asked_of.Variable x) t r → CallGives s path j t r
call_gives_output s path body t j number node block x r counted longer shows named h e clock scope is =
    let thing : thing_in s body ≡ callee_thing (call_of (setting_in s) (out-Form e.form)) e.place.0 clock scope =
    thing_more s.accepted.now s.top body path way.Callee longer ∙ ap (λ (z : Thing). part (setting_in s) z way.Callee) is in
    in_called s t j number node block x r named clock scope e.place.0
    (counted (λ p. Present clock scope p) (λ p. asked_present s path p e clock scope is))
    (call_of (setting_in s) (out-Form e.form))
    (subst (λ (z : Thing). Shows z (seen.Scope number node block)) thing shows)
    (subst (λ (z : Thing). HasAnswer s.accepted.now s.rows.now (question_of (setting_in s) z (asked_of.Variable x) t) (answer_of r)) thing h)

-- ---- an expression's output

asked_output : (s : Answers) (path : List Step) (j t : ℕ) (e : Expr) (clock : Clock) (scope : Scope) → thing_in s path ≡ At e clock scope →
    question_of (setting_in s) (thing_in s path) (asked_of.Output j) t ≡ Some (Output e j clock scope t)
asked_output s path j t e clock scope is = ap (λ (thing : Thing). question_of (setting_in s) thing (asked_of.Output j) t) is

pub output_absent : (s : Answers) (path : List Step) (j t : ℕ) (e : Expr) → IsExpressionAt s path e → Tests s path asked_of.Present t false → AnswerAt s path (asked_of.Output j) t answer.Absent
output_absent s path j t e at h =
    let (clock, sc, is) = at in
    from_rule s path (asked_of.Output j) t (Output e j clock sc t) answer.Absent (asked_output s path j t e clock sc is)
    (h (Present clock sc t) (λ here. if here then outputs_rule (setting_in s) (out-Form e.form) e j clock sc t else Says meaning.Absent) answer.Absent (asked_present s path t e clock sc is) said)

-- what the rule of a present expression comes to
pub output_present : (s : Answers) (path : List Step) (j t : ℕ) (e : Expr) (r : Answer) → IsExpressionAt s path e → Tests s path asked_of.Present t true →
    ((clock : Clock) (sc : Scope) → thing_in s path ≡ At e clock sc → RuleGives s (outputs_rule (setting_in s) (out-Form e.form) e j clock sc t) r) → AnswerAt s path (asked_of.Output j) t r
output_present s path j t e r at h gives =
    let (clock, sc, is) = at in
    from_rule s path (asked_of.Output j) t (Output e j clock sc t) r (asked_output s path j t e clock sc is)
    (h (Present clock sc t) (λ here. if here then outputs_rule (setting_in s) (out-Form e.form) e j clock sc t else Says meaning.Absent) r (asked_present s path t e clock sc is) (gives clock sc is))

-- what is below `!` gives its output
pub output_below : (s : Answers) (path : List Step) (j t : ℕ) (e a : Expr) (r : Answer) → out-Form e.form ≡ Form-F.Get a → AnswerAt s (path ++ way.Operand 0 ∷ []) (asked_of.Output j) t r →
    (clock : Clock) (sc : Scope) → thing_in s path ≡ At e clock sc → RuleGives s (outputs_rule (setting_in s) (out-Form e.form) e j clock sc t) r
output_below s path j t e a r same h clock sc is =
    subst (λ (f : Form-F Form Expr MergeBranch). RuleGives s (outputs_rule (setting_in s) f e j clock sc t) r) (sym same)
    (answer_gives s (Output a j clock sc t) r
    (subst (λ (f : Form-F Form Expr MergeBranch). HasAnswer s.accepted.now s.rows.now (question_of (setting_in s) (expression_thing (operand_of f 0) (operand_clock f 0 clock) sc) (asked_of.Output j) t) (answer_of r)) same
    (subst (λ (thing : Thing). HasAnswer s.accepted.now s.rows.now (question_of (setting_in s) (part (setting_in s) thing (way.Operand 0)) (asked_of.Output j) t) (answer_of r)) is
    (asked_further s path (way.Operand 0) (asked_of.Output j) t r h))))

other_rule : (s : Answers) (f : Form-F Form Expr MergeBranch) (e : Expr) (j : ℕ) (clock : Clock) (sc : Scope) (t : ℕ) → ((a : Expr) → f ≡ Form-F.Get a → ⊥) →
    output_rule (setting_in s) (call_of (setting_in s) f) e.place.0 j clock sc t ≡ outputs_rule (setting_in s) f e j clock sc t
other_rule s (Form-F.Get a) e j clock sc t h = absurd (h a refl)
other_rule s _ e j clock sc t h = refl

-- a call gives its output
pub output_called : (s : Answers) (path : List Step) (j t : ℕ) (e : Expr) (r : Answer) → ((a : Expr) → e.form ≡ form.Get a → ⊥) → CallGives s path j t r →
    (clock : Clock) (sc : Scope) → thing_in s path ≡ At e clock sc → RuleGives s (outputs_rule (setting_in s) (out-Form e.form) e j clock sc t) r
output_called s path j t e r other h clock sc is =
    subst (λ (rule : Rule). RuleGives s rule r)
    (other_rule s (out-Form e.form) e j clock sc t (λ a out. other a (sym (roll-out-Form e.form) ∙ ap roll-Form out ∙ form.rolls-Get a)))
    (h e clock sc is)
