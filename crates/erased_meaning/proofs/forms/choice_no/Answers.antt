use Rattle.std.proofs.Common.{◌≡◌, ◌≢◌, ℕ, ◌==◌, if◌then◌else◌, subst, arith}
use Rattle.hept_ast.specs.declared.tree.Form.TheOpen.{Form-F}
use Rattle.answer_table.specs.declared.questions.Answer.TheVariants as answer
use Rattle.erased_meaning.specs.Rules.{FormGives}
use Rattle.erased_meaning.proofs.Following.{gets_as}
use Rattle.erased_meaning.proofs.FormsOf.{choice_gives, choice_no_nil, choice_no_absent}
use Rattle.erased_meaning.proofs.forms.choice_no.Goals.{then-condition-eq1, else-condition-eq1}
use Rattle.erased_meaning.proofs.forms.choice_no.Goals as goal

chosen_yes : (k u v x : ℕ) → k ≡ 1 → x ≡ u → (if k == 1 then u else v) ≡ x
chosen_yes k u v x h e = grind arith

chosen_no : (k u v x : ℕ) → k ≢ 1 → x ≡ v → (if k == 1 then u else v) ≡ x
chosen_no k u v x h e = grind arith

pub returns-after-condition-eq1 : goal.returns-after-condition-eq1
returns-after-condition-eq1 c a b d first second =
    let gives : (x : ℕ) → (if c.args.condition == 1 then c.args.yes else c.in-Value.no) ≡ x → FormGives c.args.answers.now c.args.path.now (Form-F.If a b d) c.args.t (answer.Value x) =
    λ x e. subst (λ (y : ℕ). FormGives c.args.answers.now c.args.path.now (Form-F.If a b d) c.args.t (answer.Value y)) e
    (choice_gives c.args.answers.now c.args.path.now c.args.t c.args.condition c.args.yes c.in-Value.no (gets_as c.args.answers.now c.args.path.now 2 c.args.t _ _ c.in-Value.is c.in_ok-no.ensures) a b d first second) in
    elim c.if-condition-eq1.branch [ then-condition-eq1 w ↦ gives _ (chosen_yes _ _ _ _ w.if-condition-eq1.true w.result-is) | else-condition-eq1 w ↦ gives _ (chosen_no _ _ _ _ w.if-condition-eq1.false w.result-is) ]

pub returns-in-Nil : goal.returns-in-Nil
returns-in-Nil c = choice_no_nil c.args.answers.now c.args.path.now c.args.t c.args.condition c.args.yes (gets_as c.args.answers.now c.args.path.now 2 c.args.t _ _ c.in-Nil.is c.in_ok-no.ensures)

pub returns-in-Absent : goal.returns-in-Absent
returns-in-Absent c = choice_no_absent c.args.answers.now c.args.path.now c.args.t c.args.condition c.args.yes (gets_as c.args.answers.now c.args.path.now 2 c.args.t _ _ c.in-Absent.is c.in_ok-no.ensures)
