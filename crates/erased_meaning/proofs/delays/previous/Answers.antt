use Rattle.std.proofs.Common.{◌≡◌, ◌≤◌, ℕ, ◌-◌, Bool, Some, None, subst, arith}
use Rattle.answer_table.specs.declared.questions.Asked.TheVariants as asked_of
use Rattle.erased_meaning.specs.Rules.{GoesTo, Tests}
use Rattle.erased_meaning.proofs.Going.{goes_restarted, goes_present, goes_back, goes_first}
use Rattle.erased_meaning.proofs.delays.previous.Goals as goal

pub returns-then-branch : goal.returns-then-branch
returns-then-branch c p r asked restarts =
    let s = c.args.answers.now in
    c.loop-at.invariant p r None asked restarts
    (goes_restarted s c.args.path.now c.args.present c.args.scope.now p r asked restarts c.loop-at.at c.loop-at-test.true
    (subst (λ (b : Bool). Tests s c.args.scope.now asked_of.Restarted c.loop-at.at b) c.if-branch.true c.in_ok-test.ensures))

pub returns-then-branch-2 : goal.returns-then-branch-2
returns-then-branch-2 c p r asked restarts =
    let s = c.args.answers.now in
    c.loop-at.invariant p r (Some (c.loop-at.at - 1)) asked restarts
    (goes_present s c.args.path.now c.args.present c.args.scope.now p r asked restarts c.loop-at.at c.loop-at-test.true
    (subst (λ (b : Bool). Tests s c.args.scope.now asked_of.Restarted c.loop-at.at b) c.if-branch.false c.in_ok-test.ensures)
    (subst (λ (b : Bool). Tests s c.args.path.now c.args.present (c.loop-at.at - 1) b) c.if-branch-2.true c.in_ok-test-2.ensures))

pub loop-at-preserved : goal.loop-at-preserved
loop-at-preserved c p r o asked restarts goes =
    let s = c.args.answers.now in
    c.loop-at.invariant p r o asked restarts
    (goes_back s c.args.path.now c.args.present c.args.scope.now p r asked restarts c.loop-at.at o c.loop-at-test.true
    (subst (λ (b : Bool). Tests s c.args.scope.now asked_of.Restarted c.loop-at.at b) c.if-branch.false c.in_ok-test.ensures)
    (subst (λ (b : Bool). Tests s c.args.path.now c.args.present (c.loop-at.at - 1) b) c.if-branch-2.false c.in_ok-test-2.ensures) goes)

at_first : (n : ℕ) → n ≤ 0 → 0 ≡ n
at_first n h = omega arith

pub returns : goal.returns
returns c p r asked restarts =
    c.loop-at.invariant p r None asked restarts
    (subst (λ (n : ℕ). GoesTo c.args.answers.now p r n None) (at_first c.loop-at.at c.loop-at-test.false) (goes_first c.args.answers.now p r))
