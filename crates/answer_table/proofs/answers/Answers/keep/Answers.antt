use Rattle.std.proofs.Common.{arith}
use Rattle.std.specs.Result.{is_ok}
use Rattle.answer_table.specs.Asking.{IsRight}
use Rattle.answer_table.proofs.Keeping.{added_within, answer_kept}
use Rattle.answer_table.proofs.answers.Answers.keep.Goals as goal

pub returns-clause-sound : goal.returns-clause-sound
returns-clause-sound c =
    let u = c.loop-self.self in
    added_within (λ v. v.items) (IsRight u.accepted.now u.rows.now u.top) u.known.items c.args.question.instant c.index_mut.result.now c.push-2.new.self
    (record { question = c.args.question; answer = c.args.answer }) (is_ok c.push-2.result) (omega (arith, u.known.ok.0)) c.index_mut.ensures.value c.push-2.ensures.items
    c.loop-self.invariant.sound
    (answer_kept c.args.self.now u c.args.question.path.items c.args.question.asked c.args.question.instant c.args.answer c.loop-self.invariant.same c.requires.right)
