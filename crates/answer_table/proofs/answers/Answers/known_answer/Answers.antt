use Rattle.answer_table.specs.Asking.{IsRight}
use Rattle.answer_table.proofs.Same.{all_via, got_via, got_within}
use Rattle.answer_table.proofs.answers.Answers.known_answer.Goals as goal

pub returns-in-Some : goal.returns-in-Some
returns-in-Some c =
    c.found.ensures c.args.self.now.accepted.now c.args.self.now.rows.now c.args.self.now.top
    (all_via (IsRight c.args.self.now.accepted.now c.args.self.now.rows.now c.args.self.now.top) c.as_slice-in-Some.result.now c.in-Some.entries.now.items c.as_slice-in-Some.ensures.value
    (got_within (λ v. v.items) (IsRight c.args.self.now.accepted.now c.args.self.now.rows.now c.args.self.now.top) c.args.self.now.known.items c.args.instant c.in-Some.entries.now c.requires
    (got_via _ _ c.args.instant c.in-Some.entries.now c.as_slice.ensures.value c.in-Some.ensures)))
