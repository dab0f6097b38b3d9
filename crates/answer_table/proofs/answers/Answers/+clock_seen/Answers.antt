use Rattle.answer_table.proofs.ClocksSeen.{seen_through}
use Rattle.answer_table.proofs.answers.Answers.+clock_seen.Goals as goal

pub returns-in-Body : goal.returns-in-Body
returns-in-Body t c =
    seen_through c.args.self.now c.args.scope.now c.in-Some.outer.now c.in-Some.last.now c.in-Body.equation c.args.name.now c.in_ok-declares.field-0 c.clock_seen.result
    c.in-Some.ensures.cases c.in-Body.is c.if-branch.false c.in_ok-declares.ensures c.clock_seen.ensures
