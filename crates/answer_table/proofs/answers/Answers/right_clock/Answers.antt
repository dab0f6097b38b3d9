use Rattle.std.proofs.Common.{sym}
use Rattle.answer_table.proofs.ClocksOf.{right_through}
use Rattle.answer_table.proofs.answers.Answers.right_clock.Goals as goal

pub returns-in-Some : goal.returns-in-Some
returns-in-Some c =
    right_through c.args.self.now c.args.scope.now c.args.equation c.args.name c.in_ok-block.field-0-0 c.in_ok-block.field-0-1.now c.in_ok-block.block.now c.in-Some.name.now c.clock_seen.result
    c.in_ok-block.ensures (sym c.in-Some.ensures) c.clock_seen.ensures
