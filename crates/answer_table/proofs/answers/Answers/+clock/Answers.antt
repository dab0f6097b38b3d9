use Rattle.answer_table.specs.Tables.{held_clock}
use Rattle.answer_table.proofs.ClocksOf.{operand_through}
use Rattle.answer_table.proofs.answers.Answers.+clock.Goals as goal

pub returns-in_ok-expression-in-Operand : goal.returns-in_ok-expression-in-Operand
returns-in_ok-expression-in-Operand t c =
    operand_through c.args.self.now c.args.path.now c.in-Some.before.now c.in-Some.last.now c.in-Operand.operand c.in_ok-expression-in-Operand.field-0.now
    (held_clock c.in_ok-clock-in-Operand.clock.items) c.operand_clock.result c.in-Some.ensures.cases c.in-Operand.is c.in_ok-clock-in-Operand.ensures
    c.in_ok-expression-in-Operand.ensures c.operand_clock.ensures
