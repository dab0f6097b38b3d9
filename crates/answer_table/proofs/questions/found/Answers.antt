use Rattle.answer_table.proofs.Same.{found_right}
use Rattle.answer_table.proofs.questions.found.Goals as goal

pub returns-then-is_about : goal.returns-then-is_about
returns-then-is_about c = found_right c.args.entries.now c.loop-entry.entry-index c.entry-item.result c.args.path.now c.args.asked c.args.instant c.loop-entry-test.true c.entry-item.is (c.is_about.ensures c.if-is_about.true)
