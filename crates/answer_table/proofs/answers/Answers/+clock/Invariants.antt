use Rattle.std.proofs.Common.{length}
use Rattle.answer_table.proofs.answers.Answers.+clock.Given as goal

abbrev pub decreases-clock : goal.decreases-clock
decreases-clock l = length l.path.now
