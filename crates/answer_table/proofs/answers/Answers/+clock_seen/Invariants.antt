use Rattle.std.proofs.Common.{length}
use Rattle.answer_table.proofs.answers.Answers.+clock_seen.Given as goal

abbrev pub decreases-clock_seen : goal.decreases-clock_seen
decreases-clock_seen l = length l.scope.now
