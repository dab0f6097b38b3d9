use Rattle.std.proofs.Common.{length}
use Rattle.answer_table.proofs.answers.Answers.+home.Given as goal

abbrev pub decreases-home : goal.decreases-home
decreases-home l = length l.scope.now
