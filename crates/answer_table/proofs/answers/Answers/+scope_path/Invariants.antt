use Rattle.std.proofs.Common.{length}
use Rattle.answer_table.proofs.answers.Answers.+scope_path.Given as goal

abbrev pub decreases-scope_path : goal.decreases-scope_path
decreases-scope_path l = length l.path.now
