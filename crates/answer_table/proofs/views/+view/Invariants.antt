use Rattle.std.proofs.Common.{length}
use Rattle.answer_table.proofs.views.+view.Given as goal

abbrev pub decreases-view : goal.decreases-view
decreases-view l = length l.path.now
