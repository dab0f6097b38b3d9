use Rattle.schedule_example.proofs.TurnedCore.{turned_can_be_ordered}
use Rattle.schedule_example.proofs.laws.order_laws.Goals as goal

pub returns : goal.returns
returns c = turned_can_be_ordered
