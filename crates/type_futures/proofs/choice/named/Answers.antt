use Rattle.std.proofs.Common.{Some, sym}
use Rattle.type_futures.proofs.Chosen.{chosen_says}
use Rattle.type_futures.proofs.choice.named.Goals as goal

pub returns-in-Some : goal.returns-in-Some
returns-in-Some c = chosen_says c.args.nodes.now (Some c.args.name.now) c.in-Some.index c.with_plain_interface.result (sym c.in-Some.ensures) c.with_plain_interface.ensures
