use Rattle.plan_expressions.proofs.PlacesOf.{divisor_form}
use Rattle.plan_expressions.proofs.constants.divisor.Goals as goal

pub unreachable-requires : goal.unreachable-requires
unreachable-requires c = divisor_form c.args.types.now c.args.e.now c.requires c.in_default.not-Const
