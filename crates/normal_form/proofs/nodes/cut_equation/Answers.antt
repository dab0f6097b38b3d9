use Rattle.std.proofs.Common.{refl}
use Rattle.normal_form.proofs.nodes.cut_equation.Goals as goal

pub returns : goal.returns
returns c = record { others = refl; right = c.in_ok-cut.ensures }
