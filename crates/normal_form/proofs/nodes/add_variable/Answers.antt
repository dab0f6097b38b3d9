use Rattle.std.proofs.Common.{◌≡◌}
use Rattle.std.proofs.lemmas.Result.{on_ok_weaker}
use Rattle.normal_form.specs.Settling.{AddsVariable, with_variable}
use Rattle.normal_form.proofs.nodes.add_variable.Goals as goal

pub returns : goal.returns
returns c =
    on_ok_weaker {P = c.declare.new.rest ≡ with_variable c.args.x c.args.taken c.in_ok-ty.ty c.args.resets.now c.args.rest.now}
    {Q = AddsVariable c.args.types.now c.args.before.now c.args.after.now c.args.x c.args.taken c.args.resets.now c.args.rest.now c.declare.new.rest} c.declare.result
    (λ p. record { ty = c.in_ok-ty.ty; found = c.in_ok-ty.ensures; added = p }) c.declare.ensures
