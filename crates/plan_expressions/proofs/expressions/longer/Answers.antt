use Rattle.std.proofs.Common.{◌≡◌, rules}
use Rattle.plan_expressions.proofs.expressions.longer.Goals as goal

pub returns : goal.returns
returns c =
    let copied : c.in_ok-longer.longer.items ≡ c.args.presences.now = c.in_ok-longer.ensures.items_if_clones_equal (λ x y h. h) in
    search rules
