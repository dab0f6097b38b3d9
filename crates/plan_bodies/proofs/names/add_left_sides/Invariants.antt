use Rattle.std.proofs.Common.{◌≡◌, ◌++◌, take}
use Rattle.std.specs.List.{flat_map}
use Rattle.plan_bodies.proofs.names.add_left_sides.Given as goal

abbrev pub invariant-loop-e : goal.invariant-loop-e
invariant-loop-e l = l.variables ≡ l.initial.variables ++ flat_map (λ e. e.left) (take l.e-index l.equations)
