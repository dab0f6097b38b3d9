use Rattle.std.proofs.Common.{◌≡◌, ◌++◌, take}
use Rattle.plan_bodies.proofs.names.add_names.Given as goal

abbrev pub invariant-loop-name : goal.invariant-loop-name
invariant-loop-name l = l.variables ≡ l.initial.variables ++ take l.name-index l.from
