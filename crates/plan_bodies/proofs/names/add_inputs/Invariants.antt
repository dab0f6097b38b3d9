use Rattle.std.proofs.Common.{◌≡◌, ◌++◌, take}
use Rattle.hept_ast.specs.Texts.{names}
use Rattle.plan_bodies.proofs.names.add_inputs.Given as goal

abbrev pub invariant-loop-input : goal.invariant-loop-input
invariant-loop-input l = l.variables ≡ l.initial.variables ++ names (take l.input-index l.inputs)
