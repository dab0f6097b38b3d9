use Rattle.std.proofs.Common.{◌≡◌, map, take, slice_index}
use Rattle.hept_ast.specs.Texts.{place_in}
use Rattle.plan_bodies.proofs.arguments.output_registers.Given as goal

abbrev pub invariant-loop-output : goal.invariant-loop-output
invariant-loop-output l = l.numbers.items ≡ map (λ d. slice_index l.registers (place_in d.name l.variables)) (take l.output-index l.outputs)
