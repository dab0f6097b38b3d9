use Rattle.std.proofs.Common.{ap, arith, length, slice_index_or, ◌∙◌}
use Rattle.clock_calculus.specs.Numbering.{names_of, solved_clock, steps_of}
use Rattle.clock_calculus.proofs.FilledOf.{filled_name}
use Rattle.clock_calculus.proofs.filling.set_clocks.Goals as goal

pub loop-name-preserved : goal.loop-name-preserved
loop-name-preserved c =
    let n = c.args.numbers.now in
    let v = c.as_slice-name-items.ensures.value in
    filled_name (λ r. r.now) n.names.items c.loop-name.name-index c.name-item.result (omega (arith, ap length v)) (c.name-item.is ∙ ap (λ t. slice_index_or t c.loop-name.name-index c.name-item.result) v) c.args.clocks.now c.loop-name.clocks c.set_clock.new.clocks c.args.node.0 (solved_clock (names_of n) (steps_of n) c.args.bindings.now) c.loop-name.invariant (c.in_ok-set_clock.ensures)
