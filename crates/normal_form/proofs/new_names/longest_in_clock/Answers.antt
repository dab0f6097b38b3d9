use Rattle.std.proofs.Common.{◌≤◌, length, arith}
use Rattle.hept_ast.specs.declared.tree.ClockStep.{ClockStep}
use Rattle.normal_form.proofs.NewNames.{all_seen, name_grown}
use Rattle.normal_form.proofs.new_names.longest_in_clock.Goals as goal

pub loop-step-preserved : goal.loop-step-preserved
loop-step-preserved c =
    let le : c.loop-step.longest ≤ c.max-longest.result = omega arith in
    let at_most : length c.bytes.result.now ≤ c.max-longest.result = omega arith in
    record {
      kept = omega arith;
      within = name_grown (λ (x : ClockStep). x.name) c.args.steps.now c.loop-step.step-index c.step-item.result c.loop-step.longest c.max-longest.result c.bytes.result.now
          c.loop-step-test.true le c.loop-step.invariant.within c.step-item.is c.bytes.ensures at_most;
    }

pub returns-clause-within : goal.returns-clause-within
returns-clause-within c =
    let le : length c.args.steps.now ≤ c.loop-step.step-index = omega arith in
    all_seen (λ (x : ClockStep). length x.name ≤ c.loop-step.longest) c.args.steps.now c.loop-step.step-index le c.loop-step.invariant.within
