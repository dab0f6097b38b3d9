use Rattle.std.proofs.Common.{◌≡◌, List, [], length, ap, ◌∙◌}
use Rattle.step_objects.specs.Interfaces.{input_shape, output_shape}
use Rattle.step_objects.specs.declared.shape.Values.{Values}
use Rattle.program_stepper.proofs.AtInstant.{input_count_is, output_count_is}
use Rattle.hepasync_top.proofs.Beginning.{few_of_all, few_values, input_shape_is, inputs_plain, output_shape_is, outputs_plain}
use Rattle.hepasync_top.proofs.machine.Machine.new.Goals as goal

pub of-requires-clause-plain : goal.of-requires-clause-plain
of-requires-clause-plain c =
    inputs_plain c.args.accepted.now c.in_ok-stepper.stepper c.in_ok-stepper.ensures.stands c.program-program.result.now c.program-program.ensures.same c.len-last.result c.len-last.ensures c.as_slice.result.now c.as_slice.ensures
    c.index-as_slice-last.result c.index-as_slice-last.is c.as_slice-2.result.now c.program-program.ensures.typed c.requires.runs.served c.as_slice-2.ensures

pub of-requires-clause-few : goal.of-requires-clause-few
of-requires-clause-few c = few_of_all c.args.accepted.now.program c.program-program.result.now c.program-program.ensures.same c.requires.runs.clean

pub of-requires-2-clause-plain : goal.of-requires-2-clause-plain
of-requires-2-clause-plain c =
    outputs_plain c.args.accepted.now c.in_ok-stepper.stepper c.in_ok-stepper.ensures.stands c.program-program.result.now c.program-program.ensures.same c.len-last.result c.len-last.ensures c.as_slice.result.now
    c.as_slice.ensures c.index-as_slice-last.result c.index-as_slice-last.is c.as_slice-3.result.now c.program-program.ensures.typed c.requires.runs.served c.as_slice-3.ensures

pub of-requires-2-clause-few : goal.of-requires-2-clause-few
of-requires-2-clause-few c = few_of_all c.args.accepted.now.program c.program-program.result.now c.program-program.ensures.same c.requires.runs.clean

pub returns-in-Ok-Ok-Ok-clause-can : goal.returns-in-Ok-Ok-Ok-clause-can
returns-in-Ok-Ok-Ok-clause-can c =
    let stands = c.in_ok-stepper.ensures.stands in
    let inputs_are : c.in_ok-inputs.inputs ≡ input_shape c.args.accepted.now.program =
    input_shape_is c.args.accepted.now c.in_ok-stepper.stepper stands c.program-program.result.now c.program-program.ensures.same c.len-last.result c.len-last.ensures c.as_slice.result.now c.as_slice.ensures
    c.index-as_slice-last.result c.index-as_slice-last.is c.as_slice-2.result.now c.in_ok-inputs.inputs c.as_slice-2.ensures c.in_ok-inputs.ensures in
    let outputs_are : c.in_ok-outputs.outputs ≡ output_shape c.args.accepted.now.program =
    output_shape_is c.args.accepted.now c.in_ok-stepper.stepper stands c.program-program.result.now c.program-program.ensures.same c.len-last.result c.len-last.ensures c.as_slice.result.now c.as_slice.ensures
    c.index-as_slice-last.result c.index-as_slice-last.is c.as_slice-3.result.now c.in_ok-outputs.outputs c.as_slice-3.ensures c.in_ok-outputs.ensures in
    record {
      goes_on = c.in-Ok-Ok-Ok.ensures.goes_on;
      ready = stands.ready;
      program = record { accepted = c.args.accepted.now; rows = []; stands = stands; input_shape = inputs_are; output_shape = outputs_are };
      inputs = ap (λ (shape : List Values). length shape) inputs_are ∙ input_count_is c.args.accepted.now [] c.in_ok-stepper.stepper stands;
      few = few_values c.args.accepted.now c.in_ok-stepper.stepper stands c.in_ok-inputs.inputs c.requires.runs.clean inputs_are;
      row = c.in-Ok-Ok-Ok.ensures'.len ∙ c.inputs-2.ensures;
      outputs = ap (λ (shape : List Values). length shape) outputs_are ∙ output_count_is c.args.accepted.now [] c.in_ok-stepper.stepper stands;
      values = c.in-Ok-Ok-Ok.ensures''.len ∙ c.outputs-2.ensures;
      writer = c.in_ok-writer.ensures;
    }

pub returns-in-Ok-Ok-Ok-clause-done : goal.returns-in-Ok-Ok-Ok-clause-done
unfolding returns-in-Ok-Ok-Ok-clause-can
returns-in-Ok-Ok-Ok-clause-done c =
    let can = returns-in-Ok-Ok-Ok-clause-can c in
    record {
      runs = c.requires.runs;
      stands = c.in_ok-stepper.ensures.stands;
      outputs = c.in_ok-stepper.ensures.rows;
      input_shape = can.program.input_shape;
      output_shape = can.program.output_shape;
    }
