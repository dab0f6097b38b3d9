use Rattle.std.proofs.Common.{◌∙◌}
use Rattle.step_cells.specs.Cells.{row_of}
use Rattle.step_objects.specs.Interfaces.{input_shape}
use Rattle.program_stepper.proofs.AtInstant.{gives_last, input_count_is, outputs_fit, rows_fit, stands_after}
use Rattle.program_stepper.proofs.RowByRow.{more_rows}
use Rattle.program_stepper.proofs.RowShapes.{fits_length, no_handles}
use Rattle.program_stepper.proofs.stepper.Stepper.instant.Goals as goal

pub step_node-requires-clause-inputs_fit : goal.step_node-requires-clause-inputs_fit
step_node-requires-clause-inputs_fit c =
    let k = c.requires.stands in
    fits_length (input_shape k.accepted.program) c.args.row.now k.fits ∙ input_count_is k.accepted k.rows c.args.self.now k.stands

pub step_node-requires-clause-no_handles : goal.step_node-requires-clause-no_handles
step_node-requires-clause-no_handles c = let k = c.requires.stands in no_handles (input_shape k.accepted.program) c.args.row.now k.fits

pub returns-clause-steps : goal.returns-clause-steps
returns-clause-steps c = λ p rows h fits.
    let out = row_of c.step_node.new.outputs in (
      gives_last c.accepted_laws.ensures.outputs p rows c.args.self.now h c.args.row.now fits out c.step_node.new.memory c.step_node.ensures.call,
      record {
        ready = record { sound = c.requires.ready.sound; no_async = c.requires.ready.no_async; memory = c.step_node.ensures.of; alone = c.step_node.ensures.alone };
        accepted = h.accepted;
        range = h.range;
        number = h.number;
        node = h.node;
        at = h.at;
        main = h.main;
        planned = h.planned;
        fits = rows_fit c.accepted_laws.ensures.outputs p rows c.args.self.now h c.args.row.now fits out c.step_node.new.memory c.step_node.ensures.call;
        memory = stands_after c.accepted_laws.ensures.outputs p rows c.args.self.now h c.args.row.now fits out c.step_node.new.memory c.step_node.ensures.call;
      },
    )

pub returns-clause-rows : goal.returns-clause-rows
returns-clause-rows c = λ p rows outs h fits g. more_rows p rows outs (row_of c.args.row.now) (row_of c.step_node.new.outputs) g (returns-clause-steps c p rows h fits).0

pub returns-clause-fits : goal.returns-clause-fits
returns-clause-fits c = λ p rows h fits.
    outputs_fit c.accepted_laws.ensures.outputs p rows c.args.self.now h c.args.row.now fits (row_of c.step_node.new.outputs) c.step_node.new.memory c.step_node.ensures.call c.step_node.new.outputs c.step_node.ensures.values
