use Rattle.std.proofs.Common.{◌++◌, [], ◌∷◌, ◌∙◌, List, sym, subst}
use Rattle.step_objects.specs.declared.shape.Values.{Values}
use Rattle.step_cells.specs.declared.cell.Cell.{Cell}
use Rattle.step_objects.specs.Shapes.{FitsShape}
use Rattle.step_cells.specs.Cells.{row_of}
use Rattle.step_objects.specs.Interfaces.{input_shape}
use Rattle.program_stepper.specs.Stepping.{GivesRows, Stands}
use Rattle.hepasync_top.proofs.NextOutputs.{written_back}
use Rattle.program_stepper.proofs.RowShapes.{fitting_row}
use Rattle.hepasync_top.proofs.machine.Machine.step.Goals as goal

pub instant-requires-clause-stands : goal.instant-requires-clause-stands
instant-requires-clause-stands c =
    let k = c.requires.can.program in
    record {
      accepted = k.accepted;
      rows = k.rows;
      stands = k.stands;
      fits = fitting_row c.args.self.now.inputs (input_shape k.accepted.program) c.args.self.now.row.items c.as_slice.result.now k.input_shape c.as_slice.ensures.value c.requires.row;
    }

pub returns-clause-can : goal.returns-clause-can
returns-clause-can c =
    let can = c.requires.can in
    let k = can.program in
    let fits = fitting_row c.args.self.now.inputs (input_shape k.accepted.program) c.args.self.now.row.items c.as_slice.result.now k.input_shape c.as_slice.ensures.value c.requires.row in
    record {
      goes_on = can.goes_on;
      ready = c.instant.ensures.ready;
      program = record {
        accepted = k.accepted;
        rows = k.rows ++ row_of c.as_slice.result.now ∷ [];
        stands = (c.instant.ensures.steps k.accepted k.rows k.stands fits).1;
        input_shape = k.input_shape;
        output_shape = k.output_shape;
      };
      inputs = can.inputs ∙ sym c.instant.ensures.inputs;
      few = can.few;
      row = can.row ∙ sym c.instant.ensures.inputs;
      outputs = can.outputs ∙ sym c.instant.ensures.outputs;
      values = can.values ∙ sym c.instant.ensures.outputs;
      writer = can.writer;
    }

pub returns-clause-done : goal.returns-clause-done
returns-clause-done c = λ a rows outs h.
    let row = c.args.self.now.row.items in
    let out = c.instant.new.out in
    let read = c.as_slice.ensures.value in
    let written = written_back c.args.self.now.values.items out c.args.self.now.values.len (sym (c.instant.auto.out ∙ c.as_mut_slice.ensures.len)) in
    let fits = fitting_row c.args.self.now.inputs (input_shape a.program) row c.as_slice.result.now h.input_shape read c.requires.row in
    record {
      runs = h.runs;
      stands = subst (λ (r : List Cell). Stands a (rows ++ row_of r ∷ []) c.instant.new.self) read (c.instant.ensures.steps a rows h.stands fits).1;
      outputs = subst (λ (o : List Cell). GivesRows a (rows ++ row_of row ∷ []) (outs ++ row_of o ∷ [])) (sym written)
          (subst (λ (r : List Cell). GivesRows a (rows ++ row_of r ∷ []) (outs ++ row_of out ∷ [])) read (c.instant.ensures.rows a rows outs h.stands fits h.outputs));
      input_shape = h.input_shape;
      output_shape = h.output_shape;
    }

pub returns-clause-fits : goal.returns-clause-fits
returns-clause-fits c =
    let k = c.requires.can.program in
    let out = c.instant.new.out in
    let written = written_back c.args.self.now.values.items out c.args.self.now.values.len (sym (c.instant.auto.out ∙ c.as_mut_slice.ensures.len)) in
    let fits = fitting_row c.args.self.now.inputs (input_shape k.accepted.program) c.args.self.now.row.items c.as_slice.result.now k.input_shape c.as_slice.ensures.value c.requires.row in
    subst (λ (cells : List Cell). FitsShape c.args.self.now.outputs cells) (sym written)
    (subst (λ (shape : List Values). FitsShape shape out) (sym k.output_shape) (c.instant.ensures.fits k.accepted k.rows k.stands fits))
