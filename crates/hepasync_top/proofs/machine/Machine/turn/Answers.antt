use Rattle.std.proofs.Common.{◌∙◌, ◌≤◌, length, sym, subst, List}
use Rattle.hept_io.specs.Lines.{Reading}
use Rattle.std.specs.Io.KnownBytes.{Appends}
use Rattle.step_objects.specs.declared.shape.Values.{Values}
use Rattle.step_cells.specs.declared.cell.Cell.{Cell}
use Rattle.step_cells.specs.Cells.{row_of}
use Rattle.trace_io.specs.OutputText.{row_line, AppendsPart}
use Rattle.step_objects.specs.Shapes.{FitsShape}
use Rattle.hepasync_top.proofs.LineSteps.{loses_row}
use Rattle.hepasync_top.proofs.NextOutputs.{written_back}
use Rattle.hepasync_top.proofs.machine.Machine.turn.Goals as goal

pub step-requires-clause-can : goal.step-requires-clause-can
step-requires-clause-can g c =
    let can = c.requires in
    let k = can.program in
    record {
      goes_on = c.in_ok-read_line.ensures.row.0;
      ready = can.ready;
      program = record { accepted = k.accepted; rows = k.rows; stands = k.stands; input_shape = k.input_shape; output_shape = k.output_shape };
      inputs = can.inputs;
      few = can.few;
      row = can.row;
      outputs = can.outputs;
      values = can.values;
      writer = can.writer;
    }

pub step-requires-clause-row : goal.step-requires-clause-row
step-requires-clause-row g c =
    subst (λ (cells : List Cell). FitsShape c.args.self.now.inputs cells) (sym (written_back c.args.self.now.row.items c.read_line.new.row c.args.self.now.row.len (sym (c.read_line.auto.row ∙ c.as_mut_slice-row.ensures.len))))
    c.in_ok-read_line.ensures.fits

pub returns-in-Ok-clause-turns : goal.returns-in-Ok-clause-turns
returns-in-Ok-clause-turns g c = λ a rows outs h.
    let done = c.step.ensures.done a rows outs (record { runs = h.runs; stands = h.stands; outputs = h.outputs; input_shape = h.input_shape; output_shape = h.output_shape }) in (
      _,
      _,
      record { runs = done.runs; stands = done.stands; outputs = done.outputs; input_shape = done.input_shape; output_shape = done.output_shape },
      loses_row c.args.self.now.inputs _ _ _ c.args.self.now.row.items c.read_line.new.row c.read_line.new.reader _ _ h.input_shape (sym (c.read_line.auto.row ∙ c.as_mut_slice-row.ensures.len)) c.step.ensures.reader c.in_ok-read_line.ensures.row.2,
      subst (λ (shape : List Values). Appends (g.K.Sink.held c.args.out.now) (g.K.Sink.held c.row.new.sink) (row_line shape (row_of c.step.new.self.values.items))) done.output_shape
          (subst (λ (out : List Cell). Appends (g.K.Sink.held c.args.out.now) (g.K.Sink.held c.row.new.sink) (row_line c.step.new.self.outputs (row_of out))) c.as_slice.ensures.value c.in-Ok.ensures.written),
    )

pub returns-in-Err-clause-turns : goal.returns-in-Err-clause-turns
returns-in-Err-clause-turns g c = λ a rows outs h.
    let done = c.step.ensures.done a rows outs (record { runs = h.runs; stands = h.stands; outputs = h.outputs; input_shape = h.input_shape; output_shape = h.output_shape }) in (
      _,
      _,
      done.outputs,
      loses_row c.args.self.now.inputs _ _ _ c.args.self.now.row.items c.read_line.new.row c.read_line.new.reader _ _ h.input_shape (sym (c.read_line.auto.row ∙ c.as_mut_slice-row.ensures.len)) c.step.ensures.reader c.in_ok-read_line.ensures.row.2,
      subst (λ (reader : Reading). length reader.pending ≤ 65536) (sym c.step.ensures.reader) c.in_ok-read_line.ensures.row.1,
      subst (λ (shape : List Values). AppendsPart (g.K.Sink.held c.args.out.now) (g.K.Sink.held c.row.new.sink) (row_line shape (row_of c.step.new.self.values.items))) done.output_shape
          (subst (λ (out : List Cell). AppendsPart (g.K.Sink.held c.args.out.now) (g.K.Sink.held c.row.new.sink) (row_line c.step.new.self.outputs (row_of out))) c.as_slice.ensures.value c.in-Err.ensures.part),
    )
