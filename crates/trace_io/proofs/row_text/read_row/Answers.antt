use Rattle.std.proofs.Common.{sym, ap, ◌∙◌, arith, length, get_or, subst}
use Rattle.step_objects.specs.declared.shape.Values.{Values}
use Rattle.step_objects.specs.Shapes.{IsCountable}
use Rattle.trace_io.proofs.Fitting.{is_row_fits}
use Rattle.trace_io.proofs.Rows.{one_read, all_read}
use Rattle.trace_io.proofs.row_text.read_row.Goals as goal

pub word_value-requires : goal.word_value-requires
word_value-requires c = subst (λ (t : Values). IsCountable t) (sym c.values-item.is) (c.cells-values-items.ensures.countable c.loop-kept.kept c.values-item.result (omega arith))

pub loop-kept-preserved : goal.loop-kept-preserved
loop-kept-preserved c =
    let same = c.cells-values-items.ensures.cells in
    let item = c.values-item.is ∙ ap (λ types. get_or types c.loop-kept.kept c.values-item.result) same in
    one_read c.args.shape.now c.args.line.now c.loop-kept.out c.loop-kept.kept c.loop-kept.at c.word_start-at-in-loop-kept.result c.values-item.result _ _ c.in-Some.value c.loop-kept.invariant (omega (arith, ap length same)) (omega arith) item
    c.word_end-end.ensures.words (sym c.word_value.ensures ∙ c.in-Some.is) c.word_start-at-in-loop-kept.ensures.words c.word_start-at-in-loop-kept.ensures.within c.word_start-at-in-loop-kept.ensures.start

pub returns : goal.returns
returns c =
    let row = all_read c.args.shape.now c.args.line.now c.loop-kept.out c.loop-kept.kept c.loop-kept.at c.loop-kept.invariant (omega (arith, ap length c.cells-values-items.ensures.cells)) (omega arith) (omega arith) in
    record { row = row; fits = is_row_fits c.args.shape.now c.args.line.now c.loop-kept.out row }
