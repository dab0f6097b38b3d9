use Rattle.std.proofs.Common.{ap, ◌∙◌, arith, cond, vec_len, ◌++◌, [], ◌∷◌}
use Rattle.std.specs.Result.{is_ok}
use Rattle.trace_io.proofs.RowLine.{fits_length, value_fits, one_more, room_kept, whole_row}
use Rattle.trace_io.proofs.output_text.put_row.Goals as goal

-- src/output_text.rt:115:50
pub bounds-cells-k : goal.bounds-cells-k
bounds-cells-k c = omega (arith, fits_length c.args.shape.now c.args.cells.now c.requires.fits)

-- src/output_text.rt:115:9
pub put_value-requires-clause-value : goal.put_value-requires-clause-value
put_value-requires-clause-value c = value_fits c.args.shape.now c.args.cells.now c.loop-k.k c.index-shape-k.result _ c.value.result c.requires.fits c.loop-k-test.true c.index-shape-k.is c.value.ensures

-- src/output_text.rt:114:5
pub loop-k-preserved : goal.loop-k-preserved
loop-k-preserved c = (
  one_more c.args.shape.now c.args.cells.now c.loop-k.k c.index-shape-k.result _ c.value.result c.loop-k.text.items c.put_value.new.text.items c.requires.fits c.loop-k-test.true c.index-shape-k.is c.value.ensures c.loop-k.invariant.0 c.put_value.ensures.text,
  room_kept c.args.shape.now c.loop-k.k c.index-shape-k.result (vec_len c.put_value.new.text) (vec_len c.loop-k.text) c.loop-k-test.true c.index-shape-k.is c.put_value.ensures.len c.loop-k.invariant.1,
  omega (arith, c.loop-k.invariant.2, c.put_value.ensures.capacity),
)

-- src/output_text.rt:107:1
pub returns-clause-text : goal.returns-clause-text
returns-clause-text c =
    let text = c.loop-k.text.items in
    c.push.ensures.items
    ∙ ap (λ r. cond (is_ok r) (text ++ 10 ∷ []) text) c.unwrap.ensures
    ∙ ap (λ text. text ++ 10 ∷ []) c.loop-k.invariant.0
    ∙ whole_row c.args.shape.now c.args.cells.now c.loop-k.k c.requires.fits c.loop-k-test.false
