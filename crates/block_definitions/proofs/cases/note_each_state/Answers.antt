use Rattle.std.proofs.Common.{map}
use Rattle.hept_ast.specs.Parts.{block_sets}
use Rattle.block_definitions.specs.Defined.{block_gap}
use Rattle.earliest_fault.proofs.Noting.{noted_step, noted_whole}
use Rattle.block_definitions.proofs.cases.note_each_state.Goals as goal

pub loop-state-preserved : goal.loop-state-preserved
loop-state-preserved c = noted_step (λ q. block_gap (map (λ r. r.now) c.args.seen.now) (map (λ r. r.now) c.args.all.now) q.place.0 (block_sets q.block)) _ _ c.state-item.result c.state-item.result _ _ _ c.loop-state-test.true c.loop-state.invariant c.state-item.is c.in_ok-note_gap.ensures

pub returns : goal.returns
returns c = noted_whole (λ q. block_gap (map (λ r. r.now) c.args.seen.now) (map (λ r. r.now) c.args.all.now) q.place.0 (block_sets q.block)) _ _ _ _ c.loop-state-test.false c.loop-state.invariant
