use Rattle.std.proofs.Common.{map}
use Rattle.hept_ast.specs.Parts.{block_sets}
use Rattle.block_definitions.specs.Defined.{block_gap}
use Rattle.earliest_fault.proofs.Noting.{noted_step, noted_whole}
use Rattle.block_definitions.proofs.cases.note_each_branch.Goals as goal

pub loop-branch-preserved : goal.loop-branch-preserved
loop-branch-preserved c = noted_step (λ b. block_gap (map (λ r. r.now) c.args.seen.now) (map (λ r. r.now) c.args.all.now) b.place.0 (block_sets b.block)) _ _ c.branch-item.result c.branch-item.result _ _ _ c.loop-branch-test.true c.loop-branch.invariant c.branch-item.is c.in_ok-note_gap.ensures

pub returns : goal.returns
returns c = noted_whole (λ b. block_gap (map (λ r. r.now) c.args.seen.now) (map (λ r. r.now) c.args.all.now) b.place.0 (block_sets b.block)) _ _ _ _ c.loop-branch-test.false c.loop-branch.invariant
