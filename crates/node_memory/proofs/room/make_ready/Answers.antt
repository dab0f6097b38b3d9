use Rattle.std.proofs.Common.{◌<◌, length, arith}
use Rattle.std.specs.Prelude.{slice_index_or}
use Rattle.step_cells.specs.declared.cell.Cell.TheVariants as cell
use Rattle.step_engine.proofs.ActionsDone.{cells_set}
use Rattle.node_memory.proofs.Rooms.{ready_here}
use Rattle.node_memory.proofs.room.make_ready.Goals as goal

pub loop-i-preserved : goal.loop-i-preserved
loop-i-preserved c =
    let room : c.loop-i.i < length c.loop-i.futures = omega (arith, c.requires, c.loop-i-test.true, c.loop-i.auto.futures) in
    record {
      ready = λ k lt. ready_here c.args.values.now c.loop-i.futures c.loop-i.i k room c.loop-i.invariant.ready lt;
      named = λ book all. cells_set book c.loop-i.futures c.loop-i.i (cell.Ready (slice_index_or c.args.values.now c.loop-i.i 0)) (c.loop-i.invariant.named book all) tt;
    }
