use Rattle.std.proofs.Common.{◌≤◌, length, arith}
use Rattle.hept_io.proofs.LineLemmas.{Came-more, slice_range-grown}
use Rattle.hept_io.proofs.ahead.Ahead.read_more.Goals as goal

pub returns-clause-came : goal.returns-clause-came
returns-clause-came g c =
    let old = c.args.self.now in
    let n = c.in_ok-n.n in
    let within : old.end ≤ length c.read_at.new.buf.items = omega (arith, c.in_ok-n.ensures.fits, c.read_at.new.buf.ok.0) in
    Came-more _ _ _ _ _ (slice_range-grown old.buf.items c.read_at.new.buf.items old.start old.end n old.ordered within c.read_at.ensures.front) c.in_ok-n.ensures.taken
