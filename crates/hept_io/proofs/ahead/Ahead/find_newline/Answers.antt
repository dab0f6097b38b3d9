use Rattle.std.proofs.Common.{◌≡◌, ◌≤◌, length, take, sym, subst, arith}
use Rattle.std.proofs.Transfers.{starts_with_length}
use Rattle.hept_io.specs.Lines.{HasNoNewline}
use Rattle.hept_io.specs.Unread.{unread}
use Rattle.hept_io.proofs.LineLemmas.{Came-trans}
use Rattle.hept_io.proofs.ahead.Ahead.find_newline.Goals as goal

pub reading-preserved : goal.reading-preserved
reading-preserved g c =
    let bytes = c.bytes-bytes.result.now in
    let same = c.bytes-bytes.ensures.value in
    let came = c.in_ok-fill.ensures.came in
    let long : length bytes ≤ length (unread c.fill.new.self) = rw same (starts_with_length _ _ came.0) in
    let front : take (length bytes) (unread c.fill.new.self) ≡ bytes = rw same came.0 in
    record {
      came = Came-trans _ _ _ _ _ _ c.reading.invariant.came came;
      within = long;
      clean = subst HasNoNewline (sym front) c.in_default.ensures;
      count = omega (arith, c.reading.invariant.count, c.fill.ensures.count);
    }
