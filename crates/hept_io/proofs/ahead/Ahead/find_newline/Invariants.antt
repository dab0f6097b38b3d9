use Rattle.std.proofs.Common.{◌-◌, ◌≤◌, length, take}
use Rattle.hept_io.specs.Lines.{HasNoNewline}
use Rattle.hept_io.specs.Unread.{Came, unread}
use Rattle.hept_io.proofs.ahead.Ahead.find_newline.Given as goal

abbrev pub invariant-reading : goal.invariant-reading
invariant-reading g l = record {
  came : Came (unread l.initial.self) (unread l.self) (g.S.Source.left l.initial.source) (g.S.Source.left l.source);
  within : l.searched ≤ length (unread l.self);
  clean : HasNoNewline (take l.searched (unread l.self));
  count : g.S.Source.faults l.initial.source ≤ g.S.Source.faults l.source;
}

abbrev pub decreases-reading : goal.decreases-reading
decreases-reading g l = 65536 - length (unread l.self)
