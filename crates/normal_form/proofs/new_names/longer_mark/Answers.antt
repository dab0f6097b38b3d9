use Rattle.std.proofs.Common.{string_bytes, lit<}
use Rattle.normal_form.proofs.NewNames.{mark_more}
use Rattle.normal_form.proofs.new_names.longer_mark.Goals as goal

pub loop-preserved : goal.loop-preserved
loop-preserved c =
    let r = mark_more (string_bytes c.loop.mark) (string_bytes c.push.new.self) _ c.loop.counter c.in_ok-push.ensures.bytes (c.in_ok-push.ensures.ascii (lit< tt)) c.loop.invariant.longer c.loop.invariant.marked in
    record { longer = r.0; marked = r.1 }
