use Rattle.std.proofs.Common.{rules, ◌≡◌, replicate, arith, ◌∙◌}
use Rattle.owner_pool.proofs.Splitting.{new_counts}
use Rattle.owner_pool.proofs.counts.SlotCounts.new.Goals as goal

pub returns-clause-counts : goal.returns-clause-counts
returns-clause-counts c =
    let told : c.in_ok-told.told.items ≡ replicate c.args.slots 0 = search rules in
    let called : c.in_ok-called.called.items ≡ replicate c.args.slots 0 = search rules in
    let end : c.loop-slot.slot ≡ c.args.slots = omega arith in
    let i = c.loop-slot.invariant in
    new_counts c.args.slots c.in_ok-told.told.items c.in_ok-called.called.items c.loop-slot.order.items c.loop-slot.place.items (omega arith) told called (i.order_long ∙ end) (i.place_long ∙ end) (λ k near. i.order_is k (omega arith)) (λ k near. i.place_is k (omega arith))
