use Rattle.std.proofs.Common.{◌≡◌, ◌≢◌, ℕ, ◌+◌, List, length, set, slice_index, arith, ap, refl, length-set, get_or-set_other, get_or-set_same}
use Rattle.owner_pool.specs.Counted.{named_in}
use Rattle.owner_pool.proofs.Splitting.{with_split, any_default}
use Rattle.owner_pool.proofs.counts.SlotCounts.name.Goals as goal

pub returns-then-index-eq1-clause-counts : goal.returns-then-index-eq1-clause-counts
returns-then-index-eq1-clause-counts c =
    let me = c.args.self.now in
    let p = c.requires.counts in
    let near = c.requires.near in
    let called_long = p.called_long in
    let v = c.index_mut.ensures.value in
    let d = any_default me.called.items c.args.slot c.index_mut.result.now 0 (omega arith) in
    let now : c.index_mut.result.now ≡ slice_index me.called.items c.args.slot = omega arith in
    let to : List ℕ = set me.called.items c.args.slot (c.index_mut.result.now + 1) in
    let at : slice_index to c.args.slot ≡ c.index_mut.result.now + 1 = get_or-set_same me.called.items c.args.slot (c.index_mut.result.now + 1) 0 (omega arith) in
    let long = length-set me.called.items c.args.slot (c.index_mut.result.now + 1) in
    let tl = c.if-index-eq0.true in
    let cl = c.if-index-eq1.true in
    let small = p.small in
    let e = any_default me.told.items c.args.slot c.index.result.now 0 near in
    let k = any_default to c.args.slot c.index-then-index-eq0.result.now 0 (omega arith) in
    let others = λ (z : ℕ) (ne : z ≢ c.args.slot). ap (λ (n : ℕ). slice_index me.told.items z + n) (get_or-set_other me.called.items c.args.slot z (c.index_mut.result.now + 1) 0 ne) in
    let split = c.hide.ensures.split (named_in me.told.items me.called.items) (named_in me.told.items to) p.split (omega arith) (omega arith) others in
    with_split (length me.told.items) me.told.items to c.hide.new.self.told.items c.hide.new.self.called.items c.hide.new.self.order.items c.hide.new.self.place.items c.hide.new.self.unnamed
    (ap (λ l. l.items) c.hide.ensures.same.0) (ap (λ l. l.items) c.hide.ensures.same.1) refl (omega arith) (omega arith) c.hide.ensures.order split
