use Rattle.std.proofs.Common.{◌≡◌, ◌≢◌, ℕ, ◌+◌, ◌-◌, List, length, set, slice_index, arith, ap, sym, subst, refl, length-set, get_or-set_other, get_or-set_same}
use Rattle.owner_pool.specs.Counted.{IsSplit, named_in}
use Rattle.owner_pool.proofs.Splitting.{with_split, any_default}
use Rattle.owner_pool.proofs.counts.SlotCounts.lower.Goals as goal

pub returns-then-index-eq0-2-clause-counts : goal.returns-then-index-eq0-2-clause-counts
returns-then-index-eq0-2-clause-counts c =
    let me = c.args.self.now in
    let p = c.requires.counts in
    let near = c.requires.near in
    let told = c.requires.told in
    let v = c.index_mut.ensures.value in
    let d = any_default me.told.items c.args.slot c.index_mut.result.now 0 near in
    let now : c.index_mut.result.now ≡ slice_index me.told.items c.args.slot = omega arith in
    let to : List ℕ = set me.told.items c.args.slot (c.index_mut.result.now - 1) in
    let at : slice_index to c.args.slot ≡ c.index_mut.result.now - 1 = get_or-set_same me.told.items c.args.slot (c.index_mut.result.now - 1) 0 near in
    let long = length-set me.told.items c.args.slot (c.index_mut.result.now - 1) in
    let tl = c.if-index-eq0.true in
    let cl = c.if-index-eq0-2.true in
    let called_long = p.called_long in
    let small = p.small in
    let e = any_default to c.args.slot c.index.result.now 0 (omega arith) in
    let k = any_default me.called.items c.args.slot c.index-then-index-eq0.result.now 0 (omega arith) in
    let others = λ (z : ℕ) (ne : z ≢ c.args.slot). ap (λ (n : ℕ). n + slice_index me.called.items z) (get_or-set_other me.told.items c.args.slot z (c.index_mut.result.now - 1) 0 ne) in
    let split = c.show.ensures.split (named_in me.told.items me.called.items) (named_in to me.called.items) (subst (λ (n : ℕ). IsSplit n (named_in me.told.items me.called.items) me.place.items me.unnamed) (sym long) p.split) (omega arith) (omega arith) others in
    with_split (length to) to me.called.items c.show.new.self.told.items c.show.new.self.called.items c.show.new.self.order.items c.show.new.self.place.items c.show.new.self.unnamed
    (ap (λ l. l.items) c.show.ensures.same.0) (ap (λ l. l.items) c.show.ensures.same.1) refl (omega arith) (omega arith) c.show.ensures.order split
