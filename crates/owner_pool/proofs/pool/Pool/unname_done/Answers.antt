use Rattle.std.proofs.Common.{rules, ◌≡◌, ◌+◌, ◌<◌, Bool, true, false, length, drop, arith, ◌∙◌}
use Rattle.owner_pool.specs.declared.pool.Name.{Name}
use Rattle.owner_pool.specs.Noting.{slots_of, waits_still}
use Rattle.owner_pool.proofs.Names.{times_first, within, pass_gone, pass_kept, pass_rest}
use Rattle.owner_pool.proofs.pool.Pool.unname_done.Goals as goal

pub unname-requires-clause-near : goal.unname-requires-clause-near
unname-requires-clause-near c =
    let s = c.loop-at.self in
    let n = c.index.result.now in
    let next = pass_rest s.waiting.items c.loop-at.at n.slot n (search rules) c.index.ensures in
    let first = times_first n.slot (slots_of (drop (c.loop-at.at + 1) s.waiting.items)) in
    let is = c.loop-at.invariant.called n.slot in
    let long = c.loop-at.invariant.counts.called_long in
    let near = within s.counts.called.items n.slot (omega arith) in omega arith

pub loop-at-preserved : goal.loop-at-preserved
loop-at-preserved c =
    let s = c.loop-at.self in
    let n = c.index.result.now in
    let v = c.loop-at.invariant in
    let p : Name → Bool = waits_still c.args.instance c.args.done in
    let near : c.loop-at.at < length s.waiting.items = search rules in
    elim c.if-not-waits_still.branch [
      | goal.then-not-waits_still w ↦ rw w.self-is (
          let gone : p n ≡ false = search rules in
          let e = w.unname.ensures in
          record {
            counts = e.counts;
            called = λ z. (let was = v.called z in let now = e.called z in
                let a = pass_gone p s.waiting.items c.loop-at.at z n near c.index.ensures gone in
                let b = pass_rest s.waiting.items c.loop-at.at z n near c.index.ensures in omega arith);
            rest = (e.told ∙ v.rest.0, v.rest.1, v.rest.2, v.rest.3, v.rest.4);
          })
      | goal.else-not-waits_still w ↦ rw w.self-is (
          let kept : p n ≡ true = search rules in
          record {
            counts = v.counts;
            called = λ z. (let was = v.called z in
                let a = pass_kept p s.waiting.items c.loop-at.at z n near c.index.ensures kept in
                let b = pass_rest s.waiting.items c.loop-at.at z n near c.index.ensures in omega arith);
            rest = v.rest;
          })
    ]
