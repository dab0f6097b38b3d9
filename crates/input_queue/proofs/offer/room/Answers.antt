use Rattle.std.proofs.Common.{◌<◌, ℕ, length, set, map, ap, sym, ◌∙◌, arith}
use Rattle.station_rule.specs.Key.{Key}
use Rattle.station_rule.specs.declared.view.View.{View}
use Rattle.station_rule.specs.Pools.{sizes_of, noted}
use Rattle.station_rule.proofs.Pooled.{as_many_calls, sizes_long}
use Rattle.input_queue.proofs.Looked.{looked}
use Rattle.input_queue.proofs.offer.room.Goals as goal

pub see_done-requires : goal.see_done-requires
see_done-requires g c =
    let v : View = c.args.owner.now.seat.me.0 in
    let i : ℕ = c.args.instance in
    let is = c.requires.pool in
    let sites = ap (λ (k : Key). length k.sites) c.requires.owner.0.1 in
    let there = c.requires.owner.2 in
    let long = sizes_long v.layout.sites in
    let many = as_many_calls i v.book in
    let n = c.counts-tail.ensures.counts in
    let tail = n.0 in
    let low = n.1 in
    let le = n.3 in
    let behind = is.behind i in
    (sizes_of v.layout.sites, map noted v.book, is.holds, omega arith, omega arith, omega arith)

pub returns-clause-pool : goal.returns-clause-pool
returns-clause-pool g c =
    let v : View = c.args.owner.now.seat.me.0 in
    let w : View = c.counts-tail.new.owner.seat.me.0 in
    let i : ℕ = c.args.instance in
    let done : ℕ = c.counts-tail.result.1 in
    let is = c.requires.pool in
    let sites = ap (λ (k : Key). length k.sites) c.requires.owner.0.1 in
    let there = c.requires.owner.2 in
    let near : i < length v.layout.sites = omega arith in
    let long = sizes_long v.layout.sites in
    let many = as_many_calls i v.book in
    let n = c.counts-tail.ensures.counts in
    let tail = n.0 in
    let le = n.3 in
    let seat = c.counts-tail.ensures.seat in
    let look = c.counts-tail.ensures.looks in
    let e = c.see_done.ensures in
    looked v w c.args.pool.now c.see_done.new.self i done is near seat.3 seat.1 (look.3 ∙ ap (λ (m : ℕ). set v.seen i m) (sym look.1)) n.2
    (e.holds (sizes_of v.layout.sites) (map noted v.book) is.holds (omega arith) (omega arith)) e.seen (ap length e.rest.0)
