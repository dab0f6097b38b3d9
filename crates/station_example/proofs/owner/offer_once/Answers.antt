use Rattle.std.proofs.Common.{slice_index, arith, ap}
use Rattle.station_rule.specs.Key.{Key}
use Rattle.station_rule.proofs.Pooled.{last_is}
use Rattle.station_example.proofs.Kept.{issued_le}
use Rattle.station_example.proofs.owner.offer_once.Goals as goal

pub free_slot-slot-requires-clause-generations : goal.free_slot-slot-requires-clause-generations
free_slot-slot-requires-clause-generations c z near none =
    let o = c.args.owner.now.seat.me.0 in
    let is = c.requires.owner.0.own in
    let e = is.slots in
    let l = last_is o c.args.pool.now is z (omega arith) in
    let i = issued_le z o.book in
    let few = c.requires.owner.1 in omega arith

pub try_offer-requires-clause-call : goal.try_offer-requires-clause-call
try_offer-requires-clause-call c =
    let is = c.requires.owner.0.own in
    let s = c.free_slot-slot.ensures in
    let slots = is.slots in
    let key = ap (λ (k : Key). k.slots) c.requires.owner.0.seat.1 in
    let near = s.near in
    let one = c.requires.input.0 in
    let width = c.requires.instance.width in
    let none = s.unnamed in record {
      opened = c.requires.owner.0.closed;
      own = c.requires.instance.own;
      size = omega arith;
      slot = omega arith;
      next = s.next;
      unnamed = none;
      handles = λ j h at. (let p = c.requires.input.1 j h at in let told = p.0.told in (p.0.first, p.0.last, (λ e. let t = ap (slice_index c.args.pool.now.counts.told.items) e in omega arith), p.1));
    }
