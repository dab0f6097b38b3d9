use Rattle.std.proofs.Common.{◌∙◌}
use Rattle.station_example.proofs.owner.offer_pair.Goals as goal

pub returns-then-is_none-clause-owner : goal.returns-then-is_none-clause-owner
returns-then-is_none-clause-owner c =
    let f = c.in-Some.ensures.owner in
    let o = c.offer-second.ensures.owner in (
      (o.0.0 ∙ f.0.0, o.0.1 ∙ f.0.1),
      record { seat = o.1.seat; offers = o.1.offers; entry = o.1.entry; closed = o.1.closed; own = c.change-2.ensures.pool c.offer-second.new.owner.seat.me.0 o.1.own },
    )

pub returns-else-is_none-clause-owner : goal.returns-else-is_none-clause-owner
returns-else-is_none-clause-owner c =
    let f = c.in-Some.ensures.owner in
    let o = c.offer-second.ensures.owner in (
      (o.0.0 ∙ f.0.0, o.0.1 ∙ f.0.1),
      record { seat = o.1.seat; offers = o.1.offers; entry = o.1.entry; closed = o.1.closed; own = c.change-2.ensures.pool c.offer-second.new.owner.seat.me.0 o.1.own },
    )
