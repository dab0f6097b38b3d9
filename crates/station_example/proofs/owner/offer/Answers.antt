use Rattle.std.proofs.Common.{length, arith, ap, sym, ◌∙◌}
use Rattle.station_example.proofs.owner.offer.Goals as goal

pub offer_once-requires-clause-owner : goal.offer_once-requires-clause-owner
offer_once-requires-clause-owner c = let b = ap length c.loop.invariant.book in let few = c.requires.owner.1 in (c.loop.invariant.opened, omega arith)

pub offer_once-requires-clause-input : goal.offer_once-requires-clause-input
offer_once-requires-clause-input c = (
  c.requires.input.0,
  λ j h at. (let p = c.requires.input.1 j h at in let t = c.loop.invariant.told h.slot in let k = p.0.told in let l = c.loop.invariant.kept h.slot p.0.told in
      (record { told = omega arith; first = p.0.first; last = p.0.last ∙ sym l }, p.1)),
)
