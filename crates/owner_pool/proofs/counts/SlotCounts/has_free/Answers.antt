use Rattle.std.proofs.lemmas.Bool.{ltb-true, lt-ltb}
use Rattle.owner_pool.proofs.Splitting.{some_free, some_top}
use Rattle.owner_pool.proofs.counts.SlotCounts.has_free.Goals as goal

pub returns : goal.returns
returns c =
    let me = c.args.self.now in (
      λ is. some_top me.told.items me.called.items me.order.items me.place.items me.unnamed c.requires (ltb-true 0 me.unnamed is),
      λ z. lt-ltb 0 me.unnamed (some_free me.told.items me.called.items me.order.items me.place.items me.unnamed z.0 c.requires z.1 z.2),
    )
