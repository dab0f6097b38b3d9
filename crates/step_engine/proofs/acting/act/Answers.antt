use Rattle.std.proofs.Common.{◌≡◌, inl, inr, Some, length, sym, subst}
use Rattle.std.specs.Prelude.{slice_get, slice_index}
use Rattle.step_engine.specs.Actions.{IsOwned}
use Rattle.step_engine.proofs.ActionsDone.{computed_step, moved_step, moved_owned, got_step, get_within, offer_at, offered_step, cleared_step, offered_owned, cleared_owned, owned_later}
use Rattle.step_engine.proofs.Passing.{is_one, same_book_grows}
use Rattle.step_engine.proofs.acting.act.Goals as goal

pub returns-in-Compute : goal.returns-in-Compute
returns-in-Compute g c = λ book st owned. (
  book,
  st,
  owned,
  computed_step c.args.offerings.now c.args.cells.now c.args.marks.now c.args.values.now c.args.futures.now book (length c.args.input.now) c.in-Compute.to c.value_of-value.result c.in-Compute.instruction c.args.action.now c.in-Compute.is
      c.value_of-value.ensures owned c.requires.within c.requires.offerings,
)

pub returns-in-Move : goal.returns-in-Move
returns-in-Move g c = λ book st owned. (
  book,
  st,
  moved_owned c.args.offerings.now c.args.cells.now c.args.marks.now c.args.values.now c.args.futures.now book (length c.args.input.now) c.in-Move.to c.cell_of-future.result c.in-Move.instruction c.args.action.now c.in-Move.is
      c.cell_of-future.ensures c.requires.within owned,
  moved_step c.args.offerings.now c.args.cells.now c.args.marks.now c.args.values.now c.args.futures.now book (length c.args.input.now) c.in-Move.to c.cell_of-future.result c.in-Move.instruction c.args.action.now c.in-Move.is
      c.cell_of-future.ensures owned c.requires.within c.requires.offerings,
)

pub returns-in-Offer : goal.returns-in-Offer
returns-in-Offer g c = λ book st owned.
    let o = c.index-offerings-k.result in
    let at : slice_get c.args.offerings.now c.in-Offer.k ≡ Some o =
    offer_at c.args.offerings.now c.args.cells.now c.args.marks.now c.args.values.now c.args.futures.now book (length c.args.input.now) c.in-Offer.k o _ c.args.action.now c.in-Offer.is c.index-offerings-k.is c.requires.within in
    elim (is_one (slice_index c.args.values.now o.here)) [
      | inl e ↦
          let h = c.offered.ensures.here e in
          let b = h.2 book st in (
            b.0,
            b.1,
            subst (IsOwned c.args.offerings.now b.0) (sym h.1) (offered_owned c.args.offerings.now c.in-Offer.k o _ _ c.args.futures.now h.0 book b.0 at b.2 owned),
            offered_step c.args.offerings.now c.args.cells.now c.args.marks.now c.args.values.now c.args.futures.now book (length c.args.input.now) c.in-Offer.k o c.args.action.now c.offered.new.futures h.0 b.0 c.in-Offer.is at e
                h.1 b.2 owned c.requires.within c.requires.offerings,
          )
      | inr ne ↦
          let n = c.offered.ensures.not_here ne in (
            book,
            subst (λ s. g.C.Offers.stands s book) (sym n.1) st,
            subst (IsOwned c.args.offerings.now book) (sym n.0) (cleared_owned c.args.offerings.now book c.args.futures.now o.first o.outputs owned),
            cleared_step c.args.offerings.now c.args.cells.now c.args.marks.now c.args.values.now c.args.futures.now book (length c.args.input.now) c.in-Offer.k o c.args.action.now c.offered.new.futures c.in-Offer.is at ne
                n.0 owned c.requires.within c.requires.offerings,
          )
    ]

pub returns-in-Get : goal.returns-in-Get
returns-in-Get g c = λ book st owned.
    let lt = get_within c.args.offerings.now c.args.cells.now c.args.marks.now c.args.values.now c.args.futures.now book (length c.args.input.now) c.in-Get.to c.in-Get.here c.in-Get.future c.args.action.now c.in-Get.is c.requires.within in
    let x = c.got-value.ensures book st (owned.named c.in-Get.future _ lt) in (
      x.1,
      x.2,
      owned_later c.args.offerings.now book x.1 c.args.futures.now (same_book_grows book x.1 x.3) owned,
      got_step c.args.offerings.now c.args.cells.now c.args.marks.now c.args.values.now c.args.futures.now book (length c.args.input.now) c.in-Get.to c.in-Get.here c.in-Get.future c.got-value.result _ c.args.action.now x.1 c.in-Get.is
          x.0 x.3 owned c.requires.within c.requires.offerings,
    )
