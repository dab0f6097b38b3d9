use Rattle.std.proofs.Common.{◌≡◌, ◌<◌, ◌+◌, ◌++◌, ◌∷◌, [], length, arith, ap, sym, refl, ◌∙◌, subst, ℕ, ◌/◌, List, set, get_or}
use Rattle.station_rule.specs.declared.view.Entry.{Entry}
use Rattle.station_rule.specs.declared.view.Look.{Look}
use Rattle.station_rule.specs.declared.layout.Site.{Site}
use Rattle.station_rule.specs.Book.{calls, entry_of, slot_of, gen_of, issued, cell_component, EachHandle, IsNarrow, IsUnnamed, InputsLive}
use Rattle.station_rule.specs.Cells.{input_words, words_of, reset_mark}
use Rattle.station_rule.specs.Steps.{Showed}
use Rattle.station_rule.proofs.Offering.{unnamed_later}
use Rattle.station_rule.proofs.Calling.{is_call, words_live, words_ranged}
use Rattle.station_rule.proofs.CellWords.{length-input_words, head_slot, head_generation}
use Rattle.input_queue.proofs.offer.offer_entry.Goals as goal

pub write_all-requires-clause-room : goal.write_all-requires-clause-room
write_all-requires-clause-room g c =
    let i : ℕ = c.args.instance in
    let one = ap (λ m. length (calls i m.0.book)) c.tail-tail.ensures.seat.1 in
    let two = ap (λ m. length (calls i m.0.book)) c.turn-done.ensures.seat.1 in
    let t = c.turn-done.ensures.turn in
    let tail = c.tail-tail.ensures.tail.0 in
    let other = c.if-tail-done.false in
    omega arith

pub publish-requires-clause-room : goal.publish-requires-clause-room
publish-requires-clause-room g c =
    let i : ℕ = c.args.instance in
    let one = ap (λ m. length (calls i m.0.book)) c.tail-tail.ensures.seat.1 in
    let two = ap (λ m. length (calls i m.0.book)) c.turn-done.ensures.seat.1 in
    let three = ap (λ m. length (calls i m.0.book)) c.write_all.ensures.seat.1 in
    let seen = ap (λ m. get_or m.0.seen i 0) c.write_all.ensures.seat.1 in
    let t = c.turn-done.ensures.turn in
    let tail = c.tail-tail.ensures.tail.0 in
    let other = c.if-tail-done.false in
    omega arith

pub head_word-head-requires : goal.head_word-head-requires
head_word-head-requires g c = let few = c.args.station.now.placed.small in let near = c.requires.call.slot in (omega arith)

pub write_all-requires-clause-site : goal.write_all-requires-clause-site
write_all-requires-clause-site g c = let t = c.site-site.ensures in (t.there.0, t.within.0, t.within.1, t.within.2, ap (λ (z : Site). z.parent) t.there.1 ∙ c.requires.call.own)

pub write_all-requires-clause-call : goal.write_all-requires-clause-call
write_all-requires-clause-call g c =
    let i : ℕ = c.args.instance in
    let may = c.requires.call in
    let few = c.args.station.now.placed.narrow in
    let two = ap (λ m. length (calls i m.0.book)) c.turn-done.ensures.seat.1 in
    let one = ap (λ m. length (calls i m.0.book)) c.tail-tail.ensures.seat.1 in
    let tail = c.tail-tail.ensures.tail.0 in (
      ap (λ (z : Site). z.width) c.site-site.ensures.there.1 ∙ may.size,
      c.site-site.ensures.within.4,
      tail ∙ sym (two ∙ one),
      λ j h at. let near = (may.handles j h at).3 in omega arith,
    )

pub publish-requires-clause-whole : goal.publish-requires-clause-whole
publish-requires-clause-whole g c =
    let i : ℕ = c.args.instance in
    let input = c.args.input.now in
    let width = ap (λ (z : Site). z.width) c.site-site.ensures.there.1 ∙ c.requires.call.size in
    let entry = ap (λ m. length m.0.entry) c.write_all.ensures.seat.1 in
    let long = length-input_words input in
    let three = ap (λ m. length (calls i m.0.book)) c.write_all.ensures.seat.1 in
    let two = ap (λ m. length (calls i m.0.book)) c.turn-done.ensures.seat.1 in
    let one = ap (λ m. length (calls i m.0.book)) c.tail-tail.ensures.seat.1 in
    let tail = c.tail-tail.ensures.tail.0 in
    (omega arith, omega arith)

-- the words that were written
pub publish-requires-clause-slot : goal.publish-requires-clause-slot
publish-requires-clause-slot g c =
    let may = c.requires.call in
    let s = c.args.slot in
    let words : List ℕ = words_of (reset_mark c.args.reset) c.args.input.now s.slot s.generation in
    let entry : c.write_all.new.owner.me.0.entry ≡ words = ap (λ m. m.0.entry) c.write_all.ensures.seat.1 ∙ ap (λ (z : ℕ). z ∷ input_words c.args.input.now) c.head_word-head.ensures.word in
    let book : c.write_all.new.owner.me.0.book ≡ c.args.owner.now.seat.me.0.book = ap (λ m. m.0.book) c.write_all.ensures.seat.1 ∙ ap (λ m. m.0.book) c.turn-done.ensures.seat.1 ∙ ap (λ m. m.0.book) c.tail-tail.ensures.seat.1 in
    let few = c.args.station.now.placed.small in
    let near = may.slot in
    let low = c.head_word-head.ensures.low in
    let slot : slot_of words ≡ s.slot = head_slot (reset_mark c.args.reset) s.slot s.generation (omega arith) low in
    let generation : gen_of words ≡ s.generation = head_generation (reset_mark c.args.reset) s.slot s.generation low in (
      subst (λ (z : ℕ). z < c.args.station.now.layout.slots) (sym (ap slot_of entry ∙ slot)) near,
      ap gen_of entry ∙ generation ∙ may.next ∙ (λ y. length (issued (sym (ap slot_of entry ∙ slot) y) (sym book y)) + 1),
    )

pub publish-requires-clause-narrow : goal.publish-requires-clause-narrow
publish-requires-clause-narrow g c = let entry = ap (λ m. m.0.entry) c.write_all.ensures.seat.1 in subst (λ (z : List ℕ). IsNarrow z) (sym entry) c.write_all.ensures.narrow

pub publish-requires-clause-names : goal.publish-requires-clause-names
publish-requires-clause-names g c =
    let i : ℕ = c.args.instance in
    let may = c.requires.call in
    let s = c.args.slot in
    let mark : ℕ = reset_mark c.args.reset in
    let words : List ℕ = words_of mark c.args.input.now s.slot s.generation in
    let book : c.write_all.new.owner.me.0.book ≡ c.args.owner.now.seat.me.0.book = ap (λ m. m.0.book) c.write_all.ensures.seat.1 ∙ ap (λ m. m.0.book) c.turn-done.ensures.seat.1 ∙ ap (λ m. m.0.book) c.tail-tail.ensures.seat.1 in
    let seen : c.write_all.new.owner.me.0.seen ≡ set c.args.owner.now.seat.me.0.seen i (c.turn-done.result / 2) = ap (λ m. m.0.seen) c.write_all.ensures.seat.1 ∙ ap (λ m. m.0.seen) c.turn-done.ensures.seat.1 ∙ ap (λ m. set m.0.seen i (c.turn-done.result / 2)) c.tail-tail.ensures.seat.1 in
    let entry : c.write_all.new.owner.me.0.entry ≡ words = ap (λ m. m.0.entry) c.write_all.ensures.seat.1 ∙ ap (λ (z : ℕ). z ∷ input_words c.args.input.now) c.head_word-head.ensures.word in
    let was = ap (λ m. get_or m.0.seen i 0) c.tail-tail.ensures.seat.1 in
    let t = c.turn-done.ensures.turn in
    let few = c.args.station.now.placed.small in
    let near = may.slot in
    let low = c.head_word-head.ensures.low in
    let slot : slot_of words ≡ s.slot = head_slot mark s.slot s.generation (omega arith) low in
    let un = unnamed_later c.args.owner.now.seat.me.0.book c.args.owner.now.seat.me.0.seen i (c.turn-done.result / 2) s.slot (omega arith) may.unnamed in (
      subst (λ (z : List Entry × List ℕ × ℕ). IsUnnamed z.0 z.1 z.2) (λ y. (sym book y, sym seen y, sym (ap slot_of entry ∙ slot) y)) un,
      subst (λ (z : List Entry × List ℕ). InputsLive z.0 z.1) (λ y. (sym book y, sym entry y)) (words_live c.args.station.now.layout c.args.owner.now.seat.me.0 i mark c.args.input.now s c.args.station.now.placed.narrow (omega arith) low may),
    )

pub publish-requires-clause-components : goal.publish-requires-clause-components
publish-requires-clause-components g c =
    let s = c.args.slot in
    let words : List ℕ = words_of (reset_mark c.args.reset) c.args.input.now s.slot s.generation in
    let entry : c.write_all.new.owner.me.0.entry ≡ words = ap (λ m. m.0.entry) c.write_all.ensures.seat.1 ∙ ap (λ (z : ℕ). z ∷ input_words c.args.input.now) c.head_word-head.ensures.word in
    subst (λ (z : List ℕ). EachHandle z (λ j a b. cell_component a < c.args.station.now.layout.components)) (sym entry)
    (words_ranged c.args.station.now.layout c.args.owner.now.seat.me.0 c.args.instance (reset_mark c.args.reset) c.args.input.now s c.args.station.now.placed.narrow c.requires.call)

pub returns-clause-answer : goal.returns-clause-answer
returns-clause-answer g c =
    let i : ℕ = c.args.instance in
    let o = c.args.owner.now.seat.me.0 in
    let r : ℕ = c.turn-done.result in
    let site = c.site-site.ensures.there.1 in
    let tail = c.tail-tail.ensures.tail.0 in
    let one = c.tail-tail.ensures.seat.1 in
    let two = c.turn-done.ensures.seat.1 in
    let three = c.write_all.ensures.seat.1 in
    let four = c.publish.ensures.1 in
    let look : ℕ → ℕ → Look = λ w n. record { word = w; found = n } in
    let t = c.turn-done.ensures.turn in
    let other = c.if-tail-done.false in
    let long = ap (λ m. length (calls i m.0.book)) one in
    let looks_is : c.publish.new.owner.me.0.looks ≡ (o.looks ++ look c.site-site.result.start c.tail-tail.result ∷ []) ++ look (c.site-site.result.start + 1) r ∷ [] =
    ap (λ m. m.0.looks) four ∙ ap (λ m. m.0.looks) three ∙ ap (λ m. m.0.looks) two ∙ ap (λ m. m.0.looks ++ look (c.site-site.result.start + 1) r ∷ []) one in
    let book : c.turn-done.new.owner.me.0.book ≡ o.book = ap (λ m. m.0.book) two ∙ ap (λ m. m.0.book) one in
    let queue : length (calls i o.book) < r / 2 + c.site-site.result.queue = omega arith in
    let may = c.requires.call in
    let s = c.args.slot in
    let words : List ℕ = words_of (reset_mark c.args.reset) c.args.input.now s.slot s.generation in
    let small = c.args.station.now.placed.small in
    let few = c.args.station.now.placed.narrow in
    let near = may.slot in
    let low = c.head_word-head.ensures.low in (
      r,
      tail,
      refl,
      (
        looks_is ∙ (λ z. (o.looks ++ look (site z).start (tail z) ∷ []) ++ look ((site z).start + 1) r ∷ []),
        ap (λ m. m.0.seen) four ∙ ap (λ m. m.0.seen) three ∙ ap (λ m. m.0.seen) two ∙ ap (λ m. set m.0.seen i (r / 2)) one,
        (let two' = ap (λ m. get_or m.0.seen i 0) four in let three' = ap (λ m. get_or m.0.seen i 0) three in omega arith),
        (let was = ap (λ m. get_or m.0.seen i 0) one in omega arith),
      ),
      subst (Showed g.N.Meaning.stands g.N.Meaning.given c.args.station.now.layout i (r / 2)) (ap (λ m. m.0.book) one) c.turn-done.ensures.state,
      (
        refl,
        (
          entry_of g.N.Meaning.given o.book i words,
          ap (λ m. m.0.book) four ∙ ap (λ m. m.0.book ++ entry_of g.N.Meaning.given m.0.book i m.0.entry ∷ []) three ∙ (λ y. book y ++ entry_of g.N.Meaning.given (book y) i (c.head_word-head.ensures.word y ∷ input_words c.args.input.now) ∷ []),
          is_call g.N.Meaning.given o.book i c.args.reset c.args.input.now s (omega arith) low (λ j h at. let near = (may.handles j h at).3 in omega arith),
        ),
        subst (λ (t : Site). length (calls i o.book) < r / 2 + t.queue) site queue,
        low,
      ),
    )
