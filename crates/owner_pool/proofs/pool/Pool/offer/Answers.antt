use Rattle.std.proofs.Common.{◌≡◌, ◌<◌, ◌+◌, ℕ, List, [], ◌∷◌, ◌++◌, length, set, slice_index, arith, sym, ap, ◌∙◌, length-set, get_or-set_other, get_or-set_same}
use mathlib.Core.Logic.{dite}
use native.Mathlib.Decide.{ℕ_discrete}
use Rattle.owner_pool.specs.declared.pool.Name.{Name}
use Rattle.owner_pool.specs.Counted.{times}
use Rattle.owner_pool.specs.Noting.{Call, cell_slots, unseen, named_by, slots_of}
use Rattle.owner_pool.proofs.Splitting.{any_default}
use Rattle.owner_pool.proofs.Names.{length-issued_hit, length-issued_miss, unseen_push, times-append, slots_of-append, slots_of-named_by}
use Rattle.owner_pool.proofs.Offering.{fit_push, low_push, high_push, names_room}
use Rattle.owner_pool.proofs.pool.Pool.offer.Goals as goal

pub push_names-requires-clause-room : goal.push_names-requires-clause-room
push_names-requires-clause-room c =
    let me = c.args.self.now in
    let m = c.requires in
    let h = m.2 in
    let call : Call = record { instance = c.args.instance; slot = c.args.slot; inputs = cell_slots c.args.input.now } in
    let r = names_room m.0 me.seen.items m.1 call h.fit m.3.fits h.low h.high m.3.waits in
    let w = ap length h.waiting_is in
    let roomy = h.roomy in omega arith

pub returns-clause-holds : goal.returns-clause-holds
returns-clause-holds c sizes book h can =
    let me = c.args.self.now in
    let slot : ℕ = c.args.slot in
    let call : Call = record { instance = c.args.instance; slot = slot; inputs = cell_slots c.args.input.now } in
    let e = c.push_names.ensures in
    let told = ap length e.rest.0 in
    let seen_is = ap (λ l. l.items) e.rest.2 in
    let last_was = ap (λ l. l.items) e.rest.1 in
    let v = c.index_mut.ensures.value in
    let d = any_default c.push_names.new.self.last.items slot c.index_mut.result.now 0 (let l = ap length last_was in let k = h.last_long in let o = can.own in omega arith) in
    let was : c.index_mut.result.now ≡ slice_index me.last.items slot = (let s = ap (λ (l : List ℕ). slice_index l slot) last_was in omega arith) in
    let new : ℕ = c.index_mut.result.now + 1 in
    let last_is : set c.push_names.new.self.last.items slot new ≡ set me.last.items slot new = ap (λ (l : List ℕ). set l slot new) last_was in
    let number : List Name = named_by c.args.instance c.args.number (slot ∷ cell_slots c.args.input.now) in
    let numbered = ap (λ (n : ℕ). named_by c.args.instance n (slot ∷ cell_slots c.args.input.now)) can.numbered in
    record {
      counts = e.counts;
      last_long = ap length last_is ∙ (length-set me.last.items slot new ∙ (h.last_long ∙ sym told));
      seen_long = ap length seen_is ∙ h.seen_long;
      roomy = (let r = h.roomy in let s = e.rest.3 in omega arith);
      called_is = e.called;
      last_is = λ z close.
          (let now = ap (λ (l : List ℕ). slice_index l z) last_is in
          let old = h.last_is z (omega arith) in
          let near : slot < length me.last.items = (let k = h.last_long in let o = can.own in omega arith) in
          dite (ℕ_discrete slot z)
          (λ same.
          let a = length-issued_hit z book call same in
          let b = ap (slice_index (set me.last.items slot new)) (sym same) ∙ get_or-set_same me.last.items slot new 0 near in
          let k = ap (slice_index me.last.items) same in omega arith)
          (λ other.
          let a = length-issued_miss z book call other in
          let b = get_or-set_other me.last.items slot z new 0 (λ x. other (sym x)) in omega arith));
      waiting_is = e.waiting ∙ (ap (λ (l : List Name). l ++ number) h.waiting_is ∙ (ap (λ (l : List Name). unseen me.seen.items book ++ l) numbered ∙ (sym (unseen_push me.seen.items book call (h.low c.args.instance)) ∙ ap (λ (l : List ℕ). unseen l (book ++ call ∷ [])) (sym seen_is))));
      fit = fit_push sizes book call h.fit can.fits;
      low = λ i. (let s = ap (λ (l : List ℕ). slice_index l i) seen_is in let l = low_push sizes me.seen.items book call h.low i in omega arith);
      high = λ i near. (let s = ap (λ (l : List ℕ). slice_index l i) seen_is in let l = high_push sizes me.seen.items book call h.high can.waits i near in omega arith);
    }

pub returns-clause-called : goal.returns-clause-called
returns-clause-called c z =
    let me = c.args.self.now in
    let slots : List ℕ = c.args.slot ∷ cell_slots c.args.input.now in
    let e = c.push_names.ensures in
    let was = c.requires.2.called_is z in
    let now = e.called z in
    let names : List Name = named_by c.args.instance c.args.number slots in
    let all = ap (λ (l : List Name). times z (slots_of l)) e.waiting ∙ (ap (times z) (slots_of-append me.waiting.items names) ∙ times-append z (slots_of me.waiting.items) (slots_of names)) in
    let own = ap (times z) (slots_of-named_by c.args.instance c.args.number slots) in
    omega arith

pub returns-clause-last : goal.returns-clause-last
returns-clause-last c =
    let me = c.args.self.now in
    let slot : ℕ = c.args.slot in
    let h = c.requires.2 in
    let e = c.push_names.ensures in
    let last_was = ap (λ l. l.items) e.rest.1 in
    let v = c.index_mut.ensures.value in
    let d = any_default c.push_names.new.self.last.items slot c.index_mut.result.now 0 (let l = ap length last_was in let k = h.last_long in let o = c.requires.3.own in omega arith) in
    let was : c.index_mut.result.now ≡ slice_index me.last.items slot = (let s = ap (λ (l : List ℕ). slice_index l slot) last_was in omega arith) in
    λ y. set (last_was y) slot (was y + 1)
