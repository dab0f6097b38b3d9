use Rattle.std.proofs.Common.{rules, ◌≡◌, ◌≤◌, ◌<◌, ℕ, List, length, set, slice_index, arith, sym, ap, ◌∙◌, length-set, get_or-set_other, get_or-set_same}
use Rattle.std.specs.Prelude.{filter}
use Rattle.std.proofs.lemmas.Fn.{filter_same}
use mathlib.Core.Logic.{dite}
use native.Mathlib.Decide.{ℕ_discrete}
use Rattle.owner_pool.specs.declared.pool.Name.{Name}
use Rattle.owner_pool.specs.Counted.{times}
use Rattle.owner_pool.specs.Noting.{calls, unseen, waits_still, slots_of}
use Rattle.owner_pool.proofs.Names.{unseen_less}
use Rattle.owner_pool.proofs.pool.Pool.see_done.Goals as goal

pub returns-clause-holds : goal.returns-clause-holds
returns-clause-holds c sizes book h near le =
    let me = c.args.self.now in
    let i : ℕ = c.args.instance in
    let done : ℕ = c.args.done in
    let rest = c.unname_done.ensures.rest in
    let seen_is = ap (λ l. l.items) rest.2 in
    let waiting_was = ap (λ l. l.items) rest.3 in
    let m = c.requires in
    let kept : c.retain.new.self.items ≡ filter (waits_still i done) me.waiting.items =
    filter_same _ _ _ (λ x b f' k. search rules) _ _ c.retain.ensures.filtered ∙ ap (filter (waits_still i done)) waiting_was in
    let long : i < length me.seen.items = (let l = h.seen_long in omega arith) in
    let low : slice_index me.seen.items i ≤ done = m.4 in
    let new_seen : List ℕ = set c.unname_done.new.self.seen.items i done in
    let new_is : new_seen ≡ set me.seen.items i done = ap (λ (l : List ℕ). set l i done) seen_is in
    let here : slice_index (set me.seen.items i done) i ≡ done = get_or-set_same me.seen.items i done 0 long in
    record {
      counts = c.unname_done.ensures.counts;
      last_long = ap (λ l. length l.items) rest.1 ∙ (h.last_long ∙ sym (ap length rest.0));
      seen_long = ap length new_is ∙ (length-set me.seen.items i done ∙ h.seen_long);
      roomy = (let r = h.roomy in let s = rest.4 in omega arith);
      called_is = λ z. c.unname_done.ensures.called z ∙ ap (λ (l : List Name). times z (slots_of l)) (sym kept);
      last_is = λ z close. ap (λ l. slice_index l.items z) rest.1 ∙ h.last_is z (let l = ap length rest.0 in omega arith);
      waiting_is = kept ∙ (ap (filter (waits_still i done)) h.waiting_is ∙ (unseen_less me.seen.items book i done long low ∙ ap (λ (l : List ℕ). unseen l book) (sym new_is)));
      fit = h.fit;
      low = λ j. (let now = ap (λ (l : List ℕ). slice_index l j) new_is in dite (ℕ_discrete j i)
          (λ same.
          let a = ap (slice_index (set me.seen.items i done)) same in
          let b = ap (λ (k : ℕ). length (calls k book)) same in omega arith)
          (λ other. let a = get_or-set_other me.seen.items i j done 0 other in let b = h.low j in omega arith));
      high = λ j close. (let now = ap (λ (l : List ℕ). slice_index l j) new_is in let b = h.high j close in dite (ℕ_discrete j i)
          (λ same.
          let a = ap (slice_index (set me.seen.items i done)) same in
          let k = ap (slice_index me.seen.items) same in omega arith)
          (λ other. let a = get_or-set_other me.seen.items i j done 0 other in omega arith));
    }
