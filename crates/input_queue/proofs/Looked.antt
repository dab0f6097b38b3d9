-- The pool stays the owner's after a look, and after a call that was offered.
use Rattle.std.proofs.Common.{◌≡◌, ℕ, ◌+◌, ◌/◌, ◌^◌, ◌<◌, ◌≤◌, List, [], ◌∷◌, ◌++◌, map, length, set, slice_index, sym, ap, ◌∙◌, subst, arith, get_or-set_other, get_or-set_same}
use mathlib.Core.Logic.{dite}
use native.Mathlib.Decide.{ℕ_discrete}
use Rattle.step_cells.specs.declared.cell.Cell.{Cell}
use Rattle.step_cells.specs.declared.cell.Cell.TheVariants.{Value, Ready, Held}
use Rattle.owner_pool.specs.declared.pool.Pool.{Pool}
use Rattle.owner_pool.specs.Noting.{Call, cell_slots}
use Rattle.owner_pool.specs.Holding.{Holds, seen_in, slot_count}
use Rattle.owner_pool.specs.Holding.{CanOffer as CanNote}
use Rattle.station_rule.specs.Key.{Key}
use Rattle.station_rule.specs.declared.layout.Site.{Site}
use Rattle.station_rule.specs.declared.view.Entry.{Entry}
use Rattle.station_rule.specs.declared.view.View.{View}
use Rattle.station_rule.specs.declared.job.Slot.{Slot}
use Rattle.station_rule.specs.Book.{calls}
use Rattle.station_rule.specs.Core.{site_at}
use Rattle.station_rule.specs.Pools.{sizes_of, noted, IsPoolOf, CanOffer}
use Rattle.station_rule.proofs.Pooled.{as_many_calls, sizes_long, size_is, given_near, noted_push}

few_slots : (cells : List Cell) → length (cell_slots cells) ≤ length cells
few_slots [] = omega arith
few_slots (Value v ∷ cs) = let r = few_slots cs in omega arith
few_slots (Ready v ∷ cs) = let r = few_slots cs in omega arith
few_slots (Held h ∷ cs) = let r = few_slots cs in omega arith

-- the owner's look, and the pool's
pub looked : (v w : View) (p q : Pool) (i done : ℕ) → IsPoolOf v p → i < length v.layout.sites → w.layout ≡ v.layout → w.book ≡ v.book → w.seen ≡ set v.seen i done → slice_index w.seen i ≡ done
    → Holds (sizes_of v.layout.sites) q (map noted v.book) → q.seen.items ≡ set p.seen.items i done → slot_count q ≡ slot_count p → IsPoolOf w q
looked v w p q i done is near layout book seen found holds q_seen slots = record {
  holds = subst (λ (z : Key × List Entry). Holds (sizes_of z.0.sites) q (map noted z.1)) (λ y. (sym layout y, sym book y)) holds;
  slots = slots ∙ (is.slots ∙ sym (ap (λ (k : Key). k.slots) layout));
  behind = λ j. (let qj = ap (λ (l : List ℕ). slice_index l j) q_seen in dite (ℕ_discrete j i)
      (λ same.
      let long : i < length p.seen.items = (let l = is.holds.seen_long in let s = sizes_long v.layout.sites in omega arith) in
      let here = ap (slice_index (set p.seen.items i done)) same ∙ get_or-set_same p.seen.items i done 0 long in
      let there = ap (slice_index w.seen) same in omega arith)
      (λ other.
      let wj = ap (λ (l : List ℕ). slice_index l j) seen in
      let a = get_or-set_other p.seen.items i j done 0 other in
      let b = get_or-set_other v.seen i j done 0 other in
      let c = is.behind j in omega arith));
}

-- the entry that was published, and the pool's call
pub offered : (v w : View) (p q : Pool) (e : Entry) (c : Call) → IsPoolOf v p → w.layout ≡ v.layout → w.book ≡ v.book ++ e ∷ [] → w.seen ≡ v.seen → noted e ≡ c
    → Holds (sizes_of v.layout.sites) q (map noted v.book ++ c ∷ []) → q.seen ≡ p.seen → slot_count q ≡ slot_count p → IsPoolOf w q
offered v w p q e c is layout book seen noted_e holds q_seen slots =
    let all : map noted w.book ≡ map noted v.book ++ c ∷ [] = ap (map noted) book ∙ (noted_push v.book e ∙ ap (λ (x : Call). map noted v.book ++ x ∷ []) noted_e) in
    record {
      holds = subst (λ (z : Key × List Call). Holds (sizes_of z.0.sites) q z.1) (λ y. (sym layout y, sym all y)) holds;
      slots = slots ∙ (is.slots ∙ sym (ap (λ (k : Key). k.slots) layout));
      behind = λ i. (let a = ap (λ l. slice_index l.items i) q_seen in let b = ap (λ (l : List ℕ). slice_index l i) seen in let c = is.behind i in omega arith);
    }

-- the pool may note the call
pub can_note : (k : Key) (v : View) (p q : Pool) (i number done : ℕ) (input : List Cell) (s : Slot) → v.layout ≡ k → i < length k.sites → IsPoolOf v p → CanOffer k v p i input s → s.generation < 2 ^ 32
    → number ≡ length (calls i v.book) + 1 → q.last ≡ p.last → slot_count q ≡ slot_count p → seen_in q i ≡ done → length (calls i v.book) < done + (site_at k i).queue
    → CanNote (sizes_of v.layout.sites) q (map noted v.book) i number s.slot input
can_note k v p q i number done input s key near is can low numbered last slots seen room =
    let sites : v.layout.sites ≡ k.sites = ap (λ (y : Key). y.sites) key in
    let slots_of_key = ap (λ (y : Key). y.slots) key in
    let size = size_is v.layout i (let l = ap length sites in omega arith) in
    let site_is : site_at v.layout i ≡ site_at k i = ap (λ (y : Key). site_at y i) key in
    let queue = ap (λ t. t.queue) size ∙ ap (λ (t : Site). t.queue) site_is in
    let names = ap (λ t. t.names) size ∙ ap (λ (t : Site). t.width / 2 + 1) site_is in
    let long = sizes_long v.layout.sites in
    let many = as_many_calls i v.book in
    let own_slots = is.slots in
    record {
      fits = record {
        site = (let l = ap length sites in omega arith);
        few = (let f = few_slots input in let w = can.size in omega arith);
      };
      numbered = omega arith;
      own = (let c = can.slot in omega arith);
      inputs = λ j h at. (let c = can.handles j h at in let first = c.0 in let g = c.1 in let n = given_near v p is h.slot (omega arith) in omega arith);
      waits = omega arith;
      generation = (let n = can.next in let l = ap (λ l. slice_index l.items s.slot) last in omega arith);
    }
