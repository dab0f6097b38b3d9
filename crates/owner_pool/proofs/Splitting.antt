-- Two slots change places, and a slot joins those with no name or leaves them.
use Rattle.std.proofs.Common.{◌≡◌, ◌≢◌, ℕ, zero, suc, ◌+◌, ◌-◌, ◌<◌, ◌^◌, List, [], ◌∷◌, length, set, replicate, get_or, slice_index, sym, refl, ap, ◌∙◌, subst, arith, length-set, get_or-set_other, get_or-set_same}
use Rattle.std.proofs.lemmas.List.{length-replicate, get_or-replicate}
use mathlib.Core.Logic.{dite}
use native.Mathlib.Decide.{ℕ_discrete}
use Rattle.owner_pool.specs.Counted.{IsOrder, IsSplit, Exchanged, named_in, AreCounts}

-- two numbers written
second : (l : List ℕ) (i a j b : ℕ) → j < length l → slice_index (set (set l i a) j b) j ≡ b
second l i a j b near = get_or-set_same (set l i a) j b 0 (let k = length-set l i a in omega arith)

first : (l : List ℕ) (i a j b : ℕ) → i < length l → i ≢ j → slice_index (set (set l i a) j b) i ≡ a
first l i a j b near ne = get_or-set_other (set l i a) j i b 0 ne ∙ get_or-set_same l i a 0 near

neither : (l : List ℕ) (i a j b k : ℕ) → k ≢ i → k ≢ j → slice_index (set (set l i a) j b) k ≡ slice_index l k
neither l i a j b k ni nj = get_or-set_other (set l i a) j k b 0 nj ∙ get_or-set_other l i k a 0 ni

long2 : (l : List ℕ) (i a j b : ℕ) → length (set (set l i a) j b) ≡ length l
long2 l i a j b = length-set (set l i a) j b ∙ length-set l i a

module _ (n : ℕ) (order place : List ℕ) (o : IsOrder n order place) (slot to : ℕ) (near : slot < n) (to_near : to < n) where
  abbrev pub other : ℕ
  other = slice_index order to

  abbrev pub at : ℕ
  at = slice_index place slot

  abbrev pub order' : List ℕ
  order' = set (set order at other) to slot

  abbrev pub place' : List ℕ
  place' = set (set place other at) slot to

  pub exchanged : Exchanged order place place' slot to
  exchanged = record {
    own = second place other at slot to (let l = o.place_long in omega arith);
    other = λ ne. first place other at slot to (let b = (o.back to to_near).0 in let l = o.place_long in omega arith) ne;
    rest = λ z ns no. neither place other at slot to z no ns;
  }

  there_of : (z : ℕ) → z < n → (slice_index place' z < n) × (slice_index order' (slice_index place' z) ≡ z)
  there_of z close = dite (ℕ_discrete z slot)
      (λ same.
      let p : slice_index place' z ≡ to = ap (slice_index place') same ∙ exchanged.own in
      (omega arith, ap (slice_index order') p ∙ (second order at other to slot (let l = o.order_long in omega arith) ∙ sym same)))
      (λ ns. dite (ℕ_discrete z other)
      (λ same.
      let p : slice_index place' z ≡ at = ap (slice_index place') same ∙ exchanged.other (λ e. ns (same ∙ e)) in
      let t = o.there slot near in
      let apart : at ≢ to = λ e. ns (same ∙ (ap (slice_index order) (sym e) ∙ t.1)) in
      (let k = t.0 in omega arith, ap (slice_index order') p ∙ (first order at other to slot (let l = o.order_long in let k = t.0 in omega arith) apart ∙ sym same)))
      (λ no.
      let p : slice_index place' z ≡ slice_index place z = exchanged.rest z ns no in
      let t = o.there z close in
      let s = o.there slot near in
      let not_to : slice_index place z ≢ to = λ e. no (sym t.1 ∙ ap (slice_index order) e) in
      let not_at : slice_index place z ≢ at = λ e. ns (sym t.1 ∙ (ap (slice_index order) e ∙ s.1)) in
      (let k = t.0 in omega arith, ap (slice_index order') p ∙ (neither order at other to slot (slice_index place z) not_at not_to ∙ t.1))))

  back_of : (p : ℕ) → p < n → (slice_index order' p < n) × (slice_index place' (slice_index order' p) ≡ p)
  back_of p close = dite (ℕ_discrete p to)
      (λ same.
      let z : slice_index order' p ≡ slot = ap (slice_index order') same ∙ second order at other to slot (let l = o.order_long in omega arith) in
      (omega arith, ap (slice_index place') z ∙ (exchanged.own ∙ sym same)))
      (λ nt. dite (ℕ_discrete p at)
      (λ same.
      let b = o.back to to_near in
      let z : slice_index order' p ≡ other = ap (slice_index order') same ∙ first order at other to slot (let l = o.order_long in omega arith) (λ e. nt (same ∙ e)) in
      let apart : other ≢ slot = λ e. nt (same ∙ (ap (slice_index place) (sym e) ∙ b.1)) in
      (let k = b.0 in omega arith, ap (slice_index place') z ∙ (exchanged.other apart ∙ sym same)))
      (λ na.
      let b = o.back p close in
      let t = o.back to to_near in
      let z : slice_index order' p ≡ slice_index order p = neither order at other to slot p na nt in
      let ns : slice_index order p ≢ slot = λ e. na (sym b.1 ∙ ap (slice_index place) e) in
      let no : slice_index order p ≢ other = λ e. nt (sym b.1 ∙ (ap (slice_index place) e ∙ t.1)) in
      (let k = b.0 in omega arith, ap (slice_index place') z ∙ (exchanged.rest (slice_index order p) ns no ∙ b.1))))

  pub reordered : IsOrder n order' place'
  reordered = record {
    order_long = long2 order at other to slot ∙ o.order_long;
    place_long = long2 place other at slot to ∙ o.place_long;
    there = there_of;
    back = back_of;
  }

module _ (n : ℕ) (f g : ℕ → ℕ) (order place new : List ℕ) (o : IsOrder n order place) (slot u : ℕ) (near : slot < n) (others : (z : ℕ) → z ≢ slot → g z ≡ f z) where
  -- the slot has no name any more
  pub shown : IsSplit n f place u → u < n → Exchanged order place new slot u → 0 < f slot → g slot ≡ 0 → IsSplit n g new (u + 1)
  shown s room e was now =
      let high = s.named slot near was in
      let t = o.there slot near in
      let b = o.back u room in
      record {
        within = omega arith;
        free = λ z close none. dite (ℕ_discrete z slot)
            (λ same. let p = ap (slice_index new) same ∙ e.own in omega arith)
            (λ ns. let low = s.free z close (sym (others z ns) ∙ none) in
            let no : z ≢ slice_index order u = λ same. (let p : slice_index place z ≡ u = ap (slice_index place) same ∙ b.1 in absurd (omega arith)) in
            let p = e.rest z ns no in omega arith);
        named = λ z close some. dite (ℕ_discrete z slot)
            (λ same. absurd (let k : g z ≡ 0 = ap g same ∙ now in omega arith))
            (λ ns. let k = others z ns in let up = s.named z close (omega arith) in dite (ℕ_discrete z (slice_index order u))
            (λ same. let p = ap (slice_index new) same ∙ e.other (λ h. ns (same ∙ h)) in
            let apart : slice_index place slot ≢ u = λ h. ns (same ∙ (ap (slice_index order) (sym h) ∙ t.1)) in omega arith)
            (λ no. let p = e.rest z ns no in
            let apart : slice_index place z ≢ u = λ h. no (sym (o.there z close).1 ∙ ap (slice_index order) h) in omega arith));
      }

  -- the slot has a name from now on
  pub hidden : IsSplit n f place (u + 1) → Exchanged order place new slot u → f slot ≡ 0 → 0 < g slot → IsSplit n g new u
  hidden s e was now =
      let low = s.free slot near was in
      let t = o.there slot near in
      let in_n = s.within in
      let b = o.back u (omega arith) in
      record {
        within = omega arith;
        free = λ z close none. dite (ℕ_discrete z slot)
            (λ same. absurd (let k : g z ≡ g slot = ap g same in omega arith))
            (λ ns. let down = s.free z close (sym (others z ns) ∙ none) in dite (ℕ_discrete z (slice_index order u))
            (λ same. let p = ap (slice_index new) same ∙ e.other (λ h. ns (same ∙ h)) in
            let apart : slice_index place slot ≢ u = λ h. ns (same ∙ (ap (slice_index order) (sym h) ∙ t.1)) in omega arith)
            (λ no. let p = e.rest z ns no in
            let apart : slice_index place z ≢ u = λ h. no (sym (o.there z close).1 ∙ ap (slice_index order) h) in omega arith));
        named = λ z close some. dite (ℕ_discrete z slot)
            (λ same. let p = ap (slice_index new) same ∙ e.own in omega arith)
            (λ ns. let k = others z ns in let up = s.named z close (omega arith) in
            let no : z ≢ slice_index order u = λ same. (let p : slice_index place z ≡ u = ap (slice_index place) same ∙ b.1 in absurd (omega arith)) in
            let p = e.rest z ns no in omega arith);
      }

-- counts that are 0 where they were
pub kept : (n : ℕ) (f g : ℕ → ℕ) (place : List ℕ) (u : ℕ) → IsSplit n f place u → ((z : ℕ) → g z ≡ 0 → f z ≡ 0) → ((z : ℕ) → 0 < g z → 0 < f z) → IsSplit n g place u
kept n f g place u s down up = record { within = s.within; free = λ z close none. s.free z close (down z none); named = λ z close some. s.named z close (up z some) }

-- a count of 0 leaves room, and so does one above 0
pub some_free : (told called order place : List ℕ) (u z : ℕ) → AreCounts told called order place u → z < length told → named_in told called z ≡ 0 → 0 < u
some_free told called order place u z c near none = let l = c.split.free z near none in omega arith

pub some_named : (told called order place : List ℕ) (u z : ℕ) → AreCounts told called order place u → z < length told → 0 < named_in told called z → u < length told
some_named told called order place u z c near some = let l = c.split.named z near some in let t = (c.ordered.there z near).0 in omega arith

pub top_free : (told called order place : List ℕ) (u : ℕ) → AreCounts told called order place (u + 1) → (slice_index order u < length told) × (named_in told called (slice_index order u) ≡ 0)
top_free told called order place u c =
    let w = c.split.within in
    let b = c.ordered.back u (omega arith) in (
      b.0,
      dite (ℕ_discrete (named_in told called (slice_index order u)) 0)
          (λ none. none)
          (λ some. absurd (let k = c.split.named (slice_index order u) b.0 (omega arith) in let p = b.1 in omega arith)),
    )

pub new_counts : (slots : ℕ) (told called order place : List ℕ) → slots < 2 ^ 32 → told ≡ replicate slots 0 → called ≡ replicate slots 0 → length order ≡ slots → length place ≡ slots
    → ((k : ℕ) → k < slots → slice_index order k ≡ k) → ((k : ℕ) → k < slots → slice_index place k ≡ k) → AreCounts told called order place slots
new_counts slots told called order place small told_is called_is order_long place_long order_is place_is =
    let long : length told ≡ slots = ap length told_is ∙ length-replicate slots 0 in
    let zero_at : (z : ℕ) → z < slots → named_in told called z ≡ 0 = λ z near.
    (let a = ap (λ (l : List ℕ). slice_index l z) told_is ∙ get_or-replicate slots z 0 0 near in
    let b = ap (λ (l : List ℕ). slice_index l z) called_is ∙ get_or-replicate slots z 0 0 near in omega arith) in
    record {
      called_long = ap length called_is ∙ (length-replicate slots 0 ∙ sym long);
      small = omega arith;
      ordered = record {
        order_long = order_long ∙ sym long;
        place_long = place_long ∙ sym long;
        there = λ z near. (let p = place_is z (omega arith) in (omega arith, ap (slice_index order) p ∙ order_is z (omega arith)));
        back = λ p near. (let z = order_is p (omega arith) in (omega arith, ap (slice_index place) z ∙ place_is p (omega arith)));
      };
      split = record {
        within = omega arith;
        free = λ z near none. (let p = place_is z (omega arith) in omega arith);
        named = λ z near some. absurd (let n = zero_at z (omega arith) in omega arith);
      };
    }

pub any_default : {X : Type 0} (l : List X) (i : ℕ) (d e : X) → i < length l → get_or l i d ≡ get_or l i e
any_default [] i d e near = absurd (omega arith)
any_default (x ∷ l) zero d e near = refl
any_default (x ∷ l) (suc i) d e near = any_default l i d e (omega arith)

-- new counts over a list of slots that was split again
pub with_split : (n : ℕ) (told called told' called' order place : List ℕ) (u : ℕ) → told' ≡ told → called' ≡ called → length told ≡ n → length called ≡ n → n < 2 ^ 32 → IsOrder n order place → IsSplit n (named_in told called) place u → AreCounts told' called' order place u
with_split n told called told' called' order place u told_is called_is told_long called_long small o s =
    let long : length told' ≡ n = ap length told_is ∙ told_long in
    record {
      called_long = ap length called_is ∙ (called_long ∙ sym long);
      small = omega arith;
      ordered = subst (λ (m : ℕ). IsOrder m order place) (sym long) o;
      split = subst (λ (m : ℕ). IsSplit m (named_in told' called') place u) (sym long)
          (subst (λ (l : List ℕ × List ℕ). IsSplit n (named_in l.0 l.1) place u) (λ i. (sym told_is i, sym called_is i)) s);
    }

pub some_top : (told called order place : List ℕ) (u : ℕ) → AreCounts told called order place u → 0 < u → (z : ℕ) × (z < length told) × (named_in told called z ≡ 0)
some_top told called order place u c high =
    let is : u ≡ (u - 1) + 1 = omega arith in
    let top = top_free told called order place (u - 1) (subst (AreCounts told called order place) is c) in
    (slice_index order (u - 1), top.0, top.1)
