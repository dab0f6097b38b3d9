-- The calls that may wait have room for their names.
use Rattle.std.proofs.Common.{◌≡◌, ◌≢◌, ℕ, zero, suc, ◌+◌, ◌-◌, ◌*◌, ◌<◌, ◌≤◌, Bool, cond, List, [], ◌∷◌, ◌++◌, length, slice_index, sym, refl, ap, ◌∙◌, arith, length-append, suc-mul, eq-eqb, ne_eqb}
use Rattle.std.specs.Prelude.{filter}
use Rattle.std.proofs.lemmas.List.Elements.{filter-append}
use mathlib.Core.Logic.{dite}
use native.Mathlib.Decide.{ℕ_discrete, dec_le}
use Rattle.owner_pool.specs.Noting.{Call, Size, is_of, calls, call_names, names_after, is_unseen, unseen, room_for, size_at, Fits, AllFit}
use Rattle.owner_pool.proofs.Names.{length-calls_hit, length-calls_miss, length-named_by, all_unseen, none_unseen}

-- the sum of f over the instances
abbrev total : List Size → (ℕ → ℕ) → ℕ
total [] f = 0
total (t ∷ ts) f = f 0 + total ts (λ i. f (suc i))

total_same : (ts : List Size) (f g : ℕ → ℕ) → ((i : ℕ) → f i ≡ g i) → total ts f ≡ total ts g
total_same [] f g h = refl
total_same (t ∷ ts) f g h = let r = total_same ts (λ i. f (suc i)) (λ i. g (suc i)) (λ i. h (suc i)) in let a = h 0 in omega arith

total_zero : (ts : List Size) (f : ℕ → ℕ) → ((i : ℕ) → f i ≡ 0) → total ts f ≡ 0
total_zero [] f h = refl
total_zero (t ∷ ts) f h = let r = total_zero ts (λ i. f (suc i)) (λ i. h (suc i)) in let a = h 0 in omega arith

total_more : (ts : List Size) (f g : ℕ → ℕ) (k w : ℕ) → k < length ts → g k ≡ w + f k → ((i : ℕ) → i ≢ k → g i ≡ f i) → total ts g ≡ w + total ts f
total_more [] f g k w near here else = absurd (omega arith)
total_more (t ∷ ts) f g zero w near here else = let r = total_same ts (λ i. f (suc i)) (λ i. g (suc i)) (λ i. sym (else (suc i) (λ h. omega arith))) in omega arith
total_more (t ∷ ts) f g (suc k) w near here else = let r = total_more ts (λ i. f (suc i)) (λ i. g (suc i)) k w (omega arith) here (λ i ne. else (suc i) (λ h. ne (omega arith))) in let a = else 0 (λ h. omega arith) in omega arith

total_le : (ts : List Size) (f : ℕ → ℕ) → ((i : ℕ) → i < length ts → f i ≤ (size_at ts i).queue * (size_at ts i).names) → total ts f ≤ room_for ts
total_le [] f h = omega arith
total_le (t ∷ ts) f h = let r = total_le ts (λ i. f (suc i)) (λ i near. h (suc i) (omega arith)) in let a = h 0 (omega arith) in omega arith

module _ (sizes : List Size) (seen : List ℕ) where
  -- how many names one call has that was not seen done
  abbrev own : ℕ → Call → ℕ
  own n c = length (filter (is_unseen seen) (call_names n c))

  -- those of the calls of one instance
  abbrev load : ℕ → List Call → List Call → ℕ
  load i [] before = 0
  load i (c ∷ cs) before = cond (is_of i c) (own (length (calls c.instance before) + 1) c) 0 + load i cs (before ++ c ∷ [])

  load_hit : (i : ℕ) (c : Call) (cs before : List Call) → c.instance ≡ i → load i (c ∷ cs) before ≡ own (length (calls c.instance before) + 1) c + load i cs (before ++ c ∷ [])
  load_hit i c cs before is = ap (λ (b : Bool). cond b (own (length (calls c.instance before) + 1) c) 0 + load i cs (before ++ c ∷ [])) (eq-eqb c.instance i is)

  load_miss : (i : ℕ) (c : Call) (cs before : List Call) → c.instance ≢ i → load i (c ∷ cs) before ≡ load i cs (before ++ c ∷ [])
  load_miss i c cs before is = let e = ap (λ (b : Bool). cond b (own (length (calls c.instance before) + 1) c) 0 + load i cs (before ++ c ∷ [])) (ne_eqb c.instance i is) in omega arith

  load_total : (cs before : List Call) → AllFit sizes cs → length (filter (is_unseen seen) (names_after before cs)) ≡ total sizes (λ i. load i cs before)
  load_total [] before fit = sym (total_zero sizes (λ i. load i [] before) (λ i. refl))
  load_total (c ∷ cs) before fit =
      let n : ℕ = length (calls c.instance before) + 1 in
      let parts = ap length (filter-append (is_unseen seen) (call_names n c) (names_after (before ++ c ∷ []) cs)) ∙ length-append (filter (is_unseen seen) (call_names n c)) (filter (is_unseen seen) (names_after (before ++ c ∷ []) cs)) in
      let r = load_total cs (before ++ c ∷ []) fit.1 in
      let t = total_more sizes (λ i. load i cs (before ++ c ∷ [])) (λ i. load i (c ∷ cs) before) c.instance (own n c) fit.0.site (load_hit c.instance c cs before refl) (λ i ne. load_miss i c cs before (λ h. ne (sym h))) in omega arith

  own_few : (n : ℕ) (c : Call) → Fits sizes c → own n c ≤ (size_at sizes c.instance).names
  own_few n c fit = dite (dec_le n (slice_index seen c.instance))
      (λ done. let e = ap length (none_unseen seen c.instance n (c.slot ∷ c.inputs) done) in omega arith)
      (λ later.
      let e = ap length (all_unseen seen c.instance n (c.slot ∷ c.inputs) (omega arith)) in
      let l = length-named_by c.instance n (c.slot ∷ c.inputs) in
      let f = fit.few in omega arith)

  one_step : (x l d w : ℕ) → x ≤ w → 0 < d → l ≤ (d - 1) * w → x + l ≤ d * w
  one_step x l zero w le some rest = absurd (omega arith)
  one_step x l (suc d) w le some rest = let e : suc d - 1 ≡ d = omega arith in let f = ap (λ (k : ℕ). k * w) e in omega (arith, suc-mul d w)

  -- as many as there are calls
  load_all : (i : ℕ) (cs before : List Call) (d : ℕ) → AllFit sizes cs → length (calls i cs) ≤ d → load i cs before ≤ d * (size_at sizes i).names
  load_all i [] before d fit le = omega arith
  load_all i (c ∷ cs) before d fit le = dite (ℕ_discrete c.instance i)
      (λ same.
      let n : ℕ = length (calls c.instance before) + 1 in
      let long = ap (λ (b : Bool). length (cond b (c ∷ calls i cs) (calls i cs))) (eq-eqb c.instance i same) in
      let r = load_all i cs (before ++ c ∷ []) (d - 1) fit.1 (omega arith) in
      let h = load_hit i c cs before same in
      let w = ap (λ (k : ℕ). (size_at sizes k).names) same in
      let o = own_few n c fit.0 in
      let s = one_step (own n c) (load i cs (before ++ c ∷ [])) d (size_at sizes i).names (omega arith) (omega arith) r in omega arith)
      (λ other.
      let long = ap (λ (b : Bool). length (cond b (c ∷ calls i cs) (calls i cs))) (ne_eqb c.instance i other) in
      let r = load_all i cs (before ++ c ∷ []) d fit.1 (omega arith) in
      let h = load_miss i c cs before other in omega arith)

  -- and no more than were not seen done
  load_late : (i : ℕ) (cs before : List Call) (d : ℕ) → AllFit sizes cs → length (calls i before) + length (calls i cs) ≤ slice_index seen i + d → load i cs before ≤ d * (size_at sizes i).names
  load_late i [] before d fit le = omega arith
  load_late i (c ∷ cs) before d fit le = dite (ℕ_discrete c.instance i)
      (λ same.
      let n : ℕ = length (calls c.instance before) + 1 in
      let long = ap (λ (b : Bool). length (cond b (c ∷ calls i cs) (calls i cs))) (eq-eqb c.instance i same) in
      let more = length-calls_hit i before c same in
      let here : length (calls c.instance before) ≡ length (calls i before) = ap (λ (k : ℕ). length (calls k before)) same in
      let seen_is : slice_index seen c.instance ≡ slice_index seen i = ap (slice_index seen) same in
      let h = load_hit i c cs before same in
      dite (dec_le n (slice_index seen c.instance))
      (λ done.
      let r = load_late i cs (before ++ c ∷ []) d fit.1 (omega arith) in
      let e = ap length (none_unseen seen c.instance n (c.slot ∷ c.inputs) done) in omega arith)
      (λ later. load_all i (c ∷ cs) before d fit (omega arith)))
      (λ other.
      let long = ap (λ (b : Bool). length (cond b (c ∷ calls i cs) (calls i cs))) (ne_eqb c.instance i other) in
      let more = length-calls_miss i before c other in
      let r = load_late i cs (before ++ c ∷ []) d fit.1 (omega arith) in
      let h = load_miss i c cs before other in omega arith)

pub names_fit : (sizes : List Size) (seen : List ℕ) (book : List Call) → AllFit sizes book → ((i : ℕ) → i < length sizes → length (calls i book) ≤ slice_index seen i + (size_at sizes i).queue) → length (unseen seen book) ≤ room_for sizes
names_fit sizes seen book fit high =
    let t = load_total sizes seen book [] fit in
    let l = total_le sizes (λ i. load sizes seen i book []) (λ i near. load_late sizes seen i book [] (size_at sizes i).queue fit (let h = high i near in omega arith)) in omega arith
