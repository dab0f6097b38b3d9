-- A pool's facts after one call more.
use Rattle.std.proofs.Common.{ℕ, ◌+◌, ◌<◌, ◌≤◌, List, [], ◌∷◌, ◌++◌, length, slice_index, ap, ◌∙◌, subst, arith, length-append}
use mathlib.Core.Logic.{dite}
use native.Mathlib.Decide.{ℕ_discrete}
use Rattle.owner_pool.specs.Noting.{Call, Size, calls, call_names, unseen, room_for, size_at, Fits, AllFit}
use Rattle.owner_pool.proofs.Names.{length-calls_hit, length-calls_miss, length-named_by, unseen_push}
use Rattle.owner_pool.proofs.Room.{names_fit}

pub fit_push : (sizes : List Size) (book : List Call) (c : Call) → AllFit sizes book → Fits sizes c → AllFit sizes (book ++ c ∷ [])
fit_push sizes [] c all one = (one, tt)
fit_push sizes (x ∷ xs) c all one = (all.0, fit_push sizes xs c all.1 one)

module _ (sizes : List Size) (seen : List ℕ) (book : List Call) (c : Call) where
  pub low_push : ((i : ℕ) → slice_index seen i ≤ length (calls i book)) → (i : ℕ) → slice_index seen i ≤ length (calls i (book ++ c ∷ []))
  low_push low i = let l = low i in dite (ℕ_discrete c.instance i)
      (λ same. let m = length-calls_hit i book c same in omega arith)
      (λ other. let m = length-calls_miss i book c other in omega arith)

  pub high_push : ((i : ℕ) → i < length sizes → length (calls i book) ≤ slice_index seen i + (size_at sizes i).queue) → length (calls c.instance book) < slice_index seen c.instance + (size_at sizes c.instance).queue
      → (i : ℕ) → i < length sizes → length (calls i (book ++ c ∷ [])) ≤ slice_index seen i + (size_at sizes i).queue
  high_push high room i near = let h = high i near in dite (ℕ_discrete c.instance i)
      (λ same.
      let m = length-calls_hit i book c same in
      let r : length (calls i book) < slice_index seen i + (size_at sizes i).queue = subst (λ (k : ℕ). length (calls k book) < slice_index seen k + (size_at sizes k).queue) same room in omega arith)
      (λ other. let m = length-calls_miss i book c other in omega arith)

  pub names_room : AllFit sizes book → Fits sizes c → ((i : ℕ) → slice_index seen i ≤ length (calls i book)) → ((i : ℕ) → i < length sizes → length (calls i book) ≤ slice_index seen i + (size_at sizes i).queue) → length (calls c.instance book) < slice_index seen c.instance + (size_at sizes c.instance).queue
      → length (unseen seen book) + (1 + length c.inputs) ≤ room_for sizes
  names_room fit one low high room =
      let all = names_fit sizes seen (book ++ c ∷ []) (fit_push sizes book c fit one) (high_push high room) in
      let n : ℕ = length (calls c.instance book) + 1 in
      let is = ap length (unseen_push seen book c (low c.instance)) ∙ length-append (unseen seen book) (call_names n c) in
      let own = length-named_by c.instance n (c.slot ∷ c.inputs) in omega arith
