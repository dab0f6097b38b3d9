use Rattle.std.proofs.Common.{◌≡◌, ℕ, ◌+◌, ◌%◌, ◌^◌, List, [], ◌∷◌, ◌++◌, arith}
use Rattle.std.specs.Prelude.{slice_index}
use Rattle.station_rule.specs.declared.view.Sent.{Sent}
use Rattle.station_example.specs.Total.{total_of, StandsFor}

pub total_of-push : (ss : List Sent) (s : Sent) → total_of (ss ++ s ∷ []) ≡ total_of ss + slice_index s.values 0
total_of-push [] s = omega arith
total_of-push (x ∷ xs) s = let r = total_of-push xs s in omega arith

pub stands-push : (old new value : ℕ) (s : Sent) → slice_index s.values 0 ≡ value → new ≡ (old + value % 2 ^ 32) % 2 ^ 32 → (i : ℕ) (ss : List Sent) → StandsFor i old ss → StandsFor i new (ss ++ s ∷ [])
stands-push old new value s v is i ss before =
    let all = total_of-push ss s in let a : ℕ = total_of ss in let b : ℕ = slice_index s.values 0 in omega arith
