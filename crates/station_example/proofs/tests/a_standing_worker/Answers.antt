use Rattle.std.proofs.Common.{◌≡◌, ◌<◌, ◌∷◌, [], ℕ, zero, suc, List, length, Some, sym, refl, subst, rules, arith}
use Rattle.std.specs.Prelude.{Option}
use mathlib.Core.Option.{some}
use lib.ListN.{get_elem?}
use Rattle.station_example.proofs.tests.a_standing_worker.Goals as goal

abbrev zero_sums : List (Option ℕ)
zero_sums = Some 0 ∷ Some 0 ∷ []

two : (i : ℕ) → i < 2 → (x : ℕ) × (get_elem? zero_sums i ≡ some (Some x)) × (x ≡ 0)
two zero near = (0, refl, refl)
two (suc zero) near = (0, refl, refl)
two (suc (suc i)) near = absurd (omega arith)

pub new-requires-3-clause-memories : goal.new-requires-3-clause-memories
new-requires-3-clause-memories g c =
    let items : c.in_ok-memories.memories.items ≡ Some 0 ∷ Some 0 ∷ [] = search rules in
    let long : length c.push-2.new.self.sites ≡ 2 = search rules in
    subst (λ (ms : List (Option ℕ)). (length ms ≡ length c.push-2.new.self.sites) × ((i : ℕ) → i < length c.push-2.new.self.sites → (x : ℕ) × (get_elem? ms i ≡ some (Some x)) × (x ≡ 0))) (sym items)
    (sym long, λ i near. two i (omega arith))
