use Rattle.std.proofs.Common.{◌≡◌, ◌<◌, ◌∷◌, [], ℕ, zero, suc, List, length, Some, sym, refl, subst, rules, arith}
use Rattle.std.specs.Prelude.{Option}
use mathlib.Core.Option.{some}
use lib.ListN.{get_elem?}
use Rattle.station_example.proofs.tests.one_place_queue.Goals as goal

one : (i : ℕ) → i < 1 → (x : ℕ) × (get_elem? (Some 0 ∷ []) i ≡ some (Some x)) × (x ≡ 0)
one zero near = (0, refl, refl)
one (suc i) near = absurd (omega arith)

pub new-requires-2-clause-memories : goal.new-requires-2-clause-memories
new-requires-2-clause-memories g c =
    let items : c.in_ok-memories.memories.items ≡ Some 0 ∷ [] = search rules in
    let long : length c.push.new.self.sites ≡ 1 = search rules in
    subst (λ (ms : List (Option ℕ)). (length ms ≡ length c.push.new.self.sites) × ((i : ℕ) → i < length c.push.new.self.sites → (x : ℕ) × (get_elem? ms i ≡ some (Some x)) × (x ≡ 0))) (sym items)
    (sym long, λ i near. one i (omega arith))
