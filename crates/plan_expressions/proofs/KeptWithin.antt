-- What the actions of an expression name is there.
use Rattle.std.proofs.Common.{◌≡◌, ℕ, ◌-◌, ◌<◌, ◌≤◌, true, List, [], ◌∷◌, ◌++◌, length, take, All, sym, subst, arith}
use Rattle.std.specs.Prelude.{slice_index}
use Rattle.std.proofs.lemmas.List.Elements.{All-push, All-take}
use Rattle.hept_ast.specs.Texts.{Name, is_in, place_in}
use Rattle.step_plans.specs.declared.instruction.Instruction.{Instruction}
use Rattle.step_plans.specs.declared.instruction.Instruction.TheVariants as does
use Rattle.step_engine.specs.Running.{IsWithin}
use Rattle.plan_expressions.specs.Building.{IsAdded}
use Rattle.plan_expressions.specs.Clocked.{KeepsWithinOn}
use Rattle.plan_expressions.specs.declared.draft.Draft.{Draft}
use Rattle.plan_expressions.proofs.PlacesOf.{within_names}
use Rattle.plan_expressions.proofs.Within.{added_within}

below_later : (registers : List ℕ) (at later : ℕ) → at ≤ later → All (λ q. q < at) registers → All (λ q. q < later) registers
below_later registers at later le below = λ k d lt. omega (arith, below k d lt)

register_below : (variables : List Name) (registers : List ℕ) (at : ℕ) (x : Name) (r : ℕ) → length registers ≡ length variables → is_in x variables ≡ true → r ≡ slice_index registers (place_in x variables) → All (λ q. q < at) registers → r < at
register_below variables registers at x r many among is below =
    subst (λ (q : ℕ). q < at) (sym is) (below (place_in x variables) 0 (omega (arith, within_names x variables among)))

module _ (registers presences : List ℕ) where
  pub keeps_variable : (variables : List Name) (draft : Draft) (x : Name) (r : ℕ) → length registers ≡ length variables → is_in x variables ≡ true → r ≡ slice_index registers (place_in x variables) → KeepsWithinOn registers presences draft draft r
  keeps_variable variables draft x r many among at cells below present all = (all, omega arith, register_below variables registers draft.at x r many among at below)

  pub keeps_constant : (old new : Draft) (v r : ℕ) → IsAdded old new (does.Constant v) r → KeepsWithinOn registers presences old new r
  keeps_constant old new v r added cells below present all = (added_within cells old new (does.Constant v) r added tt all, omega (arith, added.next), omega (arith, added.register, added.next))

  pub keeps_one : (old mid new : Draft) (i : Instruction) (ra r : ℕ) → KeepsWithinOn registers presences old mid ra → IsAdded mid new i r → ((n m : ℕ) → ra < n → IsWithin n m i) → KeepsWithinOn registers presences old new r
  keeps_one old mid new i ra r of_a added within cells below present all =
      let x = of_a cells below present all in
      (added_within cells mid new i r added (within mid.at cells x.2) x.0, omega (arith, x.1, added.next), omega (arith, added.register, added.next))

  pub keeps_two : (old one mid new : Draft) (i : Instruction) (ra rd r : ℕ) → KeepsWithinOn registers presences old one ra → KeepsWithinOn registers presences one mid rd → IsAdded mid new i r → ((n m : ℕ) → ra < n → rd < n → IsWithin n m i) →
      KeepsWithinOn registers presences old new r
  keeps_two old one mid new i ra rd r of_a of_d added within cells below present all =
      let x = of_a cells below present all in
      let y = of_d cells (below_later registers old.at one.at x.1 below) (below_later presences old.at one.at x.1 present) x.0 in
      (added_within cells mid new i r added (within mid.at cells (omega (arith, x.2, y.1)) y.2) y.0, omega (arith, x.1, y.1, added.next), omega (arith, added.register, added.next))

  pub keeps_three : (old none one mid new : Draft) (rk ra rd r : ℕ) → KeepsWithinOn registers presences old none rk → KeepsWithinOn registers presences none one ra → KeepsWithinOn registers presences one mid rd → IsAdded mid new (does.Select rk 1 ra rd) r →
      KeepsWithinOn registers presences old new r
  keeps_three old none one mid new rk ra rd r of_k of_a of_d added cells below present all =
      let w = of_k cells below present all in
      let x = of_a cells (below_later registers old.at none.at w.1 below) (below_later presences old.at none.at w.1 present) w.0 in
      let le : old.at ≤ one.at = omega (arith, w.1, x.1) in
      let y = of_d cells (below_later registers old.at one.at le below) (below_later presences old.at one.at le present) x.0 in
      (added_within cells mid new (does.Select rk 1 ra rd) r added (omega (arith, w.2, x.1, y.1), omega (arith, x.2, y.1), y.2) y.0, omega (arith, w.1, x.1, y.1, added.next), omega (arith, added.register, added.next))

  pub keeps_when : (old new : Draft) (r : ℕ) → KeepsWithinOn registers (take (length presences - 1) presences) old new r → KeepsWithinOn registers presences old new r
  keeps_when old new r of_a cells below present all = of_a cells below (All-take (λ q. q < old.at) (length presences - 1) presences present) all

  pub keeps_branch : (variables : List Name) (old mid new : Draft) (x : Name) (outer on value here r : ℕ) → length registers ≡ length variables → is_in x variables ≡ true → 0 < length presences → on ≡ slice_index registers (place_in x variables) →
      outer ≡ slice_index presences (length presences - 1) → IsAdded old mid (does.Flag outer on value) here → KeepsWithinOn registers (presences ++ here ∷ []) mid new r → KeepsWithinOn registers presences old new r
  keeps_branch variables old mid new x outer on value here r many among some at at_outer added of_d cells below present all =
      let seen : outer < old.at = subst (λ (q : ℕ). q < old.at) (sym at_outer) (present (length presences - 1) 0 (omega arith)) in
      let le : old.at ≤ mid.at = omega (arith, added.next) in
      let lt : here < mid.at = omega (arith, added.register, added.next) in
      let y = of_d cells (below_later registers old.at mid.at le below) (All-push (λ q. q < mid.at) presences here (below_later presences old.at mid.at le present) lt)
      (added_within cells old mid (does.Flag outer on value) here added (seen, register_below variables registers old.at x on many among at below) all) in
      (y.0, omega (arith, le, y.1), y.2)

  pub keeps_more : (variables : List Name) (old one mid new : Draft) (x : Name) (on value rest other r : ℕ) → length registers ≡ length variables → is_in x variables ≡ true → on ≡ slice_index registers (place_in x variables) →
      KeepsWithinOn registers presences old one rest → KeepsWithinOn registers presences one mid other → IsAdded mid new (does.Select on value other rest) r → KeepsWithinOn registers presences old new r
  keeps_more variables old one mid new x on value rest other r many among at of_rest of_d added cells below present all =
      let w = of_rest cells below present all in
      let y = of_d cells (below_later registers old.at one.at w.1 below) (below_later presences old.at one.at w.1 present) w.0 in
      let tested : on < old.at = register_below variables registers old.at x on many among at below in
      (added_within cells mid new (does.Select on value other rest) r added (omega (arith, tested, w.1, y.1), y.2, omega (arith, w.2, y.1)) y.0, omega (arith, w.1, y.1, added.next), omega (arith, added.register, added.next))
