-- Where a search for the previous instant goes.
use Rattle.std.proofs.Common.{◌≡◌, ℕ, suc, ◌-◌, ◌<◌, Bool, true, false, List, Option, Some, None, if◌then◌else◌, subst, arith}
use Rattle.hept_ast.specs.Meaning.{Question, Rule, previous, test}
use Rattle.answer_table.specs.declared.paths.Step.{Step}
use Rattle.answer_table.specs.declared.questions.Asked.{Asked}
use Rattle.answer_table.specs.declared.questions.Asked.TheVariants as asked_of
use Rattle.answer_table.specs.declared.answers.Answers.{Answers}
use Rattle.erased_meaning.specs.Rules.{AreAsked, GoesTo, Tests}

below_one : (at : ℕ) → 0 < at → suc (at - 1) ≡ at
below_one at h = omega arith

module _ (s : Answers) (path : List Step) (present : Asked) (scope : List Step) (p r : ℕ → Question) (is_asked : AreAsked s path present p) (restarts : AreAsked s scope asked_of.Restarted r) where
  -- what follows the two tests at an instant
  abbrev after_present : (ℕ → Rule) → Rule → ℕ → Bool → Rule
  after_present go none n here = if here then go n else previous p r go none n

  abbrev after_restarted : (ℕ → Rule) → Rule → ℕ → Bool → Rule
  after_restarted go none n again = if again then none else test (p n) (after_present go none n)

  restarted_at : (n : ℕ) → Tests s scope asked_of.Restarted (suc n) true → GoesTo s p r (suc n) None
  restarted_at n h go none a k = h (r (suc n)) (after_restarted go none n) a (restarts (suc n)) k

  present_at : (n : ℕ) → Tests s scope asked_of.Restarted (suc n) false → Tests s path present n true → GoesTo s p r (suc n) (Some n)
  present_at n h g go none a k = h (r (suc n)) (after_restarted go none n) a (restarts (suc n)) (g (p n) (after_present go none n) a (is_asked n) k)

  back_at : (n : ℕ) (o : Option ℕ) → Tests s scope asked_of.Restarted (suc n) false → Tests s path present n false → GoesTo s p r n o → GoesTo s p r (suc n) o
  back_at n o h g goes go none a k = h (r (suc n)) (after_restarted go none n) a (restarts (suc n)) (g (p n) (after_present go none n) a (is_asked n) (goes go none a k))

  -- at an instant that is not the first
  pub goes_restarted : (at : ℕ) → 0 < at → Tests s scope asked_of.Restarted at true → GoesTo s p r at None
  goes_restarted at h = let P : ℕ → Type 0 = λ n. Tests s scope asked_of.Restarted n true → GoesTo s p r n None in subst P (below_one at h) (restarted_at (at - 1))

  pub goes_present : (at : ℕ) → 0 < at → Tests s scope asked_of.Restarted at false → Tests s path present (at - 1) true → GoesTo s p r at (Some (at - 1))
  goes_present at h =
      let P : ℕ → Type 0 = λ n. Tests s scope asked_of.Restarted n false → Tests s path present (at - 1) true → GoesTo s p r n (Some (at - 1)) in
      subst P (below_one at h) (present_at (at - 1))

  pub goes_back : (at : ℕ) (o : Option ℕ) → 0 < at → Tests s scope asked_of.Restarted at false → Tests s path present (at - 1) false → GoesTo s p r (at - 1) o → GoesTo s p r at o
  goes_back at o h =
      let P : ℕ → Type 0 = λ n. Tests s scope asked_of.Restarted n false → Tests s path present (at - 1) false → GoesTo s p r (at - 1) o → GoesTo s p r n o in
      subst P (below_one at h) (back_at (at - 1) o)

pub goes_first : (s : Answers) (p r : ℕ → Question) → GoesTo s p r 0 None
goes_first s p r go none a k = k
