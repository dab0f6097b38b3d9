-- Equations of terms, solved in the order of their places.
use Rattle.std.specs.Prelude.{◌≡◌, ℕ, ◌+◌, ◌<◌, ◌≤◌, List, length, take, All, slice_index_or}
use Rattle.clock_calculus.specs.Unify.{Assignment, path, Bindings, IsSolved, Respects}
use Rattle.clock_calculus.specs.declared.unify.Term.{Term}
use Rattle.clock_calculus.specs.declared.solve.Solution as solution
use Rattle.clock_calculus.specs.declared.solve.Solution.TheVariants as variant

pub record Equation : Type 0 where
  pub place : ℕ
  pub left : Term
  pub right : Term

abbrev pub Holds : Assignment → Equation → Type 0
Holds a e = path a e.left ≡ path a e.right

-- bindings that are respected exactly where all equations hold
pub record Solves (unknowns : ℕ) (b : Bindings) (es : List Equation) : Type 0 where
  pub solved : IsSolved b
  pub long : length b ≡ unknowns
  pub says : (a : Assignment) → Respects a b → All (Holds a) es
  pub least_so : (a : Assignment) → All (Holds a) es → Respects a b

-- an equation at this place that cannot hold where those before it in the list do
pub record IsClash (es : List Equation) (p : ℕ) : Type 0 where
  pub at : ℕ
  pub within : at < length es
  pub place : (d : Equation) → (slice_index_or es at d).place ≡ p
  pub before : (a : Assignment) × All (Holds a) (take at es)
  pub none : (a : Assignment) → All (Holds a) (take (at + 1) es) → ⊥

-- the least place such that the equations of all places up to it cannot hold together
pub record IsFirstClash (es : List Equation) (p : ℕ) : Type 0 where
  pub before : (a : Assignment) × All (λ e. e.place < p → Holds a e) es
  pub none : (a : Assignment) → All (λ e. e.place ≤ p → Holds a e) es → ⊥

-- what solving in the order of a list gives
abbrev pub Answers : ℕ → List Equation → solution.Solution → Type 0
Answers unknowns es (variant.Solved b) = Solves unknowns b.items es
Answers unknowns es (variant.Clash place) = IsClash es place.0

-- what solving gives, whatever the order of the list
abbrev pub IsAnswer : ℕ → List Equation → solution.Solution → Type 0
IsAnswer unknowns es (variant.Solved b) = Solves unknowns b.items es
IsAnswer unknowns es (variant.Clash place) = IsFirstClash es place.0
