-- What is known of the clocks of nodes.
use Rattle.std.specs.Prelude.{◌≡◌, ℕ, ◌<◌, false, if◌then◌else◌, nat_lt, List, slice_get, Some, None, Option, is_some, All, take}
use Rattle.hept_ast.specs.Texts.{Name, names}
use Rattle.hept_ast.specs.Parts.{variables}
use Rattle.hept_ast.specs.Clocks.{AreLeastClocks, CanMeet, before, conditions, up_to}
use Rattle.hept_ast.specs.ClockMaps.{ClockMap, clock_in, path_in}
use Rattle.hept_ast.specs.Stages.{declares_at}
use Rattle.hept_ast.specs.declared.tree.Node.{Node}
use Rattle.hept_ast.specs.declared.tree.ClockStep.{ClockStep}
use Rattle.hept_ast.specs.declared.name.Place.{Place}
use Rattle.clock_calculus.specs.Filled.{IsFilled}
use Rattle.clock_calculus.specs.Numbering.{names_of, solved_clock, steps_of}
use Rattle.clock_calculus.specs.declared.nodes.SolvedNode.{SolvedNode}
use Rattle.clock_calculus.specs.declared.solve.Solution as solution
use Rattle.clock_calculus.specs.declared.solve.Solution.TheVariants as variant

-- the conditions of a node can be met before a place, and not with it
pub record IsClashIn (node : Node) (p : ℕ) : Type 0 where
  pub before_it : CanMeet (before p (conditions node))
  pub with_it : CanMeet (up_to p (conditions node)) → ⊥

abbrev pub SolutionOf : Node → List Name → List ClockStep → solution.Solution → Type 0
SolutionOf node names steps (variant.Solved b) = AreLeastClocks node (solved_clock names steps b.items)
SolutionOf node names steps (variant.Clash place) = IsClashIn node place.0

pub record IsSolvedNode (node : Node) (s : SolvedNode) : Type 0 where
  pub named : names_of s.numbers ≡ names (variables node)
  pub solution : SolutionOf node (names_of s.numbers) (steps_of s.numbers) s.solution

-- the clocks of the first nodes are set, and no other
pub record AreClockedUpTo (nodes : List Node) (i : ℕ) (clocks : ClockMap) : Type 0 where
  pub least : (k : ℕ) (node : Node) → k < i → slice_get nodes k ≡ Some node → AreLeastClocks node (clock_in clocks k)
  pub exact : (k : ℕ) (x : Name) → is_some (path_in clocks k x) ≡ (if nat_lt k i then declares_at nodes k x else false)

-- the least place such that the conditions of some nodes up to it cannot all be met
pub record IsNoClockIn (nodes : List Node) (p : ℕ) : Type 0 where
  pub before_it : All (λ node. CanMeet (before p (conditions node))) nodes
  pub with_it : All (λ node. CanMeet (up_to p (conditions node))) nodes → ⊥

-- the earlier of two places, where there are two
abbrev pub earlier_place : Option Place → Place → Place
earlier_place None q = q
earlier_place (Some p) q = if nat_lt q.0 p.0 then q else p

-- what is known after the first nodes: their clocks, or the place where they have none
abbrev pub IsProgress : List Node → ℕ → ClockMap → Option Place → Type 0
IsProgress nodes i clocks None = AreClockedUpTo nodes i clocks
IsProgress nodes i clocks (Some p) = IsNoClockIn (take i nodes) p.0

-- one more node noted
abbrev pub IsNotedAs : List Name → List ClockStep → solution.Solution → (k : ℕ) → (old : ClockMap) → (first : Option Place) → (new : ClockMap) → (next : Option Place) → Type 0
IsNotedAs names steps (variant.Clash q) k old first new next = next ≡ Some (earlier_place first q)
IsNotedAs names steps (variant.Solved b) k old (Some p) new next = next ≡ Some p
IsNotedAs names steps (variant.Solved b) k old None new next = (next ≡ None) × IsFilled old new k names (solved_clock names steps b.items)

abbrev pub IsNoted : SolvedNode → (k : ℕ) → (old : ClockMap) → (first : Option Place) → (new : ClockMap) → (next : Option Place) → Type 0
IsNoted s k old first new next = IsNotedAs (names_of s.numbers) (steps_of s.numbers) s.solution k old first new next
