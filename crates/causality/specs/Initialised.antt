-- The demands that the least grades of some nodes do not meet.
use Rattle.std.specs.Prelude.{◌≡◌, ℕ, ◌<◌, ◌≤◌, ⊤, List, Option, Some, Contains, slice_get}
use Rattle.hept_ast.specs.Initial.{Grades, AreLeastGrades, unmet_in, IsMayBeNil}
use Rattle.hept_ast.specs.declared.tree.Program.{Program}
use Rattle.hept_ast.specs.declared.tree.Node.{Node}
use Rattle.causality.specs.Lowest.{lower, lowest}
use Rattle.causality.specs.declared.initial.InitFault.{InitFault}
use Rattle.causality.specs.declared.initial.InitFault.TheVariants.{MayBeNil, Memory}

-- the places of a node's unmet demands were noted
pub record IsNoted (old new : Option ℕ) (node : Node) : Type 0 where
  pub grades : Grades
  pub least : AreLeastGrades node grades
  pub found : new ≡ lower old (lowest (unmet_in grades node))

-- a place at which a demand of the node at a position is not met
pub record IsUnmetAt (nodes : List Node) (k p : ℕ) : Type 0 where
  pub node : Node
  pub grades : Grades
  pub at : slice_get nodes k ≡ Some node
  pub least : AreLeastGrades node grades
  pub unmet : Contains (unmet_in grades node) p

-- the least place of all unmet demands of the first n nodes, each of which has least grades
pub record AreNoted (nodes : List Node) (n : ℕ) (found : Option ℕ) : Type 0 where
  pub graded : (k : ℕ) (node : Node) → k < n → slice_get nodes k ≡ Some node → (g : Grades) × AreLeastGrades node g
  pub stands : (p : ℕ) → found ≡ Some p → (k : ℕ) × (k < n) × IsUnmetAt nodes k p
  pub least : (k p : ℕ) → k < n → IsUnmetAt nodes k p → (q : ℕ) × (found ≡ Some q) × (q ≤ p)

abbrev pub IsInitFault : Program → InitFault → Type 0
IsInitFault program (MayBeNil at) = IsMayBeNil program at.0
IsInitFault program Memory = ⊤
