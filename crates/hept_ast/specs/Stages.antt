-- What holds of a program with its clocks.
use Rattle.std.specs.Prelude.{◌≡◌, ℕ, Bool, false, List, Option, Some, None, slice_get, is_some}
use Rattle.hept_ast.specs.Texts.{Name, is_in, names}
use Rattle.hept_ast.specs.Parts.{variables}
use Rattle.hept_ast.specs.Faults.{IsTyped}
use Rattle.hept_ast.specs.Clocks.{AreLeastClocks}
use Rattle.hept_ast.specs.Initial.{IsInitialised}
use Rattle.hept_ast.specs.Causal.{IsCausal}
use Rattle.hept_ast.specs.ClockMaps.{ClockMap, path_in, clock_in}
use Rattle.hept_ast.specs.declared.tree.Program.{Program}
use Rattle.hept_ast.specs.declared.tree.Node.{Node}

-- a program with the clocks of its variables
pub record ClockedProgram : Type 0 where
  pub program : Program
  pub clocks : ClockMap

abbrev pub declares_in : Option Node → Name → Bool
declares_in None x = false
declares_in (Some node) x = is_in x (names (variables node))

-- whether the node at a position declares a variable, in one of its blocks or as input or output
abbrev pub declares_at : List Node → (node : ℕ) → Name → Bool
declares_at nodes k x = declares_in (slice_get nodes k) x

-- each variable has its clock of the least assignment, and nothing else has a clock
pub record HasLeastClocks (program : Program) (clocks : ClockMap) : Type 0 where
  pub least : (k : ℕ) (node : Node) → slice_get program.nodes k ≡ Some node → AreLeastClocks node (clock_in clocks k)
  pub exact : (k : ℕ) (x : Name) → is_some (path_in clocks k x) ≡ declares_at program.nodes k x

-- a program whose names and types are right, with its clocks
pub record IsClockedProgram (c : ClockedProgram) : Type 0 where
  pub typed : IsTyped c.program
  pub clocked : HasLeastClocks c.program c.clocks

-- and that reads no undefined value, and has no cycle of reads
pub record IsAcceptedProgram (c : ClockedProgram) : Type 0 where
  pub typed : IsTyped c.program
  pub clocked : HasLeastClocks c.program c.clocks
  pub initialised : IsInitialised c.program
  pub causal : IsCausal c.program (clock_in c.clocks)
