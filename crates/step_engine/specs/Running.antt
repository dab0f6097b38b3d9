-- What instructions and stores give, and the numbers that they name.
use Rattle.std.specs.Prelude.{◌≡◌, ◌≢◌, ℕ, ◌<◌, ◌==◌, if◌then◌else◌, List, Some, slice_get, slice_index, slice_index_or}
use Rattle.hept_ast.specs.declared.tree.BinaryOp.{BinaryOp}
use Rattle.hept_ast.specs.declared.tree.BinaryOp.TheVariants.{Div, Rem}
use Rattle.step_cells.specs.declared.cell.Cell.{Cell}
use Rattle.step_cells.specs.declared.cell.Cell.TheVariants as cell
use Rattle.step_plans.specs.Operations.{among, outcome, operation_of, stored, storing_of, no_future}
use Rattle.step_plans.specs.declared.instruction.Instruction.{Instruction}
use Rattle.step_plans.specs.declared.instruction.Instruction.TheVariants as does
use Rattle.step_plans.specs.declared.instruction.FutureInstruction.{FutureInstruction}
use Rattle.step_plans.specs.declared.instruction.FutureInstruction.TheVariants as moves
use Rattle.step_plans.specs.declared.instruction.Store.{Store}
use Rattle.step_plans.specs.declared.instruction.Store.TheVariants as keeps
use Rattle.step_plans.specs.declared.action.Source.{Source}
use Rattle.step_plans.specs.declared.action.Source.TheVariants as source

abbrev pub IsDivision : BinaryOp → Type 0
IsDivision Div = Unit {0}
IsDivision Rem = Unit {0}
IsDivision _ = ⊥

abbrev pub IsNoDivision : BinaryOp → Type 0
IsNoDivision Div = ⊥
IsNoDivision Rem = ⊥
IsNoDivision _ = Unit {0}

-- the number that an instruction gives, which reads values alone
abbrev pub given : (cells values : List ℕ) → Instruction → ℕ
given cells values i = outcome (among cells) (among values) (operation_of i)

abbrev pub future_at : List Cell → ℕ → Cell
future_at futures f = slice_index_or futures f no_future

-- the cell that an instruction on futures gives
abbrev pub moved : (values : List ℕ) → (futures : List Cell) → FutureInstruction → Cell
moved values futures (moves.Ready n) = cell.Ready n
moved values futures (moves.Select c k a b) = if slice_index values c == k then future_at futures a else future_at futures b
moved values futures (moves.Read m) = future_at futures m
moved values futures (moves.ReadUnless g m n) = if slice_index values g == 1 then cell.Ready n else future_at futures m

-- the values and cells that an instruction names are there, and no divisor is 0
abbrev pub IsWithin : (values cells : ℕ) → Instruction → Type 0
IsWithin n m (does.Constant k) = Unit {0}
IsWithin n m (does.Minus a) = a < n
IsWithin n m (does.Not a) = a < n
IsWithin n m (does.Add a b) = (a < n) × (b < n)
IsWithin n m (does.Subtract a b) = (a < n) × (b < n)
IsWithin n m (does.Multiply a b) = (a < n) × (b < n)
IsWithin n m (does.Or a b) = (a < n) × (b < n)
IsWithin n m (does.And a b) = (a < n) × (b < n)
IsWithin n m (does.Equal a b) = (a < n) × (b < n)
IsWithin n m (does.Different a b) = (a < n) × (b < n)
IsWithin n m (does.Less a b) = (a < n) × (b < n)
IsWithin n m (does.AtMost a b) = (a < n) × (b < n)
IsWithin n m (does.Greater a b) = (a < n) × (b < n)
IsWithin n m (does.AtLeast a b) = (a < n) × (b < n)
IsWithin n m (does.Quotient a k) = (a < n) × (k ≢ 0)
IsWithin n m (does.Remainder a k) = (a < n) × (k ≢ 0)
IsWithin n m (does.Select c k a b) = (c < n) × (a < n) × (b < n)
IsWithin n m (does.Flag h x k) = (h < n) × (x < n)
IsWithin n m (does.Again g h x) = (g < n) × (h < n) × (x < n)
IsWithin n m (does.Read c) = c < m
IsWithin n m (does.ReadUnless g c k) = (g < n) × (c < m)

abbrev pub IsFutureWithin : (values futures : ℕ) → FutureInstruction → Type 0
IsFutureWithin n f (moves.Ready k) = Unit {0}
IsFutureWithin n f (moves.Select c k a b) = (c < n) × (a < f) × (b < f)
IsFutureWithin n f (moves.Read m) = m < f
IsFutureWithin n f (moves.ReadUnless g m k) = (g < n) × (m < f)

-- ---- stores

abbrev pub IsStoreWithin : ℕ → Store → Type 0
IsStoreWithin n (keeps.Always a) = a < n
IsStoreWithin n (keeps.Where h a) = (h < n) × (a < n)
IsStoreWithin n (keeps.Unless h a g k) = (h < n) × (a < n) × (g < n)

-- the cells after an instant
abbrev pub IsAfter : List Store → (values old new : List ℕ) → Type 0
IsAfter stores values old new = (k : ℕ) (s : Store) → slice_get stores k ≡ Some s → slice_index new k ≡ stored (among values) (storing_of s) (slice_index old k)

-- the values of these numbers
abbrev pub AreIn : (registers values : List ℕ) → (outputs : List Cell) → Type 0
AreIn registers values outputs = (k r : ℕ) → slice_get registers k ≡ Some r → slice_index_or outputs k no_future ≡ cell.Value (slice_index values r)

-- ---- arguments

abbrev pub IsSourceWithin : (values futures : ℕ) → Source → Type 0
IsSourceWithin n f (source.Value r) = r < n
IsSourceWithin n f (source.Future r) = r < f
