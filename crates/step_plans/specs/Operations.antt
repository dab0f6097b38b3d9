-- What instructions and stores compute, over registers that are values or futures.
use Rattle.std.specs.Prelude.{ℕ, ◌==◌, ◌&&◌, ◌||◌, if◌then◌else◌, List, slice_index, slice_index_or}
use Rattle.hept_ast.specs.Values.{truth, unary_value, binary_value}
use Rattle.hept_ast.specs.declared.tree.UnaryOp.{UnaryOp}
use Rattle.hept_ast.specs.declared.tree.UnaryOp.TheVariants as unary
use Rattle.hept_ast.specs.declared.tree.BinaryOp.{BinaryOp}
use Rattle.hept_ast.specs.declared.tree.BinaryOp.TheVariants as binary
use Rattle.step_cells.specs.declared.cell.Cell.{Cell}
use Rattle.step_cells.specs.declared.cell.Cell.TheVariants as cell
use Rattle.step_cells.specs.declared.cell.Handle.{Handle}
use Rattle.step_plans.specs.Books.{worth}
use Rattle.step_plans.specs.declared.instruction.Instruction.{Instruction}
use Rattle.step_plans.specs.declared.instruction.Instruction.TheVariants as does
use Rattle.step_plans.specs.declared.instruction.FutureInstruction.{FutureInstruction}
use Rattle.step_plans.specs.declared.instruction.FutureInstruction.TheVariants as moves
use Rattle.step_plans.specs.declared.instruction.Store.{Store}
use Rattle.step_plans.specs.declared.instruction.Store.TheVariants as keeps
use Rattle.step_plans.specs.declared.action.Source.{Source}
use Rattle.step_plans.specs.declared.action.Source.TheVariants as source

-- a number in one of two lists: of plain values, and of futures
pub data Register : Type 0 where
  In_values : ℕ → Register
  In_futures : ℕ → Register

abbrev pub no_future : Cell
no_future = cell.Ready 0

-- the number that a register stands for, under replies
abbrev pub look : (Handle → ℕ) → (values : List ℕ) → (futures : List Cell) → Register → ℕ
look reply values futures (In_values r) = slice_index values r
look reply values futures (In_futures f) = worth reply (slice_index_or futures f no_future)

-- plain values alone
abbrev pub among : List ℕ → Register → ℕ
among values (In_values r) = slice_index values r
among values (In_futures f) = 0

-- what one register is made of, by registers and cells
pub data Operation : Type 0 where
  Number_is : (n : ℕ) → Operation
  Unary_of : UnaryOp → Register → Operation
  Binary_of : BinaryOp → Register → Register → Operation
  Divided_by : BinaryOp → Register → (n : ℕ) → Operation
  -- the third where the first is this number, or else the last
  Chosen_by : Register → ℕ → Register → Register → Operation
  -- whether the first is 1 and the second is this number
  Flag_of : Register → Register → ℕ → Operation
  -- whether the first is 1, or the second and the third are
  Again_of : Register → Register → Register → Operation
  Cell_at : Register → Operation
  -- this number where the register is 1, or else the cell
  Cell_unless : Register → Register → (n : ℕ) → Operation

-- the number that an operation gives
abbrev pub outcome : (cells now : Register → ℕ) → Operation → ℕ
outcome cells now (Number_is n) = n
outcome cells now (Unary_of op a) = unary_value op (now a)
outcome cells now (Binary_of op a b) = binary_value op (now a) (now b)
outcome cells now (Divided_by op a n) = binary_value op (now a) n
outcome cells now (Chosen_by c k a b) = if now c == k then now a else now b
outcome cells now (Flag_of h x k) = truth (now h == 1 && now x == k)
outcome cells now (Again_of g h x) = truth (now g == 1 || (now h == 1 && now x == 1))
outcome cells now (Cell_at m) = cells m
outcome cells now (Cell_unless g m n) = if now g == 1 then n else cells m

abbrev pub operation_of : Instruction → Operation
operation_of (does.Constant n) = Number_is n
operation_of (does.Minus a) = Unary_of unary.Minus (In_values a)
operation_of (does.Not a) = Unary_of unary.Not (In_values a)
operation_of (does.Add a b) = Binary_of binary.Add (In_values a) (In_values b)
operation_of (does.Subtract a b) = Binary_of binary.Sub (In_values a) (In_values b)
operation_of (does.Multiply a b) = Binary_of binary.Mul (In_values a) (In_values b)
operation_of (does.Or a b) = Binary_of binary.Or (In_values a) (In_values b)
operation_of (does.And a b) = Binary_of binary.And (In_values a) (In_values b)
operation_of (does.Equal a b) = Binary_of binary.Eq (In_values a) (In_values b)
operation_of (does.Different a b) = Binary_of binary.Ne (In_values a) (In_values b)
operation_of (does.Less a b) = Binary_of binary.Lt (In_values a) (In_values b)
operation_of (does.AtMost a b) = Binary_of binary.Le (In_values a) (In_values b)
operation_of (does.Greater a b) = Binary_of binary.Gt (In_values a) (In_values b)
operation_of (does.AtLeast a b) = Binary_of binary.Ge (In_values a) (In_values b)
operation_of (does.Quotient a n) = Divided_by binary.Div (In_values a) n
operation_of (does.Remainder a n) = Divided_by binary.Rem (In_values a) n
operation_of (does.Select c k a b) = Chosen_by (In_values c) k (In_values a) (In_values b)
operation_of (does.Flag h x k) = Flag_of (In_values h) (In_values x) k
operation_of (does.Again g h x) = Again_of (In_values g) (In_values h) (In_values x)
operation_of (does.Read m) = Cell_at (In_values m)
operation_of (does.ReadUnless g m n) = Cell_unless (In_values g) (In_values m) n

-- the same of a future
abbrev pub future_operation_of : FutureInstruction → Operation
future_operation_of (moves.Ready n) = Number_is n
future_operation_of (moves.Select c k a b) = Chosen_by (In_values c) k (In_futures a) (In_futures b)
future_operation_of (moves.Read m) = Cell_at (In_futures m)
future_operation_of (moves.ReadUnless g m n) = Cell_unless (In_values g) (In_futures m) n

-- ---- stores

-- what a cell holds after an instant, by what it held
pub data Storing : Type 0 where
  Taken_always : Register → Storing
  -- the second where the first is 1, or else what it held
  Taken_where : Register → Register → Storing
  -- the second where the first is 1, or else this number where the third is 1, or else what it held
  Taken_unless : Register → Register → Register → (n : ℕ) → Storing

abbrev pub stored : (now : Register → ℕ) → Storing → (old : ℕ) → ℕ
stored now (Taken_always a) old = now a
stored now (Taken_where h a) old = if now h == 1 then now a else old
stored now (Taken_unless h a g n) old = if now h == 1 then now a else (if now g == 1 then n else old)

abbrev pub storing_of : Store → Storing
storing_of (keeps.Always a) = Taken_always (In_values a)
storing_of (keeps.Where h a) = Taken_where (In_values h) (In_values a)
storing_of (keeps.Unless h a g n) = Taken_unless (In_values h) (In_values a) (In_values g) n

-- the same of a cell of future type
abbrev pub future_storing_of : Store → Storing
future_storing_of (keeps.Always a) = Taken_always (In_futures a)
future_storing_of (keeps.Where h a) = Taken_where (In_values h) (In_futures a)
future_storing_of (keeps.Unless h a g n) = Taken_unless (In_values h) (In_futures a) (In_values g) n

-- ---- arguments of calls

abbrev pub register_of : Source → Register
register_of (source.Value r) = In_values r
register_of (source.Future f) = In_futures f

abbrev pub cell_of : (values : List ℕ) → (futures : List Cell) → Source → Cell
cell_of values futures (source.Value r) = cell.Value (slice_index values r)
cell_of values futures (source.Future f) = slice_index_or futures f no_future
