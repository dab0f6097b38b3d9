-- The parts of blocks and of expressions, by positions.
use Rattle.std.specs.Prelude.{ℕ, zero, suc, List, Option, Some, None, slice_get}
use Rattle.std.specs.Option.{option_map}
use Rattle.hept_ast.specs.Texts.{Name}
use Rattle.hept_ast.specs.declared.tree.Expr.{Expr}
use Rattle.hept_ast.specs.declared.tree.MergeBranch.{MergeBranch}
use Rattle.hept_ast.specs.declared.tree.Form.{Form}
use Rattle.hept_ast.specs.declared.tree.Form.TheOpen.{Form-F}
use Rattle.hept_ast.specs.declared.tree.Escape.{Escape}
use Rattle.hept_ast.specs.declared.tree.Block.{Block}
use Rattle.hept_ast.specs.declared.tree.Branch.{Branch}
use Rattle.hept_ast.specs.declared.tree.State.{State}
use Rattle.hept_ast.specs.declared.tree.Equation.{Equation, out-Equation}
use Rattle.hept_ast.specs.declared.tree.Equation.TheOpen.{Equation-F}
use Rattle.answer_table.specs.declared.paths.Step.{Step}
use Rattle.answer_table.specs.declared.paths.Step.TheVariants as way

-- ---- equations

abbrev pub An_equation : Type 0
An_equation = Equation-F Equation Block Branch State

abbrev pub branches_in : An_equation → Option (List Branch)
branches_in (Equation-F.Switch p on branches) = Some branches
branches_in _ = None

abbrev pub states_in : An_equation → Option (List State)
states_in (Equation-F.Automaton p states) = Some states
states_in _ = None

abbrev pub body_in : An_equation → Option Block
body_in (Equation-F.Reset p block every) = Some block
body_in _ = None

abbrev pub left_in : An_equation → Option (List Name)
left_in (Equation-F.Define p left right) = Some left
left_in _ = None

abbrev pub right_in : An_equation → Option Expr
right_in (Equation-F.Define p left right) = Some right
right_in _ = None

abbrev pub on_in : An_equation → Option Expr
on_in (Equation-F.Switch p on branches) = Some on
on_in _ = None

abbrev pub every_in : An_equation → Option Expr
every_in (Equation-F.Reset p block every) = Some every
every_in _ = None

-- what comes next, where there is one
abbrev pub and_then : {A B : Type 0} → Option A → (A → Option B) → Option B
and_then None f = None
and_then (Some x) f = f x

-- a view of the equation at a position of a block
abbrev pub in_equation : {A : Type 0} → (An_equation → Option A) → Block → ℕ → Option A
in_equation f block i = and_then (slice_get block.body i) (λ e. f (out-Equation e))

abbrev pub branch_at : Block → ℕ → ℕ → Option Branch
branch_at block i j = and_then (in_equation branches_in block i) (λ branches. slice_get branches j)

abbrev pub body_at : Block → ℕ → Option Block
body_at block i = in_equation body_in block i

abbrev pub states_at : Block → ℕ → Option (List State)
states_at block i = in_equation states_in block i

abbrev pub state_at : Block → ℕ → ℕ → Option State
state_at block i k = and_then (states_at block i) (λ states. slice_get states k)

abbrev pub right_at : Block → ℕ → Option Expr
right_at block i = in_equation right_in block i

abbrev pub left_at : Block → ℕ → ℕ → Option Name
left_at block i n = and_then (in_equation left_in block i) (λ left. slice_get left n)

abbrev pub on_at : Block → ℕ → Option Expr
on_at block i = in_equation on_in block i

abbrev pub every_at : Block → ℕ → Option Expr
every_at block i = in_equation every_in block i

abbrev pub strong_at : Block → ℕ → ℕ → ℕ → Option Escape
strong_at block i k n = and_then (state_at block i k) (λ state. slice_get state.strong n)

abbrev pub weak_at : Block → ℕ → ℕ → ℕ → Option Escape
weak_at block i k n = and_then (state_at block i k) (λ state. slice_get state.weak n)

-- ---- expressions

abbrev pub only : Expr → ℕ → Option Expr
only a zero = Some a
only a (suc n) = None

abbrev pub one_of : Expr → Expr → ℕ → Option Expr
one_of a b zero = Some a
one_of a b (suc n) = only b n

abbrev pub one_of_three : Expr → Expr → Expr → ℕ → Option Expr
one_of_three a b c zero = Some a
one_of_three a b c (suc n) = one_of b c n

-- an operand, or an argument of a call
abbrev pub operand_of : Form-F Form Expr MergeBranch → ℕ → Option Expr
operand_of (Form-F.Unary op a) n = only a n
operand_of (Form-F.Binary op a b) n = one_of a b n
operand_of (Form-F.If c a b) n = one_of_three c a b n
operand_of (Form-F.Fby a b) n = one_of a b n
operand_of (Form-F.Pre a) n = only a n
operand_of (Form-F.Arrow a b) n = one_of a b n
operand_of (Form-F.When a tag x) n = only a n
operand_of (Form-F.Merge x branches) n = option_map (λ b. b.value) (slice_get branches n)
operand_of (Form-F.Call f args) n = slice_get args n
operand_of (Form-F.AsyncCall q f args) n = slice_get args n
operand_of (Form-F.Get a) n = only a n
operand_of _ n = None

-- the name of the node that an expression calls
abbrev pub called_of : Form-F Form Expr MergeBranch → Option Name
called_of (Form-F.Call f args) = Some f
called_of (Form-F.AsyncCall q f args) = Some f
called_of _ = None

-- ---- steps from a block

-- the block that a step leads to
abbrev pub inner_of : Block → Step → Option Block
inner_of block (way.Branch i j) = option_map (λ b. b.block) (branch_at block i j)
inner_of block (way.Body i) = body_at block i
inner_of block (way.State i k) = option_map (λ q. q.block) (state_at block i k)
inner_of block _ = None

-- the expression that a step leads to
abbrev pub root_of : Block → Step → Option Expr
root_of block (way.Right i n) = and_then (left_at block i n) (λ x. right_at block i)
root_of block (way.On i) = on_at block i
root_of block (way.Every i) = every_at block i
root_of block (way.Strong i k n) = option_map (λ e. e.condition) (strong_at block i k n)
root_of block (way.Weak i k n) = option_map (λ e. e.condition) (weak_at block i k n)
root_of block _ = None
