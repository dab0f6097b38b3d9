-- What a path leads to: a scope, or an expression on a clock in a scope.
use Rattle.std.specs.Prelude.{◌≡◌, ℕ, ◌-◌, ◌∷◌, ◌++◌, List, [], length, take, Option, Some, None, slice_get}
use Rattle.hept_ast.specs.Texts.{Name}
use Rattle.hept_ast.specs.Scopes.{Clock, Text, Written, Scope, Top, Called, In_branch, In_body, In_state, block_of, text_of}
use Rattle.hept_ast.specs.Meaning.{Setting, clock_seen, call_of}
use Rattle.hept_ast.specs.Settings.{of_program, no_marks, no_replies}
use Rattle.hept_ast.specs.ClockMaps.{clock_in}
use Rattle.hept_ast.specs.Stages.{ClockedProgram}
use Rattle.hept_ast.specs.declared.tree.Node.{Node}
use Rattle.hept_ast.specs.declared.tree.Expr.{Expr}
use Rattle.hept_ast.specs.declared.tree.MergeBranch.{MergeBranch}
use Rattle.hept_ast.specs.declared.tree.Form.{Form, out-Form}
use Rattle.hept_ast.specs.declared.tree.Form.TheOpen.{Form-F}
use Rattle.hept_ast.specs.declared.tree.Block.{Block}
use Rattle.hept_ast.specs.declared.tree.Branch.{Branch}
use Rattle.hept_ast.specs.declared.tree.State.{State}
use Rattle.answer_table.specs.declared.paths.Step.{Step}
use Rattle.answer_table.specs.declared.paths.Step.TheVariants as way
use Rattle.answer_table.specs.declared.paths.View.{View}
use Rattle.answer_table.specs.declared.paths.View.TheVariants as seen
use Rattle.answer_table.specs.Parts.{branch_at, body_at, states_at, right_at, left_at, on_at, every_at, root_of, operand_of}

pub data Thing : Type 0 where
  In : Scope → Thing
  At : Expr → Clock → Scope → Thing
  Nowhere : Thing

-- the setting of a program with its clocks
abbrev pub setting_of : ClockedProgram → Setting
setting_of c = of_program c.program (clock_in c.clocks) no_marks no_replies

-- ---- from a scope

abbrev pub branch_thing : Scope → Option Expr → Option Branch → Thing
branch_thing s (Some on) (Some b) = In (In_branch s on b)
branch_thing s _ _ = Nowhere

abbrev pub body_thing : Scope → Option Expr → Option Block → Thing
body_thing s (Some every) (Some block) = In (In_body s every block)
body_thing s _ _ = Nowhere

abbrev pub state_thing : Scope → Option (List State) → ℕ → Thing
state_thing s (Some states) k = In (In_state s states k)
state_thing s None k = Nowhere

abbrev pub right_thing : Setting → Scope → Option Name → Option Expr → Thing
right_thing w s (Some x) (Some e) = At e (clock_seen w x s) s
right_thing w s _ _ = Nowhere

abbrev pub base_thing : Scope → Option Expr → Thing
base_thing s (Some e) = At e [] s
base_thing s None = Nowhere

abbrev pub weak_thing : Scope → Option (List State) → ℕ → Option Expr → Thing
weak_thing s (Some states) k e = base_thing (In_state s states k) e
weak_thing s None k e = Nowhere

abbrev pub from_scope : Setting → Scope → Step → Thing
from_scope w s (way.Branch i j) = branch_thing s (on_at (block_of s) i) (branch_at (block_of s) i j)
from_scope w s (way.Body i) = body_thing s (every_at (block_of s) i) (body_at (block_of s) i)
from_scope w s (way.State i k) = state_thing s (states_at (block_of s) i) k
from_scope w s (way.Right i n) = right_thing w s (left_at (block_of s) i n) (right_at (block_of s) i)
from_scope w s (way.On i) = base_thing s (on_at (block_of s) i)
from_scope w s (way.Every i) = base_thing s (every_at (block_of s) i)
from_scope w s (way.Strong i k n) = base_thing s (root_of (block_of s) (way.Strong i k n))
from_scope w s (way.Weak i k n) = weak_thing s (states_at (block_of s) i) k (root_of (block_of s) (way.Weak i k n))
from_scope w s _ = Nowhere

-- ---- from an expression

abbrev pub merge_clock : Option MergeBranch → Name → Clock → Clock
merge_clock None x clock = clock
merge_clock (Some b) x clock = clock ++ record { tag = b.tag; name = x } ∷ []

-- the clock of an operand of an expression on a clock
abbrev pub operand_clock : Form-F Form Expr MergeBranch → ℕ → Clock → Clock
operand_clock (Form-F.When a tag x) n clock = take (length clock - 1) clock
operand_clock (Form-F.Merge x branches) n clock = merge_clock (slice_get branches n) x clock
operand_clock _ n clock = clock

abbrev pub expression_thing : Option Expr → Clock → Scope → Thing
expression_thing None clock s = Nowhere
expression_thing (Some e) clock s = At e clock s

abbrev pub callee_thing : Option (List Expr × Text) → ℕ → Clock → Scope → Thing
callee_thing None place clock s = Nowhere
callee_thing (Some c) place clock s = In (Called s clock place c.0 c.1)

abbrev pub from_expression : Setting → Expr → Clock → Scope → Step → Thing
from_expression w e clock s (way.Operand n) = expression_thing (operand_of (out-Form e.form) n) (operand_clock (out-Form e.form) n clock) s
from_expression w e clock s way.Callee = callee_thing (call_of w (out-Form e.form)) e.place.0 clock s
from_expression w e clock s _ = Nowhere

-- what a step leads to
abbrev pub part : Setting → Thing → Step → Thing
part w (In s) step = from_scope w s step
part w (At e clock s) step = from_expression w e clock s step
part w Nowhere step = Nowhere

-- what a path leads to
abbrev pub along : Setting → Thing → List Step → Thing
along w thing [] = thing
along w thing (step ∷ steps) = along w (part w thing step) steps

abbrev pub body_of : ℕ → Option Node → Thing
body_of number None = Nowhere
body_of number (Some node) = In (Top (Written number node))

-- what a path leads to from the body of the chosen node
abbrev pub thing_at : ClockedProgram → (top : ℕ) → List Step → Thing
thing_at c top path = along (setting_of c) (body_of top (slice_get c.program.nodes top)) path

-- a thing is a scope in this text with this block
pub record IsScopeOf (thing : Thing) (text : Text) (block : Block) : Type 0 where
  pub scope : Scope
  pub is : thing ≡ In scope
  pub words : text_of scope ≡ text
  pub own : block_of scope ≡ block

-- a thing is this expression, in this text
pub record IsExpressionOf (thing : Thing) (text : Text) (expr : Expr) : Type 0 where
  pub clock : Clock
  pub scope : Scope
  pub is : thing ≡ At expr clock scope
  pub words : text_of scope ≡ text

-- ---- what the code keeps of a thing

abbrev pub Shows : Thing → View → Type 0
Shows (In s) (seen.Scope number node block) = (text_of s ≡ Written number node.now) × (block_of s ≡ block.now)
Shows (At e clock s) (seen.Expression number node expr) = (text_of s ≡ Written number node.now) × (e ≡ expr.now)
Shows _ _ = ⊥
