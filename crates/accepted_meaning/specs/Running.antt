-- What is known of a sound program on rows that fit.
use Rattle.std.specs.Prelude.{◌≡◌, ℕ, ◌<◌, Bool, false, List, [], ◌∷◌, length, Contains, Some, slice_get}
use Rattle.hept_ast.specs.Texts.{Name}
use Rattle.hept_ast.specs.Scopes.{Clock, Text, Written, Scope, block_of, text_of}
use Rattle.hept_ast.specs.Meaning.{Question, Gives, Variable, Present, Active_state, Answer, Absent, Nil, Value, Is, State_at, Setting}
use Rattle.hept_ast.specs.Settings.{Marks, Replies, of_program}
use Rattle.hept_ast.specs.Outputs.{Knows}
use Rattle.hept_ast.specs.Initial.{Grades}
use Rattle.hept_ast.specs.ClockMaps.{clock_in}
use Rattle.hept_ast.specs.Stages.{ClockedProgram}
use Rattle.hept_ast.specs.declared.tree.TypeDec.{TypeDec}
use Rattle.hept_ast.specs.declared.tree.Decl.{Decl}
use Rattle.hept_ast.specs.declared.tree.Node.{Node}
use Rattle.hept_ast.specs.declared.tree.Expr.{Expr}
use Rattle.hept_ast.specs.declared.tree.State.{State}
use Rattle.hept_ast.specs.declared.tree.Ty.{Ty}
use Rattle.hept_ast.specs.declared.tree.Equation.{Equation, out-Equation}
use Rattle.hept_ast.specs.declared.tree.Equation.TheOpen.{Equation-F}
use Rattle.hept_ast.specs.declared.name.Place.{Place}
use Rattle.hept_ast.specs.TypedValues.{IsValueOf, RowsFit}
use Rattle.sound_expressions.specs.Sound.{Within, Sees, Sound}
use Rattle.accepted_meaning.specs.SoundNodes.{SoundNode, SoundProgram, within}
use Rattle.accepted_meaning.specs.Placing.{IsPlaced, RepliesFit, site_of}

-- a program with its clocks, the chosen node, restarts, replies, and rows
pub record Run : Type 0 where
  pub program : ClockedProgram
  pub number : ℕ
  pub node : Node
  pub marked : Marks
  pub replies : Replies
  pub rows : List (List ℕ)

abbrev pub setting_of : Run → Setting
setting_of r = of_program r.program.program (clock_in r.program.clocks) r.marked r.replies

abbrev pub text_run : Run → Text
text_run r = Written r.number r.node

abbrev pub types_in : Run → List TypeDec
types_in r = r.program.program.types

abbrev pub IsKnown : Run → Question → Answer → Type 0
IsKnown r q a = Knows (setting_of r) r.rows q a

abbrev pub IsPlacedIn : Run → Scope → Type 0
IsPlacedIn r s = IsPlaced r.program (setting_of r) (text_run r) s

-- the program is sound, and rows and replies fit
pub record IsSoundRun (r : Run) : Type 0 where
  pub sound : SoundProgram r.program
  pub chosen : slice_get r.program.program.nodes r.number ≡ Some r.node
  pub replies_fit : RepliesFit r.program (setting_of r) (text_run r) r.replies
  pub rows_fit : RowsFit (types_in r) r.node.inputs r.rows

-- a node of the program, at its position, with grades by which it is sound
pub record IsNodeOf (r : Run) (k : Within) (n : ℕ) : Type 0 where
  pub node : Node
  pub grades : Grades
  pub at : slice_get r.program.program.nodes n ≡ Some node
  pub is : k ≡ within r.program n node grades
  pub sound_node : SoundNode k

-- a scope stands in the text of this node
pub record StandsIn (r : Run) (k : Within) (s : Scope) : Type 0 where
  pub number : ℕ
  pub of_node : IsNodeOf r k number
  pub text : text_of s ≡ Written number k.node
  pub placed : IsPlacedIn r s

-- absent, undefined, or a value of a type
pub data IsDataOf (types : List TypeDec) (t : Ty) : Answer → Type 0 where
  no_data : IsDataOf types t Absent
  nil_data : IsDataOf types t Nil
  value_data : {v : ℕ} → IsValueOf types t v → IsDataOf types t (Value v)

-- ---- what is known fits: types, presence and grades

abbrev pub ExpressionsFit : Run → Type 0
ExpressionsFit r = (k : Within) (s : Scope) (e : Expr) (c : Clock) (ty : Ty) (t : ℕ) (a : Answer) →
    StandsIn r k s → Sound k (site_of s) e c (ty ∷ []) → IsKnown r (Gives e c s t) a → IsDataOf (types_in r) ty a

abbrev pub VariablesFit : Run → Type 0
VariablesFit r = (k : Within) (s : Scope) (x : Name) (d : Decl) (c : Clock) (t : ℕ) (a : Answer) →
    StandsIn r k s → Sees k (site_of s) x d c → IsKnown r (Variable x s t) a → IsDataOf (types_in r) d.ty a

abbrev pub StatesFit : Run → Type 0
StatesFit r = (k : Within) (s : Scope) (e : Equation) (p : Place) (states : List State) (t : ℕ) (j : ℕ) (mark : Bool) →
    StandsIn r k s → Contains (block_of s).body e → out-Equation e ≡ Equation-F.Automaton p states → 0 < length states →
    IsKnown r (Active_state s states t) (State_at j mark) → j < length states

-- what is known to be absent is not present
abbrev pub AbsentIsNotPresent : Run → Type 0
AbsentIsNotPresent r = (k : Within) (s : Scope) (x : Name) (d : Decl) (c : Clock) (t : ℕ) →
    StandsIn r k s → Sees k (site_of s) x d c → IsKnown r (Variable x s t) Absent → IsKnown r (Present c s t) (Is false)

-- a variable of grade 0 is never undefined
abbrev pub DefinedIsNotNil : Run → Type 0
DefinedIsNotNil r = (k : Within) (s : Scope) (x : Name) (d : Decl) (c : Clock) (t : ℕ) →
    StandsIn r k s → Sees k (site_of s) x d c → k.grade x ≡ false → IsKnown r (Variable x s t) Nil → ⊥
