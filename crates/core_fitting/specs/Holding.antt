-- What holds in a scope of a core's expanded text at an instant.
use Rattle.std.specs.Prelude.{◌≡◌, ℕ, ◌<◌, ◌≤◌, Bool, true, false, List, [], ◌∷◌, ◌++◌, map, Contains, Some}
use Rattle.hept_ast.specs.Texts.{Name, is_in, tag_value, names}
use Rattle.hept_ast.specs.Scopes.{Clock, Scope, Top, Called, Under, Lowered}
use Rattle.hept_ast.specs.Settings.{Marks, Replies, of_core}
use Rattle.hept_ast.specs.Meaning.{Question, Gives, Variable, Active, Restarted, Answer, Absent, Nil, Value, Is, Setting, is_true, is_value, own_rule}
use Rattle.hept_ast.specs.Outputs.{Knows, Follows}
use Rattle.hept_ast.specs.TypedValues.{AreValuesOf, IsValueOf}
use Rattle.hept_ast.specs.Types.{types_of}
use Rattle.hept_ast.specs.declared.tree.Core.{Core}
use Rattle.hept_ast.specs.declared.tree.CoreNode.{CoreNode}
use Rattle.hept_ast.specs.declared.tree.CoreEquation.{CoreEquation}
use Rattle.hept_ast.specs.declared.tree.ClockStep.{ClockStep}
use Rattle.hept_ast.specs.declared.tree.TypeDec.{TypeDec}
use Rattle.hept_ast.specs.declared.tree.Decl.{Decl}
use Rattle.hept_ast.specs.declared.tree.Expr.{Expr}
use Rattle.hept_ast.specs.declared.tree.Ty.{Ty}
use Rattle.core_rules.specs.Cores.{as_node, core_clock}
use Rattle.core_rules.specs.WellFormed.{CallsNode}
use Rattle.core_facts.specs.Undefined.{Among, Grades}
use Rattle.core_fitting.specs.Sound.{IsCall, IsNamed, IsProper, Reads, Sound, SoundArguments, SoundNode, SoundResets, Within, expressions_in, within}

-- a core under marks and replies, on rows
pub record Run : Type 0 where
  pub core : Core
  pub marked : Marks
  pub replies : Replies
  pub rows : List (List ℕ)

abbrev pub setting_of : Run → Setting
setting_of r = of_core r.core r.marked r.replies

abbrev pub types_in : Run → List TypeDec
types_in r = r.core.types

abbrev pub IsKnown : Run → Question → Answer → Type 0
IsKnown r q a = Knows (setting_of r) r.rows q a

-- ---- presence

-- whether the steps of a clock hold, as their variables' answers say
pub data Steps (r : Run) (s : Scope) (t : ℕ) : Clock → Bool → Type 0 where
  no_step : Steps r s t [] true
  holds : {p : ClockStep} {steps : Clock} {a : Answer} {b : Bool} → IsKnown r (Variable p.name s t) a → is_value (tag_value (types_in r) p.tag) a ≡ true →
      Steps r s t steps b → Steps r s t (p ∷ steps) b
  fails : {p : ClockStep} {steps : Clock} {a : Answer} → IsKnown r (Variable p.name s t) a → is_value (tag_value (types_in r) p.tag) a ≡ false →
      Steps r s t (p ∷ steps) false

pub data Here (r : Run) (s : Scope) (t : ℕ) (c : Clock) : Bool → Type 0 where
  inactive : IsKnown r (Active s t) (Is false) → Here r s t c false
  active : {b : Bool} → IsKnown r (Active s t) (Is true) → Steps r s t c b → Here r s t c b

-- no restart at an instant, neither of the scope nor by these resets
pub record Quiet (r : Run) (s : Scope) (t : ℕ) (resets : List Name) : Type 0 where
  pub scope : IsKnown r (Restarted s t) (Is false)
  pub names : (x : Name) → is_in x resets ≡ true → (a : Answer) × IsKnown r (Variable x s t) a × (is_true a ≡ false)

-- an instant before t at which a clock is present, and since which there was no restart
pub record Earlier (r : Run) (s : Scope) (t : ℕ) (c : Clock) (resets : List Name) : Type 0 where
  pub instant : ℕ
  pub before : instant < t
  pub here : Here r s instant c true
  pub quiet : (q : ℕ) → instant < q → q ≤ t → Quiet r s q resets

-- ---- what fits

-- absent where it is not present; where it is, a value of the type, or undefined, only by one of the lists of the grade and only
-- where the clock had no earlier instant
pub data Okay (r : Run) (s : Scope) (t : ℕ) (c : Clock) (y : Ty) (n : List (List Name)) : Bool → Answer → Type 0 where
  gone : Okay r s t c y n false Absent
  missing : {l : List Name} → Among l n → (Earlier r s t c l → ⊥) → Okay r s t c y n true Nil
  given : {v : ℕ} → IsValueOf (types_in r) y v → Okay r s t c y n true (Value v)

pub record Fits (r : Run) (q : Question) (s : Scope) (t : ℕ) (c : Clock) (y : Ty) (n : List (List Name)) (b : Bool) : Type 0 where
  pub answer : Answer
  pub known : IsKnown r q answer
  pub okay : Okay r s t c y n b answer

pub record VariableFits (r : Run) (k : Within) (s : Scope) (t : ℕ) (x : Name) (d : Decl) : Type 0 where
  pub present : Bool
  pub here : Here r s t (core_clock k.node x) present
  pub fits : Fits r (Variable x s t) s t (core_clock k.node x) d.ty (k.grade x) present

-- what holds in the body of a node at an instant
pub record Holds (r : Run) (k : Within) (s : Scope) (t : ℕ) : Type 0 where
  pub active : (b : Bool) × IsKnown r (Active s t) (Is b)
  pub restarted : (b : Bool) × IsKnown r (Restarted s t) (Is b)
  pub variables : (x : Name) (d : Decl) (c : Clock) → Reads k x d c → VariableFits r k s t x d
  pub expressions : (resets : List Name) (e : Expr) (c : Clock) (y : Ty) (n : List (List Name)) (b : Bool) →
      SoundResets k resets → Sound r.core k resets e c y n → IsProper k c → Here r s t c b → Fits r (Gives e c (Under s resets) t) s t c y n b

-- what holds around it: whether it is active, whether it is restarted, and its inputs where it is active
pub record HasInput (r : Run) (s : Scope) (t : ℕ) (x : Name) (d : Decl) : Type 0 where
  pub value : ℕ
  pub gives : Follows (Knows (setting_of r) r.rows) r.rows (own_rule (setting_of r) s x t) (Value value)
  pub fits : IsValueOf (types_in r) d.ty value

pub data Surrounded (r : Run) (k : Within) (s : Scope) (t : ℕ) : Type 0 where
  off : {a : Bool} → IsKnown r (Active s t) (Is false) → IsKnown r (Restarted s t) (Is a) → Surrounded r k s t
  on : {a : Bool} → IsKnown r (Active s t) (Is true) → IsKnown r (Restarted s t) (Is a) →
      ((x : Name) (d : Decl) (c : Clock) → Reads k x d c → is_in x (names k.node.inputs) ≡ true → HasInput r s t x d) → Surrounded r k s t

-- ---- the scopes of the expanded text

-- the places of the calls from a node to a call, which gives these types
pub data IsCallPath (core : Core) : CoreNode → List ℕ → List Ty → Type 0 where
  own_call : {node g : CoreNode} {e : Expr} {f : Name} {args : List Expr} {future : Bool} → Contains (expressions_in node) e → IsCall e f args future → IsNamed core f g →
      IsCallPath core node (e.place.0 ∷ []) (types_of g.outputs)
  inner_call : {node g : CoreNode} {e : Expr} {f : Name} {args : List Expr} {future : Bool} {path : List ℕ} {ts : List Ty} → Contains (expressions_in node) e → IsCall e f args future →
      IsNamed core f g → IsCallPath core g path ts → IsCallPath core node (e.place.0 ∷ path) ts

-- replies to the calls of a scope of a node have the types of the outputs
abbrev pub RepliesFit : Run → CoreNode → (around : List ℕ) → Type 0
RepliesFit r node around =
    (path : List ℕ) (ts : List Ty) (n : ℕ) (outs : List ℕ) → IsCallPath r.core node path ts → r.replies (around ++ path) n ≡ Some outs → AreValuesOf (types_in r) ts outs

-- the body of the chosen node, and of each node that is called in an equation of such a body
pub data IsBody (r : Run) (chosen : Within) : Within → Scope → Type 0 where
  chosen_body : IsBody r chosen chosen (Top (Lowered chosen.node))
  called_body : {k : Within} {g : CoreNode} {s : Scope} {e : CoreEquation} {x : Expr} {f : Name} {c : Clock} {args : List Expr} {future : Bool} {grades : Grades} →
      IsBody r chosen k s → Contains k.node.equations e → IsProper k c → IsCall x f args future → IsNamed r.core f g → CallsNode (map as_node r.core.nodes) k.name f →
      Contains (expressions_in k.node) x → SoundArguments r.core k e.resets args c g.inputs → SoundNode r.core (within f g grades) →
      IsBody r chosen (within f g grades) (Called (Under s e.resets) c x.place.0 args (Lowered g))
