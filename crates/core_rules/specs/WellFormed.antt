-- When a core is well formed.
use Rattle.std.specs.Prelude.{◌≡◌, ℕ, true, false, List, [], ◌∷◌, ◌++◌, map, All, Contains, Some, None, codes, pos}
use Rattle.hept_ast.specs.Texts.{Name, is_in, names}
use Rattle.hept_ast.specs.Scopes.{Clock}
use Rattle.hept_ast.specs.Parts.{inside}
use Rattle.hept_ast.specs.Clocks.{Meets, clock, expression, term_of}
use Rattle.hept_ast.specs.Faults.{calls_lead, calls_of, judge_expr, left_types, node_named, type_of_variable}
use Rattle.hept_ast.specs.Paths.{AllDiffer}
use Rattle.hept_ast.specs.declared.tree.Core.{Core}
use Rattle.hept_ast.specs.declared.tree.CoreNode.{CoreNode}
use Rattle.hept_ast.specs.declared.tree.CoreEquation.{CoreEquation}
use Rattle.hept_ast.specs.declared.tree.Decl.{Decl}
use Rattle.hept_ast.specs.declared.tree.Node.{Node}
use Rattle.hept_ast.specs.declared.tree.Ty.{Ty}
use Rattle.hept_ast.specs.declared.tree.Ty.TheVariants as ty
use Rattle.hept_ast.specs.declared.tree.Plain.TheVariants.{Int, Bool as Truth_value}
use Rattle.hept_ast.specs.declared.tree.Const.TheVariants.{Number}
use Rattle.hept_ast.specs.declared.tree.BinaryOp.TheVariants.{Add}
use Rattle.hept_ast.specs.declared.tree.Expr.{Expr}
use Rattle.hept_ast.specs.declared.tree.MergeBranch.{MergeBranch}
use Rattle.hept_ast.specs.declared.tree.Form.{Form, out-Form}
use Rattle.hept_ast.specs.declared.tree.Form.TheOpen.{Form-F}
use Rattle.hept_ast.specs.declared.tree.Form.TheVariants as form
use Rattle.core_rules.specs.Cores.{HasNoCoreCycle, as_node, core_clock, core_decls, core_judging, lefts_of}

-- ---- equations

abbrev pub IsNoLast : Form-F Form Expr MergeBranch → Type 0
IsNoLast (Form-F.Last x) = ⊥
IsNoLast _ = Unit {0}

-- the right side has no fault, the types of the left side, and no `last`; what resets it is of type bool
pub record IsTypedEquation (core : Core) (node : CoreNode) (e : CoreEquation) : Type 0 where
  pub faults : (judge_expr (core_judging core node) e.right).faults ≡ []
  pub types : List Ty
  pub right : (judge_expr (core_judging core node) e.right).types ≡ Some types
  pub left : left_types (core_judging core node) e.left ≡ Some types
  pub last : All (λ x. IsNoLast (out-Form x.form)) (inside e.right)
  pub resets : All (λ x. type_of_variable (core_judging core node) x ≡ Some (ty.Plain Truth_value)) e.resets

-- the conditions of clocks on the right side are met, which is on the equation's clock, by some clocks of the expressions in it
pub record IsClockedEquation (node : CoreNode) (e : CoreEquation) : Type 0 where
  pub numbers : ℕ → Clock
  pub right : clock (record { variable = core_clock node; expression = numbers }) (term_of (names (core_decls node)) 0 e.right.form) ≡ e.clock.steps
  pub meets : Meets (record { variable = core_clock node; expression = numbers }) (expression (names (core_decls node)) 0 e.right.place.0 e.right.form)

-- ---- nodes

pub record IsWellFormedNode (core : Core) (node : CoreNode) : Type 0 where
  -- each variable is declared once
  pub once : AllDiffer (names (core_decls node))
  -- each output and local is one left side, and no other name is
  pub one_left : AllDiffer (lefts_of node)
  pub defined : (x : Name) → is_in x (lefts_of node) ≡ is_in x (names (node.outputs ++ node.locals))
  -- calls lead from no node that it calls back to it
  pub calls : (f : Name) → is_in f (calls_of (Some (as_node node))) ≡ true → calls_lead (map as_node core.nodes) f node.name ≡ false
  pub typed : All (IsTypedEquation core node) node.equations
  pub clocked : All (IsClockedEquation node) node.equations
  -- outputs are on the base clock; inputs are, since no equation defines them
  pub outputs : All (λ d. core_clock node d.name ≡ []) node.outputs

abbrev pub IsWellFormed : Core → Type 0
IsWellFormed core = All (IsWellFormedNode core) core.nodes

-- ---- laws

-- a variable on the left side of an equation is on the equation's clock
abbrev pub ALeftSideIsOnItsClock : Type 0
ALeftSideIsOnItsClock = (core : Core) (node : CoreNode) (e : CoreEquation) (x : Name) → IsWellFormedNode core node → Contains node.equations e → is_in x e.left ≡ true → core_clock node x ≡ e.clock.steps

-- one node of a core calls another
abbrev pub CallsNode : List Node → Name → Name → Type 0
CallsNode nodes f g = is_in g (calls_of (node_named nodes f)) ≡ true

-- no chain of R goes on from x without end
pub data Accessible {A : Type 0} (R : A → A → Type 0) : A → Type 0 where
  reach : {x : A} → ((y : A) → R x y → Accessible R y) → Accessible R x

-- calls of a well-formed core end
abbrev pub CoreCallsEnd : Type 0
CoreCallsEnd = (core : Core) → IsWellFormed core → (f : Name) → Accessible (CallsNode (map as_node core.nodes)) f

-- ---- a core of one node, which gives the sum of its inputs before each instant and up to it

abbrev pub int_decl : Name → Decl
int_decl x = record { place = record { 0 = 0 }; name = x; ty = ty.Plain Int; init = None }

abbrev pub expr : Form → Expr
expr f = record { place = record { 0 = 0 }; form = f }

abbrev pub sum_node : CoreNode
sum_node = record {
  name = codes "sum";
  inputs = int_decl (codes "x") ∷ [];
  outputs = int_decl (codes "s") ∷ [];
  locals = int_decl (codes "y") ∷ [];
  equations =
      record { place = record { 0 = 0 }; left = codes "y" ∷ []; clock = record { steps = [] }; right = expr (form.Fby (expr (form.Const (Number (pos 0)))) (expr (form.Var (codes "s")))); resets = [] }
      ∷ record { place = record { 0 = 0 }; left = codes "s" ∷ []; clock = record { steps = [] }; right = expr (form.Binary Add (expr (form.Var (codes "x"))) (expr (form.Var (codes "y")))); resets = [] } ∷ [];
}

abbrev pub sum_core : Core
sum_core = record { types = []; nodes = sum_node ∷ [] }

abbrev pub SumIsWellFormed : Type 0
SumIsWellFormed = IsWellFormed sum_core × HasNoCoreCycle sum_core
