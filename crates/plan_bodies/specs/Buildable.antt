-- The nodes that plans are built of so far.
use Rattle.std.specs.Prelude.{◌≡◌, ℕ, zero, suc, true, false, List, [], ◌∷◌, ◌++◌, All, Contains, Some, length, slice_get}
use Rattle.core_rules.specs.Cores.{lefts_of}
use Rattle.hept_ast.specs.Texts.{Name, is_in, names, place_in}
use Rattle.hept_ast.specs.Scopes.{Scope, Lowered, equation_of}
use Rattle.hept_ast.specs.declared.tree.TypeDec.{TypeDec}
use Rattle.hept_ast.specs.declared.tree.Core.{Core}
use Rattle.hept_ast.specs.declared.tree.CoreNode.{CoreNode}
use Rattle.hept_ast.specs.declared.tree.CoreEquation.{CoreEquation}
use Rattle.hept_ast.specs.declared.tree.Expr.{Expr}
use Rattle.hept_ast.specs.declared.tree.MergeBranch.{MergeBranch}
use Rattle.hept_ast.specs.declared.tree.Form.{Form, out-Form}
use Rattle.hept_ast.specs.declared.tree.Form.TheOpen.{Form-F}
use Rattle.hept_ast.specs.declared.tree.Form.TheVariants as form
use Rattle.step_plans.specs.Memories.{nodes_of}
use Rattle.step_plans.specs.Plans.{Ground, IsBodyOf, IsInputAt}
use Rattle.plan_expressions.specs.Computable.{Computable}
use Rattle.plan_equations.specs.Rights.{IsRight}
use Rattle.plan_equations.specs.Grounds.{HasBody}
use Rattle.plan_equations.specs.Equations.{AreKnown, IsFound, IsGroundedEquation}

-- ---- calls

-- the equation is a call of this node on these arguments
pub record IsCallOf (core : Core) (e : CoreEquation) (args : List Expr) (callee : CoreNode) : Type 0 where
  pub name : Name
  pub form : e.right.form ≡ form.Call name args
  pub named : nodes_of core name ≡ Some (Lowered callee)

-- an equation that is found by each of its variables, at its place
pub record IsFoundByAll (node : CoreNode) (e : CoreEquation) : Type 0 where
  pub found : (j : ℕ) (x : Name) → slice_get e.left j ≡ Some x → (equation_of node x ≡ Some e) × (place_in x e.left ≡ j) × (is_in x (names node.inputs) ≡ false)
  pub resets : e.resets ≡ []

-- arguments are constants and known variables, as many as there are inputs; and as many variables as outputs take what it gives
pub record IsCallable (types : List TypeDec) (node : CoreNode) (known : List Name) (e : CoreEquation) (args : List Expr) (callee : CoreNode) : Type 0 where
  pub found : IsFoundByAll node e
  pub arguments : All (Computable types known 0) args
  pub inputs : length args ≡ length callee.inputs
  pub outputs : length e.left ≡ length callee.outputs

-- ---- nodes

-- equations without resets, each after those that it and its clock read at the instant: of one variable each, or calls
pub data AreBuildable (core : Core) (node : CoreNode) : (known : List Name) → List CoreEquation → Type 0 where
  no_equation : {known : List Name} → AreBuildable core node known []
  one_more : {known : List Name} {e : CoreEquation} {es : List CoreEquation} (x : Name) → IsFound node e x → AreKnown known e.clock.steps → IsRight core.types known (suc (length e.clock.steps)) e.right → AreBuildable core node (known ++ x ∷ []) es →
      AreBuildable core node known (e ∷ es)
  one_call : {known : List Name} {e : CoreEquation} {es : List CoreEquation} (args : List Expr) (callee : CoreNode) → IsCallOf core e args callee → AreKnown known e.clock.steps → IsCallable core.types node known e args callee →
      AreBuildable core node (known ++ e.left) es → AreBuildable core node known (e ∷ es)

-- what a memory operator takes for its next instant, in which no `when` and no merge stands
abbrev pub KeepsComputable : List TypeDec → List Name → Form-F Form Expr MergeBranch → Type 0
KeepsComputable types variables (Form-F.Fby a b) = Computable types variables 0 b
KeepsComputable types variables (Form-F.Pre a) = Computable types variables 0 a
KeepsComputable types variables _ = Unit {0}

-- it is computed from variables
abbrev pub IsKeepable : List TypeDec → List Name → Expr → Type 0
IsKeepable types variables e = KeepsComputable types variables (out-Form e.form)

-- the inputs, and then the left sides
abbrev pub variables_of : CoreNode → List Name
variables_of node = names node.inputs ++ lefts_of node

-- a node without what it calls
pub record IsBuildableAlone (core : Core) (node : CoreNode) : Type 0 where
  pub places : (k : ℕ) (x : Name) → slice_get (names node.inputs) k ≡ Some x → IsInputAt node k x
  pub equations : AreBuildable core node (names node.inputs) node.equations
  pub kept : All (λ e. IsKeepable core.types (variables_of node) e.right) node.equations
  pub outputs : All (λ x. is_in x (variables_of node) ≡ true) (names node.outputs)
  pub grounded : (g : Ground) (b : Scope) → IsBodyOf b node → HasBody g (record { node = node; scope = b }) → All (IsGroundedEquation g node b) node.equations

-- with the nodes that it calls, where no chain of calls has more nodes than the depth
unfoldable pub IsBuildable : Core → (depth : ℕ) → CoreNode → Type 0
IsBuildable core zero node = ⊥
IsBuildable core (suc depth) node = IsBuildableAlone core node × ((e : CoreEquation) (args : List Expr) (callee : CoreNode) → Contains node.equations e → IsCallOf core e args callee → IsBuildable core depth callee)
