-- A node in whose expanded text no async call stands is ready for a step at each instant.
use Rattle.std.specs.Prelude.{ℕ, Bool, List, [], All}
use Rattle.hept_ast.specs.Texts.{Name}
use Rattle.hept_ast.specs.Parts.{inside}
use Rattle.hept_ast.specs.TypedValues.{RowsFit}
use Rattle.hept_ast.specs.declared.tree.Core.{Core}
use Rattle.hept_ast.specs.declared.tree.CoreNode.{CoreNode}
use Rattle.hept_ast.specs.declared.tree.Expr.{Expr}
use Rattle.hept_ast.specs.declared.tree.MergeBranch.{MergeBranch}
use Rattle.hept_ast.specs.declared.tree.Form.{Form, out-Form}
use Rattle.hept_ast.specs.declared.tree.Form.TheOpen.{Form-F}
use Rattle.core_facts.specs.Static.{StaticCore}
use Rattle.schedule.specs.Order.{IsOrdered}
use Rattle.core_fitting.specs.Sound.{IsNamed}
use Rattle.step_plans.specs.Memories.{IsReady, rows_of}
use Rattle.node_memory.specs.Standing.{no_calls}
use Rattle.plan_equations.specs.Grounds.{ground_of}

-- no async call stands in the core
abbrev pub IsNoAsyncCall : Form-F Form Expr MergeBranch → Type 0
IsNoAsyncCall (Form-F.AsyncCall q f args) = ⊥
IsNoAsyncCall _ = Unit {0}

abbrev pub MakesNoAsyncCall : CoreNode → Type 0
MakesNoAsyncCall node = All (λ e. All (λ a. IsNoAsyncCall (out-Form a.form)) (inside e.right)) node.equations

-- whether or not its equations have resets
abbrev pub NodesAreReady : Type 0
NodesAreReady = (core : Core) (f : Name) (node : CoreNode) (calls : List (Bool × List ℕ)) → IsOrdered core → StaticCore core → IsNamed core f node → All MakesNoAsyncCall core.nodes →
    RowsFit core.types node.inputs (rows_of calls) → IsReady core (ground_of core node) [] no_calls calls
