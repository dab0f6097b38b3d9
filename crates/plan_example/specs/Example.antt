-- Nodes and their plans.
use Rattle.std.specs.Prelude.{◌≡◌, ℕ, Bool, if◌then◌else◌, true, false, List, [], ◌∷◌, Some, None, codes, length, pos}
use Rattle.core_rules.specs.WellFormed.{expr, int_decl, sum_core, sum_node}
use Rattle.node_memory.specs.Standing.{no_calls}
use Rattle.step_plans.specs.Memories.{IsGroundIn, IsReady}
use Rattle.hept_ast.specs.Texts.{Name, same}
use Rattle.hept_ast.specs.Scopes.{Clock, Lowered, Scope, Under}
use Rattle.hept_ast.specs.Sites.{Site}
use Rattle.hept_ast.specs.declared.tree.BinaryOp.TheVariants.{Add}
use Rattle.hept_ast.specs.declared.tree.Const.TheVariants as const
use Rattle.hept_ast.specs.declared.tree.CoreNode.{CoreNode}
use Rattle.hept_ast.specs.declared.tree.CoreEquation.{CoreEquation}
use Rattle.hept_ast.specs.declared.tree.ClockStep.{ClockStep}
use Rattle.hept_ast.specs.declared.tree.Decl.{Decl}
use Rattle.hept_ast.specs.declared.tree.Expr.{Expr}
use Rattle.hept_ast.specs.declared.tree.MergeBranch.{MergeBranch}
use Rattle.hept_ast.specs.declared.tree.Tag.TheVariants as tag
use Rattle.hept_ast.specs.declared.tree.Ty.TheVariants as ty
use Rattle.hept_ast.specs.declared.tree.Plain.TheVariants as plain
use Rattle.hept_ast.specs.declared.tree.Form.{Form}
use Rattle.hept_ast.specs.declared.tree.Form.TheVariants as form
use Rattle.step_plans.specs.Things.{Memory, Value_of}
use Rattle.step_plans.specs.Plans.{Ground, IsPlanOf, Tests, Covers, top_of}
use Rattle.step_plans.specs.declared.instruction.Instruction.TheVariants as does
use Rattle.step_plans.specs.declared.instruction.Store.{Store}
use Rattle.step_plans.specs.declared.instruction.Store.TheVariants as keeps
use Rattle.step_plans.specs.declared.action.Action.{Action}
use Rattle.step_plans.specs.declared.action.Action.TheVariants as act
use Rattle.step_plans.specs.declared.action.Source.{Source}
use Rattle.step_plans.specs.declared.action.Source.TheVariants as source
use Rattle.step_plans.specs.declared.action.Offering.{Offering}
use Rattle.step_plans.specs.declared.plan.NodePlan.{NodePlan}

-- what a plan holds; none of these has a cell of future type
pub record Holds_plan (plan : NodePlan) (inputs : ℕ) (actions : List Action) (stores : List Store) (initial : List ℕ) (offerings : List Offering) (outputs : List ℕ) : Type 0 where
  pub has_inputs : plan.inputs ≡ inputs
  pub has_actions : plan.actions.items ≡ actions
  pub has_stores : plan.stores.items ≡ stores
  pub has_future_stores : plan.future_stores.items ≡ []
  pub has_initial : plan.initial.items ≡ initial
  pub has_future_initial : plan.future_initial.items ≡ []
  pub has_offerings : plan.offerings.items ≡ offerings
  pub has_outputs : plan.outputs.items ≡ outputs

-- a plan for so many inputs and outputs, without async calls
pub record HasShape (inputs outputs : ℕ) (plan : NodePlan) : Type 0 where
  pub has_inputs : plan.inputs ≡ inputs
  pub has_outputs : length plan.outputs.items ≡ outputs
  pub no_offerings : plan.offerings.items ≡ []

abbrev pub var : Name → Expr
var x = expr (form.Var x)

abbrev pub inside : CoreNode → Scope
inside node = Under (top_of node) []

-- ---- y = 0 fby s; s = x + y

abbrev pub sum_ground : Ground
sum_ground = record { types = []; nodes = λ f. None; tested = []; covered = []; calls = []; memories = Value_of (var (codes "s")) [] (inside sum_node) 0 ∷ []; future_memories = [] }

abbrev pub sum_actions : List Action
sum_actions = act.Compute 2 (does.Read 0) ∷ act.Compute 3 (does.Add 1 2) ∷ []

abbrev pub SumHasPlan : Type 0
SumHasPlan = (plan : NodePlan) → Holds_plan plan 1 sum_actions (keeps.Always 3 ∷ []) (0 ∷ []) [] (3 ∷ []) → IsPlanOf sum_ground [] sum_node plan

-- what an instant of it asks for is there
abbrev pub SumIsReady : Type 0
SumIsReady = IsGroundIn sum_core sum_ground × ((calls : List (Bool × List ℕ)) → IsReady sum_core sum_ground [] no_calls calls)

-- ---- a = x when true(c); b = 5; y = merge c (true -> a) (false -> b); n = 0 fby y, restarted by c

abbrev pub on_true : ClockStep
on_true = record { tag = tag.Truth true; name = codes "c" }

abbrev pub on_false : ClockStep
on_false = record { tag = tag.Truth false; name = codes "c" }

abbrev pub equation : Name → Clock → Form → List Name → CoreEquation
equation x c f resets = record { place = record { 0 = 0 }; left = x ∷ []; clock = record { steps = c }; right = expr f; resets = resets }

abbrev pub true_branch : MergeBranch
true_branch = record { place = record { 0 = 0 }; tag = tag.Truth true; value = var (codes "a") }

abbrev pub false_branch : MergeBranch
false_branch = record { place = record { 0 = 0 }; tag = tag.Truth false; value = var (codes "b") }

abbrev pub bool_decl : Name → Decl
bool_decl x = record { place = record { 0 = 0 }; name = x; ty = ty.Plain plain.Bool; init = None }

abbrev pub zero : Expr
zero = expr (form.Const (const.Number (pos 0)))

abbrev pub chosen_node : CoreNode
chosen_node = record {
  name = codes "chosen";
  inputs = bool_decl (codes "c") ∷ int_decl (codes "x") ∷ [];
  outputs = int_decl (codes "y") ∷ int_decl (codes "n") ∷ [];
  locals = int_decl (codes "a") ∷ int_decl (codes "b") ∷ [];
  equations =
      equation (codes "a") (on_true ∷ []) (form.When (var (codes "x")) (tag.Truth true) (codes "c")) []
      ∷ equation (codes "b") (on_false ∷ []) (form.Const (const.Number (pos 5))) []
      ∷ equation (codes "y") [] (form.Merge (codes "c") (true_branch ∷ false_branch ∷ [])) []
      ∷ equation (codes "n") [] (form.Fby zero (var (codes "y"))) (codes "c" ∷ []) ∷ [];
}

abbrev pub restarted : Scope
restarted = Under (top_of chosen_node) (codes "c" ∷ [])

abbrev pub chosen_ground : Ground
chosen_ground = record {
  types = [];
  nodes = λ f. None;
  tested = Tests chosen_node (codes "c") (top_of chosen_node) ∷ [];
  covered = Covers (codes "c") (inside chosen_node) (true_branch ∷ false_branch ∷ []) ∷ [];
  calls = [];
  memories = Value_of (var (codes "y")) [] restarted 0 ∷ [];
  future_memories = [];
}

abbrev pub chosen_actions : List Action
chosen_actions =
    act.Compute 3 (does.Flag 0 1 1) ∷ act.Compute 4 (does.Flag 0 1 0) ∷ act.Compute 5 (does.Constant 5) ∷ act.Compute 6 (does.Select 1 1 2 5)
    ∷ act.Compute 7 (does.Constant 0) ∷ act.Compute 8 (does.Again 7 0 1) ∷ act.Compute 9 (does.ReadUnless 8 0 0) ∷ []

abbrev pub ChosenHasPlan : Type 0
ChosenHasPlan = (plan : NodePlan) → Holds_plan plan 2 chosen_actions (keeps.Unless 0 6 8 0 ∷ []) (0 ∷ []) [] (6 ∷ 9 ∷ []) → IsPlanOf chosen_ground [] chosen_node plan
