-- A core that has the static facts, and two that have not.
use Rattle.std.specs.Prelude.{◌≡◌, ◌==◌, if◌then◌else◌, ℕ, Bool, true, false, List, [], ◌∷◌, None, codes, pos}
use Rattle.hept_ast.specs.Texts.{Name}
use Rattle.hept_ast.specs.Scopes.{Top, Lowered}
use Rattle.hept_ast.specs.Settings.{no_replies}
use Rattle.hept_ast.specs.Initial.{grade, unmet_by}
use Rattle.hept_ast.specs.Meaning.{Variable, Nil}
use Rattle.hept_ast.specs.declared.tree.Core.{Core}
use Rattle.hept_ast.specs.declared.tree.CoreNode.{CoreNode}
use Rattle.hept_ast.specs.declared.tree.CoreEquation.{CoreEquation}
use Rattle.hept_ast.specs.declared.tree.ClockStep.{ClockStep}
use Rattle.hept_ast.specs.declared.tree.Decl.{Decl}
use Rattle.hept_ast.specs.declared.tree.Expr.{Expr}
use Rattle.hept_ast.specs.declared.tree.MergeBranch.{MergeBranch}
use Rattle.hept_ast.specs.declared.tree.Form.TheVariants as form
use Rattle.hept_ast.specs.declared.tree.Const.TheVariants.{Number, Truth}
use Rattle.hept_ast.specs.declared.tree.BinaryOp.TheVariants.{Add}
use Rattle.hept_ast.specs.declared.tree.Tag.TheVariants as tag
use Rattle.hept_ast.specs.declared.tree.Ty.TheVariants as ty
use Rattle.hept_ast.specs.declared.tree.Plain.TheVariants.{Int, Bool as Truth_value}
use Rattle.core_rules.specs.WellFormed.{expr, int_decl}
use Rattle.schedule.specs.Order.{IsOrdered}
use Rattle.core_facts.specs.Undefined.{Grades}
use Rattle.core_fitting.specs.Sound.{SoundNode, within}
use Rattle.core_fitting.specs.Holding.{IsKnown, Run}
use Rattle.core_fitting.specs.Laws.{IsFitRun}

abbrev pub bool_decl : Name → Decl
bool_decl x = record { place = record { 0 = 0 }; name = x; ty = ty.Plain Truth_value; init = None }

abbrev pub future_decl : Name → Decl
future_decl x = record { place = record { 0 = 0 }; name = x; ty = ty.Future Int; init = None }

abbrev pub var : Name → Expr
var x = expr (form.Var x)

abbrev pub number : ℕ → Expr
number n = expr (form.Const (Number (pos n)))

abbrev pub equation : Name → List ClockStep → List Name → Expr → CoreEquation
equation x c resets right = record { place = record { 0 = 0 }; left = x ∷ []; clock = record { steps = c }; right = right; resets = resets }

abbrev pub if_true : Name → ClockStep
if_true x = record { tag = tag.Truth true; name = x }

abbrev pub if_false : Name → ClockStep
if_false x = record { tag = tag.Truth false; name = x }

abbrev pub branch : Bool → Expr → MergeBranch
branch b e = record { place = record { 0 = 0 }; tag = tag.Truth b; value = e }

-- node next(i:int) returns (o:int)  o = i + 1
abbrev pub next_sum : CoreEquation
next_sum = equation (codes "o") [] [] (expr (form.Binary Add (var (codes "i")) (number 1)))

abbrev pub next_node : CoreNode
next_node = record { name = codes "next"; inputs = int_decl (codes "i") ∷ []; outputs = int_decl (codes "o") ∷ []; locals = []; equations = next_sum ∷ [] }

-- node main(b:bool; x:int) returns (z, w:int), with clocks, a reset, a merge, a call and an async call

-- m = pre x  on .  resets b
abbrev pub e_pre : CoreEquation
e_pre = equation (codes "m") [] (codes "b" ∷ []) (expr (form.Pre (var (codes "x"))))

-- u = 0 -> m  on .  resets b
abbrev pub e_arrow : CoreEquation
e_arrow = equation (codes "u") [] (codes "b" ∷ []) (expr (form.Arrow (number 0) (var (codes "m"))))

-- y = x when true(b)  on . on true(b)
abbrev pub e_when : CoreEquation
e_when = equation (codes "y") (if_true (codes "b") ∷ []) [] (expr (form.When (var (codes "x")) (tag.Truth true) (codes "b")))

-- k = next(y)  on . on true(b)
abbrev pub e_call : CoreEquation
e_call = equation (codes "k") (if_true (codes "b") ∷ []) [] (record { place = record { 0 = 0 }; form = form.Call (codes "next") (var (codes "y") ∷ []) })

-- z = merge b (true -> k) (false -> u when false(b))  on .
abbrev pub e_merge : CoreEquation
e_merge = equation (codes "z") [] [] (expr (form.Merge (codes "b") (branch true (var (codes "k")) ∷ branch false (expr (form.When (var (codes "u")) (tag.Truth false) (codes "b"))) ∷ [])))

-- h = async next(x)  on .
abbrev pub e_async : CoreEquation
e_async = equation (codes "h") [] [] (record { place = record { 0 = 1 }; form = form.AsyncCall 1 (codes "next") (var (codes "x") ∷ []) })

-- w = !h  on .
abbrev pub e_get : CoreEquation
e_get = equation (codes "w") [] [] (expr (form.Get (var (codes "h"))))

abbrev pub main_node : CoreNode
main_node = record {
  name = codes "main";
  inputs = bool_decl (codes "b") ∷ int_decl (codes "x") ∷ [];
  outputs = int_decl (codes "z") ∷ int_decl (codes "w") ∷ [];
  locals = int_decl (codes "m") ∷ int_decl (codes "u") ∷ int_decl (codes "y") ∷ int_decl (codes "k") ∷ future_decl (codes "h") ∷ [];
  equations = e_pre ∷ e_arrow ∷ e_when ∷ e_call ∷ e_merge ∷ e_async ∷ e_get ∷ [];
}

abbrev pub example_core : Core
example_core = record { types = []; nodes = next_node ∷ main_node ∷ [] }

-- ---- c = pre true  on .,  v = x when false(c)  on . on false(c)

abbrev pub loose_node : CoreNode
loose_node = record {
  name = codes "loose";
  inputs = int_decl (codes "x") ∷ [];
  outputs = int_decl (codes "y") ∷ [];
  locals = bool_decl (codes "c") ∷ int_decl (codes "v") ∷ [];
  equations =
      equation (codes "c") [] [] (expr (form.Pre (expr (form.Const (Truth true)))))
      ∷ equation (codes "v") (if_false (codes "c") ∷ []) [] (expr (form.When (var (codes "x")) (tag.Truth false) (codes "c")))
      ∷ equation (codes "y") [] [] (var (codes "x")) ∷ [];
}

abbrev pub loose_core : Core
loose_core = record { types = []; nodes = loose_node ∷ [] }

-- no grades are right for it
abbrev pub LooseIsNotSound : Type 0
LooseIsNotSound = (f : Name) (grades : Grades) → SoundNode loose_core (within f loose_node grades) → ⊥

-- ---- v = pre x  on .  resets r,  z = 0 -> v  on .

abbrev pub torn_pre : CoreEquation
torn_pre = equation (codes "v") [] (codes "r" ∷ []) (expr (form.Pre (var (codes "x"))))

abbrev pub torn_arrow : CoreEquation
torn_arrow = equation (codes "z") [] [] (expr (form.Arrow (number 0) (var (codes "v"))))

abbrev pub torn_node : CoreNode
torn_node = record {
  name = codes "torn";
  inputs = bool_decl (codes "r") ∷ int_decl (codes "x") ∷ [];
  outputs = int_decl (codes "z") ∷ [];
  locals = int_decl (codes "v") ∷ [];
  equations = torn_pre ∷ torn_arrow ∷ [];
}

abbrev pub torn_core : Core
torn_core = record { types = []; nodes = torn_node ∷ [] }

-- the restart at the second instant makes its output undefined there, though the grade of `0 -> v` is 0 and no demand is unmet
pub record TornIsUndefined : Type 0 where
  pub ordered : IsOrdered torn_core
  pub graded : grade (λ x. true) torn_arrow.right.form ≡ false
  pub demands : unmet_by (λ x. true) 0 torn_arrow.right.form ≡ []
  pub undefined : IsKnown (record { core = torn_core; marked = λ t. false; replies = no_replies; rows = (0 ∷ 5 ∷ []) ∷ (1 ∷ 7 ∷ []) ∷ [] }) (Variable (codes "z") (Top (Lowered torn_node)) 1) Nil
  -- and no grades are right for it
  pub not_sound : (f : Name) (grades : Grades) → SoundNode torn_core (within f torn_node grades) → ⊥

-- ---- the premises can be met: the example on two rows, restarted at the second

abbrev pub example_run : Run
example_run = record { core = example_core; marked = λ t. if t == 1 then true else false; replies = no_replies; rows = (1 ∷ 5 ∷ []) ∷ (0 ∷ 7 ∷ []) ∷ [] }

abbrev pub ExampleIsFit : Type 0
ExampleIsFit = (grades : Grades) × IsFitRun example_run (within (codes "main") main_node grades)
