-- A core of one node whose second equation has to come first.
use Rattle.std.specs.Prelude.{[], ◌∷◌, codes, pos}
use Rattle.hept_ast.specs.Texts.{Name}
use Rattle.hept_ast.specs.declared.tree.Core.{Core}
use Rattle.hept_ast.specs.declared.tree.CoreNode.{CoreNode}
use Rattle.hept_ast.specs.declared.tree.CoreEquation.{CoreEquation}
use Rattle.hept_ast.specs.declared.tree.Const.TheVariants.{Number}
use Rattle.hept_ast.specs.declared.tree.BinaryOp.TheVariants.{Add}
use Rattle.hept_ast.specs.declared.tree.Expr.{Expr}
use Rattle.hept_ast.specs.declared.tree.Form.TheVariants as form
use Rattle.core_rules.specs.Cores.{HasNoCoreCycle}
use Rattle.core_rules.specs.WellFormed.{IsWellFormed, expr, int_decl}
use Rattle.core_naming.specs.Normal.{IsNormal}
use Rattle.core_facts.specs.Static.{StaticCore}
use Rattle.schedule.specs.Order.{IsOrdered}

abbrev pub defined_as : Name → Expr → CoreEquation
defined_as x right = record { place = record { 0 = 0 }; left = x ∷ []; clock = record { steps = [] }; right = right; resets = [] }

-- y = a + 1
abbrev pub sum_of : CoreEquation
sum_of = defined_as (codes "y") (expr (form.Binary Add (expr (form.Var (codes "a"))) (expr (form.Const (Number (pos 1))))))

-- a = x
abbrev pub copy_of : CoreEquation
copy_of = defined_as (codes "a") (expr (form.Var (codes "x")))

abbrev pub turned_node : CoreNode
turned_node = record { name = codes "next"; inputs = int_decl (codes "x") ∷ []; outputs = int_decl (codes "y") ∷ []; locals = int_decl (codes "a") ∷ []; equations = sum_of ∷ copy_of ∷ [] }

abbrev pub turned_core : Core
turned_core = record { types = []; nodes = turned_node ∷ [] }

-- it is one that `order` takes, and is not in order
pub record TurnedCanBeOrdered : Type 0 where
  pub well_formed : IsWellFormed turned_core
  pub normal : IsNormal turned_core
  pub acyclic : HasNoCoreCycle turned_core
  pub facts : StaticCore turned_core
  pub not_ordered : IsOrdered turned_core → ⊥
