-- The static facts of a core that a step without undefined values needs beside 'well formed': short conditions on each equation.
use Rattle.std.specs.Prelude.{◌≡◌, ⊤, true, List, [], ◌∷◌, ◌++◌, map, All, Some}
use Rattle.std.specs.List.{flat_map, list_all}
use Rattle.hept_ast.specs.Texts.{Name, is_in, names}
use Rattle.hept_ast.specs.Scopes.{Clock}
use Rattle.hept_ast.specs.Parts.{inside}
use Rattle.hept_ast.specs.Initial.{unmet_by}
use Rattle.hept_ast.specs.Types.{is_plain, types_of}
use Rattle.hept_ast.specs.Faults.{called_async, node_named}
use Rattle.hept_ast.specs.declared.tree.Core.{Core}
use Rattle.hept_ast.specs.declared.tree.CoreNode.{CoreNode}
use Rattle.hept_ast.specs.declared.tree.CoreEquation.{CoreEquation}
use Rattle.hept_ast.specs.declared.tree.Node.{Node}
use Rattle.hept_ast.specs.declared.tree.Expr.{Expr}
use Rattle.hept_ast.specs.declared.tree.MergeBranch.{MergeBranch}
use Rattle.hept_ast.specs.declared.tree.Form.{Form, out-Form}
use Rattle.hept_ast.specs.declared.tree.Form.TheOpen.{Form-F}
use Rattle.core_rules.specs.Cores.{as_interface, core_clock, core_decls}
use Rattle.sound_expressions.specs.Demands.{FitsForm, NamesDiffer}
use Rattle.core_facts.specs.Undefined.{Allows, AreWithin, Grades, lists_of, may}

-- ---- expressions

-- the right operand of `->` is undefined only by resets of its equation
abbrev pub IsArrowWithin : Grades → List Name → Form-F Form Expr MergeBranch → Type 0
IsArrowWithin g rs (Form-F.Arrow a b) = AreWithin (lists_of g rs b.form) rs
IsArrowWithin g rs _ = Unit {0}

abbrev pub HasBranch : Form-F Form Expr MergeBranch → Type 0
HasBranch (Form-F.Merge x []) = ⊥
HasBranch _ = Unit {0}

abbrev pub GivesNoFuture : Core → Name → Type 0
GivesNoFuture core f = (n : Node) → node_named (map as_interface core.nodes) f ≡ Some n → list_all is_plain (types_of n.outputs) ≡ true

-- an expression inside a right side, under the resets of its equation
pub record StaticExpr (core : Core) (g : Grades) (rs : List Name) (e : Expr) : Type 0 where
  -- the demands of the language: right of `fby`, operand of `pre`, variables of `when` and `merge`, branches, arguments
  pub demands : unmet_by (may g) e.place.0 e.form ≡ []
  pub arrow : IsArrowWithin g rs (out-Form e.form)
  -- numbers have 32 bits, nodes that are called by `async` give no futures, and a merge has a branch
  pub number : FitsForm (out-Form e.form)
  pub plain : All (GivesNoFuture core) (called_async e.form)
  pub branch : HasBranch (out-Form e.form)

-- ---- equations and nodes

-- each step's variable is declared, never undefined, and on the clock of the steps before
abbrev pub AreProper : CoreNode → Grades → (before : Clock) → Clock → Type 0
AreProper node g before [] = ⊤
AreProper node g before (p ∷ steps) =
    ((is_in p.name (names (core_decls node)) ≡ true) × (core_clock node p.name ≡ before) × (g p.name ≡ [])) × AreProper node g (before ++ p ∷ []) steps

pub record StaticEquation (core : Core) (node : CoreNode) (g : Grades) (e : CoreEquation) : Type 0 where
  -- by what resets its right side may be undefined, its variables may be so too
  pub left : (x : Name) → is_in x e.left ≡ true → Allows (g x) (lists_of g e.resets e.right.form)
  pub right : All (StaticExpr core g e.resets) (inside e.right)
  pub clock : AreProper node g [] e.clock.steps
  pub resets : (x : Name) → is_in x e.resets ≡ true → g x ≡ []

pub record StaticNode (core : Core) (node : CoreNode) (g : Grades) : Type 0 where
  pub equations : All (StaticEquation core node g) node.equations
  pub interface : All (λ d. g d.name ≡ []) (node.inputs ++ node.outputs)

-- types and constructors have different names, and each node has some grades with these facts
pub record StaticCore (core : Core) : Type 0 where
  pub types : NamesDiffer (map (λ d. d.name) core.types)
  pub constructors : NamesDiffer (flat_map (λ d. d.constructors) core.types)
  pub nodes : All (λ node. (g : Grades) × StaticNode core node g) core.nodes
