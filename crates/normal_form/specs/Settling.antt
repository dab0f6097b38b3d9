-- A core while the equations of its nodes are brought into normal form, one after another.
use Rattle.std.specs.Prelude.{◌≡◌, ◌+◌, ◌<◌, ℕ, Bool, true, false, List, [], ◌∷◌, ◌++◌, Option, sum_by}
use Rattle.hept_ast.specs.Texts.{Name}
use Rattle.hept_ast.specs.declared.tree.Core.{Core}
use Rattle.hept_ast.specs.declared.tree.CoreNode.{CoreNode}
use Rattle.hept_ast.specs.declared.tree.CoreEquation.{CoreEquation}
use Rattle.hept_ast.specs.declared.tree.Ty.{Ty}
use Rattle.hept_ast.specs.declared.tree.TypeDec.{TypeDec}
use Rattle.core_rules.specs.WellFormed.{IsWellFormed}
use Rattle.core_rules.specs.Cores.{core_judging}
use Rattle.core_naming.specs.Names.{new_decl, new_equation, with_right}
use Rattle.core_naming.specs.Normal.{AreNormal, IsNormal, IsNormalRight}
use Rattle.normal_form.specs.declared.cut.Taken.{Taken}
use Rattle.normal_form.specs.declared.new_names.NewNames.{NewNames}
use Rattle.normal_form.specs.declared.nodes.Unsettled.{Unsettled}
use Rattle.naming_rules.specs.Namings.{Namings}
use Rattle.normal_form.specs.Cuts.{CutsRight}
use Rattle.normal_form.specs.NewNames.{AreNewFor}
use Rattle.normal_form.specs.OneType.{IsTypeOf}
use Rattle.normal_form.specs.Sizes.{large_inside}

abbrev pub with_equations : CoreNode → List CoreEquation → CoreNode
with_equations node es = record { name = node.name; inputs = node.inputs; outputs = node.outputs; locals = node.locals; equations = es }

-- a node between others
abbrev pub core_around : List TypeDec → List CoreNode → List CoreNode → CoreNode → Core
core_around types before after node = record { types = types; nodes = before ++ node ∷ after }

-- the node with the equations that are left, and with one before these
abbrev pub with_left : Unsettled → CoreNode
with_left rest = with_equations rest.node (rest.node.equations ++ rest.left)

abbrev pub with_one : CoreEquation → Unsettled → CoreNode
with_one e rest = with_equations rest.node (rest.node.equations ++ e ∷ rest.left)

-- a well-formed core for which the names still to be given are new
pub record CanBeNamed (names : NewNames) (core : Core) : Type 0 where
  pub well_formed : IsWellFormed core
  pub new : AreNewFor names core

-- namings, and none where a core is in normal form already
pub record Brings (core other : Core) : Type 0 where
  pub namings : Namings core other
  pub still : IsNormal core → other ≡ core

-- a variable for what was taken, restarted by these resets
abbrev pub with_variable : Name → Taken → Ty → List Name → Unsettled → Unsettled
with_variable x t ty resets rest = record {
  node = record { name = rest.node.name; inputs = rest.node.inputs; outputs = rest.node.outputs; locals = rest.node.locals ++ new_decl x t.named ty ∷ []; equations = rest.node.equations };
  left = rest.left ++ new_equation x t.named t.clock.steps resets ∷ [];
}

-- a variable for what was taken, of the type that this has if it has just one
pub record AddsVariable (types : List TypeDec) (before after : List CoreNode) (x : Name) (t : Taken) (resets : List Name) (old new : Unsettled) : Type 0 where
  pub ty : Ty
  pub found : IsTypeOf (core_judging (core_around types before after old.node) old.node) t.named ty
  pub added : new ≡ with_variable x t ty resets old

-- an equation from whose right side something was taken, if there was anything to take
pub record CutsEquation (x : Name) (e f : CoreEquation) (taken : Option Taken) : Type 0 where
  pub others : f ≡ with_right e f.right
  pub right : CutsRight x e.clock.steps e.right f.right taken

-- ---- sizes

unfoldable pub equations_size : List CoreEquation → ℕ
equations_size es = sum_by (λ e. large_inside e.right + 1) es

-- ---- steps

-- an equation that stands before those that are left, and what it has become after namings
pub record Moves (types : List TypeDec) (before after : List CoreNode) (names : NewNames) (e : CoreEquation) (old : Unsettled) (f : CoreEquation) (new : Unsettled) : Type 0 where
  pub brings : Brings (core_around types before after (with_one e old)) (core_around types before after (with_one f new))
  pub sound : CanBeNamed names (core_around types before after (with_one f new))
  pub same : new.node.equations ≡ old.node.equations
  pub size : large_inside f.right + equations_size new.left ≡ large_inside e.right + equations_size old.left

-- one naming, or none where the equation is settled
pub record MovesOnce (types : List TypeDec) (before after : List CoreNode) (names : NewNames) (e : CoreEquation) (old : Unsettled) (f : CoreEquation) (new : Unsettled) (settled : Bool) : Type 0 where
  pub moves : Moves types before after names e old f new
  pub normal : settled ≡ true → IsNormalRight f.right
  pub smaller : settled ≡ false → large_inside f.right < large_inside e.right

pub record Settles (types : List TypeDec) (before after : List CoreNode) (names : NewNames) (e : CoreEquation) (old : Unsettled) (f : CoreEquation) (new : Unsettled) : Type 0 where
  pub moves : Moves types before after names e old f new
  pub normal : IsNormalRight f.right

-- a node that is in normal form after namings
pub record Normalises (types : List TypeDec) (before after : List CoreNode) (names : NewNames) (node other : CoreNode) : Type 0 where
  pub brings : Brings (core_around types before after node) (core_around types before after other)
  pub sound : CanBeNamed names (core_around types before after other)
  pub normal : AreNormal other.equations
