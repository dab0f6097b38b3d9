-- The form that an equation has.
use Rattle.std.proofs.Common.{◌≡◌, List, ap, sym, ◌∙◌}
use Rattle.hept_ast.specs.Texts.{Name}
use Rattle.hept_ast.specs.declared.name.Place.{Place}
use Rattle.hept_ast.specs.declared.tree.Expr.{Expr}
use Rattle.hept_ast.specs.declared.tree.Block.{Block}
use Rattle.hept_ast.specs.declared.tree.Branch.{Branch}
use Rattle.hept_ast.specs.declared.tree.State.{State}
use Rattle.hept_ast.specs.declared.tree.Equation.{Equation, Define, Switch, Reset, Automaton, out-Equation, out-roll-Equation}
use Rattle.hept_ast.specs.declared.tree.Equation.TheVariants as equation
use Rattle.hept_ast.specs.declared.tree.Equation.TheOpen.{Equation-F}

pub define_form : (e : Equation) (place : Place) (left : List Name) (right : Expr) → e ≡ Define place left right → out-Equation e ≡ Equation-F.Define place left right
define_form e place left right h = ap out-Equation (h ∙ sym (equation.rolls-Define place left right)) ∙ out-roll-Equation _

pub switch_form : (e : Equation) (place : Place) (on : Expr) (branches : List Branch) → e ≡ Switch place on branches → out-Equation e ≡ Equation-F.Switch place on branches
switch_form e place on branches h = ap out-Equation (h ∙ sym (equation.rolls-Switch place on branches)) ∙ out-roll-Equation _

pub reset_form : (e : Equation) (place : Place) (block : Block) (every : Expr) → e ≡ Reset place block every → out-Equation e ≡ Equation-F.Reset place block every
reset_form e place block every h = ap out-Equation (h ∙ sym (equation.rolls-Reset place block every)) ∙ out-roll-Equation _

pub automaton_form : (e : Equation) (place : Place) (states : List State) → e ≡ Automaton place states → out-Equation e ≡ Equation-F.Automaton place states
automaton_form e place states h = ap out-Equation (h ∙ sym (equation.rolls-Automaton place states)) ∙ out-roll-Equation _
