-- What the actions of a right side name is there.
use Rattle.std.proofs.Common.{◌≡◌, ℕ, ◌+◌, ◌<◌, ◌≤◌, true, List, [], length, All, sym, subst, ap, ◌∙◌, arith}
use Rattle.std.specs.Prelude.{slice_index}
use Rattle.hept_ast.specs.Texts.{Name, is_in, place_in}
use Rattle.hept_ast.specs.declared.tree.Const.{Const}
use Rattle.hept_ast.specs.declared.tree.Expr.{Expr}
use Rattle.hept_ast.specs.declared.tree.Form.{out-Form}
use Rattle.hept_ast.specs.declared.tree.Form.TheVariants as form
use Rattle.step_plans.specs.declared.instruction.Instruction.TheVariants as does
use Rattle.step_plans.proofs.FormsOut.{const_form, fby_form, var_form}
use Rattle.plan_expressions.specs.Building.{IsAdded}
use Rattle.plan_expressions.specs.Clocked.{KeepsWithinOn}
use Rattle.plan_expressions.specs.declared.draft.Draft.{Draft}
use Rattle.plan_expressions.proofs.KeptWithin.{keeps_variable}
use Rattle.plan_expressions.proofs.Within.{added_within}
use Rattle.plan_equations.specs.Rights.{KeepsCells, right_cells, start_cells}
use Rattle.plan_equations.proofs.FormsMore.{pre_form, arrow_form}

pub below_later : (registers : List ℕ) (at later : ℕ) → at ≤ later → All (λ q. q < at) registers → All (λ q. q < later) registers
below_later registers at later le below = λ k d lt. omega (arith, below k d lt)

module _ (cell : ℕ) (registers presences : List ℕ) where
  pub keeps_read : (old new : Draft) (r : ℕ) → IsAdded old new (does.Read cell) r → KeepsCells 1 cell registers presences old new r
  keeps_read old new r added cells le below present all =
      (added_within cells old new (does.Read cell) r added (omega (arith, le)) all, omega (arith, added.next), omega (arith, added.register, added.next))

  pub keeps_started : (variables : List Name) (old one two new : Draft) (x : Name) (rs rl ra r : ℕ) → length registers ≡ length variables → is_in x variables ≡ true → ra ≡ slice_index registers (place_in x variables) →
      IsAdded old one (does.Read (cell + 1)) rs → IsAdded one two (does.Read cell) rl → IsAdded two new (does.Select rs 1 rl ra) r → KeepsCells 2 cell registers presences old new r
  keeps_started variables old one two new x rs rl ra r many among at seen left added cells le below present all =
      let lt : ra < old.at = (keeps_variable registers presences variables old x ra many among at cells below present all).2 in
      let u = added_within cells old one (does.Read (cell + 1)) rs seen (omega (arith, le)) all in
      let v = added_within cells one two (does.Read cell) rl left (omega (arith, le)) u in (
        added_within cells two new (does.Select rs 1 rl ra) r added (omega (arith, seen.register, seen.next, left.next), omega (arith, left.register, left.next), omega (arith, lt, seen.next, left.next)) v,
        omega (arith, seen.next, left.next, added.next),
        omega (arith, added.register, added.next),
      )

  pub keeps_arrow : (old one two mid new : Draft) (rs ra rd r : ℕ) → IsAdded old one (does.Read cell) rs → KeepsWithinOn registers presences one two ra → KeepsWithinOn registers presences two mid rd → IsAdded mid new (does.Select rs 1 rd ra) r →
      KeepsCells 1 cell registers presences old new r
  keeps_arrow old one two mid new rs ra rd r seen of_a of_d added cells le below present all =
      let u = added_within cells old one (does.Read cell) rs seen (omega (arith, le)) all in
      let first : old.at ≤ one.at = omega (arith, seen.next) in
      let x = of_a cells (below_later registers old.at one.at first below) (below_later presences old.at one.at first present) u in
      let second : old.at ≤ two.at = omega (arith, first, x.1) in
      let y = of_d cells (below_later registers old.at two.at second below) (below_later presences old.at two.at second present) x.0 in (
        added_within cells mid new (does.Select rs 1 rd ra) r added (omega (arith, seen.register, seen.next, x.1, y.1), y.2, omega (arith, x.2, y.1)) y.0,
        omega (arith, seen.next, x.1, y.1, added.next),
        omega (arith, added.register, added.next),
      )

  -- ---- how many cells

  pub as_many_cells : (n m : ℕ) (old new : Draft) (r : ℕ) → m ≡ n → KeepsCells n cell registers presences old new r → KeepsCells m cell registers presences old new r
  as_many_cells n m old new r same h = subst (λ (k : ℕ). KeepsCells k cell registers presences old new r) (sym same) h

  -- where no presence was named
  pub whatever_present : (n : ℕ) (old new : Draft) (r : ℕ) → KeepsCells n cell registers [] old new r → KeepsCells n cell registers presences old new r
  whatever_present n old new r h cells le below present all = h cells le below (λ k d lt. absurd (omega (arith, lt))) all

pub cells_started : (e a b d : Expr) (x : Name) → e.form ≡ form.Fby a b → d ≡ a → d.form ≡ form.Var x → right_cells (out-Form e.form) ≡ 2
cells_started e a b d x is same start = ap right_cells (fby_form e a b is) ∙ ap start_cells (var_form a x (subst (λ (z : Expr). z.form ≡ form.Var x) same start))

pub cells_constant : (e a b : Expr) (k : Const) → e.form ≡ form.Fby a b → a.form ≡ form.Const k → right_cells (out-Form e.form) ≡ 1
cells_constant e a b k is start = ap right_cells (fby_form e a b is) ∙ ap start_cells (const_form a k start)

pub cells_previous : (e a : Expr) → e.form ≡ form.Pre a → right_cells (out-Form e.form) ≡ 1
cells_previous e a is = ap right_cells (pre_form e a is)

pub cells_arrow : (e a b : Expr) → e.form ≡ form.Arrow a b → right_cells (out-Form e.form) ≡ 1
cells_arrow e a b is = ap right_cells (arrow_form e a b is)
