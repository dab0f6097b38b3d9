use Rattle.std.proofs.Common.{◌≡◌, ℕ, List, [], All, length, sym, subst, ap, ◌∙◌, arith}
use Rattle.std.specs.Prelude.{slice_index}
use Rattle.std.specs.Vec.{with_items}
use Rattle.step_cells.specs.declared.cell.Cell.{Cell}
use Rattle.step_plans.specs.Books.{IsCellOf}
use Rattle.node_memory.proofs.Rooms.{rewritten}
use Rattle.node_memory.proofs.Standing.{new_one, ready_same, restarted_one}
use Rattle.node_memory.proofs.memory.NodeMemory.restart.Goals as goal

pub returns-clause-named : goal.returns-clause-named
returns-clause-named c = λ book all.
    let given : length c.as_mut_slice.result.now ≡ length c.args.self.now.futures.items = ap (λ (xs : List Cell). length xs) c.as_mut_slice.ensures.value in
    let as_long : length c.make_ready.new.futures ≡ length c.args.self.now.futures.items = omega (arith, c.make_ready.auto.futures) in
    subst (λ (cs : List Cell). All (IsCellOf book) cs) (sym (rewritten c.args.self.now.futures c.make_ready.new.futures as_long))
    (c.make_ready.ensures.named book (subst (λ (cs : List Cell). All (IsCellOf book) cs) (sym c.as_mut_slice.ensures.value) all))

pub returns-clause-stands : goal.returns-clause-stands
returns-clause-stands c = λ plan core g sites node book calls mark of planned stands.
    let given : length c.as_mut_slice.result.now ≡ length c.args.self.now.futures.items = ap (λ (xs : List Cell). length xs) c.as_mut_slice.ensures.value in
    let as_long : length c.make_ready.new.futures ≡ length c.args.self.now.futures.items = omega (arith, c.make_ready.auto.futures) in
    let futures_are : (with_items c.args.self.now.futures c.make_ready.new.futures).items ≡ c.make_ready.new.futures = rewritten c.args.self.now.futures c.make_ready.new.futures as_long in
    let cells_given : length c.as_mut_slice-cells.result.now ≡ length c.args.self.now.cells.items = ap (λ (xs : List ℕ). length xs) c.as_mut_slice-cells.ensures.value in
    let cells_long : length c.copy_from_slice.new.self ≡ length c.args.self.now.cells.items = omega (arith, c.copy_from_slice.auto.self) in
    let marks_given : length c.as_mut_slice-2.result.now ≡ length c.args.self.now.marks.items = ap (λ (xs : List ℕ). length xs) c.as_mut_slice-2.ensures.value in
    let marks_long : length c.raise.new.marks ≡ length c.args.self.now.marks.items = omega (arith, c.raise.auto.marks) in
    restarted_one core g sites node plan book calls mark _ _ planned
    (rewritten c.args.self.now.cells c.copy_from_slice.new.self cells_long ∙ c.copy_from_slice.ensures.after ∙ c.as_slice.ensures.value ∙ of.initial)
    (ready_same c.as_slice-2.result.now plan.future_initial.items c.make_ready.new.futures _ (c.as_slice-2.ensures.value ∙ of.future_initial) (sym futures_are) c.make_ready.ensures.ready)
    (λ k lt. ap (λ (xs : List ℕ). slice_index xs k) (rewritten c.args.self.now.marks c.raise.new.marks marks_long) ∙ c.raise.ensures k (omega (arith, of.marks)))
    (subst (λ (cs : List Cell). All (IsCellOf book) cs) (sym futures_are) (c.make_ready.ensures.named book (subst (λ (cs : List Cell). All (IsCellOf book) cs) (sym c.as_mut_slice.ensures.value) stands.named)))
    stands

pub returns-clause-none : goal.returns-clause-none
returns-clause-none c = λ plan of core g node book planned empty named.
    let given : length c.as_mut_slice.result.now ≡ length c.args.self.now.futures.items = ap (λ (xs : List Cell). length xs) c.as_mut_slice.ensures.value in
    let as_long : length c.make_ready.new.futures ≡ length c.args.self.now.futures.items = omega (arith, c.make_ready.auto.futures) in
    let futures_are : (with_items c.args.self.now.futures c.make_ready.new.futures).items ≡ c.make_ready.new.futures = rewritten c.args.self.now.futures c.make_ready.new.futures as_long in
    let cells_given : length c.as_mut_slice-cells.result.now ≡ length c.args.self.now.cells.items = ap (λ (xs : List ℕ). length xs) c.as_mut_slice-cells.ensures.value in
    let cells_long : length c.copy_from_slice.new.self ≡ length c.args.self.now.cells.items = omega (arith, c.copy_from_slice.auto.self) in
    new_one core g [] node plan book _ planned empty
    (rewritten c.args.self.now.cells c.copy_from_slice.new.self cells_long ∙ c.copy_from_slice.ensures.after ∙ c.as_slice.ensures.value ∙ of.initial)
    (ready_same c.as_slice-2.result.now plan.future_initial.items c.make_ready.new.futures _ (c.as_slice-2.ensures.value ∙ of.future_initial) (sym futures_are) c.make_ready.ensures.ready)
    (λ k site at. absurd (cc)) named
