use Rattle.std.proofs.Common.{◌≡◌, ℕ, List, All, length, sym, subst, ap, ◌∙◌, arith}
use Rattle.std.specs.Prelude.{slice_index}
use Rattle.std.specs.Vec.{with_items}
use Rattle.step_cells.specs.declared.cell.Cell.{Cell}
use Rattle.step_plans.specs.Books.{IsCellOf}
use Rattle.node_memory.proofs.Rooms.{all_filled, rewritten, zeros}
use Rattle.node_memory.proofs.Standing.{new_one, ready_same}
use Rattle.node_memory.proofs.memory.NodeMemory.new.Goals as goal

pub returns-clause-named : goal.returns-clause-named
returns-clause-named c = λ book.
    let given : length c.as_mut_slice.result.now ≡ length c.in_ok-futures.futures.items = ap (λ (xs : List Cell). length xs) c.as_mut_slice.ensures.value in
    let as_long : length c.make_ready.new.futures ≡ length c.in_ok-futures.futures.items = omega (arith, c.make_ready.auto.futures) in
    subst (λ (cs : List Cell). All (IsCellOf book) cs) (sym (rewritten c.in_ok-futures.futures c.make_ready.new.futures as_long))
    (c.make_ready.ensures.named book (subst (λ (cs : List Cell). All (IsCellOf book) cs) (sym (c.as_mut_slice.ensures.value ∙ c.in_ok-futures.ensures)) (all_filled book c.args.plan.now.futures)))

pub returns-clause-stands : goal.returns-clause-stands
returns-clause-stands c = λ core g sites node book planned empty.
    let given : length c.as_mut_slice.result.now ≡ length c.in_ok-futures.futures.items = ap (λ (xs : List Cell). length xs) c.as_mut_slice.ensures.value in
    let as_long : length c.make_ready.new.futures ≡ length c.in_ok-futures.futures.items = omega (arith, c.make_ready.auto.futures) in
    let futures_are : (with_items c.in_ok-futures.futures c.make_ready.new.futures).items ≡ c.make_ready.new.futures = rewritten c.in_ok-futures.futures c.make_ready.new.futures as_long in
    new_one core g sites node c.args.plan.now book _ planned empty
    (c.in_ok-cells.ensures.items ∙ c.as_slice.ensures.value)
    (ready_same c.as_slice-4.result.now c.args.plan.now.future_initial.items c.make_ready.new.futures _ (c.as_slice-4.ensures.value ∙ (c.in_ok-future_initial.ensures.items ∙ c.as_slice-3.ensures.value)) (sym futures_are) c.make_ready.ensures.ready)
    (λ k site at. ap (λ (xs : List ℕ). slice_index xs k) c.in_ok-marks.ensures ∙ zeros c.len.result k)
    (subst (λ (cs : List Cell). All (IsCellOf book) cs) (sym futures_are)
    (c.make_ready.ensures.named book (subst (λ (cs : List Cell). All (IsCellOf book) cs) (sym (c.as_mut_slice.ensures.value ∙ c.in_ok-futures.ensures)) (all_filled book c.args.plan.now.futures))))
