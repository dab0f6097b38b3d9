use Rattle.std.proofs.Common.{◌≡◌, ℕ, List, length, map, sym, subst, ap, arith}
use Rattle.std.proofs.lemmas.List.{length-map}
use Rattle.std.specs.Vec.{with_items}
use Rattle.step_cells.specs.Cells.{value_in}
use Rattle.step_cells.specs.declared.cell.Cell.{Cell}
use Rattle.step_engine.specs.Actions.{IsOwned}
use Rattle.node_memory.proofs.Rooms.{rewritten}
use Rattle.node_memory.proofs.Standing.{one_more, serves_same, state, state_same}
use Rattle.node_memory.proofs.memory.NodeMemory.serve.Goals as goal

pub returns-clause-served : goal.returns-clause-served
returns-clause-served g c = λ book st owned.
    let m = c.args.self.now in
    let plan = c.args.plan.now in
    let cells_given : length c.as_mut_slice.result.now ≡ length m.cells.items = ap (λ (xs : List ℕ). length xs) c.as_mut_slice.ensures.value in
    let cells_long : length c.serve_instant.new.cells ≡ length m.cells.items = omega (arith, c.serve_instant.auto.cells) in
    let cells_are : (with_items m.cells c.serve_instant.new.cells).items ≡ c.serve_instant.new.cells = rewritten m.cells c.serve_instant.new.cells cells_long in
    let marks_given : length c.as_mut_slice-2.result.now ≡ length m.marks.items = ap (λ (xs : List ℕ). length xs) c.as_mut_slice-2.ensures.value in
    let marks_long : length c.serve_instant.new.marks ≡ length m.marks.items = omega (arith, c.serve_instant.auto.marks) in
    let marks_are : (with_items m.marks c.serve_instant.new.marks).items ≡ c.serve_instant.new.marks = rewritten m.marks c.serve_instant.new.marks marks_long in
    let futures_given : length c.as_mut_slice-4.result.now ≡ length m.futures.items = ap (λ (xs : List Cell). length xs) c.as_mut_slice-4.ensures.value in
    let futures_long : length c.serve_instant.new.futures ≡ length m.futures.items = omega (arith, c.serve_instant.auto.futures) in
    let futures_are : (with_items m.futures c.serve_instant.new.futures).items ≡ c.serve_instant.new.futures = rewritten m.futures c.serve_instant.new.futures futures_long in
    let x = c.serve_instant.ensures.served book st (subst (λ (cs : List Cell). IsOwned plan.offerings.items book cs) (sym c.as_mut_slice-4.ensures.value) owned) in
    let later_owned : IsOwned plan.offerings.items x.0 (with_items m.futures c.serve_instant.new.futures).items = subst (λ (cs : List Cell). IsOwned plan.offerings.items x.0 cs) (sym futures_are) x.2 in
    let many : length (map value_in c.serve_instant.new.outputs) ≡ length plan.outputs.items = omega (arith, length-map c.serve_instant.new.outputs value_in, c.serve_instant.auto.outputs, c.requires.outputs_fit) in (
      x.0,
      x.1,
      later_owned,
      x.3,
      λ core ground sites node calls mark planned in_core stands ready.
          one_more core ground sites node plan book x.0 calls mark c.args.inputs.now (map value_in c.serve_instant.new.outputs) _ _ planned in_core stands ready x.3 later_owned.named many
          (serves_same plan c.args.inputs.now (map value_in c.serve_instant.new.outputs) _ (state m.cells.items m.futures.items m.marks.items) _
          (state (with_items m.cells c.serve_instant.new.cells).items (with_items m.futures c.serve_instant.new.futures).items (with_items m.marks c.serve_instant.new.marks).items) book x.0
          (state_same _ _ _ _ _ _ c.as_mut_slice.ensures.value c.as_mut_slice-4.ensures.value c.as_mut_slice-2.ensures.value) (state_same _ _ _ _ _ _ (sym cells_are) (sym futures_are) (sym marks_are)) x.4),
    )
