use Rattle.std.proofs.Common.{◌++◌, ◌∷◌, [], ℕ, ◌+◌, List, length, take, arith, ap, sym, refl, ◌∙◌, length-append}
use Rattle.step_cells.specs.declared.cell.Cell.TheVariants.{Value, Ready, Held}
use Rattle.owner_pool.specs.declared.pool.Name.{Name}
use Rattle.owner_pool.specs.Noting.{cell_slots, named_by}
use Rattle.owner_pool.proofs.Inputs.{left_plain, value_left, ready_left, held_left, held_taken, more_names, at_held}
use Rattle.owner_pool.proofs.pool.Pool.push_names.Goals as goal

pub push_name-requires-in-Held-clause-near : goal.push_name-requires-in-Held-clause-near
push_name-requires-in-Held-clause-near c =
    let h = c.in-Held in
    let near = c.requires.near.1 c.loop-cell.cell-index h.handle (at_held c.args.input.now c.loop-cell.cell-index (Held h.handle) c.loop-cell-test.true h.is) in
    let told = ap length c.loop-cell.invariant.rest.0 in omega arith

pub loop-cell-preserved : goal.loop-cell-preserved
loop-cell-preserved c =
    let input = c.args.input.now in
    let k : ℕ = c.loop-cell.cell-index in
    let v = c.loop-cell.invariant in
    let near = c.loop-cell-test.true in
    elim c.match-cell.branch [
      | goal.in-Value w ↦ rw w.self-is record {
        counts = v.counts;
        called = v.called;
        waiting = v.waiting ∙ ap (λ (l : List ℕ). c.args.self.now.waiting.items ++ named_by c.args.instance c.args.number (c.args.slot ∷ l)) (sym (left_plain input k near (Value w.in-Value.field-0) w.in-Value.is refl));
        room = (let r = v.room in let e = value_left input k near w.in-Value.field-0 w.in-Value.is in omega arith);
        rest = v.rest;
      }
      | goal.in-Ready w ↦ rw w.self-is record {
        counts = v.counts;
        called = v.called;
        waiting = v.waiting ∙ ap (λ (l : List ℕ). c.args.self.now.waiting.items ++ named_by c.args.instance c.args.number (c.args.slot ∷ l)) (sym (left_plain input k near (Ready w.in-Ready.field-0) w.in-Ready.is refl));
        room = (let r = v.room in let e = ready_left input k near w.in-Ready.field-0 w.in-Ready.is in omega arith);
        rest = v.rest;
      }
      | goal.in-Held w ↦ rw w.self-is (
          let e = w.push_name-in-Held.ensures in
          let h = w.in-Held.handle in
          let name : Name = record { instance = c.args.instance; number = c.args.number; slot = h.slot } in
          let all = e.waiting in
          record {
            counts = e.counts;
            called = e.called;
            waiting = all ∙ more_names c.args.self.now.waiting.items c.loop-cell.self.waiting.items c.args.instance c.args.number c.args.slot (cell_slots (take k input)) (cell_slots (take (k + 1) input)) h.slot (held_taken input k near h w.in-Held.is) v.waiting;
            room = (let r = v.room in let d = held_left input k near h w.in-Held.is in let l = ap length all ∙ length-append c.loop-cell.self.waiting.items (name ∷ []) in let s = e.rest.3 in omega arith);
            rest = (e.rest.0 ∙ v.rest.0, e.rest.1 ∙ v.rest.1, e.rest.2 ∙ v.rest.2, e.rest.3 ∙ v.rest.3);
          })
    ]
