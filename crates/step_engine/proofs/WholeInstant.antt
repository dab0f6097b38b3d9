-- A whole instant of a node by its plan.
use Rattle.std.proofs.Common.{◌≡◌, ℕ, zero, suc, ◌+◌, ◌<◌, true, List, [], ◌∷◌, length, map, All, Some, refl, sym, subst, ap, ◌∙◌, arith}
use Rattle.std.specs.Prelude.{if◌then◌else◌, ◌==◌, slice_get, slice_index, slice_index_or, EachIndex}
use Rattle.std.proofs.lemmas.Option.{slice_get_within}
use Rattle.hept_ast.specs.Values.{truth}
use Rattle.hept_ast.specs.Scopes.{Lowered}
use Rattle.hept_ast.specs.Meaning.{Present, Variable, Is}
use Rattle.hept_ast.specs.Sites.{Site}
use Rattle.hept_ast.proofs.Depths.{one_answer}
use Rattle.step_cells.specs.Cells.{cells_of, row_of, value_in}
use Rattle.step_cells.specs.declared.cell.Cell.{Cell}
use Rattle.step_cells.specs.declared.cell.Cell.TheVariants as cell
use Rattle.step_cells.specs.declared.cell.Handle.{Handle}
use Rattle.step_plans.specs.Things.{Here, Named, Memory, HasAnswer, IsBegun, IsKept}
use Rattle.step_plans.specs.Books.{IsNoHandle, worth}
use Rattle.step_plans.specs.Operations.{Register, In_values, In_futures, look, among, stored, storing_of, future_storing_of, no_future}
use Rattle.step_plans.specs.Plans.{newest, memory_at, Calling, Calls, start_of, top_of, at_start}
use Rattle.step_plans.specs.Instants.{Known, HoldsAll, Kept_state, IsCounted, IsServed, ServesInstant}
use Rattle.step_plans.specs.declared.instruction.Store.{Store}
use Rattle.step_plans.specs.declared.instruction.Store.TheVariants as keeps
use Rattle.step_plans.specs.declared.plan.NodePlan.{NodePlan}
use Rattle.step_plans.proofs.Frames.{K}
use Rattle.step_plans.proofs.Keeping.{keeps_cell, counted_more, top_present, start_holds, start_earlier, makes_grow}
use Rattle.step_plans.proofs.SentOf.{one_instant_more}
use Rattle.step_engine.specs.Running.{IsAfter, AreIn, future_at}
use Rattle.step_engine.specs.Actions.{State, AreDone, AreFuturesAfter, stored_future}
use Rattle.step_engine.specs.Instant.{AreMarked}
use Rattle.step_engine.proofs.Passing.{Passed, all_passed, worth_if}

-- outputs are given as values
pub cells_given : (registers values : List ℕ) (outputs : List Cell) → length outputs ≡ length registers → AreIn registers values outputs → outputs ≡ cells_of (row_of outputs)
cells_given [] values [] e h = refl
cells_given [] values (c ∷ cs) e h = absurd (omega (arith, e))
cells_given (r ∷ rs) values [] e h = absurd (omega (arith, e))
cells_given (r ∷ rs) values (c ∷ cs) e h =
    let given : c ≡ cell.Value (slice_index values r) = h 0 r refl in
    let first : c ≡ cell.Value (value_in c) = given ∙ sym (ap (λ (d : Cell). cell.Value (value_in d)) given) in
    let rest : cs ≡ cells_of (row_of cs) = cells_given rs values cs (omega (arith, e)) (λ k q at. h (suc k) q at) in
    ap (λ (d : Cell). d ∷ cs) first ∙ ap (λ (ds : List Cell). cell.Value (value_in c) ∷ ds) rest

worth_at : (reply : Handle → ℕ) (futures : List Cell) (f : ℕ) → slice_index (map (worth reply) futures) f ≡ worth reply (future_at futures f)
worth_at reply [] f = refl
worth_at reply (c ∷ cs) zero = refl
worth_at reply (c ∷ cs) (suc f) = worth_at reply cs f

stored_is : (reply : Handle → ℕ) (values : List ℕ) (futures : List Cell) (s : Store) (old : ℕ) → stored (look reply values futures) (storing_of s) old ≡ stored (among values) (storing_of s) old
stored_is reply values futures (keeps.Always a) old = refl
stored_is reply values futures (keeps.Where h a) old = refl
stored_is reply values futures (keeps.Unless h a g n) old = refl

stored_future_is : (reply : Handle → ℕ) (values : List ℕ) (futures : List Cell) (s : Store) (old : Cell) → stored (look reply values futures) (future_storing_of s) (worth reply old) ≡ worth reply (stored_future values futures s old)
stored_future_is reply values futures (keeps.Always a) old = refl
stored_future_is reply values futures (keeps.Where h a) old = sym (worth_if reply (slice_index values h == 1) (future_at futures a) old)
stored_future_is reply values futures (keeps.Unless h a g n) old =
    sym (worth_if reply (slice_index values h == 1) (future_at futures a) (if slice_index values g == 1 then cell.Ready n else old)
    ∙ ap (λ (m : ℕ). if slice_index values h == 1 then worth reply (future_at futures a) else m) (worth_if reply (slice_index values g == 1) (cell.Ready n) old))

no_handle_worth : (reply : Handle → ℕ) (c : Cell) → IsNoHandle c → worth reply c ≡ value_in c
no_handle_worth reply (cell.Value v) h = refl
no_handle_worth reply (cell.Ready v) h = refl
no_handle_worth reply (cell.Held k) h = absurd h

value_at : (cells : List Cell) (k : ℕ) → slice_index (map value_in cells) k ≡ value_in (slice_index_or cells k no_future)
value_at [] k = refl
value_at (c ∷ cs) zero = refl
value_at (c ∷ cs) (suc k) = value_at cs k

-- what was run, before the meaning
pub record Ran (plan : NodePlan) (inputs outputs : List Cell) (old new : Kept_state) (s v : State) : Type 0 where
  pub inputs_fit : length inputs ≡ plan.inputs
  pub no_handles : All IsNoHandle inputs
  pub base : slice_index s.values 0 ≡ 1
  pub put : EachIndex inputs (λ k. slice_index s.values (k + 1) ≡ value_in (slice_index_or inputs k no_future))
  pub put_futures : EachIndex inputs (λ k. future_at s.futures (length plan.future_stores.items + k) ≡ slice_index_or inputs k no_future)
  pub same : (k : ℕ) → k < length plan.future_stores.items → future_at s.futures k ≡ future_at old.futures k
  pub done : AreDone plan.offerings.items old.cells old.marks plan.actions.items s v
  pub stores : IsAfter plan.stores.items v.values old.cells new.cells
  pub future_stores : AreFuturesAfter plan.future_stores.items v.values v.futures new.futures
  pub marks : AreMarked plan.offerings.items v.values old.marks new.marks
  pub given : AreIn plan.outputs.items v.values outputs

pub serves_instant : (plan : NodePlan) (inputs outputs : List Cell) (old new : Kept_state) (s v : State) → Ran plan inputs outputs old new s v → ServesInstant plan inputs (map value_in outputs) old new s.book v.book
serves_instant plan inputs outputs old new s v ran w rows t g sites node p b = record {
  has_outputs = λ k x at.
      let o = p.outputs k x at in
      subst (λ (m : ℕ). HasAnswer (K w rows) (Variable x (top_of node) t) m) (sym (value_at outputs k ∙ ap value_in (ran.given k o.0 o.1))) (passed.hold (Named x (top_of node)) (In_values o.0) o.2);
  after = record {
    kept = λ k m at.
        let o = p.keeps k m at in
        subst (λ (j : ℕ). IsKept w rows (suc t) m j) (stored_is reply v.values v.futures o.0 (slice_index old.cells k) ∙ sym (ran.stores k o.0 o.1))
        (keeps_cell w rows t g p.last.entries now m (storing_of o.0) (slice_index old.cells k) base passed.hold (b.begun k m at) o.2);
    futures_kept = λ k m at.
        let o = p.keeps_futures k m at in
        subst (λ (j : ℕ). IsKept w rows (suc t) m j) (stored_future_is reply v.values v.futures o.0 (future_at v.futures k) ∙ sym (worth_at reply new.futures k ∙ ap (worth reply) (ran.future_stores k o.0 o.1)))
        (keeps_cell w rows t g p.last.entries now m (future_storing_of o.0) (worth reply (future_at v.futures k)) base passed.hold (passed.ground.begun (In_futures k) m at) o.2);
    counted = λ k call at. by_call k call at;
    served = λ k site at. by_site k site at;
  };
}
  where
    reply : Handle → ℕ
    reply = v.book.reply

    now : Register → ℕ
    now = look v.book.reply v.values v.futures

    cells_there : length plan.future_stores.items ≡ length g.future_memories
    cells_there = p.future_cells

    input_worth : (k : ℕ) → k < length inputs → worth v.book.reply (future_at s.futures (length g.future_memories + k)) ≡ slice_index (map value_in inputs) k
    input_worth k lt =
        ap (λ (n : ℕ). worth v.book.reply (future_at s.futures (n + k))) (sym cells_there) ∙ ap (worth v.book.reply) (ran.put_futures k lt)
        ∙ no_handle_worth v.book.reply (slice_index_or inputs k no_future) (ran.no_handles k no_future lt) ∙ sym (value_at inputs k)

    start : HoldsAll w rows t (at_start node (length g.future_memories)) (look v.book.reply s.values s.futures)
    start = start_holds w rows t node (length g.future_memories) (map value_in inputs) (look v.book.reply s.values s.futures) b.has_inputs ran.base
        (λ k lt. ran.put k (omega (arith, ran.inputs_fit, p.inputs, lt)) ∙ sym (value_at inputs k)) (λ k lt. input_worth k (omega (arith, ran.inputs_fit, p.inputs, lt)))

    ground : Known w rows t g (look v.book.reply old.cells s.futures)
    ground = record {
      ground = b.ground;
      begun = λ r m at. by_register r m at;
      firm = b.firm;
      covered = b.covered;
      counted = b.counted;
      no_reply = b.no_reply;
    }
      where
        by_register : (r : Register) (m : Memory) → memory_at g r ≡ Some m → IsBegun w rows t m (look v.book.reply old.cells s.futures r)
        by_register (In_values k) m at = b.begun k m at
        by_register (In_futures k) m at =
            let lt : k < length plan.future_stores.items = let inside = slice_get_within g.future_memories k m at in omega (arith, cells_there) in
            subst (λ (n : ℕ). IsBegun w rows t m n) (worth_at v.book.reply old.futures k ∙ ap (worth v.book.reply) (sym (ran.same k lt))) (b.futures_begun k m at)

    passed : Passed w rows t g sites old.cells old.marks s.book p.last v
    passed = all_passed w rows t g sites plan.offerings.items old.cells old.marks (start_of node (length g.future_memories)) p.last plan.actions.items s v p.makes ran.done b.agrees (λ k site at. (b.served k site at).made) refl
        (omega arith) (start_earlier node (length g.future_memories)) start ground

    base : now (In_values 0) ≡ 1
    base =
        let h = passed.hold _ (In_values 0) (makes_grow g sites plan.offerings.items (start_of node (length g.future_memories)) p.last plan.actions.items _ (In_values 0) p.makes newest) in
        let e = one_answer w rows (Present [] (top_of node) t) (Is h.answer) (Is true) h.known (top_present w rows t (Lowered node)) in
        let f : h.answer ≡ true = cc in
        h.shown ∙ ap truth f

    by_call : (k : ℕ) (call : Calling) → slice_get g.calls k ≡ Some call → IsCounted w rows (suc t) call
    by_call k (Calls c q place) at =
        let h = p.counted k (Calls c q place) at in
        counted_more w rows t (now h.0) c q place (passed.hold (Here c q) h.0 h.1) (b.counted k _ at)

    by_site : (k : ℕ) (site : Site) → slice_get sites k ≡ Some site → (x : IsServed w rows (suc t) v.book.reply site k v.book) × (slice_index new.marks k ≡ truth x.again)
    by_site k site at =
        let o = p.marks k site at in
        let i = b.served k site at in
        let did = passed.over k site at (p.each k site at) in
        let more = one_instant_more w rows t old.marks site k s.book v.book v.book.reply i.again (slice_index v.values o.0.here) (slice_index v.values o.0.again) did i.made i.sent (b.marked k site at) (b.arguments k site at)
        (passed.hold _ (In_values o.0.here) o.2) (passed.hold _ (In_values o.0.again) o.3) in (
          record { again = more.1; made = more.0; sent = more.2 },
          ran.marks k o.0 o.1 ∙ more.3,
        )
