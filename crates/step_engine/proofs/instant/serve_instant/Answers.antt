use Rattle.std.proofs.Common.{◌≡◌, ℕ, ◌+◌, List, length, ap, subst, sym, arith}
use Rattle.std.specs.Prelude.{EachIndex, slice_index_or}
use Rattle.step_plans.specs.Operations.{no_future}
use Rattle.step_plans.specs.declared.action.Action.{Action}
use Rattle.step_plans.specs.declared.action.Offering.{Offering}
use Rattle.step_plans.specs.declared.instruction.Store.{Store}
use Rattle.step_engine.specs.Running.{AreIn, IsAfter}
use Rattle.step_engine.specs.Actions.{AreDone, AreFuturesAfter, IsOwned, State}
use Rattle.step_engine.specs.Instant.{AreMarked}
use Rattle.step_engine.proofs.CallsOfBook.{calls_go_on}
use Rattle.step_engine.proofs.WholeInstant.{Ran, cells_given, serves_instant}
use Rattle.step_engine.proofs.instant.serve_instant.Goals as goal

pub serve-requires-clause-book : goal.serve-requires-clause-book
serve-requires-clause-book g c =
    let b = c.requires.book in (
      b.0,
      b.1,
      subst (λ (os : List Offering). IsOwned os b.0 c.put_futures.new.futures) (sym c.as_slice-2.ensures.value)
          (record { named = c.put_futures.ensures.named b.0 b.2.named c.requires.no_handles; outputs = b.2.outputs }),
    )

pub returns-clause-values : goal.returns-clause-values
returns-clause-values g c = cells_given c.as_slice-6.result.now c.serve.new.values c.give.new.outputs (omega (arith, c.give.auto.outputs, c.requires.runnable.outputs_fit, ap length c.as_slice-6.ensures.value)) c.give.ensures

pub returns-clause-served : goal.returns-clause-served
returns-clause-served g c = λ book st owned.
    let r = c.requires.runnable in
    let slice_is : length c.as_slice-4.result.now ≡ length c.args.plan.now.future_stores.items = ap length c.as_slice-4.ensures.value in
    let many : c.len.result ≡ length c.args.plan.now.future_stores.items = omega (arith, slice_is, c.as_slice-4.ensures.len, c.len.ensures) in
    let begun : IsOwned c.args.plan.now.offerings.items book c.put_futures.new.futures = record { named = c.put_futures.ensures.named book owned.named c.requires.no_handles; outputs = owned.outputs } in
    let x = c.serve.ensures book st (subst (λ (os : List Offering). IsOwned os book c.put_futures.new.futures) (sym c.as_slice-2.ensures.value) begun) in
    let s : State = record { values = c.put.new.values; futures = c.put_futures.new.futures; book = book } in
    let v : State = record { values = c.serve.new.values; futures = c.serve.new.futures; book = x.0 } in
    let later : IsOwned c.args.plan.now.offerings.items x.0 c.serve.new.futures = subst (λ (os : List Offering). IsOwned os x.0 c.serve.new.futures) c.as_slice-2.ensures.value x.2 in
    let ran : Ran c.args.plan.now c.args.inputs.now c.give.new.outputs (record { cells = c.args.cells.now; futures = c.args.futures.now; marks = c.args.marks.now }) (record { cells = c.store.new.cells; futures = c.store_futures.new.futures; marks = c.mark.new.marks }) s v =
    record {
      inputs_fit = r.inputs_fit;
      no_handles = c.requires.no_handles;
      base = c.put.ensures.base;
      put = c.put.ensures.inputs;
      put_futures = subst (λ (n : ℕ). EachIndex c.args.inputs.now (λ k. slice_index_or c.put_futures.new.futures (n + k) no_future ≡ slice_index_or c.args.inputs.now k no_future)) many c.put_futures.ensures.inputs;
      same = λ k lt. c.put_futures.ensures.before k (omega (arith, lt, r.futures_room)) (omega (arith, lt, many));
      done = subst (λ (os : List Offering). AreDone os c.args.cells.now c.args.marks.now c.args.plan.now.actions.items s v) c.as_slice-2.ensures.value
          (subst (λ (xs : List Action). AreDone c.as_slice-2.result.now c.args.cells.now c.args.marks.now xs s v) c.as_slice.ensures.value x.3);
      stores = subst (λ (xs : List Store). IsAfter xs v.values c.args.cells.now c.store.new.cells) c.as_slice-3.ensures.value c.store.ensures;
      future_stores = subst (λ (xs : List Store). AreFuturesAfter xs v.values v.futures c.store_futures.new.futures) c.as_slice-4.ensures.value c.store_futures.ensures.stored;
      marks = subst (λ (xs : List Offering). AreMarked xs v.values c.args.marks.now c.mark.new.marks) c.as_slice-5.ensures.value c.mark.ensures;
      given = subst (λ (xs : List ℕ). AreIn xs v.values c.give.new.outputs) c.as_slice-6.ensures.value c.give.ensures;
    } in (
      x.0,
      x.1,
      record { named = c.store_futures.ensures.named x.0 later.named; outputs = later.outputs },
      calls_go_on c.args.plan.now.offerings.items c.args.cells.now c.args.marks.now c.args.plan.now.actions.items s v ran.done,
      serves_instant c.args.plan.now c.args.inputs.now c.give.new.outputs _ _ s v ran,
    )
