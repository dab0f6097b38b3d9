use Rattle.std.proofs.lemmas.Result.{on_ok_weaker}
use Rattle.step_plans.specs.declared.instruction.Store.TheVariants as keeps
use Rattle.plan_nodes.specs.Stores.{IsPushed}
use Rattle.plan_nodes.proofs.Adding.{adds_value_of}
use Rattle.plan_nodes.proofs.stores.keep_value.Goals as goal

pub returns : goal.returns
returns c =
    on_ok_weaker c.push.result
    (λ (h : IsPushed c.args.cells.now c.push.new.self (keeps.Where c.args.here c.in_ok-value.value) c.args.initial) body clock is.
    adds_value_of c.args.core.now body c.args.placed.now c.as_slice.result.now c.as_slice-2.result.now c.as_slice-3.result.now clock c.args.here c.args.draft.now c.emit.new.draft c.args.cells.now c.push.new.self c.args.e.now c.args.initial c.in_ok-value.value
    c.as_slice.ensures c.as_slice-2.ensures c.as_slice-3.ensures.value c.requires.whole is c.requires.computable c.in_ok-value.ensures.emits c.in_ok-value.ensures.within h)
    c.push.ensures
