use Rattle.std.proofs.lemmas.Result.{on_ok_weaker}
use Rattle.step_plans.specs.declared.instruction.Store.TheVariants as keeps
use Rattle.plan_nodes.specs.Stores.{IsPushed}
use Rattle.plan_nodes.proofs.Adding.{adds_presence}
use Rattle.plan_nodes.proofs.stores.keep_presence.Goals as goal

pub returns : goal.returns
returns c =
    on_ok_weaker c.push.result
    (λ (h : IsPushed c.args.cells.now c.push.new.self (keeps.Where c.args.here c.args.here) 0) types body placed clock draft is.
    adds_presence types body placed clock c.args.here draft c.args.cells.now c.push.new.self is h)
    c.push.ensures
