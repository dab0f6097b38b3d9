use Rattle.std.proofs.Common.{sym, ◌∙◌}
use Rattle.normal_form.proofs.CutRights.{arguments_taken}
use Rattle.normal_form.proofs.cut.cut_arguments.Goals as goal

pub returns-else-is_simple : goal.returns-else-is_simple
returns-else-is_simple c =
    arguments_taken c.args.x.now c.args.clock.now.steps c.args.args c.arguments.done c.arguments.left c.remove-e.new.self c.push-else-is_simple.new.self c.append.new.self c.remove-e.result c.in_ok-cut.cut
    c.arguments.invariant c.remove-e.ensures.item c.remove-e.ensures.rest c.in_ok-cut.ensures c.in_ok-push-2.ensures.ok c.in_ok-append.ensures (sym c.is_simple.ensures ∙ c.if-is_simple.false)
