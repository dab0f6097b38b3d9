use Rattle.std.proofs.Common.{◌≡◌, Some, length, subst}
use Rattle.clock_calculus.specs.Noted.{IsProgress}
use Rattle.clock_calculus.proofs.ProgressOf.{none_clocked}
use Rattle.clock_calculus.proofs.check.check_clocks.Goals as goal

pub returns-in-Ok-Some-clause-fault : goal.returns-in-Ok-Some-clause-fault
returns-in-Ok-Some-clause-fault c =
    let found = rw c.in-Ok-Some.field-0-is at (c.in-Ok-Some.ensures {u = tt}) in
    let nodes : c.as_slice.result.now ≡ c.args.typed.nodes = cc in
    none_clocked c.args.typed c.note_nodes.new.clocks c.in-Ok-Some.at (subst (λ t. IsProgress t (length t) c.note_nodes.new.clocks (Some c.in-Ok-Some.at)) nodes found)
