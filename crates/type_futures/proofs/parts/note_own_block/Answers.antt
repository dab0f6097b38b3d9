use Rattle.std.proofs.Common.{◌≡◌, subst, map, false}
use Rattle.std.specs.Prelude.{OnOk, List}
use Rattle.hept_ast.specs.Faults.{Fault}
use Rattle.hept_ast.specs.Limits.{earlier_of, earliest}
use Rattle.type_futures.specs.Walk.{around_judging, faults_at, judging_at}
use Rattle.type_futures.proofs.Demands.{block_is}
use Rattle.type_futures.proofs.parts.note_own_block.Goals as goal

pub returns : goal.returns
unfolding faults_at
returns c =
    subst (λ (t : List Fault). OnOk c.note_block.result (c.note_block.new.found ≡ earlier_of c.args.found.now (earliest t))) (block_is (judging_at (around_judging c.args.around.now) (map (λ r. r.now) c.args.seen.now) false) c.args.decls.now c.args.body.now) c.note_block.ensures
