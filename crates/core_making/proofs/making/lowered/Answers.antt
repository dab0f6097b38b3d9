use Rattle.std.proofs.lemmas.Result.{IfOk-weaker}
use Rattle.hept_ast.specs.declared.tree.Core.{Core}
use Rattle.lowering_rules.specs.Lowering.{LowersProgram}
use Rattle.core_making.specs.Made.{LowersWell}
use Rattle.core_making.proofs.Chains.{lowers_well}
use Rattle.core_making.proofs.making.lowered.Goals as goal

pub returns : goal.returns
returns c =
    IfOk-weaker c.lower_blocks.result (λ (core : Core). LowersProgram c.args.accepted.now core) (λ (core : Core). LowersWell c.args.accepted.now core)
    (λ core h. lowers_well c.args.accepted.now core c.requires.range c.check_accepted.ensures.accepted h) c.lower_blocks.ensures.lowered
