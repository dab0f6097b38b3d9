use Rattle.std.proofs.Common.{sym}
use Rattle.erased_meaning.proofs.EquationsOf.{defines_answer}
use Rattle.erased_meaning.proofs.definitions.defines.Goals as goal

pub returns-in_ok-equation_defines-in-Some : goal.returns-in_ok-equation_defines-in-Some
returns-in_ok-equation_defines-in-Some c =
    defines_answer c.args.answers.now c.args.scope.now c.args.name _ _ _ c.args.equation c.in-Some.at.now _ c.in_ok-block.ensures (sym c.in-Some.ensures) c.in_ok-equation_defines-in-Some.ensures
