use Rattle.std.proofs.Common.{subst}
use Rattle.std.specs.Option.{option_copied}
use Rattle.std.proofs.lemmas.Result.{IfOk-weaker}
use Rattle.hept_ast.specs.Texts.{const_value}
use Rattle.erased_meaning.specs.Inputs.{InitialGives, IsDeclarationIn}
use Rattle.erased_meaning.specs.Rules.{IsValueAnswer}
use Rattle.erased_meaning.proofs.VariablesOf.{initial_gives}
use Rattle.erased_meaning.proofs.variables.initial.Goals as goal

pub returns-in-Some-init : goal.returns-in-Some-init
returns-in-Some-init c =
    IfOk-weaker c.constant_gives.result (IsValueAnswer (const_value c.args.answers.now.accepted.now.program.types c.in-Some-init.init.value)) (InitialGives c.args.answers.now c.args.home.now c.args.name.now)
    (λ r h. initial_gives c.args.answers.now c.args.home.now c.args.name.now c.in-Some.declared.now c.in-Some-init.init r
    (subst (λ o. IsDeclarationIn c.args.answers.now c.args.home.now c.args.name.now (option_copied o)) c.in-Some.is c.in_ok-declared.ensures) c.in-Some-init.is h)
    c.constant_gives.ensures
