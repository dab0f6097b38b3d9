use Rattle.std.proofs.Common.{ap, arith, ◌∙◌}
use Rattle.std.specs.Option.{unwrap_or}
use Rattle.erased_meaning.proofs.VariablesOf.{row_value}
use Rattle.erased_meaning.proofs.variables.row_input.Goals as goal

pub returns-in-Some : goal.returns-in-Some
returns-in-Some c =
    row_value _ c.args.t c.args.input c.unwrap_or.result c.in-Some.row.now c.in-Some.ensures
    (c.unwrap_or.ensures ∙ ap (λ o. unwrap_or o 0) c.copied.ensures ∙ c.get-in-Some.ensures.lookup.4 (omega arith) 0)
