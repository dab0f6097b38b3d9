use Rattle.std.proofs.lemmas.Result.{IfOk-weaker}
use Rattle.answer_table.specs.Tables.{IsHomePath}
use Rattle.answer_table.proofs.HomePaths.{home_outside}
use Rattle.answer_table.proofs.answers.Answers.+home.Goals as goal

pub returns-in-Some-clause-leads : goal.returns-in-Some-clause-leads
returns-in-Some-clause-leads t c =
    IfOk-weaker c.home.result (λ h. IsHomePath c.args.self.now c.in-Some.outer.now c.args.name.now h.items) (λ h. IsHomePath c.args.self.now c.args.scope.now c.args.name.now h.items)
    (λ h found. home_outside c.args.self.now c.args.scope.now c.in-Some.outer.now h.items _ c.args.name.now c.in_ok-is_home.field-0 c.in-Some.ensures.cases c.in_ok-is_home.ensures c.if-branch.false found)
    c.home.ensures.leads
