use Rattle.std.proofs.Common.{ap, ◌∙◌}
use Rattle.std.proofs.lemmas.Result.{IfOk-weaker}
use Rattle.hept_ast.specs.declared.tree.Program.{Program}
use Rattle.erased_meaning.proofs.SaysOf.{branch_same, switch_nil, switch_absent, switch_gives}
use Rattle.erased_meaning.proofs.definitions.in_branch.Goals as goal

pub returns-in-Nil : goal.returns-in-Nil
returns-in-Nil c place on = switch_nil c.args.answers.now c.args.scope.now c.args.equation c.args.name c.args.t place on c.args.branches.now _ c.in-Nil.is c.in_ok-value.ensures

pub returns-in-Absent : goal.returns-in-Absent
returns-in-Absent c place on = switch_absent c.args.answers.now c.args.scope.now c.args.equation c.args.name c.args.t place on c.args.branches.now _ c.in-Absent.is c.in_ok-value.ensures

pub returns-in-Some : goal.returns-in-Some
returns-in-Some c = IfOk-weaker c.defined_or_last.result _ _
    (λ a h place on. switch_gives c.args.answers.now c.args.scope.now c.args.equation c.args.name c.args.t place on c.args.branches.now _ c.in-Value.value c.in-Some.branch a c.in-Value.is
    c.in_ok-value.ensures (branch_same _ _ c.in-Value.value c.args.branches.now c.in-Some.branch (c.as_slice.ensures ∙ ap (λ (p : Program). p.types) c.program.ensures.same) c.in-Some.ensures) h) c.defined_or_last.ensures
