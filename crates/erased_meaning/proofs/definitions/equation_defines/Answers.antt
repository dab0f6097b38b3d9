use Rattle.std.proofs.lemmas.Result.{IfOk-weaker}
use Rattle.erased_meaning.proofs.EquationForms.{define_form, switch_form, reset_form, automaton_form}
use Rattle.erased_meaning.proofs.EquationsOf.{defines_as, plain_defines, switch_defines, reset_defines, automaton_defines}
use Rattle.erased_meaning.proofs.definitions.equation_defines.Goals as goal

pub returns-in-Define : goal.returns-in-Define
returns-in-Define c = defines_as c.args.answers.now c.args.scope.now c.args.equation c.args.name.now _ _ _ (define_form _ _ _ _ c.in-Define.is)
    (plain_defines c.args.answers.now c.args.scope.now c.args.equation c.args.name.now _ _ _ _ _ _ c.as_slice.ensures c.position_of.ensures c.is_some.ensures)

pub returns-in-Switch : goal.returns-in-Switch
returns-in-Switch c = IfOk-weaker c.branches_define.result _ _ (λ b h. defines_as c.args.answers.now c.args.scope.now c.args.equation c.args.name.now _ _ _ (switch_form _ _ _ _ c.in-Switch.is)
    (switch_defines c.args.answers.now c.args.scope.now c.args.equation c.args.name.now _ _ _ _ b c.as_slice-in-Switch.ensures h)) c.branches_define.ensures

pub returns-in-Reset : goal.returns-in-Reset
returns-in-Reset c = IfOk-weaker c.part_defines.result _ _ (λ b h. defines_as c.args.answers.now c.args.scope.now c.args.equation c.args.name.now _ _ _ (reset_form _ _ _ _ c.in-Reset.is)
    (reset_defines c.args.answers.now c.args.scope.now c.args.equation c.args.name.now _ _ _ b h)) c.part_defines.ensures

pub returns-in-Automaton : goal.returns-in-Automaton
returns-in-Automaton c = IfOk-weaker c.states_define.result _ _ (λ b h. defines_as c.args.answers.now c.args.scope.now c.args.equation c.args.name.now _ _ _ (automaton_form _ _ _ c.in-Automaton.is)
    (automaton_defines c.args.answers.now c.args.scope.now c.args.equation c.args.name.now _ _ _ b c.as_slice-in-Automaton.ensures h)) c.states_define.ensures
