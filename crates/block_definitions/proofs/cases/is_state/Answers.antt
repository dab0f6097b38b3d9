use Rattle.std.proofs.Common.{sym, ◌∙◌, map}
use Rattle.hept_ast.specs.Parts.{state_case}
use Rattle.hept_ast.specs.Texts.{same}
use Rattle.earliest_fault.proofs.Noting.{any_mapped}
use Rattle.block_definitions.proofs.cases.is_state.Goals as goal

pub returns : goal.returns
returns c =
    c.is_name_of_state.ensures
    ∙ sym (any_mapped (same c.args.name.now) (λ k. k.label) (map state_case c.args.states.now) ∙ any_mapped (λ k. same c.args.name.now k.label) state_case c.args.states.now)
