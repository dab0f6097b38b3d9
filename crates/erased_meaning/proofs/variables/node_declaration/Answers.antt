use Rattle.std.proofs.Common.{ap, ◌∙◌}
use Rattle.std.specs.List.{find}
use Rattle.hept_ast.specs.Texts.{same}
use Rattle.erased_meaning.proofs.VariablesOf.{in_first, in_second, in_third}
use Rattle.erased_meaning.proofs.variables.node_declaration.Goals as goal

pub returns-in-Some : goal.returns-in-Some
returns-in-Some c = in_first c.args.name.now _ _ _ c.in-Some.input.now (c.in-Some.ensures ∙ ap (λ ds. find (λ d. same c.args.name.now d.name) ds) c.as_slice.ensures)

pub returns-in-Some-declaration : goal.returns-in-Some-declaration
returns-in-Some-declaration c =
    in_second c.args.name.now _ _ _ c.in-Some-declaration.output.now (c.in_default.ensures ∙ ap (λ ds. find (λ d. same c.args.name.now d.name) ds) c.as_slice.ensures)
    (c.in-Some-declaration.ensures ∙ ap (λ ds. find (λ d. same c.args.name.now d.name) ds) c.as_slice-2.ensures)

pub returns : goal.returns
returns c =
    in_third c.args.name.now _ _ _ _ (c.in_default.ensures ∙ ap (λ ds. find (λ d. same c.args.name.now d.name) ds) c.as_slice.ensures)
    (c.in_default-declaration.ensures ∙ ap (λ ds. find (λ d. same c.args.name.now d.name) ds) c.as_slice-2.ensures)
    (c.declaration-3.ensures ∙ ap (λ ds. find (λ d. same c.args.name.now d.name) ds) c.as_slice-3.ensures)
