use Rattle.normal_form.proofs.nodes.type_in.Goals as goal

pub returns : goal.returns
returns c = c.type_of.ensures
