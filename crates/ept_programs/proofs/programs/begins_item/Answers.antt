use Rattle.std.proofs.Common.{refl, sym}
use Rattle.ept_grammar.specs.Reading.{first}
use Rattle.ept_grammar.proofs.Words.{item_kinds}
use Rattle.ept_grammar.specs.Reading.{is_empty}
use Rattle.ept_programs.proofs.programs.begins_item.Goals as goal

pub returns-in-Node : goal.returns-in-Node
unfolding first is_empty
returns-in-Node c = rw c.in-Node.is refl

pub returns-in-Type : goal.returns-in-Type
unfolding first is_empty
returns-in-Type c = rw c.in-Type.is refl

pub returns-in_default : goal.returns-in_default
returns-in_default c = sym (item_kinds _ c.in_default.not-Node c.in_default.not-Type)
