use Rattle.std.proofs.Common.{refl, sym}
use Rattle.ept_grammar.specs.Reading.{first}
use Rattle.ept_grammar.proofs.Words.{sample_kinds}
use Rattle.ept_grammar.specs.Reading.{is_empty}
use Rattle.ept_expressions.proofs.expressions.begins_sample.Goals as goal

pub returns-in-When : goal.returns-in-When
unfolding first is_empty
returns-in-When c = rw c.in-When.is refl

pub returns-in-Whenot : goal.returns-in-Whenot
unfolding first is_empty
returns-in-Whenot c = rw c.in-Whenot.is refl

pub returns-in_default : goal.returns-in_default
returns-in_default c = sym (sample_kinds _ c.in_default.not-When c.in_default.not-Whenot)
