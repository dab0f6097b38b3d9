use Rattle.std.proofs.Common.{refl, sym}
use Rattle.ept_grammar.specs.Reading.{first}
use Rattle.ept_grammar.proofs.Words.{signed_kinds}
use Rattle.ept_grammar.specs.Reading.{is_empty}
use Rattle.ept_expressions.proofs.expressions.is_prefix_sign.Goals as goal

pub returns-in-Minus : goal.returns-in-Minus
unfolding first is_empty
returns-in-Minus c = rw c.in-Minus.is refl

pub returns-in-Not : goal.returns-in-Not
unfolding first is_empty
returns-in-Not c = rw c.in-Not.is refl

pub returns-in-Pre : goal.returns-in-Pre
unfolding first is_empty
returns-in-Pre c = rw c.in-Pre.is refl

pub returns-in-Bang : goal.returns-in-Bang
unfolding first is_empty
returns-in-Bang c = rw c.in-Bang.is refl

pub returns-in_default : goal.returns-in_default
returns-in_default c = sym (signed_kinds _ c.in_default.not-Minus c.in_default.not-Not c.in_default.not-Pre c.in_default.not-Bang)
