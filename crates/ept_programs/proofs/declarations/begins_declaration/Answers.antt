use Rattle.std.proofs.Common.{refl, sym}
use Rattle.ept_grammar.specs.Reading.{first}
use Rattle.ept_grammar.proofs.Words.{declaration_kinds}
use Rattle.ept_grammar.specs.Reading.{is_empty}
use Rattle.ept_programs.proofs.declarations.begins_declaration.Goals as goal

pub returns-in-Lower : goal.returns-in-Lower
unfolding first is_empty
returns-in-Lower c = rw c.in-Lower.is refl

pub returns-in-Last : goal.returns-in-Last
unfolding first is_empty
returns-in-Last c = rw c.in-Last.is refl

pub returns-in_default : goal.returns-in_default
returns-in_default c = sym (declaration_kinds _ c.in_default.not-Lower c.in_default.not-Last)
