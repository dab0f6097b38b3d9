use Rattle.std.proofs.Common.{refl, sym}
use Rattle.ept_grammar.specs.Reading.{first}
use Rattle.ept_grammar.proofs.Words.{eq_kinds}
use Rattle.ept_grammar.specs.Reading.{is_empty}
use Rattle.ept_programs.proofs.equations.begins_equation.Goals as goal

pub returns-in-Lower : goal.returns-in-Lower
unfolding first is_empty
returns-in-Lower c = rw c.in-Lower.is refl

pub returns-in-OpenParen : goal.returns-in-OpenParen
unfolding first is_empty
returns-in-OpenParen c = rw c.in-OpenParen.is refl

pub returns-in-Switch : goal.returns-in-Switch
unfolding first is_empty
returns-in-Switch c = rw c.in-Switch.is refl

pub returns-in-Reset : goal.returns-in-Reset
unfolding first is_empty
returns-in-Reset c = rw c.in-Reset.is refl

pub returns-in-Automaton : goal.returns-in-Automaton
unfolding first is_empty
returns-in-Automaton c = rw c.in-Automaton.is refl

pub returns-in_default : goal.returns-in_default
returns-in_default c = sym (eq_kinds _ c.in_default.not-Lower c.in_default.not-OpenParen c.in_default.not-Switch c.in_default.not-Reset c.in_default.not-Automaton)
