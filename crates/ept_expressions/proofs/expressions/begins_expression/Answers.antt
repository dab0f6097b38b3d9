use Rattle.std.proofs.Common.{refl, sym}
use Rattle.ept_grammar.specs.Reading.{first}
use Rattle.ept_grammar.proofs.Words.{expression_kinds}
use Rattle.ept_grammar.specs.Reading.{is_empty}
use Rattle.ept_expressions.proofs.expressions.begins_expression.Goals as goal

pub returns-in-Number : goal.returns-in-Number
unfolding first is_empty
returns-in-Number c = rw c.in-Number.is refl

pub returns-in-Lower : goal.returns-in-Lower
unfolding first is_empty
returns-in-Lower c = rw c.in-Lower.is refl

pub returns-in-Upper : goal.returns-in-Upper
unfolding first is_empty
returns-in-Upper c = rw c.in-Upper.is refl

pub returns-in-OpenParen : goal.returns-in-OpenParen
unfolding first is_empty
returns-in-OpenParen c = rw c.in-OpenParen.is refl

pub returns-in-Minus : goal.returns-in-Minus
unfolding first is_empty
returns-in-Minus c = rw c.in-Minus.is refl

pub returns-in-Bang : goal.returns-in-Bang
unfolding first is_empty
returns-in-Bang c = rw c.in-Bang.is refl

pub returns-in-Async : goal.returns-in-Async
unfolding first is_empty
returns-in-Async c = rw c.in-Async.is refl

pub returns-in-False : goal.returns-in-False
unfolding first is_empty
returns-in-False c = rw c.in-False.is refl

pub returns-in-If : goal.returns-in-If
unfolding first is_empty
returns-in-If c = rw c.in-If.is refl

pub returns-in-Last : goal.returns-in-Last
unfolding first is_empty
returns-in-Last c = rw c.in-Last.is refl

pub returns-in-Merge : goal.returns-in-Merge
unfolding first is_empty
returns-in-Merge c = rw c.in-Merge.is refl

pub returns-in-Not : goal.returns-in-Not
unfolding first is_empty
returns-in-Not c = rw c.in-Not.is refl

pub returns-in-Pre : goal.returns-in-Pre
unfolding first is_empty
returns-in-Pre c = rw c.in-Pre.is refl

pub returns-in-True : goal.returns-in-True
unfolding first is_empty
returns-in-True c = rw c.in-True.is refl

pub returns-in_default : goal.returns-in_default
returns-in_default c = sym (expression_kinds _ c.in_default.not-Number c.in_default.not-Lower c.in_default.not-Upper c.in_default.not-OpenParen c.in_default.not-Minus c.in_default.not-Bang c.in_default.not-Async c.in_default.not-False c.in_default.not-If c.in_default.not-Last c.in_default.not-Merge c.in_default.not-Not c.in_default.not-Pre c.in_default.not-True)
