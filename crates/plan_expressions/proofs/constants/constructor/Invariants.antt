use Rattle.std.proofs.Common.{◌≡◌, drop}
use Rattle.hept_ast.specs.Texts.{constructor_value}
use Rattle.plan_expressions.proofs.constants.constructor.Given as goal

abbrev pub invariant-loop-ty : goal.invariant-loop-ty
invariant-loop-ty l = constructor_value (drop l.ty-index l.types) l.name ≡ constructor_value l.types l.name
