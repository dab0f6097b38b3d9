use Rattle.std.proofs.Common.{◌≡◌, drop}
use Rattle.hept_ast.specs.Texts.{constructor_value}
use Rattle.erased_meaning.proofs.values.constructor_value.Given as goal

abbrev pub invariant-loop-declared : goal.invariant-loop-declared
invariant-loop-declared l = constructor_value l.types l.name ≡ constructor_value (drop l.declared-index l.types) l.name
