use Rattle.std.proofs.Common.{◌≡◌, drop}
use Rattle.hept_ast.specs.Types.{constructors_of}
use Rattle.declared_types.proofs.tags.constructors_of.Given as goal

abbrev pub invariant-loop-declared : goal.invariant-loop-declared
invariant-loop-declared l = constructors_of l.types l.name ≡ constructors_of (drop l.declared-index l.types) l.name
