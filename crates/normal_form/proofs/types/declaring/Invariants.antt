use Rattle.std.proofs.Common.{◌≡◌, drop}
use Rattle.hept_ast.specs.Types.{type_of_constructor}
use Rattle.normal_form.proofs.types.declaring.Given as goal

abbrev pub invariant-loop-declared : goal.invariant-loop-declared
invariant-loop-declared l = type_of_constructor l.types l.constructor ≡ type_of_constructor (drop l.declared-index l.types) l.constructor
