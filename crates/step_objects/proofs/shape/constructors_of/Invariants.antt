use Rattle.std.proofs.Common.{◌≡◌, drop}
use Rattle.hept_ast.specs.Types.{constructors_of}
use Rattle.step_objects.proofs.shape.constructors_of.Given as goal

abbrev pub invariant-loop-ty : goal.invariant-loop-ty
invariant-loop-ty l = constructors_of l.types l.name ≡ constructors_of (drop l.ty-index l.types) l.name
