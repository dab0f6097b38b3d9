use Rattle.std.proofs.Common.{◌≡◌, take}
use Rattle.step_objects.specs.Shapes.{shape_of}
use Rattle.step_objects.proofs.shape.Shape.of.Given as goal

abbrev pub invariant-loop-decl : goal.invariant-loop-decl
invariant-loop-decl l = l.cells ≡ shape_of l.program.types (take l.decl-index l.declared)
