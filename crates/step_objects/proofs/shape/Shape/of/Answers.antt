use Rattle.std.proofs.Common.{◌∙◌, ap, arith}
use Rattle.std.proofs.lemmas.List.{take_all}
use Rattle.step_objects.specs.Shapes.{shape_of}
use Rattle.step_objects.proofs.Countable.{countable}
use Rattle.step_objects.proofs.shape.Shape.of.Goals as goal

-- src/shape.rt:52:9
pub invariant_of-result : goal.invariant_of-result
invariant_of-result c = countable c.args.program.now.types c.args.declared.now c.loop-decl.cells (c.loop-decl.invariant ∙ ap (shape_of c.args.program.now.types) (take_all c.loop-decl.decl-index c.args.declared.now (omega arith))) c.requires.few
