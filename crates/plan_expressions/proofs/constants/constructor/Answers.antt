use Rattle.std.proofs.Common.{arith}
use Rattle.plan_expressions.proofs.PlacesOf.{constructor_here, constructor_later, constructor_none}
use Rattle.plan_expressions.proofs.constants.constructor.Goals as goal

pub loop-ty-preserved : goal.loop-ty-preserved
loop-ty-preserved c =
    constructor_later c.args.types.now c.loop-ty.ty-index c.position-place.result c.ty-item.result c.as_slice-constructors.result.now c.args.name.now c.loop-ty-test.true c.ty-item.is c.as_slice-constructors.ensures c.position-place.ensures
    (omega arith) c.loop-ty.invariant

pub returns-then-place-constructors : goal.returns-then-place-constructors
returns-then-place-constructors c =
    constructor_here c.args.types.now c.loop-ty.ty-index c.position-place.result c.ty-item.result c.as_slice-constructors.result.now c.args.name.now c.loop-ty-test.true c.ty-item.is c.as_slice-constructors.ensures c.position-place.ensures
    (omega arith) c.loop-ty.invariant

pub returns : goal.returns
returns c = constructor_none c.args.types.now c.loop-ty.ty-index c.args.name.now (omega arith) c.loop-ty.invariant
