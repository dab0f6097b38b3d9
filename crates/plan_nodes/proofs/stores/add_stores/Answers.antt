use Rattle.plan_nodes.proofs.Bodies.{adds_body, all_bodies, no_bodies}
use Rattle.plan_nodes.proofs.stores.add_stores.Goals as goal

pub loop-placed-init : goal.loop-placed-init
loop-placed-init c = no_bodies c.args.core.now.types c.args.draft.now _ c.new.ensures.items c.new-2.ensures.items

pub loop-placed-preserved : goal.loop-placed-preserved
loop-placed-preserved c =
    adds_body c.args.core.now.types c.args.bodies.now c.loop-placed.placed-index c.placed-item.result c.args.draft.now c.loop-placed.draft c.add_body_stores.new.draft c.loop-placed.cells c.add_body_stores.new.cells
    c.loop-placed-test.true c.placed-item.is c.loop-placed.invariant c.in_ok-add_body_stores.ensures

pub returns : goal.returns
returns c = all_bodies c.args.core.now.types c.args.bodies.now c.loop-placed.placed-index c.args.draft.now c.loop-placed.draft c.loop-placed.cells c.loop-placed-test.false c.loop-placed.invariant
