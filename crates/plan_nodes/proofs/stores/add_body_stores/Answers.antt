use Rattle.std.proofs.Common.{List, ℕ, ap, sym}
use Rattle.std.specs.Prelude.{slice_index}
use Rattle.plan_nodes.proofs.Adding.{adds_none}
use Rattle.plan_nodes.proofs.Equations.{adds_equation, all_equations, presence_at, storable_at}
use Rattle.plan_nodes.proofs.stores.add_body_stores.Goals as goal

pub add_store-requires-clause-storable : goal.add_store-requires-clause-storable
add_store-requires-clause-storable c = storable_at c.args.core.now c.args.placed.now c.requires c.as_slice-equations.result.now c.as_slice-equations.ensures c.loop-k.k c.index-equations-k.result c.loop-k-test.true c.index-equations-k.is

pub loop-k-init : goal.loop-k-init
loop-k-init c body = adds_none c.args.core.now.types body c.args.placed.now c.args.draft.now c.args.cells.now

pub loop-k-preserved : goal.loop-k-preserved
loop-k-preserved c body =
    let here = presence_at c.args.core.now c.args.placed.now c.requires c.as_slice-equations.result.now c.as_slice-equations.ensures c.loop-k.k c.index-equations-k.result c.loop-k-test.true c.index-equations-k.is
    (slice_index c.as_slice-presences.result.now c.loop-k.k) (ap (λ (rs : List ℕ). slice_index rs c.loop-k.k) (sym c.as_slice-presences.ensures.value)) in
    adds_equation c.args.core.now.types body c.args.placed.now c.as_slice-equations.result.now c.loop-k.k c.index-equations-k.result c.args.draft.now c.loop-k.draft c.add_store.new.draft c.args.cells.now c.loop-k.cells c.add_store.new.cells
    c.loop-k-test.true c.index-equations-k.is (c.loop-k.invariant body) (c.in_ok-add_store.ensures body here)

pub returns : goal.returns
returns c body of_node =
    all_equations c.args.core.now.types body c.args.placed.now c.as_slice-equations.result.now c.loop-k.k c.args.draft.now c.loop-k.draft c.args.cells.now c.loop-k.cells
    c.as_slice-equations.ensures c.loop-k-test.false of_node (c.loop-k.invariant body)
