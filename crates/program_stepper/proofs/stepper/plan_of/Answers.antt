use Rattle.std.proofs.Common.{◌<◌, length, rules}
use Rattle.std.proofs.lemmas.Result.{IfOk-weaker}
use Rattle.hept_ast.specs.declared.tree.Core.{Core}
use Rattle.program_stepper.proofs.Planning.{buildable_as, found_at, index_is, index_within, made_at, planned, ready_on}
use Rattle.program_stepper.proofs.stepper.plan_of.Goals as goal

pub make_core-requires-clause-plain : goal.make_core-requires-clause-plain
make_core-requires-clause-plain c = c.flat_laws.ensures.plain c.args.accepted.now.program c.requires.served

pub bounds-as_slice-number : goal.bounds-as_slice-number
bounds-as_slice-number c =
    let (node, means) = made_at c.args.accepted.now c.in_ok-made.made c.args.number c.in_ok-made.ensures.means c.requires.number in
    index_within c.in_ok-made.made c.core-core.result.now c.as_slice.result.now c.args.number means.low c.core-core.ensures.same c.as_slice.ensures means.at

pub offset_bounds-as_slice-number : goal.offset_bounds-as_slice-number
offset_bounds-as_slice-number c =
    let below : c.args.number < length c.as_slice.result.now = bounds-as_slice-number c in
    search rules

pub build_node-requires : goal.build_node-requires
build_node-requires c =
    let core : Core = c.in_ok-made.made in
    let (node, means) = made_at c.args.accepted.now core c.args.number c.in_ok-made.ensures.means c.requires.number in
    buildable_as core c.core-core.result.now means.low c.index-as_slice-number.result c.core-core.ensures.same
    (index_is core c.core-core.result.now c.as_slice.result.now c.args.number means.low c.index-as_slice-number.result c.core-core.ensures.same c.as_slice.ensures means.at c.index-as_slice-number.is)
    (c.buildable_law.ensures core means.low.name means.low (c.in_ok-made.ensures.flat c.requires.served) c.core-core.ensures.ordered c.core-core.ensures.facts (found_at core.nodes c.args.number means.low c.in_ok-made.ensures.names means.at))

pub returns-clause-plan : goal.returns-clause-plan
returns-clause-plan c = λ node at.
    let core : Core = c.in_ok-made.made in
    let means = c.in_ok-made.ensures.means c.args.number node at in
    let built = index_is core c.core-core.result.now c.as_slice.result.now c.args.number means.low c.index-as_slice-number.result c.core-core.ensures.same c.as_slice.ensures means.at c.index-as_slice-number.is in
    IfOk-weaker c.build_node.result _ _ (λ plan h. planned c.args.accepted.now core c.core-core.result.now c.args.number node means c.index-as_slice-number.result plan c.core-core.ensures.same built h
    (ready_on c.ready_law.ensures c.args.accepted.now core c.args.number node means.low c.core-core.ensures.ordered c.core-core.ensures.facts (c.in_ok-made.ensures.flat c.requires.served) c.in_ok-made.ensures.names c.in_ok-made.ensures.types means.at means.takes))
    c.build_node.ensures.plan
