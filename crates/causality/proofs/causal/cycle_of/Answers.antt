use Rattle.std.proofs.Common.{◌≡◌, ◌∙◌, ap, map, subst, sym}
use Rattle.hept_ast.specs.ClockMaps.{clock_in}
use Rattle.causality.specs.Flows.{flow_of, node_flows}
use Rattle.causality.specs.Graph.{InRange}
use Rattle.causality.specs.Vertices.{vertices, graph_by, name_of, IsNodeCycle}
use Rattle.causality.proofs.Numbers.{in_range, kept_cycle, all_within, cycle_found, none_found}
use Rattle.causality.proofs.causal.cycle_of.Goals as goal

pub find_cycle-requires : goal.find_cycle-requires
find_cycle-requires c =
    let node = c.args.node.now in
    let clock = clock_in c.args.clocked.now.clocks c.args.id.0 in
    let vs : map (λ r. r.now) c.as_slice-2.result.now ≡ vertices node = ap (map (λ r. r.now)) c.as_slice-2.ensures.value ∙ c.in_ok-vertices.ensures in
    let fs : map flow_of c.as_slice-3.result.now ≡ node_flows node = ap (map flow_of) c.as_slice-3.ensures.value ∙ c.in_ok-flows.ensures in
    let is : c.as_slice-4.result.now ≡ graph_by (vertices node) (node_flows node) clock =
    c.as_slice-4.ensures.value ∙ (c.in_ok-graph.ensures ∙ (ap (λ v. graph_by v (map flow_of c.as_slice-3.result.now) clock) vs ∙ ap (λ f. graph_by (vertices node) f clock) fs)) in
    subst InRange (sym is) (in_range node clock)

pub names_of-requires : goal.names_of-requires
names_of-requires c =
    let node = c.args.node.now in
    let clock = clock_in c.args.clocked.now.clocks c.args.id.0 in
    let vs : map (λ r. r.now) c.as_slice-2.result.now ≡ vertices node = ap (map (λ r. r.now)) c.as_slice-2.ensures.value ∙ c.in_ok-vertices.ensures in
    let fs : map flow_of c.as_slice-3.result.now ≡ node_flows node = ap (map flow_of) c.as_slice-3.ensures.value ∙ c.in_ok-flows.ensures in
    let is : c.as_slice-4.result.now ≡ graph_by (vertices node) (node_flows node) clock =
    c.as_slice-4.ensures.value ∙ (c.in_ok-graph.ensures ∙ (ap (λ v. graph_by v (map flow_of c.as_slice-3.result.now) clock) vs ∙ ap (λ f. graph_by (vertices node) f clock) fs)) in
    let found = cycle_found node clock c.as_slice-4.result.now is c.in_ok-cycle.field-0 (c.in_ok-cycle.ensures {u = tt}) c.in-Some.cycle c.in-Some.is in
    all_within (λ r. r.now) c.as_slice-in-Some.result.now node clock c.in-Some.cycle.items c.as_slice-in-Some-2.result.now
    (ap (map (λ r. r.now)) c.as_slice-in-Some.ensures.value ∙ c.in_ok-vertices.ensures) c.as_slice-in-Some-2.ensures.value found.0.cycle

pub returns-in-Some : goal.returns-in-Some
returns-in-Some c =
    let node = c.args.node.now in
    let clock = clock_in c.args.clocked.now.clocks c.args.id.0 in
    let vs : map (λ r. r.now) c.as_slice-2.result.now ≡ vertices node = ap (map (λ r. r.now)) c.as_slice-2.ensures.value ∙ c.in_ok-vertices.ensures in
    let fs : map flow_of c.as_slice-3.result.now ≡ node_flows node = ap (map flow_of) c.as_slice-3.ensures.value ∙ c.in_ok-flows.ensures in
    let is : c.as_slice-4.result.now ≡ graph_by (vertices node) (node_flows node) clock =
    c.as_slice-4.ensures.value ∙ (c.in_ok-graph.ensures ∙ (ap (λ v. graph_by v (map flow_of c.as_slice-3.result.now) clock) vs ∙ ap (λ f. graph_by (vertices node) f clock) fs)) in
    let found = cycle_found node clock c.as_slice-4.result.now is c.in_ok-cycle.field-0 (c.in_ok-cycle.ensures {u = tt}) c.in-Some.cycle c.in-Some.is in
    subst (IsNodeCycle node clock)
    (sym (c.in_ok-vars-in-Some.ensures {u = tt}
    ∙ (ap (λ v. map (name_of v) c.as_slice-in-Some-2.result.now) (ap (map (λ r. r.now)) c.as_slice-in-Some.ensures.value ∙ c.in_ok-vertices.ensures) ∙ ap (map (name_of (vertices node))) c.as_slice-in-Some-2.ensures.value)))
    (kept_cycle node clock c.in-Some.cycle.items found.0 found.1)

pub returns : goal.returns
returns c =
    let node = c.args.node.now in
    let clock = clock_in c.args.clocked.now.clocks c.args.id.0 in
    let vs : map (λ r. r.now) c.as_slice-2.result.now ≡ vertices node = ap (map (λ r. r.now)) c.as_slice-2.ensures.value ∙ c.in_ok-vertices.ensures in
    let fs : map flow_of c.as_slice-3.result.now ≡ node_flows node = ap (map flow_of) c.as_slice-3.ensures.value ∙ c.in_ok-flows.ensures in
    let is : c.as_slice-4.result.now ≡ graph_by (vertices node) (node_flows node) clock =
    c.as_slice-4.ensures.value ∙ (c.in_ok-graph.ensures ∙ (ap (λ v. graph_by v (map flow_of c.as_slice-3.result.now) clock) vs ∙ ap (λ f. graph_by (vertices node) f clock) fs)) in
    none_found node clock c.as_slice-4.result.now is c.in_ok-cycle.field-0 (c.in_ok-cycle.ensures {u = tt}) c.requires c.in-None.is
