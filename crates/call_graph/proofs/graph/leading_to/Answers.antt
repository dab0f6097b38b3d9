use Rattle.std.proofs.Common.{◌∙◌, ap, map, Bool, List, ℕ, length}
use Rattle.std.specs.List.{list_any}
use Rattle.hept_ast.specs.Faults.{async_nodes}
use Rattle.call_graph.specs.CallGraph.{leading}
use Rattle.call_graph.specs.Graph.{is_marked, row_in}
use Rattle.call_graph.specs.declared.graph.Row.{Row}
use Rattle.call_graph.proofs.Graphs.{any_leads, leads_are}
use Rattle.call_graph.proofs.graph.leading_to.Goals as goal

pub returns-clause-leads : goal.returns-clause-leads
returns-clause-leads c =
    leads_are c.args.nodes.now c.as_slice.result.now c.args.node.now.name c.in_ok-leads.leads.items (ap (λ (rs : List Row). map row_in rs) c.as_slice.ensures.value ∙ c.requires.graph.rows) c.requires.among c.in_ok-leads.ensures

pub returns-clause-nested : goal.returns-clause-nested
returns-clause-nested c =
    let nodes = c.args.nodes.now in
    let to = c.args.node.now.name in
    let leads = leads_are nodes c.as_slice.result.now to c.in_ok-leads.leads.items (ap (λ (rs : List Row). map row_in rs) c.as_slice.ensures.value ∙ c.requires.graph.rows) c.requires.among c.in_ok-leads.ensures in
    c.is_any_marked-is_nested.ensures
    ∙ (ap (λ (ms : List Bool). list_any (is_marked ms) c.as_slice-4.result.now) (c.as_slice-3.ensures.value ∙ leads)
    ∙ (ap (λ (ps : List ℕ). list_any (is_marked (leading nodes (length nodes) to)) ps) (c.as_slice-4.ensures.value ∙ c.requires.graph.places)
    ∙ any_leads nodes to (length nodes) (async_nodes nodes) c.requires.among))
