use Rattle.std.proofs.Common.{◌≡◌, ◌++◌, ◌∙◌, OnOk, ap, map, subst}
use Rattle.std.specs.List.{flat_map}
use Rattle.hept_ast.specs.declared.tree.Branch.{Branch}
use Rattle.hept_ast.specs.declared.tree.State.{State}
use Rattle.causality.specs.Flows.{flow_of, flows_of_all, strong_reads}
use Rattle.causality.proofs.FlowsOf.{flows-Switch, flows-Automaton}
use Rattle.causality.proofs.flows.+flows.Goals as goal

pub push_equation-returns-in_ok-inner-in-Switch : goal.push_equation-returns-in_ok-inner-in-Switch
push_equation-returns-in_ok-inner-in-Switch t c =
    rw (c.in-Switch.is, flows-Switch)
    (subst (λ n. OnOk c.push_branches.result (map flow_of c.push_branches.new.flows.items ≡ map flow_of c.args.flows.now.items ++ flat_map (λ (b : Branch). flows_of_all n b.block.body) c.in-Switch.branches))
    (ap (map (λ r. r.now)) c.as_slice-in-Switch-2.ensures.value ∙ c.in_ok-inner-in-Switch.ensures)
    (subst (λ bs. OnOk c.push_branches.result (map flow_of c.push_branches.new.flows.items ≡ map flow_of c.args.flows.now.items ++ flat_map (λ (b : Branch). flows_of_all (map (λ r. r.now) c.as_slice-in-Switch-2.result.now) b.block.body) bs))
    c.as_slice-in-Switch.ensures c.push_branches.ensures))

pub push_equation-returns-in_ok-inner-in-Automaton : goal.push_equation-returns-in_ok-inner-in-Automaton
push_equation-returns-in_ok-inner-in-Automaton t c =
    rw (c.in-Automaton.is, flows-Automaton)
    (subst (λ n. OnOk c.push_states.result (map flow_of c.push_states.new.flows.items ≡ map flow_of c.args.flows.now.items ++ flat_map (λ (q : State). flows_of_all n q.block.body) c.in-Automaton.states))
    (ap (map (λ r. r.now)) c.as_slice-in-Automaton-3.ensures.value ∙ (c.in_ok-inner-in-Automaton.ensures ∙ ap (λ qs. strong_reads qs ++ map (λ r. r.now) c.args.around.now) c.as_slice-in-Automaton.ensures))
    (subst (λ qs. OnOk c.push_states.result (map flow_of c.push_states.new.flows.items ≡ map flow_of c.args.flows.now.items ++ flat_map (λ (q : State). flows_of_all (map (λ r. r.now) c.as_slice-in-Automaton-3.result.now) q.block.body) qs))
    c.as_slice-in-Automaton-2.ensures c.push_states.ensures))
