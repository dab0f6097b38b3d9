use Rattle.std.proofs.Common.{map, ap, ◌∙◌}
use Rattle.served_programs.proofs.Nodes.{by_plain, without_equations, without_forms}
use Rattle.served_programs.proofs.served.is_served_node.Goals as goal

pub returns-then-not-are_served_equations : goal.returns-then-not-are_served_equations
returns-then-not-are_served_equations c =
    without_equations c.args.node.now c.as_slice.result.now c.are_served_equations.result c.as_slice.ensures c.if-not-are_served_equations.true c.are_served_equations.ensures

pub returns-then-not-have_served_forms : goal.returns-then-not-have_served_forms
returns-then-not-have_served_forms c =
    without_forms c.args.node.now (λ r. r.now) c.deref.result.now c.have_served_forms.result (ap (λ x. map (λ r. r.now) x) c.deref.ensures.value ∙ c.in_ok-exprs.ensures) c.if-not-have_served_forms.true
    c.have_served_forms.ensures

pub returns : goal.returns
returns c =
    by_plain c.args.node.now c.as_slice.result.now (λ r. r.now) c.deref.result.now (λ r. r.now) c.deref-2.result.now c.are_served_equations.result c.have_served_forms.result c.are_plain.result c.as_slice.ensures
    (ap (λ x. map (λ r. r.now) x) c.deref.ensures.value ∙ c.in_ok-exprs.ensures) (ap (λ x. map (λ r. r.now) x) c.deref-2.ensures.value ∙ c.in_ok-decls.ensures)
    c.if-not-are_served_equations.false c.if-not-have_served_forms.false c.are_served_equations.ensures c.have_served_forms.ensures c.are_plain.ensures
