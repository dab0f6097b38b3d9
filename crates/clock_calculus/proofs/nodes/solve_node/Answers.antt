use Rattle.std.proofs.Common.{◌∙◌, map, refl, rules, subst, sym}
use Rattle.std.specs.Prelude.{All}
use Rattle.clock_calculus.specs.Numbering.{KnowsStep, step_of}
use Rattle.clock_calculus.specs.Written.{clock_term}
use Rattle.clock_calculus.proofs.NodesOf.{all_numbered, solved_node}
use Rattle.clock_calculus.proofs.nodes.solve_node.Goals as goal

pub solve-requires : goal.solve-requires
solve-requires c = all_numbered c.args.node.now c.in_ok-conditions.field-0 (c.in_ok-conditions.ensures {u = tt}) c.as_mut_slice.result.now c.as_mut_slice.ensures.value (map step_of c.in_ok-steps.steps.items) c.in-Some.unknowns (search rules)

pub returns : goal.returns
returns c = solved_node c.args.node.now c.in_ok-conditions.field-0 (c.in_ok-conditions.ensures {u = tt}) c.as_mut_slice.result.now c.as_mut_slice.ensures.value (record { names = c.in_ok-conditions.field-0.variables; steps = c.in_ok-steps.steps; unknowns = c.in-Some.unknowns }) refl (subst (λ t. All (λ x. KnowsStep (map step_of c.in_ok-steps.steps.items) (clock_term x.right)) t) (c.as_slice.ensures.value ∙ sym c.as_mut_slice.ensures.value) (c.in_ok-steps.ensures {u = tt})) c.in_ok-solution.solution (c.in_ok-solution.ensures {u = tt})
