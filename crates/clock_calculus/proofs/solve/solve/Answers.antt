use Rattle.std.proofs.lemmas.List.Sorted.{All-permutation}
use Rattle.clock_calculus.specs.Numbering.{IsNumbered, names_of, steps_of}
use Rattle.clock_calculus.specs.Written.{condition_of}
use Rattle.clock_calculus.proofs.Bindings.{ok_map}
use Rattle.clock_calculus.proofs.Solved.{answer_permuted}
use Rattle.clock_calculus.proofs.solve.solve.Goals as goal

pub solve_in_order-requires : goal.solve_in_order-requires
solve_in_order-requires c =
    let n = c.args.numbers.now in
    All-permutation (λ x. IsNumbered n.unknowns (names_of n) (steps_of n) (condition_of x)) c.args.conditions.now c.sort.new.conditions c.in_ok-sort.ensures.permutation c.requires

pub returns : goal.returns
returns c = ok_map _ _ c.solve_in_order.result (λ s a. answer_permuted c.args.numbers.now c.args.conditions.now c.sort.new.conditions c.in_ok-sort.ensures.permutation c.in_ok-sort.ensures.sorted s a) c.solve_in_order.ensures
