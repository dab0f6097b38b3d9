use Rattle.core_rules.proofs.Futures.{one_number}
use Rattle.core_rules.proofs.Counted.{futures_are_counted}
use Rattle.core_rules.proofs.CallsOf.{a_left_side_is_on_its_clock, core_calls_end}
use Rattle.core_rules.proofs.SumCore.{sum_is_well_formed}
use Rattle.core_rules.proofs.laws.core_laws.Goals as goal

pub returns-clause-sum : goal.returns-clause-sum
returns-clause-sum c = sum_is_well_formed

pub returns-clause-lefts : goal.returns-clause-lefts
returns-clause-lefts c = a_left_side_is_on_its_clock

pub returns-clause-calls : goal.returns-clause-calls
returns-clause-calls c = core_calls_end

pub returns-clause-one_number : goal.returns-clause-one_number
returns-clause-one_number c = one_number

pub returns-clause-counted : goal.returns-clause-counted
returns-clause-counted c = futures_are_counted
