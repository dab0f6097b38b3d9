use Rattle.erased_rules.proofs.ClocksKept.{clocked_of_erased, clocks_of_erased, erased_keeps_clocked, erased_keeps_clocks, erased_keeps_least_clocks, least_clocks_of_erased}
use Rattle.erased_rules.proofs.LimitsKept.{erased_keeps_limits}
use Rattle.erased_rules.proofs.DemandsKept.{erased_keeps_demands, erased_keeps_initialised}
use Rattle.erased_rules.proofs.StagesKept.{erased_has_least_clocks, erased_keeps_accepted, erased_keeps_clocked_program}
use Rattle.erased_rules.proofs.TypesKept.{erased_keeps_typed}
use Rattle.erased_rules.proofs.EmptyType.{typed_needs_constructors}
use Rattle.erased_rules.proofs.laws.erasure_laws.Goals as goal

pub returns-clause-limits : goal.returns-clause-limits
returns-clause-limits c = erased_keeps_limits

pub returns-clause-demands : goal.returns-clause-demands
returns-clause-demands c = erased_keeps_demands

pub returns-clause-initialised : goal.returns-clause-initialised
returns-clause-initialised c = erased_keeps_initialised

pub returns-clause-clocks : goal.returns-clause-clocks
returns-clause-clocks c = erased_keeps_clocks

pub returns-clause-clocks_of_erased : goal.returns-clause-clocks_of_erased
returns-clause-clocks_of_erased c = clocks_of_erased

pub returns-clause-least_clocks : goal.returns-clause-least_clocks
returns-clause-least_clocks c = erased_keeps_least_clocks

pub returns-clause-least_clocks_of_erased : goal.returns-clause-least_clocks_of_erased
returns-clause-least_clocks_of_erased c = least_clocks_of_erased

pub returns-clause-clocked : goal.returns-clause-clocked
returns-clause-clocked c = erased_keeps_clocked

pub returns-clause-clocked_of_erased : goal.returns-clause-clocked_of_erased
returns-clause-clocked_of_erased c = clocked_of_erased

pub returns-clause-typed : goal.returns-clause-typed
returns-clause-typed c = erased_keeps_typed

pub returns-clause-constructors : goal.returns-clause-constructors
returns-clause-constructors c = typed_needs_constructors

pub returns-clause-least_clock_map : goal.returns-clause-least_clock_map
returns-clause-least_clock_map c = erased_has_least_clocks

pub returns-clause-clocked_program : goal.returns-clause-clocked_program
returns-clause-clocked_program c = erased_keeps_clocked_program

pub returns-clause-accepted : goal.returns-clause-accepted
returns-clause-accepted c = erased_keeps_accepted
