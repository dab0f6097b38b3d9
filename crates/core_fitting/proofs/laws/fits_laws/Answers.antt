use Rattle.core_fitting.proofs.Sending.{sites_are_sent}
use Rattle.core_fitting.proofs.Law.{holds_everywhere}
use Rattle.core_fitting.proofs.Needs.{calls_have_arguments, clocks_are_firm, defined_is_firm, merges_are_covered, outputs_fit, resets_are_firm}
use Rattle.core_fitting.proofs.laws.fits_laws.Goals as goal

pub returns-clause-holds : goal.returns-clause-holds
returns-clause-holds c = holds_everywhere

pub returns-clause-clocks : goal.returns-clause-clocks
returns-clause-clocks c = clocks_are_firm

pub returns-clause-resets : goal.returns-clause-resets
returns-clause-resets c = resets_are_firm

pub returns-clause-merges : goal.returns-clause-merges
returns-clause-merges c = merges_are_covered

pub returns-clause-arguments : goal.returns-clause-arguments
returns-clause-arguments c = calls_have_arguments

pub returns-clause-outputs : goal.returns-clause-outputs
returns-clause-outputs c = outputs_fit

pub returns-clause-sent : goal.returns-clause-sent
returns-clause-sent c = sites_are_sent

pub returns-clause-firm : goal.returns-clause-firm
returns-clause-firm c = defined_is_firm
