use Rattle.read_laws.proofs.InRange.{read_in_range}
use Rattle.read_laws.proofs.Places.{read_places_differ, read_paths_differ, read_paths_tell}
use Rattle.read_laws.proofs.laws.read_program_laws.Goals as goal

pub returns-clause-places : goal.returns-clause-places
returns-clause-places c = read_places_differ

pub returns-clause-paths_differ : goal.returns-clause-paths_differ
returns-clause-paths_differ c = read_paths_differ

pub returns-clause-paths_tell : goal.returns-clause-paths_tell
returns-clause-paths_tell c = read_paths_tell

pub returns-clause-in_range : goal.returns-clause-in_range
returns-clause-in_range c = read_in_range
