use Rattle.read_laws.proofs.Accepting.{accepted_paths_tell, accepted_is_erased}
use Rattle.read_laws.proofs.laws.accepted_program_laws.Goals as goal

pub returns-clause-paths : goal.returns-clause-paths
returns-clause-paths c = accepted_paths_tell

pub returns-clause-erased : goal.returns-clause-erased
returns-clause-erased c = accepted_is_erased
