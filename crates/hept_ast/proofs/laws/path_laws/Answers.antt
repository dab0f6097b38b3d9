use Rattle.hept_ast.proofs.PlacesOfNodes.{core_places_differ, program_places_differ}
use Rattle.hept_ast.proofs.CoreFrames.{core_lefts_agree}
use Rattle.hept_ast.proofs.CallPlacesOf.{places_tell_calls}
use Rattle.hept_ast.proofs.PathsApart.{paths_differ}
use Rattle.hept_ast.proofs.PathsOf.{paths_tell_calls}
use Rattle.hept_ast.proofs.SizeOfTexts.{one_expanded_size}
use Rattle.hept_ast.proofs.laws.path_laws.Goals as goal

pub returns-clause-paths : goal.returns-clause-paths
returns-clause-paths c = paths_tell_calls

pub returns-clause-places : goal.returns-clause-places
returns-clause-places c = places_tell_calls

pub returns-clause-paths_differ : goal.returns-clause-paths_differ
returns-clause-paths_differ c = paths_differ

pub returns-clause-one_size : goal.returns-clause-one_size
returns-clause-one_size c = one_expanded_size

pub returns-clause-core_lefts : goal.returns-clause-core_lefts
returns-clause-core_lefts c = core_lefts_agree

pub returns-clause-program_places : goal.returns-clause-program_places
returns-clause-program_places c = program_places_differ

pub returns-clause-core_places : goal.returns-clause-core_places
returns-clause-core_places c = core_places_differ
