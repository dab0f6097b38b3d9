use Rattle.hept_ast.proofs.NodeGivesOf.{alone_is_call, given_is_nodes, gives_since_mark}
use Rattle.hept_ast.proofs.laws.call_laws.Goals as goal

pub returns-clause-since_mark : goal.returns-clause-since_mark
returns-clause-since_mark c = gives_since_mark

pub returns-clause-given_is_nodes : goal.returns-clause-given_is_nodes
returns-clause-given_is_nodes c = given_is_nodes

pub returns-clause-alone_is_call : goal.returns-clause-alone_is_call
returns-clause-alone_is_call c = alone_is_call
