use Rattle.hept_ast.proofs.Reordering.{order_is_free}
use Rattle.hept_ast.proofs.ReorderedSites.{order_keeps_sites, order_keeps_sent}
use Rattle.hept_ast.proofs.Transfer.{transfer, transfer_by_rules}
use Rattle.hept_ast.proofs.laws.transfer_laws.Goals as goal

pub returns-clause-transfer : goal.returns-clause-transfer
returns-clause-transfer c = transfer

pub returns-clause-transfer_by_rules : goal.returns-clause-transfer_by_rules
returns-clause-transfer_by_rules c = transfer_by_rules

pub returns-clause-order_is_free : goal.returns-clause-order_is_free
returns-clause-order_is_free c = order_is_free

pub returns-clause-order_keeps_sites : goal.returns-clause-order_keeps_sites
returns-clause-order_keeps_sites c = order_keeps_sites

pub returns-clause-order_keeps_sent : goal.returns-clause-order_keeps_sent
returns-clause-order_keeps_sent c = order_keeps_sent
