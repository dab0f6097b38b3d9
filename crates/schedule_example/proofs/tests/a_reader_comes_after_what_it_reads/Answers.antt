use Rattle.std.proofs.Common.{sym, subst}
use Rattle.hept_ast.specs.declared.tree.Core.{Core}
use Rattle.core_facts.specs.Static.{StaticCore}
use Rattle.core_naming.specs.Normal.{IsNormal}
use Rattle.schedule_example.proofs.tests.a_reader_comes_after_what_it_reads.Goals as goal

pub order-requires-clause-normal : goal.order-requires-clause-normal
order-requires-clause-normal g c = subst (λ (core : Core). IsNormal core) (sym c.in_ok-core.ensures) c.order_laws.ensures.normal

pub order-requires-clause-facts : goal.order-requires-clause-facts
order-requires-clause-facts g c = subst (λ (core : Core). StaticCore core) (sym c.in_ok-core.ensures) c.order_laws.ensures.facts
