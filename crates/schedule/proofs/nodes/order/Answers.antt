use Rattle.std.proofs.Common.{refl, sym, subst}
use Rattle.hept_ast.specs.Reordering.{Reordering}
use Rattle.hept_ast.specs.declared.tree.Core.{Core}
use Rattle.core_facts.specs.Static.{StaticCore}
use Rattle.core_facts.proofs.Reordered.{order_keeps_static}
use Rattle.schedule.specs.Kept.{KeepsMeaning}
use Rattle.schedule.proofs.Reordered.{keeps_meaning}
use Rattle.schedule.proofs.WellKept.{core_ordered, core_reordered}
use Rattle.schedule.proofs.nodes.order.Goals as goal

pub of-requires-clause-ordered : goal.of-requires-clause-ordered
of-requires-clause-ordered c = core_ordered c.args.core _ c.requires.well_formed c.requires.normal refl c.in_ok-nodes.ensures

pub of-requires-clause-facts : goal.of-requires-clause-facts
of-requires-clause-facts c = order_keeps_static c.args.core _ (core_reordered c.args.core _ c.requires.well_formed refl c.in_ok-nodes.ensures) c.requires.facts

pub returns-clause-facts : goal.returns-clause-facts
returns-clause-facts c =
    subst (λ (other : Core). StaticCore other) (sym c.of.ensures)
    (order_keeps_static c.args.core _ (core_reordered c.args.core _ c.requires.well_formed refl c.in_ok-nodes.ensures) c.requires.facts)

pub returns-clause-moved : goal.returns-clause-moved
returns-clause-moved c =
    subst (λ (other : Core). Reordering c.args.core other) (sym c.of.ensures) (core_reordered c.args.core _ c.requires.well_formed refl c.in_ok-nodes.ensures)

pub returns-clause-meaning : goal.returns-clause-meaning
returns-clause-meaning c =
    subst (λ (other : Core). KeepsMeaning c.args.core other) (sym c.of.ensures)
    (keeps_meaning c.args.core _ (core_reordered c.args.core _ c.requires.well_formed refl c.in_ok-nodes.ensures))
