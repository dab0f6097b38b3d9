use Rattle.std.proofs.Common.{◌∙◌}
use Rattle.std.proofs.lemmas.Result.{IfOk-weaker}
use Rattle.core_making.proofs.Chains.{made_flat, made_means}
use Rattle.core_making.proofs.Names.{made_names}
use Rattle.core_making.proofs.making.make_core.Goals as goal

pub returns-clause-means : goal.returns-clause-means
returns-clause-means c =
    IfOk-weaker c.order.result _ _ (λ made h. made_means c.args.accepted.now c.in_ok-core.core c.in_ok-normal.normal made c.in_ok-core.ensures.means c.in_ok-normal.ensures.normalised h) c.order.ensures.meaning

pub returns-clause-flat : goal.returns-clause-flat
returns-clause-flat c = λ served.
    IfOk-weaker c.order.result _ _ (λ made h. made_flat c.in_ok-core.core c.in_ok-normal.normal made c.in_ok-normal.ensures.namings h (c.in_ok-core.ensures.flat served)) c.order.ensures.moved

pub returns-clause-types : goal.returns-clause-types
returns-clause-types c = IfOk-weaker c.order.result _ _ (λ made h. h.types ∙ c.in_ok-normal.ensures.normalised.types ∙ c.in_ok-core.ensures.types) c.order.ensures.moved

pub returns-clause-names : goal.returns-clause-names
returns-clause-names c =
    IfOk-weaker c.order.result _ _ (λ made h. made_names c.in_ok-core.core c.in_ok-normal.normal made c.in_ok-normal.ensures.normalised.nodes h.nodes c.in_ok-core.ensures.names) c.order.ensures.moved
