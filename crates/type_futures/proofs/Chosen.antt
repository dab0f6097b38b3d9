-- What is answered of a node that was found.
use Rattle.std.proofs.Common.{◌≡◌, ℕ, List, ap, sym, ◌∙◌}
use Rattle.std.specs.Prelude.{Option, Some, None, Result, Ok, Err, MatchResult}
use Rattle.hept_ast.specs.Texts.{Name}
use Rattle.hept_ast.specs.declared.name.NodeId.{NodeId}
use Rattle.hept_ast.specs.declared.tree.Node.{Node}
use Rattle.type_futures.specs.declared.choice.TopFault.{TopFault}
use Rattle.type_futures.specs.declared.choice.TopFault.TheVariants.{NoNode, FutureInterface}
use Rattle.type_futures.specs.Chosen.{chosen, future_at, IsChosen, IsFutureAt, IsTopFault}
use Rattle.std.specs.Option.{option_and_then}

pub chosen_says : (nodes : List Node) (name : Option Name) (k : ℕ) (r : Result NodeId TopFault) → chosen nodes name ≡ Some k
    → MatchResult r (λ id. (id.0 ≡ k) × (future_at nodes k ≡ None)) (IsFutureAt nodes k) → MatchResult r (λ id. IsChosen nodes name id.0) (IsTopFault nodes name)
chosen_says nodes name k (Ok id) e h = record { chosen = e ∙ ap Some (sym h.0); plain = ap (future_at nodes) h.0 ∙ h.1 }
chosen_says nodes name k (Err NoNode) e h = absurd h
chosen_says nodes name k (Err (FutureInterface at)) e h = ap (option_and_then (future_at nodes)) e ∙ h
