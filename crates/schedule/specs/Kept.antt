-- A core that means what another does, its equations being in another order.
use Rattle.std.specs.Prelude.{◌≡◌, ◌↔◌, ℕ, Bool, List, Some, slice_get}
use Rattle.hept_ast.specs.Scopes.{Lowered}
use Rattle.hept_ast.specs.Settings.{Marks, Replies, of_core}
use Rattle.hept_ast.specs.Outputs.{Outputs}
use Rattle.hept_ast.specs.Sites.{Site, Sites, Sent}
use Rattle.hept_ast.specs.Reordering.{HasSameSites, Reordered, SameSite}
use Rattle.hept_ast.specs.declared.tree.Core.{Core}
use Rattle.hept_ast.specs.declared.tree.CoreNode.{CoreNode}

-- under any marks and replies: the outputs of the nodes at one position, their sites, and what these are sent, both ways
pub record KeepsMeaning (core other : Core) : Type 0 where
  pub node : (k : ℕ) (node : CoreNode) → slice_get core.nodes k ≡ Some node → (moved : CoreNode) × (slice_get other.nodes k ≡ Some moved) × Reordered node moved
  pub outputs : (marked : Marks) (replies : Replies) (k : ℕ) (node moved : CoreNode) (rows outs : List (List ℕ)) →
      slice_get core.nodes k ≡ Some node → slice_get other.nodes k ≡ Some moved →
      Outputs (of_core core marked replies) (Lowered node) rows outs ↔ Outputs (of_core other marked replies) (Lowered moved) rows outs
  pub sites : (marked : Marks) (replies : Replies) (k : ℕ) (node moved : CoreNode) (sites : List Site) →
      slice_get core.nodes k ≡ Some node → slice_get other.nodes k ≡ Some moved →
      (Sites (of_core core marked replies) (Lowered node) sites → HasSameSites (of_core other marked replies) (Lowered moved) sites)
      × (Sites (of_core other marked replies) (Lowered moved) sites → HasSameSites (of_core core marked replies) (Lowered node) sites)
  pub sent : (marked : Marks) (replies : Replies) (site moved : Site) (rows : List (List ℕ)) (calls : List (Bool × List ℕ)) → SameSite site moved →
      Sent (of_core core marked replies) rows site calls ↔ Sent (of_core other marked replies) rows moved calls
