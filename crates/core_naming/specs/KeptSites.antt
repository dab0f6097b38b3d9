-- Sites of two cores that stand for each other.
use Rattle.std.specs.Prelude.{◌≡◌, ◌↔◌, ℕ, Bool, List, [], ◌∷◌, map, Some, slice_get}
use Rattle.hept_ast.specs.Scopes.{Lowered}
use Rattle.hept_ast.specs.Settings.{Marks, Replies, of_core}
use Rattle.hept_ast.specs.Sites.{Site, Sites, Sent, path_of}
use Rattle.hept_ast.specs.Paths.{AllDiffer}
use Rattle.hept_ast.specs.declared.tree.Core.{Core}
use Rattle.hept_ast.specs.declared.tree.CoreNode.{CoreNode}

-- a site stands for another: it has its path, queue, clock and node, and is sent the same, both ways
pub record StandsFor (core other : Core) (marked : Marks) (replies : Replies) (site moved : Site) : Type 0 where
  pub path : path_of moved ≡ path_of site
  pub queue : moved.queue ≡ site.queue
  pub clock : moved.clock ≡ site.clock
  pub position : ℕ
  pub node : CoreNode
  pub moved_node : CoreNode
  pub at : slice_get core.nodes position ≡ Some node
  pub moved_at : slice_get other.nodes position ≡ Some moved_node
  pub text : site.text ≡ Lowered node
  pub moved_text : moved.text ≡ Lowered moved_node
  pub sent : (rows : List (List ℕ)) (calls : List (Bool × List ℕ)) →
      Sent (of_core core marked replies) rows site calls ↔ Sent (of_core other marked replies) rows moved calls

pub data StandFor (core other : Core) (marked : Marks) (replies : Replies) : List Site → List Site → Type 0 where
  no_sites : StandFor core other marked replies [] []
  more_sites : {site moved : Site} {sites others : List Site} → StandsFor core other marked replies site moved → StandFor core other marked replies sites others →
      StandFor core other marked replies (site ∷ sites) (moved ∷ others)

-- where no two calls of a node have one path, its sites and those of the other node stand for each other in their order
pub record KeepsSites (core other : Core) (marked : Marks) (replies : Replies) (node moved : CoreNode) : Type 0 where
  pub there : (sites : List Site) → AllDiffer (map path_of sites) → Sites (of_core core marked replies) (Lowered node) sites →
      (others : List Site) × Sites (of_core other marked replies) (Lowered moved) others × StandFor core other marked replies sites others
  pub back : (others : List Site) → AllDiffer (map path_of others) → Sites (of_core other marked replies) (Lowered moved) others →
      (sites : List Site) × Sites (of_core core marked replies) (Lowered node) sites × StandFor core other marked replies sites others
