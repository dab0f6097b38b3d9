-- Cores whose equations stand in another order.
use Rattle.std.specs.Prelude.{◌≡◌, ℕ, ◌≤◌, Bool, List, [], ◌∷◌, map, count_by}
use Rattle.std.specs.List.Sorted.{IsPermutation}
use Rattle.hept_ast.specs.Texts.{Name, is_in}
use Rattle.hept_ast.specs.Scopes.{Clock, Text, Written, Lowered, Scope, Top, Called, In_branch, In_body, In_state, Under}
use Rattle.hept_ast.specs.Meaning.{Setting}
use Rattle.hept_ast.specs.Settings.{Marks, Replies, of_core}
use Rattle.hept_ast.specs.Outputs.{Outputs}
use Rattle.hept_ast.specs.Sites.{Site, Sites, Sent, path_of}
use Rattle.hept_ast.specs.Paths.{AllDiffer}
use Rattle.hept_ast.specs.declared.tree.Expr.{Expr}
use Rattle.hept_ast.specs.declared.tree.Block.{Block}
use Rattle.hept_ast.specs.declared.tree.Branch.{Branch}
use Rattle.hept_ast.specs.declared.tree.State.{State}
use Rattle.hept_ast.specs.declared.tree.Node.{Node}
use Rattle.hept_ast.specs.declared.tree.Core.{Core}
use Rattle.hept_ast.specs.declared.tree.CoreNode.{CoreNode}

-- a node with its equations in another order, where no name is defined by two
pub record Reordered (node other : CoreNode) : Type 0 where
  pub name : other.name ≡ node.name
  pub inputs : other.inputs ≡ node.inputs
  pub outputs : other.outputs ≡ node.outputs
  pub locals : other.locals ≡ node.locals
  pub equations : IsPermutation node.equations other.equations
  pub once : (x : Name) → count_by (λ e. is_in x e.left) node.equations ≤ 1

pub data ReorderedNodes : List CoreNode → List CoreNode → Type 0 where
  none : ReorderedNodes [] []
  next : {node other : CoreNode} {nodes others : List CoreNode} → Reordered node other → ReorderedNodes nodes others → ReorderedNodes (node ∷ nodes) (other ∷ others)

pub record Reordering (core other : Core) : Type 0 where
  pub types : other.types ≡ core.types
  pub nodes : ReorderedNodes core.nodes other.nodes

-- the order of a core's equations doesn't matter
abbrev pub OrderIsFree : Type 0
OrderIsFree = (core other : Core) (marked : Marks) (replies : Replies) (node moved : CoreNode) (rows outs : List (List ℕ)) →
    Reordering core other → Reordered node moved →
    Outputs (of_core core marked replies) (Lowered node) rows outs → Outputs (of_core other marked replies) (Lowered moved) rows outs

-- ---- sites, in whose scopes the nodes stand

pub data SameText : Text → Text → Type 0 where
  written : {n : ℕ} {node : Node} → SameText (Written n node) (Written n node)
  lowered : {node other : CoreNode} → Reordered node other → SameText (Lowered node) (Lowered other)

pub data SameScope : Scope → Scope → Type 0 where
  top : {text other : Text} → SameText text other → SameScope (Top text) (Top other)
  called : {s r : Scope} {clock : Clock} {place : ℕ} {args : List Expr} {text other : Text} →
      SameScope s r → SameText text other → SameScope (Called s clock place args text) (Called r clock place args other)
  branch : {s r : Scope} {on : Expr} {b : Branch} → SameScope s r → SameScope (In_branch s on b) (In_branch r on b)
  body : {s r : Scope} {every : Expr} {block : Block} → SameScope s r → SameScope (In_body s every block) (In_body r every block)
  state : {s r : Scope} {states : List State} {k : ℕ} → SameScope s r → SameScope (In_state s states k) (In_state r states k)
  under : {s r : Scope} {resets : List Name} → SameScope s r → SameScope (Under s resets) (Under r resets)

-- one site in both cores
pub data SameSite : Site → Site → Type 0 where
  same_site : {s r : Scope} {clock : Clock} {place queue : ℕ} {args : List Expr} {text other : Text} → SameScope s r → SameText text other →
      SameSite (record { scope = s; clock = clock; place = place; queue = queue; args = args; text = text })
      (record { scope = r; clock = clock; place = place; queue = queue; args = args; text = other })

pub data SameSites : List Site → List Site → Type 0 where
  no_sites : SameSites [] []
  more_sites : {site other : Site} {sites others : List Site} → SameSite site other → SameSites sites others → SameSites (site ∷ sites) (other ∷ others)

-- the sites of the other node are the same in some order, and in the same order if no two have one path
pub record HasSameSites (w : Setting) (text : Text) (sites : List Site) : Type 0 where
  pub others : List Site
  pub all : Sites w text others
  pub turned : List Site
  pub same : SameSites sites turned
  pub moved : IsPermutation turned others
  pub order : AllDiffer (map path_of sites) → turned ≡ others

abbrev pub OrderKeepsSites : Type 0
OrderKeepsSites = (core other : Core) (marked : Marks) (replies : Replies) (node moved : CoreNode) (sites : List Site) →
    Reordering core other → Reordered node moved →
    Sites (of_core core marked replies) (Lowered node) sites → HasSameSites (of_core other marked replies) (Lowered moved) sites

-- what a site is sent
abbrev pub OrderKeepsSent : Type 0
OrderKeepsSent = (core other : Core) (marked : Marks) (replies : Replies) (site moved : Site) (rows : List (List ℕ)) (calls : List (Bool × List ℕ)) →
    Reordering core other → SameSite site moved →
    Sent (of_core core marked replies) rows site calls → Sent (of_core other marked replies) rows moved calls
