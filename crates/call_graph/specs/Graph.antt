-- Calls as positions of nodes, and the marks that rounds over them give.
use Rattle.std.specs.Prelude.{◌≡◌, ℕ, zero, suc, get_or, Bool, false, ◌||◌, if◌then◌else◌, List, [], ◌∷◌, map, Option, None, Some}
use Rattle.std.specs.List.{flat_map, list_any}
use Rattle.std.specs.Option.{option_map}
use Rattle.hept_ast.specs.Faults.{async_nodes, calls_of, node_named}
use Rattle.hept_ast.specs.Texts.{Name, same}
use Rattle.hept_ast.specs.declared.tree.Node.{Node}
use Rattle.call_graph.specs.declared.graph.CallGraph.{CallGraph}
use Rattle.call_graph.specs.declared.graph.Row.{Row}

-- the position of the node of a name
abbrev pub node_place : Name → List Node → Option ℕ
node_place h [] = None
node_place h (n ∷ ns) = if same h n.name then Some 0 else option_map suc (node_place h ns)

abbrev pub as_list : {A : Type 0} → Option A → List A
as_list None = []
as_list (Some x) = x ∷ []

-- the positions of the nodes of these names, where there are such nodes
abbrev pub places_of : List Node → List Name → List ℕ
places_of nodes hs = flat_map (λ h. as_list (node_place h nodes)) hs

-- a node's name, and the positions of the nodes that it calls
abbrev pub edge_of : List Node → Node → Name × List ℕ
edge_of nodes n = (n.name, places_of nodes (calls_of (node_named nodes n.name)))

abbrev pub edges : List Node → List (Name × List ℕ)
edges nodes = map (edge_of nodes) nodes

abbrev pub is_marked : List Bool → ℕ → Bool
is_marked marks j = get_or marks j false

-- the marks after one more round: a node of this name, and each that calls a marked one
abbrev pub next_marks : List (Name × List ℕ) → (to : Name) → List Bool → List Bool
next_marks rows to marks = map (λ r. same r.0 to || list_any (is_marked marks) r.1) rows

unfoldable pub marks_after : List (Name × List ℕ) → (to : Name) → (rounds : ℕ) → List Bool
marks_after rows to zero = map (λ r. same r.0 to) rows
marks_after rows to (suc k) = next_marks rows to (marks_after rows to k)

abbrev pub row_in : Row → Name × List ℕ
row_in r = (r.name.now, r.callees.items)

-- the graph is that of these nodes
pub record IsGraphOf (nodes : List Node) (graph : CallGraph) : Type 0 where
  pub rows : map row_in graph.rows.items ≡ edges nodes
  pub names : map (λ r. r.now) graph.async_names.items ≡ async_nodes nodes
  pub places : graph.async_places.items ≡ places_of nodes (async_nodes nodes)
