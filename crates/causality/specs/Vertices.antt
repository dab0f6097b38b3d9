-- The variables of a node as numbers, and what they read as a graph.
use Rattle.std.specs.Prelude.{ℕ, if◌then◌else◌, nat_lt, IsTrue, List, [], ◌∷◌, ◌++◌, length, map, slice_index_or}
use Rattle.std.specs.List.{flat_map}
use Rattle.hept_ast.specs.Texts.{Name, is_in, place_in, names}
use Rattle.hept_ast.specs.Scopes.{Clock}
use Rattle.hept_ast.specs.Parts.{variables}
use Rattle.hept_ast.specs.Causal.{IsCycle, BeginsWithFirst, HasNoneTwice, Reads}
use Rattle.hept_ast.specs.declared.tree.Node.{Node}
use Rattle.causality.specs.Flows.{DataFlow, node_flows}
use Rattle.causality.specs.Graph.{Graph}

-- what the equations define
abbrev pub lefts : List DataFlow → List Name
lefts flows = flat_map (λ f. f.left) flows

-- the variables of a node and what its equations define, so that each variable that reads has a number
abbrev pub vertices : Node → List Name
vertices node = names (variables node) ++ lefts (node_flows node)

-- the numbers of those names that have one
abbrev pub number_in : List Name → Name → List ℕ
number_in vs x = if nat_lt (place_in x vs) (length vs) then place_in x vs ∷ [] else []

abbrev pub numbers : List Name → List Name → List ℕ
numbers vs xs = flat_map (number_in vs) xs

-- the name of a number
abbrev pub name_of : List Name → ℕ → Name
name_of vs k = slice_index_or vs k []

-- what a variable reads by the plain equations
abbrev pub flow_reads : List DataFlow → Name → List Name
flow_reads flows x = flat_map (λ f. if is_in x f.left then f.reads else []) flows

abbrev pub clock_reads : (Name → Clock) → Name → List Name
clock_reads clock x = map (λ s. s.name) (clock x)

-- for each of some variables the numbers of those that it reads
abbrev pub graph_by : List Name → List DataFlow → (Name → Clock) → Graph
graph_by vs flows clock = map (λ x. numbers vs (flow_reads flows x ++ clock_reads clock x)) vs

-- only variables that the node declares have a clock other than the base clock
abbrev pub HasClocksOfDeclared : Node → (Name → Clock) → Type 0
HasClocksOfDeclared node clock = (x y : Name) → IsTrue (is_in y (clock_reads clock x)) → IsTrue (is_in x (names (variables node)))

-- a cycle of a node's variables, none twice, that begins with the one declared first
pub record IsNodeCycle (node : Node) (clock : Name → Clock) (vars : List Name) : Type 0 where
  pub cycle : IsCycle (Reads node clock) vars
  pub first : BeginsWithFirst (names (variables node)) vars
  pub once : HasNoneTwice vars
