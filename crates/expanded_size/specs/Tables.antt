-- Sizes in a table by the positions of nodes, as it is filled.
use Rattle.std.specs.Prelude.{◌≡◌, ℕ, ◌+◌, ◌<◌, List, [], ◌∷◌, get_or, length, map, Option, Some, None}
use Rattle.std.specs.Option.{option_and_then}
use Rattle.call_graph.specs.declared.graph.CallGraph.{CallGraph}
use Rattle.expanded_size.specs.Sizes.{kept}

-- for each node the positions of those that it calls
abbrev pub callee_lists : CallGraph → List (List ℕ)
callee_lists graph = map (λ r. r.callees.items) graph.rows.items

-- what is known of the size of the node at a position
abbrev pub known : List (Option ℕ) → ℕ → Option ℕ
known sizes i = get_or sizes i None

-- a size and those of the nodes at these positions together, where all of them are known
abbrev pub with_callees : List (Option ℕ) → (size : ℕ) → List ℕ → Option ℕ
with_callees sizes size [] = Some size
with_callees sizes size (i ∷ is) = option_and_then (λ n. with_callees sizes (kept (size + n)) is) (known sizes i)

-- the size of the node at a position by its own number of expressions and the sizes of its callees, where these are known
abbrev pub size_by : (counts : List ℕ) → (callees : List (List ℕ)) → List (Option ℕ) → ℕ → Option ℕ
size_by counts callees sizes i = with_callees sizes (get_or counts i 0) (get_or callees i [])

-- the size of the node at a position isn't known yet, and this is it
pub record IsNext (counts : List ℕ) (callees : List (List ℕ)) (sizes : List (Option ℕ)) (i n : ℕ) : Type 0 where
  pub open_one : known sizes i ≡ None
  pub found : size_by counts callees sizes i ≡ Some n

-- the size of the node at a position is known, or it can't be found yet
abbrev pub HasNoSize : (counts : List ℕ) → (callees : List (List ℕ)) → List (Option ℕ) → ℕ → Type 0
HasNoSize counts callees sizes i = known sizes i ≡ None → size_by counts callees sizes i ≡ None

pub record IsUnknown (count : ℕ) (sizes : List (Option ℕ)) : Type 0 where
  pub long : length sizes ≡ count
  pub none : (i : ℕ) → known sizes i ≡ None

-- each size that is known is that of the node, and no other can be found
pub record IsSettled (counts : List ℕ) (callees : List (List ℕ)) (sizes : List (Option ℕ)) : Type 0 where
  pub right : (i n : ℕ) → known sizes i ≡ Some n → size_by counts callees sizes i ≡ Some n
  pub whole : (i : ℕ) → i < length callees → HasNoSize counts callees sizes i
