-- The node that a program is run from.
use Rattle.std.specs.Prelude.{◌≡◌, ℕ, not, List, [], ◌∷◌, length, position, slice_get, Option, Some, None}
use Rattle.std.specs.List.{find}
use Rattle.std.specs.Option.{option_map, option_and_then}
use Rattle.hept_ast.specs.Texts.{Name, same}
use Rattle.hept_ast.specs.Types.{is_plain}
use Rattle.hept_ast.specs.declared.tree.Decl.{Decl}
use Rattle.hept_ast.specs.declared.tree.Node.{Node}
use Rattle.type_futures.specs.declared.choice.TopFault.{TopFault}
use Rattle.type_futures.specs.declared.choice.TopFault.TheVariants.{NoNode, FutureInterface}

-- the position of the last of some
abbrev pub last_of : {A : Type 0} → List A → Option ℕ
last_of [] = None
last_of (x ∷ xs) = Some (length xs)

-- the position of the node of a name, or of the last one
abbrev pub chosen : List Node → Option Name → Option ℕ
chosen nodes None = last_of nodes
chosen nodes (Some f) = position (λ n. same n.name f) nodes

-- the place of the first declaration of future type
abbrev pub future_in : List Decl → Option ℕ
future_in ds = option_map (λ d. d.place.0) (find (λ d. not (is_plain d.ty)) ds)

abbrev pub or_else : Option ℕ → Option ℕ → Option ℕ
or_else (Some at) q = Some at
or_else None q = q

-- the place of the first input of future type, or else of the first output
abbrev pub future_interface : Node → Option ℕ
future_interface n = or_else (future_in n.inputs) (future_in n.outputs)

-- the first input or output of future type of the node at a position
abbrev pub future_at : List Node → ℕ → Option ℕ
future_at nodes k = option_and_then future_interface (slice_get nodes k)

-- the node at this position is meant, and it has no future among its inputs and outputs
pub record IsChosen (nodes : List Node) (name : Option Name) (k : ℕ) : Type 0 where
  pub chosen : chosen nodes name ≡ Some k
  pub plain : future_at nodes k ≡ None

abbrev pub IsTopFault : List Node → Option Name → TopFault → Type 0
IsTopFault nodes name NoNode = chosen nodes name ≡ None
IsTopFault nodes name (FutureInterface at) = option_and_then (future_at nodes) (chosen nodes name) ≡ Some at.0

-- the fault of the node at a position
abbrev pub IsFutureAt : List Node → ℕ → TopFault → Type 0
IsFutureAt nodes k NoNode = ⊥
IsFutureAt nodes k (FutureInterface at) = future_at nodes k ≡ Some at.0
