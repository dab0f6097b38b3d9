-- What a pass does that brings a core into normal form: subexpressions become variables of their own.
use Rattle.std.specs.Prelude.{◌≡◌, ◌↔◌, ℕ, List, [], ◌∷◌, ◌++◌, All, Some, slice_get}
use Rattle.hept_ast.specs.Scopes.{Lowered}
use Rattle.hept_ast.specs.Settings.{Marks, Replies, of_core}
use Rattle.hept_ast.specs.Outputs.{Outputs}
use Rattle.hept_ast.specs.declared.tree.Core.{Core}
use Rattle.hept_ast.specs.declared.tree.CoreNode.{CoreNode}
use Rattle.hept_ast.specs.declared.tree.Decl.{Decl}
use Rattle.core_rules.specs.Cores.{HasNoCoreCycle}
use Rattle.core_rules.specs.WellFormed.{IsWellFormed}
use Rattle.core_naming.specs.Names.{IsNewName}
use Rattle.core_naming.specs.Normal.{IsNormal}
use Rattle.core_naming.specs.KeptSites.{KeepsSites}
use Rattle.naming_rules.specs.Namings.{Namings}

-- the interface stays, and new variables come after the node's own
pub record HasNewLocals (core : Core) (node other : CoreNode) : Type 0 where
  pub name : other.name ≡ node.name
  pub inputs : other.inputs ≡ node.inputs
  pub outputs : other.outputs ≡ node.outputs
  pub added : List Decl
  pub locals : other.locals ≡ node.locals ++ added
  pub new : All (λ d. IsNewName core d.name) added

pub data HaveNewLocals (core : Core) : List CoreNode → List CoreNode → Type 0 where
  no_nodes : HaveNewLocals core [] []
  more_nodes : {node other : CoreNode} {nodes others : List CoreNode} → HasNewLocals core node other → HaveNewLocals core nodes others →
      HaveNewLocals core (node ∷ nodes) (other ∷ others)

-- a core in normal form that means what another does
pub record IsNormalised (core other : Core) : Type 0 where
  pub types : other.types ≡ core.types
  pub nodes : HaveNewLocals core core.nodes other.nodes
  pub well_formed : IsWellFormed other
  pub normal : IsNormal other
  pub acyclic : HasNoCoreCycle other
  pub outputs : (marked : Marks) (replies : Replies) (k : ℕ) (node moved : CoreNode) (rows outs : List (List ℕ)) →
      slice_get core.nodes k ≡ Some node → slice_get other.nodes k ≡ Some moved →
      Outputs (of_core core marked replies) (Lowered node) rows outs ↔ Outputs (of_core other marked replies) (Lowered moved) rows outs
  pub sites : (marked : Marks) (replies : Replies) (k : ℕ) (node moved : CoreNode) →
      slice_get core.nodes k ≡ Some node → slice_get other.nodes k ≡ Some moved → KeepsSites core other marked replies node moved

-- namings that end in normal form
abbrev pub NamingsNormalise : Type 0
NamingsNormalise = (core other : Core) → IsWellFormed core → HasNoCoreCycle core → Namings core other → IsNormal other → IsNormalised core other
