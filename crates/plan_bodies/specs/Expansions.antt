-- What is built for the equations of a node and of those that it calls: values of all variables, and presences of all clocks.
use Rattle.std.specs.Prelude.{◌≡◌, ℕ, ◌+◌, ◌<◌, ◌≤◌, List, [], ◌∷◌, All, Some, length, slice_get, slice_index}
use Rattle.std.specs.List.{flat_map}
use Rattle.hept_ast.specs.Texts.{names}
use Rattle.hept_ast.specs.Scopes.{Scope}
use Rattle.hept_ast.specs.declared.tree.Core.{Core}
use Rattle.hept_ast.specs.declared.tree.CoreNode.{CoreNode}
use Rattle.hept_ast.specs.declared.tree.CoreEquation.{CoreEquation}
use Rattle.step_plans.specs.Memories.{nodes_of}
use Rattle.step_plans.specs.Operations.{In_values}
use Rattle.step_plans.specs.Plans.{Ground, Entry, Has, IsBodyOf, IsQuiet, Progress}
use Rattle.step_plans.specs.Things.{Here}
use Rattle.plan_expressions.specs.Building.{AreActionsWithin, HaveRegisters, KnowsMore, Leads}
use Rattle.plan_expressions.specs.declared.draft.Draft.{Draft}
use Rattle.plan_equations.specs.Equations.{IsBuilt, inside_of}
use Rattle.plan_equations.specs.Grounds.{Body, HasBody, bodies, body_memories}
use Rattle.plan_equations.specs.Rights.{HasCells}
use Rattle.plan_bodies.specs.Buildable.{IsBuildableAlone, variables_of}
use Rattle.plan_bodies.specs.declared.bodies.PlacedBody.{PlacedBody}

-- the variables of a body have their values, in the body and in its right sides, and the clocks of its equations presences
pub record IsPlaced (entries : List Entry) (at : ℕ) (body : Body) (p : PlacedBody) : Type 0 where
  pub node : p.node.now ≡ body.node
  pub values : HaveRegisters entries body.scope (variables_of body.node) p.registers.items at
  pub read : HaveRegisters entries (inside_of body.scope) (variables_of body.node) p.registers.items at
  pub present : (k : ℕ) (e : CoreEquation) → slice_get body.node.equations k ≡ Some e → Has entries (Here e.clock.steps (inside_of body.scope)) (In_values (slice_index p.presences.items k)) × (slice_index p.presences.items k < at)

-- each body of a list
abbrev pub ArePlaced : List Entry → (at : ℕ) → List Body → List PlacedBody → Type 0
ArePlaced entries at [] [] = Unit {0}
ArePlaced entries at (body ∷ all) (p ∷ placed) = IsPlaced entries at body p × ArePlaced entries at all placed
ArePlaced entries at _ _ = ⊥

-- the ground has the types and the nodes of a core
pub record IsGroundFor (core : Core) (g : Ground) : Type 0 where
  pub types : g.types ≡ core.types
  pub nodes : g.nodes ≡ nodes_of core

-- after these bodies, where so much was known before: their values, and those of the outputs of the first
pub record IsExpanded (g : Ground) (start before : Progress) (draft : Draft) (all : List Body) (placed : List PlacedBody) (node : CoreNode) (b : Scope) (outputs : List ℕ) : Type 0 where
  pub here : Progress
  pub leads : Leads g start draft here
  pub more : KnowsMore before here
  pub longer : before.at ≤ draft.at
  pub bodies : ArePlaced here.entries draft.at all placed
  pub outputs_are : HaveRegisters here.entries b (names node.outputs) outputs draft.at

-- the bodies of a node's expanded text, in every ground of the core that has them and their cells, and in every scope without resets
abbrev pub BuildsBodies : Core → (depth : ℕ) → CoreNode → (cell base : ℕ) → (inputs : List ℕ) → (old new : Draft) → List PlacedBody → (outputs : List ℕ) → Type 0
BuildsBodies core depth node cell base inputs old new placed outputs = (g : Ground) (b : Scope) (start : Progress) → IsGroundFor core g → IsBodyOf b node → IsQuiet b →
    HasCells g cell (flat_map (body_memories core.types) (bodies core depth node b)) → All (HasBody g) (bodies core depth node b) → (built : IsBuilt g b base start old (names node.inputs) inputs) →
    IsExpanded g start built.here new (bodies core depth node b) placed node b outputs

-- how many cells these bodies have, whatever the scope
abbrev pub CountsCells : Core → (depth : ℕ) → CoreNode → (cell next : ℕ) → Type 0
CountsCells core depth node cell next = (b : Scope) → next ≡ cell + length (flat_map (body_memories core.types) (bodies core depth node b))

-- a body with a value for each of its variables, and a presence for each equation
pub record IsWhole (core : Core) (p : PlacedBody) : Type 0 where
  pub buildable : IsBuildableAlone core p.node.now
  pub variables : p.variables ≡ variables_of p.node.now
  pub registers : length p.registers.items ≡ length p.variables
  pub presences : length p.presences.items ≡ length p.node.now.equations

-- they are there
pub record IsPlacedWithin (at : ℕ) (p : PlacedBody) : Type 0 where
  pub registers : All (λ q. q < at) p.registers.items
  pub presences : All (λ q. q < at) p.presences.items

-- what the actions name is there, where the cells up to this one are, and so are all values and presences
abbrev pub KeepsBodies : (next base : ℕ) → (inputs : List ℕ) → (old new : Draft) → List PlacedBody → (outputs : List ℕ) → Type 0
KeepsBodies next base inputs old new placed outputs = (cells : ℕ) → next ≤ cells → base < old.at → All (λ q. q < old.at) inputs → AreActionsWithin cells old →
    AreActionsWithin cells new × (old.at ≤ new.at) × All (IsPlacedWithin new.at) placed × All (λ q. q < new.at) outputs
