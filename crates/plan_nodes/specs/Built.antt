-- What is built for the cells of a node's expanded text: a store for each, and its first content.
use Rattle.std.specs.Prelude.{◌≡◌, ℕ, ◌≤◌, List, ◌++◌, All, Some, length, map, slice_get}
use Rattle.std.specs.List.{flat_map}
use Rattle.hept_ast.specs.declared.tree.TypeDec.{TypeDec}
use Rattle.step_plans.specs.Things.{Memory, initial_of}
use Rattle.step_plans.specs.Operations.{storing_of}
use Rattle.step_plans.specs.Plans.{Ground, Entry, IsQuiet, Keeps, Progress}
use Rattle.step_plans.specs.declared.instruction.Store.{Store}
use Rattle.step_engine.specs.Running.{IsStoreWithin}
use Rattle.plan_expressions.specs.Building.{AreActionsWithin, KnowsMore, Leads}
use Rattle.plan_expressions.specs.declared.draft.Draft.{Draft}
use Rattle.plan_equations.specs.Grounds.{Body, body_memories}
use Rattle.plan_bodies.specs.Expansions.{ArePlaced, IsPlaced, IsPlacedWithin}
use Rattle.plan_bodies.specs.declared.bodies.PlacedBody.{PlacedBody}
use Rattle.plan_nodes.specs.declared.stores.Cells.{Cells}

-- each cell has a store that keeps what it stands for, and its first content
pub record HaveCells (g : Ground) (entries : List Entry) (memories : List Memory) (cells : Cells) : Type 0 where
  pub as_many : length cells.stores.items ≡ length memories
  pub keeps : (k : ℕ) (m : Memory) → slice_get memories k ≡ Some m → (s : Store) × (slice_get cells.stores.items k ≡ Some s) × Keeps g entries m (storing_of s)
  pub initial : cells.initial.items ≡ map initial_of memories

-- these memories have cells, where so much was known when all bodies had their values
pub record AreKept (g : Ground) (start from : Progress) (draft : Draft) (memories : List Memory) (cells : Cells) : Type 0 where
  pub here : Progress
  pub leads : Leads g start draft here
  pub more : KnowsMore from here
  pub longer : from.at ≤ draft.at
  pub have : HaveCells g here.entries memories cells

-- the cells of these memories of a body come after those that are there
pub record AddsCells (types : List TypeDec) (body : Body) (placed : PlacedBody) (memories : List Memory) (old : Draft) (before : Cells) (new : Draft) (after : Cells) : Type 0 where
  pub keeps : (g : Ground) (start from : Progress) (done : List Memory) → g.types ≡ types → IsPlaced from.entries from.at body placed → IsQuiet body.scope → AreKept g start from old done before → AreKept g start from new (done ++ memories) after
  pub within : (count : ℕ) → IsPlacedWithin old.at placed → AreActionsWithin count old → All (IsStoreWithin old.at) before.stores.items → AreActionsWithin count new × (old.at ≤ new.at) × All (IsStoreWithin new.at) after.stores.items

-- no reset stands around the body
abbrev pub IsQuietBody : Body → Type 0
IsQuietBody body = IsQuiet body.scope

-- all cells of bodies, in their order
pub record AddsAllCells (types : List TypeDec) (placed : List PlacedBody) (old new : Draft) (cells : Cells) : Type 0 where
  pub keeps : (g : Ground) (start from : Progress) (all : List Body) → g.types ≡ types → ArePlaced from.entries from.at all placed → All IsQuietBody all → Leads g start old from → AreKept g start from new (flat_map (body_memories types) all) cells
  pub within : (count : ℕ) → All (IsPlacedWithin old.at) placed → AreActionsWithin count old → AreActionsWithin count new × (old.at ≤ new.at) × All (IsStoreWithin new.at) cells.stores.items
