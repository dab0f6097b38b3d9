-- What is built for the equations of a body, one after another, with the bodies of what they call.
use Rattle.std.specs.Prelude.{◌≡◌, ℕ, suc, ◌+◌, ◌<◌, ◌≤◌, List, ◌++◌, All, Contains, Some, length, slice_get, slice_index}
use Rattle.std.specs.List.{flat_map, sum_by}
use Rattle.hept_ast.specs.Texts.{Name, names}
use Rattle.hept_ast.specs.Scopes.{Scope}
use Rattle.hept_ast.specs.declared.tree.Core.{Core}
use Rattle.hept_ast.specs.declared.tree.CoreNode.{CoreNode}
use Rattle.hept_ast.specs.declared.tree.CoreEquation.{CoreEquation}
use Rattle.hept_ast.specs.declared.tree.Expr.{Expr}
use Rattle.hept_ast.specs.declared.tree.Form.{out-Form}
use Rattle.step_plans.specs.Memories.{nodes_of}
use Rattle.step_plans.specs.Operations.{In_values}
use Rattle.step_plans.specs.Plans.{Ground, Calls, Has, IsBodyOf, IsQuiet, Progress}
use Rattle.step_plans.specs.Things.{Here, Memory}
use Rattle.plan_expressions.specs.Building.{AreActionsWithin, KnowsMore}
use Rattle.plan_expressions.specs.declared.draft.Draft.{Draft}
use Rattle.plan_equations.specs.Equations.{AreKnown, IsBuilt, IsFound, IsGroundedEquation, IsProperClock, inside_of}
use Rattle.plan_equations.specs.Grounds.{Body, HasBody, bodies, body_memories, call_scope, called_bodies, equation_memories, memories_of, right_scope}
use Rattle.plan_equations.specs.Rights.{HasCells, IsRight, right_cells}
use Rattle.plan_bodies.specs.Buildable.{IsCallOf, IsCallable, IsFoundByAll, variables_of}
use Rattle.plan_bodies.specs.Expansions.{ArePlaced, IsGroundFor, IsPlacedWithin}
use Rattle.plan_bodies.specs.declared.bodies.PlacedBody.{PlacedBody}

-- how many cells the equations of a body have
abbrev pub cells_of : List CoreEquation → ℕ
cells_of es = sum_by (λ e. right_cells (out-Form e.right.form)) es

-- the bodies of what an equation calls, and of what equations call
abbrev pub called_in : Core → (depth : ℕ) → Scope → CoreEquation → List Body
called_in core depth b e = called_bodies (bodies core depth) (nodes_of core) b e

abbrev pub inner_bodies : Core → (depth : ℕ) → Scope → List CoreEquation → List Body
inner_bodies core depth b es = flat_map (called_in core depth b) es

-- the cells of bodies
abbrev pub bodies_memories : Core → List Body → List Memory
bodies_memories core all = flat_map (body_memories core.types) all

-- an equation that may come next: of one variable, or a call
pub data IsNext (core : Core) (node : CoreNode) (known : List Name) (e : CoreEquation) : Type 0 where
  defines : (x : Name) → IsFound node e x → AreKnown known e.clock.steps → IsRight core.types known (suc (length e.clock.steps)) e.right → IsNext core node known e
  calls : (args : List Expr) (callee : CoreNode) → IsCallOf core e args callee → AreKnown known e.clock.steps → IsCallable core.types node known e args callee → IsNext core node known e

-- ---- an equation

-- its variables have values and its clock a presence, and the bodies of what it calls have theirs
pub record IsNextBuilt (g : Ground) (b : Scope) (base : ℕ) (start before : Progress) (draft : Draft) (variables : List Name) (registers : List ℕ) (e : CoreEquation) (presence : ℕ) (all : List Body) (placed : List PlacedBody) : Type 0 where
  pub built : IsBuilt g b base start draft variables registers
  pub more : KnowsMore before built.here
  pub longer : before.at ≤ draft.at
  pub present : Has built.here.entries (Here e.clock.steps (inside_of b)) (In_values presence)
  pub under : presence < draft.at
  pub inner : ArePlaced built.here.entries draft.at all placed

-- what the ground has for it: its own cells from one number on, and those of what it calls from another
pub record IsGroundedNext (core : Core) (depth : ℕ) (g : Ground) (node : CoreNode) (b : Scope) (own next : ℕ) (e : CoreEquation) : Type 0 where
  pub ground : IsGroundFor core g
  pub body : IsBodyOf b node
  pub quiet : IsQuiet b
  pub of_body : HasBody g (record { node = node; scope = b })
  pub there : Contains node.equations e
  pub equation : IsGroundedEquation g node b e
  pub cells : HasCells g own (equation_memories core.types b e)
  pub called_cells : HasCells g next (bodies_memories core (called_in core depth b e))
  pub called : All (HasBody g) (called_in core depth b e)

abbrev pub BuildsNext : Core → (depth : ℕ) → List Name → (own next base : ℕ) → CoreEquation → (old_registers : List ℕ) → Draft → (registers : List ℕ) → Draft → (presence : ℕ) → List PlacedBody → Type 0
BuildsNext core depth variables own next base e old_registers old registers new presence placed = (g : Ground) (node : CoreNode) (b : Scope) (start : Progress) → IsNext core node variables e → IsGroundedNext core depth g node b own next e →
    (built : IsBuilt g b base start old variables old_registers) → IsNextBuilt g b base start built.here new (variables ++ e.left) registers e presence (called_in core depth b e) placed

-- the cell after those of what it calls, whatever the scope
abbrev pub CountsNext : Core → (depth : ℕ) → CoreEquation → (next after : ℕ) → Type 0
CountsNext core depth e next after = (b : Scope) → after ≡ next + length (bodies_memories core (called_in core depth b e))

-- what the actions name is there, where the cells up to both numbers are, and so are all values and presences
abbrev pub KeepsNext : (own after base : ℕ) → (old_registers : List ℕ) → Draft → (registers : List ℕ) → Draft → (presence : ℕ) → List PlacedBody → Type 0
KeepsNext own after base old_registers old registers new presence placed = (cells : ℕ) → own ≤ cells → after ≤ cells → base < old.at → All (λ q. q < old.at) old_registers → AreActionsWithin cells old →
    AreActionsWithin cells new × (old.at ≤ new.at) × All (λ q. q < new.at) registers × (presence < new.at) × All (IsPlacedWithin new.at) placed

-- ---- a call

-- what the ground has for it
pub record IsGroundedCall (core : Core) (depth : ℕ) (g : Ground) (node : CoreNode) (b : Scope) (next : ℕ) (e : CoreEquation) (args : List Expr) (callee : CoreNode) : Type 0 where
  pub ground : IsGroundFor core g
  pub body : IsBodyOf b node
  pub quiet : IsQuiet b
  pub clock : IsProperClock g node b e.clock.steps
  pub call : IsCallOf core e args callee
  pub found : IsFoundByAll node e
  pub outputs : length e.left ≡ length callee.outputs
  pub counted : Contains g.calls (Calls e.clock.steps (right_scope b e) e.right.place.0)
  pub cells : HasCells g next (bodies_memories core (bodies core depth callee (call_scope b e args callee)))
  pub called : All (HasBody g) (bodies core depth callee (call_scope b e args callee))

abbrev pub BuildsCall : Core → (depth : ℕ) → List Name → (next base : ℕ) → CoreEquation → List Expr → (callee : CoreNode) → (old_registers : List ℕ) → Draft → (registers : List ℕ) → Draft → (presence : ℕ) → List PlacedBody → Type 0
BuildsCall core depth variables next base e args callee old_registers old registers new presence placed = (g : Ground) (node : CoreNode) (b : Scope) (start : Progress) → IsGroundedCall core depth g node b next e args callee →
    (built : IsBuilt g b base start old variables old_registers) → IsNextBuilt g b base start built.here new (variables ++ e.left) registers e presence (bodies core depth callee (call_scope b e args callee)) placed

-- ---- all equations of a body

-- the variables have values, these equations presences, and these bodies what is theirs
pub record AreValued (g : Ground) (b : Scope) (base : ℕ) (start before : Progress) (draft : Draft) (variables : List Name) (registers : List ℕ) (equations : List CoreEquation) (presences : List ℕ) (all : List Body) (placed : List PlacedBody) : Type 0 where
  pub built : IsBuilt g b base start draft variables registers
  pub more : KnowsMore before built.here
  pub longer : before.at ≤ draft.at
  pub present : (k : ℕ) (e : CoreEquation) → slice_get equations k ≡ Some e → Has built.here.entries (Here e.clock.steps (inside_of b)) (In_values (slice_index presences k)) × (slice_index presences k < draft.at)
  pub inner : ArePlaced built.here.entries draft.at all placed

-- what the ground has for them
pub record IsGroundedBody (core : Core) (depth : ℕ) (g : Ground) (node : CoreNode) (b : Scope) (cell first : ℕ) : Type 0 where
  pub ground : IsGroundFor core g
  pub body : IsBodyOf b node
  pub quiet : IsQuiet b
  pub of_body : HasBody g (record { node = node; scope = b })
  pub equations : All (IsGroundedEquation g node b) node.equations
  pub cells : HasCells g cell (memories_of core.types b node.equations)
  pub called_cells : HasCells g first (bodies_memories core (inner_bodies core depth b node.equations))
  pub called : All (HasBody g) (inner_bodies core depth b node.equations)

abbrev pub BuildsValues : Core → (depth : ℕ) → CoreNode → (cell first base : ℕ) → (inputs : List ℕ) → Draft → (registers : List ℕ) → Draft → (presences : List ℕ) → List PlacedBody → Type 0
BuildsValues core depth node cell first base inputs old registers new presences placed = (g : Ground) (b : Scope) (start : Progress) → IsGroundedBody core depth g node b cell first → (built : IsBuilt g b base start old (names node.inputs) inputs) →
    AreValued g b base start built.here new (variables_of node) registers node.equations presences (inner_bodies core depth b node.equations) placed

-- the cell after those of what they call, whatever the scope
abbrev pub CountsValues : Core → (depth : ℕ) → List CoreEquation → (first next : ℕ) → Type 0
CountsValues core depth es first next = (b : Scope) → next ≡ first + length (bodies_memories core (inner_bodies core depth b es))

-- what the actions name is there, where the cells up to this one are, and so are all values and presences
abbrev pub KeepsValues : (next base : ℕ) → (inputs : List ℕ) → Draft → (registers : List ℕ) → Draft → (presences : List ℕ) → List PlacedBody → Type 0
KeepsValues next base inputs old registers new presences placed = (cells : ℕ) → next ≤ cells → base < old.at → All (λ q. q < old.at) inputs → AreActionsWithin cells old →
    AreActionsWithin cells new × (old.at ≤ new.at) × All (λ q. q < new.at) registers × All (λ q. q < new.at) presences × All (IsPlacedWithin new.at) placed
