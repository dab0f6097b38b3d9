-- What a node's plan is made over, from its expanded text: cells of the equations in order, variables that clocks name, merges, and calls.
use Rattle.std.specs.Prelude.{ℕ, zero, suc, List, [], ◌∷◌, ◌++◌, length, map, Option, Some, All, Contains}
use Rattle.std.specs.List.{flat_map}
use Rattle.hept_ast.specs.Parts.{inside}
use Rattle.hept_ast.specs.Texts.{Name, const_value}
use Rattle.hept_ast.specs.Scopes.{Clock, Text, Lowered, Scope, Called, Under}
use Rattle.hept_ast.specs.declared.tree.TypeDec.{TypeDec}
use Rattle.hept_ast.specs.declared.tree.Core.{Core}
use Rattle.hept_ast.specs.declared.tree.CoreNode.{CoreNode}
use Rattle.hept_ast.specs.declared.tree.CoreEquation.{CoreEquation}
use Rattle.hept_ast.specs.declared.tree.Expr.{Expr}
use Rattle.hept_ast.specs.declared.tree.MergeBranch.{MergeBranch}
use Rattle.hept_ast.specs.declared.tree.Form.{Form, out-Form}
use Rattle.hept_ast.specs.declared.tree.Form.TheOpen.{Form-F}
use Rattle.step_plans.specs.Things.{Memory, Value_of, Presence_of}
use Rattle.step_plans.specs.Plans.{Ground, Tested, Tests, Covering, Covers, Calling, Calls, top_of}
use Rattle.step_plans.specs.Memories.{nodes_of}

-- ---- cells

-- a `fby` keeps a value, and one that starts with no constant also whether there was one
abbrev pub fby_memories : List TypeDec → (start : Form-F Form Expr MergeBranch) → (later : Expr) → Clock → Scope → List Memory
fby_memories types (Form-F.Const k) b c s = Value_of b c s (const_value types k) ∷ []
fby_memories types _ b c s = Value_of b c s 0 ∷ Presence_of c s ∷ []

-- memory operators stand at the top of a right side
abbrev pub right_memories : List TypeDec → Form-F Form Expr MergeBranch → Clock → Scope → List Memory
right_memories types (Form-F.Fby a b) c s = fby_memories types (out-Form a.form) b c s
right_memories types (Form-F.Pre a) c s = Value_of a c s 0 ∷ []
right_memories types (Form-F.Arrow a b) c s = Presence_of c s ∷ []
right_memories types _ c s = []

-- ---- bodies

-- a body of the expanded text: a node, and where it stands
pub record Body : Type 0 where
  pub node : CoreNode
  pub scope : Scope

-- where the right side of an equation of a body stands
abbrev pub right_scope : Scope → CoreEquation → Scope
right_scope b e = Under b e.resets

abbrev pub equation_memories : List TypeDec → Scope → CoreEquation → List Memory
equation_memories types b e = right_memories types (out-Form e.right.form) e.clock.steps (right_scope b e)

abbrev pub memories_of : List TypeDec → Scope → List CoreEquation → List Memory
memories_of types b es = flat_map (equation_memories types b) es

abbrev pub body_memories : List TypeDec → Body → List Memory
body_memories types body = memories_of types body.scope body.node.equations

-- ---- what clocks name

abbrev pub merged_name : Form-F Form Expr MergeBranch → List Name
merged_name (Form-F.Merge x branches) = x ∷ []
merged_name _ = []

-- the variables of an equation's clock, and of the merges in its right side
abbrev pub clock_names : CoreEquation → List Name
clock_names e = map (λ p. p.name) e.clock.steps ++ flat_map (λ a. merged_name (out-Form a.form)) (inside e.right)

abbrev pub tested_in : Body → List Tested
tested_in body = map (λ x. Tests body.node x body.scope) (flat_map clock_names body.node.equations)

abbrev pub merge_of : Scope → Form-F Form Expr MergeBranch → List Covering
merge_of s (Form-F.Merge x branches) = Covers x s branches ∷ []
merge_of s _ = []

abbrev pub covered_in : Body → List Covering
covered_in body = flat_map (λ e. flat_map (λ a. merge_of (right_scope body.scope e) (out-Form a.form)) (inside e.right)) body.node.equations

-- ---- calls, which stand at the top of right sides

abbrev pub calling_of : Scope → CoreEquation → Form-F Form Expr MergeBranch → List Calling
calling_of b e (Form-F.Call f args) = Calls e.clock.steps (right_scope b e) e.right.place.0 ∷ []
calling_of b e _ = []

abbrev pub calls_in : Body → List Calling
calls_in body = flat_map (λ e. calling_of body.scope e (out-Form e.right.form)) body.node.equations

-- where the body of a called node stands
abbrev pub call_scope : Scope → CoreEquation → List Expr → CoreNode → Scope
call_scope b e args callee = Called (right_scope b e) e.clock.steps e.right.place.0 args (Lowered callee)

abbrev pub text_bodies : (CoreNode → Scope → List Body) → Scope → CoreEquation → List Expr → Option Text → List Body
text_bodies go b e args (Some (Lowered callee)) = go callee (call_scope b e args callee)
text_bodies go b e args _ = []

abbrev pub form_bodies : (CoreNode → Scope → List Body) → (Name → Option Text) → Scope → CoreEquation → Form-F Form Expr MergeBranch → List Body
form_bodies go nodes b e (Form-F.Call f args) = text_bodies go b e args (nodes f)
form_bodies go nodes b e _ = []

abbrev pub called_bodies : (CoreNode → Scope → List Body) → (Name → Option Text) → Scope → CoreEquation → List Body
called_bodies go nodes b e = form_bodies go nodes b e (out-Form e.right.form)

-- the bodies of a node's expanded text, each before those of the nodes that it calls, where no chain of calls has more nodes than the depth
unfoldable pub bodies : Core → (depth : ℕ) → CoreNode → Scope → List Body
bodies core zero node b = []
bodies core (suc depth) node b = record { node = node; scope = b } ∷ flat_map (called_bodies (bodies core depth) (nodes_of core) b) node.equations

-- ---- grounds

-- of these bodies, without resets and async calls, whose variables are of plain type
abbrev pub ground_over : Core → List Body → Ground
ground_over core all = record {
  types = core.types;
  nodes = nodes_of core;
  tested = flat_map tested_in all;
  covered = flat_map covered_in all;
  calls = flat_map calls_in all;
  memories = flat_map (body_memories core.types) all;
  future_memories = [];
}

-- of a node's whole expanded text
abbrev pub bodies_of : Core → CoreNode → List Body
bodies_of core node = bodies core (length core.nodes) node (top_of node)

abbrev pub ground_of : Core → CoreNode → Ground
ground_of core node = ground_over core (bodies_of core node)

-- a ground that has what a body asks of it
pub record HasBody (g : Ground) (body : Body) : Type 0 where
  pub tested : All (Contains g.tested) (tested_in body)
  pub covered : All (Contains g.covered) (covered_in body)
  pub calls : All (Contains g.calls) (calls_in body)
