-- What the plain equations of a node define, from what, and what they read.
use Rattle.std.specs.Prelude.{List, [], ◌∷◌, ◌++◌, map}
use Rattle.std.specs.List.{flat_map}
use Rattle.hept_ast.specs.Texts.{Name}
use Rattle.hept_ast.specs.Causal.{reads, reads_around}
use Rattle.hept_ast.specs.Parts.{Surroundings, State_of, Part, Plain, Placed, parts_of, strong_of_all}
use Rattle.hept_ast.specs.declared.tree.Expr.{Expr}
use Rattle.hept_ast.specs.declared.tree.Node.{Node}
use Rattle.hept_ast.specs.declared.tree.State.{State}
use Rattle.hept_ast.specs.declared.tree.Equation.{Equation}
use Rattle.hept_ast.specs.declared.tree.Form.TheVariants as form
use Rattle.causality.specs.declared.flows.Flow as code

-- a plain equation: what it defines, by which expression, and what it reads together with what stands around it
pub record DataFlow : Type 0 where
  pub left : List Name
  pub right : Expr
  pub reads : List Name

abbrev pub flow_of : code.Flow → DataFlow
flow_of f = record { left = f.left.now; right = f.right.now; reads = map (λ r. r.now) f.reads.items }

-- what the blocks around something read
abbrev pub around : Surroundings → List Name
around site = flat_map reads_around site

-- a part, where the blocks around it read these
abbrev pub flow_by : List Name → Part → List DataFlow
flow_by names (Plain p left right) = record { left = left; right = right; reads = reads right.form ++ names } ∷ []
flow_by names _ = []

abbrev pub flow_in : Placed → List DataFlow
flow_in q = flow_by (around q.site) q.part

-- a place inside one block that reads these
abbrev pub site_reading : List Name → Surroundings
site_reading names = State_of (map (λ x. record { place = record { 0 = 0 }; form = form.Var x }) names) [] ∷ []

-- the plain equations inside an equation, where the blocks around it read these
abbrev pub flows_of : List Name → Equation → List DataFlow
flows_of names e = flat_map flow_in (parts_of (site_reading names) e)

abbrev pub flows_of_all : List Name → List Equation → List DataFlow
flows_of_all names es = flat_map (flows_of names) es

-- what the strong conditions of an automaton read
abbrev pub strong_reads : List State → List Name
strong_reads qs = flat_map (λ e. reads e.form) (strong_of_all qs)

-- the plain equations of a node
abbrev pub node_flows : Node → List DataFlow
node_flows node = flows_of_all [] node.block.body
