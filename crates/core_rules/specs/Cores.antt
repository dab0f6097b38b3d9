-- Nodes of a core seen as nodes of a program, what a core declares, defines and calls, and what its variables read.
use Rattle.std.specs.Prelude.{false, if◌then◌else◌, IsTrue, List, [], ◌++◌, map, All}
use Rattle.std.specs.List.{flat_map}
use Rattle.hept_ast.specs.Texts.{Name, is_in}
use Rattle.hept_ast.specs.Scopes.{Clock, equation_of}
use Rattle.hept_ast.specs.Meaning.{clock_of_equation}
use Rattle.hept_ast.specs.Faults.{Judging}
use Rattle.hept_ast.specs.Causal.{HasNoCycle, reads}
use Rattle.hept_ast.specs.declared.tree.Core.{Core}
use Rattle.hept_ast.specs.declared.tree.CoreNode.{CoreNode}
use Rattle.hept_ast.specs.declared.tree.CoreEquation.{CoreEquation}
use Rattle.hept_ast.specs.declared.tree.Decl.{Decl}
use Rattle.hept_ast.specs.declared.tree.Node.{Node}
use Rattle.hept_ast.specs.declared.tree.Equation.{Equation}
use Rattle.hept_ast.specs.declared.tree.Equation.TheVariants as equation

-- an equation without its clock and resets, and a node with such a text
abbrev pub as_equation : CoreEquation → Equation
as_equation e = equation.Define e.place e.left e.right

abbrev pub as_node : CoreNode → Node
as_node node = record { place = record { 0 = 0 }; name = node.name; inputs = node.inputs; outputs = node.outputs; block = record { locals = node.locals; body = map as_equation node.equations } }

-- and without a text: the rules on what futures may do in a program are none of a core's
abbrev pub as_interface : CoreNode → Node
as_interface node = record { place = record { 0 = 0 }; name = node.name; inputs = node.inputs; outputs = node.outputs; block = record { locals = node.locals; body = [] } }

abbrev pub core_decls : CoreNode → List Decl
core_decls node = node.inputs ++ node.outputs ++ node.locals

-- all left sides, in the order of the equations
abbrev pub lefts_of : CoreNode → List Name
lefts_of node = flat_map (λ e. e.left) node.equations

-- the clock of a variable: that of the equation that defines it, and the base clock for an input
abbrev pub core_clock : CoreNode → Name → Clock
core_clock node x = clock_of_equation (equation_of node x)

-- what right sides are judged by
abbrev pub core_judging : Core → CoreNode → Judging
core_judging core node = record { types = core.types; nodes = map as_interface core.nodes; node = as_interface node; seen = core_decls node; strong = false }

-- what an equation reads: its right side's reads, the variables of its clock, and its resets
abbrev pub equation_reads : CoreEquation → List Name
equation_reads e = reads e.right.form ++ map (λ s. s.name) e.clock.steps ++ e.resets

abbrev pub core_reads : CoreNode → Name → List Name
core_reads node x = flat_map (λ e. if is_in x e.left then equation_reads e else []) node.equations

abbrev pub CoreReads : CoreNode → Name → Name → Type 0
CoreReads node x y = IsTrue (is_in y (core_reads node x))

-- no node's reads have a cycle
abbrev pub HasNoCoreCycle : Core → Type 0
HasNoCoreCycle core = All (λ node. HasNoCycle (CoreReads node)) core.nodes
