-- What a core that was made of a program keeps of it.
use Rattle.std.specs.Prelude.{◌≡◌, ◌↔◌, ℕ, List, map, Some, slice_get}
use Rattle.hept_ast.specs.Scopes.{Written, Lowered}
use Rattle.hept_ast.specs.Settings.{Marks, of_core, of_program, no_replies}
use Rattle.hept_ast.specs.Outputs.{Outputs}
use Rattle.hept_ast.specs.Texts.{Name}
use Rattle.hept_ast.specs.Stages.{ClockedProgram}
use Rattle.hept_ast.specs.ClockMaps.{clock_in}
use Rattle.hept_ast.specs.declared.tree.Core.{Core}
use Rattle.hept_ast.specs.declared.tree.CoreNode.{CoreNode}
use Rattle.hept_ast.specs.declared.tree.Node.{Node}
use Rattle.core_facts.specs.Static.{StaticCore}
use Rattle.core_rules.specs.Cores.{HasNoCoreCycle}
use Rattle.core_rules.specs.WellFormed.{IsWellFormed}
use Rattle.flat_cores.specs.Flat.{IsFlatCore}
use Rattle.lowering_rules.specs.Lowering.{without_initial}
use Rattle.served_programs.specs.Served.{IsServed}
use Rattle.sound_expressions.specs.Demands.{NamesDiffer}

abbrev pub names_of_nodes : List CoreNode → List Name
names_of_nodes nodes = map (λ node. node.name) nodes

-- a node has a node of the core at its position, with the same declarations of inputs and outputs, and with the same outputs on all rows,
-- under any marks and without replies
pub record MeansNode (c : ClockedProgram) (core : Core) (k : ℕ) (node : Node) : Type 0 where
  pub low : CoreNode
  pub at : slice_get core.nodes k ≡ Some low
  pub takes : low.inputs ≡ map without_initial node.inputs
  pub gives : low.outputs ≡ map without_initial node.outputs
  pub outputs : (marked : Marks) (rows outs : List (List ℕ)) →
      Outputs (of_program c.program (clock_in c.clocks) marked no_replies) (Written k node) rows outs ↔ Outputs (of_core core marked no_replies) (Lowered low) rows outs

abbrev pub MeansProgram : ClockedProgram → Core → Type 0
MeansProgram c core = (k : ℕ) (node : Node) → slice_get c.program.nodes k ≡ Some node → MeansNode c core k node

-- a lowered core, as the passes behind it ask for it
pub record LowersWell (c : ClockedProgram) (core : Core) : Type 0 where
  pub means : MeansProgram c core
  pub well_formed : IsWellFormed core
  pub acyclic : HasNoCoreCycle core
  pub static_facts : StaticCore core
  pub flat : IsServed c.program → IsFlatCore core
  pub types : core.types ≡ c.program.types
  pub names : NamesDiffer (names_of_nodes core.nodes)
