-- The sites of accepted programs.
use Rattle.std.specs.Prelude.{◌≡◌, ℕ, List, Some, slice_get}
use Rattle.hept_ast.specs.OwnReplies.{OutputsFit}
use Rattle.hept_ast.specs.Scopes.{Written}
use Rattle.hept_ast.specs.Settings.{Marks, Replies, of_program}
use Rattle.hept_ast.specs.Sites.{Site, Sites}
use Rattle.hept_ast.specs.Paths.{LeftsAgree}
use Rattle.hept_ast.specs.ClockMaps.{clock_in}
use Rattle.hept_ast.specs.Stages.{ClockedProgram, IsAcceptedProgram}
use Rattle.hept_ast.specs.declared.tree.Node.{Node}
use Rattle.hept_ast.specs.TypedValues.{RowsFit}
use Rattle.accepted_meaning.specs.Placing.{RepliesFit}
use Rattle.accepted_meaning.specs.Ranges.{IsInRange}

-- the expanded text of each node of an accepted program is finite, so that it has a list of sites
abbrev pub AcceptedHasSites : Type 0
AcceptedHasSites = (c : ClockedProgram) (k : ℕ) (node : Node) (marked : Marks) (replies : Replies) → IsInRange c.program → IsAcceptedProgram c → slice_get c.program.nodes k ≡ Some node →
    (sites : List Site) × Sites (of_program c.program (clock_in c.clocks) marked replies) (Written k node) sites

-- the variables of each left side in it are on one clock
abbrev pub AcceptedLeftsAgree : Type 0
AcceptedLeftsAgree = (c : ClockedProgram) (k : ℕ) (node : Node) (marked : Marks) (replies : Replies) → IsInRange c.program → IsAcceptedProgram c → slice_get c.program.nodes k ≡ Some node →
    LeftsAgree (of_program c.program (clock_in c.clocks) marked replies) (Written k node)

-- and each output that is asked of a call is one of the called node's
abbrev pub AcceptedOutputsFit : Type 0
AcceptedOutputsFit = (c : ClockedProgram) (k : ℕ) (node : Node) (marked : Marks) (replies : Replies) (rows : List (List ℕ)) → IsInRange c.program → IsAcceptedProgram c → slice_get c.program.nodes k ≡ Some node →
    RepliesFit c (of_program c.program (clock_in c.clocks) marked replies) (Written k node) replies → RowsFit c.program.types node.inputs rows →
    (sites : List Site) → Sites (of_program c.program (clock_in c.clocks) marked replies) (Written k node) sites →
    OutputsFit (of_program c.program (clock_in c.clocks) marked replies) rows (Written k node) sites
