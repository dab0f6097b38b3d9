-- What holds of programs that are read and accepted.
use Rattle.std.specs.Prelude.{◌≡◌, ℕ, List, Some, map, slice_get}
use Rattle.hept_ast.specs.Scopes.{Written}
use Rattle.hept_ast.specs.Sites.{path_of, Site, Sites}
use Rattle.hept_ast.specs.Settings.{Marks, Replies, of_program}
use Rattle.hept_ast.specs.OwnReplies.{PathsTell}
use Rattle.hept_ast.specs.Paths.{AllDiffer}
use Rattle.hept_ast.specs.ClockMaps.{clock_in}
use Rattle.hept_ast.specs.Stages.{ClockedProgram, IsAcceptedProgram}
use Rattle.hept_ast.specs.declared.tree.Node.{Node}
use Rattle.erased_rules.specs.ErasedStages.{erased_with_clocks}
use Rattle.ept_tokens.specs.Tokens.{Bytes}
use Rattle.ept_reader.specs.Spelling.{IsProgramText}

-- the sites of a node: there is a list of them, no two have one path, and a path tells a site from all calls that are reached
abbrev pub AcceptedPathsTell : Type 0
AcceptedPathsTell = (bytes : Bytes) (c : ClockedProgram) → IsProgramText bytes c.program → IsAcceptedProgram c → (marked : Marks) (replies : Replies) (k : ℕ) (node : Node) →
    slice_get c.program.nodes k ≡ Some node →
    (sites : List Site) × Sites (of_program c.program (clock_in c.clocks) marked replies) (Written k node) sites × AllDiffer (map path_of sites)
    × ((rows : List (List ℕ)) → PathsTell (of_program c.program (clock_in c.clocks) marked replies) rows (Written k node) sites)

-- the erased program is accepted with the same clocks
abbrev pub AcceptedIsErased : Type 0
AcceptedIsErased = (bytes : Bytes) (c : ClockedProgram) → IsProgramText bytes c.program → IsAcceptedProgram c → IsAcceptedProgram (erased_with_clocks c)
