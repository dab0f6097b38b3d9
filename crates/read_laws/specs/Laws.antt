-- The laws of the programs that are read.
use Rattle.std.specs.Prelude.{◌≡◌, ℕ, List, Some, map, slice_get}
use Rattle.hept_ast.specs.Texts.{Name}
use Rattle.hept_ast.specs.Scopes.{Clock, Written}
use Rattle.hept_ast.specs.Sites.{path_of, Site, Sites}
use Rattle.hept_ast.specs.Settings.{Marks, Replies, of_program}
use Rattle.hept_ast.specs.CallPlaces.{block_places}
use Rattle.hept_ast.specs.OwnReplies.{PathsTell}
use Rattle.hept_ast.specs.Paths.{AllDiffer, LeftsAgree}
use Rattle.hept_ast.specs.declared.tree.Node.{Node}
use Rattle.hept_ast.specs.declared.tree.Program.{Program}
use Rattle.ept_tokens.specs.Tokens.{Bytes}
use Rattle.ept_reader.specs.Spelling.{IsProgramText}
use Rattle.accepted_meaning.specs.Ranges.{IsInRange}

-- in each node's text no two calls have one place
abbrev pub ReadPlacesDiffer : Type 0
ReadPlacesDiffer = (bytes : Bytes) (program : Program) → IsProgramText bytes program → (i : ℕ) (node : Node) → slice_get program.nodes i ≡ Some node → AllDiffer (block_places node.block)

-- What follows for a node, with any marks and replies and with clocks by which the variables of each left side are on one clock: no two sites have one path.
abbrev pub ReadPathsDiffer : Type 0
ReadPathsDiffer = (bytes : Bytes) (program : Program) → IsProgramText bytes program → (clock : ℕ → Name → Clock) (marked : Marks) (replies : Replies) (k : ℕ) (node : Node) (sites : List Site) →
    slice_get program.nodes k ≡ Some node → LeftsAgree (of_program program clock marked replies) (Written k node) → Sites (of_program program clock marked replies) (Written k node) sites → AllDiffer (map path_of sites)

-- And a path tells a site from all calls that are reached.
abbrev pub ReadPathsTell : Type 0
ReadPathsTell = (bytes : Bytes) (program : Program) → IsProgramText bytes program → (clock : ℕ → Name → Clock) (marked : Marks) (replies : Replies) (k : ℕ) (node : Node) (sites : List Site) →
    slice_get program.nodes k ≡ Some node → LeftsAgree (of_program program clock marked replies) (Written k node) → Sites (of_program program clock marked replies) (Written k node) sites →
    (rows : List (List ℕ)) → PathsTell (of_program program clock marked replies) rows (Written k node) sites

-- the program is in range: each type has a constructor, and each number has 32 bits
abbrev pub ReadInRange : Type 0
ReadInRange = (bytes : Bytes) (program : Program) → IsProgramText bytes program → IsInRange program
