-- Replies that are the sites' own values, of accepted programs.
use Rattle.std.specs.Prelude.{◌≡◌, ◌↔◌, ℕ, Bool, List, Some, slice_get}
use Rattle.hept_ast.specs.Scopes.{Written}
use Rattle.hept_ast.specs.Meaning.{Setting}
use Rattle.hept_ast.specs.Settings.{Marks, no_replies, of_program}
use Rattle.hept_ast.specs.Outputs.{Outputs}
use Rattle.hept_ast.specs.Sites.{Site, Sites, Sent, with_replies}
use Rattle.hept_ast.specs.OwnReplies.{AreOwn}
use Rattle.hept_ast.specs.Paths.{AllDiffer}
use Rattle.hept_ast.specs.CallPlaces.{block_places}
use Rattle.hept_ast.specs.ClockMaps.{clock_in}
use Rattle.hept_ast.specs.Stages.{ClockedProgram, IsAcceptedProgram}
use Rattle.hept_ast.specs.declared.tree.Node.{Node}
use Rattle.hept_ast.specs.declared.tree.Program.{Program}
use Rattle.hept_ast.specs.TypedValues.{RowsFit}
use Rattle.accepted_meaning.specs.Ranges.{IsInRange}

-- no two calls of a node's text have one place
abbrev pub HasPlacesOnce : Program → Type 0
HasPlacesOnce p = (i : ℕ) (node : Node) → slice_get p.nodes i ≡ Some node → AllDiffer (block_places node.block)

-- a program without replies
abbrev pub without_replies : ClockedProgram → Marks → Setting
without_replies c marked = of_program c.program (clock_in c.clocks) marked no_replies

-- an accepted program on rows that fit, with its sites, and replies that are their own values
pub record IsOwnReplied (c : ClockedProgram) (k : ℕ) (node : Node) (marked : Marks) (rows : List (List ℕ)) (sites : List Site) (lists : List (List (List ℕ))) : Type 0 where
  pub in_range : IsInRange c.program
  pub accepted : IsAcceptedProgram c
  pub places : HasPlacesOnce c.program
  pub chosen : slice_get c.program.nodes k ≡ Some node
  pub rows_fit : RowsFit c.program.types node.inputs rows
  pub sites_are : Sites (without_replies c marked) (Written k node) sites
  pub own : AreOwn (without_replies c marked) sites lists rows

-- the outputs are those under the replies
abbrev pub OutputsAreReplied : Type 0
OutputsAreReplied = (c : ClockedProgram) (k : ℕ) (node : Node) (marked : Marks) (rows : List (List ℕ)) (sites : List Site) (lists : List (List (List ℕ))) (outs : List (List ℕ)) →
    IsOwnReplied c k node marked rows sites lists →
    Outputs (without_replies c marked) (Written k node) rows outs ↔ Outputs (with_replies (without_replies c marked) sites lists) (Written k node) rows outs

-- and what a site is sent is what it is sent under the replies
abbrev pub SentIsReplied : Type 0
SentIsReplied = (c : ClockedProgram) (k : ℕ) (node : Node) (marked : Marks) (rows : List (List ℕ)) (sites : List Site) (lists : List (List (List ℕ))) (i : ℕ) (site : Site) (calls : List (Bool × List ℕ)) →
    IsOwnReplied c k node marked rows sites lists → slice_get sites i ≡ Some site →
    Sent (without_replies c marked) rows site calls ↔ Sent (with_replies (without_replies c marked) sites lists) rows site calls
