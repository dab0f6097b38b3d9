-- What lowering keeps of an accepted program without switches, resets, automata and `last`.
use Rattle.std.specs.Prelude.{◌≡◌, ◌↔◌, ℕ, Bool, List, [], ◌∷◌, Some, slice_get}
use Rattle.hept_ast.specs.Scopes.{Text, Written, Lowered}
use Rattle.hept_ast.specs.Settings.{Marks, Replies, of_core, of_program, no_replies}
use Rattle.hept_ast.specs.Outputs.{Outputs}
use Rattle.hept_ast.specs.Sites.{Site, Sites, Sent, by_site, path_of, with_replies}
use Rattle.hept_ast.specs.Stages.{ClockedProgram, IsAcceptedProgram}
use Rattle.hept_ast.specs.ClockMaps.{clock_in}
use Rattle.hept_ast.specs.declared.tree.Core.{Core}
use Rattle.hept_ast.specs.declared.tree.CoreNode.{CoreNode}
use Rattle.hept_ast.specs.declared.tree.Node.{Node}
use Rattle.accepted_meaning.specs.Ranges.{IsInRange}
use Rattle.accepted_meaning.specs.ReplyLaws.{HasPlacesOnce, IsOwnReplied, without_replies}
use Rattle.lowering_rules.specs.CallPaths.{Agree, IsCallPath}
use Rattle.lowering_rules.specs.Lowering.{LowersProgram}

-- the outputs, both ways, under any marks
abbrev pub LoweringKeepsOutputs : Type 0
LoweringKeepsOutputs = (c : ClockedProgram) (core : Core) (marked : Marks) (k : ℕ) (node : Node) (low : CoreNode) (rows outs : List (List ℕ)) →
    IsInRange c.program → IsAcceptedProgram c → LowersProgram c core → slice_get c.program.nodes k ≡ Some node → slice_get core.nodes k ≡ Some low →
    Outputs (of_program c.program (clock_in c.clocks) marked no_replies) (Written k node) rows outs ↔ Outputs (of_core core marked no_replies) (Lowered low) rows outs

-- and under any replies to the program's calls and to the core's that agree
abbrev pub LoweringKeepsReplied : Type 0
LoweringKeepsReplied = (c : ClockedProgram) (core : Core) (marked : Marks) (replies others : Replies) (k : ℕ) (node : Node) (low : CoreNode) (rows outs : List (List ℕ)) →
    IsInRange c.program → IsAcceptedProgram c → LowersProgram c core → slice_get c.program.nodes k ≡ Some node → slice_get core.nodes k ≡ Some low →
    Agree c.program.nodes (Written k node) replies others →
    Outputs (of_program c.program (clock_in c.clocks) marked replies) (Written k node) rows outs ↔ Outputs (of_core core marked others) (Lowered low) rows outs

-- ---- sites

-- a site of the core stands for one of the program: they are at the two paths of one call, its node is at the same position, it has its queue and clock, and it is sent the same, both ways
pub record StandsFor (c : ClockedProgram) (core : Core) (marked : Marks) (replies others : Replies) (chosen : Text) (site moved : Site) : Type 0 where
  pub path : IsCallPath c.program.nodes chosen (path_of site) (path_of moved)
  pub queue : moved.queue ≡ site.queue
  pub clock : moved.clock ≡ site.clock
  pub position : ℕ
  pub node : Node
  pub low : CoreNode
  pub at : slice_get c.program.nodes position ≡ Some node
  pub low_at : slice_get core.nodes position ≡ Some low
  pub text : site.text ≡ Written position node
  pub moved_text : moved.text ≡ Lowered low
  pub sent : (rows : List (List ℕ)) (calls : List (Bool × List ℕ)) →
      Sent (of_program c.program (clock_in c.clocks) marked replies) rows site calls ↔ Sent (of_core core marked others) rows moved calls

pub data StandFor (c : ClockedProgram) (core : Core) (marked : Marks) (replies others : Replies) (chosen : Text) : List Site → List Site → Type 0 where
  no_sites : StandFor c core marked replies others chosen [] []
  more_sites : {site moved : Site} {sites lowered : List Site} → StandsFor c core marked replies others chosen site moved → StandFor c core marked replies others chosen sites lowered →
      StandFor c core marked replies others chosen (site ∷ sites) (moved ∷ lowered)

-- the sites of a node and those of the core's node stand for each other, in text order
pub record KeepsSites (c : ClockedProgram) (core : Core) (marked : Marks) (replies others : Replies) (k : ℕ) (node : Node) (low : CoreNode) : Type 0 where
  pub there : (sites : List Site) → Sites (of_program c.program (clock_in c.clocks) marked replies) (Written k node) sites →
      (lowered : List Site) × Sites (of_core core marked others) (Lowered low) lowered × StandFor c core marked replies others (Written k node) sites lowered
  pub back : (lowered : List Site) → Sites (of_core core marked others) (Lowered low) lowered →
      (sites : List Site) × Sites (of_program c.program (clock_in c.clocks) marked replies) (Written k node) sites × StandFor c core marked replies others (Written k node) sites lowered

abbrev pub LoweringKeepsSites : Type 0
LoweringKeepsSites = (c : ClockedProgram) (core : Core) (marked : Marks) (replies others : Replies) (k : ℕ) (node : Node) (low : CoreNode) →
    IsInRange c.program → IsAcceptedProgram c → LowersProgram c core → slice_get c.program.nodes k ≡ Some node → slice_get core.nodes k ≡ Some low →
    Agree c.program.nodes (Written k node) replies others → KeepsSites c core marked replies others k node low

-- ---- replies

-- the sites are found without replies, and stand for each other under any that agree
abbrev pub LoweredSitesStand : Type 0
LoweredSitesStand = (c : ClockedProgram) (core : Core) (marked : Marks) (replies others : Replies) (k : ℕ) (node : Node) (low : CoreNode) (sites lowered : List Site) →
    IsInRange c.program → IsAcceptedProgram c → LowersProgram c core → slice_get c.program.nodes k ≡ Some node → slice_get core.nodes k ≡ Some low →
    Sites (without_replies c marked) (Written k node) sites → Sites (of_core core marked no_replies) (Lowered low) lowered →
    Agree c.program.nodes (Written k node) replies others → StandFor c core marked replies others (Written k node) sites lowered

-- whatever is replied to the calls of a core, there are replies to the program's calls that agree, if no two calls of a node's text have one place
abbrev pub CoreRepliesAgree : Type 0
CoreRepliesAgree = (c : ClockedProgram) (core : Core) (k : ℕ) (node : Node) (others : Replies) →
    IsInRange c.program → IsAcceptedProgram c → LowersProgram c core → HasPlacesOnce c.program → slice_get c.program.nodes k ≡ Some node →
    (replies : Replies) × Agree c.program.nodes (Written k node) replies others

-- and the other way round
abbrev pub ProgramRepliesAgree : Type 0
ProgramRepliesAgree = (nodes : List Node) (text : Text) (replies : Replies) → (others : Replies) × Agree nodes text replies others

-- replies that are listed by the sites of a node agree with those listed by the sites of the core's node
abbrev pub SiteRepliesAgree : Type 0
SiteRepliesAgree = (c : ClockedProgram) (core : Core) (marked : Marks) (k : ℕ) (node : Node) (low : CoreNode) (sites lowered : List Site) (lists : List (List (List ℕ))) →
    IsInRange c.program → IsAcceptedProgram c → LowersProgram c core → HasPlacesOnce c.program → slice_get c.program.nodes k ≡ Some node → slice_get core.nodes k ≡ Some low →
    Sites (without_replies c marked) (Written k node) sites → Sites (of_core core marked no_replies) (Lowered low) lowered →
    Agree c.program.nodes (Written k node) (by_site sites lists) (by_site lowered lists)

-- so the outputs of the program are those of the core under replies that are the own values of the program's sites
abbrev pub LoweringKeepsOwnReplied : Type 0
LoweringKeepsOwnReplied = (c : ClockedProgram) (core : Core) (marked : Marks) (k : ℕ) (node : Node) (low : CoreNode) (rows outs : List (List ℕ)) (sites lowered : List Site) (lists : List (List (List ℕ))) →
    LowersProgram c core → slice_get core.nodes k ≡ Some low → IsOwnReplied c k node marked rows sites lists → Sites (of_core core marked no_replies) (Lowered low) lowered →
    Outputs (without_replies c marked) (Written k node) rows outs ↔ Outputs (with_replies (of_core core marked no_replies) lowered lists) (Lowered low) rows outs

-- and what a site is sent is what the core's site is sent under them
abbrev pub LoweringKeepsOwnSent : Type 0
LoweringKeepsOwnSent = (c : ClockedProgram) (core : Core) (marked : Marks) (k : ℕ) (node : Node) (low : CoreNode) (rows : List (List ℕ)) (sites lowered : List Site) (lists : List (List (List ℕ)))
    (i : ℕ) (site moved : Site) (calls : List (Bool × List ℕ)) →
    LowersProgram c core → slice_get core.nodes k ≡ Some low → IsOwnReplied c k node marked rows sites lists → Sites (of_core core marked no_replies) (Lowered low) lowered →
    slice_get sites i ≡ Some site → slice_get lowered i ≡ Some moved →
    Sent (without_replies c marked) rows site calls ↔ Sent (with_replies (of_core core marked no_replies) lowered lists) rows moved calls
