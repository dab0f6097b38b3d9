-- The laws of accepted programs.
use Rattle.std.specs.Prelude.{◌≡◌, ℕ, Bool, List, length, map, Contains, Some, slice_get}
use Rattle.hept_ast.specs.Scopes.{Written, input_decls, output_decls}
use Rattle.hept_ast.specs.Settings.{Marks, Replies, of_program}
use Rattle.hept_ast.specs.Outputs.{Outputs}
use Rattle.hept_ast.specs.Sites.{Site, Sites, Sent}
use Rattle.hept_ast.specs.Calls.{GivenOutputs, BodyGives}
use Rattle.hept_ast.specs.ClockMaps.{clock_in}
use Rattle.hept_ast.specs.Stages.{ClockedProgram, IsAcceptedProgram}
use Rattle.hept_ast.specs.declared.tree.Node.{Node}
use Rattle.hept_ast.specs.TypedValues.{RowsFit}
use Rattle.accepted_meaning.specs.Ranges.{IsInRange}
use Rattle.accepted_meaning.specs.SoundNodes.{SoundProgram}
use Rattle.accepted_meaning.specs.Placing.{RepliesFit}
use Rattle.accepted_meaning.specs.Running.{Run}
use Rattle.accepted_meaning.specs.Asked.{HasScopedClocks}

-- the nodes of an accepted program are sound, if its types have constructors and its numbers 32 bits, as in every program that a text spells
abbrev pub AcceptedIsSound : Type 0
AcceptedIsSound = (c : ClockedProgram) → IsInRange c.program → IsAcceptedProgram c → SoundProgram c

-- a chosen node of a program on rows, with restarts and replies
abbrev pub run_of : ClockedProgram → ℕ → Node → Marks → Replies → List (List ℕ) → Run
run_of c k node marked replies rows = record { program = c; number = k; node = node; marked = marked; replies = replies; rows = rows }

-- on rows that fit, each output of an accepted program is known at every instant, and is a value of its type
abbrev pub AcceptedHasOutputs : Type 0
AcceptedHasOutputs = (c : ClockedProgram) (k : ℕ) (node : Node) (marked : Marks) (replies : Replies) (rows : List (List ℕ)) → IsInRange c.program → IsAcceptedProgram c →
    slice_get c.program.nodes k ≡ Some node → RepliesFit c (of_program c.program (clock_in c.clocks) marked replies) (Written k node) replies →
    RowsFit c.program.types node.inputs rows →
    (outs : List (List ℕ)) × Outputs (of_program c.program (clock_in c.clocks) marked replies) (Written k node) rows outs × RowsFit c.program.types node.outputs outs

-- each site is sent calls whose arguments are values of the called node's inputs
abbrev pub AcceptedHasSent : Type 0
AcceptedHasSent = (c : ClockedProgram) (k : ℕ) (node : Node) (marked : Marks) (replies : Replies) (rows : List (List ℕ)) → IsInRange c.program → IsAcceptedProgram c →
    slice_get c.program.nodes k ≡ Some node → RepliesFit c (of_program c.program (clock_in c.clocks) marked replies) (Written k node) replies →
    RowsFit c.program.types node.inputs rows →
    (sites : List Site) (site : Site) → Sites (of_program c.program (clock_in c.clocks) marked replies) (Written k node) sites → Contains sites site →
    (calls : List (Bool × List ℕ)) × Sent (of_program c.program (clock_in c.clocks) marked replies) rows site calls × RowsFit c.program.types (input_decls site.text) (map (λ x. x.1) calls)

-- and on what a site is sent its node alone gives what the call's body gives, values of the outputs' types
abbrev pub AcceptedCallIsAlone : Type 0
AcceptedCallIsAlone = (c : ClockedProgram) (k : ℕ) (node : Node) (marked : Marks) (replies : Replies) (rows : List (List ℕ)) → IsInRange c.program → IsAcceptedProgram c →
    slice_get c.program.nodes k ≡ Some node → RepliesFit c (of_program c.program (clock_in c.clocks) marked replies) (Written k node) replies →
    RowsFit c.program.types node.inputs rows →
    (sites : List Site) (site : Site) (calls : List (Bool × List ℕ)) → Sites (of_program c.program (clock_in c.clocks) marked replies) (Written k node) sites → Contains sites site →
    Sent (of_program c.program (clock_in c.clocks) marked replies) rows site calls →
    (outs : List (List ℕ)) × BodyGives (of_program c.program (clock_in c.clocks) marked replies) rows site 0 (length rows) outs
    × GivenOutputs (of_program c.program (clock_in c.clocks) marked replies) site calls outs × RowsFit c.program.types (output_decls site.text) outs

-- each step of the clock of what is seen names a variable that is seen in the same block, up to bodies of resets, on the clock of the steps before it
abbrev pub ClocksAreReached : Type 0
ClocksAreReached = (r : Run) → HasScopedClocks r
