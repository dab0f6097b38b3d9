-- Rows of outputs are those of the erased program, and fit the outputs.
use Rattle.std.proofs.Common.{◌≡◌, ℕ, ◌≤◌, List, Option, Some, None, slice_get, get_or, length, take, refl, sym, subst, ◌∙◌}
use Rattle.std.specs.Option.{option_map}
use Rattle.std.proofs.lemmas.Option.{slice_get-map}
use Rattle.hept_ast.specs.Scopes.{Written}
use Rattle.hept_ast.specs.Settings.{no_marks, no_replies}
use Rattle.hept_ast.specs.ClockMaps.{clock_in}
use Rattle.hept_ast.specs.Outputs.{Outputs, OutputsFrom}
use Rattle.hept_ast.specs.Erasure.{erased, erased_node}
use Rattle.hept_ast.specs.Laws.{ErasedKeepsOutputs, OneOutputs}
use Rattle.hept_ast.specs.Stages.{ClockedProgram, IsAcceptedProgram}
use Rattle.hept_ast.specs.TypedValues.{RowsFit}
use Rattle.hept_ast.specs.declared.tree.Node.{Node}
use Rattle.accepted_meaning.specs.Laws.{AcceptedHasOutputs}
use Rattle.accepted_meaning.specs.Ranges.{IsInRange}
use Rattle.accepted_meaning.specs.Placing.{RepliesFit}
use Rattle.accepted_meaning.proofs.TextLists.{no_some}
use Rattle.answer_table.specs.Things.{setting_of}
use Rattle.erased_meaning.specs.ErasedRows.{setting_of_erased}
use Rattle.erased_meaning.proofs.RowsOf.{rows_end, same_node}

-- rows of outputs of the node at a position
abbrev pub AreOutputs : ClockedProgram → (top : ℕ) → (rows outs : List (List ℕ)) → Type 0
AreOutputs c top rows outs = (node : Node) → slice_get c.program.nodes top ≡ Some node → Outputs (setting_of c) (Written top node) rows outs

-- rows of outputs of a node are those of the node at its position
pub are_outputs : (c : ClockedProgram) (these : List Node) (top : ℕ) (rows outs : List (List ℕ)) (t : ℕ) (node : Node) →
    these ≡ c.program.nodes → node ≡ get_or these top node → length rows ≤ t → OutputsFrom (setting_of c) rows (Written top node) 0 (take t rows) outs → AreOutputs c top rows outs
are_outputs c these top rows outs t node are is all h other found =
    subst (λ (n : Node). Outputs (setting_of c) (Written top n) rows outs) (same_node c.program.nodes these top node other are is found)
    (rows_end (setting_of c) rows outs (Written top node) t all h)

of_erased : (o : Option Node) (n : Node) → option_map erased_node o ≡ Some n → (m : Node) × (o ≡ Some m) × (erased_node m ≡ n)
of_erased None n e = no_some e
of_erased (Some m) n e = (m, refl, cc)

pub erased_outputs : ErasedKeepsOutputs → (c : ClockedProgram) (top : ℕ) (rows outs : List (List ℕ)) → AreOutputs c top rows outs →
    (node : Node) → slice_get (erased c.program).nodes top ≡ Some node → Outputs (setting_of_erased c) (Written top node) rows outs
erased_outputs law c top rows outs are node found =
    let (written, at, is) = of_erased (slice_get c.program.nodes top) node (sym (slice_get-map erased_node c.program.nodes top) ∙ found) in
    subst (λ (n : Node). Outputs (setting_of_erased c) (Written top n) rows outs) is
    (law c.program (clock_in c.clocks) no_marks no_replies (Written top written) rows outs (are written at))

no_replies_fit : (c : ClockedProgram) (k : ℕ) (node : Node) → RepliesFit c (setting_of c) (Written k node) no_replies
no_replies_fit c k node = record { fit = λ s e clock ts args n m number caller callee g outs placed text sound_node sound call reply. no_some reply }

pub outputs_fit : OneOutputs → AcceptedHasOutputs → (c : ClockedProgram) (top : ℕ) (rows outs : List (List ℕ)) → IsAcceptedProgram c → AreOutputs c top rows outs →
    (node : Node) → slice_get c.program.nodes top ≡ Some node → IsInRange c.program → RowsFit c.program.types node.inputs rows → RowsFit c.program.types node.outputs outs
outputs_fit one has c top rows outs accepted are node found range fit =
    let (others, is, others_fit) = has c top node no_marks no_replies rows range accepted found (no_replies_fit c top node) fit in
    subst (λ (os : List (List ℕ)). RowsFit c.program.types node.outputs os) (one (setting_of c) (Written top node) rows others outs is (are node found)) others_fit
