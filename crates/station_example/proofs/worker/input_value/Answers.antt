use Rattle.std.proofs.Common.{◌≡◌, ap, sym, ◌∙◌, List, get_or, arith}
use mathlib.Core.Option.{some}
use lib.ListN.{get_elem?}
use Rattle.step_cells.specs.declared.cell.Cell.{Cell}
use Rattle.step_cells.specs.declared.cell.Cell.TheVariants.{Value, Held}
use Rattle.station_rule.proofs.CellWords.{at_or}
use Rattle.station_example.proofs.worker.input_value.Goals as goal

pub future_value-requires-clause-handle : goal.future_value-requires-clause-handle
future_value-requires-clause-handle g c =
    let cells : List Cell = c.args.server.now.cells.items in
    let one = c.requires.input.0 in
    let here : get_elem? cells 0 ≡ some (Held c.in-Held.handle) = at_or cells 0 (Value 0) (omega arith) ∙ ap (λ (z : Cell). some z) (ap (λ (z : List Cell). get_or z 0 (Value 0)) (sym c.input.ensures) ∙ c.in-Held.is) in
    let ranged = c.requires.input.3 0 c.in-Held.handle here in
    (ap (λ (z : List Cell). get_elem? z 0) c.requires.input.1 ∙ here, ranged.0, ranged.1)

pub returns-in-Value-clause-value : goal.returns-in-Value-clause-value
returns-in-Value-clause-value g c =
    let cells : List Cell = c.args.server.now.cells.items in
    let one = c.requires.input.0 in
    sym (c.requires.input.2.plain 0 c.in-Value.value (at_or cells 0 (Value 0) (omega arith) ∙ ap (λ (z : Cell). some z) (ap (λ (z : List Cell). get_or z 0 (Value 0)) (sym c.input.ensures) ∙ c.in-Value.is)))

pub returns-in-Ready-clause-value : goal.returns-in-Ready-clause-value
returns-in-Ready-clause-value g c =
    let cells : List Cell = c.args.server.now.cells.items in
    let one = c.requires.input.0 in
    sym (c.requires.input.2.ready 0 c.in-Ready.value (at_or cells 0 (Value 0) (omega arith) ∙ ap (λ (z : Cell). some z) (ap (λ (z : List Cell). get_or z 0 (Value 0)) (sym c.input.ensures) ∙ c.in-Ready.is)))
