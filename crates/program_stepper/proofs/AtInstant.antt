-- One instant of a stepper that stands for rows of a program.
use Rattle.std.proofs.Common.{◌≡◌, ℕ, ◌+◌, Bool, false, List, [], ◌∷◌, ◌++◌, length, map, Option, Some, None, sym, ap, ◌∙◌, subst, arith}
use Rattle.std.specs.Prelude.{IsSomeAnd}
use Rattle.std.proofs.lemmas.List.{length-map}
use Rattle.hept_ast.specs.Scopes.{Text, Written, Lowered}
use Rattle.hept_ast.specs.Outputs.{HaveValues, output_questions}
use Rattle.hept_ast.specs.Settings.{no_marks, no_replies, of_core}
use Rattle.hept_ast.specs.Stages.{ClockedProgram}
use Rattle.hept_ast.specs.TypedValues.{RowFits, RowsFit}
use Rattle.hept_ast.specs.declared.tree.Decl.{Decl}
use Rattle.hept_ast.specs.declared.tree.TypeDec.{TypeDec}
use Rattle.accepted_meaning.specs.Laws.{AcceptedHasOutputs}
use Rattle.accepted_meaning.specs.Placing.{RepliesFit}
use Rattle.lowering_rules.specs.Lowering.{without_initial}
use Rattle.node_memory.specs.Standing.{IsOneCallMore, StandsAfter, no_calls}
use Rattle.node_memory.specs.Memories.{MakesCall, state_of}
use Rattle.node_memory.specs.declared.memory.NodeMemory.{NodeMemory}
use Rattle.plan_equations.specs.Grounds.{ground_of}
use Rattle.step_plans.specs.Memories.{IsReady, Suits, rows_of}
use Rattle.step_plans.specs.Plans.{Ground}
use Rattle.step_cells.specs.declared.cell.Cell.{Cell}
use Rattle.step_cells.specs.Cells.{cells_of, row_of}
use Rattle.step_objects.specs.Shapes.{FitsShape, shape_of}
use Rattle.step_objects.specs.Interfaces.{input_shape, inputs_shape, output_shape, outputs_shape}
use Rattle.program_stepper.specs.Stepping.{GivesLast, Stands, input_count, output_count, setting, unmarked}
use Rattle.program_stepper.specs.declared.stepper.Stepper.{Stepper}
use Rattle.program_stepper.proofs.Calls.{count_unmarked, in_core, one_unmarked, rows_unmarked, suits_none}
use Rattle.program_stepper.proofs.RowByRow.{LastOf, last_of}
use Rattle.program_stepper.proofs.RowShapes.{cells_fit, row_fits, shape_length}

-- ---- interfaces

as_many : (xs ys : List Decl) → xs ≡ map without_initial ys → length xs ≡ length ys
as_many xs ys e = ap (λ (ds : List Decl). length ds) e ∙ length-map ys without_initial

module _ (c : ClockedProgram) (rows : List (List ℕ)) (s : Stepper) (h : Stands c rows s) where
  pub inputs_are : input_shape c.program ≡ shape_of c.program.types h.node.inputs
  inputs_are = ap (inputs_shape c.program.types) h.main

  pub outputs_are : output_shape c.program ≡ shape_of c.program.types h.node.outputs
  outputs_are = ap (outputs_shape c.program.types) h.main

  -- rows have as many values as the plan
  pub input_count_is : length (input_shape c.program) ≡ input_count s
  input_count_is = shape_length c.program.types h.node.inputs (input_shape c.program) inputs_are ∙ sym (as_many h.planned.means.low.inputs h.node.inputs h.planned.means.takes) ∙ sym h.planned.is_plan.inputs

  pub output_count_is : length (output_shape c.program) ≡ output_count s
  output_count_is = shape_length c.program.types h.node.outputs (output_shape c.program) outputs_are ∙ sym (as_many h.planned.means.low.outputs h.node.outputs h.planned.means.gives) ∙ sym h.planned.is_plan.as_many

-- ---- one row more

more_fit : (types : List TypeDec) (ds : List Decl) (rows : List (List ℕ)) (row : List ℕ) → RowsFit types ds rows → RowFits types ds row → RowsFit types ds (rows ++ row ∷ [])
more_fit types ds [] row h g = (g, tt)
more_fit types ds (r ∷ rows) row h g = (h.0, more_fit types ds rows row h.1 g)

none_some : (outs : List ℕ) → None ≡ Some outs → ⊥
none_some outs e = cc

in_main : (c : ClockedProgram) (rows : List (List ℕ)) (row out : List ℕ) (main : Option Text) (text : Text) → main ≡ Some text → HaveValues (setting c) (rows ++ row ∷ []) (output_questions text (length rows)) out →
    IsSomeAnd main (λ text. HaveValues (setting c) (rows ++ row ∷ []) (output_questions text (length rows)) out)
in_main c rows row out main text e h = subst (λ (m : Option Text). IsSomeAnd m (λ text. HaveValues (setting c) (rows ++ row ∷ []) (output_questions text (length rows)) out)) (sym e) h

module _ (has : AcceptedHasOutputs) (c : ClockedProgram) (rows : List (List ℕ)) (s : Stepper) (h : Stands c rows s) (cells : List Cell) (fits : FitsShape (input_shape c.program) cells)
    (out : List ℕ) (new : NodeMemory) (makes : MakesCall s.plan cells out s.memory new) where
  abbrev row : List ℕ
  row = row_of cells

  abbrev g : Ground
  g = ground_of h.planned.core h.planned.means.low

  pub rows_fit : RowsFit c.program.types h.node.inputs (rows ++ row ∷ [])
  rows_fit = more_fit c.program.types h.node.inputs rows row h.fits (row_fits c.program.types h.node.inputs cells (subst (λ shape. FitsShape shape cells) (inputs_are c rows s h) fits))

  no_replies_fit : RepliesFit c (setting c) (Written h.number h.node) no_replies
  no_replies_fit = record { fit = λ s e clock ts args n m number caller callee g outs placed text sound_node sound call reply. absurd (none_some outs reply) }

  -- what the program's node and the core's give at the last row
  last : LastOf (setting c) (of_core h.planned.core no_marks no_replies) (rows ++ row ∷ []) (Written h.number h.node) (Lowered h.planned.means.low) (length rows) c.program.types h.node.outputs
  last =
      let (outs, is, outs_fit) = has c h.number h.node no_marks no_replies (rows ++ row ∷ []) h.range h.accepted h.at no_replies_fit rows_fit in
      last_of (setting c) (of_core h.planned.core no_marks no_replies) (rows ++ row ∷ []) (Written h.number h.node) (Lowered h.planned.means.low) c.program.types h.node.outputs row rows 0 (length rows) outs
      (omega arith) is ((h.planned.means.outputs no_marks (rows ++ row ∷ []) outs).0 is) outs_fit

  more : IsOneCallMore h.planned.core g [] h.planned.means.low no_calls (unmarked rows) (false, row) out (state_of new)
  more = makes h.planned.core g h.planned.means.low (unmarked rows) false h.planned.is_plan (in_core h.planned.core h.planned.means.low) h.memory
      (subst (λ (calls : List (Bool × List ℕ)). IsReady h.planned.core g [] no_calls calls) (sym (one_unmarked rows row)) (h.planned.ready (rows ++ row ∷ []) rows_fit))

  suits : Suits h.planned.core g [] no_calls (unmarked rows ++ (false, row) ∷ []) no_marks no_replies
  suits = subst (λ (calls : List (Bool × List ℕ)). Suits h.planned.core g [] no_calls calls no_marks no_replies) (sym (one_unmarked rows row)) (suits_none h.planned.core h.planned.means.low (rows ++ row ∷ []))

  rows_are : rows_of (unmarked rows ++ (false, row) ∷ []) ≡ rows ++ row ∷ []
  rows_are = ap rows_of (one_unmarked rows row) ∙ rows_unmarked (rows ++ row ∷ [])

  out_is : out ≡ last.out
  out_is = more.outputs.values no_marks no_replies last.out suits
      (subst (λ (rs : List (List ℕ)). HaveValues (of_core h.planned.core no_marks no_replies) rs (output_questions (Lowered h.planned.means.low) (length (unmarked rows))) last.out) (sym rows_are)
      (subst (λ (n : ℕ). HaveValues (of_core h.planned.core no_marks no_replies) (rows ++ row ∷ []) (output_questions (Lowered h.planned.means.low) n) last.out) (sym (count_unmarked rows)) last.second))

  pub gives_last : GivesLast c rows row out
  gives_last = in_main c rows row out _ (Written h.number h.node) h.main
      (subst (λ (vs : List ℕ). HaveValues (setting c) (rows ++ row ∷ []) (output_questions (Written h.number h.node) (length rows)) vs) (sym out_is) last.first)

  pub stands_after : StandsAfter h.planned.core g [] no_calls (unmarked (rows ++ row ∷ [])) false (state_of new)
  stands_after = subst (λ (calls : List (Bool × List ℕ)). StandsAfter h.planned.core g [] no_calls calls false (state_of new)) (one_unmarked rows row) more.stands

  -- the outputs are values of their types
  pub outputs_fit : (cells : List Cell) → cells ≡ cells_of out → FitsShape (output_shape c.program) cells
  outputs_fit cells e =
      subst (λ (cs : List Cell). FitsShape (output_shape c.program) cs) (sym e)
      (subst (λ shape. FitsShape shape (cells_of out)) (sym (outputs_are c rows s h)) (cells_fit c.program.types h.node.outputs out (subst (RowFits c.program.types h.node.outputs) (sym out_is) last.fits)))
