-- What is made for the node that is run, before the first row.
use Rattle.std.proofs.Common.{◌≡◌, ℕ, ◌-◌, ◌<◌, ◌^◌, true, List, [], length, All, sym, ap, ◌∙◌, subst}
use Rattle.std.specs.Prelude.{get_or}
use Rattle.std.specs.List.{list_all}
use Rattle.std.proofs.lemmas.Option.{get_or_from_slice_get}
use Rattle.hept_ast.specs.Faults.{IsTyped}
use Rattle.hept_ast.specs.Limits.{all_faults}
use Rattle.hept_ast.specs.Stages.{ClockedProgram}
use Rattle.hept_ast.specs.declared.tree.Decl.{Decl}
use Rattle.hept_ast.specs.declared.tree.Node.{Node}
use Rattle.hept_ast.specs.declared.tree.Program.{Program}
use Rattle.served_programs.specs.Served.{IsServed}
use Rattle.step_objects.specs.Interfaces.{input_shape, output_shape}
use Rattle.step_objects.specs.Shapes.{HasFewConstructors, is_declared_plain, shape_of}
use Rattle.step_objects.specs.declared.shape.Values.{Values}
use Rattle.program_stepper.specs.Stepping.{Stands}
use Rattle.program_stepper.specs.declared.stepper.Stepper.{Stepper}
use Rattle.program_stepper.proofs.AtInstant.{inputs_are, outputs_are}
use Rattle.program_stepper.proofs.Interfaces.{last_is, plain_inputs, plain_outputs}
use Rattle.program_stepper.proofs.RowShapes.{shape_length}
use Rattle.run_checks.proofs.FewNodes.{few_constructors, few_inputs}

-- the last of the nodes that were read from an accepted program
module _ (c : ClockedProgram) (s : Stepper) (h : Stands c [] s) (seen : Program) (same : seen ≡ c.program) (n : ℕ) (count : n ≡ length seen.nodes) (nodes : List Node) (read : nodes ≡ seen.nodes) (node : Node)
    (is : node ≡ get_or nodes (n - 1) node) where
  node_is : node ≡ h.node
  node_is =
      let here : n - 1 ≡ length c.program.nodes - 1 = ap (λ (k : ℕ). k - 1) (count ∙ ap (λ (p : Program). length p.nodes) same) in
      is ∙ ap (λ (ns : List Node). get_or ns (n - 1) node) (read ∙ ap (λ (p : Program). p.nodes) same)
      ∙ get_or_from_slice_get c.program.nodes (n - 1) h.node node (last_is c.program h.number h.node (n - 1) h.main here)

  -- the shapes of its rows
  pub input_shape_is : (ds : List Decl) (shape : List Values) → ds ≡ node.inputs → shape ≡ shape_of seen.types ds → shape ≡ input_shape c.program
  input_shape_is ds shape taken e =
      e ∙ ap (shape_of seen.types) (taken ∙ ap (λ (m : Node). m.inputs) node_is) ∙ ap (λ (p : Program). shape_of p.types h.node.inputs) same ∙ sym (inputs_are c [] s h)

  pub output_shape_is : (ds : List Decl) (shape : List Values) → ds ≡ node.outputs → shape ≡ shape_of seen.types ds → shape ≡ output_shape c.program
  output_shape_is ds shape taken e =
      e ∙ ap (shape_of seen.types) (taken ∙ ap (λ (m : Node). m.outputs) node_is) ∙ ap (λ (p : Program). shape_of p.types h.node.outputs) same ∙ sym (outputs_are c [] s h)

  -- its declarations are of plain types
  pub inputs_plain : (ds : List Decl) → IsTyped c.program → IsServed c.program → ds ≡ node.inputs → list_all (is_declared_plain seen.types) ds ≡ true
  inputs_plain ds typed served taken =
      ap (list_all (is_declared_plain seen.types)) (taken ∙ ap (λ (m : Node). m.inputs) node_is)
      ∙ ap (λ (p : Program). list_all (is_declared_plain p.types) h.node.inputs) same
      ∙ plain_inputs c.program h.number h.node typed served h.at

  pub outputs_plain : (ds : List Decl) → IsTyped c.program → IsServed c.program → ds ≡ node.outputs → list_all (is_declared_plain seen.types) ds ≡ true
  outputs_plain ds typed served taken =
      ap (list_all (is_declared_plain seen.types)) (taken ∙ ap (λ (m : Node). m.outputs) node_is)
      ∙ ap (λ (p : Program). list_all (is_declared_plain p.types) h.node.outputs) same
      ∙ plain_outputs c.program h.number h.node typed served h.at

pub few_of_all : (p seen : Program) → seen ≡ p → all_faults p ≡ [] → All HasFewConstructors seen.types
few_of_all p seen same clean = subst (λ (q : Program). All HasFewConstructors q.types) (sym same) (few_constructors p clean)

-- a row has few values
pub few_values : (c : ClockedProgram) (s : Stepper) (h : Stands c [] s) (shape : List Values) → all_faults c.program ≡ [] → shape ≡ input_shape c.program → length shape < 2 ^ 32
few_values c s h shape clean e =
    subst (λ (k : ℕ). k < 2 ^ 32) (sym (shape_length c.program.types h.node.inputs shape (e ∙ inputs_are c [] s h))) (few_inputs c.program h.number h.node clean h.at)
