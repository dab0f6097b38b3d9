use Rattle.std.proofs.Common.{◌≡◌, ℕ, suc, ◌+◌, List, length, subst, sym, ◌∙◌, arith}
use Rattle.plan_expressions.specs.declared.draft.Draft.{Draft}
use Rattle.plan_bodies.specs.Expansions.{BuildsBodies, CountsCells}
use Rattle.plan_bodies.specs.declared.bodies.PlacedBody.{PlacedBody}
use Rattle.plan_nodes.specs.Built.{AddsAllCells}
use Rattle.plan_nodes.specs.Texts.{IsTextWithin}
use Rattle.plan_nodes.specs.declared.nodes.BuiltText.{BuiltText}
use Rattle.plan_nodes.proofs.Planned.{text_built, text_within}
use Rattle.plan_nodes.proofs.Starting.{AreInputRegisters}
use Rattle.plan_nodes.proofs.nodes.build_text.Goals as goal

-- what was made so far, over the ground of the node
module _ (c : goal.After-drop-bodies-inside-2) where
  abbrev text : BuiltText
  text = record { draft = c.add_stores.new.draft; cells = c.in_ok-cells.cells; outputs = c.in_ok-expansion.expansion.outputs }

  abbrev start : Draft
  start = record { actions = c.new.result; at = c.args.inputs + 1 }

  next : c.args.inputs + 1 ≡ suc (length c.args.node.now.inputs)
  next = omega (arith, c.requires.inputs)

  are : AreInputRegisters (length c.args.node.now.inputs) c.in_ok-registers.registers.items
  are = subst (λ (n : ℕ). AreInputRegisters n c.in_ok-registers.registers.items) c.requires.inputs c.in_ok-registers.ensures.numbers

  many : length c.in_ok-registers.registers.items ≡ length c.args.node.now.inputs
  many = c.in_ok-registers.ensures.as_many ∙ c.requires.inputs

  builds : BuildsBodies c.args.core.now (length c.args.core.now.nodes) c.args.node.now 0 0 c.in_ok-registers.registers.items start c.add_body.new.draft c.in_ok-expansion.expansion.bodies c.in_ok-expansion.expansion.outputs.items
  builds = subst (λ (n : ℕ). BuildsBodies c.args.core.now n c.args.node.now 0 0 c.in_ok-registers.registers.items start c.add_body.new.draft c.in_ok-expansion.expansion.bodies c.in_ok-expansion.expansion.outputs.items) c.len-depth.ensures c.in_ok-expansion.ensures.builds

  counts : CountsCells c.args.core.now (length c.args.core.now.nodes) c.args.node.now 0 c.in_ok-expansion.expansion.next
  counts = subst (λ (n : ℕ). CountsCells c.args.core.now n c.args.node.now 0 c.in_ok-expansion.expansion.next) c.len-depth.ensures c.in_ok-expansion.ensures.cells

  adds : AddsAllCells c.args.core.now.types c.in_ok-expansion.expansion.bodies c.add_body.new.draft c.add_stores.new.draft c.in_ok-cells.cells
  adds = subst (λ (ps : List PlacedBody). AddsAllCells c.args.core.now.types ps c.add_body.new.draft c.add_stores.new.draft c.in_ok-cells.cells) c.as_slice.ensures c.in_ok-cells.ensures

pub returns-clause-builds : goal.returns-clause-builds
returns-clause-builds c =
    text_built c.args.core.now c.args.node.now c.in_ok-registers.registers.items (start c) c.add_body.new.draft c.in_ok-expansion.expansion.bodies (text c) (are c) c.new.ensures.items (next c)
    c.requires.buildable (builds c) c.in_ok-expansion.ensures.whole c.in_ok-expansion.ensures.outputs (adds c)

pub returns-clause-within : goal.returns-clause-within
returns-clause-within c =
    subst (λ (n : ℕ). IsTextWithin n (text c)) (sym c.requires.inputs)
    (text_within c.args.core.now c.args.node.now c.in_ok-registers.registers.items (start c) c.add_body.new.draft c.in_ok-expansion.expansion.bodies c.in_ok-expansion.expansion.next (text c) (many c) (are c) c.new.ensures.items (next c)
    (counts c) c.in_ok-expansion.ensures.within (adds c) (returns-clause-builds c))
