-- The passes one after another keep the outputs.
use Rattle.std.proofs.Common.{◌≡◌, ◌↔◌, ℕ, zero, suc, List, map, Some, slice_get, refl, sym, ap, subst, ◌∙◌}
use Rattle.hept_ast.specs.Reordering.{Reordering}
use Rattle.hept_ast.specs.Settings.{no_replies}
use Rattle.hept_ast.specs.Stages.{ClockedProgram, IsAcceptedProgram}
use Rattle.hept_ast.specs.ClockMaps.{clock_in}
use Rattle.hept_ast.specs.Scopes.{Clock}
use Rattle.hept_ast.specs.Texts.{Name}
use Rattle.hept_ast.specs.declared.tree.Core.{Core}
use Rattle.hept_ast.specs.declared.tree.CoreNode.{CoreNode}
use Rattle.hept_ast.specs.declared.tree.Node.{Node}
use Rattle.accepted_meaning.specs.Ranges.{IsInRange}
use Rattle.accepted_meaning.proofs.StaticNodes.{accepted_is_sound}
use Rattle.flat_cores.specs.Flat.{IsFlatCore}
use Rattle.flat_cores.proofs.LoweredFlat.{lowering_is_flat}
use Rattle.flat_cores.proofs.NamedFlat.{naming_keeps_flat}
use Rattle.flat_cores.proofs.OrderedFlat.{order_keeps_flat}
use Rattle.lowering_facts.proofs.LoweredReads.{lowering_makes_no_cycle}
use Rattle.lowering_rules.specs.Lowering.{LowersNodes, LowersProgram, without_initial}
use Rattle.lowering_rules.specs.Lowering as lowering
use Rattle.lowering_rules.proofs.KeptOutputs.{lowering_keeps_outputs}
use Rattle.naming_rules.specs.Namings.{Namings}
use Rattle.naming_rules.specs.Normalised.{HaveNewLocals, IsNormalised}
use Rattle.naming_rules.specs.Normalised as normalised
use Rattle.schedule.specs.Kept.{KeepsMeaning}
use Rattle.sound_lowering.proofs.StaticLowered.{lowering_is_static}
use Rattle.sound_lowering.proofs.WellLowered.{lowering_is_well_formed}
use Rattle.sound_expressions.specs.Demands.{NamesDiffer}
use Rattle.core_making.specs.Made.{LowersWell, MeansNode, MeansProgram}
use Rattle.core_making.proofs.Names.{lowered_names}

-- ---- nodes at one position

abbrev IsFace : Node → CoreNode → Type 0
IsFace node low = (low.inputs ≡ map without_initial node.inputs) × (low.outputs ≡ map without_initial node.outputs)

lowered_at : (clock : ℕ → Name → Clock) (j k : ℕ) (nodes : List Node) (lows : List CoreNode) (node : Node) → LowersNodes clock j nodes lows → slice_get nodes k ≡ Some node →
    (low : CoreNode) × (slice_get lows k ≡ Some low) × IsFace node low
lowered_at clock j k _ _ node lowering.no_nodes e = cc
lowered_at clock j zero _ _ node (lowering.more_nodes {node = first} {low = low} h hs) e =
    let same : first ≡ node = cc in
    (low, refl, subst (λ (n : Node). IsFace n low) same (h.inputs, h.outputs))
lowered_at clock j (suc k) _ _ node (lowering.more_nodes {nodes = nodes} {lows = lows} h hs) e = lowered_at clock (suc j) k nodes lows node hs e

normal_at : (core : Core) (k : ℕ) (nodes others : List CoreNode) (node : CoreNode) → HaveNewLocals core nodes others → slice_get nodes k ≡ Some node →
    (moved : CoreNode) × (slice_get others k ≡ Some moved) × (moved.inputs ≡ node.inputs) × (moved.outputs ≡ node.outputs)
normal_at core k _ _ node normalised.no_nodes e = cc
normal_at core zero _ _ node (normalised.more_nodes {node = first} {other = other} h hs) e =
    let same : first ≡ node = cc in
    (other, refl, h.inputs ∙ ap (λ (n : CoreNode). n.inputs) same, h.outputs ∙ ap (λ (n : CoreNode). n.outputs) same)
normal_at core (suc k) _ _ node (normalised.more_nodes {nodes = nodes} {others = others} h hs) e = normal_at core k nodes others node hs e

-- ---- passes

both_ways : {A B C : Type 0} → (A ↔ B) → (B ↔ C) → A ↔ C
both_ways p q = (λ a. q.0 (p.0 a), λ c. p.1 (q.1 c))

pub lowers_well : (c : ClockedProgram) (core : Core) → IsInRange c.program → IsAcceptedProgram c → LowersProgram c core → LowersWell c core
lowers_well c core range accepted h = record {
  means = λ k node at.
      let (low, low_at, face) = lowered_at (clock_in c.clocks) 0 k c.program.nodes core.nodes node h.nodes at in
      record {
        low = low;
        at = low_at;
        takes = face.0;
        gives = face.1;
        outputs = λ marked rows outs. lowering_keeps_outputs c core marked k node low rows outs range accepted h at low_at;
      };
  well_formed = lowering_is_well_formed c core range accepted h;
  acyclic = lowering_makes_no_cycle c core range accepted h;
  static_facts = lowering_is_static c core range accepted h;
  flat = λ served. lowering_is_flat c core served h;
  types = h.types;
  names = subst NamesDiffer (sym (lowered_names h.nodes)) (accepted_is_sound c range accepted).nodes;
}

normal_means : (c : ClockedProgram) (core other : Core) → MeansProgram c core → IsNormalised core other → MeansProgram c other
normal_means c core other m n k node at =
    let p : MeansNode c core k node = m k node at in
    let (low, low_at, takes, gives) = normal_at core k core.nodes other.nodes p.low n.nodes p.at in
    record { low = low; at = low_at; takes = takes ∙ p.takes; gives = gives ∙ p.gives; outputs = λ marked rows outs. both_ways (p.outputs marked rows outs) (n.outputs marked no_replies k p.low low rows outs p.at low_at) }

ordered_means : (c : ClockedProgram) (core other : Core) → MeansProgram c core → KeepsMeaning core other → MeansProgram c other
ordered_means c core other m n k node at =
    let p : MeansNode c core k node = m k node at in
    let q = n.node k p.low p.at in
    record { low = q.0; at = q.1; takes = q.2.inputs ∙ p.takes; gives = q.2.outputs ∙ p.gives; outputs = λ marked rows outs. both_ways (p.outputs marked rows outs) (n.outputs marked no_replies k p.low q.0 rows outs p.at q.1) }

pub made_means : (c : ClockedProgram) (core normal made : Core) → MeansProgram c core → IsNormalised core normal → KeepsMeaning normal made → MeansProgram c made
made_means c core normal made m n o = ordered_means c normal made (normal_means c core normal m n) o

pub made_flat : (core normal made : Core) → Namings core normal → Reordering normal made → IsFlatCore core → IsFlatCore made
made_flat core normal made n r h = order_keeps_flat normal made r (naming_keeps_flat core normal n h)
