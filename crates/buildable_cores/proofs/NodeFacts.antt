-- What holds of each equation of a flat core in order with the static facts.
use Rattle.std.proofs.Common.{◌≡◌, true, false, List, [], refl, subst, Some}
use Rattle.std.specs.Prelude.{All}
use Rattle.hept_ast.specs.Texts.{Name, is_in}
use Rattle.hept_ast.specs.Scopes.{Clock}
use Rattle.hept_ast.specs.Parts.{inside}
use Rattle.hept_ast.specs.Faults.{called, calls_of}
use Rattle.hept_ast.specs.declared.tree.Core.{Core}
use Rattle.hept_ast.specs.declared.tree.CoreEquation.{CoreEquation}
use Rattle.hept_ast.specs.declared.tree.CoreNode.{CoreNode}
use Rattle.hept_ast.specs.declared.tree.Ty.{Ty}
use Rattle.hept_ast.specs.declared.tree.Form.{out-Form}
use Rattle.core_rules.specs.Cores.{as_interface}
use Rattle.core_rules.specs.WellFormed.{IsClockedEquation, IsTypedEquation, IsWellFormedNode}
use Rattle.core_naming.specs.Normal.{AreNormal, IsNormalRight}
use Rattle.core_facts.specs.Undefined.{Grades, may}
use Rattle.core_facts.specs.Static.{AreProper, HasBranch, StaticEquation, StaticExpr, StaticNode}
use Rattle.sound_expressions.specs.Sound.{Sound}
use Rattle.sound_expressions.specs.Demands.{Demanded}
use Rattle.sound_expressions.proofs.Expressions.{expression_sound}
use Rattle.core_fitting.specs.Sound.{IsNamed, SoundRight, within}
use Rattle.core_fitting.proofs.Fitting.{contains_at}
use Rattle.core_fitting.proofs.StandIn.{program_within, stand_in}
use Rattle.core_fitting.proofs.StaticSound.{node_sound}
use Rattle.flat_cores.specs.Flat.{IsFlatEquation}
use Rattle.buildable_cores.proofs.CallsIn.{calls_in}
use Rattle.buildable_cores.proofs.Places.{all_names, at_place}
use Rattle.buildable_cores.proofs.Standing.{Stands, all_standing}

-- an equation, with the types of its right side, and its left side beside it
pub record IsReadyEquation (core : Core) (node : CoreNode) (name : Name) (g : Grades) (e : CoreEquation) : Type 0 where
  pub flat : IsFlatEquation e
  pub normal : IsNormalRight e.right
  pub types : List Ty
  pub sound : Sound (program_within core node (may g)) [] e.right e.clock.steps types
  pub branches : All (λ a. HasBranch (out-Form a.form)) (inside e.right)
  pub proper : AreProper node g [] e.clock.steps
  pub sides : SoundRight core (within name node g) e

module _ (core : Core) (node : CoreNode) (g : Grades) where
  right_sound : (e : CoreEquation) → Stands node.equations e → StaticEquation core node g e → IsTypedEquation core node e → IsClockedEquation node e →
      (ts : List Ty) × Sound (program_within core node (may g)) [] e.right e.clock.steps ts
  right_sound e at se te ce =
      let o = expression_sound (program_within core node (may g)) [] false (as_interface node) refl ce.numbers e.right false 0 te.faults ce.meets demanded in
      (o.0, subst (λ (c : Clock). Sound (program_within core node (may g)) [] e.right c o.0) ce.right o.2)
    where
      demanded : All (Demanded (program_within core node (may g)) []) (inside e.right)
      demanded = all_standing (Demanded (program_within core node (may g)) []) (inside e.right) (λ x j. let s = at_place (StaticExpr core g e.resets) (inside e.right) j.place x se.right j.at in record {
        met = s.demands;
        made = all_names (λ (f : Name). is_in f (calls_of (Some (stand_in node))) ≡ true) (called x.form) (λ f i. calls_in node e x f at j i);
        number = s.number;
        plain = s.plain;
        merged = λ y d none is tagged f. subst HasBranch none s.branch;
      })

  branches : (e : CoreEquation) → StaticEquation core node g e → All (λ a. HasBranch (out-Form a.form)) (inside e.right)
  branches e se = all_standing (λ a. HasBranch (out-Form a.form)) (inside e.right) (λ x j. (at_place (StaticExpr core g e.resets) (inside e.right) j.place x se.right j.at).branch)

  pub ready_equations : (name : Name) → IsNamed core name node → IsWellFormedNode core node → StaticNode core node g → AreNormal node.equations → All IsFlatEquation node.equations → All (IsReadyEquation core node name g) node.equations
  ready_equations name named wf st normal flat = all_standing (IsReadyEquation core node name g) node.equations (λ e i.
      let se = at_place (StaticEquation core node g) node.equations i.place e st.equations i.at in
      let s = right_sound e i se (at_place (IsTypedEquation core node) node.equations i.place e wf.typed i.at) (at_place (IsClockedEquation node) node.equations i.place e wf.clocked i.at) in
      record {
        flat = at_place IsFlatEquation node.equations i.place e flat i.at;
        normal = at_place (λ (d : CoreEquation). IsNormalRight d.right) node.equations i.place e normal i.at;
        types = s.0;
        sound = s.1;
        branches = branches e se;
        proper = se.clock;
        sides = ((node_sound core node wf name named g st).equations e (contains_at node.equations i.place e i.at)).right;
      })
