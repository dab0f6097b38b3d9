-- The nodes of flat cores in order can be built, with the nodes that they call.
use Rattle.std.proofs.Common.{◌≡◌, inl, inr, ℕ, true, false, List, [], ◌∷◌, ◌++◌, length, map, refl, sym, ap, subst, ◌∙◌, append_assoc, append-nil, Some}
use Rattle.std.specs.Prelude.{All, Contains}
use Rattle.std.proofs.lemmas.List.Elements.{All-nil, All-cons, All-head, All-tail}
use Rattle.hept_ast.specs.Texts.{Name, is_in, names}
use Rattle.hept_ast.specs.Scopes.{Clock, Scope}
use Rattle.hept_ast.specs.Causal.{reads}
use Rattle.hept_ast.specs.Faults.{called, calls_of}
use Rattle.hept_ast.specs.declared.tree.ClockStep.{ClockStep}
use Rattle.hept_ast.specs.declared.tree.Core.{Core}
use Rattle.hept_ast.specs.declared.tree.CoreEquation.{CoreEquation}
use Rattle.hept_ast.specs.declared.tree.CoreNode.{CoreNode}
use Rattle.hept_ast.specs.declared.tree.Expr.{Expr}
use Rattle.hept_ast.specs.declared.tree.Form.{out-Form}
use Rattle.hept_ast.specs.declared.tree.Form.TheOpen.{Form-F}
use Rattle.hept_ast.specs.declared.tree.Form.TheVariants as form
use Rattle.hept_ast.specs.Parts.{below}
use Rattle.hept_ast.proofs.CalledForms.{called-Call}
use Rattle.core_rules.specs.Cores.{as_node, core_decls, lefts_of}
use Rattle.core_rules.specs.WellFormed.{IsWellFormedNode}
use Rattle.core_naming.specs.Normal.{AreNormal}
use Rattle.core_facts.specs.Undefined.{Grades}
use Rattle.core_facts.specs.Static.{AreProper, StaticCore, StaticNode}
use Rattle.schedule.specs.Order.{AreInOrder, IsOrdered, IsOrderedNode}
use Rattle.call_depths.specs.Depths.{CallsAreBounded, EndsWithin, ends}
use Rattle.core_fitting.specs.Sound.{IsNamed, within}
use Rattle.core_fitting.proofs.NamesRead.{in_first, in_left, in_right}
use Rattle.flat_cores.specs.Flat.{IsFlatCore, IsFlatEquation}
use Rattle.flat_cores.proofs.ServedForms.{HasServedForm}
use Rattle.step_plans.specs.Plans.{Ground, IsBodyOf}
use Rattle.plan_equations.specs.Equations.{AreKnown, IsFound, IsGroundedEquation}
use Rattle.plan_equations.specs.Grounds.{HasBody}
use Rattle.plan_bodies.specs.Buildable.{AreBuildable, IsBuildable, IsBuildableAlone, IsCallOf, IsFoundByAll, IsKeepable, no_equation, one_call, one_more, variables_of}
use Rattle.buildable_cores.specs.Buildable.{FlatIsBuildable}
use Rattle.buildable_cores.proofs.Divisors.{form_by}
use Rattle.buildable_cores.proofs.Computing.{ReadsKnown, known_left, known_right}
use Rattle.buildable_cores.proofs.Standing.{Stands, all_standing, stands_first, stands_in}
use Rattle.buildable_cores.proofs.CallsIn.{calls_in, named_by, named_stands, named_text}
use Rattle.buildable_cores.proofs.CallRights.{IsCallForm, call_arguments, call_of, call_or_not, inputs_length, one_variable}
use Rattle.buildable_cores.proofs.Grounding.{body_of, merges_grounded, proper_clock, steps_tested}
use Rattle.buildable_cores.proofs.GroundedRights.{grounded_right}
use Rattle.buildable_cores.proofs.RightSides.{is_sync_call, keepable, right}
use Rattle.buildable_cores.proofs.Places.{all_names, at_place, found_by, found_by_all, input_at, input_or_left, left_among, left_is_no_input, lefts, lefts_append, output_is_left}
use Rattle.buildable_cores.proofs.Ordering.{reads_before}
use Rattle.buildable_cores.proofs.NodeFacts.{IsReadyEquation, ready_equations}

-- ---- a node without what it calls

module _ (core : Core) (node : CoreNode) (name : Name) (g : Grades) (wf : IsWellFormedNode core node) (order : AreInOrder node.equations) where
  abbrev Ready : CoreEquation → Type 0
  Ready = IsReadyEquation core node name g

  abbrev before : List CoreEquation → List Name
  before front = names node.inputs ++ lefts front

  left_more : (front : List CoreEquation) (e : CoreEquation) → before front ++ e.left ≡ before (front ++ e ∷ [])
  left_more front e =
      append_assoc (names node.inputs) (lefts front) e.left
      ∙ ap (λ (l : List Name). names node.inputs ++ l) (ap (λ (l : List Name). lefts front ++ l) (sym (append-nil e.left)) ∙ sym (lefts_append front (e ∷ [])))

  steps_known : (known : List Name) (front steps : Clock) → AreProper node g front steps → ReadsKnown node known (map (λ s. s.name) steps) → AreKnown known steps
  steps_known known front [] h r = All-nil (λ (p : ClockStep). is_in p.name known ≡ true)
  steps_known known front (p ∷ steps) h r =
      All-cons (λ (p : ClockStep). is_in p.name known ≡ true) p steps (r p.name (in_first p.name (map (λ s. s.name) steps)) h.0.0)
      (steps_known known (front ++ p ∷ []) steps h.1 (known_right node known (p.name ∷ []) (map (λ s. s.name) steps) r))

  module _ (front : List CoreEquation) (e : CoreEquation) (rest : List CoreEquation) (all : node.equations ≡ front ++ e ∷ rest) (r : Ready e) where
    found : (x : Name) → e.left ≡ x ∷ [] → IsFound node e x
    found x left =
        let i : is_in x e.left ≡ true = ap (is_in x) left ∙ in_first x [] in
        record { left = left; found = found_by core node wf x front e rest all i; input = left_is_no_input core node wf x (left_among core node wf x front e rest all i); resets = r.flat.resets }

    found_all : IsFoundByAll node e
    found_all = record { found = found_by_all core node wf front e rest all; resets = r.flat.resets }

    all_known : ReadsKnown node (before front) (reads e.right.form ++ map (λ s. s.name) e.clock.steps)
    all_known = known_left node (before front) (reads e.right.form ++ map (λ s. s.name) e.clock.steps) e.resets (reads_before core node wf order front e rest all)

    right_known : ReadsKnown node (before front) (reads e.right.form)
    right_known = known_left node (before front) (reads e.right.form) (map (λ s. s.name) e.clock.steps) all_known

    clock_known : AreKnown (before front) e.clock.steps
    clock_known = steps_known (before front) [] e.clock.steps r.proper (known_right node (before front) (reads e.right.form) (map (λ s. s.name) e.clock.steps) all_known)

    by_one : is_sync_call (out-Form e.right.form) ≡ false → AreBuildable core node (before front ++ e.left) rest → AreBuildable core node (before front) (e ∷ rest)
    by_one other later =
        let x = one_variable core (within name node g) e other (All-head HasServedForm e.right (below e.right.form) r.flat.forms) r.sides in
        one_more x.0 (found x.0 x.1) clock_known (right core node g (before front) e.right e.clock.steps r.types r.sound other r.flat.forms r.branches r.normal right_known)
        (subst (λ (l : List Name). AreBuildable core node (before front ++ l) rest) x.1 later)

    by_call : IsCallForm (out-Form e.right.form) → AreBuildable core node (before front ++ e.left) rest → AreBuildable core node (before front) (e ∷ rest)
    by_call is later =
        let k = within name node g in
        let call = call_of core k e is.name is.args is.form r.sides in
        one_call is.args call.callee
        (record { name = is.name; form = form_by e.right.form (Form-F.Call is.name is.args) _ is.form (form.rolls-Call is.name is.args); named = named_text core is.name call.callee call.named })
        clock_known
        (record {
          found = found_all;
          arguments = call_arguments core k e (before front) is.name is.args is.form call r.flat.forms r.normal right_known;
          inputs = inputs_length core k e is.name is.args call;
          outputs = call.outputs;
        })
        later

    one_buildable : AreBuildable core node (before front ++ e.left) rest → AreBuildable core node (before front) (e ∷ rest)
    one_buildable later = elim (call_or_not (out-Form e.right.form)) [ inl is ↦ by_call is later | inr other ↦ by_one other later ]

  all_buildable : (front rest : List CoreEquation) → node.equations ≡ front ++ rest → All Ready rest → AreBuildable core node (before front) rest
  all_buildable front [] all ready = no_equation
  all_buildable front (e ∷ rest) all ready =
      let later = all_buildable (front ++ e ∷ []) rest (all ∙ sym (append_assoc front (e ∷ []) rest)) (All-tail Ready e rest ready) in
      one_buildable front e rest all (All-head Ready e rest ready) (subst (λ (l : List Name). AreBuildable core node l rest) (sym (left_more front e)) later)

  declared_variable : (y : Name) → is_in y (names (core_decls node)) ≡ true → is_in y (variables_of node) ≡ true
  declared_variable y h = elim (input_or_left core node wf y h) [ inl i ↦ in_left y (names node.inputs) (lefts_of node) i | inr i ↦ in_right y (names node.inputs) (lefts_of node) i ]

  all_keepable : (es : List CoreEquation) → All Ready es → All (λ e. IsKeepable core.types (variables_of node) e.right) es
  all_keepable [] ready = All-nil (λ (e : CoreEquation). IsKeepable core.types (variables_of node) e.right)
  all_keepable (e ∷ es) ready =
      let r = All-head Ready e es ready in
      All-cons (λ (e : CoreEquation). IsKeepable core.types (variables_of node) e.right) e es
      (keepable core node g (variables_of node) e.right e.clock.steps r.types r.sound r.flat.forms r.normal declared_variable) (all_keepable es (All-tail Ready e es ready))

  grounded_equation : (q : Ground) (b : Scope) → IsBodyOf b node → HasBody q (body_of node b) → (e : CoreEquation) → Stands node.equations e → Ready e → IsGroundedEquation q node b e
  grounded_equation q b body has e at r = record {
    clock = proper_clock q node b g e.clock.steps r.proper (steps_tested q node b has e at);
    right = grounded_right core node g q b body e.right e.clock.steps r.types r.sound r.flat.forms r.branches r.normal (merges_grounded q node b has e at r.flat.resets);
  }

  pub node_alone : All Ready node.equations → IsBuildableAlone core node
  node_alone ready = record {
    places = input_at core node wf;
    equations = subst (λ (l : List Name). AreBuildable core node l node.equations) (append-nil (names node.inputs)) (all_buildable [] node.equations refl ready);
    kept = all_keepable node.equations ready;
    outputs = all_names (λ x. is_in x (variables_of node) ≡ true) (names node.outputs) (λ x i. in_right x (names node.inputs) (lefts_of node) (output_is_left core node wf x i));
    grounded = λ q b body has. all_standing (IsGroundedEquation q node b) node.equations (λ e s. grounded_equation q b body has e s (at_place Ready node.equations s.place e ready s.at));
  }

-- ---- the nodes of a core

module _ (core : Core) (flat : IsFlatCore core) (ordered : IsOrdered core) (st : StaticCore core) where
  alone : (f : Name) (node : CoreNode) → IsNamed core f node → IsBuildableAlone core node
  alone f node named =
      let k = named_stands f core.nodes node named in
      let wf = at_place (IsWellFormedNode core) core.nodes k.place node ordered.well_formed k.at in
      let s = at_place (λ (n : CoreNode). (g : Grades) × StaticNode core n g) core.nodes k.place node st.nodes k.at in
      let normal = at_place (λ (n : CoreNode). AreNormal n.equations) core.nodes k.place node ordered.normal k.at in
      let flats = at_place (λ (n : CoreNode). All IsFlatEquation n.equations) core.nodes k.place node flat k.at in
      node_alone core node f s.0 wf (at_place IsOrderedNode core.nodes k.place node ordered.order k.at) (ready_equations core node s.0 f named wf s.1 normal flats)

  calls_it : (node : CoreNode) (e : CoreEquation) (args : List Expr) (callee : CoreNode) → Contains node.equations e → (call : IsCallOf core e args callee) → is_in call.name (calls_of (Some (as_node node))) ≡ true
  calls_it node e args callee stands call =
      let there : is_in call.name (called e.right.form) ≡ true = ap (is_in call.name) (ap called call.form ∙ called-Call call.name args) ∙ in_first call.name [] in
      calls_in node e e.right call.name (stands_in node.equations e stands) (stands_first e.right (below e.right.form)) there

  to_depth : (depth : ℕ) (f : Name) (node : CoreNode) → IsNamed core f node → EndsWithin core depth node → IsBuildable core depth node
  unfolding IsBuildable
  to_depth _ f node named (ends {depth = depth} next) =
      (alone f node named, λ e args callee stands call. to_depth depth call.name callee (named_by core call.name callee call.named) (next call.name callee (calls_it node e args callee stands call) call.named))

pub flat_is_buildable : CallsAreBounded → FlatIsBuildable
flat_is_buildable bounded core f node flat ordered st named = to_depth core flat ordered st (length core.nodes) f node named (bounded core ordered.well_formed f node (named_text core f node named))
