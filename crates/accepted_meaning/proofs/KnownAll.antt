-- Whatever is asked at an instant with a row is known.
use Rattle.std.proofs.Common.{◌≡◌, ◌⊎◌, inl, inr, ℕ, zero, suc, ◌<◌, ◌≤◌, Bool, true, false, List, [], ◌∷◌, ◌++◌, Option, Some, None, length, refl, sym, ap, subst, arith, ◌∙◌}
use Rattle.std.specs.Prelude.{if◌then◌else◌, slice_get}
use Rattle.hept_ast.specs.Texts.{Name, is_in, names, place_in}
use Rattle.hept_ast.specs.Scopes.{Clock, Text, Written, Scope, Top, Called, In_branch, In_body, In_state, Under, inputs_of, input_decls, text_of}
use Rattle.hept_ast.specs.Parts.{Surroundings, declaration, seen_at}
use Rattle.hept_ast.specs.Clocks.{own_names}
use Rattle.hept_ast.specs.ClockMaps.{clock_in}
use Rattle.hept_ast.specs.Meaning.{Defined, Present, Active, Restarted, Active_state, Left_state, Is, Reads, State_at, answer_to, own_rule, taken, weak_of}
use Rattle.hept_ast.specs.declared.name.Place.{Place}
use Rattle.hept_ast.specs.declared.tree.Node.{Node}
use Rattle.hept_ast.specs.declared.tree.Expr.{Expr}
use Rattle.hept_ast.specs.declared.tree.Decl.{Decl}
use Rattle.hept_ast.specs.declared.tree.State.{State}
use Rattle.hept_ast.specs.declared.tree.Equation.{Equation, out-Equation}
use Rattle.hept_ast.specs.declared.tree.Equation.TheOpen.{Equation-F}
use Rattle.sound_expressions.specs.Sound.{Within, Sees}
use Rattle.accepted_meaning.specs.Placing.{at_top}
use Rattle.accepted_meaning.specs.Running.{Run, StandsIn, IsPlacedIn, IsSoundRun, setting_of, text_run, types_in}
use Rattle.accepted_meaning.specs.Structure.{IsEquationOf, IsCallIn}
use Rattle.accepted_meaning.specs.Asked.{AreReached, IsScoped, IsAsked}
use Rattle.accepted_meaning.proofs.KnownRules.{Known, Ends, known_by, says, reads, answers, states}
use Rattle.accepted_meaning.proofs.KnownTrees.{call_single}
use Rattle.accepted_meaning.proofs.KnownScopes.{IsOn, scoped_step, Texts, Fits, Here, IsAround, itself, around_branch, around_body, around_state, IsFrame, a_top, a_call, Everything, IsReady, StepsKnown, present_known, stands_in_state}
use Rattle.accepted_meaning.proofs.KnownForms.{gives, arguments, input_end}
use Rattle.accepted_meaning.proofs.KnownAround.{InFrame, surround, active_state_known, active_standing, condition_known, taken_end}
use Rattle.accepted_meaning.proofs.KnownVariables.{frames_known}

-- ---- one text, two views of its node

top_text : (r : Run) (text : Text) → IsPlacedIn r (Top text) → text ≡ text_run r
top_text r _ at_top = refl

node_in : Text → Node → Node
node_in (Written n node) other = node
node_in _ other = other

number_in : Text → ℕ
number_in (Written n node) = n
number_in _ = 0

sees_same : (k j : Within) (site : Surroundings) (x : Name) (d : Decl) (c : Clock) → k.node ≡ j.node → k.clock ≡ j.clock → Sees k site x d c → Sees j site x d c
sees_same k j site x d c e g h = record {
  declared = subst (λ (n : Node). declaration (seen_at n site) x ≡ Some d) e h.declared;
  here = subst (λ (q : Name → Clock). (if is_in x (own_names j.node site) then q x else []) ≡ c) g (subst (λ (n : Node). (if is_in x (own_names n site) then k.clock x else []) ≡ c) e h.here);
  outer = subst (λ (q : Name → Clock). (is_in x (own_names j.node site) ≡ true) ⊎ (q x ≡ [])) g (subst (λ (n : Node). (is_in x (own_names n site) ≡ true) ⊎ (k.clock x ≡ [])) e h.outer);
}

same_node : (r : Run) (k j : Within) (s : Scope) → StandsIn r k s → StandsIn r j s → k.node ≡ j.node
unfolding node_in
same_node r k j s h i = ap (λ (text : Text). node_in text k.node) (sym h.text ∙ i.text)

same_clock : (r : Run) (k j : Within) (s : Scope) → StandsIn r k s → StandsIn r j s → k.clock ≡ j.clock
unfolding number_in
same_clock r k j s h i =
    let number : h.number ≡ i.number = ap (λ (text : Text). number_in text) (sym h.text ∙ i.text) in
    ap (λ (z : Within). z.clock) h.of_node.is ∙ ap (λ (n : ℕ). clock_in r.program.clocks n) number ∙ sym (ap (λ (z : Within). z.clock) i.of_node.is)

any : Name → Type 0
any y = Unit {0}

steps_from : (r : Run) (k : Within) (s : Scope) (t : ℕ) → Here r k s t any → (before c : Clock) → IsScoped r k s before → AreReached r k s before c → IsOn r s t → StepsKnown r c s t
unfolding any
steps_from r k s t here before [] sb h o = tt
steps_from r k s t here before (step ∷ c) sb h o = (here.reached step.name before tt h.0 sb o, steps_from r k s t here (before ++ step ∷ []) c (scoped_step r k s before step sb h.0) h.1 o)

steps_of : (r : Run) (k : Within) (s : Scope) (t : ℕ) → Here r k s t any → (c : Clock) → IsScoped r k s c → IsOn r s t → StepsKnown r c s t
steps_of r k s t here c h o = steps_from r k s t here [] c tt h o

module _ (r : Run) (sound : IsSoundRun r) (texts : Texts r) (fits : Fits r) (t : ℕ) (within : t < length r.rows) (before : (p : ℕ) → p < t → Everything r p) where
  top_input : (k : Within) (text : Text) → StandsIn r k (Top text) → (x : Name) (d : Decl) (c : Clock) → is_in x (inputs_of text) ≡ true → Sees k [] x d c → Ends r (own_rule (setting_of r) (Top text) x t)
  top_input k text stands x d c i sees =
      let same : input_decls text ≡ k.node.inputs = ap input_decls stands.text in
      let chosen : input_decls text ≡ r.node.inputs = ap input_decls (top_text r text stands.placed) in
      let o = texts.input_of k stands.number x d c stands.of_node (subst (λ (ds : List Decl). is_in x (names ds) ≡ true) same i) sees in
      let v = texts.input_at (types_in r) r.node.inputs r.rows t (place_in x (inputs_of text)) d sound.rows_fit within
      (subst (λ (ds : List Decl). slice_get ds (place_in x (inputs_of text)) ≡ Some d) (sym same ∙ chosen) (subst (λ (ds : List Decl). slice_get k.node.inputs (place_in x (names ds)) ≡ Some d) (sym same) o.2)) in
      subst (λ (b : Bool). Ends r (if b then Reads t (place_in x (inputs_of text)) else answer_to (Defined x (Top text) t))) (sym i) (reads r t (place_in x (inputs_of text)) v.0 v.1)

  frame_of : (k : Within) (f : Scope) → IsFrame f → StandsIn r k f → IsAsked r f → Known r (Active f t) → Known r (Restarted f t) →
      ((x : Name) (d : Decl) (c : Clock) → is_in x (inputs_of (text_of f)) ≡ true → Sees k [] x d c → Ends r (own_rule (setting_of r) f x t)) → InFrame r k f t any
  frame_of k f frame stands asked active restarted inputs = record {
    frame = frame;
    stands = stands;
    asked = asked;
    before = before;
    active = active;
    restarted = restarted;
    variables = λ s x d c q i at sees sc. frames_known r texts fits t before k f frame stands asked active restarted inputs s x d c i at sees sc;
    called = λ callee calls. frames_known r texts fits t before callee;
  }

  -- a scope with the body that it is in
  record Placed_in (k : Within) (s : Scope) : Type 0 where
    frame : Scope
    around : IsAround frame s
    stands : StandsIn r k s
    known : InFrame r k frame t any

  here_of : (k : Within) (s : Scope) → Placed_in k s → Here r k s t any
  unfolding any
  here_of k s p = surround r texts fits k p.frame t any p.known s p.around p.stands (λ y i. tt)

  called_frame : (k caller callee : Within) (s : Scope) (c : Clock) (place : ℕ) (args : List Expr) (text : Text) (e : Expr) → Here r caller s t any → IsAsked r (Called s c place args text) → StandsIn r k (Called s c place args text) →
      IsCallIn r caller s e c args text callee → e.place.0 ≡ place → IsScoped r caller s c → Placed_in k (Called s c place args text)
  unfolding any
  called_frame k caller callee s c place args text e here asked stands call at sc =
      let f : Scope = Called s c place args text in
      let ready : IsReady r caller s t c = record { scoped = sc; steps = steps_of r caller s t here c sc } in
      record {
        frame = f;
        around = itself;
        stands = stands;
        known = frame_of k f a_call stands asked
            (known_by r (Active f t) (answers r (Present c s t) (present_known r c s t here.active ready.steps)))
            (known_by r (Restarted f t) (answers r (Restarted s t) (here.restarts s itself)))
            (λ x d own i sees. subst (λ (n : ℕ). Ends r (own_rule (setting_of r) (Called s c n args text) x t)) at
            (input_end r texts fits caller s t any here e c args text callee call
            (arguments r texts fits caller s t any here args c call.given call.arguments (λ y j. tt) ready (call_single callee.node call.given _ call.fits))
            x d own i (sees_same k callee [] x d own
            (same_node r k callee f stands (subst (λ (n : ℕ). StandsIn r callee (Called s c n args text)) at call.stands))
            (same_clock r k callee f stands (subst (λ (n : ℕ). StandsIn r callee (Called s c n args text)) at call.stands)) sees)));
      }

  placed_in : (s : Scope) (k : Within) → StandsIn r k s → IsAsked r s → Placed_in k s
  placed_in (Top text) k stands asked = record {
    frame = Top text;
    around = itself;
    stands = stands;
    known = frame_of k (Top text) a_top stands asked (known_by r (Active (Top text) t) (says r (Is true) tt)) (known_by r (Restarted (Top text) t) (says r (Is _) tt)) (top_input k text stands);
  }
  placed_in (Called s c place args text) k stands asked =
      called_frame k asked.0 asked.1 s c place args text asked.2 (here_of asked.0 s (placed_in s asked.0 asked.4 asked.3)) asked stands asked.5 asked.6 asked.7
  placed_in (In_branch s on b) k stands asked =
      let o = placed_in s k (texts.branch_outside k s on b stands).3.stands asked in record { frame = o.frame; around = around_branch o.around; stands = stands; known = o.known }
  placed_in (In_body s every block) k stands asked =
      let o = placed_in s k (texts.body_outside k s every block stands).2.stands asked in record { frame = o.frame; around = around_body o.around; stands = stands; known = o.known }
  placed_in (In_state s qs n) k stands asked =
      let o = placed_in s k (texts.state_outside k s qs n stands).3.stands asked in record { frame = o.frame; around = around_state o.around; stands = stands; known = o.known }
  placed_in (Under s resets) k stands asked = absurd asked

  here_at : (k : Within) (s : Scope) → StandsIn r k s → IsAsked r s → Here r k s t any
  here_at k s stands asked = here_of k s (placed_in s k stands asked)

  -- the state that an automaton leaves
  weak_end : (k : Within) (s : Scope) (e : Equation) (p : Place) (qs : List State) → IsEquationOf r k s e → IsAsked r s → out-Equation e ≡ Equation-F.Automaton p qs → (j : ℕ) (o : Option State) → slice_get qs j ≡ o →
      Ends r (taken (setting_of r) (weak_of (setting_of r) o) qs (State_at j false) (In_state s qs j) t)
  unfolding any
  weak_end k s e p qs h asked eq j None at = says r _ tt
  weak_end k s e p qs h asked eq j (Some q) at =
      let stands : StandsIn r k (In_state s qs j) = stands_in_state p qs j q h eq at in
      taken_end r q.weak qs j false (In_state s qs j) t
      (λ go i. condition_known r texts fits k (In_state s qs j) t any (here_at k (In_state s qs j) stands asked) go.condition (texts.sound_weak k s e p qs j q go h eq at i).0 (λ y l. tt))

  left_known : (k : Within) (s : Scope) (e : Equation) (p : Place) (qs : List State) → IsEquationOf r k s e → IsAsked r s → out-Equation e ≡ Equation-F.Automaton p qs → Known r (Left_state s qs t)
  unfolding any
  left_known k s e p qs h asked eq = known_by r (Left_state s qs t)
      (states r (Active_state s qs t) _ (active_state_known r texts fits k s t any (here_at k s h.stands asked) e p qs h eq (λ y i. tt)) (active_standing r s qs t)
      (λ j m g. weak_end k s e p qs h asked eq j (slice_get qs j) refl))

  everything : Everything r t
  unfolding any
  everything = record {
    variables = λ k s x d c stands asked sees sc. (here_at k s stands asked).variables x d c tt sees sc;
    active = λ k s stands asked. (here_at k s stands asked).active;
    restarted = λ k s stands asked. (here_at k s stands asked).restarts s itself;
    left = left_known;
    gives = λ k s e c ts stands asked proof sc one. gives r texts fits k s t any (here_at k s stands asked) e c ts proof (λ y i. tt) (record { scoped = sc; steps = steps_of r k s t (here_at k s stands asked) c sc }) one;
  }

-- ---- all instants

module _ (r : Run) (sound : IsSoundRun r) (texts : Texts r) (fits : Fits r) where
  all_below : (n : ℕ) → n ≤ length r.rows → (t : ℕ) → t < n → Everything r t
  all_below zero l t m = absurd (omega (arith, m))
  all_below (suc n) l t m = split (all_below n (omega (arith, l))) (last_or_before t n m)
    where
      last_or_before : (t n : ℕ) → t < suc n → (t < n) ⊎ (t ≡ n)
      last_or_before t n m = grind arith

      split : ((p : ℕ) → p < n → Everything r p) → (t < n) ⊎ (t ≡ n) → Everything r t
      split before (inl h) = before t h
      split before (inr e) = subst (λ (z : ℕ). Everything r z) (sym e) (everything r sound texts fits n (omega (arith, l)) before)

  pub everything_known : (t : ℕ) → t < length r.rows → Everything r t
  everything_known t l = all_below (length r.rows) (omega arith) t l
