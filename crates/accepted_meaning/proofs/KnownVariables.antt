-- Variables are known in the order of reads, and bodies of nodes in the order of calls.
use Rattle.std.proofs.Common.{◌≡◌, ℕ, ◌<◌, true, [], refl, sym, subst}
use Rattle.hept_ast.specs.Texts.{Name, is_in}
use Rattle.hept_ast.specs.Scopes.{Clock, Scope, home, inputs_of, text_of, block_of}
use Rattle.hept_ast.specs.Parts.{sets_of}
use Rattle.hept_ast.specs.Causal.{Reads}
use Rattle.hept_ast.specs.Meaning.{Variable, Defined, Present, Active, Restarted, Rule, clock_in, own_rule}
use Rattle.hept_ast.specs.declared.tree.Decl.{Decl}
use Rattle.sound_expressions.specs.Sound.{Within, Sees}
use Rattle.accepted_meaning.specs.Placing.{site_of}
use Rattle.accepted_meaning.specs.Running.{Run, StandsIn, setting_of}
use Rattle.accepted_meaning.specs.Structure.{IsEquationOf, IsHome, HasSource, top_input, called_input, by_equation, Accessible, reach, CallsNode}
use Rattle.accepted_meaning.specs.Asked.{IsScoped, IsAsked}
use Rattle.accepted_meaning.proofs.KnownReached.{home_scoped}
use Rattle.accepted_meaning.proofs.KnownRules.{Known, Ends, known_by, answers, where_present}
use Rattle.accepted_meaning.proofs.KnownTrees.{in_flat}
use Rattle.accepted_meaning.proofs.KnownScopes.{between, Texts, Fits, Here, IsAround, itself, home_around, IsFrame, Everything, FrameKnown, IsReady, present_known}
use Rattle.accepted_meaning.proofs.KnownAround.{InFrame, frame_here, surround}
use Rattle.accepted_meaning.proofs.KnownDefined.{clock_ready, definition_known}

module _ (r : Run) (texts : Texts r) (fits : Fits r) (t : ℕ) where
  abbrev InputsKnown : Within → Scope → Type 0
  InputsKnown k f = (x : Name) (d : Decl) (c : Clock) → is_in x (inputs_of (text_of f)) ≡ true → Sees k [] x d c → Ends r (own_rule (setting_of r) f x t)

  home_end : (k : Within) (x : Name) (s : Scope) (d : Decl) (c : Clock) → IsHome r k x d c (home x s) → Known r (Active (home x s) t) → IsReady r k (home x s) t c → Ends r (own_rule (setting_of r) (home x s) x t) → Known r (Variable x s t)
  home_end k x s d c o active ready own = known_by r (Variable x s t)
      (where_present r (Present (clock_in (setting_of r) (text_of (home x s)) x) (home x s) t) _
      (subst (λ (z : Clock). Known r (Present z (home x s) t)) (sym o.clock) (present_known r c (home x s) t active ready.steps)) own)

  own_end : (k : Within) (x : Name) (f h : Scope) (d : Decl) (c : Clock) → InFrame r k f t (Reads k.node k.clock x) → InputsKnown k f → IsHome r k x d c h → IsScoped r k h c → HasSource k x h → IsAround f h →
      Known r (Active h t) × IsReady r k h t c × Ends r (own_rule (setting_of r) h x t)
  own_end k x f _ d c w inputs o sc (top_input i) itself =
      let here = frame_here texts w in (here.active, clock_ready r texts fits k f t x w f d c here o.sees sc, inputs x d c i o.sees)
  own_end k x f _ d c w inputs o sc (called_input i) itself =
      let here = frame_here texts w in (here.active, clock_ready r texts fits k f t x w f d c here o.sees sc, inputs x d c i o.sees)
  own_end k x f h d c w inputs o sc (by_equation {e = e} free has sets) i =
      let equation : IsEquationOf r k h e = record { stands = o.stands; in_block = has } in
      let here : Here r k h t (Reads k.node k.clock x) = surround r texts fits k f t (Reads k.node k.clock x) w h i o.stands (λ y j. texts.reads_around k h e x y equation sets j) in (
        here.active,
        clock_ready r texts fits k f t x w h d c here o.sees sc,
        subst (λ (z : Rule). Ends r z) (sym (texts.rule_of_defined k h x t o.stands free))
            (answers r (Defined x h t) (definition_known r texts fits k f t x w h d c i here o.sees sc (in_flat sets_of (block_of h).body e x has sets))),
      )

  -- what is known of the body of a node, but for its variables
  record Body (k : Within) (f : Scope) : Type 0 where
    frame : IsFrame f
    stands : StandsIn r k f
    asked : IsAsked r f
    before : (p : ℕ) → p < t → Everything r p
    active : Known r (Active f t)
    restarted : Known r (Restarted f t)
    inputs : InputsKnown k f
    called : (callee : Within) → CallsNode r.program.program.nodes k.node.name callee.node.name → FrameKnown r callee t

  variable_known : (k : Within) (f : Scope) → Body k f → (x : Name) → Accessible (Reads k.node k.clock) x → (s : Scope) (d : Decl) (c : Clock) → IsAround f s → StandsIn r k s → Sees k (site_of s) x d c → IsScoped r k s c → Known r (Variable x s t)
  variable_known k f b x (reach next) s d c i stands sees sc =
      let w : InFrame r k f t (Reads k.node k.clock x) = record {
        frame = b.frame;
        stands = b.stands;
        asked = b.asked;
        before = b.before;
        active = b.active;
        restarted = b.restarted;
        variables = λ q y e g h j l m n. variable_known k f b y (next y h) q e g j l m n;
        called = b.called;
      } in
      let o : IsHome r k x d c (home x s) = texts.home_of k s x d c stands sees in
      let own = own_end k x f (home x s) d c w b.inputs o (home_scoped r k x d c (home x s) s (texts.seen_from_home k s x d c stands sees) sc) (texts.source_of k (home x s) x d c o) (between f (home x s) s b.frame i (home_around x s)) in
      home_end k x s d c o own.0 own.1 own.2

  -- the bodies of nodes, callees first
  frame_known : ((p : ℕ) → p < t → Everything r p) → (name : Name) → Accessible (CallsNode r.program.program.nodes) name → (k : Within) → k.node.name ≡ name → FrameKnown r k t
  frame_known before name (reach next) k e f frame stands asked active restarted inputs s x d c i at sees sc =
      variable_known k f (record {
        frame = frame;
        stands = stands;
        asked = asked;
        before = before;
        active = active;
        restarted = restarted;
        inputs = inputs;
        called = λ callee calls. frame_known before callee.node.name (next callee.node.name (subst (λ (z : Name). CallsNode r.program.program.nodes z callee.node.name) e calls)) callee refl;
      }) x (texts.reads_end k stands.number x stands.of_node) s d c i at sees sc

  pub frames_known : ((p : ℕ) → p < t → Everything r p) → (k : Within) → FrameKnown r k t
  frames_known before k = frame_known before k.node.name (texts.calls_end k.node.name) k refl
