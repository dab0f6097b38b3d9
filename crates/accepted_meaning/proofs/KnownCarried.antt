-- Variables and presence, carried between the active scopes of a node's body.
use Rattle.std.proofs.Common.{◌≡◌, ◌⊎◌, inl, inr, ℕ, Bool, true, false, [], ◌∷◌, ◌++◌, map, refl, sym, ap, subst, ◌∙◌}
use Rattle.std.specs.Prelude.{if◌then◌else◌}
use Rattle.hept_ast.specs.Texts.{Name, is_in, names, tag_value}
use Rattle.hept_ast.specs.Scopes.{Clock, Text, Scope, Top, Called, In_branch, In_body, In_state, Under, home, declares, inputs_of, text_of}
use Rattle.hept_ast.specs.Parts.{seen_at}
use Rattle.hept_ast.specs.Causal.{Reads}
use Rattle.hept_ast.specs.Meaning.{Variable, Defined, Present, Active, Answer, Absent, Is, Rule, Says, is_true, is_value, answer_to, steps_hold, present_rule, own_rule, variable_rule, clock_in}
use Rattle.hept_ast.specs.Outputs.{asked}
use Rattle.hept_ast.specs.declared.tree.Expr.{Expr}
use Rattle.hept_ast.specs.declared.tree.Block.{Block}
use Rattle.hept_ast.proofs.Depths.{by_rule, to_rule}
use Rattle.sound_expressions.specs.Sound.{Within}
use Rattle.accepted_meaning.specs.Placing.{site_of}
use Rattle.accepted_meaning.specs.Running.{Run, StandsIn, IsSoundRun, IsKnown, setting_of, types_in}
use Rattle.accepted_meaning.specs.Structure.{Accessible, reach}
use Rattle.accepted_meaning.proofs.KnownTrees.{in_first, in_more, in_right, never}
use Rattle.accepted_meaning.proofs.KnownScopes.{IsOn, Texts, IsAround, itself, around_branch, around_body, around_state, around_right, IsFrame, a_top, a_call, not_placed, between}
use Rattle.accepted_meaning.proofs.KnownSame.{Comes, Same, Alike, same_itself, same_trans, same_back, alike_trans, alike_back, same_ask, same_asks, same_if, alike_rules, alike_answer}
use Rattle.accepted_meaning.proofs.KnownMoves.{IsInner, Owned, owned_at, defined_moves, branch_around, body_around, state_around}
use Rattle.accepted_meaning.proofs.TextLists.{names_append}
use Rattle.accepted_meaning.proofs.TextApart.{inside, scope_apart}

-- ---- scopes around one

pub stands_around : (r : Run) → Texts r → (k : Within) (h s : Scope) → IsAround h s → StandsIn r k s → StandsIn r k h
stands_around r texts k h s itself stands = stands
stands_around r texts k h (In_branch s on b) (around_branch i) stands = stands_around r texts k h s i (texts.branch_outside k s on b stands).3.stands
stands_around r texts k h (In_body s every block) (around_body i) stands = stands_around r texts k h s i (texts.body_outside k s every block stands).2.stands
stands_around r texts k h (In_state s qs j) (around_state i) stands = stands_around r texts k h s i (texts.state_outside k s qs j stands).3.stands
stands_around r texts k h (Under s resets) (around_right i) stands = absurd (not_placed r s resets stands.placed)

pub on_around : (r : Run) (k : Within) (h s : Scope) (t : ℕ) → IsAround h s → StandsIn r k s → IsOn r s t → Texts r → IsOn r h t
on_around r k h s t itself stands o texts = o
on_around r k h (In_branch s on b) t (around_branch i) stands o texts = on_around r k h s t i (texts.branch_outside k s on b stands).3.stands (branch_around r s on b t o) texts
on_around r k h (In_body s every block) t (around_body i) stands o texts = on_around r k h s t i (texts.body_outside k s every block stands).2.stands (body_around r s every block t o) texts
on_around r k h (In_state s qs j) t (around_state i) stands o texts = on_around r k h s t i (texts.state_outside k s qs j stands).3.stands (state_around r s qs j t o) texts
on_around r k h (Under s resets) t (around_right i) stands o texts = absurd (not_placed r s resets stands.placed)

-- ---- the home of a name: the body of the node, or a block that declares it

record InnerHome (r : Run) (k : Within) (z : Name) (s : Scope) (t : ℕ) : Type 0 where
  home_is : Scope
  is : home z s ≡ home_is
  around : IsAround home_is s
  inner : IsInner home_is
  owned : Owned r z home_is
  own : own_rule (setting_of r) home_is z t ≡ answer_to (Defined z home_is t)

home_of_frame : (z : Name) (f : Scope) → IsFrame f → home z f ≡ f
home_of_frame z _ a_top = refl
home_of_frame z _ a_call = refl

home_cases : (r : Run) → Texts r → (k : Within) (z : Name) (f s : Scope) (t : ℕ) → IsFrame f → IsAround f s → StandsIn r k s → (home z s ≡ f) ⊎ InnerHome r k z s t
home_cases r texts k z f s t frame itself stands = inl (home_of_frame z f frame)
home_cases r texts k z f (In_branch s on b) t frame (around_branch i) stands =
    choose (declares (In_branch s on b) z) refl (home_cases r texts k z f s t frame i (texts.branch_outside k s on b stands).3.stands)
  where
    choose : (c : Bool) → declares (In_branch s on b) z ≡ c → (home z s ≡ f) ⊎ InnerHome r k z s t → ((if c then In_branch s on b else home z s) ≡ f) ⊎ InnerHome r k z (In_branch s on b) t
    choose true e n = inr (record { home_is = In_branch s on b; is = ap (λ (x : Bool). if x then In_branch s on b else home z s) e; around = itself; inner = tt; owned = owned_at r texts k z (In_branch s on b) stands refl e; own = refl })
    choose false e (inl n) = inl n
    choose false e (inr n) = inr (record { home_is = n.home_is; is = ap (λ (x : Bool). if x then In_branch s on b else home z s) e ∙ n.is; around = around_branch n.around; inner = n.inner; owned = n.owned; own = n.own })
home_cases r texts k z f (In_body s every block) t frame (around_body i) stands =
    choose (declares (In_body s every block) z) refl (home_cases r texts k z f s t frame i (texts.body_outside k s every block stands).2.stands)
  where
    choose : (c : Bool) → declares (In_body s every block) z ≡ c → (home z s ≡ f) ⊎ InnerHome r k z s t → ((if c then In_body s every block else home z s) ≡ f) ⊎ InnerHome r k z (In_body s every block) t
    choose true e n = inr (record { home_is = In_body s every block; is = ap (λ (x : Bool). if x then In_body s every block else home z s) e; around = itself; inner = tt; owned = owned_at r texts k z (In_body s every block) stands refl e; own = refl })
    choose false e (inl n) = inl n
    choose false e (inr n) = inr (record { home_is = n.home_is; is = ap (λ (x : Bool). if x then In_body s every block else home z s) e ∙ n.is; around = around_body n.around; inner = n.inner; owned = n.owned; own = n.own })
home_cases r texts k z f (In_state s qs j) t frame (around_state i) stands =
    choose (declares (In_state s qs j) z) refl (home_cases r texts k z f s t frame i (texts.state_outside k s qs j stands).3.stands)
  where
    choose : (c : Bool) → declares (In_state s qs j) z ≡ c → (home z s ≡ f) ⊎ InnerHome r k z s t → ((if c then In_state s qs j else home z s) ≡ f) ⊎ InnerHome r k z (In_state s qs j) t
    choose true e n = inr (record { home_is = In_state s qs j; is = ap (λ (x : Bool). if x then In_state s qs j else home z s) e; around = itself; inner = tt; owned = owned_at r texts k z (In_state s qs j) stands refl e; own = refl })
    choose false e (inl n) = inl n
    choose false e (inr n) = inr (record { home_is = n.home_is; is = ap (λ (x : Bool). if x then In_state s qs j else home z s) e ∙ n.is; around = around_state n.around; inner = n.inner; owned = n.owned; own = n.own })
home_cases r texts k z f (Under s resets) t frame (around_right i) stands = absurd (not_placed r s resets stands.placed)

-- ---- no input is declared inside

pub frame_site : (f : Scope) → IsFrame f → site_of f ≡ []
frame_site _ a_top = refl
frame_site _ a_call = refl

no_input : (r : Run) (k : Within) (z : Name) (f : Scope) → IsFrame f → StandsIn r k f → is_in z (inside f) ≡ true → is_in z (inputs_of (text_of f)) ≡ false
no_input r k z f frame stands within = choose (is_in z (inputs_of (text_of f))) refl
  where
    seen : is_in z (inputs_of (text_of f)) ≡ true → is_in z (names (seen_at k.node (site_of f))) ≡ true
    seen e = ap (λ (site : _). is_in z (names (seen_at k.node site))) (frame_site f frame)
        ∙ ap (is_in z) (names_append (k.node.block.locals ++ k.node.outputs) k.node.inputs)
        ∙ in_right z (names (k.node.block.locals ++ k.node.outputs)) (names k.node.inputs) (sym (ap (λ (text : Text). is_in z (inputs_of text)) stands.text) ∙ e)

    choose : (b : Bool) → is_in z (inputs_of (text_of f)) ≡ b → b ≡ false
    choose true e = never (is_in z (inside f)) within ((scope_apart r k f stands).apart z (seen e))
    choose false e = refl

-- ---- variables

-- steps that are alike
steps_same : (r : Run) (c : Clock) (s u : Scope) (t : ℕ) → ((z : Name) → is_in z (map (λ x. x.name) c) ≡ true → Alike r (Variable z s t) (Variable z u t)) → Same r (steps_hold (setting_of r) c s t) (steps_hold (setting_of r) c u t)
steps_same r [] s u t each = same_itself
steps_same r (step ∷ c) s u t each =
    same_asks r (Variable step.name s t) (Variable step.name u t) _ _ (each step.name (in_first step.name _))
    (λ a. same_if r (is_value (tag_value (types_in r) step.tag) a) _ _ _ (steps_same r c s u t (λ z i. each z (in_more z step.name _ i))))

present_same : (r : Run) (c : Clock) (s : Scope) (t : ℕ) → IsOn r s t → Same r (present_rule (setting_of r) c s t) (steps_hold (setting_of r) c s t)
present_same r c s t o = same_trans (same_ask r (Active s t) (λ a. if is_true a then steps_hold (setting_of r) c s t else Says (Is false)) o.answer o.known)
    (subst (λ (b : Bool). Same r (if b then steps_hold (setting_of r) c s t else Says (Is false)) (steps_hold (setting_of r) c s t)) (sym o.true_is) same_itself)

module _ (r : Run) (sound : IsSoundRun r) (texts : Texts r) (k : Within) (f : Scope) (t : ℕ) (frame : IsFrame f) where
  -- presence of a clock whose variables are alike
  present_alike : (c : Clock) (s : Scope) → IsOn r s t → IsOn r f t → ((z : Name) → is_in z (map (λ x. x.name) c) ≡ true → Alike r (Variable z s t) (Variable z f t)) → Alike r (Present c s t) (Present c f t)
  present_alike c s o g each = alike_rules r (Present c s t) (Present c f t)
      (same_trans (present_same r c s t o) (same_trans (steps_same r c s f t each) (same_back (present_same r c f t g))))

  -- one that an inner block declares
  inner_alike : (z : Name) (s : Scope) → IsAround f s → StandsIn r k s → IsOn r s t → (n : InnerHome r k z s t) →
      ((y : Name) → is_in y (map (λ x. x.name) (k.clock z)) ≡ true → Alike r (Variable y n.home_is t) (Variable y f t)) → Alike r (Variable z s t) (Variable z f t)
  inner_alike z s i stands o n each =
      let h : Scope = n.home_is in
      let j : IsAround f h = between f h s frame i n.around in
      let stands_h : StandsIn r k h = stands_around r texts k h s n.around stands in
      let stands_f : StandsIn r k f = stands_around r texts k f s i stands in
      let on_h : IsOn r h t = on_around r k h s t n.around stands o texts in
      let on_f : IsOn r f t = on_around r k f s t i stands o texts in
      let m = defined_moves r sound texts k z t f h frame j stands_h on_h n.owned in
      let free : is_in z (inputs_of (text_of f)) ≡ false = no_input r k z f frame stands_f (m.1 (inl n.inner)) in
      let own : Same r (own_rule (setting_of r) h z t) (own_rule (setting_of r) f z t) =
      subst (λ (d : Rule). Same r d (own_rule (setting_of r) f z t)) (sym n.own)
      (subst (λ (d : Rule). Same r (answer_to (Defined z h t)) d) (sym (texts.rule_of_defined k f z t stands_f free))
      (same_asks r (Defined z h t) (Defined z f t) Says Says (alike_back m.0) (λ a. same_itself))) in
      let present : Alike r (Present (clock_in (setting_of r) (text_of h) z) h t) (Present (clock_in (setting_of r) (text_of f) z) f t) =
      subst (λ (c : Clock). Alike r (Present c h t) (Present (clock_in (setting_of r) (text_of f) z) f t)) (sym (texts.clock_in_text k h z stands_h))
      (subst (λ (c : Clock). Alike r (Present (k.clock z) h t) (Present c f t)) (sym (texts.clock_in_text k f z stands_f)) (present_alike (k.clock z) h on_h on_f each)) in
      alike_rules r (Variable z s t) (Variable z f t)
      (subst (λ (x : Scope). Same r (variable_rule (setting_of r) z x t) (variable_rule (setting_of r) z (home z f) t)) (sym n.is)
      (subst (λ (x : Scope). Same r (variable_rule (setting_of r) z h t) (variable_rule (setting_of r) z x t)) (sym (home_of_frame z f frame))
      (same_asks r _ _ _ _ present (λ a. same_if r (is_true a) (own_rule (setting_of r) h z t) (own_rule (setting_of r) f z t) (Says Absent) own))))

  outer_alike : (z : Name) (s : Scope) → home z s ≡ f → Alike r (Variable z s t) (Variable z f t)
  outer_alike z s e = alike_rules r (Variable z s t) (Variable z f t)
      (subst (λ (x : Scope). Same r (variable_rule (setting_of r) z x t) (variable_rule (setting_of r) z (home z f) t)) (sym e)
      (subst (λ (x : Scope). Same r (variable_rule (setting_of r) z f t) (variable_rule (setting_of r) z x t)) (sym (home_of_frame z f frame)) same_itself))

  either_alike : (z : Name) (s : Scope) → IsAround f s → StandsIn r k s → IsOn r s t →
      ((y : Name) → Reads k.node k.clock z y → (u : Scope) → IsAround f u → StandsIn r k u → IsOn r u t → Alike r (Variable y u t) (Variable y f t)) → (home z s ≡ f) ⊎ InnerHome r k z s t → Alike r (Variable z s t) (Variable z f t)
  either_alike z s i stands o next (inl e) = outer_alike z s e
  either_alike z s i stands o next (inr n) =
      inner_alike z s i stands o n
      (λ y j. next y (texts.reads_clock k z y j) n.home_is (between f n.home_is s frame i n.around) (stands_around r texts k n.home_is s n.around stands) (on_around r k n.home_is s t n.around stands o texts))

  variable_alike : (z : Name) → Accessible (Reads k.node k.clock) z → (s : Scope) → IsAround f s → StandsIn r k s → IsOn r s t → Alike r (Variable z s t) (Variable z f t)
  variable_alike z (reach next) s i stands o =
      either_alike z s i stands o (λ y g u j at on. variable_alike y (next y g) u j at on) (home_cases r texts k z f s t frame i stands)

  -- any name gives in an active scope what it gives in the body of the node
  pub carried : (z : Name) (s : Scope) → IsAround f s → StandsIn r k s → IsOn r s t → Alike r (Variable z s t) (Variable z f t)
  carried z s i stands o = variable_alike z (texts.reads_end k stands.number z stands.of_node) s i stands o

-- ---- the body of the node that a scope is in

pub record FrameOf (s : Scope) : Type 0 where
  pub frame : Scope
  pub is_frame : IsFrame frame
  pub around : IsAround frame s

pub frame_of : (s : Scope) → FrameOf s
frame_of (Top text) = record { frame = Top text; is_frame = a_top; around = itself }
frame_of (Called s clock place args text) = record { frame = Called s clock place args text; is_frame = a_call; around = itself }
frame_of (In_branch s on b) = let o = frame_of s in record { frame = o.frame; is_frame = o.is_frame; around = around_branch o.around }
frame_of (In_body s every block) = let o = frame_of s in record { frame = o.frame; is_frame = o.is_frame; around = around_body o.around }
frame_of (In_state s qs j) = let o = frame_of s in record { frame = o.frame; is_frame = o.is_frame; around = around_state o.around }
frame_of (Under s resets) = let o = frame_of s in record { frame = o.frame; is_frame = o.is_frame; around = around_right o.around }

-- ---- presence in a reset body as around it

chosen_same : (r : Run) (s : Scope) (t : ℕ) (a : Answer) (c e : Rule) (b : Answer) → IsKnown r (Active s t) a → (IsOn r s t → Same r c e) → Comes r (if is_true a then c else Says (Is false)) b → Comes r (if is_true a then e else Says (Is false)) b
chosen_same r s t a c e b h same f = choose (is_true a) refl f
  where
    choose : (x : Bool) → is_true a ≡ x → Comes r (if x then c else Says (Is false)) b → Comes r (if x then e else Says (Is false)) b
    choose true q f = (same (record { answer = a; known = h; true_is = q })).to b f
    choose false q f = f

body_same : (r : Run) (c : Clock) (s u : Scope) (t : ℕ) (b : Answer) → ((a : Answer) → IsKnown r (Active s t) a → IsKnown r (Active u t) a) → (IsOn r s t → Same r (steps_hold (setting_of r) c s t) (steps_hold (setting_of r) c u t)) →
    Comes r (present_rule (setting_of r) c s t) b → Comes r (present_rule (setting_of r) c u t) b
body_same r c s u t b active same (asked {a = a} h f) = asked (active a h) (chosen_same r s t a (steps_hold (setting_of r) c s t) (steps_hold (setting_of r) c u t) b h same f)

pub body_present : (r : Run) → IsSoundRun r → Texts r → (k : Within) (s : Scope) (every : Expr) (block : Block) (c : Clock) (t : ℕ) → StandsIn r k s → StandsIn r k (In_body s every block) → Alike r (Present c s t) (Present c (In_body s every block) t)
body_present r sound texts k s every block c t outer inner =
    let o = frame_of s in
    let u : Scope = In_body s every block in
    let active : Alike r (Active u t) (Active s t) = alike_answer r (Active u t) (Active s t) same_itself in
    let same : IsOn r s t → IsOn r u t → Same r (steps_hold (setting_of r) c s t) (steps_hold (setting_of r) c u t) = λ g h.
    steps_same r c s u t (λ z i. alike_trans (carried r sound texts k o.frame t o.is_frame z s o.around outer g) (alike_back (carried r sound texts k o.frame t o.is_frame z u (around_body o.around) inner h))) in
    record {
      to = λ a h. to_rule (setting_of r) r.rows (Present c u t) a (body_same r c s u t a active.from (λ g. same g (record { answer = g.answer; known = active.from g.answer g.known; true_is = g.true_is })) (by_rule (setting_of r) r.rows (Present c s t) a h)) h.known;
      from = λ a h. to_rule (setting_of r) r.rows (Present c s t) a (body_same r c u s t a active.to (λ g. same_back (same (record { answer = g.answer; known = active.to g.answer g.known; true_is = g.true_is }) g)) (by_rule (setting_of r) r.rows (Present c u t) a h)) h.known;
    }
