-- The clocks of sound programs are reached: each step names a variable that is seen in the same block, up to bodies of resets, on the clock of the steps before.
use Rattle.std.proofs.Common.{◌≡◌, ⊎_elim, ℕ, zero, suc, ◌+◌, true, List, [], ◌∷◌, ◌++◌, Some, map, sym, ◌∙◌, ap, subst, append_assoc, arith}
use Rattle.std.specs.Prelude.{Contains, slice_get}
use Rattle.std.specs.List.{flat_map}
use Rattle.hept_ast.specs.Texts.{Name, is_in, names}
use Rattle.hept_ast.specs.Scopes.{Clock, Text, Written, Scope, Top, In_branch, In_body, In_state, Under, block_of, declared_in, node_decls}
use Rattle.hept_ast.specs.Parts.{Surroundings, Block, Placed, equation_case, parts_of, variables}
use Rattle.hept_ast.specs.Parts as texts
use Rattle.hept_ast.specs.Clocks.{own_names}
use Rattle.hept_ast.specs.declared.tree.Block as tree
use Rattle.hept_ast.specs.declared.tree.Branch.{Branch}
use Rattle.hept_ast.specs.declared.tree.State.{State}
use Rattle.hept_ast.specs.declared.tree.Node.{Node}
use Rattle.hept_ast.specs.declared.tree.Equation.{Equation, out-Equation}
use Rattle.hept_ast.specs.declared.tree.Equation.TheOpen.{Equation-F}
use Rattle.sound_expressions.specs.Sound.{Within, Sees}
use Rattle.accepted_meaning.specs.SoundNodes.{AreSeenBeside, IsSeenBeside}
use Rattle.sound_expressions.specs.Demands.{NamesDiffer}
use Rattle.accepted_meaning.specs.Placing.{site_of}
use Rattle.accepted_meaning.specs.Running.{Run, StandsIn}
use Rattle.accepted_meaning.specs.Structure.{defined_in}
use Rattle.accepted_meaning.specs.Asked.{IsBodyIn, no_body, in_reset, IsReached, AreReached, IsScoped, HasScopedClocks}
use Rattle.accepted_meaning.proofs.FitsTexts.{block_of_scope, body_outside, branch_outside, clock_of_seen, own_of_node, state_outside}
use Rattle.accepted_meaning.proofs.KnownCarried.{FrameOf, frame_of}
use Rattle.accepted_meaning.proofs.KnownScopes.{IsAround, itself, around_branch, around_body, around_state, around_right, IsFrame, a_top, a_call, not_placed}
use Rattle.accepted_meaning.proofs.StaticEnds.{either_in}
use Rattle.accepted_meaning.proofs.TextLists.{contains_flat, contains_here, contains_map, contains_there, names_append, no_some}
use Rattle.accepted_meaning.proofs.TextPlaces.{StandsAt, part_stands}
use Rattle.accepted_meaning.proofs.TextTrees.{IsDown, all_of, down_here, down_more, same_home, scopes_in, scopes_view, state_scopes}

-- ---- the names that a body declares

body_names : (n : ℕ) (node : Node) → NamesDiffer (names (variables node)) → NamesDiffer (all_of (Top (Written n node)))
body_names n node differ =
    let is = node.inputs in
    let os = node.outputs in
    let ls = node.block.locals in
    let rest = flat_map (λ (q : Placed). texts.declared_in q.part) (flat_map (parts_of []) node.block.body) in
    let order : is ++ ((os ++ ls) ++ rest) ≡ ((is ++ os) ++ ls) ++ rest = sym (append_assoc is (os ++ ls) rest) ∙ ap (λ l. l ++ rest) (sym (append_assoc is os ls)) in
    subst NamesDiffer (ap names order ∙ names_append ((is ++ os) ++ ls) rest) differ

frame_names : (r : Run) (k : Within) (f : Scope) → IsFrame f → StandsIn r k f → NamesDiffer (all_of f)
frame_names r k _ a_top stands = subst (λ (text : Text). NamesDiffer (all_of (Top text))) (sym stands.text) (body_names stands.number k.node stands.of_node.sound_node.once)
frame_names r k _ a_call stands = subst (λ (text : Text). NamesDiffer (all_of (Top text))) (sym stands.text) (body_names stands.number k.node stands.of_node.sound_node.once)

-- ---- scopes from a body in

state_among : (s : Scope) (states qs : List State) (n i : ℕ) (q : State) → slice_get qs i ≡ Some q → Contains (state_scopes s states n qs) (In_state s states (n + i))
state_among s states [] n i q at = no_some at
state_among s states (x ∷ qs) n zero q at =
    let same : n ≡ n + 0 = omega arith in
    subst (λ m. Contains (state_scopes s states n (x ∷ qs)) (In_state s states m)) same (contains_here (In_state s states n) (state_scopes s states (suc n) qs))
state_among s states (x ∷ qs) n (suc i) q at =
    let same : suc n + i ≡ n + suc i = omega arith in
    subst (λ m. Contains (state_scopes s states n (x ∷ qs)) (In_state s states m)) same
    (contains_there (In_state s states n) (In_state s states (suc n + i)) (state_scopes s states (suc n) qs) (state_among s states qs (suc n) i q at))

child : (s c : Scope) (e : Equation) (v : Equation-F Equation tree.Block Branch State) → Contains (block_of s).body e → out-Equation e ≡ v → Contains (scopes_view s v) c → Contains (scopes_in s) c
child s c e v i is h = contains_flat (λ (x : Equation). scopes_view s (out-Equation x)) (block_of s).body e c i (subst (λ (y : Equation-F Equation tree.Block Branch State). Contains (scopes_view s y) c) (sym is) h)

module _ (r : Run) (k : Within) where
  around_stands : (h s : Scope) → IsAround h s → StandsIn r k s → StandsIn r k h
  around_stands h s itself stands = stands
  around_stands h (In_branch s on b) (around_branch i) stands = around_stands h s i (branch_outside r k s on b stands).3.stands
  around_stands h (In_body s every block) (around_body i) stands = around_stands h s i (body_outside r k s every block stands).2.stands
  around_stands h (In_state s states j) (around_state i) stands = around_stands h s i (state_outside r k s states j stands).3.stands
  around_stands h (Under s resets) (around_right i) stands = absurd (not_placed r s resets stands.placed)

  down : (f s : Scope) → IsAround f s → StandsIn r k s → IsDown f s
  down f s itself stands = down_here
  down f (In_branch s on b) (around_branch i) stands =
      let o = branch_outside r k s on b stands in
      down_more f s (In_branch s on b) (down f s i o.3.stands) (child s (In_branch s on b) o.0 (Equation-F.Switch o.1 on o.2) o.3.in_block o.4 (contains_map (λ (x : Branch). In_branch s on x) o.2 b o.5))
  down f (In_body s every block) (around_body i) stands =
      let o = body_outside r k s every block stands in
      down_more f s (In_body s every block) (down f s i o.2.stands) (child s (In_body s every block) o.0 (Equation-F.Reset o.1 block every) o.2.in_block o.3 (contains_here (In_body s every block) []))
  down f (In_state s states j) (around_state i) stands =
      let o = state_outside r k s states j stands in
      let same : 0 + j ≡ j = omega arith in
      down_more f s (In_state s states j) (down f s i o.3.stands)
      (child s (In_state s states j) o.0 (Equation-F.Automaton o.1 states) o.3.in_block o.4 (subst (λ m. Contains (state_scopes s states 0 states) (In_state s states m)) same (state_among s states states 0 j o.2 o.5)))
  down f (Under s resets) (around_right i) stands = absurd (not_placed r s resets stands.placed)

  -- a scope that declares a name, and from which only bodies of resets lead to another
  record OwnHome (f s : Scope) (w : Name) : Type 0 where
    home : Scope
    body : IsBodyIn home s
    around : IsAround f home
    stands : StandsIn r k home
    declares : is_in w (names (declared_in home)) ≡ true

  frame_declares : (w : Name) (f : Scope) → IsFrame f → StandsIn r k f → is_in w (own_names k.node (site_of f)) ≡ true → is_in w (names (declared_in f)) ≡ true
  frame_declares w _ a_top stands e = ap (λ (text : Text). is_in w (names (node_decls text))) stands.text ∙ (own_of_node stands.number k.node w ∙ e)
  frame_declares w _ a_call stands e = ap (λ (text : Text). is_in w (names (node_decls text))) stands.text ∙ (own_of_node stands.number k.node w ∙ e)

  own_home : (w : Name) (f s : Scope) → IsFrame f → IsAround f s → StandsIn r k s → is_in w (own_names k.node (site_of s)) ≡ true → OwnHome f s w
  own_home w f s frame itself stands e = record { home = s; body = no_body; around = itself; stands = stands; declares = frame_declares w s frame stands e }
  own_home w f (In_branch s on b) frame (around_branch i) stands e = record { home = In_branch s on b; body = no_body; around = around_branch i; stands = stands; declares = e }
  own_home w f (In_body s every block) frame (around_body i) stands e =
      ⊎_elim (λ l. record { home = In_body s every block; body = no_body; around = around_body i; stands = stands; declares = l })
      (λ o. let h = own_home w f s frame i (body_outside r k s every block stands).2.stands o in record { home = h.home; body = in_reset h.body; around = h.around; stands = h.stands; declares = h.declares })
      (either_in w (names block.locals) (own_names k.node (site_of s)) e)
  own_home w f (In_state s states j) frame (around_state i) stands e = record { home = In_state s states j; body = no_body; around = around_state i; stands = stands; declares = e }
  own_home w f (Under s resets) frame (around_right i) stands e = absurd (not_placed r s resets stands.placed)

-- ---- what is seen beside a scope is reached there

module _ (r : Run) (k : Within) (s : Scope) (stands : StandsIn r k s) where
  reached : (z : Name) (c : Clock) → IsSeenBeside k (site_of s) z c → IsReached r k s z c
  reached z c b =
      let o : FrameOf s = frame_of s in
      let f : Scope = o.frame in
      let frame_stands : StandsIn r k f = around_stands r k f s o.around stands in
      let u : StandsAt r k f b.at.site = part_stands r k f o.is_frame frame_stands b.at b.of_node in
      let h : OwnHome r k f s b.shared = own_home r k b.shared f s o.is_frame o.around stands b.here in
      let g : OwnHome r k f u.scope b.shared =
      own_home r k b.shared f u.scope o.is_frame u.around u.stands (subst (λ (site : Surroundings). is_in b.shared (own_names k.node site) ≡ true) (sym u.is) b.there) in
      let is : h.home ≡ g.home =
      same_home b.shared f h.home g.home (frame_names r k f o.is_frame frame_stands) (down r k f h.home h.around h.stands) (down r k f g.home g.around g.stands) h.declares g.declares in
      record {
        scope = u.scope;
        together = record { around = g.home; first = subst (λ (x : Scope). IsBodyIn x s) is h.body; second = g.body };
        stands = u.stands;
        declaration = b.decl;
        sees = subst (λ (site : Surroundings). Sees k site z b.decl c) (sym u.is) b.sees;
      }

  are_reached : (before c : Clock) → AreSeenBeside k (site_of s) before c → AreReached r k s before c
  are_reached before [] h = tt
  are_reached before (step ∷ c) h = (reached step.name before h.0, are_reached (before ++ step ∷ []) c h.1)

pub scoped_clocks : (r : Run) → HasScopedClocks r
scoped_clocks r k s x d c stands sees = subst (λ (b : Clock). IsScoped r k s b) (clock_of_seen k (site_of s) x d c sees) (⊎_elim own outer sees.outer)
  where
    own : is_in x (own_names k.node (site_of s)) ≡ true → IsScoped r k s (k.clock x)
    own e =
        are_reached r k s stands [] (k.clock x)
        (stands.of_node.sound_node.steps (record { site = site_of s; part = Block (defined_in s) (map equation_case (block_of s).body) }) x (block_of_scope r k s stands) e)

    outer : k.clock x ≡ [] → IsScoped r k s (k.clock x)
    outer base = subst (λ (b : Clock). IsScoped r k s b) (sym base) tt
