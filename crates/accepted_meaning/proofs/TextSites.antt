-- Each node of a sound program has a list of sites: calls lead from no node back to itself.
use Rattle.std.proofs.Common.{◌≡◌, ℕ, suc, ◌+◌, List, [], ◌∷◌, ◌++◌, Option, Some, None, map, refl, sym, ap, subst, ◌∙◌, arith}
use Rattle.std.specs.Prelude.{Contains, slice_get}
use Rattle.std.proofs.lemmas.List.Elements.{Contains-append_right}
use Rattle.hept_ast.specs.Texts.{Name}
use Rattle.hept_ast.specs.Scopes.{Clock, Text, Scope, Top, Called, In_branch, In_body, In_state, block_of, block_or_none}
use Rattle.hept_ast.specs.Meaning.{call_of, clock_seen}
use Rattle.hept_ast.specs.Settings.{no_marks, no_replies}
use Rattle.hept_ast.specs.Sites.{Piece, Expression, Statement, Body, Site, expressions, conditions, state_pieces, callee_pieces, form_pieces, clock_of_left, equation_pieces, body_pieces, pieces, own_site, SitesOf, whole, SitesOfAll, none, first, Sites}
use Rattle.hept_ast.specs.declared.name.Place.{Place}
use Rattle.hept_ast.specs.declared.tree.Expr.{Expr}
use Rattle.hept_ast.specs.declared.tree.MergeBranch.{MergeBranch}
use Rattle.hept_ast.specs.declared.tree.Block as tree
use Rattle.hept_ast.specs.declared.tree.Branch.{Branch}
use Rattle.hept_ast.specs.declared.tree.State.{State}
use Rattle.hept_ast.specs.declared.tree.Escape.{Escape}
use Rattle.hept_ast.specs.declared.tree.Ty.{Ty}
use Rattle.hept_ast.specs.declared.tree.Form.{Form, out-Form}
use Rattle.hept_ast.specs.declared.tree.Form.TheOpen.{Form-F}
use Rattle.hept_ast.specs.declared.tree.Equation.{Equation, out-Equation}
use Rattle.hept_ast.specs.declared.tree.Equation.TheOpen.{Equation-F}
use Rattle.sound_expressions.specs.Sound.{Within, Sound, SoundArguments, SoundBranches, is_constant, is_async_constant, is_variable, is_last, is_unary, is_binary, is_if, is_fby, is_pre, is_arrow, is_when, is_merge, is_call, is_async_call, is_get, no_arguments, an_argument, no_branches, a_branch}
use Rattle.accepted_meaning.specs.SoundNodes.{SoundLeft, SoundProgram, no_left, a_left}
use Rattle.accepted_meaning.specs.Placing.{at_branch, at_reset, site_of}
use Rattle.accepted_meaning.specs.Running.{Run, IsSoundRun, StandsIn, setting_of, text_run}
use Rattle.accepted_meaning.specs.Structure.{Accessible, reach, CallsNode, IsEquationOf, NodeOfName}
use Rattle.accepted_meaning.proofs.FitsForms.{take_front}
use Rattle.accepted_meaning.proofs.FitsInterfaces.{call_in}
use Rattle.accepted_meaning.proofs.FitsStates.{state_stands}
use Rattle.accepted_meaning.proofs.FitsTexts.{sound_define, sound_switch, sound_reset, sound_weak, sound_strong, clock_here}
use Rattle.accepted_meaning.proofs.KnownTexts.{Descends, descend, inner_blocks, descends}
use Rattle.accepted_meaning.proofs.KnownTrees.{contains_map}
use Rattle.accepted_meaning.proofs.SentSites.{HasLefts}
use Rattle.accepted_meaning.proofs.StaticCalls.{calls_end, node_of_name}
use Rattle.accepted_meaning.proofs.TextLists.{contains_got, no_some}
use Rattle.accepted_meaning.proofs.TextPieces.{SoundBody, body_stands, top_sound}

-- a run of the same node without restarts, replies and rows
abbrev quiet : Run → Run
quiet r = record { program = r.program; number = r.number; node = r.node; marked = no_marks; replies = no_replies; rows = [] }

quiet_sound : (r : Run) → SoundProgram r.program → slice_get r.program.program.nodes r.number ≡ Some r.node → IsSoundRun (quiet r)
quiet_sound r program chosen =
    record { sound = program; chosen = chosen; replies_fit = record { fit = λ s e clock ts args n m number node callee g outs placed text node_sound sound call replied. no_some replied }; rows_fit = tt }

abbrev HasSites : Run → Piece → Type 0
HasSites r p = (sites : List Site) × SitesOf (setting_of r) p sites

abbrev AllHaveSites : Run → List Piece → Type 0
AllHaveSites r ps = (sites : List Site) × SitesOfAll (setting_of r) ps sites

whole_sites : (r : Run) (p : Piece) → AllHaveSites r (pieces (setting_of r) p) → HasSites r p
whole_sites r p h = (own_site (setting_of r) p ++ h.0, whole h.1)

one_more : (r : Run) (p : Piece) (ps : List Piece) → HasSites r p → AllHaveSites r ps → AllHaveSites r (p ∷ ps)
one_more r p ps h k = (h.0 ++ k.0, first h.1 k.1)

no_more : (r : Run) → AllHaveSites r []
no_more r = ([], none)

joined : (r : Run) (ps qs : List Piece) (sites : List Site) → SitesOfAll (setting_of r) ps sites → AllHaveSites r qs → AllHaveSites r (ps ++ qs)
joined r ps qs sites none k = k
joined r ps qs sites (first {piece = p} {rest = rest} {sites = xs} {others = ys} h hs) k = one_more r p (rest ++ qs) (xs, h) (joined r rest qs ys hs k)

both : (r : Run) (ps qs : List Piece) → AllHaveSites r ps → AllHaveSites r qs → AllHaveSites r (ps ++ qs)
both r ps qs h k = joined r ps qs h.0 h.1 k

module _ (r : Run) (program : SoundProgram r.program) (chosen : slice_get r.program.program.nodes r.number ≡ Some r.node) (lefts : HasLefts r) where
  abbrev of_name : NodeOfName r
  of_name = node_of_name (quiet r) (quiet_sound r program chosen)

  by_form : (e : Expr) (c : Clock) (s : Scope) (v : Form-F Form Expr MergeBranch) → out-Form e.form ≡ v → AllHaveSites r (form_pieces (setting_of r) v e c s) → HasSites r (Expression e c s)
  by_form e c s v is h = whole_sites r (Expression e c s) (subst (λ (f : Form-F Form Expr MergeBranch). AllHaveSites r (form_pieces (setting_of r) f e c s)) (sym is) h)

  -- one node, where the nodes that it calls have sites
  module _ (k : Within) (called : (callee : Within) (s : Scope) → StandsIn r callee s → CallsNode r.program.program.nodes k.node.name callee.node.name → HasSites r (Body s)) where
    module _ (s : Scope) (h : StandsIn r k s) where
      callee_sites : (e : Expr) (c : Clock) (ts : List Ty) (o : Option (List Expr × Text)) → Sound k (site_of s) e c ts → call_of (setting_of r) (out-Form e.form) ≡ o → AllHaveSites r (callee_pieces (setting_of r) o e.place.0 c s)
      callee_sites e c ts None sound is = no_more r
      callee_sites e c ts (Some call) sound is =
          let b : SoundBody r (Called s c e.place.0 call.0 call.1) = body_stands r program k s e c ts call.0 call.1 h sound is in
          let i = call_in r of_name k s e c ts call.0 call.1 b.within h sound is b.stands in
          one_more r (Body (Called s c e.place.0 call.0 call.1)) [] (called b.within (Called s c e.place.0 call.0 call.1) b.stands i.calls) (no_more r)

      mutual
        expression_sites : (e : Expr) (c : Clock) (ts : List Ty) → Sound k (site_of s) e c ts → HasSites r (Expression e c s)
        expression_sites e c ts (is_constant {v = v} is known fits) = by_form e c s (Form-F.Const v) is (no_more r)
        expression_sites e c ts (is_async_constant {v = v} is known fits) = by_form e c s (Form-F.AsyncConst v) is (no_more r)
        expression_sites e c ts (is_variable {x = x} is sees) = by_form e c s (Form-F.Var x) is (no_more r)
        expression_sites e c ts (is_last {x = x} is sees init) = by_form e c s (Form-F.Last x) is (no_more r)
        expression_sites e c ts (is_unary {a = a} {op = op} {us = us} is sound fit) = by_form e c s (Form-F.Unary op a) is (one_more r (Expression a c s) [] (expression_sites a c us sound) (no_more r))
        expression_sites e c ts (is_binary {a = a} {b = b} {op = op} {us = us} {vs = vs} is left right fit nonzero) =
            by_form e c s (Form-F.Binary op a b) is (one_more r (Expression a c s) (expressions (b ∷ []) c s) (expression_sites a c us left) (one_more r (Expression b c s) [] (expression_sites b c vs right) (no_more r)))
        expression_sites e c ts (is_if {i = i} {a = a} {b = b} {is = bs} {us = us} {vs = vs} is test left right fit) =
            by_form e c s (Form-F.If i a b) is (one_more r (Expression i c s) (expressions (a ∷ b ∷ []) c s) (expression_sites i c bs test)
            (one_more r (Expression a c s) (expressions (b ∷ []) c s) (expression_sites a c us left) (one_more r (Expression b c s) [] (expression_sites b c vs right) (no_more r))))
        expression_sites e c ts (is_fby {a = a} {b = b} {us = us} {vs = vs} is left right fit defined) =
            by_form e c s (Form-F.Fby a b) is (one_more r (Expression a c s) (expressions (b ∷ []) c s) (expression_sites a c us left) (one_more r (Expression b c s) [] (expression_sites b c vs right) (no_more r)))
        expression_sites e c ts (is_pre {a = a} {us = us} is sound fit defined) = by_form e c s (Form-F.Pre a) is (one_more r (Expression a c s) [] (expression_sites a c us sound) (no_more r))
        expression_sites e c ts (is_arrow {a = a} {b = b} {us = us} {vs = vs} is left right fit) =
            by_form e c s (Form-F.Arrow a b) is (one_more r (Expression a c s) (expressions (b ∷ []) c s) (expression_sites a c us left) (one_more r (Expression b c s) [] (expression_sites b c vs right) (no_more r)))
        expression_sites e c ts (is_when {a = a} {c = front} {tag = tag} {x = x} {us = us} is sees sound tagged has fit defined) =
            by_form e (front ++ record { tag = tag; name = x } ∷ []) s (Form-F.When a tag x) is
            (subst (λ (d : Clock). AllHaveSites r (expressions (a ∷ []) d s)) (sym (take_front front (record { tag = tag; name = x }))) (one_more r (Expression a front s) [] (expression_sites a front us sound) (no_more r)))
        expression_sites e c ts (is_merge {x = x} {d = d} {bs = bs} {tss = tss} is sees tagged defined branches all fit) = by_form e c s (Form-F.Merge x bs) is (branch_sites x d.ty c bs tss branches)
        expression_sites e c ts (is_call {f = f} {args = args} {g = g} {tss = tss} is named given fit leads calls) =
            by_form e c s (Form-F.Call f args) is
            (both r (callee_pieces (setting_of r) (call_of (setting_of r) (Form-F.Call f args)) e.place.0 c s) (expressions args c s)
            (callee_sites e c ts (call_of (setting_of r) (Form-F.Call f args)) (is_call is named given fit leads calls) (ap (call_of (setting_of r)) is)) (argument_sites c args tss given))
        expression_sites e c ts (is_async_call {q = q} {f = f} {args = args} {g = g} {tss = tss} is named given fit leads calls) = by_form e c s (Form-F.AsyncCall q f args) is (argument_sites c args tss given)
        expression_sites e c ts (is_get {a = a} {us = us} is sound fit) = by_form e c s (Form-F.Get a) is (one_more r (Expression a c s) [] (expression_sites a c us sound) (no_more r))

        argument_sites : (c : Clock) (args : List Expr) (tss : List (List Ty)) → SoundArguments k (site_of s) args c tss → AllHaveSites r (expressions args c s)
        argument_sites c args tss no_arguments = no_more r
        argument_sites c args tss (an_argument {e = e} {es = es} {ts = ts} {tss = uss} sound defined rest) = one_more r (Expression e c s) (expressions es c s) (expression_sites e c ts sound) (argument_sites c es uss rest)

        branch_sites : (x : Name) (t : Ty) (c : Clock) (bs : List MergeBranch) (tss : List (List Ty)) → SoundBranches k (site_of s) x t c bs tss →
            AllHaveSites r (map (λ m. Expression m.value (c ++ record { tag = m.tag; name = x } ∷ []) s) bs)
        branch_sites x t c bs tss no_branches = no_more r
        branch_sites x t c bs tss (a_branch {b = m} {bs = ms} {ts = ts} {tss = uss} tag sound defined rest) =
            one_more r (Expression m.value (c ++ record { tag = m.tag; name = x } ∷ []) s) (map (λ n. Expression n.value (c ++ record { tag = n.tag; name = x } ∷ []) s) ms)
            (expression_sites m.value (c ++ record { tag = m.tag; name = x } ∷ []) ts sound) (branch_sites x t c ms uss rest)

    -- ---- equations

    right_sites : (s : Scope) (left : List Name) (right : Expr) (c : Clock) (ts : List Ty) → StandsIn r k s → (left ≡ [] → ⊥) → Sound k (site_of s) right c ts → SoundLeft k (site_of s) c left ts →
        HasSites r (Expression right (clock_of_left (setting_of r) left s) s)
    right_sites s left right c ts stands some sound no_left = absurd (some refl)
    right_sites s left right c ts stands some sound (a_left {x = x} {d = d} {ts = us} sees input rest) =
        let same_clock : clock_seen (setting_of r) x s ≡ c = clock_here r k s x d c stands sees in
        subst (λ (b : Clock). HasSites r (Expression right b s)) (sym same_clock) (expression_sites s stands right c (d.ty ∷ us) sound)

    condition_sites : (s : Scope) (es : List Escape) → StandsIn r k s → ((e : Escape) → Contains es e → (ts : List Ty) × Sound k (site_of s) e.condition [] ts) → AllHaveSites r (conditions es s)
    condition_sites s [] stands each = no_more r
    condition_sites s (e ∷ es) stands each =
        let o = each e (0, omega arith, refl) in
        one_more r (Expression e.condition [] s) (conditions es s) (expression_sites s stands e.condition [] o.0 o.1) (condition_sites s es stands (λ x i. each x (Contains-append_right (e ∷ []) es x i)))

    abbrev Inner : Equation → Type 0
    Inner e = (s : Scope) → IsEquationOf r k s e → HasSites r (Statement e s)

    block_sites : (s : Scope) (es : List Equation) → StandsIn r k s → ((e : Equation) → Contains es e → Contains (block_of s).body e) → ((e : Equation) → Contains es e → Inner e) → AllHaveSites r (map (λ e. Statement e s) es)
    block_sites s [] stands inside each = no_more r
    block_sites s (e ∷ es) stands inside each =
        one_more r (Statement e s) (map (λ e. Statement e s) es) (each e (0, omega arith, refl) s (record { stands = stands; in_block = inside e (0, omega arith, refl) }))
        (block_sites s es stands (λ x i. inside x (Contains-append_right (e ∷ []) es x i)) (λ x i. each x (Contains-append_right (e ∷ []) es x i)))

    body_sites : (s : Scope) → StandsIn r k s → ((e : Equation) → Contains (block_of s).body e → Inner e) → HasSites r (Body s)
    body_sites s stands each = whole_sites r (Body s) (subst (λ (text : Text). AllHaveSites r (body_pieces (setting_of r) text s)) (sym stands.text) (block_sites s (block_of s).body stands (λ e i. i) each))

    switch_sites : (s : Scope) (e : Equation) (p : Place) (on : Expr) (branches bs : List Branch) → IsEquationOf r k s e → out-Equation e ≡ Equation-F.Switch p on branches → ((b : Branch) → Contains bs b → Contains branches b) →
        ((b : Branch) → Contains branches b → (y : Equation) → Contains b.block.body y → Inner y) → AllHaveSites r (map (λ b. Body (In_branch s on b)) bs)
    switch_sites s e p on branches [] h is inside each = no_more r
    switch_sites s e p on branches (b ∷ bs) h is inside each =
        let st : StandsIn r k s = h.stands in
        let here : Contains branches b = inside b (0, omega arith, refl) in
        one_more r (Body (In_branch s on b)) (map (λ b. Body (In_branch s on b)) bs)
        (body_sites (In_branch s on b) (record { number = st.number; of_node = st.of_node; text = st.text; placed = at_branch st.placed h.in_block is here }) (each b here))
        (switch_sites s e p on branches bs h is (λ x i. inside x (Contains-append_right (b ∷ []) bs x i)) each)

    states_sites : (s : Scope) (e : Equation) (p : Place) (states qs : List State) (n : ℕ) → IsEquationOf r k s e → out-Equation e ≡ Equation-F.Automaton p states →
        ((i : ℕ) (q : State) → slice_get qs i ≡ Some q → slice_get states (n + i) ≡ Some q) → ((i : ℕ) (q : State) → slice_get states i ≡ Some q → (y : Equation) → Contains (block_of (In_state s states i)).body y → Inner y) → AllHaveSites r (state_pieces qs states n s)
    states_sites s e p states [] n h is at each = no_more r
    states_sites s e p states (q ∷ qs) n h is at each =
        let same_place : n + 0 ≡ n = omega arith in
        let here : slice_get states n ≡ Some q = ap (slice_get states) (sym same_place) ∙ at 0 q refl in
        let inner : StandsIn r k (In_state s states n) = state_stands r k s e p states n q h is here in
        one_more r (Body (In_state s states n)) (conditions q.weak (In_state s states n) ++ conditions q.strong s ++ state_pieces qs states (suc n) s) (body_sites (In_state s states n) inner (each n q here))
        (both r (conditions q.weak (In_state s states n) ++ conditions q.strong s) (state_pieces qs states (suc n) s)
        (both r (conditions q.weak (In_state s states n)) (conditions q.strong s)
        (condition_sites (In_state s states n) q.weak inner (λ x i. (_, (sound_weak r k s e p states n q x h is here i).0.sound)))
        (condition_sites s q.strong h.stands (λ x i. (_, (sound_strong r k s e p states n q x h is here i).0.sound))))
        (states_sites s e p states qs (suc n) h is (λ i x f. let more : n + suc i ≡ suc n + i = omega arith in ap (slice_get states) (sym more) ∙ at (suc i) x f) each))

    by_view : (e : Equation) (s : Scope) (v : Equation-F Equation tree.Block Branch State) → out-Equation e ≡ v → AllHaveSites r (equation_pieces (setting_of r) v s) → HasSites r (Statement e s)
    by_view e s v is h = whole_sites r (Statement e s) (subst (λ (f : Equation-F Equation tree.Block Branch State). AllHaveSites r (equation_pieces (setting_of r) f s)) (sym is) h)

    equation_view : (v : Equation-F Equation tree.Block Branch State) (e : Equation) → out-Equation e ≡ v → ((block : tree.Block) (y : Equation) → Contains (inner_blocks v) block → Contains block.body y → Inner y) → Inner e
    equation_view (Equation-F.Define p left right) e is step s h =
        let o = sound_define r k s e p left right h is in
        by_view e s (Equation-F.Define p left right) is (one_more r (Expression right (clock_of_left (setting_of r) left s) s) []
        (right_sites s left right o.0 o.1 h.stands (λ empty. lefts k s e p right h (is ∙ ap (λ (xs : List Name). Equation-F.Define p xs right) empty)) o.2 o.3) (no_more r))
    equation_view (Equation-F.Switch p on branches) e is step s h =
        let o = sound_switch r k s e p on branches h is in
        by_view e s (Equation-F.Switch p on branches) is (one_more r (Expression on [] s) (map (λ b. Body (In_branch s on b)) branches) (expression_sites s h.stands on [] (o.type ∷ []) o.sound)
        (switch_sites s e p on branches branches h is (λ b i. i) (λ b i y j. step b.block y (contains_map (λ (c : Branch). c.block) branches b i) j)))
    equation_view (Equation-F.Reset p block every) e is step s h =
        let o = sound_reset r k s e p block every h is in
        let st : StandsIn r k s = h.stands in
        by_view e s (Equation-F.Reset p block every) is (one_more r (Body (In_body s every block)) (Expression every [] s ∷ [])
        (body_sites (In_body s every block) (record { number = st.number; of_node = st.of_node; text = st.text; placed = at_reset st.placed h.in_block is }) (λ y i. step block y (0, omega arith, refl) i))
        (one_more r (Expression every [] s) [] (expression_sites s st every [] _ o.0.sound) (no_more r)))
    equation_view (Equation-F.Automaton p states) e is step s h =
        by_view e s (Equation-F.Automaton p states) is (states_sites s e p states states 0 h is (λ i q f. let same_place : 0 + i ≡ i = omega arith in ap (slice_get states) same_place ∙ f)
        (λ i q at y j. step q.block y (contains_map (λ (c : State). c.block) states q (contains_got states i q at)) (subst (λ (b : tree.Block). Contains b.body y) (state_block_is s states i q at) j)))
      where
        state_block_is : (u : Scope) (qs : List State) (i : ℕ) (q : State) → slice_get qs i ≡ Some q → block_of (In_state u qs i) ≡ q.block
        state_block_is u qs i q at = ap block_or_none at

    equation_sites : (e : Equation) → Descends e → Inner e
    equation_sites e (descend g) = equation_view (out-Equation e) e refl (λ block y i j. equation_sites y (g block y i j))

    node_sites : (s : Scope) → StandsIn r k s → HasSites r (Body s)
    node_sites s stands = body_sites s stands (λ e i. equation_sites e (descends e))

  -- callees first
  sites_by : (f : Name) → Accessible (CallsNode r.program.program.nodes) f → (k : Within) (s : Scope) → StandsIn r k s → k.node.name ≡ f → HasSites r (Body s)
  sites_by f (reach step) k s stands is = node_sites k
      (λ callee u inner calls. sites_by callee.node.name (step callee.node.name (subst (λ (n : Name). CallsNode r.program.program.nodes n callee.node.name) is calls)) callee u inner refl) s stands

  pub sites_exist : (sites : List Site) × Sites (setting_of r) (text_run r) sites
  sites_exist =
      let b = top_sound r program chosen in
      let h : HasSites r (Body (Top (text_run r))) = sites_by b.within.node.name (calls_end (quiet r) (quiet_sound r program chosen) b.within.node.name) b.within (Top (text_run r)) b.stands refl in
      (h.0, record { found = h.0; all = h.1; order = refl })
