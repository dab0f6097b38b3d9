-- The sites of a sound run: where their calls stand.
use Rattle.std.proofs.Common.{◌≡◌, ℕ, zero, suc, ◌+◌, ◌-◌, List, [], ◌∷◌, ◌++◌, Option, Some, None, length, map, take, refl, sym, ap, subst, ◌∙◌, arith}
use Rattle.std.specs.Prelude.{⊤, Contains, slice_get}
use Rattle.std.proofs.lemmas.List.Elements.{Contains-append_right}
use Rattle.hept_ast.specs.Texts.{Name}
use Rattle.hept_ast.specs.Scopes.{Clock, Text, Scope, Top, In_branch, In_state, block_of}
use Rattle.hept_ast.specs.Meaning.{call_of, clock_seen}
use Rattle.hept_ast.specs.Sites.{Piece, Expression, Statement, Core_statement, Body, Site, expressions, conditions, state_pieces, callee_pieces, form_pieces, clock_of_left, equation_pieces, body_pieces, pieces, async_site, form_site, own_site, SitesOf, whole, SitesOfAll, none, first, Sites}
use Rattle.hept_ast.specs.declared.name.Place.{Place}
use Rattle.hept_ast.specs.declared.tree.Expr.{Expr}
use Rattle.hept_ast.specs.declared.tree.MergeBranch.{MergeBranch}
use Rattle.hept_ast.specs.declared.tree.Block as tree
use Rattle.hept_ast.specs.declared.tree.Branch.{Branch}
use Rattle.hept_ast.specs.declared.tree.State.{State}
use Rattle.hept_ast.specs.declared.tree.Escape.{Escape}
use Rattle.hept_ast.specs.declared.tree.Decl.{Decl}
use Rattle.hept_ast.specs.declared.tree.Ty.{Ty}
use Rattle.hept_ast.specs.declared.tree.ClockStep.{ClockStep}
use Rattle.hept_ast.specs.declared.tree.Form.{Form, out-Form}
use Rattle.hept_ast.specs.declared.tree.Form.TheOpen.{Form-F}
use Rattle.hept_ast.specs.declared.tree.Equation.{Equation, out-Equation}
use Rattle.hept_ast.specs.declared.tree.Equation.TheOpen.{Equation-F}
use Rattle.sound_expressions.specs.Sound.{Within, Sees, Sound, SoundArguments, SoundBranches, is_constant, is_async_constant, is_variable, is_last, is_unary, is_binary, is_if, is_fby, is_pre, is_arrow, is_when, is_merge, is_call, is_async_call, is_get, no_arguments, an_argument, a_branch}
use Rattle.accepted_meaning.specs.SoundNodes.{SoundLeft, no_left, a_left, within}
use Rattle.accepted_meaning.specs.Placing.{at_top, at_branch, at_reset, site_of}
use Rattle.accepted_meaning.specs.Running.{Run, IsSoundRun, StandsIn, setting_of, text_run}
use Rattle.accepted_meaning.specs.Structure.{IsEquationOf, IsCallIn}
use Rattle.accepted_meaning.specs.Asked.{IsScoped, IsAsked}
use Rattle.accepted_meaning.proofs.KnownScopes.{scoped_first, scoped_step}
use Rattle.accepted_meaning.proofs.KnownReached.{with_itself}
use Rattle.accepted_meaning.proofs.FitsForms.{take_front}
use Rattle.accepted_meaning.proofs.FitsStates.{state_stands}
use Rattle.accepted_meaning.proofs.FitsTexts.{sound_define, sound_switch, sound_reset, sound_weak, sound_strong, clock_here}
use Rattle.accepted_meaning.proofs.FitsInterfaces.{of_call, pair_is, call_of_node, async_call_of_node}
use Rattle.std.specs.Option.{option_map}
use Rattle.hept_ast.specs.Settings.{written_node}
use Rattle.accepted_meaning.proofs.StaticCalls.{node_of_name}
use Rattle.accepted_meaning.proofs.TextClocks.{scoped_clocks}

-- the call of a site, in the scope where it stands
pub record IsSoundSite (r : Run) (site : Site) : Type 0 where
  pub within : Within
  pub callee : Within
  pub call : Expr
  pub types : List Ty
  pub stands : StandsIn r within site.scope
  pub asked : IsAsked r site.scope
  pub scoped : IsScoped r within site.scope site.clock
  pub sound : Sound within (site_of site.scope) call site.clock types
  pub calls : IsCallIn r within site.scope call site.clock site.args site.text callee
  pub place : call.place.0 ≡ site.place

-- each plain equation has a name on its left side
abbrev pub HasLefts : Run → Type 0
HasLefts r = (k : Within) (s : Scope) (e : Equation) (p : Place) (right : Expr) → IsEquationOf r k s e → out-Equation e ≡ Equation-F.Define p [] right → ⊥

-- a piece of the text of a sound run
abbrev Good : Run → Piece → Type 0
Good r (Expression e clock s) = (k : Within) × (ts : List Ty) × StandsIn r k s × IsAsked r s × IsScoped r k s clock × Sound k (site_of s) e clock ts
Good r (Statement e s) = (k : Within) × IsEquationOf r k s e × IsAsked r s
Good r (Core_statement e s) = ⊥
Good r (Body s) = (k : Within) × StandsIn r k s × IsAsked r s

abbrev All_good : Run → List Piece → Type 0
All_good r [] = ⊤
All_good r (p ∷ ps) = Good r p × All_good r ps

good_append : (r : Run) (ps qs : List Piece) → All_good r ps → All_good r qs → All_good r (ps ++ qs)
good_append r [] qs h k = k
good_append r (p ∷ ps) qs h k = (h.0, good_append r ps qs h.1 k)

-- ---- the pieces of an expression

-- an expression's scope, with its clock
record Here (r : Run) (k : Within) (s : Scope) (c : Clock) : Type 0 where
  stands : StandsIn r k s
  asked : IsAsked r s
  scoped : IsScoped r k s c

good_one : (r : Run) (k : Within) (s : Scope) (c : Clock) (e : Expr) (ts : List Ty) → Here r k s c → Sound k (site_of s) e c ts → Good r (Expression e c s)
good_one r k s c e ts h sound = (k, ts, h.stands, h.asked, h.scoped, sound)

good_arguments : (r : Run) (k : Within) (s : Scope) (c : Clock) (args : List Expr) (tss : List (List Ty)) → Here r k s c → SoundArguments k (site_of s) args c tss → All_good r (expressions args c s)
good_arguments r k s c args tss h no_arguments = tt
good_arguments r k s c args tss h (an_argument {e = e} {es = es} {ts = ts} {tss = uss} sound defined rest) = (good_one r k s c e ts h sound, good_arguments r k s c es uss h rest)

step_scoped : (r : Run) (k : Within) (s : Scope) (c : Clock) (step : ClockStep) (d : Decl) → Here r k s c → Sees k (site_of s) step.name d c → Here r k s (c ++ step ∷ [])
step_scoped r k s c step d h sees = record { stands = h.stands; asked = h.asked; scoped = scoped_step r k s c step h.scoped (record { scope = s; together = with_itself s; stands = h.stands; declaration = d; sees = sees }) }

good_branches : (r : Run) (k : Within) (s : Scope) (x : Name) (d : Decl) (t : Ty) (c : Clock) (bs : List MergeBranch) (tss : List (List Ty)) → Here r k s c → Sees k (site_of s) x d c → SoundBranches k (site_of s) x t c bs tss →
    All_good r (map (λ m. Expression m.value (c ++ record { tag = m.tag; name = x } ∷ []) s) bs)
good_branches r k s x d t c [] tss h sees sb = tt
good_branches r k s x d t c (m ∷ bs) [] h sees sb = elim sb [ ]
good_branches r k s x d t c (m ∷ bs) (ts ∷ tss) h sees (a_branch tag sound defined rest) =
    (good_one r k s (c ++ record { tag = m.tag; name = x } ∷ []) m.value ts (step_scoped r k s c (record { tag = m.tag; name = x }) d h sees) sound, good_branches r k s x d t c bs tss h sees rest)

good_callee : (r : Run) (k callee : Within) (s : Scope) (c : Clock) (e : Expr) (args : List Expr) (text : Text) (o : Option (List Expr × Text)) → Here r k s c → IsCallIn r k s e c args text callee → o ≡ Some (args, text) →
    All_good r (callee_pieces (setting_of r) o e.place.0 c s)
good_callee r k callee s c e args text o h call is = subst (λ (x : Option (List Expr × Text)). All_good r (callee_pieces (setting_of r) x e.place.0 c s)) (sym is)
    ((callee, call.stands, (k, callee, e, h.asked, h.stands, call, refl, h.scoped)), tt)

by_form : (r : Run) (e : Expr) (c : Clock) (s : Scope) (v : Form-F Form Expr MergeBranch) → out-Form e.form ≡ v → All_good r (form_pieces (setting_of r) v e c s) → All_good r (form_pieces (setting_of r) (out-Form e.form) e c s)
by_form r e c s v is h = subst (λ (f : Form-F Form Expr MergeBranch). All_good r (form_pieces (setting_of r) f e c s)) (sym is) h

when_good : (r : Run) (k : Within) (s : Scope) (c front : Clock) (step : ClockStep) (a : Expr) (us : List Ty) → Here r k s c → c ≡ front ++ step ∷ [] → Sound k (site_of s) a front us → All_good r (expressions (a ∷ []) (take (length c - 1) c) s)
when_good r k s c front step a us h is sound =
    let same : front ≡ take (length c - 1) c = sym (ap (λ (d : Clock). take (length d - 1) d) is ∙ take_front front step) in
    let sc : IsScoped r k s front = scoped_first r k s front (step ∷ []) (subst (λ (d : Clock). IsScoped r k s d) is h.scoped) in
    subst (λ (d : Clock). All_good r (expressions (a ∷ []) d s)) same (good_one r k s front a us (record { stands = h.stands; asked = h.asked; scoped = sc }) sound, tt)

good_form : (r : Run) → IsSoundRun r → (k : Within) (s : Scope) (e : Expr) (c : Clock) (ts : List Ty) → Here r k s c → Sound k (site_of s) e c ts → All_good r (form_pieces (setting_of r) (out-Form e.form) e c s)
good_form r run k s e c ts h (is_constant {v = v} is known fits) = by_form r e c s (Form-F.Const v) is tt
good_form r run k s e c ts h (is_async_constant {v = v} is known fits) = by_form r e c s (Form-F.AsyncConst v) is tt
good_form r run k s e c ts h (is_variable {x = x} is sees) = by_form r e c s (Form-F.Var x) is tt
good_form r run k s e c ts h (is_last {x = x} is sees init) = by_form r e c s (Form-F.Last x) is tt
good_form r run k s e c ts h (is_unary {a = a} {op = op} {us = us} is sound fit) = by_form r e c s (Form-F.Unary op a) is (good_one r k s c a us h sound, tt)
good_form r run k s e c ts h (is_binary {a = a} {b = b} {op = op} {us = us} {vs = vs} is left right fit nonzero) = by_form r e c s (Form-F.Binary op a b) is (good_one r k s c a us h left, (good_one r k s c b vs h right, tt))
good_form r run k s e c ts h (is_if {i = i} {a = a} {b = b} {is = bs} {us = us} {vs = vs} is test left right fit) =
    by_form r e c s (Form-F.If i a b) is (good_one r k s c i bs h test, (good_one r k s c a us h left, (good_one r k s c b vs h right, tt)))
good_form r run k s e c ts h (is_fby {a = a} {b = b} {us = us} {vs = vs} is left right fit defined) = by_form r e c s (Form-F.Fby a b) is (good_one r k s c a us h left, (good_one r k s c b vs h right, tt))
good_form r run k s e c ts h (is_pre {a = a} {us = us} is sound fit defined) = by_form r e c s (Form-F.Pre a) is (good_one r k s c a us h sound, tt)
good_form r run k s e c ts h (is_arrow {a = a} {b = b} {us = us} {vs = vs} is left right fit) = by_form r e c s (Form-F.Arrow a b) is (good_one r k s c a us h left, (good_one r k s c b vs h right, tt))
good_form r run k s e c ts h (is_when {a = a} {c = front} {tag = tag} {x = x} {us = us} is sees sound tagged has fit defined) =
    by_form r e c s (Form-F.When a tag x) is (when_good r k s c front (record { tag = tag; name = x }) a us h refl sound)
good_form r run k s e c ts h (is_merge {x = x} {d = d} {bs = bs} {tss = tss} is sees tagged defined parts_of_merge all fit) = by_form r e c s (Form-F.Merge x bs) is (good_branches r k s x d d.ty c bs tss h sees parts_of_merge)
good_form r run k s e c ts h (is_call {f = f} {args = args} {tss = tss} is named given fit leads calls) =
    let o = call_of_node r run (node_of_name r run) k s e c ts f args h.stands (is_call is named given fit leads calls) is in
    by_form r e c s (Form-F.Call f args) is
    (good_append r (callee_pieces (setting_of r) (call_of (setting_of r) (Form-F.Call f args)) e.place.0 c s) (expressions args c s)
    (good_callee r k o.1 s c e args o.0 (call_of (setting_of r) (Form-F.Call f args)) h o.2 (sym (ap (call_of (setting_of r)) is) ∙ o.2.call)) (good_arguments r k s c args tss h given))
good_form r run k s e c ts h (is_async_call {q = q} {f = f} {args = args} {tss = tss} is named given fit leads calls) = by_form r e c s (Form-F.AsyncCall q f args) is (good_arguments r k s c args tss h given)
good_form r run k s e c ts h (is_get {a = a} {us = us} is sound fit) = by_form r e c s (Form-F.Get a) is (good_one r k s c a us h sound, tt)

-- ---- the pieces of an equation

-- a scope's equation
record Equation_here (r : Run) (k : Within) (s : Scope) (e : Equation) : Type 0 where
  stands : IsEquationOf r k s e
  asked : IsAsked r s

base : (r : Run) (k : Within) (s : Scope) → StandsIn r k s → IsAsked r s → Here r k s []
base r k s stands asked = record { stands = stands; asked = asked; scoped = tt }

good_right : (r : Run) → (k : Within) (s : Scope) (e : Equation) (left : List Name) (right : Expr) (c : Clock) (ts : List Ty) → Equation_here r k s e → (left ≡ [] → ⊥) → Sound k (site_of s) right c ts →
    SoundLeft k (site_of s) c left ts → Good r (Expression right (clock_of_left (setting_of r) left s) s)
good_right r k s e left right c ts h some sound no_left = absurd (some refl)
good_right r k s e left right c ts h some sound (a_left {x = x} {d = d} sees input rest) =
    let same : clock_seen (setting_of r) x s ≡ c = clock_here r k s x d c h.stands.stands sees in
    subst (λ (b : Clock). Good r (Expression right b s)) (sym same)
    (good_one r k s c right ts (record { stands = h.stands.stands; asked = h.asked; scoped = scoped_clocks r k s x d c h.stands.stands sees }) sound)

good_bodies : (r : Run) (k : Within) (s : Scope) (e : Equation) (p : Place) (on : Expr) (branches bs : List Branch) → Equation_here r k s e → out-Equation e ≡ Equation-F.Switch p on branches →
    ((b : Branch) → Contains bs b → Contains branches b) → All_good r (map (λ b. Body (In_branch s on b)) bs)
good_bodies r k s e p on branches [] h is inside = tt
good_bodies r k s e p on branches (b ∷ bs) h is inside =
    let st : StandsIn r k s = h.stands.stands in (
      (k, record { number = st.number; of_node = st.of_node; text = st.text; placed = at_branch st.placed h.stands.in_block is (inside b (0, omega arith, refl)) }, h.asked),
      good_bodies r k s e p on branches bs h is (λ x i. inside x (Contains-append_right (b ∷ []) bs x i)),
    )

good_conditions : (r : Run) (k : Within) (s : Scope) (es : List Escape) → StandsIn r k s → IsAsked r s → ((e : Escape) → Contains es e → (ts : List Ty) × Sound k (site_of s) e.condition [] ts) → All_good r (conditions es s)
good_conditions r k s [] stands asked each = tt
good_conditions r k s (e ∷ es) stands asked each =
    let o = each e (0, omega arith, refl) in
    (good_one r k s [] e.condition o.0 (base r k s stands asked) o.1, good_conditions r k s es stands asked (λ x i. each x (Contains-append_right (e ∷ []) es x i)))

good_states : (r : Run) (k : Within) (s : Scope) (e : Equation) (p : Place) (states qs : List State) (n : ℕ) → Equation_here r k s e → out-Equation e ≡ Equation-F.Automaton p states →
    ((i : ℕ) (q : State) → slice_get qs i ≡ Some q → slice_get states (n + i) ≡ Some q) → All_good r (state_pieces qs states n s)
good_states r k s e p states [] n h is at = tt
good_states r k s e p states (q ∷ qs) n h is at =
    let none' : n + 0 ≡ n = omega arith in
    let here : slice_get states n ≡ Some q = ap (slice_get states) (sym none') ∙ at 0 q refl in
    let inner : StandsIn r k (In_state s states n) = state_stands r k s e p states n q h.stands is here in (
      (k, inner, h.asked),
      good_append r (conditions q.weak (In_state s states n) ++ conditions q.strong s) (state_pieces qs states (suc n) s)
          (good_append r (conditions q.weak (In_state s states n)) (conditions q.strong s)
          (good_conditions r k (In_state s states n) q.weak inner h.asked (λ x i. (_, (sound_weak r k s e p states n q x h.stands is here i).0.sound)))
          (good_conditions r k s q.strong h.stands.stands h.asked (λ x i. (_, (sound_strong r k s e p states n q x h.stands is here i).0.sound))))
          (good_states r k s e p states qs (suc n) h is (λ i x f. let more : n + suc i ≡ suc n + i = omega arith in ap (slice_get states) (sym more) ∙ at (suc i) x f)),
    )

good_equation : (r : Run) → HasLefts r → (k : Within) (s : Scope) (e : Equation) (v : Equation-F Equation tree.Block Branch State) → Equation_here r k s e → out-Equation e ≡ v → All_good r (equation_pieces (setting_of r) v s)
good_equation r lefts k s e (Equation-F.Define p left right) h is =
    let o = sound_define r k s e p left right h.stands is in
    (good_right r k s e left right o.0 o.1 h (λ empty. lefts k s e p right h.stands (is ∙ ap (λ (xs : List Name). Equation-F.Define p xs right) empty)) o.2 o.3, tt)
good_equation r lefts k s e (Equation-F.Switch p on branches) h is =
    let o = sound_switch r k s e p on branches h.stands is in
    (good_one r k s [] on (o.type ∷ []) (base r k s h.stands.stands h.asked) o.sound, good_bodies r k s e p on branches branches h is (λ b i. i))
good_equation r lefts k s e (Equation-F.Reset p block every) h is =
    let o = sound_reset r k s e p block every h.stands is in
    let st : StandsIn r k s = h.stands.stands in
    ((k, record { number = st.number; of_node = st.of_node; text = st.text; placed = at_reset st.placed h.stands.in_block is }, h.asked), (good_one r k s [] every _ (base r k s st h.asked) o.0.sound, tt))
good_equation r lefts k s e (Equation-F.Automaton p states) h is = good_states r k s e p states states 0 h is (λ i q f. let same : 0 + i ≡ i = omega arith in ap (slice_get states) same ∙ f)

good_block : (r : Run) (k : Within) (s : Scope) (es : List Equation) → StandsIn r k s → IsAsked r s → ((e : Equation) → Contains es e → Contains (block_of s).body e) → All_good r (map (λ e. Statement e s) es)
good_block r k s [] stands asked inside = tt
good_block r k s (e ∷ es) stands asked inside =
    ((k, record { stands = stands; in_block = inside e (0, omega arith, refl) }, asked), good_block r k s es stands asked (λ x i. inside x (Contains-append_right (e ∷ []) es x i)))

-- the pieces of a sound piece are sound
pub good_pieces : (r : Run) → IsSoundRun r → HasLefts r → (p : Piece) → Good r p → All_good r (pieces (setting_of r) p)
good_pieces r run lefts (Expression e c s) (k, ts, stands, asked, sc, sound) = good_form r run k s e c ts (record { stands = stands; asked = asked; scoped = sc }) sound
good_pieces r run lefts (Statement e s) (k, stands, asked) = good_equation r lefts k s e (out-Equation e) (record { stands = stands; asked = asked }) refl
good_pieces r run lefts (Core_statement e s) h = absurd h
good_pieces r run lefts (Body s) (k, stands, asked) =
    subst (λ (text : Text). All_good r (body_pieces (setting_of r) text s)) (sym stands.text) (good_block r k s (block_of s).body stands asked (λ e i. i))

-- ---- sites

abbrev Sound_sites : Run → List Site → Type 0
Sound_sites r [] = ⊤
Sound_sites r (site ∷ sites) = IsSoundSite r site × Sound_sites r sites

sites_append : (r : Run) (xs ys : List Site) → Sound_sites r xs → Sound_sites r ys → Sound_sites r (xs ++ ys)
sites_append r [] ys h k = k
sites_append r (x ∷ xs) ys h k = (h.0, sites_append r xs ys h.1 k)

async_sites : (r : Run) (k : Within) (s : Scope) (e : Expr) (c : Clock) (ts : List Ty) (q : ℕ) (args : List Expr) (o : Option Text) (text : Text) (callee : Within) → Here r k s c → Sound k (site_of s) e c ts →
    IsCallIn r k s e c args text callee → o ≡ Some text → Sound_sites r (async_site (setting_of r) o q args e.place.0 c s)
async_sites r k s e c ts q args o text callee h sound call is = subst (λ (x : Option Text). Sound_sites r (async_site (setting_of r) x q args e.place.0 c s)) (sym is)
    (record { within = k; callee = callee; call = e; types = ts; stands = h.stands; asked = h.asked; scoped = h.scoped; sound = sound; calls = call; place = refl }, tt)

by_view : (r : Run) (e : Expr) (c : Clock) (s : Scope) (v : Form-F Form Expr MergeBranch) → out-Form e.form ≡ v → Sound_sites r (form_site (setting_of r) v e c s) → Sound_sites r (form_site (setting_of r) (out-Form e.form) e c s)
by_view r e c s v is h = subst (λ (f : Form-F Form Expr MergeBranch). Sound_sites r (form_site (setting_of r) f e c s)) (sym is) h

-- the name of a call's node
called_text : (args us : List Expr) (o : Option Text) (text : Text) → option_map (of_call us) o ≡ Some (of_call args text) → o ≡ Some text
called_text args us None text e = cc
called_text args us (Some t) text e = ap (λ (x : Text). Some x) (pair_is us args t text e)

form_sites : (r : Run) → IsSoundRun r → (k : Within) (s : Scope) (e : Expr) (c : Clock) (ts : List Ty) → Here r k s c → Sound k (site_of s) e c ts → Sound_sites r (form_site (setting_of r) (out-Form e.form) e c s)
form_sites r run k s e c ts h (is_async_call {q = q} {f = f} {args = args} is named given fit leads calls) =
    let sound : Sound k (site_of s) e c ts = is_async_call is named given fit leads calls in
    let o = async_call_of_node r run (node_of_name r run) k s e c ts q f args h.stands sound is in
    let node : written_node r.program.program.nodes 0 f ≡ Some o.0 = called_text args args (written_node r.program.program.nodes 0 f) o.0 (sym (ap (call_of (setting_of r)) is) ∙ o.2.call) in
    by_view r e c s (Form-F.AsyncCall q f args) is (async_sites r k s e c ts q args (written_node r.program.program.nodes 0 f) o.0 o.1 h sound o.2 node)
form_sites r run k s e c ts h (is_constant {v = v} is known fits) = by_view r e c s (Form-F.Const v) is tt
form_sites r run k s e c ts h (is_async_constant {v = v} is known fits) = by_view r e c s (Form-F.AsyncConst v) is tt
form_sites r run k s e c ts h (is_variable {x = x} is sees) = by_view r e c s (Form-F.Var x) is tt
form_sites r run k s e c ts h (is_last {x = x} is sees init) = by_view r e c s (Form-F.Last x) is tt
form_sites r run k s e c ts h (is_unary {a = a} {op = op} is sound fit) = by_view r e c s (Form-F.Unary op a) is tt
form_sites r run k s e c ts h (is_binary {a = a} {b = b} {op = op} is left right fit nonzero) = by_view r e c s (Form-F.Binary op a b) is tt
form_sites r run k s e c ts h (is_if {i = i} {a = a} {b = b} is test left right fit) = by_view r e c s (Form-F.If i a b) is tt
form_sites r run k s e c ts h (is_fby {a = a} {b = b} is left right fit defined) = by_view r e c s (Form-F.Fby a b) is tt
form_sites r run k s e c ts h (is_pre {a = a} is sound fit defined) = by_view r e c s (Form-F.Pre a) is tt
form_sites r run k s e c ts h (is_arrow {a = a} {b = b} is left right fit) = by_view r e c s (Form-F.Arrow a b) is tt
form_sites r run k s e c ts h (is_when {a = a} {tag = tag} {x = x} is sees sound tagged has fit defined) = by_view r e c s (Form-F.When a tag x) is tt
form_sites r run k s e c ts h (is_merge {x = x} {bs = bs} is sees tagged defined parts_of_merge all fit) = by_view r e c s (Form-F.Merge x bs) is tt
form_sites r run k s e c ts h (is_call {f = f} {args = args} is named given fit leads calls) = by_view r e c s (Form-F.Call f args) is tt
form_sites r run k s e c ts h (is_get {a = a} is sound fit) = by_view r e c s (Form-F.Get a) is tt

own_sites : (r : Run) → IsSoundRun r → (p : Piece) → Good r p → Sound_sites r (own_site (setting_of r) p)
own_sites r run (Expression e c s) (k, ts, stands, asked, sc, sound) = form_sites r run k s e c ts (record { stands = stands; asked = asked; scoped = sc }) sound
own_sites r run (Statement e s) h = tt
own_sites r run (Core_statement e s) h = tt
own_sites r run (Body s) h = tt

module _ (r : Run) (run : IsSoundRun r) (lefts : HasLefts r) where
  mutual
    sites_of : (p : Piece) (sites : List Site) → SitesOf (setting_of r) p sites → Good r p → Sound_sites r sites
    sites_of p sites (whole {sites = inner} h) good = sites_append r (own_site (setting_of r) p) inner (own_sites r run p good) (sites_of_all (pieces (setting_of r) p) inner h (good_pieces r run lefts p good))

    sites_of_all : (ps : List Piece) (sites : List Site) → SitesOfAll (setting_of r) ps sites → All_good r ps → Sound_sites r sites
    sites_of_all ps sites none good = tt
    sites_of_all ps sites (first {piece = p} {rest = rest} {sites = xs} {others = ys} h hs) good = sites_append r xs ys (sites_of p xs h good.0) (sites_of_all rest ys hs good.1)

  contained_site : (sites : List Site) (site : Site) → Sound_sites r sites → Contains sites site → IsSoundSite r site
  contained_site [] site h (n, less, at) = absurd (omega (arith, less))
  contained_site (x ∷ xs) site h (zero, less, at) = subst (λ (y : Site). IsSoundSite r y) at h.0
  contained_site (x ∷ xs) site h (suc n, less, at) = contained_site xs site h.1 (n, omega (arith, less), at)

  -- the chosen node's own body
  top_good : Good r (Body (Top (text_run r)))
  top_good =
      let o = run.sound.sound_nodes r.number r.node run.chosen in (
        within r.program r.number r.node o.0,
        record { number = r.number; of_node = record { node = r.node; grades = o.0; at = run.chosen; is = refl; sound_node = o.1 }; text = refl; placed = at_top },
        tt,
      )

  pub site_sound : (sites : List Site) (site : Site) → Sites (setting_of r) (text_run r) sites → Contains sites site → IsSoundSite r site
  site_sound sites site h inside =
      contained_site sites site (subst (λ (xs : List Site). Sound_sites r xs) h.order (sites_of (Body (Top (text_run r))) h.found h.all top_good)) inside
