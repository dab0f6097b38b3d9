-- The pieces of the expanded text of a sound program: each stands in the text of a node, and its expressions are sound.
use Rattle.std.proofs.Common.{◌≡◌, ℕ, suc, ◌+◌, ◌-◌, Bool, true, false, List, [], ◌∷◌, ◌++◌, Option, Some, None, length, map, take, refl, sym, ap, subst, ◌∙◌, arith}
use Rattle.std.specs.Prelude.{⊤, Contains, slice_get, if◌then◌else◌}
use Rattle.std.specs.Option.{option_map}
use Rattle.std.proofs.lemmas.List.Elements.{Contains-append_right}
use Rattle.hept_ast.specs.Texts.{Name, same}
use Rattle.hept_ast.specs.Scopes.{Clock, Text, Written, Scope, Top, Called, In_branch, In_state, block_of}
use Rattle.hept_ast.specs.Meaning.{call_of, clock_seen}
use Rattle.hept_ast.specs.Settings.{written_node}
use Rattle.hept_ast.specs.Sites.{Piece, Expression, Statement, Core_statement, Body, expressions, conditions, state_pieces, callee_pieces, form_pieces, clock_of_left, equation_pieces, body_pieces, pieces}
use Rattle.hept_ast.specs.Paths.{IsAmong, at_head, in_tail}
use Rattle.hept_ast.specs.declared.name.Place.{Place}
use Rattle.hept_ast.specs.declared.tree.Expr.{Expr}
use Rattle.hept_ast.specs.declared.tree.Node.{Node}
use Rattle.hept_ast.specs.declared.tree.MergeBranch.{MergeBranch}
use Rattle.hept_ast.specs.declared.tree.Block as tree
use Rattle.hept_ast.specs.declared.tree.Branch.{Branch}
use Rattle.hept_ast.specs.declared.tree.State.{State}
use Rattle.hept_ast.specs.declared.tree.Escape.{Escape}
use Rattle.hept_ast.specs.declared.tree.Ty.{Ty}
use Rattle.hept_ast.specs.declared.tree.ClockStep.{ClockStep}
use Rattle.hept_ast.specs.declared.tree.Form.{Form, out-Form}
use Rattle.hept_ast.specs.declared.tree.Form.TheOpen.{Form-F}
use Rattle.hept_ast.specs.declared.tree.Equation.{Equation, out-Equation}
use Rattle.hept_ast.specs.declared.tree.Equation.TheOpen.{Equation-F}
use Rattle.sound_expressions.specs.Sound.{Within, Sound, SoundArguments, SoundBranches, is_constant, is_async_constant, is_variable, is_last, is_unary, is_binary, is_if, is_fby, is_pre, is_arrow, is_when, is_merge, is_call, is_async_call, is_get, no_arguments, an_argument, a_branch}
use Rattle.accepted_meaning.specs.SoundNodes.{SoundLeft, SoundNode, SoundProgram, no_left, a_left, within}
use Rattle.accepted_meaning.specs.Placing.{IsPlaced, at_top, at_call, at_branch, at_reset, site_of}
use Rattle.accepted_meaning.specs.Running.{Run, StandsIn, setting_of, text_run}
use Rattle.accepted_meaning.specs.Structure.{IsEquationOf}
use Rattle.accepted_meaning.proofs.KnownTrees.{IsSingle, AllSingle, alike_single, unary_single, binary_single, if_single, call_single, async_single, get_single}
use Rattle.accepted_meaning.proofs.FitsForms.{take_front}
use Rattle.accepted_meaning.proofs.FitsStates.{state_stands}
use Rattle.accepted_meaning.proofs.FitsTexts.{sound_define, sound_switch, sound_reset, sound_weak, sound_strong, clock_here}
use Rattle.accepted_meaning.proofs.SentSites.{HasLefts}
use Rattle.accepted_meaning.proofs.TextLists.{no_some, same_some}

-- an expression on a clock in a scope, which gives something
pub record SoundExpression (r : Run) (e : Expr) (c : Clock) (s : Scope) : Type 0 where
  pub within : Within
  pub types : List Ty
  pub stands : StandsIn r within s
  pub sound : Sound within (site_of s) e c types
  pub some : types ≡ [] → ⊥

pub record SoundStatement (r : Run) (e : Equation) (s : Scope) : Type 0 where
  pub within : Within
  pub equation : IsEquationOf r within s e

pub record SoundBody (r : Run) (s : Scope) : Type 0 where
  pub within : Within
  pub stands : StandsIn r within s

abbrev pub IsSoundPiece : Run → Piece → Type 0
IsSoundPiece r (Expression e clock s) = SoundExpression r e clock s
IsSoundPiece r (Statement e s) = SoundStatement r e s
IsSoundPiece r (Core_statement e s) = ⊥
IsSoundPiece r (Body s) = SoundBody r s

abbrev pub AllSound : Run → List Piece → Type 0
AllSound r [] = ⊤
AllSound r (p ∷ ps) = IsSoundPiece r p × AllSound r ps

pub sound_append : (r : Run) (ps qs : List Piece) → AllSound r ps → AllSound r qs → AllSound r (ps ++ qs)
sound_append r [] qs h k = k
sound_append r (p ∷ ps) qs h k = (h.0, sound_append r ps qs h.1 k)

pub sound_among : (r : Run) (p : Piece) (ps : List Piece) → AllSound r ps → IsAmong p ps → IsSoundPiece r p
sound_among r p ps h (at_head {rest = rest}) = h.0
sound_among r p ps h (in_tail {other = other} {rest = rest} k) = sound_among r p rest h.1 k

-- ---- called nodes

named_text : (P : Text → Type 0) (nodes : List Node) (n : ℕ) (f : Name) (text : Text) → ((i : ℕ) (g : Node) → slice_get nodes i ≡ Some g → P (Written (n + i) g)) → written_node nodes n f ≡ Some text → P text
named_text P [] n f text h e = no_some e
named_text P (g ∷ nodes) n f text h e = go (same f g.name) e (λ k. named_text P nodes (suc n) f text (λ i x at. let next : n + suc i ≡ suc n + i = omega arith in subst (λ m. P (Written m x)) next (h (suc i) x at)) k)
  where
    go : (b : Bool) → (if b then Some (Written n g) else written_node nodes (suc n) f) ≡ Some text → (written_node nodes (suc n) f ≡ Some text → P text) → P text
    go true k rest = let none : n + 0 ≡ n = omega arith in subst P (same_some k) (subst (λ m. P (Written m g)) none (h 0 g refl))
    go false k rest = rest k

abbrev calling : List Expr → Text → List Expr × Text
calling args text = (args, text)

called_text : (args us : List Expr) (o : Option Text) (text : Text) → option_map (calling us) o ≡ Some (calling args text) → o ≡ Some text
called_text args us None text e = no_some e
called_text args us (Some t) text e = let h : calling us t ≡ calling args text = same_some e in ap (λ (x : List Expr × Text). Some x.1) h

-- what is called is a node of the program
called_node : (r : Run) (P : Text → Type 0) (v : Form-F Form Expr MergeBranch) (args : List Expr) (text : Text) → call_of (setting_of r) v ≡ Some (args, text) →
    ((m : ℕ) (g : Node) → slice_get r.program.program.nodes m ≡ Some g → P (Written m g)) → P text
called_node r P (Form-F.Call f us) args text e h =
    named_text P r.program.program.nodes 0 f text (λ i g at. let none : i ≡ 0 + i = omega arith in subst (λ n. P (Written n g)) none (h i g at)) (called_text args us _ text e)
called_node r P (Form-F.AsyncCall q f us) args text e h =
    named_text P r.program.program.nodes 0 f text (λ i g at. let none : i ≡ 0 + i = omega arith in subst (λ n. P (Written n g)) none (h i g at)) (called_text args us _ text e)
called_node r P _ args text e h = no_some e

-- the body of a called node stands in it
pub body_stands : (r : Run) → SoundProgram r.program → (k : Within) (s : Scope) (e : Expr) (c : Clock) (ts : List Ty) (args : List Expr) (text : Text) → StandsIn r k s → Sound k (site_of s) e c ts →
    call_of (setting_of r) (out-Form e.form) ≡ Some (args, text) → SoundBody r (Called s c e.place.0 args text)
body_stands r program k s e c ts args text st sound call = called_node r (λ t. call_of (setting_of r) (out-Form e.form) ≡ Some (args, t) → SoundBody r (Called s c e.place.0 args t)) (out-Form e.form) args text call
    (λ m g at is.
    let own : k ≡ within r.program st.number st.of_node.node st.of_node.grades = st.of_node.is in
    let (grades, node_sound) = program.sound_nodes m g at in
    let placed : IsPlaced r.program (setting_of r) (text_run r) (Called s c e.place.0 args (Written m g)) =
    at_call st.placed (st.text ∙ ap (λ (x : Within). Written st.number x.node) own) (subst SoundNode own st.of_node.sound_node) (subst (λ (x : Within). Sound x (site_of s) e c ts) own sound) is in
    record {
      within = within r.program m g grades;
      stands = record { number = m; of_node = record { node = g; grades = grades; at = at; is = refl; sound_node = node_sound }; text = refl; placed = placed };
    }) call

pub called_stands : (r : Run) → SoundProgram r.program → (e : Expr) (c : Clock) (s : Scope) (args : List Expr) (text : Text) → SoundExpression r e c s →
    call_of (setting_of r) (out-Form e.form) ≡ Some (args, text) → SoundBody r (Called s c e.place.0 args text)
called_stands r program e c s args text h call = body_stands r program h.within s e c h.types args text h.stands h.sound call

-- ---- the pieces of an expression

pub sound_one : (r : Run) (k : Within) (s : Scope) (c : Clock) (e : Expr) (ts : List Ty) → StandsIn r k s → Sound k (site_of s) e c ts → IsSingle ts → SoundExpression r e c s
sound_one r k s c e ts stands sound single = record { within = k; types = ts; stands = stands; sound = sound; some = λ none. let h : single.type ∷ [] ≡ [] = sym single.is ∙ none in cc }

pub sound_arguments : (r : Run) (k : Within) (s : Scope) (c : Clock) (args : List Expr) (tss : List (List Ty)) → StandsIn r k s → SoundArguments k (site_of s) args c tss → AllSingle tss → AllSound r (expressions args c s)
sound_arguments r k s c args tss stands no_arguments single = tt
sound_arguments r k s c args tss stands (an_argument {e = e} {es = es} {ts = ts} {tss = uss} sound defined rest) single = (sound_one r k s c e ts stands sound single.0, sound_arguments r k s c es uss stands rest single.1)

sound_branches : (r : Run) (k : Within) (s : Scope) (x : Name) (t : Ty) (c : Clock) (bs : List MergeBranch) (tss : List (List Ty)) → StandsIn r k s → SoundBranches k (site_of s) x t c bs tss → AllSingle tss →
    AllSound r (map (λ m. Expression m.value (c ++ record { tag = m.tag; name = x } ∷ []) s) bs)
sound_branches r k s x t c [] tss stands sound single = tt
sound_branches r k s x t c (m ∷ bs) [] stands sound single = elim sound [ ]
sound_branches r k s x t c (m ∷ bs) (ts ∷ tss) stands (a_branch tag sound defined rest) single =
    (sound_one r k s (c ++ record { tag = m.tag; name = x } ∷ []) m.value ts stands sound single.0, sound_branches r k s x t c bs tss stands rest single.1)

by_form : (r : Run) (e : Expr) (c : Clock) (s : Scope) (v : Form-F Form Expr MergeBranch) → out-Form e.form ≡ v → AllSound r (form_pieces (setting_of r) v e c s) → AllSound r (form_pieces (setting_of r) (out-Form e.form) e c s)
by_form r e c s v is h = subst (λ (f : Form-F Form Expr MergeBranch). AllSound r (form_pieces (setting_of r) f e c s)) (sym is) h

when_sound : (r : Run) (k : Within) (s : Scope) (front : Clock) (step : ClockStep) (a : Expr) (us : List Ty) → StandsIn r k s → Sound k (site_of s) a front us → IsSingle us →
    AllSound r (expressions (a ∷ []) (take (length (front ++ step ∷ []) - 1) (front ++ step ∷ [])) s)
when_sound r k s front step a us stands sound single = subst (λ (d : Clock). AllSound r (expressions (a ∷ []) d s)) (sym (take_front front step)) (sound_one r k s front a us stands sound single, tt)

callee_sound : (r : Run) → SoundProgram r.program → (e : Expr) (c : Clock) (s : Scope) (o : Option (List Expr × Text)) → SoundExpression r e c s → call_of (setting_of r) (out-Form e.form) ≡ o → AllSound r (callee_pieces (setting_of r) o e.place.0 c s)
callee_sound r program e c s None h is = tt
callee_sound r program e c s (Some call) h is = (called_stands r program e c s call.0 call.1 h is, tt)

sound_form : (r : Run) → SoundProgram r.program → (k : Within) (s : Scope) (e : Expr) (c : Clock) (ts : List Ty) → StandsIn r k s → (ts ≡ [] → ⊥) → Sound k (site_of s) e c ts → AllSound r (form_pieces (setting_of r) (out-Form e.form) e c s)
sound_form r program k s e c ts h some (is_constant {v = v} is known fits) = by_form r e c s (Form-F.Const v) is tt
sound_form r program k s e c ts h some (is_async_constant {v = v} is known fits) = by_form r e c s (Form-F.AsyncConst v) is tt
sound_form r program k s e c ts h some (is_variable {x = x} is sees) = by_form r e c s (Form-F.Var x) is tt
sound_form r program k s e c ts h some (is_last {x = x} is sees init) = by_form r e c s (Form-F.Last x) is tt
sound_form r program k s e c ts h some (is_unary {a = a} {op = op} {us = us} is sound fit) = by_form r e c s (Form-F.Unary op a) is (sound_one r k s c a us h sound (unary_single op (us ∷ []) ts fit).0, tt)
sound_form r program k s e c ts h some (is_binary {a = a} {b = b} {op = op} {us = us} {vs = vs} is left right fit nonzero) =
    let o = binary_single op (us ∷ vs ∷ []) ts fit in
    by_form r e c s (Form-F.Binary op a b) is (sound_one r k s c a us h left o.0, (sound_one r k s c b vs h right o.1.0, tt))
sound_form r program k s e c ts h some (is_if {i = i} {a = a} {b = b} {is = bs} {us = us} {vs = vs} is test left right fit) =
    let o = if_single bs (us ∷ vs ∷ []) ts fit in
    by_form r e c s (Form-F.If i a b) is (sound_one r k s c i bs h test o.0, (sound_one r k s c a us h left o.1.0, (sound_one r k s c b vs h right o.1.1.0, tt)))
sound_form r program k s e c ts h some (is_fby {a = a} {b = b} {us = us} {vs = vs} is left right fit defined) =
    let o = (alike_single (us ∷ vs ∷ []) ts fit).0 in
    by_form r e c s (Form-F.Fby a b) is (sound_one r k s c a us h left o.0, (sound_one r k s c b vs h right o.1.0, tt))
sound_form r program k s e c ts h some (is_pre {a = a} {us = us} is sound fit defined) = by_form r e c s (Form-F.Pre a) is (sound_one r k s c a us h sound (alike_single (us ∷ []) ts fit).0.0, tt)
sound_form r program k s e c ts h some (is_arrow {a = a} {b = b} {us = us} {vs = vs} is left right fit) =
    let o = (alike_single (us ∷ vs ∷ []) ts fit).0 in
    by_form r e c s (Form-F.Arrow a b) is (sound_one r k s c a us h left o.0, (sound_one r k s c b vs h right o.1.0, tt))
sound_form r program k s e c ts h some (is_when {a = a} {c = front} {tag = tag} {x = x} {us = us} is sees sound tagged has fit defined) =
    by_form r e (front ++ record { tag = tag; name = x } ∷ []) s (Form-F.When a tag x) is (when_sound r k s front (record { tag = tag; name = x }) a us h sound (alike_single (us ∷ []) ts fit).0.0)
sound_form r program k s e c ts h some (is_merge {x = x} {d = d} {bs = bs} {tss = tss} is sees tagged defined branches all fit) =
    by_form r e c s (Form-F.Merge x bs) is (sound_branches r k s x d.ty c bs tss h branches (alike_single tss ts fit).0)
sound_form r program k s e c ts h some (is_call {f = f} {args = args} {g = g} {tss = tss} is named given fit leads calls) =
    let whole : SoundExpression r e c s = record { within = k; types = ts; stands = h; sound = is_call is named given fit leads calls; some = some } in
    by_form r e c s (Form-F.Call f args) is
    (sound_append r (callee_pieces (setting_of r) (call_of (setting_of r) (Form-F.Call f args)) e.place.0 c s) (expressions args c s)
    (callee_sound r program e c s (call_of (setting_of r) (Form-F.Call f args)) whole (ap (call_of (setting_of r)) is)) (sound_arguments r k s c args tss h given (call_single g tss ts fit)))
sound_form r program k s e c ts h some (is_async_call {q = q} {f = f} {args = args} {g = g} {tss = tss} is named given fit leads calls) =
    by_form r e c s (Form-F.AsyncCall q f args) is (sound_arguments r k s c args tss h given (async_single g tss ts fit))
sound_form r program k s e c ts h some (is_get {a = a} {us = us} is sound fit) = by_form r e c s (Form-F.Get a) is (sound_one r k s c a us h sound (get_single us ts fit), tt)

-- ---- the pieces of an equation

sound_right : (r : Run) (k : Within) (s : Scope) (left : List Name) (right : Expr) (c : Clock) (ts : List Ty) → StandsIn r k s → (left ≡ [] → ⊥) → Sound k (site_of s) right c ts →
    SoundLeft k (site_of s) c left ts → SoundExpression r right (clock_of_left (setting_of r) left s) s
sound_right r k s left right c ts stands some sound no_left = absurd (some refl)
sound_right r k s left right c ts stands some sound (a_left {x = x} {d = d} {ts = us} sees input rest) =
    let same_clock : clock_seen (setting_of r) x s ≡ c = clock_here r k s x d c stands sees in
    subst (λ (b : Clock). SoundExpression r right b s) (sym same_clock) (record { within = k; types = d.ty ∷ us; stands = stands; sound = sound; some = λ none. cc })

sound_bodies : (r : Run) (k : Within) (s : Scope) (e : Equation) (p : Place) (on : Expr) (branches bs : List Branch) → IsEquationOf r k s e → out-Equation e ≡ Equation-F.Switch p on branches →
    ((b : Branch) → Contains bs b → Contains branches b) → AllSound r (map (λ b. Body (In_branch s on b)) bs)
sound_bodies r k s e p on branches [] h is inside = tt
sound_bodies r k s e p on branches (b ∷ bs) h is inside =
    let st : StandsIn r k s = h.stands in (
      record { within = k; stands = record { number = st.number; of_node = st.of_node; text = st.text; placed = at_branch st.placed h.in_block is (inside b (0, omega arith, refl)) } },
      sound_bodies r k s e p on branches bs h is (λ x i. inside x (Contains-append_right (b ∷ []) bs x i)),
    )

one_type : (t : Ty) → IsSingle (t ∷ [])
one_type t = record { type = t; is = refl }

sound_conditions : (r : Run) (k : Within) (s : Scope) (es : List Escape) → StandsIn r k s → ((e : Escape) → Contains es e → (t : Ty) × Sound k (site_of s) e.condition [] (t ∷ [])) → AllSound r (conditions es s)
sound_conditions r k s [] stands each = tt
sound_conditions r k s (e ∷ es) stands each =
    let o = each e (0, omega arith, refl) in
    (sound_one r k s [] e.condition (o.0 ∷ []) stands o.1 (one_type o.0), sound_conditions r k s es stands (λ x i. each x (Contains-append_right (e ∷ []) es x i)))

sound_states : (r : Run) (k : Within) (s : Scope) (e : Equation) (p : Place) (states qs : List State) (n : ℕ) → IsEquationOf r k s e → out-Equation e ≡ Equation-F.Automaton p states →
    ((i : ℕ) (q : State) → slice_get qs i ≡ Some q → slice_get states (n + i) ≡ Some q) → AllSound r (state_pieces qs states n s)
sound_states r k s e p states [] n h is at = tt
sound_states r k s e p states (q ∷ qs) n h is at =
    let none : n + 0 ≡ n = omega arith in
    let here : slice_get states n ≡ Some q = ap (slice_get states) (sym none) ∙ at 0 q refl in
    let inner : StandsIn r k (In_state s states n) = state_stands r k s e p states n q h is here in (
      record { within = k; stands = inner },
      sound_append r (conditions q.weak (In_state s states n) ++ conditions q.strong s) (state_pieces qs states (suc n) s)
          (sound_append r (conditions q.weak (In_state s states n)) (conditions q.strong s)
          (sound_conditions r k (In_state s states n) q.weak inner (λ x i. (_, (sound_weak r k s e p states n q x h is here i).0.sound)))
          (sound_conditions r k s q.strong h.stands (λ x i. (_, (sound_strong r k s e p states n q x h is here i).0.sound))))
          (sound_states r k s e p states qs (suc n) h is (λ i x f. let more : n + suc i ≡ suc n + i = omega arith in ap (slice_get states) (sym more) ∙ at (suc i) x f)),
    )

sound_equation : (r : Run) → HasLefts r → (k : Within) (s : Scope) (e : Equation) (v : Equation-F Equation tree.Block Branch State) → IsEquationOf r k s e → out-Equation e ≡ v → AllSound r (equation_pieces (setting_of r) v s)
sound_equation r lefts k s e (Equation-F.Define p left right) h is =
    let o = sound_define r k s e p left right h is in
    (sound_right r k s left right o.0 o.1 h.stands (λ empty. lefts k s e p right h (is ∙ ap (λ (xs : List Name). Equation-F.Define p xs right) empty)) o.2 o.3, tt)
sound_equation r lefts k s e (Equation-F.Switch p on branches) h is =
    let o = sound_switch r k s e p on branches h is in
    (sound_one r k s [] on (o.type ∷ []) h.stands o.sound (one_type o.type), sound_bodies r k s e p on branches branches h is (λ b i. i))
sound_equation r lefts k s e (Equation-F.Reset p block every) h is =
    let o = sound_reset r k s e p block every h is in
    let st : StandsIn r k s = h.stands in
    (record { within = k; stands = record { number = st.number; of_node = st.of_node; text = st.text; placed = at_reset st.placed h.in_block is } }, (sound_one r k s [] every _ st o.0.sound (one_type _), tt))
sound_equation r lefts k s e (Equation-F.Automaton p states) h is = sound_states r k s e p states states 0 h is (λ i q f. let same_place : 0 + i ≡ i = omega arith in ap (slice_get states) same_place ∙ f)

sound_block : (r : Run) (k : Within) (s : Scope) (es : List Equation) → StandsIn r k s → ((e : Equation) → Contains es e → Contains (block_of s).body e) → AllSound r (map (λ e. Statement e s) es)
sound_block r k s [] stands inside = tt
sound_block r k s (e ∷ es) stands inside =
    (record { within = k; equation = record { stands = stands; in_block = inside e (0, omega arith, refl) } }, sound_block r k s es stands (λ x i. inside x (Contains-append_right (e ∷ []) es x i)))

-- the pieces of a sound piece are sound
pub sound_pieces : (r : Run) → SoundProgram r.program → HasLefts r → (p : Piece) → IsSoundPiece r p → AllSound r (pieces (setting_of r) p)
sound_pieces r program lefts (Expression e c s) h = sound_form r program h.within s e c h.types h.stands h.some h.sound
sound_pieces r program lefts (Statement e s) h = sound_equation r lefts h.within s e (out-Equation e) h.equation refl
sound_pieces r program lefts (Core_statement e s) h = absurd h
sound_pieces r program lefts (Body s) h = subst (λ (text : Text). AllSound r (body_pieces (setting_of r) text s)) (sym h.stands.text) (sound_block r h.within s (block_of s).body h.stands (λ e i. i))

-- the chosen node's own body
pub top_sound : (r : Run) → SoundProgram r.program → slice_get r.program.program.nodes r.number ≡ Some r.node → IsSoundPiece r (Body (Top (text_run r)))
top_sound r program chosen =
    let o = program.sound_nodes r.number r.node chosen in
    record {
      within = within r.program r.number r.node o.0;
      stands = record { number = r.number; of_node = record { node = r.node; grades = o.0; at = chosen; is = refl; sound_node = o.1 }; text = refl; placed = at_top };
    }
