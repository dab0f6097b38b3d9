-- A path names one call: the places of the calls around it tell the body that it stands in, and its own place tells the call.
use Rattle.std.proofs.Common.{◌≡◌, ℕ, zero, suc, Bool, true, false, List, [], ◌∷◌, ◌++◌, Option, Some, None, refl, sym, ap, subst, ◌∙◌}
use Rattle.std.specs.Prelude.{if◌then◌else◌, slice_get}
use Rattle.hept_ast.specs.Scopes.{Clock, Text, Written, Lowered, Scope, Top, Called, In_branch, In_body, In_state, Under, calls_around}
use Rattle.hept_ast.specs.Meaning.{Question, Output, Setting, call_of}
use Rattle.hept_ast.specs.Sites.{Piece, Expression, Statement, Core_statement, Body, Site, path_of, Sites, SitesOf, whole, SitesOfAll, none, first, expressions, callee_pieces, form_pieces, pieces, async_site, form_site, own_site, is_before, insert, by_number, in_text_order}
use Rattle.hept_ast.specs.OwnReplies.{Reached, of_top, of_restart, of_presence, of_argument, of_rule, PathsTell}
use Rattle.hept_ast.specs.Paths.{form_inside, StandsIn, itself, ScopeIn, at_body, at_branch, at_reset, at_state, at_right, IsFrame, whole_text, of_call, PlacesTell, LeftsAgree, PathsTellCalls}
use Rattle.hept_ast.specs.declared.tree.Expr.{Expr}
use Rattle.hept_ast.specs.declared.tree.MergeBranch.{MergeBranch}
use Rattle.hept_ast.specs.declared.tree.Form.{Form, out-Form}
use Rattle.hept_ast.specs.declared.tree.Form.TheOpen.{Form-F}
use Rattle.hept_ast.proofs.Reaching.{World, Stands, Stood, Good_piece, Good_all, good_append, good_inside_form, good_inside_equation, good_inside_body, good_inside_core, Good, good_asked, Caller, argument_good, called_stood}

-- ---- frames

pub calls_in : (w : Setting) (frame s : Scope) → ScopeIn w frame s → calls_around s ≡ calls_around frame
calls_in w frame s (at_body e root) = ap calls_around e
calls_in w frame (In_branch s on b) (at_branch i o body) = calls_in w frame s i
calls_in w frame (In_body s every block) (at_reset i o body) = calls_in w frame s i
calls_in w frame (In_state s states k) (at_state n node e p t i o is) = calls_in w frame s i
calls_in w frame (Under s resets) (at_right i) = calls_in w frame s i

one_more : (xs : List ℕ) (p : ℕ) → [] ≡ xs ++ p ∷ [] → ⊥
one_more [] p e = cc
one_more (x ∷ xs) p e = cc

same_last : (xs ys : List ℕ) (p q : ℕ) → xs ++ p ∷ [] ≡ ys ++ q ∷ [] → (xs ≡ ys) × (p ≡ q)
same_last [] [] p q e = (refl, let f : p ∷ [] ≡ q ∷ [] = e in cc)
same_last [] (y ∷ ys) p q e = let f : p ∷ [] ≡ y ∷ (ys ++ q ∷ []) = e in absurd (one_more ys q (let g : [] ≡ ys ++ q ∷ [] = cc in g))
same_last (x ∷ xs) [] p q e = let f : x ∷ (xs ++ p ∷ []) ≡ q ∷ [] = e in absurd (one_more xs p (let g : [] ≡ xs ++ p ∷ [] = cc in g))
same_last (x ∷ xs) (y ∷ ys) p q e =
    let f : x ∷ (xs ++ p ∷ []) ≡ y ∷ (ys ++ q ∷ []) = e in
    let g : xs ++ p ∷ [] ≡ ys ++ q ∷ [] = cc in
    let h : x ≡ y = cc in
    let r : (xs ≡ ys) × (p ≡ q) = same_last xs ys p q g in
    (let k : xs ≡ ys = r.0 in cc, r.1)

-- two calls of one body that have one place
record One (s u : Scope) (clock other : Clock) (call called : List Expr × Text) : Type 0 where
  scopes : s ≡ u
  clocks : clock ≡ other
  calls : call ≡ called

one_call : (w : Setting) (text : Text) → PlacesTell w text → (frame body : Scope) → IsFrame w text frame → frame ≡ body → (e d : Expr) (clock other : Clock) (s u : Scope) (call called : List Expr × Text) →
    StandsIn w (Body frame) (Expression e clock s) → call_of w (out-Form e.form) ≡ Some call →
    StandsIn w (Body body) (Expression d other u) → call_of w (out-Form d.form) ≡ Some called → e.place.0 ≡ d.place.0 → One s u clock other call called
one_call w text tell frame body f is e d clock other s u call called h k h' k' same =
    let r : (e ≡ d) × (clock ≡ other) × (s ≡ u) = tell frame f e d clock other s u call called h k (subst (λ (b : Scope). StandsIn w (Body b) (Expression d other u)) (sym is) h') k' same in
    record { scopes = r.2; clocks = r.1; calls = same_some (sym k ∙ ap (λ (x : Expr). call_of w (out-Form x.form)) r.0 ∙ k') }
  where
    same_some : {A : Type 0} {x y : A} → Some x ≡ Some y → x ≡ y
    same_some g = cc

one_frame : (w : Setting) (text : Text) → PlacesTell w text → (frame body : Scope) → IsFrame w text frame → IsFrame w text body → calls_around frame ≡ calls_around body → frame ≡ body
one_frame w text tell frame body whole_text whole_text e = refl
one_frame w text tell frame body whole_text (of_call {frame = b} {s = u} {place = q} d g j o' k' at') e = absurd (one_more (calls_around u) q e)
one_frame w text tell frame body (of_call {frame = a} {s = s} {place = p} d f i o k at) whole_text e = absurd (one_more (calls_around s) p (sym e))
one_frame w text tell frame body (of_call {frame = a} {s = s} {clock = clock} {place = p} {args = args} {called = called} e f i o k at)
    (of_call {frame = b} {s = u} {clock = other} {place = q} {args = given} {called = callee} d g j o' k' at') same =
    let parts : (calls_around s ≡ calls_around u) × (p ≡ q) = same_last (calls_around s) (calls_around u) p q same in
    let is : a ≡ b = one_frame w text tell a b f g (sym (calls_in w a s i) ∙ parts.0 ∙ calls_in w b u j) in
    let one : One s u clock other (args, called) (given, callee) =
    one_call w text tell a b f is e d clock other s u (args, called) (given, callee) o k o' k' (at ∙ parts.1 ∙ sym at') in
    ap (λ (x : Scope). Called x clock p args called) one.scopes ∙ ap (λ (x : Clock). Called u x p args called) one.clocks ∙ ap (λ (x : ℕ). Called u other x args called) parts.1
    ∙ ap (λ (c : List Expr × Text). Called u other q c.0 c.1) one.calls

-- ---- sites stand in the text

record Site_stands (c : World) (site : Site) : Type 0 where
  call : Caller c site.scope site.clock site.place site.args site.text

abbrev All_stand : World → List Site → Type 0
All_stand c [] = Unit {0}
All_stand c (site ∷ sites) = Site_stands c site × All_stand c sites

stand_append : (c : World) (ps qs : List Site) → All_stand c ps → All_stand c qs → All_stand c (ps ++ qs)
stand_append c [] qs h k = k
stand_append c (p ∷ ps) qs h k = (h.0, stand_append c ps qs h.1 k)

pub callee_good : (c : World) (e : Expr) (clock : Clock) (s : Scope) (d : Option (List Expr × Text)) → Good_piece c (Expression e clock s) → call_of c.w (out-Form e.form) ≡ d →
    Good_all c (callee_pieces c.w d e.place.0 clock s)
callee_good c e clock s None g is = tt
callee_good c e clock s (Some (args, text)) g is =
    let h : Stood c (Called s clock e.place.0 args text) = called_stood c e clock s args text g is in
    (record { frame = Called s clock e.place.0 args text; is_frame = of_call e g.is_frame g.scope g.stands is refl; scope = at_body refl tt; stands = itself; written = tt }, tt)

form_good : (c : World) (f : Form-F Form Expr MergeBranch) (e : Expr) (clock : Clock) (s : Scope) → out-Form e.form ≡ f → Good_piece c (Expression e clock s) →
    Good_all c (form_inside c.w f e clock s) → Good_all c (form_pieces c.w f e clock s)
form_good c (Form-F.Call f args) e clock s is g h =
    good_append c (callee_pieces c.w (call_of c.w (Form-F.Call f args)) e.place.0 clock s) (expressions args clock s)
    (callee_good c e clock s _ g (ap (λ (x : Form-F Form Expr MergeBranch). call_of c.w x) is)) h
form_good c _ e clock s is g h = h

pub piece_good : (c : World) (piece : Piece) → Good_piece c piece → Good_all c (pieces c.w piece)
piece_good c (Expression e clock s) h = form_good c (out-Form e.form) e clock s refl h (good_inside_form c e clock s h)
piece_good c (Statement e s) h = good_inside_equation c e s h
piece_good c (Core_statement e s) h = (good_inside_core c e s h, tt)
piece_good c (Body s) h = good_inside_body c s h

async_good : (c : World) (o : Option Text) (q : ℕ) (args : List Expr) (e : Expr) (clock : Clock) (s : Scope) → Good_piece c (Expression e clock s) →
    ((text : Text) → o ≡ Some text → call_of c.w (out-Form e.form) ≡ Some (args, text)) → All_stand c (async_site c.w o q args e.place.0 clock s)
async_good c None q args e clock s g h = tt
async_good c (Some text) q args e clock s g h = (record { call = record { expression = e; stands = g; call = h text refl; at = refl } }, tt)

own_good : (c : World) (f : Form-F Form Expr MergeBranch) (e : Expr) (clock : Clock) (s : Scope) → out-Form e.form ≡ f → Good_piece c (Expression e clock s) → All_stand c (form_site c.w f e clock s)
own_good c (Form-F.AsyncCall q f args) e clock s is g =
    async_good c (c.w.node f) q args e clock s g (λ text h. ap (λ (x : Form-F Form Expr MergeBranch). call_of c.w x) is ∙ ap (λ (o : Option Text). with_args o) h)
  where
    with_args : Option Text → Option (List Expr × Text)
    with_args None = None
    with_args (Some text) = Some (args, text)
own_good c _ e clock s is g = tt

site_good : (c : World) (piece : Piece) → Good_piece c piece → All_stand c (own_site c.w piece)
site_good c (Expression e clock s) h = own_good c (out-Form e.form) e clock s refl h
site_good c (Statement e s) h = tt
site_good c (Core_statement e s) h = tt
site_good c (Body s) h = tt

abbrev pub world : (w : Setting) (rows : List (List ℕ)) (text : Text) → LeftsAgree w text → World
world w rows text lefts = record { w = w; rows = rows; text = text; lefts = lefts }

mutual
  sites_good : (w : Setting) (rows : List (List ℕ)) (text : Text) (lefts : LeftsAgree w text) (piece : Piece) (sites : List Site) →
      Good_piece (world w rows text lefts) piece → SitesOf w piece sites → All_stand (world w rows text lefts) sites
  sites_good w rows text lefts piece sites h (whole {sites = inner} k) =
      stand_append (world w rows text lefts) (own_site w piece) inner (site_good (world w rows text lefts) piece h)
      (sites_good_all w rows text lefts (pieces w piece) inner (piece_good (world w rows text lefts) piece h) k)

  sites_good_all : (w : Setting) (rows : List (List ℕ)) (text : Text) (lefts : LeftsAgree w text) (ps : List Piece) (sites : List Site) →
      Good_all (world w rows text lefts) ps → SitesOfAll w ps sites → All_stand (world w rows text lefts) sites
  sites_good_all w rows text lefts ps sites h none = tt
  sites_good_all w rows text lefts ps sites h (first {piece = piece} {rest = rest} {sites = a} {others = b} k ks) =
      stand_append (world w rows text lefts) a b (sites_good w rows text lefts piece a h.0 k) (sites_good_all w rows text lefts rest b h.1 ks)

insert_if : (c : World) (b : Bool) (ps qs : List Site) → All_stand c ps → All_stand c qs → All_stand c (if b then ps else qs)
insert_if c true ps qs h k = h
insert_if c false ps qs h k = k

insert_good : (c : World) (site : Site) (sites : List Site) → Site_stands c site → All_stand c sites → All_stand c (insert site sites)
insert_good c site [] h k = (h, tt)
insert_good c site (other ∷ sites) h k =
    insert_if c (is_before (path_of site) (path_of other)) (site ∷ other ∷ sites) (other ∷ insert site sites) (h, k) (k.0, insert_good c site sites h k.1)

sorted_good : (c : World) (sites : List Site) → All_stand c sites → All_stand c (by_number sites)
sorted_good c [] h = tt
sorted_good c (site ∷ sites) h = insert_good c site (by_number sites) h.0 (sorted_good c sites h.1)

order_good : (c : World) (text : Text) (sites : List Site) → All_stand c sites → All_stand c (in_text_order text sites)
order_good c (Written n node) sites h = h
order_good c (Lowered node) sites h = sorted_good c sites h

pub top_good : (c : World) → Good_piece c (Body (Top c.text))
top_good c = record { frame = Top c.text; is_frame = whole_text; scope = at_body refl tt; stands = itself; written = tt }

all_good : (c : World) (sites : List Site) → Sites c.w c.text sites → All_stand c sites
all_good c sites h = subst (λ (l : List Site). All_stand c l) h.order (order_good c c.text h.found (sites_good c.w c.rows c.text c.lefts (Body (Top c.text)) h.found (top_good c) h.all))

site_at : (c : World) (sites : List Site) (i : ℕ) (site : Site) → All_stand c sites → slice_get sites i ≡ Some site → Site_stands c site
site_at c [] i site h is = let f : None ≡ Some site = is in cc
site_at c (other ∷ sites) zero site h is = subst (λ (x : Site). Site_stands c x) (let f : other ≡ site = cc in f) h.0
site_at c (other ∷ sites) (suc i) site h is = site_at c sites i site h.1 is

-- ---- what is reached is good

stood_in : {c : World} {p : Piece} {s : Scope} → Stands c p s → Stood c s
stood_in h = record { frame = h.frame; is_frame = h.is_frame; scope = h.scope }

reached_good : (c : World) (sites : List Site) → All_stand c sites → (q : Question) → Reached c.w c.rows c.text sites q → Good c q
reached_good c sites h q of_top = stood_in (top_good c)
reached_good c sites h q (of_restart i {site = site} at) = stood_in (site_at c sites i site h at).call.stands
reached_good c sites h q (of_presence i {site = site} at) = stood_in (site_at c sites i site h at).call.stands
reached_good c sites h q (of_argument i j {site = site} {e = e} at is) =
    argument_good c site.scope site.clock site.place site.args site.text j e (site_at c sites i site h at).call is
reached_good c sites h p (of_rule {q = q} r m) = good_asked c q p (reached_good c sites h q r) m

tells : (c : World) → PlacesTell c.w c.text → (sites : List Site) → All_stand c sites → PathsTell c.w c.rows c.text sites
tells c tell sites h e j clock s t call i site reached is at path =
    let g : Good_piece c (Expression e clock s) = reached_good c sites h (Output e j clock s t) reached in
    let k : Caller c site.scope site.clock site.place site.args site.text = (site_at c sites i site h at).call in
    let parts : (calls_around site.scope ≡ calls_around s) × (site.place ≡ e.place.0) = same_last (calls_around site.scope) (calls_around s) site.place e.place.0 path in
    let one : One site.scope s site.clock clock (site.args, site.text) call =
    one_call c.w c.text tell k.stands.frame g.frame k.stands.is_frame
    (one_frame c.w c.text tell k.stands.frame g.frame k.stands.is_frame g.is_frame
    (sym (calls_in c.w k.stands.frame site.scope k.stands.scope) ∙ parts.0 ∙ calls_in c.w g.frame s g.scope))
    k.expression e site.clock clock site.scope s (site.args, site.text) call k.stands.stands k.call g.stands is (k.at ∙ parts.1) in
    record {
      scope = one.scopes;
      clocks = one.clocks;
      places = parts.1;
      args = ap (λ (d : List Expr × Text). d.0) one.calls;
      text = ap (λ (d : List Expr × Text). d.1) one.calls;
    }

pub paths_tell_calls : PathsTellCalls
paths_tell_calls w rows text sites tell lefts h =
    let c : World = record { w = w; rows = rows; text = text; lefts = lefts } in
    tells c tell sites (all_good c sites h)
