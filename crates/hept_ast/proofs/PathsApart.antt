-- No two sites of a text have one path.
use Rattle.std.proofs.Common.{◌≡◌, ◌⊎◌, inl, inr, ℕ, suc, Bool, true, false, List, [], ◌∷◌, ◌++◌, Option, Some, None, map, refl, sym, ap, subst, ◌∙◌, append_assoc}
use Rattle.std.specs.Prelude.{if◌then◌else◌}
use Rattle.hept_ast.specs.Scopes.{Clock, Text, Written, Lowered, Scope, Top, Called, In_branch, In_state, text_of, block_of, calls_around}
use Rattle.hept_ast.specs.Meaning.{Setting, call_of}
use Rattle.hept_ast.specs.Sites.{Piece, Expression, Statement, Core_statement, Body, Site, path_of, SitesOf, whole, SitesOfAll, none, first, expressions, conditions, state_pieces, equation_pieces, body_pieces, callee_pieces, form_pieces, pieces, async_site, form_site, own_site, is_before, insert, by_number, in_text_order}
use Rattle.hept_ast.specs.Paths.{IsAmong, at_head, in_tail, form_inside, inside, whole_text, of_call, LeftsAgree, AllDiffer, PlacesDiffer, PathsDiffer}
use Rattle.hept_ast.specs.declared.tree.Expr.{Expr}
use Rattle.hept_ast.specs.declared.tree.MergeBranch.{MergeBranch}
use Rattle.hept_ast.specs.declared.tree.Form.{Form, out-Form}
use Rattle.hept_ast.specs.declared.tree.Form.TheOpen.{Form-F}
use Rattle.hept_ast.specs.declared.tree.Escape.{Escape}
use Rattle.hept_ast.specs.declared.tree.Block.{Block}
use Rattle.hept_ast.specs.declared.tree.Branch.{Branch}
use Rattle.hept_ast.specs.declared.tree.State.{State}
use Rattle.hept_ast.specs.declared.tree.Equation.{Equation, out-Equation}
use Rattle.hept_ast.specs.declared.tree.Equation.TheOpen.{Equation-F}
use Rattle.hept_ast.specs.declared.tree.CoreEquation.{CoreEquation}
use Rattle.hept_ast.proofs.Reaching.{World, Good_piece, Good_all, scope_of, good_inside_form}
use Rattle.hept_ast.proofs.PathsOf.{world, callee_good, top_good}
use Rattle.hept_ast.proofs.CallPlacesOf.{own_place, piece_places, own_places, all_places, piece_sum, in_left, in_right, apart, differ_right, differ_left, inside_good, frame_differs}

-- ---- paths that go on by one of some places

record Goes_on (before places path : List ℕ) : Type 0 where
  place : ℕ
  rest : List ℕ
  is : path ≡ before ++ place ∷ rest
  among : IsAmong place places

abbrev All_go_on : (before places : List ℕ) → List Site → Type 0
All_go_on before places [] = Unit {0}
All_go_on before places (site ∷ sites) = Goes_on before places (path_of site) × All_go_on before places sites

go_on_append : (before places : List ℕ) (firsts bs : List Site) → All_go_on before places firsts → All_go_on before places bs → All_go_on before places (firsts ++ bs)
go_on_append before places [] bs h k = k
go_on_append before places (a ∷ firsts) bs h k = (h.0, go_on_append before places firsts bs h.1 k)

go_on_left : (before xs ys : List ℕ) (sites : List Site) → All_go_on before xs sites → All_go_on before (xs ++ ys) sites
go_on_left before xs ys [] h = tt
go_on_left before xs ys (site ∷ sites) h =
    (record { place = h.0.place; rest = h.0.rest; is = h.0.is; among = in_left xs ys h.0.among }, go_on_left before xs ys sites h.1)

go_on_right : (before xs ys : List ℕ) (sites : List Site) → All_go_on before ys sites → All_go_on before (xs ++ ys) sites
go_on_right before xs ys [] h = tt
go_on_right before xs ys (site ∷ sites) h =
    (record { place = h.0.place; rest = h.0.rest; is = h.0.is; among = in_right xs ys h.0.among }, go_on_right before xs ys sites h.1)

same_step : (before r s : List ℕ) (x y : ℕ) → before ++ x ∷ r ≡ before ++ y ∷ s → x ≡ y
same_step [] r s x y e = let f : x ∷ r ≡ y ∷ s = e in cc
same_step (b ∷ before) r s x y e = let f : b ∷ (before ++ x ∷ r) ≡ b ∷ (before ++ y ∷ s) = e in same_step before r s x y (let g : before ++ x ∷ r ≡ before ++ y ∷ s = cc in g)

-- a path that goes on by a place of the first list is none of those that go on by the second
not_there : (before xs ys : List ℕ) (path : List ℕ) (sites : List Site) → AllDiffer (xs ++ ys) → Goes_on before xs path → All_go_on before ys sites → IsAmong path (map path_of sites) → ⊥
not_there before xs ys path [] d g h i = elim i [ ]
not_there before xs ys path (site ∷ sites) d g h at_head =
    apart g.place xs ys d g.among (subst (λ (y : ℕ). IsAmong y ys) (sym (same_step before g.rest h.0.rest g.place h.0.place (sym g.is ∙ h.0.is))) h.0.among)
not_there before xs ys path (site ∷ sites) d g h (in_tail i) = not_there before xs ys path sites d g h.1 i

in_either : (path : List ℕ) (firsts bs : List Site) → IsAmong path (map path_of (firsts ++ bs)) → IsAmong path (map path_of firsts) ⊎ IsAmong path (map path_of bs)
in_either path [] bs i = inr i
in_either path (a ∷ firsts) bs at_head = inl at_head
in_either path (a ∷ firsts) bs (in_tail i) = later (in_either path firsts bs i)
  where
    later : IsAmong path (map path_of firsts) ⊎ IsAmong path (map path_of bs) → IsAmong path (map path_of (a ∷ firsts)) ⊎ IsAmong path (map path_of bs)
    later (inl j) = inl (in_tail j)
    later (inr j) = inr j

neither : {A B : Type 0} → (A → ⊥) → (B → ⊥) → A ⊎ B → ⊥
neither f g (inl a) = f a
neither f g (inr b) = g b

join_apart : (before xs ys : List ℕ) (firsts bs : List Site) → AllDiffer (xs ++ ys) → All_go_on before xs firsts → All_go_on before ys bs →
    AllDiffer (map path_of firsts) → AllDiffer (map path_of bs) → AllDiffer (map path_of (firsts ++ bs))
join_apart before xs ys [] bs d h k da db = db
join_apart before xs ys (a ∷ firsts) bs d h k da db =
    (λ i. neither da.0 (not_there before xs ys (path_of a) bs d h.0 k) (in_either (path_of a) firsts bs i), join_apart before xs ys firsts bs d h.1 k da.1 db)

-- ---- the pieces of a piece, with the places by which their sites go on

data Covers (c : World) (before : List ℕ) : List Piece → List ℕ → Type 0 where
  no_piece : Covers c before [] []
  a_piece : {p : Piece} {ps : List Piece} {xs : List ℕ} → Good_piece c p → calls_around (scope_of p) ≡ before → Covers c before ps xs → Covers c before (p ∷ ps) (piece_places p ++ xs)
  a_body : {s : Scope} {clock : Clock} {place : ℕ} {args : List Expr} {text : Text} {ps : List Piece} {xs : List ℕ} → Good_piece c (Body (Called s clock place args text)) →
      calls_around s ≡ before → AllDiffer (piece_places (Body (Called s clock place args text))) → Covers c before ps xs → Covers c before (Body (Called s clock place args text) ∷ ps) (place ∷ xs)

-- the pieces all stand within the same calls
abbrev All_around : List ℕ → List Piece → Type 0
All_around before [] = Unit {0}
All_around before (p ∷ ps) = (calls_around (scope_of p) ≡ before) × All_around before ps

covers_all : (c : World) (before : List ℕ) (ps : List Piece) → Good_all c ps → All_around before ps → Covers c before ps (all_places ps)
covers_all c before [] h k = no_piece
covers_all c before (p ∷ ps) h k = a_piece h.0 k.0 (covers_all c before ps h.1 k.1)

around_expressions : (es : List Expr) (clock : Clock) (s : Scope) → All_around (calls_around s) (expressions es clock s)
around_expressions [] clock s = tt
around_expressions (e ∷ es) clock s = (refl, around_expressions es clock s)

around_values : (bs : List MergeBranch) (clock : MergeBranch → Clock) (s : Scope) → All_around (calls_around s) (map (λ b. Expression b.value (clock b) s) bs)
around_values [] clock s = tt
around_values (b ∷ bs) clock s = (refl, around_values bs clock s)

around_form : (w : Setting) (f : Form-F Form Expr MergeBranch) (e : Expr) (clock : Clock) (s : Scope) → All_around (calls_around s) (form_inside w f e clock s)
around_form w (Form-F.Const k) e clock s = tt
around_form w (Form-F.Var x) e clock s = tt
around_form w (Form-F.Last x) e clock s = tt
around_form w (Form-F.Unary op a) e clock s = (refl, tt)
around_form w (Form-F.Binary op a b) e clock s = (refl, (refl, tt))
around_form w (Form-F.If k a b) e clock s = (refl, (refl, (refl, tt)))
around_form w (Form-F.Fby a b) e clock s = (refl, (refl, tt))
around_form w (Form-F.Pre a) e clock s = (refl, tt)
around_form w (Form-F.Arrow a b) e clock s = (refl, (refl, tt))
around_form w (Form-F.When a tag x) e clock s = (refl, tt)
around_form w (Form-F.Merge x branches) e clock s = around_values branches (λ b. clock ++ record { tag = b.tag; name = x } ∷ []) s
around_form w (Form-F.Call f args) e clock s = around_expressions args clock s
around_form w (Form-F.AsyncCall q f args) e clock s = around_expressions args clock s
around_form w (Form-F.AsyncConst k) e clock s = tt
around_form w (Form-F.Get a) e clock s = (refl, tt)

around_bodies : (bs : List Branch) (on : Expr) (s : Scope) → All_around (calls_around s) (map (λ b. Body (In_branch s on b)) bs)
around_bodies [] on s = tt
around_bodies (b ∷ bs) on s = (refl, around_bodies bs on s)

around_append : (before : List ℕ) (ps qs : List Piece) → All_around before ps → All_around before qs → All_around before (ps ++ qs)
around_append before [] qs h k = k
around_append before (p ∷ ps) qs h k = (h.0, around_append before ps qs h.1 k)

around_conditions : (es : List Escape) (s : Scope) → All_around (calls_around s) (conditions es s)
around_conditions [] s = tt
around_conditions (e ∷ es) s = (refl, around_conditions es s)

around_states : (qs states : List State) (k : ℕ) (s : Scope) → All_around (calls_around s) (state_pieces qs states k s)
around_states [] states k s = tt
around_states (q ∷ qs) states k s = (
  refl,
  around_append (calls_around s) (conditions q.weak (In_state s states k) ++ conditions q.strong s) (state_pieces qs states (suc k) s)
      (around_append (calls_around s) (conditions q.weak (In_state s states k)) (conditions q.strong s) (around_conditions q.weak (In_state s states k)) (around_conditions q.strong s))
      (around_states qs states (suc k) s),
)

around_equation : (w : Setting) (f : Equation-F Equation Block Branch State) (s : Scope) → All_around (calls_around s) (equation_pieces w f s)
around_equation w (Equation-F.Define p left right) s = (refl, tt)
around_equation w (Equation-F.Switch p on branches) s = (refl, around_bodies branches on s)
around_equation w (Equation-F.Reset p block every) s = (refl, (refl, tt))
around_equation w (Equation-F.Automaton p states) s = around_states states states 0 s

around_statements : (es : List Equation) (s : Scope) → All_around (calls_around s) (map (λ e. Statement e s) es)
around_statements [] s = tt
around_statements (e ∷ es) s = (refl, around_statements es s)

around_cores : (es : List CoreEquation) (s : Scope) → All_around (calls_around s) (map (λ e. Core_statement e s) es)
around_cores [] s = tt
around_cores (e ∷ es) s = (refl, around_cores es s)

around_text : (w : Setting) (text : Text) (s : Scope) → All_around (calls_around s) (body_pieces w text s)
around_text w (Written n node) s = around_statements (block_of s).body s
around_text w (Lowered node) s = around_cores node.equations s

-- what the sites of a piece go on by
record Cover (c : World) (before : List ℕ) (all : List ℕ) (sites : List Site) (ps : List Piece) : Type 0 where
  own : List ℕ
  others : List ℕ
  covers : Covers c before ps others
  is : all ≡ own ++ others
  goes : All_go_on before own sites
  differ : AllDiffer (map path_of sites)

plain_cover : (c : World) (before all : List ℕ) (ps : List Piece) → Good_all c ps → All_around before ps → all ≡ all_places ps → Cover c before all [] ps
plain_cover c before all ps h k is = record { own = []; others = all_places ps; covers = covers_all c before ps h k; is = is; goes = tt; differ = tt }

async_goes : (w : Setting) (o : Option Text) (q : ℕ) (args : List Expr) (place : ℕ) (clock : Clock) (s : Scope) → All_go_on (calls_around s) (place ∷ []) (async_site w o q args place clock s)
async_goes w None q args place clock s = tt
async_goes w (Some text) q args place clock s = (record { place = place; rest = []; is = refl; among = at_head }, tt)

async_differ : (w : Setting) (o : Option Text) (q : ℕ) (args : List Expr) (place : ℕ) (clock : Clock) (s : Scope) → AllDiffer (map path_of (async_site w o q args place clock s))
async_differ w None q args place clock s = tt
async_differ w (Some text) q args place clock s = (λ i. elim i [ ], tt)

call_cover : (c : World) → PlacesDiffer c.w c.text → (d : Option (List Expr × Text)) (args : List Expr) (e : Expr) (clock : Clock) (s : Scope) → Good_piece c (Expression e clock s) →
    call_of c.w (out-Form e.form) ≡ d → Good_all c (expressions args clock s) →
    Cover c (calls_around s) (e.place.0 ∷ all_places (expressions args clock s)) [] (callee_pieces c.w d e.place.0 clock s ++ expressions args clock s)
call_cover c differ None args e clock s g is h = record {
  own = e.place.0 ∷ [];
  others = all_places (expressions args clock s);
  covers = covers_all c (calls_around s) (expressions args clock s) h (around_expressions args clock s);
  is = refl;
  goes = tt;
  differ = tt;
}
call_cover c differ (Some (given, text)) args e clock s g is h = record {
  own = [];
  others = e.place.0 ∷ all_places (expressions args clock s);
  covers = a_body (callee_good c e clock s (Some (given, text)) g is).0 refl
      (frame_differs c.w c.text differ (Called s clock e.place.0 given text) (of_call e g.is_frame g.scope g.stands is refl))
      (covers_all c (calls_around s) (expressions args clock s) h (around_expressions args clock s));
  is = refl;
  goes = tt;
  differ = tt;
}

form_cover : (c : World) → PlacesDiffer c.w c.text → (f : Form-F Form Expr MergeBranch) (e : Expr) (clock : Clock) (s : Scope) → out-Form e.form ≡ f → Good_piece c (Expression e clock s) →
    Good_all c (form_inside c.w f e clock s) →
    Cover c (calls_around s) (own_place f e.place ++ all_places (form_inside c.w f e clock s)) (form_site c.w f e clock s) (form_pieces c.w f e clock s)
form_cover c differ (Form-F.Call f args) e clock s is g h =
    call_cover c differ (call_of c.w (Form-F.Call f args)) args e clock s g (ap (λ (x : Form-F Form Expr MergeBranch). call_of c.w x) is) h
form_cover c differ (Form-F.AsyncCall q f args) e clock s is g h = record {
  own = e.place.0 ∷ [];
  others = all_places (expressions args clock s);
  covers = covers_all c (calls_around s) (expressions args clock s) h (around_expressions args clock s);
  is = refl;
  goes = async_goes c.w (c.w.node f) q args e.place.0 clock s;
  differ = async_differ c.w (c.w.node f) q args e.place.0 clock s;
}
form_cover c differ (Form-F.Const k) e clock s is g h = plain_cover c _ _ _ h (around_form c.w (Form-F.Const k) e clock s) refl
form_cover c differ (Form-F.Var x) e clock s is g h = plain_cover c _ _ _ h (around_form c.w (Form-F.Var x) e clock s) refl
form_cover c differ (Form-F.Last x) e clock s is g h = plain_cover c _ _ _ h (around_form c.w (Form-F.Last x) e clock s) refl
form_cover c differ (Form-F.Unary op a) e clock s is g h = plain_cover c _ _ _ h (around_form c.w (Form-F.Unary op a) e clock s) refl
form_cover c differ (Form-F.Binary op a b) e clock s is g h = plain_cover c _ _ _ h (around_form c.w (Form-F.Binary op a b) e clock s) refl
form_cover c differ (Form-F.If k a b) e clock s is g h = plain_cover c _ _ _ h (around_form c.w (Form-F.If k a b) e clock s) refl
form_cover c differ (Form-F.Fby a b) e clock s is g h = plain_cover c _ _ _ h (around_form c.w (Form-F.Fby a b) e clock s) refl
form_cover c differ (Form-F.Pre a) e clock s is g h = plain_cover c _ _ _ h (around_form c.w (Form-F.Pre a) e clock s) refl
form_cover c differ (Form-F.Arrow a b) e clock s is g h = plain_cover c _ _ _ h (around_form c.w (Form-F.Arrow a b) e clock s) refl
form_cover c differ (Form-F.When a tag x) e clock s is g h = plain_cover c _ _ _ h (around_form c.w (Form-F.When a tag x) e clock s) refl
form_cover c differ (Form-F.Merge x branches) e clock s is g h = plain_cover c _ _ _ h (around_form c.w (Form-F.Merge x branches) e clock s) refl
form_cover c differ (Form-F.AsyncConst k) e clock s is g h = plain_cover c _ _ _ h (around_form c.w (Form-F.AsyncConst k) e clock s) refl
form_cover c differ (Form-F.Get a) e clock s is g h = plain_cover c _ _ _ h (around_form c.w (Form-F.Get a) e clock s) refl

cover_of : (c : World) → PlacesDiffer c.w c.text → (piece : Piece) → Good_piece c piece →
    Cover c (calls_around (scope_of piece)) (own_places piece ++ all_places (inside c.w piece)) (own_site c.w piece) (pieces c.w piece)
cover_of c differ (Expression e clock s) g = form_cover c differ (out-Form e.form) e clock s refl g (good_inside_form c e clock s g)
cover_of c differ (Statement e s) g = plain_cover c _ _ _ (inside_good c (Statement e s) g) (around_equation c.w (out-Equation e) s) refl
cover_of c differ (Core_statement e s) g = plain_cover c _ _ _ (inside_good c (Core_statement e s) g) (refl, tt) refl
cover_of c differ (Body s) g = plain_cover c _ _ _ (inside_good c (Body s) g) (around_text c.w (text_of s) s) refl

-- ---- sites

record Apart (before places : List ℕ) (sites : List Site) : Type 0 where
  goes : All_go_on before places sites
  differ : AllDiffer (map path_of sites)

-- two lists of sites that go on by places which differ
joined_apart : (before xs ys : List ℕ) (firsts bs : List Site) → AllDiffer (xs ++ ys) → Apart before xs firsts → Apart before ys bs → Apart before (xs ++ ys) (firsts ++ bs)
joined_apart before xs ys firsts bs d a b = record {
  goes = go_on_append before (xs ++ ys) firsts bs (go_on_left before xs ys firsts a.goes) (go_on_right before xs ys bs b.goes);
  differ = join_apart before xs ys firsts bs d a.goes b.goes a.differ b.differ;
}

-- sites within a called body go on by the call's place
body_goes : (before : List ℕ) (place : ℕ) (places : List ℕ) (sites : List Site) → All_go_on (before ++ place ∷ []) places sites → All_go_on before (place ∷ []) sites
body_goes before place places [] h = tt
body_goes before place places (site ∷ sites) h = (
  record { place = place; rest = h.0.place ∷ h.0.rest; is = h.0.is ∙ append_assoc before (place ∷ []) (h.0.place ∷ h.0.rest); among = at_head },
  body_goes before place places sites h.1,
)

with_cover : (c : World) (piece : Piece) (inner : List Site) (g : Good_piece c piece) → AllDiffer (piece_places piece) →
    (v : Cover c (calls_around (scope_of piece)) (own_places piece ++ all_places (inside c.w piece)) (own_site c.w piece) (pieces c.w piece)) →
    (AllDiffer v.others → Apart (calls_around (scope_of piece)) v.others inner) → Apart (calls_around (scope_of piece)) (piece_places piece) (own_site c.w piece ++ inner)
with_cover c piece inner g d v rest =
    let is : piece_places piece ≡ v.own ++ v.others = piece_sum c piece g ∙ v.is in
    let e : AllDiffer (v.own ++ v.others) = subst (λ (l : List ℕ). AllDiffer l) is d in
    subst (λ (l : List ℕ). Apart (calls_around (scope_of piece)) l (own_site c.w piece ++ inner)) (sym is)
    (joined_apart (calls_around (scope_of piece)) v.own v.others (own_site c.w piece) inner e (record { goes = v.goes; differ = v.differ }) (rest (differ_right v.own v.others e)))

mutual
  sites_apart : (w : Setting) (rows : List (List ℕ)) (text : Text) (lefts : LeftsAgree w text) (differ : PlacesDiffer w text) (piece : Piece) (sites : List Site) →
      Good_piece (world w rows text lefts) piece → AllDiffer (piece_places piece) → SitesOf w piece sites → Apart (calls_around (scope_of piece)) (piece_places piece) sites
  sites_apart w rows text lefts differ piece sites g d (whole {sites = inner} k) =
      let v : Cover (world w rows text lefts) (calls_around (scope_of piece)) (own_places piece ++ all_places (inside w piece)) (own_site w piece) (pieces w piece) =
      cover_of (world w rows text lefts) differ piece g in
      with_cover (world w rows text lefts) piece inner g d v (λ e. all_apart w rows text lefts differ (pieces w piece) inner (calls_around (scope_of piece)) v.others v.covers e k)

  all_apart : (w : Setting) (rows : List (List ℕ)) (text : Text) (lefts : LeftsAgree w text) (differ : PlacesDiffer w text) (ps : List Piece) (sites : List Site) (before places : List ℕ) →
      Covers (world w rows text lefts) before ps places → AllDiffer places → SitesOfAll w ps sites → Apart before places sites
  all_apart w rows text lefts differ ps sites before places v d none = record { goes = nothing before places; differ = tt }
    where
      nothing : (b l : List ℕ) → All_go_on b l []
      nothing b l = tt
  all_apart w rows text lefts differ ps sites before places (a_piece {p = p} {ps = rest} {xs = xs} g is v) d (first {sites = a} {others = b} k ks) =
      joined_apart before (piece_places p) xs a b d
      (subst (λ (l : List ℕ). Apart l (piece_places p) a) is (sites_apart w rows text lefts differ p a g (differ_left (piece_places p) xs d) k))
      (all_apart w rows text lefts differ rest b before xs v (differ_right (piece_places p) xs d) ks)
  all_apart w rows text lefts differ ps sites before places (a_body {s = s} {clock = clock} {place = place} {args = args} {text = called} {ps = rest} {xs = xs} g is e v) d (first {sites = a} {others = b} k ks) =
      let inner : Apart (calls_around s ++ place ∷ []) (piece_places (Body (Called s clock place args called))) a =
      sites_apart w rows text lefts differ (Body (Called s clock place args called)) a g e k in
      joined_apart before (place ∷ []) xs a b d
      (subst (λ (l : List ℕ). Apart l (place ∷ []) a) is
      (record { goes = body_goes (calls_around s) place (piece_places (Body (Called s clock place args called))) a inner.goes; differ = inner.differ }))
      (all_apart w rows text lefts differ rest b before xs v d.1 ks)

-- ---- in the order of their paths

among_if : {A : Type 0} (b : Bool) (x : A) (xs ys : List A) (P : Type 0) → (IsAmong x xs → P) → (IsAmong x ys → P) → IsAmong x (if b then xs else ys) → P
among_if true x xs ys P f g i = f i
among_if false x xs ys P f g i = g i

map_if : (b : Bool) (xs ys : List Site) → map path_of (if b then xs else ys) ≡ (if b then map path_of xs else map path_of ys)
map_if true xs ys = refl
map_if false xs ys = refl

among_cases : {A : Type 0} (x y : A) (ys : List A) → IsAmong x (y ∷ ys) → (x ≡ y) ⊎ IsAmong x ys
among_cases x y ys at_head = inl refl
among_cases x y ys (in_tail i) = inr i

swap_cases : (path : List ℕ) (site other : Site) (sites : List Site) → (path ≡ path_of other) ⊎ IsAmong path (map path_of sites) → IsAmong path (map path_of (other ∷ sites))
swap_cases path site other sites (inl e) = subst (λ (p : List ℕ). IsAmong p (map path_of (other ∷ sites))) (sym e) at_head
swap_cases path site other sites (inr i) = in_tail i

later_cases : (path : List ℕ) (site other : Site) (sites : List Site) → (path ≡ path_of site) ⊎ IsAmong path (map path_of sites) → (path ≡ path_of site) ⊎ IsAmong path (map path_of (other ∷ sites))
later_cases path site other sites (inl e) = inl e
later_cases path site other sites (inr i) = inr (in_tail i)

insert_cases : (path : List ℕ) (site other : Site) (sites : List Site) → (IsAmong path (map path_of (insert site sites)) → (path ≡ path_of site) ⊎ IsAmong path (map path_of sites)) →
    (path ≡ path_of other) ⊎ IsAmong path (map path_of (insert site sites)) → (path ≡ path_of site) ⊎ IsAmong path (map path_of (other ∷ sites))
insert_cases path site other sites go (inl e) = inr (swap_cases path site other sites (inl e))
insert_cases path site other sites go (inr i) = later_cases path site other sites (go i)

among_insert : (path : List ℕ) (site : Site) (sites : List Site) → IsAmong path (map path_of (insert site sites)) → (path ≡ path_of site) ⊎ IsAmong path (map path_of sites)
among_insert path site [] i = among_cases path (path_of site) [] i
among_insert path site (other ∷ sites) i =
    among_if (is_before (path_of site) (path_of other)) path (map path_of (site ∷ other ∷ sites)) (map path_of (other ∷ insert site sites))
    ((path ≡ path_of site) ⊎ IsAmong path (map path_of (other ∷ sites))) (λ j. among_cases path (path_of site) (map path_of (other ∷ sites)) j)
    (λ j. insert_cases path site other sites (λ k. among_insert path site sites k) (among_cases path (path_of other) (map path_of (insert site sites)) j))
    (subst (λ (l : List (List ℕ)). IsAmong path l) (map_if (is_before (path_of site) (path_of other)) (site ∷ other ∷ sites) (other ∷ insert site sites)) i)

differ_if : (b : Bool) (xs ys : List Site) → AllDiffer (map path_of xs) → AllDiffer (map path_of ys) → AllDiffer (map path_of (if b then xs else ys))
differ_if true xs ys h k = h
differ_if false xs ys h k = k

not_inserted : (site other : Site) (sites : List Site) → AllDiffer (map path_of (site ∷ other ∷ sites)) → (path_of other ≡ path_of site) ⊎ IsAmong (path_of other) (map path_of sites) → ⊥
not_inserted site other sites d (inl e) = d.0 (subst (λ (p : List ℕ). IsAmong p (map path_of (other ∷ sites))) e at_head)
not_inserted site other sites d (inr i) = d.1.0 i

insert_differs : (site : Site) (sites : List Site) → AllDiffer (map path_of (site ∷ sites)) → AllDiffer (map path_of (insert site sites))
insert_differs site [] d = d
insert_differs site (other ∷ sites) d =
    differ_if (is_before (path_of site) (path_of other)) (site ∷ other ∷ sites) (other ∷ insert site sites) d
    (λ i. not_inserted site other sites d (among_insert (path_of other) site sites i), insert_differs site sites (λ i. d.0 (in_tail i), d.1.1))

among_sorted : (path : List ℕ) (sites : List Site) → IsAmong path (map path_of (by_number sites)) → IsAmong path (map path_of sites)
among_sorted path [] i = i
among_sorted path (site ∷ sites) i = go (among_sorted path sites) (among_insert path site (by_number sites) i)
  where
    go : (IsAmong path (map path_of (by_number sites)) → IsAmong path (map path_of sites)) → (path ≡ path_of site) ⊎ IsAmong path (map path_of (by_number sites)) → IsAmong path (map path_of (site ∷ sites))
    go f (inl e) = subst (λ (p : List ℕ). IsAmong p (map path_of (site ∷ sites))) (sym e) at_head
    go f (inr j) = in_tail (f j)

sorted_differ : (sites : List Site) → AllDiffer (map path_of sites) → AllDiffer (map path_of (by_number sites))
sorted_differ [] d = d
sorted_differ (site ∷ sites) d = insert_differs site (by_number sites) (λ i. d.0 (among_sorted (path_of site) sites i), sorted_differ sites d.1)

order_differ : (text : Text) (sites : List Site) → AllDiffer (map path_of sites) → AllDiffer (map path_of (in_text_order text sites))
order_differ (Written n node) sites d = d
order_differ (Lowered node) sites d = sorted_differ sites d

pub paths_differ : PathsDiffer
paths_differ w text sites lefts differ h =
    subst (λ (l : List Site). AllDiffer (map path_of l)) h.order
    (order_differ text h.found (sites_apart w [] text lefts differ (Body (Top text)) h.found (top_good (world w [] text lefts)) (frame_differs w text differ (Top text) whole_text) h.all).differ)
