-- Pieces of a core and of the core in which a subexpression is named, with all that is the same in both.
use Rattle.std.proofs.Common.{◌≡◌, ◌⊎◌, inl, inr, ℕ, ◌-◌, false, List, [], ◌∷◌, ◌++◌, length, take, map, Option, All, refl, sym, subst}
use Rattle.std.specs.Option.{option_map}
use Rattle.std.proofs.lemmas.List.Elements.{All-head, All-tail}
use Rattle.hept_ast.specs.Texts.{Name, same}
use Rattle.hept_ast.specs.Scopes.{Clock, Text, Lowered, Scope}
use Rattle.hept_ast.specs.Meaning.{Setting}
use Rattle.hept_ast.specs.Sites.{Piece, Expression, Core_statement, Body, Site, expressions, callee_pieces, form_pieces, body_pieces, pieces, async_site, form_site, own_site}
use Rattle.hept_ast.specs.declared.tree.Expr.{Expr}
use Rattle.hept_ast.specs.declared.tree.MergeBranch.{MergeBranch}
use Rattle.hept_ast.specs.declared.tree.Form.{Form, out-Form}
use Rattle.hept_ast.specs.declared.tree.Form.TheOpen.{Form-F}
use Rattle.hept_ast.specs.declared.tree.Core.{Core}
use Rattle.hept_ast.specs.declared.tree.CoreEquation.{CoreEquation}
use Rattle.core_naming.specs.Names.{IsNaming, new_equation, with_right}
use Rattle.core_naming.specs.Ties.{form_names, clock_names, IsBodyOf, of_call, TiedText, the_node, a_node, TiedArguments, TiedScope, called, under, TiedSite}
use Rattle.core_naming.proofs.Mentions.{NotIn, Free, EachOf, EachValue, EachOperand, not_head, not_taken, not_longer, own_free, parts_free}
use Rattle.core_naming.proofs.TiedNodes.{TiedOption, no_text, both}
use Rattle.core_naming.proofs.TiedForms.{same_list}
use Rattle.core_naming.proofs.TiedTexts.{IsQuietEquation, IsQuiet, body_text, node_quiet, other_quiet}

module _ (core other : Core) (n : IsNaming core other) where
  pub data TiedSites : List Site → List Site → Type 0 where
    no_sites : TiedSites [] []
    more_sites : {site moved : Site} {sites others : List Site} → TiedSite core other n site moved → TiedSites sites others → TiedSites (site ∷ sites) (moved ∷ others)

  -- a piece in both cores, in tied scopes
  pub data TiedPiece : Piece → Piece → Type 0 where
    expression : {e : Expr} {c : Clock} {s u : Scope} → TiedScope core other n s u → NotIn n.x (clock_names c) → Free n.x e → TiedPiece (Expression e c s) (Expression e c u)
    statement : {e : CoreEquation} {s u : Scope} → TiedScope core other n s u → IsQuietEquation n.x e → TiedPiece (Core_statement e s) (Core_statement e u)
    whole_body : {text moved : Text} {s u : Scope} → TiedScope core other n s u → IsBodyOf text s → IsBodyOf moved u → TiedText core other n text moved → TiedPiece (Body s) (Body u)

  pub data TiedPieces : List Piece → List Piece → Type 0 where
    no_pieces : TiedPieces [] []
    more_pieces : {p q : Piece} {ps qs : List Piece} → TiedPiece p q → TiedPieces ps qs → TiedPieces (p ∷ ps) (q ∷ qs)

  -- the equations behind the one in which a subexpression is named, and at the end the new one
  pub data EndPieces (u : Scope) : List Piece → List Piece → Type 0 where
    at_end : EndPieces u [] (Core_statement (new_equation n.x n.a n.d n.step.equation.resets) u ∷ [])
    before_end : {p q : Piece} {ps qs : List Piece} → TiedPiece p q → EndPieces u ps qs → EndPieces u (p ∷ ps) (q ∷ qs)

  -- the equations of the node in which a subexpression is named
  pub data NodePieces (s u : Scope) : List Piece → List Piece → Type 0 where
    this_equation : {ps qs : List Piece} → EndPieces u ps qs → NodePieces s u (Core_statement n.step.equation s ∷ ps) (Core_statement (with_right n.step.equation n.step.right) u ∷ qs)
    later_equation : {p q : Piece} {ps qs : List Piece} → TiedPiece p q → NodePieces s u ps qs → NodePieces s u (p ∷ ps) (q ∷ qs)

  pub record IsBodyOfNode (ps qs : List Piece) : Type 0 where
    pub s : Scope
    pub u : Scope
    pub scopes : TiedScope core other n s u
    pub body : IsBodyOf (Lowered n.node) s
    pub moved_body : IsBodyOf (Lowered n.moved) u
    pub equations : NodePieces s u ps qs

  pub pieces_append : (fs bs cs ds : List Piece) → TiedPieces fs bs → TiedPieces cs ds → TiedPieces (fs ++ cs) (bs ++ ds)
  pieces_append _ _ cs ds no_pieces k = k
  pieces_append _ _ cs ds (more_pieces h hs) k = more_pieces h (pieces_append _ _ cs ds hs k)

  -- ---- bodies

  first_quiet : (e : CoreEquation) (es : List CoreEquation) → All (IsQuietEquation n.x) (e ∷ es) → IsQuietEquation n.x e
  first_quiet e es h = All-head (IsQuietEquation n.x) e es h

  rest_quiet : (e : CoreEquation) (es : List CoreEquation) → All (IsQuietEquation n.x) (e ∷ es) → All (IsQuietEquation n.x) es
  rest_quiet e es h = All-tail (IsQuietEquation n.x) e es h

  equations_tied : (s u : Scope) → TiedScope core other n s u → (es : List CoreEquation) → All (IsQuietEquation n.x) es → TiedPieces (map (λ e. Core_statement e s) es) (map (λ e. Core_statement e u) es)
  equations_tied s u h [] k = no_pieces
  equations_tied s u h (e ∷ es) k = more_pieces (statement h (first_quiet e es k)) (equations_tied s u h es (rest_quiet e es k))

  ends_tied : (s u : Scope) → TiedScope core other n s u → (es : List CoreEquation) → All (IsQuietEquation n.x) es →
      EndPieces u (map (λ e. Core_statement e s) es) (map (λ e. Core_statement e u) (es ++ new_equation n.x n.a n.d n.step.equation.resets ∷ []))
  ends_tied s u h [] k = at_end
  ends_tied s u h (e ∷ es) k = before_end (statement h (first_quiet e es k)) (ends_tied s u h es (rest_quiet e es k))

  node_tied : (s u : Scope) → TiedScope core other n s u → (es : List CoreEquation) → All (IsQuietEquation n.x) (es ++ n.step.equation ∷ n.step.back) →
      NodePieces s u (map (λ e. Core_statement e s) (es ++ n.step.equation ∷ n.step.back))
      (map (λ e. Core_statement e u) (es ++ with_right n.step.equation n.step.right ∷ n.step.back ++ new_equation n.x n.a n.d n.step.equation.resets ∷ []))
  node_tied s u h [] k = this_equation (ends_tied s u h n.step.back (rest_quiet n.step.equation n.step.back k))
  node_tied s u h (e ∷ es) k =
      let rest = es ++ n.step.equation ∷ n.step.back in
      later_equation (statement h (first_quiet e rest k)) (node_tied s u h es (rest_quiet e rest k))

  module _ (w v : Setting) (nodes : (f : Name) → TiedOption core other n (w.node f) (v.node f)) (quiet : IsQuiet core other n) where
    text_tied : (text moved : Text) (s u : Scope) → TiedScope core other n s u → IsBodyOf text s → IsBodyOf moved u → TiedText core other n text moved →
        TiedPieces (body_pieces w text s) (body_pieces v moved u) ⊎ IsBodyOfNode (body_pieces w text s) (body_pieces v moved u)
    text_tied _ _ s u h i j (a_node {m = m} k) = inl (equations_tied s u h m.equations (other_quiet core other n quiet m k).equations)
    text_tied _ _ s u h i j the_node = inr (record {
      s = s;
      u = u;
      scopes = h;
      body = i;
      moved_body = j;
      equations = subst (λ (es : List CoreEquation). NodePieces s u (map (λ e. Core_statement e s) es) (map (λ e. Core_statement e u) n.moved.equations)) (sym n.step.equations)
          (subst (λ (es : List CoreEquation). NodePieces s u (map (λ e. Core_statement e s) (n.step.front ++ n.step.equation ∷ n.step.back)) (map (λ e. Core_statement e u) es)) (sym n.step.others)
          (node_tied s u h n.step.front (subst (λ (es : List CoreEquation). All (IsQuietEquation n.x) es) n.step.equations (node_quiet core other n quiet).equations)));
    })

    body_tied : (text moved : Text) (s u : Scope) → TiedScope core other n s u → IsBodyOf text s → IsBodyOf moved u → TiedText core other n text moved →
        TiedPieces (pieces w (Body s)) (pieces v (Body u)) ⊎ IsBodyOfNode (pieces w (Body s)) (pieces v (Body u))
    body_tied text moved s u h i j k =
        subst (λ (l : Text). TiedPieces (body_pieces w l s) (pieces v (Body u)) ⊎ IsBodyOfNode (body_pieces w l s) (pieces v (Body u))) (body_text text s i)
        (subst (λ (l : Text). TiedPieces (body_pieces w text s) (body_pieces v l u) ⊎ IsBodyOfNode (body_pieces w text s) (body_pieces v l u)) (body_text moved u j) (text_tied text moved s u h i j k))

    -- ---- expressions

    pub expressions_tied : (es : List Expr) (c : Clock) (s u : Scope) → TiedScope core other n s u → NotIn n.x (clock_names c) → EachOf (Free n.x) es → TiedPieces (expressions es c s) (expressions es c u)
    expressions_tied [] c s u h f k = no_pieces
    expressions_tied (e ∷ es) c s u h f k = more_pieces (expression h f k.0) (expressions_tied es c s u h f k.1)

    pub branches_tied : (y : Name) (bs : List MergeBranch) (c : Clock) (s u : Scope) → TiedScope core other n s u → NotIn n.x (clock_names c) → same n.x y ≡ false → EachValue (Free n.x) bs →
        TiedPieces (map (λ b. Expression b.value (c ++ record { tag = b.tag; name = y } ∷ []) s) bs) (map (λ b. Expression b.value (c ++ record { tag = b.tag; name = y } ∷ []) u) bs)
    branches_tied y [] c s u h f d k = no_pieces
    branches_tied y (b ∷ bs) c s u h f d k = more_pieces (expression h (not_longer n.x c (record { tag = b.tag; name = y }) f d) k.0) (branches_tied y bs c s u h f d k.1)

    pub callee_tied : (o p : Option Text) (place : ℕ) (c : Clock) (s u : Scope) (es rs : List Expr) → TiedOption core other n o p → TiedScope core other n s u → NotIn n.x (clock_names c) →
        TiedArguments core other n s u c es rs →
        TiedPieces (callee_pieces w (option_map (λ text. (es, text)) o) place c s) (callee_pieces v (option_map (λ text. (rs, text)) p) place c u)
    callee_tied _ _ place c s u es rs no_text h f k = no_pieces
    callee_tied _ _ place c s u es rs (both t) h f k = more_pieces (whole_body (called h f k t) of_call of_call t) no_pieces

    form_tied : (f : Form-F Form Expr MergeBranch) (e : Expr) (c : Clock) (s u : Scope) → TiedScope core other n s u → NotIn n.x (clock_names c) → EachOperand (Free n.x) f → NotIn n.x (form_names f) →
        TiedPieces (form_pieces w f e c s) (form_pieces v f e c u)
    form_tied (Form-F.Const k) e c s u h l m i = no_pieces
    form_tied (Form-F.Var y) e c s u h l m i = no_pieces
    form_tied (Form-F.Last y) e c s u h l m i = no_pieces
    form_tied (Form-F.Unary op a) e c s u h l m i = expressions_tied (a ∷ []) c s u h l (m, tt)
    form_tied (Form-F.Binary op a b) e c s u h l m i = expressions_tied (a ∷ b ∷ []) c s u h l (m.0, (m.1, tt))
    form_tied (Form-F.If k a b) e c s u h l m i = expressions_tied (k ∷ a ∷ b ∷ []) c s u h l (m.0, (m.1, (m.2, tt)))
    form_tied (Form-F.Fby a b) e c s u h l m i = expressions_tied (a ∷ b ∷ []) c s u h l (m.0, (m.1, tt))
    form_tied (Form-F.Pre a) e c s u h l m i = expressions_tied (a ∷ []) c s u h l (m, tt)
    form_tied (Form-F.Arrow a b) e c s u h l m i = expressions_tied (a ∷ b ∷ []) c s u h l (m.0, (m.1, tt))
    form_tied (Form-F.When a tag y) e c s u h l m i = expressions_tied (a ∷ []) (take (length c - 1) c) s u h (not_taken n.x (length c - 1) c l) (m, tt)
    form_tied (Form-F.Merge y bs) e c s u h l m i = branches_tied y bs c s u h l (not_head n.x y [] i) m
    form_tied (Form-F.Call g es) e c s u h l m i =
        pieces_append _ _ _ _ (callee_tied (w.node g) (v.node g) e.place.0 c s u es es (nodes g) h l (same_list core other n s u c es m)) (expressions_tied es c s u h l m)
    form_tied (Form-F.AsyncCall q g es) e c s u h l m i = expressions_tied es c s u h l m
    form_tied (Form-F.AsyncConst k) e c s u h l m i = no_pieces
    form_tied (Form-F.Get a) e c s u h l m i = expressions_tied (a ∷ []) c s u h l (m, tt)

    pub expression_tied : (e : Expr) (c : Clock) (s u : Scope) → TiedScope core other n s u → NotIn n.x (clock_names c) → Free n.x e → TiedPieces (pieces w (Expression e c s)) (pieces v (Expression e c u))
    expression_tied e c s u h f k = form_tied (out-Form e.form) e c s u h f (parts_free n.x e _ refl k) (own_free n.x e _ refl k)

    -- the pieces of a piece are tied, or are the equations of the node in which a subexpression is named
    pub inner_tied : (p q : Piece) → TiedPiece p q → TiedPieces (pieces w p) (pieces v q) ⊎ IsBodyOfNode (pieces w p) (pieces v q)
    inner_tied _ _ (expression {e = e} {c = c} {s = s} {u = u} h f k) = inl (expression_tied e c s u h f k)
    inner_tied _ _ (statement {e = e} {s = s} {u = u} h k) = inl (more_pieces (expression (under h k.resets) k.clock k.right) no_pieces)
    inner_tied _ _ (whole_body {text = text} {moved = moved} {s = s} {u = u} h i j k) = body_tied text moved s u h i j k

    -- ---- sites

    pub async_tied : (o p : Option Text) (queue : ℕ) (es rs : List Expr) (k l : ℕ) (c : Clock) (s u : Scope) → TiedOption core other n o p → l ≡ k → TiedScope core other n s u → NotIn n.x (clock_names c) →
        TiedArguments core other n s u c es rs → TiedSites (async_site w o queue es k c s) (async_site v p queue rs l c u)
    async_tied _ _ queue es rs k l c s u no_text e h f t = no_sites
    async_tied _ _ queue es rs k l c s u (both i) e h f t = more_sites (record { scope = h; clock = refl; free = f; place = e; queue = refl; args = t; text = i }) no_sites

    form_site_tied : (f : Form-F Form Expr MergeBranch) (e : Expr) (c : Clock) (s u : Scope) → TiedScope core other n s u → NotIn n.x (clock_names c) → EachOperand (Free n.x) f →
        TiedSites (form_site w f e c s) (form_site v f e c u)
    form_site_tied (Form-F.AsyncCall q g es) e c s u h l m = async_tied (w.node g) (v.node g) q es es e.place.0 e.place.0 c s u (nodes g) refl h l (same_list core other n s u c es m)
    form_site_tied _ e c s u h l m = no_sites

    pub own_tied : (p q : Piece) → TiedPiece p q → TiedSites (own_site w p) (own_site v q)
    own_tied _ _ (expression {e = e} {c = c} {s = s} {u = u} h f k) = form_site_tied (out-Form e.form) e c s u h f (parts_free n.x e _ refl k)
    own_tied _ _ (statement h k) = no_sites
    own_tied _ _ (whole_body h i j k) = no_sites
