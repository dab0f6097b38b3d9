-- The pieces of an expression in which a subexpression is named.
use Rattle.std.proofs.Common.{◌≡◌, ℕ, ◌-◌, false, List, [], ◌∷◌, ◌++◌, length, take, map, sym, ap, subst}
use Rattle.std.specs.Option.{option_map}
use Rattle.hept_ast.specs.Texts.{Name, same}
use Rattle.hept_ast.specs.Scopes.{Clock, Scope}
use Rattle.hept_ast.specs.Meaning.{Setting}
use Rattle.hept_ast.specs.Sites.{Piece, Expression, expressions, callee_pieces, form_pieces, pieces, form_site, own_site}
use Rattle.hept_ast.specs.declared.name.Place.{Place}
use Rattle.hept_ast.specs.declared.tree.Tag.{Tag}
use Rattle.hept_ast.specs.declared.tree.Expr.{Expr}
use Rattle.hept_ast.specs.declared.tree.MergeBranch.{MergeBranch}
use Rattle.hept_ast.specs.declared.tree.Form.{Form, out-Form}
use Rattle.hept_ast.specs.declared.tree.Form.TheOpen.{Form-F}
use Rattle.hept_ast.specs.declared.tree.Core.{Core}
use Rattle.core_naming.specs.Names.{IsNaming, Names, NamesArgument, NamesBranch, variable_at, whole, in_unary, in_left, in_right, in_condition, in_then, in_else, in_fby_first, in_fby_next, in_pre, in_arrow_first, in_arrow_next, in_when, in_merge, in_call, in_async_call, in_get, this_argument, later_argument, this_branch, later_branch}
use Rattle.core_naming.specs.Ties.{clock_names, IsOfEquation, TiedArguments, TiedScope}
use Rattle.core_naming.proofs.Mentions.{NotIn, Free, EachOf, EachValue, not_head, not_taken, not_longer, own_free, parts_free}
use Rattle.core_naming.proofs.TiedNodes.{TiedOption}
use Rattle.core_naming.proofs.TiedForms.{named_list}
use Rattle.core_naming.proofs.TiedTexts.{IsQuiet}
use Rattle.core_naming.proofs.TiedPieces.{TiedSites, no_sites, TiedPiece, expression, TiedPieces, no_pieces, more_pieces, expressions_tied, branches_tied, callee_tied, async_tied}

module _ (core other : Core) (n : IsNaming core other) (w v : Setting) where
  mutual
    -- An expression on a clock in which the subexpression is named: it is the subexpression, or in one of its pieces it is named.
    pub data NamedExpr (s u : Scope) : Clock → Expr → Expr → Type 0 where
      here : TiedScope core other n s u → NotIn n.x (clock_names n.d) → Free n.x n.a → NamedExpr s u n.d n.a (variable_at n.a.place n.x)
      inside : {c : Clock} {e r : Expr} → NamedPiece s u (pieces w (Expression e c s)) (pieces v (Expression r c u)) →
          TiedSites core other n (own_site w (Expression e c s)) (own_site v (Expression r c u)) → NamedExpr s u c e r

    pub data NamedPiece (s u : Scope) : List Piece → List Piece → Type 0 where
      this_piece : {c : Clock} {e r : Expr} {ps qs : List Piece} → NamedExpr s u c e r → TiedPieces core other n ps qs → NamedPiece s u (Expression e c s ∷ ps) (Expression r c u ∷ qs)
      later_piece : {p q : Piece} {ps qs : List Piece} → TiedPiece core other n p q → NamedPiece s u ps qs → NamedPiece s u (p ∷ ps) (q ∷ qs)

  after_pieces : (s u : Scope) (fs bs cs ds : List Piece) → TiedPieces core other n fs bs → NamedPiece s u cs ds → NamedPiece s u (fs ++ cs) (bs ++ ds)
  after_pieces s u _ _ cs ds no_pieces k = k
  after_pieces s u _ _ cs ds (more_pieces h hs) k = later_piece h (after_pieces s u _ _ cs ds hs k)

  by_forms : (s u : Scope) (c : Clock) (e r : Expr) (f g : Form-F Form Expr MergeBranch) → out-Form e.form ≡ f → out-Form r.form ≡ g →
      NamedPiece s u (form_pieces w f e c s) (form_pieces v g r c u) → TiedSites core other n (form_site w f e c s) (form_site v g r c u) → NamedExpr s u c e r
  by_forms s u c e r f g p q h k =
      inside (subst (λ (l : Form-F Form Expr MergeBranch). NamedPiece s u (form_pieces w l e c s) (pieces v (Expression r c u))) (sym p)
      (subst (λ (l : Form-F Form Expr MergeBranch). NamedPiece s u (form_pieces w f e c s) (form_pieces v l r c u)) (sym q) h))
      (subst (λ (l : Form-F Form Expr MergeBranch). TiedSites core other n (form_site w l e c s) (own_site v (Expression r c u))) (sym p)
      (subst (λ (l : Form-F Form Expr MergeBranch). TiedSites core other n (form_site w f e c s) (form_site v l r c u)) (sym q) k))

  module _ (nodes : (f : Name) → TiedOption core other n (w.node f) (v.node f)) (quiet : IsQuiet core other n)
      (s u : Scope) (h : TiedScope core other n s u) (o : IsOfEquation core other n s u) where
    rest_tied : (es : List Expr) (c : Clock) → NotIn n.x (clock_names c) → EachOf (Free n.x) es → TiedPieces core other n (expressions es c s) (expressions es c u)
    rest_tied es c f k = expressions_tied core other n w v nodes quiet es c s u h f k

    call_tied : (g : Name) (es rs : List Expr) (k l : ℕ) (c : Clock) → l ≡ k → NotIn n.x (clock_names c) → TiedArguments core other n s u c es rs →
        TiedPieces core other n (callee_pieces w (option_map (λ text. (es, text)) (w.node g)) k c s) (callee_pieces v (option_map (λ text. (rs, text)) (v.node g)) l c u)
    call_tied g es rs k l c e f t =
        subst (λ (m : ℕ). TiedPieces core other n (callee_pieces w (option_map (λ text. (es, text)) (w.node g)) k c s) (callee_pieces v (option_map (λ text. (rs, text)) (v.node g)) m c u)) (sym e)
        (callee_tied core other n w v nodes quiet (w.node g) (v.node g) k c s u es rs (nodes g) h f t)

    place_moved : (e r : Expr) → r.place ≡ e.place → r.place.0 ≡ e.place.0
    place_moved e r p = ap (λ (q : Place). q.0) p

    mutual
      pub named : (c : Clock) (e r : Expr) → NotIn n.x (clock_names c) → Free n.x e → Names n.x n.a n.d c e r → NamedExpr s u c e r
      named _ _ _ f k whole = here h f k
      named c e r f k (in_unary {b = b} {m = m} {op = op} p q t l) =
          let z = parts_free n.x e (Form-F.Unary op b) q k in
          by_forms s u c e r (Form-F.Unary op b) (Form-F.Unary op m) q t (this_piece (named c b m f z l) no_pieces) no_sites
      named c e r f k (in_left {b = b} {f = g} {m = m} {op = op} p q t l) =
          let z = parts_free n.x e (Form-F.Binary op b g) q k in
          by_forms s u c e r (Form-F.Binary op b g) (Form-F.Binary op m g) q t (this_piece (named c b m f z.0 l) (rest_tied (g ∷ []) c f (z.1, tt))) no_sites
      named c e r f k (in_right {b = b} {f = g} {m = m} {op = op} p q t l) =
          let z = parts_free n.x e (Form-F.Binary op b g) q k in
          by_forms s u c e r (Form-F.Binary op b g) (Form-F.Binary op b m) q t (later_piece (expression h f z.0) (this_piece (named c g m f z.1 l) no_pieces)) no_sites
      named c e r f k (in_condition {i = i} {b = b} {f = g} {m = m} p q t l) =
          let z = parts_free n.x e (Form-F.If i b g) q k in
          by_forms s u c e r (Form-F.If i b g) (Form-F.If m b g) q t (this_piece (named c i m f z.0 l) (rest_tied (b ∷ g ∷ []) c f (z.1, (z.2, tt)))) no_sites
      named c e r f k (in_then {i = i} {b = b} {f = g} {m = m} p q t l) =
          let z = parts_free n.x e (Form-F.If i b g) q k in
          by_forms s u c e r (Form-F.If i b g) (Form-F.If i m g) q t (later_piece (expression h f z.0) (this_piece (named c b m f z.1 l) (rest_tied (g ∷ []) c f (z.2, tt)))) no_sites
      named c e r f k (in_else {i = i} {b = b} {f = g} {m = m} p q t l) =
          let z = parts_free n.x e (Form-F.If i b g) q k in
          by_forms s u c e r (Form-F.If i b g) (Form-F.If i b m) q t
          (later_piece (expression h f z.0) (later_piece (expression h f z.1) (this_piece (named c g m f z.2 l) no_pieces))) no_sites
      named c e r f k (in_fby_first {b = b} {f = g} {m = m} p q t l) =
          let z = parts_free n.x e (Form-F.Fby b g) q k in
          by_forms s u c e r (Form-F.Fby b g) (Form-F.Fby m g) q t (this_piece (named c b m f z.0 l) (rest_tied (g ∷ []) c f (z.1, tt))) no_sites
      named c e r f k (in_fby_next {b = b} {f = g} {m = m} p q t l) =
          let z = parts_free n.x e (Form-F.Fby b g) q k in
          by_forms s u c e r (Form-F.Fby b g) (Form-F.Fby b m) q t (later_piece (expression h f z.0) (this_piece (named c g m f z.1 l) no_pieces)) no_sites
      named c e r f k (in_pre {b = b} {m = m} p q t l) =
          let z = parts_free n.x e (Form-F.Pre b) q k in
          by_forms s u c e r (Form-F.Pre b) (Form-F.Pre m) q t (this_piece (named c b m f z l) no_pieces) no_sites
      named c e r f k (in_arrow_first {b = b} {f = g} {m = m} p q t l) =
          let z = parts_free n.x e (Form-F.Arrow b g) q k in
          by_forms s u c e r (Form-F.Arrow b g) (Form-F.Arrow m g) q t (this_piece (named c b m f z.0 l) (rest_tied (g ∷ []) c f (z.1, tt))) no_sites
      named c e r f k (in_arrow_next {b = b} {f = g} {m = m} p q t l) =
          let z = parts_free n.x e (Form-F.Arrow b g) q k in
          by_forms s u c e r (Form-F.Arrow b g) (Form-F.Arrow b m) q t (later_piece (expression h f z.0) (this_piece (named c g m f z.1 l) no_pieces)) no_sites
      named c e r f k (in_when {b = b} {m = m} {tag = tag} {y = y} p q t l) =
          let z = parts_free n.x e (Form-F.When b tag y) q k in
          by_forms s u c e r (Form-F.When b tag y) (Form-F.When m tag y) q t
          (this_piece (named (take (length c - 1) c) b m (not_taken n.x (length c - 1) c f) z l) no_pieces) no_sites
      named c e r f k (in_merge {y = y} {bs = bs} {ms = ms} p q t l) =
          let z = parts_free n.x e (Form-F.Merge y bs) q k in
          by_forms s u c e r (Form-F.Merge y bs) (Form-F.Merge y ms) q t (named_branch y c bs ms f (not_head n.x y [] (own_free n.x e (Form-F.Merge y bs) q k)) z l) no_sites
      named c e r f k (in_call {f = g} {es = es} {ms = ms} p q t l) =
          let z = parts_free n.x e (Form-F.Call g es) q k in
          by_forms s u c e r (Form-F.Call g es) (Form-F.Call g ms) q t
          (after_pieces s u _ _ _ _ (call_tied g es ms e.place.0 r.place.0 c (place_moved e r p) f (named_list core other n s u o l z)) (named_argument c es ms f z l)) no_sites
      named c e r f k (in_async_call {q = j} {f = g} {es = es} {ms = ms} p q t l) =
          let z = parts_free n.x e (Form-F.AsyncCall j g es) q k in
          by_forms s u c e r (Form-F.AsyncCall j g es) (Form-F.AsyncCall j g ms) q t (named_argument c es ms f z l)
          (async_tied core other n w v nodes quiet (w.node g) (v.node g) j es ms e.place.0 r.place.0 c s u (nodes g) (place_moved e r p) h f (named_list core other n s u o l z))
      named c e r f k (in_get {b = b} {m = m} p q t l) =
          let z = parts_free n.x e (Form-F.Get b) q k in
          by_forms s u c e r (Form-F.Get b) (Form-F.Get m) q t (this_piece (named c b m f z l) no_pieces) no_sites

      named_argument : (c : Clock) (es rs : List Expr) → NotIn n.x (clock_names c) → EachOf (Free n.x) es → NamesArgument n.x n.a n.d c es rs → NamedPiece s u (expressions es c s) (expressions rs c u)
      named_argument c _ _ f k (this_argument {e = e} {m = m} {es = es} l) = this_piece (named c e m f k.0 l) (rest_tied es c f k.1)
      named_argument c _ _ f k (later_argument {es = es} {ms = ms} l) = later_piece (expression h f k.0) (named_argument c es ms f k.1 l)

      named_branch : (y : Name) (c : Clock) (bs rs : List MergeBranch) → NotIn n.x (clock_names c) → same n.x y ≡ false → EachValue (Free n.x) bs → NamesBranch n.x n.a n.d y c bs rs →
          NamedPiece s u (map (λ b. Expression b.value (c ++ record { tag = b.tag; name = y } ∷ []) s) bs) (map (λ b. Expression b.value (c ++ record { tag = b.tag; name = y } ∷ []) u) rs)
      named_branch y c _ _ f d k (this_branch {b = b} {m = m} {bs = bs} p q l) =
          subst (λ (tag : Tag). NamedPiece s u (map (λ b. Expression b.value (c ++ record { tag = b.tag; name = y } ∷ []) s) (b ∷ bs))
          (Expression m.value (c ++ record { tag = tag; name = y } ∷ []) u ∷ map (λ b. Expression b.value (c ++ record { tag = b.tag; name = y } ∷ []) u) bs)) (sym q)
          (this_piece (named (c ++ record { tag = b.tag; name = y } ∷ []) b.value m.value (not_longer n.x c (record { tag = b.tag; name = y }) f d) k.0 l) (branches_tied core other n w v nodes quiet y bs c s u h f d k.1))
      named_branch y c _ _ f d k (later_branch {b = b} {bs = bs} {ms = ms} l) =
          later_piece (expression h (not_longer n.x c (record { tag = b.tag; name = y }) f d) k.0) (named_branch y c bs ms f d k.1 l)
