-- The sites of a piece of a core, in the core in which a subexpression is named: those of the subexpression come last.
use Rattle.std.proofs.Common.{◌≡◌, ⊎_elim, List, [], ◌∷◌, ◌++◌, refl, sym, subst}
use Rattle.std.specs.List.Sorted.{IsPermutation}
use Rattle.std.proofs.lemmas.List.Sorted.{IsPermutation-trans, IsPermutation-append_right}
use Rattle.hept_ast.specs.Texts.{Name}
use Rattle.hept_ast.specs.Scopes.{Clock, Scope, Lowered, Under}
use Rattle.hept_ast.specs.Meaning.{Setting}
use Rattle.hept_ast.specs.Sites.{Piece, Expression, Core_statement, Site, form_pieces, pieces, form_site, own_site, SitesOf, whole, SitesOfAll, none, first}
use Rattle.hept_ast.specs.declared.name.Place.{Place}
use Rattle.hept_ast.specs.declared.tree.Expr.{Expr}
use Rattle.hept_ast.specs.declared.tree.MergeBranch.{MergeBranch}
use Rattle.hept_ast.specs.declared.tree.Form.{Form}
use Rattle.hept_ast.specs.declared.tree.Form.TheOpen.{Form-F}
use Rattle.hept_ast.specs.declared.tree.Core.{Core}
use Rattle.core_naming.specs.Names.{IsNaming, new_equation, variable_at, with_right}
use Rattle.core_naming.specs.Ties.{IsBodyOf, of_equation, TiedScope, under}
use Rattle.core_naming.proofs.Mentions.{out_Var}
use Rattle.core_naming.proofs.TiedNodes.{TiedOption}
use Rattle.core_naming.proofs.TiedTexts.{IsQuiet, equation_quiet}
use Rattle.core_naming.proofs.TiedPieces.{no_sites, TiedPiece, expression, TiedPieces, no_pieces, more_pieces, EndPieces, at_end, before_end, NodePieces, this_equation, later_equation, expression_tied, inner_tied, own_tied}
use Rattle.core_naming.proofs.NamedPieces.{NamedExpr, here, inside, NamedPiece, this_piece, later_piece, named}
use Rattle.core_naming.proofs.OrderOfSites.{UpToOrder, in_order, both_orders, then_moved, with_nil, assoc_left, assoc_right, second_last}

-- a variable has no sites
variable_alone : (v : Setting) (p : Place) (x : Name) (c : Clock) (u : Scope) → SitesOf v (Expression (variable_at p x) c u) []
variable_alone v p x c u =
    subst (λ (f : Form-F Form Expr MergeBranch). SitesOf v (Expression (variable_at p x) c u) (form_site v f (variable_at p x) c u ++ [])) (out_Var x)
    (whole (subst (λ (f : Form-F Form Expr MergeBranch). SitesOfAll v (form_pieces v f (variable_at p x) c u) []) (sym (out_Var x)) none))

module _ (core other : Core) (n : IsNaming core other) (w v : Setting) where
  abbrev Up : List Site → List Site → Type 0
  Up sites others = UpToOrder core other n sites others

  -- the new equation, in a scope of the other core
  abbrev the_new : Scope → Piece
  the_new u = Core_statement (new_equation n.x n.a n.d n.step.equation.resets) u

  record Found (qs : List Piece) (sites : List Site) : Type 0 where
    others : List Site
    all : SitesOfAll v qs others
    order : Up sites others

  pub record FoundOf (q : Piece) (sites : List Site) : Type 0 where
    pub others : List Site
    pub all : SitesOf v q others
    pub order : Up sites others

  -- beside those of the pieces the sites of the subexpression
  record FoundBeside (u : Scope) (qs : List Piece) (sites : List Site) : Type 0 where
    others : List Site
    all : SitesOfAll v qs others
    outs : List Site
    out : SitesOfAll v (Expression n.a n.d u ∷ []) outs
    order : Up sites (others ++ outs)

  record FoundOfBeside (u : Scope) (q : Piece) (sites : List Site) : Type 0 where
    others : List Site
    all : SitesOf v q others
    outs : List Site
    out : SitesOfAll v (Expression n.a n.d u ∷ []) outs
    order : Up sites (others ++ outs)

  -- the sites of the pieces, and at the end more
  record FoundToEnd (qs : List Piece) (outs sites : List Site) : Type 0 where
    others : List Site
    all : SitesOfAll v qs others
    before : List Site
    order : Up sites before
    moved : IsPermutation (before ++ outs) others

  found_whole : (q : Piece) (own sites : List Site) → Up own (own_site v q) → Found (pieces v q) sites → FoundOf q (own ++ sites)
  found_whole q own sites h k = record { others = own_site v q ++ k.others; all = whole k.all; order = both_orders core other n own (own_site v q) sites k.others h k.order }

  found_first : (q : Piece) (qs : List Piece) (fs bs : List Site) → FoundOf q fs → Found qs bs → Found (q ∷ qs) (fs ++ bs)
  found_first q qs fs bs h k = record { others = h.others ++ k.others; all = first h.all k.all; order = both_orders core other n fs h.others bs k.others h.order k.order }

  -- the subexpression itself
  beside_here : (u : Scope) (own sites : List Site) → Up own (own_site v (Expression n.a n.d u)) → Found (pieces v (Expression n.a n.d u)) sites →
      FoundOfBeside u (Expression (variable_at n.a.place n.x) n.d u) (own ++ sites)
  beside_here u own sites h k =
      let a = found_whole (Expression n.a n.d u) own sites h k in
      record { others = []; all = variable_alone v n.a.place n.x n.d u; outs = a.others ++ []; out = first a.all none; order = then_moved core other n (own ++ sites) a.others (a.others ++ []) a.order (with_nil a.others) }

  beside_whole : (u : Scope) (q : Piece) (own sites : List Site) → Up own (own_site v q) → FoundBeside u (pieces v q) sites → FoundOfBeside u q (own ++ sites)
  beside_whole u q own sites h k = record {
    others = own_site v q ++ k.others;
    all = whole k.all;
    outs = k.outs;
    out = k.out;
    order = then_moved core other n (own ++ sites) (own_site v q ++ (k.others ++ k.outs)) ((own_site v q ++ k.others) ++ k.outs)
        (both_orders core other n own (own_site v q) sites (k.others ++ k.outs) h k.order) (assoc_left (own_site v q) k.others k.outs);
  }

  beside_first : (u : Scope) (q : Piece) (qs : List Piece) (fs bs : List Site) → FoundOfBeside u q fs → Found qs bs → FoundBeside u (q ∷ qs) (fs ++ bs)
  beside_first u q qs fs bs h k = record {
    others = h.others ++ k.others;
    all = first h.all k.all;
    outs = h.outs;
    out = h.out;
    order = then_moved core other n (fs ++ bs) ((h.others ++ h.outs) ++ k.others) ((h.others ++ k.others) ++ h.outs)
        (both_orders core other n fs (h.others ++ h.outs) bs k.others h.order k.order)
        (IsPermutation-trans _ _ _ (second_last h.others h.outs k.others) (assoc_left h.others k.others h.outs));
  }

  beside_later : (u : Scope) (q : Piece) (qs : List Piece) (fs bs : List Site) → FoundOf q fs → FoundBeside u qs bs → FoundBeside u (q ∷ qs) (fs ++ bs)
  beside_later u q qs fs bs h k = record {
    others = h.others ++ k.others;
    all = first h.all k.all;
    outs = k.outs;
    out = k.out;
    order = then_moved core other n (fs ++ bs) (h.others ++ (k.others ++ k.outs)) ((h.others ++ k.others) ++ k.outs)
        (both_orders core other n fs h.others bs (k.others ++ k.outs) h.order k.order) (assoc_left h.others k.others k.outs);
  }

  end_here : (u : Scope) (outs : List Site) → SitesOf v (the_new u) outs → FoundToEnd (the_new u ∷ []) outs []
  end_here u outs h = record { others = outs ++ []; all = first h none; before = []; order = in_order core other n [] [] no_sites; moved = with_nil outs }

  end_later : (q : Piece) (qs : List Piece) (outs fs bs : List Site) → FoundOf q fs → FoundToEnd qs outs bs → FoundToEnd (q ∷ qs) outs (fs ++ bs)
  end_later q qs outs fs bs h k = record {
    others = h.others ++ k.others;
    all = first h.all k.all;
    before = h.others ++ k.before;
    order = both_orders core other n fs h.others bs k.before h.order k.order;
    moved = IsPermutation-trans _ _ _ (assoc_right h.others k.before outs) (IsPermutation-append_right h.others _ _ k.moved);
  }

  -- the equation, whose right side has its sites beside those of the subexpression, and the rest with the new equation
  node_here : (u : Scope) (q : Piece) (qs : List Piece) (fs bs : List Site) (a : FoundBeside (Under u n.step.equation.resets) (pieces v q) fs) → own_site v q ≡ [] →
      FoundToEnd qs a.outs bs → Found (q ∷ qs) (fs ++ bs)
  node_here u q qs fs bs a e b = record {
    others = a.others ++ b.others;
    all = first (subst (λ (l : List Site). SitesOf v q (l ++ a.others)) e (whole a.all)) b.all;
    order = then_moved core other n (fs ++ bs) ((a.others ++ a.outs) ++ b.before) (a.others ++ b.others)
        (both_orders core other n fs (a.others ++ a.outs) bs b.before a.order b.order)
        (IsPermutation-trans _ _ _ (second_last a.others a.outs b.before) (IsPermutation-append_right a.others _ _ b.moved));
  }

  module _ (nodes : (f : Name) → TiedOption core other n (w.node f) (v.node f)) (quiet : IsQuiet core other n) where
    -- the right side of the equation in which the subexpression is named
    pub right_named : (s u : Scope) → TiedScope core other n s u → IsBodyOf (Lowered n.node) s → IsBodyOf (Lowered n.moved) u →
        NamedExpr core other n w v (Under s n.step.equation.resets) (Under u n.step.equation.resets) n.step.equation.clock.steps n.step.equation.right n.step.right
    right_named s u h i j =
        let f = equation_quiet core other n quiet in
        named core other n w v nodes quiet (Under s n.step.equation.resets) (Under u n.step.equation.resets) (under h f.resets) (of_equation i j) n.step.equation.clock.steps n.step.equation.right n.step.right f.clock f.right n.step.named

    mutual
      pub found_of : (p q : Piece) (sites : List Site) → TiedPiece core other n p q → SitesOf w p sites → FoundOf q sites
      found_of p q sites h (whole {sites = ss} k) =
          found_whole q (own_site w p) ss (in_order core other n (own_site w p) (own_site v q) (own_tied core other n w v nodes quiet p q h))
          (⊎_elim (λ t. found_all (pieces w p) (pieces v q) ss t k) (λ t. found_node t.s t.u (pieces w p) (pieces v q) ss t.scopes t.body t.moved_body t.equations k) (inner_tied core other n w v nodes quiet p q h))

      found_all : (ps qs : List Piece) (sites : List Site) → TiedPieces core other n ps qs → SitesOfAll w ps sites → Found qs sites
      found_all _ _ sites no_pieces none = record { others = []; all = none; order = in_order core other n [] [] no_sites }
      found_all _ _ sites (more_pieces {p = p} {q = q} {ps = ps} {qs = qs} h hs) (first {sites = fs} {others = bs} k ks) =
          found_first q qs fs bs (found_of p q fs h k) (found_all ps qs bs hs ks)

      found_expr : (s u : Scope) (c : Clock) (e r : Expr) (sites : List Site) → NamedExpr core other n w v s u c e r → SitesOf w (Expression e c s) sites → FoundOfBeside u (Expression r c u) sites
      found_expr s u _ _ _ sites (here h f k) (whole {sites = ss} l) =
          beside_here u (own_site w (Expression n.a n.d s)) ss
          (in_order core other n (own_site w (Expression n.a n.d s)) (own_site v (Expression n.a n.d u)) (own_tied core other n w v nodes quiet (Expression n.a n.d s) (Expression n.a n.d u) (expression h f k)))
          (found_all (pieces w (Expression n.a n.d s)) (pieces v (Expression n.a n.d u)) ss (expression_tied core other n w v nodes quiet n.a n.d s u h f k) l)
      found_expr s u _ _ _ sites (inside {c = c} {e = e} {r = r} h o) (whole {sites = ss} l) =
          beside_whole u (Expression r c u) (own_site w (Expression e c s)) ss (in_order core other n (own_site w (Expression e c s)) (own_site v (Expression r c u)) o)
          (found_piece s u (pieces w (Expression e c s)) (pieces v (Expression r c u)) ss h l)

      found_piece : (s u : Scope) (ps qs : List Piece) (sites : List Site) → NamedPiece core other n w v s u ps qs → SitesOfAll w ps sites → FoundBeside u qs sites
      found_piece s u _ _ sites (this_piece {c = c} {e = e} {r = r} {ps = ps} {qs = qs} h hs) (first {sites = fs} {others = bs} k ks) =
          beside_first u (Expression r c u) qs fs bs (found_expr s u c e r fs h k) (found_all ps qs bs hs ks)
      found_piece s u _ _ sites (later_piece {p = p} {q = q} {ps = ps} {qs = qs} h hs) (first {sites = fs} {others = bs} k ks) =
          beside_later u q qs fs bs (found_of p q fs h k) (found_piece s u ps qs bs hs ks)

      found_end : (u : Scope) (ps qs : List Piece) (outs sites : List Site) → SitesOf v (the_new u) outs → EndPieces core other n u ps qs → SitesOfAll w ps sites → FoundToEnd qs outs sites
      found_end u _ _ outs sites new at_end none = end_here u outs new
      found_end u _ _ outs sites new (before_end {p = p} {q = q} {ps = ps} {qs = qs} h hs) (first {sites = fs} {others = bs} k ks) =
          end_later q qs outs fs bs (found_of p q fs h k) (found_end u ps qs outs bs new hs ks)

      found_node : (s u : Scope) (ps qs : List Piece) (sites : List Site) → TiedScope core other n s u → IsBodyOf (Lowered n.node) s → IsBodyOf (Lowered n.moved) u → NodePieces core other n s u ps qs → SitesOfAll w ps sites → Found qs sites
      found_node s u _ _ sites h i j (this_equation {ps = ps} {qs = qs} hs) (first {others = bs} (whole {sites = ss} k) ks) =
          let a = found_piece (Under s n.step.equation.resets) (Under u n.step.equation.resets) _ _ ss (this_piece (right_named s u h i j) no_pieces) k in
          node_here u (Core_statement (with_right n.step.equation n.step.right) u) qs ss bs a refl (found_end u ps qs a.outs bs (whole a.out) hs ks)
      found_node s u _ _ sites h i j (later_equation {p = p} {q = q} {ps = ps} {qs = qs} t hs) (first {sites = fs} {others = bs} k ks) =
          found_first q qs fs bs (found_of p q fs t k) (found_node s u ps qs bs h i j hs ks)
