-- Pieces of a core have sites where those of the core in which a subexpression is named have some.
use Rattle.std.proofs.Common.{⊎_elim, List, [], ◌∷◌, ◌++◌}
use Rattle.hept_ast.specs.Texts.{Name}
use Rattle.hept_ast.specs.Scopes.{Clock, Scope, Lowered, Under}
use Rattle.hept_ast.specs.Meaning.{Setting}
use Rattle.hept_ast.specs.Sites.{Piece, Expression, Core_statement, Site, pieces, own_site, SitesOf, whole, SitesOfAll, none, first}
use Rattle.hept_ast.specs.declared.tree.Expr.{Expr}
use Rattle.hept_ast.specs.declared.tree.Core.{Core}
use Rattle.core_naming.specs.Names.{IsNaming}
use Rattle.core_naming.specs.Ties.{IsBodyOf, TiedScope, under}
use Rattle.core_naming.proofs.TiedTexts.{IsQuiet, equation_quiet, named_free}
use Rattle.core_naming.proofs.TiedNodes.{TiedOption}
use Rattle.core_naming.proofs.TiedPieces.{TiedPiece, expression, TiedPieces, no_pieces, more_pieces, EndPieces, at_end, before_end, NodePieces, this_equation, later_equation, inner_tied}
use Rattle.core_naming.proofs.NamedPieces.{NamedExpr, here, inside, NamedPiece, this_piece, later_piece}
use Rattle.core_naming.proofs.NamedSites.{right_named}

abbrev pub HasSites : Setting → Piece → Type 0
HasSites w p = (sites : List Site) × SitesOf w p sites

abbrev AllHaveSites : Setting → List Piece → Type 0
AllHaveSites w ps = (sites : List Site) × SitesOfAll w ps sites

has_whole : (w : Setting) (p : Piece) → AllHaveSites w (pieces w p) → HasSites w p
has_whole w p h = (own_site w p ++ h.0, whole h.1)

has_first : (w : Setting) (p : Piece) (ps : List Piece) → HasSites w p → AllHaveSites w ps → AllHaveSites w (p ∷ ps)
has_first w p ps h k = (h.0 ++ k.0, first h.1 k.1)

module _ (core other : Core) (n : IsNaming core other) (w v : Setting) (nodes : (f : Name) → TiedOption core other n (w.node f) (v.node f)) (quiet : IsQuiet core other n) where
  mutual
    pub back_of : (p q : Piece) (sites : List Site) → TiedPiece core other n p q → SitesOf v q sites → HasSites w p
    back_of p q sites h (whole {sites = ss} k) =
        has_whole w p (⊎_elim (λ t. back_all (pieces w p) (pieces v q) ss t k) (λ t. back_node t.s t.u (pieces w p) (pieces v q) ss t.scopes t.body t.moved_body t.equations k) (inner_tied core other n w v nodes quiet p q h))

    back_all : (ps qs : List Piece) (sites : List Site) → TiedPieces core other n ps qs → SitesOfAll v qs sites → AllHaveSites w ps
    back_all _ _ sites no_pieces none = ([], none)
    back_all _ _ sites (more_pieces {p = p} {q = q} {ps = ps} {qs = qs} h hs) (first {sites = fs} {others = bs} k ks) = has_first w p ps (back_of p q fs h k) (back_all ps qs bs hs ks)

    -- an expression, given the sites of the subexpression
    back_expr : (s u : Scope) (c : Clock) (e r : Expr) (sites : List Site) → NamedExpr core other n w v s u c e r → HasSites w (Expression n.a n.d s) → SitesOf v (Expression r c u) sites → HasSites w (Expression e c s)
    back_expr s u _ _ _ sites (here h f k) given (whole l) = given
    back_expr s u _ _ _ sites (inside {c = c} {e = e} {r = r} h o) given (whole {sites = ss} l) =
        has_whole w (Expression e c s) (back_piece s u (pieces w (Expression e c s)) (pieces v (Expression r c u)) ss h given l)

    back_piece : (s u : Scope) (ps qs : List Piece) (sites : List Site) → NamedPiece core other n w v s u ps qs → HasSites w (Expression n.a n.d s) → SitesOfAll v qs sites → AllHaveSites w ps
    back_piece s u _ _ sites (this_piece {c = c} {e = e} {r = r} {ps = ps} {qs = qs} h hs) given (first {sites = fs} {others = bs} k ks) =
        has_first w (Expression e c s) ps (back_expr s u c e r fs h given k) (back_all ps qs bs hs ks)
    back_piece s u _ _ sites (later_piece {p = p} {q = q} {ps = ps} {qs = qs} h hs) given (first {sites = fs} {others = bs} k ks) =
        has_first w p ps (back_of p q fs h k) (back_piece s u ps qs bs hs given ks)

    -- the sites of the subexpression are those of the new equation
    back_end : (s u : Scope) (ps qs : List Piece) (sites : List Site) → TiedScope core other n s u → EndPieces core other n u ps qs → SitesOfAll v qs sites →
        AllHaveSites w ps × HasSites w (Expression n.a n.d (Under s n.step.equation.resets))
    back_end s u _ _ sites h at_end (first (whole (first {sites = fs} l none)) none) = (
      ([], none),
      back_of (Expression n.a n.d (Under s n.step.equation.resets)) (Expression n.a n.d (Under u n.step.equation.resets)) fs
          (expression (under h (equation_quiet core other n quiet).resets) (named_free core other n quiet).1 (named_free core other n quiet).0) l,
    )
    back_end s u _ _ sites h (before_end {p = p} {q = q} {ps = ps} {qs = qs} t ts) (first {sites = fs} {others = bs} l ls) =
        let r = back_end s u ps qs bs h ts ls in (has_first w p ps (back_of p q fs t l) r.0, r.1)

    back_node : (s u : Scope) (ps qs : List Piece) (sites : List Site) → TiedScope core other n s u → IsBodyOf (Lowered n.node) s → IsBodyOf (Lowered n.moved) u → NodePieces core other n s u ps qs → SitesOfAll v qs sites → AllHaveSites w ps
    back_node s u _ _ sites h i j (this_equation {ps = ps} {qs = qs} ts) (first {others = bs} (whole {sites = ss} l) ls) =
        let t = right_named core other n w v nodes quiet s u h i j in
        let r = back_end s u ps qs bs h ts ls in
        has_first w (Core_statement n.step.equation s) ps
        (has_whole w (Core_statement n.step.equation s) (back_piece (Under s n.step.equation.resets) (Under u n.step.equation.resets) _ _ ss (this_piece t no_pieces) r.1 l)) r.0
    back_node s u _ _ sites h i j (later_equation {p = p} {q = q} {ps = ps} {qs = qs} t ts) (first {sites = fs} {others = bs} l ls) =
        has_first w p ps (back_of p q fs t l) (back_node s u ps qs bs h i j ts ls)
