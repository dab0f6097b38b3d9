-- The sites of tied pieces are tied, and those of the core stand in the order of their numbers.
use Rattle.std.proofs.Common.{◌≡◌, ℕ, suc, ◌≤◌, List, [], ◌∷◌, ◌++◌, arith}
use Rattle.hept_ast.specs.Texts.{Name}
use Rattle.hept_ast.specs.Scopes.{Scope, Called, Under, calls_around}
use Rattle.hept_ast.specs.Meaning.{Setting}
use Rattle.hept_ast.specs.Settings.{written_node}
use Rattle.hept_ast.specs.Sites.{Piece, Body, Site, pieces, own_site, SitesOf, whole, SitesOfAll, none, first}
use Rattle.lowering_rules.specs.Ties.{Sides}
use Rattle.lowering_rules.specs.TiedScopes.{called}
use Rattle.lowering_rules.proofs.TiedTexts.{TiedOption}
use Rattle.lowering_rules.proofs.Orders.{Ordered, Numbered, AllNumbered, each_append, wider, outwards, both_ordered, grows}
use Rattle.lowering_rules.proofs.TiedPieces.{TiedSites, no_sites, sites_append, TiedPiece, expression, statement, call_body, TiedPieces, no_pieces, more_pieces, one_on, Inner, expression_inner, statement_inner, body_inner}

module _ (z : Sides) (w v : Setting) (is : w.clock ≡ z.clock) (names : (f : Name) → written_node z.nodes 0 f ≡ w.node f) (nodes : (f : Name) → TiedOption z (w.node f) (v.node f)) where
  -- the sites in the core, tied to those of the program
  pub record Found (path : List ℕ) (n m : ℕ) (q : Piece) (sites : List Site) : Type 0 where
    pub others : List Site
    pub all : SitesOf v q others
    pub same : TiedSites z sites others
    pub order : Ordered others
    pub numbers : AllNumbered path n m others

  pub record FoundAll (path : List ℕ) (n m : ℕ) (qs : List Piece) (sites : List Site) : Type 0 where
    pub others : List Site
    pub all : SitesOfAll v qs others
    pub same : TiedSites z sites others
    pub order : Ordered others
    pub numbers : AllNumbered path n m others

  piece_grows : {path : List ℕ} {n m : ℕ} {p q : Piece} → TiedPiece z path n m p q → n ≤ m
  piece_grows (expression h l) = grows l
  piece_grows (statement h l on) = grows l
  piece_grows (call_body h l t i) = omega arith

  pieces_grow : {path : List ℕ} {n m : ℕ} {ps qs : List Piece} → TiedPieces z path n m ps qs → n ≤ m
  pieces_grow no_pieces = omega arith
  pieces_grow (more_pieces {n = n} {m = m} {k = k} h hs) = let i : n ≤ m = piece_grows h in let j : m ≤ k = pieces_grow hs in omega arith
  pieces_grow (one_on {n = n} {m = m} h) = let i : suc n ≤ m = pieces_grow h in omega arith

  -- own sites and those of the pieces behind them
  found_whole : (path : List ℕ) (n m : ℕ) (p q : Piece) (sites : List Site) (h : Inner z w v is names nodes path n m p q) → FoundAll path h.middle m (pieces v q) sites → n ≤ h.middle →
      Found path n m q (own_site w p ++ sites)
  found_whole path n m p q sites h a low =
      let top : h.middle ≤ m = pieces_grow h.inner in
      record {
        others = own_site v q ++ a.others;
        all = whole a.all;
        same = sites_append z (own_site w p) (own_site v q) sites a.others h.own a.same;
        order = both_ordered path n h.middle m (own_site v q) a.others h.order a.order h.numbers a.numbers;
        numbers = each_append (Numbered path n m) (own_site v q) a.others (wider path n h.middle n m (own_site v q) (omega arith) (omega arith) h.numbers) (wider path h.middle m n m a.others low (omega arith) a.numbers);
      }

  found_first : (path : List ℕ) (n m k : ℕ) (q : Piece) (qs : List Piece) (fs bs : List Site) → n ≤ m → m ≤ k → Found path n m q fs → FoundAll path m k qs bs → FoundAll path n k (q ∷ qs) (fs ++ bs)
  found_first path n m k q qs fs bs i j a b = record {
    others = a.others ++ b.others;
    all = first a.all b.all;
    same = sites_append z fs a.others bs b.others a.same b.same;
    order = both_ordered path n m k a.others b.others a.order b.order a.numbers b.numbers;
    numbers = each_append (Numbered path n k) a.others b.others (wider path n m n k a.others (omega arith) j a.numbers) (wider path m k n k b.others i (omega arith) b.numbers);
  }

  -- a called node's, whose numbers are of its own
  found_body : (path : List ℕ) (n m : ℕ) (s u : Scope) (sites : List Site) → FoundAll (path ++ n ∷ []) 0 m (pieces v (Body u)) sites → Found path n (suc n) (Body u) sites
  found_body path n m s u sites a = record { others = a.others; all = whole a.all; same = a.same; order = a.order; numbers = outwards path n 0 m a.others a.numbers }

  mutual
    pub found_of : (path : List ℕ) (n m : ℕ) (p q : Piece) (sites : List Site) → TiedPiece z path n m p q → SitesOf w p sites → Found path n m q sites
    found_of _ n m _ _ _ (expression {e = e} {d = d} {c = c} {s = s} {r = r} h l) (whole {sites = ss} k) =
        let i = expression_inner z w v is names nodes c s r h l in
        found_whole (calls_around r) n m _ _ ss i (found_all (calls_around r) i.middle m _ _ ss i.inner k) i.low
    found_of _ n m _ _ _ (statement {p = p} {left = left} {c = c} {s = s} {r = r} h l on) (whole {sites = ss} k) =
        let i = statement_inner z w v is names nodes p left c s r h l (on w is) in
        found_whole (calls_around r) n m _ _ ss i (found_all (calls_around r) i.middle m _ _ ss i.inner k) i.low
    found_of _ _ _ _ _ _ (call_body {s = s} {r = r} {c = c} {p = p} {n = n} {es = es} {rs = rs} {text = text} {low = low} h l t i) (whole {sites = ss} k) =
        let b = body_inner z w v is names nodes (Called s c p es text) (Called (Under r []) c n rs low) (called h l t i) in
        found_body (calls_around r) n b.0 (Called s c p es text) (Called (Under r []) c n rs low) ss (found_all (calls_around r ++ n ∷ []) 0 b.0 _ _ ss b.1 k)

    pub found_all : (path : List ℕ) (n m : ℕ) (ps qs : List Piece) (sites : List Site) → TiedPieces z path n m ps qs → SitesOfAll w ps sites → FoundAll path n m qs sites
    found_all path n m _ _ _ no_pieces none = record { others = []; all = none; same = no_sites; order = tt; numbers = tt }
    found_all path n m _ _ _ (more_pieces {m = j} {p = p} {q = q} {ps = ps} {qs = qs} h hs) (first {sites = fs} {others = bs} k ks) =
        found_first path n j m q qs fs bs (piece_grows h) (pieces_grow hs) (found_of path n j p q fs h k) (found_all path j m ps qs bs hs ks)
    found_all path n m ps qs sites (one_on h) k =
        let a = found_all path (suc n) m ps qs sites h k in
        record { others = a.others; all = a.all; same = a.same; order = a.order; numbers = wider path (suc n) m n m a.others (omega arith) (omega arith) a.numbers }

  -- ---- back

  abbrev pub HasSites : Piece → Type 0
  HasSites p = (sites : List Site) × SitesOf w p sites

  abbrev AllHaveSites : List Piece → Type 0
  AllHaveSites ps = (sites : List Site) × SitesOfAll w ps sites

  mutual
    pub back_of : (path : List ℕ) (n m : ℕ) (p q : Piece) (sites : List Site) → TiedPiece z path n m p q → SitesOf v q sites → HasSites p
    back_of _ n m p _ _ (expression {e = e} {d = d} {c = c} {s = s} {r = r} h l) (whole {sites = ss} k) =
        let i = expression_inner z w v is names nodes c s r h l in
        let a = back_all (calls_around r) i.middle m _ _ ss i.inner k in (own_site w p ++ a.0, whole a.1)
    back_of _ n m x _ _ (statement {p = p} {left = left} {c = c} {s = s} {r = r} h l on) (whole {sites = ss} k) =
        let i = statement_inner z w v is names nodes p left c s r h l (on w is) in
        let a = back_all (calls_around r) i.middle m _ _ ss i.inner k in (own_site w x ++ a.0, whole a.1)
    back_of _ _ _ _ _ _ (call_body {s = s} {r = r} {c = c} {p = p} {n = n} {es = es} {rs = rs} {text = text} {low = low} h l t i) (whole {sites = ss} k) =
        let b = body_inner z w v is names nodes (Called s c p es text) (Called (Under r []) c n rs low) (called h l t i) in
        let a = back_all (calls_around r ++ n ∷ []) 0 b.0 _ _ ss b.1 k in (a.0, whole a.1)

    pub back_all : (path : List ℕ) (n m : ℕ) (ps qs : List Piece) (sites : List Site) → TiedPieces z path n m ps qs → SitesOfAll v qs sites → AllHaveSites ps
    back_all path n m _ _ _ no_pieces none = ([], none)
    back_all path n m _ _ _ (more_pieces {m = j} {p = p} {q = q} {ps = ps} {qs = qs} h hs) (first {sites = fs} {others = bs} k ks) =
        let a = back_of path n j p q fs h k in let b = back_all path j m ps qs bs hs ks in (a.0 ++ b.0, first a.1 b.1)
    back_all path n m ps qs sites (one_on h) k = back_all path (suc n) m ps qs sites h k
