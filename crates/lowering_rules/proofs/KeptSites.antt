-- Lowering keeps the sites of nodes, and what they are sent.
use Rattle.std.proofs.Common.{◌≡◌, ◌↔◌, ℕ, suc, Bool, false, List, [], ◌∷◌, map, length, Some, slice_get, refl, sym, subst}
use Rattle.hept_ast.specs.Texts.{Name}
use Rattle.hept_ast.specs.Scopes.{Clock, Text, Written, Lowered, Scope, Top, Under, text_of}
use Rattle.hept_ast.specs.Meaning.{Gives, Present, Restarted, Answer, Value, Setting}
use Rattle.hept_ast.specs.Outputs.{Knows, HaveValues}
use Rattle.hept_ast.specs.Settings.{Marks, Replies, no_replies, of_core}
use Rattle.hept_ast.specs.Sites.{Site, Sites, SitesOf, whole, Piece, Body, pieces, SentFrom, Sent, end, no_call, call, argument_questions}
use Rattle.hept_ast.specs.Stages.{ClockedProgram}
use Rattle.hept_ast.specs.ClockMaps.{clock_in}
use Rattle.hept_ast.specs.declared.tree.Core.{Core}
use Rattle.hept_ast.specs.declared.tree.CoreNode.{CoreNode}
use Rattle.hept_ast.specs.declared.tree.Node.{Node}
use Rattle.hept_ast.specs.declared.tree.Expr.{Expr}
use Rattle.hept_ast.specs.declared.tree.TypeDec.{TypeDec}
use Rattle.hept_ast.proofs.Lists.{one_sites}
use Rattle.accepted_meaning.specs.ReplyLaws.{without_replies}
use Rattle.lowering_rules.specs.CallPaths.{text_calls, Agree, call_path}
use Rattle.lowering_rules.specs.LoweringLaws.{StandsFor, StandFor, no_sites as none_stand, more_sites as more_stand, LoweredSitesStand, LoweringKeepsSites}
use Rattle.lowering_rules.specs.Ties.{Sides, TiedNodes, TiedText, tied_text}
use Rattle.lowering_rules.specs.TiedScopes.{LowersAllIn, no_exprs, more_exprs, TiedScope, top}
use Rattle.lowering_rules.proofs.TiedTexts.{TiedOption, found_tied}
use Rattle.lowering_rules.proofs.TiedQuestions.{gives, present, inner_restarted, a_right, sides_of, leads}
use Rattle.lowering_rules.proofs.Known.{knows_there, knows_back}
use Rattle.lowering_rules.proofs.Orders.{in_order}
use Rattle.lowering_rules.proofs.TiedPieces.{TiedSite, tied_site, TiedSites, no_sites, more_sites, BodyInner, body_inner}
use Rattle.lowering_rules.proofs.FoundSites.{FoundAll, found_all, back_all}
use Rattle.lowering_rules.proofs.Accepted.{accepted_is_tied}
use Rattle.lowering_rules.proofs.KeptOutputs.{first, second, no_agree, texts_at}

-- where the answers on a site are those on another, it is sent the same
module _ (a b : Setting) (rows : List (List ℕ)) (site moved : Site)
    (is_restarted : (t : ℕ) (u : Answer) → Knows a rows (Restarted site.scope t) u → Knows b rows (Restarted moved.scope t) u)
    (is_present : (t : ℕ) (u : Answer) → Knows a rows (Present site.clock site.scope t) u → Knows b rows (Present moved.clock moved.scope t) u)
    (values : (t : ℕ) (us : List ℕ) → HaveValues a rows (argument_questions site t) us → HaveValues b rows (argument_questions moved t) us) where
  sent_carried : (again : Bool) (t left : ℕ) (calls : List (Bool × List ℕ)) → SentFrom a rows site again t left calls → SentFrom b rows moved again t left calls
  sent_carried again t left calls end = end
  sent_carried again t left calls (no_call {left = rest} r p l) = no_call (is_restarted t _ r) (is_present t _ p) (sent_carried _ (suc t) rest calls l)
  sent_carried again t left calls (call {left = rest} {args = us} {calls = more} r p k l) =
      call (is_restarted t _ r) (is_present t _ p) (values t us k) (sent_carried false (suc t) rest more l)

module _ (c : ClockedProgram) (core : Core) (chosen : Text) (nodes : TiedNodes (clock_in c.clocks) 0 c.program.nodes core.nodes) (marked : Marks) (replies others : Replies)
    (agree : Agree c.program.nodes chosen replies others) (types : core.types ≡ c.program.types) where
  abbrev z : Sides
  z = sides_of c core chosen

  abbrev w : Setting
  w = first c core chosen nodes marked replies others agree

  abbrev v : Setting
  v = second c core chosen nodes marked replies others agree

  module _ (rows : List (List ℕ)) where
    values_there : (s r : Scope) (k : Clock) (t : ℕ) {n m : ℕ} {es rs : List Expr} → TiedScope z s r → LowersAllIn (text_calls (text_of s)) n es rs m → (us : List ℕ) →
        HaveValues w rows (map (λ e. Gives e k s t) es) us → HaveValues v rows (map (λ e. Gives e k (Under r []) t) rs) us
    values_there s r k t h no_exprs [] i = tt
    values_there s r k t h no_exprs (u ∷ us) i = elim i [ ]
    values_there s r k t h (more_exprs l ls) [] i = elim i [ ]
    values_there s r k t h (more_exprs l ls) (u ∷ us) i =
        (knows_there c core chosen nodes marked replies others agree rows _ _ (Value u) (gives h l) i.0, values_there s r k t h ls us i.1)

    values_back : (s r : Scope) (k : Clock) (t : ℕ) {n m : ℕ} {es rs : List Expr} → TiedScope z s r → LowersAllIn (text_calls (text_of s)) n es rs m → (us : List ℕ) →
        HaveValues v rows (map (λ e. Gives e k (Under r []) t) rs) us → HaveValues w rows (map (λ e. Gives e k s t) es) us
    values_back s r k t h no_exprs [] i = tt
    values_back s r k t h no_exprs (u ∷ us) i = elim i [ ]
    values_back s r k t h (more_exprs l ls) [] i = elim i [ ]
    values_back s r k t h (more_exprs l ls) (u ∷ us) i =
        (knows_back c core chosen nodes marked replies others agree rows _ _ (Value u) (gives h l) i.0, values_back s r k t h ls us i.1)

    sent_there : (a b : Site) → TiedSite z a b → (calls : List (Bool × List ℕ)) → Sent w rows a calls → Sent v rows b calls
    sent_there _ _ (tied_site {s = s} {r = r} {c = k} {p = p} {i = i} {q = q} {es = es} {rs = rs} {text = text} {low = low} h l j o) calls =
        sent_carried w v rows (record { scope = s; clock = k; place = p; queue = q; args = es; text = text }) (record { scope = Under r []; clock = k; place = i; queue = q; args = rs; text = low })
        (λ t u f. knows_there c core chosen nodes marked replies others agree rows _ _ u (inner_restarted h) f)
        (λ t u f. knows_there c core chosen nodes marked replies others agree rows _ _ u (present h a_right) f)
        (λ t us f. values_there s r k t h l us f) false 0 (length rows) calls

    sent_back : (a b : Site) → TiedSite z a b → (calls : List (Bool × List ℕ)) → Sent v rows b calls → Sent w rows a calls
    sent_back _ _ (tied_site {s = s} {r = r} {c = k} {p = p} {i = i} {q = q} {es = es} {rs = rs} {text = text} {low = low} h l j o) calls =
        sent_carried v w rows (record { scope = Under r []; clock = k; place = i; queue = q; args = rs; text = low }) (record { scope = s; clock = k; place = p; queue = q; args = es; text = text })
        (λ t u f. knows_back c core chosen nodes marked replies others agree rows _ _ u (inner_restarted h) f)
        (λ t u f. knows_back c core chosen nodes marked replies others agree rows _ _ u (present h a_right) f)
        (λ t us f. values_back s r k t h l us f) false 0 (length rows) calls

  -- what the core's own setting says of what is sent
  own_types : (rows : List (List ℕ)) (a b : Site) (calls : List (Bool × List ℕ)) → Sent w rows a calls ↔ Sent v rows b calls → Sent w rows a calls ↔ Sent (of_core core marked others) rows b calls
  own_types rows a b calls h = subst (λ (ts : List TypeDec). Sent w rows a calls ↔ Sent (record (of_core core marked others) { types = ts }) rows b calls) (sym types) h

  stands_for : (a b : Site) → TiedSite z a b → StandsFor c core marked replies others chosen a b
  stands_for _ _ (tied_site {s = s} {r = r} {c = k} {p = p} {i = i} {q = q} {es = es} {rs = rs} h l (tied_text {k = n} {node = node} {low = low} at low_at t) o) =
      let a : Site = record { scope = s; clock = k; place = p; queue = q; args = es; text = Written n node } in
      let b : Site = record { scope = Under r []; clock = k; place = i; queue = q; args = rs; text = Lowered low } in
      let tie : TiedSite z a b = tied_site h l (tied_text at low_at t) o in
      record {
        path = call_path i (leads z s r h) o.at;
        queue = refl;
        clock = refl;
        position = n;
        node = node;
        low = low;
        at = at;
        low_at = low_at;
        text = refl;
        moved_text = refl;
        sent = λ rows calls. own_types rows a b calls (sent_there rows a b tie calls, sent_back rows a b tie calls);
      }

  stand_for : (fs bs : List Site) → TiedSites z fs bs → StandFor c core marked replies others chosen fs bs
  stand_for _ _ no_sites = none_stand
  stand_for _ _ (more_sites {a = a} {b = b} {fs = fs} {bs = bs} h hs) = more_stand (stands_for a b h) (stand_for fs bs hs)

  by_name : (f : Name) → TiedOption z (w.node f) (v.node f)
  by_name f = found_tied z f nodes

  abbrev own : Setting
  own = of_core core marked others

  -- the sites don't depend on what types are declared
  own_sites : (text : Text) (sites : List Site) → Sites v text sites → Sites own text sites
  own_sites text sites h = subst (λ (ts : List TypeDec). Sites (record (of_core core marked others) { types = ts }) text sites) (sym types) h

  of_own_sites : (text : Text) (sites : List Site) → Sites own text sites → Sites v text sites
  of_own_sites text sites h = subst (λ (ts : List TypeDec). Sites (record (of_core core marked others) { types = ts }) text sites) types h

  module _ (low : Text) (t : TiedText z chosen low) where
    abbrev body : Piece
    body = Body (Top chosen)

    abbrev low_body : Piece
    low_body = Body (Top low)

    inner : BodyInner z w v refl (λ f. refl) by_name (Top chosen) (Top low)
    inner = body_inner z w v refl (λ f. refl) by_name (Top chosen) (Top low) (top refl t)

    found : (sites : List Site) → SitesOf w body sites → FoundAll z w v refl (λ f. refl) by_name [] 0 inner.0 (pieces v low_body) sites
    found _ (whole {sites = ss} h) = found_all z w v refl (λ f. refl) by_name [] 0 inner.0 (pieces w body) (pieces v low_body) ss inner.1 h

    sites_back : (lowered : List Site) → SitesOf v low_body lowered → (sites : List Site) × SitesOf w body sites
    sites_back _ (whole {sites = ss} h) = let a = back_all z w v refl (λ f. refl) by_name [] 0 inner.0 (pieces w body) (pieces v low_body) ss inner.1 h in (a.0, whole a.1)

module _ (c : ClockedProgram) (core : Core) (marked : Marks) (replies others : Replies) (k : ℕ) (node : Node) (low : CoreNode) (at : slice_get c.program.nodes k ≡ Some node) (low_at : slice_get core.nodes k ≡ Some low)
    (nodes : TiedNodes (clock_in c.clocks) 0 c.program.nodes core.nodes) (agree : Agree c.program.nodes (Written k node) replies others) (types : core.types ≡ c.program.types) where
  abbrev this : Text
  this = Written k node

  tie : TiedText (sides_of c core this) this (Lowered low)
  tie = texts_at c core this nodes k node low at low_at

  there : (sites : List Site) → Sites (first c core this nodes marked replies others agree) this sites →
      (lowered : List Site) × Sites (of_core core marked others) (Lowered low) lowered × StandFor c core marked replies others this sites lowered
  there sites h =
      let a = found c core this nodes marked replies others agree types (Lowered low) tie h.found h.all in (
        a.others,
        own_sites c core this nodes marked replies others agree types (Lowered low) a.others (record { found = a.others; all = whole a.all; order = in_order a.others a.order }),
        stand_for c core this nodes marked replies others agree types sites a.others (subst (λ (l : List Site). TiedSites (sides_of c core this) l a.others) h.order a.same),
      )

  back : (lowered : List Site) → Sites (of_core core marked others) (Lowered low) lowered →
      (sites : List Site) × Sites (first c core this nodes marked replies others agree) this sites × StandFor c core marked replies others this sites lowered
  back lowered h =
      let s = of_own_sites c core this nodes marked replies others agree types (Lowered low) lowered h in
      let g = sites_back c core this nodes marked replies others agree types (Lowered low) tie s.found s.all in
      let a = found c core this nodes marked replies others agree types (Lowered low) tie g.0 g.1 in
      let e : a.others ≡ lowered = one_sites (second c core this nodes marked replies others agree) (Lowered low) a.others lowered (record { found = a.others; all = whole a.all; order = in_order a.others a.order }) s in (
        g.0,
        record { found = g.0; all = g.1; order = refl },
        stand_for c core this nodes marked replies others agree types g.0 lowered (subst (λ (l : List Site). TiedSites (sides_of c core this) g.0 l) e a.same),
      )

pub lowering_keeps_sites : LoweringKeepsSites
lowering_keeps_sites c core marked replies others k node low range accepted h at low_at agree =
    let nodes = accepted_is_tied c core range accepted h in
    record { there = there c core marked replies others k node low at low_at nodes agree h.types; back = back c core marked replies others k node low at low_at nodes agree h.types }

-- ---- sites that are found without replies

module _ (c : ClockedProgram) (core : Core) (marked : Marks) (k : ℕ) (node : Node) (low : CoreNode) (at : slice_get c.program.nodes k ≡ Some node) (low_at : slice_get core.nodes k ≡ Some low)
    (nodes : TiedNodes (clock_in c.clocks) 0 c.program.nodes core.nodes) (types : core.types ≡ c.program.types) where
  own_tied : (sites lowered : List Site) → Sites (without_replies c marked) (Written k node) sites → Sites (of_core core marked no_replies) (Lowered low) lowered →
      TiedSites (sides_of c core (Written k node)) sites lowered
  own_tied sites lowered h i =
      let text : Text = Written k node in
      let agree = no_agree c.program.nodes text in
      let s = of_own_sites c core text nodes marked no_replies no_replies agree types (Lowered low) lowered i in
      let a = found c core text nodes marked no_replies no_replies agree types (Lowered low) (texts_at c core text nodes k node low at low_at) h.found h.all in
      let e : a.others ≡ lowered = one_sites (second c core text nodes marked no_replies no_replies agree) (Lowered low) a.others lowered (record { found = a.others; all = whole a.all; order = in_order a.others a.order }) s in
      subst (λ (l : List Site). TiedSites (sides_of c core text) l lowered) h.order (subst (λ (l : List Site). TiedSites (sides_of c core text) h.found l) e a.same)

pub lowered_sites_stand : LoweredSitesStand
lowered_sites_stand c core marked replies others k node low sites lowered range accepted h at low_at s i agree =
    let nodes = accepted_is_tied c core range accepted h in
    stand_for c core (Written k node) nodes marked replies others agree h.types sites lowered (own_tied c core marked k node low at low_at nodes h.types sites lowered s i)
