-- Sites stand for themselves, and for those that a core in the middle has between.
--
-- A core may hold one text at two positions, so that sites which stand for each other may do so at another position than their own.
-- The position at which the first and the last core meet is that of the first node of the site's name.
use Rattle.std.proofs.Common.{◌≡◌, ℕ, List, [], ◌∷◌, map, Some, refl, sym, ap, subst, ◌∙◌}
use Rattle.std.specs.List.{find}
use Rattle.std.proofs.lemmas.List.Elements.{All-head, All-tail}
use Rattle.hept_ast.specs.Texts.{Name, same}
use Rattle.hept_ast.specs.Scopes.{Lowered}
use Rattle.hept_ast.specs.Settings.{Marks, Replies, of_core}
use Rattle.hept_ast.specs.Sites.{Site, Sites, path_of}
use Rattle.hept_ast.specs.Paths.{AllDiffer}
use Rattle.hept_ast.specs.declared.tree.Core.{Core}
use Rattle.hept_ast.specs.declared.tree.CoreNode.{CoreNode}
use Rattle.core_naming.specs.KeptSites.{StandsFor, StandFor, no_sites, more_sites, KeepsSites}
use Rattle.naming_rules.specs.Normalised.{HaveNewLocals}
use Rattle.naming_rules.proofs.NewLocals.{StandTogether, nodes_stay, name_stays, found_together}
use Rattle.naming_rules.proofs.NamedSites.{IsNamedSite, AreNamed, found_name, named_sites}

-- ---- one core

module _ (core : Core) (marked : Marks) (replies : Replies) where
  stands_itself : (a : Site) → IsNamedSite core a → StandsFor core core marked replies a a
  stands_itself a h =
      let r : StandTogether core.nodes core.nodes h.node h.node = found_together core core.nodes core.nodes h.name h.node h.node (nodes_stay core core.nodes) h.found h.found in
      record {
        path = refl;
        queue = refl;
        clock = refl;
        position = r.0;
        node = h.node;
        moved_node = h.node;
        at = r.1;
        moved_at = r.2;
        text = h.text;
        moved_text = h.text;
        sent = λ rows calls. (λ s. s, λ s. s);
      }

  stand_themselves : (sites : List Site) → AreNamed core sites → StandFor core core marked replies sites sites
  stand_themselves [] h = no_sites
  stand_themselves (a ∷ sites) h = more_sites (stands_itself a (All-head (IsNamedSite core) a sites h)) (stand_themselves sites (All-tail (IsNamedSite core) a sites h))

  pub keeps_itself : (node : CoreNode) → KeepsSites core core marked replies node node
  keeps_itself node = record {
    there = λ sites differ all. (sites, all, stand_themselves sites (named_sites core marked replies node sites all));
    back = λ others differ all. (others, all, stand_themselves others (named_sites core marked replies node others all));
  }

-- ---- three cores

same_lowered : (a b : CoreNode) → Lowered a ≡ Lowered b → a ≡ b
same_lowered a b e = cc

paths_stand : (core other : Core) (marked : Marks) (replies : Replies) (sites others : List Site) → StandFor core other marked replies sites others → map path_of others ≡ map path_of sites
paths_stand core other marked replies _ _ no_sites = refl
paths_stand core other marked replies _ _ (more_sites {site = a} {moved = b} {sites = fs} {others = bs} h hs) =
    let e : path_of b ≡ path_of a = h.path in
    let f : map path_of bs ≡ map path_of fs = paths_stand core other marked replies fs bs hs in
    cc

module _ (core other last : Core) (marked : Marks) (replies : Replies) (there : HaveNewLocals core core.nodes other.nodes) (further : HaveNewLocals other other.nodes last.nodes) (through : HaveNewLocals core core.nodes last.nodes) where
  name_through : (a b c : Site) (p : IsNamedSite core a) (q : IsNamedSite last c) → StandsFor core other marked replies a b → StandsFor other last marked replies b c → p.name ≡ q.name
  name_through a b c p q h k =
      let e : p.node ≡ h.node = same_lowered p.node h.node (sym p.text ∙ h.text) in
      let f : h.moved_node ≡ k.node = same_lowered h.moved_node k.node (sym h.moved_text ∙ k.text) in
      let g : k.moved_node ≡ q.node = same_lowered k.moved_node q.node (sym k.moved_text ∙ q.text) in
      found_name p.name core.nodes p.node p.found ∙ ap (λ (m : CoreNode). m.name) e
      ∙ sym (name_stays core core.nodes other.nodes h.position h.node h.moved_node there h.at h.moved_at) ∙ ap (λ (m : CoreNode). m.name) f
      ∙ sym (name_stays other other.nodes last.nodes k.position k.node k.moved_node further k.at k.moved_at) ∙ ap (λ (m : CoreNode). m.name) g
      ∙ sym (found_name q.name last.nodes q.node q.found)

  stands_through : (a b c : Site) → IsNamedSite core a → IsNamedSite last c → StandsFor core other marked replies a b → StandsFor other last marked replies b c → StandsFor core last marked replies a c
  stands_through a b c p q h k =
      let found : find (λ m. same p.name m.name) last.nodes ≡ Some q.node =
      subst (λ (x : Name). find (λ m. same x m.name) last.nodes ≡ Some q.node) (sym (name_through a b c p q h k)) q.found in
      let r : StandTogether core.nodes last.nodes p.node q.node = found_together core core.nodes last.nodes p.name p.node q.node through p.found found in
      record {
        path = k.path ∙ h.path;
        queue = k.queue ∙ h.queue;
        clock = k.clock ∙ h.clock;
        position = r.0;
        node = p.node;
        moved_node = q.node;
        at = r.1;
        moved_at = r.2;
        text = p.text;
        moved_text = q.text;
        sent = λ rows calls. (λ s. (k.sent rows calls).0 ((h.sent rows calls).0 s), λ s. (h.sent rows calls).1 ((k.sent rows calls).1 s));
      }

  stand_through : (fs bs ls : List Site) → AreNamed core fs → AreNamed last ls → StandFor core other marked replies fs bs → StandFor other last marked replies bs ls → StandFor core last marked replies fs ls
  stand_through _ _ _ p q no_sites no_sites = no_sites
  stand_through _ _ _ p q (more_sites {site = a} {moved = b} {sites = fs} {others = bs} h hs) (more_sites {moved = c} {others = ls} k ks) =
      more_sites (stands_through a b c (All-head (IsNamedSite core) a fs p) (All-head (IsNamedSite last) c ls q) h k)
      (stand_through fs bs ls (All-tail (IsNamedSite core) a fs p) (All-tail (IsNamedSite last) c ls q) hs ks)

  module _ (node middle moved : CoreNode) (h : KeepsSites core other marked replies node middle) (k : KeepsSites other last marked replies middle moved) where
    sites_there : (sites : List Site) → AllDiffer (map path_of sites) → Sites (of_core core marked replies) (Lowered node) sites →
        (others : List Site) × Sites (of_core last marked replies) (Lowered moved) others × StandFor core last marked replies sites others
    sites_there sites differ all =
        let r = h.there sites differ all in
        let s = k.there r.0 (subst (λ (l : List (List ℕ)). AllDiffer l) (sym (paths_stand core other marked replies sites r.0 r.2)) differ) r.1 in
        (s.0, s.1, stand_through sites r.0 s.0 (named_sites core marked replies node sites all) (named_sites last marked replies moved s.0 s.1) r.2 s.2)

    sites_back : (others : List Site) → AllDiffer (map path_of others) → Sites (of_core last marked replies) (Lowered moved) others →
        (sites : List Site) × Sites (of_core core marked replies) (Lowered node) sites × StandFor core last marked replies sites others
    sites_back others differ all =
        let r = k.back others differ all in
        let s = h.back r.0 (subst (λ (l : List (List ℕ)). AllDiffer l) (paths_stand other last marked replies r.0 others r.2) differ) r.1 in
        (s.0, s.1, stand_through s.0 r.0 others (named_sites core marked replies node s.0 s.1) (named_sites last marked replies moved others all) s.2 r.2)

    pub keeps_through : KeepsSites core last marked replies node moved
    keeps_through = record { there = sites_there; back = sites_back }
