-- Naming a subexpression of a core keeps the sites of its nodes.
use Rattle.std.proofs.Common.{◌≡◌, ℕ, List, map, Some, slice_get, refl, sym, subst}
use Rattle.hept_ast.specs.Texts.{Name}
use Rattle.hept_ast.specs.Scopes.{Lowered, Top}
use Rattle.hept_ast.specs.Meaning.{Setting}
use Rattle.hept_ast.specs.Settings.{Marks, Replies, of_core}
use Rattle.hept_ast.specs.Sites.{Piece, Body, Site, Sites, path_of, by_number}
use Rattle.hept_ast.specs.Paths.{AllDiffer}
use Rattle.hept_ast.specs.declared.tree.Core.{Core}
use Rattle.hept_ast.specs.declared.tree.CoreNode.{CoreNode}
use Rattle.hept_ast.proofs.Lists.{one_sites}
use Rattle.core_rules.specs.WellFormed.{IsWellFormed}
use Rattle.core_naming.specs.Names.{IsNaming}
use Rattle.core_naming.specs.KeptSites.{StandsFor, StandFor, no_sites as none_stand, more_sites as more_stand, KeepsSites}
use Rattle.core_naming.specs.NamingLaws.{NamingKeepsSites}
use Rattle.core_naming.specs.Ties.{of_top, top, TiedSite}
use Rattle.core_naming.proofs.TiedNodes.{TiedOption, nodes_tied, at_one_position, standing}
use Rattle.core_naming.proofs.TiedTexts.{IsQuiet}
use Rattle.core_naming.proofs.TiedPieces.{TiedSites, no_sites, more_sites, TiedPiece, whole_body}
use Rattle.core_naming.proofs.OrderOfSites.{path_tied, ordered_there, ordered_back}
use Rattle.core_naming.proofs.NamedSites.{FoundOf, found_of}
use Rattle.core_naming.proofs.SitesBack.{HasSites, back_of}
use Rattle.core_naming.proofs.NewNames.{naming_is_quiet}
use Rattle.core_naming.proofs.KeptSent.{naming_keeps_sent}

module _ (core other : Core) (n : IsNaming core other) (marked : Marks) (replies : Replies) (well : IsWellFormed core) where
  stands_for : (a b : Site) → TiedSite core other n a b → StandsFor core other marked replies a b
  stands_for a b h =
      let t = standing core other n a.text b.text h.text in
      record {
        path = path_tied core other n a b h;
        queue = h.queue;
        clock = h.clock;
        position = t.position;
        node = t.node;
        moved_node = t.moved_node;
        at = t.at;
        moved_at = t.moved_at;
        text = t.text_is;
        moved_text = t.moved_is;
        sent = λ rows calls. naming_keeps_sent core other n marked replies a b rows calls well h;
      }

  stand_for : (fs bs : List Site) → TiedSites core other n fs bs → StandFor core other marked replies fs bs
  stand_for _ _ no_sites = none_stand
  stand_for _ _ (more_sites {site = a} {moved = b} {sites = fs} {others = bs} h hs) = more_stand (stands_for a b h) (stand_for fs bs hs)

  module _ (k : ℕ) (node moved : CoreNode) (at : slice_get core.nodes k ≡ Some node) (moved_at : slice_get other.nodes k ≡ Some moved) where
    abbrev w : Setting
    w = of_core core marked replies

    abbrev v : Setting
    v = of_core other marked replies

    abbrev body : Piece
    body = Body (Top (Lowered node))

    abbrev moved_body : Piece
    moved_body = Body (Top (Lowered moved))

    nodes : (f : Name) → TiedOption core other n (w.node f) (v.node f)
    nodes f = nodes_tied core other n f

    quiet : IsQuiet core other n
    quiet = naming_is_quiet core other n well

    bodies_tied : TiedPiece core other n body moved_body
    bodies_tied = let t = at_one_position core other n k node moved at moved_at in whole_body (top t) of_top of_top t

    found_in : (h : HasSites w body) → FoundOf core other n w v moved_body h.0
    found_in h = found_of core other n w v nodes quiet body moved_body h.0 bodies_tied h.1

    there : (sites : List Site) → AllDiffer (map path_of sites) → Sites w (Lowered node) sites →
        (others : List Site) × Sites v (Lowered moved) others × StandFor core other marked replies sites others
    there sites differ all =
        let a = found_in (all.found, all.all) in (
          by_number a.others,
          record { found = a.others; all = a.all; order = refl },
          stand_for sites (by_number a.others)
              (subst (λ (l : List Site). TiedSites core other n l (by_number a.others)) all.order
              (ordered_there core other n all.found a.others a.order (subst (λ (l : List Site). AllDiffer (map path_of l)) (sym all.order) differ))),
        )

    back : (others : List Site) → AllDiffer (map path_of others) → Sites v (Lowered moved) others →
        (sites : List Site) × Sites w (Lowered node) sites × StandFor core other marked replies sites others
    back others differ all =
        let g : HasSites w body = back_of core other n w v nodes quiet body moved_body all.found bodies_tied all.all in
        let a = found_in g in
        let e : by_number a.others ≡ others = one_sites v (Lowered moved) (by_number a.others) others (record { found = a.others; all = a.all; order = refl }) all in (
          by_number g.0,
          record { found = g.0; all = g.1; order = refl },
          stand_for (by_number g.0) others
              (subst (λ (l : List Site). TiedSites core other n (by_number g.0) l) e
              (ordered_back core other n g.0 a.others a.order (subst (λ (l : List Site). AllDiffer (map path_of l)) (sym e) differ))),
        )

    keeps : KeepsSites core other marked replies node moved
    keeps = record { there = there; back = back }

pub naming_keeps_sites : NamingKeepsSites
naming_keeps_sites core other marked replies k node moved well n at moved_at = keeps core other n marked replies well k node moved at moved_at
