-- Namings one after another keep what one keeps.
use Rattle.std.specs.Prelude.{◌↔◌}
use Rattle.std.proofs.Common.{◌≡◌, ℕ, List, Some, slice_get, refl, sym, subst, ◌∙◌}
use Rattle.hept_ast.specs.Scopes.{Lowered}
use Rattle.hept_ast.specs.Settings.{Marks, Replies, of_core}
use Rattle.hept_ast.specs.Outputs.{Outputs}
use Rattle.hept_ast.specs.declared.tree.Core.{Core}
use Rattle.hept_ast.specs.declared.tree.CoreNode.{CoreNode}
use Rattle.core_rules.specs.Cores.{HasNoCoreCycle}
use Rattle.core_rules.specs.WellFormed.{IsWellFormed}
use Rattle.core_naming.specs.Names.{IsNaming, IsNewName, core_names}
use Rattle.core_naming.specs.KeptSites.{KeepsSites}
use Rattle.core_naming.specs.NamingLaws.{NamingKeepsOutputs, NamingKeepsSites, NamingKeepsWellFormed, NamingMakesNoCycle}
use Rattle.naming_rules.specs.Namings.{Namings, no_naming, one_more}
use Rattle.naming_rules.specs.Normalised.{HaveNewLocals, NamingsNormalise}
use Rattle.naming_rules.proofs.Within.{Within, within_itself, within_then, names_within}
use Rattle.naming_rules.proofs.NewLocals.{same_some, nodes_stay, nodes_further, node_there}
use Rattle.naming_rules.proofs.SitesThrough.{keeps_itself, keeps_through}

-- what namings keep, and that the names of the first core stay
record IsReached (core other : Core) : Type 0 where
  types : other.types ≡ core.types
  nodes : HaveNewLocals core core.nodes other.nodes
  names : Within (core_names core) (core_names other)
  well_formed : IsWellFormed other
  acyclic : HasNoCoreCycle other
  outputs : (marked : Marks) (replies : Replies) (k : ℕ) (node moved : CoreNode) (rows outs : List (List ℕ)) →
      slice_get core.nodes k ≡ Some node → slice_get other.nodes k ≡ Some moved →
      Outputs (of_core core marked replies) (Lowered node) rows outs ↔ Outputs (of_core other marked replies) (Lowered moved) rows outs
  sites : (marked : Marks) (replies : Replies) (k : ℕ) (node moved : CoreNode) →
      slice_get core.nodes k ≡ Some node → slice_get other.nodes k ≡ Some moved → KeepsSites core other marked replies node moved

reached_itself : (core : Core) → IsWellFormed core → HasNoCoreCycle core → IsReached core core
reached_itself core well acyclic = record {
  types = refl;
  nodes = nodes_stay core core.nodes;
  names = within_itself (core_names core);
  well_formed = well;
  acyclic = acyclic;
  outputs = λ marked replies k node moved rows outs at moved_at.
      subst (λ (m : CoreNode). Outputs (of_core core marked replies) (Lowered node) rows outs ↔ Outputs (of_core core marked replies) (Lowered m) rows outs)
      (same_some node moved (sym at ∙ moved_at)) (λ o. o, λ o. o);
  sites = λ marked replies k node moved at moved_at.
      subst (λ (m : CoreNode). KeepsSites core core marked replies node m) (same_some node moved (sym at ∙ moved_at)) (keeps_itself core marked replies node);
}

module _ (keeps_outputs : NamingKeepsOutputs) (keeps_sites : NamingKeepsSites) (keeps_well_formed : NamingKeepsWellFormed) (makes_no_cycle : NamingMakesNoCycle) where
  module _ (core other last : Core) (h : IsReached core other) (n : IsNaming other last) where
    -- a name that is new for the core in the middle is new for the first
    new : IsNewName core n.x
    new = record { marked = n.new.marked; fresh = h.names.absent n.x n.new.fresh }

    nodes : HaveNewLocals core core.nodes last.nodes
    nodes = nodes_further core other last n core.nodes h.nodes new

    outputs : (marked : Marks) (replies : Replies) (k : ℕ) (node moved : CoreNode) (rows outs : List (List ℕ)) →
        slice_get core.nodes k ≡ Some node → slice_get last.nodes k ≡ Some moved →
        Outputs (of_core core marked replies) (Lowered node) rows outs ↔ Outputs (of_core last marked replies) (Lowered moved) rows outs
    outputs marked replies k node moved rows outs at moved_at =
        let m = node_there core core.nodes other.nodes k node h.nodes at in
        let a = h.outputs marked replies k node m.0 rows outs at m.1 in
        let b = keeps_outputs other last marked replies k m.0 moved rows outs h.well_formed n m.1 moved_at in
        (λ o. b.0 (a.0 o), λ o. a.1 (b.1 o))

    sites : (marked : Marks) (replies : Replies) (k : ℕ) (node moved : CoreNode) →
        slice_get core.nodes k ≡ Some node → slice_get last.nodes k ≡ Some moved → KeepsSites core last marked replies node moved
    sites marked replies k node moved at moved_at =
        let m = node_there core core.nodes other.nodes k node h.nodes at in
        keeps_through core other last marked replies h.nodes (nodes_further other other last n other.nodes (nodes_stay other other.nodes) n.new) nodes node m.0 moved
        (h.sites marked replies k node m.0 at m.1) (keeps_sites other last marked replies k m.0 moved h.well_formed n m.1 moved_at)

    reached_further : IsReached core last
    reached_further = record {
      types = n.types ∙ h.types;
      nodes = nodes;
      names = within_then (core_names core) (core_names other) (core_names last) h.names (names_within other last n);
      well_formed = keeps_well_formed other last h.well_formed n;
      acyclic = makes_no_cycle other last h.well_formed h.acyclic n;
      outputs = outputs;
      sites = sites;
    }

  reached : (core other : Core) → IsWellFormed core → HasNoCoreCycle core → Namings core other → IsReached core other
  reached _ _ well acyclic (no_naming {core = core}) = reached_itself core well acyclic
  reached _ _ well acyclic (one_more {core = core} {other = other} {last = last} hs n) = reached_further core other last (reached core other well acyclic hs) n

pub namings_normalise : NamingKeepsOutputs → NamingKeepsSites → NamingKeepsWellFormed → NamingMakesNoCycle → NamingsNormalise
namings_normalise keeps_outputs keeps_sites keeps_well_formed makes_no_cycle core other well acyclic namings normal =
    let h = reached keeps_outputs keeps_sites keeps_well_formed makes_no_cycle core other well acyclic namings in
    record {
      types = h.types;
      nodes = h.nodes;
      well_formed = h.well_formed;
      normal = normal;
      acyclic = h.acyclic;
      outputs = h.outputs;
      sites = h.sites;
    }
