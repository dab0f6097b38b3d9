-- What naming a subexpression of a core keeps.
use Rattle.std.specs.Prelude.{◌≡◌, ◌↔◌, ℕ, Bool, List, Some, slice_get}
use Rattle.hept_ast.specs.Scopes.{Lowered}
use Rattle.hept_ast.specs.Settings.{Marks, Replies, of_core}
use Rattle.hept_ast.specs.Outputs.{Outputs}
use Rattle.hept_ast.specs.declared.tree.Core.{Core}
use Rattle.hept_ast.specs.declared.tree.CoreNode.{CoreNode}
use Rattle.core_rules.specs.Cores.{HasNoCoreCycle}
use Rattle.core_rules.specs.WellFormed.{IsWellFormed}
use Rattle.core_naming.specs.Names.{IsNaming}
use Rattle.core_naming.specs.KeptSites.{KeepsSites}
use Rattle.core_naming.specs.Ties.{TiedSite}
use Rattle.hept_ast.specs.Sites.{Site, Sent}

-- the outputs, both ways, under any marks and replies
abbrev pub NamingKeepsOutputs : Type 0
NamingKeepsOutputs = (core other : Core) (marked : Marks) (replies : Replies) (k : ℕ) (node moved : CoreNode) (rows outs : List (List ℕ)) →
    IsWellFormed core → IsNaming core other → slice_get core.nodes k ≡ Some node → slice_get other.nodes k ≡ Some moved →
    Outputs (of_core core marked replies) (Lowered node) rows outs ↔ Outputs (of_core other marked replies) (Lowered moved) rows outs

-- the sites and what they are sent
abbrev pub NamingKeepsSites : Type 0
NamingKeepsSites = (core other : Core) (marked : Marks) (replies : Replies) (k : ℕ) (node moved : CoreNode) →
    IsWellFormed core → IsNaming core other → slice_get core.nodes k ≡ Some node → slice_get other.nodes k ≡ Some moved →
    KeepsSites core other marked replies node moved

abbrev pub NamingKeepsWellFormed : Type 0
NamingKeepsWellFormed = (core other : Core) → IsWellFormed core → IsNaming core other → IsWellFormed other

abbrev pub NamingMakesNoCycle : Type 0
NamingMakesNoCycle = (core other : Core) → IsWellFormed core → HasNoCoreCycle core → IsNaming core other → HasNoCoreCycle other

-- a site and the one that it becomes are sent the same
abbrev pub NamingKeepsSent : Type 0
NamingKeepsSent = (core other : Core) (n : IsNaming core other) (marked : Marks) (replies : Replies) (site moved : Site) (rows : List (List ℕ)) (calls : List (Bool × List ℕ)) →
    IsWellFormed core → TiedSite core other n site moved →
    Sent (of_core core marked replies) rows site calls ↔ Sent (of_core other marked replies) rows moved calls
