-- Names that a core does not have.
use Rattle.std.specs.Prelude.{◌≡◌, ◌⊎◌, ℕ, ◌<◌, ◌≤◌, ◌^◌, true, IsTrue, List, ◌∷◌, ◌++◌, length, decimal, string_bytes}
use Rattle.std.specs.List.{All}
use Rattle.hept_ast.specs.Texts.{Name, is_in}
use Rattle.hept_ast.specs.declared.tree.Core.{Core}
use Rattle.hept_ast.specs.declared.tree.TypeDec.{TypeDec}
use Rattle.core_naming.specs.Names.{IsNewName, core_names, has_mark}
use Rattle.normal_form.specs.declared.new_names.NewNames.{NewNames}

abbrev pub name_at : NewNames → ℕ → Name
name_at names k = string_bytes names.mark ++ decimal k

-- each name that may still come is new
abbrev pub AreNewFor : NewNames → Core → Type 0
AreNewFor names core = (k : ℕ) → names.used ≤ k → k < 2 ^ 64 → IsNewName core (name_at names k)

-- each name of a core is x or one of another core
abbrev pub AddsOnly : Core → Name → Core → Type 0
AddsOnly core x other = (y : Name) → is_in y (core_names other) ≡ true → (y ≡ x) ⊎ (is_in y (core_names core) ≡ true)

-- a name is given: it is new, and the names after it are new for each core that has no further name besides
abbrev pub IsNextName : NewNames → NewNames → Name → Type 0
IsNextName old new x = (core : Core) → AreNewFor old core → IsNewName core x × ((other : Core) → AddsOnly core x other → AreNewFor new other)

-- no name has more bytes
abbrev pub AreWithin : ℕ → List Name → Type 0
AreWithin n xs = All (λ x. length x ≤ n) xs

abbrev pub type_names : TypeDec → List Name
type_names d = d.name ∷ d.constructors

-- what begins new names
pub record IsMark (longest : ℕ) (mark : Name) : Type 0 where
  pub longer : longest < length mark
  pub marked : IsTrue (has_mark mark)
