-- What is asked of an expression beside types and clocks.
use Rattle.std.specs.Prelude.{◌≡◌, ℕ, ⊤, Bool, true, false, List, [], ◌∷◌, All, Some}
use Rattle.std.specs.List.{list_any, list_all}
use Rattle.hept_ast.specs.Texts.{Name, is_in}
use Rattle.hept_ast.specs.Scopes.{Clock}
use Rattle.hept_ast.specs.Parts.{Surroundings, seen_at, declaration}
use Rattle.hept_ast.specs.Clocks.{Assignment}
use Rattle.hept_ast.specs.Initial.{unmet_by}
use Rattle.hept_ast.specs.Types.{has_tags, is_plain, same_tag, tags_of, types_of}
use Rattle.hept_ast.specs.Faults.{Judging, called, called_async, calls_of, node_named}
use Rattle.hept_ast.specs.declared.tree.Node.{Node}
use Rattle.hept_ast.specs.declared.tree.Decl.{Decl}
use Rattle.hept_ast.specs.declared.tree.Tag.{Tag}
use Rattle.hept_ast.specs.declared.tree.Expr.{Expr}
use Rattle.hept_ast.specs.declared.tree.MergeBranch.{MergeBranch}
use Rattle.hept_ast.specs.declared.tree.Form.{Form, out-Form}
use Rattle.hept_ast.specs.declared.tree.Form.TheOpen.{Form-F}
use Rattle.hept_ast.specs.TypedValues.{FitsConst}
use Rattle.sound_expressions.specs.Sound.{Within}

-- numbers have 32 bits
abbrev pub FitsForm : Form-F Form Expr MergeBranch → Type 0
FitsForm (Form-F.Const v) = FitsConst v
FitsForm (Form-F.AsyncConst v) = FitsConst v
FitsForm _ = Unit {0}

-- no name stands twice, and no tag
abbrev pub NamesDiffer : List Name → Type 0
NamesDiffer [] = ⊤
NamesDiffer (x ∷ xs) = (is_in x xs ≡ false) × NamesDiffer xs

abbrev pub NoTagTwice : List Tag → Type 0
NoTagTwice [] = ⊤
NoTagTwice (t ∷ ts) = (list_any (same_tag t) ts ≡ false) × NoTagTwice ts

-- an expression at a site is judged as one of a node that has the name of the node in which it stands
abbrev pub judging_at : Within → Surroundings → Bool → (judged : Node) → Judging
judging_at k site strong judged = record { types = k.types; nodes = k.nodes; node = judged; seen = seen_at k.node site; strong = strong }

abbrev pub assigned : Within → (ℕ → Clock) → Assignment
assigned k numbers = record { variable = k.clock; expression = numbers }

-- the demands of an expression are met, its constant fits, the node that it calls is one that its node calls, and async calls give no futures
pub record Demanded (k : Within) (site : Surroundings) (e : Expr) : Type 0 where
  pub met : unmet_by k.grade e.place.0 e.form ≡ []
  pub made : All (λ f. is_in f (calls_of (Some k.node)) ≡ true) (called e.form)
  pub number : FitsForm (out-Form e.form)
  pub plain : All (λ f. (g : Node) → node_named k.nodes f ≡ Some g → list_all is_plain (types_of g.outputs) ≡ true) (called_async e.form)
  -- a merge has a branch, or else the type of its variable has a tag, and the branch of that is missed
  pub merged : (x : Name) (d : Decl) → out-Form e.form ≡ Form-F.Merge x [] → declaration (seen_at k.node site) x ≡ Some d → has_tags d.ty ≡ true → tags_of k.types d.ty ≡ [] → ⊥
