-- An expression from which one subexpression was taken, with a variable in its place, if there was one to take.
use Rattle.std.specs.Prelude.{◌≡◌, ◌⊎◌, ◌∷◌, ◌++◌, [], Bool, false, List, All, Option, MatchOption}
use Rattle.hept_ast.specs.Texts.{Name}
use Rattle.hept_ast.specs.Scopes.{Clock}
use Rattle.hept_ast.specs.Parts.{inside}
use Rattle.hept_ast.specs.declared.tree.Expr.{Expr}
use Rattle.hept_ast.specs.declared.tree.MergeBranch.{MergeBranch}
use Rattle.hept_ast.specs.declared.tree.Form.{out-Form}
use Rattle.core_naming.specs.Names.{Names, NamesArgument, NamesBranch}
use Rattle.core_naming.specs.Normal.{IsNormalRight, is_simple, is_step}
use Rattle.normal_form.specs.declared.cut.Taken.{Taken}

-- no memory operator, call or get stands in an expression
abbrev pub HasNoStep : Expr → Type 0
HasNoStep e = All (λ b. is_step (out-Form b.form) ≡ false) (inside e)

abbrev pub IsStep : Taken → Type 0
IsStep t = is_step (out-Form t.named.form) ≡ Bool.true

abbrev pub IsLarge : Taken → Type 0
IsLarge t = is_simple (out-Form t.named.form) ≡ false

abbrev pub IsSimple : Expr → Type 0
IsSimple e = is_simple (out-Form e.form) ≡ Bool.true

-- the first memory operator, call or get of an expression on a clock is taken
abbrev pub CutsStep : Name → Clock → Expr → Expr → Option Taken → Type 0
CutsStep x c e r taken = MatchOption taken ((r ≡ e) × HasNoStep e) (λ t. Names x t.named t.clock.steps c e r × IsStep t)

-- of two expressions
abbrev pub CutsTwo : Name → Clock → (e f : Expr) → (r s : Expr) → Option Taken → Type 0
CutsTwo x c e f r s taken = MatchOption taken ((r ≡ e) × (s ≡ f) × HasNoStep e × HasNoStep f)
    (λ t. ((Names x t.named t.clock.steps c e r × (s ≡ f)) ⊎ ((r ≡ e) × Names x t.named t.clock.steps c f s)) × IsStep t)

-- of a branch of a merge over y
abbrev pub CutsBranch : Name → Name → Clock → (b m : MergeBranch) → Option Taken → Type 0
CutsBranch x y c b m taken = (m ≡ record { place = b.place; tag = b.tag; value = m.value }) × CutsStep x (c ++ record { tag = b.tag; name = y } ∷ []) b.value m.value taken

-- of the branches of a merge over y
abbrev pub CutsBranches : Name → Name → Clock → List MergeBranch → List MergeBranch → Option Taken → Type 0
CutsBranches x y c bs ms taken = MatchOption taken ((ms ≡ bs) × All (λ b. HasNoStep b.value) bs) (λ t. NamesBranch x t.named t.clock.steps y c bs ms × IsStep t)

-- the first operand that is no variable or constant is taken
abbrev pub CutsOperand : Name → Clock → Expr → Expr → Option Taken → Type 0
CutsOperand x c e r taken = MatchOption taken ((r ≡ e) × IsSimple e) (λ t. Names x t.named t.clock.steps c e r × IsLarge t)

abbrev pub CutsOperands : Name → Clock → (e f : Expr) → (r s : Expr) → Option Taken → Type 0
CutsOperands x c e f r s taken = MatchOption taken ((r ≡ e) × (s ≡ f) × IsSimple e × IsSimple f)
    (λ t. ((Names x t.named t.clock.steps c e r × (s ≡ f)) ⊎ ((r ≡ e) × Names x t.named t.clock.steps c f s)) × IsLarge t)

abbrev pub CutsArguments : Name → Clock → List Expr → List Expr → Option Taken → Type 0
CutsArguments x c es ms taken = MatchOption taken ((ms ≡ es) × All IsSimple es) (λ t. NamesArgument x t.named t.clock.steps c es ms × IsLarge t)

-- what normal form does not allow where it stands in a right side is taken, never the whole, and nothing where all is in normal form
abbrev pub CutsRight : Name → Clock → Expr → Expr → Option Taken → Type 0
CutsRight x c e r taken = MatchOption taken ((r ≡ e) × IsNormalRight e) (λ t. Names x t.named t.clock.steps c e r × IsLarge t × (is_simple (out-Form r.form) ≡ false) × (IsNormalRight e → ⊥))
