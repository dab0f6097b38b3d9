-- What the equation at a position of a scope's block defines, and what it says.
use Rattle.std.specs.Prelude.{◌≡◌, ℕ, Bool, List, [], ◌∷◌, ◌++◌, Option, Some, slice_get}
use Rattle.std.specs.Option.{option_map}
use Rattle.hept_ast.specs.Texts.{Name, branch_of}
use Rattle.hept_ast.specs.Scopes.{Scope, block_of}
use Rattle.hept_ast.specs.Meaning.{defined_or_last, defines_rule, equation_rule}
use Rattle.hept_ast.specs.declared.tree.TypeDec.{TypeDec}
use Rattle.hept_ast.specs.declared.tree.Block.{Block}
use Rattle.hept_ast.specs.declared.tree.Branch.{Branch}
use Rattle.hept_ast.specs.declared.tree.State.{State}
use Rattle.hept_ast.specs.declared.tree.Equation.{out-Equation}
use Rattle.answer_table.specs.declared.paths.Step.{Step}
use Rattle.answer_table.specs.declared.paths.Step.TheVariants as way
use Rattle.answer_table.specs.declared.questions.Answer.{Answer}
use Rattle.answer_table.specs.declared.questions.Answer.TheVariants as answer
use Rattle.answer_table.specs.declared.answers.Answers.{Answers}
use Rattle.answer_table.specs.Parts.{An_equation}
use Rattle.answer_table.specs.Things.{In}
use Rattle.answer_table.specs.Tables.{RuleGives, setting_in, thing_in}

-- the equation at a position of a scope's block
abbrev pub equation_in : Scope → ℕ → Option An_equation
equation_in scope i = option_map (λ e. out-Equation e) (slice_get (block_of scope).body i)

-- a path leads to a scope with this block
abbrev pub HasBlock : Answers → List Step → Block → Type 0
HasBlock s path block = (scope : Scope) × (thing_in s path ≡ In scope) × (block_of scope ≡ block)

-- the steps into the branches of the equation at a position lead to these branches
abbrev pub AreBranchesAt : Answers → List Step → ℕ → List Branch → Type 0
AreBranchesAt s path i branches = (j : ℕ) (b : Branch) → slice_get branches j ≡ Some b → HasBlock s (path ++ way.Branch i j ∷ []) b.block

-- the steps into the states of the equation at a position lead to these states
abbrev pub AreStatesAt : Answers → List Step → ℕ → List State → Type 0
AreStatesAt s path i states = (j : ℕ) (q : State) → slice_get states j ≡ Some q → HasBlock s (path ++ way.State i j ∷ []) q.block

-- where a path leads to a scope with this equation at a position, it defines a name exactly if b is true
abbrev pub EquationDefines : Answers → List Step → ℕ → An_equation → Name → (b : Bool) → Type 0
EquationDefines s path i e x b = (scope : Scope) → thing_in s path ≡ In scope → equation_in scope i ≡ Some e → RuleGives s (defines_rule (setting_in s) e x) (answer.Is b)

-- where a path leads to a scope with this equation at a position, this is what it says of a name
abbrev pub EquationGives : Answers → List Step → ℕ → An_equation → Name → ℕ → Answer → Type 0
EquationGives s path i e x t a = (scope : Scope) → thing_in s path ≡ In scope → equation_in scope i ≡ Some e → RuleGives s (equation_rule (setting_in s) e x scope t) a

-- what the scope that a further step leads to defines a name as, or else its `last`
abbrev pub PartGives : Answers → List Step → Step → Name → ℕ → Answer → Type 0
PartGives s path step x t a = (scope inner : Scope) → thing_in s path ≡ In scope → thing_in s (path ++ step ∷ []) ≡ In inner →
    RuleGives s (defined_or_last (setting_in s) (block_of inner) x inner scope t) a

-- the branch at a position is that of a tag's value
abbrev pub IsBranchOf : List TypeDec → ℕ → List Branch → ℕ → Type 0
IsBranchOf types v branches j = (b : Branch) × (slice_get branches j ≡ Some b) × (branch_of types v branches ≡ Some b)
