-- What variables give in the scopes that declare them.
use Rattle.std.specs.Prelude.{◌≡◌, ℕ, false, List, Option, slice_get}
use Rattle.std.specs.List.{find}
use Rattle.hept_ast.specs.Texts.{Name, same}
use Rattle.hept_ast.specs.Scopes.{Scope, Top, Called, declared_in}
use Rattle.hept_ast.specs.Meaning.{Rule, Setting, Says, Reads, Unknown, argument_rule, initial_rule, own_rule}
use Rattle.hept_ast.specs.declared.tree.Decl.{Decl}
use Rattle.answer_table.specs.declared.paths.Step.{Step}
use Rattle.answer_table.specs.declared.questions.Answer.{Answer}
use Rattle.answer_table.specs.declared.answers.Answers.{Answers}
use Rattle.answer_table.specs.HomePaths.{ends_inner}
use Rattle.answer_table.specs.Things.{In}
use Rattle.answer_table.specs.Tables.{setting_in, thing_in}
use Rattle.erased_meaning.specs.Rules.{ScopeRuleGives}

-- the input at a position of a scope that is a body of a node
abbrev pub input_rule : Setting → Scope → (position : ℕ) → ℕ → Rule
input_rule w (Top text) i t = Reads t i
input_rule w (Called s clock place args text) i t = argument_rule w (slice_get args i) clock s t
input_rule w _ i t = Says Unknown

-- where a path leads to a body of a node, this is the input at a position there
abbrev pub InputGives : Answers → List Step → (position : ℕ) → ℕ → Answer → Type 0
InputGives s path i t a = ends_inner path ≡ false → ScopeRuleGives s path (λ scope. input_rule (setting_in s) scope i t) a

-- where a path leads to a scope, a variable that the scope declares gives this where it is present
abbrev pub OwnGives : Answers → List Step → Name → ℕ → Answer → Type 0
OwnGives s path x t a = ScopeRuleGives s path (λ scope. own_rule (setting_in s) scope x t) a

-- where a path leads to a scope, this is the first declaration of a name there
abbrev pub IsDeclarationIn : Answers → List Step → Name → Option Decl → Type 0
IsDeclarationIn s path x d = (scope : Scope) → thing_in s path ≡ In scope → find (λ d. same x d.name) (declared_in scope) ≡ d

-- where a path leads to a scope, this is what the first declaration of a name there gives its first `last`
abbrev pub InitialGives : Answers → List Step → Name → Answer → Type 0
InitialGives s path x a = ScopeRuleGives s path (λ scope. initial_rule (setting_in s) (find (λ d. same x d.name) (declared_in scope))) a
