-- The places of the calls in a text, in text order.
use Rattle.std.specs.Prelude.{ℕ, List, [], ◌∷◌, ◌++◌, map}
use Rattle.std.specs.List.{concat}
use Rattle.hept_ast.specs.Scopes.{Text, Written, Lowered}
use Rattle.hept_ast.specs.declared.name.Place.{Place}
use Rattle.hept_ast.specs.declared.tree.Expr.{Expr, fold-Expr}
use Rattle.hept_ast.specs.declared.tree.Form.TheOpen.{Form-F}
use Rattle.hept_ast.specs.declared.tree.Escape.{Escape}
use Rattle.hept_ast.specs.declared.tree.Block.{Block, Block-F, fold-Block}
use Rattle.hept_ast.specs.declared.tree.Equation.{Equation, fold-Equation}
use Rattle.hept_ast.specs.declared.tree.Equation.TheOpen.{Equation-F, Branch-F, State-F}

-- the places in a form at a place, from those in its parts
abbrev pub form_places : Form-F (Place → List ℕ) (List ℕ) (List ℕ) → Place → List ℕ
form_places (Form-F.Const k) p = []
form_places (Form-F.Var x) p = []
form_places (Form-F.Last x) p = []
form_places (Form-F.Unary op a) p = a
form_places (Form-F.Binary op a b) p = a ++ b
form_places (Form-F.If c a b) p = c ++ (a ++ b)
form_places (Form-F.Fby a b) p = a ++ b
form_places (Form-F.Pre a) p = a
form_places (Form-F.Arrow a b) p = a ++ b
form_places (Form-F.When a tag x) p = a
form_places (Form-F.Merge x branches) p = concat branches
form_places (Form-F.Call f args) p = p.0 ∷ concat args
form_places (Form-F.AsyncCall q f args) p = p.0 ∷ concat args
form_places (Form-F.AsyncConst k) p = []
form_places (Form-F.Get a) p = a

abbrev pub expr_places : Expr → List ℕ
expr_places e = fold-Expr (Place → List ℕ) (List ℕ) (List ℕ) form_places (λ x. x.form x.place) (λ b. b.value) e

abbrev pub condition_places : List Escape → List ℕ
condition_places es = concat (map (λ e. expr_places e.condition) es)

abbrev pub equation_step : Equation-F (List ℕ) (List ℕ) (List ℕ) (List ℕ) → List ℕ
equation_step (Equation-F.Define p left right) = expr_places right
equation_step (Equation-F.Switch p on branches) = expr_places on ++ concat branches
equation_step (Equation-F.Reset p block every) = block ++ expr_places every
equation_step (Equation-F.Automaton p states) = concat states

abbrev pub block_step : Block-F (List ℕ) (List ℕ) (List ℕ) (List ℕ) → List ℕ
block_step b = concat b.body

abbrev pub branch_step : Branch-F (List ℕ) (List ℕ) (List ℕ) (List ℕ) → List ℕ
branch_step b = b.block

abbrev pub state_step : State-F (List ℕ) (List ℕ) (List ℕ) (List ℕ) → List ℕ
state_step s = s.block ++ (condition_places s.weak ++ condition_places s.strong)

abbrev pub block_places : Block → List ℕ
block_places b = fold-Block (List ℕ) (List ℕ) (List ℕ) (List ℕ) equation_step block_step branch_step state_step b

abbrev pub equation_places : Equation → List ℕ
equation_places e = fold-Equation (List ℕ) (List ℕ) (List ℕ) (List ℕ) equation_step block_step branch_step state_step e

abbrev pub text_places : Text → List ℕ
text_places (Written n node) = block_places node.block
text_places (Lowered node) = concat (map (λ e. expr_places e.right) node.equations)
