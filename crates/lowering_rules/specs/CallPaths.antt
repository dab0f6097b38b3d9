-- The calls in a text, in text order, and the two paths of a call: by the places of the calls around it, and by their numbers.
use Rattle.std.specs.Prelude.{◌≡◌, ℕ, List, [], ◌∷◌, ◌++◌, map, Some, slice_get}
use Rattle.hept_ast.specs.Texts.{Name}
use Rattle.hept_ast.specs.Scopes.{Text, Written, Lowered}
use Rattle.hept_ast.specs.Settings.{Replies, written_node}
use Rattle.hept_ast.specs.declared.name.Place.{Place}
use Rattle.hept_ast.specs.declared.tree.Expr.{Expr, fold-Expr}
use Rattle.hept_ast.specs.declared.tree.Form.TheOpen.{Form-F}
use Rattle.hept_ast.specs.declared.tree.Escape.{Escape}
use Rattle.hept_ast.specs.declared.tree.Block.{Block, Block-F, fold-Block}
use Rattle.hept_ast.specs.declared.tree.Equation.TheOpen.{Equation-F, Branch-F, State-F}
use Rattle.hept_ast.specs.declared.tree.Node.{Node}

-- ---- calls in text order

-- a call's place, and the name of the node that it calls
pub record Call : Type 0 where
  pub place : ℕ
  pub name : Name

abbrev pub call_at : Place → Name → Call
call_at p f = record { place = p.0; name = f }

abbrev pub joined : List (List Call) → List Call
joined [] = []
joined (calls ∷ lists) = calls ++ joined lists

-- the calls in a form at a place, from those in its parts
abbrev pub form_calls : Form-F (Place → List Call) (List Call) (List Call) → Place → List Call
form_calls (Form-F.Const k) p = []
form_calls (Form-F.Var x) p = []
form_calls (Form-F.Last x) p = []
form_calls (Form-F.Unary op a) p = a
form_calls (Form-F.Binary op a b) p = a ++ b
form_calls (Form-F.If c a b) p = c ++ (a ++ b)
form_calls (Form-F.Fby a b) p = a ++ b
form_calls (Form-F.Pre a) p = a
form_calls (Form-F.Arrow a b) p = a ++ b
form_calls (Form-F.When a tag x) p = a
form_calls (Form-F.Merge x branches) p = joined branches
form_calls (Form-F.Call f args) p = call_at p f ∷ joined args
form_calls (Form-F.AsyncCall q f args) p = call_at p f ∷ joined args
form_calls (Form-F.AsyncConst k) p = []
form_calls (Form-F.Get a) p = a

abbrev pub expr_calls : Expr → List Call
expr_calls e = fold-Expr (Place → List Call) (List Call) (List Call) form_calls (λ x. x.form x.place) (λ b. b.value) e

abbrev pub condition_calls : List Escape → List Call
condition_calls es = joined (map (λ e. expr_calls e.condition) es)

abbrev pub equation_step : Equation-F (List Call) (List Call) (List Call) (List Call) → List Call
equation_step (Equation-F.Define p left right) = expr_calls right
equation_step (Equation-F.Switch p on branches) = expr_calls on ++ joined branches
equation_step (Equation-F.Reset p block every) = block ++ expr_calls every
equation_step (Equation-F.Automaton p states) = joined states

abbrev pub block_step : Block-F (List Call) (List Call) (List Call) (List Call) → List Call
block_step b = joined b.body

abbrev pub branch_step : Branch-F (List Call) (List Call) (List Call) (List Call) → List Call
branch_step b = b.block

abbrev pub state_step : State-F (List Call) (List Call) (List Call) (List Call) → List Call
state_step s = s.block ++ (condition_calls s.weak ++ condition_calls s.strong)

abbrev pub block_calls : Block → List Call
block_calls b = fold-Block (List Call) (List Call) (List Call) (List Call) equation_step block_step branch_step state_step b

abbrev pub text_calls : Text → List Call
text_calls (Written n node) = block_calls node.block
text_calls (Lowered node) = joined (map (λ e. expr_calls e.right) node.equations)

-- ---- paths

-- the calls that lead from a text to another: their places, and their numbers, from 0 in the text that each stands in
pub data LeadsTo (nodes : List Node) (text : Text) : (places numbers : List ℕ) → Text → Type 0 where
  itself : LeadsTo nodes text [] [] text
  into : {places numbers : List ℕ} {around called : Text} {call : Call} (n : ℕ) → LeadsTo nodes text places numbers around →
      slice_get (text_calls around) n ≡ Some call → written_node nodes 0 call.name ≡ Some called → LeadsTo nodes text (places ++ call.place ∷ []) (numbers ++ n ∷ []) called

-- the two paths of a call in the expanded text
pub data IsCallPath (nodes : List Node) (text : Text) : (places numbers : List ℕ) → Type 0 where
  call_path : {places numbers : List ℕ} {around : Text} {call : Call} (n : ℕ) → LeadsTo nodes text places numbers around →
      slice_get (text_calls around) n ≡ Some call → IsCallPath nodes text (places ++ call.place ∷ []) (numbers ++ n ∷ [])

-- replies by places, and replies by numbers that say the same of each call
abbrev pub Agree : List Node → Text → Replies → Replies → Type 0
Agree nodes text replies others = (places numbers : List ℕ) (i : ℕ) → IsCallPath nodes text places numbers → others numbers i ≡ replies places i
