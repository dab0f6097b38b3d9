-- The places of calls in forms, equations and blocks, from those of their parts.
use Rattle.std.proofs.Common.{◌≡◌, ℕ, List, [], ◌∷◌, ◌++◌, map, sym, ap, ◌∙◌}
use Rattle.std.specs.List.{concat}
use Rattle.hept_ast.specs.CallPlaces.{expr_places, condition_places, equation_step, block_step, branch_step, state_step, block_places, equation_places}
use Rattle.hept_ast.specs.declared.name.Place.{Place}
use Rattle.hept_ast.specs.declared.tree.Expr.{Expr}
use Rattle.hept_ast.specs.declared.tree.MergeBranch.{MergeBranch}
use Rattle.hept_ast.specs.declared.tree.Form.{Form, out-Form}
use Rattle.hept_ast.specs.declared.tree.Form.TheOpen.{Form-F}
use Rattle.hept_ast.specs.declared.tree.Form.TheViews.{out-roll-Form}
use Rattle.hept_ast.specs.declared.tree.Form.TheVariants as form
use Rattle.hept_ast.specs.declared.tree.Const.{Const}
use Rattle.hept_ast.specs.declared.tree.Tag.{Tag}
use Rattle.hept_ast.specs.declared.tree.UnaryOp.{UnaryOp}
use Rattle.hept_ast.specs.declared.tree.BinaryOp.{BinaryOp}
use Rattle.hept_ast.specs.declared.tree.Block.{Block, fold_out-Block}
use Rattle.hept_ast.specs.declared.tree.Branch.{Branch}
use Rattle.hept_ast.specs.declared.tree.State.{State}
use Rattle.hept_ast.specs.declared.tree.Equation.{Equation, Define, Switch, Reset, Automaton, out-Equation}
use Rattle.hept_ast.specs.declared.tree.Equation.TheOpen.{Equation-F}
use Rattle.hept_ast.specs.declared.tree.Equation.TheViews.{out-roll-Equation}
use Rattle.hept_ast.specs.declared.tree.Equation.TheVariants as eqv
use Rattle.hept_ast.proofs.CallPlacesOf.{form_view, expr_is, equation_view, equation_is}
use Rattle.ept_grammar.specs.Grammar.{at}
use Rattle.read_laws.proofs.Sublists.{Sub, taken, passed, all}

-- ---- forms

-- the places in a form but its own
abbrev pub inner : Form-F Form Expr MergeBranch → List ℕ
inner (Form-F.Const k) = []
inner (Form-F.Var x) = []
inner (Form-F.Last x) = []
inner (Form-F.Unary op a) = expr_places a
inner (Form-F.Binary op a b) = expr_places a ++ expr_places b
inner (Form-F.If c a b) = expr_places c ++ (expr_places a ++ expr_places b)
inner (Form-F.Fby a b) = expr_places a ++ expr_places b
inner (Form-F.Pre a) = expr_places a
inner (Form-F.Arrow a b) = expr_places a ++ expr_places b
inner (Form-F.When a tag x) = expr_places a
inner (Form-F.Merge x branches) = concat (map (λ b. expr_places b.value) branches)
inner (Form-F.Call f args) = concat (map expr_places args)
inner (Form-F.AsyncCall q f args) = concat (map expr_places args)
inner (Form-F.AsyncConst k) = []
inner (Form-F.Get a) = expr_places a

abbrev pub inner_places : Form → List ℕ
inner_places f = inner (out-Form f)

view_sub : (v : Form-F Form Expr MergeBranch) (p : Place) → Sub (form_view v p) (p.0 ∷ inner v)
view_sub (Form-F.Call f args) p = taken (all _)
view_sub (Form-F.AsyncCall q f args) p = taken (all _)
view_sub (Form-F.Const k) p = passed (all _)
view_sub (Form-F.Var x) p = passed (all _)
view_sub (Form-F.Last x) p = passed (all _)
view_sub (Form-F.Unary op a) p = passed (all _)
view_sub (Form-F.Binary op a b) p = passed (all _)
view_sub (Form-F.If c a b) p = passed (all _)
view_sub (Form-F.Fby a b) p = passed (all _)
view_sub (Form-F.Pre a) p = passed (all _)
view_sub (Form-F.Arrow a b) p = passed (all _)
view_sub (Form-F.When a tag x) p = passed (all _)
view_sub (Form-F.Merge x branches) p = passed (all _)
view_sub (Form-F.AsyncConst k) p = passed (all _)
view_sub (Form-F.Get a) p = passed (all _)

-- the places of a form at a place
pub at_is : (p : Place) (f : Form) (v : Form-F Form Expr MergeBranch) → out-Form f ≡ v → expr_places (at p f) ≡ form_view v p
at_is p f v e = expr_is (at p f) ∙ ap (λ (x : Form-F Form Expr MergeBranch). form_view x p) e

pub at_sub : (p : Place) (f : Form) → Sub (expr_places (at p f)) (p.0 ∷ inner_places f)
at_sub p f = go (expr_places (at p f)) (expr_is (at p f))
  where
    go : (xs : List ℕ) → xs ≡ form_view (out-Form f) p → Sub xs (p.0 ∷ inner_places f)
    go xs e = rw e (view_sub (out-Form f) p)

pub out_const : (k : Const) → out-Form (form.Const k) ≡ Form-F.Const k
out_const k = ap out-Form (sym (form.rolls-Const k)) ∙ out-roll-Form _

pub out_var : (x : List ℕ) → out-Form (form.Var x) ≡ Form-F.Var x
out_var x = ap out-Form (sym (form.rolls-Var x)) ∙ out-roll-Form _

pub out_last : (x : List ℕ) → out-Form (form.Last x) ≡ Form-F.Last x
out_last x = ap out-Form (sym (form.rolls-Last x)) ∙ out-roll-Form _

pub out_unary : (op : UnaryOp) (a : Expr) → out-Form (form.Unary op a) ≡ Form-F.Unary op a
out_unary op a = ap out-Form (sym (form.rolls-Unary op a)) ∙ out-roll-Form _

pub out_binary : (op : BinaryOp) (a b : Expr) → out-Form (form.Binary op a b) ≡ Form-F.Binary op a b
out_binary op a b = ap out-Form (sym (form.rolls-Binary op a b)) ∙ out-roll-Form _

pub out_if : (c a b : Expr) → out-Form (form.If c a b) ≡ Form-F.If c a b
out_if c a b = ap out-Form (sym (form.rolls-If c a b)) ∙ out-roll-Form _

pub out_fby : (a b : Expr) → out-Form (form.Fby a b) ≡ Form-F.Fby a b
out_fby a b = ap out-Form (sym (form.rolls-Fby a b)) ∙ out-roll-Form _

pub out_pre : (a : Expr) → out-Form (form.Pre a) ≡ Form-F.Pre a
out_pre a = ap out-Form (sym (form.rolls-Pre a)) ∙ out-roll-Form _

pub out_arrow : (a b : Expr) → out-Form (form.Arrow a b) ≡ Form-F.Arrow a b
out_arrow a b = ap out-Form (sym (form.rolls-Arrow a b)) ∙ out-roll-Form _

pub out_when : (a : Expr) (tag : Tag) (x : List ℕ) → out-Form (form.When a tag x) ≡ Form-F.When a tag x
out_when a tag x = ap out-Form (sym (form.rolls-When a tag x)) ∙ out-roll-Form _

pub out_merge : (x : List ℕ) (bs : List MergeBranch) → out-Form (form.Merge x bs) ≡ Form-F.Merge x bs
out_merge x bs = ap out-Form (sym (form.rolls-Merge x bs)) ∙ out-roll-Form _

pub out_call : (f : List ℕ) (args : List Expr) → out-Form (form.Call f args) ≡ Form-F.Call f args
out_call f args = ap out-Form (sym (form.rolls-Call f args)) ∙ out-roll-Form _

pub out_async_call : (q : ℕ) (f : List ℕ) (args : List Expr) → out-Form (form.AsyncCall q f args) ≡ Form-F.AsyncCall q f args
out_async_call q f args = ap out-Form (sym (form.rolls-AsyncCall q f args)) ∙ out-roll-Form _

pub out_async_const : (k : Const) → out-Form (form.AsyncConst k) ≡ Form-F.AsyncConst k
out_async_const k = ap out-Form (sym (form.rolls-AsyncConst k)) ∙ out-roll-Form _

pub out_get : (a : Expr) → out-Form (form.Get a) ≡ Form-F.Get a
out_get a = ap out-Form (sym (form.rolls-Get a)) ∙ out-roll-Form _

-- ---- blocks and equations

pub block_is : (b : Block) → block_places b ≡ concat (map equation_places b.body)
block_is b = fold_out-Block (List ℕ) (List ℕ) (List ℕ) (List ℕ) equation_step block_step branch_step state_step b

abbrev pub branches_places : List Branch → List ℕ
branches_places bs = concat (map (λ b. block_places b.block) bs)

abbrev pub state_places : State → List ℕ
state_places q = block_places q.block ++ (condition_places q.weak ++ condition_places q.strong)

view_of : (e : Equation) (v : Equation-F Equation Block Branch State) → out-Equation e ≡ v → equation_places e ≡ equation_view v
view_of e v is = equation_is e ∙ ap equation_view is

pub define_is : (p : Place) (names : List (List ℕ)) (e : Expr) → equation_places (Define p names e) ≡ expr_places e
define_is p names e = view_of _ (Equation-F.Define p names e) (ap out-Equation (sym (eqv.rolls-Define p names e)) ∙ out-roll-Equation _)

pub switch_is : (p : Place) (e : Expr) (bs : List Branch) → equation_places (Switch p e bs) ≡ expr_places e ++ branches_places bs
switch_is p e bs = view_of _ (Equation-F.Switch p e bs) (ap out-Equation (sym (eqv.rolls-Switch p e bs)) ∙ out-roll-Equation _)

pub reset_is : (p : Place) (b : Block) (e : Expr) → equation_places (Reset p b e) ≡ block_places b ++ expr_places e
reset_is p b e = view_of _ (Equation-F.Reset p b e) (ap out-Equation (sym (eqv.rolls-Reset p b e)) ∙ out-roll-Equation _)

pub automaton_is : (p : Place) (qs : List State) → equation_places (Automaton p qs) ≡ concat (map state_places qs)
automaton_is p qs = view_of _ (Equation-F.Automaton p qs) (ap out-Equation (sym (eqv.rolls-Automaton p qs)) ∙ out-roll-Equation _)
