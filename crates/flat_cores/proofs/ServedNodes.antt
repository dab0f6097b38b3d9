-- The equations of a served node, one by one.
use Rattle.std.proofs.Common.{◌≡◌, List, [], ◌∷◌, ◌++◌, append-nil, refl, sym, ap, subst, ◌∙◌}
use Rattle.std.specs.Prelude.{All, IsTrue, None}
use Rattle.std.specs.List.{flat_map}
use Rattle.std.proofs.lemmas.List.Elements.{All-head, All-tail, All-weaker}
use Rattle.hept_ast.specs.Texts.{Name}
use Rattle.hept_ast.specs.InnerParts.{expressions_in, inner_parts}
use Rattle.hept_ast.specs.Parts.{expressions, inside, variables}
use Rattle.hept_ast.specs.declared.name.Place.{Place}
use Rattle.hept_ast.specs.declared.tree.Node.{Node}
use Rattle.hept_ast.specs.declared.tree.Block.{Block}
use Rattle.hept_ast.specs.declared.tree.Branch.{Branch}
use Rattle.hept_ast.specs.declared.tree.State.{State}
use Rattle.hept_ast.specs.declared.tree.Expr.{Expr}
use Rattle.hept_ast.specs.declared.tree.MergeBranch.{MergeBranch}
use Rattle.hept_ast.specs.declared.tree.Form.{Form, out-Form}
use Rattle.hept_ast.specs.declared.tree.Form.TheOpen.{Form-F}
use Rattle.hept_ast.specs.declared.tree.Equation.{Equation, out-Equation, roll-Equation}
use Rattle.hept_ast.specs.declared.tree.Equation.TheOpen.{Equation-F}
use Rattle.hept_ast.specs.declared.tree.Equation.TheViews.{roll-out-Equation}
use Rattle.hept_ast.specs.declared.tree.Equation.TheVariants as equation
use Rattle.hept_ast.proofs.InnerParts.{inner-Define}
use Rattle.hept_ast.proofs.WholeNode.{all_expressions}
use Rattle.core_rules.specs.WellFormed.{IsNoLast}
use Rattle.lowering_rules.specs.PlainPrograms.{IsPlainEquation, IsPlainNode}
use Rattle.served_programs.specs.Served.{IsPlainDecl, IsServedEquation, IsServedNode, is_served_form}
use Rattle.flat_cores.specs.FlatLaws.{ServedIsPlain}
use Rattle.sound_expressions.proofs.Expressions.{all_left, all_right}
use Rattle.flat_cores.proofs.ServedForms.{HasServedForm, Served}

-- plain equations whose right sides are of served forms
pub data ServedBody : List Equation → Type 0 where
  no_equation : ServedBody []
  one_more : {p : Place} {left : List Name} {right : Expr} {es : List Equation} → Served right → ServedBody es → ServedBody (equation.Define p left right ∷ es)

-- a served equation by its parts
record PlainEquation (e : Equation) : Type 0 where
  place : Place
  left : List Name
  right : Expr
  is : e ≡ equation.Define place left right

by_view : (e : Equation) (v : Equation-F Equation Block Branch State) → out-Equation e ≡ v → IsServedEquation v → PlainEquation e
by_view e (Equation-F.Define p left right) o h = record { place = p; left = left; right = right; is = sym (roll-out-Equation e) ∙ ap roll-Equation o ∙ equation.rolls-Define p left right }
by_view e (Equation-F.Switch p on branches) o h = absurd h
by_view e (Equation-F.Reset p block every) o h = absurd h
by_view e (Equation-F.Automaton p states) o h = absurd h

body_served : (es : List Equation) → All (λ e. IsServedEquation (out-Equation e)) es → All HasServedForm (flat_map expressions_in (flat_map inner_parts es)) → ServedBody es
body_served [] h k = no_equation
body_served (e ∷ es) h k =
    let v = by_view e (out-Equation e) refl (All-head (λ e. IsServedEquation (out-Equation e)) e es h) in
    let q : inner_parts e ++ flat_map inner_parts es ≡ inner_parts (equation.Define v.place v.left v.right) ++ flat_map inner_parts es = ap (λ d. inner_parts d ++ flat_map inner_parts es) v.is in
    let r = q ∙ ap (λ ps. ps ++ flat_map inner_parts es) (inner-Define v.place v.left v.right) in
    let k' = subst (λ ps. All HasServedForm (flat_map expressions_in ps)) r k in
    let k'' = subst (λ (xs : List Expr). All HasServedForm (xs ++ flat_map expressions_in (flat_map inner_parts es))) (append-nil (inside v.right)) k' in
    subst (λ (d : Equation). ServedBody (d ∷ es)) (sym v.is)
    (one_more (all_left HasServedForm (inside v.right) _ k'') (body_served es (All-tail (λ e. IsServedEquation (out-Equation e)) e es h) (all_right HasServedForm (inside v.right) _ k'')))

pub served_body : (node : Node) → IsServedNode node → ServedBody node.block.body
served_body node h = body_served node.block.body h.equations (subst (All HasServedForm) (all_expressions node) h.forms)

-- ---- a served program has plain equations alone

plain_equation : (v : Equation-F Equation Block Branch State) → IsServedEquation v → IsPlainEquation v
plain_equation (Equation-F.Define p left right) h = tt
plain_equation (Equation-F.Switch p on branches) h = absurd h
plain_equation (Equation-F.Reset p block every) h = absurd h
plain_equation (Equation-F.Automaton p states) h = absurd h

without_last : (v : Form-F Form Expr MergeBranch) → IsTrue (is_served_form v) → IsNoLast v
without_last (Form-F.Const k) h = tt
without_last (Form-F.Var x) h = tt
without_last (Form-F.Last x) h = absurd (cc)
without_last (Form-F.Unary op a) h = tt
without_last (Form-F.Binary op a b) h = tt
without_last (Form-F.If i a b) h = tt
without_last (Form-F.Fby a b) h = tt
without_last (Form-F.Pre a) h = tt
without_last (Form-F.Arrow a b) h = tt
without_last (Form-F.When a tag x) h = tt
without_last (Form-F.Merge x bs) h = tt
without_last (Form-F.Call f args) h = tt
without_last (Form-F.AsyncCall q f args) h = tt
without_last (Form-F.AsyncConst k) h = tt
without_last (Form-F.Get a) h = tt

plain_node : (node : Node) → IsServedNode node → IsPlainNode node
plain_node node h = record {
  equations = All-weaker (λ e. IsServedEquation (out-Equation e)) (λ e. IsPlainEquation (out-Equation e)) (λ e. plain_equation (out-Equation e)) node.block.body h.equations;
  lasts = All-weaker HasServedForm (λ e. IsNoLast (out-Form e.form)) (λ e. without_last (out-Form e.form)) (expressions node) h.forms;
  initials = All-weaker IsPlainDecl (λ d. d.init ≡ None) (λ d p. p.1) (variables node) h.plain;
}

pub served_is_plain : ServedIsPlain
served_is_plain p h = All-weaker IsServedNode IsPlainNode plain_node p.nodes h
