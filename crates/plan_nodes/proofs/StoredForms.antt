-- The cells of each form of a right side.
use Rattle.std.proofs.Common.{◌≡◌, ℕ, List, [], ◌∷◌, sym, subst, ap, ◌∙◌}
use Rattle.hept_ast.specs.Texts.{Name, const_value}
use Rattle.hept_ast.specs.Scopes.{Clock, Scope, Under}
use Rattle.hept_ast.specs.declared.tree.TypeDec.{TypeDec}
use Rattle.hept_ast.specs.declared.tree.Const.{Const}
use Rattle.hept_ast.specs.declared.tree.CoreEquation.{CoreEquation}
use Rattle.hept_ast.specs.declared.tree.Expr.{Expr}
use Rattle.hept_ast.specs.declared.tree.Form.{out-Form, out-roll-Form}
use Rattle.hept_ast.specs.declared.tree.Form.TheOpen.{Form-F}
use Rattle.hept_ast.specs.declared.tree.Form.TheVariants as form
use Rattle.step_plans.specs.Things.{Value_of, Presence_of}
use Rattle.step_plans.proofs.FormsOut.{const_form, var_form, unary_form, binary_form, if_form, fby_form}
use Rattle.plan_expressions.specs.Computable.{Computable, constant, variable, unary, binary, divided, conditional, sampled, merged}
use Rattle.plan_expressions.proofs.FormsMore.{when_form, merge_form}
use Rattle.plan_expressions.proofs.Operands.{some_form}
use Rattle.plan_equations.specs.Rights.{IsRight, expression, from_constant, from_variable, previous, arrow}
use Rattle.plan_equations.specs.Equations.{inside_of}
use Rattle.plan_equations.specs.Grounds.{equation_memories, fby_memories, right_memories}
use Rattle.plan_equations.proofs.FormsMore.{pre_form, arrow_form}
use Rattle.plan_equations.proofs.RightOperands.{plain_right}
use Rattle.plan_bodies.specs.Buildable.{IsKeepable, KeepsComputable}
use Rattle.plan_nodes.specs.Stores.{IsRightOrCall, a_right, a_call, IsStart, constant_start, variable_start}

-- ---- how a `fby` starts

no_fby : (types : List TypeDec) (ks : List Name) (n : ℕ) (e a b : Expr) → e.form ≡ form.Fby a b → Computable types ks n e → ⊥
no_fby types ks n e a b is h = some_form types ks n e h
    (λ k g. let q : Form-F.Fby a b ≡ Form-F.Const k = sym (fby_form e a b is) ∙ const_form e k g in cc)
    (λ x g. let q : Form-F.Fby a b ≡ Form-F.Var x = sym (fby_form e a b is) ∙ var_form e x g in cc)
    (λ op d g. let q : Form-F.Fby a b ≡ Form-F.Unary op d = sym (fby_form e a b is) ∙ unary_form e op d g in cc)
    (λ op d f g. let q : Form-F.Fby a b ≡ Form-F.Binary op d f = sym (fby_form e a b is) ∙ binary_form e op d f g in cc)
    (λ c d f g. let q : Form-F.Fby a b ≡ Form-F.If c d f = sym (fby_form e a b is) ∙ if_form e c d f g in cc)
    (λ d tag x g. let q : Form-F.Fby a b ≡ Form-F.When d tag x = sym (fby_form e a b is) ∙ when_form e d tag x g in cc)
    (λ x branches g. let q : Form-F.Fby a b ≡ Form-F.Merge x branches = sym (fby_form e a b is) ∙ merge_form e x branches g in cc)

start_of_right : (types : List TypeDec) (ks : List Name) (n : ℕ) (e a b : Expr) → e.form ≡ form.Fby a b → IsRight types ks n e → IsStart a
start_of_right types ks n e a b is (expression h) = absurd (no_fby types ks n e a b is h)
start_of_right types ks n e a b is (from_constant f g k is_fby const) =
    let q : Form-F.Fby a b ≡ Form-F.Fby f g = sym (fby_form e a b is) ∙ fby_form e f g is_fby in
    let here : f ≡ a = cc in
    subst (λ (z : Expr). IsStart z) here (constant_start k const)
start_of_right types ks n e a b is (from_variable f g y is_fby named among) =
    let q : Form-F.Fby a b ≡ Form-F.Fby f g = sym (fby_form e a b is) ∙ fby_form e f g is_fby in
    let here : f ≡ a = cc in
    subst (λ (z : Expr). IsStart z) here (variable_start y named)
start_of_right types ks n e a b is (previous f g) = absurd (let q : Form-F.Fby a b ≡ Form-F.Pre f = sym (fby_form e a b is) ∙ pre_form e f g in cc)
start_of_right types ks n e a b is (arrow f g is_arrow h i) = absurd (let q : Form-F.Fby a b ≡ Form-F.Arrow f g = sym (fby_form e a b is) ∙ arrow_form e f g is_arrow in cc)

pub call_form : (e : Expr) (f : Name) (args : List Expr) → e.form ≡ form.Call f args → out-Form e.form ≡ Form-F.Call f args
call_form e f args h = ap out-Form (h ∙ sym (form.rolls-Call f args)) ∙ out-roll-Form _

pub start_of : (types : List TypeDec) (e a b : Expr) → e.form ≡ form.Fby a b → IsRightOrCall types e → IsStart a
start_of types e a b is (a_right known n right) = start_of_right types known n e a b is right
start_of types e a b is (a_call f args call) = absurd (let q : Form-F.Fby a b ≡ Form-F.Call f args = sym (fby_form e a b is) ∙ call_form e f args call in cc)

pub memory_constant : (types : List TypeDec) (a b : Expr) (k : Const) (c : Clock) (s : Scope) → a.form ≡ form.Const k → fby_memories types (out-Form a.form) b c s ≡ Value_of b c s (const_value types k) ∷ []
memory_constant types a b k c s is = ap (λ (f : _). fby_memories types f b c s) (const_form a k is)

pub memories_started : (types : List TypeDec) (a b : Expr) (c : Clock) (s : Scope) → IsStart a → ((k : Const) → a.form ≡ form.Const k → ⊥) → fby_memories types (out-Form a.form) b c s ≡ Value_of b c s 0 ∷ Presence_of c s ∷ []
memories_started types a b c s (constant_start k is) other = absurd (other k is)
memories_started types a b c s (variable_start x is) other = ap (λ (f : _). fby_memories types f b c s) (var_form a x is)

-- ---- what is kept

pub kept_later : (types : List TypeDec) (variables : List Name) (e a b d : Expr) → e.form ≡ form.Fby a b → d ≡ b → IsKeepable types variables e → Computable types variables 0 d
kept_later types variables e a b d is same h =
    subst (λ (z : Expr). Computable types variables 0 z) (sym same) (subst (λ (f : _). KeepsComputable types variables f) (fby_form e a b is) h)

pub kept_previous : (types : List TypeDec) (variables : List Name) (e a d : Expr) → e.form ≡ form.Pre a → d ≡ a → IsKeepable types variables e → Computable types variables 0 d
kept_previous types variables e a d is same h =
    subst (λ (z : Expr). Computable types variables 0 z) (sym same) (subst (λ (f : _). KeepsComputable types variables f) (pre_form e a is) h)

-- ---- the cells of an equation

pub memories_fby : (types : List TypeDec) (e a b : Expr) (c : Clock) (s : Scope) → e.form ≡ form.Fby a b → right_memories types (out-Form e.form) c s ≡ fby_memories types (out-Form a.form) b c s
memories_fby types e a b c s is = ap (λ (f : _). right_memories types f c s) (fby_form e a b is)

pub memories_previous : (types : List TypeDec) (e a : Expr) (c : Clock) (s : Scope) → e.form ≡ form.Pre a → right_memories types (out-Form e.form) c s ≡ Value_of a c s 0 ∷ []
memories_previous types e a c s is = ap (λ (f : _). right_memories types f c s) (pre_form e a is)

pub memories_arrow : (types : List TypeDec) (e a b : Expr) (c : Clock) (s : Scope) → e.form ≡ form.Arrow a b → right_memories types (out-Form e.form) c s ≡ Presence_of c s ∷ []
memories_arrow types e a b c s is = ap (λ (f : _). right_memories types f c s) (arrow_form e a b is)

no_memories : (types : List TypeDec) (ks : List Name) (n : ℕ) (e : Expr) (c : Clock) (s : Scope) → Computable types ks n e → right_memories types (out-Form e.form) c s ≡ []
no_memories types ks n e c s (constant k g) = ap (λ (f : _). right_memories types f c s) (const_form e k g)
no_memories types ks n e c s (variable x g among) = ap (λ (f : _). right_memories types f c s) (var_form e x g)
no_memories types ks n e c s (unary op d g h) = ap (λ (f : _). right_memories types f c s) (unary_form e op d g)
no_memories types ks n e c s (binary op d f g other h i) = ap (λ (f : _). right_memories types f c s) (binary_form e op d f g)
no_memories types ks n e c s (divided op d f g divides h i) = ap (λ (f : _). right_memories types f c s) (binary_form e op d f g)
no_memories types ks n e c s (conditional k d f g h i j) = ap (λ (f : _). right_memories types f c s) (if_form e k d f g)
no_memories types ks n e c s (sampled d tag x g lt h) = ap (λ (f : _). right_memories types f c s) (when_form e d tag x g)
no_memories types ks n e c s (merged x branches g lt among h) = ap (λ (f : _). right_memories types f c s) (merge_form e x branches g)

pub memories_plain : (types : List TypeDec) (e : Expr) (c : Clock) (s : Scope) → ((a b : Expr) → e.form ≡ form.Fby a b → ⊥) → ((a : Expr) → e.form ≡ form.Pre a → ⊥) → ((a b : Expr) → e.form ≡ form.Arrow a b → ⊥) → IsRightOrCall types e →
    right_memories types (out-Form e.form) c s ≡ []
memories_plain types e c s no_start no_pre none (a_right known n right) = no_memories types known n e c s (plain_right types known n e no_start no_pre none right)
memories_plain types e c s no_start no_pre none (a_call f args is) = ap (λ (v : _). right_memories types v c s) (call_form e f args is)

-- an equation without resets
pub memories_inside : (types : List TypeDec) (b : Scope) (e : CoreEquation) → e.resets ≡ [] → equation_memories types b e ≡ right_memories types (out-Form e.right.form) e.clock.steps (inside_of b)
memories_inside types b e none = ap (λ (xs : List Name). right_memories types (out-Form e.right.form) e.clock.steps (Under b xs)) none
