-- What is named stands inside an expression.
use Rattle.std.proofs.Common.{◌≡◌, ℕ, Bool, true, false, List, [], ◌∷◌, ◌++◌, All, refl, sym, ap, subst, ◌∙◌}
use Rattle.std.specs.List.{flat_map}
use Rattle.std.proofs.lemmas.Bool.{false≢true}
use Rattle.std.proofs.lemmas.List.Elements.{All-nil, All-cons, All-head, All-tail}
use Rattle.hept_ast.specs.Texts.{Name}
use Rattle.hept_ast.specs.Scopes.{Clock}
use Rattle.hept_ast.specs.Parts.{below, inside}
use Rattle.hept_ast.specs.declared.tree.Expr.{Expr}
use Rattle.hept_ast.specs.declared.tree.MergeBranch.{MergeBranch}
use Rattle.hept_ast.specs.declared.tree.Form.{Form, out-Form, roll-Form}
use Rattle.hept_ast.specs.declared.tree.Form.TheOpen.{Form-F}
use Rattle.hept_ast.specs.declared.tree.Form.TheVariants as form
use Rattle.hept_ast.proofs.FormsOf.{below-Unary, below-Binary, below-If, below-When, below-Merge}
use Rattle.core_naming.specs.Names.{Names, NamesBranch, whole, in_unary, in_left, in_right, in_condition, in_then, in_else, in_fby_first, in_fby_next, in_pre, in_arrow_first, in_arrow_next, in_when, in_merge, in_call, in_async_call, in_get, this_branch, later_branch}
use Rattle.core_naming.specs.Normal.{is_simple, is_step}
use Rattle.normal_form.specs.Cuts.{HasNoStep}
use Rattle.normal_form.proofs.Views.{by_view}
use Rattle.normal_form.proofs.CutSteps.{NoStep}

-- an expression in which one is named that is no variable or constant is none either
pub named_is_large : (x : Name) (a : Expr) (d c : Clock) (e r : Expr) → Names x a d c e r → is_simple (out-Form a.form) ≡ false → is_simple (out-Form e.form) ≡ false
named_is_large x a d _ _ _ whole s = s
named_is_large x a d c e r (in_unary p i j h) s = ap is_simple i
named_is_large x a d c e r (in_left p i j h) s = ap is_simple i
named_is_large x a d c e r (in_right p i j h) s = ap is_simple i
named_is_large x a d c e r (in_condition p i j h) s = ap is_simple i
named_is_large x a d c e r (in_then p i j h) s = ap is_simple i
named_is_large x a d c e r (in_else p i j h) s = ap is_simple i
named_is_large x a d c e r (in_fby_first p i j h) s = ap is_simple i
named_is_large x a d c e r (in_fby_next p i j h) s = ap is_simple i
named_is_large x a d c e r (in_pre p i j h) s = ap is_simple i
named_is_large x a d c e r (in_arrow_first p i j h) s = ap is_simple i
named_is_large x a d c e r (in_arrow_next p i j h) s = ap is_simple i
named_is_large x a d c e r (in_when p i j h) s = ap is_simple i
named_is_large x a d c e r (in_merge p i j h) s = ap is_simple i
named_is_large x a d c e r (in_call p i j h) s = ap is_simple i
named_is_large x a d c e r (in_async_call p i j h) s = ap is_simple i
named_is_large x a d c e r (in_get p i j h) s = ap is_simple i

all_left : {X : Type 0} (P : X → Type 0) (xs ys : List X) → All P (xs ++ ys) → All P xs
all_left P [] ys h = All-nil P
all_left P (x ∷ xs) ys h = All-cons P x xs (All-head P x (xs ++ ys) h) (all_left P xs ys (All-tail P x (xs ++ ys) h))

all_right : {X : Type 0} (P : X → Type 0) (xs ys : List X) → All P (xs ++ ys) → All P ys
all_right P [] ys h = h
all_right P (x ∷ xs) ys h = all_right P xs ys (All-tail P x (xs ++ ys) h)

-- the parts of an expression in which no step stands
parts : (e : Expr) (f : Form) (v : Form-F Form Expr MergeBranch) (es : List Expr) → out-Form e.form ≡ v → roll-Form v ≡ f → below f ≡ es → HasNoStep e → All NoStep es
parts e f v es o g b k = subst (λ (l : List Expr). All NoStep l) (ap below (by_view e.form v f o g) ∙ b) (All-tail NoStep e (below e.form) k)

no_root : (e : Expr) (v : Form-F Form Expr MergeBranch) → out-Form e.form ≡ v → is_step v ≡ true → HasNoStep e → ⊥
no_root e v o s k = false≢true (sym (All-head NoStep e (below e.form) k) ∙ ap is_step o ∙ s)

module _ (x : Name) (a : Expr) (d : Clock) (s : is_step (out-Form a.form) ≡ true) where
  mutual
    pub step_inside : (c : Clock) (e r : Expr) → Names x a d c e r → HasNoStep e → ⊥
    step_inside _ _ _ whole k = false≢true (sym (All-head NoStep a (below a.form) k) ∙ s)
    step_inside c e r (in_unary {b = b} {m = m} {op = op} p i j h) k = step_inside c b m h (parts e _ _ (inside b) i (form.rolls-Unary op b) (below-Unary op b) k)
    step_inside c e r (in_left {b = b} {f = f} {m = m} {op = op} p i j h) k =
        step_inside c b m h (all_left NoStep (inside b) (inside f) (parts e _ _ (inside b ++ inside f) i (form.rolls-Binary op b f) (below-Binary op b f) k))
    step_inside c e r (in_right {b = b} {f = f} {m = m} {op = op} p i j h) k =
        step_inside c f m h (all_right NoStep (inside b) (inside f) (parts e _ _ (inside b ++ inside f) i (form.rolls-Binary op b f) (below-Binary op b f) k))
    step_inside c e r (in_condition {i = t} {b = b} {f = f} {m = m} p i j h) k =
        step_inside c t m h (all_left NoStep (inside t) (inside b) (all_left NoStep (inside t ++ inside b) (inside f) (parts e _ _ (inside t ++ inside b ++ inside f) i (form.rolls-If t b f) (below-If t b f) k)))
    step_inside c e r (in_then {i = t} {b = b} {f = f} {m = m} p i j h) k =
        step_inside c b m h (all_right NoStep (inside t) (inside b) (all_left NoStep (inside t ++ inside b) (inside f) (parts e _ _ (inside t ++ inside b ++ inside f) i (form.rolls-If t b f) (below-If t b f) k)))
    step_inside c e r (in_else {i = t} {b = b} {f = f} {m = m} p i j h) k =
        step_inside c f m h (all_right NoStep (inside t ++ inside b) (inside f) (parts e _ _ (inside t ++ inside b ++ inside f) i (form.rolls-If t b f) (below-If t b f) k))
    step_inside c e r (in_fby_first p i j h) k = no_root e _ i refl k
    step_inside c e r (in_fby_next p i j h) k = no_root e _ i refl k
    step_inside c e r (in_pre p i j h) k = no_root e _ i refl k
    step_inside c e r (in_arrow_first p i j h) k = no_root e _ i refl k
    step_inside c e r (in_arrow_next p i j h) k = no_root e _ i refl k
    step_inside c e r (in_when {b = b} {m = m} {tag = tag} {y = y} p i j h) k = step_inside _ b m h (parts e _ _ (inside b) i (form.rolls-When b tag y) (below-When b tag y) k)
    step_inside c e r (in_merge {y = y} {bs = bs} {ms = ms} p i j h) k =
        branch_inside y c bs ms h (parts e _ _ (flat_map (λ q. inside q.value) bs) i (form.rolls-Merge y bs) (below-Merge y bs) k)
    step_inside c e r (in_call p i j h) k = no_root e _ i refl k
    step_inside c e r (in_async_call p i j h) k = no_root e _ i refl k
    step_inside c e r (in_get p i j h) k = no_root e _ i refl k

    branch_inside : (y : Name) (c : Clock) (bs ms : List MergeBranch) → NamesBranch x a d y c bs ms → All NoStep (flat_map (λ q. inside q.value) bs) → ⊥
    branch_inside y c _ _ (this_branch {b = b} {m = m} {bs = bs} p t h) k = step_inside _ b.value m.value h (all_left NoStep (inside b.value) (flat_map (λ q. inside q.value) bs) k)
    branch_inside y c _ _ (later_branch {b = b} {bs = bs} {ms = ms} h) k = branch_inside y c bs ms h (all_right NoStep (inside b.value) (flat_map (λ q. inside q.value) bs) k)
