-- The calls of a text, seen from the expressions in it: each has the number by which the core calls it.
use Rattle.std.proofs.Common.{◌≡◌, ℕ, zero, suc, List, [], ◌∷◌, ◌++◌, map, drop, Some, slice_get, refl, sym, ap, subst, ◌∙◌, append_assoc, append-nil}
use Rattle.std.specs.List.{concat}
use Rattle.std.proofs.lemmas.List.{map-append}
use Rattle.hept_ast.specs.Texts.{Name}
use Rattle.hept_ast.specs.Scopes.{Clock}
use Rattle.hept_ast.specs.CallPlaces as places
use Rattle.hept_ast.specs.CallPlaces.{expr_places, equation_places, block_places}
use Rattle.hept_ast.specs.declared.name.Place.{Place}
use Rattle.hept_ast.specs.declared.tree.Expr.{Expr, fold_out-Expr}
use Rattle.hept_ast.specs.declared.tree.MergeBranch.{MergeBranch, fold-MergeBranch, fold_out-MergeBranch}
use Rattle.hept_ast.specs.declared.tree.Form.{Form, out-Form, fold-Form, fold_out-Form, map-Form}
use Rattle.hept_ast.specs.declared.tree.Form.TheOpen.{Form-F}
use Rattle.hept_ast.specs.declared.tree.Block.{Block, fold_out-Block}
use Rattle.hept_ast.specs.declared.tree.Branch.{Branch, fold-Branch}
use Rattle.hept_ast.specs.declared.tree.State.{State, fold-State}
use Rattle.hept_ast.specs.declared.tree.Equation.{Equation, out-Equation, fold-Equation, fold_out-Equation, map-Equation}
use Rattle.hept_ast.specs.declared.tree.Equation.TheOpen.{Equation-F}
use Rattle.hept_ast.specs.declared.tree.Equation.TheViews.{out-roll-Equation}
use Rattle.hept_ast.specs.declared.tree.Equation.TheVariants as equation
use Rattle.hept_ast.specs.declared.tree.CoreEquation.{CoreEquation}
use Rattle.hept_ast.specs.declared.tree.CoreNode.{CoreNode}
use Rattle.hept_ast.specs.declared.tree.Node.{Node}
use Rattle.hept_ast.proofs.CallPlacesOf.{form_view, expr_is, equation_view, equation_is}
use Rattle.naming_rules.proofs.Shapes.{out_Const, out_Var, out_Unary, out_Binary, out_If, out_Fby, out_Pre, out_Arrow, out_When, out_Merge, out_Call, out_AsyncCall, out_AsyncConst, out_Get}
use Rattle.lowering_rules.specs.Lowering as lowering
use Rattle.lowering_rules.specs.Lowering.{node_frame, at, Lowers, LowersAll, LowersBranches}
use Rattle.lowering_rules.specs.CallPaths.{Call, call_at, joined, form_calls, expr_calls, equation_step, block_step, branch_step, state_step, block_calls}
use Rattle.lowering_rules.specs.Ties as ties
use Rattle.lowering_rules.specs.Ties.{TiedEquations, TiedNode}
use Rattle.lowering_rules.specs.TiedScopes as scopes
use Rattle.lowering_rules.specs.TiedScopes.{LowersIn, LowersAllIn, LowersBranchesIn, EquationsIn}

-- ---- the calls of a form

-- from those of its expressions
abbrev pub calls_view : Form-F Form Expr MergeBranch → Place → List Call
calls_view (Form-F.Const k) p = []
calls_view (Form-F.Var x) p = []
calls_view (Form-F.Last x) p = []
calls_view (Form-F.Unary op a) p = expr_calls a
calls_view (Form-F.Binary op a b) p = expr_calls a ++ expr_calls b
calls_view (Form-F.If c a b) p = expr_calls c ++ (expr_calls a ++ expr_calls b)
calls_view (Form-F.Fby a b) p = expr_calls a ++ expr_calls b
calls_view (Form-F.Pre a) p = expr_calls a
calls_view (Form-F.Arrow a b) p = expr_calls a ++ expr_calls b
calls_view (Form-F.When a tag x) p = expr_calls a
calls_view (Form-F.Merge x branches) p = joined (map (λ b. expr_calls b.value) branches)
calls_view (Form-F.Call f args) p = call_at p f ∷ joined (map expr_calls args)
calls_view (Form-F.AsyncCall q f args) p = call_at p f ∷ joined (map expr_calls args)
calls_view (Form-F.AsyncConst k) p = []
calls_view (Form-F.Get a) p = expr_calls a

by_branch : (b : MergeBranch) → fold-MergeBranch (Place → List Call) (List Call) (List Call) form_calls (λ x. x.form x.place) (λ d. d.value) b ≡ expr_calls b.value
by_branch b = fold_out-MergeBranch (Place → List Call) (List Call) (List Call) form_calls (λ x. x.form x.place) (λ d. d.value) b

by_branches : (bs : List MergeBranch) → map (fold-MergeBranch (Place → List Call) (List Call) (List Call) form_calls (λ x. x.form x.place) (λ d. d.value)) bs ≡ map (λ (b : MergeBranch). expr_calls b.value) bs
by_branches [] = refl
by_branches (b ∷ bs) = let h = by_branch b in let t = by_branches bs in cc

pub calls_are : (e : Expr) → expr_calls e ≡ calls_view (out-Form e.form) e.place
calls_are e =
    fold_out-Expr (Place → List Call) (List Call) (List Call) form_calls (λ x. x.form x.place) (λ b. b.value) e
    ∙ ap (λ (g : Place → List Call). g e.place) (fold_out-Form (Place → List Call) (List Call) (List Call) form_calls (λ x. x.form x.place) (λ b. b.value) e.form)
    ∙ by_view (out-Form e.form) e.place
  where
    by_view : (v : Form-F Form Expr MergeBranch) (q : Place) → form_calls (map-Form Form Expr MergeBranch (Place → List Call) (List Call) (List Call)
        (fold-Form (Place → List Call) (List Call) (List Call) form_calls (λ x. x.form x.place) (λ b. b.value)) expr_calls
        (fold-MergeBranch (Place → List Call) (List Call) (List Call) form_calls (λ x. x.form x.place) (λ d. d.value)) v) q ≡ calls_view v q
    by_view (Form-F.Const k) q = refl
    by_view (Form-F.Var x) q = refl
    by_view (Form-F.Last x) q = refl
    by_view (Form-F.Unary op a) q = refl
    by_view (Form-F.Binary op a b) q = refl
    by_view (Form-F.If c a b) q = refl
    by_view (Form-F.Fby a b) q = refl
    by_view (Form-F.Pre a) q = refl
    by_view (Form-F.Arrow a b) q = refl
    by_view (Form-F.When a tag x) q = refl
    by_view (Form-F.Merge x branches) q = ap joined (by_branches branches)
    by_view (Form-F.Call f args) q = refl
    by_view (Form-F.AsyncCall n f args) q = refl
    by_view (Form-F.AsyncConst k) q = refl
    by_view (Form-F.Get a) q = refl

-- the calls of an expression of a form
calls_by : (e : Expr) (f : Form-F Form Expr MergeBranch) → out-Form e.form ≡ f → expr_calls e ≡ calls_view f e.place
calls_by e f p = calls_are e ∙ ap (λ (g : Form-F Form Expr MergeBranch). calls_view g e.place) p

-- ---- the calls of equations

abbrev equation_calls : Equation → List Call
equation_calls e = fold-Equation (List Call) (List Call) (List Call) (List Call) equation_step block_step branch_step state_step e

abbrev body_calls : List Equation → List Call
body_calls es = joined (map equation_calls es)

pub out_define : (p : Place) (left : List Name) (right : Expr) → out-Equation (equation.Define p left right) ≡ Equation-F.Define p left right
out_define p left right = ap out-Equation (sym (equation.rolls-Define p left right)) ∙ out-roll-Equation _

define_calls : (p : Place) (left : List Name) (right : Expr) → equation_calls (equation.Define p left right) ≡ expr_calls right
define_calls p left right =
    fold_out-Equation (List Call) (List Call) (List Call) (List Call) equation_step block_step branch_step state_step (equation.Define p left right)
    ∙ ap (λ (f : Equation-F Equation Block Branch State). equation_step (map-Equation Equation Block Branch State (List Call) (List Call) (List Call) (List Call) equation_calls block_calls
    (fold-Branch (List Call) (List Call) (List Call) (List Call) equation_step block_step branch_step state_step)
    (fold-State (List Call) (List Call) (List Call) (List Call) equation_step block_step branch_step state_step) f)) (out_define p left right)

block_is : (b : Block) → block_calls b ≡ body_calls b.body
block_is b = fold_out-Block (List Call) (List Call) (List Call) (List Call) equation_step block_step branch_step state_step b

-- ---- the calls that are left from a number on

at_first : (n : ℕ) (xs : List Call) (y : Call) (ys : List Call) → drop n xs ≡ y ∷ ys → slice_get xs n ≡ Some y
at_first zero xs y ys e = ap (λ (l : List Call). slice_get l 0) e
at_first (suc n) [] y ys e = cc
at_first (suc n) (x ∷ xs) y ys e = at_first n xs y ys e

past_first : (n : ℕ) (xs : List Call) (y : Call) (ys : List Call) → drop n xs ≡ y ∷ ys → drop (suc n) xs ≡ ys
past_first zero xs y ys e = ap (λ (l : List Call). drop 1 l) e
past_first (suc n) [] y ys e = cc
past_first (suc n) (x ∷ xs) y ys e = past_first n xs y ys e

module _ (calls : List Call) where
  -- from number n on there are these calls, and then the rest
  abbrev Left : ℕ → List Call → List Call → Type 0
  Left n xs rest = drop n calls ≡ xs ++ rest

  left_by : (n : ℕ) (rest : List Call) (e : Expr) (f : Form-F Form Expr MergeBranch) → out-Form e.form ≡ f → Left n (expr_calls e) rest → Left n (calls_view f e.place) rest
  left_by n rest e f p h = subst (λ (xs : List Call). Left n xs rest) (calls_by e f p) h

  left_of : (n : ℕ) (rest : List Call) (xs ys : List Call) → Left n (xs ++ ys) rest → Left n xs (ys ++ rest)
  left_of n rest xs ys h = h ∙ append_assoc xs ys rest

  mutual
    expr_in : {n m : ℕ} {e r : Expr} (rest : List Call) → Lowers node_frame n e r m → Left n (expr_calls e) rest → LowersIn calls n e r m × (drop m calls ≡ rest)
    expr_in rest (lowering.const {p = p} {k = k}) h = (scopes.const, left_by _ rest (at p _) _ (out_Const k) h)
    expr_in rest (lowering.var {p = p} {x = x}) h = (scopes.var, left_by _ rest (at p _) _ (out_Var x) h)
    expr_in rest (lowering.last e) h = cc
    expr_in rest (lowering.unary {p = p} {op = op} {a = a} l) h =
        let x = expr_in rest l (left_by _ rest (at p _) _ (out_Unary op a) h) in (scopes.unary x.0, x.1)
    expr_in rest (lowering.binary {p = p} {op = op} {a = a} {c = c} l i) h =
        let x = expr_in (expr_calls c ++ rest) l (left_of _ rest (expr_calls a) (expr_calls c) (left_by _ rest (at p _) _ (out_Binary op a c) h)) in
        let y = expr_in rest i x.1 in (scopes.binary x.0 y.0, y.1)
    expr_in rest (lowering.choice {p = p} {i = i} {a = a} {c = c} l o q) h =
        let x = expr_in ((expr_calls a ++ expr_calls c) ++ rest) l (left_of _ rest (expr_calls i) (expr_calls a ++ expr_calls c) (left_by _ rest (at p _) _ (out_If i a c) h)) in
        let y = expr_in (expr_calls c ++ rest) o (left_of _ rest (expr_calls a) (expr_calls c) x.1) in
        let z = expr_in rest q y.1 in (scopes.choice x.0 y.0 z.0, z.1)
    expr_in rest (lowering.fby {p = p} {a = a} {c = c} l i) h =
        let x = expr_in (expr_calls c ++ rest) l (left_of _ rest (expr_calls a) (expr_calls c) (left_by _ rest (at p _) _ (out_Fby a c) h)) in
        let y = expr_in rest i x.1 in (scopes.fby x.0 y.0, y.1)
    expr_in rest (lowering.pre {p = p} {a = a} l) h =
        let x = expr_in rest l (left_by _ rest (at p _) _ (out_Pre a) h) in (scopes.pre x.0, x.1)
    expr_in rest (lowering.arrow {p = p} {a = a} {c = c} l i) h =
        let x = expr_in (expr_calls c ++ rest) l (left_of _ rest (expr_calls a) (expr_calls c) (left_by _ rest (at p _) _ (out_Arrow a c) h)) in
        let y = expr_in rest i x.1 in (scopes.arrow x.0 y.0, y.1)
    expr_in rest (lowering.when {p = p} {a = a} {tag = tag} {x = name} l) h =
        let x = expr_in rest l (left_by _ rest (at p _) _ (out_When a tag name) h) in (scopes.when x.0, x.1)
    expr_in rest (lowering.merge {p = p} {x = name} {bs = bs} l) h =
        let x = branches_in rest l (left_by _ rest (at p _) _ (out_Merge name bs) h) in (scopes.merge x.0, x.1)
    expr_in rest (lowering.call {n = n} {p = p} {g = g} {es = es} l) h =
        let left : drop n calls ≡ call_at p g ∷ (joined (map expr_calls es) ++ rest) = left_by _ rest (at p _) _ (out_Call g es) h in
        let x = all_in rest l (past_first n calls (call_at p g) (joined (map expr_calls es) ++ rest) left) in
        (scopes.call (at_first n calls (call_at p g) (joined (map expr_calls es) ++ rest) left) x.0, x.1)
    expr_in rest (lowering.async_call {n = n} {p = p} {q = q} {g = g} {es = es} l) h =
        let left : drop n calls ≡ call_at p g ∷ (joined (map expr_calls es) ++ rest) = left_by _ rest (at p _) _ (out_AsyncCall q g es) h in
        let x = all_in rest l (past_first n calls (call_at p g) (joined (map expr_calls es) ++ rest) left) in
        (scopes.async_call (at_first n calls (call_at p g) (joined (map expr_calls es) ++ rest) left) x.0, x.1)
    expr_in rest (lowering.async_const {p = p} {k = k}) h = (scopes.async_const, left_by _ rest (at p _) _ (out_AsyncConst k) h)
    expr_in rest (lowering.get {p = p} {a = a} l) h =
        let x = expr_in rest l (left_by _ rest (at p _) _ (out_Get a) h) in (scopes.get x.0, x.1)

    all_in : {n m : ℕ} {es rs : List Expr} (rest : List Call) → LowersAll node_frame n es rs m → Left n (joined (map expr_calls es)) rest → LowersAllIn calls n es rs m × (drop m calls ≡ rest)
    all_in rest lowering.no_exprs h = (scopes.no_exprs, h)
    all_in rest (lowering.more_exprs {e = e} {es = es} l ls) h =
        let x = expr_in (joined (map expr_calls es) ++ rest) l (left_of _ rest (expr_calls e) (joined (map expr_calls es)) h) in
        let y = all_in rest ls x.1 in (scopes.more_exprs x.0 y.0, y.1)

    branches_in : {n m : ℕ} {bs cs : List MergeBranch} (rest : List Call) → LowersBranches node_frame n bs cs m → Left n (joined (map (λ (b : MergeBranch). expr_calls b.value) bs)) rest →
        LowersBranchesIn calls n bs cs m × (drop m calls ≡ rest)
    branches_in rest lowering.no_branches h = (scopes.no_branches, h)
    branches_in rest (lowering.more_branches {e = e} {bs = bs} l ls) h =
        let x = expr_in (joined (map (λ (b : MergeBranch). expr_calls b.value) bs) ++ rest) l (left_of _ rest (expr_calls e) (joined (map (λ (b : MergeBranch). expr_calls b.value) bs)) h) in
        let y = branches_in rest ls x.1 in (scopes.more_branches x.0 y.0, y.1)

  equations_in : (clock : Name → Clock) {n m : ℕ} {es : List Equation} {cs : List CoreEquation} (rest : List Call) → TiedEquations clock n es cs m → Left n (body_calls es) rest → EquationsIn calls clock n es cs m
  equations_in clock rest ties.no_equations h = scopes.no_equations
  equations_in clock {n = n} rest (ties.more_equations {p = p} {left = left} {right = right} {es = es} l on ls) h =
      let x = expr_in (body_calls es ++ rest) l (left_of _ rest (expr_calls right) (body_calls es) (subst (λ (xs : List Call). Left n (xs ++ body_calls es) rest) (define_calls p left right) h)) in
      scopes.more_equations x.0 on (equations_in clock rest ls x.1)

-- the equations of a tied node stand in its text
pub node_in : (clock : Name → Clock) (node : Node) (low : CoreNode) (h : TiedNode clock node low) → EquationsIn (block_calls node.block) clock 0 node.block.body low.equations h.calls
node_in clock node low h = equations_in (block_calls node.block) clock [] h.equations (block_is node.block ∙ sym (append-nil (body_calls node.block.body)))

-- ---- the places of these calls

abbrev pub places_of : List Call → List ℕ
places_of calls = map (λ c. c.place) calls

placed_by : (e : Expr) (f : Form-F Form Expr MergeBranch) → out-Form e.form ≡ f → places_of (calls_view f e.place) ≡ form_view f e.place → places_of (expr_calls e) ≡ expr_places e
placed_by e f p h = ap places_of (calls_by e f p) ∙ h ∙ sym (expr_is e ∙ ap (λ (g : Form-F Form Expr MergeBranch). form_view g e.place) p)

both_placed : (xs ys : List Call) (ps qs : List ℕ) → places_of xs ≡ ps → places_of ys ≡ qs → places_of (xs ++ ys) ≡ ps ++ qs
both_placed xs ys ps qs h i = map-append (λ (c : Call). c.place) xs ys ∙ ap (λ (l : List ℕ). l ++ places_of ys) h ∙ ap (λ (l : List ℕ). ps ++ l) i

mutual
  expr_placed : {n m : ℕ} {e r : Expr} → Lowers node_frame n e r m → places_of (expr_calls e) ≡ expr_places e
  expr_placed (lowering.const {p = p} {k = k}) = placed_by (at p _) _ (out_Const k) refl
  expr_placed (lowering.var {p = p} {x = x}) = placed_by (at p _) _ (out_Var x) refl
  expr_placed (lowering.last e) = cc
  expr_placed (lowering.unary {p = p} {op = op} {a = a} l) = placed_by (at p _) _ (out_Unary op a) (expr_placed l)
  expr_placed (lowering.binary {p = p} {op = op} {a = a} {c = c} l i) =
      placed_by (at p _) _ (out_Binary op a c) (both_placed (expr_calls a) (expr_calls c) (expr_places a) (expr_places c) (expr_placed l) (expr_placed i))
  expr_placed (lowering.choice {p = p} {i = i} {a = a} {c = c} l o q) =
      placed_by (at p _) _ (out_If i a c) (both_placed (expr_calls i) (expr_calls a ++ expr_calls c) (expr_places i) (expr_places a ++ expr_places c) (expr_placed l)
      (both_placed (expr_calls a) (expr_calls c) (expr_places a) (expr_places c) (expr_placed o) (expr_placed q)))
  expr_placed (lowering.fby {p = p} {a = a} {c = c} l i) =
      placed_by (at p _) _ (out_Fby a c) (both_placed (expr_calls a) (expr_calls c) (expr_places a) (expr_places c) (expr_placed l) (expr_placed i))
  expr_placed (lowering.pre {p = p} {a = a} l) = placed_by (at p _) _ (out_Pre a) (expr_placed l)
  expr_placed (lowering.arrow {p = p} {a = a} {c = c} l i) =
      placed_by (at p _) _ (out_Arrow a c) (both_placed (expr_calls a) (expr_calls c) (expr_places a) (expr_places c) (expr_placed l) (expr_placed i))
  expr_placed (lowering.when {p = p} {a = a} {tag = tag} {x = x} l) = placed_by (at p _) _ (out_When a tag x) (expr_placed l)
  expr_placed (lowering.merge {p = p} {x = x} {bs = bs} l) = placed_by (at p _) _ (out_Merge x bs) (branches_placed l)
  expr_placed (lowering.call {p = p} {g = g} {es = es} l) = placed_by (at p _) _ (out_Call g es) (ap (λ (xs : List ℕ). p.0 ∷ xs) (all_placed l))
  expr_placed (lowering.async_call {p = p} {q = q} {g = g} {es = es} l) = placed_by (at p _) _ (out_AsyncCall q g es) (ap (λ (xs : List ℕ). p.0 ∷ xs) (all_placed l))
  expr_placed (lowering.async_const {p = p} {k = k}) = placed_by (at p _) _ (out_AsyncConst k) refl
  expr_placed (lowering.get {p = p} {a = a} l) = placed_by (at p _) _ (out_Get a) (expr_placed l)

  all_placed : {n m : ℕ} {es rs : List Expr} → LowersAll node_frame n es rs m → places_of (joined (map expr_calls es)) ≡ concat (map expr_places es)
  all_placed lowering.no_exprs = refl
  all_placed (lowering.more_exprs {e = e} {es = es} l ls) =
      both_placed (expr_calls e) (joined (map expr_calls es)) (expr_places e) (concat (map expr_places es)) (expr_placed l) (all_placed ls)

  branches_placed : {n m : ℕ} {bs cs : List MergeBranch} → LowersBranches node_frame n bs cs m →
      places_of (joined (map (λ (b : MergeBranch). expr_calls b.value) bs)) ≡ concat (map (λ (b : MergeBranch). expr_places b.value) bs)
  branches_placed lowering.no_branches = refl
  branches_placed (lowering.more_branches {e = e} {bs = bs} l ls) =
      both_placed (expr_calls e) (joined (map (λ (b : MergeBranch). expr_calls b.value) bs)) (expr_places e) (concat (map (λ (b : MergeBranch). expr_places b.value) bs)) (expr_placed l) (branches_placed ls)

equations_placed : (clock : Name → Clock) (n m : ℕ) (es : List Equation) (cs : List CoreEquation) → TiedEquations clock n es cs m → places_of (body_calls es) ≡ concat (map equation_places es)
equations_placed clock n m _ _ ties.no_equations = refl
equations_placed clock n m _ _ (ties.more_equations {p = p} {left = left} {right = right} {es = es} {cs = cs} l on ls) =
    let own : places_of (equation_calls (equation.Define p left right)) ≡ equation_places (equation.Define p left right) =
    ap places_of (define_calls p left right) ∙ expr_placed l ∙ sym (equation_is (equation.Define p left right) ∙ ap equation_view (out_define p left right)) in
    both_placed (equation_calls (equation.Define p left right)) (body_calls es) (equation_places (equation.Define p left right)) (concat (map equation_places es)) own (equations_placed clock _ m es cs ls)

pub node_placed : (clock : Name → Clock) (node : Node) (low : CoreNode) → TiedNode clock node low → places_of (block_calls node.block) ≡ block_places node.block
node_placed clock node low h =
    ap places_of (block_is node.block) ∙ equations_placed clock 0 h.calls node.block.body low.equations h.equations
    ∙ sym (fold_out-Block (List ℕ) (List ℕ) (List ℕ) (List ℕ) places.equation_step places.block_step places.branch_step places.state_step node.block)
