-- Each form of a lowered expression, for an expression that is known by its form.
use Rattle.std.proofs.Common.{◌≡◌, ℕ, zero, suc, ◌+◌, ◌<◌, ◌≤◌, List, [], ◌∷◌, ◌++◌, get_or, length, take, Result, Ok, Err, IfOk, refl, sym, subst, ap, ◌∙◌, arith}
use Rattle.hept_ast.specs.Texts.{Name}
use Rattle.hept_ast.specs.declared.name.Place.{Place}
use Rattle.hept_ast.specs.declared.tree.Const.{Const}
use Rattle.hept_ast.specs.declared.tree.Tag.{Tag}
use Rattle.hept_ast.specs.declared.tree.UnaryOp.{UnaryOp}
use Rattle.hept_ast.specs.declared.tree.BinaryOp.{BinaryOp}
use Rattle.hept_ast.specs.declared.tree.Expr.{Expr}
use Rattle.hept_ast.specs.declared.tree.MergeBranch.{MergeBranch}
use Rattle.hept_ast.specs.declared.tree.Form.{Form}
use Rattle.hept_ast.specs.declared.tree.Form.TheVariants as form
use Rattle.lowering_rules.specs.Lowering.{node_frame, at, branch, numbered, Lowers, const, var, unary, binary, choice, fby, pre, arrow, when, merge, call, async_call, async_const, get, LowersAll, no_exprs, LowersBranches, no_branches}
use Rattle.lowering_rules.proofs.Steps.{expr_more, branch_more}

made : (n m : ℕ) (e r : Expr) (f g : Form) → e.form ≡ f → r ≡ at e.place g → Lowers node_frame n (at e.place f) (at e.place g) m → Lowers node_frame n e r m
made n m e r f g p q h =
    subst (λ (x : Expr). Lowers node_frame n e x m) (sym q) (subst (λ (x : Form). Lowers node_frame n (at e.place x) (at e.place g) m) (sym p) h)

pub lowers_const : (n : ℕ) (e r : Expr) (k j : Const) → e.form ≡ form.Const k → r ≡ at e.place (form.Const j) → j ≡ k → Lowers node_frame n e r n
lowers_const n e r k j p q same = made n n e r _ _ p (q ∙ ap (λ (i : Const). at e.place (form.Const i)) same) const

pub lowers_var : (n : ℕ) (e r : Expr) (x y : Name) → e.form ≡ form.Var x → r ≡ at e.place (form.Var y) → y ≡ x → Lowers node_frame n e r n
lowers_var n e r x y p q same = made n n e r _ _ p (q ∙ ap (λ (i : Name). at e.place (form.Var i)) same) var

pub lowers_unary : (n m : ℕ) (e r : Expr) (op : UnaryOp) (a b : Expr) → e.form ≡ form.Unary op a → r ≡ at e.place (form.Unary op b) → Lowers node_frame n a b m → Lowers node_frame n e r m
lowers_unary n m e r op a b p q h = made n m e r _ _ p q (unary h)

pub lowers_binary : (n m k : ℕ) (e r : Expr) (op : BinaryOp) (a b c d : Expr) → e.form ≡ form.Binary op a c → r ≡ at e.place (form.Binary op b d) → Lowers node_frame n a b m → Lowers node_frame m c d k →
    Lowers node_frame n e r k
lowers_binary n m k e r op a b c d p q h i = made n k e r _ _ p q (binary h i)

pub lowers_if : (n m k l : ℕ) (e r i j a b c d p q : Expr) → e.form ≡ form.If i a c → r ≡ at e.place (form.If p q d) → (p ≡ j) × (q ≡ b) → Lowers node_frame n i j m → Lowers node_frame m a b k →
    Lowers node_frame k c d l → Lowers node_frame n e r l
lowers_if n m k l e r i j a b c d p q is out same h o s =
    made n l e r _ _ is (out ∙ (ap (λ (x : Expr). at e.place (form.If x q d)) same.0 ∙ ap (λ (x : Expr). at e.place (form.If j x d)) same.1)) (choice h o s)

pub lowers_fby : (n m k : ℕ) (e r a b c d : Expr) → e.form ≡ form.Fby a c → r ≡ at e.place (form.Fby b d) → Lowers node_frame n a b m → Lowers node_frame m c d k → Lowers node_frame n e r k
lowers_fby n m k e r a b c d p q h i = made n k e r _ _ p q (fby h i)

pub lowers_pre : (n m : ℕ) (e r a b : Expr) → e.form ≡ form.Pre a → r ≡ at e.place (form.Pre b) → Lowers node_frame n a b m → Lowers node_frame n e r m
lowers_pre n m e r a b p q h = made n m e r _ _ p q (pre h)

pub lowers_arrow : (n m k : ℕ) (e r a b c d : Expr) → e.form ≡ form.Arrow a c → r ≡ at e.place (form.Arrow b d) → Lowers node_frame n a b m → Lowers node_frame m c d k → Lowers node_frame n e r k
lowers_arrow n m k e r a b c d p q h i = made n k e r _ _ p q (arrow h i)

pub lowers_when : {F : Type 0} (n m : ℕ) (e a b : Expr) (tag : Tag) (x : Name) (out : Result Expr F) → e.form ≡ form.When a tag x → IfOk out (λ r. r ≡ at e.place (form.When b tag x)) → Lowers node_frame n a b m →
    IfOk out (λ r. Lowers node_frame n e r m)
lowers_when n m e a b tag x (Ok r) p q h = made n m e r _ _ p q (when h)
lowers_when n m e a b tag x (Err f) p q h = tt

pub lowers_merge : (n m : ℕ) (e r : Expr) (x y : Name) (bs ds cs : List MergeBranch) → e.form ≡ form.Merge x bs → r ≡ at e.place (form.Merge y cs) → y ≡ x → ds ≡ bs → LowersBranches node_frame n ds cs m →
    Lowers node_frame n e r m
lowers_merge n m e r x y bs ds cs p q same all h =
    made n m e r _ _ p (q ∙ ap (λ (z : Name). at e.place (form.Merge z cs)) same) (merge (subst (λ (l : List MergeBranch). LowersBranches node_frame n l cs m) all h))

pub lowers_ready : (n : ℕ) (e r : Expr) (k j : Const) → e.form ≡ form.AsyncConst k → r ≡ at e.place (form.AsyncConst j) → j ≡ k → Lowers node_frame n e r n
lowers_ready n e r k j p q same = made n n e r _ _ p (q ∙ ap (λ (i : Const). at e.place (form.AsyncConst i)) same) async_const

pub lowers_get : (n m : ℕ) (e r a b : Expr) → e.form ≡ form.Get a → r ≡ at e.place (form.Get b) → Lowers node_frame n a b m → Lowers node_frame n e r m
lowers_get n m e r a b p q h = made n m e r _ _ p q (get h)

pub lowers_call : (n k m : ℕ) (e r : Expr) (g h : Name) (es all rs : List Expr) (p : Place) → e.form ≡ form.Call g es → r ≡ at p (form.Call h rs) →
    (p ≡ record { 0 = n }) × (k ≡ suc n) → h ≡ g → all ≡ es → LowersAll node_frame k all rs m → Lowers node_frame n e r m
lowers_call n k m e r g h es all rs p is made_so number same whole below =
    let low : LowersAll node_frame (suc n) es rs m =
    subst (λ (i : ℕ). LowersAll node_frame i es rs m) number.1 (subst (λ (l : List Expr). LowersAll node_frame k l rs m) whole below) in
    let out : r ≡ numbered n (form.Call g rs) =
    made_so ∙ (ap (λ (i : Place). at i (form.Call h rs)) number.0 ∙ ap (λ (z : Name). numbered n (form.Call z rs)) same) in
    subst (λ (x : Expr). Lowers node_frame n e x m) (sym out) (subst (λ (x : Form). Lowers node_frame n (at e.place x) (numbered n (form.Call g rs)) m) (sym is) (call low))

pub lowers_async_call : (n k m : ℕ) (e r : Expr) (queue : ℕ) (g h : Name) (es all rs : List Expr) (p : Place) → e.form ≡ form.AsyncCall queue g es → r ≡ at p (form.AsyncCall queue h rs) →
    (p ≡ record { 0 = n }) × (k ≡ suc n) → h ≡ g → all ≡ es → LowersAll node_frame k all rs m → Lowers node_frame n e r m
lowers_async_call n k m e r queue g h es all rs p is made_so number same whole below =
    let low : LowersAll node_frame (suc n) es rs m =
    subst (λ (i : ℕ). LowersAll node_frame i es rs m) number.1 (subst (λ (l : List Expr). LowersAll node_frame k l rs m) whole below) in
    let out : r ≡ numbered n (form.AsyncCall queue g rs) =
    made_so ∙ (ap (λ (i : Place). at i (form.AsyncCall queue h rs)) number.0 ∙ ap (λ (z : Name). numbered n (form.AsyncCall queue z rs)) same) in
    subst (λ (x : Expr). Lowers node_frame n e x m) (sym out) (subst (λ (x : Form). Lowers node_frame n (at e.place x) (numbered n (form.AsyncCall queue g rs)) m) (sym is) (async_call low))

-- ---- one more, and all

pub no_exprs_yet : (n : ℕ) (rs : List Expr) → rs ≡ [] → LowersAll node_frame n [] rs n
no_exprs_yet n rs h = subst (λ (l : List Expr). LowersAll node_frame n [] l n) (sym h) no_exprs

pub no_branches_yet : (n : ℕ) (cs : List MergeBranch) → cs ≡ [] → LowersBranches node_frame n [] cs n
no_branches_yet n cs h = subst (λ (l : List MergeBranch). LowersBranches node_frame n [] l n) (sym h) no_branches

take_next : {A : Type 0} (xs : List A) (i : ℕ) (x : A) → i < length xs → x ≡ get_or xs i x → take (suc i) xs ≡ take i xs ++ x ∷ []
take_next [] i x below is = absurd (omega arith)
take_next (y ∷ xs) zero x below is = ap (λ z. z ∷ []) (sym is)
take_next (y ∷ xs) (suc i) x below is = ap (λ l. y ∷ l) (take_next xs i x (omega arith) is)

pub one_more : {A : Type 0} (xs : List A) (i : ℕ) (x : A) → i < length xs → x ≡ get_or xs i x → take i xs ++ x ∷ [] ≡ take (i + 1) xs
one_more xs i x below is =
    let after : suc i ≡ i + 1 = omega arith in
    sym (take_next xs i x below is) ∙ ap (λ k. take k xs) after

pub whole : {A : Type 0} (xs : List A) (i : ℕ) → length xs ≤ i → take i xs ≡ xs
whole [] zero past = refl
whole [] (suc i) past = refl
whole (x ∷ xs) zero past = absurd (omega arith)
whole (x ∷ xs) (suc i) past = ap (λ l. x ∷ l) (whole xs i (omega arith))

pub next_expr : (n m k : ℕ) (es rs all : List Expr) (i : ℕ) (e r : Expr) → LowersAll node_frame n (take i es) rs m → e ≡ get_or es i e → i < length es → Lowers node_frame m e r k → all ≡ rs ++ r ∷ [] →
    LowersAll node_frame n (take (i + 1) es) all k
next_expr n m k es rs all i e r before is below h out =
    subst (λ (l : List Expr). LowersAll node_frame n (take (i + 1) es) l k) (sym out)
    (subst (λ (l : List Expr). LowersAll node_frame n l (rs ++ r ∷ []) k) (one_more es i e below is) (expr_more node_frame n m k (take i es) rs e r before h))

pub all_exprs : (n m : ℕ) (es rs : List Expr) (i : ℕ) → length es ≤ i → LowersAll node_frame n (take i es) rs m → LowersAll node_frame n es rs m
all_exprs n m es rs i past h = subst (λ (l : List Expr). LowersAll node_frame n l rs m) (whole es i past) h

pub next_branch : (n m k : ℕ) (bs cs all : List MergeBranch) (i : ℕ) (b : MergeBranch) (tag : Tag) (r : Expr) → LowersBranches node_frame n (take i bs) cs m → b ≡ get_or bs i b → i < length bs →
    tag ≡ b.tag → Lowers node_frame m b.value r k → all ≡ cs ++ branch b.place tag r ∷ [] → LowersBranches node_frame n (take (i + 1) bs) all k
next_branch n m k bs cs all i b tag r before is below same h out =
    subst (λ (l : List MergeBranch). LowersBranches node_frame n (take (i + 1) bs) l k) (sym (out ∙ ap (λ (t : Tag). cs ++ branch b.place t r ∷ []) same))
    (subst (λ (l : List MergeBranch). LowersBranches node_frame n l (cs ++ branch b.place b.tag r ∷ []) k) (one_more bs i b below is)
    (branch_more node_frame n m k (take i bs) cs b.place b.tag b.value r before h))

pub all_branches : (n m : ℕ) (bs cs : List MergeBranch) (i : ℕ) → length bs ≤ i → LowersBranches node_frame n (take i bs) cs m → LowersBranches node_frame n bs cs m
all_branches n m bs cs i past h = subst (λ (l : List MergeBranch). LowersBranches node_frame n l cs m) (whole bs i past) h
