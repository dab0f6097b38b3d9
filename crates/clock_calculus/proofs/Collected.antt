-- What is collected of each form.
use Rattle.std.proofs.Common.{◌≡◌, ℕ, ◌+◌, List, [], ◌∷◌, ◌++◌, length, length-append, refl, sym, ◌∙◌, ap, arith, append-nil, append_assoc, Bool, true, false, if◌then◌else◌, fold}
use Rattle.std.specs.List.{flat_map}
use Rattle.std.proofs.lemmas.List.{take_all}
use Rattle.std.proofs.lemmas.List.Sums.{fold_more}
use Rattle.hept_ast.specs.Texts.{Name, is_in}
use Rattle.hept_ast.specs.Parts.{inside, below}
use Rattle.hept_ast.specs.Clocks.{Term, Base, Of, Inner, On, Condition, equal, read_clock, outer_read, term_of, reading, expression}
use Rattle.hept_ast.specs.declared.tree.Const.{Const}
use Rattle.hept_ast.specs.declared.tree.Expr.{Expr}
use Rattle.hept_ast.specs.declared.tree.MergeBranch.{MergeBranch}
use Rattle.hept_ast.specs.declared.tree.Tag.{Tag}
use Rattle.hept_ast.specs.declared.tree.UnaryOp.{UnaryOp}
use Rattle.hept_ast.specs.declared.tree.BinaryOp.{BinaryOp}
use Rattle.hept_ast.specs.declared.tree.Form.TheVariants as form
use Rattle.hept_ast.specs.declared.tree.Form.{Form}
use Rattle.hept_ast.proofs.Unfolded.{static}
use Rattle.hept_ast.proofs.ConditionsOf.{operand, operand_list, branch_list, conditions-Const, conditions-Var, conditions-Last, conditions-Unary, conditions-Binary, conditions-If, conditions-Fby, conditions-Pre, conditions-Arrow, conditions-When, conditions-Merge, conditions-Call, conditions-AsyncCall, conditions-AsyncConst, conditions-Get}
use Rattle.hept_ast.proofs.FormsOf.{below-Const, below-Var, below-Last, below-Unary, below-Binary, below-If, below-Fby, below-Pre, below-Arrow, below-When, below-Merge, below-Call, below-AsyncCall, below-AsyncConst, below-Get}
use Rattle.clock_calculus.specs.Collecting.{Collection, counted, added, wrote, after_outer, after_reading, after_form, after_operand, after_branch}

-- ---- the clock of each form

pub term-Const : (own : List Name) (n : ℕ) (k : Const) → term_of own n (form.Const k) ≡ Inner n
unfolding static
term-Const own n k = refl

pub term-Unary : (own : List Name) (n : ℕ) (op : UnaryOp) (a : Expr) → term_of own n (form.Unary op a) ≡ Inner n
unfolding static
term-Unary own n op a = refl

pub term-Binary : (own : List Name) (n : ℕ) (op : BinaryOp) (a b : Expr) → term_of own n (form.Binary op a b) ≡ Inner n
unfolding static
term-Binary own n op a b = refl

pub term-If : (own : List Name) (n : ℕ) (c a b : Expr) → term_of own n (form.If c a b) ≡ Inner n
unfolding static
term-If own n c a b = refl

pub term-Fby : (own : List Name) (n : ℕ) (a b : Expr) → term_of own n (form.Fby a b) ≡ Inner n
unfolding static
term-Fby own n a b = refl

pub term-Pre : (own : List Name) (n : ℕ) (a : Expr) → term_of own n (form.Pre a) ≡ Inner n
unfolding static
term-Pre own n a = refl

pub term-Arrow : (own : List Name) (n : ℕ) (a b : Expr) → term_of own n (form.Arrow a b) ≡ Inner n
unfolding static
term-Arrow own n a b = refl

pub term-When : (own : List Name) (n : ℕ) (a : Expr) (tag : Tag) (x : List ℕ) → term_of own n (form.When a tag x) ≡ Inner n
unfolding static
term-When own n a tag x = refl

pub term-Merge : (own : List Name) (n : ℕ) (x : List ℕ) (bs : List MergeBranch) → term_of own n (form.Merge x bs) ≡ Inner n
unfolding static
term-Merge own n x bs = refl

pub term-Call : (own : List Name) (n : ℕ) (f : List ℕ) (args : List Expr) → term_of own n (form.Call f args) ≡ Inner n
unfolding static
term-Call own n f args = refl

pub term-AsyncCall : (own : List Name) (n : ℕ) (q : ℕ) (f : List ℕ) (args : List Expr) → term_of own n (form.AsyncCall q f args) ≡ Inner n
unfolding static
term-AsyncCall own n q f args = refl

pub term-AsyncConst : (own : List Name) (n : ℕ) (k : Const) → term_of own n (form.AsyncConst k) ≡ Inner n
unfolding static
term-AsyncConst own n k = refl

pub term-Get : (own : List Name) (n : ℕ) (a : Expr) → term_of own n (form.Get a) ≡ Inner n
unfolding static
term-Get own n a = refl

pub ruleset terms_of = (term-Const, term-Unary, term-Binary, term-If, term-Fby, term-Pre, term-Arrow, term-When, term-Merge, term-Call, term-AsyncCall, term-AsyncConst, term-Get)

-- ---- collections

pub same_collection : (s t : Collection) → s.variables ≡ t.variables → s.conditions ≡ t.conditions → s.count ≡ t.count → s ≡ t
same_collection s t v e h =
    ap (λ cs. record { conditions = cs; count = s.count; variables = s.variables }) e ∙ ap (λ n. record { conditions = t.conditions; count = n; variables = s.variables }) h
    ∙ ap (λ xs. record { conditions = t.conditions; count = t.count; variables = xs }) v

pub wrote_two : (s : Collection) (cs ds : List Condition) (m n : ℕ) → wrote (wrote s cs m) ds n ≡ wrote s (cs ++ ds) (m + n)
unfolding wrote
wrote_two s cs ds m n = same_collection _ _ refl (append_assoc s.conditions cs ds) (omega arith)

pub wrote_none : (s : Collection) → wrote s [] 0 ≡ s
unfolding wrote
wrote_none s = same_collection _ _ refl (append-nil s.conditions) (omega arith)

pub wrote_counted : (s : Collection) (cs : List Condition) (n : ℕ) → wrote (counted s) cs n ≡ wrote s cs (1 + n)
unfolding wrote counted
wrote_counted s cs n = same_collection _ _ refl refl (omega arith)

pub wrote_same : (s : Collection) (cs ds : List Condition) (m n : ℕ) → cs ≡ ds → m ≡ n → wrote s cs m ≡ wrote s ds n
wrote_same s cs ds m n e h = ap (λ t. wrote s t m) e ∙ ap (λ t. wrote s ds t) h

-- ---- readings

outer_tested : (own : List Name) (s : Collection) (p : ℕ) (x : Name) (t : Bool) → is_in x own ≡ t → after_outer own s p x ≡ (if t then s else added s p (Of x) Base)
unfolding after_outer wrote added
outer_tested own s p x true e = ap (λ t. wrote s (if t then [] else equal p (Of x) Base) 0) e ∙ wrote_none s
outer_tested own s p x false e = ap (λ t. wrote s (if t then [] else equal p (Of x) Base) 0) e ∙ same_collection _ _ refl refl (omega arith)

pub outer_is : (own : List Name) (s : Collection) (p : ℕ) (x : Name) → after_outer own s p x ≡ (if is_in x own then s else added s p (Of x) Base)
outer_is own s p x = outer_tested own s p x (is_in x own) refl

reading_tested : (own : List Name) (s : Collection) (p n : ℕ) (x : Name) (t : Bool) → is_in x own ≡ t
    → after_reading own s p n x ≡ (if t then s else added (added s p (Of x) Base) p (Inner n) Base)
unfolding after_reading wrote added
reading_tested own s p n x true e = ap (λ t. wrote s (if t then [] else equal p (Of x) Base ++ equal p (Inner n) Base) 0) e ∙ wrote_none s
reading_tested own s p n x false e =
    ap (λ t. wrote s (if t then [] else equal p (Of x) Base ++ equal p (Inner n) Base) 0) e ∙ same_collection _ _ refl (sym (append_assoc s.conditions (equal p (Of x) Base) (equal p (Inner n) Base))) (omega arith)

pub reading_is : (own : List Name) (s : Collection) (p n : ℕ) (x : Name) → after_reading own s p n x ≡ (if is_in x own then s else added (added s p (Of x) Base) p (Inner n) Base)
reading_is own s p n x = reading_tested own s p n x (is_in x own) refl

pub ruleset readings = (outer_is, reading_is)

-- ---- operands

pub after_one : (own : List Name) (p : ℕ) (on : Term) (s : Collection) (e : Expr) → after_operand own p on s e ≡ wrote s (operand own p on s.count e) (length (inside e))
unfolding after_form wrote added
after_one own p on s e = same_collection _ _ refl (append_assoc s.conditions (equal p (term_of own s.count e.form) on) (expression own s.count e.place.0 e.form)) (omega arith)

-- an operand after what was written
after_more : (own : List Name) (p : ℕ) (on : Term) (s : Collection) (cs : List Condition) (n : ℕ) (e : Expr)
    → after_operand own p on (wrote s cs n) e ≡ wrote s (cs ++ operand own p on (s.count + n) e) (n + length (inside e))
unfolding wrote
after_more own p on s cs n e = after_one own p on (wrote s cs n) e ∙ wrote_two s cs (operand own p on (s.count + n) e) n (length (inside e))

after_two : (own : List Name) (p : ℕ) (on : Term) (s : Collection) (a b : Expr)
    → after_operand own p on (after_operand own p on s a) b ≡ wrote s (operand own p on s.count a ++ operand own p on (s.count + length (inside a)) b) (length (inside a) + length (inside b))
after_two own p on s a b = ap (λ t. after_operand own p on t b) (after_one own p on s a) ∙ after_more own p on s (operand own p on s.count a) (length (inside a)) b

after_three : (own : List Name) (p : ℕ) (on : Term) (s : Collection) (c a b : Expr)
    → after_operand own p on (after_operand own p on (after_operand own p on s c) a) b
    ≡ wrote s (operand own p on s.count c ++ operand own p on (s.count + length (inside c)) a ++ operand own p on (s.count + (length (inside c) + length (inside a))) b) (length (inside c) + length (inside a) + length (inside b))
after_three own p on s c a b =
    ap (λ t. after_operand own p on t b) (after_two own p on s c a)
    ∙ after_more own p on s (operand own p on s.count c ++ operand own p on (s.count + length (inside c)) a) (length (inside c) + length (inside a)) b

-- a list that was written after something
pub list_joined : {X : Type 0} (s : Collection) (cs : List Condition) (rest : ℕ → List Condition) (xs ys : List X)
    → wrote (wrote s cs (length xs)) (rest ((wrote s cs (length xs)).count)) (length ys) ≡ wrote s (cs ++ rest (s.count + length xs)) (length (xs ++ ys))
unfolding wrote
list_joined s cs rest xs ys = wrote_two s cs (rest (s.count + length xs)) (length xs) (length ys) ∙ wrote_same s _ _ _ _ refl (sym (length-append xs ys))

after_list : (own : List Name) (p : ℕ) (on : Term) (s : Collection) (es : List Expr)
    → fold (after_operand own p on) s es ≡ wrote s (operand_list own p on s.count es) (length (flat_map inside es))
after_list own p on s [] = sym (wrote_none s)
after_list own p on s (e ∷ es) =
    after_list own p on (after_operand own p on s e) es
    ∙ ap (λ t. wrote t (operand_list own p on t.count es) (length (flat_map inside es))) (after_one own p on s e)
    ∙ list_joined s (operand own p on s.count e) (λ m. operand_list own p on m es) (inside e) (flat_map inside es)

after_branch_list : (own : List Name) (p : ℕ) (x : Name) (s : Collection) (bs : List MergeBranch)
    → fold (after_branch own p x) s bs ≡ wrote s (branch_list own p x s.count bs) (length (flat_map (λ b. inside b.value) bs))
after_branch_list own p x s [] = sym (wrote_none s)
after_branch_list own p x s (b ∷ bs) =
    after_branch_list own p x (after_branch own p x s b) bs
    ∙ ap (λ t. wrote t (branch_list own p x t.count bs) (length (flat_map (λ b. inside b.value) bs))) (after_one own p (On (read_clock own x) b.tag x) s b.value)
    ∙ list_joined s (operand own p (On (read_clock own x) b.tag x) s.count b.value) (λ m. branch_list own p x m bs) (inside b.value) (flat_map (λ b. inside b.value) bs)

-- ---- forms

-- what a form gives, by its conditions and what is below it
pub form_is : (own : List Name) (s : Collection) (p : ℕ) (f : Form) (cs : List Condition) (es : List Expr) → expression own s.count p f ≡ cs → below f ≡ es → after_form own s p f ≡ wrote (counted s) cs (length es)
unfolding after_form
form_is own s p f cs es e h = wrote_same s _ _ _ _ e (ap (λ t. 1 + length t) h) ∙ sym (wrote_counted s cs (length es))

pub next_count : (s : Collection) → (counted s).count ≡ s.count + 1
unfolding counted
next_count s = refl

-- operands after the number of their construct
pub one_next : (own : List Name) (p : ℕ) (on : Term) (s : Collection) (a : Expr) → wrote (counted s) (operand own p on (s.count + 1) a) (length (inside a)) ≡ after_operand own p on (counted s) a
one_next own p on s a = ap (λ n. wrote (counted s) (operand own p on n a) (length (inside a))) (sym (next_count s)) ∙ sym (after_one own p on (counted s) a)

two_next : (own : List Name) (p : ℕ) (on : Term) (s : Collection) (a b : Expr)
    → wrote (counted s) (operand own p on (s.count + 1) a ++ operand own p on (s.count + 1 + length (inside a)) b) (length (inside a ++ inside b)) ≡ after_operand own p on (after_operand own p on (counted s) a) b
two_next own p on s a b =
    ap (λ n. wrote (counted s) (operand own p on n a ++ operand own p on (n + length (inside a)) b) (length (inside a ++ inside b))) (sym (next_count s))
    ∙ wrote_same (counted s) _ _ _ _ refl (length-append (inside a) (inside b)) ∙ sym (after_two own p on (counted s) a b)

three_next : (own : List Name) (p : ℕ) (on : Term) (s : Collection) (c a b : Expr)
    → wrote (counted s) (operand own p on (s.count + 1) c ++ operand own p on (s.count + 1 + length (inside c)) a ++ operand own p on (s.count + 1 + length (inside c) + length (inside a)) b) (length (inside c ++ inside a ++ inside b))
    ≡ after_operand own p on (after_operand own p on (after_operand own p on (counted s) c) a) b
three_next own p on s c a b =
    let n : s.count + 1 + length (inside c) + length (inside a) ≡ s.count + 1 + (length (inside c) + length (inside a)) = omega arith in
    let l : length (inside c ++ inside a ++ inside b) ≡ length (inside c) + length (inside a) + length (inside b) = omega (arith, length-append (inside c ++ inside a) (inside b), length-append (inside c) (inside a)) in
    wrote_same (counted s) _ _ _ _ (ap (λ t. operand own p on (s.count + 1) c ++ operand own p on (s.count + 1 + length (inside c)) a ++ operand own p on t b) n) l
    ∙ ap (λ n. wrote (counted s) (operand own p on n c ++ operand own p on (n + length (inside c)) a ++ operand own p on (n + (length (inside c) + length (inside a))) b) (length (inside c) + length (inside a) + length (inside b))) (sym (next_count s))
    ∙ sym (after_three own p on (counted s) c a b)

pub added_is : (s : Collection) (p : ℕ) (l r : Term) → added s p l r ≡ wrote s (equal p l r) 0
unfolding added wrote
added_is s p l r = same_collection _ _ refl refl (omega arith)

pub after-Const : (own : List Name) (s : Collection) (p : ℕ) (k : Const) → after_form own s p (form.Const k) ≡ counted s
after-Const own s p k = form_is own s p _ [] [] (conditions-Const own s.count p k) (below-Const k) ∙ wrote_none (counted s)

pub after-AsyncConst : (own : List Name) (s : Collection) (p : ℕ) (k : Const) → after_form own s p (form.AsyncConst k) ≡ counted s
after-AsyncConst own s p k = form_is own s p _ [] [] (conditions-AsyncConst own s.count p k) (below-AsyncConst k) ∙ wrote_none (counted s)

pub after-Var : (own : List Name) (s : Collection) (p : ℕ) (x : List ℕ) → after_form own s p (form.Var x) ≡ after_reading own (counted s) p s.count x
unfolding after_reading
after-Var own s p x = form_is own s p _ (reading own p s.count x) [] (conditions-Var own s.count p x) (below-Var x)

pub after-Last : (own : List Name) (s : Collection) (p : ℕ) (x : List ℕ) → after_form own s p (form.Last x) ≡ after_reading own (counted s) p s.count x
unfolding after_reading
after-Last own s p x = form_is own s p _ (reading own p s.count x) [] (conditions-Last own s.count p x) (below-Last x)

pub after-Unary : (own : List Name) (s : Collection) (p : ℕ) (op : UnaryOp) (a : Expr) → after_form own s p (form.Unary op a) ≡ after_operand own p (Inner s.count) (counted s) a
after-Unary own s p op a = form_is own s p _ _ _ (conditions-Unary own s.count p op a) (below-Unary op a) ∙ one_next own p (Inner s.count) s a

pub after-Pre : (own : List Name) (s : Collection) (p : ℕ) (a : Expr) → after_form own s p (form.Pre a) ≡ after_operand own p (Inner s.count) (counted s) a
after-Pre own s p a = form_is own s p _ _ _ (conditions-Pre own s.count p a) (below-Pre a) ∙ one_next own p (Inner s.count) s a

pub after-Get : (own : List Name) (s : Collection) (p : ℕ) (a : Expr) → after_form own s p (form.Get a) ≡ after_operand own p (Inner s.count) (counted s) a
after-Get own s p a = form_is own s p _ _ _ (conditions-Get own s.count p a) (below-Get a) ∙ one_next own p (Inner s.count) s a

pub after-Binary : (own : List Name) (s : Collection) (p : ℕ) (op : BinaryOp) (a b : Expr)
    → after_form own s p (form.Binary op a b) ≡ after_operand own p (Inner s.count) (after_operand own p (Inner s.count) (counted s) a) b
after-Binary own s p op a b = form_is own s p _ _ _ (conditions-Binary own s.count p op a b) (below-Binary op a b) ∙ two_next own p (Inner s.count) s a b

pub after-Fby : (own : List Name) (s : Collection) (p : ℕ) (a b : Expr) → after_form own s p (form.Fby a b) ≡ after_operand own p (Inner s.count) (after_operand own p (Inner s.count) (counted s) a) b
after-Fby own s p a b = form_is own s p _ _ _ (conditions-Fby own s.count p a b) (below-Fby a b) ∙ two_next own p (Inner s.count) s a b

pub after-Arrow : (own : List Name) (s : Collection) (p : ℕ) (a b : Expr) → after_form own s p (form.Arrow a b) ≡ after_operand own p (Inner s.count) (after_operand own p (Inner s.count) (counted s) a) b
after-Arrow own s p a b = form_is own s p _ _ _ (conditions-Arrow own s.count p a b) (below-Arrow a b) ∙ two_next own p (Inner s.count) s a b

pub after-If : (own : List Name) (s : Collection) (p : ℕ) (c a b : Expr)
    → after_form own s p (form.If c a b) ≡ after_operand own p (Inner s.count) (after_operand own p (Inner s.count) (after_operand own p (Inner s.count) (counted s) c) a) b
after-If own s p c a b = form_is own s p _ _ _ (conditions-If own s.count p c a b) (below-If c a b) ∙ three_next own p (Inner s.count) s c a b

pub after-When : (own : List Name) (s : Collection) (p : ℕ) (a : Expr) (tag : Tag) (x : List ℕ)
    → after_form own s p (form.When a tag x) ≡ after_outer own (added (after_operand own p (read_clock own x) (counted s) a) p (Inner s.count) (On (read_clock own x) tag x)) p x
unfolding after_outer
after-When own s p a tag x =
    let on = read_clock own x in
    let eq = equal p (Inner s.count) (On on tag x) in
    form_is own s p _ _ _ (conditions-When own s.count p a tag x) (below-When a tag x)
    ∙ wrote_same (counted s) _ _ _ _ refl (omega arith)
    ∙ sym (wrote_two (counted s) (operand own p on (s.count + 1) a ++ eq) (outer_read own p x) (length (inside a) + 0) 0)
    ∙ ap (λ t. wrote t (outer_read own p x) 0) (sym (wrote_two (counted s) (operand own p on (s.count + 1) a) eq (length (inside a)) 0) ∙ ap (λ t. wrote t eq 0) (one_next own p on s a) ∙ sym (added_is (after_operand own p on (counted s) a) p (Inner s.count) (On on tag x)))

pub after-Call : (own : List Name) (s : Collection) (p : ℕ) (f : List ℕ) (args : List Expr) → after_form own s p (form.Call f args) ≡ fold (after_operand own p (Inner s.count)) (counted s) args
after-Call own s p f args =
    form_is own s p _ _ _ (conditions-Call own s.count p f args) (below-Call f args)
    ∙ ap (λ n. wrote (counted s) (operand_list own p (Inner s.count) n args) (length (flat_map inside args))) (sym (next_count s)) ∙ sym (after_list own p (Inner s.count) (counted s) args)

pub after-AsyncCall : (own : List Name) (s : Collection) (p : ℕ) (q : ℕ) (f : List ℕ) (args : List Expr) → after_form own s p (form.AsyncCall q f args) ≡ fold (after_operand own p (Inner s.count)) (counted s) args
after-AsyncCall own s p q f args =
    form_is own s p _ _ _ (conditions-AsyncCall own s.count p q f args) (below-AsyncCall q f args)
    ∙ ap (λ n. wrote (counted s) (operand_list own p (Inner s.count) n args) (length (flat_map inside args))) (sym (next_count s)) ∙ sym (after_list own p (Inner s.count) (counted s) args)

written_count : (s : Collection) (cs ds : List Condition) → (wrote (wrote s cs 0) ds 0).count ≡ s.count
unfolding wrote
written_count s cs ds = omega arith

pub after-Merge : (own : List Name) (s : Collection) (p : ℕ) (x : List ℕ) (bs : List MergeBranch)
    → after_form own s p (form.Merge x bs) ≡ fold (after_branch own p x) (after_outer own (added (counted s) p (Inner s.count) (read_clock own x)) p x) bs
unfolding after_outer
after-Merge own s p x bs =
    let on = read_clock own x in
    let eq = equal p (Inner s.count) on in
    let t = wrote (wrote (counted s) eq 0) (outer_read own p x) 0 in
    let n : s.count + 1 ≡ t.count = sym (written_count (counted s) eq (outer_read own p x) ∙ next_count s) in
    form_is own s p _ _ _ (conditions-Merge own s.count p x bs) (below-Merge x bs)
    ∙ ap (λ m. wrote (counted s) (eq ++ outer_read own p x ++ branch_list own p x m bs) (length (flat_map (λ b. inside b.value) bs))) n
    ∙ wrote_same (counted s) _ _ _ _ refl (omega arith)
    ∙ sym (wrote_two (counted s) (eq ++ outer_read own p x) (branch_list own p x t.count bs) (0 + 0) (length (flat_map (λ b. inside b.value) bs)))
    ∙ ap (λ u. wrote u (branch_list own p x t.count bs) (length (flat_map (λ b. inside b.value) bs))) (sym (wrote_two (counted s) eq (outer_read own p x) 0 0))
    ∙ sym (after_branch_list own p x t bs)
    ∙ ap (λ u. fold (after_branch own p x) (wrote u (outer_read own p x) 0) bs) (sym (added_is (counted s) p (Inner s.count) on))

pub ruleset forms = (fold_more, take_all, after-Const, after-Var, after-Last, after-Unary, after-Binary, after-If, after-Fby, after-Pre, after-Arrow, after-When, after-Merge, after-Call, after-AsyncCall, after-AsyncConst, after-Get)
