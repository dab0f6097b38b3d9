-- What is listed of an expression and of all inside it, and what becomes of that by erasure.
use Rattle.std.proofs.Common.{◌≡◌, ℕ, List, [], ◌∷◌, ◌++◌, map, refl, sym, ap, ◌∙◌}
use Rattle.std.specs.List.{flat_map}
use Rattle.hept_ast.specs.Texts.{Name}
use Rattle.hept_ast.specs.Parts.{inside, below}
use Rattle.hept_ast.specs.Erasure.{erased_expr, erased_branch}
use Rattle.hept_ast.specs.declared.name.Place.{Place}
use Rattle.hept_ast.specs.declared.tree.Const.{Const}
use Rattle.hept_ast.specs.declared.tree.Tag.{Tag}
use Rattle.hept_ast.specs.declared.tree.UnaryOp.{UnaryOp}
use Rattle.hept_ast.specs.declared.tree.BinaryOp.{BinaryOp}
use Rattle.hept_ast.specs.declared.tree.Expr.{Expr}
use Rattle.hept_ast.specs.declared.tree.MergeBranch.{MergeBranch}
use Rattle.hept_ast.specs.declared.tree.Form.{Form}
use Rattle.hept_ast.specs.declared.tree.Form.TheVariants as form
use Rattle.hept_ast.proofs.FormsOf.{below-Const, below-Var, below-Last, below-Unary, below-Binary, below-If, below-Fby, below-Pre, below-Arrow, below-When, below-Merge, below-Call, below-AsyncCall, below-AsyncConst, below-Get}
use Rattle.erased_rules.proofs.Lists.{nil_left, nil_right, nil_both, flat_append, flat_flat}
use Rattle.erased_rules.proofs.ByForms.{Each, at, Cases, by_forms, erased-Const, erased-Var, erased-Last, erased-Unary, erased-Binary, erased-If, erased-Fby, erased-Pre, erased-Arrow, erased-When, erased-Merge, erased-Call, erased-AsyncCall, erased-AsyncConst, erased-Get}

-- what is listed of an expression by its place and form
abbrev pub own_of : {A : Type 0} → (ℕ → Form → List A) → Expr → List A
own_of o e = o e.place.0 e.form

-- and of all inside it
abbrev pub total : {A : Type 0} → (ℕ → Form → List A) → Expr → List A
total o e = flat_map (own_of o) (inside e)

-- and of all below a form
abbrev pub lower : {A : Type 0} → (ℕ → Form → List A) → Form → List A
lower o f = flat_map (own_of o) (below f)

module _ {A : Type 0} (o : ℕ → Form → List A) where
  two : (a b : Expr) → flat_map (own_of o) (inside a ++ inside b) ≡ total o a ++ total o b
  two a b = flat_append (own_of o) (inside a) (inside b)

  pub lower-Const : (k : Const) → lower o (form.Const k) ≡ []
  lower-Const k = ap (flat_map (own_of o)) (below-Const k)

  pub lower-Var : (x : Name) → lower o (form.Var x) ≡ []
  lower-Var x = ap (flat_map (own_of o)) (below-Var x)

  pub lower-Last : (x : Name) → lower o (form.Last x) ≡ []
  lower-Last x = ap (flat_map (own_of o)) (below-Last x)

  pub lower-Unary : (op : UnaryOp) (a : Expr) → lower o (form.Unary op a) ≡ total o a
  lower-Unary op a = ap (flat_map (own_of o)) (below-Unary op a)

  pub lower-Binary : (op : BinaryOp) (a b : Expr) → lower o (form.Binary op a b) ≡ total o a ++ total o b
  lower-Binary op a b = ap (flat_map (own_of o)) (below-Binary op a b) ∙ two a b

  pub lower-If : (c a b : Expr) → lower o (form.If c a b) ≡ total o c ++ total o a ++ total o b
  lower-If c a b = ap (flat_map (own_of o)) (below-If c a b) ∙ flat_append (own_of o) (inside c ++ inside a) (inside b) ∙ ap (λ (l : List A). l ++ total o b) (two c a)

  pub lower-Fby : (a b : Expr) → lower o (form.Fby a b) ≡ total o a ++ total o b
  lower-Fby a b = ap (flat_map (own_of o)) (below-Fby a b) ∙ two a b

  pub lower-Pre : (a : Expr) → lower o (form.Pre a) ≡ total o a
  lower-Pre a = ap (flat_map (own_of o)) (below-Pre a)

  pub lower-Arrow : (a b : Expr) → lower o (form.Arrow a b) ≡ total o a ++ total o b
  lower-Arrow a b = ap (flat_map (own_of o)) (below-Arrow a b) ∙ two a b

  pub lower-When : (a : Expr) (tag : Tag) (x : Name) → lower o (form.When a tag x) ≡ total o a
  lower-When a tag x = ap (flat_map (own_of o)) (below-When a tag x)

  pub lower-Merge : (x : Name) (bs : List MergeBranch) → lower o (form.Merge x bs) ≡ flat_map (λ c. total o c.value) bs
  lower-Merge x bs = ap (flat_map (own_of o)) (below-Merge x bs) ∙ flat_flat (own_of o) (λ c. inside c.value) bs

  pub lower-Call : (f : Name) (args : List Expr) → lower o (form.Call f args) ≡ flat_map (total o) args
  lower-Call f args = ap (flat_map (own_of o)) (below-Call f args) ∙ flat_flat (own_of o) inside args

  pub lower-AsyncCall : (q : ℕ) (f : Name) (args : List Expr) → lower o (form.AsyncCall q f args) ≡ flat_map (total o) args
  lower-AsyncCall q f args = ap (flat_map (own_of o)) (below-AsyncCall q f args) ∙ flat_flat (own_of o) inside args

  pub lower-AsyncConst : (k : Const) → lower o (form.AsyncConst k) ≡ []
  lower-AsyncConst k = ap (flat_map (own_of o)) (below-AsyncConst k)

  pub lower-Get : (a : Expr) → lower o (form.Get a) ≡ total o a
  lower-Get a = ap (flat_map (own_of o)) (below-Get a)

-- ---- what is empty

-- a list of each form is empty where another list of the form that it was is empty
pub record Step {A B : Type 0} (o : ℕ → Form → List A) (o' : ℕ → Form → List B) : Type 0 where
  pub on_const : (p : ℕ) (k : Const) → o p (form.Const k) ≡ [] → o' p (form.Const k) ≡ []
  pub on_var : (p : ℕ) (x : Name) → o p (form.Var x) ≡ [] → o' p (form.Var x) ≡ []
  pub on_last : (p : ℕ) (x : Name) → o p (form.Last x) ≡ [] → o' p (form.Last x) ≡ []
  pub on_unary : (p : ℕ) (op : UnaryOp) (a : Expr) → o p (form.Unary op a) ≡ [] → o' p (form.Unary op (erased_expr a)) ≡ []
  pub on_binary : (p : ℕ) (op : BinaryOp) (a b : Expr) → o p (form.Binary op a b) ≡ [] → o' p (form.Binary op (erased_expr a) (erased_expr b)) ≡ []
  pub on_if : (p : ℕ) (c a b : Expr) → o p (form.If c a b) ≡ [] → o' p (form.If (erased_expr c) (erased_expr a) (erased_expr b)) ≡ []
  pub on_fby : (p : ℕ) (a b : Expr) → o p (form.Fby a b) ≡ [] → o' p (form.Fby (erased_expr a) (erased_expr b)) ≡ []
  pub on_pre : (p : ℕ) (a : Expr) → o p (form.Pre a) ≡ [] → o' p (form.Pre (erased_expr a)) ≡ []
  pub on_arrow : (p : ℕ) (a b : Expr) → o p (form.Arrow a b) ≡ [] → o' p (form.Arrow (erased_expr a) (erased_expr b)) ≡ []
  pub on_when : (p : ℕ) (a : Expr) (tag : Tag) (x : Name) → o p (form.When a tag x) ≡ [] → o' p (form.When (erased_expr a) tag x) ≡ []
  pub on_merge : (p : ℕ) (x : Name) (bs : List MergeBranch) → o p (form.Merge x bs) ≡ [] → o' p (form.Merge x (map erased_branch bs)) ≡ []
  pub on_call : (p : ℕ) (f : Name) (args : List Expr) → o p (form.Call f args) ≡ [] → o' p (form.Call f (map erased_expr args)) ≡ []
  pub on_async : (p : ℕ) (q : ℕ) (f : Name) (args : List Expr) → o p (form.AsyncCall q f args) ≡ [] → o' p (form.Call f (map erased_expr args)) ≡ []
  pub on_ready : (p : ℕ) (k : Const) → o p (form.AsyncConst k) ≡ [] → o' p (form.Const k) ≡ []

module _ {A B : Type 0} (o : ℕ → Form → List A) (o' : ℕ → Form → List B) (s : Step o o') where
  abbrev Nil : Expr → Type 0
  Nil e = total o e ≡ [] → total o' (erased_expr e) ≡ []

  whole : (p : Place) (f f' : Form) → erased_expr (at p f) ≡ at p f' → o' p.0 f' ≡ [] → lower o' f' ≡ [] → total o' (erased_expr (at p f)) ≡ []
  whole p f f' is h l = ap (total o') is ∙ nil_both (o' p.0 f') (lower o' f') h l

  all_nil : (args : List Expr) → Each Nil args → flat_map (total o) args ≡ [] → flat_map (total o') (map erased_expr args) ≡ []
  all_nil [] hs n = refl
  all_nil (e ∷ es) hs n =
      nil_both (total o' (erased_expr e)) (flat_map (total o') (map erased_expr es)) (hs.0 (nil_left (total o e) (flat_map (total o) es) n)) (all_nil es hs.1 (nil_right (total o e) (flat_map (total o) es) n))

  branches_nil : (bs : List MergeBranch) → Each (λ b. Nil b.value) bs → flat_map (λ b. total o b.value) bs ≡ [] → flat_map (λ b. total o' b.value) (map erased_branch bs) ≡ []
  branches_nil [] hs n = refl
  branches_nil (b ∷ bs) hs n =
      nil_both (total o' (erased_expr b.value)) (flat_map (λ c. total o' c.value) (map erased_branch bs)) (hs.0 (nil_left (total o b.value) (flat_map (λ c. total o c.value) bs) n))
      (branches_nil bs hs.1 (nil_right (total o b.value) (flat_map (λ c. total o c.value) bs) n))

  cases : Cases Nil
  cases = record {
    of_const = λ p k n. whole p (form.Const k) (form.Const k) (erased-Const p k) (s.on_const p.0 k (nil_left (o p.0 (form.Const k)) (lower o (form.Const k)) n)) (lower-Const o' k);
    of_var = λ p x n. whole p (form.Var x) (form.Var x) (erased-Var p x) (s.on_var p.0 x (nil_left (o p.0 (form.Var x)) (lower o (form.Var x)) n)) (lower-Var o' x);
    of_last = λ p x n. whole p (form.Last x) (form.Last x) (erased-Last p x) (s.on_last p.0 x (nil_left (o p.0 (form.Last x)) (lower o (form.Last x)) n)) (lower-Last o' x);
    of_unary = λ p op a h n. whole p (form.Unary op a) (form.Unary op (erased_expr a)) (erased-Unary p op a) (s.on_unary p.0 op a (nil_left (o p.0 (form.Unary op a)) (lower o (form.Unary op a)) n)) (lower-Unary o' op (erased_expr a) ∙ h (sym (lower-Unary o op a) ∙ nil_right (o p.0 (form.Unary op a)) (lower o (form.Unary op a)) n));
    of_binary = λ p op a b h k n.
        let t : total o a ++ total o b ≡ [] = sym (lower-Binary o op a b) ∙ nil_right (o p.0 (form.Binary op a b)) (lower o (form.Binary op a b)) n in
        whole p (form.Binary op a b) (form.Binary op (erased_expr a) (erased_expr b)) (erased-Binary p op a b) (s.on_binary p.0 op a b (nil_left (o p.0 (form.Binary op a b)) (lower o (form.Binary op a b)) n)) (lower-Binary o' op (erased_expr a) (erased_expr b) ∙ nil_both (total o' (erased_expr a)) (total o' (erased_expr b)) (h (nil_left (total o a) (total o b) t)) (k (nil_right (total o a) (total o b) t)));
    of_if = λ p c a b g h k n.
        let t : total o c ++ total o a ++ total o b ≡ [] = sym (lower-If o c a b) ∙ nil_right (o p.0 (form.If c a b)) (lower o (form.If c a b)) n in
        let u : total o c ++ total o a ≡ [] = nil_left (total o c ++ total o a) (total o b) t in
        whole p (form.If c a b) (form.If (erased_expr c) (erased_expr a) (erased_expr b)) (erased-If p c a b) (s.on_if p.0 c a b (nil_left (o p.0 (form.If c a b)) (lower o (form.If c a b)) n)) (lower-If o' (erased_expr c) (erased_expr a) (erased_expr b) ∙ nil_both (total o' (erased_expr c) ++ total o' (erased_expr a)) (total o' (erased_expr b)) (nil_both (total o' (erased_expr c)) (total o' (erased_expr a)) (g (nil_left (total o c) (total o a) u)) (h (nil_right (total o c) (total o a) u))) (k (nil_right (total o c ++ total o a) (total o b) t)));
    of_fby = λ p a b h k n.
        let t : total o a ++ total o b ≡ [] = sym (lower-Fby o a b) ∙ nil_right (o p.0 (form.Fby a b)) (lower o (form.Fby a b)) n in
        whole p (form.Fby a b) (form.Fby (erased_expr a) (erased_expr b)) (erased-Fby p a b) (s.on_fby p.0 a b (nil_left (o p.0 (form.Fby a b)) (lower o (form.Fby a b)) n)) (lower-Fby o' (erased_expr a) (erased_expr b) ∙ nil_both (total o' (erased_expr a)) (total o' (erased_expr b)) (h (nil_left (total o a) (total o b) t)) (k (nil_right (total o a) (total o b) t)));
    of_pre = λ p a h n. whole p (form.Pre a) (form.Pre (erased_expr a)) (erased-Pre p a) (s.on_pre p.0 a (nil_left (o p.0 (form.Pre a)) (lower o (form.Pre a)) n)) (lower-Pre o' (erased_expr a) ∙ h (sym (lower-Pre o a) ∙ nil_right (o p.0 (form.Pre a)) (lower o (form.Pre a)) n));
    of_arrow = λ p a b h k n.
        let t : total o a ++ total o b ≡ [] = sym (lower-Arrow o a b) ∙ nil_right (o p.0 (form.Arrow a b)) (lower o (form.Arrow a b)) n in
        whole p (form.Arrow a b) (form.Arrow (erased_expr a) (erased_expr b)) (erased-Arrow p a b) (s.on_arrow p.0 a b (nil_left (o p.0 (form.Arrow a b)) (lower o (form.Arrow a b)) n)) (lower-Arrow o' (erased_expr a) (erased_expr b) ∙ nil_both (total o' (erased_expr a)) (total o' (erased_expr b)) (h (nil_left (total o a) (total o b) t)) (k (nil_right (total o a) (total o b) t)));
    of_when = λ p a tag x h n. whole p (form.When a tag x) (form.When (erased_expr a) tag x) (erased-When p a tag x) (s.on_when p.0 a tag x (nil_left (o p.0 (form.When a tag x)) (lower o (form.When a tag x)) n)) (lower-When o' (erased_expr a) tag x ∙ h (sym (lower-When o a tag x) ∙ nil_right (o p.0 (form.When a tag x)) (lower o (form.When a tag x)) n));
    of_merge = λ p x bs hs n. whole p (form.Merge x bs) (form.Merge x (map erased_branch bs)) (erased-Merge p x bs) (s.on_merge p.0 x bs (nil_left (o p.0 (form.Merge x bs)) (lower o (form.Merge x bs)) n)) (lower-Merge o' x (map erased_branch bs) ∙ branches_nil bs hs (sym (lower-Merge o x bs) ∙ nil_right (o p.0 (form.Merge x bs)) (lower o (form.Merge x bs)) n));
    of_call = λ p f args hs n. whole p (form.Call f args) (form.Call f (map erased_expr args)) (erased-Call p f args) (s.on_call p.0 f args (nil_left (o p.0 (form.Call f args)) (lower o (form.Call f args)) n)) (lower-Call o' f (map erased_expr args) ∙ all_nil args hs (sym (lower-Call o f args) ∙ nil_right (o p.0 (form.Call f args)) (lower o (form.Call f args)) n));
    of_async = λ p q f args hs n. whole p (form.AsyncCall q f args) (form.Call f (map erased_expr args)) (erased-AsyncCall p q f args) (s.on_async p.0 q f args (nil_left (o p.0 (form.AsyncCall q f args)) (lower o (form.AsyncCall q f args)) n)) (lower-Call o' f (map erased_expr args) ∙ all_nil args hs (sym (lower-AsyncCall o q f args) ∙ nil_right (o p.0 (form.AsyncCall q f args)) (lower o (form.AsyncCall q f args)) n));
    of_ready = λ p k n. whole p (form.AsyncConst k) (form.Const k) (erased-AsyncConst p k) (s.on_ready p.0 k (nil_left (o p.0 (form.AsyncConst k)) (lower o (form.AsyncConst k)) n)) (lower-Const o' k);
    of_get = λ p a h n. ap (total o') (erased-Get p a) ∙ h (sym (lower-Get o a) ∙ nil_right (o p.0 (form.Get a)) (lower o (form.Get a)) n);
  }

  pub total_nil : (e : Expr) → total o e ≡ [] → total o' (erased_expr e) ≡ []
  total_nil e = by_forms Nil cases e

-- ---- what is the same

-- a list of each form is that of the form that it was
pub record Alike {A : Type 0} (o : ℕ → Form → List A) : Type 0 where
  pub on_unary : (p : ℕ) (op : UnaryOp) (a : Expr) → o p (form.Unary op (erased_expr a)) ≡ o p (form.Unary op a)
  pub on_binary : (p : ℕ) (op : BinaryOp) (a b : Expr) → o p (form.Binary op (erased_expr a) (erased_expr b)) ≡ o p (form.Binary op a b)
  pub on_if : (p : ℕ) (c a b : Expr) → o p (form.If (erased_expr c) (erased_expr a) (erased_expr b)) ≡ o p (form.If c a b)
  pub on_fby : (p : ℕ) (a b : Expr) → o p (form.Fby (erased_expr a) (erased_expr b)) ≡ o p (form.Fby a b)
  pub on_pre : (p : ℕ) (a : Expr) → o p (form.Pre (erased_expr a)) ≡ o p (form.Pre a)
  pub on_arrow : (p : ℕ) (a b : Expr) → o p (form.Arrow (erased_expr a) (erased_expr b)) ≡ o p (form.Arrow a b)
  pub on_when : (p : ℕ) (a : Expr) (tag : Tag) (x : Name) → o p (form.When (erased_expr a) tag x) ≡ o p (form.When a tag x)
  pub on_merge : (p : ℕ) (x : Name) (bs : List MergeBranch) → o p (form.Merge x (map erased_branch bs)) ≡ o p (form.Merge x bs)
  pub on_call : (p : ℕ) (f : Name) (args : List Expr) → o p (form.Call f (map erased_expr args)) ≡ o p (form.Call f args)
  pub on_async : (p : ℕ) (q : ℕ) (f : Name) (args : List Expr) → o p (form.Call f (map erased_expr args)) ≡ o p (form.AsyncCall q f args)
  pub on_ready : (p : ℕ) (k : Const) → o p (form.Const k) ≡ o p (form.AsyncConst k)
  pub on_get : (p : ℕ) (a : Expr) → o p (form.Get a) ≡ []

module _ {A : Type 0} (o : ℕ → Form → List A) (s : Alike o) where
  abbrev Same : Expr → Type 0
  Same e = total o (erased_expr e) ≡ total o e

  same_whole : (p : Place) (f f' : Form) → erased_expr (at p f) ≡ at p f' → o p.0 f' ≡ o p.0 f → lower o f' ≡ lower o f → total o (erased_expr (at p f)) ≡ total o (at p f)
  same_whole p f f' is h l = ap (total o) is ∙ ap (λ (x : List A). x ++ lower o f') h ∙ ap (λ (x : List A). o p.0 f ++ x) l

  all_same : (args : List Expr) → Each Same args → flat_map (total o) (map erased_expr args) ≡ flat_map (total o) args
  all_same [] hs = refl
  all_same (e ∷ es) hs = ap (λ (x : List A). x ++ flat_map (total o) (map erased_expr es)) hs.0 ∙ ap (λ (x : List A). total o e ++ x) (all_same es hs.1)

  branches_same : (bs : List MergeBranch) → Each (λ b. Same b.value) bs → flat_map (λ b. total o b.value) (map erased_branch bs) ≡ flat_map (λ b. total o b.value) bs
  branches_same [] hs = refl
  branches_same (b ∷ bs) hs = ap (λ (x : List A). x ++ flat_map (λ c. total o c.value) (map erased_branch bs)) hs.0 ∙ ap (λ (x : List A). total o b.value ++ x) (branches_same bs hs.1)

  same_cases : Cases Same
  same_cases = record {
    of_const = λ p k. same_whole p (form.Const k) (form.Const k) (erased-Const p k) refl (lower-Const o k ∙ sym (lower-Const o k));
    of_var = λ p x. same_whole p (form.Var x) (form.Var x) (erased-Var p x) refl (lower-Var o x ∙ sym (lower-Var o x));
    of_last = λ p x. same_whole p (form.Last x) (form.Last x) (erased-Last p x) refl (lower-Last o x ∙ sym (lower-Last o x));
    of_unary = λ p op a h. same_whole p (form.Unary op a) (form.Unary op (erased_expr a)) (erased-Unary p op a) (s.on_unary p.0 op a) (lower-Unary o op (erased_expr a) ∙ h ∙ sym (lower-Unary o op a));
    of_binary = λ p op a b h k. same_whole p (form.Binary op a b) (form.Binary op (erased_expr a) (erased_expr b)) (erased-Binary p op a b) (s.on_binary p.0 op a b) (lower-Binary o op (erased_expr a) (erased_expr b) ∙ ap (λ (x : List A). x ++ total o (erased_expr b)) h ∙ ap (λ (x : List A). total o a ++ x) k ∙ sym (lower-Binary o op a b));
    of_if = λ p c a b g h k. same_whole p (form.If c a b) (form.If (erased_expr c) (erased_expr a) (erased_expr b)) (erased-If p c a b) (s.on_if p.0 c a b) (lower-If o (erased_expr c) (erased_expr a) (erased_expr b) ∙ ap (λ (x : List A). x ++ total o (erased_expr a) ++ total o (erased_expr b)) g ∙ ap (λ (x : List A). total o c ++ x ++ total o (erased_expr b)) h ∙ ap (λ (x : List A). total o c ++ total o a ++ x) k ∙ sym (lower-If o c a b));
    of_fby = λ p a b h k. same_whole p (form.Fby a b) (form.Fby (erased_expr a) (erased_expr b)) (erased-Fby p a b) (s.on_fby p.0 a b) (lower-Fby o (erased_expr a) (erased_expr b) ∙ ap (λ (x : List A). x ++ total o (erased_expr b)) h ∙ ap (λ (x : List A). total o a ++ x) k ∙ sym (lower-Fby o a b));
    of_pre = λ p a h. same_whole p (form.Pre a) (form.Pre (erased_expr a)) (erased-Pre p a) (s.on_pre p.0 a) (lower-Pre o (erased_expr a) ∙ h ∙ sym (lower-Pre o a));
    of_arrow = λ p a b h k. same_whole p (form.Arrow a b) (form.Arrow (erased_expr a) (erased_expr b)) (erased-Arrow p a b) (s.on_arrow p.0 a b) (lower-Arrow o (erased_expr a) (erased_expr b) ∙ ap (λ (x : List A). x ++ total o (erased_expr b)) h ∙ ap (λ (x : List A). total o a ++ x) k ∙ sym (lower-Arrow o a b));
    of_when = λ p a tag x h. same_whole p (form.When a tag x) (form.When (erased_expr a) tag x) (erased-When p a tag x) (s.on_when p.0 a tag x) (lower-When o (erased_expr a) tag x ∙ h ∙ sym (lower-When o a tag x));
    of_merge = λ p x bs hs. same_whole p (form.Merge x bs) (form.Merge x (map erased_branch bs)) (erased-Merge p x bs) (s.on_merge p.0 x bs) (lower-Merge o x (map erased_branch bs) ∙ branches_same bs hs ∙ sym (lower-Merge o x bs));
    of_call = λ p f args hs. same_whole p (form.Call f args) (form.Call f (map erased_expr args)) (erased-Call p f args) (s.on_call p.0 f args) (lower-Call o f (map erased_expr args) ∙ all_same args hs ∙ sym (lower-Call o f args));
    of_async = λ p q f args hs. same_whole p (form.AsyncCall q f args) (form.Call f (map erased_expr args)) (erased-AsyncCall p q f args) (s.on_async p.0 q f args) (lower-Call o f (map erased_expr args) ∙ all_same args hs ∙ sym (lower-AsyncCall o q f args));
    of_ready = λ p k. same_whole p (form.AsyncConst k) (form.Const k) (erased-AsyncConst p k) (s.on_ready p.0 k) (lower-Const o k ∙ sym (lower-AsyncConst o k));
    of_get = λ p a h. ap (total o) (erased-Get p a) ∙ h ∙ sym (lower-Get o a) ∙ ap (λ (x : List A). x ++ lower o (form.Get a)) (sym (s.on_get p.0 a));
  }

  pub total_same : (e : Expr) → total o (erased_expr e) ≡ total o e
  total_same e = by_forms Same same_cases e
