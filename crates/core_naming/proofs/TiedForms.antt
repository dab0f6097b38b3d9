-- The forms of tied expressions.
use Rattle.std.proofs.Common.{◌≡◌, ◌-◌, ◌⊎◌, inl, inr, ℕ, false, List, [], ◌∷◌, ◌++◌, length, take, refl}
use Rattle.hept_ast.specs.Texts.{Name, same}
use Rattle.hept_ast.specs.Scopes.{Clock, Scope}
use Rattle.hept_ast.specs.declared.tree.Core.{Core}
use Rattle.hept_ast.specs.declared.tree.Const.{Const}
use Rattle.hept_ast.specs.declared.tree.Tag.{Tag}
use Rattle.hept_ast.specs.declared.tree.UnaryOp.{UnaryOp}
use Rattle.hept_ast.specs.declared.tree.BinaryOp.{BinaryOp}
use Rattle.hept_ast.specs.declared.tree.Expr.{Expr}
use Rattle.hept_ast.specs.declared.tree.MergeBranch.{MergeBranch}
use Rattle.hept_ast.specs.declared.tree.Form.{Form, out-Form}
use Rattle.hept_ast.specs.declared.tree.Form.TheOpen.{Form-F}
use Rattle.core_naming.specs.Names.{IsNaming, Names, whole, in_unary, in_left, in_right, in_condition, in_then, in_else, in_fby_first, in_fby_next, in_pre, in_arrow_first, in_arrow_next, in_when, in_merge, in_call, in_async_call, in_get, NamesArgument, this_argument, later_argument, NamesBranch, this_branch, later_branch, variable_at}
use Rattle.core_naming.specs.Ties.{form_names, clock_names, IsOfEquation, TiedExpr, same_expr, named_expr, TiedArguments, no_arguments, more_arguments}
use Rattle.core_naming.proofs.Mentions.{EachOf, EachValue, EachOperand, Free, NotIn, not_head, not_taken, not_longer, own_free, parts_free}

-- ---- where no subexpression is named

abbrev pub IsNoGet : Form-F Form Expr MergeBranch → Type 0
IsNoGet (Form-F.Get a) = ⊥
IsNoGet _ = Unit {0}

-- a form that gives no further outputs
abbrev pub HasNoOutput : Form-F Form Expr MergeBranch → Type 0
HasNoOutput (Form-F.Call f args) = ⊥
HasNoOutput (Form-F.AsyncCall q f args) = ⊥
HasNoOutput (Form-F.Get a) = ⊥
HasNoOutput _ = Unit {0}

module _ (core other : Core) (n : IsNaming core other) where
  abbrev pub Tied : Scope → Scope → Clock → Expr → Expr → Type 0
  Tied s r c e m = TiedExpr core other n s r c e m

  abbrev pub TiedList : Scope → Scope → Clock → List Expr → List Expr → Type 0
  TiedList s r c es ms = TiedArguments core other n s r c es ms

  pub data TiedBranches (s r : Scope) (y : Name) (c : Clock) : List MergeBranch → List MergeBranch → Type 0 where
    no_branches : TiedBranches s r y c [] []
    more_branches : {b m : MergeBranch} {bs ms : List MergeBranch} → m.tag ≡ b.tag →
        Tied s r (c ++ record { tag = b.tag; name = y } ∷ []) b.value m.value → TiedBranches s r y c bs ms → TiedBranches s r y c (b ∷ bs) (m ∷ ms)

  pub data TiedForm (s r : Scope) (c : Clock) : Form-F Form Expr MergeBranch → Form-F Form Expr MergeBranch → Type 0 where
    const : {k : Const} → TiedForm s r c (Form-F.Const k) (Form-F.Const k)
    var : {y : Name} → same n.x y ≡ false → TiedForm s r c (Form-F.Var y) (Form-F.Var y)
    last_of : {y : Name} → same n.x y ≡ false → TiedForm s r c (Form-F.Last y) (Form-F.Last y)
    unary : {op : UnaryOp} {a a' : Expr} → Tied s r c a a' → TiedForm s r c (Form-F.Unary op a) (Form-F.Unary op a')
    binary : {op : BinaryOp} {a b a' b' : Expr} → Tied s r c a a' → Tied s r c b b' → TiedForm s r c (Form-F.Binary op a b) (Form-F.Binary op a' b')
    choice : {i a b i' a' b' : Expr} → Tied s r c i i' → Tied s r c a a' → Tied s r c b b' → TiedForm s r c (Form-F.If i a b) (Form-F.If i' a' b')
    fby : {a b a' b' : Expr} → Tied s r c a a' → Tied s r c b b' → TiedForm s r c (Form-F.Fby a b) (Form-F.Fby a' b')
    pre : {a a' : Expr} → Tied s r c a a' → TiedForm s r c (Form-F.Pre a) (Form-F.Pre a')
    arrow : {a b a' b' : Expr} → Tied s r c a a' → Tied s r c b b' → TiedForm s r c (Form-F.Arrow a b) (Form-F.Arrow a' b')
    when : {a a' : Expr} {tag : Tag} {y : Name} → Tied s r (take (length c - 1) c) a a' → TiedForm s r c (Form-F.When a tag y) (Form-F.When a' tag y)
    merge : {y : Name} {bs ms : List MergeBranch} → same n.x y ≡ false → TiedBranches s r y c bs ms → TiedForm s r c (Form-F.Merge y bs) (Form-F.Merge y ms)
    a_call : {f : Name} {es ms : List Expr} → TiedList s r c es ms → TiedForm s r c (Form-F.Call f es) (Form-F.Call f ms)
    async_call : {q : ℕ} {f : Name} {es ms : List Expr} → TiedList s r c es ms → TiedForm s r c (Form-F.AsyncCall q f es) (Form-F.AsyncCall q f ms)
    async_const : {k : Const} → TiedForm s r c (Form-F.AsyncConst k) (Form-F.AsyncConst k)
    get : {a a' : Expr} → Tied s r c a a' → TiedForm s r c (Form-F.Get a) (Form-F.Get a')

  -- forms whose outputs are tied
  pub data TiedOutput (s r : Scope) (c : Clock) : Form-F Form Expr MergeBranch → Form-F Form Expr MergeBranch → Type 0 where
    of_call : {f : Name} {es ms : List Expr} → TiedList s r c es ms → TiedOutput s r c (Form-F.Call f es) (Form-F.Call f ms)
    of_async_call : {q : ℕ} {f : Name} {es ms : List Expr} → TiedList s r c es ms → TiedOutput s r c (Form-F.AsyncCall q f es) (Form-F.AsyncCall q f ms)
    of_get : {a : Expr} → Free n.x a → TiedOutput s r c (Form-F.Get a) (Form-F.Get a)
    of_none : {f g : Form-F Form Expr MergeBranch} → HasNoOutput f → HasNoOutput g → TiedOutput s r c f g

  -- ---- expressions that stay

  module _ (s r : Scope) where
    pub same_list : (c : Clock) (es : List Expr) → EachOf (Free n.x) es → TiedList s r c es es
    same_list c [] h = no_arguments
    same_list c (e ∷ es) h = more_arguments (same_expr h.0) (same_list c es h.1)

    same_branches : (y : Name) (c : Clock) (bs : List MergeBranch) → EachValue (Free n.x) bs → TiedBranches s r y c bs bs
    same_branches y c [] h = no_branches
    same_branches y c (b ∷ bs) h = more_branches refl (same_expr h.0) (same_branches y c bs h.1)

    pub same_form : (c : Clock) (f : Form-F Form Expr MergeBranch) → EachOperand (Free n.x) f → NotIn n.x (form_names f) → TiedForm s r c f f
    same_form c (Form-F.Const k) h i = const
    same_form c (Form-F.Var y) h i = var (not_head n.x y [] i)
    same_form c (Form-F.Last y) h i = last_of (not_head n.x y [] i)
    same_form c (Form-F.Unary op a) h i = unary (same_expr h)
    same_form c (Form-F.Binary op a b) h i = binary (same_expr h.0) (same_expr h.1)
    same_form c (Form-F.If k a b) h i = choice (same_expr h.0) (same_expr h.1) (same_expr h.2)
    same_form c (Form-F.Fby a b) h i = fby (same_expr h.0) (same_expr h.1)
    same_form c (Form-F.Pre a) h i = pre (same_expr h)
    same_form c (Form-F.Arrow a b) h i = arrow (same_expr h.0) (same_expr h.1)
    same_form c (Form-F.When a tag y) h i = when (same_expr h)
    same_form c (Form-F.Merge y bs) h i = merge (not_head n.x y [] i) (same_branches y c bs h)
    same_form c (Form-F.Call f args) h i = a_call (same_list c args h)
    same_form c (Form-F.AsyncCall q f args) h i = async_call (same_list c args h)
    same_form c (Form-F.AsyncConst k) h i = async_const
    same_form c (Form-F.Get a) h i = get (same_expr h)

    pub same_output : (c : Clock) (f : Form-F Form Expr MergeBranch) → EachOperand (Free n.x) f → TiedOutput s r c f f
    same_output c (Form-F.Call f args) h = of_call (same_list c args h)
    same_output c (Form-F.AsyncCall q f args) h = of_async_call (same_list c args h)
    same_output c (Form-F.Get a) h = of_get h
    same_output c (Form-F.Const k) h = of_none tt tt
    same_output c (Form-F.Var y) h = of_none tt tt
    same_output c (Form-F.Last y) h = of_none tt tt
    same_output c (Form-F.Unary op a) h = of_none tt tt
    same_output c (Form-F.Binary op a b) h = of_none tt tt
    same_output c (Form-F.If k a b) h = of_none tt tt
    same_output c (Form-F.Fby a b) h = of_none tt tt
    same_output c (Form-F.Pre a) h = of_none tt tt
    same_output c (Form-F.Arrow a b) h = of_none tt tt
    same_output c (Form-F.When a tag y) h = of_none tt tt
    same_output c (Form-F.Merge y bs) h = of_none tt tt
    same_output c (Form-F.AsyncConst k) h = of_none tt tt

    pub form_output : {c : Clock} {f g : Form-F Form Expr MergeBranch} → TiedForm s r c f g → IsNoGet f → TiedOutput s r c f g
    form_output const k = of_none tt tt
    form_output (var h) k = of_none tt tt
    form_output (last_of h) k = of_none tt tt
    form_output (unary h) k = of_none tt tt
    form_output (binary h i) k = of_none tt tt
    form_output (choice h i j) k = of_none tt tt
    form_output (fby h i) k = of_none tt tt
    form_output (pre h) k = of_none tt tt
    form_output (arrow h i) k = of_none tt tt
    form_output (when h) k = of_none tt tt
    form_output (merge h i) k = of_none tt tt
    form_output (a_call h) k = of_call h
    form_output (async_call h) k = of_async_call h
    form_output async_const k = of_none tt tt
    form_output (get h) k = absurd k

  -- ---- the view of tied expressions

  pub record TiedView (s r : Scope) (c : Clock) (e m : Expr) : Type 0 where
    pub view : Form-F Form Expr MergeBranch
    pub moved : Form-F Form Expr MergeBranch
    pub out : out-Form e.form ≡ view
    pub moved_out : out-Form m.form ≡ moved
    pub place : m.place ≡ e.place
    pub form : TiedForm s r c view moved

  -- the subexpression that is named, and its name
  pub data IsWhole : Clock → Expr → Expr → Type 0 where
    is_whole : IsWhole n.d n.a (variable_at n.a.place n.x)

  module _ (s r : Scope) (at : IsOfEquation core other n s r) where
    pub named_list : {c : Clock} {es ms : List Expr} → NamesArgument n.x n.a n.d c es ms → EachOf (Free n.x) es → TiedList s r c es ms
    named_list {c = c} (this_argument {es = es} k) h = more_arguments (named_expr k h.0 at) (same_list s r c es h.1)
    named_list (later_argument k) h = more_arguments (same_expr h.0) (named_list k h.1)

    named_branches : {y : Name} {c : Clock} {bs ms : List MergeBranch} → NamesBranch n.x n.a n.d y c bs ms → EachValue (Free n.x) bs → TiedBranches s r y c bs ms
    named_branches {y = y} {c = c} (this_branch {bs = bs} p tag k) h = more_branches tag (named_expr k h.0 at) (same_branches s r y c bs h.1)
    named_branches (later_branch k) h = more_branches refl (same_expr h.0) (named_branches k h.1)

    viewed : {c : Clock} {e m : Expr} (f g : Form-F Form Expr MergeBranch) → m.place ≡ e.place → out-Form e.form ≡ f → out-Form m.form ≡ g → TiedForm s r c f g →
        TiedView s r c e m ⊎ IsWhole c e m
    viewed f g p o q k = inl (record { view = f; moved = g; out = o; moved_out = q; place = p; form = k })

    pub named_view : {c : Clock} {e m : Expr} → Names n.x n.a n.d c e m → Free n.x e → TiedView s r c e m ⊎ IsWhole c e m
    named_view whole h = inr is_whole
    named_view {e = e} (in_unary p o q k) h = let l = parts_free n.x e _ o h in viewed _ _ p o q (unary (named_expr k l at))
    named_view {e = e} (in_left p o q k) h = let l = parts_free n.x e _ o h in viewed _ _ p o q (binary (named_expr k l.0 at) (same_expr l.1))
    named_view {e = e} (in_right p o q k) h = let l = parts_free n.x e _ o h in viewed _ _ p o q (binary (same_expr l.0) (named_expr k l.1 at))
    named_view {e = e} (in_condition p o q k) h = let l = parts_free n.x e _ o h in viewed _ _ p o q (choice (named_expr k l.0 at) (same_expr l.1) (same_expr l.2))
    named_view {e = e} (in_then p o q k) h = let l = parts_free n.x e _ o h in viewed _ _ p o q (choice (same_expr l.0) (named_expr k l.1 at) (same_expr l.2))
    named_view {e = e} (in_else p o q k) h = let l = parts_free n.x e _ o h in viewed _ _ p o q (choice (same_expr l.0) (same_expr l.1) (named_expr k l.2 at))
    named_view {e = e} (in_fby_first p o q k) h = let l = parts_free n.x e _ o h in viewed _ _ p o q (fby (named_expr k l.0 at) (same_expr l.1))
    named_view {e = e} (in_fby_next p o q k) h = let l = parts_free n.x e _ o h in viewed _ _ p o q (fby (same_expr l.0) (named_expr k l.1 at))
    named_view {e = e} (in_pre p o q k) h = let l = parts_free n.x e _ o h in viewed _ _ p o q (pre (named_expr k l at))
    named_view {e = e} (in_arrow_first p o q k) h = let l = parts_free n.x e _ o h in viewed _ _ p o q (arrow (named_expr k l.0 at) (same_expr l.1))
    named_view {e = e} (in_arrow_next p o q k) h = let l = parts_free n.x e _ o h in viewed _ _ p o q (arrow (same_expr l.0) (named_expr k l.1 at))
    named_view {e = e} (in_when p o q k) h = let l = parts_free n.x e _ o h in viewed _ _ p o q (when (named_expr k l at))
    named_view {e = e} (in_merge {y = y} p o q k) h =
        let l = parts_free n.x e _ o h in viewed _ _ p o q (merge (not_head n.x y [] (own_free n.x e _ o h)) (named_branches k l))
    named_view {e = e} (in_call p o q k) h = let l = parts_free n.x e _ o h in viewed _ _ p o q (a_call (named_list k l))
    named_view {e = e} (in_async_call p o q k) h = let l = parts_free n.x e _ o h in viewed _ _ p o q (async_call (named_list k l))
    named_view {e = e} (in_get p o q k) h = let l = parts_free n.x e _ o h in viewed _ _ p o q (get (named_expr k l at))

  pub same_view : (s r : Scope) (c : Clock) (e : Expr) → Free n.x e → TiedView s r c e e
  same_view s r c e h =
      record {
        view = out-Form e.form;
        moved = out-Form e.form;
        out = refl;
        moved_out = refl;
        place = refl;
        form = same_form s r c (out-Form e.form) (parts_free n.x e _ refl h) (own_free n.x e _ refl h);
      }

  -- ---- what stands inside an expression without x has none

  mutual
    pub inside_free : {c : Clock} {e m : Expr} → Names n.x n.a n.d c e m → Free n.x e → NotIn n.x (clock_names c) → Free n.x n.a × NotIn n.x (clock_names n.d)
    inside_free whole h f = (h, f)
    inside_free {e = e} (in_unary p o q k) h f = inside_free k (parts_free n.x e _ o h) f
    inside_free {e = e} (in_left p o q k) h f = inside_free k (parts_free n.x e _ o h).0 f
    inside_free {e = e} (in_right p o q k) h f = inside_free k (parts_free n.x e _ o h).1 f
    inside_free {e = e} (in_condition p o q k) h f = inside_free k (parts_free n.x e _ o h).0 f
    inside_free {e = e} (in_then p o q k) h f = inside_free k (parts_free n.x e _ o h).1 f
    inside_free {e = e} (in_else p o q k) h f = inside_free k (parts_free n.x e _ o h).2 f
    inside_free {e = e} (in_fby_first p o q k) h f = inside_free k (parts_free n.x e _ o h).0 f
    inside_free {e = e} (in_fby_next p o q k) h f = inside_free k (parts_free n.x e _ o h).1 f
    inside_free {e = e} (in_pre p o q k) h f = inside_free k (parts_free n.x e _ o h) f
    inside_free {e = e} (in_arrow_first p o q k) h f = inside_free k (parts_free n.x e _ o h).0 f
    inside_free {e = e} (in_arrow_next p o q k) h f = inside_free k (parts_free n.x e _ o h).1 f
    inside_free {c = c} {e = e} (in_when p o q k) h f = inside_free k (parts_free n.x e _ o h) (not_taken n.x (length c - 1) c f)
    inside_free {e = e} (in_merge {y = y} p o q k) h f = branch_free k (parts_free n.x e _ o h) (not_head n.x y [] (own_free n.x e _ o h)) f
    inside_free {e = e} (in_call p o q k) h f = argument_free k (parts_free n.x e _ o h) f
    inside_free {e = e} (in_async_call p o q k) h f = argument_free k (parts_free n.x e _ o h) f
    inside_free {e = e} (in_get p o q k) h f = inside_free k (parts_free n.x e _ o h) f

    argument_free : {c : Clock} {es ms : List Expr} → NamesArgument n.x n.a n.d c es ms → EachOf (Free n.x) es → NotIn n.x (clock_names c) → Free n.x n.a × NotIn n.x (clock_names n.d)
    argument_free (this_argument k) h f = inside_free k h.0 f
    argument_free (later_argument k) h f = argument_free k h.1 f

    branch_free : {y : Name} {c : Clock} {bs ms : List MergeBranch} → NamesBranch n.x n.a n.d y c bs ms → EachValue (Free n.x) bs → same n.x y ≡ false → NotIn n.x (clock_names c) →
        Free n.x n.a × NotIn n.x (clock_names n.d)
    branch_free {y = y} {c = c} (this_branch {b = b} p tag k) h g f = inside_free k h.0 (not_longer n.x c (record { tag = b.tag; name = y }) f g)
    branch_free (later_branch k) h g f = branch_free k h.1 g f
