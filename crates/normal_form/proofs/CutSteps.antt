-- What of each form is taken, where the first memory operator, call or get is.
use Rattle.std.proofs.Common.{◌≡◌, ◌⊎◌, inl, inr, ◌-◌, true, false, List, [], ◌∷◌, ◌++◌, length, take, remove, slice_get, All, Option, Some, None, is_some, refl, sym, ap, subst, ◌∙◌, append_assoc, append-nil}
use Rattle.std.specs.List.{flat_map}
use Rattle.std.proofs.lemmas.Bool.{false≢true}
use Rattle.std.proofs.lemmas.List.Elements.{All-nil, All-cons, All-head, All-tail, All-append, All-push}
use Rattle.hept_ast.specs.Texts.{Name}
use Rattle.hept_ast.specs.Scopes.{Clock}
use Rattle.hept_ast.specs.Parts.{below, inside}
use Rattle.hept_ast.specs.declared.tree.Tag.{Tag}
use Rattle.hept_ast.specs.declared.tree.UnaryOp.{UnaryOp}
use Rattle.hept_ast.specs.declared.tree.BinaryOp.{BinaryOp}
use Rattle.hept_ast.specs.declared.tree.Expr.{Expr}
use Rattle.hept_ast.specs.declared.tree.MergeBranch.{MergeBranch}
use Rattle.hept_ast.specs.declared.tree.Form.{Form, out-Form}
use Rattle.hept_ast.specs.declared.tree.Form.TheOpen.{Form-F}
use Rattle.hept_ast.specs.declared.tree.Form.TheVariants as form
use Rattle.hept_ast.proofs.FormsOf.{below-Const, below-Var, below-Last, below-AsyncConst, below-Unary, below-Binary, below-If, below-When, below-Merge}
use Rattle.core_naming.specs.Names.{Names, NamesBranch, variable_at, whole, in_unary, in_left, in_right, in_condition, in_then, in_else, in_when, in_merge, this_branch, later_branch}
use Rattle.core_naming.specs.Normal.{is_step}
use Rattle.normal_form.specs.declared.cut.Cut.{Cut}
use Rattle.normal_form.specs.declared.cut.Taken.{Taken}
use Rattle.normal_form.specs.Cuts.{CutsBranch, CutsBranches, CutsStep, CutsTwo, HasNoStep}
use Rattle.normal_form.proofs.Views.{at, at_form, by_view, out_Const, out_Var, out_Last, out_AsyncConst, out_Unary, out_Binary, out_If, out_When, out_Merge}

-- ---- expressions in which no step stands

abbrev pub NoStep : Expr → Type 0
NoStep b = is_step (out-Form b.form) ≡ false

pub no_step : (e : Expr) (f : Form) (v : Form-F Form Expr MergeBranch) (es : List Expr) → e.form ≡ f → out-Form f ≡ v → is_step v ≡ false → below f ≡ es → All NoStep es → HasNoStep e
no_step e f v es h o s b k =
    All-cons NoStep e (below e.form) (ap (λ (g : Form). is_step (out-Form g)) h ∙ ap is_step o ∙ s) (subst (λ (l : List Expr). All NoStep l) (sym (ap below h ∙ b)) k)

flat_all : {X : Type 0} (f : X → List Expr) (xs : List X) → All (λ (x : X). All NoStep (f x)) xs → All NoStep (flat_map f xs)
flat_all {X} f [] h = All-nil NoStep
flat_all {X} f (x ∷ xs) h =
    All-append NoStep (f x) (flat_map f xs) (All-head (λ (y : X). All NoStep (f y)) x xs h) (flat_all f xs (All-tail (λ (y : X). All NoStep (f y)) x xs h))

-- a form without parts, which is no step
pub no_parts : (e : Expr) → NoStep e → ((op : UnaryOp) (a : Expr) → e.form ≡ form.Unary op a → ⊥) → ((op : BinaryOp) (a b : Expr) → e.form ≡ form.Binary op a b → ⊥) →
    ((i a b : Expr) → e.form ≡ form.If i a b → ⊥) → ((a : Expr) (tag : Tag) (y : Name) → e.form ≡ form.When a tag y → ⊥) → ((y : Name) (bs : List MergeBranch) → e.form ≡ form.Merge y bs → ⊥) →
    HasNoStep e
no_parts e s u b i w m = go (out-Form e.form) refl
  where
    leaf : (f : Form) (v : Form-F Form Expr MergeBranch) → e.form ≡ f → out-Form f ≡ v → is_step v ≡ false → below f ≡ [] → HasNoStep e
    leaf f v h o n k = no_step e f v [] h o n k (All-nil NoStep)

    no : (v : Form-F Form Expr MergeBranch) → out-Form e.form ≡ v → is_step v ≡ true → HasNoStep e
    no v o t = absurd (false≢true (sym s ∙ ap is_step o ∙ t))

    go : (v : Form-F Form Expr MergeBranch) → out-Form e.form ≡ v → HasNoStep e
    go (Form-F.Const k) o = leaf (form.Const k) (Form-F.Const k) (by_view _ _ _ o (form.rolls-Const k)) (out_Const k) refl (below-Const k)
    go (Form-F.Var x) o = leaf (form.Var x) (Form-F.Var x) (by_view _ _ _ o (form.rolls-Var x)) (out_Var x) refl (below-Var x)
    go (Form-F.Last x) o = leaf (form.Last x) (Form-F.Last x) (by_view _ _ _ o (form.rolls-Last x)) (out_Last x) refl (below-Last x)
    go (Form-F.AsyncConst k) o = leaf (form.AsyncConst k) (Form-F.AsyncConst k) (by_view _ _ _ o (form.rolls-AsyncConst k)) (out_AsyncConst k) refl (below-AsyncConst k)
    go (Form-F.Unary op a) o = absurd (u op a (by_view _ _ _ o (form.rolls-Unary op a)))
    go (Form-F.Binary op a c) o = absurd (b op a c (by_view _ _ _ o (form.rolls-Binary op a c)))
    go (Form-F.If d a c) o = absurd (i d a c (by_view _ _ _ o (form.rolls-If d a c)))
    go (Form-F.When a tag y) o = absurd (w a tag y (by_view _ _ _ o (form.rolls-When a tag y)))
    go (Form-F.Merge y bs) o = absurd (m y bs (by_view _ _ _ o (form.rolls-Merge y bs)))
    go (Form-F.Fby a c) o = no _ o refl
    go (Form-F.Pre a) o = no _ o refl
    go (Form-F.Arrow a c) o = no _ o refl
    go (Form-F.Call f es) o = no _ o refl
    go (Form-F.AsyncCall q f es) o = no _ o refl
    go (Form-F.Get a) o = no _ o refl

pub cuts_leaf : (x : Name) (c : Clock) (e : Expr) → HasNoStep e → CutsStep x c e (at e.place e.form) None
cuts_leaf x c e h = (refl, h)

-- the expression itself
pub cuts_all : (x : Name) (c : Clock) (e : Expr) → is_step (out-Form e.form) ≡ true → CutsStep x c e (variable_at e.place x) (Some (record { named = e; clock = record { steps = c } }))
cuts_all x c e s = (whole, s)

-- ---- two expressions

pub two_first : (x : Name) (c : Clock) (a b m : Expr) (t : Option Taken) → is_some t ≡ true → CutsStep x c a m t → CutsTwo x c a b m b t
two_first x c a b m None s k = cc
two_first x c a b m (Some t) s k = (inl (k.0, refl), k.1)

pub two_second : (x : Name) (c : Clock) (a b m n : Expr) (u t : Option Taken) → is_some u ≡ false → CutsStep x c a m u → CutsStep x c b n t → CutsTwo x c a b m n t
two_second x c a b m n None None s k l = (k.0, l.0, k.1, l.1)
two_second x c a b m n None (Some t) s k l = (inr (k.0, l.0), l.1)
two_second x c a b m n (Some u) t s k l = cc

pub one_of_two : (P : Expr → Expr → Type 0) (x : Name) (c : Clock) (a b m n : Expr) (t : Taken) → (Names x t.named t.clock.steps c a m × (n ≡ b)) ⊎ ((m ≡ a) × Names x t.named t.clock.steps c b n) →
    (Names x t.named t.clock.steps c a m → P m b) → (Names x t.named t.clock.steps c b n → P a n) → P m n
one_of_two P x c a b m n t (inl p) f g = subst (λ (q : Expr). P m q) (sym p.1) (f p.0)
one_of_two P x c a b m n t (inr p) f g = subst (λ (q : Expr). P q n) (sym p.0) (g p.1)

-- ---- forms

pub cuts_unary : (x : Name) (c : Clock) (e : Expr) (op : UnaryOp) (a m : Expr) (t : Option Taken) → e.form ≡ form.Unary op a → CutsStep x c a m t → CutsStep x c e (at e.place (form.Unary op m)) t
cuts_unary x c e op a m None h k =
    (ap (λ (q : Expr). at e.place (form.Unary op q)) k.0 ∙ at_form e (form.Unary op a) h, no_step e (form.Unary op a) (Form-F.Unary op a) (inside a) h (out_Unary op a) refl (below-Unary op a) k.1)
cuts_unary x c e op a m (Some t) h k = (in_unary refl (ap out-Form h ∙ out_Unary op a) (out_Unary op m) k.0, k.1)

pub cuts_binary : (x : Name) (c : Clock) (e : Expr) (op : BinaryOp) (a b m n : Expr) (t : Option Taken) → e.form ≡ form.Binary op a b → CutsTwo x c a b m n t →
    CutsStep x c e (at e.place (form.Binary op m n)) t
cuts_binary x c e op a b m n None h k = (
  ap (λ (q : Expr). at e.place (form.Binary op q n)) k.0 ∙ ap (λ (q : Expr). at e.place (form.Binary op a q)) k.1 ∙ at_form e (form.Binary op a b) h,
  no_step e (form.Binary op a b) (Form-F.Binary op a b) (inside a ++ inside b) h (out_Binary op a b) refl (below-Binary op a b) (All-append NoStep (inside a) (inside b) k.2 k.3),
)
cuts_binary x c e op a b m n (Some t) h k = (
  one_of_two (λ (p q : Expr). Names x t.named t.clock.steps c e (at e.place (form.Binary op p q))) x c a b m n t k.0
      (λ l. in_left refl (ap out-Form h ∙ out_Binary op a b) (out_Binary op m b) l) (λ l. in_right refl (ap out-Form h ∙ out_Binary op a b) (out_Binary op a n) l),
  k.1,
)

pub cuts_if_first : (x : Name) (c : Clock) (e i a b m n : Expr) (t : Option Taken) → is_some t ≡ true → e.form ≡ form.If i a b → CutsTwo x c i a m n t →
    CutsStep x c e (at e.place (form.If m n b)) t
cuts_if_first x c e i a b m n None s h k = cc
cuts_if_first x c e i a b m n (Some t) s h k = (
  one_of_two (λ (p q : Expr). Names x t.named t.clock.steps c e (at e.place (form.If p q b))) x c i a m n t k.0
      (λ l. in_condition refl (ap out-Form h ∙ out_If i a b) (out_If m a b) l) (λ l. in_then refl (ap out-Form h ∙ out_If i a b) (out_If i n b) l),
  k.1,
)

pub cuts_if_last : (x : Name) (c : Clock) (e i a b m n o : Expr) (u t : Option Taken) → is_some u ≡ false → e.form ≡ form.If i a b → CutsTwo x c i a m n u → CutsStep x c b o t →
    CutsStep x c e (at e.place (form.If m n o)) t
cuts_if_last x c e i a b m n o (Some u) t s h k l = cc
cuts_if_last x c e i a b m n o None None s h k l = (
  ap (λ (q : Expr). at e.place (form.If q n o)) k.0 ∙ ap (λ (q : Expr). at e.place (form.If i q o)) k.1 ∙ ap (λ (q : Expr). at e.place (form.If i a q)) l.0 ∙ at_form e (form.If i a b) h,
  no_step e (form.If i a b) (Form-F.If i a b) (inside i ++ inside a ++ inside b) h (out_If i a b) refl (below-If i a b)
      (All-append NoStep (inside i ++ inside a) (inside b) (All-append NoStep (inside i) (inside a) k.2 k.3) l.1),
)
cuts_if_last x c e i a b m n o None (Some t) s h k l = (
  subst (λ (q : Expr). Names x t.named t.clock.steps c e (at e.place (form.If q n o))) (sym k.0)
      (subst (λ (q : Expr). Names x t.named t.clock.steps c e (at e.place (form.If i q o))) (sym k.1) (in_else refl (ap out-Form h ∙ out_If i a b) (out_If i a o) l.0)),
  l.1,
)

pub cuts_when : (x : Name) (c : Clock) (e a m : Expr) (tag : Tag) (y : Name) (t : Option Taken) → e.form ≡ form.When a tag y → CutsStep x (take (length c - 1) c) a m t →
    CutsStep x c e (at e.place (form.When m tag y)) t
cuts_when x c e a m tag y None h k = (
  ap (λ (q : Expr). at e.place (form.When q tag y)) k.0 ∙ at_form e (form.When a tag y) h,
  no_step e (form.When a tag y) (Form-F.When a tag y) (inside a) h (out_When a tag y) refl (below-When a tag y) k.1,
)
cuts_when x c e a m tag y (Some t) h k = (in_when refl (ap out-Form h ∙ out_When a tag y) (out_When m tag y) k.0, k.1)

pub cuts_merge : (x : Name) (c : Clock) (e : Expr) (y : Name) (bs ms : List MergeBranch) (t : Option Taken) → e.form ≡ form.Merge y bs → CutsBranches x y c bs ms t →
    CutsStep x c e (at e.place (form.Merge y ms)) t
cuts_merge x c e y bs ms None h k = (
  ap (λ (q : List MergeBranch). at e.place (form.Merge y q)) k.0 ∙ at_form e (form.Merge y bs) h,
  no_step e (form.Merge y bs) (Form-F.Merge y bs) (flat_map (λ b. inside b.value) bs) h (out_Merge y bs) refl (below-Merge y bs) (flat_all (λ (b : MergeBranch). inside b.value) bs k.1),
)
cuts_merge x c e y bs ms (Some t) h k = (in_merge refl (ap out-Form h ∙ out_Merge y bs) (out_Merge y ms) k.0, k.1)

-- ---- what the calls return

pub cut_is : (x : Name) (c : Clock) (e : Expr) (cut : Cut) (f : Form) (t : Option Taken) → cut ≡ record { right = at e.place f; taken = t } → CutsStep x c e (at e.place f) t → CutsStep x c e cut.right cut.taken
cut_is x c e cut f t k h = subst (λ (q : Cut). CutsStep x c e q.right q.taken) (sym k) h

pub all_cut : (x : Name) (c : Clock) (e : Expr) (cut : Cut) → is_step (out-Form e.form) ≡ true → cut ≡ record { right = variable_at e.place x; taken = Some (record { named = e; clock = record { steps = c } }) } →
    CutsStep x c e cut.right cut.taken
all_cut x c e cut s k = subst (λ (q : Cut). CutsStep x c e q.right q.taken) (sym k) (cuts_all x c e s)

-- a form that stays as it is
pub leaf_of : (x : Name) (c : Clock) (e : Expr) (f : Form) (cut : Cut) → f ≡ e.form → HasNoStep e → cut ≡ record { right = at e.place f; taken = None } → CutsStep x c e cut.right cut.taken
leaf_of x c e f cut i h k = cut_is x c e cut f None k (subst (λ (g : Form). CutsStep x c e (at e.place g) None) (sym i) (cuts_leaf x c e h))

-- of an operand in a box
pub boxed_cut : (x : Name) (c : Clock) (a inner m right : Expr) (t : Option Taken) → inner ≡ a → CutsStep x c inner right t → m ≡ right → CutsStep x c a m t
boxed_cut x c a inner m right t i k j = subst (λ (q : Expr). CutsStep x c a q t) (sym j) (subst (λ (q : Expr). CutsStep x c q right t) i k)

-- on a clock that is another one
pub on_clock : (x : Name) (c d : Clock) (a m : Expr) (t : Option Taken) → d ≡ c → CutsStep x d a m t → CutsStep x c a m t
on_clock x c d a m t n k = subst (λ (q : Clock). CutsStep x q a m t) n k

-- ---- branches

-- the first of a list, once it is removed
pub first_removed : {X : Type 0} (xs ys : List X) (x : X) → slice_get xs 0 ≡ Some x → ys ≡ remove xs 0 → xs ≡ x ∷ ys
first_removed {X} [] ys x h e = cc
first_removed {X} (z ∷ zs) ys x h e = let f : z ≡ x = cc in ap (λ (q : X). q ∷ zs) f ∙ ap (λ (q : List X). x ∷ q) (sym e)

abbrev pub with_value : MergeBranch → Expr → MergeBranch
with_value b m = record { place = b.place; tag = b.tag; value = m }

-- the first branches of a merge, in which nothing was taken, and those that are left
pub record Passed (bs done left : List MergeBranch) : Type 0 where
  pub all : bs ≡ done ++ left
  pub none : All (λ (b : MergeBranch). HasNoStep b.value) done

pub passed_none : (bs : List MergeBranch) → Passed bs [] bs
passed_none bs = record { all = refl; none = All-nil (λ (b : MergeBranch). HasNoStep b.value) }

passed_more : (x : Name) (c : Clock) (bs done left rest longer : List MergeBranch) (b : MergeBranch) (m : Expr) (t : Option Taken) → Passed bs done left → slice_get left 0 ≡ Some b → rest ≡ remove left 0 →
    longer ≡ done ++ with_value b m ∷ [] → is_some t ≡ false → CutsStep x c b.value m t → Passed bs longer rest
passed_more x c bs done left rest longer b m (Some t) p h r l s k = cc
passed_more x c bs done left rest longer b m None p h r l s k =
    subst (λ (q : List MergeBranch). Passed bs q rest) (sym (l ∙ ap (λ (q : Expr). done ++ with_value b q ∷ []) k.0)) (record {
      all = p.all ∙ ap (λ (q : List MergeBranch). done ++ q) (first_removed left rest b h r) ∙ sym (append_assoc done (b ∷ []) rest);
      none = All-push (λ (d : MergeBranch). HasNoStep d.value) done b p.none k.1;
    })

branch_named : (x : Name) (a : Expr) (d : Clock) (y : Name) (c : Clock) (done rest : List MergeBranch) (b : MergeBranch) (m : Expr) → Names x a d (c ++ record { tag = b.tag; name = y } ∷ []) b.value m →
    NamesBranch x a d y c (done ++ b ∷ rest) (done ++ with_value b m ∷ rest)
branch_named x a d y c [] rest b m h = this_branch refl refl h
branch_named x a d y c (e ∷ done) rest b m h = later_branch (branch_named x a d y c done rest b m h)

branches_taken : (x y : Name) (c inner : Clock) (bs done left rest longer all : List MergeBranch) (b : MergeBranch) (m : Expr) (t : Option Taken) → Passed bs done left → slice_get left 0 ≡ Some b →
    rest ≡ remove left 0 → longer ≡ done ++ with_value b m ∷ [] → all ≡ longer ++ rest → is_some t ≡ true → inner ≡ c ++ record { tag = b.tag; name = y } ∷ [] →
    CutsStep x inner b.value m t → CutsBranches x y c bs all t
branches_taken x y c inner bs done left rest longer all b m None p h r l w s i k = cc
branches_taken x y c inner bs done left rest longer all b m (Some t) p h r l w s i k =
    let named : Names x t.named t.clock.steps (c ++ record { tag = b.tag; name = y } ∷ []) b.value m = subst (λ (q : Clock). Names x t.named t.clock.steps q b.value m) i k.0 in
    let old : bs ≡ done ++ b ∷ rest = p.all ∙ ap (λ (q : List MergeBranch). done ++ q) (first_removed left rest b h r) in
    let new : all ≡ done ++ with_value b m ∷ rest =
    w ∙ ap (λ (q : List MergeBranch). q ++ rest) l ∙ append_assoc done (with_value b m ∷ []) rest in (
      subst (λ (q : List MergeBranch). NamesBranch x t.named t.clock.steps y c q all) (sym old)
          (subst (λ (q : List MergeBranch). NamesBranch x t.named t.clock.steps y c (done ++ b ∷ rest) q) (sym new) (branch_named x t.named t.clock.steps y c done rest b m named)),
      k.1,
    )

pub branch_passed : (x y : Name) (c : Clock) (bs done left rest longer : List MergeBranch) (b m : MergeBranch) (t : Option Taken) → Passed bs done left → slice_get left 0 ≡ Some b → rest ≡ remove left 0 →
    longer ≡ done ++ m ∷ [] → is_some t ≡ false → CutsBranch x y c b m t → Passed bs longer rest
branch_passed x y c bs done left rest longer b m t p h r l s k =
    passed_more x (c ++ record { tag = b.tag; name = y } ∷ []) bs done left rest longer b m.value t p h r (l ∙ ap (λ (q : MergeBranch). done ++ q ∷ []) k.0) s k.1

pub branch_taken : (x y : Name) (c : Clock) (bs done left rest longer all : List MergeBranch) (b m : MergeBranch) (t : Option Taken) → Passed bs done left → slice_get left 0 ≡ Some b → rest ≡ remove left 0 →
    longer ≡ done ++ m ∷ [] → all ≡ longer ++ rest → is_some t ≡ true → CutsBranch x y c b m t → CutsBranches x y c bs all t
branch_taken x y c bs done left rest longer all b m t p h r l w s k =
    branches_taken x y c (c ++ record { tag = b.tag; name = y } ∷ []) bs done left rest longer all b m.value t p h r (l ∙ ap (λ (q : MergeBranch). done ++ q ∷ []) k.0) w s refl k.1

pub branches_passed : (x y : Name) (c : Clock) (bs done left : List MergeBranch) → Passed bs done left → left ≡ [] → CutsBranches x y c bs done None
branches_passed x y c bs done left p e =
    let all : bs ≡ done = p.all ∙ ap (λ (q : List MergeBranch). done ++ q) e ∙ append-nil done in
    (sym all, subst (λ (q : List MergeBranch). All (λ (b : MergeBranch). HasNoStep b.value) q) (sym all) p.none)

-- ---- an expression taken apart

pub of_form : (x : Name) (c : Clock) (e : Expr) (f : Form) (cut : Cut) → e.form ≡ f → CutsStep x c (at e.place f) cut.right cut.taken → CutsStep x c e cut.right cut.taken
of_form x c e f cut h k = subst (λ (q : Expr). CutsStep x c q cut.right cut.taken) (at_form e f h) k
