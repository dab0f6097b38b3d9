-- What an expression reads, by the view of its form; lists and types of operands.
use Rattle.std.proofs.Common.{◌≡◌, ◌⊎◌, inl, inr, ℕ, zero, suc, Bool, true, false, ◌&&◌, ◌||◌, List, [], ◌∷◌, ◌++◌, map, length, refl, sym, ap, subst, arith, ◌∙◌}
use Rattle.std.specs.Prelude.{if◌then◌else◌, ◌==◌, Contains}
use Rattle.std.specs.List.{list_all, flat_map}
use Rattle.std.proofs.lemmas.List.Folds.{list_any-append}
use Rattle.hept_ast.specs.Texts.{Name, same, is_in}
use Rattle.hept_ast.specs.Causal.{reads}
use Rattle.hept_ast.specs.Types.{Fit, Fits, Misfit, Untyped, is_plain, async_fit, same_type, same_types, fits_if, all_are, alike, unary_fit, binary_fit, plain_pair, if_fit, call_fit, get_fit, bool}
use Rattle.hept_ast.specs.declared.tree.Form.{Form, out-Form}
use Rattle.hept_ast.specs.declared.tree.Form.TheOpen.{Form-F}
use Rattle.hept_ast.specs.declared.tree.Form.TheViews.{roll-out-Form, roll-Form}
use Rattle.hept_ast.specs.declared.tree.Form.TheVariants as form
use Rattle.hept_ast.specs.declared.tree.Expr.{Expr}
use Rattle.hept_ast.specs.declared.tree.MergeBranch.{MergeBranch}
use Rattle.hept_ast.specs.declared.tree.Ty.{Ty}
use Rattle.hept_ast.specs.declared.tree.Ty.TheVariants as ty
use Rattle.hept_ast.specs.declared.tree.Node.{Node}
use Rattle.hept_ast.specs.declared.tree.UnaryOp.TheVariants.{Minus, Not}
use Rattle.hept_ast.specs.declared.tree.BinaryOp.TheVariants.{Or, And, Eq, Ne, Lt, Le, Gt, Ge}
use Rattle.hept_ast.specs.declared.tree.Plain.TheVariants.{Int, Bool as Truth_value}
use Rattle.hept_ast.specs.declared.tree.Tag.{Tag}
use Rattle.std.proofs.lemmas.Slice.Eq.{bytes_eq-Decides}
use Rattle.std.proofs.lemmas.Bool.Decides.{Decides-eqb}
use Rattle.hept_ast.specs.declared.tree.UnaryOp.{UnaryOp}
use Rattle.hept_ast.specs.declared.tree.BinaryOp.{BinaryOp}
use Rattle.hept_ast.proofs.ReadsOf.{reads-Var, reads-Unary, reads-Binary, reads-If, reads-Fby, reads-Arrow, reads-When, reads-Merge, reads-Call, reads-AsyncCall, reads-Get}

-- a form by its view
no_truth : false ≡ true → ⊥
no_truth h = cc

no_fit : {ts : List Ty} → Misfit ≡ Fits ts → ⊥
no_fit h = cc

untyped : {ts : List Ty} → Untyped ≡ Fits ts → ⊥
untyped h = cc

get_long : (u v : Ty) (us ts : List Ty) → get_fit ((u ∷ v ∷ us) ∷ []) ≡ Fits ts → Misfit ≡ Fits ts
get_long (ty.Plain t) v us ts h = h
get_long (ty.Future t) v us ts h = h

form_by : (f : Form) (v : Form-F Form Expr MergeBranch) → out-Form f ≡ v → f ≡ roll-Form v
form_by f v e = sym (roll-out-Form f) ∙ ap roll-Form e

reads_by : (e : Expr) (v : Form-F Form Expr MergeBranch) (g : Form) (xs : List Name) → out-Form e.form ≡ v → roll-Form v ≡ g → reads g ≡ xs → reads e.form ≡ xs
reads_by e v g xs h k l = ap reads (form_by e.form v h) ∙ ap reads k ∙ l

pub reads_variable : (e : Expr) (x : Name) → out-Form e.form ≡ Form-F.Var x → reads e.form ≡ x ∷ []
reads_variable e x h = reads_by e _ _ _ h (form.rolls-Var x) (reads-Var x)

pub reads_unary : (e a : Expr) (op : UnaryOp) → out-Form e.form ≡ Form-F.Unary op a → reads e.form ≡ reads a.form
reads_unary e a op h = reads_by e _ _ _ h (form.rolls-Unary op a) (reads-Unary op a)

pub reads_binary : (e a b : Expr) (op : BinaryOp) → out-Form e.form ≡ Form-F.Binary op a b → reads e.form ≡ reads a.form ++ reads b.form
reads_binary e a b op h = reads_by e _ _ _ h (form.rolls-Binary op a b) (reads-Binary op a b)

pub reads_if : (e i a b : Expr) → out-Form e.form ≡ Form-F.If i a b → reads e.form ≡ reads i.form ++ reads a.form ++ reads b.form
reads_if e i a b h = reads_by e _ _ _ h (form.rolls-If i a b) (reads-If i a b)

pub reads_fby : (e a b : Expr) → out-Form e.form ≡ Form-F.Fby a b → reads e.form ≡ reads a.form
reads_fby e a b h = reads_by e _ _ _ h (form.rolls-Fby a b) (reads-Fby a b)

pub reads_arrow : (e a b : Expr) → out-Form e.form ≡ Form-F.Arrow a b → reads e.form ≡ reads a.form ++ reads b.form
reads_arrow e a b h = reads_by e _ _ _ h (form.rolls-Arrow a b) (reads-Arrow a b)

pub reads_when : (e a : Expr) (tag : Tag) (x : Name) → out-Form e.form ≡ Form-F.When a tag x → reads e.form ≡ reads a.form ++ x ∷ []
reads_when e a tag x h = reads_by e _ _ _ h (form.rolls-When a tag x) (reads-When a tag x)

pub reads_merge : (e : Expr) (x : Name) (bs : List MergeBranch) → out-Form e.form ≡ Form-F.Merge x bs → reads e.form ≡ x ∷ flat_map (λ b. reads b.value.form) bs
reads_merge e x bs h = reads_by e _ _ _ h (form.rolls-Merge x bs) (reads-Merge x bs)

pub reads_call : (e : Expr) (f : Name) (args : List Expr) → out-Form e.form ≡ Form-F.Call f args → reads e.form ≡ flat_map (λ a. reads a.form) args
reads_call e f args h = reads_by e _ _ _ h (form.rolls-Call f args) (reads-Call f args)

pub reads_async_call : (e : Expr) (q : ℕ) (f : Name) (args : List Expr) → out-Form e.form ≡ Form-F.AsyncCall q f args → reads e.form ≡ flat_map (λ a. reads a.form) args
reads_async_call e q f args h = reads_by e _ _ _ h (form.rolls-AsyncCall q f args) (reads-AsyncCall q f args)

pub reads_get : (e a : Expr) → out-Form e.form ≡ Form-F.Get a → reads e.form ≡ reads a.form
reads_get e a h = reads_by e _ _ _ h (form.rolls-Get a) (reads-Get a)

-- ---- names among names

pub or_first : (a b : Bool) → a ≡ true → (a || b) ≡ true
or_first true b h = refl
or_first false b h = absurd (no_truth h)

pub or_second : (a b : Bool) → b ≡ true → (a || b) ≡ true
or_second true b h = refl
or_second false b h = h

pub or_parts : (a b : Bool) → (a || b) ≡ true → (a ≡ true) ⊎ (b ≡ true)
or_parts true b h = inl refl
or_parts false b h = inr h

pub and_parts : (a b : Bool) → (a && b) ≡ true → (a ≡ true) × (b ≡ true)
and_parts true b h = (refl, h)
and_parts false b h = absurd (no_truth h)

pub in_first : (x : Name) (xs : List Name) → is_in x (x ∷ xs) ≡ true
in_first x xs = or_first (same x x) (is_in x xs) ((bytes_eq-Decides x x).1 refl)

pub in_more : (y x : Name) (xs : List Name) → is_in y xs ≡ true → is_in y (x ∷ xs) ≡ true
in_more y x xs h = or_second (same y x) (is_in y xs) h

pub in_left : (y : Name) (xs ys : List Name) → is_in y xs ≡ true → is_in y (xs ++ ys) ≡ true
in_left y xs ys h = list_any-append (same y) xs ys ∙ or_first (is_in y xs) (is_in y ys) h

pub in_right : (y : Name) (xs ys : List Name) → is_in y ys ≡ true → is_in y (xs ++ ys) ≡ true
in_right y xs ys h = list_any-append (same y) xs ys ∙ or_second (is_in y xs) (is_in y ys) h

pub in_parts : (y : Name) (xs ys : List Name) → is_in y (xs ++ ys) ≡ true → (is_in y xs ≡ true) ⊎ (is_in y ys ≡ true)
in_parts y xs ys h = or_parts (is_in y xs) (is_in y ys) (sym (list_any-append (same y) xs ys) ∙ h)

-- ---- one type

pub record IsSingle (ts : List Ty) : Type 0 where
  pub type : Ty
  pub is : ts ≡ type ∷ []

abbrev pub AllSingle : List (List Ty) → Type 0
AllSingle [] = Unit {0}
AllSingle (ts ∷ tss) = IsSingle ts × AllSingle tss

long : (n : ℕ) → (suc (suc n) == 1) ≡ true → ⊥
long n h = let e : suc (suc n) ≡ 1 = (Decides-eqb _ _).0 h in omega arith

pub single_of : (ts : List Ty) → (length ts == 1) ≡ true → IsSingle ts
single_of [] h = absurd (no_truth h)
single_of (t ∷ []) h = record { type = t; is = refl }
single_of (t ∷ u ∷ ts) h = absurd (long (length ts) h)

single_like : (t : Ty) (us : List Ty) → same_types (t ∷ []) us ≡ true → IsSingle us
single_like t [] h = absurd (no_truth h)
single_like t (u ∷ []) h = record { type = u; is = refl }
single_like t (u ∷ v ∷ us) h = absurd (no_truth (and_parts (same_type t u) false h).1)

all_like : (t : Ty) (tss : List (List Ty)) → all_are (t ∷ []) tss ≡ true → AllSingle tss
all_like t [] h = tt
all_like t (ts ∷ tss) h = let k = and_parts (same_types (t ∷ []) ts) _ h in (single_like t ts k.0, all_like t tss k.1)

fits_parts : (b : Bool) (ts us : List Ty) → fits_if b ts ≡ Fits us → (b ≡ true) × (ts ≡ us)
fits_parts true ts us h = (refl, cc)
fits_parts false ts us h = absurd (no_fit h)

pub alike_single : (tss : List (List Ty)) (ts : List Ty) → alike tss ≡ Fits ts → AllSingle tss × IsSingle ts
alike_single [] ts h = absurd (untyped h)
alike_single (us ∷ tss) ts h =
    let k = fits_parts _ us ts h in
    let l = and_parts (length us == 1) (all_are us tss) k.0 in
    let o : IsSingle us = single_of us l.0 in
    ((o, all_like o.type tss (subst (λ (x : List Ty). all_are x tss ≡ true) o.is l.1)), subst (λ (x : List Ty). IsSingle x) k.1 o)

pub unary_single : (op : UnaryOp) (tss : List (List Ty)) (ts : List Ty) → unary_fit op tss ≡ Fits ts → AllSingle tss
unary_single Minus tss ts h = all_like (ty.Plain Int) tss (fits_parts _ _ ts h).0
unary_single Not tss ts h = all_like (ty.Plain Truth_value) tss (fits_parts _ _ ts h).0

pair_single : (tss : List (List Ty)) (ts : List Ty) → plain_pair tss ≡ Fits ts → AllSingle tss
pair_single [] ts h = absurd (untyped h)
pair_single (us ∷ tss) ts h =
    let k = and_parts (length us == 1 && list_all is_plain us) (all_are us tss) (fits_parts _ _ ts h).0 in
    let l = and_parts (length us == 1) (list_all is_plain us) k.0 in
    let o : IsSingle us = single_of us l.0 in
    (o, all_like o.type tss (subst (λ (x : List Ty). all_are x tss ≡ true) o.is k.1))

pub binary_single : (op : BinaryOp) (tss : List (List Ty)) (ts : List Ty) → binary_fit op tss ≡ Fits ts → AllSingle tss
binary_single Eq tss ts h = pair_single tss ts h
binary_single Ne tss ts h = pair_single tss ts h
binary_single Or tss ts h = all_like (ty.Plain Truth_value) tss (fits_parts _ _ ts h).0
binary_single And tss ts h = all_like (ty.Plain Truth_value) tss (fits_parts _ _ ts h).0
binary_single _ tss ts h = all_like (ty.Plain Int) tss (fits_parts _ _ ts h).0

if_next : (b : Bool) (tss : List (List Ty)) (ts : List Ty) → (if b then alike tss else Misfit) ≡ Fits ts → (b ≡ true) × (alike tss ≡ Fits ts)
if_next true tss ts h = (refl, h)
if_next false tss ts h = absurd (no_fit h)

pub if_single : (is : List Ty) (tss : List (List Ty)) (ts : List Ty) → if_fit (is ∷ tss) ≡ Fits ts → AllSingle (is ∷ tss)
if_single is tss ts h = let k = if_next (same_types bool is) tss ts h in (single_like (ty.Plain Truth_value) is k.0, (alike_single tss ts k.1).0)

each_single : (tss : List (List Ty)) → list_all (λ t. length t == 1) tss ≡ true → AllSingle tss
each_single [] h = tt
each_single (ts ∷ tss) h = let k = and_parts (length ts == 1) _ h in (single_of ts k.0, each_single tss k.1)

pub call_single : (g : Node) (tss : List (List Ty)) (ts : List Ty) → call_fit g tss ≡ Fits ts → AllSingle tss
call_single g tss ts h = each_single tss (and_parts _ (list_all (λ t. length t == 1) tss) (fits_parts _ _ ts h).0).1

async_next : (f : Fit) (ts : List Ty) → async_fit f ≡ Fits ts → (us : List Ty) × (f ≡ Fits us)
async_next (Fits us) ts h = (us, refl)
async_next Misfit ts h = absurd (no_fit h)
async_next Untyped ts h = absurd (untyped h)

pub async_single : (g : Node) (tss : List (List Ty)) (ts : List Ty) → async_fit (call_fit g tss) ≡ Fits ts → AllSingle tss
async_single g tss ts h = let k = async_next (call_fit g tss) ts h in call_single g tss k.0 k.1

pub get_single : (us ts : List Ty) → get_fit (us ∷ []) ≡ Fits ts → IsSingle us
get_single [] ts h = absurd (no_fit h)
get_single (u ∷ []) ts h = record { type = u; is = refl }
get_single (u ∷ v ∷ us) ts h = absurd (no_fit (get_long u v us ts h))

-- ---- what gives one type

one_by : (t : Ty) (ts : List Ty) → t ∷ [] ≡ ts → IsSingle ts
one_by t ts e = record { type = t; is = sym e }

pub unary_result : (op : UnaryOp) (tss : List (List Ty)) (ts : List Ty) → unary_fit op tss ≡ Fits ts → IsSingle ts
unary_result Minus tss ts h = one_by (ty.Plain Int) ts (fits_parts _ _ ts h).1
unary_result Not tss ts h = one_by (ty.Plain Truth_value) ts (fits_parts _ _ ts h).1

pair_result : (tss : List (List Ty)) (ts : List Ty) → plain_pair tss ≡ Fits ts → IsSingle ts
pair_result [] ts h = absurd (untyped h)
pair_result (us ∷ tss) ts h = one_by (ty.Plain Truth_value) ts (fits_parts _ _ ts h).1

pub binary_result : (op : BinaryOp) (tss : List (List Ty)) (ts : List Ty) → binary_fit op tss ≡ Fits ts → IsSingle ts
binary_result Eq tss ts h = pair_result tss ts h
binary_result Ne tss ts h = pair_result tss ts h
binary_result Or tss ts h = one_by (ty.Plain Truth_value) ts (fits_parts _ _ ts h).1
binary_result And tss ts h = one_by (ty.Plain Truth_value) ts (fits_parts _ _ ts h).1
binary_result Lt tss ts h = one_by (ty.Plain Truth_value) ts (fits_parts _ _ ts h).1
binary_result Le tss ts h = one_by (ty.Plain Truth_value) ts (fits_parts _ _ ts h).1
binary_result Gt tss ts h = one_by (ty.Plain Truth_value) ts (fits_parts _ _ ts h).1
binary_result Ge tss ts h = one_by (ty.Plain Truth_value) ts (fits_parts _ _ ts h).1
binary_result _ tss ts h = one_by (ty.Plain Int) ts (fits_parts _ _ ts h).1

pub if_result : (is : List Ty) (tss : List (List Ty)) (ts : List Ty) → if_fit (is ∷ tss) ≡ Fits ts → IsSingle ts
if_result is tss ts h = (alike_single tss ts (if_next (same_types bool is) tss ts h).1).1

pub get_result : (us ts : List Ty) → get_fit (us ∷ []) ≡ Fits ts → IsSingle ts
get_result [] ts h = absurd (no_fit h)
get_result (ty.Future t ∷ []) ts h = one_by (ty.Plain t) ts cc
get_result (ty.Plain t ∷ []) ts h = absurd (no_fit h)
get_result (u ∷ v ∷ us) ts h = absurd (no_fit (get_long u v us ts h))

-- ---- elements

pub contains_cases : {A : Type 0} (x : A) (xs : List A) (y : A) → Contains (x ∷ xs) y → (x ≡ y) ⊎ Contains xs y
contains_cases x xs y (zero, l, e) = inl e
contains_cases x xs y (suc k, l, e) = inr (k, omega arith, e)

pub contains_more : {A : Type 0} (x : A) (xs : List A) (y : A) → Contains xs y → Contains (x ∷ xs) y
contains_more x xs y (k, l, h) = (suc k, omega arith, h)

pub contains_first : {A : Type 0} (x y : A) (xs : List A) → x ≡ y → Contains (x ∷ xs) y
contains_first x y xs e = (zero, omega arith, e)

pub none_contained : {A : Type 0} (x : A) → Contains [] x → ⊥
none_contained x h = omega (arith, h.1)

pub contains_map : {A B : Type 0} (f : A → B) (xs : List A) (x : A) → Contains xs x → Contains (map f xs) (f x)
contains_map f [] x h = absurd (none_contained x h)
contains_map f (y ∷ xs) x h = split (λ i. contains_map f xs x i) (contains_cases y xs x h)
  where
    split : (Contains xs x → Contains (map f xs) (f x)) → (y ≡ x) ⊎ Contains xs x → Contains (f y ∷ map f xs) (f x)
    split next (inl e) = contains_first (f y) (f x) (map f xs) (ap f e)
    split next (inr i) = contains_more (f y) (map f xs) (f x) (next i)

pub in_flat : {A : Type 0} (f : A → List Name) (xs : List A) (a : A) (x : Name) → Contains xs a → is_in x (f a) ≡ true → is_in x (flat_map f xs) ≡ true
in_flat f [] a x h i = absurd (none_contained a h)
in_flat {A} f (y ∷ xs) a x h i = split (λ j. in_flat f xs a x j i) (contains_cases y xs a h)
  where
    split : (Contains xs a → is_in x (flat_map f xs) ≡ true) → (y ≡ a) ⊎ Contains xs a → is_in x (f y ++ flat_map f xs) ≡ true
    split next (inl e) = in_left x (f y) (flat_map f xs) (subst (λ (z : A). is_in x (f z) ≡ true) (sym e) i)
    split next (inr j) = in_right x (f y) (flat_map f xs) (next j)

pub never : {P : Type 0} (b : Bool) → b ≡ true → b ≡ false → P
never true h k = absurd (no_truth k)
  where
    no_truth : true ≡ false → ⊥
    no_truth h = cc
never false h k = absurd (no_truth h)
  where
    no_truth : false ≡ true → ⊥
    no_truth h = cc
