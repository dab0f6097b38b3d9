-- What an expression reads, by the view of its form, and lists of names.
use Rattle.std.proofs.Common.{◌≡◌, ◌⊎◌, inl, inr, ℕ, Bool, true, false, ◌||◌, List, [], ◌∷◌, ◌++◌, map, length, refl, sym, ap, subst, arith, ◌∙◌, ◌+◌, ◌-◌, take}
use Rattle.std.proofs.lemmas.List.{length_push}
use Rattle.std.proofs.Math.Seq.{take-append_seam}
use Rattle.hept_ast.specs.Scopes.{Clock}
use Rattle.hept_ast.specs.declared.tree.ClockStep.{ClockStep}
use Rattle.core_rules.proofs.Ends.{same_is, same_self}
use Rattle.core_facts.specs.Undefined.{Among, first, next}
use Rattle.std.specs.List.{flat_map}
use Rattle.std.proofs.lemmas.Bool.{false≢true}
use Rattle.std.proofs.lemmas.List.Folds.{list_any-append}
use Rattle.hept_ast.specs.Texts.{Name, same, is_in}
use Rattle.hept_ast.specs.Causal.{reads}
use Rattle.hept_ast.specs.declared.tree.Form.{Form, out-Form}
use Rattle.hept_ast.specs.declared.tree.Form.TheOpen.{Form-F}
use Rattle.hept_ast.specs.declared.tree.Form.TheViews.{roll-out-Form, roll-Form}
use Rattle.hept_ast.specs.declared.tree.Form.TheVariants as form
use Rattle.hept_ast.specs.declared.tree.Expr.{Expr}
use Rattle.hept_ast.specs.declared.tree.MergeBranch.{MergeBranch}
use Rattle.hept_ast.specs.declared.tree.Tag.{Tag}
use Rattle.hept_ast.specs.declared.tree.UnaryOp.{UnaryOp}
use Rattle.hept_ast.specs.declared.tree.BinaryOp.{BinaryOp}
use Rattle.hept_ast.proofs.ReadsOf.{reads-Var, reads-Unary, reads-Binary, reads-If, reads-Fby, reads-Arrow, reads-When, reads-Merge, reads-Call, reads-AsyncCall, reads-Get}

form_by : (f : Form) (v : Form-F Form Expr MergeBranch) → out-Form f ≡ v → f ≡ roll-Form v
form_by f v e = sym (roll-out-Form f) ∙ ap roll-Form e

reads_by : (e : Expr) (v : Form-F Form Expr MergeBranch) (g : Form) (xs : List Name) → out-Form e.form ≡ v → roll-Form v ≡ g → reads g ≡ xs → reads e.form ≡ xs
reads_by e v g xs h k l = ap reads (form_by e.form v h) ∙ ap reads k ∙ l

pub reads_variable : (e : Expr) (x : Name) → out-Form e.form ≡ Form-F.Var x → reads e.form ≡ x ∷ []
reads_variable e x h = reads_by e _ _ _ h (form.rolls-Var x) (reads-Var x)

pub reads_unary : (e a : Expr) (op : UnaryOp) → out-Form e.form ≡ Form-F.Unary op a → reads e.form ≡ reads a.form
reads_unary e a op h = reads_by e _ _ _ h (form.rolls-Unary op a) (reads-Unary op a)

pub reads_binary : (e a b : Expr) (op : BinaryOp) → out-Form e.form ≡ Form-F.Binary op a b → reads e.form ≡ reads a.form ++ reads b.form
reads_binary e a b op h = reads_by e _ _ _ h (form.rolls-Binary op a b) (reads-Binary op a b)

pub reads_if : (e i a b : Expr) → out-Form e.form ≡ Form-F.If i a b → reads e.form ≡ reads i.form ++ reads a.form ++ reads b.form
reads_if e i a b h = reads_by e _ _ _ h (form.rolls-If i a b) (reads-If i a b)

pub reads_fby : (e a b : Expr) → out-Form e.form ≡ Form-F.Fby a b → reads e.form ≡ reads a.form
reads_fby e a b h = reads_by e _ _ _ h (form.rolls-Fby a b) (reads-Fby a b)

pub reads_arrow : (e a b : Expr) → out-Form e.form ≡ Form-F.Arrow a b → reads e.form ≡ reads a.form ++ reads b.form
reads_arrow e a b h = reads_by e _ _ _ h (form.rolls-Arrow a b) (reads-Arrow a b)

pub reads_when : (e a : Expr) (tag : Tag) (x : Name) → out-Form e.form ≡ Form-F.When a tag x → reads e.form ≡ reads a.form ++ x ∷ []
reads_when e a tag x h = reads_by e _ _ _ h (form.rolls-When a tag x) (reads-When a tag x)

pub reads_merge : (e : Expr) (x : Name) (bs : List MergeBranch) → out-Form e.form ≡ Form-F.Merge x bs → reads e.form ≡ x ∷ flat_map (λ b. reads b.value.form) bs
reads_merge e x bs h = reads_by e _ _ _ h (form.rolls-Merge x bs) (reads-Merge x bs)

pub reads_call : (e : Expr) (f : Name) (args : List Expr) → out-Form e.form ≡ Form-F.Call f args → reads e.form ≡ flat_map (λ a. reads a.form) args
reads_call e f args h = reads_by e _ _ _ h (form.rolls-Call f args) (reads-Call f args)

pub reads_async_call : (e : Expr) (q : ℕ) (f : Name) (args : List Expr) → out-Form e.form ≡ Form-F.AsyncCall q f args → reads e.form ≡ flat_map (λ a. reads a.form) args
reads_async_call e q f args h = reads_by e _ _ _ h (form.rolls-AsyncCall q f args) (reads-AsyncCall q f args)

pub reads_get : (e a : Expr) → out-Form e.form ≡ Form-F.Get a → reads e.form ≡ reads a.form
reads_get e a h = reads_by e _ _ _ h (form.rolls-Get a) (reads-Get a)

-- ---- names among names

pub or_first : (a b : Bool) → a ≡ true → (a || b) ≡ true
or_first true b h = refl
or_first false b h = absurd (false≢true h)

pub or_second : (a b : Bool) → b ≡ true → (a || b) ≡ true
or_second true b h = refl
or_second false b h = h

or_cases : (b c : Bool) → (b || c) ≡ true → (b ≡ true) ⊎ (c ≡ true)
or_cases true c e = inl refl
or_cases false c e = inr e

pub in_first : (x : Name) (xs : List Name) → is_in x (x ∷ xs) ≡ true
in_first x xs = or_first (same x x) (is_in x xs) (same_self x)

pub in_more : (y x : Name) (xs : List Name) → is_in y xs ≡ true → is_in y (x ∷ xs) ≡ true
in_more y x xs h = or_second (same y x) (is_in y xs) h

pub in_left : (y : Name) (xs ys : List Name) → is_in y xs ≡ true → is_in y (xs ++ ys) ≡ true
in_left y xs ys h = list_any-append (same y) xs ys ∙ or_first (is_in y xs) (is_in y ys) h

pub in_right : (y : Name) (xs ys : List Name) → is_in y ys ≡ true → is_in y (xs ++ ys) ≡ true
in_right y xs ys h = list_any-append (same y) xs ys ∙ or_second (is_in y xs) (is_in y ys) h

pub in_either : (y : Name) (xs ys : List Name) → is_in y (xs ++ ys) ≡ true → (is_in y xs ≡ true) ⊎ (is_in y ys ≡ true)
in_either y xs ys h = or_cases (is_in y xs) (is_in y ys) (sym (list_any-append (same y) xs ys) ∙ h)

pub only : (y x : Name) → is_in y (x ∷ []) ≡ true → y ≡ x
only y x h = same_is y x (first_of_two (same y x) h)
  where
    first_of_two : (b : Bool) → b || false ≡ true → b ≡ true
    first_of_two true e = refl
    first_of_two false e = e

-- all names of a list
abbrev pub AllIn : (Name → Type 0) → List Name → Type 0
AllIn Q xs = (y : Name) → is_in y xs ≡ true → Q y

pub all_by : (Q : Name → Type 0) (xs ys : List Name) → xs ≡ ys → AllIn Q xs → AllIn Q ys
all_by Q xs ys e h = subst (λ (zs : List Name). AllIn Q zs) e h

pub all_first : (Q : Name → Type 0) (xs ys : List Name) → AllIn Q (xs ++ ys) → AllIn Q xs
all_first Q xs ys h y i = h y (in_left y xs ys i)

pub all_second : (Q : Name → Type 0) (xs ys : List Name) → AllIn Q (xs ++ ys) → AllIn Q ys
all_second Q xs ys h y i = h y (in_right y xs ys i)

-- ---- steps of clocks

abbrev pub step_names : Clock → List Name
step_names c = map (λ s. s.name) c

pub names_append : (c : Clock) (p : ClockStep) → step_names (c ++ p ∷ []) ≡ step_names c ++ p.name ∷ []
names_append [] p = refl
names_append (q ∷ c) p = ap (λ l. q.name ∷ l) (names_append c p)

pub take_last : (c : Clock) (x : ClockStep) → take (length (c ++ x ∷ []) - 1) (c ++ x ∷ []) ≡ c
take_last c x = ap (λ (n : ℕ). take n (c ++ x ∷ [])) (let e : length (c ++ x ∷ []) ≡ length c + 1 = length_push c x in omega arith) ∙ take-append_seam c (x ∷ [])

-- ---- lists of lists

pub among_left : {A : Type 0} (x : A) (xs ys : List A) → Among x xs → Among x (xs ++ ys)
among_left x _ ys first = first
among_left x _ ys (next {xs = xs} h) = next (among_left x xs ys h)

pub among_right : {A : Type 0} (x : A) (xs ys : List A) → Among x ys → Among x (xs ++ ys)
among_right x [] ys h = h
among_right x (y ∷ xs) ys h = next (among_right x xs ys h)

pub not_among : {A : Type 0} {P : Type 0} (x : A) (xs : List A) → xs ≡ [] → Among x xs → P
not_among x [] e h = elim h [ ]
not_among x (y ∷ xs) e h = absurd (no_list y xs e)
  where
    no_list : {A : Type 0} (z : A) (zs : List A) → z ∷ zs ≡ [] → ⊥
    no_list z zs f = cc
