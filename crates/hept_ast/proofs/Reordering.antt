-- The order of a core's equations doesn't matter: a proof by tied questions.
use Rattle.std.proofs.Common.{◌≡◌, ◌⊎◌, inl, inr, ℕ, zero, suc, ◌+◌, ◌≤◌, Bool, true, false, List, [], ◌∷◌, ◌++◌, Option, Some, None, length, map, refl, sym, ap, subst, arith, ◌∙◌, cond, zero-add}
use Rattle.std.specs.Prelude.{if◌then◌else◌, ◌==◌, slice_get, slice_index_or, count_by, All}
use Rattle.std.specs.List.{find}
use Rattle.std.specs.Option.{option_map}
use Rattle.std.specs.List.Sorted.{IsPermutation}
use Rattle.std.proofs.lemmas.List.Sums.{sum_by-cons}
use Rattle.std.proofs.lemmas.List.Sorted.{All-permutation, sum_by-IsPermutation}
use Rattle.hept_ast.specs.Texts.{Name, same, is_in, place_in, tag_value, branch_of, names}
use Rattle.hept_ast.specs.Scopes.{Clock, Text, Lowered, Scope, Top, Called, In_branch, In_state, Under, inputs_of, outputs_of, text_of, block_of, state_block, declared_in, node_decls, text_block, home, calls_around, equation_of}
use Rattle.hept_ast.specs.Meaning.{Question, Gives, Output, Variable, Last, Defined, Defines, Present, Active, Restarted, Active_state, Left_state, Answer, State_at, Rule, Reads, Setting, is_true, is_value, clock_in, clock_seen, clock_of_equation, steps_hold, before, merged, form_rule, output_rule, outputs_rule, reply_or, right_rule, defined_or_last, branch_rule, equation_rule, block_rule, defines_rule, core_rule, defined_rule, argument_rule, own_rule, variable_rule, initial_rule, last_rule, taken, from_pending, active_rule, some_true, restarted_rule, rule, answer_to, strong_of, weak_of, constant_of, if_present}
use Rattle.hept_ast.specs.Outputs.{Knows, HaveValues, OutputsFrom, Outputs}
use Rattle.hept_ast.specs.Settings.{of_core}
use Rattle.hept_ast.specs.Transfer.{Tracks, unknown, says, reads, asks}
use Rattle.hept_ast.specs.Reordering.{Reordered, ReorderedNodes, none, next, SameText, written, lowered, SameScope, top, called, branch, body, state, under, OrderIsFree}
use Rattle.hept_ast.specs.declared.tree.TypeDec.{TypeDec}
use Rattle.hept_ast.specs.declared.tree.Init.{Init}
use Rattle.hept_ast.specs.declared.tree.Decl.{Decl}
use Rattle.hept_ast.specs.declared.tree.Expr.{Expr}
use Rattle.hept_ast.specs.declared.tree.Form.{Form, out-Form}
use Rattle.hept_ast.specs.declared.tree.Form.TheOpen.{Form-F}
use Rattle.hept_ast.specs.declared.tree.MergeBranch.{MergeBranch}
use Rattle.hept_ast.specs.declared.tree.Escape.{Escape}
use Rattle.hept_ast.specs.declared.tree.Block.{Block}
use Rattle.hept_ast.specs.declared.tree.Branch.{Branch}
use Rattle.hept_ast.specs.declared.tree.State.{State}
use Rattle.hept_ast.specs.declared.tree.Equation.{Equation, out-Equation}
use Rattle.hept_ast.specs.declared.tree.Equation.TheOpen.{Equation-F}
use Rattle.hept_ast.specs.declared.tree.CoreEquation.{CoreEquation}
use Rattle.hept_ast.specs.declared.tree.CoreNode.{CoreNode}
use Rattle.hept_ast.proofs.Transfer.{transfer_tied, if_tracks, go_on_tracks, go_on_state_tracks, present_tracks, previous_tracks, count_tracks, defined_tracks}

-- ---- the equation that defines a name is the same in either order

pub all_cons : {A : Type 0} (P : A → Type 0) (x : A) (xs : List A) → P x → All P xs → All P (x ∷ xs)
all_cons P x xs h hs zero d k = h
all_cons P x xs h hs (suc n) d k = hs n d (omega arith)

pub all_head : {A : Type 0} (P : A → Type 0) (x : A) (xs : List A) → All P (x ∷ xs) → P x
all_head P x xs h = h 0 x (omega arith)

pub all_tail : {A : Type 0} (P : A → Type 0) (x : A) (xs : List A) → All P (x ∷ xs) → All P xs
all_tail P x xs h n d k = h (suc n) d (omega arith)

pub count_no : {A : Type 0} (p : A → Bool) (x : A) (xs : List A) → p x ≡ false → count_by p (x ∷ xs) ≡ count_by p xs
count_no p x xs e = sum_by-cons (λ y. cond (p y) 1 0) x xs ∙ ap (λ (b : Bool). cond b 1 0 + count_by p xs) e ∙ zero-add (count_by p xs)

pub count_yes : {A : Type 0} (p : A → Bool) (x : A) (xs : List A) → p x ≡ true → count_by p (x ∷ xs) ≡ 1 + count_by p xs
count_yes p x xs e = sum_by-cons (λ y. cond (p y) 1 0) x xs ∙ ap (λ (b : Bool). cond b 1 0 + count_by p xs) e

-- what a search comes to, where all elements have a property
found : {A : Type 0} (p : A → Bool) (P : A → Type 0) (xs : List A) → All P xs →
    ((count_by p xs ≡ 0) × (find p xs ≡ None)) ⊎ ((x : A) × (find p xs ≡ Some x) × (p x ≡ true) × P x)
found p P [] h = inl (refl, refl)
found p P (x ∷ xs) h = go (p x) refl (found p P xs (all_tail P x xs h))
  where
    go : (b : Bool) → p x ≡ b → ((count_by p xs ≡ 0) × (find p xs ≡ None)) ⊎ ((y : _) × (find p xs ≡ Some y) × (p y ≡ true) × P y) →
        ((count_by p (x ∷ xs) ≡ 0) × (find p (x ∷ xs) ≡ None)) ⊎ ((y : _) × (find p (x ∷ xs) ≡ Some y) × (p y ≡ true) × P y)
    go true e r = inr (x, rw e refl, e, all_head P x xs h)
    go false e (inl r) = inl (count_no p x xs e ∙ r.0, rw e r.1)
    go false e (inr r) = inr (r.0, rw e r.1, r.2, r.3)

all_map : {A : Type 0} (P Q : A → Type 0) (xs : List A) → ((x : A) → P x → Q x) → All P xs → All Q xs
all_map P Q xs f h n d k = f _ (h n d k)

none_pass : {A : Type 0} (p : A → Bool) (xs : List A) → count_by p xs ≡ 0 → All (λ x. p x ≡ false) xs
none_pass p [] h = λ n d k. absurd (omega arith)
none_pass p (x ∷ xs) h = go (p x) refl h (none_pass p xs)
  where
    go : (b : Bool) → p x ≡ b → count_by p (x ∷ xs) ≡ 0 → (count_by p xs ≡ 0 → All (λ y. p y ≡ false) xs) → All (λ y. p y ≡ false) (x ∷ xs)
    go true e h rest = let k : 1 + count_by p xs ≡ 0 = sym (count_yes p x xs e) ∙ h in absurd (omega arith)
    go false e h rest = all_cons (λ y. p y ≡ false) x xs e (rest (sym (count_no p x xs e) ∙ h))

found_none : {A : Type 0} (p : A → Bool) (xs : List A) → All (λ x. p x ≡ false) xs → (x : A) → find p xs ≡ Some x → p x ≡ true → ⊥
found_none p [] h x e k = cc
found_none p (y ∷ ys) h x e k = go (p y) refl e (λ f. found_none p ys (all_tail (λ z. p z ≡ false) y ys h) x f k)
  where
    go : (b : Bool) → p y ≡ b → find p (y ∷ ys) ≡ Some x → (find p ys ≡ Some x → ⊥) → ⊥
    go true f e rest = let no : p y ≡ false = all_head (λ z. p z ≡ false) y ys h in cc
    go false f e rest = rest (subst (λ (b : Bool). cond b (Some y) (find p ys) ≡ Some x) f e)

-- where at most one passes, any that passes is the one that is found
only_one : {A : Type 0} (p : A → Bool) (xs : List A) → count_by p xs ≤ 1 → All (λ x. p x ≡ true → find p xs ≡ Some x) xs
only_one p [] h = λ n d k. absurd (omega arith)
only_one p (x ∷ xs) h = go (p x) refl (only_one p xs)
  where
    go : (b : Bool) → p x ≡ b → (count_by p xs ≤ 1 → All (λ y. p y ≡ true → find p xs ≡ Some y) xs) → All (λ y. p y ≡ true → find p (x ∷ xs) ≡ Some y) (x ∷ xs)
    go true e rest =
        let few : 1 + count_by p xs ≤ 1 = subst (λ (n : ℕ). n ≤ 1) (count_yes p x xs e) h in
        all_cons (λ y. p y ≡ true → find p (x ∷ xs) ≡ Some y) x xs (λ k. rw e refl)
        (all_map (λ y. p y ≡ false) (λ y. p y ≡ true → find p (x ∷ xs) ≡ Some y) xs (λ y f k. cc) (none_pass p xs (omega arith)))
    go false e rest =
        let few : count_by p xs ≤ 1 = subst (λ (n : ℕ). n ≤ 1) (count_no p x xs e) h in
        all_cons (λ y. p y ≡ true → find p (x ∷ xs) ≡ Some y) x xs (λ k. cc)
        (all_map (λ y. p y ≡ true → find p xs ≡ Some y) (λ y. p y ≡ true → find p (x ∷ xs) ≡ Some y) xs (λ y f k. rw e (f k)) (rest few))

-- a search for what one at most passes finds the same in any order
pub find_permuted : {A : Type 0} (p : A → Bool) (xs ys : List A) → IsPermutation xs ys → count_by p xs ≤ 1 → find p ys ≡ find p xs
find_permuted p xs ys moved h =
    go (found p (λ x. p x ≡ true → find p xs ≡ Some x) ys (All-permutation (λ x. p x ≡ true → find p xs ≡ Some x) xs ys moved (only_one p xs h)))
    (found p (λ x. Unit {0}) xs (λ n d k. tt))
  where
    go : ((count_by p ys ≡ 0) × (find p ys ≡ None)) ⊎ ((x : _) × (find p ys ≡ Some x) × (p x ≡ true) × (p x ≡ true → find p xs ≡ Some x)) →
        ((count_by p xs ≡ 0) × (find p xs ≡ None)) ⊎ ((x : _) × (find p xs ≡ Some x) × (p x ≡ true) × Unit {0}) → find p ys ≡ find p xs
    go (inl r) (inl q) = r.1 ∙ sym q.1
    go (inr r) q = r.1 ∙ sym (r.3 r.2)
    go (inl r) (inr q) =
        let same : count_by p ys ≡ count_by p xs = sum_by-IsPermutation (λ x. cond (p x) 1 0) xs ys moved in
        let none : All (λ x. p x ≡ false) xs = none_pass p xs (sym same ∙ r.0) in
        absurd (found_none p xs none q.0 q.1 q.2)

-- ---- what ties two questions

pub data Same : Question → Question → Type 0 where
  gives : {e : Expr} {clock : Clock} {s r : Scope} {t : ℕ} → SameScope s r → Same (Gives e clock s t) (Gives e clock r t)
  output : {e : Expr} {j : ℕ} {clock : Clock} {s r : Scope} {t : ℕ} → SameScope s r → Same (Output e j clock s t) (Output e j clock r t)
  variable : {x : Name} {s r : Scope} {t : ℕ} → SameScope s r → Same (Variable x s t) (Variable x r t)
  last_of : {x : Name} {s r : Scope} {t : ℕ} → SameScope s r → Same (Last x s t) (Last x r t)
  defined : {x : Name} {s r : Scope} {t : ℕ} → SameScope s r → Same (Defined x s t) (Defined x r t)
  defines : {x : Name} {e : Equation} → Same (Defines x e) (Defines x e)
  present : {clock : Clock} {s r : Scope} {t : ℕ} → SameScope s r → Same (Present clock s t) (Present clock r t)
  active : {s r : Scope} {t : ℕ} → SameScope s r → Same (Active s t) (Active r t)
  restarted : {s r : Scope} {t : ℕ} → SameScope s r → Same (Restarted s t) (Restarted r t)
  active_state : {s r : Scope} {states : List State} {t : ℕ} → SameScope s r → Same (Active_state s states t) (Active_state r states t)
  left_state : {s r : Scope} {states : List State} {t : ℕ} → SameScope s r → Same (Left_state s states t) (Left_state r states t)

-- ---- what tied texts and scopes share

pub equation_same : (node other : CoreNode) → Reordered node other → (x : Name) → equation_of other x ≡ equation_of node x
equation_same node other h x = find_permuted (λ e. is_in x e.left) node.equations other.equations h.equations (h.once x)

inputs_same : (text other : Text) → SameText text other → inputs_of other ≡ inputs_of text
inputs_same _ _ written = refl
inputs_same _ _ (lowered h) = ap names h.inputs

outputs_same : (text other : Text) → SameText text other → outputs_of other ≡ outputs_of text
outputs_same _ _ written = refl
outputs_same _ _ (lowered h) = ap names h.outputs

decls_same : (text other : Text) → SameText text other → node_decls other ≡ node_decls text
decls_same _ _ written = refl
decls_same _ _ (lowered h) = rw h.inputs (rw h.outputs (rw h.locals refl))

text_block_same : (text other : Text) → SameText text other → text_block other ≡ text_block text
text_block_same _ _ written = refl
text_block_same _ _ (lowered h) = refl

pub text_same : (s r : Scope) → SameScope s r → SameText (text_of s) (text_of r)
text_same _ _ (top h) = h
text_same _ _ (called h k) = k
text_same _ _ (branch h) = text_same _ _ h
text_same _ _ (body h) = text_same _ _ h
text_same _ _ (state h) = text_same _ _ h
text_same _ _ (under h) = text_same _ _ h

pub block_same : (s r : Scope) → SameScope s r → block_of r ≡ block_of s
block_same _ _ (top h) = text_block_same _ _ h
block_same _ _ (called h k) = text_block_same _ _ k
block_same _ _ (branch h) = refl
block_same _ _ (body h) = refl
block_same _ _ (state h) = refl
block_same _ _ (under h) = refl

declared_same : (s r : Scope) → SameScope s r → declared_in r ≡ declared_in s
declared_same _ _ (top h) = decls_same _ _ h
declared_same _ _ (called h k) = decls_same _ _ k
declared_same _ _ (branch h) = refl
declared_same _ _ (body h) = refl
declared_same _ _ (state h) = refl
declared_same _ _ (under h) = refl

pub calls_same : (s r : Scope) → SameScope s r → calls_around r ≡ calls_around s
calls_same _ _ (top h) = refl
calls_same _ _ (called {place = p} h k) = ap (λ (ps : List ℕ). ps ++ p ∷ []) (calls_same _ _ h)
calls_same _ _ (branch h) = calls_same _ _ h
calls_same _ _ (body h) = calls_same _ _ h
calls_same _ _ (state h) = calls_same _ _ h
calls_same _ _ (under h) = calls_same _ _ h

if_same : (b : Bool) {s t r u : Scope} → SameScope s r → SameScope t u → SameScope (if b then s else t) (if b then r else u)
if_same true h k = h
if_same false h k = k

home_same : (x : Name) (s r : Scope) → SameScope s r → SameScope (home x s) (home x r)
home_same x _ _ (top h) = top h
home_same x _ _ (called h k) = called h k
home_same x _ _ (branch {b = b} h) = if_same (is_in x (names b.block.locals)) (branch h) (home_same x _ _ h)
home_same x _ _ (body {block = b} h) = if_same (is_in x (names b.locals)) (body h) (home_same x _ _ h)
home_same x _ _ (state {states = states} {k = k} h) = if_same (is_in x (names (state_block states k).locals)) (state h) (home_same x _ _ h)
home_same x _ _ (under h) = home_same x _ _ h

-- ---- settings whose nodes are tied

pub data SameOption : Option Text → Option Text → Type 0 where
  neither : SameOption None None
  both : {text other : Text} → SameText text other → SameOption (Some text) (Some other)

module _ (w : Setting) (node : Name → Option Text) (same_node : (x : Name) → SameOption (w.node x) (node x)) where
  abbrev v : Setting
  v = record w { node = node }

  clock_of_text : (text other : Text) → SameText text other → (x : Name) → clock_in v other x ≡ clock_in w text x
  clock_of_text _ _ written x = refl
  clock_of_text (Lowered n) (Lowered m) (lowered h) x = ap clock_of_equation (equation_same n m h x)

  clock_same : (s r : Scope) → SameScope s r → (x : Name) → clock_in v (text_of r) x ≡ clock_in w (text_of s) x
  clock_same s r h x = clock_of_text (text_of s) (text_of r) (text_same s r h) x

  either_clock : (b c : Bool) (p q r u : Clock) → b ≡ c → p ≡ q → r ≡ u → (if b then p else r) ≡ (if c then q else u)
  either_clock b c p q r u e f g = rw e (rw f (rw g refl))

  pub seen_same : (x : Name) (s r : Scope) → SameScope s r → clock_seen v x r ≡ clock_seen w x s
  seen_same x _ _ (top {text = t} {other = u} h) = either_clock _ _ _ _ [] [] (ap (λ (ds : List Decl). is_in x (names ds)) (decls_same t u h)) (clock_of_text t u h x) refl
  seen_same x _ _ (called {text = t} {other = u} h k) = either_clock _ _ _ _ [] [] (ap (λ (ds : List Decl). is_in x (names ds)) (decls_same t u k)) (clock_of_text t u k x) refl
  seen_same x _ _ (branch {s = s} {r = r} h) = either_clock _ _ _ _ [] [] refl (clock_same s r h x) refl
  seen_same x _ _ (body {s = s} {r = r} h) = either_clock _ _ _ _ _ _ refl (clock_same s r h x) (seen_same x s r h)
  seen_same x _ _ (state {s = s} {r = r} h) = either_clock _ _ _ _ [] [] refl (clock_same s r h x) refl
  seen_same x _ _ (under {s = s} {r = r} h) = either_clock false false (clock_in v (text_of r) x) (clock_in w (text_of s) x) [] [] refl (clock_same s r h x) refl

  -- ---- each rule tracks its own

  steps_tracks : (clock : Clock) (s r : Scope) (t : ℕ) → SameScope s r → Tracks Same (steps_hold w clock s t) (steps_hold v clock r t)
  steps_tracks [] s r t h = says
  steps_tracks (step ∷ steps) s r t h = asks (variable h) (λ a. if_tracks (is_value (tag_value w.types step.tag) a) (steps_tracks steps s r t h) says)

  before_tracks : (clock : Clock) (s r : Scope) (t : ℕ) {go go' : ℕ → Rule} {none none' : Rule} → SameScope s r →
      ((p : ℕ) → Tracks Same (go p) (go' p)) → Tracks Same none none' → Tracks Same (before w clock s t go none) (before v clock r t go' none')
  before_tracks clock s r t h f g =
      previous_tracks (λ p. Present clock s p) (λ p. Restarted s p) (λ p. Present clock r p) (λ p. Restarted r p) t (λ p. present h) (λ p. restarted h) f g

  merged_tracks : (b : Option MergeBranch) (x : Name) (clock : Clock) (s r : Scope) (t : ℕ) → SameScope s r → Tracks Same (merged w b x clock s t) (merged v b x clock r t)
  merged_tracks None x clock s r t h = unknown
  merged_tracks (Some b) x clock s r t h = asks (gives h) (λ a. says)

  form_tracks : (f : Form-F Form Expr MergeBranch) (e : Expr) (clock : Clock) (s r : Scope) (t : ℕ) → SameScope s r →
      Tracks Same (form_rule w f e clock s t) (form_rule v f e clock r t)
  form_tracks (Form-F.Const k) e clock s r t h = says
  form_tracks (Form-F.Var x) e clock s r t h = asks (variable h) (λ a. says)
  form_tracks (Form-F.Last x) e clock s r t h = asks (last_of h) (λ a. says)
  form_tracks (Form-F.Unary op a) e clock s r t h = asks (gives h) (λ b. go_on_tracks b (λ v. says))
  form_tracks (Form-F.Binary op a b) e clock s r t h = asks (gives h) (λ c. go_on_tracks c (λ u. asks (gives h) (λ d. go_on_tracks d (λ v. says))))
  form_tracks (Form-F.If c a b) e clock s r t h =
      asks (gives h) (λ x. go_on_tracks x (λ k. asks (gives h) (λ y. go_on_tracks y (λ u. asks (gives h) (λ z. go_on_tracks z (λ v. says))))))
  form_tracks (Form-F.Fby a b) e clock s r t h = before_tracks clock s r t h (λ p. asks (gives h) (λ x. says)) (asks (gives h) (λ x. says))
  form_tracks (Form-F.Pre a) e clock s r t h = before_tracks clock s r t h (λ p. asks (gives h) (λ x. says)) says
  form_tracks (Form-F.Arrow a b) e clock s r t h = before_tracks clock s r t h (λ p. asks (gives h) (λ x. says)) (asks (gives h) (λ x. says))
  form_tracks (Form-F.When a tag x) e clock s r t h = asks (gives h) (λ b. says)
  form_tracks (Form-F.Merge x branches) e clock s r t h =
      asks (variable h) (λ a. go_on_tracks a (λ v. merged_tracks (find (λ b. tag_value w.types b.tag == v) branches) x clock s r t h))
  form_tracks (Form-F.Call f args) e clock s r t h = asks (output h) (λ a. says)
  form_tracks (Form-F.AsyncCall q f args) e clock s r t h = asks (output h) (λ a. says)
  form_tracks (Form-F.AsyncConst k) e clock s r t h = says
  form_tracks (Form-F.Get a) e clock s r t h = asks (gives h) (λ b. says)

  -- ---- calls

  pub data SameCall : Option (List Expr × Text) → Option (List Expr × Text) → Type 0 where
    no_call : SameCall None None
    a_call : {args : List Expr} {text other : Text} → SameText text other → SameCall (Some (args, text)) (Some (args, other))

  pub call_text : (args : List Expr) (o p : Option Text) → SameOption o p → SameCall (option_map (λ text. (args, text)) o) (option_map (λ text. (args, text)) p)
  call_text args _ _ neither = no_call
  call_text args _ _ (both h) = a_call h

  reply_tracks : (o : Option (List ℕ)) (j : ℕ) {d e : Rule} → Tracks Same d e → Tracks Same (reply_or w o j d) (reply_or v o j e)
  reply_tracks None j h = h
  reply_tracks (Some outs) j h = says

  output_tracks : (o p : Option (List Expr × Text)) (place j : ℕ) (clock : Clock) (s r : Scope) (t : ℕ) → SameCall o p → SameScope s r →
      Tracks Same (output_rule w o place j clock s t) (output_rule v p place j clock r t)
  output_tracks _ _ place j clock s r t no_call h = unknown
  output_tracks _ _ place j clock s r t (a_call {args = args} {text = text} {other = other} k) h =
      count_tracks (λ p. Present clock s p) (λ p. Present clock r p) t _ _ (λ p. present h) (λ n.
      subst (λ (path : List ℕ). Tracks Same (reply_or w (w.replies (calls_around s ++ place ∷ []) n) j (answer_to (Variable (slice_index_or (outputs_of text) j []) (Called s clock place args text) t)))
      (reply_or v (w.replies (path ++ place ∷ []) n) j (answer_to (Variable (slice_index_or (outputs_of other) j []) (Called r clock place args other) t))))
      (sym (calls_same s r h))
      (subst (λ (xs : List Name). Tracks Same (reply_or w (w.replies (calls_around s ++ place ∷ []) n) j (answer_to (Variable (slice_index_or (outputs_of text) j []) (Called s clock place args text) t)))
      (reply_or v (w.replies (calls_around s ++ place ∷ []) n) j (answer_to (Variable (slice_index_or xs j []) (Called r clock place args other) t))))
      (sym (outputs_same text other k))
      (reply_tracks (w.replies (calls_around s ++ place ∷ []) n) j (asks (variable (called h k)) (λ a. says)))))

  outputs_tracks : (f : Form-F Form Expr MergeBranch) (e : Expr) (j : ℕ) (clock : Clock) (s r : Scope) (t : ℕ) → SameScope s r →
      Tracks Same (outputs_rule w f e j clock s t) (outputs_rule v f e j clock r t)
  outputs_tracks (Form-F.Get a) e j clock s r t h = asks (output h) (λ x. says)
  outputs_tracks (Form-F.Call f args) e j clock s r t h = output_tracks _ _ e.place.0 j clock s r t (call_text args _ _ (same_node f)) h
  outputs_tracks (Form-F.AsyncCall q f args) e j clock s r t h = output_tracks _ _ e.place.0 j clock s r t (call_text args _ _ (same_node f)) h
  outputs_tracks _ e j clock s r t h = unknown

  -- ---- variables

  right_tracks : (left : List Name) (right : Expr) (x : Name) (clock : Clock) (s r : Scope) (t : ℕ) → SameScope s r →
      Tracks Same (right_rule w left right x clock s t) (right_rule v left right x clock r t)
  right_tracks left right x clock s r t h = if_tracks (length left == 1) (asks (gives h) (λ a. says)) (asks (output h) (λ a. says))

  last_or_tracks : (b : Block) (x : Name) (i o i' o' : Scope) (t : ℕ) → SameScope i i' → SameScope o o' →
      Tracks Same (defined_or_last w b x i o t) (defined_or_last v b x i' o' t)
  last_or_tracks b x i o i' o' t h k = defined_tracks x b.body (λ e. defines) (λ yes. if_tracks yes (asks (defined h) (λ a. says)) (asks (last_of k) (λ a. says)))

  branch_tracks : (b : Option Branch) (on : Expr) (x : Name) (s r : Scope) (t : ℕ) → SameScope s r → Tracks Same (branch_rule w b on x s t) (branch_rule v b on x r t)
  branch_tracks None on x s r t h = unknown
  branch_tracks (Some b) on x s r t h = last_or_tracks b.block x (In_branch s on b) s (In_branch r on b) r t (branch h) h

  equation_tracks : (f : Equation-F Equation Block Branch State) (x : Name) (s r : Scope) (t : ℕ) → SameScope s r →
      Tracks Same (equation_rule w f x s t) (equation_rule v f x r t)
  equation_tracks (Equation-F.Define p left right) x s r t h =
      subst (λ (c : Clock). Tracks Same (right_rule w left right x (clock_seen w x s) s t) (right_rule v left right x c r t)) (sym (seen_same x s r h))
      (right_tracks left right x (clock_seen w x s) s r t h)
  equation_tracks (Equation-F.Switch p on branches) x s r t h = asks (gives h) (λ a. go_on_tracks a (λ v. branch_tracks (branch_of w.types v branches) on x s r t h))
  equation_tracks (Equation-F.Reset p block every) x s r t h = asks (defined (body h)) (λ a. says)
  equation_tracks (Equation-F.Automaton p states) x s r t h =
      asks (active_state h) (λ a. go_on_state_tracks a (λ k m. last_or_tracks (state_block states k) x (In_state s states k) s (In_state r states k) r t (state h) h))

  block_tracks : (es : List Equation) (x : Name) (s r : Scope) (t : ℕ) → SameScope s r → Tracks Same (block_rule w es x s t) (block_rule v es x r t)
  block_tracks [] x s r t h = unknown
  block_tracks (e ∷ es) x s r t h = asks defines (λ a. if_tracks (is_true a) (equation_tracks (out-Equation e) x s r t h) (block_tracks es x s r t h))

  defines_tracks : (f : Equation-F Equation Block Branch State) (x : Name) → Tracks Same (defines_rule w f x) (defines_rule v f x)
  defines_tracks (Equation-F.Define p left right) x = says
  defines_tracks (Equation-F.Switch p on branches) x = defined_tracks x _ (λ e. defines) (λ b. says)
  defines_tracks (Equation-F.Reset p block every) x = defined_tracks x _ (λ e. defines) (λ b. says)
  defines_tracks (Equation-F.Automaton p states) x = defined_tracks x _ (λ e. defines) (λ b. says)

  core_tracks : (e : Option CoreEquation) (x : Name) (s r : Scope) (t : ℕ) → SameScope s r → Tracks Same (core_rule w e x s t) (core_rule v e x r t)
  core_tracks None x s r t h = unknown
  core_tracks (Some e) x s r t h = right_tracks e.left e.right x e.clock.steps (Under s e.resets) (Under r e.resets) t (under h)

  text_tracks : (text other : Text) (x : Name) (s r : Scope) (t : ℕ) → SameText text other → SameScope s r → Tracks Same (defined_rule w text x s t) (defined_rule v other x r t)
  text_tracks _ _ x s r t written h =
      subst (λ (b : Block). Tracks Same (block_rule w (block_of s).body x s t) (block_rule v b.body x r t)) (sym (block_same s r h)) (block_tracks (block_of s).body x s r t h)
  text_tracks (Lowered n) (Lowered m) x s r t (lowered k) h =
      subst (λ (e : Option CoreEquation). Tracks Same (core_rule w (equation_of n x) x s t) (core_rule v e x r t)) (sym (equation_same n m k x)) (core_tracks (equation_of n x) x s r t h)

  argument_tracks : (e : Option Expr) (clock : Clock) (s r : Scope) (t : ℕ) → SameScope s r → Tracks Same (argument_rule w e clock s t) (argument_rule v e clock r t)
  argument_tracks None clock s r t h = unknown
  argument_tracks (Some e) clock s r t h = asks (gives h) (λ a. says)

  own_tracks : (s r : Scope) (x : Name) (t : ℕ) → SameScope s r → Tracks Same (own_rule w s x t) (own_rule v r x t)
  own_tracks _ _ x t (top {text = text} {other = other} h) =
      subst (λ (xs : List Name). Tracks Same (own_rule w (Top text) x t) (if is_in x xs then Reads t (place_in x xs) else answer_to (Defined x (Top other) t)))
      (sym (inputs_same text other h)) (if_tracks (is_in x (inputs_of text)) reads (asks (defined (top h)) (λ a. says)))
  own_tracks _ _ x t (called {s = s} {r = r} {clock = clock} {place = place} {args = args} {text = text} {other = other} h k) =
      subst (λ (xs : List Name). Tracks Same (own_rule w (Called s clock place args text) x t)
      (if is_in x xs then argument_rule v (slice_get args (place_in x xs)) clock r t else answer_to (Defined x (Called r clock place args other) t)))
      (sym (inputs_same text other k))
      (if_tracks (is_in x (inputs_of text)) (argument_tracks (slice_get args (place_in x (inputs_of text))) clock s r t h) (asks (defined (called h k)) (λ a. says)))
  own_tracks _ _ x t (branch h) = asks (defined (branch h)) (λ a. says)
  own_tracks _ _ x t (body h) = asks (defined (body h)) (λ a. says)
  own_tracks _ _ x t (state h) = asks (defined (state h)) (λ a. says)
  own_tracks _ _ x t (under h) = asks (defined (under h)) (λ a. says)

  variable_tracks : (x : Name) (s r : Scope) (t : ℕ) → SameScope s r → Tracks Same (variable_rule w x s t) (variable_rule v x r t)
  variable_tracks x s r t h =
      subst (λ (c : Clock). Tracks Same (variable_rule w x s t) (if_present (Present c r t) (own_rule v r x t))) (sym (clock_same s r h x))
      (present_tracks _ _ (present h) (own_tracks s r x t h))

  last_tracks : (x : Name) (s r : Scope) (t : ℕ) → SameScope s r → Tracks Same (last_rule w x s t) (last_rule v x r t)
  last_tracks x s r t h = previous_tracks (λ p. Active s p) (λ p. Restarted s p) (λ p. Active r p) (λ p. Restarted r p) t (λ p. active h) (λ p. restarted h) (λ p. asks (variable h) (λ a. says))
      (subst (λ (ds : List Decl). Tracks Same (initial_rule w (find (λ d. same x d.name) (declared_in s))) (initial_rule v (find (λ d. same x d.name) ds))) (sym (declared_same s r h))
      (initial_tracks (find (λ d. same x d.name) (declared_in s))))
    where
      constant_tracks : (i : Option Init) → Tracks Same (constant_of w i) (constant_of v i)
      constant_tracks None = unknown
      constant_tracks (Some i) = says

      initial_tracks : (d : Option Decl) → Tracks Same (initial_rule w d) (initial_rule v d)
      initial_tracks None = unknown
      initial_tracks (Some d) = constant_tracks d.init

  -- ---- automata and scopes

  taken_tracks : (es : List Escape) (states : List State) (otherwise : Answer) (s r : Scope) (t : ℕ) → SameScope s r →
      Tracks Same (taken w es states otherwise s t) (taken v es states otherwise r t)
  taken_tracks [] states otherwise s r t h = says
  taken_tracks (e ∷ es) states otherwise s r t h = asks (gives h) (λ a. if_tracks (is_true a) says (taken_tracks es states otherwise s r t h))

  pending_tracks : (s r : Scope) (states : List State) (t k : ℕ) (m : Bool) → SameScope s r → Tracks Same (from_pending w s states t k m) (from_pending v r states t k m)
  pending_tracks s r states t k m h = go (slice_get states k)
    where
      go : (q : Option State) → Tracks Same (taken w (strong_of w q) states (State_at k m) s t) (taken v (strong_of v q) states (State_at k m) r t)
      go None = says
      go (Some q) = taken_tracks q.strong states _ s r t h

  left_tracks : (s r : Scope) (states : List State) (t k : ℕ) → SameScope s r →
      (q : Option State) → Tracks Same (taken w (weak_of w q) states (State_at k false) s t) (taken v (weak_of v q) states (State_at k false) r t)
  left_tracks s r states t k h None = says
  left_tracks s r states t k h (Some q) = taken_tracks q.weak states _ s r t h

  active_tracks : (s r : Scope) (t : ℕ) → SameScope s r → Tracks Same (active_rule w s t) (active_rule v r t)
  active_tracks _ _ t (top h) = says
  active_tracks _ _ t (called h k) = asks (present h) (λ a. says)
  active_tracks _ _ t (branch h) = asks (gives h) (λ a. says)
  active_tracks _ _ t (body h) = asks (active h) (λ a. says)
  active_tracks _ _ t (state h) = asks (active_state h) (λ a. says)
  active_tracks _ _ t (under h) = asks (active h) (λ a. says)

  some_tracks : (xs : List Name) (s r : Scope) (t : ℕ) → SameScope s r → Tracks Same (some_true w xs s t) (some_true v xs r t)
  some_tracks [] s r t h = says
  some_tracks (x ∷ xs) s r t h = asks (variable h) (λ a. if_tracks (is_true a) says (some_tracks xs s r t h))

  restarted_tracks : (s r : Scope) (t : ℕ) → SameScope s r → Tracks Same (restarted_rule w s t) (restarted_rule v r t)
  restarted_tracks _ _ t (top h) = says
  restarted_tracks _ _ t (called h k) = asks (restarted h) (λ a. says)
  restarted_tracks _ _ t (branch h) = asks (restarted h) (λ a. says)
  restarted_tracks _ _ t (body h) = asks (restarted h) (λ a. if_tracks (is_true a) says (asks (gives h) (λ b. says)))
  restarted_tracks _ _ t (state h) = asks (restarted h) (λ a. if_tracks (is_true a) says (asks (active_state h) (λ b. says)))
  restarted_tracks _ _ t (under {s = s} {r = r} {resets = resets} h) = asks (restarted h) (λ a. if_tracks (is_true a) says (some_tracks resets s r t h))

  same_tracks : (q p : Question) → Same q p → Tracks Same (rule w q) (rule v p)
  same_tracks _ _ (gives {e = e} {clock = clock} {s = s} {r = r} {t = t} h) = present_tracks _ _ (present h) (form_tracks (out-Form e.form) e clock s r t h)
  same_tracks _ _ (output {e = e} {j = j} {clock = clock} {s = s} {r = r} {t = t} h) =
      present_tracks _ _ (present h) (outputs_tracks (out-Form e.form) e j clock s r t h)
  same_tracks _ _ (variable {x = x} {s = s} {r = r} {t = t} h) = variable_tracks x _ _ t (home_same x s r h)
  same_tracks _ _ (last_of {x = x} {s = s} {r = r} {t = t} h) = last_tracks x _ _ t (home_same x s r h)
  same_tracks _ _ (defined {x = x} {s = s} {r = r} {t = t} h) = text_tracks (text_of s) (text_of r) x s r t (text_same s r h) h
  same_tracks _ _ (defines {x = x} {e = e}) = defines_tracks (out-Equation e) x
  same_tracks _ _ (present {clock = clock} {s = s} {r = r} {t = t} h) = asks (active h) (λ a. if_tracks (is_true a) (steps_tracks clock s r t h) says)
  same_tracks _ _ (active {s = s} {r = r} {t = t} h) = active_tracks s r t h
  same_tracks _ _ (restarted {s = s} {r = r} {t = t} h) = restarted_tracks s r t h
  same_tracks _ _ (active_state {s = s} {r = r} {states = states} {t = t} h) =
      present_tracks _ _ (active h) (previous_tracks (λ p. Active s p) (λ p. Restarted s p) (λ p. Active r p) (λ p. Restarted r p) t (λ p. active h) (λ p. restarted h)
      (λ p. asks (left_state h) (λ a. go_on_state_tracks a (λ k m. pending_tracks s r states t k m h))) (pending_tracks s r states t 0 false h))
  same_tracks _ _ (left_state {s = s} {r = r} {states = states} {t = t} h) =
      asks (active_state h) (λ a. go_on_state_tracks a (λ k m. left_tracks (In_state s states k) (In_state r states k) states t k (state h) (slice_get states k)))

  -- what is known of a question is known of each that is tied to it
  pub same_knows : (rows : List (List ℕ)) (q p : Question) (a : Answer) → Same q p → Knows w rows q a → Knows v rows p a
  same_knows rows q p a h k = transfer_tied w v rows Same same_tracks q p a h k

  same_values : (rows : List (List ℕ)) (text other : Text) (t : ℕ) → SameText text other → (xs : List Name) (vs : List ℕ) →
      HaveValues w rows (map (λ x. Variable x (Top text) t) xs) vs → HaveValues v rows (map (λ x. Variable x (Top other) t) xs) vs
  same_values rows text other t h [] [] k = tt
  same_values rows text other t h [] (u ∷ vs) k = elim k [ ]
  same_values rows text other t h (x ∷ xs) [] k = elim k [ ]
  same_values rows text other t h (x ∷ xs) (u ∷ vs) k = (same_knows rows _ _ _ (variable (top h)) k.0, same_values rows text other t h xs vs k.1)

  same_outputs : (rows : List (List ℕ)) (text other : Text) (t : ℕ) → SameText text other → (left outs : List (List ℕ)) →
      OutputsFrom w rows text t left outs → OutputsFrom v rows other t left outs
  same_outputs rows text other t h [] [] k = tt
  same_outputs rows text other t h [] (out ∷ outs) k = elim k [ ]
  same_outputs rows text other t h (row ∷ left) [] k = elim k [ ]
  same_outputs rows text other t h (row ∷ left) (out ∷ outs) k = (
    subst (λ (xs : List Name). HaveValues v rows (map (λ x. Variable x (Top other) t) xs) out) (sym (outputs_same text other h)) (same_values rows text other t h (outputs_of text) out k.0),
    same_outputs rows text other (suc t) h left outs k.1,
  )

-- ---- cores

pub lowered_same : (nodes others : List CoreNode) → ReorderedNodes nodes others → (x : Name) →
    SameOption (option_map Lowered (find (λ n. same x n.name) nodes)) (option_map Lowered (find (λ n. same x n.name) others))
lowered_same _ _ none x = neither
lowered_same _ _ (next {node = n} {other = m} {nodes = ns} {others = ms} h k) x =
    subst (λ (y : Name). SameOption (option_map Lowered (cond (same x n.name) (Some n) (find (λ o. same x o.name) ns))) (option_map Lowered (cond (same x y) (Some m) (find (λ o. same x o.name) ms))))
    (sym h.name) (go (same x n.name) _ _ (lowered_same ns ms k x))
  where
    go : (b : Bool) (o p : Option CoreNode) → SameOption (option_map Lowered o) (option_map Lowered p) → SameOption (option_map Lowered (cond b (Some n) o)) (option_map Lowered (cond b (Some m) p))
    go true o p f = both (lowered h)
    go false o p f = f

pub order_is_free : OrderIsFree
order_is_free core other marked replies node moved rows outs h k outputs =
    let there : Outputs (record (of_core core marked replies) { node = λ x. option_map Lowered (find (λ n. same x n.name) other.nodes) }) (Lowered moved) rows outs
    = same_outputs (of_core core marked replies) (λ x. option_map Lowered (find (λ n. same x n.name) other.nodes)) (lowered_same core.nodes other.nodes h.nodes)
    rows (Lowered node) (Lowered moved) 0 (lowered k) rows outs outputs in
    subst (λ (types : List TypeDec). Outputs (record (of_core core marked replies) { types = types; node = λ x. option_map Lowered (find (λ n. same x n.name) other.nodes) }) (Lowered moved) rows outs)
    (sym h.types) there
