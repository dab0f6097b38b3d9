-- Which questions about both cores are tied, and that their rules go alike.
use Rattle.std.proofs.Common.{◌≡◌, ◌==◌, ◌-◌, ◌⊎◌, inl, inr, ℕ, zero, suc, Bool, true, false, cond, List, [], ◌∷◌, ◌++◌, Option, Some, None, length, refl, sym, IsTrue, ap, subst}
use Rattle.std.specs.Prelude.{if◌then◌else◌, slice_get, slice_index_or}
use Rattle.std.specs.List.{find}
use Rattle.std.specs.Option.{option_map}
use Rattle.std.proofs.lemmas.Bool.{false≢true}
use Rattle.hept_ast.specs.Texts.{Name, same, is_in, place_in, tag_value}
use Rattle.hept_ast.specs.Scopes.{Clock, Text, Lowered, Scope, Top, Called, Under, inputs_of, outputs_of, text_of, home, calls_around, node_decls}
use Rattle.hept_ast.specs.Meaning.{Question, Gives, Output, Variable, Last, Defined, Present, Active, Restarted, Unknown, Rule, Says, Reads, Setting, is_true, is_value, clock_in, steps_hold, before, merged, form_rule, call_of, output_rule, outputs_rule, reply_or, right_rule, core_rule, defined_rule, argument_rule, own_rule, variable_rule, initial_rule, constant_of, last_rule, active_rule, some_true, restarted_rule, rule, answer_to, if_present, previous}
use Rattle.hept_ast.specs.Settings.{Marks, Replies, of_core}
use Rattle.hept_ast.specs.declared.name.Place.{Place}
use Rattle.hept_ast.specs.declared.tree.Core.{Core}
use Rattle.hept_ast.specs.declared.tree.CoreEquation.{CoreEquation}
use Rattle.hept_ast.specs.declared.tree.Decl.{Decl}
use Rattle.hept_ast.specs.declared.tree.Init.{Init}
use Rattle.hept_ast.specs.declared.tree.Expr.{Expr}
use Rattle.hept_ast.specs.declared.tree.MergeBranch.{MergeBranch}
use Rattle.hept_ast.specs.declared.tree.Form.{Form, out-Form}
use Rattle.hept_ast.specs.declared.tree.Form.TheOpen.{Form-F}
use Rattle.core_naming.specs.Names.{IsNaming, variable_at, has_mark}
use Rattle.core_naming.specs.Ties.{clock_names, IsBodyOf, of_top, of_call, TiedText, the_node, a_node, IsOfEquation, of_equation, TiedExpr, same_expr, named_expr, TiedArguments, no_arguments, more_arguments, TiedScope, top, called, under}
use Rattle.core_naming.proofs.Mentions.{NotIn, Free, not_head, not_tail, not_taken, not_longer, parts_free}
use Rattle.core_naming.proofs.Matching.{Matches, says, reads, asks, if_matches, go_on_matches, present_matches, previous_matches, count_matches}
use Rattle.core_naming.proofs.TiedForms.{IsNoGet, HasNoOutput, TiedBranches, no_branches, more_branches, TiedForm, const, var, last_of, unary, binary, choice, fby, pre, arrow, when, merge, a_call, async_call, async_const, get, TiedOutput, of_call as call_output, of_async_call, of_get, of_none, same_output, form_output, TiedView, IsWhole, is_whole, same_view, named_view}
use Rattle.core_naming.proofs.TiedNodes.{TiedOption, no_text, both, nodes_tied}
use Rattle.core_naming.proofs.TiedTexts.{IsQuietEquation, IsQuiet, body_text, inputs_same, outputs_same, text_outputs_free, decl_same, equation_quiet, same_equation, the_equation, TiedFound, neither, found, equation_found, found_clock}

index_free : (x : Name) (ys : List Name) (j : ℕ) → is_in x ys ≡ false → same x [] ≡ false → same x (slice_index_or ys j []) ≡ false
index_free x [] j h e = e
index_free x (y ∷ ys) zero h e = not_head x y ys h
index_free x (y ∷ ys) (suc j) h e = index_free x ys j (not_tail x y ys h) e

not_empty : (x : Name) → IsTrue (has_mark x) → same x [] ≡ false
not_empty [] h = absurd (false≢true h)
not_empty (b ∷ x) h = refl

module _ (core other : Core) (n : IsNaming core other) where
  abbrev pub TiedIn : Scope → Scope → Type 0
  TiedIn s r = TiedScope core other n s r

  -- the bodies in which the subexpression and its variable stand
  pub record Homes (outer inner : Scope) : Type 0 where
    pub scope : TiedIn outer inner
    pub at : IsBodyOf (Lowered n.node) outer
    pub moved_at : IsBodyOf (Lowered n.moved) inner

  -- the subexpression, and what asks for it in the other core
  pub data IsNew : Question → Question → Type 0 where
    written : {outer inner : Scope} {t : ℕ} → Homes outer inner →
        IsNew (Gives n.a n.d (Under outer n.step.equation.resets) t) (Gives (variable_at n.a.place n.x) n.d (Under inner n.step.equation.resets) t)
    read : {outer inner : Scope} {t : ℕ} → Homes outer inner →
        IsNew (Gives n.a n.d (Under outer n.step.equation.resets) t) (Variable n.x (Under inner n.step.equation.resets) t)
    set : {outer inner : Scope} {t : ℕ} → Homes outer inner →
        IsNew (Gives n.a n.d (Under outer n.step.equation.resets) t) (Defined n.x inner t)

  pub data Tie : Question → Question → Type 0 where
    gives : {e m : Expr} {c : Clock} {s r : Scope} {t : ℕ} → TiedIn s r → NotIn n.x (clock_names c) → TiedExpr core other n s r c e m → Tie (Gives e c s t) (Gives m c r t)
    output : {e m : Expr} {f g : Form-F Form Expr MergeBranch} {j : ℕ} {c : Clock} {s r : Scope} {t : ℕ} → TiedIn s r → NotIn n.x (clock_names c) → m.place ≡ e.place →
        out-Form e.form ≡ f → out-Form m.form ≡ g → TiedOutput core other n s r c f g → Tie (Output e j c s t) (Output m j c r t)
    variable : {y : Name} {s r : Scope} {t : ℕ} → TiedIn s r → same n.x y ≡ false → Tie (Variable y s t) (Variable y r t)
    last : {y : Name} {s r : Scope} {t : ℕ} → TiedIn s r → same n.x y ≡ false → Tie (Last y s t) (Last y r t)
    defined : {text moved : Text} {y : Name} {s r : Scope} {t : ℕ} → IsBodyOf text s → IsBodyOf moved r → TiedText core other n text moved → TiedIn s r → same n.x y ≡ false →
        Tie (Defined y s t) (Defined y r t)
    present : {c : Clock} {s r : Scope} {t : ℕ} → TiedIn s r → NotIn n.x (clock_names c) → Tie (Present c s t) (Present c r t)
    active : {s r : Scope} {t : ℕ} → TiedIn s r → Tie (Active s t) (Active r t)
    restarted : {s r : Scope} {t : ℕ} → TiedIn s r → Tie (Restarted s t) (Restarted r t)
    new : {q p : Question} → IsNew q p → Tie q p

  -- ---- nodes of one name

  pub data SameCall (s r : Scope) (c : Clock) : Option (List Expr × Text) → Option (List Expr × Text) → Type 0 where
    no_call : SameCall s r c None None
    call_text : {es ms : List Expr} {text moved : Text} → TiedArguments core other n s r c es ms → TiedText core other n text moved → SameCall s r c (Some (es, text)) (Some (ms, moved))

  pub calls_same : (s r : Scope) → TiedIn s r → calls_around r ≡ calls_around s
  calls_same _ _ (top h) = refl
  calls_same _ _ (called {p = p} h f es k) = ap (λ (ps : List ℕ). ps ++ p ∷ []) (calls_same _ _ h)
  calls_same _ _ (under h f) = calls_same _ _ h

  pub same_call : {s r : Scope} {c : Clock} {es ms : List Expr} {o p : Option Text} → TiedArguments core other n s r c es ms → TiedOption core other n o p →
      SameCall s r c (option_map (λ text. (es, text)) o) (option_map (λ text. (ms, text)) p)
  same_call k no_text = no_call
  same_call k (both l) = call_text k l

  module _ (marked : Marks) (replies : Replies) (quiet : IsQuiet core other n) where
    abbrev pub w : Setting
    w = of_core core marked replies

    -- the other core with the first one's types, which are its own
    abbrev pub v : Setting
    v = record (of_core core marked replies) { node = λ f. option_map Lowered (find (λ m. same f m.name) other.nodes) }

    abbrev Alike : Rule → Rule → Type 0
    Alike d e = Matches Tie d e

    -- ---- clocks

    steps_alike : (c : Clock) (s r : Scope) (t : ℕ) → TiedIn s r → NotIn n.x (clock_names c) → Alike (steps_hold w c s t) (steps_hold v c r t)
    steps_alike [] s r t h f = says
    steps_alike (step ∷ c) s r t h f =
        asks (variable h (not_head n.x step.name (clock_names c) f))
        (λ a. if_matches (is_value (tag_value w.types step.tag) a) (steps_alike c s r t h (not_tail n.x step.name (clock_names c) f)) says)

    before_alike : (c : Clock) (s r : Scope) (t : ℕ) {go go' : ℕ → Rule} {none none' : Rule} → TiedIn s r → NotIn n.x (clock_names c) →
        ((p : ℕ) → Alike (go p) (go' p)) → Alike none none' → Alike (before w c s t go none) (before v c r t go' none')
    before_alike c s r t h f k l =
        previous_matches (λ p. Present c s p) (λ p. Restarted s p) (λ p. Present c r p) (λ p. Restarted r p) t (λ p. present h f) (λ p. restarted h) k l

    -- ---- forms

    merged_alike : (b m : MergeBranch) (y : Name) (c : Clock) (s r : Scope) (t : ℕ) → TiedIn s r → NotIn n.x (clock_names c) → same n.x y ≡ false → m.tag ≡ b.tag →
        TiedExpr core other n s r (c ++ record { tag = b.tag; name = y } ∷ []) b.value m.value → Alike (merged w (Some b) y c s t) (merged v (Some m) y c r t)
    merged_alike b m y c s r t h f g tag k =
        subst (λ tag. Alike (merged w (Some b) y c s t) (answer_to (Gives m.value (c ++ record { tag = tag; name = y } ∷ []) r t))) (sym tag)
        (asks (gives h (not_longer n.x c (record { tag = b.tag; name = y }) f g) k) (λ a. says))

    branches_alike : (u : ℕ) (y : Name) (c : Clock) (s r : Scope) (t : ℕ) {bs ms : List MergeBranch} → TiedIn s r → NotIn n.x (clock_names c) → same n.x y ≡ false →
        TiedBranches core other n s r y c bs ms →
        Alike (merged w (find (λ b. tag_value w.types b.tag == u) bs) y c s t) (merged v (find (λ b. tag_value w.types b.tag == u) ms) y c r t)
    branches_alike u y c s r t h f g no_branches = says
    branches_alike u y c s r t h f g (more_branches {b = b} {m = m} {bs = bs} {ms = ms} tag k l) =
        subst (λ tag. Alike (merged w (cond (tag_value w.types b.tag == u) (Some b) (find (λ b. tag_value w.types b.tag == u) bs)) y c s t)
        (merged v (cond (tag_value w.types tag == u) (Some m) (find (λ b. tag_value w.types b.tag == u) ms)) y c r t)) (sym tag)
        (go (tag_value w.types b.tag == u) _ _ (branches_alike u y c s r t h f g l))
      where
        go : (i : Bool) (o p : Option MergeBranch) → Alike (merged w o y c s t) (merged v p y c r t) → Alike (merged w (cond i (Some b) o) y c s t) (merged v (cond i (Some m) p) y c r t)
        go true o p rest = merged_alike b m y c s r t h f g tag k
        go false o p rest = rest

    form_alike : (e m : Expr) (c : Clock) (s r : Scope) (t : ℕ) {f g : Form-F Form Expr MergeBranch} → TiedIn s r → NotIn n.x (clock_names c) → m.place ≡ e.place →
        out-Form e.form ≡ f → out-Form m.form ≡ g → TiedForm core other n s r c f g → Alike (form_rule w f e c s t) (form_rule v g m c r t)
    form_alike e m c s r t h f p o q const = says
    form_alike e m c s r t h f p o q (var k) = asks (variable h k) (λ a. says)
    form_alike e m c s r t h f p o q (last_of k) = asks (last h k) (λ a. says)
    form_alike e m c s r t h f p o q (unary k) = asks (gives h f k) (λ a. go_on_matches a (λ i. says))
    form_alike e m c s r t h f p o q (binary k l) = asks (gives h f k) (λ a. go_on_matches a (λ i. asks (gives h f l) (λ b. go_on_matches b (λ j. says))))
    form_alike e m c s r t h f p o q (choice i k l) =
        asks (gives h f i) (λ a. go_on_matches a (λ x. asks (gives h f k) (λ b. go_on_matches b (λ y. asks (gives h f l) (λ d. go_on_matches d (λ z. says))))))
    form_alike e m c s r t h f p o q (fby k l) = before_alike c s r t h f (λ i. asks (gives h f l) (λ a. says)) (asks (gives h f k) (λ a. says))
    form_alike e m c s r t h f p o q (pre k) = before_alike c s r t h f (λ i. asks (gives h f k) (λ a. says)) says
    form_alike e m c s r t h f p o q (arrow k l) = before_alike c s r t h f (λ i. asks (gives h f l) (λ a. says)) (asks (gives h f k) (λ a. says))
    form_alike e m c s r t h f p o q (when k) = asks (gives h (not_taken n.x (length c - 1) c f) k) (λ a. says)
    form_alike e m c s r t h f p o q (merge {y = y} k l) = asks (variable h k) (λ a. go_on_matches a (λ u. branches_alike u y c s r t h f k l))
    form_alike e m c s r t h f p o q (a_call k) = asks (output h f p o q (call_output k)) (λ a. says)
    form_alike e m c s r t h f p o q (async_call k) = asks (output h f p o q (of_async_call k)) (λ a. says)
    form_alike e m c s r t h f p o q async_const = says
    form_alike e m c s r t h f p o q (get k) = asks (gives h f k) (λ a. says)

    view_alike : (e m : Expr) (c : Clock) (s r : Scope) (t : ℕ) → TiedIn s r → NotIn n.x (clock_names c) → TiedView core other n s r c e m →
        Alike (rule w (Gives e c s t)) (rule v (Gives m c r t))
    view_alike e m c s r t h f k =
        subst (λ (g : Form-F Form Expr MergeBranch). Alike (rule w (Gives e c s t)) (if_present (Present c r t) (form_rule v g m c r t))) (sym k.moved_out)
        (subst (λ (g : Form-F Form Expr MergeBranch). Alike (if_present (Present c s t) (form_rule w g e c s t)) (if_present (Present c r t) (form_rule v k.moved m c r t))) (sym k.out)
        (present_matches _ _ (present h f) (form_alike e m c s r t h f k.place k.out k.moved_out k.form)))

    -- an expression that mentions no x
    pub same_alike : (e : Expr) (c : Clock) (s r : Scope) (t : ℕ) → TiedIn s r → NotIn n.x (clock_names c) → Free n.x e → Alike (rule w (Gives e c s t)) (rule v (Gives e c r t))
    same_alike e c s r t h f k = view_alike e e c s r t h f (same_view core other n s r c e k)

    -- ---- calls

    reply_alike : (o : Option (List ℕ)) (j : ℕ) {d e : Rule} → Alike d e → Alike (reply_or w o j d) (reply_or v o j e)
    reply_alike None j h = h
    reply_alike (Some outs) j h = says

    call_alike : (o p : Option (List Expr × Text)) (place j : ℕ) (c : Clock) (s r : Scope) (t : ℕ) → SameCall s r c o p → TiedIn s r → NotIn n.x (clock_names c) →
        Alike (output_rule w o place j c s t) (output_rule v p place j c r t)
    call_alike _ _ place j c s r t no_call h f = says
    call_alike _ _ place j c s r t (call_text {es = es} {ms = ms} {text = text} {moved = moved} k l) h f =
        count_matches (λ p. Present c s p) (λ p. Present c r p) t _ _ (λ p. present h f) (λ i.
        subst (λ (path : List ℕ). Alike (reply_or w (w.replies (calls_around s ++ place ∷ []) i) j (answer_to (Variable (slice_index_or (outputs_of text) j []) (Called s c place es text) t)))
        (reply_or v (w.replies (path ++ place ∷ []) i) j (answer_to (Variable (slice_index_or (outputs_of moved) j []) (Called r c place ms moved) t))))
        (sym (calls_same s r h))
        (subst (λ (xs : List Name). Alike (reply_or w (w.replies (calls_around s ++ place ∷ []) i) j (answer_to (Variable (slice_index_or (outputs_of text) j []) (Called s c place es text) t)))
        (reply_or v (w.replies (calls_around s ++ place ∷ []) i) j (answer_to (Variable (slice_index_or xs j []) (Called r c place ms moved) t))))
        (sym (outputs_same core other n quiet text moved l))
        (reply_alike (w.replies (calls_around s ++ place ∷ []) i) j
        (asks (variable (called h f k l) (index_free n.x (outputs_of text) j (text_outputs_free core other n quiet text moved l) (not_empty n.x n.new.marked))) (λ a. says)))))

    none_says : (z : Setting) (f : Form-F Form Expr MergeBranch) (e : Expr) (j : ℕ) (c : Clock) (s : Scope) (t : ℕ) → HasNoOutput f → outputs_rule z f e j c s t ≡ Says Unknown
    none_says z (Form-F.Call f es) e j c s t h = absurd h
    none_says z (Form-F.AsyncCall q f es) e j c s t h = absurd h
    none_says z (Form-F.Get a) e j c s t h = absurd h
    none_says z (Form-F.Const k) e j c s t h = refl
    none_says z (Form-F.Var y) e j c s t h = refl
    none_says z (Form-F.Last y) e j c s t h = refl
    none_says z (Form-F.Unary op a) e j c s t h = refl
    none_says z (Form-F.Binary op a b) e j c s t h = refl
    none_says z (Form-F.If k a b) e j c s t h = refl
    none_says z (Form-F.Fby a b) e j c s t h = refl
    none_says z (Form-F.Pre a) e j c s t h = refl
    none_says z (Form-F.Arrow a b) e j c s t h = refl
    none_says z (Form-F.When a tag y) e j c s t h = refl
    none_says z (Form-F.Merge y bs) e j c s t h = refl
    none_says z (Form-F.AsyncConst k) e j c s t h = refl

    outputs_alike : (e m : Expr) (j : ℕ) (c : Clock) (s r : Scope) (t : ℕ) {f g : Form-F Form Expr MergeBranch} → TiedIn s r → NotIn n.x (clock_names c) → m.place ≡ e.place →
        TiedOutput core other n s r c f g → Alike (outputs_rule w f e j c s t) (outputs_rule v g m j c r t)
    outputs_alike e m j c s r t h f p (call_output {f = g} {es = es} {ms = ms} k) =
        subst (λ (place : Place). Alike (outputs_rule w (Form-F.Call g es) e j c s t) (output_rule v (call_of v (Form-F.Call g ms)) place.0 j c r t)) (sym p)
        (call_alike _ _ e.place.0 j c s r t (same_call k (nodes_tied core other n g)) h f)
    outputs_alike e m j c s r t h f p (of_async_call {q = q} {f = g} {es = es} {ms = ms} k) =
        subst (λ (place : Place). Alike (outputs_rule w (Form-F.AsyncCall q g es) e j c s t) (output_rule v (call_of v (Form-F.AsyncCall q g ms)) place.0 j c r t)) (sym p)
        (call_alike _ _ e.place.0 j c s r t (same_call k (nodes_tied core other n g)) h f)
    outputs_alike e m j c s r t h f p (of_get {a = a} k) =
        asks (output h f refl refl refl (same_output core other n s r c (out-Form a.form) (parts_free n.x a _ refl k))) (λ a. says)
    outputs_alike e m j c s r t h f p (of_none {f = g} {g = i} k l) =
        subst (λ (d : Rule). Alike d (outputs_rule v i m j c r t)) (sym (none_says w g e j c s t k)) (subst (λ (d : Rule). Alike (Says Unknown) d) (sym (none_says v i m j c r t l)) says)

    -- ---- definitions

    same_right : (left : List Name) (right : Expr) (y : Name) (c : Clock) (s r : Scope) (t : ℕ) → TiedIn s r → NotIn n.x (clock_names c) → Free n.x right →
        Alike (right_rule w left right y c s t) (right_rule v left right y c r t)
    same_right left right y c s r t h f k =
        if_matches (length left == 1) (asks (gives h f (same_expr k)) (λ a. says))
        (asks (output h f refl refl refl (same_output core other n s r c (out-Form right.form) (parts_free n.x right _ refl k))) (λ a. says))

    named_output : (j : ℕ) (c : Clock) (e m : Expr) (s r : Scope) (t : ℕ) → TiedIn s r → NotIn n.x (clock_names c) → (e ≡ n.a → ⊥) → IsNoGet (out-Form e.form) →
        TiedView core other n s r c e m ⊎ IsWhole core other n c e m → Tie (Output e j c s t) (Output m j c r t)
    named_output j c e m s r t h f no_whole no_get (inl k) =
        output h f k.place k.out k.moved_out (form_output core other n s r k.form (subst (λ (g : Form-F Form Expr MergeBranch). IsNoGet g) k.out no_get))
    named_output j _ _ _ s r t h f no_whole no_get (inr is_whole) = absurd (no_whole refl)

    the_right : (y : Name) (s r : Scope) (t : ℕ) → TiedIn s r → IsBodyOf (Lowered n.node) s → IsBodyOf (Lowered n.moved) r →
        Alike (right_rule w n.step.equation.left n.step.equation.right y n.step.equation.clock.steps (Under s n.step.equation.resets) t)
        (right_rule v n.step.equation.left n.step.right y n.step.equation.clock.steps (Under r n.step.equation.resets) t)
    the_right y s r t h at moved_at = go (length n.step.equation.left == 1) refl
      where
        q : IsQuietEquation n.x n.step.equation
        q = equation_quiet core other n quiet

        inner : TiedIn (Under s n.step.equation.resets) (Under r n.step.equation.resets)
        inner = under h q.resets

        where_it_is : IsOfEquation core other n (Under s n.step.equation.resets) (Under r n.step.equation.resets)
        where_it_is = of_equation at moved_at

        go : (b : Bool) → (length n.step.equation.left == 1) ≡ b →
            Alike (if b then answer_to (Gives n.step.equation.right n.step.equation.clock.steps (Under s n.step.equation.resets) t)
            else answer_to (Output n.step.equation.right (place_in y n.step.equation.left) n.step.equation.clock.steps (Under s n.step.equation.resets) t))
            (if b then answer_to (Gives n.step.right n.step.equation.clock.steps (Under r n.step.equation.resets) t)
            else answer_to (Output n.step.right (place_in y n.step.equation.left) n.step.equation.clock.steps (Under r n.step.equation.resets) t))
        go true e = asks (gives inner q.clock (named_expr n.step.named q.right where_it_is)) (λ a. says)
        go false e =
            let no = quiet.several e in
            asks (named_output (place_in y n.step.equation.left) n.step.equation.clock.steps n.step.equation.right n.step.right _ _ t inner q.clock no.0 no.1
            (named_view core other n _ _ where_it_is n.step.named q.right)) (λ a. says)

    core_alike : (y : Name) (s r : Scope) (t : ℕ) {o p : Option CoreEquation} → TiedIn s r → TiedFound core other n quiet s r o p → Alike (core_rule w o y s t) (core_rule v p y r t)
    core_alike y s r t h neither = says
    core_alike y s r t h (found (same_equation {e = e} k)) = same_right e.left e.right y e.clock.steps (Under s e.resets) (Under r e.resets) t (under h k.resets) k.clock k.right
    core_alike y s r t h (found (the_equation at moved_at)) = the_right y s r t h at moved_at

    text_alike : (text moved : Text) (y : Name) (s r : Scope) (t : ℕ) → IsBodyOf text s → IsBodyOf moved r → TiedText core other n text moved → TiedIn s r → same n.x y ≡ false →
        Alike (defined_rule w text y s t) (defined_rule v moved y r t)
    text_alike _ _ y s r t at moved_at the_node h e = core_alike y s r t h (equation_found core other n quiet s r _ _ y the_node e at moved_at)
    text_alike _ _ y s r t at moved_at (a_node k) h e = core_alike y s r t h (equation_found core other n quiet s r _ _ y (a_node k) e at moved_at)

    defined_alike : (text moved : Text) (y : Name) (s r : Scope) (t : ℕ) → IsBodyOf text s → IsBodyOf moved r → TiedText core other n text moved → TiedIn s r → same n.x y ≡ false →
        Alike (rule w (Defined y s t)) (rule v (Defined y r t))
    defined_alike text moved y s r t at moved_at k h e =
        subst (λ (u : Text). Alike (defined_rule w u y s t) (defined_rule v (text_of r) y r t)) (body_text text s at)
        (subst (λ (u : Text). Alike (defined_rule w text y s t) (defined_rule v u y r t)) (body_text moved r moved_at) (text_alike text moved y s r t at moved_at k h e))

    -- ---- variables

    text_clock : (text moved : Text) (y : Name) → TiedText core other n text moved → same n.x y ≡ false →
        (clock_in v moved y ≡ clock_in w text y) × NotIn n.x (clock_names (clock_in w text y))
    text_clock _ _ y the_node e = found_clock core other n quiet (equation_found core other n quiet (Top (Lowered n.node)) (Top (Lowered n.moved)) _ _ y the_node e of_top of_top)
    text_clock _ _ y (a_node {m = m} k) e = found_clock core other n quiet (equation_found core other n quiet (Top (Lowered m)) (Top (Lowered m)) _ _ y (a_node k) e of_top of_top)

    argument_alike : (c : Clock) (s r : Scope) (t k : ℕ) {es ms : List Expr} → TiedIn s r → NotIn n.x (clock_names c) → TiedArguments core other n s r c es ms →
        Alike (argument_rule w (slice_get es k) c s t) (argument_rule v (slice_get ms k) c r t)
    argument_alike c s r t k h f no_arguments = says
    argument_alike c s r t zero h f (more_arguments l ls) = asks (gives h f l) (λ a. says)
    argument_alike c s r t (suc k) h f (more_arguments l ls) = argument_alike c s r t k h f ls

    own_alike : (s r : Scope) (y : Name) (t : ℕ) → TiedIn s r → same n.x y ≡ false → Alike (variable_rule w y (home y s) t) (variable_rule v y (home y r) t)
    own_alike _ _ y t (top {text = text} {moved = moved} k) e =
        let clock = text_clock text moved y k e in
        subst (λ (c : Clock). Alike (variable_rule w y (Top text) t) (if_present (Present c (Top moved) t) (own_rule v (Top moved) y t))) (sym clock.0)
        (present_matches _ _ (present (top k) clock.1)
        (subst (λ (xs : List Name). Alike (own_rule w (Top text) y t) (if is_in y xs then Reads t (place_in y xs) else answer_to (Defined y (Top moved) t)))
        (sym (inputs_same core other n quiet text moved k)) (if_matches (is_in y (inputs_of text)) reads (asks (defined of_top of_top k (top k) e) (λ a. says)))))
    own_alike _ _ y t (called {s = s} {r = r} {c = c} {p = p} {es = es} {ms = ms} {text = text} {moved = moved} h f l k) e =
        let clock = text_clock text moved y k e in
        subst (λ (d : Clock). Alike (variable_rule w y (Called s c p es text) t) (if_present (Present d (Called r c p ms moved) t) (own_rule v (Called r c p ms moved) y t))) (sym clock.0)
        (present_matches _ _ (present (called h f l k) clock.1)
        (subst (λ (xs : List Name). Alike (own_rule w (Called s c p es text) y t)
        (if is_in y xs then argument_rule v (slice_get ms (place_in y xs)) c r t else answer_to (Defined y (Called r c p ms moved) t)))
        (sym (inputs_same core other n quiet text moved k))
        (if_matches (is_in y (inputs_of text)) (argument_alike c s r t (place_in y (inputs_of text)) h f l) (asks (defined of_call of_call k (called h f l k) e) (λ a. says)))))
    own_alike _ _ y t (under h f) e = own_alike _ _ y t h e

    initial_alike : (d : Option Decl) → Alike (initial_rule w d) (initial_rule v d)
    initial_alike None = says
    initial_alike (Some d) = go d.init
      where
        go : (i : Option Init) → Alike (constant_of w i) (constant_of v i)
        go None = says
        go (Some i) = says

    first_alike : (y : Name) (text moved : Text) → TiedText core other n text moved → same n.x y ≡ false →
        Alike (initial_rule w (find (λ d. same y d.name) (node_decls text))) (initial_rule v (find (λ d. same y d.name) (node_decls moved)))
    first_alike y text moved k e =
        subst (λ (o : Option Decl). Alike (initial_rule w (find (λ d. same y d.name) (node_decls text))) (initial_rule v o)) (sym (decl_same core other n quiet text moved y k e))
        (initial_alike (find (λ d. same y d.name) (node_decls text)))

    previous_alike : (s r : Scope) (y : Name) (t : ℕ) {d e : Rule} → TiedIn s r → same n.x y ≡ false → Alike d e →
        Alike (previous (λ p. Active s p) (λ p. Restarted s p) (λ p. answer_to (Variable y s p)) d t) (previous (λ p. Active r p) (λ p. Restarted r p) (λ p. answer_to (Variable y r p)) e t)
    previous_alike s r y t h e k =
        previous_matches (λ p. Active s p) (λ p. Restarted s p) (λ p. Active r p) (λ p. Restarted r p) t (λ p. active h) (λ p. restarted h) (λ p. asks (variable h e) (λ a. says)) k

    last_alike : (s r : Scope) (y : Name) (t : ℕ) → TiedIn s r → same n.x y ≡ false → Alike (last_rule w y (home y s) t) (last_rule v y (home y r) t)
    last_alike _ _ y t (top {text = text} {moved = moved} k) e = previous_alike _ _ y t (top k) e (first_alike y text moved k e)
    last_alike _ _ y t (called {text = text} {moved = moved} h f l k) e = previous_alike _ _ y t (called h f l k) e (first_alike y text moved k e)
    last_alike _ _ y t (under h f) e = last_alike _ _ y t h e

    -- ---- scopes

    active_alike : (s r : Scope) (t : ℕ) → TiedIn s r → Alike (active_rule w s t) (active_rule v r t)
    active_alike _ _ t (top k) = says
    active_alike _ _ t (called h f l k) = asks (present h f) (λ a. says)
    active_alike _ _ t (under h f) = asks (active h) (λ a. says)

    some_alike : (xs : List Name) (s r : Scope) (t : ℕ) → TiedIn s r → NotIn n.x xs → Alike (some_true w xs s t) (some_true v xs r t)
    some_alike [] s r t h f = says
    some_alike (y ∷ ys) s r t h f = asks (variable h (not_head n.x y ys f)) (λ a. if_matches (is_true a) says (some_alike ys s r t h (not_tail n.x y ys f)))

    restarted_alike : (s r : Scope) (t : ℕ) → TiedIn s r → Alike (restarted_rule w s t) (restarted_rule v r t)
    restarted_alike _ _ t (top k) = says
    restarted_alike _ _ t (called h f l k) = asks (restarted h) (λ a. says)
    restarted_alike _ _ t (under {s = s} {r = r} {resets = resets} h f) = asks (restarted h) (λ a. if_matches (is_true a) says (some_alike resets s r t h f))

    -- ---- each question

    pub inside_under : (s r : Scope) (xs ys : List Name) → TiedIn (Under s xs) (Under r ys) → TiedIn s r
    inside_under s r xs ys (under h f) = h

    is_new : (c : Clock) (e m : Expr) (s r : Scope) (t : ℕ) → IsWhole core other n c e m → IsOfEquation core other n s r → TiedIn s r → IsNew (Gives e c s t) (Gives m c r t)
    is_new _ _ _ _ _ t is_whole (of_equation {outer = outer} {inner = inner} at moved_at) h =
        written (record { scope = inside_under outer inner _ _ h; at = at; moved_at = moved_at })

    named_alike : (e m : Expr) (c : Clock) (s r : Scope) (t : ℕ) → TiedIn s r → NotIn n.x (clock_names c) → IsOfEquation core other n s r →
        TiedView core other n s r c e m ⊎ IsWhole core other n c e m → Alike (rule w (Gives e c s t)) (rule v (Gives m c r t)) ⊎ IsNew (Gives e c s t) (Gives m c r t)
    named_alike e m c s r t h f at (inl k) = inl (view_alike e m c s r t h f k)
    named_alike e m c s r t h f at (inr k) = inr (is_new c e m s r t k at h)

    -- the rules of tied questions go alike, but for the subexpression and its variable
    pub tie_alike : (q p : Question) → Tie q p → Alike (rule w q) (rule v p) ⊎ IsNew q p
    tie_alike _ _ (gives {c = c} {s = s} {r = r} {t = t} h f (same_expr {e = e} k)) = inl (same_alike e c s r t h f k)
    tie_alike _ _ (gives {c = c} {s = s} {r = r} {t = t} h f (named_expr {e = e} {m = m} k l at)) = named_alike e m c s r t h f at (named_view core other n s r at k l)
    tie_alike _ _ (output {e = e} {m = m} {f = f} {g = g} {j = j} {c = c} {s = s} {r = r} {t = t} h i p o q k) =
        inl (subst (λ (u : Form-F Form Expr MergeBranch). Alike (rule w (Output e j c s t)) (if_present (Present c r t) (outputs_rule v u m j c r t))) (sym q)
        (subst (λ (u : Form-F Form Expr MergeBranch). Alike (if_present (Present c s t) (outputs_rule w u e j c s t)) (if_present (Present c r t) (outputs_rule v g m j c r t))) (sym o)
        (present_matches _ _ (present h i) (outputs_alike e m j c s r t h i p k))))
    tie_alike _ _ (variable {y = y} {s = s} {r = r} {t = t} h e) = inl (own_alike s r y t h e)
    tie_alike _ _ (last {y = y} {s = s} {r = r} {t = t} h e) = inl (last_alike s r y t h e)
    tie_alike _ _ (defined {text = text} {moved = moved} {y = y} {s = s} {r = r} {t = t} at moved_at k h e) = inl (defined_alike text moved y s r t at moved_at k h e)
    tie_alike _ _ (present {c = c} {s = s} {r = r} {t = t} h f) = inl (asks (active h) (λ a. if_matches (is_true a) (steps_alike c s r t h f) says))
    tie_alike _ _ (active {s = s} {r = r} {t = t} h) = inl (active_alike s r t h)
    tie_alike _ _ (restarted {s = s} {r = r} {t = t} h) = inl (restarted_alike s r t h)
    tie_alike _ _ (new k) = inr k
