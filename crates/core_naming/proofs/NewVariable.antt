-- The new variable gives what the subexpression gives, and what is known of one of two tied questions is known of the other.
use Rattle.std.proofs.Common.{◌≡◌, ◌≢◌, ◌⊎◌, inl, inr, ℕ, Bool, true, false, List, [], ◌∷◌, Option, refl, sym, ap, subst, ◌∙◌}
use Rattle.std.specs.Prelude.{if◌then◌else◌, slice_get}
use Rattle.hept_ast.specs.Texts.{Name, place_in, tag_value}
use Rattle.hept_ast.specs.Scopes.{Clock, Lowered, Scope, Top, Called, Under, inputs_of}
use Rattle.hept_ast.specs.Meaning.{Question, Gives, Variable, Defined, Present, Active, Answer, Unknown, Absent, Rule, Says, Reads, Setting, is_true, is_value, clock_of_equation, steps_hold, form_rule, core_rule, argument_rule, own_rule, rule, answer_to, if_present}
use Rattle.hept_ast.specs.Outputs.{Knows, Follows, said, asked}
use Rattle.hept_ast.specs.Settings.{Marks, Replies}
use Rattle.hept_ast.specs.declared.name.Place.{Place}
use Rattle.hept_ast.specs.declared.tree.Core.{Core}
use Rattle.hept_ast.specs.declared.tree.CoreEquation.{CoreEquation}
use Rattle.hept_ast.specs.declared.tree.Expr.{Expr}
use Rattle.hept_ast.specs.declared.tree.MergeBranch.{MergeBranch}
use Rattle.hept_ast.specs.declared.tree.Form.{Form, out-Form}
use Rattle.hept_ast.specs.declared.tree.Form.TheOpen.{Form-F}
use Rattle.hept_ast.proofs.Depths.{to_rule, by_rule, induction}
use Rattle.hept_ast.proofs.Transfer.{Tied, tracked}
use Rattle.core_naming.specs.Names.{IsNaming, variable_at}
use Rattle.core_naming.specs.Ties.{IsBodyOf, of_top, of_call, under, same_expr}
use Rattle.core_naming.proofs.Mentions.{out_Var}
use Rattle.core_naming.proofs.Matching.{Matches, there, back}
use Rattle.core_naming.proofs.TiedTexts.{IsQuiet, equation_quiet, named_free, new_found, new_no_input}
use Rattle.core_naming.proofs.TiedQuestions as questions
use Rattle.core_naming.proofs.TiedQuestions.{TiedIn, Homes, IsNew, written, read, set, Tie, gives, present, new, same_alike, tie_alike}

-- ---- parts of what a rule comes to

module _ {K : Question → Answer → Type 0} {rows : List (List ℕ)} where
  pub answered : {q : Question} {a : Answer} → Follows K rows (answer_to q) a → K q a
  answered (asked k said) = k

  -- another rule in place of the one that is followed where the test holds
  on_true : (b : Bool) {d e : Rule} (o : Rule) {a : Answer} → (Follows K rows d a → Follows K rows e a) → Follows K rows (if b then d else o) a → Follows K rows (if b then e else o) a
  on_true true o h f = h f
  on_true false o h f = f

-- ---- what is on a clock in a body and below it

module _ (z : Setting) (rows : List (List ℕ)) where
  steps_moved : (s r : Scope) (t : ℕ) → ((y : Name) (a : Answer) → Knows z rows (Variable y s t) a → Knows z rows (Variable y r t) a) →
      (c : Clock) (a : Answer) → Follows (Knows z rows) rows (steps_hold z c s t) a → Follows (Knows z rows) rows (steps_hold z c r t) a
  steps_moved s r t h [] a f = f
  steps_moved s r t h (step ∷ c) a (asked {a = b} k f) = asked (h step.name b k) (on_true (is_value (tag_value z.types step.tag) b) _ (steps_moved s r t h c a) f)

  present_moved : (s r : Scope) (t : ℕ) → ((y : Name) (a : Answer) → Knows z rows (Variable y s t) a → Knows z rows (Variable y r t) a) →
      ((a : Answer) → Knows z rows (Active s t) a → Knows z rows (Active r t) a) →
      (c : Clock) (a : Answer) → Knows z rows (Present c s t) a → Knows z rows (Present c r t) a
  present_moved s r t h k c a l = to_rule z rows (Present c r t) a (go (by_rule z rows (Present c s t) a l)) l.known
    where
      go : Follows (Knows z rows) rows (rule z (Present c s t)) a → Follows (Knows z rows) rows (rule z (Present c r t)) a
      go (asked {a = b} i f) = asked (k b i) (on_true (is_true b) _ (steps_moved s r t h c a) f)

  present_out : (s : Scope) (resets : List Name) (t : ℕ) (c : Clock) (a : Answer) → Knows z rows (Present c (Under s resets) t) a → Knows z rows (Present c s t) a
  present_out s resets t c a k =
      present_moved (Under s resets) s t (λ y b l. to_rule z rows (Variable y s t) b (by_rule z rows (Variable y (Under s resets) t) b l) l.known)
      (λ b l. answered (by_rule z rows (Active (Under s resets) t) b l)) c a k

  present_in : (s : Scope) (resets : List Name) (t : ℕ) (c : Clock) (a : Answer) → Knows z rows (Present c s t) a → Knows z rows (Present c (Under s resets) t) a
  present_in s resets t c a k =
      present_moved s (Under s resets) t (λ y b l. to_rule z rows (Variable y (Under s resets) t) b (by_rule z rows (Variable y s t) b l) l.known)
      (λ b l. to_rule z rows (Active (Under s resets) t) b (asked l said) l.known) c a k

module _ (core other : Core) (n : IsNaming core other) (marked : Marks) (replies : Replies) (quiet : IsQuiet core other n) where
  abbrev w : Setting
  w = questions.w core other n marked replies quiet

  abbrev v : Setting
  v = questions.v core other n marked replies quiet

  abbrev R : List Name
  R = n.step.equation.resets

  abbrev Tying : Question → Question → Type 0
  Tying q p = Tie core other n q p

  -- ---- the rules of the new variable

  written_rule : (p : Place) (s : Scope) (t : ℕ) → rule v (Gives (variable_at p n.x) n.d s t) ≡ if_present (Present n.d s t) (answer_to (Variable n.x s t))
  written_rule p s t = ap (λ (f : Form-F Form Expr MergeBranch). if_present (Present n.d s t) (form_rule v f (variable_at p n.x) n.d s t)) (out_Var n.x)

  read_rule : (s : Scope) (t : ℕ) → IsBodyOf (Lowered n.moved) s → rule v (Variable n.x (Under s R) t) ≡ if_present (Present n.d s t) (answer_to (Defined n.x s t))
  read_rule _ t of_top =
      ap (λ (o : Option CoreEquation). if_present (Present (clock_of_equation o) (Top (Lowered n.moved)) t) (own_rule v (Top (Lowered n.moved)) n.x t)) (new_found core other n quiet)
      ∙ ap (λ (b : Bool). if_present (Present n.d (Top (Lowered n.moved)) t)
      (if b then Reads t (place_in n.x (inputs_of (Lowered n.moved))) else answer_to (Defined n.x (Top (Lowered n.moved)) t))) (new_no_input core other n quiet)
  read_rule _ t (of_call {s = s} {c = c} {p = p} {es = es}) =
      ap (λ (o : Option CoreEquation). if_present (Present (clock_of_equation o) (Called s c p es (Lowered n.moved)) t) (own_rule v (Called s c p es (Lowered n.moved)) n.x t)) (new_found core other n quiet)
      ∙ ap (λ (b : Bool). if_present (Present n.d (Called s c p es (Lowered n.moved)) t)
      (if b then argument_rule v (slice_get es (place_in n.x (inputs_of (Lowered n.moved)))) c s t else answer_to (Defined n.x (Called s c p es (Lowered n.moved)) t))) (new_no_input core other n quiet)

  set_rule : (s : Scope) (t : ℕ) → IsBodyOf (Lowered n.moved) s → rule v (Defined n.x s t) ≡ answer_to (Gives n.a n.d (Under s R) t)
  set_rule _ t of_top = ap (λ (o : Option CoreEquation). core_rule v o n.x (Top (Lowered n.moved)) t) (new_found core other n quiet)
  set_rule _ t (of_call {s = s} {c = c} {p = p} {es = es}) = ap (λ (o : Option CoreEquation). core_rule v o n.x (Called s c p es (Lowered n.moved)) t) (new_found core other n quiet)

  below : {outer inner : Scope} → Homes core other n outer inner → TiedIn core other n (Under outer R) (Under inner R)
  below h = under h.scope (equation_quiet core other n quiet).resets

  module _ (rows : List (List ℕ)) where
    -- ---- there

    set_known : {outer inner : Scope} {t : ℕ} {a : Answer} → Homes core other n outer inner → Knows v rows (Gives n.a n.d (Under inner R) t) a → Knows v rows (Defined n.x inner t) a
    set_known {inner = r} {t = t} {a = a} h k =
        to_rule v rows (Defined n.x r t) a (subst (λ (d : Rule). Follows (Knows v rows) rows d a) (sym (set_rule r t h.moved_at)) (asked k said)) k.known

    read_known : {outer inner : Scope} {t : ℕ} {a : Answer} → Homes core other n outer inner → Knows v rows (Gives n.a n.d (Under inner R) t) a → Knows v rows (Variable n.x (Under inner R) t) a
    read_known {inner = r} {t = t} {a = a} h k =
        to_rule v rows (Variable n.x (Under r R) t) a
        (subst (λ (d : Rule). Follows (Knows v rows) rows d a) (sym (read_rule r t h.moved_at)) (go (by_rule v rows (Gives n.a n.d (Under r R) t) a k))) k.known
      where
        go : Follows (Knows v rows) rows (rule v (Gives n.a n.d (Under r R) t)) a → Follows (Knows v rows) rows (if_present (Present n.d r t) (answer_to (Defined n.x r t))) a
        go (asked {a = b} i f) = asked (present_out v rows r R t n.d b i) (on_true (is_true b) _ (λ g. asked (set_known h k) said) f)

    written_known : {outer inner : Scope} {t : ℕ} {a : Answer} → Homes core other n outer inner → Knows v rows (Gives n.a n.d (Under inner R) t) a →
        Knows v rows (Gives (variable_at n.a.place n.x) n.d (Under inner R) t) a
    written_known {inner = r} {t = t} {a = a} h k =
        to_rule v rows (Gives (variable_at n.a.place n.x) n.d (Under r R) t) a
        (subst (λ (d : Rule). Follows (Knows v rows) rows d a) (sym (written_rule n.a.place (Under r R) t)) (go (by_rule v rows (Gives n.a n.d (Under r R) t) a k))) k.known
      where
        go : Follows (Knows v rows) rows (rule v (Gives n.a n.d (Under r R) t)) a → Follows (Knows v rows) rows (if_present (Present n.d (Under r R) t) (answer_to (Variable n.x (Under r R) t))) a
        go (asked {a = b} i f) = asked i (on_true (is_true b) _ (λ g. asked (read_known h k) said) f)

    moved_known : {outer inner : Scope} {t : ℕ} {a : Answer} → Homes core other n outer inner → Follows (Tied v rows Tying) rows (rule w (Gives n.a n.d (Under outer R) t)) a → a ≢ Unknown →
        Knows v rows (Gives n.a n.d (Under inner R) t) a
    moved_known {outer = s} {inner = r} {t = t} {a = a} h f known =
        let (free, clock) = named_free core other n quiet in
        to_rule v rows (Gives n.a n.d (Under r R) t) a
        (tracked v rows Tying (rule w (Gives n.a n.d (Under s R) t)) (rule v (Gives n.a n.d (Under r R) t)) a
        (there (same_alike core other n marked replies quiet n.a n.d (Under s R) (Under r R) t (below h) clock free)) f known) known

    new_there : (q p : Question) (a : Answer) → IsNew core other n q p → Follows (Tied v rows Tying) rows (rule w q) a → a ≢ Unknown → Knows v rows p a
    new_there _ _ a (written h) f known = written_known h (moved_known h f known)
    new_there _ _ a (read h) f known = read_known h (moved_known h f known)
    new_there _ _ a (set h) f known = set_known h (moved_known h f known)

    tied_there : (q p : Question) (a : Answer) → Matches Tying (rule w q) (rule v p) ⊎ IsNew core other n q p → Follows (Tied v rows Tying) rows (rule w q) a → a ≢ Unknown → Knows v rows p a
    tied_there q p a (inl h) f known = to_rule v rows p a (tracked v rows Tying (rule w q) (rule v p) a (there h) f known) known
    tied_there q p a (inr h) f known = new_there q p a h f known

    pub knows_there : (q p : Question) (a : Answer) → Tie core other n q p → Knows w rows q a → Knows v rows p a
    knows_there q p a tie k =
        induction (Tied v rows Tying) w rows (λ r b f known e h. tied_there r e b (tie_alike core other n marked replies quiet r e h) f known) q a k p tie

    -- ---- back

    abbrev Turned : Question → Question → Type 0
    Turned p q = Tie core other n q p

    -- the subexpression, where it is known whether its clock is present, and what the variable asks
    subexpression : {outer inner : Scope} {t : ℕ} {b a : Answer} {p : Question} → Homes core other n outer inner → Knows w rows (Present n.d (Under outer R) t) b →
        IsNew core other n (Gives n.a n.d (Under outer R) t) p → (c : Bool) → is_true b ≡ c → Follows (Tied w rows Turned) rows (if c then answer_to p else Says Absent) a → a ≢ Unknown →
        Knows w rows (Gives n.a n.d (Under outer R) t) a
    subexpression h k i true e f known = answered f _ (new i)
    subexpression {outer = s} {t = t} h k i false e said known =
        to_rule w rows (Gives n.a n.d (Under s R) t) Absent
        (asked k (subst (λ (c : Bool). Follows (Knows w rows) rows (if c then form_rule w (out-Form n.a.form) n.a n.d (Under s R) t else Says Absent) Absent) (sym e) said)) known

    new_back : (q p : Question) (a : Answer) → IsNew core other n q p → Follows (Tied w rows Turned) rows (rule v p) a → a ≢ Unknown → Knows w rows q a
    new_back _ _ a (written {outer = s} {inner = r} {t = t} h) f known = go (subst (λ (d : Rule). Follows (Tied w rows Turned) rows d a) (written_rule n.a.place (Under r R) t) f)
      where
        go : Follows (Tied w rows Turned) rows (if_present (Present n.d (Under r R) t) (answer_to (Variable n.x (Under r R) t))) a → Knows w rows (Gives n.a n.d (Under s R) t) a
        go (asked {a = b} k g) = subexpression h (k _ (present (below h) (named_free core other n quiet).1)) (read h) (is_true b) refl g known
    new_back _ _ a (read {outer = s} {inner = r} {t = t} h) f known = go (subst (λ (d : Rule). Follows (Tied w rows Turned) rows d a) (read_rule r t h.moved_at) f)
      where
        go : Follows (Tied w rows Turned) rows (if_present (Present n.d r t) (answer_to (Defined n.x r t))) a → Knows w rows (Gives n.a n.d (Under s R) t) a
        go (asked {a = b} k g) =
            subexpression h (present_in w rows s R t n.d b (k _ (present h.scope (named_free core other n quiet).1))) (set h) (is_true b) refl g known
    new_back _ _ a (set {outer = s} {inner = r} {t = t} h) f known =
        let (free, clock) = named_free core other n quiet in
        answered (subst (λ (d : Rule). Follows (Tied w rows Turned) rows d a) (set_rule r t h.moved_at) f) _ (gives (below h) clock (same_expr free))

    tied_back : (q p : Question) (a : Answer) → Matches Tying (rule w q) (rule v p) ⊎ IsNew core other n q p → Follows (Tied w rows Turned) rows (rule v p) a → a ≢ Unknown → Knows w rows q a
    tied_back q p a (inl h) f known = to_rule w rows q a (tracked w rows Turned (rule v p) (rule w q) a (back h) f known) known
    tied_back q p a (inr h) f known = new_back q p a h f known

    pub knows_back : (q p : Question) (a : Answer) → Tie core other n q p → Knows v rows p a → Knows w rows q a
    knows_back q p a tie k =
        induction (Tied w rows Turned) v rows (λ r b f known e h. tied_back e r b (tie_alike core other n marked replies quiet e r h) f known) p a k q tie
