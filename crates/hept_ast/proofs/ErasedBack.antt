-- What is known of the erased program is known of the program.
-- What is known of the erased program is known of the program.
use Rattle.std.proofs.Common.{◌≡◌, ◌≢◌, ◌⊎◌, inl, inr, ℕ, Bool, true, false, List, refl, sym, ap, subst, ◌∙◌}
use Rattle.std.specs.Prelude.{if◌then◌else◌}
use Rattle.hept_ast.specs.Scopes.{Clock, Scope}
use Rattle.hept_ast.specs.Meaning.{Question, Gives, Output, Variable, Last, Defined, Defines, Present, Active, Restarted, Active_state, Left_state, Answer, Unknown, Absent, Rule, Says, Setting, is_true, if_present, defines_rule, rule}
use Rattle.hept_ast.specs.Outputs.{Knows, Follows, said, read, asked}
use Rattle.hept_ast.specs.Erasure.{erased_expr}
use Rattle.hept_ast.specs.ErasedScopes.{erased_scope, erased_question, erased_setting}
use Rattle.hept_ast.specs.declared.name.Place.{Place}
use Rattle.hept_ast.specs.declared.tree.Expr.{Expr}
use Rattle.hept_ast.specs.declared.tree.Block.{Block}
use Rattle.hept_ast.specs.declared.tree.Branch.{Branch}
use Rattle.hept_ast.specs.declared.tree.State.{State}
use Rattle.hept_ast.specs.declared.tree.Equation.{Equation, out-Equation}
use Rattle.hept_ast.specs.declared.tree.Equation.TheOpen.{Equation-F}
use Rattle.hept_ast.specs.declared.tree.MergeBranch.{MergeBranch}
use Rattle.hept_ast.specs.declared.tree.Form.{Form, out-Form, Get', Const as Const_form, Var as Var_form, Last as Last_form, Unary', Binary', If', Fby', Pre', Arrow', When', Merge', Call', AsyncCall', AsyncConst, end_of-Expr, more_of-Expr}
use Rattle.hept_ast.specs.declared.tree.Form.TheOpen.{Form-F}
use Rattle.hept_ast.proofs.Depths.{to_rule, induction}
use Rattle.hept_ast.proofs.ErasedViews.{NotGet, erased_view, erased_is, equation_layer_of}
use Rattle.hept_ast.proofs.ErasedMeaning.{Tracks, says, reads, asks, if_tracks, gives_tracks, call_tracks, variable_rule_tracks, last_rule_tracks, defined_rule_tracks, defines_tracks, steps_tracks, active_tracks, restarted_tracks, active_state_tracks, left_state_tracks}
use Rattle.hept_ast.proofs.Unfolded.{tree}

-- an expression is some gets of one that is no get
data Gets : Expr → Type 0 where
  here : (e : Expr) → NotGet (out-Form e.form) → Gets e
  below : (e b : Expr) → out-Form e.form ≡ Form-F.Get b → Gets b → Gets e

gets_of : (p : Place) (f : Form) → Gets (record { place = p; form = f })
unfolding tree denote.Hole.Carrier.out denote.Hole.Carrier.shown out-Form
gets_of p (Get' s (more_of-Expr q g end_of-Expr)) = below (record { place = p; form = Get' s (more_of-Expr q g end_of-Expr) }) (record { place = q; form = g }) refl (gets_of q g)
gets_of p (Const_form k) = here (record { place = p; form = Const_form k }) tt
gets_of p (Var_form x) = here (record { place = p; form = Var_form x }) tt
gets_of p (Last_form x) = here (record { place = p; form = Last_form x }) tt
gets_of p (Unary' op s a) = here (record { place = p; form = Unary' op s a }) tt
gets_of p (Binary' op s a t b) = here (record { place = p; form = Binary' op s a t b }) tt
gets_of p (If' s c t a u b) = here (record { place = p; form = If' s c t a u b }) tt
gets_of p (Fby' s a t b) = here (record { place = p; form = Fby' s a t b }) tt
gets_of p (Pre' s a) = here (record { place = p; form = Pre' s a }) tt
gets_of p (Arrow' s a t b) = here (record { place = p; form = Arrow' s a t b }) tt
gets_of p (When' s a tag x) = here (record { place = p; form = When' s a tag x }) tt
gets_of p (Merge' x s bs) = here (record { place = p; form = Merge' x s bs }) tt
gets_of p (Call' f s args) = here (record { place = p; form = Call' f s args }) tt
gets_of p (AsyncCall' q f s args) = here (record { place = p; form = AsyncCall' q f s args }) tt
gets_of p (AsyncConst k) = here (record { place = p; form = AsyncConst k }) tt

gets : (e : Expr) → Gets e
gets e = gets_of e.place e.form

-- what is known of each question whose erased one this is
abbrev Back : Setting → List (List ℕ) → Question → Answer → Type 0
Back w rows p a = (q : Question) → erased_question q ≡ p → Knows w rows q a

-- a rule comes to what the erased one comes to
back : (w : Setting) (rows : List (List ℕ)) (d e : Rule) (a : Answer) → Tracks d e → Follows (Back w rows) rows e a → Follows (Knows w rows) rows d a
back w rows d e a says said = said
back w rows d e a reads (read i) = read i
back w rows d e a (asks {q = q} {go = go} {go' = go'} h) (asked {a = b} k f) = asked (k q refl) (back w rows (go b) (go' b) a (h b) f)

by_back : (w : Setting) (rows : List (List ℕ)) (q : Question) (a : Answer) → Tracks (rule w q) (rule (erased_setting w) (erased_question q)) →
    Follows (Back w rows) rows (rule (erased_setting w) (erased_question q)) a → a ≢ Unknown → Knows w rows q a
by_back w rows q a tracks h known = to_rule w rows q a (back w rows _ _ a tracks h) known

here_or_absent : (w : Setting) (rows : List (List ℕ)) (d : Rule) (a : Answer) (b : Bool) →
    Follows (Back w rows) rows (if b then d else Says Absent) a → (b ≡ true) ⊎ ((b ≡ false) × (a ≡ Absent))
here_or_absent w rows d a true f = inl refl
here_or_absent w rows d _ false said = inr (refl, refl)

-- whether something is present is asked first
presence : (w : Setting) (rows : List (List ℕ)) (clock : Clock) (s : Scope) (t : ℕ) (d : Rule) (a : Answer) → Follows (Back w rows) rows (if_present (Present clock (erased_scope s) t) d) a →
    (x : Answer) × Knows w rows (Present clock s t) x × ((is_true x ≡ true) ⊎ ((is_true x ≡ false) × (a ≡ Absent)))
presence w rows clock s t d a (asked {a = x} k f) = (x, k (Present clock s t) refl, here_or_absent w rows d a (is_true x) f)

-- a get gives what its operand gives
get_gives : (w : Setting) (rows : List (List ℕ)) (e b : Expr) (clock : Clock) (s : Scope) (t : ℕ) (a x : Answer) → out-Form e.form ≡ Form-F.Get b →
    Knows w rows (Present clock s t) x → (is_true x ≡ true) ⊎ ((is_true x ≡ false) × (a ≡ Absent)) → Knows w rows (Gives b clock s t) a → Knows w rows (Gives e clock s t) a
get_gives w rows e b clock s t a x is k (inl there) h = to_rule w rows (Gives e clock s t) a (asked k (rw there (rw is (asked h said)))) h.known
get_gives w rows e b clock s t a x is k (inr gone) h = to_rule w rows (Gives e clock s t) a (asked k (rw gone.0 (rw gone.1 said))) h.known

get_output : (w : Setting) (rows : List (List ℕ)) (e b : Expr) (j : ℕ) (clock : Clock) (s : Scope) (t : ℕ) (a x : Answer) → out-Form e.form ≡ Form-F.Get b →
    Knows w rows (Present clock s t) x → (is_true x ≡ true) ⊎ ((is_true x ≡ false) × (a ≡ Absent)) → Knows w rows (Output b j clock s t) a → Knows w rows (Output e j clock s t) a
get_output w rows e b j clock s t a x is k (inl there) h = to_rule w rows (Output e j clock s t) a (asked k (rw there (rw is (asked h said)))) h.known
get_output w rows e b j clock s t a x is k (inr gone) h = to_rule w rows (Output e j clock s t) a (asked k (rw gone.0 (rw gone.1 said))) h.known

erased_get : (e b : Expr) → out-Form e.form ≡ Form-F.Get b → erased_expr e ≡ erased_expr b
erased_get e b is = erased_is e ∙ ap (λ (g : Form-F Form Expr MergeBranch). erased_view g e.place) is

gives_back : (w : Setting) (rows : List (List ℕ)) (e : Expr) (clock : Clock) (s : Scope) (t : ℕ) (a : Answer) → Gets e →
    Follows (Back w rows) rows (rule (erased_setting w) (Gives (erased_expr e) clock (erased_scope s) t)) a → a ≢ Unknown → Knows w rows (Gives e clock s t) a
gives_back w rows _ clock s t a (here e plain) h known = by_back w rows (Gives e clock s t) a (gives_tracks w e clock s t plain) h known
gives_back w rows _ clock s t a (below e b is more) h known =
    let p : (x : Answer) × Knows w rows (Present clock s t) x × ((is_true x ≡ true) ⊎ ((is_true x ≡ false) × (a ≡ Absent))) = presence w rows clock s t _ a h in
    get_gives w rows e b clock s t a p.0 is p.1 p.2
    (gives_back w rows b clock s t a more (subst (λ (d : Expr). Follows (Back w rows) rows (rule (erased_setting w) (Gives d clock (erased_scope s) t)) a) (erased_get e b is) h) known)

output_back : (w : Setting) (rows : List (List ℕ)) (e : Expr) (j : ℕ) (clock : Clock) (s : Scope) (t : ℕ) (a : Answer) → Gets e →
    Follows (Back w rows) rows (rule (erased_setting w) (Output (erased_expr e) j clock (erased_scope s) t)) a → a ≢ Unknown → Knows w rows (Output e j clock s t) a
output_back w rows _ j clock s t a (here e plain) h known = by_back w rows (Output e j clock s t) a (call_tracks w e j clock s t plain) h known
output_back w rows _ j clock s t a (below e b is more) h known =
    let p : (x : Answer) × Knows w rows (Present clock s t) x × ((is_true x ≡ true) ⊎ ((is_true x ≡ false) × (a ≡ Absent))) = presence w rows clock s t _ a h in
    get_output w rows e b j clock s t a p.0 is p.1 p.2
    (output_back w rows b j clock s t a more (subst (λ (d : Expr). Follows (Back w rows) rows (rule (erased_setting w) (Output d j clock (erased_scope s) t)) a) (erased_get e b is) h) known)

-- each rule
goes_back : (w : Setting) (rows : List (List ℕ)) (q : Question) (a : Answer) → Follows (Back w rows) rows (rule (erased_setting w) (erased_question q)) a → a ≢ Unknown → Knows w rows q a
goes_back w rows (Gives e clock s t) a h known = gives_back w rows e clock s t a (gets e) h known
goes_back w rows (Output e j clock s t) a h known = output_back w rows e j clock s t a (gets e) h known
goes_back w rows (Variable x s t) a h known = by_back w rows (Variable x s t) a (variable_rule_tracks w x s t) h known
goes_back w rows (Last x s t) a h known = by_back w rows (Last x s t) a (last_rule_tracks w x s t) h known
goes_back w rows (Defined x s t) a h known = by_back w rows (Defined x s t) a (defined_rule_tracks w x s t) h known
goes_back w rows (Defines x e) a h known = by_back w rows (Defines x e) a
    (subst (λ (f : Equation-F Equation Block Branch State). Tracks (defines_rule w (out-Equation e) x) (defines_rule (erased_setting w) f x)) (sym (equation_layer_of e))
    (defines_tracks w (out-Equation e) x)) h known
goes_back w rows (Present clock s t) a h known = by_back w rows (Present clock s t) a (asks (λ x. if_tracks (is_true x) (steps_tracks w clock s t) says)) h known
goes_back w rows (Active s t) a h known = by_back w rows (Active s t) a (active_tracks w s t) h known
goes_back w rows (Restarted s t) a h known = by_back w rows (Restarted s t) a (restarted_tracks w s t) h known
goes_back w rows (Active_state s states t) a h known = by_back w rows (Active_state s states t) a (active_state_tracks w s states t) h known
goes_back w rows (Left_state s states t) a h known = by_back w rows (Left_state s states t) a (left_state_tracks w s states t) h known

-- what is known of the erased question is known of the question
pub known_back : (w : Setting) (rows : List (List ℕ)) (q : Question) (a : Answer) → Knows (erased_setting w) rows (erased_question q) a → Knows w rows q a
known_back w rows q a h =
    induction (Back w rows) (erased_setting w) rows
    (λ p b f known r e. goes_back w rows r b (subst (λ (x : Question). Follows (Back w rows) rows (rule (erased_setting w) x) b) (sym e) f) known) (erased_question q) a h q refl
