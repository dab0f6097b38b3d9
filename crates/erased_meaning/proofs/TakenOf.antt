-- The first transition whose condition is true.
use Rattle.std.proofs.Common.{◌≡◌, ℕ, ◌+◌, ◌<◌, ◌≤◌, Bool, true, false, List, [], ◌∷◌, ◌++◌, Option, Some, None, slice_get, get_or, drop, if◌then◌else◌, length, refl, sym, ap, subst, ◌∙◌}
use Rattle.std.proofs.lemmas.Option.{slice_get_read}
use Rattle.std.proofs.lemmas.List.{drop_more, drop_all}
use Rattle.std.specs.Option.{option_copied, option_map}
use Rattle.hept_ast.specs.Texts.{state_named}
use Rattle.hept_ast.specs.Scopes.{Scope, In_state, block_of}
use Rattle.hept_ast.specs.Meaning.{Gives, Rule, Says, Setting, test, taken, strong_of, weak_of, is_true}
use Rattle.hept_ast.specs.Meaning as meaning
use Rattle.hept_ast.specs.Outputs.{said, asked}
use Rattle.hept_ast.specs.declared.tree.Escape.{Escape}
use Rattle.hept_ast.specs.declared.tree.State.{State}
use Rattle.std.specs.Borrow.{Bor}
use Rattle.answer_table.specs.declared.paths.Step.{Step}
use Rattle.answer_table.specs.declared.paths.Step.TheVariants as way
use Rattle.answer_table.specs.declared.questions.Asked.TheVariants as asked_of
use Rattle.answer_table.specs.declared.questions.Answer.{Answer}
use Rattle.answer_table.specs.declared.questions.Answer.TheVariants as answer
use Rattle.answer_table.specs.declared.answers.Answers.{Answers}
use Rattle.answer_table.specs.Parts.{and_then, states_at}
use Rattle.answer_table.specs.Things.{Thing, In, At, part, base_thing, weak_thing}
use Rattle.answer_table.specs.Asking.{HasAnswer, answer_of, question_of}
use Rattle.answer_table.specs.Tables.{AnswerAt, Gets, RuleGives, setting_in, thing_in}
use Rattle.erased_meaning.specs.Pending.{AutomatonGives, StrongGives, WeakGives}
use Rattle.erased_meaning.proofs.Following.{asked_further}

-- ---- where the conditions stand

strong_found : (w : Setting) (o : Option State) (n : ℕ) (e : Escape) → slice_get (strong_of w o) n ≡ Some e → and_then o (λ q. slice_get q.strong n) ≡ Some e
strong_found w None n e h = h
strong_found w (Some q) n e h = h

weak_found : (w : Setting) (o : Option State) (n : ℕ) (e : Escape) → slice_get (weak_of w o) n ≡ Some e → and_then o (λ q. slice_get q.weak n) ≡ Some e
weak_found w None n e h = h
weak_found w (Some q) n e h = h

pub strong_leads : (w : Setting) (i k : ℕ) (states : List State) (z : Scope) (n : ℕ) (e : Escape) → states_at (block_of z) i ≡ Some states → slice_get (strong_of w (slice_get states k)) n ≡ Some e →
    part w (In z) (way.Strong i k n) ≡ At e.condition [] z
strong_leads w i k states z n e found h =
    ap (λ (o : Option (List State)). base_thing z (option_map (λ e. e.condition) (and_then (and_then o (λ states. slice_get states k)) (λ q. slice_get q.strong n)))) found ∙
    ap (λ (o : Option Escape). base_thing z (option_map (λ e. e.condition) o)) (strong_found w (slice_get states k) n e h)

pub weak_leads : (w : Setting) (i k : ℕ) (states : List State) (z : Scope) (n : ℕ) (e : Escape) → states_at (block_of z) i ≡ Some states → slice_get (weak_of w (slice_get states k)) n ≡ Some e →
    part w (In z) (way.Weak i k n) ≡ At e.condition [] (In_state z states k)
weak_leads w i k states z n e found h =
    ap (λ (o : Option (List State)). weak_thing z o k (option_map (λ e. e.condition) (and_then (and_then o (λ states. slice_get states k)) (λ q. slice_get q.weak n)))) found ∙
    ap (λ (o : Option Escape). base_thing (In_state z states k) (option_map (λ e. e.condition) o)) (weak_found w (slice_get states k) n e h)

-- ---- transitions from a position on, whose conditions a step leads to

module _ (s : Answers) (path : List Step) (i t : ℕ) (states : List State) (none : Answer) (escapes : List Escape) (step : ℕ → Step) (stand : Scope → Scope)
    (leads : (z : Scope) (n : ℕ) (e : Escape) → states_at (block_of z) i ≡ Some states → slice_get escapes n ≡ Some e → part (setting_in s) (In z) (step n) ≡ At e.condition [] (stand z)) where
  abbrev pub From : ℕ → Answer → Type 0
  From n a = AutomatonGives s path i states (λ z. taken (setting_in s) (drop n escapes) states (answer_of none) (stand z) t) a

  gets : (n : ℕ) (e : Escape) (r : Answer) (z : Scope) → thing_in s path ≡ In z → states_at (block_of z) i ≡ Some states → slice_get escapes n ≡ Some e →
      AnswerAt s (path ++ step n ∷ []) asked_of.Gives t r → Gets s (Gives e.condition [] (stand z) t) r
  gets n e r z is found at h =
      subst (λ (thing : Thing). HasAnswer s.accepted.now s.rows.now (question_of (setting_in s) thing asked_of.Gives t) (answer_of r))
      (ap (λ (thing : Thing). part (setting_in s) thing (step n)) is ∙ leads z n e found at)
      (asked_further s path (step n) asked_of.Gives t r h)

  -- what follows a condition
  abbrev after : Escape → ℕ → Scope → Bool → Rule
  after e n z b = if b then Says (meaning.State_at (state_named e.target states) e.restart) else taken (setting_in s) (drop (n + 1) escapes) states (answer_of none) (stand z) t

  one_more : (n : ℕ) (e : Escape) → n < length escapes → e ≡ get_or escapes n e → (z : Scope) (a : Answer) → RuleGives s (test (Gives e.condition [] (stand z) t) (after e n z)) a →
      RuleGives s (taken (setting_in s) (drop n escapes) states (answer_of none) (stand z) t) a
  one_more n e within is z a h =
      subst (λ (xs : List Escape). RuleGives s (taken (setting_in s) xs states (answer_of none) (stand z) t) a)
      (sym (drop_more escapes n e within ∙ ap (λ (x : Escape). x ∷ drop (n + 1) escapes) (sym is))) h

  pub first_taken : (n : ℕ) (e : Escape) (r : Answer) (to : ℕ) → n < length escapes → e ≡ get_or escapes n e → AnswerAt s (path ++ step n ∷ []) asked_of.Gives t r → is_true (answer_of r) ≡ true →
      to ≡ state_named e.target states → From n (answer.StateAt to e.restart)
  first_taken n e r to within is h holds leads_to z in_z found =
      subst (λ (k : ℕ). RuleGives s (taken (setting_in s) (drop n escapes) states (answer_of none) (stand z) t) (answer.StateAt k e.restart)) (sym leads_to)
      (one_more n e within is z (answer.StateAt (state_named e.target states) e.restart)
      (asked (gets n e r z in_z found (slice_get_read escapes (length escapes) n e refl within is) h)
      (subst (λ (b : Bool). RuleGives s (after e n z b) (answer.StateAt (state_named e.target states) e.restart)) (sym holds) said)))

  pub next_taken : (n : ℕ) (e : Escape) (r a : Answer) → n < length escapes → e ≡ get_or escapes n e → AnswerAt s (path ++ step n ∷ []) asked_of.Gives t r → is_true (answer_of r) ≡ false →
      From (n + 1) a → From n a
  next_taken n e r a within is h fails rest z in_z found =
      one_more n e within is z a
      (asked (gets n e r z in_z found (slice_get_read escapes (length escapes) n e refl within is) h)
      (subst (λ (b : Bool). RuleGives s (after e n z b) a) (sym fails) (rest z in_z found)))

  pub none_taken : (n : ℕ) → length escapes ≤ n → From n none
  none_taken n past z in_z found =
      subst (λ (xs : List Escape). RuleGives s (taken (setting_in s) xs states (answer_of none) (stand z) t) none) (sym (drop_all n escapes past)) said

-- ---- the transitions of a state

-- what is got is there
pub got_as : {X : Type 0} (o : Option (Bor X)) (x : Option X) (q : Option (Bor X)) → option_copied o ≡ x → o ≡ q → x ≡ option_copied q
got_as {X} o x q got is = sym got ∙ ap (λ (y : Option (Bor X)). option_copied y) is

pub strong_in : (w : Setting) (i k : ℕ) (states : List State) (from : State) (escapes : List Escape) → slice_get states k ≡ Some from → escapes ≡ from.strong →
    (z : Scope) (n : ℕ) (e : Escape) → states_at (block_of z) i ≡ Some states → slice_get escapes n ≡ Some e → part w (In z) (way.Strong i k n) ≡ At e.condition [] z
strong_in w i k states from escapes got same z n e found h =
    strong_leads w i k states z n e found (ap (λ (o : Option State). slice_get (strong_of w o) n) got ∙ ap (λ (xs : List Escape). slice_get xs n) (sym same) ∙ h)

pub weak_in : (w : Setting) (i k : ℕ) (states : List State) (from : State) (escapes : List Escape) → slice_get states k ≡ Some from → escapes ≡ from.weak →
    (z : Scope) (n : ℕ) (e : Escape) → states_at (block_of z) i ≡ Some states → slice_get escapes n ≡ Some e → part w (In z) (way.Weak i k n) ≡ At e.condition [] (In_state z states k)
weak_in w i k states from escapes got same z n e found h =
    weak_leads w i k states z n e found (ap (λ (o : Option State). slice_get (weak_of w o) n) got ∙ ap (λ (xs : List Escape). slice_get xs n) (sym same) ∙ h)

-- where there is no state, there are no transitions
pub strong_without : (s : Answers) (path : List Step) (i t : ℕ) (states : List State) (pending : ℕ × Bool) → slice_get states pending.0 ≡ None → StrongGives s path i states pending t (answer.StateAt pending.0 pending.1)
strong_without s path i t states pending got z in_z found =
    subst (λ (o : Option State). RuleGives s (taken (setting_in s) (strong_of (setting_in s) o) states (meaning.State_at pending.0 pending.1) z t) (answer.StateAt pending.0 pending.1)) (sym got) said

pub weak_without : (s : Answers) (path : List Step) (i t : ℕ) (states : List State) (k : ℕ) → slice_get states k ≡ None → WeakGives s path i states k t (answer.StateAt k false)
weak_without s path i t states k got z in_z found =
    subst (λ (o : Option State). RuleGives s (taken (setting_in s) (weak_of (setting_in s) o) states (meaning.State_at k false) (In_state z states k) t) (answer.StateAt k false)) (sym got) said
