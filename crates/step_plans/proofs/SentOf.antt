-- What sites are sent, instant by instant.
use Rattle.std.proofs.Common.{◌≡◌, ℕ, zero, suc, ◌+◌, Bool, true, false, List, [], ◌∷◌, ◌++◌, length, map, Some, refl, sym, subst, ap, ◌∙◌, arith, append-nil, append_assoc, length-append}
use Rattle.std.specs.Prelude.{if◌then◌else◌, ◌==◌, ◌||◌, slice_get, slice_index}
use Rattle.std.proofs.lemmas.List.{map-append}
use Rattle.hept_ast.specs.Values.{truth}
use Rattle.hept_ast.specs.Scopes.{Clock, Scope}
use Rattle.hept_ast.specs.Meaning.{Present, Gives, Answer, Value, Is, Setting}
use Rattle.hept_ast.specs.Outputs.{Knows, HaveValues}
use Rattle.hept_ast.specs.Sites.{Site, SentFrom, end, call, no_call, argument_questions}
use Rattle.hept_ast.specs.declared.tree.Expr.{Expr}
use Rattle.hept_ast.proofs.Depths.{one_answer}
use Rattle.step_plans.specs.Kept.{Counted, one_more, no_more}
use Rattle.step_plans.specs.Things.{Shows}
use Rattle.step_plans.specs.Books.{Made, worth, of_instance}
use Rattle.step_plans.specs.Sending.{HaveAnswers, did_call, did_nothing, IsSent, none_sent, sent_now, not_sent, SentUpToNow, as_sent, IsMark, OneInstantMore}
use Rattle.step_plans.proofs.Frames.{K}
use Rattle.step_plans.proofs.Reading.{if_truth}

-- ---- the same calls as the meaning's

sent_and_more : (w : Setting) (rows : List (List ℕ)) (site : Site) (p : ℕ) (again : Bool) (calls : List (Bool × List ℕ)) → IsSent w rows site p again calls →
    (left : ℕ) (more : List (Bool × List ℕ)) → SentFrom w rows site again p left more → SentFrom w rows site false 0 (p + left) (calls ++ more)
sent_and_more w rows site zero again calls none_sent left more f =
    let e : left ≡ 0 + left = omega arith in
    subst (λ (n : ℕ). SentFrom w rows site false 0 n more) e f
sent_and_more w rows site (suc p) again calls (sent_now {again = before} {restarted = r} {calls = earlier} args h k v rest) left more f =
    let e : p + suc left ≡ suc p + left = omega arith in
    let x : Bool × List ℕ = (before || r, args) in
    subst (λ (n : ℕ). SentFrom w rows site false 0 n ((earlier ++ x ∷ []) ++ more)) e
    (subst (λ (cs : List (Bool × List ℕ)). SentFrom w rows site false 0 (p + suc left) cs) (sym (append_assoc earlier (x ∷ []) more))
    (sent_and_more w rows site p before earlier rest (suc left) (x ∷ more) (call h k v f)))
sent_and_more w rows site (suc p) again calls (not_sent {again = before} h k rest) left more f =
    let e : p + suc left ≡ suc p + left = omega arith in
    subst (λ (n : ℕ). SentFrom w rows site false 0 n (calls ++ more)) e (sent_and_more w rows site p before calls rest (suc left) more (no_call h k f))

pub sent_up_to_now : SentUpToNow
sent_up_to_now w rows site again calls h =
    let e : length rows + 0 ≡ length rows = omega arith in
    subst (λ (n : ℕ). SentFrom w rows site false 0 n calls) e
    (subst (λ (cs : List (Bool × List ℕ)). SentFrom w rows site false 0 (length rows + 0) cs) (append-nil calls) (sent_and_more w rows site (length rows) again calls h 0 [] end))

-- ---- one instant more

mark_is : (w : Setting) (t mark : ℕ) (again restarts : Bool) → IsMark w t again mark → (mark == 1 || restarts) ≡ (again || (w.marked t || restarts))
mark_is w t mark again restarts m = by_mark (w.marked t) m.marked m.unmarked
  where
    by_mark : (r : Bool) → (r ≡ true → mark ≡ 1) → (r ≡ false → mark ≡ truth again) → (mark == 1 || restarts) ≡ (again || (r || restarts))
    by_mark true f g = ap (λ (n : ℕ). n == 1 || restarts) (f refl) ∙ any again
      where
        any : (b : Bool) → true ≡ (b || true)
        any true = refl
        any false = refl
    by_mark false f g = ap (λ (n : ℕ). n == 1 || restarts) (g refl) ∙ own again
      where
        own : (b : Bool) → (truth b == 1 || restarts) ≡ (b || restarts)
        own true = refl
        own false = refl

next_mark_is : (w : Setting) (t mark restarts : ℕ) (again a : Bool) → IsMark w t again mark → restarts ≡ truth a → (if restarts == 1 then 1 else mark) ≡ truth (again || (w.marked t || a))
next_mark_is w t mark restarts again a m e = if_truth restarts a 1 mark e ∙ by_mark (w.marked t) m.marked m.unmarked a
  where
    any : (b : Bool) → 1 ≡ truth (b || true)
    any true = refl
    any false = refl

    own : (b : Bool) → truth b ≡ truth (b || false)
    own true = refl
    own false = refl

    by_mark : (r : Bool) → (r ≡ true → mark ≡ 1) → (r ≡ false → mark ≡ truth again) → (a : Bool) → (if a then 1 else mark) ≡ truth (again || (r || a))
    by_mark true f g true = any again
    by_mark true f g false = f refl ∙ any again
    by_mark false f g true = any again
    by_mark false f g false = g refl ∙ own again

-- answers that are values
have_values : (w : Setting) (rows : List (List ℕ)) (t : ℕ) (c : Clock) (s : Scope) (es : List Expr) (vs : List ℕ) → HaveAnswers w rows (map (λ e. Gives e c s t) es) vs →
    ((k : ℕ) (e : Expr) (a : Answer) → slice_get es k ≡ Some e → Knows w rows (Gives e c s t) a → (v : ℕ) × (a ≡ Value v)) → HaveValues w rows (map (λ e. Gives e c s t) es) vs
have_values w rows t c s [] [] have are = tt
have_values w rows t c s [] (v ∷ vs) have are = absurd have
have_values w rows t c s (e ∷ es) [] have are = absurd have
have_values w rows t c s (e ∷ es) (v ∷ vs) have are =
    let given = are 0 e have.0.answer refl have.0.known in
    let same : v ≡ given.0 = subst (λ (a : Answer). Shows a v) given.1 have.0.shown in
    let known : Knows w rows (Gives e c s t) (Value given.0) = subst (λ (a : Answer). Knows w rows (Gives e c s t) a) given.1 have.0.known in (
      subst (λ (n : ℕ). Knows w rows (Gives e c s t) (Value n)) (sym same) known,
      have_values w rows t c s es vs have.1 (λ k. are (suc k)),
    )

pub one_instant_more : OneInstantMore
one_instant_more w rows t marks site k begin now reply again here restarts (did_call c a present calls restarted reset has) made sent mark arguments shown restarting = (
  subst (λ (n : ℕ). Counted (K w rows) (λ p. Present site.clock site.scope p) (suc t) n)
      (sym (ap length calls ∙ length-append (of_instance k begin.calls) (c ∷ []) ∙ (omega arith))) (one_more present made),
  false,
  subst (λ (cs : List (Bool × List ℕ)). IsSent w rows site (suc t) false cs) (sym all)
      (sent_now (map (worth reply) c.input) restarted present values sent),
  if_truth here true 0 (if restarts == 1 then 1 else slice_index marks k) (shown.shown ∙ ap truth is_here),
)
  where
    is_here : shown.answer ≡ true
    is_here = let e = one_answer w rows (Present site.clock site.scope t) (Is shown.answer) (Is true) shown.known present in cc

    values : HaveValues w rows (argument_questions site t) (map (worth reply) c.input)
    values = have_values w rows t site.clock site.scope site.args (map (worth reply) c.input) has (λ k e b at known. arguments k e b at present known)

    all : as_sent reply (of_instance k now.calls) ≡ as_sent reply (of_instance k begin.calls) ++ (again || (w.marked t || a), map (worth reply) c.input) ∷ []
    all =
        ap (as_sent reply) calls ∙ map-append (λ (d : Made). (d.reset, map (worth reply) d.input)) (of_instance k begin.calls) (c ∷ [])
        ∙ ap (λ (b : Bool). as_sent reply (of_instance k begin.calls) ++ (b, map (worth reply) c.input) ∷ []) (reset ∙ mark_is w t (slice_index marks k) again a mark)
one_instant_more w rows t marks site k begin now reply again here restarts (did_nothing absent calls) made sent mark argument shown restarting = (
  subst (λ (n : ℕ). Counted (K w rows) (λ p. Present site.clock site.scope p) (suc t) n) (sym (ap length calls)) (no_more absent made),
  again || (w.marked t || restarting.answer),
  subst (λ (cs : List Made). IsSent w rows site (suc t) (again || (w.marked t || restarting.answer)) (as_sent reply cs)) (sym calls) (not_sent restarting.known absent sent),
  if_truth here false 0 (if restarts == 1 then 1 else slice_index marks k) (shown.shown ∙ ap truth is_away)
      ∙ next_mark_is w t (slice_index marks k) restarts again restarting.answer mark restarting.shown,
)
  where
    is_away : shown.answer ≡ false
    is_away = let e = one_answer w rows (Present site.clock site.scope t) (Is shown.answer) (Is false) shown.known absent in cc
