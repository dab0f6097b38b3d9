-- What sites are sent, instant by instant.
use Rattle.std.specs.Prelude.{◌≡◌, ℕ, suc, ◌<◌, ◌==◌, ◌||◌, Bool, true, false, if◌then◌else◌, List, [], ◌∷◌, ◌++◌, length, map, Some, slice_get, slice_index}
use Rattle.hept_ast.specs.Values.{truth}
use Rattle.hept_ast.specs.Meaning.{Question, Present, Restarted, Gives, Answer, Value, Is, Setting}
use Rattle.hept_ast.specs.Outputs.{Knows, HaveValues}
use Rattle.hept_ast.specs.Sites.{Site, Sent, argument_questions, path_of}
use Rattle.hept_ast.specs.declared.tree.Expr.{Expr}
use Rattle.step_cells.specs.declared.cell.Handle.{Handle}
use Rattle.step_plans.specs.Kept.{Counted}
use Rattle.step_plans.specs.Things.{HasAnswer, HasTruth, IsAgain}
use Rattle.step_plans.specs.Books.{Made, Book, of_instance, of_output, worth}

-- the replies are those of the book: for the calls of each site, by their numbers
abbrev pub AgreesWith : Setting → List Site → Book → Type 0
AgreesWith w sites book = (k : ℕ) (site : Site) (j : ℕ) (c : Made) → slice_get sites k ≡ Some site → slice_get (of_instance k book.calls) j ≡ Some c →
    (outs : List ℕ) × (w.replies (path_of site) j ≡ Some outs) × ((m : ℕ) → m < book.outputs k → slice_index outs m ≡ book.reply (of_output c.handle m))

-- so many calls of a site were made before an instant
abbrev pub IsMade : Setting → List (List ℕ) → ℕ → Site → ℕ → Book → Type 0
IsMade w rows t site k book = Counted (Knows w rows) (λ p. Present site.clock site.scope p) t (length (of_instance k book.calls))

-- the numbers show what the questions have for answers
abbrev pub HaveAnswers : Setting → List (List ℕ) → List Question → List ℕ → Type 0
HaveAnswers w rows [] [] = Unit {0}
HaveAnswers w rows (q ∷ qs) (v ∷ vs) = HasAnswer (Knows w rows) q v × HaveAnswers w rows qs vs
HaveAnswers w rows _ _ = ⊥

-- what became of a site at an instant: a call, with its reset mark and its arguments, or none
pub data Did (w : Setting) (rows : List (List ℕ)) (t : ℕ) (reply : Handle → ℕ) (marks : List ℕ) (site : Site) (k : ℕ) (begin now : Book) : Type 0 where
  did_call : (c : Made) (again : Bool) → Knows w rows (Present site.clock site.scope t) (Is true) → of_instance k now.calls ≡ of_instance k begin.calls ++ c ∷ [] →
      Knows w rows (Restarted site.scope t) (Is (w.marked t || again)) → c.reset ≡ (slice_index marks k == 1 || again) →
      HaveAnswers w rows (argument_questions site t) (map (worth reply) c.input) → Did w rows t reply marks site k begin now
  did_nothing : Knows w rows (Present site.clock site.scope t) (Is false) → of_instance k now.calls ≡ of_instance k begin.calls → Did w rows t reply marks site k begin now

-- the calls before an instant, and whether the scope was restarted since the last of them
pub data IsSent (w : Setting) (rows : List (List ℕ)) (site : Site) : (t : ℕ) → (again : Bool) → List (Bool × List ℕ) → Type 0 where
  none_sent : IsSent w rows site 0 false []
  sent_now : {p : ℕ} {again restarted : Bool} {calls : List (Bool × List ℕ)} (args : List ℕ) → Knows w rows (Restarted site.scope p) (Is restarted) → Knows w rows (Present site.clock site.scope p) (Is true) →
      HaveValues w rows (argument_questions site p) args → IsSent w rows site p again calls → IsSent w rows site (suc p) false (calls ++ (again || restarted, args) ∷ [])
  not_sent : {p : ℕ} {again restarted : Bool} {calls : List (Bool × List ℕ)} → Knows w rows (Restarted site.scope p) (Is restarted) → Knows w rows (Present site.clock site.scope p) (Is false) →
      IsSent w rows site p again calls → IsSent w rows site (suc p) (again || restarted) calls

abbrev pub SentUpToNow : Type 0
SentUpToNow = (w : Setting) (rows : List (List ℕ)) (site : Site) (again : Bool) (calls : List (Bool × List ℕ)) → IsSent w rows site (length rows) again calls → Sent w rows site calls

-- the calls of a list, with values in place of cells
abbrev pub as_sent : (Handle → ℕ) → List Made → List (Bool × List ℕ)
as_sent reply calls = map (λ c. (c.reset, map (worth reply) c.input)) calls

-- a site's mark before an instant: of an instant that is marked it is set
pub record IsMark (w : Setting) (t : ℕ) (again : Bool) (mark : ℕ) : Type 0 where
  pub marked : w.marked t ≡ true → mark ≡ 1
  pub unmarked : w.marked t ≡ false → mark ≡ truth again

-- the mark after it
abbrev pub next_mark : (here again mark : ℕ) → ℕ
next_mark here again mark = if here == 1 then 0 else (if again == 1 then 1 else mark)

-- each argument has a value where the call is present
abbrev pub HaveArguments : Setting → List (List ℕ) → ℕ → Site → Type 0
HaveArguments w rows t site = (k : ℕ) (e : Expr) (a : Answer) → slice_get site.args k ≡ Some e → Knows w rows (Present site.clock site.scope t) (Is true) → Knows w rows (Gives e site.clock site.scope t) a → (v : ℕ) × (a ≡ Value v)

-- one instant more of a site: how often it was called, what it was sent, and its mark
abbrev pub OneInstantMore : Type 0
OneInstantMore = (w : Setting) (rows : List (List ℕ)) (t : ℕ) (marks : List ℕ) (site : Site) (k : ℕ) (begin now : Book) (reply : Handle → ℕ) (again : Bool) (here restarts : ℕ) → Did w rows t reply marks site k begin now →
    IsMade w rows t site k begin → IsSent w rows site t again (as_sent reply (of_instance k begin.calls)) → IsMark w t again (slice_index marks k) → HaveArguments w rows t site →
    HasTruth (Knows w rows) (Present site.clock site.scope t) here → IsAgain w rows site.scope t restarts →
    IsMade w rows (suc t) site k now × (later : Bool) × IsSent w rows site (suc t) later (as_sent reply (of_instance k now.calls)) × (next_mark here restarts (slice_index marks k) ≡ truth later)
