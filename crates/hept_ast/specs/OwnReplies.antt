-- Replies that are the sites' own values: they change neither outputs nor what is sent.
use Rattle.std.specs.Prelude.{◌≡◌, ℕ, ◌<◌, Bool, List, [], ◌∷◌, ◌++◌, length, Some, slice_get}
use Rattle.hept_ast.specs.Texts.{Name}
use Rattle.hept_ast.specs.Scopes.{Clock, Text, Scope, Top, outputs_of, calls_around}
use Rattle.hept_ast.specs.Meaning.{Question, Gives, Output, Variable, Present, Restarted, Answer, Rule, Asks, Setting, call_of, rule}
use Rattle.hept_ast.specs.Outputs.{Knows, Outputs}
use Rattle.hept_ast.specs.Sites.{Site, path_of, Sent, with_replies}
use Rattle.hept_ast.specs.Calls.{GivenOutputs}
use Rattle.hept_ast.specs.Marks.{HasNoReplies}
use Rattle.hept_ast.specs.declared.tree.Expr.{Expr}
use Rattle.hept_ast.specs.declared.tree.Form.{out-Form}

-- a rule asks a question, at once or after answers that are known
pub data AskedBy (w : Setting) (rows : List (List ℕ)) : Rule → Question → Type 0 where
  at_once : {q : Question} {go : Answer → Rule} → AskedBy w rows (Asks q go) q
  after_answer : {q p : Question} {go : Answer → Rule} {a : Answer} → Knows w rows q a → AskedBy w rows (go a) p → AskedBy w rows (Asks q go) p

-- what is asked where the variables of a node, and what is sent to these sites, are asked for
pub data Reached (w : Setting) (rows : List (List ℕ)) (text : Text) (sites : List Site) : Question → Type 0 where
  of_top : {x : Name} {t : ℕ} → Reached w rows text sites (Variable x (Top text) t)
  of_restart : (i : ℕ) {t : ℕ} {site : Site} → slice_get sites i ≡ Some site → Reached w rows text sites (Restarted site.scope t)
  of_presence : (i : ℕ) {t : ℕ} {site : Site} → slice_get sites i ≡ Some site → Reached w rows text sites (Present site.clock site.scope t)
  of_argument : (i j : ℕ) {t : ℕ} {site : Site} {e : Expr} → slice_get sites i ≡ Some site → slice_get site.args j ≡ Some e →
      Reached w rows text sites (Gives e site.clock site.scope t)
  of_rule : {q p : Question} → Reached w rows text sites q → AskedBy w rows (rule w q) p → Reached w rows text sites p

-- the call of an expression is that of a site
pub record IsCallOf (site : Site) (s : Scope) (clock : Clock) (place : ℕ) (call : List Expr × Text) : Type 0 where
  pub scope : site.scope ≡ s
  pub clocks : site.clock ≡ clock
  pub places : site.place ≡ place
  pub args : site.args ≡ call.0
  pub text : site.text ≡ call.1

-- a call that is reached, and that has the path of a site, is that site's
abbrev pub PathsTell : Setting → (rows : List (List ℕ)) → Text → List Site → Type 0
PathsTell w rows text sites = (e : Expr) (j : ℕ) (clock : Clock) (s : Scope) (t : ℕ) (call : List Expr × Text) (i : ℕ) (site : Site) →
    Reached w rows text sites (Output e j clock s t) → call_of w (out-Form e.form) ≡ Some call → slice_get sites i ≡ Some site →
    path_of site ≡ calls_around s ++ e.place.0 ∷ [] → IsCallOf site s clock e.place.0 call

-- each output that is asked of a call is one of its node's: right sides fit their left sides, and no called node is without outputs
abbrev pub OutputsFit : Setting → (rows : List (List ℕ)) → Text → List Site → Type 0
OutputsFit w rows text sites = (e : Expr) (j : ℕ) (clock : Clock) (s : Scope) (t : ℕ) (call : List Expr × Text) →
    Reached w rows text sites (Output e j clock s t) → call_of w (out-Form e.form) ≡ Some call → j < length (outputs_of call.1)

-- under these replies the sites are sent some calls, and the replies are what the sites' nodes give alone on them
abbrev pub AreOwn : Setting → List Site → List (List (List ℕ)) → (rows : List (List ℕ)) → Type 0
AreOwn w sites lists rows = (i : ℕ) (site : Site) → slice_get sites i ≡ Some site →
    (calls : List (Bool × List ℕ)) × (outs : List (List ℕ)) × (slice_get lists i ≡ Some outs) × Sent (with_replies w sites lists) rows site calls × GivenOutputs w site calls outs

-- the outputs are the outputs under such replies
abbrev pub OwnRepliesKeepOutputs : Type 0
OwnRepliesKeepOutputs = (w : Setting) (text : Text) (sites : List Site) (lists : List (List (List ℕ))) (rows outs : List (List ℕ)) →
    HasNoReplies w → PathsTell w rows text sites → OutputsFit w rows text sites → AreOwn w sites lists rows →
    Outputs w text rows outs → Outputs (with_replies w sites lists) text rows outs

-- and what a site is sent is what it is sent under such replies
abbrev pub OwnRepliesKeepSent : Type 0
OwnRepliesKeepSent = (w : Setting) (text : Text) (sites : List Site) (lists : List (List (List ℕ))) (rows : List (List ℕ)) (i : ℕ) (site : Site) (calls : List (Bool × List ℕ)) →
    HasNoReplies w → PathsTell w rows text sites → OutputsFit w rows text sites → AreOwn w sites lists rows → slice_get sites i ≡ Some site →
    Sent w rows site calls → Sent (with_replies w sites lists) rows site calls
