-- A restart of the chosen node forgets what was before it.
use Rattle.std.specs.Prelude.{◌≡◌, ℕ, ◌+◌, true, Bool, List, ◌++◌, drop, None}
use Rattle.hept_ast.specs.Scopes.{Text}
use Rattle.hept_ast.specs.Meaning.{Setting}
use Rattle.hept_ast.specs.Outputs.{Outputs}
use Rattle.hept_ast.specs.Sites.{Site, Sent}

-- the setting of a run that begins at an instant of another
abbrev pub from_instant : ℕ → Setting → Setting
from_instant n w = record w { marked = λ t. w.marked (n + t) }

-- no call has a reply
abbrev pub HasNoReplies : Setting → Type 0
HasNoReplies w = (path : List ℕ) (k : ℕ) → w.replies path k ≡ None

-- from a marked row on the outputs are those of a run that begins there
abbrev pub OutputsFromMark : Type 0
OutputsFromMark = (w : Setting) (n : ℕ) (text : Text) (rows outs : List (List ℕ)) → HasNoReplies w → w.marked n ≡ true →
    Outputs w text rows outs → Outputs (from_instant n w) text (drop n rows) (drop n outs)

-- and what is sent from there on is what that run sends
abbrev pub SentFromMark : Type 0
SentFromMark = (w : Setting) (n : ℕ) (rows : List (List ℕ)) (site : Site) (calls : List (Bool × List ℕ)) → HasNoReplies w → w.marked n ≡ true →
    Sent w rows site calls → (before later : List (Bool × List ℕ)) × (calls ≡ before ++ later) × Sent (from_instant n w) (drop n rows) site later
