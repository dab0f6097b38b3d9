-- A restart of the chosen node under replies: the numbers of the replies go on over it.
use Rattle.std.specs.Prelude.{◌≡◌, ℕ, ◌≤◌, true, Bool, List, ◌++◌, length, take, drop, Some, slice_get}
use Rattle.hept_ast.specs.Scopes.{Text}
use Rattle.hept_ast.specs.Meaning.{Setting}
use Rattle.hept_ast.specs.Outputs.{Outputs}
use Rattle.hept_ast.specs.Sites.{Site, Sent, with_replies}
use Rattle.hept_ast.specs.Marks.{from_instant}
use Rattle.hept_ast.specs.OwnReplies.{PathsTell}

-- the replies of each site without those to the calls before an instant
abbrev pub AreLeft : Setting → List Site → (lists others : List (List (List ℕ))) → (rows : List (List ℕ)) → (n : ℕ) → Type 0
AreLeft w sites lists others rows n = (i : ℕ) (site : Site) → slice_get sites i ≡ Some site →
    (calls : List (Bool × List ℕ)) × (outs : List (List ℕ)) × Sent (with_replies w sites lists) (take n rows) site calls ×
    (slice_get lists i ≡ Some outs) × (slice_get others i ≡ Some (drop (length calls) outs))

-- from a marked row on the outputs under replies are those of a run that begins there, under the replies that are left
abbrev pub OutputsFromMarkReplied : Type 0
OutputsFromMarkReplied = (w : Setting) (n : ℕ) (text : Text) (sites : List Site) (lists others : List (List (List ℕ))) (rows outs : List (List ℕ)) →
    n ≤ length rows → w.marked n ≡ true → PathsTell (with_replies w sites lists) rows text sites → AreLeft w sites lists others rows n →
    Outputs (with_replies w sites lists) text rows outs → Outputs (with_replies (from_instant n w) sites others) text (drop n rows) (drop n outs)

-- and what is sent from there on is what that run sends
abbrev pub SentFromMarkReplied : Type 0
SentFromMarkReplied = (w : Setting) (n : ℕ) (text : Text) (sites : List Site) (lists others : List (List (List ℕ))) (rows : List (List ℕ)) (i : ℕ) (site : Site) (calls : List (Bool × List ℕ)) →
    n ≤ length rows → w.marked n ≡ true → PathsTell (with_replies w sites lists) rows text sites → AreLeft w sites lists others rows n → slice_get sites i ≡ Some site →
    Sent (with_replies w sites lists) rows site calls →
    (before later : List (Bool × List ℕ)) × (calls ≡ before ++ later) × Sent (with_replies (from_instant n w) sites others) (drop n rows) site later
