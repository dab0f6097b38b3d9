-- What a node gives after a list of marked calls.
use Rattle.std.specs.Prelude.{◌≡◌, ℕ, Bool, false, ◌||◌, if◌then◌else◌, List, [], ◌∷◌, ◌++◌, map, length}
use Rattle.hept_ast.specs.Scopes.{Text}
use Rattle.hept_ast.specs.Meaning.{Setting}
use Rattle.hept_ast.specs.Outputs.{Outputs}
use Rattle.hept_ast.specs.Sites.{Site, Sent}
use Rattle.hept_ast.specs.Calls.{marks_of, GivenOutputs, BodyGives}
use Rattle.hept_ast.specs.Marks.{HasNoReplies}

-- the outputs of a node, one row for each call: the arguments are its rows, and it is restarted at the marked calls
abbrev pub NodeGives : Setting → Text → List (Bool × List ℕ) → List (List ℕ) → Type 0
NodeGives w text calls outs = Outputs (record w { marked = marks_of calls }) text (map (λ c. c.1) calls) outs

abbrev pub has_mark : List (Bool × List ℕ) → Bool
has_mark [] = false
has_mark (c ∷ cs) = c.0 || has_mark cs

-- the calls from the latest marked one on, or all of them where none is marked
abbrev pub since_mark : List (Bool × List ℕ) → List (Bool × List ℕ)
since_mark [] = []
since_mark (c ∷ cs) = if has_mark cs then since_mark cs else c ∷ cs

-- from the latest marked call on a node gives what it gives on the calls from there on alone
abbrev pub GivesSinceMark : Type 0
GivesSinceMark = (w : Setting) (text : Text) (calls : List (Bool × List ℕ)) (outs : List (List ℕ)) → HasNoReplies w → NodeGives w text calls outs →
    (earlier later : List (List ℕ)) × (outs ≡ earlier ++ later) × NodeGives w text (since_mark calls) later

-- without replies what the node of a site gives alone is what the node gives
abbrev pub GivenIsNodes : Type 0
GivenIsNodes = (w : Setting) (site : Site) (calls : List (Bool × List ℕ)) (outs : List (List ℕ)) → HasNoReplies w → GivenOutputs w site calls outs → NodeGives w site.text calls outs

-- where a call's body gives anything, it is what its node gives alone on what is sent
abbrev pub AloneIsCall : Type 0
AloneIsCall = (w : Setting) (rows : List (List ℕ)) (site : Site) (calls : List (Bool × List ℕ)) (outs others : List (List ℕ)) →
    Sent w rows site calls → GivenOutputs w site calls outs → BodyGives w rows site 0 (length rows) others → others ≡ outs
