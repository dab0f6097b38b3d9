-- What is known of one meaning is known of another: the form in which a proof that a pass keeps the meaning is written.
use Rattle.std.specs.Prelude.{◌≡◌, ◌≢◌, ℕ, List, All}
use Rattle.hept_ast.specs.Meaning.{Question, Answer, Unknown, Rule, Says, Reads, Asks, Setting, rule}
use Rattle.hept_ast.specs.Outputs.{Knows, Follows}

-- what matches a question and its answer is known of a setting: some questions with their answers
abbrev pub Matched : Setting → List (List ℕ) → (match : Question → Answer → List (Question × Answer)) → Question → Answer → Type 0
Matched w rows match q a = All (λ f. Knows w rows f.0 f.1) (match q a)

-- Where each rule of the first setting, its questions answered by what matches them, leads to what matches its own question, whatever is
-- known of the first setting is known of the second by its match. The second may take any number of steps for one of the first.
abbrev pub Transfer : Type 0
Transfer = (w other : Setting) (rows others : List (List ℕ)) (match : Question → Answer → List (Question × Answer)) →
    ((q : Question) (a : Answer) → Follows (Matched other others match) rows (rule w q) a → a ≢ Unknown → Matched other others match q a) →
    (q : Question) (a : Answer) → Knows w rows q a → Matched other others match q a

-- the second rule goes step by step as the first, over questions that R ties to the first's
pub data Tracks (R : Question → Question → Type 0) : Rule → Rule → Type 0 where
  unknown : {d : Rule} → Tracks R (Says Unknown) d
  says : {a : Answer} → Tracks R (Says a) (Says a)
  reads : {t j : ℕ} → Tracks R (Reads t j) (Reads t j)
  asks : {q p : Question} {go others : Answer → Rule} → R q p → ((a : Answer) → Tracks R (go a) (others a)) → Tracks R (Asks q go) (Asks p others)

-- the same for a pass that changes no step
abbrev pub TransferByRules : Type 0
TransferByRules = (w other : Setting) (rows : List (List ℕ)) (match : Question → Question) →
    ((q : Question) → Tracks (λ p r. r ≡ match p) (rule w q) (rule other (match q))) →
    (q : Question) (a : Answer) → Knows w rows q a → Knows other rows (match q) a
