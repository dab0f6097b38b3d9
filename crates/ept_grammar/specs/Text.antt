-- Texts, and the places where they go wrong.
use Rattle.std.specs.Prelude.{◌≡◌, ℕ, true, false, List, [], ◌∷◌, ◌++◌, length, ◌≢◌, ◌⊎◌, Result, Ok, Err}
use Rattle.ept_tokens.specs.declared.token.Token.{Token}
use Rattle.ept_grammar.specs.declared.parts.Fault.{Fault}
use Rattle.ept_grammar.specs.declared.parts.Fault.TheVariants.{Unexpected, TooDeep, Memory}
use Rattle.ept_grammar.specs.declared.parts.Role.{Role}
use Rattle.ept_grammar.specs.declared.parts.Counts.{Counts}
use Rattle.ept_grammar.specs.Grammar.{Part, part, Value, Spells, within, Fits}

abbrev pub none_yet : Counts
none_yet = record { operators = 0; blocks = 0 }

-- The tokens are a text of the part within the bounds, and stand for the value.
abbrev pub IsText : (n : Part) → List Token → Value n → Type 0
IsText n ts v = Fits none_yet (part n ∷ []) (v, tt) ts

-- The tokens begin a text, whatever its bounds, and stand there in these roles.
pub record Begins (n : Part) (tokens : List Token) (roles : List Role) : Type 0 where
  pub more : List Token
  pub later : List Role
  pub value : Value n
  pub spells : Spells (part n ∷ []) (value, tt) (tokens ++ more) (roles ++ later)
  pub one_each : length roles ≡ length tokens

-- The next token doesn't go on the text. Where there is none, the text isn't whole.
abbrev pub IsWrong : (n : Part) → (before rest : List Token) → Type 0
IsWrong n before [] = (v : Value n) (rs : List Role) → Spells (part n ∷ []) (v, tt) before rs → ⊥
IsWrong n before (t ∷ rest) = (rs : List Role) → Begins n (before ++ t ∷ []) rs → ⊥

-- The tokens before this place begin a text and pass no bound, and those through it begin none.
pub record IsUnexpected (n : Part) (text : List Token) (left : ℕ) : Type 0 where
  pub before : List Token
  pub rest : List Token
  pub whole : text ≡ before ++ rest
  pub place : left ≡ length rest
  pub roles : List Role
  pub begins : Begins n before roles
  pub fits : within none_yet roles ≡ true
  pub wrong : IsWrong n before rest

-- The token at this place is the first to pass a bound, and those through it begin a text.
pub record IsTooDeep (n : Part) (text : List Token) (left : ℕ) : Type 0 where
  pub before : List Token
  pub next : Token
  pub rest : List Token
  pub whole : text ≡ before ++ next ∷ rest
  pub place : left ≡ length (next ∷ rest)
  pub roles : List Role
  pub role : Role
  pub begins : Begins n (before ++ next ∷ []) (roles ++ role ∷ [])
  pub as_long : length roles ≡ length before
  pub fits : within none_yet roles ≡ true
  pub passes : within none_yet (roles ++ role ∷ []) ≡ false

abbrev pub IsRefused : (n : Part) → List Token → Fault → Type 0
IsRefused n ts (Unexpected left) = IsUnexpected n ts left
IsRefused n ts (TooDeep left) = IsTooDeep n ts left
IsRefused n ts Memory = Unit {0}

-- The answer is this refusal, or want of memory.
abbrev pub Answers : {A : Type 0} → Fault → Result A Fault → Type 0
Answers f (Ok x) = ⊥
Answers f (Err g) = (g ≡ f) ⊎ (g ≡ Memory)

-- The answer is a refusal wherever it stands.
abbrev pub RefusesExactly : {A : Type 0} → (n : Part) → List Token → Result A Fault → Type 0
RefusesExactly n ts answer = (f : Fault) → f ≢ Memory → IsRefused n ts f → Answers f answer
