-- The laws of the grammar and of the cutting of bytes.
use Rattle.std.specs.Prelude.{◌≡◌, ◌≢◌, ◌⊎◌, ℕ, true, false, List, [], ◌∷◌, Option, Some}
use Rattle.ept_tokens.specs.declared.token.Kind.{Kind}
use Rattle.ept_tokens.specs.declared.token.Token.{Token}
use Rattle.ept_grammar.specs.declared.parts.Fault.{Fault}
use Rattle.ept_grammar.specs.declared.parts.Fault.TheVariants.{Memory}
use Rattle.ept_grammar.specs.declared.parts.Role.{Role}
use Rattle.ept_tokens.specs.Tokens.{Bytes, Reason, Cut}
use Rattle.ept_grammar.specs.Grammar.{Among, Part, part, Value, Rule, rules, Spells}
use Rattle.ept_grammar.specs.Text.{none_yet, IsText, Begins, IsRefused}
use Rattle.ept_grammar.specs.Reading.{empties, is_empty, begins, first, chosen, may_begin, Fails}

-- bytes are cut in one way
abbrev pub OneCut : Type 0
OneCut = (bs : Bytes) (p : ℕ) (ts others : List Token) (f g : Option (Reason × ℕ)) → Cut bs p ts f → Cut bs p others g → (ts ≡ others) × (f ≡ g)

-- one text stands for one tree, whatever its bounds
abbrev pub OneTree : Type 0
OneTree = (n : Part) (ts : List Token) (v w : Value n) (rs qs : List Role) → Spells (part n ∷ []) (v, tt) ts rs → Spells (part n ∷ []) (w, tt) ts qs → v ≡ w

-- tokens that begin a text have the same roles in each text that they begin
abbrev pub OneRoles : Type 0
OneRoles = (n : Part) (ts : List Token) (rs qs : List Role) → Begins n ts rs → Begins n ts qs → rs ≡ qs

-- each part has a text
abbrev pub EachHasText : Type 0
EachHasText = (n : Part) → (v : Value n) × (ts : List Token) × (rs : List Role) × Spells (part n ∷ []) (v, tt) ts rs

-- a rule that the next token may begin is the chosen one
abbrev pub BegunIsChosen : Type 0
BegunIsChosen = (n : Part) (k : Kind) (r : Rule n) → Among r (rules n) → begins first r.right k ≡ true → chosen n (Some k) ≡ Some r

-- a rule that nothing spells is the chosen one where the next token may not begin the part
abbrev pub EmptyIsChosen : Type 0
EmptyIsChosen = (n : Part) (o : Option Kind) (r : Rule n) → Among r (rules n) → empties is_empty r.right ≡ true → may_begin n o ≡ false → chosen n o ≡ Some r

-- where the reader stops, the text is refused so
abbrev pub StopIsRefusal : Type 0
StopIsRefusal = (n : Part) (ts : List Token) (f : Fault) → Fails n ts none_yet f → IsRefused n ts f

-- a text is refused for want of memory alone
abbrev pub TextIsNotRefused : Type 0
TextIsNotRefused = (n : Part) (ts : List Token) (v : Value n) (f : Fault) → IsText n ts v → IsRefused n ts f → f ≡ Memory

-- two refusals of the same tokens are one, but for want of memory
abbrev pub OneRefusal : Type 0
OneRefusal = (n : Part) (ts : List Token) (f g : Fault) → IsRefused n ts f → IsRefused n ts g → f ≢ Memory → (g ≡ f) ⊎ (g ≡ Memory)
