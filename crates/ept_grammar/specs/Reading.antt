-- How a reader with one token of look-ahead goes through the grammar.
use Rattle.std.specs.Prelude.{◌≡◌, ◌≢◌, ℕ, zero, suc, Bool, true, false, ◌&&◌, ◌||◌, if◌then◌else◌, List, [], ◌∷◌, ◌++◌, length, Option, Some, None}
use Rattle.std.specs.List.{list_any}
use Rattle.ept_tokens.specs.declared.token.Kind.{Kind}
use Rattle.ept_tokens.specs.declared.token.Token.{Token}
use Rattle.ept_grammar.specs.declared.parts.Fault.{Fault}
use Rattle.ept_grammar.specs.declared.parts.Fault.TheVariants.{Unexpected, TooDeep, Memory}
use Rattle.ept_grammar.specs.declared.parts.Role.{Role}
use Rattle.ept_grammar.specs.declared.parts.Counts.{Counts}
use Rattle.ept_tokens.specs.Kinds.{is}
use Rattle.ept_grammar.specs.Grammar.{Part, Symbol, word, part, Value, Values, Rule, rules, joined, after, allows, Fits}

abbrev pub look : List Token → Option Kind
look [] = None
look (t ∷ ts) = Some t.kind

-- whether nothing may spell the symbols, by what is so of parts
abbrev pub empties : (Part → Bool) → List Symbol → Bool
empties e [] = true
empties e (word r k ∷ ss) = false
empties e (part n ∷ ss) = e n && empties e ss

abbrev pub empty_at : ℕ → Part → Bool
empty_at zero n = false
empty_at (suc d) n = list_any (λ r. empties (empty_at d) r.right) (rules n)

unfoldable pub is_empty : Part → Bool
is_empty n = empty_at 6 n

-- whether a token of this kind may begin the symbols
abbrev pub begins : (Part → Kind → Bool) → List Symbol → Kind → Bool
begins f [] k = false
begins f (word r j ∷ ss) k = is j k
begins f (part n ∷ ss) k = f n k || (is_empty n && begins f ss k)

abbrev pub first_at : ℕ → Part → Kind → Bool
first_at zero n k = false
first_at (suc d) n k = list_any (λ r. begins (first_at d) r.right k) (rules n)

unfoldable pub first : Part → Kind → Bool
first n k = first_at 24 n k

-- whether the next token may begin a part
abbrev pub may_begin : Part → Option Kind → Bool
may_begin n None = false
may_begin n (Some k) = first n k

abbrev pub begin : {n : Part} → Kind → List (Rule n) → Option (Rule n)
begin k [] = None
begin k (r ∷ rs) = if begins first r.right k then Some r else begin k rs

abbrev pub skip : {n : Part} → List (Rule n) → Option (Rule n)
skip [] = None
skip (r ∷ rs) = if empties is_empty r.right then Some r else skip rs

abbrev pub or_else : {A : Type 0} → Option A → Option A → Option A
or_else (Some x) o = Some x
or_else None o = o

abbrev pub foremost : {n : Part} → List (Rule n) → Option (Rule n)
foremost [] = None
foremost (r ∷ rs) = Some r

-- the rule that the next token begins, or else the one that nothing spells, or else the first one
unfoldable pub chosen : (n : Part) → Option Kind → Option (Rule n)
chosen n None = or_else (skip (rules n)) (foremost (rules n))
chosen n (Some k) = or_else (begin k (rules n)) (or_else (skip (rules n)) (foremost (rules n)))

-- With these symbols to go, and from these counts, the reader stops with this fault.
pub data Stops : List Symbol → Counts → List Token → Fault → Type 0 where
  more : {c : Counts} {ts : List Token} {f : Fault} → ts ≢ [] → f ≡ Unexpected (length ts) → Stops [] c ts f
  token : {r : Role} {k : Kind} {ss : List Symbol} {c : Counts} {t : Token} {ts : List Token} {f : Fault}
      → t.kind ≡ k → allows r c ≡ true → Stops ss (after r c) ts f → Stops (word r k ∷ ss) c (t ∷ ts) f
  over : {r : Role} {k : Kind} {ss : List Symbol} {c : Counts} {t : Token} {ts : List Token} {f : Fault}
      → t.kind ≡ k → allows r c ≡ false → f ≡ TooDeep (length (t ∷ ts)) → Stops (word r k ∷ ss) c (t ∷ ts) f
  other : {r : Role} {k : Kind} {ss : List Symbol} {c : Counts} {ts : List Token} {f : Fault}
      → look ts ≢ Some k → f ≡ Unexpected (length ts) → Stops (word r k ∷ ss) c ts f
  by : {n : Part} {ss : List Symbol} {c : Counts} {ts : List Token} {f : Fault} (r : Rule n)
      → chosen n (look ts) ≡ Some r → Stops (r.right ++ ss) c ts f → Stops (part n ∷ ss) c ts f
  no_rule : {n : Part} {ss : List Symbol} {c : Counts} {ts : List Token} {f : Fault}
      → chosen n (look ts) ≡ None → f ≡ Unexpected (length ts) → Stops (part n ∷ ss) c ts f

-- A text of a part has been read, from some counts on, up to some tokens and counts, with symbols to go. Values of these make the part's value.
pub record To (n : Part) (text : List Token) (from : Counts) (togo : List Symbol) (gives : Values togo → Value n) (tokens : List Token) (now : Counts) : Type 0 where
  pub spells : (us : Values togo) (ss : List Symbol) (vs : Values ss) → Fits now (togo ++ ss) (joined togo ss us vs) tokens → Fits from (part n ∷ ss) (gives us, vs) text
  pub stops : (ss : List Symbol) (f : Fault) → Stops (togo ++ ss) now tokens f → Stops (part n ∷ ss) from text f

-- A part has been read whole.
abbrev pub Reads : (n : Part) → (text : List Token) → (from : Counts) → Value n → (rest : List Token) → (now : Counts) → Type 0
Reads n text from v rest now = To n text from [] (λ _. v) rest now

-- Why a part wasn't read.
abbrev pub Fails : (n : Part) → (text : List Token) → (from : Counts) → Fault → Type 0
Fails n text from Memory = Unit {0}
Fails n text from (Unexpected left) = (ss : List Symbol) → Stops (part n ∷ ss) from text (Unexpected left)
Fails n text from (TooDeep left) = (ss : List Symbol) → Stops (part n ∷ ss) from text (TooDeep left)
