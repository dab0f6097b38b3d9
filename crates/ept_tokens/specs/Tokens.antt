-- Tokens: how the bytes of a file are cut.
use Rattle.std.specs.Prelude.{◌≡◌, ℕ, zero, suc, ◌+◌, ◌*◌, ◌-◌, Bool, false, ◌&&◌, ◌||◌, if◌then◌else◌, ◌==◌, nat_le, List, [], ◌∷◌, length, take, drop, Option, Some, None, codes, pos}
use Rattle.std.specs.List.{list_all}
use Rattle.std.specs.Str.{bytes_eq}
use Rattle.ept_tokens.specs.declared.token.Kind.{Kind}
use Rattle.ept_tokens.specs.declared.token.Kind.TheVariants.{Number, Lower, Upper, OpenParen, CloseParen, Comma, Semicolon, Colon, Bar, Equal, Differ, Less, AtMost, Greater, AtLeast, OpenAngle, CloseAngle, Plus, Minus, Times, Divide, Percent, Arrow, Both, Bang, Async, Automaton, Bool as Bool_word, Continue, Do, Else, End, Every, False, Fby, Future, If, In as In_word, Int, Last, Let, Merge, Mod, Node, Not, Or, Pre, Reset, Returns, State, Switch, Tel, Then, True, «Type» as Type_word, Unless, Until, Var, When, Whenot}
use Rattle.ept_tokens.specs.declared.token.Token.{Token}

-- ---- spellings

abbrev pub Bytes : Type 0
Bytes = List ℕ

-- what the signs and the reserved words are
abbrev pub fixed : List (Kind × Bytes)
fixed =
    (OpenParen, codes "(") ∷ (CloseParen, codes ")") ∷ (Comma, codes ",") ∷ (Semicolon, codes ";") ∷ (Colon, codes ":") ∷ (Bar, codes "|")
    ∷ (Equal, codes "=") ∷ (Differ, codes "<>") ∷ (Less, codes "<") ∷ (AtMost, codes "<=") ∷ (Greater, codes ">") ∷ (AtLeast, codes ">=")
    ∷ (OpenAngle, codes "<<") ∷ (CloseAngle, codes ">>") ∷ (Plus, codes "+") ∷ (Minus, codes "-") ∷ (Times, codes "*") ∷ (Divide, codes "/")
    ∷ (Percent, codes "%") ∷ (Arrow, codes "->") ∷ (Both, codes "&") ∷ (Bang, codes "!")
    ∷ (Async, codes "async") ∷ (Automaton, codes "automaton") ∷ (Bool_word, codes "bool") ∷ (Continue, codes "continue") ∷ (Do, codes "do")
    ∷ (Else, codes "else") ∷ (End, codes "end") ∷ (Every, codes "every") ∷ (False, codes "false") ∷ (Fby, codes "fby") ∷ (Future, codes "future")
    ∷ (If, codes "if") ∷ (In_word, codes "in") ∷ (Int, codes "int") ∷ (Last, codes "last") ∷ (Let, codes "let") ∷ (Merge, codes "merge")
    ∷ (Mod, codes "mod") ∷ (Node, codes "node") ∷ (Not, codes "not") ∷ (Or, codes "or") ∷ (Pre, codes "pre") ∷ (Reset, codes "reset")
    ∷ (Returns, codes "returns") ∷ (State, codes "state") ∷ (Switch, codes "switch") ∷ (Tel, codes "tel") ∷ (Then, codes "then") ∷ (True, codes "true")
    ∷ (Type_word, codes "type") ∷ (Unless, codes "unless") ∷ (Until, codes "until") ∷ (Var, codes "var") ∷ (When, codes "when") ∷ (Whenot, codes "whenot") ∷ []

abbrev pub between : ℕ → ℕ → ℕ → Bool
between low high b = nat_le low b && nat_le b high

abbrev pub is_blank : ℕ → Bool
is_blank b = b == 32 || b == 9 || b == 13 || b == 10

abbrev pub is_digit : ℕ → Bool
is_digit b = between 48 57 b

abbrev pub is_small : ℕ → Bool
is_small b = between 97 122 b

abbrev pub is_capital : ℕ → Bool
is_capital b = between 65 90 b

abbrev pub in_name : ℕ → Bool
in_name b = is_small b || is_capital b || is_digit b || b == 95

-- a byte that begins neither a name nor a number
pub record IsSign (b : ℕ) : Type 0 where
  pub digit : is_digit b ≡ false
  pub small : is_small b ≡ false
  pub capital : is_capital b ≡ false

abbrev pub is_number : Bytes → Bool
is_number [] = false
is_number (b ∷ bs) = is_digit b && list_all is_digit bs

-- a name that begins so
abbrev pub is_name : (ℕ → Bool) → Bytes → Bool
is_name begins [] = false
is_name begins (b ∷ bs) = begins b && list_all in_name bs

abbrev pub fixed_kind : List (Kind × Bytes) → Bytes → Option Kind
fixed_kind [] bs = None
fixed_kind (k ∷ ks) bs = if bytes_eq k.1 bs then Some k.0 else fixed_kind ks bs

abbrev pub or_else : Option Kind → Option Kind → Option Kind
or_else (Some k) o = Some k
or_else None o = o

-- the kind of the token that is spelled so, if there is one
abbrev pub kind_of : Bytes → Option Kind
kind_of bs =
    or_else (fixed_kind fixed bs)
    (if is_number bs then Some Number else (if is_name is_small bs then Some Lower else (if is_name is_capital bs then Some Upper else None)))

-- the number that digits write, after one so far
abbrev pub decimal : ℕ → Bytes → ℕ
decimal n [] = n
decimal n (b ∷ bs) = decimal (n * 10 + (b - 48)) bs

abbrev pub number_of : Kind → Bytes → ℕ
number_of Number bs = decimal 0 bs
number_of _ bs = 0

abbrev pub name_of : Kind → Bytes → Bytes
name_of Lower bs = bs
name_of Upper bs = bs
name_of _ bs = []

abbrev pub token_at : ℕ → Kind → Bytes → Token
token_at place k bs = record { place = record { 0 = place }; kind = k; number = pos (number_of k bs); name = name_of k bs }

-- ---- what the bytes begin with

-- a front of this length, where it is a token, or else what shorter ones give
abbrev pub or_shorter : ℕ → Option Kind → Option (ℕ × Kind) → Option (ℕ × Kind)
or_shorter n (Some k) o = Some (n, k)
or_shorter n None o = o

-- the longest front of at most so many bytes that is a token, and its kind
abbrev pub longest : ℕ → Bytes → Option (ℕ × Kind)
longest zero bs = None
longest (suc n) bs = or_shorter (suc n) (kind_of (take (suc n) bs)) (longest n bs)

abbrev pub opens : ℕ → ℕ → Bool
opens a b = a == 40 && b == 42

abbrev pub closes : ℕ → ℕ → Bool
closes a b = a == 42 && b == 41

-- How many bytes a comment takes, with so many open, the byte before where it is in no `(*` or `*)` yet, and so many bytes so far. Comments nest.
abbrev pub comment_length : (open_ones before so_far : ℕ) → Bytes → Option ℕ
comment_length d a n [] = None
comment_length d a n (b ∷ bs) =
    if opens a b then comment_length (d + 1) 0 (n + 1) bs
    else (if closes a b then (if d == 1 then Some (n + 1) else comment_length (d - 1) 0 (n + 1) bs) else comment_length d b (n + 1) bs)

pub data Reason : Type 0 where
  BadByte OpenComment NumberTooLarge : Reason

-- what the bytes begin with
pub data Front : Type 0 where
  Nothing : Front
  -- so many bytes that are a blank or a comment
  Blank : ℕ → Front
  -- so many bytes that are a token
  Word : ℕ → Kind → Front
  Wrong : Reason → Front

abbrev pub comment_front : Option ℕ → Front
comment_front None = Wrong OpenComment
comment_front (Some n) = Blank n

abbrev pub token_front : Bytes → Option (ℕ × Kind) → Front
token_front bs None = Wrong BadByte
token_front bs (Some w) = if nat_le 2147483648 (number_of w.1 (take w.0 bs)) then Wrong NumberTooLarge else Word w.0 w.1

abbrev pub begins_comment : Bytes → Bool
begins_comment (a ∷ b ∷ bs) = opens a b
begins_comment _ = false

abbrev pub front : Bytes → Front
front [] = Nothing
front (b ∷ bs) =
    if is_blank b then Blank 1
    else (if begins_comment (b ∷ bs) then comment_front (comment_length 0 0 0 (b ∷ bs)) else token_front (b ∷ bs) (longest (length (b ∷ bs)) (b ∷ bs)))

-- ---- the cutting

-- From a place on, the bytes are cut into these tokens, all of them or up to what is wrong at a place.
pub data Cut : Bytes → (place : ℕ) → List Token → Option (Reason × ℕ) → Type 0 where
  end : {bs : Bytes} {p : ℕ} → front bs ≡ Nothing → Cut bs p [] None
  blank : {bs : Bytes} {p : ℕ} {ts : List Token} {f : Option (Reason × ℕ)} (n : ℕ) → front bs ≡ Blank n → Cut (drop n bs) (p + n) ts f → Cut bs p ts f
  token : {bs : Bytes} {p : ℕ} {ts : List Token} {f : Option (Reason × ℕ)} (n : ℕ) (k : Kind) → front bs ≡ Word n k → Cut (drop n bs) (p + n) ts f → Cut bs p (token_at p k (take n bs) ∷ ts) f
  wrong : {bs : Bytes} {p : ℕ} (r : Reason) → front bs ≡ Wrong r → Cut bs p [] (Some (r, p))
