-- What the cutting of bytes answers.
use Rattle.std.specs.Prelude.{◌≡◌, ℕ, List, take, Option, Some, None, Result, MatchResult, ◌⊎◌}
use Rattle.ept_tokens.specs.declared.cutter.CutFault.{CutFault}
use Rattle.ept_tokens.specs.declared.cutter.CutFault.TheVariants as fault
use Rattle.ept_tokens.specs.declared.token.Kind.{Kind}
use Rattle.ept_tokens.specs.declared.token.Token.{Token}
use Rattle.ept_tokens.specs.Tokens.{Bytes, Reason, BadByte, OpenComment, NumberTooLarge, Cut, Blank, Word, Wrong, front, token_at}

abbrev pub fault_of : Reason → (place : ℕ) → CutFault
fault_of BadByte p = fault.BadByte (record { 0 = p })
fault_of OpenComment p = fault.OpenComment (record { 0 = p })
fault_of NumberTooLarge p = fault.NumberTooLarge (record { 0 = p })

-- From this place on the bytes begin with what is answered.
abbrev pub IsNext : Bytes → (place : ℕ) → ℕ × Option Token → Type 0
IsNext bs p (n, None) = front bs ≡ Blank n
IsNext bs p (n, Some t) = (k : Kind) × (front bs ≡ Word n k) × (t ≡ token_at p k (take n bs))

-- From this place on the bytes begin with what is wrong so, or memory ran out.
abbrev pub IsNoNext : Bytes → (place : ℕ) → CutFault → Type 0
IsNoNext bs p f = ((r : Reason) × (front bs ≡ Wrong r) × (f ≡ fault_of r p)) ⊎ (f ≡ fault.Memory)

-- The bytes are not all tokens, and this is what is wrong first, or memory ran out.
abbrev pub IsNotCut : Bytes → CutFault → Type 0
IsNotCut bs f = ((r : Reason) × (p : ℕ) × (ts : List Token) × Cut bs 0 ts (Some (r, p)) × (f ≡ fault_of r p)) ⊎ (f ≡ fault.Memory)

-- The answer where the bytes are these tokens, up to what is wrong, unless memory ran out.
abbrev pub AnswersCut : List Token → Option (Reason × ℕ) → Result (List Token) CutFault → Type 0
AnswersCut ts None answer = MatchResult answer (λ us. us ≡ ts) (λ f. f ≡ fault.Memory)
AnswersCut ts (Some x) answer = MatchResult answer (λ us. ⊥) (λ f. (f ≡ fault_of x.0 x.1) ⊎ (f ≡ fault.Memory))
