-- Which program bytes spell, and what is wrong with bytes that spell none.
use Rattle.std.specs.Prelude.{◌≡◌, ◌≢◌, ℕ, ◌-◌, List, [], ◌∷◌, drop, length, Some, None, Result, Ok, Err, ◌⊎◌}
use Rattle.hept_ast.specs.declared.name.Place.{Place}
use Rattle.hept_ast.specs.declared.tree.Program.{Program}
use Rattle.ept_tokens.specs.declared.cutter.CutFault.{CutFault}
use Rattle.ept_tokens.specs.declared.cutter.CutFault.TheVariants as cutting
use Rattle.ept_reader.specs.declared.reader.ReadFault.{ReadFault}
use Rattle.ept_reader.specs.declared.reader.ReadFault.TheVariants as fault
use Rattle.ept_grammar.specs.declared.parts.Fault.{Fault}
use Rattle.ept_grammar.specs.declared.parts.Fault.TheVariants.{Unexpected, TooDeep, Memory}
use Rattle.ept_tokens.specs.declared.token.Token.{Token}
use Rattle.ept_tokens.specs.Tokens.{Bytes, Reason, Cut}
use Rattle.ept_tokens.specs.Cutting.{fault_of}
use Rattle.ept_grammar.specs.Grammar.{Whole}
use Rattle.ept_grammar.specs.Text.{IsText, IsRefused}

-- The bytes are a text of the program, within the bounds.
pub record IsProgramText (bytes : Bytes) (program : Program) : Type 0 where
  pub tokens : List Token
  pub cut : Cut bytes 0 tokens None
  pub text : IsText Whole tokens program

-- ---- refusals

abbrev pub of_cut : CutFault → ReadFault
of_cut (cutting.BadByte at) = fault.BadByte at
of_cut (cutting.OpenComment at) = fault.OpenComment at
of_cut (cutting.NumberTooLarge at) = fault.NumberTooLarge at
of_cut cutting.Memory = fault.Memory

-- the place of the first of the tokens that are left, or the end
abbrev pub next_place : Place → List Token → Place
next_place end [] = end
next_place end (t ∷ ts) = t.place

-- a refusal of tokens, at its place among bytes that end there
abbrev pub of_tokens : (end : Place) → List Token → Fault → ReadFault
of_tokens end ts (Unexpected left) = fault.Unexpected (next_place end (drop (length ts - left) ts))
of_tokens end ts (TooDeep left) = fault.TooDeep (next_place end (drop (length ts - left) ts))
of_tokens end ts Memory = fault.Memory

-- Something is wrong with the bytes before they are all cut into tokens. This is what is wrong first.
pub record IsWrongToken (bytes : Bytes) (f : ReadFault) : Type 0 where
  pub tokens : List Token
  pub reason : Reason
  pub place : ℕ
  pub cut : Cut bytes 0 tokens (Some (reason, place))
  pub is : f ≡ of_cut (fault_of reason place)

-- The bytes are all tokens, and these are no text of a program within the bounds. This is how they are refused.
pub record IsWrongText (bytes : Bytes) (f : ReadFault) : Type 0 where
  pub tokens : List Token
  pub cut : Cut bytes 0 tokens None
  pub fault : Fault
  pub refused : IsRefused Whole tokens fault
  pub not_memory : fault ≢ Memory
  pub is : f ≡ of_tokens (record { 0 = length bytes }) tokens fault

abbrev pub IsRefusalOf : Bytes → ReadFault → Type 0
IsRefusalOf bytes f = IsWrongToken bytes f ⊎ IsWrongText bytes f

-- The answer is this refusal, or memory ran out.
abbrev pub AnswersSo : {A : Type 0} → ReadFault → Result A ReadFault → Type 0
AnswersSo f (Ok x) = ⊥
AnswersSo f (Err g) = (g ≡ f) ⊎ (g ≡ fault.Memory)
