-- Two rules that go step by step alike, over questions that R ties: each tracks the other.
use Rattle.std.proofs.Common.{◌≡◌, sym, subst}
use Rattle.hept_ast.specs.Meaning.{Question, Rule}
use Rattle.core_naming.proofs.Matching.{Matches}

-- rules that are equal to such rules
pub alike_by : {R : Question → Question → Type 0} {d d' e e' : Rule} → d ≡ d' → e ≡ e' → Matches R d' e' → Matches R d e
alike_by {R} {d} {d'} {e} {e'} p q h = subst (λ (x : Rule). Matches R x e) (sym p) (subst (λ (x : Rule). Matches R d' x) (sym q) h)
