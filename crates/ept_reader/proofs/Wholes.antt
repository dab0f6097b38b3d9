-- What the bytes of a program come to.
use Rattle.std.specs.Prelude.{◌≡◌, ℕ, length, List, Option, Some, None, refl, ◌⊎◌}
use Rattle.std.proofs.Common.{subst, ap, sym, ◌∙◌, inl, inr}
use Rattle.hept_ast.specs.declared.tree.Program.{Program}
use Rattle.hept_ast.specs.declared.name.Place.{Place}
use Rattle.ept_tokens.specs.declared.cutter.CutFault.{CutFault}
use Rattle.ept_reader.specs.declared.reader.ReadFault.{ReadFault}
use Rattle.ept_reader.specs.declared.reader.ReadFault.TheVariants as fault
use Rattle.ept_grammar.specs.declared.parts.Fault.{Fault}
use Rattle.ept_grammar.specs.declared.parts.Fault.TheVariants.{Unexpected, TooDeep, Memory}
use Rattle.ept_tokens.specs.declared.token.Token.{Token}
use Rattle.ept_tokens.specs.Tokens.{Bytes, Reason, Cut}
use Rattle.ept_tokens.specs.Cutting.{IsNotCut, fault_of}
use Rattle.ept_grammar.specs.Grammar.{Whole}
use Rattle.ept_grammar.specs.Text.{IsText, IsRefused}
use Rattle.ept_reader.specs.Spelling.{IsProgramText, IsRefusalOf, of_cut, of_tokens}
use Rattle.ept_tokens.proofs.OneCut.{one_cut}
use Rattle.ept_grammar.proofs.Places.{only_text}
use Rattle.ept_grammar.proofs.Refusals.{text_refused, one_refusal}

ok≢wrong : {bytes : Bytes} {ts us : List Token} {x : Reason × ℕ} → Cut bytes 0 ts None → Cut bytes 0 us (Some x) → ⊥
ok≢wrong {us = us} {x = x} d e = let same = (one_cut d us (Some x) e).1 in absurd cc

abbrev told : Option (Reason × ℕ) → ReadFault
told None = fault.Memory
told (Some x) = of_cut (fault_of x.0 x.1)

-- a fault of the tokens is the only refusal, and there is no text
pub cut_only : {bytes : Bytes} {f : CutFault} → IsNotCut bytes f → (p : Program) → IsProgramText bytes p → of_cut f ≡ fault.Memory
cut_only (inl w) p t = absurd (ok≢wrong t.cut w.3)
cut_only (inr e) p t = ap of_cut e

pub cut_refused : {bytes : Bytes} {f : CutFault} → IsNotCut bytes f → (of_cut f ≡ fault.Memory) ⊎ IsRefusalOf bytes (of_cut f)
cut_refused (inl w) = inr (inl (record { tokens = w.2; reason = w.0; place = w.1; cut = w.3; is = ap of_cut w.4 }))
cut_refused (inr e) = inl (ap of_cut e)

pub cut_exactly : {bytes : Bytes} {f : CutFault} → IsNotCut bytes f → (g : ReadFault) → IsRefusalOf bytes g → (of_cut f ≡ g) ⊎ (of_cut f ≡ fault.Memory)
cut_exactly (inr e) g r = inr (ap of_cut e)
cut_exactly (inl w) g (inr r) = absurd (ok≢wrong r.cut w.3)
cut_exactly (inl w) g (inl r) =
    let same = (one_cut w.3 r.tokens (Some (r.reason, r.place)) r.cut).1 in
    inl (ap of_cut w.4 ∙ reasons w.0 r.reason w.1 r.place same ∙ sym r.is)
  where
    reasons : (a b : Reason) (p q : ℕ) → ◌≡◌ {A = Option (Reason × ℕ)} (Some (a, p)) (Some (b, q)) → of_cut (fault_of a p) ≡ of_cut (fault_of b q)
    reasons a b p q e = ap told e

-- the answer of the tokens, where the bytes are all tokens
pub text_ok : {bytes : Bytes} {ts : List Token} {p : Program} → Cut bytes 0 ts None → IsText Whole ts p → IsProgramText bytes p
text_ok {ts = ts} d t = record { tokens = ts; cut = d; text = t }

pub text_only : {bytes : Bytes} {ts : List Token} {p : Program} → Cut bytes 0 ts None → IsText Whole ts p → (q : Program) → IsProgramText bytes q → p ≡ q
text_only {p = p} d t q u =
    let same = (one_cut u.cut _ None d).0 in
    only_text {n = Whole} p q t (subst (λ x. IsText Whole x q) same u.text)

pub text_not_refused : {bytes : Bytes} {ts : List Token} {p : Program} → Cut bytes 0 ts None → IsText Whole ts p → (f : ReadFault) → IsRefusalOf bytes f → ⊥
text_not_refused d t f (inl r) = ok≢wrong d r.cut
text_not_refused {p = p} d t f (inr r) =
    let same = (one_cut d r.tokens None r.cut).0 in
    r.not_memory (text_refused Whole r.tokens p r.fault (subst (λ x. IsText Whole x p) same t) r.refused)

abbrev pub end_of : Bytes → Place
end_of bytes = record { 0 = length bytes }

pub tokens_only : {bytes : Bytes} {ts : List Token} (f : Fault) → Cut bytes 0 ts None → IsRefused Whole ts f → (p : Program) → IsProgramText bytes p → of_tokens (end_of bytes) ts f ≡ fault.Memory
tokens_only {bytes = bytes} {ts = ts} f d r p u =
    let same = (one_cut u.cut ts None d).0 in
    ap (of_tokens (end_of bytes) ts) (text_refused Whole ts p f (subst (λ x. IsText Whole x p) same u.text) r)

pub tokens_refused : {bytes : Bytes} {ts : List Token} (f : Fault) → Cut bytes 0 ts None → IsRefused Whole ts f → (of_tokens (end_of bytes) ts f ≡ fault.Memory) ⊎ IsRefusalOf bytes (of_tokens (end_of bytes) ts f)
tokens_refused Memory d r = inl refl
tokens_refused {ts = ts} (Unexpected left) d r = inr (inr (record { tokens = ts; cut = d; fault = Unexpected left; refused = r; not_memory = λ e. absurd cc; is = refl }))
tokens_refused {ts = ts} (TooDeep left) d r = inr (inr (record { tokens = ts; cut = d; fault = TooDeep left; refused = r; not_memory = λ e. absurd cc; is = refl }))

pub tokens_exactly : {bytes : Bytes} {ts : List Token} (f : Fault) → Cut bytes 0 ts None → IsRefused Whole ts f → (g : ReadFault) → IsRefusalOf bytes g
    → (of_tokens (end_of bytes) ts f ≡ g) ⊎ (of_tokens (end_of bytes) ts f ≡ fault.Memory)
tokens_exactly f d r g (inl w) = absurd (ok≢wrong d w.cut)
tokens_exactly {bytes = bytes} {ts = ts} f d r g (inr w) =
    let same = (one_cut d w.tokens None w.cut).0 in
    go same (one_refusal Whole ts w.fault f (subst (λ x. IsRefused Whole x w.fault) (sym same) w.refused) r w.not_memory)
  where
    go : ts ≡ w.tokens → (f ≡ w.fault) ⊎ (f ≡ Memory) → (of_tokens (end_of bytes) ts f ≡ g) ⊎ (of_tokens (end_of bytes) ts f ≡ fault.Memory)
    go same (inl e) = inl (ap (of_tokens (end_of bytes) ts) e ∙ ap (λ x. of_tokens (end_of bytes) x w.fault) same ∙ sym w.is)
    go same (inr e) = inr (ap (of_tokens (end_of bytes) ts) e)
