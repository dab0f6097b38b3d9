-- Bytes are cut in one way.
use Rattle.std.specs.Prelude.{◌≡◌, ℕ, ◌+◌, List, [], ◌∷◌, take, drop, Option, Some, None, refl}
use Rattle.std.proofs.Common.{sym, ap, subst, ◌∙◌}
use Rattle.ept_tokens.specs.declared.token.Token.{Token}
use Rattle.ept_tokens.specs.Tokens.{Bytes, Reason, Front, Nothing, Blank, Word, Wrong, front, token_at, Cut}

-- a cutting, by what the bytes begin with
Goes : Front → Bytes → ℕ → List Token → Option (Reason × ℕ) → Type 0
Goes Nothing bs p ts f = (ts ≡ []) × (f ≡ None)
Goes (Blank n) bs p ts f = Cut (drop n bs) (p + n) ts f
Goes (Word n k) bs p ts f = (rest : List Token) × (ts ≡ token_at p k (take n bs) ∷ rest) × Cut (drop n bs) (p + n) rest f
Goes (Wrong r) bs p ts f = (ts ≡ []) × (f ≡ Some (r, p))

goes : {bs : Bytes} {p : ℕ} {ts : List Token} {f : Option (Reason × ℕ)} → Cut bs p ts f → (x : Front) → front bs ≡ x → Goes x bs p ts f
unfolding Goes
goes {bs = bs} {p = p} (Cut.end e) x is = subst (λ y. Goes y bs p [] None) (sym e ∙ is) (refl, refl)
goes {bs = bs} {p = p} {ts = ts} {f = f} (Cut.blank n e d) x is = subst (λ y. Goes y bs p ts f) (sym e ∙ is) d
goes {bs = bs} {p = p} {f = f} (Cut.token {ts = rest} n k e d) x is = subst (λ y. Goes y bs p (token_at p k (take n bs) ∷ rest) f) (sym e ∙ is) (rest, refl, d)
goes {bs = bs} {p = p} (Cut.wrong r e) x is = subst (λ y. Goes y bs p [] (Some (r, p))) (sym e ∙ is) (refl, refl)

pub one_cut : {bs : Bytes} {p : ℕ} {ts : List Token} {f : Option (Reason × ℕ)} → Cut bs p ts f → (ts' : List Token) (f' : Option (Reason × ℕ)) → Cut bs p ts' f' → (ts ≡ ts') × (f ≡ f')
unfolding Goes
one_cut (Cut.end e) ts' f' d' = let g = goes d' Nothing e in (sym g.0, sym g.1)
one_cut (Cut.blank n e d) ts' f' d' = one_cut d ts' f' (goes d' (Blank n) e)
one_cut {bs = bs} {p = p} (Cut.token n k e d) ts' f' d' =
    let g = goes d' (Word n k) e in
    let r = one_cut d g.0 f' g.2 in
    (ap (λ z. token_at p k (take n bs) ∷ z) r.0 ∙ sym g.1, r.1)
one_cut (Cut.wrong r e) ts' f' d' = let g = goes d' (Wrong r) e in (sym g.0, sym g.1)
