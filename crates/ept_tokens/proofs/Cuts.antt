-- How the cutting goes on.
use Rattle.std.specs.Prelude.{◌≡◌, ℕ, ◌+◌, ◌≤◌, ◌-◌, List, [], ◌∷◌, ◌++◌, length, take, drop, Option, Some, None, Ok, Err, refl}
use Rattle.std.proofs.Common.{arith, sym, ap, subst, inl, inr, ◌∙◌, append_assoc, append-nil, length-drop}
use Rattle.std.proofs.lemmas.List.{take_all, drop_all, drop-drop}
use Rattle.ept_tokens.specs.declared.cutter.CutFault.{CutFault}
use Rattle.ept_tokens.specs.declared.token.Kind.{Kind}
use Rattle.ept_tokens.specs.declared.token.Token.{Token}
use Rattle.ept_tokens.specs.Tokens.{Bytes, Reason, front, Blank, Word, token_at, Cut}
use Rattle.ept_tokens.specs.Cutting.{fault_of, IsNext, IsNoNext, IsNotCut, AnswersCut}
use Rattle.ept_tokens.proofs.OneCut.{one_cut}

-- What is cut from a place on goes on the tokens so far.
pub record GoesOn (bs : Bytes) (so_far : List Token) (rest : Bytes) (place : ℕ) : Type 0 where
  pub on : (ts : List Token) (f : Option (Reason × ℕ)) → Cut rest place ts f → Cut bs 0 (so_far ++ ts) f

pub nothing_yet : (bs : Bytes) (none : List Token) → none ≡ [] → GoesOn bs none bs 0
nothing_yet bs none e = record { on = λ ts f d. rw e d }

pub past_blank : {bs : Bytes} {so_far : List Token} {rest : Bytes} {p : ℕ} (n : ℕ) → GoesOn bs so_far rest p → front rest ≡ Blank n → GoesOn bs so_far (drop n rest) (p + n)
past_blank n w e = record { on = λ ts f d. w.on ts f (Cut.blank n e d) }

pub past_token : {bs : Bytes} {so_far : List Token} {rest : Bytes} {p : ℕ} (n : ℕ) (t : Token) (now : List Token) → GoesOn bs so_far rest p
    → (k : Kind) × (front rest ≡ Word n k) × (t ≡ token_at p k (take n rest)) → now ≡ so_far ++ t ∷ [] → GoesOn bs now (drop n rest) (p + n)
past_token {bs = bs} {so_far = so_far} {rest = rest} {p = p} n t now w h e = record {
  on = λ ts f d.
      let whole : Cut bs 0 (so_far ++ token_at p h.0 (take n rest) ∷ ts) f = w.on _ f (Cut.token n h.0 h.1 d) in
      let joined : so_far ++ token_at p h.0 (take n rest) ∷ ts ≡ now ++ ts =
      ap (λ x. so_far ++ x ∷ ts) (sym h.2) ∙ sym (append_assoc so_far (t ∷ []) ts) ∙ ap (λ x. x ++ ts) (sym e) in
      subst (λ x. Cut bs 0 x f) joined whole;
}

pub all_cut : {bs : Bytes} {so_far : List Token} {rest : Bytes} {p : ℕ} → GoesOn bs so_far rest p → rest ≡ [] → Cut bs 0 so_far None
all_cut {bs = bs} {so_far = so_far} {p = p} w e =
    subst (λ x. Cut bs 0 x None) (append-nil so_far) (w.on [] None (subst (λ x. Cut x p [] None) (sym e) (Cut.end refl)))

pub not_cut : {bs : Bytes} {so_far : List Token} {rest : Bytes} {p : ℕ} → GoesOn bs so_far rest p → (f : CutFault) → IsNoNext rest p f → IsNotCut bs f
not_cut w f (inr e) = inr e
not_cut {so_far = so_far} {p = p} w f (inl h) = inl (h.0, p, so_far ++ [], w.on [] (Some (h.0, p)) (Cut.wrong h.0 h.1), h.2)

-- ---- exactly

pub exactly_cut : {bs : Bytes} {us : List Token} → Cut bs 0 us None → (ts : List Token) (f : Option (Reason × ℕ)) → Cut bs 0 ts f → AnswersCut ts f (Ok us)
exactly_cut {us = us} d ts None e = (one_cut d ts None e).0
exactly_cut {us = us} d ts (Some x) e = let same : None ≡ Some x = (one_cut d ts (Some x) e).1 in absurd cc

some_not_none : {A : Type 0} (x : Reason × ℕ) → Some x ≡ None → A
some_not_none x e = absurd cc

same_fault : (x y : Reason × ℕ) → Some x ≡ Some y → fault_of x.0 x.1 ≡ fault_of y.0 y.1
same_fault x y e = let pair : x ≡ y = cc in ap (λ (z : Reason × ℕ). fault_of z.0 z.1) pair

pub exactly_not : {bs : Bytes} (g : CutFault) → IsNotCut bs g → (ts : List Token) (f : Option (Reason × ℕ)) → Cut bs 0 ts f → AnswersCut ts f (Err g)
exactly_not g (inr m) ts None e = m
exactly_not g (inr m) ts (Some x) e = inr m
exactly_not g (inl h) ts None e = some_not_none (h.0, h.1) (one_cut h.3 ts None e).1
exactly_not g (inl h) ts (Some x) e = inl (h.4 ∙ same_fault (h.0, h.1) x (one_cut h.3 ts (Some x) e).1)

-- ---- what is left

pub rest_is : (bs : Bytes) (at : ℕ) → take (length bs - at) (drop at bs) ≡ drop at bs
rest_is bs at = take_all (length bs - at) (drop at bs) (omega (arith, length-drop at bs))

pub nothing_left : (bs : Bytes) (at : ℕ) → length bs ≤ at → drop at bs ≡ []
nothing_left bs at h = drop_all at bs h

pub refused_at : {bs : Bytes} {so_far : List Token} {p : ℕ} (f : CutFault) → GoesOn bs so_far (drop p bs) p → IsNoNext (take (length bs - p) (drop p bs)) p f → IsNotCut bs f
refused_at {bs = bs} {p = p} f w h = not_cut w f (subst (λ x. IsNoNext x p f) (rest_is bs p) h)

pub blank_at : {bs : Bytes} {so_far : List Token} {p : ℕ} (n : ℕ) (now : List Token) → GoesOn bs so_far (drop p bs) p → front (take (length bs - p) (drop p bs)) ≡ Blank n → now ≡ so_far → GoesOn bs now (drop (p + n) bs) (p + n)
blank_at {bs = bs} {so_far = so_far} {p = p} n now w h e =
    subst (λ x. GoesOn bs x (drop (p + n) bs) (p + n)) (sym e)
    (subst (λ x. GoesOn bs so_far x (p + n)) (drop-drop n p bs) (past_blank n w (ap front (sym (rest_is bs p)) ∙ h)))

pub token_at_place : {bs : Bytes} {so_far : List Token} {p : ℕ} (n : ℕ) (t : Token) (now : List Token) → GoesOn bs so_far (drop p bs) p
    → IsNext (take (length bs - p) (drop p bs)) p (n, Some t) → now ≡ so_far ++ t ∷ [] → GoesOn bs now (drop (p + n) bs) (p + n)
token_at_place {bs = bs} {p = p} n t now w h e =
    subst (λ x. GoesOn bs now x (p + n)) (drop-drop n p bs) (past_token n t now w (subst (λ x. IsNext x p (n, Some t)) (rest_is bs p) h) e)
