-- What several writes one after another do to the bytes that a sink holds.
use Rattle.std.proofs.Common.{◌≡◌, ℕ, ◌+◌, ◌-◌, ◌^◌, ◌<◌, ◌≤◌, inl, inr, ⊎_elim, List, [], ◌++◌, length, take, drop, Option, Some, None, sym, refl, ap, ◌∙◌, subst, arith, append_assoc}
use Rattle.std.specs.Io.KnownBytes.{Appends, Keeps}
use Rattle.std.proofs.lemmas.List.{append-nil, take_all, length-drop}
use Rattle.std.proofs.Math.Seq.{take-add}
use Rattle.hept_io.specs.Outside.{Rose}

pub appends_both : (a b c : Option (List ℕ)) (xs ys : List ℕ) → Appends a b xs → Appends b c ys → Appends a c (xs ++ ys)
appends_both None b c xs ys h k = tt
appends_both (Some x) None c xs ys h k = absurd h
appends_both (Some x) (Some y) None xs ys h k = absurd k
appends_both (Some x) (Some y) (Some z) xs ys h k = k ∙ ap (λ l. l ++ ys) h ∙ append_assoc x xs ys

pub appends_kept : (a b c : Option (List ℕ)) (xs : List ℕ) → Appends a b xs → Keeps b c → Appends a c xs
appends_kept None b c xs h k = tt
appends_kept (Some x) None c xs h k = absurd h
appends_kept (Some x) (Some y) None xs h k = absurd k
appends_kept (Some x) (Some y) (Some z) xs h k = k ∙ h

pub appends_none : (a : Option (List ℕ)) → Appends a a []
appends_none None = tt
appends_none (Some x) = sym (append-nil x)

pub keeps_same : (a : Option (List ℕ)) → Keeps a a
keeps_same None = tt
keeps_same (Some x) = refl

whole : (xs : List ℕ) (d : ℕ) → take (length xs - d) (drop d xs) ≡ drop d xs
whole xs d = take_all (length xs - d) (drop d xs) (omega (arith, length-drop d xs))

-- n more bytes were taken, after d
pub appends_next : (a b c : Option (List ℕ)) (xs : List ℕ) (d n : ℕ) → Appends a b (take d xs) → Appends b c (take n (take (length xs - d) (drop d xs))) → Appends a c (take (d + n) xs)
appends_next a b c xs d n h k = subst (Appends a c) (sym (take-add d n xs)) (appends_both a b c (take d xs) (take n (drop d xs)) h (subst (λ ys. Appends b c (take n ys)) (whole xs d) k))

pub still_within : (xs : List ℕ) (d n : ℕ) → d ≤ length xs → n ≤ length (take (length xs - d) (drop d xs)) → d + n ≤ length xs
still_within xs d n l h = omega (arith, ap length (whole xs d), length-drop d xs)

pub progresses : (xs : List ℕ) (d n : ℕ) → d < length xs → (0 < length (take (length xs - d) (drop d xs)) → 0 < n) → 0 < n
progresses xs d n l h = h (omega (arith, ap length (whole xs d), length-drop d xs))

pub rose_later : (a b c : ℕ) → a ≤ b → Rose b c → Rose a c
rose_later a b c l h = ⊎_elim (λ x. inl (omega arith)) (λ x. inr x) h

pub rose_before : (a b c : ℕ) → Rose a b → b ≤ c → c < 2 ^ 64 → Rose a c
rose_before a b c h l m = ⊎_elim (λ x. inl (omega arith)) (λ x. inr (omega arith)) h
