-- Lists and tests.
use Rattle.std.proofs.Common.{◌≡◌, List, [], ◌∷◌, map, refl, ap, Bool, true, false, ◌||◌, ◌⊎◌, inl, inr}
use Rattle.std.specs.List.{list_any}

pub any_mapped : {X Y : Type 0} (p : Y → Bool) (f : X → Y) (xs : List X) → list_any p (map f xs) ≡ list_any (λ x. p (f x)) xs
any_mapped p f [] = refl
any_mapped p f (x ∷ xs) = ap (λ b. p (f x) || b) (any_mapped p f xs)

pub or_right : (b d : Bool) → d ≡ true → b || d ≡ true
or_right true d e = refl
or_right false d e = e

pub or_left : (b d : Bool) → b ≡ true → b || d ≡ true
or_left b d e = ap (λ t. t || d) e

pub or_either : (b d : Bool) → b || d ≡ true → (b ≡ true) ⊎ (d ≡ true)
or_either true d e = inl refl
or_either false d e = inr e

-- either of two tests, where each holds of more
pub or_up : (a b c d : Bool) → (a ≡ true → b ≡ true) → (c ≡ true → d ≡ true) → a || c ≡ true → b || d ≡ true
or_up true b c d f g e = or_left b d (f refl)
or_up false b c d f g e = or_right b d (g e)
