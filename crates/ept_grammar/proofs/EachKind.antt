-- Each kind is among the kinds, and kinds are compared by their numbers.
use Rattle.std.specs.Prelude.{◌≡◌, ◌≢◌, ℕ, zero, suc, Bool, true, false, List, [], ◌∷◌, Option, Some, None, refl}
use Rattle.std.proofs.Common.{eq-eqb, eqb-true, ap, sym, subst, ◌∙◌}
use Rattle.ept_tokens.specs.declared.token.Kind.{Kind}
use Rattle.ept_tokens.specs.declared.token.Kind.TheVariants.{Number}
use Rattle.ept_tokens.specs.Kinds.{kinds, is, number_of}
use Rattle.ept_grammar.specs.Grammar.{Among, here, there}

nth : List Kind → ℕ → Option Kind
nth [] n = None
nth (k ∷ ks) zero = Some k
nth (k ∷ ks) (suc n) = nth ks n

kind_back : (k : Kind) → nth kinds (number_of k) ≡ Some k
unfolding nth
kind_back Number = refl
kind_back _ = refl

among_of : (ks : List Kind) (n : ℕ) (k : Kind) → nth ks n ≡ Some k → Among k ks
unfolding nth
among_of [] n k e = absurd cc
among_of (j ∷ js) zero k e = let same : j ≡ k = cc in subst (λ x. Among x (j ∷ js)) same here
among_of (j ∷ js) (suc n) k e = there (among_of js n k e)

pub in_kinds : (k : Kind) → Among k kinds
in_kinds k = among_of kinds (number_of k) k (kind_back k)

pub same_is : (a b : Kind) → is a b ≡ true → a ≡ b
same_is a b e =
    let f : Some a ≡ Some b = sym (kind_back a) ∙ ap (nth kinds) (eqb-true (number_of a) (number_of b) e) ∙ kind_back b in
    cc

pub is_other : (a b : Kind) → b ≢ a → is a b ≡ false
is_other a b ne = go (is a b) refl
  where
    go : (x : Bool) → is a b ≡ x → x ≡ false
    go true e = absurd (ne (sym (same_is a b e)))
    go false e = refl

pub is_same : (a b : Kind) → a ≡ b → is a b ≡ true
is_same a b e = eq-eqb (number_of a) (number_of b) (ap number_of e)
