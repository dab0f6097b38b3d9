-- What some bytes begin with, by what their first bytes are.
use Rattle.std.specs.Prelude.{◌≡◌, ℕ, ◌<◌, ◌≤◌, true, false, if◌then◌else◌, [], ◌∷◌, length, take, Option, Some, nat_le}
use Rattle.std.proofs.Common.{arith, ap, get_or, ◌∙◌}
use Rattle.std.proofs.lemmas.Bool.Decides.{nat_tests}
use Rattle.ept_tokens.specs.declared.token.Kind.{Kind}
use Rattle.ept_tokens.specs.Tokens.{Bytes, NumberTooLarge, is_blank, begins_comment, comment_length, comment_front, Front, Word, Wrong, front, token_front, longest, number_of}

pub front_comment : (bs : Bytes) → 0 < length bs → is_blank (get_or bs 0 0) ≡ false → begins_comment bs ≡ true → (o : Option ℕ) → comment_length 0 0 0 bs ≡ o → front bs ≡ comment_front o
front_comment [] h blank comment o e = absurd (omega arith)
front_comment (b ∷ bs) h blank comment o e = rw (blank, comment) (ap comment_front e)

pub front_token : (bs : Bytes) → 0 < length bs → is_blank (get_or bs 0 0) ≡ false → begins_comment bs ≡ false → (o : Option (ℕ × Kind)) → longest (length bs) bs ≡ o → front bs ≡ token_front bs o
front_token [] h blank comment o e = absurd (omega arith)
front_token (b ∷ bs) h blank comment o e = rw (blank, comment) (ap (token_front (b ∷ bs)) e)

large : (n : ℕ) (f : Front) → 2147483648 ≤ n → (if nat_le 2147483648 n then Wrong NumberTooLarge else f) ≡ Wrong NumberTooLarge
large n f h = grind (arith, nat_tests)

small : (n : ℕ) (f : Front) → n < 2147483648 → (if nat_le 2147483648 n then Wrong NumberTooLarge else f) ≡ f
small n f h = grind (arith, nat_tests)

pub front_large : (bs : Bytes) (n : ℕ) (k : Kind) → front bs ≡ token_front bs (Some (n, k)) → 2147483648 ≤ number_of k (take n bs) → front bs ≡ Wrong NumberTooLarge
front_large bs n k e h = e ∙ large (number_of k (take n bs)) (Word n k) h

pub front_word : (bs : Bytes) (n : ℕ) (k : Kind) → front bs ≡ token_front bs (Some (n, k)) → number_of k (take n bs) < 2147483648 → front bs ≡ Word n k
front_word bs n k e h = e ∙ small (number_of k (take n bs)) (Word n k) h
