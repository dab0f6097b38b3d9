-- No two tokens of cut bytes have one place.
use Rattle.std.proofs.Common.{◌≡◌, ℕ, ◌+◌, ◌<◌, ◌≤◌, Bool, true, false, List, [], ◌∷◌, Option, Some, None, map, length, take, arith, refl}
use Rattle.std.specs.Prelude.{if◌then◌else◌, nat_le}
use Rattle.hept_ast.specs.Paths.{IsAmong, at_head, in_tail, AllDiffer}
use Rattle.ept_tokens.specs.declared.token.Kind.{Kind}
use Rattle.ept_tokens.specs.declared.token.Token.{Token}
use Rattle.ept_tokens.specs.Tokens.{Bytes, Reason, NumberTooLarge, Front, Blank, Word, Wrong, front, is_blank, begins_comment, comment_length, comment_front, token_front, longest, number_of, Cut}
use Rattle.ept_tokens.proofs.Longest.{longest_within}

abbrev pub token_places : List Token → List ℕ
token_places ts = map (λ t. t.place.0) ts

-- ---- a token has bytes

word_length : (a b : ℕ) (j k : Kind) → Word a j ≡ Word b k → a ≡ b
word_length a b j k e = cc

from_comment : (o : Option ℕ) (n : ℕ) (k : Kind) → comment_front o ≡ Word n k → 0 < n
from_comment None n k e = absurd cc
from_comment (Some m) n k e = absurd cc

small_enough : (b : Bool) (m n : ℕ) (j k : Kind) → (if b then Wrong NumberTooLarge else Word m j) ≡ Word n k → m ≡ n
small_enough true m n j k e = absurd cc
small_enough false m n j k e = word_length m n j k e

from_token : (bs : Bytes) (o : Option (ℕ × Kind)) (n : ℕ) (k : Kind) → ((m : ℕ) (j : Kind) → o ≡ Some (m, j) → 0 < m) → token_front bs o ≡ Word n k → 0 < n
from_token bs None n k h e = absurd cc
from_token bs (Some w) n k h e =
    let same : w.0 ≡ n = small_enough (nat_le 2147483648 (number_of w.1 (take w.0 bs))) w.0 n w.1 k e in
    let some : 0 < w.0 = h w.0 w.1 refl in
    omega arith

by_front : (blank comment : Bool) (x y : Front) (n : ℕ) (k : Kind) → (x ≡ Word n k → 0 < n) → (y ≡ Word n k → 0 < n) →
    (if blank then Blank 1 else (if comment then x else y)) ≡ Word n k → 0 < n
by_front true comment x y n k f g e = absurd cc
by_front false true x y n k f g e = f e
by_front false false x y n k f g e = g e

word_some : (bs : Bytes) (n : ℕ) (k : Kind) → front bs ≡ Word n k → 0 < n
word_some [] n k e = absurd cc
word_some (b ∷ bs) n k e =
    by_front (is_blank b) (begins_comment (b ∷ bs)) (comment_front (comment_length 0 0 0 (b ∷ bs))) (token_front (b ∷ bs) (longest (length (b ∷ bs)) (b ∷ bs))) n k
    (from_comment (comment_length 0 0 0 (b ∷ bs)) n k)
    (from_token (b ∷ bs) (longest (length (b ∷ bs)) (b ∷ bs)) n k (λ m j h. (longest_within (length (b ∷ bs)) (b ∷ bs) m j h).0)) e

-- ---- the places of tokens rise

at_least : {bs : Bytes} {p : ℕ} {ts : List Token} {f : Option (Reason × ℕ)} → Cut bs p ts f → (q : ℕ) → IsAmong q (token_places ts) → p ≤ q
at_least (Cut.end e) q i = elim i [ ]
at_least {p = p} (Cut.blank n e d) q i = let h : p + n ≤ q = at_least d q i in omega arith
at_least {p = p} (Cut.token n k e d) q at_head = omega arith
at_least {p = p} (Cut.token n k e d) q (in_tail i) = let h : p + n ≤ q = at_least d q i in omega arith
at_least (Cut.wrong r e) q i = elim i [ ]

pub tokens_differ : {bs : Bytes} {p : ℕ} {ts : List Token} {f : Option (Reason × ℕ)} → Cut bs p ts f → AllDiffer (token_places ts)
tokens_differ (Cut.end e) = tt
tokens_differ (Cut.blank n e d) = tokens_differ d
tokens_differ {bs = bs} {p = p} (Cut.token n k e d) =
    (λ i. let h : p + n ≤ p = at_least d p i in let some : 0 < n = word_some bs n k e in absurd (omega arith), tokens_differ d)
tokens_differ (Cut.wrong r e) = tt
