-- In a program that is read each type has a constructor, each number has 32 bits, and each plain equation has a name on its left.
use Rattle.std.proofs.Common.{◌≡◌, ℕ, ◌<◌, Bool, true, false, List, [], ◌∷◌, ◌++◌, Option, Some, None, length, take, refl, subst, arith, All}
use Rattle.std.specs.Prelude.{if◌then◌else◌, nat_le, pos, FitsSigned}
use Rattle.std.specs.Int.{w32}
use Rattle.hept_ast.specs.Parts.{expressions, parts, variables}
use Rattle.ept_tokens.specs.declared.token.Kind.{Kind}
use Rattle.ept_grammar.specs.declared.parts.Role.{Role}
use Rattle.ept_tokens.specs.declared.token.Token.{Token}
use Rattle.ept_grammar.specs.Grammar.{Symbol, word, part, Values, joined, place_of, Spells}
use Rattle.ept_tokens.specs.Tokens.{Bytes, Reason, NumberTooLarge, Front, Blank, Word, Wrong, front, is_blank, begins_comment, comment_length, comment_front, token_front, longest, number_of, Cut}
use Rattle.accepted_meaning.specs.Ranges.{HasLeft}
use Rattle.read_laws.specs.Laws.{ReadInRange}
use Rattle.read_laws.proofs.PartPlaces.{each_at}
use Rattle.read_laws.proofs.GoodTexts.{Every, every_all, every_also, FitsHere, GoodDecl, GoodNode, good_expressions, good_parts, good_variables, GoodPart}
use Rattle.read_laws.proofs.GoodRules.{HasConstructors, FitsToken, AllGood, GivesGood, all_good}

-- ---- the numbers of tokens

fits_32 : (m : ℕ) → m < 2147483648 → FitsSigned w32 (pos m)
fits_32 m h = record { sfits = omega arith }

from_comment : {P : Type 0} (o : Option ℕ) (n : ℕ) (k : Kind) → comment_front o ≡ Word n k → P
from_comment None n k e = absurd cc
from_comment (Some m) n k e = absurd cc

small : (n : ℕ) → nat_le 2147483648 n ≡ false → n < 2147483648
small n e = grind arith

from_token : (bs : Bytes) (o : Option (ℕ × Kind)) (n : ℕ) (k : Kind) → token_front bs o ≡ Word n k → number_of k (take n bs) < 2147483648
from_token bs None n k e = absurd cc
from_token bs (Some w) n k e = go (nat_le 2147483648 (number_of w.1 (take w.0 bs))) refl e
  where
    go : (b : Bool) → nat_le 2147483648 (number_of w.1 (take w.0 bs)) ≡ b → (if b then Wrong NumberTooLarge else Word w.0 w.1) ≡ Word n k → number_of k (take n bs) < 2147483648
    go true h f = absurd cc
    go false h f =
        let lengths : w.0 ≡ n = cc in
        let kinds : w.1 ≡ k = cc in
        subst (λ (j : Kind). number_of j (take n bs) < 2147483648) kinds (subst (λ (m : ℕ). number_of w.1 (take m bs) < 2147483648) lengths (small (number_of w.1 (take w.0 bs)) h))

by_front : {P : Type 0} (blank comment : Bool) (x y : Front) (n : ℕ) (k : Kind) → (x ≡ Word n k → P) → (y ≡ Word n k → P) →
    (if blank then Blank 1 else (if comment then x else y)) ≡ Word n k → P
by_front true comment x y n k f g e = absurd cc
by_front false true x y n k f g e = f e
by_front false false x y n k f g e = g e

word_small : (bs : Bytes) (n : ℕ) (k : Kind) → front bs ≡ Word n k → number_of k (take n bs) < 2147483648
word_small [] n k e = absurd cc
word_small (b ∷ bs) n k e =
    by_front (is_blank b) (begins_comment (b ∷ bs)) (comment_front (comment_length 0 0 0 (b ∷ bs))) (token_front (b ∷ bs) (longest (length (b ∷ bs)) (b ∷ bs))) n k
    (from_comment (comment_length 0 0 0 (b ∷ bs)) n k) (from_token (b ∷ bs) (longest (length (b ∷ bs)) (b ∷ bs)) n k) e

tokens_fit : {bs : Bytes} {p : ℕ} {ts : List Token} {f : Option (Reason × ℕ)} → Cut bs p ts f → Every FitsToken ts
tokens_fit (Cut.end e) = tt
tokens_fit (Cut.blank n e d) = tokens_fit d
tokens_fit {bs = bs} (Cut.token n k e d) = (fits_32 (number_of k (take n bs)) (word_small bs n k e), tokens_fit d)
tokens_fit (Cut.wrong r e) = tt

-- ---- derivations

good_joined : (a b : List Symbol) (us : Values a) (vs : Values b) → AllGood (a ++ b) (joined a b us vs) → AllGood a us × AllGood b vs
good_joined [] b us vs h = (tt, h)
good_joined (word r k ∷ a) b us vs h = let l = good_joined a b us.1 vs h.1 in ((h.0, l.0), l.1)
good_joined (part n ∷ a) b us vs h = let l = good_joined a b us.1 vs h.1 in ((h.0, l.0), l.1)

spelled_good : {ss : List Symbol} {vs : Values ss} {ts : List Token} {rs : List Role} → Spells ss vs ts rs → Every FitsToken ts → AllGood ss vs
spelled_good Spells.none h = tt
spelled_good (Spells.token e d) h = (h.0, spelled_good d h.1)
spelled_good (Spells.by {n = n} {ss = ss} {vs = vs} {ts = ts} r i us d) h =
    let l = good_joined r.right ss us vs (spelled_good d h) in (each_at (GivesGood n) i (all_good n) (place_of ts) us l.0, l.1)

pub read_in_range : ReadInRange
read_in_range bytes program text =
    let whole = (spelled_good text.text.1 (tokens_fit text.cut)).0 in
    record {
      constructors = every_all HasConstructors program.types whole.0;
      constants = every_all (λ node. All FitsHere (expressions node)) program.nodes
          (every_also GoodNode (λ node. All FitsHere (expressions node)) (λ node g. every_all FitsHere (expressions node) (good_expressions node g)) program.nodes whole.1);
      initials = every_all (λ node. All GoodDecl (variables node)) program.nodes
          (every_also GoodNode (λ node. All GoodDecl (variables node)) (λ node g. every_all GoodDecl (variables node) (good_variables node g)) program.nodes whole.1);
      lefts = every_all (λ node. All (λ q. HasLeft q.part) (parts node)) program.nodes
          (every_also GoodNode (λ node. All (λ q. HasLeft q.part) (parts node))
          (λ node g. every_all (λ q. HasLeft q.part) (parts node) (every_also (λ q. GoodPart q.part) (λ q. HasLeft q.part) (λ q k. k.2) (parts node) (good_parts node g))) program.nodes whole.1);
    }
