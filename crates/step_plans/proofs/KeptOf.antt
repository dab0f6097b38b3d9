-- What is kept, and what the meaning asks for.
use Rattle.std.proofs.Common.{◌≡◌, ℕ, zero, suc, true, false, List, Option, refl}
use Rattle.hept_ast.specs.Meaning.{Question, Answer, Is, Rule, Setting, previous}
use Rattle.hept_ast.proofs.Depths.{one_answer}
use Rattle.hept_ast.specs.Outputs.{Knows, Follows, asked}
use Rattle.step_plans.specs.Kept.{Kept, at_first, was_here, was_away, Previous, again, not_again, at_or, PreviousIsKept}

-- over any relation of questions and answers
pub by_kept : (K : Question → Answer → Type 0) (rows : List (List ℕ)) (present restarted : ℕ → Question) (go : ℕ → Rule) (none : Rule) (t : ℕ) (o : Option ℕ) (a : Answer) →
    Previous K present restarted t o → Follows K rows (at_or o go none) a → Follows K rows (previous present restarted go none t) a
by_kept K rows present restarted go none zero o a (again h) f = f
by_kept K rows present restarted go none zero o a (not_again h at_first) f = f
by_kept K rows present restarted go none (suc p) o a (again h) f = asked h f
by_kept K rows present restarted go none (suc p) o a (not_again h (was_here k)) f = asked h (asked k f)
by_kept K rows present restarted go none (suc p) o a (not_again h (was_away k l)) f = asked h (asked k (by_kept K rows present restarted go none p o a l f))

pub previous_is_kept : PreviousIsKept
previous_is_kept w rows = by_kept (Knows w rows) rows

-- ---- there is one latest presence

differ : (w : Setting) (rows : List (List ℕ)) (q : Question) {A : Type 0} → Knows w rows q (Is true) → Knows w rows q (Is false) → A
differ w rows q h k = let e = one_answer w rows q (Is true) (Is false) h k in absurd (cc)

pub one_kept : (w : Setting) (rows : List (List ℕ)) (present restarted : ℕ → Question) (t : ℕ) (o other : Option ℕ) →
    Kept (Knows w rows) present restarted t o → Kept (Knows w rows) present restarted t other → o ≡ other
one_kept w rows present restarted zero o other at_first at_first = refl
one_kept w rows present restarted (suc p) o other (was_here h) (was_here k) = refl
one_kept w rows present restarted (suc p) o other (was_here h) (was_away k l) = differ w rows (present p) h k
one_kept w rows present restarted (suc p) o other (was_away h l) (was_here k) = differ w rows (present p) k h
one_kept w rows present restarted (suc p) o other (was_away h (again r)) (was_away k (again q)) = refl
one_kept w rows present restarted (suc p) o other (was_away h (again r)) (was_away k (not_again q m)) = differ w rows (restarted p) r q
one_kept w rows present restarted (suc p) o other (was_away h (not_again r l)) (was_away k (again q)) = differ w rows (restarted p) q r
one_kept w rows present restarted (suc p) o other (was_away h (not_again r l)) (was_away k (not_again q m)) = one_kept w rows present restarted p o other l m

pub one_previous : (w : Setting) (rows : List (List ℕ)) (present restarted : ℕ → Question) (t : ℕ) (o other : Option ℕ) →
    Previous (Knows w rows) present restarted t o → Previous (Knows w rows) present restarted t other → o ≡ other
one_previous w rows present restarted t o other (again h) (again k) = refl
one_previous w rows present restarted t o other (again h) (not_again k m) = differ w rows (restarted t) h k
one_previous w rows present restarted t o other (not_again h l) (again k) = differ w rows (restarted t) k h
one_previous w rows present restarted t o other (not_again h l) (not_again k m) = one_kept w rows present restarted t o other l m
