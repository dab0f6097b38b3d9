-- One lemma for each instruction that computes what an expression gives.
use Rattle.std.proofs.Common.{◌≡◌, ℕ, true, false, List, Option, Some, None, refl, sym, subst}
use Rattle.std.specs.Prelude.{if◌then◌else◌, ◌==◌, is_some}
use Rattle.hept_ast.specs.Values.{truth}
use Rattle.hept_ast.specs.Texts.{const_value}
use Rattle.hept_ast.specs.Scopes.{Clock, Scope}
use Rattle.hept_ast.specs.Meaning.{Gives, Present, Nil, Rule, Setting, before, answer_to}
use Rattle.hept_ast.specs.Outputs.{said}
use Rattle.hept_ast.specs.declared.tree.Expr.{Expr}
use Rattle.hept_ast.specs.declared.tree.Form.{out-Form}
use Rattle.hept_ast.specs.declared.tree.Form.TheOpen.{Form-F}
use Rattle.hept_ast.specs.declared.tree.Const.{Const}
use Rattle.step_plans.specs.Kept.{at_or}
use Rattle.step_plans.specs.Things.{Here, HasAnswer, HasTruth, IsSeen, IsLeft, LeftAt, PreviousOf, IsBegun, Memory}
use Rattle.step_plans.specs.Operations.{Register, Operation, outcome}
use Rattle.step_plans.specs.Plans.{Ground, memory_at, Entry, Has, Computes, constant, ready, unary, binary, divided, chosen, fby_constant, fby_ready, pre, fby_variable, arrow}
use Rattle.step_plans.specs.Instants.{HoldsAll}
use Rattle.step_plans.proofs.KeptOf.{by_kept, one_previous}
use Rattle.step_plans.proofs.Frames.{K, Comes, by_form, comes_to, comes_by, comes_on}
use Rattle.step_plans.proofs.Reading.{if_truth, left_is}

constant_gives : (w : Setting) (rows : List (List ℕ)) (s : Scope) (t h n : ℕ) (e : Expr) (c : Clock) (k : Const) → HasTruth (K w rows) (Present c s t) h →
    out-Form e.form ≡ Form-F.Const k → n ≡ const_value w.types k → HasAnswer (K w rows) (Gives e c s t) n
constant_gives w rows s t h n e c k here is v = by_form w rows s t h n e c (Form-F.Const k) here is (comes_to w rows n _ v)

ready_gives : (w : Setting) (rows : List (List ℕ)) (s : Scope) (t h n : ℕ) (e : Expr) (c : Clock) (k : Const) → HasTruth (K w rows) (Present c s t) h →
    out-Form e.form ≡ Form-F.AsyncConst k → n ≡ const_value w.types k → HasAnswer (K w rows) (Gives e c s t) n
ready_gives w rows s t h n e c k here is v = by_form w rows s t h n e c (Form-F.AsyncConst k) here is (comes_to w rows n _ v)

-- ---- what was left

-- `previous`, by what is known at the previous instant and without one
comes_before : (w : Setting) (rows : List (List ℕ)) (s : Scope) (c : Clock) (t v : ℕ) (go : ℕ → Rule) (none : Rule) (o : Option ℕ) →
    PreviousOf w rows c s t o → Comes w rows (at_or o go none) v → Comes w rows (before w c s t go none) v
comes_before w rows s c t v go none o p comes = record {
  answer = comes.answer;
  follows = by_kept (K w rows) rows _ _ go none t o comes.answer p comes.follows;
  shown = comes.shown;
}

-- what was left, or else what a rule comes to
comes_left : (w : Setting) (rows : List (List ℕ)) (s : Scope) (e : Expr) (c : Clock) (n t v : ℕ) (none : Rule) → IsLeft w rows e c s n t v →
    (v ≡ n → Comes w rows none v) → Comes w rows (before w c s t (λ p. answer_to (Gives e c s p)) none) v
comes_left w rows s e c n t v none l other = comes_before w rows s c t v _ none l.at l.previous (by_place l.at l.shown)
  where
    by_place : (o : Option ℕ) → LeftAt w rows e c s n o v → Comes w rows (at_or o (λ p. answer_to (Gives e c s p)) none) v
    by_place None h = other h
    by_place (Some p) h = comes_by w rows _ v h

-- one rule where there is a previous instant, and another where there is none
comes_seen : (w : Setting) (rows : List (List ℕ)) (s : Scope) (c : Clock) (t q one other_one : ℕ) (go : ℕ → Rule) (none : Rule) → (l : IsSeen w rows c s t q) →
    ((p : ℕ) → l.at ≡ Some p → Comes w rows (go p) one) → Comes w rows none other_one → Comes w rows (before w c s t go none) (if q == 1 then one else other_one)
comes_seen w rows s c t q one other_one go none l some other = comes_before w rows s c t _ go none l.at l.previous (by_place l.at refl l.shown)
  where
    by_place : (o : Option ℕ) → l.at ≡ o → q ≡ truth (is_some o) → Comes w rows (at_or o go none) (if q == 1 then one else other_one)
    by_place None e h = subst (λ (n : ℕ). Comes w rows none n) (sym (if_truth q false one other_one h)) other
    by_place (Some p) e h = subst (λ (n : ℕ). Comes w rows (go p) n) (sym (if_truth q true one other_one h)) (some p e)

-- what was left is that of the previous instant
left_there : (w : Setting) (rows : List (List ℕ)) (s : Scope) (e : Expr) (c : Clock) (n t v p : ℕ) → IsLeft w rows e c s n t v → PreviousOf w rows c s t (Some p) → HasAnswer (K w rows) (Gives e c s p) v
left_there w rows s e c n t v p l there =
    subst (λ (o : Option ℕ). LeftAt w rows e c s n o v) (one_previous w rows _ _ t l.at (Some p) l.previous there) l.shown

-- ---- instructions

module _ (w : Setting) (rows : List (List ℕ)) (t : ℕ) (g : Ground) (entries : List Entry) (cells now : Register → ℕ) where
  pub computes : (e : Expr) (c : Clock) (s : Scope) (h : Register) (o : Operation) → g.types ≡ w.types → HoldsAll w rows t entries now → ((r : Register) (m : Memory) → memory_at g r ≡ Some m → IsBegun w rows t m (cells r)) →
      Has entries (Here c s) h → Computes g entries e c s o → HasAnswer (K w rows) (Gives e c s t) (outcome cells now o)
  computes e c s h o types holds begun here (constant {n = n} k is v) = constant_gives w rows s t (now h) n e c k (holds _ h here) is (subst (λ ts. n ≡ const_value ts k) types v)
  computes e c s h o types holds begun here (ready {n = n} k is v) = ready_gives w rows s t (now h) n e c k (holds _ h here) is (subst (λ ts. n ≡ const_value ts k) types v)
  computes e c s h o types holds begun here (unary {op = op} {r = r} a is of_a) =
      by_form w rows s t (now h) _ e c (Form-F.Unary op a) (holds _ h here) is
      (comes_on w rows _ _ (now r) _ (holds _ r of_a) (comes_to w rows _ _ refl))
  computes e c s h o types holds begun here (binary {op = op} {r = r} {q = q} a b is of_a of_b) =
      by_form w rows s t (now h) _ e c (Form-F.Binary op a b) (holds _ h here) is
      (comes_on w rows _ _ (now r) _ (holds _ r of_a) (comes_on w rows _ _ (now q) _ (holds _ q of_b) (comes_to w rows _ _ refl)))
  computes e c s h o types holds begun here (divided {op = op} {r = r} {n = n} a b k is const v of_a) =
      by_form w rows s t (now h) _ e c (Form-F.Binary op a b) (holds _ h here) is
      (comes_on w rows _ _ (now r) _ (holds _ r of_a)
      (comes_on w rows _ _ n _ (constant_gives w rows s t (now h) n b c k (holds _ h here) const (subst (λ ts. n ≡ const_value ts k) types v)) (comes_to w rows _ _ refl)))
  computes e c s h o types holds begun here (chosen {p = p} {r = r} {q = q} k a b is of_k of_a of_b) =
      by_form w rows s t (now h) _ e c (Form-F.If k a b) (holds _ h here) is
      (comes_on w rows _ _ (now p) _ (holds _ p of_k) (comes_on w rows _ _ (now r) _ (holds _ r of_a)
      (comes_on w rows _ _ (now q) _ (holds _ q of_b) (comes_to w rows _ _ refl))))
  computes e c s h o types holds begun here (fby_constant {n = n} a b k is const v l) =
      by_form w rows s t (now h) _ e c (Form-F.Fby a b) (holds _ h here) is
      (comes_left w rows s b c n t _ _ (left_is w rows t g entries cells now b c s n o holds begun l)
      (λ (f : outcome cells now o ≡ n). comes_by w rows _ _ (subst (λ (m : ℕ). HasAnswer (K w rows) (Gives a c s t) m) (sym f)
      (constant_gives w rows s t (now h) n a c k (holds _ h here) const (subst (λ ts. n ≡ const_value ts k) types v)))))
  computes e c s h o types holds begun here (fby_ready {n = n} a b k is const v l) =
      by_form w rows s t (now h) _ e c (Form-F.Fby a b) (holds _ h here) is
      (comes_left w rows s b c n t _ _ (left_is w rows t g entries cells now b c s n o holds begun l)
      (λ (f : outcome cells now o ≡ n). comes_by w rows _ _ (subst (λ (m : ℕ). HasAnswer (K w rows) (Gives a c s t) m) (sym f)
      (ready_gives w rows s t (now h) n a c k (holds _ h here) const (subst (λ ts. n ≡ const_value ts k) types v)))))
  computes e c s h o types holds begun here (pre {n = n} a is l) =
      by_form w rows s t (now h) _ e c (Form-F.Pre a) (holds _ h here) is
      (comes_left w rows s a c n t _ _ (left_is w rows t g entries cells now a c s n o holds begun l)
      (λ (f : outcome cells now o ≡ n). record { answer = Nil; follows = said; shown = tt }))
  computes e c s h o types holds begun here (fby_variable {q = q} {l = l} {r = r} {n = n} a b is seen left of_a) =
      by_form w rows s t (now h) _ e c (Form-F.Fby a b) (holds _ h here) is
      (comes_seen w rows s c t (now q) (now l) (now r) _ _ (holds _ q seen)
      (λ p f. comes_by w rows _ _ (left_there w rows s b c n t _ p (holds _ l left) (subst (λ (o : Option ℕ). PreviousOf w rows c s t o) f (holds _ q seen).previous)))
      (comes_by w rows _ _ (holds _ r of_a)))
  computes e c s h o types holds begun here (arrow {q = q} {r = r} {l = l} a b is seen of_b of_a) =
      by_form w rows s t (now h) _ e c (Form-F.Arrow a b) (holds _ h here) is
      (comes_seen w rows s c t (now q) (now r) (now l) _ _ (holds _ q seen)
      (λ p f. comes_by w rows _ _ (holds _ r of_b)) (comes_by w rows _ _ (holds _ l of_a)))
