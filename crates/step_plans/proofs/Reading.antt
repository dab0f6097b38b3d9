-- What instructions read from cells.
use Rattle.std.proofs.Common.{◌≡◌, ℕ, Bool, true, false, List, Option, Some, None, refl, sym, subst}
use Rattle.std.specs.Prelude.{if◌then◌else◌, ◌==◌, ◌||◌}
use Rattle.hept_ast.specs.Values.{truth}
use Rattle.hept_ast.specs.Scopes.{Clock, Scope}
use Rattle.hept_ast.specs.Meaning.{Restarted, Is, Setting}
use Rattle.hept_ast.specs.declared.tree.Expr.{Expr}
use Rattle.step_plans.specs.Kept.{again, not_again}
use Rattle.step_plans.specs.Things.{Memory, Value_of, Presence_of, IsAgain, IsSeen, IsLeft, IsKept, IsBegun, PreviousOf, Content, clock_of, scope_of, initial_of}
use Rattle.step_plans.specs.Operations.{Register, Operation, outcome}
use Rattle.step_plans.specs.Plans.{Ground, memory_at, Entry, IsQuiet, ReadsLeft, left, left_unless, ReadsSeen, seen, seen_unless}
use Rattle.step_plans.specs.Instants.{HoldsAll}
use Rattle.step_plans.proofs.Frames.{K, quiet_again}

pub if_truth : {A : Type 0} (v : ℕ) (b : Bool) (x y : A) → v ≡ truth b → (if v == 1 then x else y) ≡ (if b then x else y)
if_truth v true x y e = subst (λ (n : ℕ). (if n == 1 then x else y) ≡ x) (sym e) refl
if_truth v false x y e = subst (λ (n : ℕ). (if n == 1 then x else y) ≡ y) (sym e) refl

-- what a memory has at the previous instant
pub record Recalls (w : Setting) (rows : List (List ℕ)) (t : ℕ) (m : Memory) (v : ℕ) : Type 0 where
  pub at : Option ℕ
  pub previous : PreviousOf w rows (clock_of w rows m) (scope_of w rows m) t at
  pub content : Content w rows m at v

nothing_left : (w : Setting) (rows : List (List ℕ)) (m : Memory) (v : ℕ) → v ≡ initial_of m → Content w rows m None v
nothing_left w rows (Value_of e c s n) v h = h
nothing_left w rows (Presence_of c s) v h = h

-- a cell, or the initial number where a reset restarts
pub recalls : (w : Setting) (rows : List (List ℕ)) (t : ℕ) (m : Memory) (v : ℕ) (b : Bool) → IsBegun w rows t m v →
    K w rows (Restarted (scope_of w rows m) t) (Is (w.marked t || b)) → Recalls w rows t m (if b then initial_of m else v)
recalls w rows t m v b begun f = by_mark (w.marked t) begun.fresh begun.kept b f
  where
    by_mark : (r : Bool) → (r ≡ true → v ≡ initial_of m) → (r ≡ false → IsKept w rows t m v) →
        (b : Bool) → K w rows (Restarted (scope_of w rows m) t) (Is (r || b)) → Recalls w rows t m (if b then initial_of m else v)
    by_mark true fresh kept true g = record { at = None; previous = again g; content = nothing_left w rows m _ refl }
    by_mark true fresh kept false g = record { at = None; previous = again g; content = nothing_left w rows m v (fresh refl) }
    by_mark false fresh kept true g = record { at = None; previous = again g; content = nothing_left w rows m _ refl }
    by_mark false fresh kept false g = record { at = (kept refl).at; previous = not_again g (kept refl).kept; content = (kept refl).content }

pub recalls_quiet : (w : Setting) (rows : List (List ℕ)) (t : ℕ) (m : Memory) (v : ℕ) → IsBegun w rows t m v → IsQuiet (scope_of w rows m) → Recalls w rows t m v
recalls_quiet w rows t m v begun q =
    let a = quiet_again w rows (scope_of w rows m) t q in
    by_answer a.answer a.known a.shown
  where
    by_answer : (b : Bool) → K w rows (Restarted (scope_of w rows m) t) (Is (w.marked t || b)) → 0 ≡ truth b → Recalls w rows t m v
    by_answer false k e = recalls w rows t m v false begun k
    by_answer true k e = absurd (cc)

pub recalls_unless : (w : Setting) (rows : List (List ℕ)) (t : ℕ) (m : Memory) (v a : ℕ) → IsBegun w rows t m v → IsAgain w rows (scope_of w rows m) t a →
    Recalls w rows t m (if a == 1 then initial_of m else v)
recalls_unless w rows t m v a begun h =
    subst (λ (n : ℕ). Recalls w rows t m n) (sym (if_truth a h.answer (initial_of m) v h.shown)) (recalls w rows t m v h.answer begun h.known)

module _ (w : Setting) (rows : List (List ℕ)) (t : ℕ) (g : Ground) (entries : List Entry) (cells now : Register → ℕ) where
  pub left_is : (e : Expr) (c : Clock) (s : Scope) (n : ℕ) (o : Operation) → HoldsAll w rows t entries now → ((r : Register) (m : Memory) → memory_at g r ≡ Some m → IsBegun w rows t m (cells r)) →
      ReadsLeft g entries e c s n o → IsLeft w rows e c s n t (outcome cells now o)
  left_is e c s n o holds begun (left {m = m} q at) =
      let r = recalls_quiet w rows t (Value_of e c s n) (cells m) (begun m _ at) q in
      record { at = r.at; previous = r.previous; shown = r.content }
  left_is e c s n o holds begun (left_unless {m = m} {a = a} h at) =
      let r = recalls_unless w rows t (Value_of e c s n) (cells m) (now a) (begun m _ at) (holds _ a h) in
      record { at = r.at; previous = r.previous; shown = r.content }

  pub seen_is : (c : Clock) (s : Scope) (o : Operation) → HoldsAll w rows t entries now → ((r : Register) (m : Memory) → memory_at g r ≡ Some m → IsBegun w rows t m (cells r)) →
      ReadsSeen g entries c s o → IsSeen w rows c s t (outcome cells now o)
  seen_is c s o holds begun (seen {m = m} q at) =
      let r = recalls_quiet w rows t (Presence_of c s) (cells m) (begun m _ at) q in
      record { at = r.at; previous = r.previous; shown = r.content }
  seen_is c s o holds begun (seen_unless {m = m} {a = a} h at) =
      let r = recalls_unless w rows t (Presence_of c s) (cells m) (now a) (begun m _ at) (holds _ a h) in
      record { at = r.at; previous = r.previous; shown = r.content }
