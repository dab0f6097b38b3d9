-- The clocks of variables in the scopes that see them.
use Rattle.std.proofs.Common.{Result, Vec, Global, IfOk, ◌≡◌, ℕ, Bool, true, false, List, [], ◌∷◌, ◌++◌, Option, Some, None, length, ◌+◌, if◌then◌else◌, refl, sym, ap, subst, arith, ◌∙◌}
use Rattle.std.proofs.lemmas.Result.{IfOk-weaker}
use Rattle.hept_ast.specs.Texts.{Name}
use Rattle.hept_ast.specs.Scopes.{Clock, Text, Written, Scope, Top, Called, In_branch, In_body, In_state, Under, block_of, declares, text_of}
use Rattle.hept_ast.specs.Meaning.{Setting, call_of, clock_seen}
use Rattle.hept_ast.specs.Meaning as meaning
use Rattle.hept_ast.specs.ClockMaps.{clock_in}
use Rattle.hept_ast.specs.declared.tree.Node.{Node}
use Rattle.hept_ast.specs.declared.tree.Expr.{Expr}
use Rattle.hept_ast.specs.declared.tree.Block.{Block}
use Rattle.hept_ast.specs.declared.tree.Branch.{Branch}
use Rattle.hept_ast.specs.declared.tree.State.{State}
use Rattle.hept_ast.specs.declared.tree.Form.{out-Form}
use Rattle.answer_table.specs.declared.paths.Step.{Step}
use Rattle.answer_table.specs.declared.paths.Step.TheVariants as way
use Rattle.answer_table.specs.declared.paths.Held.{Held}
use Rattle.answer_table.specs.declared.questions.Stop.{Stop}
use Rattle.answer_table.specs.declared.answers.Answers.{Answers}
use Rattle.answer_table.specs.Parts.{branch_at, body_at, states_at, left_at, right_at, on_at, every_at, root_of, operand_of}
use Rattle.answer_table.specs.Things.{Thing, In, At, Nowhere, part, branch_thing, body_thing, state_thing, right_thing, base_thing, weak_thing, callee_thing, expression_thing, operand_clock, body_of}
use Rattle.answer_table.specs.Tables.{Declares, IsScopeAt, IsSeenOn, held_clock, setting_in, thing_in}
use Rattle.answer_table.proofs.Shown.{nowhere_in, same_in, thing_more}

at_in : (e : Expr) (clock : Clock) (z s : Scope) → At e clock z ≡ In s → ⊥
at_in e clock z s h = cc

first_of : (b : Bool) (k l : Clock) → b ≡ true → (if b then k else l) ≡ k
first_of b k l h = ap (λ (x : Bool). if x then k else l) h

second_of : (b : Bool) (k l : Clock) → b ≡ false → (if b then k else l) ≡ l
second_of b k l h = ap (λ (x : Bool). if x then k else l) h

-- in the scope that declares it
seen_own : (w : Setting) (x : Name) (s : Scope) → declares s x ≡ true → clock_seen w x s ≡ meaning.clock_in w (text_of s) x
seen_own w x (Top text) h = first_of _ _ _ h
seen_own w x (Called s clock p args text) h = first_of _ _ _ h
seen_own w x (In_branch s on branch) h = first_of _ _ _ h
seen_own w x (In_body s every block) h = first_of _ _ _ h
seen_own w x (In_state s states k) h = first_of _ _ _ h
seen_own w x (Under s resets) h = first_of _ _ _ h

pub seen_declared : (s : Answers) (path : List Step) (x : Name) (number : ℕ) (node : Node) (block : Block) (clock : Clock) →
    Declares s path x true → IsScopeAt s path number node block → clock ≡ clock_in s.accepted.now.clocks number x → IsSeenOn s path x clock
seen_declared s path x number node block clock own at same scope is =
    seen_own (setting_in s) x scope (own scope is) ∙
    ap (λ (text : Text). meaning.clock_in (setting_in s) text x) (ap text_of (same_in scope at.scope (sym is ∙ at.is)) ∙ at.words) ∙ sym same

-- ---- in the body of a reset

body_found : (outer : Scope) (e : Option Expr) (b : Option Block) (s : Scope) → body_thing outer e b ≡ In s → (every : Expr) × (block : Block) × (In_body outer every block ≡ s)
body_found outer None b s h = absurd (nowhere_in s h)
body_found outer (Some e) None s h = absurd (nowhere_in s h)
body_found outer (Some e) (Some b) s h = (e, b, same_in _ _ h)

body_goes : (w : Setting) (thing : Thing) (i : ℕ) (s : Scope) → part w thing (way.Body i) ≡ In s →
    (outer : Scope) × (every : Expr) × (block : Block) × (thing ≡ In outer) × (In_body outer every block ≡ s)
body_goes w (In z) i s h = let (every, block, is) = body_found z (every_at (block_of z) i) (body_at (block_of z) i) s h in (z, every, block, refl, is)
body_goes w (At e clock z) i s h = absurd (nowhere_in s h)
body_goes w Nowhere i s h = absurd (nowhere_in s h)

seen_outside : (w : Setting) (x : Name) (outer : Scope) (every : Expr) (block : Block) → declares (In_body outer every block) x ≡ false →
    clock_seen w x (In_body outer every block) ≡ clock_seen w x outer
seen_outside w x outer every block h = second_of _ _ _ h

seen_in_body : (s : Answers) (path before : List Step) (i : ℕ) (x : Name) (clock : Clock) → (path ≡ before ++ way.Body i ∷ []) × (length before + 1 ≡ length path) →
    Declares s path x false → IsSeenOn s before x clock → IsSeenOn s path x clock
seen_in_body s path before i x clock split own seen scope is =
    let (outer, every, block, from, at) = body_goes (setting_in s) (thing_in s before) i scope (sym (thing_more s.accepted.now s.top path before (way.Body i) split.0) ∙ is) in
    ap (λ (z : Scope). clock_seen (setting_in s) x z) (sym at) ∙
    seen_outside (setting_in s) x outer every block (ap (λ (z : Scope). declares z x) at ∙ own scope is) ∙ seen outer from

-- what the search outside gives
pub seen_through : (s : Answers) (path before : List Step) (step : Step) (i : ℕ) (x : Name) (b : Bool) (r : Result (Vec Held Global) Stop) →
    (path ≡ before ++ step ∷ []) × (length before + 1 ≡ length path) → step ≡ way.Body i → b ≡ false → Declares s path x b →
    IfOk r (λ clock. IsSeenOn s before x (held_clock clock.items)) → IfOk r (λ clock. IsSeenOn s path x (held_clock clock.items))
seen_through s path before step i x b r split body other own seen =
    IfOk-weaker r (λ clock. IsSeenOn s before x (held_clock clock.items)) (λ clock. IsSeenOn s path x (held_clock clock.items))
    (λ clock inner. seen_in_body s path before i x (held_clock clock.items) (subst (λ (y : Step). (path ≡ before ++ y ∷ []) × (length before + 1 ≡ length path)) body split)
    (subst (λ (y : Bool). Declares s path x y) other own) inner) seen

-- ---- in other scopes

abbrev Not_body : Scope → Type 0
Not_body (In_body s every block) = ⊥
Not_body _ = Unit {0}

abbrev pub is_body : Step → Bool
is_body (way.Body i) = true
is_body _ = false

no_body : (z s : Scope) → Not_body z → In z ≡ In s → Not_body s
no_body z s other h = subst Not_body (same_in z s h) other

module _ (s : Scope) where
  branch_goes : (z : Scope) (on : Option Expr) (b : Option Branch) → branch_thing z on b ≡ In s → Not_body s
  branch_goes z None b h = absurd (nowhere_in s h)
  branch_goes z (Some on) None h = absurd (nowhere_in s h)
  branch_goes z (Some on) (Some b) h = no_body (In_branch z on b) s tt h

  state_goes : (z : Scope) (states : Option (List State)) (k : ℕ) → state_thing z states k ≡ In s → Not_body s
  state_goes z None k h = absurd (nowhere_in s h)
  state_goes z (Some states) k h = no_body (In_state z states k) s tt h

  right_goes : (w : Setting) (z : Scope) (x : Option Name) (e : Option Expr) → right_thing w z x e ≡ In s → Not_body s
  right_goes w z None e h = absurd (nowhere_in s h)
  right_goes w z (Some x) None h = absurd (nowhere_in s h)
  right_goes w z (Some x) (Some e) h = absurd (at_in _ _ _ _ h)

  base_goes : (z : Scope) (e : Option Expr) → base_thing z e ≡ In s → Not_body s
  base_goes z None h = absurd (nowhere_in s h)
  base_goes z (Some e) h = absurd (at_in _ _ _ _ h)

  weak_goes : (z : Scope) (states : Option (List State)) (k : ℕ) (e : Option Expr) → weak_thing z states k e ≡ In s → Not_body s
  weak_goes z None k e h = absurd (nowhere_in s h)
  weak_goes z (Some states) k e h = base_goes (In_state z states k) e h

  operand_goes : (z : Scope) (clock : Clock) (e : Option Expr) → expression_thing e clock z ≡ In s → Not_body s
  operand_goes z clock None h = absurd (nowhere_in s h)
  operand_goes z clock (Some e) h = absurd (at_in _ _ _ _ h)

  callee_goes : (z : Scope) (clock : Clock) (call : Option (List Expr × Text)) (place : ℕ) → callee_thing call place clock z ≡ In s → Not_body s
  callee_goes z clock None place h = absurd (nowhere_in s h)
  callee_goes z clock (Some call) place h = no_body (Called z clock place call.0 call.1) s tt h

  from_scope_goes : (w : Setting) (z : Scope) (step : Step) → is_body step ≡ false → part w (In z) step ≡ In s → Not_body s
  from_scope_goes w z (way.Branch i j) other h = branch_goes z (on_at (block_of z) i) (branch_at (block_of z) i j) h
  from_scope_goes w z (way.Body i) other h = cc
  from_scope_goes w z (way.State i k) other h = state_goes z (states_at (block_of z) i) k h
  from_scope_goes w z (way.Right i n) other h = right_goes w z (left_at (block_of z) i n) (right_at (block_of z) i) h
  from_scope_goes w z (way.On i) other h = base_goes z (on_at (block_of z) i) h
  from_scope_goes w z (way.Every i) other h = base_goes z (every_at (block_of z) i) h
  from_scope_goes w z (way.Strong i k n) other h = base_goes z (root_of (block_of z) (way.Strong i k n)) h
  from_scope_goes w z (way.Weak i k n) other h = weak_goes z (states_at (block_of z) i) k (root_of (block_of z) (way.Weak i k n)) h
  from_scope_goes w z (way.Operand n) other h = absurd (nowhere_in s h)
  from_scope_goes w z way.Callee other h = absurd (nowhere_in s h)

  from_expression_goes : (w : Setting) (e : Expr) (clock : Clock) (z : Scope) (step : Step) → part w (At e clock z) step ≡ In s → Not_body s
  from_expression_goes w e clock z (way.Operand n) h = operand_goes z (operand_clock (out-Form e.form) n clock) (operand_of (out-Form e.form) n) h
  from_expression_goes w e clock z way.Callee h = callee_goes z clock (call_of w (out-Form e.form)) e.place.0 h
  from_expression_goes w e clock z _ h = absurd (nowhere_in s h)

  goes : (w : Setting) (thing : Thing) (step : Step) → is_body step ≡ false → part w thing step ≡ In s → Not_body s
  goes w (In z) step other h = from_scope_goes w z step other h
  goes w (At e clock z) step other h = from_expression_goes w e clock z step h
  goes w Nowhere step other h = absurd (nowhere_in s h)

  starts : (number : ℕ) (node : Option Node) → body_of number node ≡ In s → Not_body s
  starts number None h = absurd (nowhere_in s h)
  starts number (Some node) h = no_body (Top (Written number node)) s tt h

not_seen : (w : Setting) (x : Name) (s : Scope) → Not_body s → declares s x ≡ false → clock_seen w x s ≡ []
not_seen w x (Top text) other h = second_of _ _ _ h
not_seen w x (Called s clock p args text) other h = second_of _ _ _ h
not_seen w x (In_branch s on branch) other h = second_of _ _ _ h
not_seen w x (In_body s every block) other h = absurd other
not_seen w x (In_state s states k) other h = second_of _ _ _ h
not_seen w x (Under s resets) other h = refl

-- what is declared outside of all others is on the base clock
pub seen_on_base : (s : Answers) (path before : List Step) (step : Step) (x : Name) → (path ≡ before ++ step ∷ []) × (length before + 1 ≡ length path) → is_body step ≡ false →
    Declares s path x false → IsSeenOn s path x []
seen_on_base s path before step x split other own scope is =
    not_seen (setting_in s) x scope (goes scope (setting_in s) (thing_in s before) step other (sym (thing_more s.accepted.now s.top path before step split.0) ∙ is)) (own scope is)

none_of : (path : List Step) → length path ≡ 0 → path ≡ []
none_of [] h = refl
none_of (x ∷ xs) h = absurd (omega arith)

pub seen_at_top : (s : Answers) (path : List Step) (x : Name) → length path ≡ 0 → Declares s path x false → IsSeenOn s path x []
seen_at_top s path x none own scope is =
    not_seen (setting_in s) x scope (starts scope s.top _ (sym (ap (λ (p : List Step). thing_in s p) (none_of path none)) ∙ is)) (own scope is)
