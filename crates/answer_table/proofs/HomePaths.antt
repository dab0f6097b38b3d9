-- Scopes at the ends of paths: what they declare, and the scopes around them.
use Rattle.std.proofs.Common.{◌≡◌, ◌⊎◌, inl, inr, ℕ, ◌+◌, Bool, true, false, ◌||◌, if◌then◌else◌, List, [], ◌∷◌, ◌++◌, length, Option, Some, None, slice_get, refl, sym, ap, subst, ◌∙◌}
use Rattle.std.specs.List.{list_any}
use Rattle.std.specs.Borrow.{Bor}
use Rattle.hept_ast.specs.Texts.{Name, same, is_in, names}
use Rattle.hept_ast.specs.Scopes.{Clock, Text, Written, Scope, Top, Called, In_branch, In_body, In_state, block_of, text_of, declared_in, declares, home, node_decls}
use Rattle.hept_ast.specs.Meaning.{Setting, call_of}
use Rattle.hept_ast.specs.declared.tree.Decl.{Decl}
use Rattle.hept_ast.specs.declared.tree.Node.{Node}
use Rattle.hept_ast.specs.declared.tree.Block.{Block}
use Rattle.hept_ast.specs.declared.tree.Branch.{Branch}
use Rattle.hept_ast.specs.declared.tree.State.{State}
use Rattle.hept_ast.specs.declared.tree.Expr.{Expr}
use Rattle.hept_ast.specs.declared.tree.Form.{out-Form}
use Rattle.answer_table.specs.declared.paths.Step.{Step}
use Rattle.answer_table.specs.declared.paths.Step.TheVariants as way
use Rattle.answer_table.specs.declared.paths.View.TheVariants as seen
use Rattle.answer_table.specs.declared.answers.Answers.{Answers}
use Rattle.answer_table.specs.HomePaths.{ends_inner, ends_inner_or, is_inner_step, IsOwnHome}
use Rattle.answer_table.specs.Parts.{on_at, branch_at, every_at, body_at, states_at, left_at, right_at, root_of, operand_of}
use Rattle.answer_table.specs.Things.{Thing, In, At, Nowhere, IsScopeOf, Shows, along, base_thing, body_of, body_thing, branch_thing, callee_thing, expression_thing, operand_clock, part, right_thing, state_thing, weak_thing}
use Rattle.answer_table.specs.Tables.{Declares, IsHomePath, IsScopeAt, setting_in, thing_in}
use Rattle.answer_table.proofs.Shown.{nowhere_in, same_in, thing_more}

-- ---- declarations

any_named : (x : Name) (ds : List Decl) → is_in x (names ds) ≡ list_any (λ (d : Decl). same x d.name) ds
any_named x [] = refl
any_named x (d ∷ ds) = ap (λ (b : Bool). same x d.name || b) (any_named x ds)

pub is_declared : (x : Name) (ds : List Decl) (b : Bool) → b ≡ list_any (λ (d : Decl). same x d.name) ds → b ≡ is_in x (names ds)
is_declared x ds b h = h ∙ sym (any_named x ds)

-- ---- what shows a scope is one

scope_shown : (thing : Thing) (number : ℕ) (node : Bor Node) (block : Bor Block) → Shows thing (seen.Scope number node block) → IsScopeOf thing (Written number node.now) block.now
scope_shown (In s) number node block h = record { scope = s; is = refl; words = h.0; own = h.1 }
scope_shown (At e clock s) number node block h = absurd h
scope_shown Nowhere number node block h = absurd h

pub shown_scope : (s : Answers) (path : List Step) (number : ℕ) (node : Bor Node) (block : Bor Block) → Shows (thing_in s path) (seen.Scope number node block) → IsScopeAt s path number node.now block.now
shown_scope s path number node block h = scope_shown (thing_in s path) number node block h

-- ---- how a path ends

ends_more : (b : Bool) (xs : List Step) (x : Step) → ends_inner_or b (xs ++ x ∷ []) ≡ is_inner_step x
ends_more b [] x = refl
ends_more b (y ∷ ys) x = ends_more (is_inner_step y) ys x

pub ends : (path before : List Step) (x : Step) → path ≡ before ++ x ∷ [] → ends_inner path ≡ is_inner_step x
ends path before x e = ap ends_inner e ∙ ends_more false before x

pub inner_by_last : (path before : List Step) (x : Step) (b : Bool) → (path ≡ before ++ x ∷ []) × (length before + 1 ≡ length path) → b ≡ is_inner_step x → b ≡ ends_inner path
inner_by_last path before x b split h = h ∙ sym (ends path before x split.0)

-- the scopes that paths lead to: a body of a node, or a block inside one
pub data Standing : Bool → Scope → Type 0 where
  a_top : {text : Text} → Standing false (Top text)
  a_call : {s : Scope} {clock : Clock} {p : ℕ} {args : List Expr} {text : Text} → Standing false (Called s clock p args text)
  a_branch : {s : Scope} {on : Expr} {b : Branch} → Standing true (In_branch s on b)
  a_body : {s : Scope} {every : Expr} {block : Block} → Standing true (In_body s every block)
  a_state : {s : Scope} {states : List State} {k : ℕ} → Standing true (In_state s states k)

pub at_in : (e : Expr) (clock : Clock) (z s : Scope) → At e clock z ≡ In s → ⊥
at_in e clock z s h = cc

-- a scope is a block inside another one
data Inside (z : Scope) : Scope → Type 0 where
  a_branch_of : {on : Expr} {b : Branch} → Inside z (In_branch z on b)
  a_body_of : {every : Expr} {block : Block} → Inside z (In_body z every block)
  a_state_of : {states : List State} {k : ℕ} → Inside z (In_state z states k)

inside_as : (z s u : Scope) → In s ≡ In u → Inside z s → Inside z u
inside_as z s u e h = subst (λ (v : Scope). Inside z v) (same_in s u e) h

branch_inside : (z : Scope) (o : Option Expr) (p : Option Branch) (s : Scope) → branch_thing z o p ≡ In s → Inside z s
branch_inside z None p s h = absurd (nowhere_in s h)
branch_inside z (Some on) None s h = absurd (nowhere_in s h)
branch_inside z (Some on) (Some b) s h = inside_as z _ s h a_branch_of

body_inside : (z : Scope) (o : Option Expr) (p : Option Block) (s : Scope) → body_thing z o p ≡ In s → Inside z s
body_inside z None p s h = absurd (nowhere_in s h)
body_inside z (Some every) None s h = absurd (nowhere_in s h)
body_inside z (Some every) (Some block) s h = inside_as z _ s h a_body_of

state_inside : (z : Scope) (o : Option (List State)) (k : ℕ) (s : Scope) → state_thing z o k ≡ In s → Inside z s
state_inside z None k s h = absurd (nowhere_in s h)
state_inside z (Some states) k s h = inside_as z _ s h a_state_of

false_true : false ≡ true → ⊥
false_true e = cc

-- a step into a block goes from the scope around it
step_inside : (w : Setting) (z : Scope) (x : Step) (s : Scope) → is_inner_step x ≡ true → part w (In z) x ≡ In s → Inside z s
step_inside w z (way.Branch i j) s inner h = branch_inside z (on_at (block_of z) i) (branch_at (block_of z) i j) s h
step_inside w z (way.Body i) s inner h = body_inside z (every_at (block_of z) i) (body_at (block_of z) i) s h
step_inside w z (way.State i k) s inner h = state_inside z (states_at (block_of z) i) k s h
step_inside w z _ s inner h = absurd (false_true inner)

-- no other step from a scope leads to a scope
base_not : (z : Scope) (o : Option Expr) (s : Scope) → base_thing z o ≡ In s → ⊥
base_not z None s h = nowhere_in s h
base_not z (Some e) s h = at_in _ _ _ s h

right_not : (w : Setting) (z : Scope) (x : Option Name) (o : Option Expr) (s : Scope) → right_thing w z x o ≡ In s → ⊥
right_not w z None o s h = nowhere_in s h
right_not w z (Some x) None s h = nowhere_in s h
right_not w z (Some x) (Some e) s h = at_in _ _ _ s h

weak_not : (z : Scope) (o : Option (List State)) (k : ℕ) (e : Option Expr) (s : Scope) → weak_thing z o k e ≡ In s → ⊥
weak_not z None k e s h = nowhere_in s h
weak_not z (Some states) k e s h = base_not (In_state z states k) e s h

true_false : true ≡ false → ⊥
true_false e = cc

pub step_not : (w : Setting) (z : Scope) (x : Step) (s : Scope) → is_inner_step x ≡ false → part w (In z) x ≡ In s → ⊥
step_not w z (way.Branch i j) s inner h = true_false inner
step_not w z (way.Body i) s inner h = true_false inner
step_not w z (way.State i k) s inner h = true_false inner
step_not w z (way.Right i n) s inner h = right_not w z (left_at (block_of z) i n) (right_at (block_of z) i) s h
step_not w z (way.On i) s inner h = base_not z (on_at (block_of z) i) s h
step_not w z (way.Every i) s inner h = base_not z (every_at (block_of z) i) s h
step_not w z (way.Strong i k n) s inner h = base_not z (root_of (block_of z) (way.Strong i k n)) s h
step_not w z (way.Weak i k n) s inner h = weak_not z (states_at (block_of z) i) k (root_of (block_of z) (way.Weak i k n)) s h
step_not w z (way.Operand n) s inner h = nowhere_in s h
step_not w z way.Callee s inner h = nowhere_in s h

-- ---- from an expression

-- the body of the node that an expression calls
pub record IsBodyOfCall (w : Setting) (e : Expr) (clock : Clock) (z s : Scope) : Type 0 where
  pub args : List Expr
  pub text : Text
  pub found : call_of w (out-Form e.form) ≡ Some (args, text)
  pub is : s ≡ Called z clock e.place.0 args text

call_found : (w : Setting) (e : Expr) (clock : Clock) (z s : Scope) (o : Option (List Expr × Text)) → call_of w (out-Form e.form) ≡ o → callee_thing o e.place.0 clock z ≡ In s → IsBodyOfCall w e clock z s
call_found w e clock z s None f h = absurd (nowhere_in s h)
call_found w e clock z s (Some c) f h = record { args = c.0; text = c.1; found = f; is = sym (same_in _ _ h) }

operand_not : (o : Option Expr) (clock : Clock) (z s : Scope) → expression_thing o clock z ≡ In s → ⊥
operand_not None clock z s h = nowhere_in s h
operand_not (Some e) clock z s h = at_in e clock z s h

pub step_call : (w : Setting) (e : Expr) (clock : Clock) (z : Scope) (x : Step) (s : Scope) → part w (At e clock z) x ≡ In s → (is_inner_step x ≡ false) × IsBodyOfCall w e clock z s
step_call w e clock z (way.Operand n) s h = absurd (operand_not (operand_of (out-Form e.form) n) (operand_clock (out-Form e.form) n clock) z s h)
step_call w e clock z way.Callee s h = (refl, call_found w e clock z s (call_of w (out-Form e.form)) refl h)
step_call w e clock z _ s h = absurd (nowhere_in s h)

-- ---- where paths lead

inside_stands : (z s : Scope) → Inside z s → Standing true s
inside_stands z _ a_branch_of = a_branch
inside_stands z _ a_body_of = a_body
inside_stands z _ a_state_of = a_state

by_bool : (b : Bool) → (b ≡ true) ⊎ (b ≡ false)
by_bool true = inl refl
by_bool false = inr refl

from_inner : (w : Setting) (z : Scope) (x : Step) (s : Scope) → part w (In z) x ≡ In s → (is_inner_step x ≡ true) ⊎ (is_inner_step x ≡ false) → Standing (is_inner_step x) s
from_inner w z x s h (inl inner) = subst (λ (b : Bool). Standing b s) (sym inner) (inside_stands z s (step_inside w z x s inner h))
from_inner w z x s h (inr other) = absurd (step_not w z x s other h)

from_call : (w : Setting) (e : Expr) (clock : Clock) (z : Scope) (x : Step) (s : Scope) → (is_inner_step x ≡ false) × IsBodyOfCall w e clock z s → Standing (is_inner_step x) s
from_call w e clock z x s h = subst (λ (b : Bool). Standing b s) (sym h.0) (subst (λ (u : Scope). Standing false u) (sym h.1.is) a_call)

step_stands : (w : Setting) (thing : Thing) (x : Step) (s : Scope) → part w thing x ≡ In s → Standing (is_inner_step x) s
step_stands w (In z) x s h = from_inner w z x s h (by_bool (is_inner_step x))
step_stands w (At e clock z) x s h = from_call w e clock z x s (step_call w e clock z x s h)
step_stands w Nowhere x s h = absurd (nowhere_in s h)

along_stands : (w : Setting) (b : Bool) (thing : Thing) (xs : List Step) (s : Scope) → ((u : Scope) → thing ≡ In u → Standing b u) → along w thing xs ≡ In s → Standing (ends_inner_or b xs) s
along_stands w b thing [] s start h = start s h
along_stands w b thing (x ∷ xs) s start h = along_stands w (is_inner_step x) (part w thing x) xs s (step_stands w thing x) h

body_stands : (top : ℕ) (o : Option Node) (u : Scope) → body_of top o ≡ In u → Standing false u
body_stands top None u h = absurd (nowhere_in u h)
body_stands top (Some node) u h = subst (λ (z : Scope). Standing false z) (same_in _ _ h) a_top

pub stands : (s : Answers) (path : List Step) (sc : Scope) → thing_in s path ≡ In sc → Standing (ends_inner path) sc
stands s path sc h = along_stands (setting_in s) false (body_of s.top (slice_get s.accepted.now.program.nodes s.top)) path sc (body_stands s.top (slice_get s.accepted.now.program.nodes s.top)) h

-- ---- what they declare

inner_declared : (s : Scope) → Standing true s → declared_in s ≡ (block_of s).locals
inner_declared _ a_branch = refl
inner_declared _ a_body = refl
inner_declared _ a_state = refl

node_declared : (s : Scope) → Standing false s → declared_in s ≡ node_decls (text_of s)
node_declared _ a_top = refl
node_declared _ a_call = refl

pub node_home : (x : Name) (s : Scope) → Standing false s → home x s ≡ s
node_home x _ a_top = refl
node_home x _ a_call = refl

stands_so : (s : Answers) (path : List Step) (sc : Scope) (b : Bool) → ends_inner path ≡ b → thing_in s path ≡ In sc → Standing b sc
stands_so s path sc b e h = subst (λ (c : Bool). Standing c sc) e (stands s path sc h)

-- what a scope inside a node declares
pub declared_inside : (s : Answers) (path : List Step) (number : ℕ) (node : Node) (block : Block) → IsScopeAt s path number node block → ends_inner path ≡ true →
    (sc : Scope) → thing_in s path ≡ In sc → declared_in sc ≡ block.locals
declared_inside s path number node block at inner sc is =
    inner_declared sc (stands_so s path sc true inner is) ∙ ap (λ (z : Scope). (block_of z).locals) (same_in _ _ (sym is ∙ at.is)) ∙ ap (λ (b : Block). b.locals) at.own

-- what a node's body declares
pub declared_of_node : (s : Answers) (path : List Step) (number : ℕ) (node : Node) (block : Block) → IsScopeAt s path number node block → ends_inner path ≡ false →
    (sc : Scope) → thing_in s path ≡ In sc → declared_in sc ≡ node.inputs ++ node.outputs ++ node.block.locals
declared_of_node s path number node block at other sc is =
    node_declared sc (stands_so s path sc false other is) ∙ ap (λ (z : Scope). node_decls (text_of z)) (same_in _ _ (sym is ∙ at.is)) ∙ ap node_decls at.words

pub declares_inside : (s : Answers) (path : List Step) (number : ℕ) (node : Node) (block : Block) (x : Name) (inner b : Bool) → IsScopeAt s path number node block → inner ≡ ends_inner path → inner ≡ true →
    b ≡ is_in x (names block.locals) → Declares s path x b
declares_inside s path number node block x inner b at ends is_inner found sc is =
    ap (λ (ds : List Decl). is_in x (names ds)) (declared_inside s path number node block at (sym ends ∙ is_inner) sc is) ∙ sym found

pub declares_in_node : (s : Answers) (path : List Step) (number : ℕ) (node : Node) (block : Block) (x : Name) (inner b : Bool) → IsScopeAt s path number node block → inner ≡ ends_inner path → inner ≡ false →
    b ≡ is_in x (names (node.inputs ++ node.outputs ++ node.block.locals)) → Declares s path x b
declares_in_node s path number node block x inner b at ends other found sc is =
    ap (λ (ds : List Decl). is_in x (names ds)) (declared_of_node s path number node block at (sym ends ∙ other) sc is) ∙ sym found

-- ---- homes

if_so : {A : Type 0} (b : Bool) (x y : A) → b ≡ true → (if b then x else y) ≡ x
if_so b x y e = ap (λ (c : Bool). if c then x else y) e

if_not : {A : Type 0} (b : Bool) (x y : A) → b ≡ false → (if b then x else y) ≡ y
if_not b x y e = ap (λ (c : Bool). if c then x else y) e

inner_home : (x : Name) (s : Scope) → Standing true s → declares s x ≡ true → home x s ≡ s
inner_home x _ (a_branch {s} {on} {b}) e = if_so _ (In_branch s on b) (home x s) e
inner_home x _ (a_body {s} {every} {block}) e = if_so _ (In_body s every block) (home x s) e
inner_home x _ (a_state {s} {states} {k}) e = if_so _ (In_state s states k) (home x s) e

outer_home : (x : Name) (z s : Scope) → Inside z s → declares s x ≡ false → home x s ≡ home x z
outer_home x z _ (a_branch_of {on} {b}) e = if_not _ (In_branch z on b) (home x z) e
outer_home x z _ (a_body_of {every} {block}) e = if_not _ (In_body z every block) (home x z) e
outer_home x z _ (a_state_of {states} {k}) e = if_not _ (In_state z states k) (home x z) e

pub own_node : (s : Answers) (path : List Step) (x : Name) (inner : Bool) → inner ≡ ends_inner path → inner ≡ false → IsOwnHome s path x true
own_node s path x inner ends other sc is = node_home x sc (stands_so s path sc false (sym ends ∙ other) is)

own_if : (s : Answers) (path : List Step) (x : Name) (b : Bool) → ends_inner path ≡ true → Declares s path x b → IsOwnHome s path x b
own_if s path x true inner h = λ sc is. inner_home x sc (stands_so s path sc true inner is) (h sc is)
own_if s path x false inner h = (inner, h)

pub own_inside : (s : Answers) (path : List Step) (x : Name) (inner b : Bool) → inner ≡ ends_inner path → inner ≡ true → Declares s path x b → IsOwnHome s path x b
own_inside s path x inner b ends is_inner h = own_if s path x b (sym ends ∙ is_inner) h

pub home_here : (s : Answers) (path copy : List Step) (x : Name) (own : Bool) → IsOwnHome s path x own → own ≡ true → copy ≡ path → IsHomePath s path x copy
home_here s path copy x own h is_own same sc is =
    ap (λ (p : List Step). thing_in s p) same ∙ is ∙ ap In (sym (subst (λ (b : Bool). IsOwnHome s path x b) is_own h sc is))

outside : (s : Answers) (w : Setting) (thing : Thing) (x : Step) (name : Name) (sc : Scope) → is_inner_step x ≡ true → part w thing x ≡ In sc → declares sc name ≡ false →
    (outer : Scope) × (thing ≡ In outer) × (home name sc ≡ home name outer)
outside s w (In z) x name sc inner h e = (z, refl, outer_home name z sc (step_inside w z x sc inner h) e)
outside s w (At a clock z) x name sc inner h e = absurd (false_true (sym (step_call w a clock z x sc h).0 ∙ inner))
outside s w Nowhere x name sc inner h e = absurd (nowhere_in sc h)

pub home_outside : (s : Answers) (path before home_path : List Step) (step : Step) (x : Name) (own : Bool) → (path ≡ before ++ step ∷ []) × (length before + 1 ≡ length path) →
    IsOwnHome s path x own → own ≡ false → IsHomePath s before x home_path → IsHomePath s path x home_path
home_outside s path before home_path step x own split h not_own found sc is =
    let inner : (ends_inner path ≡ true) × Declares s path x false = subst (λ (b : Bool). IsOwnHome s path x b) not_own h in
    let (outer, at, same) = outside s (setting_in s) (thing_in s before) step x sc (sym (ends path before step split.0) ∙ inner.0)
    (sym (thing_more s.accepted.now s.top path before step split.0) ∙ is) (inner.1 sc is) in
    found outer at ∙ ap In (sym same)
