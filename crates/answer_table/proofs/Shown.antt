-- What a block has at a step is what the step leads to.
use Rattle.std.proofs.Common.{◌≡◌, ℕ, List, [], ◌∷◌, ◌++◌, Option, Some, None, slice_get, length, ◌+◌, IfSome, refl, sym, ap, subst, ◌∙◌}
use Rattle.std.specs.Option.{option_map}
use Rattle.hept_ast.specs.Texts.{Name}
use Rattle.hept_ast.specs.Scopes.{Clock, Text, Written, Scope, In_branch, In_body, In_state, block_of, block_or_none, text_of}
use Rattle.hept_ast.specs.Meaning.{Setting, call_of, clock_seen}
use Rattle.hept_ast.specs.Settings.{written_node}
use Rattle.hept_ast.specs.declared.tree.MergeBranch.{MergeBranch}
use Rattle.hept_ast.specs.declared.tree.Form.{Form, out-Form}
use Rattle.hept_ast.specs.declared.tree.Form.TheOpen.{Form-F}
use Rattle.hept_ast.specs.declared.tree.Expr.{Expr}
use Rattle.hept_ast.specs.declared.tree.Block.{Block}
use Rattle.hept_ast.specs.declared.tree.Branch.{Branch}
use Rattle.hept_ast.specs.declared.tree.State.{State}
use Rattle.hept_ast.specs.declared.tree.Equation.{Equation, out-Equation}
use Rattle.hept_ast.specs.declared.tree.Equation.TheOpen.{Equation-F}
use Rattle.answer_table.specs.declared.paths.Step.{Step}
use Rattle.answer_table.specs.declared.paths.Step.TheVariants as way
use Rattle.answer_table.specs.Parts.{An_equation, and_then, branches_in, body_in, on_in, every_in, states_at, left_at, right_at, on_at, every_at, inner_of, root_of, called_of, operand_of}
use Rattle.answer_table.specs.Things.{Thing, In, At, Nowhere, branch_thing, body_thing, state_thing, right_thing, base_thing, weak_thing, part, callee_thing, expression_thing, operand_clock, along, body_of, thing_at, setting_of, Shows, IsScopeOf, IsExpressionOf}
use Rattle.answer_table.specs.declared.paths.View.{View}
use Rattle.answer_table.specs.declared.paths.View.TheVariants as seen
use Rattle.std.specs.Borrow.{Bor}
use Rattle.hept_ast.specs.Stages.{ClockedProgram}
use Rattle.hept_ast.specs.declared.tree.Node.{Node}

pub not_none : {A : Type 0} (x : A) → None ≡ Some x → ⊥
not_none x e = cc

pub same_some : {A : Type 0} (x y : A) → Some x ≡ Some y → x ≡ y
same_some x y e = cc

pub same_in : (s u : Scope) → In s ≡ In u → s ≡ u
same_in s u e = cc

pub nowhere_in : (s : Scope) → Nowhere ≡ In s → ⊥
nowhere_in s e = cc

branch_found : (s : Scope) (on : Expr) (o : Option Branch) (b : Block) → option_map (λ b. b.block) o ≡ Some b → IsScopeOf (branch_thing s (Some on) o) (text_of s) b
branch_found s on None b h = absurd (not_none b h)
branch_found s on (Some branch) b h = record { scope = In_branch s on branch; is = refl; words = refl; own = same_some _ _ h }

branch_in : (s : Scope) (e : An_equation) (j : ℕ) (b : Block) → option_map (λ b. b.block) (and_then (branches_in e) (λ bs. slice_get bs j)) ≡ Some b →
    IsScopeOf (branch_thing s (on_in e) (and_then (branches_in e) (λ bs. slice_get bs j))) (text_of s) b
branch_in s (Equation-F.Define p left right) j b h = absurd (not_none b h)
branch_in s (Equation-F.Switch p on bs) j b h = branch_found s on (slice_get bs j) b h
branch_in s (Equation-F.Reset p body every) j b h = absurd (not_none b h)
branch_in s (Equation-F.Automaton p states) j b h = absurd (not_none b h)

branch_with : (s : Scope) (o : Option Equation) (j : ℕ) (b : Block) → option_map (λ b. b.block) (and_then (and_then o (λ e. branches_in (out-Equation e))) (λ bs. slice_get bs j)) ≡ Some b →
    IsScopeOf (branch_thing s (and_then o (λ e. on_in (out-Equation e))) (and_then (and_then o (λ e. branches_in (out-Equation e))) (λ bs. slice_get bs j))) (text_of s) b
branch_with s None j b h = absurd (not_none b h)
branch_with s (Some e) j b h = branch_in s (out-Equation e) j b h

body_in_scope : (s : Scope) (e : An_equation) (b : Block) → body_in e ≡ Some b → IsScopeOf (body_thing s (every_in e) (body_in e)) (text_of s) b
body_in_scope s (Equation-F.Define p left right) b h = absurd (not_none b h)
body_in_scope s (Equation-F.Switch p on bs) b h = absurd (not_none b h)
body_in_scope s (Equation-F.Reset p body every) b h = record { scope = In_body s every body; is = refl; words = refl; own = same_some _ _ h }
body_in_scope s (Equation-F.Automaton p states) b h = absurd (not_none b h)

body_with : (s : Scope) (o : Option Equation) (b : Block) → and_then o (λ e. body_in (out-Equation e)) ≡ Some b →
    IsScopeOf (body_thing s (and_then o (λ e. every_in (out-Equation e))) (and_then o (λ e. body_in (out-Equation e)))) (text_of s) b
body_with s None b h = absurd (not_none b h)
body_with s (Some e) b h = body_in_scope s (out-Equation e) b h

state_found : (o : Option State) (b : Block) → option_map (λ q. q.block) o ≡ Some b → (q : State) × (o ≡ Some q) × (q.block ≡ b)
state_found None b h = absurd (not_none b h)
state_found (Some q) b h = (q, refl, same_some _ _ h)

state_with : (s : Scope) (o : Option (List State)) (k : ℕ) (b : Block) → option_map (λ q. q.block) (and_then o (λ states. slice_get states k)) ≡ Some b →
    IsScopeOf (state_thing s o k) (text_of s) b
state_with s None k b h = absurd (not_none b h)
state_with s (Some states) k b h =
    let (q, e, f) = state_found (slice_get states k) b h in
    record { scope = In_state s states k; is = refl; words = refl; own = ap (λ (o : Option State). block_or_none o) e ∙ f }

-- a block that a step leads to is that of the scope
pub inner_is : (w : Setting) (s : Scope) (step : Step) (b : Block) → inner_of (block_of s) step ≡ Some b → IsScopeOf (part w (In s) step) (text_of s) b
inner_is w s (way.Branch i j) b h = branch_with s (slice_get (block_of s).body i) j b h
inner_is w s (way.Body i) b h = body_with s (slice_get (block_of s).body i) b h
inner_is w s (way.State i k) b h = state_with s (states_at (block_of s) i) k b h
inner_is w s _ b h = absurd (not_none b h)

right_with : (w : Setting) (s : Scope) (x : Option Name) (o : Option Expr) (e : Expr) → and_then x (λ y. o) ≡ Some e → IsExpressionOf (right_thing w s x o) (text_of s) e
right_with w s None o e h = absurd (not_none e h)
right_with w s (Some x) None e h = absurd (not_none e h)
right_with w s (Some x) (Some a) e h = record { clock = clock_seen w x s; scope = s; is = ap (λ (y : Expr). At y (clock_seen w x s) s) (same_some _ _ h); words = refl }

base_with : (s : Scope) (o : Option Expr) (e : Expr) → o ≡ Some e → IsExpressionOf (base_thing s o) (text_of s) e
base_with s None e h = absurd (not_none e h)
base_with s (Some a) e h = record { clock = []; scope = s; is = ap (λ (y : Expr). At y [] s) (same_some _ _ h); words = refl }

weak_with : (s : Scope) (o : Option (List State)) (k n : ℕ) (e : Expr) →
    option_map (λ e. e.condition) (and_then (and_then o (λ states. slice_get states k)) (λ q. slice_get q.weak n)) ≡ Some e →
    IsExpressionOf (weak_thing s o k (option_map (λ e. e.condition) (and_then (and_then o (λ states. slice_get states k)) (λ q. slice_get q.weak n)))) (text_of s) e
weak_with s None k n e h = absurd (not_none e h)
weak_with s (Some states) k n e h = base_with (In_state s states k) _ e h

-- an expression that a step leads to from a block
pub root_is : (w : Setting) (s : Scope) (step : Step) (e : Expr) → root_of (block_of s) step ≡ Some e → IsExpressionOf (part w (In s) step) (text_of s) e
root_is w s (way.Right i n) e h = right_with w s (left_at (block_of s) i n) (right_at (block_of s) i) e h
root_is w s (way.On i) e h = base_with s (on_at (block_of s) i) e h
root_is w s (way.Every i) e h = base_with s (every_at (block_of s) i) e h
root_is w s (way.Strong i k n) e h = base_with s (root_of (block_of s) (way.Strong i k n)) e h
root_is w s (way.Weak i k n) e h = weak_with s (states_at (block_of s) i) k n e h
root_is w s _ e h = absurd (not_none e h)

along_more : (w : Setting) (thing : Thing) (xs : List Step) (x : Step) → along w thing (xs ++ x ∷ []) ≡ part w (along w thing xs) x
along_more w thing [] x = refl
along_more w thing (y ∷ ys) x = along_more w (part w thing y) ys x

-- a path leads one step further than the path before its last step
pub thing_more : (c : ClockedProgram) (top : ℕ) (path before : List Step) (x : Step) → path ≡ before ++ x ∷ [] → thing_at c top path ≡ part (setting_of c) (thing_at c top before) x
thing_more c top path before x e = ap (λ (p : List Step). thing_at c top p) e ∙ along_more (setting_of c) (body_of top (slice_get c.program.nodes top)) before x

pub shows_scope : (thing : Thing) (number : ℕ) (node : Bor Node) (block : Bor Block) → IsScopeOf thing (Written number node.now) block.now → Shows thing (seen.Scope number node block)
shows_scope thing number node block h = subst (λ (x : Thing). Shows x (seen.Scope number node block)) (sym h.is) (h.words, h.own)

pub shows_expression : (thing : Thing) (number : ℕ) (node : Bor Node) (expr : Bor Expr) → IsExpressionOf thing (Written number node.now) expr.now → Shows thing (seen.Expression number node expr)
shows_expression thing number node expr h = subst (λ (x : Thing). Shows x (seen.Expression number node expr)) (sym h.is) (h.words, refl)

-- by the text and the block of the scope
pub inner_shows : (w : Setting) (s : Scope) (step : Step) (number : ℕ) (node : Bor Node) (old block : Bor Block) →
    text_of s ≡ Written number node.now → block_of s ≡ old.now → inner_of old.now step ≡ Some block.now → Shows (part w (In s) step) (seen.Scope number node block)
inner_shows w s step number node old block text is h =
    let found : IsScopeOf (part w (In s) step) (text_of s) block.now = inner_is w s step block.now (ap (λ (b : Block). inner_of b step) is ∙ h) in
    shows_scope (part w (In s) step) number node block (record { scope = found.scope; is = found.is; words = found.words ∙ text; own = found.own })

pub root_shows : (w : Setting) (s : Scope) (step : Step) (number : ℕ) (node : Bor Node) (old : Bor Block) (expr : Bor Expr) →
    text_of s ≡ Written number node.now → block_of s ≡ old.now → root_of old.now step ≡ Some expr.now → Shows (part w (In s) step) (seen.Expression number node expr)
root_shows w s step number node old expr text is h =
    let found : IsExpressionOf (part w (In s) step) (text_of s) expr.now = root_is w s step expr.now (ap (λ (b : Block). root_of b step) is ∙ h) in
    shows_expression (part w (In s) step) number node expr (record { clock = found.clock; scope = found.scope; is = found.is; words = found.words ∙ text })

mapped_some : (o : Option Text) (text : Text) (args : List Expr) → Some text ≡ o → option_map {U = List Expr × Text} (λ (x : Text). (args, x)) o ≡ Some (args, text)
mapped_some o text args h = sym (ap (λ (x : Option Text). option_map {U = List Expr × Text} (λ (y : Text). (args, y)) x) h)

node_same : (c : ClockedProgram) (f g : Name) (text : Text) → Some g ≡ Some f → Some text ≡ written_node c.program.nodes 0 f → Some text ≡ (setting_of c).node g
node_same c f g text same h = h ∙ sym (ap (λ (x : Name). written_node c.program.nodes 0 x) (same_some g f same))

call_found : (c : ClockedProgram) (form : Form-F Form Expr MergeBranch) (f : Name) (text : Text) → called_of form ≡ Some f → Some text ≡ written_node c.program.nodes 0 f →
    (args : List Expr) × (call_of (setting_of c) form ≡ Some (args, text))
call_found c (Form-F.Call g args) f text same h = (args, mapped_some _ text args (node_same c f g text same h))
call_found c (Form-F.AsyncCall q g args) f text same h = (args, mapped_some _ text args (node_same c f g text same h))
call_found c _ f text same h = absurd (not_none f same)

-- a called node's body
pub callee_shows : (c : ClockedProgram) (e : Expr) (f : Name) (number : ℕ) (node : Bor Node) (block : Bor Block) (clock : Clock) (s : Scope) →
    called_of (out-Form e.form) ≡ Some f → Some (Written number node.now) ≡ written_node c.program.nodes 0 f → node.now.block ≡ block.now →
    Shows (part (setting_of c) (At e clock s) way.Callee) (seen.Scope number node block)
callee_shows c e f number node block clock s same h is =
    let (args, found) = call_found c (out-Form e.form) f (Written number node.now) same h in
    subst (λ (o : Option (List Expr × Text)). Shows (callee_thing o e.place.0 clock s) (seen.Scope number node block)) (sym found) (refl, is)

pub operand_shows : (c : ClockedProgram) (e : Expr) (n number : ℕ) (node : Bor Node) (a : Bor Expr) (clock : Clock) (s : Scope) →
    operand_of (out-Form e.form) n ≡ Some a.now → text_of s ≡ Written number node.now → Shows (part (setting_of c) (At e clock s) (way.Operand n)) (seen.Expression number node a)
operand_shows c e n number node a clock s found text =
    subst (λ (o : Option Expr). Shows (expression_thing o (operand_clock (out-Form e.form) n clock) s) (seen.Expression number node a)) (sym found) (text, refl)

-- what a path leads to, by what the path before its last step leads to
pub view_goes : (c : ClockedProgram) (top : ℕ) (path before : List Step) (x : Step) (from : View) (result : Option View) → (path ≡ before ++ x ∷ []) × (length before + 1 ≡ length path) →
    Shows (thing_at c top before) from → ((thing : Thing) → Shows thing from → IfSome result (Shows (part (setting_of c) thing x))) → IfSome result (Shows (thing_at c top path))
view_goes c top path before x from result split shows goes =
    subst (λ (thing : Thing). IfSome result (Shows thing)) (sym (thing_more c top path before x split.0)) (goes (thing_at c top before) shows)
