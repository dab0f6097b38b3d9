-- What is known of all bodies of a node's expanded text.
use Rattle.std.proofs.Common.{◌≡◌, ℕ, zero, suc, List, [], ◌∷◌, ◌++◌, All, length, Option, Some, refl, sym, subst, ap, ◌∙◌, arith, append_assoc, length-append}
use Rattle.std.specs.Prelude.{Contains, slice_get, slice_index}
use Rattle.std.specs.List.{flat_map}
use Rattle.std.proofs.lemmas.List.Elements.{All-append, All-cons, All-head, All-nil, All-tail, Contains-append_right}
use Rattle.hept_ast.specs.Texts.{Name, names}
use Rattle.hept_ast.specs.Scopes.{Scope, Text, Under}
use Rattle.hept_ast.specs.declared.tree.Core.{Core}
use Rattle.hept_ast.specs.declared.tree.CoreNode.{CoreNode}
use Rattle.hept_ast.specs.declared.tree.CoreEquation.{CoreEquation}
use Rattle.hept_ast.specs.declared.tree.Expr.{Expr}
use Rattle.hept_ast.specs.declared.tree.MergeBranch.{MergeBranch}
use Rattle.hept_ast.specs.declared.tree.TypeDec.{TypeDec}
use Rattle.hept_ast.specs.declared.tree.Form.{Form, out-Form}
use Rattle.hept_ast.specs.declared.tree.Form.TheOpen.{Form-F}
use Rattle.step_plans.specs.Things.{Thing, Memory, Here}
use Rattle.step_plans.specs.Operations.{Register, In_values}
use Rattle.step_plans.specs.Memories.{nodes_of}
use Rattle.step_plans.specs.Plans.{Calling, Calls, Ground, Entry, Has, IsCalled, IsQuiet, quiet_call, quiet_equation}
use Rattle.step_plans.proofs.FormsOut.{const_form, var_form, unary_form, binary_form, if_form, fby_form}
use Rattle.plan_expressions.specs.Computable.{Computable, constant, variable, unary, binary, divided, conditional, sampled, merged}
use Rattle.plan_expressions.proofs.FormsMore.{when_form, merge_form}
use Rattle.plan_equations.specs.Grounds.{Body, HasBody, bodies, call_scope, called_bodies, calling_of, calls_in, covered_in, form_bodies, ground_over, right_scope, tested_in, text_bodies}
use Rattle.plan_equations.specs.Rights.{HasCells, IsRight, expression, from_constant, from_variable, previous, arrow}
use Rattle.plan_equations.proofs.FormsMore.{pre_form, arrow_form}
use Rattle.plan_bodies.specs.Buildable.{AreBuildable, IsBuildable, IsCallOf, no_equation, one_more, one_call}
use Rattle.plan_bodies.specs.Expansions.{ArePlaced, IsPlaced, IsWhole}
use Rattle.plan_bodies.specs.declared.bodies.PlacedBody.{PlacedBody}
use Rattle.plan_nodes.specs.Built.{IsQuietBody}
use Rattle.plan_nodes.proofs.Equations.{IsServed, served_there}
use Rattle.plan_nodes.proofs.Lists.{all_joined, each_joined, first_contained}
use Rattle.plan_nodes.proofs.StoredForms.{call_form}

-- ---- the bodies that the equations of a body call

module _ (go : CoreNode → Scope → List Body) (nodes : Name → Option Text) (b : Scope) (d : CoreEquation) where
  as_form : (e : Expr) (f : Form-F Form Expr MergeBranch) → out-Form e.form ≡ f → form_bodies go nodes b d (out-Form e.form) ≡ form_bodies go nodes b d f
  as_form e f is = ap (λ (v : Form-F Form Expr MergeBranch). form_bodies go nodes b d v) is

  none_computed : (types : List TypeDec) (ks : List Name) (n : ℕ) (e : Expr) → Computable types ks n e → form_bodies go nodes b d (out-Form e.form) ≡ []
  none_computed types ks n e (constant k is) = as_form e (Form-F.Const k) (const_form e k is)
  none_computed types ks n e (variable x is among) = as_form e (Form-F.Var x) (var_form e x is)
  none_computed types ks n e (unary op a is h) = as_form e (Form-F.Unary op a) (unary_form e op a is)
  none_computed types ks n e (binary op a f is other h i) = as_form e (Form-F.Binary op a f) (binary_form e op a f is)
  none_computed types ks n e (divided op a f is divides h i) = as_form e (Form-F.Binary op a f) (binary_form e op a f is)
  none_computed types ks n e (conditional k a f is h i j) = as_form e (Form-F.If k a f) (if_form e k a f is)
  none_computed types ks n e (sampled a tag x is several h) = as_form e (Form-F.When a tag x) (when_form e a tag x is)
  none_computed types ks n e (merged x branches is some among h) = as_form e (Form-F.Merge x branches) (merge_form e x branches is)

  none_right : (types : List TypeDec) (ks : List Name) (n : ℕ) (e : Expr) → IsRight types ks n e → form_bodies go nodes b d (out-Form e.form) ≡ []
  none_right types ks n e (expression h) = none_computed types ks n e h
  none_right types ks n e (from_constant a f k is const) = as_form e (Form-F.Fby a f) (fby_form e a f is)
  none_right types ks n e (from_variable a f x is named among) = as_form e (Form-F.Fby a f) (fby_form e a f is)
  none_right types ks n e (previous a is) = as_form e (Form-F.Pre a) (pre_form e a is)
  none_right types ks n e (arrow a f is h i) = as_form e (Form-F.Arrow a f) (arrow_form e a f is)

called_by : (core : Core) (go : CoreNode → Scope → List Body) (b : Scope) (e : CoreEquation) (args : List Expr) (callee : CoreNode) → IsCallOf core e args callee → called_bodies go (nodes_of core) b e ≡ go callee (call_scope b e args callee)
called_by core go b e args callee is =
    as_form go (nodes_of core) b e e.right (Form-F.Call is.name args) (call_form e.right is.name args is.form) ∙ ap (λ (text : Option Text). text_bodies go b e args text) is.named

all_called : (core : Core) (go : CoreNode → Scope → List Body) (node : CoreNode) (b : Scope) (P : Body → Type 0) (known : List Name) (es : List CoreEquation) → AreBuildable core node known es →
    ((e : CoreEquation) (args : List Expr) (callee : CoreNode) → Contains es e → IsCallOf core e args callee → e.resets ≡ [] → All P (go callee (call_scope b e args callee))) → All P (flat_map (called_bodies go (nodes_of core) b) es)
all_called core go node b P known [] no_equation each = All-nil P
all_called core go node b P known (e ∷ es) (one_more x found clock right rest) each =
    All-append P (called_bodies go (nodes_of core) b e) (flat_map (called_bodies go (nodes_of core) b) es)
    (subst (λ (bs : List Body). All P bs) (sym (none_right go (nodes_of core) b e core.types known (suc (length e.clock.steps)) e.right right)) (All-nil P))
    (all_called core go node b P (known ++ x ∷ []) es rest (λ d args callee at is none. each d args callee (Contains-append_right (e ∷ []) es d at) is none))
all_called core go node b P known (e ∷ es) (one_call args callee is clock callable rest) each =
    All-append P (called_bodies go (nodes_of core) b e) (flat_map (called_bodies go (nodes_of core) b) es)
    (subst (λ (bs : List Body). All P bs) (sym (called_by core go b e args callee is)) (each e args callee (first_contained e es) is callable.found.resets))
    (all_called core go node b P (known ++ e.left) es rest (λ d xs other at is_call none. each d xs other (Contains-append_right (e ∷ []) es d at) is_call none))

-- ---- no reset stands around a body

pub quiet_bodies : (core : Core) (depth : ℕ) (node : CoreNode) (b : Scope) → IsBuildable core depth node → IsQuiet b → All IsQuietBody (bodies core depth node b)
unfolding bodies IsBuildable
quiet_bodies core zero node b h quiet = All-nil IsQuietBody
quiet_bodies core (suc depth) node b h quiet =
    All-cons IsQuietBody (record { node = node; scope = b }) (flat_map (called_bodies (bodies core depth) (nodes_of core) b) node.equations) quiet
    (all_called core (bodies core depth) node b IsQuietBody (names node.inputs) node.equations h.0.equations
    (λ e args callee at is none. quiet_bodies core depth callee (call_scope b e args callee) (h.1 e args callee at is) (quiet_call (subst (λ (xs : List Name). IsQuiet (Under b xs)) (sym none) (quiet_equation quiet)))))

-- ---- the ground of some bodies has them and their cells

pub has_bodies : (core : Core) (all : List Body) → All (HasBody (ground_over core all)) all
has_bodies core all = λ k d lt. record {
  tested = each_joined tested_in all k d lt;
  covered = each_joined covered_in all k d lt;
  calls = each_joined calls_in all k d lt;
}

at_seam : (before : List Memory) (m : Memory) (ms : List Memory) → slice_get (before ++ m ∷ ms) (length before) ≡ Some m
at_seam [] m ms = refl
at_seam (x ∷ before) m ms = at_seam before m ms

has_from : (g : Ground) (before ms : List Memory) → g.memories ≡ before ++ ms → HasCells g (length before) ms
has_from g before [] same = tt
has_from g before (m ∷ ms) same =
    let next : length (before ++ m ∷ []) ≡ suc (length before) = omega (arith, length-append before (m ∷ [])) in (
      ap (λ (xs : List Memory). slice_get xs (length before)) same ∙ at_seam before m ms,
      subst (λ (n : ℕ). HasCells g n ms) next (has_from g (before ++ m ∷ []) ms (same ∙ sym (append_assoc before (m ∷ []) ms))),
    )

pub has_cells : (g : Ground) → HasCells g 0 g.memories
has_cells g = has_from g [] g.memories refl

-- ---- calls are present

called_form : (entries : List Entry) (b : Scope) (e : CoreEquation) (r : Register) → Has entries (Here e.clock.steps (right_scope b e)) r → (v : Form-F Form Expr MergeBranch) → All (IsCalled entries) (calling_of b e v)
called_form entries b e r has (Form-F.Call f args) = All-cons (IsCalled entries) (Calls e.clock.steps (right_scope b e) e.right.place.0) [] (r, has) (All-nil (IsCalled entries))
called_form entries b e r has (Form-F.Const k) = All-nil (IsCalled entries)
called_form entries b e r has (Form-F.Var x) = All-nil (IsCalled entries)
called_form entries b e r has (Form-F.Last x) = All-nil (IsCalled entries)
called_form entries b e r has (Form-F.Unary op a) = All-nil (IsCalled entries)
called_form entries b e r has (Form-F.Binary op a d) = All-nil (IsCalled entries)
called_form entries b e r has (Form-F.If i a d) = All-nil (IsCalled entries)
called_form entries b e r has (Form-F.Fby a d) = All-nil (IsCalled entries)
called_form entries b e r has (Form-F.Pre a) = All-nil (IsCalled entries)
called_form entries b e r has (Form-F.Arrow a d) = All-nil (IsCalled entries)
called_form entries b e r has (Form-F.When a tag x) = All-nil (IsCalled entries)
called_form entries b e r has (Form-F.Merge x bs) = All-nil (IsCalled entries)
called_form entries b e r has (Form-F.AsyncCall q f args) = All-nil (IsCalled entries)
called_form entries b e r has (Form-F.AsyncConst k) = All-nil (IsCalled entries)
called_form entries b e r has (Form-F.Get a) = All-nil (IsCalled entries)

called_in : (core : Core) (entries : List Entry) (at : ℕ) (body : Body) (p : PlacedBody) → IsPlaced entries at body p → IsWhole core p → All (IsCalled entries) (calls_in body)
called_in core entries at body p placed whole =
    all_joined (IsCalled entries) (λ e. calling_of body.scope e (out-Form e.right.form)) body.node.equations
    (λ k e there.
    let served : IsServed core.types e = served_there core p.node.now (names p.node.now.inputs) p.node.now.equations k e (subst (λ (n : CoreNode). slice_get n.equations k ≡ Some e) (sym placed.node) there) whole.buildable.equations in
    let r : Register = In_values (slice_index p.presences.items k) in
    called_form entries body.scope e r (subst (λ (xs : List Name). Has entries (Here e.clock.steps (Under body.scope xs)) r) (sym served.resets) (placed.present k e there).0) (out-Form e.right.form))

pub called_all : (core : Core) (entries : List Entry) (at : ℕ) (all : List Body) (placed : List PlacedBody) → ArePlaced entries at all placed → All (IsWhole core) placed → All (IsCalled entries) (flat_map calls_in all)
called_all core entries at [] [] are wholes = All-nil (IsCalled entries)
called_all core entries at [] (p ∷ placed) are wholes = absurd are
called_all core entries at (body ∷ all) [] are wholes = absurd are
called_all core entries at (body ∷ all) (p ∷ placed) are wholes =
    All-append (IsCalled entries) (calls_in body) (flat_map calls_in all) (called_in core entries at body p are.0 (All-head (IsWhole core) p placed wholes))
    (called_all core entries at all placed are.1 (All-tail (IsWhole core) p placed wholes))

pub called_later : (before after : List Entry) → ((thing : Thing) (r : Register) → Has before thing r → Has after thing r) → (call : Calling) → IsCalled before call → IsCalled after call
called_later before after grows (Calls c s place) h = (h.0, grows (Here c s) h.0 h.1)
