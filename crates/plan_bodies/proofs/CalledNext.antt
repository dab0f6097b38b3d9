-- The equation that comes next: a call, or another right side.
use Rattle.std.proofs.Common.{◌≡◌, ℕ, zero, suc, ◌+◌, List, [], ◌∷◌, ◌++◌, length, All, Some, refl, sym, subst, ap, ◌∙◌, arith}
use Rattle.std.specs.Prelude.{Contains, Option}
use Rattle.std.specs.List.{flat_map}
use Rattle.std.proofs.lemmas.List.Elements.{All-contains, All-nil, All-same, Contains-append_left, Contains-append_right}
use Rattle.hept_ast.specs.Scopes.{Scope, Lowered, Text, Under}
use Rattle.hept_ast.specs.Texts.{Name}
use Rattle.hept_ast.specs.declared.tree.TypeDec.{TypeDec}
use Rattle.hept_ast.specs.declared.tree.Core.{Core}
use Rattle.hept_ast.specs.declared.tree.CoreNode.{CoreNode}
use Rattle.hept_ast.specs.declared.tree.CoreEquation.{CoreEquation}
use Rattle.hept_ast.specs.declared.tree.Expr.{Expr}
use Rattle.hept_ast.specs.declared.tree.MergeBranch.{MergeBranch}
use Rattle.hept_ast.specs.declared.tree.Form.{Form, out-Form, out-roll-Form}
use Rattle.hept_ast.specs.declared.tree.Form.TheOpen.{Form-F}
use Rattle.hept_ast.specs.declared.tree.Form.TheVariants as form
use Rattle.step_plans.specs.Memories.{nodes_of}
use Rattle.step_plans.specs.Plans.{Ground, Calling, Calls}
use Rattle.step_plans.proofs.FormsOut.{const_form, var_form, unary_form, binary_form, if_form, fby_form}
use Rattle.plan_expressions.specs.Computable.{Computable}
use Rattle.plan_expressions.specs.declared.draft.Draft.{Draft}
use Rattle.plan_expressions.proofs.FormsMore.{when_form, merge_form}
use Rattle.plan_expressions.proofs.Operands.{some_form}
use Rattle.plan_equations.specs.Equations.{AreKnown, BuildsEquation, IsOneMore, KeepsEquation, inside_of}
use Rattle.plan_equations.specs.Grounds.{Body, HasBody, bodies, call_scope, calling_of, calls_in, form_bodies, right_memories, right_scope, text_bodies}
use Rattle.plan_equations.specs.Rights.{HasCells, IsRight, expression, from_constant, from_variable, previous, arrow, right_cells}
use Rattle.plan_equations.proofs.FormsMore.{pre_form, arrow_form}
use Rattle.plan_bodies.specs.Buildable.{IsCallOf}
use Rattle.plan_bodies.specs.Expansions.{CountsCells, IsPlacedWithin, IsWhole}
use Rattle.plan_bodies.specs.Valued.{BuildsCall, BuildsNext, CountsNext, IsGroundedCall, IsGroundedNext, IsNext, IsNextBuilt, calls, defines, KeepsNext, bodies_memories, called_in}
use Rattle.plan_bodies.specs.declared.bodies.PlacedBody.{PlacedBody}

pub call_form : (e : Expr) (f : Name) (args : List Expr) → e.form ≡ form.Call f args → out-Form e.form ≡ Form-F.Call f args
call_form e f args h = ap out-Form (h ∙ sym (form.rolls-Call f args)) ∙ out-roll-Form _

-- the bodies of what a call calls
pub called_is : (core : Core) (depth : ℕ) (b : Scope) (e : CoreEquation) (args : List Expr) (callee : CoreNode) → IsCallOf core e args callee → called_in core depth b e ≡ bodies core depth callee (call_scope b e args callee)
called_is core depth b e args callee call =
    ap (form_bodies (bodies core depth) (nodes_of core) b e) (call_form e.right call.name args call.form) ∙ ap (text_bodies (bodies core depth) b e args) call.named

-- a call is of one node on one list of arguments
pub same_call : (core : Core) (e : CoreEquation) (args more : List Expr) (callee other : CoreNode) → IsCallOf core e args callee → IsCallOf core e more other → (args ≡ more) × (callee ≡ other)
same_call core e args more callee other x y =
    let forms : Form-F.Call x.name args ≡ Form-F.Call y.name more = sym (call_form e.right x.name args x.form) ∙ call_form e.right y.name more y.form in
    let names : x.name ≡ y.name = cc in
    let texts : Some (Lowered callee) ≡ Some (Lowered other) = sym x.named ∙ (ap (nodes_of core) names ∙ y.named) in
    (cc, cc)

-- ---- another right side

none_called : (go : CoreNode → Scope → List Body) (nodes : Name → Option Text) (b : Scope) (e : CoreEquation) (v : Form-F Form Expr MergeBranch) → ((f : Name) (args : List Expr) → v ≡ Form-F.Call f args → ⊥) → form_bodies go nodes b e v ≡ []
none_called go nodes b e (Form-F.Const k) h = refl
none_called go nodes b e (Form-F.Var x) h = refl
none_called go nodes b e (Form-F.Last x) h = refl
none_called go nodes b e (Form-F.Unary op a) h = refl
none_called go nodes b e (Form-F.Binary op a d) h = refl
none_called go nodes b e (Form-F.If i a d) h = refl
none_called go nodes b e (Form-F.Fby a d) h = refl
none_called go nodes b e (Form-F.Pre a) h = refl
none_called go nodes b e (Form-F.Arrow a d) h = refl
none_called go nodes b e (Form-F.When a tag x) h = refl
none_called go nodes b e (Form-F.Merge x bs) h = refl
none_called go nodes b e (Form-F.Call g args) h = absurd (h g args refl)
none_called go nodes b e (Form-F.AsyncCall q g args) h = refl
none_called go nodes b e (Form-F.AsyncConst k) h = refl
none_called go nodes b e (Form-F.Get a) h = refl

-- a right side over variables that are known is no call
no_call : (types : List TypeDec) (ks : List Name) (n : ℕ) (e : Expr) → IsRight types ks n e → (f : Name) (args : List Expr) → out-Form e.form ≡ Form-F.Call f args → ⊥
no_call types ks n e (expression h) f args q = some_form types ks n e h
    (λ k g. let p : Form-F.Call f args ≡ Form-F.Const k = sym q ∙ const_form e k g in cc)
    (λ x g. let p : Form-F.Call f args ≡ Form-F.Var x = sym q ∙ var_form e x g in cc)
    (λ op d g. let p : Form-F.Call f args ≡ Form-F.Unary op d = sym q ∙ unary_form e op d g in cc)
    (λ op d h g. let p : Form-F.Call f args ≡ Form-F.Binary op d h = sym q ∙ binary_form e op d h g in cc)
    (λ c d h g. let p : Form-F.Call f args ≡ Form-F.If c d h = sym q ∙ if_form e c d h g in cc)
    (λ d tag x g. let p : Form-F.Call f args ≡ Form-F.When d tag x = sym q ∙ when_form e d tag x g in cc)
    (λ x branches g. let p : Form-F.Call f args ≡ Form-F.Merge x branches = sym q ∙ merge_form e x branches g in cc)
no_call types ks n e (from_constant a b k is const) f args q = absurd (let p : Form-F.Call f args ≡ Form-F.Fby a b = sym q ∙ fby_form e a b is in cc)
no_call types ks n e (from_variable a b x is named among) f args q = absurd (let p : Form-F.Call f args ≡ Form-F.Fby a b = sym q ∙ fby_form e a b is in cc)
no_call types ks n e (previous a is) f args q = absurd (let p : Form-F.Call f args ≡ Form-F.Pre a = sym q ∙ pre_form e a is in cc)
no_call types ks n e (arrow a b is x y) f args q = absurd (let p : Form-F.Call f args ≡ Form-F.Arrow a b = sym q ∙ arrow_form e a b is in cc)

pub not_called : (core : Core) (depth : ℕ) (b : Scope) (e : CoreEquation) (ks : List Name) (n : ℕ) → IsRight core.types ks n e.right → called_in core depth b e ≡ []
not_called core depth b e ks n right = none_called (bodies core depth) (nodes_of core) b e (out-Form e.right.form) (no_call core.types ks n e.right right)

pub is_no_call : (core : Core) (e : CoreEquation) (args : List Expr) (callee : CoreNode) (ks : List Name) (n : ℕ) → IsCallOf core e args callee → IsRight core.types ks n e.right → ⊥
is_no_call core e args callee ks n call right = no_call core.types ks n e.right right call.name args (call_form e.right call.name args call.form)

-- ---- what a call asks

pub called_node : (core : Core) (node : CoreNode) (known : List Name) (e : CoreEquation) (f : Name) (args : List Expr) → e.right.form ≡ form.Call f args → IsNext core node known e → (callee : CoreNode) × (nodes_of core f ≡ Some (Lowered callee))
called_node core node known e f args is (defines x found among right) = absurd (no_call core.types known (suc (length e.clock.steps)) e.right right f args (call_form e.right f args is))
called_node core node known e f args is (calls more callee call among callable) =
    let forms : Form-F.Call f args ≡ Form-F.Call call.name more = sym (call_form e.right f args is) ∙ call_form e.right call.name more call.form in
    let names : f ≡ call.name = cc in
    (callee, ap (nodes_of core) names ∙ call.named)

pub record IsCallHere (core : Core) (variables : List Name) (e : CoreEquation) (args : List Expr) (callee : CoreNode) : Type 0 where
  pub call : IsCallOf core e args callee
  pub among : AreKnown variables e.clock.steps
  pub arguments : All (Computable core.types variables 0) args
  pub inputs : length args ≡ length callee.inputs
  pub outputs : length e.left ≡ length callee.outputs

call_known : (core : Core) (node : CoreNode) (variables : List Name) (e : CoreEquation) (args : List Expr) (callee : CoreNode) → IsCallOf core e args callee → IsNext core node variables e → IsCallHere core variables e args callee
call_known core node variables e args callee call (defines x found among right) = absurd (is_no_call core e args callee variables (suc (length e.clock.steps)) call right)
call_known core node variables e args callee call (calls more other again among callable) =
    let same : (args ≡ more) × (callee ≡ other) = same_call core e args more callee other call again in
    record {
      call = call;
      among = among;
      arguments = subst (All (Computable core.types variables 0)) (sym same.0) callable.arguments;
      inputs = ap length same.0 ∙ (callable.inputs ∙ ap (λ (n : CoreNode). length n.inputs) (sym same.1));
      outputs = callable.outputs ∙ ap (λ (n : CoreNode). length n.outputs) (sym same.1);
    }

pub call_here : (core : Core) (node : CoreNode) (variables : List Name) (e : CoreEquation) (f : Name) (args items : List Expr) (callee : CoreNode) → e.right.form ≡ form.Call f args → items ≡ args → nodes_of core f ≡ Some (Lowered callee) → IsNext core node variables e → IsCallHere core variables e items callee
call_here core node variables e f args items callee is same named next =
    call_known core node variables e items callee (record { name = f; form = is ∙ ap (form.Call f) (sym same); named = named }) next

-- ---- what the ground has for a call

contains_flat : {X A : Type 0} (f : X → List A) (xs : List X) (x : X) (a : A) → Contains xs x → Contains (f x) a → Contains (flat_map f xs) a
contains_flat f [] x a (k, lt, is) h = absurd (omega (arith, lt))
contains_flat f (y ∷ ys) x a (zero, lt, is) h = Contains-append_left (f y) (flat_map f ys) a (subst (λ (z : _). Contains (f z) a) (sym is) h)
contains_flat f (y ∷ ys) x a (suc k, lt, is) h = Contains-append_right (f y) (flat_map f ys) a (contains_flat f ys x a (k, omega (arith, lt), is) h)

calls_it : (b : Scope) (node : CoreNode) (e : CoreEquation) (f : Name) (args : List Expr) → Contains node.equations e → out-Form e.right.form ≡ Form-F.Call f args →
    Contains (calls_in (record { node = node; scope = b })) (Calls e.clock.steps (right_scope b e) e.right.place.0)
calls_it b node e f args there is =
    let one : Calling = Calls e.clock.steps (right_scope b e) e.right.place.0 in
    let row : calling_of b e (out-Form e.right.form) ≡ one ∷ [] = ap (calling_of b e) is in
    let here : Contains (one ∷ []) one = (0, omega arith, refl) in
    contains_flat (λ (d : CoreEquation). calling_of b d (out-Form d.right.form)) node.equations e one there (subst (λ (cs : List Calling). Contains cs one) (sym row) here)

grounded_call : (core : Core) (depth : ℕ) (g : Ground) (node : CoreNode) (b : Scope) (own next : ℕ) (e : CoreEquation) (args : List Expr) (callee : CoreNode) (variables : List Name) → IsCallOf core e args callee → IsNext core node variables e → IsGroundedNext core depth g node b own next e →
    IsGroundedCall core depth g node b next e args callee
grounded_call core depth g node b own next e args callee variables call (defines x found among right) n = absurd (is_no_call core e args callee variables (suc (length e.clock.steps)) call right)
grounded_call core depth g node b own next e args callee variables call (calls more other again among callable) n =
    let same : (args ≡ more) × (callee ≡ other) = same_call core e args more callee other call again in
    let bodies_are : called_in core depth b e ≡ bodies core depth callee (call_scope b e args callee) = called_is core depth b e args callee call in
    let one : Calling = Calls e.clock.steps (right_scope b e) e.right.place.0 in
    record {
      ground = n.ground;
      body = n.body;
      quiet = n.quiet;
      clock = n.equation.clock;
      call = call;
      found = callable.found;
      outputs = callable.outputs ∙ ap (λ (m : CoreNode). length m.outputs) (sym same.1);
      counted = All-contains (Contains g.calls) (calls_in (record { node = node; scope = b })) one n.of_body.calls (calls_it b node e call.name args n.there (call_form e.right call.name args call.form));
      cells = subst (λ (bs : List Body). HasCells g next (bodies_memories core bs)) bodies_are n.called_cells;
      called = subst (All (HasBody g)) bodies_are n.called;
    }

-- ---- one equation

module _ (core : Core) (depth : ℕ) (variables : List Name) (own next base : ℕ) (e : CoreEquation) (old_registers : List ℕ) (old : Draft) (registers : List ℕ) (new : Draft) (presence : ℕ) (placed : List PlacedBody) where
  pub call_builds : (args : List Expr) (callee : CoreNode) → IsCallOf core e args callee → BuildsCall core depth variables next base e args callee old_registers old registers new presence placed → BuildsNext core depth variables own next base e old_registers old registers new presence placed
  call_builds args callee call builds g node b start is_next ground built =
      subst (λ (bs : List Body). IsNextBuilt g b base start built.here new (variables ++ e.left) registers e presence bs placed) (sym (called_is core depth b e args callee call))
      (builds g node b start (grounded_call core depth g node b own next e args callee variables call is_next ground) built)

  pub call_counts : (args : List Expr) (callee : CoreNode) (after : ℕ) → IsCallOf core e args callee → CountsCells core depth callee next after → CountsNext core depth e next after
  call_counts args callee after call counts b =
      let same : length (bodies_memories core (called_in core depth b e)) ≡ length (bodies_memories core (bodies core depth callee (call_scope b e args callee))) = ap (λ (bs : List Body). length (bodies_memories core bs)) (called_is core depth b e args callee call) in
      omega (arith, counts (call_scope b e args callee), same)

  pub call_keeps : (from after : ℕ) → KeepsNext 0 after base old_registers old registers new presence placed → KeepsNext from after base old_registers old registers new presence placed
  call_keeps from after keeps = λ cells le room some below within. keeps cells (omega arith) room some below within

  module _ (types : List TypeDec) (same : types ≡ core.types) (nobody : placed ≡ []) (other : (f : Name) (args : List Expr) → e.right.form ≡ form.Call f args → ⊥) where
    pub other_builds : BuildsEquation types variables own base e old_registers old registers new presence → BuildsNext core depth variables own next base e old_registers old registers new presence placed
    other_builds builds g node b start (calls more callee call among callable) ground built = absurd (other call.name more call.form)
    other_builds builds g node b start (defines x found among right) ground built =
        let mine : HasCells g own (right_memories core.types (out-Form e.right.form) e.clock.steps (inside_of b)) =
        subst (λ (xs : List Name). HasCells g own (right_memories core.types (out-Form e.right.form) e.clock.steps (Under b xs))) found.resets ground.cells in
        let row : HasCells g own (right_memories types (out-Form e.right.form) e.clock.steps (inside_of b)) =
        subst (λ (ts : List TypeDec). HasCells g own (right_memories ts (out-Form e.right.form) e.clock.steps (inside_of b))) (sym same) mine in
        let one : IsOneMore g b base start built.here new (variables ++ x ∷ []) registers e.clock.steps presence =
        builds g node b x start found (ground.ground.types ∙ sym same) ground.body ground.quiet row ground.equation built in
        let none : called_in core depth b e ≡ [] = not_called core depth b e variables (suc (length e.clock.steps)) right in
        let given : IsNextBuilt g b base start built.here new (variables ++ x ∷ []) registers e presence [] [] = record { built = one.built; more = one.more; longer = one.longer; present = one.present; under = one.under; inner = tt } in
        subst (λ (xs : List Name). IsNextBuilt g b base start built.here new (variables ++ xs) registers e presence (called_in core depth b e) placed) (sym found.left)
        (subst (λ (bs : List Body). IsNextBuilt g b base start built.here new (variables ++ x ∷ []) registers e presence bs placed) (sym none)
        (subst (λ (ps : List PlacedBody). IsNextBuilt g b base start built.here new (variables ++ x ∷ []) registers e presence [] ps) (sym nobody) given))

    pub other_counts : (node : CoreNode) → IsNext core node variables e → CountsNext core depth e next next
    other_counts node (calls more callee call among callable) b = absurd (other call.name more call.form)
    other_counts node (defines x found among right) b =
        let none : length (bodies_memories core (called_in core depth b e)) ≡ 0 = ap (λ (bs : List Body). length (bodies_memories core bs)) (not_called core depth b e variables (suc (length e.clock.steps)) right) in
        omega (arith, none)

    pub other_longer : (node : CoreNode) → IsNext core node variables e → length registers ≡ suc (length old_registers) → length registers ≡ length old_registers + length e.left
    other_longer node (calls more callee call among callable) longer = absurd (other call.name more call.form)
    other_longer node (defines x found among right) longer = omega (arith, longer, ap length found.left)

    pub other_whole : All (IsWhole core) placed
    other_whole = All-same (IsWhole core) placed [] nobody (All-nil (IsWhole core))

    pub other_keeps : KeepsEquation (right_cells (out-Form e.right.form)) own base old_registers old registers new presence → KeepsNext (own + right_cells (out-Form e.right.form)) next base old_registers old registers new presence placed
    other_keeps keeps = λ cells le room some below within.
        let k = keeps cells le some below within in
        (k.0, k.1, k.2, k.3, All-same (IsPlacedWithin new.at) placed [] nobody (All-nil (IsPlacedWithin new.at)))
