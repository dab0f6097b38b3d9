-- What the outputs of calls give.
use Rattle.std.proofs.Common.{◌≡◌, ℕ, zero, suc, ◌<◌, true, false, List, [], ◌∷◌, ◌++◌, map, Option, Some, None, refl, sym, ap, subst, ◌∙◌}
use Rattle.std.specs.Prelude.{slice_get, slice_index, slice_index_or, unwrap_or}
use Rattle.hept_ast.specs.Texts.{Name, names}
use Rattle.hept_ast.specs.Scopes.{Clock, Text, Written, Scope, Called, outputs_of, calls_around}
use Rattle.hept_ast.specs.Types.{future_of, types_of, get_fit, Fits as Of_types}
use Rattle.hept_ast.specs.Meaning.{Output, Variable, Present, Active, Answer, Absent, Value, Is, Rule, is_true, answer_to, if_present, reply_or, call_of, output_rule, outputs_rule}
use Rattle.hept_ast.specs.Outputs.{asked, said}
use Rattle.hept_ast.specs.declared.tree.Expr.{Expr}
use Rattle.hept_ast.specs.declared.tree.MergeBranch.{MergeBranch}
use Rattle.hept_ast.specs.declared.tree.Decl.{Decl}
use Rattle.hept_ast.specs.declared.tree.Node.{Node}
use Rattle.hept_ast.specs.declared.tree.TypeDec.{TypeDec}
use Rattle.hept_ast.specs.declared.tree.Ty.{Ty}
use Rattle.hept_ast.specs.declared.tree.Ty.TheVariants as ty
use Rattle.hept_ast.specs.declared.tree.Form.{Form, out-Form}
use Rattle.hept_ast.specs.declared.tree.Form.TheOpen.{Form-F}
use Rattle.hept_ast.specs.TypedValues.{IsValueOf, AreValuesOf}
use Rattle.sound_expressions.specs.Sound.{Within, Sees, Sound, is_constant, is_async_constant, is_variable, is_last, is_unary, is_binary, is_if, is_fby, is_pre, is_arrow, is_when, is_merge, is_call, is_async_call, is_get}
use Rattle.accepted_meaning.specs.SoundNodes.{SoundNode}
use Rattle.accepted_meaning.specs.Placing.{site_of}
use Rattle.accepted_meaning.specs.Running.{Run, StandsIn, setting_of, types_in, IsKnown}
use Rattle.accepted_meaning.specs.Structure.{IsCallIn}
use Rattle.sound_expressions.proofs.FittedTypes.{get_fits, future_count}
use Rattle.accepted_meaning.proofs.FitsWords.{unknown, says, asks, if_ends, count_ends, as_is, truth_is}
use Rattle.accepted_meaning.proofs.FitsTruths.{known_by, present_truth, base_present}
use Rattle.accepted_meaning.proofs.FitsKept.{Texts, Okay, given, IsGiven, Holds, Ended, is_given, okay_given, okay_as}

-- ---- lists of types and values

pub mapped_at : {A B : Type 0} (f : A → B) (xs : List A) (j : ℕ) (y : B) → slice_get (map f xs) j ≡ Some y → (x : A) × (slice_get xs j ≡ Some x) × (f x ≡ y)
mapped_at f [] j y e = cc
mapped_at f (x ∷ xs) zero y e = (x, refl, ap (λ o. unwrap_or o y) e)
mapped_at f (x ∷ xs) (suc j) y e = mapped_at f xs j y e

value_at : (types : List TypeDec) (ts : List Ty) (vs : List ℕ) (j : ℕ) (t : Ty) → AreValuesOf types ts vs → slice_get ts j ≡ Some t → IsValueOf types t (slice_index vs j)
value_at types [] vs j t h e = cc
value_at types (u ∷ ts) [] j t h e = elim h [ ]
value_at types (u ∷ ts) (v ∷ vs) zero t h e = subst (λ (x : Ty). IsValueOf types x v) (ap (λ o. unwrap_or o t) e) h.0
value_at types (u ∷ ts) (v ∷ vs) (suc j) t h e = value_at types ts vs j t h.1 e

-- ---- replies

reply_fits : (r : Run) → Texts r → (k : Within) (s : Scope) (e : Expr) (c : Clock) (ts : List Ty) (args : List Expr) (m number : ℕ) (callee : Node) (outs : List ℕ) →
    StandsIn r k s → Sound k (site_of s) e c ts → call_of (setting_of r) (out-Form e.form) ≡ Some (args, Written m callee) →
    r.replies (calls_around s ++ e.place.0 ∷ []) number ≡ Some outs → AreValuesOf (types_in r) (types_of callee.outputs) outs
reply_fits r texts k s e c ts args m number callee outs stands sound call reply =
    texts.sound.replies_fit.fit s e c ts args stands.number m number stands.of_node.node callee stands.of_node.grades outs stands.placed
    (stands.text ∙ ap (λ (x : Within). Written stands.number x.node) stands.of_node.is)
    (subst SoundNode stands.of_node.is stands.of_node.sound_node) (subst (λ (x : Within). Sound x (site_of s) e c ts) stands.of_node.is sound) call reply

reply_ends : (r : Run) (P : Answer → Type 0) (j : ℕ) (o : Option (List ℕ)) (d : Rule) → ((outs : List ℕ) → o ≡ Some outs → P (Value (slice_index outs j))) → Ended r P d → Ended r P (reply_or (setting_of r) o j d)
reply_ends r P j None d h e = e
reply_ends r P j (Some outs) d h e = says (h outs refl)

-- ---- an output of a call

pub called_on : (r : Run) (s : Scope) (c : Clock) (place : ℕ) (args : List Expr) (text : Text) (t : ℕ) → IsKnown r (Present c s t) (Is true) → IsKnown r (Present [] (Called s c place args text) t) (Is true)
called_on r s c place args text t h =
    base_present r (Called s c place args text) t (known_by r (Active (Called s c place args text) t) (Is true) (asked h said) (λ e. cc))

retyped : (r : Run) (a b : Ty) (x : Answer) → ((v : ℕ) → IsValueOf (types_in r) a v → IsValueOf (types_in r) b v) → IsGiven r a x → IsGiven r b x
retyped r a b x h g = record { value = g.value; is = g.is; fits = h g.value g.fits }

call_ends : (r : Run) → Texts r → (k : Within) (s : Scope) (e : Expr) (c : Clock) (t : ℕ) (args : List Expr) (text : Text) (callee : Within) (ts : List Ty) (j : ℕ) (d : Decl) (u : Ty) →
    StandsIn r k s → Sound k (site_of s) e c ts → IsCallIn r k s e c args text callee → slice_get callee.node.outputs j ≡ Some d →
    ((v : ℕ) → IsValueOf (types_in r) d.ty v → IsValueOf (types_in r) u v) → IsKnown r (Present c s t) (Is true) →
    Ended r (Okay r false u c s t) (output_rule (setting_of r) (Some (args, text)) e.place.0 j c s t)
call_ends r texts k s e c t args text callee ts j d u stands sound i at types here =
    let body : Scope = Called s c e.place.0 args text in
    let o : Sees callee [] d.name d [] × (callee.grade d.name ≡ false) × (slice_index_or (names callee.node.outputs) j [] ≡ d.name) = texts.output callee i.stands.number j d i.stands.of_node at in
    let name_is : slice_index_or (outputs_of text) j [] ≡ d.name = ap (λ (x : Text). slice_index_or (outputs_of x) j []) i.text_is ∙ o.2 in
    let call : call_of (setting_of r) (out-Form e.form) ≡ Some (args, Written i.number callee.node) = i.call ∙ ap (λ (x : Text). Some (args, x)) i.text_is in
    let one : slice_get (types_of callee.node.outputs) j ≡ Some d.ty = mapped_one (λ (x : Decl). x.ty) callee.node.outputs j d at in
    let gives : Ended r (Okay r false u c s t) (answer_to (Variable d.name body t)) =
    asks (λ a h. says (okay_given r false u c s t a (retyped r d.ty u a types
    (is_given r (callee.grade d.name) d.ty [] body t a (h.fits callee d [] i.stands o.0) o.1 (called_on r s c e.place.0 args text t here))))) in
    count_ends (Holds r) r.rows (Okay r false u c s t) (λ p. Present c s p) _ t (λ n. reply_ends r (Okay r false u c s t) j _ _
    (λ outs reply. given (types _ (value_at (types_in r) (types_of callee.node.outputs) outs j d.ty
    (reply_fits r texts k s e c ts args i.number n callee.node outs stands sound call reply) one)))
    (subst (λ (x : Name). Ended r (Okay r false u c s t) (answer_to (Variable x body t))) (sym name_is) gives))
  where
    mapped_one : {A B : Type 0} (f : A → B) (xs : List A) (n : ℕ) (x : A) → slice_get xs n ≡ Some x → slice_get (map f xs) n ≡ Some (f x)
    mapped_one f [] n x h = cc
    mapped_one f (y ∷ ys) zero x h = ap (λ o. Some (f (unwrap_or o y))) h
    mapped_one f (y ∷ ys) (suc n) x h = mapped_one f ys n x h

-- the output of a call, or of one below `!`
abbrev Outputs_end : Run → Scope → Expr → ℕ → Clock → ℕ → Ty → Form-F Form Expr MergeBranch → Type 0
Outputs_end r s e j c t u v = Ended r (Okay r false u c s t) (outputs_rule (setting_of r) v e j c s t)

by_view : (r : Run) (s : Scope) (e : Expr) (j : ℕ) (c : Clock) (t : ℕ) (u : Ty) (v : Form-F Form Expr MergeBranch) → out-Form e.form ≡ v → Outputs_end r s e j c t u v → Outputs_end r s e j c t u (out-Form e.form)
by_view r s e j c t u v is h = subst (λ (f : Form-F Form Expr MergeBranch). Outputs_end r s e j c t u f) (sym is) h

pub only_at : (t : Ty) (j : ℕ) (u : Ty) → slice_get (t ∷ []) j ≡ Some u → (j ≡ zero) × (t ≡ u)
only_at t zero u e = (refl, ap (λ o. unwrap_or o u) e)
only_at t (suc j) u e = cc

get_output : (r : Run) (k : Within) (s : Scope) (a : Expr) (j : ℕ) (c : Clock) (t : ℕ) (us ts : List Ty) (u : Ty) → StandsIn r k s → Sound k (site_of s) a c us → get_fit (us ∷ []) ≡ Of_types ts →
    slice_get ts j ≡ Some u → Ended r (Okay r false u c s t) (answer_to (Output a j c s t))
get_output r k s a j c t us ts u stands sound fit at =
    let o = get_fits us ts fit in
    let here = only_at (ty.Plain o.0) j u (ap (λ (x : List Ty). slice_get x j) (sym o.2) ∙ at) in
    let there : slice_get us j ≡ Some (ty.Future o.0) = ap (λ (x : List Ty). slice_get x j) o.1 ∙ ap (λ n. slice_get (ty.Future o.0 ∷ []) n) here.0 in
    asks (λ x h. says (okay_as r false false (ty.Future o.0) u c s t x (λ g. g) (λ v i. subst (λ (y : Ty). IsValueOf (types_in r) y v) here.1 i) (h.fits k us (ty.Future o.0) stands sound there)))

future_value : (r : Run) (a b u : Ty) → a ≡ b → future_of b ≡ u → (v : ℕ) → IsValueOf (types_in r) a v → IsValueOf (types_in r) u v
future_value r a b u e f v h =
    subst (λ (x : Ty). IsValueOf (types_in r) x v) (ap future_of e ∙ f) (subst (λ (n : ℕ). v < n) (sym (future_count (types_in r) a)) h)

pub output_ends : (r : Run) → Texts r → (k : Within) (s : Scope) (e : Expr) (j : ℕ) (c : Clock) (t : ℕ) (ts : List Ty) (u : Ty) → StandsIn r k s → Sound k (site_of s) e c ts → slice_get ts j ≡ Some u →
    IsKnown r (Present c s t) (Is true) → Outputs_end r s e j c t u (out-Form e.form)
output_ends r texts k s e j c t ts u stands (is_constant {v = v} is known fits) at here = by_view r s e j c t u (Form-F.Const v) is unknown
output_ends r texts k s e j c t ts u stands (is_async_constant {v = v} is known fits) at here = by_view r s e j c t u (Form-F.AsyncConst v) is unknown
output_ends r texts k s e j c t ts u stands (is_variable {x = x} is sees) at here = by_view r s e j c t u (Form-F.Var x) is unknown
output_ends r texts k s e j c t ts u stands (is_last {x = x} is sees init) at here = by_view r s e j c t u (Form-F.Last x) is unknown
output_ends r texts k s e j c t ts u stands (is_unary {a = a} {op = op} is sound fit) at here = by_view r s e j c t u (Form-F.Unary op a) is unknown
output_ends r texts k s e j c t ts u stands (is_binary {a = a} {b = b} {op = op} is first second fit nonzero) at here = by_view r s e j c t u (Form-F.Binary op a b) is unknown
output_ends r texts k s e j c t ts u stands (is_if {i = i} {a = a} {b = b} is test first second fit) at here = by_view r s e j c t u (Form-F.If i a b) is unknown
output_ends r texts k s e j c t ts u stands (is_fby {a = a} {b = b} is first second fit defined) at here = by_view r s e j c t u (Form-F.Fby a b) is unknown
output_ends r texts k s e j c t ts u stands (is_pre {a = a} is sound fit defined) at here = by_view r s e j c t u (Form-F.Pre a) is unknown
output_ends r texts k s e j c t ts u stands (is_arrow {a = a} {b = b} is first second fit) at here = by_view r s e j c t u (Form-F.Arrow a b) is unknown
output_ends r texts k s e j c t ts u stands (is_when {a = a} {tag = tag} {x = x} is sees sound tagged has fit defined) at here = by_view r s e j c t u (Form-F.When a tag x) is unknown
output_ends r texts k s e j c t ts u stands (is_merge {x = x} {bs = bs} is sees tagged defined parts all fit) at here = by_view r s e j c t u (Form-F.Merge x bs) is unknown
output_ends r texts k s e j c t ts u stands (is_call {f = f} {args = args} is named arguments fit leads calls) at here =
    let sound : Sound k (site_of s) e c ts = is_call is named arguments fit leads calls in
    let o = texts.call k s e c ts f args stands sound is in
    let (d, one, same) = mapped_at (λ (x : Decl). x.ty) o.1.node.outputs j u (ap (λ (x : List Ty). slice_get x j) (sym o.3) ∙ at) in
    by_view r s e j c t u (Form-F.Call f args) is
    (subst (λ (x : Option (List Expr × Text)). Ended r (Okay r false u c s t) (output_rule (setting_of r) x e.place.0 j c s t)) (sym o.2.call ∙ ap (call_of (setting_of r)) is)
    (call_ends r texts k s e c t args o.0 o.1 ts j d u stands sound o.2 one (λ v h. subst (λ (x : Ty). IsValueOf (types_in r) x v) same h) here))
output_ends r texts k s e j c t ts u stands (is_async_call {q = q} {f = f} {args = args} is named arguments fit leads calls) at here =
    let sound : Sound k (site_of s) e c ts = is_async_call is named arguments fit leads calls in
    let o = texts.async_call k s e c ts q f args stands sound is in
    let (b, first, last) = mapped_at future_of (types_of o.1.node.outputs) j u (ap (λ (x : List Ty). slice_get x j) (sym o.3) ∙ at) in
    let (d, one, same) = mapped_at (λ (x : Decl). x.ty) o.1.node.outputs j b first in
    by_view r s e j c t u (Form-F.AsyncCall q f args) is
    (subst (λ (x : Option (List Expr × Text)). Ended r (Okay r false u c s t) (output_rule (setting_of r) x e.place.0 j c s t)) (sym o.2.call ∙ ap (call_of (setting_of r)) is)
    (call_ends r texts k s e c t args o.0 o.1 ts j d u stands sound o.2 one (future_value r d.ty b u same last) here))
output_ends r texts k s e j c t ts u stands (is_get {a = a} {us = us} is sound fit) at here =
    by_view r s e j c t u (Form-F.Get a) is (get_output r k s a j c t us ts u stands sound fit at)

-- ---- what is asked where it is present

pub present_ends : (r : Run) (P : Answer → Type 0) (c : Clock) (s : Scope) (t : ℕ) (d : Rule) → (IsKnown r (Present c s t) (Is true) → Ended r P d) → (IsKnown r (Present c s t) (Is false) → P Absent) →
    Ended r P (if_present (Present c s t) d)
present_ends r P c s t d h k = asks (λ a i. if_ends (is_true a)
    (λ e. h (as_is r (Present c s t) a (Is true) (truth_is a true (present_truth r c s t a i.known) e) i.known))
    (λ e. says (k (as_is r (Present c s t) a (Is false) (truth_is a false (present_truth r c s t a i.known) e) i.known))))
