-- What a sound expression gives is known where the variables that it reads are.
use Rattle.std.proofs.Common.{◌≡◌, ◌⊎◌, inl, inr, ℕ, zero, suc, ◌<◌, Bool, true, List, [], ◌∷◌, ◌++◌, map, Option, Some, None, length, refl, sym, ap, subst, arith, ◌∙◌}
use Rattle.std.specs.Prelude.{if◌then◌else◌, ◌==◌, Contains, slice_get, slice_index, slice_index_or}
use Rattle.std.specs.List.{find, flat_map}
use Rattle.hept_ast.specs.Texts.{Name, is_in, place_in, tag_value}
use Rattle.hept_ast.specs.Scopes.{Clock, Text, Scope, Called, inputs_of, outputs_of}
use Rattle.hept_ast.specs.Causal.{reads}
use Rattle.hept_ast.specs.Types.{types_of, future_of}
use Rattle.hept_ast.specs.Meaning.{Gives, Output, Variable, Last, Defined, Present, Active, Restarted, Answer, Nil, Value, Rule, answer_to, form_rule, outputs_rule, output_rule, reply_or, call_of, merged, argument_rule, own_rule, before}
use Rattle.hept_ast.specs.declared.tree.Form.{Form, out-Form}
use Rattle.hept_ast.specs.declared.tree.Form.TheOpen.{Form-F}
use Rattle.hept_ast.specs.declared.tree.Expr.{Expr}
use Rattle.hept_ast.specs.declared.tree.MergeBranch.{MergeBranch}
use Rattle.hept_ast.specs.declared.tree.Decl.{Decl}
use Rattle.hept_ast.specs.declared.tree.Ty.{Ty}
use Rattle.hept_ast.specs.declared.tree.Tag.{Tag}
use Rattle.hept_ast.specs.declared.tree.TypeDec.{TypeDec}
use Rattle.hept_ast.specs.declared.tree.ClockStep.{ClockStep}
use Rattle.hept_ast.specs.TypedValues.{IsValueOf}
use Rattle.sound_expressions.specs.Sound.{Within, Sees, Sound, SoundArguments, SoundBranches, is_constant, is_async_constant, is_variable, is_last, is_unary, is_binary, is_if, is_fby, is_pre, is_arrow, is_when, is_merge, is_call, is_async_call, is_get, no_arguments, an_argument, no_branches, a_branch, AreAllTags, branch_tags}
use Rattle.accepted_meaning.specs.Placing.{site_of}
use Rattle.accepted_meaning.specs.Running.{Run, IsKnown, IsDataOf, value_data, setting_of, types_in}
use Rattle.accepted_meaning.specs.Structure.{IsCallIn}
use Rattle.accepted_meaning.proofs.KnownRules.{Known, Ends, IsDatum, known_by, says, answers, where_present, earlier, counted, values}
use Rattle.accepted_meaning.proofs.KnownTrees.{contains_cases, IsSingle, AllSingle, reads_variable, reads_unary, reads_binary, reads_if, reads_fby, reads_arrow, reads_when, reads_merge, reads_call, reads_async_call, reads_get, in_first, in_more, in_left, in_right, alike_single, unary_single, binary_single, if_single, call_single, async_single, get_single, unary_result, binary_result, if_result, get_result}
use Rattle.accepted_meaning.proofs.KnownScopes.{Texts, Fits, Here, itself, a_call, IsReady, present_known, restarts_up_to, scoped_first, scoped_step, steps_first, steps_more, take_last, data_of, datum_of}
use Rattle.accepted_meaning.proofs.KnownReached.{present_before, last_known, with_itself}

-- all names of a list
abbrev pub AllIn : (Name → Type 0) → List Name → Type 0
AllIn Q xs = (y : Name) → is_in y xs ≡ true → Q y

pub all_by : (Q : Name → Type 0) (xs ys : List Name) → xs ≡ ys → AllIn Q xs → AllIn Q ys
all_by Q xs ys e h = subst (λ (zs : List Name). AllIn Q zs) e h

pub all_first : (Q : Name → Type 0) (xs ys : List Name) → AllIn Q (xs ++ ys) → AllIn Q xs
all_first Q xs ys h y i = h y (in_left y xs ys i)

pub all_second : (Q : Name → Type 0) (xs ys : List Name) → AllIn Q (xs ++ ys) → AllIn Q ys
all_second Q xs ys h y i = h y (in_right y xs ys i)

some_same : {A : Type 0} (x y : A) → Some x ≡ Some y → x ≡ y
some_same x y h = cc

no_element : (i : ℕ) (y : Expr) → slice_get [] i ≡ Some y → ⊥
no_element i y h = cc

no_branch : (b : MergeBranch) → Contains [] b → ⊥
no_branch b h = omega (arith, h.1)

element : (ds : List Decl) (j : ℕ) → j < length (types_of ds) → (d : Decl) × (slice_get ds j ≡ Some d)
element [] j l = absurd (omega (arith, l))
element (d ∷ ds) zero l = (d, refl)
element (d ∷ ds) (suc j) l = element ds j (omega (arith, l))

future_element : (ds : List Decl) (j : ℕ) → j < length (map future_of (types_of ds)) → (d : Decl) × (slice_get ds j ≡ Some d)
future_element [] j l = absurd (omega (arith, l))
future_element (d ∷ ds) zero l = (d, refl)
future_element (d ∷ ds) (suc j) l = future_element ds j (omega (arith, l))

has_first : {ts : List Ty} → IsSingle ts → 0 < length ts
has_first {ts} one = subst (λ (us : List Ty). 0 < length us) (sym one.is) (one_long one.type)
  where
    one_long : (u : Ty) → 0 < length (u ∷ [])
    one_long u = omega arith

pub value_of : (r : Run) (ty : Ty) (v : ℕ) → IsDataOf (types_in r) ty (Value v) → IsValueOf (types_in r) ty v
value_of r ty v (value_data h) = h

module _ (r : Run) (texts : Texts r) (fits : Fits r) (k : Within) (s : Scope) (t : ℕ) (Q : Name → Type 0) (here : Here r k s t Q) where
  present : (c : Clock) → IsReady r k s t c → Known r (Present c s t)
  present c ready = present_known r c s t here.active ready.steps

  by_form : (e : Expr) (f : Form-F Form Expr MergeBranch) (c : Clock) → out-Form e.form ≡ f → IsReady r k s t c → Ends r (form_rule (setting_of r) f e c s t) → Known r (Gives e c s t)
  by_form e f c h ready m = known_by r (Gives e c s t)
      (where_present r (Present c s t) _ (present c ready) (subst (λ (v : Form-F Form Expr MergeBranch). Ends r (form_rule (setting_of r) v e c s t)) (sym h) m))

  was_present : (c : Clock) → IsReady r k s t c → (p : ℕ) → p < t → Known r (Present c s p)
  was_present c ready p l = present_before r texts k s p c here.stands here.asked (here.before p l) ready.scoped

  previous_end : (c : Clock) → IsReady r k s t c → (go : ℕ → Rule) (none : Rule) → ((p : ℕ) → p < t → Ends r (go p)) → Ends r none → Ends r (before (setting_of r) c s t go none)
  previous_end c ready go none next last = earlier r (λ p. Present c s p) (λ p. Restarted s p) go none t (was_present c ready) (restarts_up_to here s itself here.stands) next last

  fits_datum : (e : Expr) (c : Clock) (ts : List Ty) → Sound k (site_of s) e c ts → IsSingle ts → (a : Answer) → IsKnown r (Gives e c s t) a → IsDatum a
  fits_datum e c ts sound one a h = data_of r fits k s e c ts t a here.stands sound one h

  -- ---- calls

  reply_end : (o : Option (List ℕ)) (j : ℕ) (d : Rule) → Ends r d → Ends r (reply_or (setting_of r) o j d)
  reply_end None j d h = h
  reply_end (Some outs) j d h = says r (Value (slice_index outs j)) tt

  -- what the arguments of a call give is known
  abbrev Given : Clock → List Expr → Type 0
  Given c args = (i : ℕ) (arg : Expr) → slice_get args i ≡ Some arg → Known r (Gives arg c s t)

  pub input_end : (e : Expr) (c : Clock) (args : List Expr) (text : Text) (callee : Within) → IsCallIn r k s e c args text callee → Given c args →
      (x : Name) (d : Decl) (own : Clock) → is_in x (inputs_of text) ≡ true → Sees callee [] x d own → Ends r (own_rule (setting_of r) (Called s c e.place.0 args text) x t)
  input_end e c args text callee call given x d own i sees =
      let a = texts.argument_of k callee s e c own args text x d call i sees in
      subst (λ (b : Bool). Ends r (if b then argument_rule (setting_of r) (slice_get args (place_in x (inputs_of text))) c s t else answer_to (Defined x (Called s c e.place.0 args text) t))) (sym i)
      (subst (λ (o : Option Expr). Ends r (argument_rule (setting_of r) o c s t)) (sym a.1) (answers r (Gives a.0 c s t) (given _ a.0 a.1)))

  output_variable : (e : Expr) (c : Clock) (args : List Expr) (text : Text) (callee : Within) → IsCallIn r k s e c args text callee → Given c args → IsReady r k s t c →
      (j : ℕ) (d : Decl) → slice_get callee.node.outputs j ≡ Some d → Known r (Variable (slice_index_or (outputs_of text) j []) (Called s c e.place.0 args text) t)
  output_variable e c args text callee call given ready j d at =
      let f : Scope = Called s c e.place.0 args text in
      let o = texts.output_of callee call.stands.number j d call.stands.of_node at in
      subst (λ (y : Text). Known r (Variable (slice_index_or (outputs_of y) j []) f t)) (sym call.text_is)
      (subst (λ (x : Name). Known r (Variable x f t)) (sym o.2)
      (here.called callee call.calls f a_call call.stands (k, callee, e, here.asked, here.stands, call, refl, ready.scoped)
      (known_by r (Active f t) (answers r (Present c s t) (present c ready))) (known_by r (Restarted f t) (answers r (Restarted s t) (here.restarts s itself)))
      (input_end e c args text callee call given) f d.name d [] itself call.stands o.0 tt))

  call_end : (e : Expr) (c : Clock) (args : List Expr) (text : Text) (callee : Within) → IsCallIn r k s e c args text callee → Given c args → IsReady r k s t c →
      (j : ℕ) (d : Decl) → slice_get callee.node.outputs j ≡ Some d → Ends r (output_rule (setting_of r) (Some (args, text)) e.place.0 j c s t)
  call_end e c args text callee call given ready j d at =
      counted r (λ p. Present c s p) t _ (was_present c ready)
      (λ n. reply_end _ j _ (answers r (Variable (slice_index_or (outputs_of text) j []) (Called s c e.place.0 args text) t) (output_variable e c args text callee call given ready j d at)))

  called_end : (e : Expr) (c : Clock) (args : List Expr) (text : Text) (callee : Within) (v : Form-F Form Expr MergeBranch) → out-Form e.form ≡ v → IsCallIn r k s e c args text callee → Given c args → IsReady r k s t c →
      (j : ℕ) (d : Decl) → slice_get callee.node.outputs j ≡ Some d → Ends r (output_rule (setting_of r) (call_of (setting_of r) v) e.place.0 j c s t)
  called_end e c args text callee v eq call given ready j d at =
      subst (λ (o : Option (List Expr × Text)). Ends r (output_rule (setting_of r) o e.place.0 j c s t)) (sym (ap (call_of (setting_of r)) (sym eq) ∙ call.call)) (call_end e c args text callee call given ready j d at)

  pub call_output : (e : Expr) (c : Clock) (f : Name) (args : List Expr) (text : Text) (callee : Within) → out-Form e.form ≡ Form-F.Call f args → IsCallIn r k s e c args text callee → Given c args → IsReady r k s t c →
      (j : ℕ) (d : Decl) → slice_get callee.node.outputs j ≡ Some d → Known r (Output e j c s t)
  call_output e c f args text callee eq call given ready j d at = known_by r (Output e j c s t)
      (where_present r (Present c s t) _ (present c ready) (subst (λ (v : Form-F Form Expr MergeBranch). Ends r (outputs_rule (setting_of r) v e j c s t)) (sym eq)
      (called_end e c args text callee (Form-F.Call f args) eq call given ready j d at)))

  pub async_output : (e : Expr) (c : Clock) (q : ℕ) (f : Name) (args : List Expr) (text : Text) (callee : Within) → out-Form e.form ≡ Form-F.AsyncCall q f args → IsCallIn r k s e c args text callee → Given c args → IsReady r k s t c →
      (j : ℕ) (d : Decl) → slice_get callee.node.outputs j ≡ Some d → Known r (Output e j c s t)
  async_output e c q f args text callee eq call given ready j d at = known_by r (Output e j c s t)
      (where_present r (Present c s t) _ (present c ready) (subst (λ (v : Form-F Form Expr MergeBranch). Ends r (outputs_rule (setting_of r) v e j c s t)) (sym eq)
      (called_end e c args text callee (Form-F.AsyncCall q f args) eq call given ready j d at)))

  -- ---- the forms

  branch_cases : (x : Name) (c : Clock) (m : MergeBranch) (bs : List MergeBranch) (b : MergeBranch) → (m ≡ b) ⊎ Contains bs b →
      Known r (Gives m.value (c ++ record { tag = m.tag; name = x } ∷ []) s t) → (Contains bs b → Known r (Gives b.value (c ++ record { tag = b.tag; name = x } ∷ []) s t)) →
      Known r (Gives b.value (c ++ record { tag = b.tag; name = x } ∷ []) s t)
  branch_cases x c m bs b (inl e) first next = subst (λ (y : MergeBranch). Known r (Gives y.value (c ++ record { tag = y.tag; name = x } ∷ []) s t)) e first
  branch_cases x c m bs b (inr i) first next = next i

  merge_end : (x : Name) (d : Decl) (c : Clock) (bs : List MergeBranch) (tss : List (List Ty)) (v : ℕ) → Q x → Sees k (site_of s) x d c → IsReady r k s t c →
      (b : MergeBranch) × (find (λ m. tag_value r.program.program.types m.tag == v) bs ≡ Some b) × Contains bs b × (tag_value r.program.program.types b.tag ≡ v) →
      ((b : MergeBranch) → Contains bs b → Known r (Gives b.value (c ++ record { tag = b.tag; name = x } ∷ []) s t)) →
      Ends r (merged (setting_of r) (find (λ m. tag_value r.program.program.types m.tag == v) bs) x c s t)
  merge_end x d c bs tss v qx sees ready found each =
      subst (λ (o : Option MergeBranch). Ends r (merged (setting_of r) o x c s t)) (sym found.1)
      (answers r (Gives found.0.value (c ++ record { tag = found.0.tag; name = x } ∷ []) s t) (each found.0 found.2))

  stepped : (c : Clock) (x : Name) (d : Decl) (tag : Tag) → IsReady r k s t c → Sees k (site_of s) x d c → Q x → IsReady r k s t (c ++ record { tag = tag; name = x } ∷ [])
  stepped c x d tag ready sees q = record {
    scoped = scoped_step r k s c (record { tag = tag; name = x }) ready.scoped (record { scope = s; together = with_itself s; stands = here.stands; declaration = d; sees = sees });
    steps = λ o. steps_more r c _ s t (ready.steps o) (here.variables x d c q sees ready.scoped, tt);
  }

  without : (c : Clock) (step : ClockStep) → IsReady r k s t (c ++ step ∷ []) → IsReady r k s t c
  without c step ready = record { scoped = scoped_first r k s c (step ∷ []) ready.scoped; steps = λ o. steps_first r c (step ∷ []) s t (ready.steps o) }

  merge_datum : (x : Name) (d : Decl) (c : Clock) → Sees k (site_of s) x d c → (a : Answer) → IsKnown r (Variable x s t) a → IsDatum a
  merge_datum x d c sees a h = datum_of r d.ty a (fits.variables k s x d c t a here.stands sees h)

  types_same : k.types ≡ types_in r
  types_same = ap (λ (x : Within). x.types) here.stands.of_node.is

  call_end_of : (e : Expr) (c : Clock) (ts : List Ty) (f : Name) (args : List Expr) → Sound k (site_of s) e c ts → out-Form e.form ≡ Form-F.Call f args → Given c args → IsReady r k s t c →
      (j : ℕ) → j < length ts → Known r (Output e j c s t)
  call_end_of e c ts f args sound eq given ready j l =
      let o = texts.call_of k s e c ts f args here.stands sound eq in
      let at = element o.1.node.outputs j (subst (λ (us : List Ty). j < length us) o.3 l) in
      call_output e c f args o.0 o.1 eq o.2 given ready j at.0 at.1

  async_end_of : (e : Expr) (c : Clock) (ts : List Ty) (q : ℕ) (f : Name) (args : List Expr) → Sound k (site_of s) e c ts → out-Form e.form ≡ Form-F.AsyncCall q f args → Given c args → IsReady r k s t c →
      (j : ℕ) → j < length ts → Known r (Output e j c s t)
  async_end_of e c ts q f args sound eq given ready j l =
      let o = texts.async_call_of k s e c ts q f args here.stands sound eq in
      let at = future_element o.1.node.outputs j (subst (λ (us : List Ty). j < length us) o.3 l) in
      async_output e c q f args o.0 o.1 eq o.2 given ready j at.0 at.1

  mutual
    pub gives : (e : Expr) (c : Clock) (ts : List Ty) → Sound k (site_of s) e c ts → AllIn Q (reads e.form) → IsReady r k s t c → IsSingle ts → Known r (Gives e c s t)
    gives e c ts (is_constant {v = v} eq known number) all ready one = by_form e (Form-F.Const v) c eq ready (says r (Value _) tt)
    gives e c ts (is_async_constant {v = v} eq known number) all ready one = by_form e (Form-F.AsyncConst v) c eq ready (says r (Value _) tt)
    gives e c ts (is_variable {x = x} {d = d} eq sees) all ready one =
        by_form e (Form-F.Var x) c eq ready (answers r (Variable x s t) (here.variables x d c (all_by Q _ _ (reads_variable e x eq) all x (in_first x [])) sees ready.scoped))
    gives e c ts (is_last {x = x} {d = d} eq sees init) all ready one = by_form e (Form-F.Last x) c eq ready (answers r (Last x s t) (last_known texts here x d c sees ready.scoped init))
    gives e c ts (is_unary {a = a} {op = op} {us = us} eq sound fit) all ready one =
        let o = unary_single op (us ∷ []) ts fit in
        by_form e (Form-F.Unary op a) c eq ready
        (values r (Gives a c s t) _ (gives a c us sound (all_by Q _ _ (reads_unary e a op eq) all) ready o.0) (fits_datum a c us sound o.0) (λ v h. says r (Value _) tt))
    gives e c ts (is_binary {a = a} {b = b} {op = op} {us = us} {vs = vs} eq sound_a sound_b fit nonzero) all ready one =
        let o = binary_single op (us ∷ vs ∷ []) ts fit in
        let q = all_by Q _ _ (reads_binary e a b op eq) all in
        by_form e (Form-F.Binary op a b) c eq ready
        (values r (Gives a c s t) _ (gives a c us sound_a (all_first Q _ _ q) ready o.0) (fits_datum a c us sound_a o.0)
        (λ u h. values r (Gives b c s t) _ (gives b c vs sound_b (all_second Q _ _ q) ready o.1.0) (fits_datum b c vs sound_b o.1.0) (λ v i. says r (Value _) tt)))
    gives e c ts (is_if {i = i} {a = a} {b = b} {is = is} {us = us} {vs = vs} eq sound_i sound_a sound_b fit) all ready one =
        let o = if_single is (us ∷ vs ∷ []) ts fit in
        let q = all_by Q _ _ (reads_if e i a b eq) all in
        let q' = all_first Q (reads i.form ++ reads a.form) (reads b.form) q in
        by_form e (Form-F.If i a b) c eq ready
        (values r (Gives i c s t) _ (gives i c is sound_i (all_first Q (reads i.form) (reads a.form) q') ready o.0) (fits_datum i c is sound_i o.0)
        (λ n g. values r (Gives a c s t) _ (gives a c us sound_a (all_second Q (reads i.form) (reads a.form) q') ready o.1.0) (fits_datum a c us sound_a o.1.0)
        (λ u h. values r (Gives b c s t) _ (gives b c vs sound_b (all_second Q (reads i.form ++ reads a.form) (reads b.form) q) ready o.1.1.0) (fits_datum b c vs sound_b o.1.1.0) (λ v j. says r (Value _) tt))))
    gives e c ts (is_fby {a = a} {b = b} {us = us} {vs = vs} eq sound_a sound_b fit defined) all ready one =
        let o = (alike_single (us ∷ vs ∷ []) ts fit).0 in
        by_form e (Form-F.Fby a b) c eq ready
        (previous_end c ready _ _ (λ p l. answers r (Gives b c s p) ((here.before p l).gives k s b c vs here.stands here.asked sound_b ready.scoped o.1.0))
        (answers r (Gives a c s t) (gives a c us sound_a (all_by Q _ _ (reads_fby e a b eq) all) ready o.0)))
    gives e c ts (is_pre {a = a} {us = us} eq sound fit defined) all ready one =
        let o = (alike_single (us ∷ []) ts fit).0 in
        by_form e (Form-F.Pre a) c eq ready
        (previous_end c ready _ _ (λ p l. answers r (Gives a c s p) ((here.before p l).gives k s a c us here.stands here.asked sound ready.scoped o.0)) (says r Nil tt))
    gives e c ts (is_arrow {a = a} {b = b} {us = us} {vs = vs} eq sound_a sound_b fit) all ready one =
        let o = (alike_single (us ∷ vs ∷ []) ts fit).0 in
        let q = all_by Q _ _ (reads_arrow e a b eq) all in
        by_form e (Form-F.Arrow a b) c eq ready
        (previous_end c ready _ _ (λ p l. answers r (Gives b c s t) (gives b c vs sound_b (all_second Q _ _ q) ready o.1.0))
        (answers r (Gives a c s t) (gives a c us sound_a (all_first Q _ _ q) ready o.0)))
    gives e _ ts (is_when {a = a} {c = c} {tag = tag} {x = x} {d = d} {us = us} eq sees sound tagged has fit defined) all ready one =
        let step : ClockStep = record { tag = tag; name = x } in
        let o = (alike_single (us ∷ []) ts fit).0 in
        by_form e (Form-F.When a tag x) (c ++ step ∷ []) eq ready
        (subst (λ (b : Clock). Ends r (answer_to (Gives a b s t))) (sym (take_last c step))
        (answers r (Gives a c s t) (gives a c us sound (all_first Q _ _ (all_by Q _ _ (reads_when e a tag x eq) all)) (without c step ready) o.0)))
    gives e c ts (is_merge {x = x} {d = d} {bs = bs} {tss = tss} eq sees tagged defined sound all_tags fit) all ready one =
        let q = all_by Q _ _ (reads_merge e x bs eq) all in
        let qx : Q x = q x (in_first x _) in
        by_form e (Form-F.Merge x bs) c eq ready
        (values r (Variable x s t) _ (here.variables x d c qx sees ready.scoped) (merge_datum x d c sees)
        (λ v h. merge_end x d c bs tss v qx sees ready
        (texts.merge_of_value d.ty v bs tagged (subst (λ (types : List TypeDec). AreAllTags types d.ty (branch_tags bs)) types_same all_tags) (value_of r d.ty v (fits.variables k s x d c t (Value v) here.stands sees h)))
        (branches x d.ty c bs tss sound (λ y i. q y (in_more y x _ i)) (λ tag. stepped c x d tag ready sees qx) (alike_single tss ts fit).0)))
    gives e c ts (is_call {f = f} {args = args} {g = g} {tss = tss} eq named sound fit free called) all ready one =
        by_form e (Form-F.Call f args) c eq ready
        (answers r (Output e 0 c s t) (call_end_of e c ts f args (is_call eq named sound fit free called) eq
        (arguments args c tss sound (all_by Q _ _ (reads_call e f args eq) all) ready (call_single g tss ts fit)) ready 0 (has_first one)))
    gives e c ts (is_async_call {q = q} {f = f} {args = args} {g = g} {tss = tss} eq named sound fit free called) all ready one =
        by_form e (Form-F.AsyncCall q f args) c eq ready
        (answers r (Output e 0 c s t) (async_end_of e c ts q f args (is_async_call eq named sound fit free called) eq
        (arguments args c tss sound (all_by Q _ _ (reads_async_call e q f args eq) all) ready (async_single g tss ts fit)) ready 0 (has_first one)))
    gives e c ts (is_get {a = a} {us = us} eq sound fit) all ready one =
        by_form e (Form-F.Get a) c eq ready (answers r (Gives a c s t) (gives a c us sound (all_by Q _ _ (reads_get e a eq) all) ready (get_single us ts fit)))

    pub arguments : (es : List Expr) (c : Clock) (tss : List (List Ty)) → SoundArguments k (site_of s) es c tss → AllIn Q (flat_map (λ e. reads e.form) es) → IsReady r k s t c → AllSingle tss → Given c es
    arguments _ c _ no_arguments all ready ones i arg h = absurd (no_element i arg h)
    arguments _ c _ (an_argument {e = e} {es = es} {ts = ts} {tss = tss} sound defined rest) all ready ones zero arg h =
        subst (λ (x : Expr). Known r (Gives x c s t)) (some_same e arg h) (gives e c ts sound (all_first Q (reads e.form) _ all) ready ones.0)
    arguments _ c _ (an_argument {e = e} {es = es} {ts = ts} {tss = tss} sound defined rest) all ready ones (suc i) arg h =
        arguments es c tss rest (all_second Q (reads e.form) _ all) ready ones.1 i arg h

    pub branches : (x : Name) (ty : Ty) (c : Clock) (bs : List MergeBranch) (tss : List (List Ty)) → SoundBranches k (site_of s) x ty c bs tss → AllIn Q (flat_map (λ b. reads b.value.form) bs) →
        ((tag : Tag) → IsReady r k s t (c ++ record { tag = tag; name = x } ∷ [])) → AllSingle tss →
        (b : MergeBranch) → Contains bs b → Known r (Gives b.value (c ++ record { tag = b.tag; name = x } ∷ []) s t)
    branches x ty c _ _ no_branches all ready ones b h = absurd (no_branch b h)
    branches x ty c _ _ (a_branch {b = m} {bs = bs} {ts = ts} {tss = tss} tagged sound defined rest) all ready ones b h =
        branch_cases x c m bs b (contains_cases m bs b h) (gives m.value (c ++ record { tag = m.tag; name = x } ∷ []) ts sound (all_first Q (reads m.value.form) _ all) (ready m.tag) ones.0)
        (branches x ty c bs tss rest (all_second Q (reads m.value.form) _ all) ready ones.1 b)

  -- each output of a call, where an expression gives several or none
  pub outputs : (e : Expr) (c : Clock) (ts : List Ty) → Sound k (site_of s) e c ts → AllIn Q (reads e.form) → IsReady r k s t c → (IsSingle ts → ⊥) → (j : ℕ) → j < length ts → Known r (Output e j c s t)
  outputs e c ts (is_constant eq known number) all ready many j l = absurd (many (record { type = _; is = refl }))
  outputs e c ts (is_async_constant eq known number) all ready many j l = absurd (many (record { type = _; is = refl }))
  outputs e c ts (is_variable eq sees) all ready many j l = absurd (many (record { type = _; is = refl }))
  outputs e c ts (is_last eq sees init) all ready many j l = absurd (many (record { type = _; is = refl }))
  outputs e c ts (is_unary {op = op} {us = us} eq sound fit) all ready many j l = absurd (many (unary_result op (us ∷ []) ts fit))
  outputs e c ts (is_binary {op = op} {us = us} {vs = vs} eq sound_a sound_b fit nonzero) all ready many j l = absurd (many (binary_result op (us ∷ vs ∷ []) ts fit))
  outputs e c ts (is_if {is = is} {us = us} {vs = vs} eq sound_i sound_a sound_b fit) all ready many j l = absurd (many (if_result is (us ∷ vs ∷ []) ts fit))
  outputs e c ts (is_fby {us = us} {vs = vs} eq sound_a sound_b fit defined) all ready many j l = absurd (many (alike_single (us ∷ vs ∷ []) ts fit).1)
  outputs e c ts (is_pre {us = us} eq sound fit defined) all ready many j l = absurd (many (alike_single (us ∷ []) ts fit).1)
  outputs e c ts (is_arrow {us = us} {vs = vs} eq sound_a sound_b fit) all ready many j l = absurd (many (alike_single (us ∷ vs ∷ []) ts fit).1)
  outputs e _ ts (is_when {us = us} eq sees sound tagged has fit defined) all ready many j l = absurd (many (alike_single (us ∷ []) ts fit).1)
  outputs e c ts (is_merge {tss = tss} eq sees tagged defined sound all_tags fit) all ready many j l = absurd (many (alike_single tss ts fit).1)
  outputs e c ts (is_call {f = f} {args = args} {g = g} {tss = tss} eq named sound fit free called) all ready many j l =
      call_end_of e c ts f args (is_call eq named sound fit free called) eq
      (arguments args c tss sound (all_by Q _ _ (reads_call e f args eq) all) ready (call_single g tss ts fit)) ready j l
  outputs e c ts (is_async_call {q = q} {f = f} {args = args} {g = g} {tss = tss} eq named sound fit free called) all ready many j l =
      async_end_of e c ts q f args (is_async_call eq named sound fit free called) eq
      (arguments args c tss sound (all_by Q _ _ (reads_async_call e q f args eq) all) ready (async_single g tss ts fit)) ready j l
  outputs e c ts (is_get {us = us} eq sound fit) all ready many j l = absurd (many (get_result us ts fit))
