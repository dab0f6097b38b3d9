-- One lemma for each form that is built.
use Rattle.std.proofs.Common.{◌≡◌, ℕ, suc, ◌-◌, ◌<◌, true, List, [], ◌∷◌, ◌++◌, length, take, sym, subst, ap, ◌∙◌, arith}
use Rattle.std.specs.Prelude.{slice_index}
use Rattle.std.proofs.lemmas.List.{take_all}
use Rattle.hept_ast.specs.Texts.{Name, const_value, is_in, place_in, tag_value}
use Rattle.hept_ast.specs.Scopes.{Clock, Scope, Under}
use Rattle.hept_ast.specs.declared.tree.TypeDec.{TypeDec}
use Rattle.hept_ast.specs.declared.tree.Const.{Const}
use Rattle.hept_ast.specs.declared.tree.Tag.{Tag}
use Rattle.hept_ast.specs.declared.tree.UnaryOp.{UnaryOp}
use Rattle.hept_ast.specs.declared.tree.BinaryOp.{BinaryOp}
use Rattle.hept_ast.specs.declared.tree.Expr.{Expr}
use Rattle.hept_ast.specs.declared.tree.MergeBranch.{MergeBranch}
use Rattle.hept_ast.specs.declared.tree.ClockStep.{ClockStep}
use Rattle.hept_ast.specs.declared.tree.Form.TheVariants as form
use Rattle.step_plans.specs.Things.{Thing, Here, Named, Part, Branch_of}
use Rattle.step_plans.specs.Operations.{Register, In_values, Unary_of, Binary_of, Divided_by, operation_of}
use Rattle.step_plans.specs.Plans.{Ground, Entry, Has, constant, unary, binary, divided, chosen, flag, branch, variable, sampled, last_branch, merged, here_under, Means, Progress}
use Rattle.step_plans.specs.declared.instruction.Instruction.{Instruction}
use Rattle.step_plans.specs.declared.instruction.Instruction.TheVariants as does
use Rattle.step_plans.proofs.FormsOut.{var_form, const_form, unary_form, binary_form, if_form}
use Rattle.plan_expressions.specs.Computable.{IsDivisorOf}
use Rattle.plan_expressions.specs.Building.{Emitted, IsAdded, KnowsMore}
use Rattle.plan_expressions.specs.Grounded.{branch_clock}
use Rattle.plan_expressions.specs.Clocked.{EmitsOn, EmitsBranch, EmitsBranches, Supplied}
use Rattle.plan_expressions.specs.declared.draft.Draft.{Draft}
use Rattle.plan_expressions.proofs.PlacesOf.{named_at}
use Rattle.plan_expressions.proofs.FormsMore.{when_form, merge_form}
use Rattle.plan_expressions.proofs.Adding.{knows_same, knows_on, after, means_more, adds_thing, adds, computes_as}
use Rattle.plan_expressions.proofs.Presences.{supplied_later, outer_supplied, inner_supplied}
use Rattle.plan_expressions.proofs.Grounds.{unary_ground, binary_ground, if_ground, when_ground, merge_ground, first_ground, rest_ground}

module _ (types : List TypeDec) (variables : List Name) (registers presences : List ℕ) where
  -- what is given, after what was emitted
  later : (g : Ground) (start before : Progress) (old new : Draft) (thing : Thing) (r : ℕ) (b s : Scope) (c : Clock) (x : Emitted g start before old new thing r) →
      Supplied before.entries b s c variables registers presences old.at → Supplied x.after.entries b s c variables registers presences new.at
  later g start before old new thing r b s c x given = supplied_later before x.after b s c variables registers presences old.at new.at x.longer x.more given

  pub emit_variable : (draft : Draft) (e : Expr) (x : Name) (r : ℕ) → e.form ≡ form.Var x → is_in x variables ≡ true → r ≡ slice_index registers (place_in x variables) → EmitsOn types variables registers presences draft draft e r
  emit_variable draft e x r is among at g node b s c h start before same leads here given ground =
      let v = given.right (place_in x variables) x (named_at x variables among) in
      subst (λ (q : ℕ). Emitted g start before draft draft (Part e c s) q) (sym at)
      (means_more g start before draft (Part e c s) (slice_index registers (place_in x variables)) leads v.1 (variable e x c s h (var_form e x is) here v.0))

  pub emit_constant : (old new : Draft) (e : Expr) (k : Const) (v r : ℕ) → e.form ≡ form.Const k → v ≡ const_value types k → IsAdded old new (does.Constant v) r → EmitsOn types variables registers presences old new e r
  emit_constant old new e k v r is value added g node b s c h start before same leads here given ground =
      adds g start before before old old new e c s h (does.Constant v) r added leads (knows_same before) (omega arith) here
      (constant k (const_form e k is) (value ∙ ap (λ (ts : List TypeDec). const_value ts k) (sym same)))

  pub emit_unary : (old mid new : Draft) (e a : Expr) (op : UnaryOp) (i : Instruction) (ra r : ℕ) → e.form ≡ form.Unary op a → operation_of i ≡ Unary_of op (In_values ra) → EmitsOn types variables registers presences old mid a ra →
      IsAdded mid new i r → EmitsOn types variables registers presences old new e r
  emit_unary old mid new e a op i ra r is does of_a added g node b s c h start before same leads here given ground =
      let x = of_a g node b s c h start before same leads here given (unary_ground g node b s c e op a is ground) in
      adds g start before x.after old mid new e c s h i r added x.leads x.more x.longer here (computes_as g x.after.entries e c s _ i does (unary a (unary_form e op a is) x.has))

  pub emit_binary : (old one mid new : Draft) (e a d : Expr) (op : BinaryOp) (i : Instruction) (ra rd r : ℕ) → e.form ≡ form.Binary op a d → operation_of i ≡ Binary_of op (In_values ra) (In_values rd) →
      EmitsOn types variables registers presences old one a ra → EmitsOn types variables registers presences one mid d rd → IsAdded mid new i r → EmitsOn types variables registers presences old new e r
  emit_binary old one mid new e a d op i ra rd r is does of_a of_d added g node b s c h start before same leads here given ground =
      let grounds = binary_ground g node b s c e op a d is ground in
      let x = of_a g node b s c h start before same leads here given grounds.0 in
      let y = of_d g node b s c h start x.after same x.leads (x.more.grows _ h here) (later g start before old one _ ra b s c x given) grounds.1 in
      adds g start before y.after old mid new e c s h i r added y.leads (knows_on before x.after y.after x.more y.more) (omega (arith, x.longer, y.longer)) here
      (computes_as g y.after.entries e c s _ i does (binary a d (binary_form e op a d is) (y.more.grows _ _ x.has) y.has))

  pub emit_divided : (old mid new : Draft) (e a d : Expr) (op : BinaryOp) (i : Instruction) (ra k r : ℕ) → e.form ≡ form.Binary op a d → operation_of i ≡ Divided_by op (In_values ra) k →
      EmitsOn types variables registers presences old mid a ra → IsDivisorOf types d k → IsAdded mid new i r → EmitsOn types variables registers presences old new e r
  emit_divided old mid new e a d op i ra k r is does of_a by added g node b s c h start before same leads here given ground =
      let x = of_a g node b s c h start before same leads here given (binary_ground g node b s c e op a d is ground).0 in
      adds g start before x.after old mid new e c s h i r added x.leads x.more x.longer here
      (computes_as g x.after.entries e c s _ i does
      (divided a d by.constant (binary_form e op a d is) (const_form d by.constant by.is) (by.value_of ∙ ap (λ (ts : List TypeDec). const_value ts by.constant) (sym same)) x.has))

  pub emit_if : (old none one mid new : Draft) (e k a d : Expr) (rk ra rd r : ℕ) → e.form ≡ form.If k a d → EmitsOn types variables registers presences old none k rk → EmitsOn types variables registers presences none one a ra →
      EmitsOn types variables registers presences one mid d rd → IsAdded mid new (does.Select rk 1 ra rd) r → EmitsOn types variables registers presences old new e r
  emit_if old none one mid new e k a d rk ra rd r is of_k of_a of_d added g node b s c h start before same leads here given ground =
      let grounds = if_ground g node b s c e k a d is ground in
      let w = of_k g node b s c h start before same leads here given grounds.0 in
      let supplied = later g start before old none _ rk b s c w given in
      let x = of_a g node b s c h start w.after same w.leads (w.more.grows _ h here) supplied grounds.1 in
      let more : KnowsMore before x.after = knows_on before w.after x.after w.more x.more in
      let y = of_d g node b s c h start x.after same x.leads (more.grows _ h here) (later g start w.after none one _ ra b s c x supplied) grounds.2 in
      adds g start before y.after old mid new e c s h (does.Select rk 1 ra rd) r added y.leads (knows_on before x.after y.after more y.more) (omega (arith, w.longer, x.longer, y.longer)) here
      (chosen k a d (if_form e k a d is) (y.more.grows _ _ (x.more.grows _ _ w.has)) (y.more.grows _ _ x.has) y.has)

  -- `when` makes no instruction
  pub emit_when : (old new : Draft) (e a : Expr) (tag : Tag) (x : Name) (r : ℕ) → e.form ≡ form.When a tag x → 1 < length presences → EmitsOn types variables registers (take (length presences - 1) presences) old new a r →
      EmitsOn types variables registers presences old new e r
  emit_when old new e a tag x r is several of_a g node b s c h start before same leads here given ground =
      let long : length presences ≡ suc (length c) = given.present.long (omega arith) in
      let y = of_a g node b s (take (length c - 1) c) _ start before same leads (given.present.right (length c - 1) (omega arith))
      (outer_supplied before.entries b s c variables registers presences old.at several given) (when_ground g node b s c e a tag x is ground) in
      after g start before old new new _ (Part e c s) r r y
      (means_more g start y.after new (Part e c s) r y.leads y.within (sampled e a tag x c s h (when_form e a tag x is) (y.more.grows _ h here) y.has))

  -- ---- merges

  under : (g : Ground) (entries : List Entry) (b s : Scope) (resets : List Name) (c : Clock) (r : Register) → s ≡ Under b resets → Has entries (Here c b) r → Means g entries (Here c s) r
  under g entries b s resets c r is here = subst (λ (z : Scope). Means g entries (Here c z) r) (sym is) (here_under c b resets here)

  -- a branch is present where the variable has the value of its tag
  pub emit_branch_of : (old mid new : Draft) (x : Name) (d : MergeBranch) (outer on value here r : ℕ) → is_in x variables ≡ true → 0 < length presences → on ≡ slice_index registers (place_in x variables) →
      outer ≡ slice_index presences (length presences - 1) → value ≡ tag_value types d.tag → IsAdded old mid (does.Flag outer on value) here → EmitsOn types variables registers (presences ++ here ∷ []) mid new d.value r →
      EmitsBranch types variables registers presences old new x d r
  emit_branch_of old mid new x d outer on value here r among some at at_outer is added of_d g node b s c start before same leads given tested ground =
      let step : ClockStep = record { tag = d.tag; name = x } in
      let long : length presences ≡ suc (length c) = given.present.long some in
      let v = given.body (place_in x variables) x (named_at x variables among) in
      let last : length presences - 1 ≡ length c = omega arith in
      let p : Has before.entries (Here c b) (In_values outer) =
      subst (λ (q : ℕ). Has before.entries (Here c b) (In_values q)) (sym (at_outer ∙ ap (slice_index presences) last))
      (subst (λ (k : Clock). Has before.entries (Here k b) (In_values (slice_index presences (length c)))) (take_all (length c) c (omega arith)) (given.present.body (length c) (omega arith))) in
      let named : Has before.entries (Named x b) (In_values on) = subst (λ (q : ℕ). Has before.entries (Named x b) (In_values q)) (sym at) v.0 in
      let flagged = adds_thing g start before before old old mid (Here (branch_clock c x d) b) (does.Flag outer on value) here added leads (knows_same before) (omega arith)
      (flag node c step b tested.place tested.body p named tested.tested tested.clock (is ∙ ap (λ (ts : List TypeDec). tag_value ts d.tag) (sym same))) in
      let seen = means_more g start flagged.after mid (Here (branch_clock c x d) s) here flagged.leads flagged.within (under g flagged.after.entries b s tested.resets (branch_clock c x d) _ tested.under flagged.has) in
      let supplied = later g start flagged.after mid mid _ here b s c seen (later g start before old mid _ here b s c flagged given) in
      let y = of_d g node b s (branch_clock c x d) (In_values here) start seen.after same seen.leads seen.has
      (inner_supplied seen.after.entries b s c step variables registers presences mid.at here some supplied (seen.more.grows _ _ flagged.has) seen.has seen.within) ground in
      after g start before old mid new _ _ here r flagged (after g start flagged.after mid mid new _ _ here r seen y)

  pub emit_last : (old new : Draft) (x : Name) (d : MergeBranch) (r : ℕ) → EmitsBranch types variables registers presences old new x d r → EmitsBranches types variables registers presences old new x (d ∷ []) r
  emit_last old new x d r of_d g node b s c start before same leads given tested ground =
      let y = of_d g node b s c start before same leads given tested (first_ground g node b s c x d [] ground) in
      after g start before old new new _ _ r r y (means_more g start y.after new (Branch_of x (d ∷ []) c s) r y.leads y.within (last_branch x d c s y.has))

  pub emit_more : (old one mid new : Draft) (x : Name) (d : MergeBranch) (branches : List MergeBranch) (on value rest other r : ℕ) → is_in x variables ≡ true → on ≡ slice_index registers (place_in x variables) → value ≡ tag_value types d.tag →
      EmitsBranches types variables registers presences old one x branches rest → EmitsBranch types variables registers presences one mid x d other → IsAdded mid new (does.Select on value other rest) r →
      EmitsBranches types variables registers presences old new x (d ∷ branches) r
  emit_more old one mid new x d branches on value rest other r among at is of_rest of_d added g node b s c start before same leads given tested ground =
      let w = of_rest g node b s c start before same leads given tested (rest_ground g node b s c x d branches ground) in
      let y = of_d g node b s c start w.after same w.leads (later g start before old one _ rest b s c w given) tested (first_ground g node b s c x d branches ground) in
      let more : KnowsMore before y.after = knows_on before w.after y.after w.more y.more in
      let v = given.right (place_in x variables) x (named_at x variables among) in
      adds_thing g start before y.after old mid new (Branch_of x (d ∷ branches) c s) (does.Select on value other rest) r added y.leads more (omega (arith, w.longer, y.longer))
      (branch x d branches c s (more.grows _ _ (subst (λ (q : ℕ). Has before.entries (Named x s) (In_values q)) (sym at) v.0)) (is ∙ ap (λ (ts : List TypeDec). tag_value ts d.tag) (sym same)) y.has (y.more.grows _ _ w.has))

  pub emit_merge : (old new : Draft) (e : Expr) (x : Name) (branches : List MergeBranch) (r : ℕ) → e.form ≡ form.Merge x branches → is_in x variables ≡ true → EmitsBranches types variables registers presences old new x branches r →
      EmitsOn types variables registers presences old new e r
  emit_merge old new e x branches r is among of_all g node b s c h start before same leads here given ground =
      let m = merge_ground g node b s c e x branches is ground in
      let y = of_all g node b s c start before same leads given m.tested m.branches_are in
      let v = given.right (place_in x variables) x (named_at x variables among) in
      after g start before old new new _ _ r r y
      (means_more g start y.after new (Part e c s) r y.leads y.within
      (merged e x branches c s h _ m.place (merge_form e x branches is) (y.more.grows _ h here) (y.more.grows _ _ v.0) m.covered y.has))

  pub emits_of : (old new : Draft) (a b : Expr) (r : ℕ) → a ≡ b → EmitsOn types variables registers presences old new a r → EmitsOn types variables registers presences old new b r
  emits_of old new a b r e h = subst (λ (x : Expr). EmitsOn types variables registers presences old new x r) e h
