-- What a sound expression gives at an instant, where the variables that it reads fit then, and all fits before.
use Rattle.std.proofs.Common.{◌≡◌, ◌⊎◌, inl, inr, ℕ, zero, suc, ◌<◌, ◌≤◌, Bool, true, false, List, [], ◌∷◌, ◌++◌, map, length, Option, Some, refl, sym, subst, arith}
use Rattle.std.specs.Prelude.{if◌then◌else◌, ◌==◌, ⊤, Contains, slice_index_or}
use Rattle.std.specs.List.{find, flat_map}
use Rattle.std.proofs.lemmas.Bool.Decides.{Decides-eqb}
use Rattle.hept_ast.specs.Texts.{Name, is_in, tag_value}
use Rattle.hept_ast.specs.Scopes.{Clock, Scope, Under}
use Rattle.hept_ast.specs.Causal.{reads}
use Rattle.hept_ast.specs.Types.{Fits as Of_types, Plain_type, binary_fit, unary_fit}
use Rattle.hept_ast.specs.Meaning.{Question, Gives, Output, Variable, Answer, Absent, Nil, Value, Rule, Says, answer_to, form_rule, merged}
use Rattle.hept_ast.specs.Outputs.{said, asked}
use Rattle.hept_ast.specs.declared.tree.Form.{Form, out-Form}
use Rattle.hept_ast.specs.declared.tree.Form.TheOpen.{Form-F}
use Rattle.hept_ast.specs.declared.tree.Expr.{Expr}
use Rattle.hept_ast.specs.declared.tree.MergeBranch.{MergeBranch}
use Rattle.hept_ast.specs.declared.tree.CoreNode.{CoreNode}
use Rattle.hept_ast.specs.declared.tree.ClockStep.{ClockStep}
use Rattle.hept_ast.specs.declared.tree.Decl.{Decl}
use Rattle.hept_ast.specs.declared.tree.Tag.{Tag}
use Rattle.hept_ast.specs.declared.tree.Ty.{Ty}
use Rattle.hept_ast.specs.declared.tree.Ty.TheVariants as ty
use Rattle.hept_ast.specs.declared.tree.Plain.TheVariants.{Bool as Truth_value}
use Rattle.hept_ast.specs.declared.tree.UnaryOp.{UnaryOp}
use Rattle.hept_ast.specs.declared.tree.BinaryOp.{BinaryOp}
use Rattle.hept_ast.specs.TypedValues.{IsValueOf, value_count}
use Rattle.hept_ast.specs.Values.{unary_value, binary_value}
use Rattle.core_rules.specs.Cores.{as_node}
use Rattle.core_rules.specs.WellFormed.{CallsNode}
use Rattle.sound_expressions.proofs.FittedTypes.{unary_typed, binary_typed, UnaryTyped, BinaryTyped}
use Rattle.core_facts.specs.Undefined.{Among, first, AreIn, AreWithin}
use Rattle.core_fitting.specs.Sound.{IsCall, IsNamed, IsProper, expressions_in, results, Reads, one_more, Sound, SoundArguments, SoundBranches, SoundCall, SoundNode, SoundResets, Within, is_constant, is_async_constant, is_variable, is_unary, is_binary, is_if, is_fby, is_pre, is_arrow, is_when, is_merge, is_result, is_get, is_call, sync, async, no_arguments, an_argument, no_branches, a_branch}
use Rattle.core_fitting.specs.Holding.{Run, IsKnown, setting_of, types_in, Here, Earlier, Okay, gone, missing, given, Fits, VariableFits, Holds}
use Rattle.core_fitting.proofs.Presence.{Comes, Tells, Before, found, nothing, Restarts, before, earlier_fewer, earlier_front, here_front, here_grow, known_by, present_under, variable_under}
use Rattle.core_fitting.proofs.Calls.{CallGives, Inputs}
use Rattle.core_fitting.proofs.NamesRead.{AllIn, all_by, all_first, all_second, among_left, among_right, in_first, in_either, in_left, in_more, only, names_append, reads_arrow, reads_async_call, reads_binary, reads_call, reads_fby, reads_get, reads_if, reads_merge, reads_unary, reads_variable, reads_when, step_names, take_last}
use Rattle.core_fitting.proofs.Fitting.{HasValue, TypesFit, fits_at, has_value, here_of, okay_map, proper_of, tells_okay}

-- a proper clock whose variables are among some
pub record Ready (k : Within) (Q : Name → Type 0) (c : Clock) : Type 0 where
  pub proper : IsProper k c
  pub steps : AllIn Q (step_names c)

same_list : (l : List Name) → AreIn l l
same_list l x h = h

one_list : (a b : Ty) → a ∷ [] ≡ b ∷ [] → a ≡ b
one_list a b e = cc

module _ (r : Run) (types : TypesFit r.core) (k : Within) (node : SoundNode r.core k) (s : Scope) (t : ℕ) (rs : List Name) (Q : Name → Type 0)
    (avail : (x : Name) (d : Decl) (c : Clock) → Q x → Reads k x d c → VariableFits r k s t x d)
    (again : (q : ℕ) → q ≤ t → Restarts r s q rs) (resets : SoundResets k rs) (holding : (p : ℕ) → p < t → Holds r k s p) where
  abbrev inner : Scope
  inner = Under s rs

  -- what an expression gives on a clock that is present
  abbrev pub Given : Expr → Clock → Ty → List (List Name) → Type 0
  Given e c y n = Fits r (Gives e c inner t) s t c y n true

  pub absent : (q : Question) (d : Rule) (c : Clock) (y : Ty) (n : List (List Name)) → Here r s t c false → IsKnown r q Absent → Fits r q s t c y n false
  absent q d c y n h k = record { answer = Absent; known = k; okay = gone }

  pub gives_absent : (e : Expr) (c : Clock) (y : Ty) (n : List (List Name)) → Here r s t c false → Fits r (Gives e c inner t) s t c y n false
  gives_absent e c y n h = record { answer = Absent; known = known_by r (Gives e c inner t) Absent tt (asked (present_under r s rs t c false h) said); okay = gone }

  pub by_form : (e : Expr) (v : Form-F Form Expr MergeBranch) (c : Clock) (a : Answer) → Tells a → out-Form e.form ≡ v → Here r s t c true → Comes r (form_rule (setting_of r) v e c inner t) a → IsKnown r (Gives e c inner t) a
  by_form e v c a tell eq h f = known_by r (Gives e c inner t) a tell
      (asked (present_under r s rs t c true h) (subst (λ (x : Form-F Form Expr MergeBranch). Comes r (form_rule (setting_of r) x e c inner t) a) (sym eq) f))

  valued : (e : Expr) (v : Form-F Form Expr MergeBranch) (c : Clock) (y : Ty) (n : List (List Name)) (w : ℕ) → out-Form e.form ≡ v → Here r s t c true → IsValueOf (types_in r) y w →
      Comes r (form_rule (setting_of r) v e c inner t) (Value w) → Given e c y n
  valued e v c y n w eq h fits f = record { answer = Value w; known = by_form e v c (Value w) tt eq h f; okay = given fits }

  undefined : (e : Expr) (v : Form-F Form Expr MergeBranch) (c : Clock) (y : Ty) (n : List (List Name)) (l : List Name) → out-Form e.form ≡ v → Here r s t c true → Among l n → (Earlier r s t c l → ⊥) →
      Comes r (form_rule (setting_of r) v e c inner t) Nil → Given e c y n
  undefined e v c y n l eq h i ne f = record { answer = Nil; known = by_form e v c Nil tt eq h f; okay = missing i ne }

  -- the answer to a question, as it is
  passes : (e : Expr) (v : Form-F Form Expr MergeBranch) (c : Clock) (y : Ty) (n : List (List Name)) (q : Question) → out-Form e.form ≡ v → Here r s t c true →
      ((a : Answer) → IsKnown r q a → Comes r (form_rule (setting_of r) v e c inner t) a) → Fits r q s t c y n true → Given e c y n
  passes e v c y n q eq h f g =
      record { answer = g.answer; known = by_form e v c g.answer (tells_okay r s t c y n g.answer g.okay) eq h (f g.answer g.known); okay = g.okay }

  here_before : (c : Clock) → IsProper k c → (p : ℕ) → p < t → (b : Bool) × Here r s p c b
  here_before c proper p l = here_of r k s p (λ x. ⊤) (holding p l).active (λ x d e q reads. (holding p l).variables x d e reads) c proper (λ y i. tt)

  value_before : (e : Expr) (c : Clock) (y : Ty) → Sound r.core k rs e c y [] → IsProper k c → (i : Earlier r s t c rs) → HasValue r (Gives e c inner i.instant) y
  value_before e c y sound proper i = has_value r (Gives e c inner i.instant) s i.instant c y [] refl ((holding i.instant i.before).expressions rs e c y [] true resets sound proper i.here)

  -- ---- operators

  unary_given : (e a : Expr) (op : UnaryOp) (c : Clock) (v y : Ty) (n : List (List Name)) → out-Form e.form ≡ Form-F.Unary op a → Here r s t c true → unary_fit op ((v ∷ []) ∷ []) ≡ Of_types (y ∷ []) →
      Given a c v n → Given e c y n
  unary_given e a op c v y n eq h fit f = go f.answer f.known f.okay
    where
      o : UnaryTyped (types_in r) op (v ∷ []) (y ∷ [])
      o = unary_typed (types_in r) op (v ∷ []) (y ∷ []) fit

      go : (x : Answer) → IsKnown r (Gives a c inner t) x → Okay r s t c v n true x → Given e c y n
      go _ m (missing {l = l} i ne) = undefined e (Form-F.Unary op a) c y n l eq h i ne (asked m said)
      go _ m (given {v = x} p) = valued e (Form-F.Unary op a) c y n _ eq h
          (subst (λ (z : Ty). IsValueOf (types_in r) z (unary_value op x)) (sym (one_list y o.result o.results)) (o.value x (subst (λ (z : Ty). IsValueOf (types_in r) z x) (one_list v o.operand o.operands) p))) (asked m said)

  binary_given : (e a b : Expr) (op : BinaryOp) (c : Clock) (u v y : Ty) (n m : List (List Name)) → out-Form e.form ≡ Form-F.Binary op a b → Here r s t c true →
      binary_fit op ((u ∷ []) ∷ (v ∷ []) ∷ []) ≡ Of_types (y ∷ []) → Given a c u n → Given b c v m → Given e c y (n ++ m)
  binary_given e a b op c u v y n m eq h fit f g = go f.answer f.known f.okay
    where
      o : BinaryTyped (types_in r) op (u ∷ []) (v ∷ []) (y ∷ [])
      o = binary_typed (types_in r) op (u ∷ []) (v ∷ []) (y ∷ []) fit

      next_go : (x : ℕ) → IsValueOf (types_in r) u x → IsKnown r (Gives a c inner t) (Value x) → (z : Answer) → IsKnown r (Gives b c inner t) z → Okay r s t c v m true z → Given e c y (n ++ m)
      next_go x p j _ l (missing {l = w} i ne) = undefined e (Form-F.Binary op a b) c y (n ++ m) w eq h (among_right w n m i) ne (asked j (asked l said))
      next_go x p j _ l (given {v = z} q) = valued e (Form-F.Binary op a b) c y (n ++ m) _ eq h
          (subst (λ (w : Ty). IsValueOf (types_in r) w (binary_value op x z)) (sym (one_list y o.result o.results))
          (o.value x z (subst (λ (w : Ty). IsValueOf (types_in r) w x) (one_list u o.left o.lefts) p) (subst (λ (w : Ty). IsValueOf (types_in r) w z) (one_list v o.right o.rights) q)))
          (asked j (asked l said))

      go : (x : Answer) → IsKnown r (Gives a c inner t) x → Okay r s t c u n true x → Given e c y (n ++ m)
      go _ j (missing {l = l} i ne) = undefined e (Form-F.Binary op a b) c y (n ++ m) l eq h (among_left l n m i) ne (asked j said)
      go _ j (given {v = x} p) = next_go x p j g.answer g.known g.okay

  chosen_small : (n : ℕ) (b : Bool) (x y : ℕ) → x < n → y < n → (if b then x else y) < n
  chosen_small n true x y h j = h
  chosen_small n false x y h j = j

  if_given : (e i a b : Expr) (c : Clock) (y : Ty) (l n m : List (List Name)) → out-Form e.form ≡ Form-F.If i a b → Here r s t c true →
      Given i c (ty.Plain Truth_value) l → Given a c y n → Given b c y m → Given e c y (l ++ n ++ m)
  if_given e i a b c y l n m eq h test f g = go test.answer test.known test.okay
    where
      v : Form-F Form Expr MergeBranch
      v = Form-F.If i a b

      third : (z x : ℕ) → IsKnown r (Gives i c inner t) (Value z) → IsKnown r (Gives a c inner t) (Value x) → IsValueOf (types_in r) y x → (w : Answer) → IsKnown r (Gives b c inner t) w → Okay r s t c y m true w → Given e c y (l ++ n ++ m)
      third z x j q p _ o (missing {l = xs} among ne) = undefined e (Form-F.If i a b) c y (l ++ n ++ m) xs eq h (among_right xs (l ++ n) m among) ne (asked j (asked q (asked o said)))
      third z x j q p _ o (given {v = w} fit) = valued e (Form-F.If i a b) c y (l ++ n ++ m) _ eq h (chosen_small (value_count (types_in r) y) (z == 1) x w p fit) (asked j (asked q (asked o said)))

      second : (z : ℕ) → IsKnown r (Gives i c inner t) (Value z) → (x : Answer) → IsKnown r (Gives a c inner t) x → Okay r s t c y n true x → Given e c y (l ++ n ++ m)
      second z j _ q (missing {l = xs} among ne) = undefined e (Form-F.If i a b) c y (l ++ n ++ m) xs eq h (among_left xs (l ++ n) m (among_right xs l n among)) ne (asked j (asked q said))
      second z j _ q (given {v = x} p) = third z x j q p g.answer g.known g.okay

      go : (z : Answer) → IsKnown r (Gives i c inner t) z → Okay r s t c (ty.Plain Truth_value) l true z → Given e c y (l ++ n ++ m)
      go _ j (missing {l = xs} among ne) = undefined e (Form-F.If i a b) c y (l ++ n ++ m) xs eq h (among_left xs (l ++ n) m (among_left xs l n among)) ne (asked j said)
      go _ j (given {v = z} p) = second z j f.answer f.known f.okay

  -- ---- memories

  fby_given : (e a b : Expr) (c : Clock) (y : Ty) (n : List (List Name)) → out-Form e.form ≡ Form-F.Fby a b → Here r s t c true → IsProper k c → Given a c y n → Sound r.core k rs b c y [] → Given e c y n
  fby_given e a b c y n eq h proper f sound = go (before r s c rs (λ p. answer_to (Gives b c inner p)) (answer_to (Gives a c inner t)) t (here_before c proper) again)
    where
      go : Before r s t c rs (λ p. answer_to (Gives b c inner p)) (answer_to (Gives a c inner t)) (form_rule (setting_of r) (Form-F.Fby a b) e c inner t) → Given e c y n
      go (found i g) = let x = value_before b c y sound proper i in valued e (Form-F.Fby a b) c y n x.value eq h x.fits (g (Value x.value) (asked x.known said))
      go (nothing ne g) = passes e (Form-F.Fby a b) c y n (Gives a c inner t) eq h (λ x m. g x (asked m said)) f

  pre_given : (e a : Expr) (c : Clock) (y : Ty) → out-Form e.form ≡ Form-F.Pre a → Here r s t c true → IsProper k c → Sound r.core k rs a c y [] → Given e c y (rs ∷ [])
  pre_given e a c y eq h proper sound = go (before r s c rs (λ p. answer_to (Gives a c inner p)) (Says Nil) t (here_before c proper) again)
    where
      go : Before r s t c rs (λ p. answer_to (Gives a c inner p)) (Says Nil) (form_rule (setting_of r) (Form-F.Pre a) e c inner t) → Given e c y (rs ∷ [])
      go (found i g) = let x = value_before a c y sound proper i in valued e (Form-F.Pre a) c y (rs ∷ []) x.value eq h x.fits (g (Value x.value) (asked x.known said))
      go (nothing ne g) = undefined e (Form-F.Pre a) c y (rs ∷ []) rs eq h first ne (g Nil said)

  arrow_given : (e a b : Expr) (c : Clock) (y : Ty) (n m : List (List Name)) → out-Form e.form ≡ Form-F.Arrow a b → Here r s t c true → IsProper k c → AreWithin m rs → Given a c y n → Given b c y m → Given e c y n
  arrow_given e a b c y n m eq h proper within f g = go (before r s c rs (λ p. answer_to (Gives b c inner t)) (answer_to (Gives a c inner t)) t (here_before c proper) again)
    where
      right : Earlier r s t c rs → ((x : Answer) → Comes r (answer_to (Gives b c inner t)) x → Comes r (form_rule (setting_of r) (Form-F.Arrow a b) e c inner t) x) →
          (x : Answer) → IsKnown r (Gives b c inner t) x → Okay r s t c y m true x → Given e c y n
      right i l _ j (missing {l = w} among ne) = absurd (ne (earlier_fewer r s t c w rs (within w among) i))
      right i l _ j (given {v = x} p) = valued e (Form-F.Arrow a b) c y n x eq h p (l (Value x) (asked j said))

      go : Before r s t c rs (λ p. answer_to (Gives b c inner t)) (answer_to (Gives a c inner t)) (form_rule (setting_of r) (Form-F.Arrow a b) e c inner t) → Given e c y n
      go (found i l) = right i l g.answer g.known g.okay
      go (nothing ne l) = passes e (Form-F.Arrow a b) c y n (Gives a c inner t) eq h (λ x j. l x (asked j said)) f

  get_given : (e a : Expr) (c : Clock) (p : Plain_type) (n : List (List Name)) → out-Form e.form ≡ Form-F.Get a → Here r s t c true → Given a c (ty.Future p) n → Given e c (ty.Plain p) n
  get_given e a c p n eq h f = record {
    answer = f.answer;
    known = by_form e (Form-F.Get a) c f.answer (tells_okay r s t c (ty.Future p) n f.answer f.okay) eq h (asked f.known said);
    okay = okay_map r s t c c (ty.Future p) (ty.Plain p) n n f.answer (λ l i. (l, i, λ x. x)) (λ v q. q) f.okay;
  }

  -- ---- when and merge

  when_given : (e a : Expr) (c : Clock) (p : ClockStep) (y : Ty) (n : List (List Name)) → out-Form e.form ≡ Form-F.When a p.tag p.name → Here r s t (c ++ p ∷ []) true → Given a c y n → Given e (c ++ p ∷ []) y n
  when_given e a c p y n eq h f = record {
    answer = f.answer;
    known = by_form e (Form-F.When a p.tag p.name) (c ++ p ∷ []) f.answer (tells_okay r s t c y n f.answer f.okay) eq h
        (asked (subst (λ (b : Clock). IsKnown r (Gives a b inner t) f.answer) (sym (take_last c p)) f.known) said);
    okay = okay_map r s t c (c ++ p ∷ []) y y n n f.answer (λ l i. (l, i, earlier_front r s t c p l)) (λ v q. q) f.okay;
  }

  merge_given : (e : Expr) (x : Name) (c : Clock) (bs : List MergeBranch) (y : Ty) (b : MergeBranch) (v : ℕ) → out-Form e.form ≡ Form-F.Merge x bs → Here r s t c true → IsKnown r (Variable x s t) (Value v) →
      find (λ m. tag_value (types_in r) m.tag == v) bs ≡ Some b → HasValue r (Gives b.value (c ++ record { tag = b.tag; name = x } ∷ []) inner t) y → Given e c y []
  merge_given e x c bs y b v eq h known is value = valued e (Form-F.Merge x bs) c y [] value.value eq h value.fits
      (asked (variable_under r s rs x t (Value v) known)
      (subst (λ (o : Option MergeBranch). Comes r (merged (setting_of r) o x c inner t) (Value value.value)) (sym is) (asked value.known said)))

  at_step : (x : Name) (c : Clock) (tag : Tag) (v : ℕ) → IsKnown r (Variable x s t) (Value v) → tag_value (types_in r) tag ≡ v → Here r s t c true → Here r s t (c ++ record { tag = tag; name = x } ∷ []) true
  at_step x c tag v known is h = here_grow r s t c (record { tag = tag; name = x }) (Value v) true known ((Decides-eqb v (tag_value (types_in r) tag)).1 (sym is)) h

  -- ---- calls

  pub inputs_before : (es : List Expr) (c : Clock) (ds : List Decl) → SoundArguments r.core k rs es c ds → IsProper k c → (p : ℕ) → p < t → Here r s p c true → Inputs r inner p es c ds
  inputs_before _ c _ no_arguments proper p l h = tt
  inputs_before _ c _ (an_argument {e = e} {es = es} {d = d} {ds = ds} sound rest) proper p l h = (
    has_value r (Gives e c inner p) s p c d.ty [] refl ((holding p l).expressions rs e c d.ty [] true resets sound proper h),
    inputs_before es c ds rest proper p l h,
  )

  -- what a call gives where its arguments have values
  abbrev pub CallsGive : Type 0
  CallsGive = (e : Expr) (c : Clock) (f : Name) (args : List Expr) (future : Bool) (g : CoreNode) → IsCall e f args future → IsNamed r.core f g → CallsNode (map as_node r.core.nodes) k.name f →
      Contains (expressions_in k.node) e → SoundArguments r.core k rs args c g.inputs → IsProper k c → Here r s t c true → Inputs r inner t args c g.inputs → CallGives r inner t e c (results future g)

  call_form : (e : Expr) (c : Clock) (f : Name) (args : List Expr) (future : Bool) (y : Ty) → IsCall e f args future → Here r s t c true → HasValue r (Output e 0 c inner t) y → Given e c y []
  call_form e c f args _ y (sync eq) h v = valued e (Form-F.Call f args) c y [] v.value eq h v.fits (asked v.known said)
  call_form e c f args _ y (async {q = q} eq) h v = valued e (Form-F.AsyncCall q f args) c y [] v.value eq h v.fits (asked v.known said)

  call_reads : (e : Expr) (f : Name) (args : List Expr) (future : Bool) → IsCall e f args future → reads e.form ≡ flat_map (λ a. reads a.form) args
  call_reads e f args _ (sync eq) = reads_call e f args eq
  call_reads e f args _ (async {q = q} eq) = reads_async_call e q f args eq

  none_contained : {P : Type 0} (b : MergeBranch) → Contains [] b → P
  none_contained b h = let l = h.1 in absurd (omega arith)

  contained : (x y : MergeBranch) (xs : List MergeBranch) (j : ℕ) → j < length (x ∷ xs) → slice_index_or (x ∷ xs) j y ≡ y → (x ≡ y) ⊎ Contains xs y
  contained x y xs zero l e = inl e
  contained x y xs (suc j) l e = inr (j, omega arith, e)

  of_branch : (x : Name) (c : Clock) (y : Ty) (m b : MergeBranch) (bs : List MergeBranch) → (m ≡ b) ⊎ Contains bs b →
      (Here r s t (c ++ record { tag = m.tag; name = x } ∷ []) true → HasValue r (Gives m.value (c ++ record { tag = m.tag; name = x } ∷ []) inner t) y) →
      (Contains bs b → Here r s t (c ++ record { tag = b.tag; name = x } ∷ []) true → HasValue r (Gives b.value (c ++ record { tag = b.tag; name = x } ∷ []) inner t) y) →
      Here r s t (c ++ record { tag = b.tag; name = x } ∷ []) true → HasValue r (Gives b.value (c ++ record { tag = b.tag; name = x } ∷ []) inner t) y
  of_branch x c y m b bs (inl e) now later =
      subst (λ (z : MergeBranch). Here r s t (c ++ record { tag = z.tag; name = x } ∷ []) true → HasValue r (Gives z.value (c ++ record { tag = z.tag; name = x } ∷ []) inner t) y) e now
  of_branch x c y m b bs (inr i) now later = later i

  ready_more : (c : Clock) (x : Name) (d : Decl) (tag : Tag) → Ready k Q c → Reads k x d c → k.grade x ≡ [] → Q x → Ready k Q (c ++ record { tag = tag; name = x } ∷ [])
  ready_more c x d tag ready reads defined q = record {
    proper = one_more (record { tag = tag; name = x }) ready.proper reads defined;
    steps = λ y i. pick y (in_either y (step_names c) (x ∷ []) (subst (λ (ns : List Name). is_in y ns ≡ true) (names_append c (record { tag = tag; name = x })) i));
  }
    where
      pick : (y : Name) → (is_in y (step_names c) ≡ true) ⊎ (is_in y (x ∷ []) ≡ true) → Q y
      pick y (inl i) = ready.steps y i
      pick y (inr i) = subst Q (sym (only y x i)) q

  ready_less : (c : Clock) (p : ClockStep) (d : Decl) → Ready k Q (c ++ p ∷ []) → Reads k p.name d c → Ready k Q c
  ready_less c p d ready reads = record {
    proper = proper_of r.core k node p.name d c reads;
    steps = λ y i. ready.steps y (subst (λ (ns : List Name). is_in y ns ≡ true) (sym (names_append c p)) (in_left y (step_names c) (p.name ∷ []) i));
  }

  module _ (calls : CallsGive) where
    mutual
      pub gives : (e : Expr) (c : Clock) (y : Ty) (n : List (List Name)) → Sound r.core k rs e c y n → AllIn Q (reads e.form) → Ready k Q c → Here r s t c true → Given e c y n
      gives e c _ _ (is_constant {v = v} {t = p} eq known fits) all ready h = valued e (Form-F.Const v) c (ty.Plain p) [] _ eq h (types.constant v p fits known) said
      gives e c _ _ (is_async_constant {v = v} {t = p} eq known fits) all ready h = valued e (Form-F.AsyncConst v) c (ty.Future p) [] _ eq h (types.constant v p fits known) said
      gives e c _ _ (is_variable {x = x} {d = d} eq sees) all ready h =
          passes e (Form-F.Var x) c d.ty (k.grade x) (Variable x s t) eq h (λ a m. asked (variable_under r s rs x t a m) said)
          (fits_at r k s t x d c (avail x d c (all_by Q _ _ (reads_variable e x eq) all x (in_first x [])) sees) sees true h)
      gives e c y n (is_unary {a = a} {op = op} {u = u} eq sound fit) all ready h =
          unary_given e a op c u y n eq h fit (gives a c u n sound (all_by Q _ _ (reads_unary e a op eq) all) ready h)
      gives e c y _ (is_binary {a = a} {b = b} {op = op} {u = u} {v = v} {n = n} {m = m} eq left right fit) all ready h =
          let q = all_by Q _ _ (reads_binary e a b op eq) all in
          binary_given e a b op c u v y n m eq h fit (gives a c u n left (all_first Q _ _ q) ready h) (gives b c v m right (all_second Q _ _ q) ready h)
      gives e c y _ (is_if {i = i} {a = a} {b = b} {l = l} {n = n} {m = m} eq test left right) all ready h =
          let q = all_by Q _ _ (reads_if e i a b eq) all in
          let q' = all_first Q (reads i.form ++ reads a.form) (reads b.form) q in
          if_given e i a b c y l n m eq h (gives i c (ty.Plain Truth_value) l test (all_first Q (reads i.form) (reads a.form) q') ready h)
          (gives a c y n left (all_second Q (reads i.form) (reads a.form) q') ready h) (gives b c y m right (all_second Q (reads i.form ++ reads a.form) (reads b.form) q) ready h)
      gives e c y n (is_fby {a = a} {b = b} eq left right) all ready h =
          fby_given e a b c y n eq h ready.proper (gives a c y n left (all_by Q _ _ (reads_fby e a b eq) all) ready h) right
      gives e c y _ (is_pre {a = a} eq sound) all ready h = pre_given e a c y eq h ready.proper sound
      gives e c y n (is_arrow {a = a} {b = b} {m = m} eq left right within) all ready h =
          let q = all_by Q _ _ (reads_arrow e a b eq) all in
          arrow_given e a b c y n m eq h ready.proper within (gives a c y n left (all_first Q _ _ q) ready h) (gives b c y m right (all_second Q _ _ q) ready h)
      gives e _ y n (is_when {a = a} {c = c} {tag = tag} {x = x} {d = d} eq sees defined sound) all ready h =
          let q = all_by Q _ _ (reads_when e a tag x eq) all in
          let p : ClockStep = record { tag = tag; name = x } in
          when_given e a c p y n eq h (gives a c y n sound (all_first Q _ _ q) (ready_less c p d ready sees) (here_front r s t c p h))
      gives e c y _ (is_merge {x = x} {d = d} {bs = bs} eq sees defined tagged every sound) all ready h =
          let q = all_by Q _ _ (reads_merge e x bs eq) all in
          let qx : Q x = q x (in_first x _) in
          let v = has_value r (Variable x s t) s t c d.ty (k.grade x) defined (fits_at r k s t x d c (avail x d c qx sees) sees true h) in
          let b = types.branch d.ty v.value bs tagged every v.fits in
          merge_given e x c bs y b.0 v.value eq h v.known b.1
          (branches x c bs y sound (λ z i. q z (in_more z x _ i)) (λ tag. ready_more c x d tag ready sees defined qx) b.0 b.2 (at_step x c b.0.tag v.value v.known b.3 h))
      gives e c y _ (is_result (is_call {f = f} {args = args} {future = future} {g = g} call named leads stands sound is)) all ready h =
          call_form e c f args future y call h
          (subst (λ (ts : List Ty). CallGives r inner t e c ts) is
          (calls e c f args future g call named leads stands sound ready.proper h (arguments args c g.inputs sound (all_by Q _ _ (call_reads e f args future call) all) ready h)) 0 y refl)
      gives e c _ n (is_get {a = a} {t = p} eq sound) all ready h =
          get_given e a c p n eq h (gives a c (ty.Future p) n sound (all_by Q _ _ (reads_get e a eq) all) ready h)

      pub arguments : (es : List Expr) (c : Clock) (ds : List Decl) → SoundArguments r.core k rs es c ds → AllIn Q (flat_map (λ a. reads a.form) es) → Ready k Q c → Here r s t c true → Inputs r inner t es c ds
      arguments _ c _ no_arguments all ready h = tt
      arguments _ c _ (an_argument {e = e} {es = es} {d = d} {ds = ds} sound rest) all ready h = (
        has_value r (Gives e c inner t) s t c d.ty [] refl (gives e c d.ty [] sound (all_first Q (reads e.form) _ all) ready h),
        arguments es c ds rest (all_second Q (reads e.form) _ all) ready h,
      )

      pub branches : (x : Name) (c : Clock) (bs : List MergeBranch) (y : Ty) → SoundBranches r.core k rs x c bs y → AllIn Q (flat_map (λ b. reads b.value.form) bs) →
          ((tag : Tag) → Ready k Q (c ++ record { tag = tag; name = x } ∷ [])) → (b : MergeBranch) → Contains bs b →
          Here r s t (c ++ record { tag = b.tag; name = x } ∷ []) true → HasValue r (Gives b.value (c ++ record { tag = b.tag; name = x } ∷ []) inner t) y
      branches x c _ y no_branches all ready b i h = none_contained b i
      branches x c _ y (a_branch {b = m} {bs = bs} sound rest) all ready b i h =
          of_branch x c y m b bs (contained m b bs i.0 i.1 i.2)
          (λ g. has_value r (Gives m.value (c ++ record { tag = m.tag; name = x } ∷ []) inner t) s t (c ++ record { tag = m.tag; name = x } ∷ []) y [] refl
          (gives m.value (c ++ record { tag = m.tag; name = x } ∷ []) y [] sound (all_first Q (reads m.value.form) _ all) (ready m.tag) g))
          (branches x c bs y rest (all_second Q (reads m.value.form) _ all) ready b) h

    -- each output of a call
    pub outputs : (e : Expr) (c : Clock) (ts : List Ty) → SoundCall r.core k rs e c ts → AllIn Q (reads e.form) → Ready k Q c → Here r s t c true → CallGives r inner t e c ts
    outputs e c _ (is_call {f = f} {args = args} {future = future} {g = g} call named leads stands sound is) all ready h =
        subst (λ (ts : List Ty). CallGives r inner t e c ts) is
        (calls e c f args future g call named leads stands sound ready.proper h (arguments args c g.inputs sound (all_by Q _ _ (call_reads e f args future call) all) ready h))

    pub gives_here : (e : Expr) (c : Clock) (y : Ty) (n : List (List Name)) → Sound r.core k rs e c y n → AllIn Q (reads e.form) → Ready k Q c → (b : Bool) → Here r s t c b → Fits r (Gives e c inner t) s t c y n b
    gives_here e c y n sound all ready true h = gives e c y n sound all ready h
    gives_here e c y n sound all ready false h = gives_absent e c y n h
