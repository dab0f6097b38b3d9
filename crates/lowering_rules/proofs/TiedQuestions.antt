-- Which questions about a program and the core that comes of it are tied, and that their rules go alike.
use Rattle.std.proofs.Common.{◌≡◌, ◌==◌, ◌⊎◌, inl, inr, ℕ, zero, suc, Bool, true, false, cond, List, [], ◌∷◌, ◌++◌, Option, Some, None, refl, sym, ap, subst}
use Rattle.std.specs.Prelude.{if◌then◌else◌, slice_get, slice_index_or}
use Rattle.std.specs.List.{find, flat_map}
use Rattle.std.specs.Option.{option_map}
use Rattle.hept_ast.specs.Texts.{Name, is_in, place_in, tag_value}
use Rattle.hept_ast.specs.Scopes.{Clock, Text, Scope, Top, Called, Under, inputs_of, outputs_of, text_of, home, calls_around}
use Rattle.hept_ast.specs.Meaning.{Question, Gives, Output, Variable, Defined, Defines, Present, Active, Restarted, Rule, Says, Reads, Setting, is_true, is_value, steps_hold, before, merged, form_rule, output_rule, outputs_rule, reply_or, argument_rule, own_rule, variable_rule, present_rule, active_rule, restarted_rule, defines_rule, if_defined, Is, rule, answer_to, if_present}
use Rattle.hept_ast.specs.Settings.{Marks, Replies, of_core, of_program}
use Rattle.hept_ast.specs.Stages.{ClockedProgram}
use Rattle.hept_ast.specs.ClockMaps as maps
use Rattle.hept_ast.specs.declared.tree.Core.{Core}
use Rattle.hept_ast.specs.declared.tree.Block.{Block}
use Rattle.hept_ast.specs.declared.tree.Branch.{Branch}
use Rattle.hept_ast.specs.declared.tree.State.{State}
use Rattle.hept_ast.specs.declared.tree.Equation.{Equation, out-Equation}
use Rattle.hept_ast.specs.declared.tree.Equation.TheOpen.{Equation-F}
use Rattle.hept_ast.specs.declared.tree.Expr.{Expr}
use Rattle.hept_ast.specs.declared.tree.MergeBranch.{MergeBranch}
use Rattle.hept_ast.specs.declared.tree.Form.{Form, out-Form}
use Rattle.hept_ast.specs.declared.tree.Form.TheOpen.{Form-F}
use Rattle.naming_rules.proofs.Shapes.{out_Const, out_Var, out_Unary, out_Binary, out_If, out_Fby, out_Pre, out_Arrow, out_When, out_Merge, out_Call, out_AsyncCall, out_AsyncConst, out_Get}
use Rattle.core_naming.proofs.Matching.{Matches, says, reads, asks, if_matches, go_on_matches, present_matches, previous_matches, count_matches}
use Rattle.lowering_rules.specs.CallPaths.{text_calls, LeadsTo, itself, into, call_path, Agree}
use Rattle.lowering_rules.specs.Ties.{Sides, TiedNodes}
use Rattle.lowering_rules.specs.TiedScopes.{LowersIn, const, var, unary, binary, choice, fby, pre, arrow, when, merge, call, async_call, async_const, get, LowersAllIn, no_exprs, more_exprs, LowersBranchesIn, no_branches, more_branches, TiedScope, top, called}
use Rattle.lowering_rules.proofs.Matching.{alike_by}
use Rattle.lowering_rules.proofs.TiedTexts.{TiedOption, no_text, both, found_tied, inputs_same, outputs_same, clock_same}

-- ---- ties

module _ (z : Sides) where
  -- a body of the core, or what stands on a right side in it
  pub data IsWithin (r : Scope) : Scope → Type 0 where
    the_body : IsWithin r r
    a_right : IsWithin r (Under r [])

  pub data Tie : Question → Question → Type 0 where
    gives : {e d : Expr} {c : Clock} {s r : Scope} {t n m : ℕ} → TiedScope z s r → LowersIn (text_calls (text_of s)) n e d m → Tie (Gives e c s t) (Gives d c (Under r []) t)
    output : {e d : Expr} {j : ℕ} {c : Clock} {s r : Scope} {t n m : ℕ} → TiedScope z s r → LowersIn (text_calls (text_of s)) n e d m → Tie (Output e j c s t) (Output d j c (Under r []) t)
    variable : {x : Name} {s r u : Scope} {t : ℕ} → TiedScope z s r → IsWithin r u → Tie (Variable x s t) (Variable x u t)
    present : {c : Clock} {s r u : Scope} {t : ℕ} → TiedScope z s r → IsWithin r u → Tie (Present c s t) (Present c u t)
    active : {s r : Scope} {t : ℕ} → TiedScope z s r → Tie (Active s t) (Active r t)
    inner_active : {s r : Scope} {t : ℕ} → TiedScope z s r → Tie (Active s t) (Active (Under r []) t)
    restarted : {s r : Scope} {t : ℕ} → TiedScope z s r → Tie (Restarted s t) (Restarted r t)
    inner_restarted : {s r : Scope} {t : ℕ} → TiedScope z s r → Tie (Restarted s t) (Restarted (Under r []) t)
    defined : {x : Name} {s r : Scope} {t : ℕ} → TiedScope z s r → Tie (Defined x s t) (Defined x r t)
    defines : {x : Name} {e : Equation} → Tie (Defines x e) (Defines x e)

  pub active_within : {s r u : Scope} {t : ℕ} → TiedScope z s r → IsWithin r u → Tie (Active s t) (Active u t)
  active_within h the_body = active h
  active_within h a_right = inner_active h

  -- the calls around tied scopes lead to their texts
  pub leads : (s r : Scope) → TiedScope z s r → LeadsTo z.nodes z.chosen (calls_around s) (calls_around r) (text_of s)
  leads _ _ (top e k) = subst (λ (text : Text). LeadsTo z.nodes z.chosen [] [] text) (sym e) itself
  leads _ _ (called {s = s} {r = r} {n = n} h l k i) = into n (leads s r h) i.at i.node

-- a program and the core that comes of it
abbrev pub sides_of : ClockedProgram → Core → Text → Sides
sides_of c core chosen = record { clock = maps.clock_in c.clocks; nodes = c.program.nodes; lows = core.nodes; chosen = chosen }

module _ (c : ClockedProgram) (core : Core) (chosen : Text) (nodes : TiedNodes (maps.clock_in c.clocks) 0 c.program.nodes core.nodes)
    (marked : Marks) (replies others : Replies) (agree : Agree c.program.nodes chosen replies others) where
  abbrev pub sides : Sides
  sides = sides_of c core chosen

  abbrev pub w : Setting
  w = of_program c.program sides.clock marked replies

  -- the core with the program's types, which are its own
  abbrev pub v : Setting
  v = record (of_core core marked others) { types = c.program.types }

  abbrev pub Tied : Scope → Scope → Type 0
  Tied s r = TiedScope sides s r

  abbrev pub Tying : Question → Question → Type 0
  Tying q p = Tie sides q p

  abbrev pub Alike : Rule → Rule → Type 0
  Alike d e = Matches Tying d e

  -- ---- sides

  steps_alike : (k : Clock) (s r u : Scope) (t : ℕ) → Tied s r → IsWithin sides r u → Alike (steps_hold w k s t) (steps_hold v k u t)
  steps_alike [] s r u t h i = says
  steps_alike (step ∷ k) s r u t h i =
      asks (variable h i) (λ a. if_matches (is_value (tag_value w.types step.tag) a) (steps_alike k s r u t h i) says)

  present_alike : (k : Clock) (s r u : Scope) (t : ℕ) → Tied s r → IsWithin sides r u → Alike (present_rule w k s t) (present_rule v k u t)
  present_alike k s r u t h i = asks (active_within sides h i) (λ a. if_matches (is_true a) (steps_alike k s r u t h i) says)

  -- ---- expressions

  before_alike : (k : Clock) (s r : Scope) (t : ℕ) {go go' : ℕ → Rule} {none none' : Rule} → Tied s r →
      ((p : ℕ) → Alike (go p) (go' p)) → Alike none none' → Alike (before w k s t go none) (before v k (Under r []) t go' none')
  before_alike k s r t h f g =
      previous_matches (λ p. Present k s p) (λ p. Restarted s p) (λ p. Present k (Under r []) p) (λ p. Restarted (Under r []) p) t
      (λ p. present h a_right) (λ p. inner_restarted h) f g

  branches_alike : (u : ℕ) (x : Name) (k : Clock) (s r : Scope) (t : ℕ) {n m : ℕ} {bs cs : List MergeBranch} → Tied s r → LowersBranchesIn (text_calls (text_of s)) n bs cs m →
      Alike (merged w (find (λ b. tag_value w.types b.tag == u) bs) x k s t) (merged v (find (λ b. tag_value w.types b.tag == u) cs) x k (Under r []) t)
  branches_alike u x k s r t h no_branches = says
  branches_alike u x k s r t h (more_branches {p = p} {tag = tag} {e = e} {r = d} {bs = bs} {cs = cs} l ls) = go (tag_value w.types tag == u) (branches_alike u x k s r t h ls)
    where
      go : (i : Bool) → Alike (merged w (find (λ b. tag_value w.types b.tag == u) bs) x k s t) (merged v (find (λ b. tag_value w.types b.tag == u) cs) x k (Under r []) t) →
          Alike (merged w (cond i (Some (record { place = p; tag = tag; value = e })) (find (λ b. tag_value w.types b.tag == u) bs)) x k s t)
          (merged v (cond i (Some (record { place = p; tag = tag; value = d })) (find (λ b. tag_value w.types b.tag == u) cs)) x k (Under r []) t)
      go true rest = asks (gives h l) (λ a. says)
      go false rest = rest

  -- a rule by the form of its expression
  form_by : (e d : Expr) (f g : Form-F Form Expr MergeBranch) (k : Clock) (s r : Scope) (t : ℕ) → Tied s r → out-Form e.form ≡ f → out-Form d.form ≡ g →
      Alike (form_rule w f e k s t) (form_rule v g d k (Under r []) t) → Alike (rule w (Gives e k s t)) (rule v (Gives d k (Under r []) t))
  form_by e d f g k s r t h p q l =
      alike_by (ap (λ (z : Form-F Form Expr MergeBranch). if_present (Present k s t) (form_rule w z e k s t)) p)
      (ap (λ (z : Form-F Form Expr MergeBranch). if_present (Present k (Under r []) t) (form_rule v z d k (Under r []) t)) q)
      (present_matches _ _ (present h a_right) l)

  gives_alike : (e d : Expr) (k : Clock) (s r : Scope) (t n m : ℕ) → Tied s r → LowersIn (text_calls (text_of s)) n e d m → Alike (rule w (Gives e k s t)) (rule v (Gives d k (Under r []) t))
  gives_alike _ _ k s r t n m h (const {k = z}) = form_by _ _ _ _ k s r t h (out_Const z) (out_Const z) says
  gives_alike _ _ k s r t n m h (var {x = x}) = form_by _ _ _ _ k s r t h (out_Var x) (out_Var x) (asks (variable h a_right) (λ a. says))
  gives_alike _ _ k s r t n m h (unary {op = op} {a = a} {b = b} l) = form_by _ _ _ _ k s r t h (out_Unary op a) (out_Unary op b) (asks (gives h l) (λ x. go_on_matches x (λ i. says)))
  gives_alike _ _ k s r t n m h (binary {op = op} {a = a} {b = b} {c = c'} {d = d} l i) =
      form_by _ _ _ _ k s r t h (out_Binary op a c') (out_Binary op b d) (asks (gives h l) (λ x. go_on_matches x (λ y. asks (gives h i) (λ z. go_on_matches z (λ u. says)))))
  gives_alike _ _ k s r t n m h (choice {i = i} {j = j} {a = a} {b = b} {c = c'} {d = d} l o p) =
      form_by _ _ _ _ k s r t h (out_If i a c') (out_If j b d)
      (asks (gives h l) (λ x. go_on_matches x (λ y. asks (gives h o) (λ z. go_on_matches z (λ u. asks (gives h p) (λ e. go_on_matches e (λ f. says)))))))
  gives_alike _ _ k s r t n m h (fby {a = a} {b = b} {c = c'} {d = d} l i) =
      form_by _ _ _ _ k s r t h (out_Fby a c') (out_Fby b d) (before_alike k s r t h (λ p. asks (gives h i) (λ x. says)) (asks (gives h l) (λ x. says)))
  gives_alike _ _ k s r t n m h (pre {a = a} {b = b} l) = form_by _ _ _ _ k s r t h (out_Pre a) (out_Pre b) (before_alike k s r t h (λ p. asks (gives h l) (λ x. says)) says)
  gives_alike _ _ k s r t n m h (arrow {a = a} {b = b} {c = c'} {d = d} l i) =
      form_by _ _ _ _ k s r t h (out_Arrow a c') (out_Arrow b d) (before_alike k s r t h (λ p. asks (gives h i) (λ x. says)) (asks (gives h l) (λ x. says)))
  gives_alike _ _ k s r t n m h (when {a = a} {b = b} {tag = tag} {x = x} l) = form_by _ _ _ _ k s r t h (out_When a tag x) (out_When b tag x) (asks (gives h l) (λ y. says))
  gives_alike _ _ k s r t n m h (merge {x = x} {bs = bs} {cs = cs} l) =
      form_by _ _ _ _ k s r t h (out_Merge x bs) (out_Merge x cs) (asks (variable h a_right) (λ y. go_on_matches y (λ u. branches_alike u x k s r t h l)))
  gives_alike _ _ k s r t n m h (call {g = g} {es = es} {rs = rs} i l) = form_by _ _ _ _ k s r t h (out_Call g es) (out_Call g rs) (asks (output h (call i l)) (λ x. says))
  gives_alike _ _ k s r t n m h (async_call {q = q} {g = g} {es = es} {rs = rs} i l) =
      form_by _ _ _ _ k s r t h (out_AsyncCall q g es) (out_AsyncCall q g rs) (asks (output h (async_call i l)) (λ x. says))
  gives_alike _ _ k s r t n m h (async_const {k = z}) = form_by _ _ _ _ k s r t h (out_AsyncConst z) (out_AsyncConst z) says
  gives_alike _ _ k s r t n m h (get {a = a} {b = b} l) = form_by _ _ _ _ k s r t h (out_Get a) (out_Get b) (asks (gives h l) (λ x. says))

  -- ---- calls

  reply_alike : (o p : Option (List ℕ)) (j : ℕ) {d e : Rule} → p ≡ o → Alike d e → Alike (reply_or w o j d) (reply_or v p j e)
  reply_alike o p j {d} {e} q h = subst (λ (r : Option (List ℕ)). Alike (reply_or w o j d) (reply_or v r j e)) (sym q) (go o)
    where
      go : (r : Option (List ℕ)) → Alike (reply_or w r j d) (reply_or v r j e)
      go None = h
      go (Some xs) = says

  call_alike : (o q : Option Text) (g : Name) (es rs : List Expr) (p n j : ℕ) (k : Clock) (s r : Scope) (t m : ℕ) → TiedOption sides o q → w.node g ≡ o →
      slice_get (text_calls (text_of s)) n ≡ Some (record { place = p; name = g }) → Tied s r → LowersAllIn (text_calls (text_of s)) (suc n) es rs m →
      Alike (output_rule w (option_map (λ text. (es, text)) o) p j k s t) (output_rule v (option_map (λ text. (rs, text)) q) n j k (Under r []) t)
  call_alike _ _ g es rs p n j k s r t m no_text e at h l = says
  call_alike _ _ g es rs p n j k s r t m (both {text = text} {low = low} z) e at h l =
      count_matches (λ u. Present k s u) (λ u. Present k (Under r []) u) t _ _ (λ u. present h a_right) (λ u.
      reply_alike (w.replies (calls_around s ++ p ∷ []) u) (v.replies (calls_around r ++ n ∷ []) u) j (agree (calls_around s ++ p ∷ []) (calls_around r ++ n ∷ []) u (call_path n (leads sides s r h) at))
      (subst (λ (xs : List Name). Alike (answer_to (Variable (slice_index_or (outputs_of text) j []) (Called s k p es text) t)) (answer_to (Variable (slice_index_or xs j []) (Called (Under r []) k n rs low) t)))
      (sym (outputs_same sides text low z)) (asks (variable (called h l z (record { name = g; at = at; node = e })) the_body) (λ a. says))))

  output_by : (e d : Expr) (f g : Form-F Form Expr MergeBranch) (j : ℕ) (k : Clock) (s r : Scope) (t : ℕ) → Tied s r → out-Form e.form ≡ f → out-Form d.form ≡ g →
      Alike (outputs_rule w f e j k s t) (outputs_rule v g d j k (Under r []) t) → Alike (rule w (Output e j k s t)) (rule v (Output d j k (Under r []) t))
  output_by e d f g j k s r t h p q l =
      alike_by (ap (λ (z : Form-F Form Expr MergeBranch). if_present (Present k s t) (outputs_rule w z e j k s t)) p)
      (ap (λ (z : Form-F Form Expr MergeBranch). if_present (Present k (Under r []) t) (outputs_rule v z d j k (Under r []) t)) q)
      (present_matches _ _ (present h a_right) l)

  output_alike : (e d : Expr) (j : ℕ) (k : Clock) (s r : Scope) (t n m : ℕ) → Tied s r → LowersIn (text_calls (text_of s)) n e d m → Alike (rule w (Output e j k s t)) (rule v (Output d j k (Under r []) t))
  output_alike _ _ j k s r t n m h (const {k = z}) = output_by _ _ _ _ j k s r t h (out_Const z) (out_Const z) says
  output_alike _ _ j k s r t n m h (var {x = x}) = output_by _ _ _ _ j k s r t h (out_Var x) (out_Var x) says
  output_alike _ _ j k s r t n m h (unary {op = op} {a = a} {b = b} l) = output_by _ _ _ _ j k s r t h (out_Unary op a) (out_Unary op b) says
  output_alike _ _ j k s r t n m h (binary {op = op} {a = a} {b = b} {c = c'} {d = d} l i) = output_by _ _ _ _ j k s r t h (out_Binary op a c') (out_Binary op b d) says
  output_alike _ _ j k s r t n m h (choice {i = i} {j = i'} {a = a} {b = b} {c = c'} {d = d} l o p) = output_by _ _ _ _ j k s r t h (out_If i a c') (out_If i' b d) says
  output_alike _ _ j k s r t n m h (fby {a = a} {b = b} {c = c'} {d = d} l i) = output_by _ _ _ _ j k s r t h (out_Fby a c') (out_Fby b d) says
  output_alike _ _ j k s r t n m h (pre {a = a} {b = b} l) = output_by _ _ _ _ j k s r t h (out_Pre a) (out_Pre b) says
  output_alike _ _ j k s r t n m h (arrow {a = a} {b = b} {c = c'} {d = d} l i) = output_by _ _ _ _ j k s r t h (out_Arrow a c') (out_Arrow b d) says
  output_alike _ _ j k s r t n m h (when {a = a} {b = b} {tag = tag} {x = x} l) = output_by _ _ _ _ j k s r t h (out_When a tag x) (out_When b tag x) says
  output_alike _ _ j k s r t n m h (merge {x = x} {bs = bs} {cs = cs} l) = output_by _ _ _ _ j k s r t h (out_Merge x bs) (out_Merge x cs) says
  output_alike _ _ j k s r t n m h (call {p = p} {g = g} {es = es} {rs = rs} i l) =
      output_by _ _ _ _ j k s r t h (out_Call g es) (out_Call g rs) (call_alike (w.node g) (v.node g) g es rs p.0 n j k s r t m (found_tied sides g nodes) refl i h l)
  output_alike _ _ j k s r t n m h (async_call {p = p} {q = q} {g = g} {es = es} {rs = rs} i l) =
      output_by _ _ _ _ j k s r t h (out_AsyncCall q g es) (out_AsyncCall q g rs)
      (call_alike (w.node g) (v.node g) g es rs p.0 n j k s r t m (found_tied sides g nodes) refl i h l)
  output_alike _ _ j k s r t n m h (async_const {k = z}) = output_by _ _ _ _ j k s r t h (out_AsyncConst z) (out_AsyncConst z) says
  output_alike _ _ j k s r t n m h (get {a = a} {b = b} l) = output_by _ _ _ _ j k s r t h (out_Get a) (out_Get b) (asks (output h l) (λ x. says))

  -- ---- variables

  argument_alike : (k : Clock) (s r : Scope) (t i : ℕ) {n m : ℕ} {es rs : List Expr} → Tied s r → LowersAllIn (text_calls (text_of s)) n es rs m →
      Alike (argument_rule w (slice_get es i) k s t) (argument_rule v (slice_get rs i) k (Under r []) t)
  argument_alike k s r t i h no_exprs = says
  argument_alike k s r t zero h (more_exprs l ls) = asks (gives h l) (λ a. says)
  argument_alike k s r t (suc i) h (more_exprs l ls) = argument_alike k s r t i h ls

  variable_alike : (s r : Scope) (x : Name) (t : ℕ) → Tied s r → Alike (variable_rule w x (home x s) t) (variable_rule v x (home x r) t)
  variable_alike _ _ x t (top {text = text} {low = low} e k) =
      subst (λ (z : Clock). Alike (variable_rule w x (Top text) t) (if_present (Present z (Top low) t) (own_rule v (Top low) x t))) (sym (clock_same sides w v refl text low x k))
      (present_matches _ _ (present (top e k) the_body)
      (subst (λ (xs : List Name). Alike (own_rule w (Top text) x t) (if is_in x xs then Reads t (place_in x xs) else answer_to (Defined x (Top low) t)))
      (sym (inputs_same sides text low k)) (if_matches (is_in x (inputs_of text)) reads (asks (defined (top e k)) (λ a. says)))))
  variable_alike _ _ x t (called {s = s} {r = r} {c = z} {p = p} {n = n} {es = es} {rs = rs} {text = text} {low = low} h l k i) =
      subst (λ (y : Clock). Alike (variable_rule w x (Called s z p es text) t) (if_present (Present y (Called (Under r []) z n rs low) t) (own_rule v (Called (Under r []) z n rs low) x t)))
      (sym (clock_same sides w v refl text low x k))
      (present_matches _ _ (present (called h l k i) the_body)
      (subst (λ (xs : List Name). Alike (own_rule w (Called s z p es text) x t)
      (if is_in x xs then argument_rule v (slice_get rs (place_in x xs)) z (Under r []) t else answer_to (Defined x (Called (Under r []) z n rs low) t)))
      (sym (inputs_same sides text low k))
      (if_matches (is_in x (inputs_of text)) (argument_alike z s r t (place_in x (inputs_of text)) h l) (asks (defined (called h l k i)) (λ a. says)))))

  within_alike : (s r u : Scope) (x : Name) (t : ℕ) → Tied s r → IsWithin sides r u → Alike (variable_rule w x (home x s) t) (variable_rule v x (home x u) t)
  within_alike s r _ x t h the_body = variable_alike s r x t h
  within_alike s r _ x t h a_right = variable_alike s r x t h

  -- ---- scopes

  pub active_alike : (s r : Scope) (t : ℕ) → Tied s r → Alike (active_rule w s t) (active_rule v r t)
  active_alike _ _ t (top e k) = says
  active_alike _ _ t (called h l k i) = asks (present h a_right) (λ a. says)

  pub restarted_alike : (s r : Scope) (t : ℕ) → Tied s r → Alike (restarted_rule w s t) (restarted_rule v r t)
  restarted_alike _ _ t (top e k) = says
  restarted_alike _ _ t (called h l k i) = asks (inner_restarted h) (λ a. says)

  -- ---- what equations define

  defined_alike : (x : Name) (es : List Equation) → Alike (if_defined x es (λ yes. Says (Is yes))) (if_defined x es (λ yes. Says (Is yes)))
  defined_alike x [] = says
  defined_alike x (e ∷ es) = asks defines (λ a. if_matches (is_true a) says (defined_alike x es))

  -- ---- each question

  -- the core asks these by more steps, or by fewer
  pub data OtherSteps : Question → Question → Type 0 where
    steps_active : {s r : Scope} {t : ℕ} → Tied s r → OtherSteps (Active s t) (Active (Under r []) t)
    steps_restarted : {s r : Scope} {t : ℕ} → Tied s r → OtherSteps (Restarted s t) (Restarted (Under r []) t)
    steps_defined : {x : Name} {s r : Scope} {t : ℕ} → Tied s r → OtherSteps (Defined x s t) (Defined x r t)

  pub tie_alike : (q p : Question) → Tying q p → Alike (rule w q) (rule v p) ⊎ OtherSteps q p
  tie_alike _ _ (gives {e = e} {d = d} {c = k} {s = s} {r = r} {t = t} {n = n} {m = m} h l) = inl (gives_alike e d k s r t n m h l)
  tie_alike _ _ (output {e = e} {d = d} {j = j} {c = k} {s = s} {r = r} {t = t} {n = n} {m = m} h l) = inl (output_alike e d j k s r t n m h l)
  tie_alike _ _ (variable {x = x} {s = s} {r = r} {u = u} {t = t} h i) = inl (within_alike s r u x t h i)
  tie_alike _ _ (present {c = k} {s = s} {r = r} {u = u} {t = t} h i) = inl (present_alike k s r u t h i)
  tie_alike _ _ (active {s = s} {r = r} {t = t} h) = inl (active_alike s r t h)
  tie_alike _ _ (inner_active h) = inr (steps_active h)
  tie_alike _ _ (restarted {s = s} {r = r} {t = t} h) = inl (restarted_alike s r t h)
  tie_alike _ _ (inner_restarted h) = inr (steps_restarted h)
  tie_alike _ _ (defined h) = inr (steps_defined h)
  tie_alike _ _ (defines {x = x} {e = e}) = inl (same_defines (out-Equation e))
    where
      same_defines : (f : Equation-F Equation Block Branch State) → Alike (defines_rule w f x) (defines_rule v f x)
      same_defines (Equation-F.Define p left right) = says
      same_defines (Equation-F.Switch p on branches) = defined_alike x (flat_map (λ b. b.block.body) branches)
      same_defines (Equation-F.Reset p block every) = defined_alike x block.body
      same_defines (Equation-F.Automaton p states) = defined_alike x (flat_map (λ q. q.block.body) states)
