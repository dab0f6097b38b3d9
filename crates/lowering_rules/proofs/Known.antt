-- What is known of a question about a program is known of the tied question about the core that comes of it, and the other way round.
use Rattle.std.proofs.Common.{◌≡◌, ◌≢◌, ◌==◌, ◌⊎◌, inl, inr, ℕ, Bool, true, false, cond, List, [], length, Some, refl, sym, subst, ◌∙◌}
use Rattle.std.specs.Prelude.{if◌then◌else◌}
use Rattle.std.specs.List.{find}
use Rattle.hept_ast.specs.Texts.{Name, is_in, place_in}
use Rattle.hept_ast.specs.Scopes.{Clock, Text, Written, Lowered, Scope, Top, Called, Under, text_of}
use Rattle.hept_ast.specs.Meaning.{Question, Gives, Output, Defined, Defines, Active, Restarted, Answer, Unknown, Is, Says, Setting, is_true, defines_rule, block_rule, equation_rule, core_rule, right_rule, clock_seen, rule, answer_to}
use Rattle.hept_ast.specs.Outputs.{Knows, Follows, said, asked}
use Rattle.hept_ast.specs.Settings.{Marks, Replies}
use Rattle.hept_ast.specs.Stages.{ClockedProgram}
use Rattle.hept_ast.specs.ClockMaps as maps
use Rattle.hept_ast.specs.declared.name.Place.{Place}
use Rattle.hept_ast.specs.declared.tree.Core.{Core}
use Rattle.hept_ast.specs.declared.tree.CoreEquation.{CoreEquation}
use Rattle.hept_ast.specs.declared.tree.Block.{Block}
use Rattle.hept_ast.specs.declared.tree.Branch.{Branch}
use Rattle.hept_ast.specs.declared.tree.State.{State}
use Rattle.hept_ast.specs.declared.tree.Expr.{Expr}
use Rattle.hept_ast.specs.declared.tree.Equation.{Equation, out-Equation}
use Rattle.hept_ast.specs.declared.tree.Equation.TheOpen.{Equation-F}
use Rattle.hept_ast.specs.declared.tree.Equation.TheVariants as equation
use Rattle.hept_ast.proofs.Depths.{to_rule, by_rule, induction}
use Rattle.hept_ast.proofs.Transfer as transfer
use Rattle.core_naming.proofs.Matching.{Matches, there, back}
use Rattle.lowering_rules.specs.Lowering.{clock_of_left}
use Rattle.lowering_rules.specs.CallPaths.{text_calls, Agree}
use Rattle.lowering_rules.specs.Ties.{Sides, TiedNodes, tied_text}
use Rattle.lowering_rules.specs.TiedScopes.{LowersIn, EquationsIn, no_equations, more_equations, TiedScope, top, called}
use Rattle.lowering_rules.proofs.CallsIn.{out_define, node_in}
use Rattle.lowering_rules.proofs.TiedTexts.{seen_same}
use Rattle.lowering_rules.proofs.TiedQuestions as questions
use Rattle.lowering_rules.proofs.TiedQuestions.{Tie, gives, output, active, restarted, defines, sides_of, active_alike, restarted_alike, OtherSteps, steps_active, steps_restarted, steps_defined, tie_alike}

-- ---- answers

answered : {K : Question → Answer → Type 0} {rows : List (List ℕ)} {q : Question} {a : Answer} → Follows K rows (answer_to q) a → K q a
answered (asked k said) = k

said_is : {K : Question → Answer → Type 0} {rows : List (List ℕ)} {a b : Answer} → Follows K rows (Says a) b → b ≡ a
said_is said = refl

abbrev IsTruth : Answer → Type 0
IsTruth a = a ≡ Is (is_true a)

-- whether a scope is restarted is a truth value
unless_truth : {K : Question → Answer → Type 0} {rows : List (List ℕ)} {a : Answer} (b : Bool) → Follows K rows (if b then Says (Is true) else Says (Is false)) a → IsTruth a
unless_truth true said = refl
unless_truth false said = refl

says_truth : {K : Question → Answer → Type 0} {rows : List (List ℕ)} (b : Bool) (a : Answer) → Follows K rows (Says (Is b)) a → IsTruth a
says_truth b a said = refl

under_truth : (z : Setting) (rows : List (List ℕ)) (r : Scope) (t : ℕ) (a : Answer) → Knows z rows (Restarted (Under r []) t) a → IsTruth a
under_truth z rows r t a k = go (by_rule z rows (Restarted (Under r []) t) a k)
  where
    go : Follows (Knows z rows) rows (rule z (Restarted (Under r []) t)) a → IsTruth a
    go (asked {a = b} i f) = unless_truth (is_true b) f

-- a truth value decides as it is
by_truth : (K : Question → Answer → Type 0) (rows : List (List ℕ)) (a : Answer) → IsTruth a → Follows K rows (if is_true a then Says (Is true) else Says (Is false)) a
by_truth K rows a e = go (is_true a) e
  where
    go : (b : Bool) → a ≡ Is b → Follows K rows (if b then Says (Is true) else Says (Is false)) a
    go true p = subst (λ (x : Answer). Follows K rows (Says (Is true)) x) (sym p) said
    go false p = subst (λ (x : Answer). Follows K rows (Says (Is false)) x) (sym p) said

of_truth : (K : Question → Answer → Type 0) (rows : List (List ℕ)) (a b : Answer) → IsTruth b → Follows K rows (if is_true b then Says (Is true) else Says (Is false)) a → a ≡ b
of_truth K rows a b e f = go (is_true b) a e f
  where
    go : (x : Bool) (y : Answer) → b ≡ Is x → Follows K rows (if x then Says (Is true) else Says (Is false)) y → y ≡ b
    go true y p said = sym p
    go false y p said = sym p

-- whether a plain equation defines a name
define_is : (z : Setting) (rows : List (List ℕ)) (x : Name) (p : Place) (left : List Name) (right : Expr) (a : Answer) → Knows z rows (Defines x (equation.Define p left right)) a → a ≡ Is (is_in x left)
define_is z rows x p left right a k =
    said_is (subst (λ (f : Equation-F Equation Block Branch State). Follows (Knows z rows) rows (defines_rule z f x) a) (out_define p left right) (by_rule z rows (Defines x (equation.Define p left right)) a k))

module _ (c : ClockedProgram) (core : Core) (chosen : Text) (nodes : TiedNodes (maps.clock_in c.clocks) 0 c.program.nodes core.nodes)
    (marked : Marks) (replies others : Replies) (agree : Agree c.program.nodes chosen replies others) (rows : List (List ℕ)) where
  abbrev sides : Sides
  sides = sides_of c core chosen

  abbrev w : Setting
  w = questions.w c core chosen nodes marked replies others agree

  abbrev v : Setting
  v = questions.v c core chosen nodes marked replies others agree

  abbrev Tied : Scope → Scope → Type 0
  Tied s r = TiedScope sides s r

  abbrev Tying : Question → Question → Type 0
  Tying q p = Tie sides q p

  abbrev There : Question → Answer → Type 0
  There q a = transfer.Tied v rows Tying q a

  by_alike : (q p : Question) (a : Answer) → Matches Tying (rule w q) (rule v p) → Follows There rows (rule w q) a → a ≢ Unknown → Knows v rows p a
  by_alike q p a h f known = to_rule v rows p a (transfer.tracked v rows Tying (rule w q) (rule v p) a (there h) f known) known

  -- ---- there

  active_there : (s r : Scope) (t : ℕ) (a : Answer) → Tied s r → Follows There rows (rule w (Active s t)) a → a ≢ Unknown → Knows v rows (Active (Under r []) t) a
  active_there s r t a h f known =
      to_rule v rows (Active (Under r []) t) a (asked (by_alike (Active s t) (Active r t) a (active_alike c core chosen nodes marked replies others agree s r t h) f known) said) known

  restarted_truth : (s r : Scope) (t : ℕ) (a : Answer) → Tied s r → Knows v rows (Restarted r t) a → IsTruth a
  restarted_truth _ _ t a (top {low = low} e k) i = says_truth (marked t) a (by_rule v rows (Restarted (Top low) t) a i)
  restarted_truth _ _ t a (called {r = r} {c = k} {n = n} {rs = rs} {low = low} h l j i') i = under_truth v rows r t a (answered (by_rule v rows (Restarted (Called (Under r []) k n rs low) t) a i))

  restarted_there : (s r : Scope) (t : ℕ) (a : Answer) → Tied s r → Follows There rows (rule w (Restarted s t)) a → a ≢ Unknown → Knows v rows (Restarted (Under r []) t) a
  restarted_there s r t a h f known =
      let k = by_alike (Restarted s t) (Restarted r t) a (restarted_alike c core chosen nodes marked replies others agree s r t h) f known in
      to_rule v rows (Restarted (Under r []) t) a (asked k (by_truth (Knows v rows) rows a (restarted_truth s r t a h k))) known

  right_there : (left : List Name) (right d : Expr) (x : Name) (k l : Clock) (s r : Scope) (t n m : ℕ) (a : Answer) → Tied s r → LowersIn (text_calls (text_of s)) n right d m → l ≡ k →
      Follows There rows (right_rule w left right x k s t) a → Follows (Knows v rows) rows (right_rule v left d x l (Under r []) t) a
  right_there left right d x k l s r t n m a h i e f =
      subst (λ (z : Clock). Follows (Knows v rows) rows (right_rule v left d x z (Under r []) t) a) (sym e) (go (length left == 1) f)
    where
      go : (b : Bool) → Follows There rows (if b then answer_to (Gives right k s t) else answer_to (Output right (place_in x left) k s t)) a →
          Follows (Knows v rows) rows (if b then answer_to (Gives d k (Under r []) t) else answer_to (Output d (place_in x left) k (Under r []) t)) a
      go true g = asked (answered g _ (gives h i)) said
      go false g = asked (answered g _ (output h i)) said

  -- the definition of a variable: the first equation that has it on the left
  block_there : (x : Name) (s r : Scope) (t : ℕ) (a : Answer) (clock : Name → Clock) (n m : ℕ) (es : List Equation) (cs : List CoreEquation) → Tied s r → clock_seen w x s ≡ clock x →
      EquationsIn (text_calls (text_of s)) clock n es cs m → Follows There rows (block_rule w es x s t) a → a ≢ Unknown → Follows (Knows v rows) rows (core_rule v (find (λ e. is_in x e.left) cs) x r t) a
  block_there x s r t a clock n m _ _ h seen no_equations f known = absurd (known (said_is f))
  block_there x s r t a clock n m _ _ h seen (more_equations {p = p} {left = left} {right = right} {r = d} {es = es} {cs = cs} l on ls) (asked {a = b} i f) known =
      go (is_in x left) refl (subst (λ (z : Answer). Follows There rows (if is_true z then equation_rule w (out-Equation (equation.Define p left right)) x s t else block_rule w es x s t) a)
      (define_is v rows x p left right b (i _ defines)) f) (λ g. block_there x s r t a clock _ _ es cs h seen ls g known)
    where
      go : (y : Bool) → is_in x left ≡ y → Follows There rows (if y then equation_rule w (out-Equation (equation.Define p left right)) x s t else block_rule w es x s t) a →
          (Follows There rows (block_rule w es x s t) a → Follows (Knows v rows) rows (core_rule v (find (λ e. is_in x e.left) cs) x r t) a) →
          Follows (Knows v rows) rows (core_rule v (cond y (Some (record { place = p; left = left; clock = record { steps = clock_of_left clock left }; right = d; resets = [] })) (find (λ e. is_in x e.left) cs)) x r t) a
      go true e g later =
          right_there left right d x (clock_seen w x s) (clock_of_left clock left) s r t _ _ a h l (sym (seen ∙ on x e))
          (subst (λ (z : Equation-F Equation Block Branch State). Follows There rows (equation_rule w z x s t) a) (out_define p left right) g)
      go false e g later = later g

  defined_there : (x : Name) (s r : Scope) (t : ℕ) (a : Answer) → Tied s r → Follows There rows (rule w (Defined x s t)) a → a ≢ Unknown → Knows v rows (Defined x r t) a
  defined_there x _ _ t a (top e (tied_text {k = k} {node = node} {low = low} at low_at j)) f known =
      to_rule v rows (Defined x (Top (Lowered low)) t) a
      (block_there x (Top (Written k node)) (Top (Lowered low)) t a (sides.clock k) 0 j.calls node.block.body low.equations (top e (tied_text at low_at j)) (seen_same sides w k node low x j) (node_in (sides.clock k) node low j) f known) known
  defined_there x _ _ t a (called {s = s} {r = r} {c = z} {p = p} {n = n} {es = es} {rs = rs} h l (tied_text {k = k} {node = node} {low = low} at low_at j) i) f known =
      to_rule v rows (Defined x (Called (Under r []) z n rs (Lowered low)) t) a
      (block_there x (Called s z p es (Written k node)) (Called (Under r []) z n rs (Lowered low)) t a (sides.clock k) 0 j.calls node.block.body low.equations
      (called h l (tied_text at low_at j) i) (seen_same sides w k node low x j) (node_in (sides.clock k) node low j) f known) known

  other_there : (q p : Question) (a : Answer) → OtherSteps c core chosen nodes marked replies others agree q p → Follows There rows (rule w q) a → a ≢ Unknown → Knows v rows p a
  other_there _ _ a (steps_active {s = s} {r = r} {t = t} h) f known = active_there s r t a h f known
  other_there _ _ a (steps_restarted {s = s} {r = r} {t = t} h) f known = restarted_there s r t a h f known
  other_there _ _ a (steps_defined {x = x} {s = s} {r = r} {t = t} h) f known = defined_there x s r t a h f known

  tied_there : (q p : Question) (a : Answer) → Matches Tying (rule w q) (rule v p) ⊎ OtherSteps c core chosen nodes marked replies others agree q p → Follows There rows (rule w q) a → a ≢ Unknown → Knows v rows p a
  tied_there q p a (inl h) f known = by_alike q p a h f known
  tied_there q p a (inr h) f known = other_there q p a h f known

  pub knows_there : (q p : Question) (a : Answer) → Tying q p → Knows w rows q a → Knows v rows p a
  knows_there q p a tie k =
      induction There w rows (λ r b f known e h. tied_there r e b (tie_alike c core chosen nodes marked replies others agree r e h) f known) q a k p tie

  -- ---- back

  abbrev Turned : Question → Question → Type 0
  Turned p q = Tying q p

  abbrev Back : Question → Answer → Type 0
  Back p a = transfer.Tied w rows Turned p a

  source_truth : (s r : Scope) (t : ℕ) (a : Answer) → Tied s r → Knows w rows (Restarted s t) a → IsTruth a
  source_truth _ _ t a (top {text = text} e k) i = says_truth (marked t) a (by_rule w rows (Restarted (Top text) t) a i)
  source_truth _ _ t a (called {s = s} {r = r} {c = k} {p = p} {es = es} {text = text} h l j i') i =
      source_truth s r t a h (answered (by_rule w rows (Restarted (Called s k p es text) t) a i))

  restarted_back : (s r : Scope) (t : ℕ) (a : Answer) → Tied s r → Follows Back rows (rule v (Restarted (Under r []) t)) a → Knows w rows (Restarted s t) a
  restarted_back s r t a h (asked {a = b} i f) =
      let k = i _ (restarted h) in
      subst (λ (x : Answer). Knows w rows (Restarted s t) x) (sym (of_truth Back rows a b (source_truth s r t b h k) f)) k

  right_back : (left : List Name) (right d : Expr) (x : Name) (k l : Clock) (s r : Scope) (t n m : ℕ) (a : Answer) → Tied s r → LowersIn (text_calls (text_of s)) n right d m → l ≡ k →
      Follows Back rows (right_rule v left d x l (Under r []) t) a → Follows (Knows w rows) rows (right_rule w left right x k s t) a
  right_back left right d x k l s r t n m a h i e f =
      go (length left == 1) (subst (λ (z : Clock). Follows Back rows (right_rule v left d x z (Under r []) t) a) e f)
    where
      go : (b : Bool) → Follows Back rows (if b then answer_to (Gives d k (Under r []) t) else answer_to (Output d (place_in x left) k (Under r []) t)) a →
          Follows (Knows w rows) rows (if b then answer_to (Gives right k s t) else answer_to (Output right (place_in x left) k s t)) a
      go true g = asked (answered g _ (gives h i)) said
      go false g = asked (answered g _ (output h i)) said

  define_known : (x : Name) (p : Place) (left : List Name) (right : Expr) → Knows w rows (Defines x (equation.Define p left right)) (Is (is_in x left))
  define_known x p left right =
      to_rule w rows (Defines x (equation.Define p left right)) (Is (is_in x left))
      (subst (λ (f : Equation-F Equation Block Branch State). Follows (Knows w rows) rows (defines_rule w f x) (Is (is_in x left))) (sym (out_define p left right)) said) (λ e. cc)

  block_back : (x : Name) (s r : Scope) (t : ℕ) (a : Answer) (clock : Name → Clock) (n m : ℕ) (es : List Equation) (cs : List CoreEquation) → Tied s r → clock_seen w x s ≡ clock x →
      EquationsIn (text_calls (text_of s)) clock n es cs m → Follows Back rows (core_rule v (find (λ e. is_in x e.left) cs) x r t) a → a ≢ Unknown → Follows (Knows w rows) rows (block_rule w es x s t) a
  block_back x s r t a clock n m _ _ h seen no_equations f known = absurd (known (said_is f))
  block_back x s r t a clock n m _ _ h seen (more_equations {p = p} {left = left} {right = right} {r = d} {es = es} {cs = cs} l on ls) f known =
      asked (define_known x p left right) (go (is_in x left) refl f (λ g. block_back x s r t a clock _ _ es cs h seen ls g known))
    where
      go : (y : Bool) → is_in x left ≡ y →
          Follows Back rows (core_rule v (cond y (Some (record { place = p; left = left; clock = record { steps = clock_of_left clock left }; right = d; resets = [] })) (find (λ e. is_in x e.left) cs)) x r t) a →
          (Follows Back rows (core_rule v (find (λ e. is_in x e.left) cs) x r t) a → Follows (Knows w rows) rows (block_rule w es x s t) a) →
          Follows (Knows w rows) rows (if y then equation_rule w (out-Equation (equation.Define p left right)) x s t else block_rule w es x s t) a
      go true e g later =
          subst (λ (z : Equation-F Equation Block Branch State). Follows (Knows w rows) rows (equation_rule w z x s t) a) (sym (out_define p left right))
          (right_back left right d x (clock_seen w x s) (clock_of_left clock left) s r t _ _ a h l (sym (seen ∙ on x e)) g)
      go false e g later = later g

  defined_back : (x : Name) (s r : Scope) (t : ℕ) (a : Answer) → Tied s r → Follows Back rows (rule v (Defined x r t)) a → a ≢ Unknown → Knows w rows (Defined x s t) a
  defined_back x _ _ t a (top e (tied_text {k = k} {node = node} {low = low} at low_at j)) f known =
      to_rule w rows (Defined x (Top (Written k node)) t) a
      (block_back x (Top (Written k node)) (Top (Lowered low)) t a (sides.clock k) 0 j.calls node.block.body low.equations (top e (tied_text at low_at j)) (seen_same sides w k node low x j) (node_in (sides.clock k) node low j) f known) known
  defined_back x _ _ t a (called {s = s} {r = r} {c = z} {p = p} {n = n} {es = es} {rs = rs} h l (tied_text {k = k} {node = node} {low = low} at low_at j) i) f known =
      to_rule w rows (Defined x (Called s z p es (Written k node)) t) a
      (block_back x (Called s z p es (Written k node)) (Called (Under r []) z n rs (Lowered low)) t a (sides.clock k) 0 j.calls node.block.body low.equations
      (called h l (tied_text at low_at j) i) (seen_same sides w k node low x j) (node_in (sides.clock k) node low j) f known) known

  other_back : (q p : Question) (a : Answer) → OtherSteps c core chosen nodes marked replies others agree q p → Follows Back rows (rule v p) a → a ≢ Unknown → Knows w rows q a
  other_back _ _ a (steps_active {s = s} {r = r} {t = t} h) f known = answered f _ (active h)
  other_back _ _ a (steps_restarted {s = s} {r = r} {t = t} h) f known = restarted_back s r t a h f
  other_back _ _ a (steps_defined {x = x} {s = s} {r = r} {t = t} h) f known = defined_back x s r t a h f known

  tied_back : (q p : Question) (a : Answer) → Matches Tying (rule w q) (rule v p) ⊎ OtherSteps c core chosen nodes marked replies others agree q p → Follows Back rows (rule v p) a → a ≢ Unknown → Knows w rows q a
  tied_back q p a (inl h) f known = to_rule w rows q a (transfer.tracked w rows Turned (rule v p) (rule w q) a (back h) f known) known
  tied_back q p a (inr h) f known = other_back q p a h f known

  pub knows_back : (q p : Question) (a : Answer) → Tying q p → Knows v rows p a → Knows w rows q a
  knows_back q p a tie k =
      induction Back v rows (λ r b f known e h. tied_back e r b (tie_alike c core chosen nodes marked replies others agree e r h) f known) p a k q tie
