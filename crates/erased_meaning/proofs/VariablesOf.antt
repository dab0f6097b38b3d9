-- What is known of variables and of their `last`, from the scopes that declare them.
use Rattle.std.proofs.Common.{◌≡◌, ℕ, zero, suc, ◌+◌, Bool, true, false, ◌||◌, if◌then◌else◌, cond, List, [], ◌∷◌, ◌++◌, length, Option, Some, None, slice_get, slice_index, refl, sym, ap, subst, arith, ◌∙◌}
use Rattle.std.specs.List.{find, position, position_from}
use Rattle.std.specs.Option.{option_map, option_or}
use Rattle.std.specs.Borrow.{Bor}
use Rattle.std.proofs.lemmas.List.Folds.{find-append}
use Rattle.std.proofs.lemmas.Iterator.Adapters.{position_from-zero}
use Rattle.hept_ast.specs.Texts.{Name, const_value, same, is_in, place_in, names}
use Rattle.hept_ast.specs.Scopes.{Clock, Text, Scope, Top, Called, In_branch, In_body, In_state, Under, text_of, inputs_of, declared_in, declares, home}
use Rattle.hept_ast.specs.Meaning.{Variable, Last, Defined, Present, Active, Restarted, Says, Setting, answer_to, argument_rule, call_of, clock_in, initial_rule, input_at, last_rule, own_rule, variable_rule}
use Rattle.hept_ast.specs.Meaning as meaning
use Rattle.hept_ast.specs.Outputs.{said, read}
use Rattle.hept_ast.proofs.Depths.{by_rule}
use Rattle.hept_ast.specs.declared.tree.Decl.{Decl}
use Rattle.hept_ast.specs.declared.tree.Init.{Init}
use Rattle.hept_ast.specs.declared.tree.Node.{Node}
use Rattle.hept_ast.specs.declared.tree.Block.{Block}
use Rattle.hept_ast.specs.declared.tree.Expr.{Expr}
use Rattle.hept_ast.specs.declared.tree.MergeBranch.{MergeBranch}
use Rattle.hept_ast.specs.declared.tree.Form.{Form, out-Form}
use Rattle.hept_ast.specs.declared.tree.Form.TheOpen.{Form-F}
use Rattle.answer_table.specs.declared.paths.Step.{Step}
use Rattle.answer_table.specs.declared.paths.Step.TheVariants as way
use Rattle.answer_table.specs.declared.questions.Asked.{Asked}
use Rattle.answer_table.specs.declared.questions.Asked.TheVariants as asked_of
use Rattle.answer_table.specs.declared.questions.Answer.{Answer}
use Rattle.answer_table.specs.declared.questions.Answer.TheVariants as answer
use Rattle.answer_table.specs.declared.answers.Answers.{Answers}
use Rattle.answer_table.specs.Asking.{HasAnswer, answer_of, question_of}
use Rattle.answer_table.specs.HomePaths.{ends_inner, is_inner_step}
use Rattle.erased_meaning.specs.Inputs.{InitialGives, InputGives, IsDeclarationIn, OwnGives, input_rule}
use Rattle.answer_table.specs.Parts.{operand_of}
use Rattle.answer_table.specs.Things.{Thing, In, At, Nowhere, body_of, expression_thing, operand_clock, part}
use Rattle.answer_table.specs.Tables.{AnswerAt, Gets, IsHomePath, IsScopeAt, RuleGives, setting_in, thing_in}
use Rattle.erased_meaning.specs.Rules.{IsValueAnswer, Tests, Went, chosen}
use Rattle.erased_meaning.proofs.ExpressionsOf.{from_rule}
use Rattle.erased_meaning.proofs.Following.{answer_gives, asked_further}
use Rattle.answer_table.proofs.HomePaths.{Standing, a_top, a_call, a_branch, a_body, a_state, IsBodyOfCall, declared_inside, declared_of_node, ends, stands, step_call, step_not}
use Rattle.answer_table.proofs.Shown.{not_none, nowhere_in, same_in, same_some, thing_more}

-- ---- declarations

module _ (x : Name) (xs ys zs : List Decl) where
  abbrev named : Decl → Bool
  named d = same x d.name

  -- the first of the declarations in three lists
  in_three : (o : Option Decl) → o ≡ option_or (option_or (find named xs) (find named ys)) (find named zs) → o ≡ find named (xs ++ ys ++ zs)
  in_three o h = h ∙ sym (find-append named (xs ++ ys) zs ∙ ap (λ (r : Option Decl). option_or r (find named zs)) (find-append named xs ys))

  pub in_first : (d : Decl) → Some d ≡ find (λ (d : Decl). same x d.name) xs → Some d ≡ find (λ (d : Decl). same x d.name) (xs ++ ys ++ zs)
  in_first d h = in_three (Some d) (ap (λ (r : Option Decl). option_or (option_or r (find named ys)) (find named zs)) h)

  pub in_second : (d : Decl) → None ≡ find (λ (d : Decl). same x d.name) xs → Some d ≡ find (λ (d : Decl). same x d.name) ys → Some d ≡ find (λ (d : Decl). same x d.name) (xs ++ ys ++ zs)
  in_second d f h = in_three (Some d) (ap (λ (r : Option Decl). option_or (option_or None r) (find named zs)) h ∙ ap (λ (r : Option Decl). option_or (option_or r (find named ys)) (find named zs)) f)

  pub in_third : (o : Option Decl) → None ≡ find (λ (d : Decl). same x d.name) xs → None ≡ find (λ (d : Decl). same x d.name) ys → o ≡ find (λ (d : Decl). same x d.name) zs →
      o ≡ find (λ (d : Decl). same x d.name) (xs ++ ys ++ zs)
  in_third o f g h = in_three o (h ∙ ap (λ (r : Option Decl). option_or (option_or None r) (find named zs)) g ∙ ap (λ (r : Option Decl). option_or (option_or r (find named ys)) (find named zs)) f)

-- where a search for a name came to, from a position on
abbrev IsFoundFrom : Bool → ℕ → ℕ → Option ℕ → Type 0
IsFoundFrom m n i None = m ≡ false
IsFoundFrom m n i (Some k) = (m ≡ true) × (n + i ≡ k)

none_more : (i : ℕ) → 0 + i ≡ i
none_more i = omega arith

no_more : (n : ℕ) → n ≡ n + 0
no_more n = omega arith

one_more : (n i : ℕ) → n + 1 + i ≡ n + (i + 1)
one_more n i = omega arith

found_more : (b m : Bool) (n i : ℕ) (o : Option ℕ) → IsFoundFrom m n (i + 1) o → IsFoundFrom (b || m) (if b then 0 else n + 1) i (cond b (Some i) o)
found_more true m n i o h = (refl, none_more i)
found_more false m n i None h = h
found_more false m n i (Some k) h = (h.0, one_more n i ∙ h.1)

found_from : (x : Name) (i : ℕ) (ds : List Decl) → IsFoundFrom (is_in x (names ds)) (place_in x (names ds)) i (position_from (λ (d : Decl). same x d.name) i ds)
found_from x i [] = refl
found_from x i (d ∷ ds) = found_more (same x d.name) (is_in x (names ds)) (place_in x (names ds)) i _ (found_from x (i + 1) ds)

place_found : (x : Name) (ds : List Decl) (o : Option ℕ) → o ≡ position (λ (d : Decl). same x d.name) ds → IsFoundFrom (is_in x (names ds)) (place_in x (names ds)) 0 o
place_found x ds o h =
    subst (λ (r : Option ℕ). IsFoundFrom (is_in x (names ds)) (place_in x (names ds)) 0 r) (sym (h ∙ position_from-zero (λ (d : Decl). same x d.name) ds)) (found_from x 0 ds)

-- ---- homes

twice_if : (x : Name) (b : Bool) (s u : Scope) → (b ≡ true → home x s ≡ s) → home x u ≡ u → home x (if b then s else u) ≡ (if b then s else u)
twice_if x true s u h k = h refl
twice_if x false s u h k = k

kept_if : {b : Bool} (s u : Scope) → b ≡ true → (if b then s else u) ≡ s
kept_if s u e = ap (λ (c : Bool). if c then s else u) e

-- the home of a name in its home is that home
home_twice : (x : Name) (s : Scope) → home x (home x s) ≡ home x s
home_twice x (Top text) = refl
home_twice x (Called s clock p args text) = refl
home_twice x (In_branch s on b) = twice_if x (declares (In_branch s on b) x) (In_branch s on b) (home x s) (λ e. kept_if (In_branch s on b) (home x s) e) (home_twice x s)
home_twice x (In_body s every block) = twice_if x (declares (In_body s every block) x) (In_body s every block) (home x s) (λ e. kept_if (In_body s every block) (home x s) e) (home_twice x s)
home_twice x (In_state s states k) = twice_if x (declares (In_state s states k) x) (In_state s states k) (home x s) (λ e. kept_if (In_state s states k) (home x s) e) (home_twice x s)
home_twice x (Under s resets) = home_twice x s

home_of_path : (s : Answers) (path home_path : List Step) (x : Name) (sc : Scope) → IsHomePath s path x home_path → thing_in s path ≡ In sc → home_path ≡ path → home x sc ≡ sc
home_of_path s path home_path x sc leads is same = same_in _ _ (sym (leads sc is) ∙ ap (λ (p : List Step). thing_in s p) same ∙ is)

-- ---- variables

module _ (s : Answers) (path home_path : List Step) (t number : ℕ) (node : Node) (block : Block) where
  -- what is asked at a path to a scope
  asked_at : (what : Asked) (sc : Scope) → thing_in s path ≡ In sc → question_of (setting_in s) (thing_in s path) what t ≡ question_of (setting_in s) (In sc) what t
  asked_at what sc is = ap (λ (thing : Thing). question_of (setting_in s) thing what t) is

  known_at : (p : List Step) (what : Asked) (r : Answer) (sc : Scope) → AnswerAt s p what t r → thing_in s p ≡ In sc → HasAnswer s.accepted.now s.rows.now (question_of (setting_in s) (In sc) what t) (answer_of r)
  known_at p what r sc h is = subst (λ (thing : Thing). HasAnswer s.accepted.now s.rows.now (question_of (setting_in s) thing what t) (answer_of r)) is h

  pub variable_elsewhere : (x : Bor Name) (r : Answer) → IsScopeAt s path number node block → IsHomePath s path x.now home_path → AnswerAt s home_path (asked_of.Variable x) t r → AnswerAt s path (asked_of.Variable x) t r
  variable_elsewhere x r at leads h =
      from_rule s path (asked_of.Variable x) t (Variable x.now at.scope t) r (asked_at (asked_of.Variable x) at.scope at.is)
      (subst (λ (z : Scope). RuleGives s (variable_rule (setting_in s) x.now z t) r) (home_twice x.now at.scope)
      (by_rule (setting_in s) s.rows.now (Variable x.now (home x.now at.scope) t) (answer_of r) (known_at home_path (asked_of.Variable x) r (home x.now at.scope) h (leads at.scope at.is))))

  pub last_elsewhere : (x : Bor Name) (r : Answer) → IsScopeAt s path number node block → IsHomePath s path x.now home_path → AnswerAt s home_path (asked_of.Last x) t r → AnswerAt s path (asked_of.Last x) t r
  last_elsewhere x r at leads h =
      from_rule s path (asked_of.Last x) t (Last x.now at.scope t) r (asked_at (asked_of.Last x) at.scope at.is)
      (subst (λ (z : Scope). RuleGives s (last_rule (setting_in s) x.now z t) r) (home_twice x.now at.scope)
      (by_rule (setting_in s) s.rows.now (Last x.now (home x.now at.scope) t) (answer_of r) (known_at home_path (asked_of.Last x) r (home x.now at.scope) h (leads at.scope at.is))))

  -- where the home is here
  variable_here : (x : Bor Name) (r : Answer) (b : Bool) → IsScopeAt s path number node block → IsHomePath s path x.now home_path → home_path ≡ path → Tests s path (asked_of.PresentOf x) t b →
      ((sc : Scope) → thing_in s path ≡ In sc → RuleGives s (if b then own_rule (setting_in s) sc x.now t else Says meaning.Absent) r) → AnswerAt s path (asked_of.Variable x) t r
  variable_here x r b at leads same_path tested h =
      from_rule s path (asked_of.Variable x) t (Variable x.now at.scope t) r (asked_at (asked_of.Variable x) at.scope at.is)
      (subst (λ (z : Scope). RuleGives s (variable_rule (setting_in s) x.now z t) r) (sym (home_of_path s path home_path x.now at.scope leads at.is same_path))
      (tested (Present (clock_in (setting_in s) (text_of at.scope) x.now) at.scope t) (λ here. if here then own_rule (setting_in s) at.scope x.now t else Says meaning.Absent) r
      (asked_at (asked_of.PresentOf x) at.scope at.is) (h at.scope at.is)))

  pub variable_own : (x : Bor Name) (r : Answer) → IsScopeAt s path number node block → IsHomePath s path x.now home_path → home_path ≡ path → Tests s path (asked_of.PresentOf x) t true → OwnGives s path x.now t r →
      AnswerAt s path (asked_of.Variable x) t r
  variable_own x r at leads same_path tested h = variable_here x r true at leads same_path tested h

  pub variable_absent : (x : Bor Name) → IsScopeAt s path number node block → IsHomePath s path x.now home_path → home_path ≡ path → Tests s path (asked_of.PresentOf x) t false → AnswerAt s path (asked_of.Variable x) t answer.Absent
  variable_absent x at leads same_path tested = variable_here x answer.Absent false at leads same_path tested (λ sc is. said)

  last_here : (x : Bor Name) (r : Answer) (o : Option ℕ) → IsScopeAt s path number node block → IsHomePath s path x.now home_path → home_path ≡ path → Went s path asked_of.Active path t o →
      ((sc : Scope) → thing_in s path ≡ In sc → RuleGives s (chosen o (λ p. answer_to (Variable x.now sc p)) (initial_rule (setting_in s) (find (λ d. same x.now d.name) (declared_in sc)))) r) → AnswerAt s path (asked_of.Last x) t r
  last_here x r o at leads same_path went h =
      from_rule s path (asked_of.Last x) t (Last x.now at.scope t) r (asked_at (asked_of.Last x) at.scope at.is)
      (subst (λ (z : Scope). RuleGives s (last_rule (setting_in s) x.now z t) r) (sym (home_of_path s path home_path x.now at.scope leads at.is same_path))
      (went (λ p. Active at.scope p) (λ p. Restarted at.scope p)
      (λ p. ap (λ (thing : Thing). question_of (setting_in s) thing asked_of.Active p) at.is)
      (λ p. ap (λ (thing : Thing). question_of (setting_in s) thing asked_of.Restarted p) at.is)
      (λ p. answer_to (Variable x.now at.scope p)) (initial_rule (setting_in s) (find (λ d. same x.now d.name) (declared_in at.scope))) r (h at.scope at.is)))

  pub last_first : (x : Bor Name) (r : Answer) → IsScopeAt s path number node block → IsHomePath s path x.now home_path → home_path ≡ path → Went s path asked_of.Active path t None → InitialGives s path x.now r →
      AnswerAt s path (asked_of.Last x) t r
  last_first x r at leads same_path went h = last_here x r None at leads same_path went h

  pub own_inside : (x : Bor Name) (r : Answer) (inner : Bool) → inner ≡ ends_inner path → inner ≡ true → AnswerAt s path (asked_of.Defined x) t r → OwnGives s path x.now t r
  own_inside x r inner is_inner e h sc is = defined_inside sc (subst (λ (b : Bool). Standing b sc) (sym is_inner ∙ e) (stands s path sc is)) (known_at path (asked_of.Defined x) r sc h is)
    where
      defined_inside : (z : Scope) → Standing true z → Gets s (Defined x.now z t) r → RuleGives s (own_rule (setting_in s) z x.now t) r
      defined_inside _ a_branch k = answer_gives s _ r k
      defined_inside _ a_body k = answer_gives s _ r k
      defined_inside _ a_state k = answer_gives s _ r k

  -- what a variable of a body of a node gives, as an input or as defined
  own_of_node : (x : Name) (r : Answer) (z : Scope) → Standing false z → RuleGives s (if is_in x (inputs_of (text_of z)) then input_rule (setting_in s) z (place_in x (inputs_of (text_of z))) t else answer_to (Defined x z t)) r →
      RuleGives s (own_rule (setting_in s) z x t) r
  own_of_node x r _ a_top h = h
  own_of_node x r _ a_call h = h

  inputs_at : (sc : Scope) → IsScopeAt s path number node block → thing_in s path ≡ In sc → inputs_of (text_of sc) ≡ names node.inputs
  inputs_at sc at is = ap (λ (z : Scope). inputs_of (text_of z)) (same_in _ _ (sym is ∙ at.is)) ∙ ap inputs_of at.words

  own_by : (x : Name) (r : Answer) (inner m : Bool) → inner ≡ ends_inner path → inner ≡ false → IsScopeAt s path number node block → is_in x (names node.inputs) ≡ m →
      ((sc : Scope) → thing_in s path ≡ In sc → RuleGives s (if m then input_rule (setting_in s) sc (place_in x (names node.inputs)) t else answer_to (Defined x sc t)) r) → OwnGives s path x t r
  own_by x r inner m is_inner e at f h sc is =
      own_of_node x r sc (subst (λ (b : Bool). Standing b sc) (sym is_inner ∙ e) (stands s path sc is))
      (subst (λ (xs : List Name). RuleGives s (if is_in x xs then input_rule (setting_in s) sc (place_in x xs) t else answer_to (Defined x sc t)) r) (sym (inputs_at sc at is))
      (subst (λ (b : Bool). RuleGives s (if b then input_rule (setting_in s) sc (place_in x (names node.inputs)) t else answer_to (Defined x sc t)) r) (sym f) (h sc is)))

  pub own_input : (x : Name) (r : Answer) (inner : Bool) (i : ℕ) → inner ≡ ends_inner path → inner ≡ false → IsScopeAt s path number node block → Some i ≡ position (λ (d : Decl). same x d.name) node.inputs →
      InputGives s path i t r → OwnGives s path x t r
  own_input x r inner i is_inner e at f h =
      let found : IsFoundFrom (is_in x (names node.inputs)) (place_in x (names node.inputs)) 0 (Some i) = place_found x node.inputs (Some i) f in
      own_by x r inner true is_inner e at found.0
      (λ sc is. subst (λ (k : ℕ). RuleGives s (input_rule (setting_in s) sc k t) r) (sym found.1 ∙ sym (no_more _)) (h (sym is_inner ∙ e) sc is))

  pub own_defined : (x : Bor Name) (r : Answer) (inner : Bool) → inner ≡ ends_inner path → inner ≡ false → IsScopeAt s path number node block → None ≡ position (λ (d : Decl). same x.now d.name) node.inputs →
      AnswerAt s path (asked_of.Defined x) t r → OwnGives s path x.now t r
  own_defined x r inner is_inner e at f h =
      own_by x.now r inner false is_inner e at (place_found x.now node.inputs None f) (λ sc is. answer_gives s (Defined x.now sc t) r (known_at path (asked_of.Defined x) r sc h is))

  pub declaration_inside : (x : Name) (inner : Bool) (o : Option Decl) → IsScopeAt s path number node block → inner ≡ ends_inner path → inner ≡ true → o ≡ find (λ (d : Decl). same x d.name) block.locals → IsDeclarationIn s path x o
  declaration_inside x inner o at is_inner e f sc is =
      ap (λ (ds : List Decl). find (λ (d : Decl). same x d.name) ds) (declared_inside s path number node block at (sym is_inner ∙ e) sc is) ∙ sym f

  pub declaration_of_node : (x : Name) (inner : Bool) (o : Option Decl) → IsScopeAt s path number node block → inner ≡ ends_inner path → inner ≡ false →
      o ≡ find (λ (d : Decl). same x d.name) (node.inputs ++ node.outputs ++ node.block.locals) → IsDeclarationIn s path x o
  declaration_of_node x inner o at is_inner e f sc is =
      ap (λ (ds : List Decl). find (λ (d : Decl). same x d.name) ds) (declared_of_node s path number node block at (sym is_inner ∙ e) sc is) ∙ sym f

-- the last instant before
pub last_before : (s : Answers) (path home_path : List Step) (t number : ℕ) (node : Node) (block : Block) (x : Bor Name) (r : Answer) (p : ℕ) → IsScopeAt s path number node block → IsHomePath s path x.now home_path → home_path ≡ path →
    Went s path asked_of.Active path t (Some p) → AnswerAt s path (asked_of.Variable x) p r → AnswerAt s path (asked_of.Last x) t r
last_before s path home_path t number node block x r p at leads same_path went h =
    last_here s path home_path t number node block x r (Some p) at leads same_path went
    (λ sc is. answer_gives s (Variable x.now sc p) r (subst (λ (thing : Thing). HasAnswer s.accepted.now s.rows.now (question_of (setting_in s) thing (asked_of.Variable x) p) (answer_of r)) is h))

pub initial_gives : (s : Answers) (path : List Step) (x : Name) (d : Decl) (i : Init) (r : Answer) → IsDeclarationIn s path x (Some d) → d.init ≡ Some i → IsValueAnswer (const_value s.accepted.now.program.types i.value) r → InitialGives s path x r
initial_gives s path x d i r declared init value sc is =
    subst (λ (o : Option Decl). RuleGives s (initial_rule (setting_in s) o) r) (sym (declared sc is))
    (subst (λ (o : Option Init). RuleGives s (meaning.constant_of (setting_in s) o) r) (sym init)
    (subst (λ (a : Answer). RuleGives s (Says (meaning.Value (const_value (setting_in s).types i.value))) a) (sym value) said))

-- ---- inputs

same_args : (given : List Expr) (o : Option Text) (args : List Expr) (text : Text) → option_map {U = List Expr × Text} (λ (x : Text). (given, x)) o ≡ Some (args, text) → given ≡ args
same_args given None args text h = absurd (not_none _ h)
same_args given (Some x) args text h = ap (λ (c : List Expr × Text). c.0) (same_some _ _ h)

-- the argument at a position, and its clock
call_argument : (w : Setting) (form : Form-F Form Expr MergeBranch) (args : List Expr) (text : Text) (i : ℕ) (clock : Clock) → call_of w form ≡ Some (args, text) → (operand_of form i ≡ slice_get args i) × (operand_clock form i clock ≡ clock)
call_argument w (Form-F.Call f given) args text i clock h = (ap (λ (es : List Expr). slice_get es i) (same_args given (w.node f) args text h), refl)
call_argument w (Form-F.AsyncCall q f given) args text i clock h = (ap (λ (es : List Expr). slice_get es i) (same_args given (w.node f) args text h), refl)
call_argument w _ args text i clock h = absurd (not_none _ h)

argument_known : (s : Answers) (o : Option Expr) (clock : Clock) (z : Scope) (t : ℕ) (r : Answer) → HasAnswer s.accepted.now s.rows.now (question_of (setting_in s) (expression_thing o clock z) asked_of.Gives t) (answer_of r) →
    RuleGives s (argument_rule (setting_in s) o clock z t) r
argument_known s None clock z t r h = absurd h
argument_known s (Some e) clock z t r h = answer_gives s _ r h

call_input : (s : Answers) (e : Expr) (clock : Clock) (z sc : Scope) (i t : ℕ) (r : Answer) → IsBodyOfCall (setting_in s) e clock z sc →
    HasAnswer s.accepted.now s.rows.now (question_of (setting_in s) (part (setting_in s) (At e clock z) (way.Operand i)) asked_of.Gives t) (answer_of r) → RuleGives s (input_rule (setting_in s) sc i t) r
call_input s e clock z sc i t r body h =
    let a : (operand_of (out-Form e.form) i ≡ slice_get body.args i) × (operand_clock (out-Form e.form) i clock ≡ clock) = call_argument (setting_in s) (out-Form e.form) body.args body.text i clock body.found in
    subst (λ (u : Scope). RuleGives s (input_rule (setting_in s) u i t) r) (sym body.is)
    (argument_known s (slice_get body.args i) clock z t r
    (subst (λ (o : Option Expr). HasAnswer s.accepted.now s.rows.now (question_of (setting_in s) (expression_thing o clock z) asked_of.Gives t) (answer_of r)) a.0
    (subst (λ (k : Clock). HasAnswer s.accepted.now s.rows.now (question_of (setting_in s) (expression_thing (operand_of (out-Form e.form) i) k z) asked_of.Gives t) (answer_of r)) a.1 h)))

called_input : (s : Answers) (thing : Thing) (step : Step) (sc : Scope) (i t : ℕ) (r : Answer) → part (setting_in s) thing step ≡ In sc → is_inner_step step ≡ false →
    HasAnswer s.accepted.now s.rows.now (question_of (setting_in s) (part (setting_in s) thing (way.Operand i)) asked_of.Gives t) (answer_of r) → RuleGives s (input_rule (setting_in s) sc i t) r
called_input s (In z) step sc i t r is other h = absurd (step_not (setting_in s) z step sc other is)
called_input s (At e clock z) step sc i t r is other h = call_input s e clock z sc i t r (step_call (setting_in s) e clock z step sc is).1 h
called_input s Nowhere step sc i t r is other h = absurd (nowhere_in sc is)

pub input_of_call : (s : Answers) (path call : List Step) (step : Step) (i t : ℕ) (r : Answer) → (path ≡ call ++ step ∷ []) × (length call + 1 ≡ length path) → AnswerAt s (call ++ way.Operand i ∷ []) asked_of.Gives t r → InputGives s path i t r
input_of_call s path call step i t r split h other sc is =
    called_input s (thing_in s call) step sc i t r (sym (thing_more s.accepted.now s.top path call step split.0) ∙ is) (sym (ends path call step split.0) ∙ other) (asked_further s call (way.Operand i) asked_of.Gives t r h)

no_steps : (path : List Step) → length path ≡ 0 → path ≡ []
no_steps [] e = refl
no_steps (x ∷ xs) e = absurd (no_length e)
  where
    no_length : suc (length xs) ≡ 0 → ⊥
    no_length e = cc

top_input : (s : Answers) (o : Option Node) (sc : Scope) (i t : ℕ) (r : Answer) → body_of s.top o ≡ In sc → input_at s.rows.now t i ≡ answer_of r → RuleGives s (input_rule (setting_in s) sc i t) r
top_input s None sc i t r is h = absurd (nowhere_in sc is)
top_input s (Some node) sc i t r is h = subst (λ (u : Scope). RuleGives s (input_rule (setting_in s) u i t) r) (same_in _ _ is) (read h)

pub input_of_row : (s : Answers) (path : List Step) (i t : ℕ) (r : Answer) → length path ≡ 0 → input_at s.rows.now t i ≡ answer_of r → InputGives s path i t r
input_of_row s path i t r e h other sc is =
    top_input s (slice_get s.accepted.now.program.nodes s.top) sc i t r (sym (ap (λ (p : List Step). thing_in s p) (no_steps path e)) ∙ is) h

pub row_value : (rows : List (List ℕ)) (t i v : ℕ) (row : List ℕ) → Some row ≡ slice_get rows t → v ≡ slice_index row i → input_at rows t i ≡ answer_of (answer.Value v)
row_value [] t i v row h e = absurd (not_none _ (sym h))
row_value (x ∷ rows) zero i v row h e = ap (λ (xs : List ℕ). meaning.Value (slice_index xs i)) (same_some _ _ (sym h)) ∙ ap meaning.Value (sym e)
row_value (x ∷ rows) (suc t) i v row h e = row_value rows t i v row h e
