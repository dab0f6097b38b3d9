-- What the first equation of a block that defines a name says.
use Rattle.std.proofs.Common.{◌≡◌, ℕ, suc, ◌+◌, ◌<◌, ◌==◌, ◌||◌, Bool, true, false, if◌then◌else◌, List, [], ◌∷◌, ◌++◌, length, drop, get_or, Option, Some, slice_get, refl, sym, ap, subst, ◌∙◌, arith}
use Rattle.std.specs.Borrow.{Bor}
use Rattle.std.specs.Option.{option_map}
use Rattle.std.proofs.lemmas.Bool.{false≢true}
use Rattle.std.proofs.lemmas.Bool.Decides.{nat_tests}
use Rattle.std.proofs.lemmas.Option.{slice_get_read}
use Rattle.std.proofs.lemmas.List.{drop_more}
use Rattle.sound_expressions.proofs.Lists.{same_is}
use Rattle.hept_ast.specs.Texts.{Name, branch_of, is_in, place_in, same}
use Rattle.hept_ast.specs.Scopes.{Clock, Scope, In_branch, In_body, In_state, Text, block_of}
use Rattle.hept_ast.specs.Meaning.{Gives, Output, Defined, Last, Active_state, Rule, answer_to, block_rule, branch_rule, clock_seen, defined_rule, equation_rule}
use Rattle.hept_ast.specs.Outputs.{said, asked}
use Rattle.hept_ast.specs.declared.name.Place.{Place}
use Rattle.hept_ast.specs.declared.tree.TypeDec.{TypeDec}
use Rattle.hept_ast.specs.declared.tree.Node.{Node}
use Rattle.hept_ast.specs.declared.tree.Expr.{Expr}
use Rattle.hept_ast.specs.declared.tree.Block.{Block}
use Rattle.hept_ast.specs.declared.tree.Branch.{Branch}
use Rattle.hept_ast.specs.declared.tree.State.{State}
use Rattle.hept_ast.specs.declared.tree.Equation.{Equation, out-Equation}
use Rattle.hept_ast.specs.declared.tree.Equation.TheOpen.{Equation-F}
use Rattle.answer_table.specs.declared.paths.Step.{Step}
use Rattle.answer_table.specs.declared.paths.Step.TheVariants as way
use Rattle.answer_table.specs.declared.questions.Asked.{Asked}
use Rattle.answer_table.specs.declared.questions.Asked.TheVariants as asked_of
use Rattle.answer_table.specs.declared.questions.Answer.{Answer}
use Rattle.answer_table.specs.declared.questions.Answer.TheVariants as answer
use Rattle.answer_table.specs.declared.answers.Answers.{Answers}
use Rattle.erased_meaning.specs.Found.{IsPlaceIn}
use Rattle.answer_table.specs.Parts.{An_equation, and_then, left_in, right_in, on_in, states_in, right_at}
use Rattle.answer_table.specs.Things.{Thing, In, At, right_thing, base_thing}
use Rattle.answer_table.specs.Asking.{HasAnswer, answer_of, question_of}
use Rattle.answer_table.specs.Tables.{AnswerAt, Gets, IsScopeAt, RuleGives, setting_in, thing_in}
use Rattle.erased_meaning.specs.Rules.{BlockDefines, Tests}
use Rattle.erased_meaning.specs.Equations.{EquationGives, IsBranchOf, PartGives, equation_in}
use Rattle.erased_meaning.proofs.Following.{answer_gives, value_gives, absent_gives, nil_gives}
use Rattle.erased_meaning.proofs.ExpressionsOf.{from_rule}
use Rattle.erased_meaning.proofs.DefinesOf.{TestsOne, block_is, tested}
use Rattle.erased_meaning.proofs.EquationsOf.{body_there, branch_there, equation_is, further, seen, state_there}

-- ---- searches

add_one : (n : ℕ) → n + 1 ≡ suc n
add_one n = omega arith

placed_by : (x y : Name) (ys : List Name) (b : Bool) → same x y ≡ b → (is_in x ys ≡ true → slice_get ys (place_in x ys) ≡ Some x) → (same x y || is_in x ys) ≡ true →
    slice_get (y ∷ ys) (if same x y then 0 else place_in x ys + 1) ≡ Some x
placed_by x y ys true e rest h = ap (λ (b : Bool). slice_get (y ∷ ys) (if b then 0 else place_in x ys + 1)) e ∙ ap (λ (z : Name). Some z) (sym (same_is x y e))
placed_by x y ys false e rest h =
    ap (λ (b : Bool). slice_get (y ∷ ys) (if b then 0 else place_in x ys + 1)) e ∙ ap (λ (n : ℕ). slice_get (y ∷ ys) n) (add_one (place_in x ys)) ∙
    rest (sym (ap (λ (b : Bool). b || is_in x ys) e) ∙ h)

-- a name stands at its place
pub placed : (x : Name) (xs : List Name) → is_in x xs ≡ true → slice_get xs (place_in x xs) ≡ Some x
placed x [] h = absurd (false≢true h)
placed x (y ∷ ys) h = placed_by x y ys (same x y) refl (placed x ys) h

pub equal_is : (m n : ℕ) → m ≡ n → (m == n) ≡ true
equal_is m n h = grind (arith, nat_tests)

pub other_is : (m n : ℕ) → (m ≡ n → ⊥) → (m == n) ≡ false
other_is m n h = grind (arith, nat_tests)

-- a branch among the same types
pub branch_same : (types others : List TypeDec) (v : ℕ) (branches : List Branch) (j : ℕ) → types ≡ others → IsBranchOf types v branches j → IsBranchOf others v branches j
branch_same types others v branches j e h = subst (λ (ts : List TypeDec). IsBranchOf ts v branches j) e h

-- what is asked at the end of a path that leads to a thing
pub asked_at : (s : Answers) (path : List Step) (what : Asked) (t : ℕ) (a : Answer) (thing : Thing) → thing_in s path ≡ thing → AnswerAt s path what t a →
    HasAnswer s.accepted.now s.rows.now (question_of (setting_in s) thing what t) (answer_of a)
asked_at s path what t a thing is h = subst (λ (x : Thing). HasAnswer s.accepted.now s.rows.now (question_of (setting_in s) x what t) (answer_of a)) is h

-- ---- what an equation says

module _ (s : Answers) (path : List Step) (i : ℕ) (x : Bor Name) (t : ℕ) where
  -- of an equation of this form
  pub gives_as : (e f : An_equation) (a : Answer) → e ≡ f → EquationGives s path i f x.now t a → EquationGives s path i e x.now t a
  gives_as e f a same h = subst (λ (y : An_equation). EquationGives s path i y x.now t a) (sym same) h

  -- where the right side of an equation is
  right_there : (place : Place) (left : List Name) (right : Expr) (n : ℕ) (scope : Scope) → is_in x.now left ≡ true → place_in x.now left ≡ n → thing_in s path ≡ In scope →
      equation_in scope i ≡ Some (Equation-F.Define place left right) → thing_in s (path ++ way.Right i n ∷ []) ≡ At right (clock_seen (setting_in s) x.now scope) scope
  right_there place left right n scope among at is here =
      let e : An_equation = Equation-F.Define place left right in
      further s path i scope is (way.Right i n) ∙
      ap (λ (o : Option Name). right_thing (setting_in s) scope o (right_at (block_of scope) i))
      (ap (λ (o : Option (List Name)). and_then o (λ ys. slice_get ys n)) (seen s path i scope is e here left_in) ∙ ap (λ (k : ℕ). slice_get left k) (sym at) ∙ placed x.now left among) ∙
      ap (λ (o : Option Expr). right_thing (setting_in s) scope (Some x.now) o) (seen s path i scope is e here right_in)

  pub right_one : (place : Place) (left : List Name) (right : Expr) (n : ℕ) (a : Answer) → IsPlaceIn x.now left (Some n) → (length left == 1) ≡ true → AnswerAt s (path ++ way.Right i n ∷ []) asked_of.Gives t a →
      EquationGives s path i (Equation-F.Define place left right) x.now t a
  right_one place left right n a found one h scope is here =
      let clock : Clock = clock_seen (setting_in s) x.now scope in
      subst (λ (b : Bool). RuleGives s (if b then answer_to (Gives right clock scope t) else answer_to (Output right (place_in x.now left) clock scope t)) a) (sym one)
      (answer_gives s (Gives right clock scope t) a (asked_at s (path ++ way.Right i n ∷ []) asked_of.Gives t a _ (right_there place left right n scope found.0 found.1 is here) h))

  pub right_more : (place : Place) (left : List Name) (right : Expr) (n : ℕ) (a : Answer) → IsPlaceIn x.now left (Some n) → (length left == 1) ≡ false → AnswerAt s (path ++ way.Right i n ∷ []) (asked_of.Output n) t a →
      EquationGives s path i (Equation-F.Define place left right) x.now t a
  right_more place left right n a found more h scope is here =
      let clock : Clock = clock_seen (setting_in s) x.now scope in
      subst (λ (b : Bool). RuleGives s (if b then answer_to (Gives right clock scope t) else answer_to (Output right (place_in x.now left) clock scope t)) a) (sym more)
      (answer_gives s (Output right (place_in x.now left) clock scope t) a
      (subst (λ (k : ℕ). Gets s (Output right k clock scope t) a) (sym found.1)
      (asked_at s (path ++ way.Right i n ∷ []) (asked_of.Output n) t a _ (right_there place left right n scope found.0 found.1 is here) h)))

  -- ---- a branch, a body, a state

  pub part_here : (step : Step) (b : Bool) (a : Answer) → b ≡ true → BlockDefines s (path ++ step ∷ []) x.now b → AnswerAt s (path ++ step ∷ []) (asked_of.Defined x) t a → PartGives s path step x.now t a
  part_here step b a holds h k scope inner is inner_is =
      subst (λ (c : Bool). BlockDefines s (path ++ step ∷ []) x.now c) holds h inner inner_is (λ it. if it then answer_to (Defined x.now inner t) else answer_to (Last x.now scope t)) a
      (answer_gives s (Defined x.now inner t) a (asked_at s (path ++ step ∷ []) (asked_of.Defined x) t a (In inner) inner_is k))

  pub part_last : (step : Step) (b : Bool) (a : Answer) → b ≡ false → BlockDefines s (path ++ step ∷ []) x.now b → AnswerAt s path (asked_of.Last x) t a → PartGives s path step x.now t a
  part_last step b a fails h k scope inner is inner_is =
      subst (λ (c : Bool). BlockDefines s (path ++ step ∷ []) x.now c) fails h inner inner_is (λ it. if it then answer_to (Defined x.now inner t) else answer_to (Last x.now scope t)) a
      (answer_gives s (Last x.now scope t) a (asked_at s path (asked_of.Last x) t a (In scope) is k))

  pub reset_gives : (place : Place) (block : Block) (every : Expr) (a : Answer) → AnswerAt s (path ++ way.Body i ∷ []) (asked_of.Defined x) t a → EquationGives s path i (Equation-F.Reset place block every) x.now t a
  reset_gives place block every a h scope is here =
      answer_gives s (Defined x.now (In_body scope every block) t) a (asked_at s (path ++ way.Body i ∷ []) (asked_of.Defined x) t a _ (body_there s path i scope is place block every here) h)

  module _ (place : Place) (on : Expr) (branches : List Branch) where
    on_there : (scope : Scope) → thing_in s path ≡ In scope → equation_in scope i ≡ Some (Equation-F.Switch place on branches) → thing_in s (path ++ way.On i ∷ []) ≡ At on [] scope
    on_there scope is here = further s path i scope is (way.On i) ∙ ap (λ (o : Option Expr). base_thing scope o) (seen s path i scope is (Equation-F.Switch place on branches) here on_in)

    on_gets : (a b : Answer) → a ≡ b → AnswerAt s (path ++ way.On i ∷ []) asked_of.Gives t a → (scope : Scope) → thing_in s path ≡ In scope →
        equation_in scope i ≡ Some (Equation-F.Switch place on branches) → Gets s (Gives on [] scope t) b
    on_gets a b same h scope is here = subst (λ (y : Answer). Gets s (Gives on [] scope t) y) same (asked_at s (path ++ way.On i ∷ []) asked_of.Gives t a _ (on_there scope is here) h)

    abbrev after_on : Scope → ℕ → Rule
    after_on scope v = branch_rule (setting_in s) (branch_of (setting_in s).types v branches) on x.now scope t

    pub switch_nil : (a : Answer) → a ≡ answer.Nil → AnswerAt s (path ++ way.On i ∷ []) asked_of.Gives t a → EquationGives s path i (Equation-F.Switch place on branches) x.now t answer.Nil
    switch_nil a same h scope is here = nil_gives s (Gives on [] scope t) (after_on scope) (on_gets a answer.Nil same h scope is here)

    pub switch_absent : (a : Answer) → a ≡ answer.Absent → AnswerAt s (path ++ way.On i ∷ []) asked_of.Gives t a → EquationGives s path i (Equation-F.Switch place on branches) x.now t answer.Absent
    switch_absent a same h scope is here = absent_gives s (Gives on [] scope t) (after_on scope) (on_gets a answer.Absent same h scope is here)

    pub switch_gives : (a : Answer) (v j : ℕ) (r : Answer) → a ≡ answer.Value v → AnswerAt s (path ++ way.On i ∷ []) asked_of.Gives t a → IsBranchOf (setting_in s).types v branches j →
        PartGives s path (way.Branch i j) x.now t r → EquationGives s path i (Equation-F.Switch place on branches) x.now t r
    switch_gives a v j r same h found k scope is here =
        let (b, got, is_found) = found in
        value_gives s (Gives on [] scope t) (after_on scope) v r (on_gets a (answer.Value v) same h scope is here)
        (subst (λ (o : Option Branch). RuleGives s (branch_rule (setting_in s) o on x.now scope t) r) (sym is_found)
        (k scope (In_branch scope on b) is (branch_there s path i scope is place on branches j b here got)))

  module _ (place : Place) (states : List State) where
    state_gets : (a b : Answer) → a ≡ b → AnswerAt s path (asked_of.ActiveState i) t a → (scope : Scope) → thing_in s path ≡ In scope →
        equation_in scope i ≡ Some (Equation-F.Automaton place states) → Gets s (Active_state scope states t) b
    state_gets a b same h scope is here =
        subst (λ (y : Answer). Gets s (Active_state scope states t) y) same
        (subst (λ (o : Option (List State)). HasAnswer s.accepted.now s.rows.now (option_map (λ qs. Active_state scope qs t) o) (answer_of a))
        (seen s path i scope is (Equation-F.Automaton place states) here states_in)
        (asked_at s path (asked_of.ActiveState i) t a (In scope) is h))

    pub automaton_absent : (a : Answer) → a ≡ answer.Absent → AnswerAt s path (asked_of.ActiveState i) t a → EquationGives s path i (Equation-F.Automaton place states) x.now t answer.Absent
    automaton_absent a same h scope is here = asked (state_gets a answer.Absent same h scope is here) said

    pub automaton_gives : (a : Answer) (k : ℕ) (mark : Bool) (r : Answer) → a ≡ answer.StateAt k mark → AnswerAt s path (asked_of.ActiveState i) t a →
        PartGives s path (way.State i k) x.now t r → EquationGives s path i (Equation-F.Automaton place states) x.now t r
    automaton_gives a k mark r same h part scope is here =
        asked (state_gets a (answer.StateAt k mark) same h scope is here) (part scope (In_state scope states k) is (state_there s path i scope is place states k here))

-- ---- the first equation that defines a name

module _ (s : Answers) (path : List Step) (x : Bor Name) (t : ℕ) where
  -- what a block says is the answer
  pub defined_answer : (number : ℕ) (node : Node) (block : Block) (a : Answer) → (at : IsScopeAt s path number node block) → RuleGives s (block_rule (setting_in s) (block_of at.scope).body x.now at.scope t) a →
      AnswerAt s path (asked_of.Defined x) t a
  defined_answer number node block a at h =
      from_rule s path (asked_of.Defined x) t (Defined x.now at.scope t) a (ap (λ (thing : Thing). question_of (setting_in s) thing (asked_of.Defined x) t) at.is)
      (subst (λ (text : Text). RuleGives s (defined_rule (setting_in s) text x.now at.scope t) a) (sym at.words) h)

  module _ (scope : Scope) (is : thing_in s path ≡ In scope) where
    abbrev after_test : Equation → List Equation → Bool → Rule
    after_test e es it = if it then equation_rule (setting_in s) (out-Equation e) x.now scope t else block_rule (setting_in s) es x.now scope t

    first_says : (e : Equation) (es : List Equation) (a : Answer) → TestsOne s x.now e true → RuleGives s (equation_rule (setting_in s) (out-Equation e) x.now scope t) a →
        RuleGives s (block_rule (setting_in s) (e ∷ es) x.now scope t) a
    first_says e es a h k = h (after_test e es) a k

    later_says : (e : Equation) (es : List Equation) (a : Answer) → TestsOne s x.now e false → RuleGives s (block_rule (setting_in s) es x.now scope t) a →
        RuleGives s (block_rule (setting_in s) (e ∷ es) x.now scope t) a
    later_says e es a h k = h (after_test e es) a k

  module _ (number : ℕ) (node : Node) (block : Block) (at : IsScopeAt s path number node block) (items : List Equation) (same : items ≡ block.body) (i : ℕ) (e : Equation) (within : i < length items) (here : e ≡ get_or items i e) where
    got : slice_get block.body i ≡ Some e
    got = ap (λ (es : List Equation). slice_get es i) (sym same) ∙ slice_get_read items (length items) i e refl within here

    next : drop i block.body ≡ e ∷ drop (i + 1) block.body
    next = subst (λ (es : List Equation). drop i es ≡ e ∷ drop (i + 1) es) same (drop_more items i e within ∙ ap (λ (y : Equation). y ∷ drop (i + 1) items) (sym here))

    -- where a search among the equations has come
    abbrev pub Reached : ℕ → Type 0
    Reached n = (scope : Scope) (a : Answer) → thing_in s path ≡ In scope → RuleGives s (block_rule (setting_in s) (drop n (block_of scope).body) x.now scope t) a →
        RuleGives s (block_rule (setting_in s) (block_of scope).body x.now scope t) a

    -- what the equation there says, if it defines the name
    pub defined_here : (u : ℕ) (b : Bool) (a : Answer) → b ≡ true → Tests s path (asked_of.Defines i x) u b → Reached i → EquationGives s path i (out-Equation e) x.now t a → AnswerAt s path (asked_of.Defined x) t a
    defined_here u b a holds h reached k =
        let scope = at.scope in
        let there = equation_is s path number node block i e scope at got at.is in
        let one : TestsOne s x.now e true = tested s path x scope i u true e at.is there (subst (λ (c : Bool). Tests s path (asked_of.Defines i x) u c) holds h) in
        let says = first_says scope at.is e (drop (i + 1) block.body) a one (k scope at.is (ap (λ (o : Option Equation). option_map (λ y. out-Equation y) o) there)) in
        defined_answer number node block a at
        (reached scope a at.is
        (subst (λ (own : Block). RuleGives s (block_rule (setting_in s) (drop i own.body) x.now scope t) a) (sym at.own)
        (subst (λ (es : List Equation). RuleGives s (block_rule (setting_in s) es x.now scope t) a) (sym next) says)))

    pub defined_later : (u : ℕ) (b : Bool) → b ≡ false → Tests s path (asked_of.Defines i x) u b → Reached i → Reached (i + 1)
    defined_later u b fails h reached scope a is k =
        let own : block_of scope ≡ block = block_is s path number node block scope at is in
        let there = equation_is s path number node block i e scope at got is in
        let one : TestsOne s x.now e false = tested s path x scope i u false e is there (subst (λ (c : Bool). Tests s path (asked_of.Defines i x) u c) fails h) in
        reached scope a is
        (subst (λ (bl : Block). RuleGives s (block_rule (setting_in s) (drop i bl.body) x.now scope t) a) (sym own)
        (subst (λ (es : List Equation). RuleGives s (block_rule (setting_in s) es x.now scope t) a) (sym next)
        (later_says scope is e (drop (i + 1) block.body) a one
        (subst (λ (bl : Block). RuleGives s (block_rule (setting_in s) (drop (i + 1) bl.body) x.now scope t) a) own k))))
