-- What the equation at a position of a scope's block defines, and where its steps lead.
use Rattle.std.proofs.Common.{◌≡◌, ℕ, ◌+◌, ◌<◌, Bool, true, false, List, [], ◌∷◌, ◌++◌, length, drop, Option, Some, None, slice_get, refl, sym, ap, subst, ◌∙◌}
use Rattle.std.specs.Borrow.{Bor}
use Rattle.std.specs.List.{flat_map}
use Rattle.std.specs.Option.{option_map, is_some}
use Rattle.hept_ast.specs.Texts.{Name, is_in}
use Rattle.hept_ast.specs.Scopes.{Scope, In_branch, In_body, In_state, block_of, block_or_none}
use Rattle.hept_ast.specs.Meaning.{Defines, Rule, Says, defines_rule}
use Rattle.hept_ast.specs.Meaning as meaning
use Rattle.hept_ast.specs.Outputs.{said}
use Rattle.hept_ast.specs.declared.name.Place.{Place}
use Rattle.hept_ast.specs.declared.tree.Node.{Node}
use Rattle.hept_ast.specs.declared.tree.Expr.{Expr}
use Rattle.hept_ast.specs.declared.tree.Block.{Block}
use Rattle.hept_ast.specs.declared.tree.Branch.{Branch}
use Rattle.hept_ast.specs.declared.tree.State.{State}
use Rattle.hept_ast.specs.declared.tree.Equation.{Equation, out-Equation}
use Rattle.hept_ast.specs.declared.tree.Equation.TheOpen.{Equation-F}
use Rattle.answer_table.specs.declared.paths.Step.{Step}
use Rattle.answer_table.specs.declared.paths.Step.TheVariants as way
use Rattle.answer_table.specs.declared.questions.Asked.TheVariants as asked_of
use Rattle.answer_table.specs.declared.questions.Answer.TheVariants as answer
use Rattle.answer_table.specs.declared.answers.Answers.{Answers}
use Rattle.erased_meaning.specs.Found.{IsPlaceIn}
use Rattle.answer_table.specs.Parts.{An_equation, and_then, branches_in, states_in, body_in, on_in, every_in, branch_at, body_at}
use Rattle.answer_table.specs.Things.{Thing, In, branch_thing, body_thing, state_thing, part}
use Rattle.answer_table.specs.Asking.{question_of}
use Rattle.answer_table.specs.Tables.{AnswerAt, IsScopeAt, RuleGives, setting_in, thing_in}
use Rattle.erased_meaning.specs.Rules.{BlockDefines, TestsDefined}
use Rattle.erased_meaning.specs.Equations.{AreBranchesAt, AreStatesAt, EquationDefines, equation_in}
use Rattle.answer_table.proofs.Shown.{not_none, same_some, thing_more}
use Rattle.erased_meaning.proofs.ExpressionsOf.{from_rule}
use Rattle.erased_meaning.proofs.DefinesOf.{block_is, has_defined, next_of, part_true, part_false}

-- ---- where the steps of an equation lead

-- a view of an equation that is there
seen_in : {A : Type 0} (f : An_equation → Option A) (o : Option Equation) (e : An_equation) → option_map (λ y. out-Equation y) o ≡ Some e → and_then o (λ y. f (out-Equation y)) ≡ f e
seen_in {A} f None e h = absurd (not_none e h)
seen_in {A} f (Some y) e h = ap f (same_some _ _ h)

module _ (s : Answers) (path : List Step) (i : ℕ) (scope : Scope) (is : thing_in s path ≡ In scope) where
  -- a step further
  pub further : (step : Step) → thing_in s (path ++ step ∷ []) ≡ part (setting_in s) (In scope) step
  further step = thing_more s.accepted.now s.top (path ++ step ∷ []) path step refl ∙ ap (λ (thing : Thing). part (setting_in s) thing step) is

  module _ (e : An_equation) (here : equation_in scope i ≡ Some e) where
    pub seen : {A : Type 0} (f : An_equation → Option A) → and_then (slice_get (block_of scope).body i) (λ y. f (out-Equation y)) ≡ f e
    seen {A} f = seen_in f (slice_get (block_of scope).body i) e here

  pub branch_there : (place : Place) (on : Expr) (branches : List Branch) (j : ℕ) (b : Branch) → equation_in scope i ≡ Some (Equation-F.Switch place on branches) → slice_get branches j ≡ Some b →
      thing_in s (path ++ way.Branch i j ∷ []) ≡ In (In_branch scope on b)
  branch_there place on branches j b here got =
      let e : An_equation = Equation-F.Switch place on branches in
      further (way.Branch i j) ∙ ap (λ (o : Option Expr). branch_thing scope o (branch_at (block_of scope) i j)) (seen e here on_in) ∙
      ap (λ (o : Option Branch). branch_thing scope (Some on) o) (ap (λ (o : Option (List Branch)). and_then o (λ bs. slice_get bs j)) (seen e here branches_in) ∙ got)

  pub body_there : (place : Place) (block : Block) (every : Expr) → equation_in scope i ≡ Some (Equation-F.Reset place block every) →
      thing_in s (path ++ way.Body i ∷ []) ≡ In (In_body scope every block)
  body_there place block every here =
      let e : An_equation = Equation-F.Reset place block every in
      further (way.Body i) ∙ ap (λ (o : Option Expr). body_thing scope o (body_at (block_of scope) i)) (seen e here every_in) ∙
      ap (λ (o : Option Block). body_thing scope (Some every) o) (seen e here body_in)

  pub state_there : (place : Place) (states : List State) (k : ℕ) → equation_in scope i ≡ Some (Equation-F.Automaton place states) →
      thing_in s (path ++ way.State i k ∷ []) ≡ In (In_state scope states k)
  state_there place states k here =
      further (way.State i k) ∙ ap (λ (o : Option (List State)). state_thing scope o k) (seen (Equation-F.Automaton place states) here states_in)

  pub are_branches : (place : Place) (on : Expr) (branches : List Branch) → equation_in scope i ≡ Some (Equation-F.Switch place on branches) → AreBranchesAt s path i branches
  are_branches place on branches here j b got = (In_branch scope on b, branch_there place on branches j b here got, refl)

  pub are_states : (place : Place) (states : List State) → equation_in scope i ≡ Some (Equation-F.Automaton place states) → AreStatesAt s path i states
  are_states place states here k q got = (In_state scope states k, state_there place states k here, ap (λ (o : Option State). block_or_none o) got)

-- ---- what an equation defines

module _ (s : Answers) (path : List Step) (i : ℕ) (x : Name) where
  is_placed : (left : List Name) (o : Option ℕ) → IsPlaceIn x left o → is_in x left ≡ is_some o
  is_placed left None h = h
  is_placed left (Some n) h = h.0

  pub plain_defines : (place : Place) (left : List Name) (right : Expr) (given : List Name) (o : Option ℕ) (b : Bool) → given ≡ left → IsPlaceIn x given o → b ≡ is_some o →
      EquationDefines s path i (Equation-F.Define place left right) x b
  plain_defines place left right given o b same h found scope is here =
      subst (λ (y : Bool). RuleGives s (Says (meaning.Is (is_in x left))) (answer.Is y)) (ap (λ (ys : List Name). is_in x ys) (sym same) ∙ is_placed given o h ∙ sym found) said

  pub switch_defines : (place : Place) (on : Expr) (branches given : List Branch) (b : Bool) → given ≡ branches →
      (AreBranchesAt s path i given → TestsDefined s x (flat_map (λ p. p.block.body) given) b) → EquationDefines s path i (Equation-F.Switch place on branches) x b
  switch_defines place on branches given b same h scope is here =
      let of_branches : AreBranchesAt s path i branches → TestsDefined s x (flat_map (λ p. p.block.body) branches) b =
      subst (λ (ps : List Branch). AreBranchesAt s path i ps → TestsDefined s x (flat_map (λ p. p.block.body) ps) b) same h in
      of_branches (are_branches s path i scope is place on branches here) (λ yes. Says (meaning.Is yes)) (answer.Is b) said

  pub reset_defines : (place : Place) (block : Block) (every : Expr) (b : Bool) → BlockDefines s (path ++ way.Body i ∷ []) x b → EquationDefines s path i (Equation-F.Reset place block every) x b
  reset_defines place block every b h scope is here =
      h (In_body scope every block) (body_there s path i scope is place block every here) (λ yes. Says (meaning.Is yes)) (answer.Is b) said

  pub automaton_defines : (place : Place) (states given : List State) (b : Bool) → given ≡ states →
      (AreStatesAt s path i given → TestsDefined s x (flat_map (λ q. q.block.body) given) b) → EquationDefines s path i (Equation-F.Automaton place states) x b
  automaton_defines place states given b same h scope is here =
      let of_states : AreStatesAt s path i states → TestsDefined s x (flat_map (λ q. q.block.body) states) b =
      subst (λ (qs : List State). AreStatesAt s path i qs → TestsDefined s x (flat_map (λ q. q.block.body) qs) b) same h in
      of_states (are_states s path i scope is place states here) (λ yes. Says (meaning.Is yes)) (answer.Is b) said

  -- of an equation of this form
  pub defines_as : (e f : An_equation) (b : Bool) → e ≡ f → EquationDefines s path i f x b → EquationDefines s path i e x b
  defines_as e f b same h = subst (λ (y : An_equation). EquationDefines s path i y x b) (sym same) h

-- the equation at a position
pub equation_is : (s : Answers) (path : List Step) (number : ℕ) (node : Node) (block : Block) (i : ℕ) (e : Equation) (scope : Scope) → IsScopeAt s path number node block → slice_get block.body i ≡ Some e →
    thing_in s path ≡ In scope → slice_get (block_of scope).body i ≡ Some e
equation_is s path number node block i e scope at got is = ap (λ (own : Block). slice_get own.body i) (block_is s path number node block scope at is) ∙ got

-- the answer whether an equation defines a name
pub defines_answer : (s : Answers) (path : List Step) (x : Bor Name) (number : ℕ) (node : Node) (block : Block) (i : ℕ) (e : Equation) (b : Bool) → IsScopeAt s path number node block →
    slice_get block.body i ≡ Some e → EquationDefines s path i (out-Equation e) x.now b → (t : ℕ) → AnswerAt s path (asked_of.Defines i x) t (answer.Is b)
defines_answer s path x number node block i e b at got h t =
    let there = equation_is s path number node block i e at.scope at got at.is in
    from_rule s path (asked_of.Defines i x) t (Defines x.now e) (answer.Is b)
    (ap (λ (thing : Thing). question_of (setting_in s) thing (asked_of.Defines i x) t) at.is ∙ ap (λ (o : Option Equation). option_map (λ e. Defines x.now e) o) there)
    (h at.scope at.is (ap (λ (o : Option Equation). option_map (λ e. out-Equation e) o) there))

-- ---- the parts of an equation

module _ (s : Answers) (path : List Step) (i : ℕ) (x : Name) where
  module _ (branches : List Branch) (j : ℕ) (within : j < length branches) where
    abbrev pub SearchedBranches : ℕ → Type 0
    SearchedBranches n = (b : Bool) → AreBranchesAt s path i branches → TestsDefined s x (flat_map (λ p. p.block.body) (drop n branches)) b → TestsDefined s x (flat_map (λ p. p.block.body) branches) b

    pub branch_defines : (b : Bool) → b ≡ true → BlockDefines s (path ++ way.Branch i j ∷ []) x b → SearchedBranches j → AreBranchesAt s path i branches → TestsDefined s x (flat_map (λ p. p.block.body) branches) true
    branch_defines b holds h searched are =
        let (p, got, next) = next_of branches j within in
        searched true are (part_true s x (λ p. p.block.body) branches j p next
        (has_defined s (path ++ way.Branch i j ∷ []) x p.block true (are j p got) (subst (λ (y : Bool). BlockDefines s (path ++ way.Branch i j ∷ []) x y) holds h)))

    pub branch_later : (b : Bool) → b ≡ false → BlockDefines s (path ++ way.Branch i j ∷ []) x b → SearchedBranches j → SearchedBranches (j + 1)
    branch_later b fails h searched rest are r =
        let (p, got, next) = next_of branches j within in
        searched rest are (part_false s x (λ p. p.block.body) branches j p next rest
        (has_defined s (path ++ way.Branch i j ∷ []) x p.block false (are j p got) (subst (λ (y : Bool). BlockDefines s (path ++ way.Branch i j ∷ []) x y) fails h)) r)

  module _ (states : List State) (k : ℕ) (within : k < length states) where
    abbrev pub SearchedStates : ℕ → Type 0
    SearchedStates n = (b : Bool) → AreStatesAt s path i states → TestsDefined s x (flat_map (λ q. q.block.body) (drop n states)) b → TestsDefined s x (flat_map (λ q. q.block.body) states) b

    pub state_defines : (b : Bool) → b ≡ true → BlockDefines s (path ++ way.State i k ∷ []) x b → SearchedStates k → AreStatesAt s path i states → TestsDefined s x (flat_map (λ q. q.block.body) states) true
    state_defines b holds h searched are =
        let (q, got, next) = next_of states k within in
        searched true are (part_true s x (λ q. q.block.body) states k q next
        (has_defined s (path ++ way.State i k ∷ []) x q.block true (are k q got) (subst (λ (y : Bool). BlockDefines s (path ++ way.State i k ∷ []) x y) holds h)))

    pub state_later : (b : Bool) → b ≡ false → BlockDefines s (path ++ way.State i k ∷ []) x b → SearchedStates k → SearchedStates (k + 1)
    state_later b fails h searched rest are r =
        let (q, got, next) = next_of states k within in
        searched rest are (part_false s x (λ q. q.block.body) states k q next rest
        (has_defined s (path ++ way.State i k ∷ []) x q.block false (are k q got) (subst (λ (y : Bool). BlockDefines s (path ++ way.State i k ∷ []) x y) fails h)) r)
