-- Which equations define a name, by what tests show.
use Rattle.std.proofs.Common.{◌≡◌, ℕ, ◌+◌, ◌<◌, ◌≤◌, Bool, true, false, if◌then◌else◌, List, [], ◌∷◌, ◌++◌, length, drop, get_or, Option, Some, None, slice_get, ◌⊎◌, inl, inr, refl, sym, ap, subst, ◌∙◌, arith}
use Rattle.std.specs.Borrow.{Bor}
use Rattle.std.specs.List.{flat_map}
use Rattle.std.specs.Option.{option_map}
use Rattle.std.proofs.lemmas.Option.{slice_get_cases}
use Rattle.std.proofs.lemmas.List.{drop_more}
use Rattle.hept_ast.specs.Texts.{Name}
use Rattle.hept_ast.specs.Scopes.{Scope, block_of}
use Rattle.hept_ast.specs.Meaning.{Defines, Rule, if_defined, test}
use Rattle.hept_ast.specs.declared.tree.Node.{Node}
use Rattle.hept_ast.specs.declared.tree.Block.{Block}
use Rattle.hept_ast.specs.declared.tree.Equation.{Equation}
use Rattle.answer_table.specs.declared.paths.Step.{Step}
use Rattle.answer_table.specs.declared.questions.Asked.TheVariants as asked_of
use Rattle.answer_table.specs.declared.questions.Answer.{Answer}
use Rattle.answer_table.specs.declared.answers.Answers.{Answers}
use Rattle.answer_table.specs.Things.{Thing, In}
use Rattle.answer_table.specs.Asking.{question_of}
use Rattle.answer_table.specs.Tables.{IsScopeAt, RuleGives, setting_in, thing_in}
use Rattle.erased_meaning.specs.Rules.{BlockDefines, Tests, TestsDefined}
use Rattle.erased_meaning.specs.Equations.{HasBlock}

pub in_same : (a b : Scope) → In a ≡ In b → a ≡ b
in_same a b h = cc

next_by : {X : Type 0} (xs : List X) (i : ℕ) → i < length xs → ((x : X) × (i < length xs) × (slice_get xs i ≡ Some x) × (get_or xs i x ≡ x)) ⊎ ((length xs ≤ i) × (slice_get xs i ≡ None)) →
    (x : X) × (slice_get xs i ≡ Some x) × (drop i xs ≡ x ∷ drop (i + 1) xs)
next_by {X} xs i within (inl (x, inside, got, at)) = (x, got, drop_more xs i x within ∙ ap (λ (y : X). y ∷ drop (i + 1) xs) at)
next_by {X} xs i within (inr (past, got)) = absurd (omega (arith, within, past))

-- what comes next at a position of a list
pub next_of : {X : Type 0} (xs : List X) (i : ℕ) → i < length xs → (x : X) × (slice_get xs i ≡ Some x) × (drop i xs ≡ x ∷ drop (i + 1) xs)
next_of {X} xs i within = next_by xs i within (slice_get_cases xs i).1

-- the block of the scope that a path leads to
pub block_is : (s : Answers) (path : List Step) (number : ℕ) (node : Node) (block : Block) (scope : Scope) → IsScopeAt s path number node block → thing_in s path ≡ In scope → block_of scope ≡ block
block_is s path number node block scope at is = ap (λ (x : Scope). block_of x) (in_same scope at.scope (sym is ∙ at.is)) ∙ at.own

module _ (s : Answers) (x : Name) where
  -- a test whether an equation defines the name comes out so
  abbrev pub TestsOne : Equation → Bool → Type 0
  TestsOne e b = (go : Bool → Rule) (a : Answer) → RuleGives s (go b) a → RuleGives s (test (Defines x e) go) a

  pub none_defined : TestsDefined s x [] false
  none_defined go a k = k

  first_true : (e : Equation) (es : List Equation) → TestsOne e true → TestsDefined s x (e ∷ es) true
  first_true e es h go a k = h (λ yes. if yes then go true else if_defined x es go) a k

  first_false : (e : Equation) (es : List Equation) (b : Bool) → TestsOne e false → TestsDefined s x es b → TestsDefined s x (e ∷ es) b
  first_false e es b h r go a k = h (λ yes. if yes then go true else if_defined x es go) a (r go a k)

  split_rule : (xs ys : List Equation) (go : Bool → Rule) → if_defined x (xs ++ ys) go ≡ if_defined x xs (λ yes. if yes then go true else if_defined x ys go)
  split_rule [] ys go = refl
  split_rule (e ∷ xs) ys go = ap (λ (r : Rule). test (Defines x e) (λ yes. if yes then go true else r)) (split_rule xs ys go)

  front_true : (xs ys : List Equation) → TestsDefined s x xs true → TestsDefined s x (xs ++ ys) true
  front_true xs ys h go a k = subst (λ (r : Rule). RuleGives s r a) (sym (split_rule xs ys go)) (h (λ yes. if yes then go true else if_defined x ys go) a k)

  front_false : (xs ys : List Equation) (b : Bool) → TestsDefined s x xs false → TestsDefined s x ys b → TestsDefined s x (xs ++ ys) b
  front_false xs ys b h r go a k = subst (λ (r : Rule). RuleGives s r a) (sym (split_rule xs ys go)) (h (λ yes. if yes then go true else if_defined x ys go) a (r go a k))

  -- the equation at which a search has come defines the name, or does not
  pub one_true : (es : List Equation) (i : ℕ) (e : Equation) → drop i es ≡ e ∷ drop (i + 1) es → TestsOne e true → TestsDefined s x (drop i es) true
  one_true es i e next h = subst (λ (rest : List Equation). TestsDefined s x rest true) (sym next) (first_true e (drop (i + 1) es) h)

  pub one_false : (es : List Equation) (i : ℕ) (e : Equation) (b : Bool) → drop i es ≡ e ∷ drop (i + 1) es → TestsOne e false → TestsDefined s x (drop (i + 1) es) b → TestsDefined s x (drop i es) b
  one_false es i e b next h r = subst (λ (rest : List Equation). TestsDefined s x rest b) (sym next) (first_false e (drop (i + 1) es) b h r)

  -- of the blocks of some parts
  module _ {P : Type 0} (body : P → List Equation) (ps : List P) (i : ℕ) (p : P) (next : drop i ps ≡ p ∷ drop (i + 1) ps) where
    flat_next : flat_map body (drop i ps) ≡ body p ++ flat_map body (drop (i + 1) ps)
    flat_next = ap (λ (rest : List P). flat_map body rest) next

    pub part_true : TestsDefined s x (body p) true → TestsDefined s x (flat_map body (drop i ps)) true
    part_true h = subst (λ (es : List Equation). TestsDefined s x es true) (sym flat_next) (front_true (body p) (flat_map body (drop (i + 1) ps)) h)

    pub part_false : (b : Bool) → TestsDefined s x (body p) false → TestsDefined s x (flat_map body (drop (i + 1) ps)) b → TestsDefined s x (flat_map body (drop i ps)) b
    part_false b h r = subst (λ (es : List Equation). TestsDefined s x es b) (sym flat_next) (front_false (body p) (flat_map body (drop (i + 1) ps)) b h r)

module _ (s : Answers) (path : List Step) (x : Bor Name) where
  -- the equation at a position of a scope's block, tested
  pub tested : (scope : Scope) (i t : ℕ) (b : Bool) (e : Equation) → thing_in s path ≡ In scope → slice_get (block_of scope).body i ≡ Some e → Tests s path (asked_of.Defines i x) t b → TestsOne s x.now e b
  tested scope i t b e is got h go a k =
      h (Defines x.now e) go a
      (ap (λ (thing : Thing). question_of (setting_in s) thing (asked_of.Defines i x) t) is ∙ ap (λ (o : Option Equation). option_map (λ e. Defines x.now e) o) got) k

  module _ (number : ℕ) (node : Node) (block : Block) (at : IsScopeAt s path number node block) (i : ℕ) (within : i < length block.body) where
    here : (scope : Scope) → thing_in s path ≡ In scope → (e : Equation) × (slice_get (block_of scope).body i ≡ Some e) × (drop i (block_of scope).body ≡ e ∷ drop (i + 1) (block_of scope).body)
    here scope is = next_of (block_of scope).body i (subst (λ (own : Block). i < length own.body) (sym (block_is s path number node block scope at is)) within)

    -- where a search among the equations has come
    abbrev pub Searched : ℕ → Type 0
    Searched n = (scope : Scope) (b : Bool) → thing_in s path ≡ In scope → TestsDefined s x.now (drop n (block_of scope).body) b → TestsDefined s x.now (block_of scope).body b

    pub defines_here : (t : ℕ) → Tests s path (asked_of.Defines i x) t true → Searched i → BlockDefines s path x.now true
    defines_here t h searched scope is =
        let (e, got, next) = here scope is in
        searched scope true is (one_true s x.now (block_of scope).body i e next (tested scope i t true e is got h))

    pub defines_later : (t : ℕ) → Tests s path (asked_of.Defines i x) t false → Searched i → Searched (i + 1)
    defines_later t h searched scope b is r =
        let (e, got, next) = here scope is in
        searched scope b is (one_false s x.now (block_of scope).body i e b next (tested scope i t false e is got h) r)

-- what a path's block defines is what is defined there
pub has_defined : (s : Answers) (path : List Step) (x : Name) (block : Block) (b : Bool) → HasBlock s path block → BlockDefines s path x b → TestsDefined s x block.body b
has_defined s path x block b has h = let (scope, is, own) = has in subst (λ (bl : Block). TestsDefined s x bl.body b) own (h scope is)

pub tests_as : (s : Answers) (path : List Step) (x : Bor Name) (i t : ℕ) (a b : Bool) → a ≡ b → Tests s path (asked_of.Defines i x) t a → Tests s path (asked_of.Defines i x) t b
tests_as s path x i t a b same h = subst (λ (r : Bool). Tests s path (asked_of.Defines i x) t r) same h
