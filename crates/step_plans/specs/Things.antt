-- What registers and cells stand for at an instant, over the expanded text of a node.
use Rattle.std.specs.Prelude.{◌≡◌, ℕ, Bool, true, false, ◌||◌, ◌==◌, List, [], ◌∷◌, ◌++◌, Option, Some, None, is_some, slice_get, slice_index}
use Rattle.hept_ast.specs.Values.{truth}
use Rattle.std.specs.List.{find}
use Rattle.hept_ast.specs.Texts.{Name, tag_value}
use Rattle.hept_ast.specs.Scopes.{Clock, Scope}
use Rattle.hept_ast.specs.Meaning.{Question, Gives, Output, Variable, Present, Restarted, Answer, Absent, Nil, Value, Is, Setting}
use Rattle.hept_ast.specs.Outputs.{Knows}
use Rattle.hept_ast.specs.declared.tree.Expr.{Expr}
use Rattle.hept_ast.specs.declared.tree.MergeBranch.{MergeBranch}
use Rattle.step_plans.specs.Kept.{Kept, Previous}

-- what a register stands for
pub data Thing : Type 0 where
  -- whether what is on the clock is present
  Here : Clock → Scope → Thing
  -- a variable, what an expression gives, and an output of a call
  Named : Name → Scope → Thing
  Part : Expr → Clock → Scope → Thing
  Result : Expr → (output : ℕ) → Clock → Scope → Thing
  -- whether the scope is restarted by a reset, whatever the mark of the instant
  Again : Scope → Thing
  -- whether there is a previous instant
  Seen : Clock → Scope → Thing
  -- what an expression gave at the previous instant, or else this
  Left : Expr → Clock → Scope → (initial : ℕ) → Thing
  -- what the branch gives that the variable's value has among these, if there is one
  Branch_of : Name → List MergeBranch → Clock → Scope → Thing

-- what a cell stands for between two instants
pub data Memory : Type 0 where
  -- what an expression gave when it was last present, or else this
  Value_of : Expr → Clock → Scope → (initial : ℕ) → Memory
  -- whether there was a presence
  Presence_of : Clock → Scope → Memory

-- a number shows an answer; that which is absent or undefined is shown by every number
abbrev pub Shows : Answer → ℕ → Type 0
Shows (Value u) v = v ≡ u
Shows Absent v = Unit {0}
Shows Nil v = Unit {0}
Shows _ v = ⊥

pub record HasAnswer (K : Question → Answer → Type 0) (q : Question) (v : ℕ) : Type 0 where
  pub answer : Answer
  pub known : K q answer
  pub shown : Shows answer v

pub record HasTruth (K : Question → Answer → Type 0) (q : Question) (v : ℕ) : Type 0 where
  pub answer : Bool
  pub known : K q (Is answer)
  pub shown : v ≡ truth answer

module _ (w : Setting) (rows : List (List ℕ)) where
  -- a restart by the mark of the instant, or else by a reset
  pub record IsAgain (s : Scope) (t v : ℕ) : Type 0 where
    pub answer : Bool
    pub known : Knows w rows (Restarted s t) (Is (w.marked t || answer))
    pub shown : v ≡ truth answer

  abbrev pub PreviousOf : Clock → Scope → ℕ → Option ℕ → Type 0
  PreviousOf c s t at = Previous (Knows w rows) (λ p. Present c s p) (λ p. Restarted s p) t at

  abbrev pub KeptOf : Clock → Scope → ℕ → Option ℕ → Type 0
  KeptOf c s t at = Kept (Knows w rows) (λ p. Present c s p) (λ p. Restarted s p) t at

  pub record IsSeen (c : Clock) (s : Scope) (t v : ℕ) : Type 0 where
    pub at : Option ℕ
    pub previous : PreviousOf c s t at
    pub shown : v ≡ truth (is_some at)

  -- what the expression gave at this instant, or else the initial number
  abbrev pub LeftAt : Expr → Clock → Scope → (initial : ℕ) → Option ℕ → ℕ → Type 0
  LeftAt e c s initial None v = v ≡ initial
  LeftAt e c s initial (Some p) v = HasAnswer (Knows w rows) (Gives e c s p) v

  pub record IsLeft (e : Expr) (c : Clock) (s : Scope) (initial t v : ℕ) : Type 0 where
    pub at : Option ℕ
    pub previous : PreviousOf c s t at
    pub shown : LeftAt e c s initial at v

  -- whichever of these branches has the variable's value, the number shows what it gives
  abbrev pub ShowsBranch : Name → List MergeBranch → Clock → Scope → ℕ → ℕ → Type 0
  ShowsBranch x branches c s t v = (u : ℕ) (b : MergeBranch) → Knows w rows (Variable x s t) (Value u) → find (λ d. tag_value w.types d.tag == u) branches ≡ Some b →
      HasAnswer (Knows w rows) (Gives b.value (c ++ record { tag = b.tag; name = x } ∷ []) s t) v

  -- a register of this number stands for the thing at this instant
  abbrev pub Holds : ℕ → Thing → ℕ → Type 0
  Holds t (Here c s) v = HasTruth (Knows w rows) (Present c s t) v
  Holds t (Named x s) v = HasAnswer (Knows w rows) (Variable x s t) v
  Holds t (Part e c s) v = HasAnswer (Knows w rows) (Gives e c s t) v
  Holds t (Result e j c s) v = HasAnswer (Knows w rows) (Output e j c s t) v
  Holds t (Again s) v = IsAgain s t v
  Holds t (Seen c s) v = IsSeen c s t v
  Holds t (Left e c s initial) v = IsLeft e c s initial t v
  Holds t (Branch_of x branches c s) v = ShowsBranch x branches c s t v

  -- ---- cells

  abbrev pub clock_of : Memory → Clock
  clock_of (Value_of e c s initial) = c
  clock_of (Presence_of c s) = c

  abbrev pub scope_of : Memory → Scope
  scope_of (Value_of e c s initial) = s
  scope_of (Presence_of c s) = s

  abbrev pub Content : Memory → Option ℕ → ℕ → Type 0
  Content (Value_of e c s initial) at v = LeftAt e c s initial at v
  Content (Presence_of c s) at v = v ≡ truth (is_some at)

  -- a cell of this number stands for the memory before instant t, whether or not a restart comes at t
  pub record IsKept (t : ℕ) (m : Memory) (v : ℕ) : Type 0 where
    pub at : Option ℕ
    pub kept : KeptOf (clock_of m) (scope_of m) t at
    pub content : Content m at v

abbrev pub initial_of : Memory → ℕ
initial_of (Value_of e c s initial) = initial
initial_of (Presence_of c s) = 0

-- each number of a list stands for what another list says
abbrev pub Each : {A : Type 0} → (A → ℕ → Type 0) → List A → List ℕ → Type 0
Each P things values = (k : ℕ) (thing : _) → slice_get things k ≡ Some thing → P thing (slice_index values k)

-- a cell after the restart of the whole was done, where the instant is marked
pub record IsBegun (w : Setting) (rows : List (List ℕ)) (t : ℕ) (m : Memory) (v : ℕ) : Type 0 where
  pub fresh : w.marked t ≡ true → v ≡ initial_of m
  pub kept : w.marked t ≡ false → IsKept w rows t m v
