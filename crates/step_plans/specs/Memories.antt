-- What a memory stands for after a list of marked calls of its node.
use Rattle.std.specs.Prelude.{◌≡◌, ℕ, ◌<◌, Bool, true, false, List, [], ◌∷◌, ◌++◌, All, length, map, Option, Some, slice_get, slice_index}
use Rattle.hept_ast.specs.Texts.{Name, names}
use Rattle.hept_ast.specs.Scopes.{Text}
use Rattle.hept_ast.specs.Meaning.{Setting}
use Rattle.hept_ast.specs.Settings.{Marks, Replies, no_marks, no_replies, of_core}
use Rattle.hept_ast.specs.Calls.{marks_of}
use Rattle.hept_ast.specs.Sites.{Site}
use Rattle.hept_ast.specs.declared.tree.Core.{Core}
use Rattle.hept_ast.specs.declared.tree.CoreNode.{CoreNode}
use Rattle.step_cells.specs.Cells.{value_in}
use Rattle.step_cells.specs.declared.cell.Cell.{Cell}
use Rattle.step_cells.specs.declared.cell.Handle.{Handle}
use Rattle.step_plans.specs.Things.{Memory, initial_of}
use Rattle.step_plans.specs.Books.{Made, Book, Grows, IsCellOf, worth}
use Rattle.step_plans.specs.Plans.{Ground, IsPlanOf, top_of}
use Rattle.step_plans.specs.Sending.{AgreesWith, HaveArguments}
use Rattle.step_plans.specs.Instants.{EachOf, IsFirm, IsCovered, HasNoReply, VariablesHave, Kept_state, Stands, ServesInstant}
use Rattle.step_plans.specs.declared.plan.NodePlan.{NodePlan}

abbrev pub nodes_of : Core → Name → Option Text
nodes_of core = (of_core core no_marks no_replies).node

-- the text of the ground is that of a core
pub record IsGroundIn (core : Core) (g : Ground) : Type 0 where
  pub types : g.types ≡ core.types
  pub nodes : (f : Name) (text : Text) → g.nodes f ≡ Some text → nodes_of core f ≡ Some text

abbrev pub rows_of : List (Bool × List ℕ) → List (List ℕ)
rows_of calls = map (λ c. c.1) calls

-- the instants of the calls are marked as these are; of later ones nothing is said
abbrev pub HasMarks : Marks → List (Bool × List ℕ) → Type 0
HasMarks marked calls = (t : ℕ) → t < length calls → marked t ≡ marks_of calls t

-- marks and replies that agree with what happened so far
pub record Suits (core : Core) (g : Ground) (sites : List Site) (book : Book) (calls : List (Bool × List ℕ)) (marked : Marks) (replies : Replies) : Type 0 where
  pub marks : HasMarks marked calls
  pub agrees : AgreesWith (of_core core marked replies) sites book
  pub no_reply : EachOf (HasNoReply (of_core core marked replies)) g.calls

-- what is kept is what the meaning keeps after these calls, under all marks and replies that agree with what happened so far
abbrev pub StandsFor : Core → Ground → List Site → Book → (calls : List (Bool × List ℕ)) → Kept_state → Type 0
StandsFor core g sites book calls state = (marked : Marks) (replies : Replies) → Suits core g sites book calls marked replies → Stands (of_core core marked replies) (rows_of calls) (length calls) g sites state book

-- what types, clocks and grades say of an instant
pub record IsReadyAt (w : Setting) (rows : List (List ℕ)) (t : ℕ) (g : Ground) (sites : List Site) : Type 0 where
  pub firm : EachOf (IsFirm w rows t) g.tested
  pub covered : EachOf (IsCovered w rows t) g.covered
  pub arguments : EachOf (HaveArguments w rows t) sites

abbrev pub IsReady : Core → Ground → List Site → Book → (calls : List (Bool × List ℕ)) → Type 0
IsReady core g sites book calls = (marked : Marks) (replies : Replies) (t : ℕ) → Suits core g sites book calls marked replies → t < length calls → IsReadyAt (of_core core marked replies) (rows_of calls) t g sites

-- ---- restarts

-- cells are the initial ones, and the marks of own sites are set
pub record IsRestarted (g : Ground) (sites : List Site) (state : Kept_state) : Type 0 where
  pub cells : state.cells ≡ map initial_of g.memories
  pub futures : (reply : Handle → ℕ) (k : ℕ) (m : Memory) → slice_get g.future_memories k ≡ Some m → slice_index (map (worth reply) state.futures) k ≡ initial_of m
  pub marks : (k : ℕ) (site : Site) → slice_get sites k ≡ Some site → slice_index state.marks k ≡ 1

-- a new memory: the marks of own sites are clear
pub record IsNew (g : Ground) (sites : List Site) (state : Kept_state) : Type 0 where
  pub cells : state.cells ≡ map initial_of g.memories
  pub futures : (reply : Handle → ℕ) (k : ℕ) (m : Memory) → slice_get g.future_memories k ≡ Some m → slice_index (map (worth reply) state.futures) k ≡ initial_of m
  pub marks : (k : ℕ) (site : Site) → slice_get sites k ≡ Some site → slice_index state.marks k ≡ 0

-- ---- laws

-- a book without calls
pub record IsEmpty (book : Book) : Type 0 where
  pub calls : book.calls ≡ []

-- a new memory stands for no calls
abbrev pub NewStandsForNone : Type 0
NewStandsForNone = (core : Core) (g : Ground) (sites : List Site) (book : Book) (state : Kept_state) → IsEmpty book → IsNew g sites state → StandsFor core g sites book [] state

-- the inputs of calls hold no handle but those of the book
abbrev pub AllOwn : Book → List Made → Type 0
AllOwn book [] = Unit {0}
AllOwn book (c ∷ calls) = All (IsCellOf book) c.input × AllOwn book calls

-- the memory before a call, restarted where the call is marked
pub record IsBefore (g : Ground) (sites : List Site) (mark : Bool) (old begun : Kept_state) : Type 0 where
  pub fresh : mark ≡ true → IsRestarted g sites begun
  pub same : mark ≡ false → begun ≡ old

-- one call more
pub record OneMore (core : Core) (g : Ground) (sites : List Site) (node : CoreNode) (book later : Book) (calls : List (Bool × List ℕ)) (out : List ℕ) (new : Kept_state) (t : ℕ) : Type 0 where
  pub stands : StandsFor core g sites later calls new
  pub outputs : (marked : Marks) (replies : Replies) → Suits core g sites later calls marked replies → VariablesHave (of_core core marked replies) (rows_of calls) (top_of node) t (names node.outputs) out

abbrev pub OneCallMore : Type 0
OneCallMore = (core : Core) (g : Ground) (sites : List Site) (node : CoreNode) (plan : NodePlan) (book later : Book) (calls : List (Bool × List ℕ)) (mark : Bool) (inputs : List Cell) (out : List ℕ) (old begun new : Kept_state) →
    IsPlanOf g sites node plan → IsGroundIn core g → StandsFor core g sites book calls old → IsReady core g sites later (calls ++ (mark, map value_in inputs) ∷ []) →
    AllOwn book book.calls → All (IsCellOf book) old.futures → Grows book later → IsBefore g sites mark old begun → ServesInstant plan inputs out begun new book later →
    OneMore core g sites node book later (calls ++ (mark, map value_in inputs) ∷ []) out new (length calls)
