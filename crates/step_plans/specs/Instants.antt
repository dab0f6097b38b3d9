-- One instant of a node by its plan.
use Rattle.std.specs.Prelude.{◌≡◌, ℕ, suc, ◌==◌, Bool, true, List, map, Some, None, slice_get, slice_index, ◌++◌, ◌∷◌, []}
use Rattle.std.specs.List.{find}
use Rattle.hept_ast.specs.Values.{truth}
use Rattle.hept_ast.specs.Texts.{Name, names, tag_value}
use Rattle.hept_ast.specs.Scopes.{Scope, Text, equation_of, calls_around}
use Rattle.hept_ast.specs.Meaning.{Variable, Present, Answer, Value, Is, Setting, clock_of_equation}
use Rattle.hept_ast.specs.Outputs.{Knows}
use Rattle.hept_ast.specs.Sites.{Site}
use Rattle.hept_ast.specs.declared.tree.CoreNode.{CoreNode}
use Rattle.hept_ast.specs.declared.tree.MergeBranch.{MergeBranch}
use Rattle.step_cells.specs.Cells.{value_in}
use Rattle.step_cells.specs.declared.cell.Cell.{Cell}
use Rattle.step_cells.specs.declared.cell.Handle.{Handle}
use Rattle.step_plans.specs.Kept.{Counted}
use Rattle.step_plans.specs.Things.{Thing, HasAnswer, Holds, IsKept, IsBegun, Memory, Each}
use Rattle.step_plans.specs.Books.{Book, of_instance, worth}
use Rattle.step_plans.specs.Operations.{Register, In_values, Operation, Storing, outcome, stored}
use Rattle.step_plans.specs.Plans.{Ground, Entry, Has, Makes, Means, Keeps, memory_at, Tested, Tests, Covering, Covers, Calling, Calls, IsPlanOf, top_of}
use Rattle.step_plans.specs.Sending.{AgreesWith, IsMade, IsSent, as_sent, IsMark, HaveArguments}
use Rattle.step_plans.specs.declared.plan.NodePlan.{NodePlan}

abbrev pub EachOf : {A : Type 0} → (A → Type 0) → List A → Type 0
EachOf P xs = (k : ℕ) (x : _) → slice_get xs k ≡ Some x → P x

-- ---- what is known of an instant, whatever is computed at it

-- a variable that is tested has a value wherever its clock is present
abbrev pub IsFirm : Setting → List (List ℕ) → ℕ → Tested → Type 0
IsFirm w rows t (Tests node x s) = (a : Answer) → Knows w rows (Variable x s t) a → Knows w rows (Present (clock_of_equation (equation_of node x)) s t) (Is true) → (v : ℕ) × (a ≡ Value v)

-- each value of a merge's variable has a branch
abbrev pub IsCovered : Setting → List (List ℕ) → ℕ → Covering → Type 0
IsCovered w rows t (Covers x s branches) = (u : ℕ) → Knows w rows (Variable x s t) (Value u) → (b : MergeBranch) × (find (λ d. tag_value w.types d.tag == u) branches ≡ Some b)

-- how often a synchronous call was made is known, and it has no reply
abbrev pub IsCounted : Setting → List (List ℕ) → ℕ → Calling → Type 0
IsCounted w rows t (Calls c s place) = (n : ℕ) × Counted (Knows w rows) (λ p. Present c s p) t n

abbrev pub HasNoReply : Setting → Calling → Type 0
HasNoReply w (Calls c s place) = (n : ℕ) → w.replies (calls_around s ++ place ∷ []) n ≡ None

-- the text of the ground is that of the setting
pub record IsGroundOf (w : Setting) (g : Ground) : Type 0 where
  pub types : g.types ≡ w.types
  pub nodes : (f : Name) (text : Text) → g.nodes f ≡ Some text → w.node f ≡ Some text

-- and the cells are as an instant begins
pub record Known (w : Setting) (rows : List (List ℕ)) (t : ℕ) (g : Ground) (cells : Register → ℕ) : Type 0 where
  pub ground : IsGroundOf w g
  pub begun : (r : Register) (m : Memory) → memory_at g r ≡ Some m → IsBegun w rows t m (cells r)
  pub firm : EachOf (IsFirm w rows t) g.tested
  pub covered : EachOf (IsCovered w rows t) g.covered
  pub counted : EachOf (IsCounted w rows t) g.calls
  pub no_reply : EachOf (HasNoReply w) g.calls

-- registers stand for all that is known of them
abbrev pub HoldsAll : Setting → List (List ℕ) → ℕ → List Entry → (Register → ℕ) → Type 0
HoldsAll w rows t entries now = (thing : Thing) (r : Register) → Has entries thing r → Holds w rows t thing (now r)

-- what an operation gives is what it makes, what a register means is what it has, and what a store leaves is what is kept
abbrev pub MakesHolds : Type 0
MakesHolds = (w : Setting) (rows : List (List ℕ)) (t : ℕ) (g : Ground) (cells now : Register → ℕ) (entries : List Entry) (o : Operation) (thing : Thing) → Known w rows t g cells → HoldsAll w rows t entries now →
    Makes g entries o thing → Holds w rows t thing (outcome cells now o)

abbrev pub MeansHolds : Type 0
MeansHolds = (w : Setting) (rows : List (List ℕ)) (t : ℕ) (g : Ground) (cells now : Register → ℕ) (entries : List Entry) (thing : Thing) (r : Register) → Known w rows t g cells → HoldsAll w rows t entries now →
    Means g entries thing r → Holds w rows t thing (now r)

abbrev pub KeepsHolds : Type 0
KeepsHolds = (w : Setting) (rows : List (List ℕ)) (t : ℕ) (g : Ground) (now : Register → ℕ) (entries : List Entry) (m : Memory) (store : Storing) (old : ℕ) → now (In_values 0) ≡ 1 → HoldsAll w rows t entries now →
    IsBegun w rows t m old → Keeps g entries m store → IsKept w rows (suc t) m (stored now store old)

-- ---- instants

-- variables of a scope have the answers that these numbers show
abbrev pub VariablesHave : Setting → List (List ℕ) → Scope → ℕ → List Name → List ℕ → Type 0
VariablesHave w rows s t xs vs = (k : ℕ) (x : Name) → slice_get xs k ≡ Some x → HasAnswer (Knows w rows) (Variable x s t) (slice_index vs k)

-- what a site was sent before an instant, with the values of a book
pub record IsServed (w : Setting) (rows : List (List ℕ)) (t : ℕ) (reply : Handle → ℕ) (site : Site) (k : ℕ) (book : Book) : Type 0 where
  pub again : Bool
  pub made : IsMade w rows t site k book
  pub sent : IsSent w rows site t again (as_sent reply (of_instance k book.calls))

-- what a node keeps between two instants: cells of plain and of future type, and the marks of its own sites
pub record Kept_state : Type 0 where
  pub cells : List ℕ
  pub futures : List Cell
  pub marks : List ℕ

-- a cell of future type has the value of this number
abbrev pub EachWorth : {A : Type 0} → (A → ℕ → Type 0) → List A → (Handle → ℕ) → List Cell → Type 0
EachWorth P things reply futures = Each P things (map (worth reply) futures)

-- what a node keeps stands for before an instant: its cells, how often synchronous calls were made, and what its sites were sent
pub record Stands (w : Setting) (rows : List (List ℕ)) (t : ℕ) (g : Ground) (sites : List Site) (state : Kept_state) (book : Book) : Type 0 where
  pub kept : Each (IsKept w rows t) g.memories state.cells
  pub futures_kept : EachWorth (IsKept w rows t) g.future_memories book.reply state.futures
  pub counted : EachOf (IsCounted w rows t) g.calls
  pub served : (k : ℕ) (site : Site) → slice_get sites k ≡ Some site → (x : IsServed w rows t book.reply site k book) × (slice_index state.marks k ≡ truth x.again)

pub record Begins (w : Setting) (rows : List (List ℕ)) (t : ℕ) (g : Ground) (sites : List Site) (node : CoreNode) (inputs : List Cell) (old : Kept_state) (book later : Book) : Type 0 where
  pub ground : IsGroundOf w g
  pub has_inputs : VariablesHave w rows (top_of node) t (names node.inputs) (map value_in inputs)
  pub begun : Each (IsBegun w rows t) g.memories old.cells
  pub futures_begun : EachWorth (IsBegun w rows t) g.future_memories later.reply old.futures
  pub firm : EachOf (IsFirm w rows t) g.tested
  pub covered : EachOf (IsCovered w rows t) g.covered
  pub counted : EachOf (IsCounted w rows t) g.calls
  pub no_reply : EachOf (HasNoReply w) g.calls
  pub arguments : EachOf (HaveArguments w rows t) sites
  pub served : (k : ℕ) (site : Site) → slice_get sites k ≡ Some site → IsServed w rows t later.reply site k book
  pub marked : (k : ℕ) (site : Site) (at : slice_get sites k ≡ Some site) → IsMark w t (served k site at).again (slice_index old.marks k)
  pub agrees : AgreesWith w sites later

pub record Ends (w : Setting) (rows : List (List ℕ)) (t : ℕ) (g : Ground) (sites : List Site) (node : CoreNode) (outputs : List ℕ) (new : Kept_state) (later : Book) : Type 0 where
  pub has_outputs : VariablesHave w rows (top_of node) t (names node.outputs) outputs
  pub after : Stands w rows (suc t) g sites new later

-- one instant under any marks, and any replies that agree with the book at its end
abbrev pub ServesInstant : NodePlan → (inputs : List Cell) → (outputs : List ℕ) → (old new : Kept_state) → (book later : Book) → Type 0
ServesInstant plan inputs outputs old new book later = (w : Setting) (rows : List (List ℕ)) (t : ℕ) (g : Ground) (sites : List Site) (node : CoreNode) →
    IsPlanOf g sites node plan → Begins w rows t g sites node inputs old book later → Ends w rows t g sites node outputs new later
