-- What actions do to values, futures and books.
use Rattle.std.specs.Prelude.{◌≡◌, ◌≢◌, ℕ, zero, suc, ◌+◌, ◌<◌, ◌≤◌, ◌==◌, ◌||◌, if◌then◌else◌, Bool, List, [], ◌∷◌, All, Option, Some, None, length, map, take, slice_get, slice_index, slice_set}
use Rattle.step_cells.specs.declared.cell.Cell.{Cell}
use Rattle.step_cells.specs.declared.cell.Cell.TheVariants as cell
use Rattle.step_cells.specs.declared.cell.Handle.{Handle}
use Rattle.step_plans.specs.Books.{Book, IsOffered, IsSameBook, IsCellOf, of_output, worth}
use Rattle.step_plans.specs.Operations.{no_future, cell_of}
use Rattle.step_plans.specs.declared.instruction.Store.{Store}
use Rattle.step_plans.specs.declared.instruction.Store.TheVariants as keeps
use Rattle.step_plans.specs.declared.action.Action.{Action}
use Rattle.step_plans.specs.declared.action.Action.TheVariants as act
use Rattle.step_plans.specs.declared.action.Offering.{Offering}
use Rattle.step_engine.specs.Running.{given, moved, future_at, IsWithin, IsFutureWithin, IsSourceWithin}

-- values and futures, and the book
pub record State : Type 0 where
  pub values : List ℕ
  pub futures : List Cell
  pub book : Book

-- the futures of a call, from this one on: held, or none where the call is absent
abbrev pub future_of : Option Handle → (output : ℕ) → Cell
future_of None j = no_future
future_of (Some h) j = cell.Held (of_output h j)

abbrev pub with_futures : List Cell → (first : ℕ) → (outputs : ℕ) → Option Handle → List Cell
with_futures futures first zero h = futures
with_futures futures first (suc j) h = slice_set (with_futures futures first j h) (first + j) (future_of h j)

-- the input of a call
abbrev pub input_of : (values : List ℕ) → (futures : List Cell) → Offering → List Cell
input_of values futures o = map (cell_of values futures) o.sources.items

-- whether the mark of a call is set or its scope is restarted now
abbrev pub reset_of : (marks values : List ℕ) → (k : ℕ) → Offering → Bool
reset_of marks values k o = slice_index marks k == 1 || slice_index values o.again == 1

pub record IsNotOffered (o : Offering) (s u : State) : Type 0 where
  pub values : u.values ≡ s.values
  pub futures : u.futures ≡ with_futures s.futures o.first o.outputs None
  pub book : u.book ≡ s.book

pub record IsOfferedAt (marks : List ℕ) (k : ℕ) (o : Offering) (s u : State) : Type 0 where
  pub handle : Handle
  pub values : u.values ≡ s.values
  pub futures : u.futures ≡ with_futures s.futures o.first o.outputs (Some handle)
  pub book : IsOffered s.book u.book k (reset_of marks s.values k o) (input_of s.values s.futures o) handle

pub record IsGot (to h f : ℕ) (s u : State) : Type 0 where
  pub value : ℕ
  pub values : u.values ≡ slice_set s.values to value
  pub futures : u.futures ≡ s.futures
  pub book : IsSameBook s.book u.book
  pub here : slice_index s.values h ≡ 1 → value ≡ worth s.book.reply (future_at s.futures f)

pub record HasValue (to value : ℕ) (s u : State) : Type 0 where
  pub values : u.values ≡ slice_set s.values to value
  pub futures : u.futures ≡ s.futures
  pub book : u.book ≡ s.book

pub record HasFuture (to : ℕ) (future : Cell) (s u : State) : Type 0 where
  pub values : u.values ≡ s.values
  pub futures : u.futures ≡ slice_set s.futures to future
  pub book : u.book ≡ s.book

-- what an action does
abbrev pub IsDone : (offerings : List Offering) → (cells marks : List ℕ) → Action → State → State → Type 0
IsDone offerings cells marks (act.Compute to i) s u = HasValue to (given cells s.values i) s u
IsDone offerings cells marks (act.Move to i) s u = HasFuture to (moved s.values s.futures i) s u
IsDone offerings cells marks (act.Offer k) s u = (o : Offering) → slice_get offerings k ≡ Some o →
    (slice_index s.values o.here ≡ 1 → IsOfferedAt marks k o s u) × (slice_index s.values o.here ≢ 1 → IsNotOffered o s u)
IsDone offerings cells marks (act.Get to h f) s u = IsGot to h f s u

-- ---- what actions name

pub record IsOfferingWithin (n m scratch : ℕ) (o : Offering) : Type 0 where
  pub here : o.here < n
  pub again : o.again < n
  pub sources : All (IsSourceWithin n m) o.sources.items
  pub few : length o.sources.items ≤ scratch
  pub room : o.first + o.outputs ≤ m

abbrev pub IsActionWithin : (values cells futures offerings : ℕ) → Action → Type 0
IsActionWithin n m f k (act.Compute to i) = (to < n) × IsWithin n m i
IsActionWithin n m f k (act.Move to i) = (to < f) × IsFutureWithin n f i
IsActionWithin n m f k (act.Offer c) = c < k
IsActionWithin n m f k (act.Get to h x) = (to < n) × (h < n) × (x < f)

-- the futures are of the book, and its calls have the outputs of the offerings
pub record IsOwned (offerings : List Offering) (book : Book) (futures : List Cell) : Type 0 where
  pub named : All (IsCellOf book) futures
  pub outputs : (k : ℕ) (o : Offering) → slice_get offerings k ≡ Some o → o.outputs ≡ book.outputs k

-- an action that is done, where what it names is there
pub record IsStep (offerings : List Offering) (cells marks : List ℕ) (a : Action) (s u : State) : Type 0 where
  pub owned : IsOwned offerings s.book s.futures
  pub within : IsActionWithin (length s.values) (length cells) (length s.futures) (length offerings) a
  pub inputs : ℕ
  pub offers : All (IsOfferingWithin (length s.values) (length s.futures) inputs) offerings
  pub done : IsDone offerings cells marks a s u

-- actions one after another
pub data AreDone (offerings : List Offering) (cells marks : List ℕ) : List Action → State → State → Type 0 where
  nothing : {s : State} → AreDone offerings cells marks [] s s
  done : {s u v : State} {a : Action} {rest : List Action} → IsStep offerings cells marks a s u → AreDone offerings cells marks rest u v → AreDone offerings cells marks (a ∷ rest) s v

-- ---- cells of future type

-- what a cell of future type keeps
abbrev pub stored_future : (values : List ℕ) → (futures : List Cell) → Store → (old : Cell) → Cell
stored_future values futures (keeps.Always a) old = future_at futures a
stored_future values futures (keeps.Where h a) old = if slice_index values h == 1 then future_at futures a else old
stored_future values futures (keeps.Unless h a g n) old = if slice_index values h == 1 then future_at futures a else (if slice_index values g == 1 then cell.Ready n else old)

-- it takes a future that is no cell
abbrev pub IsFutureStoreWithin : (values cells futures : ℕ) → Store → Type 0
IsFutureStoreWithin n m f (keeps.Always a) = (m ≤ a) × (a < f)
IsFutureStoreWithin n m f (keeps.Where h a) = (h < n) × (m ≤ a) × (a < f)
IsFutureStoreWithin n m f (keeps.Unless h a g k) = (h < n) × (m ≤ a) × (a < f) × (g < n)

abbrev pub AreFuturesAfter : List Store → (values : List ℕ) → (old new : List Cell) → Type 0
AreFuturesAfter stores values old new = (k : ℕ) (s : Store) → slice_get stores k ≡ Some s → future_at new k ≡ stored_future values old s (future_at old k)

-- ---- offers

-- the input of a call has a cell for each input of its node, and the owner holds the cells before the futures of the call
pub record IsOfferOf (futures : List Cell) (o : Offering) (input names : List Cell) : Type 0 where
  pub as_many : length input ≡ length o.sources.items
  pub named : names ≡ take o.first futures

-- a call that is made now is taken
abbrev pub TakesNow : (takes : ℕ → List Cell → List Cell → Type 0) → List Offering → List Cell → Type 0
TakesNow takes offerings futures = (k : ℕ) (o : Offering) (input names : List Cell) → slice_get offerings k ≡ Some o → IsOfferOf futures o input names → takes k input names

-- each call that a node may make is taken, whatever book there is then
abbrev pub TakesAll : {C : Type 0} → (stands : C → Book → Type 0) → (takes : C → ℕ → List Cell → List Cell → Type 0) → List Offering → Type 0
TakesAll stands takes offerings = (s : _) (book : Book) (futures : List Cell) → stands s book → IsOwned offerings book futures → TakesNow (takes s) offerings futures
