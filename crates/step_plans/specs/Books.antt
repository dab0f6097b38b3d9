-- Calls that are offered, and what they reply.
use Rattle.std.specs.Prelude.{◌≡◌, ℕ, ◌<◌, ◌==◌, if◌then◌else◌, Bool, List, [], ◌∷◌, ◌++◌, Contains}
use Rattle.step_cells.specs.declared.cell.Cell.{Cell}
use Rattle.step_cells.specs.declared.cell.Cell.TheVariants as cell
use Rattle.step_cells.specs.declared.cell.Handle.{Handle}

-- a call: its instance and reset mark, its input, and the handle of its first output
pub record Made : Type 0 where
  pub instance : ℕ
  pub reset : Bool
  pub input : List Cell
  pub handle : Handle

-- the calls in the order of offering, what handles reply, and how many outputs a call of an instance has
pub record Book : Type 0 where
  pub calls : List Made
  pub reply : Handle → ℕ
  pub outputs : ℕ → ℕ

-- the handle of an output of the call whose first output has this one
abbrev pub of_output : Handle → (output : ℕ) → Handle
of_output h j = record { slot = h.slot; component = j; generation = h.generation }

-- the handle is one of an output of a call of the book
pub record IsOf (book : Book) (h : Handle) : Type 0 where
  pub call : Made
  pub there : Contains book.calls call
  pub output : ℕ
  pub within : output < book.outputs call.instance
  pub handle : of_output call.handle output ≡ h

-- a later book: it has more calls, and the replies to the earlier ones
pub record Grows (book later : Book) : Type 0 where
  pub added : List Made
  pub calls : later.calls ≡ book.calls ++ added
  pub outputs : later.outputs ≡ book.outputs
  pub replies : (h : Handle) → IsOf book h → later.reply h ≡ book.reply h

-- one call more
pub record IsOffered (book later : Book) (instance : ℕ) (reset : Bool) (input : List Cell) (h : Handle) : Type 0 where
  pub calls : later.calls ≡ book.calls ++ record { instance = instance; reset = reset; input = input; handle = h } ∷ []
  pub outputs : later.outputs ≡ book.outputs
  pub replies : (k : Handle) → IsOf book k → later.reply k ≡ book.reply k

-- the same calls
pub record IsSameBook (book later : Book) : Type 0 where
  pub calls : later.calls ≡ book.calls
  pub outputs : later.outputs ≡ book.outputs
  pub replies : (k : Handle) → IsOf book k → later.reply k ≡ book.reply k

-- a cell holds no handle but those of the book
abbrev pub IsCellOf : Book → Cell → Type 0
IsCellOf book (cell.Value v) = Unit {0}
IsCellOf book (cell.Ready v) = Unit {0}
IsCellOf book (cell.Held h) = IsOf book h

abbrev pub IsNoHandle : Cell → Type 0
IsNoHandle (cell.Held h) = ⊥
IsNoHandle _ = Unit {0}

-- the value of a cell, by replies
abbrev pub worth : (Handle → ℕ) → Cell → ℕ
worth reply (cell.Value v) = v
worth reply (cell.Ready v) = v
worth reply (cell.Held h) = reply h

-- the calls of an instance
abbrev pub of_instance : ℕ → List Made → List Made
of_instance k [] = []
of_instance k (c ∷ cs) = if c.instance == k then c ∷ of_instance k cs else of_instance k cs
