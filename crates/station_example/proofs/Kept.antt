-- What an owner knows of the slots that it told.
use Rattle.std.proofs.Common.{ℕ, ◌≤◌, Bool, true, false, cond, eqb, List, [], ◌∷◌, length, arith}
use Rattle.station_rule.specs.declared.view.Entry.{Entry}
use Rattle.station_rule.specs.Book.{issued, slot_of}

-- a slot was given at most as often as there are calls
pub issued_le : (s : ℕ) (book : List Entry) → length (issued s book) ≤ length book
issued_le s [] = omega arith
issued_le s (e ∷ es) = by (issued_le s es) (eqb (slot_of e.words) s)
  where
    by : length (issued s es) ≤ length es → (b : Bool) → length (cond b (e ∷ issued s es) (issued s es)) ≤ length (e ∷ es)
    by le true = omega arith
    by le false = omega arith
