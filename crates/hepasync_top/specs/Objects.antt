-- The objects of a run: what they tell before and after it, and their counts of faults.
use Rattle.std.specs.Prelude.{ℕ, List, Option}
use Rattle.hept_io.specs.Outside.{Files}

-- a store: its files, where it tells them, which no run changes
pub record StoreChange : Type 0 where
  pub files : Option Files
  pub faults_before : ℕ
  pub faults_after : ℕ

-- a source or a sink: the bytes that are left in it, or that it holds, where it tells them
pub record StreamChange : Type 0 where
  pub before : Option (List ℕ)
  pub after : Option (List ℕ)
  pub faults_before : ℕ
  pub faults_after : ℕ
