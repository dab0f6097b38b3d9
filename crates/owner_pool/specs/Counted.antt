-- The counts of slots, and the slots with no name.
use Rattle.std.specs.Prelude.{◌≡◌, ◌≢◌, ℕ, ◌+◌, ◌<◌, ◌≤◌, ◌^◌, ◌==◌, Bool, cond, List, [], ◌∷◌, length, slice_index}

abbrev pub one_if : Bool → ℕ
one_if b = cond b 1 0

-- how often a number stands in a list
abbrev pub times : ℕ → List ℕ → ℕ
times s [] = 0
times s (x ∷ xs) = one_if (x == s) + times s xs

-- order has each of the slots below n once, and place says where
pub record IsOrder (n : ℕ) (order place : List ℕ) : Type 0 where
  pub order_long : length order ≡ n
  pub place_long : length place ≡ n
  pub there : (z : ℕ) → z < n → (slice_index place z < n) × (slice_index order (slice_index place z) ≡ z)
  pub back : (p : ℕ) → p < n → (slice_index order p < n) × (slice_index place (slice_index order p) ≡ p)

-- the slots with a count of 0 are those with a place below unnamed
pub record IsSplit (n : ℕ) (count : ℕ → ℕ) (place : List ℕ) (unnamed : ℕ) : Type 0 where
  pub within : unnamed ≤ n
  pub free : (z : ℕ) → z < n → count z ≡ 0 → slice_index place z < unnamed
  pub named : (z : ℕ) → z < n → 0 < count z → unnamed ≤ slice_index place z

-- the slot has changed places with the one at the place to
pub record Exchanged (order place new : List ℕ) (slot to : ℕ) : Type 0 where
  pub own : slice_index new slot ≡ to
  pub other : slice_index order to ≢ slot → slice_index new (slice_index order to) ≡ slice_index place slot
  pub rest : (z : ℕ) → z ≢ slot → z ≢ slice_index order to → slice_index new z ≡ slice_index place z

-- how often a slot is named
abbrev pub named_in : List ℕ → List ℕ → ℕ → ℕ
named_in told called z = slice_index told z + slice_index called z

pub record AreCounts (told called order place : List ℕ) (unnamed : ℕ) : Type 0 where
  pub called_long : length called ≡ length told
  pub small : length told < 2 ^ 32
  pub ordered : IsOrder (length told) order place
  pub split : IsSplit (length told) (named_in told called) place unnamed
