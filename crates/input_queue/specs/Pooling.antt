-- What a look does to a pool.
use Rattle.std.specs.Prelude.{◌≡◌, ℕ, slice_set}
use Rattle.owner_pool.specs.declared.pool.Pool.{Pool}
use Rattle.owner_pool.specs.Holding.{told_in}

-- it has seen this number of calls of the instance done, and nothing else of what it told
abbrev pub HasSeenOnly : ℕ → Pool → Pool → ℕ → Type 0
HasSeenOnly i old new done = (new.seen.items ≡ slice_set old.seen.items i done) × ((z : ℕ) → told_in new z ≡ told_in old z)

-- and every last generation is as it was
abbrev pub HasSeen : ℕ → Pool → Pool → ℕ → Type 0
HasSeen i old new done = HasSeenOnly i old new done × (new.last ≡ old.last)
