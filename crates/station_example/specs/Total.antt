-- A node that gives the running sum of its one input, in 32 bits.
use Rattle.std.specs.Prelude.{◌≡◌, ℕ, ◌+◌, ◌%◌, ◌^◌, List, [], ◌∷◌, slice_index}
use Rattle.station_rule.specs.declared.view.Sent.{Sent}

abbrev pub total_of : List Sent → ℕ
total_of [] = 0
total_of (s ∷ ss) = slice_index s.values 0 + total_of ss

abbrev pub StandsFor : ℕ → ℕ → List Sent → Type 0
StandsFor instance total sents = total ≡ total_of sents % 2 ^ 32

abbrev pub outputs : ℕ → List Sent → List ℕ
outputs instance sents = (total_of sents % 2 ^ 32) ∷ []
