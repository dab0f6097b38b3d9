-- Names with their places.
use Rattle.std.specs.Prelude.{ℕ, List, map}
use Rattle.hept_ast.specs.Texts.{Name}
use Rattle.earliest_fault.specs.declared.labels.Label.{Label}

abbrev pub label_of : Label → ℕ × Name
label_of l = (l.place.0, l.name.now)

-- names that have one place
abbrev pub names_at : ℕ → List Name → List (ℕ × Name)
names_at p xs = map (λ x. (p, x)) xs
