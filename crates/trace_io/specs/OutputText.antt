-- The text of rows of output values.
use Rattle.std.specs.Prelude.{ℕ, ◌+◌, ◌==◌, if◌then◌else◌, ◌<◌, List, [], ◌∷◌, ◌++◌, length, take, max, slice_index_or, Option, codes}
use Rattle.std.specs.List.{join_with_byte, flat_map}
use Rattle.std.specs.Fmt.{signed_decimal}
use Rattle.std.specs.Io.KnownBytes.{Appends}
use Rattle.hept_ast.specs.Values.{number_of}
use Rattle.step_objects.specs.declared.shape.Values.{Values}
use Rattle.step_objects.specs.declared.shape.Values.TheVariants.{Numbers, Truths, Constructors}

abbrev pub value_text : Values → ℕ → List ℕ
value_text Numbers v = signed_decimal (number_of v)
value_text Truths v = if v == 0 then codes "false" else codes "true"
value_text (Constructors names) v = slice_index_or names v []

-- the texts of a row's values
abbrev pub value_texts : List Values → List ℕ → List (List ℕ)
value_texts (t ∷ ts) (v ∷ row) = value_text t v ∷ value_texts ts row
value_texts _ _ = []

-- the values with one space between them, and a newline
abbrev pub row_line : List Values → List ℕ → List ℕ
row_line shape row = join_with_byte 32 (value_texts shape row) ++ 10 ∷ []

abbrev pub output_text : List Values → List (List ℕ) → List ℕ
output_text shape rows = flat_map (row_line shape) rows

-- known bytes grow by a part of bs, from its front, that is not the whole
abbrev pub AppendsPart : Option (List ℕ) → Option (List ℕ) → List ℕ → Type 0
AppendsPart old new bs = (n : ℕ) × (n < length bs) × Appends old new (take n bs)

abbrev pub longest : List (List ℕ) → ℕ
longest [] = 0
longest (c ∷ cs) = max (length c) (longest cs)

-- the most bytes of a value's text
abbrev pub widest : Values → ℕ
widest Numbers = 11
widest Truths = 5
widest (Constructors names) = longest names

-- the most bytes of a row's text
abbrev pub widest_row : List Values → ℕ
widest_row [] = 1
widest_row (t ∷ ts) = widest t + 1 + widest_row ts
