-- Counts of faults, and stores of files.
use Rattle.std.specs.Prelude.{◌≡◌, ℕ, ◌<◌, ◌^◌, ◌-◌, ◌+◌, min, List, length, Option, Some, None, String, Vec, ◌⊎◌}
use Rattle.std.specs.Option.{option_map}
use Rattle.std.specs.BTreeMap.{BTreeMap, get_by_text}

-- a count of faults rose: it is greater, or stands at the last value of a u64
abbrev pub Rose : ℕ → ℕ → Type 0
Rose old new = (old < new) ⊎ (new ≡ 2 ^ 64 - 1)

-- one more, where that is a u64
abbrev pub one_more : ℕ → ℕ
one_more n = min (n + 1) (2 ^ 64 - 1)

-- the bytes of the file of a name, where there is one
abbrev pub Files : Type 0
Files = List ℕ → Option (List ℕ)

-- the files of a map
abbrev pub files_of : {Y Z : Type 0} → BTreeMap (String Y) (Vec ℕ Z) → Files
files_of map name = option_map (λ v. v.items) (get_by_text map name)

abbrev pub HasFile : Files → List ℕ → List ℕ → Type 0
HasFile map name bytes = map name ≡ Some bytes

-- the file has more bytes than may be read
abbrev pub IsLarge : Files → List ℕ → Type 0
IsLarge map name = (bytes : List ℕ) × (map name ≡ Some bytes) × (1048576 < length bytes)

-- the store tells its files, and this is the name of none
abbrev pub HasNone : Option Files → List ℕ → Type 0
HasNone None name = ⊥
HasNone (Some map) name = map name ≡ None
