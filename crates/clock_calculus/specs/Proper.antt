-- What the conditions of a node name: its expressions by their numbers, and its variables.
use Rattle.std.specs.Prelude.{◌≡◌, ℕ, ◌<◌, ◌⊎◌, ⊤, true, List, [], ◌∷◌}
use Rattle.hept_ast.specs.Texts.{Name, is_in}
use Rattle.hept_ast.specs.Clocks.{Term, Base, Of, Inner, On, Condition}

-- among so many expressions
abbrev pub HasNumber : ℕ → Term → Type 0
HasNumber n Base = ⊤
HasNumber n (Of x) = ⊤
HasNumber n (Inner k) = k < n
HasNumber n (On t tag x) = HasNumber n t

-- a variable among these
abbrev pub IsDeclared : List Name → Term → Type 0
IsDeclared names Base = ⊤
IsDeclared names (Of x) = is_in x names ≡ true
IsDeclared names (Inner k) = ⊤
IsDeclared names (On t tag x) = IsDeclared names t

-- a variable, declared or not, is on the base clock
abbrev pub IsOuter : Condition → Type 0
IsOuter c = (x : Name) × (c.left ≡ Of x) × (c.right ≡ Base)

pub record IsProper (names : List Name) (n : ℕ) (c : Condition) : Type 0 where
  pub left : HasNumber n c.left
  pub right : HasNumber n c.right
  pub declared : (IsDeclared names c.left × IsDeclared names c.right) ⊎ IsOuter c

abbrev pub AreProper : List Name → ℕ → List Condition → Type 0
AreProper names n [] = ⊤
AreProper names n (c ∷ cs) = IsProper names n c × AreProper names n cs
