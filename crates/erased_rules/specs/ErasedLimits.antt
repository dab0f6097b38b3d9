-- Erasure keeps the limits.
use Rattle.std.specs.Prelude.{◌≡◌, []}
use Rattle.hept_ast.specs.Limits.{limits}
use Rattle.hept_ast.specs.Erasure.{erased}
use Rattle.hept_ast.specs.declared.tree.Program.{Program}

-- a program within the limits has an erasure within them
abbrev pub ErasedKeepsLimits : Type 0
ErasedKeepsLimits = (p : Program) → limits p ≡ [] → limits (erased p) ≡ []
