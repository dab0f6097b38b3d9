-- Erasure keeps the rules of names, types and futures.
use Rattle.hept_ast.specs.Faults.{IsTyped}
use Rattle.hept_ast.specs.TypedValues.{HaveConstructors}
use Rattle.hept_ast.specs.Erasure.{erased}
use Rattle.hept_ast.specs.declared.tree.Program.{Program}

-- a program without faults of names, types and futures has an erasure without them
abbrev pub ErasedKeepsTyped : Type 0
ErasedKeepsTyped = (p : Program) → HaveConstructors p.types → IsTyped p → IsTyped (erased p)

-- where a type has no constructor this is false: there is a program without faults whose erasure has one
abbrev pub TypedNeedsConstructors : Type 0
TypedNeedsConstructors = (p : Program) × IsTyped p × (IsTyped (erased p) → ⊥)
