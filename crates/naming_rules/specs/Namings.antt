-- One naming after another.
use Rattle.hept_ast.specs.declared.tree.Core.{Core}
use Rattle.core_naming.specs.Names.{IsNaming}

pub data Namings : Core → Core → Type 0 where
  no_naming : {core : Core} → Namings core core
  one_more : {core other last : Core} → Namings core other → IsNaming other last → Namings core last
