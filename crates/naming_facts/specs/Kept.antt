-- Naming a subexpression of a core keeps its static facts.
use Rattle.std.specs.Prelude.{if◌then◌else◌, List}
use Rattle.hept_ast.specs.Texts.{Name, same}
use Rattle.hept_ast.specs.declared.tree.Core.{Core}
use Rattle.core_rules.specs.WellFormed.{IsWellFormed}
use Rattle.core_facts.specs.Undefined.{Grades, lists_of}
use Rattle.core_facts.specs.Static.{StaticCore, StaticNode}
use Rattle.core_naming.specs.Names.{IsNaming}
use Rattle.naming_rules.specs.Namings.{Namings}

abbrev pub named_grade : Grades → Name → List (List Name) → Grades
named_grade g x n y = if same y x then n else g y

-- the new variable is as undefined as the expression that it stands for, and no other grade changes
abbrev pub NamingKeepsGrades : Type 0
NamingKeepsGrades = (core other : Core) (n : IsNaming core other) (g : Grades) → IsWellFormed core → StaticNode core n.node g →
    StaticNode other n.moved (named_grade g n.x (lists_of g n.step.equation.resets n.a.form))

abbrev pub NamingKeepsStatic : Type 0
NamingKeepsStatic = (core other : Core) → IsWellFormed core → IsNaming core other → StaticCore core → StaticCore other

-- one naming after another
abbrev pub NamingsKeepStatic : Type 0
NamingsKeepStatic = (core other : Core) → IsWellFormed core → Namings core other → StaticCore core → StaticCore other
