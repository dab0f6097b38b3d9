-- The faults of limits of a node's variables and of its automata.
use Rattle.std.specs.Prelude.{List, ◌++◌}
use Rattle.std.specs.List.{flat_map}
use Rattle.hept_ast.specs.Texts.{Name}
use Rattle.hept_ast.specs.Faults.{Fault}
use Rattle.hept_ast.specs.Limits.{name_limit, over}
use Rattle.hept_ast.specs.Parts.{Case}
use Rattle.hept_ast.specs.declared.tree.Decl.{Decl}

-- the faults of limits of a node with these variables
abbrev pub variable_limits : List Decl → List Fault
variable_limits ds = over 4096 (λ d. d.place.0) ds ++ flat_map (λ d. name_limit d.place.0 d.name) ds

-- the faults of limits of an automaton with these states
abbrev pub automaton_limits : List (Case Name) → List Fault
automaton_limits states = over 256 (λ c. c.place) states ++ flat_map (λ c. name_limit c.place c.label) states
