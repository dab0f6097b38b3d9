-- Erasure keeps the parts of a node's text, and what its variables read.
use Rattle.std.specs.Prelude.{◌≡◌, ℕ, map}
use Rattle.hept_ast.specs.Texts.{Name}
use Rattle.hept_ast.specs.Scopes.{Clock}
use Rattle.hept_ast.specs.Parts.{Around, Branch_of, Body_of, State_of, Part, Block, Plain, Switch, Reset, Automaton, Transition, Placed, parts}
use Rattle.hept_ast.specs.Causal.{variable_reads, IsCausal}
use Rattle.hept_ast.specs.Initial.{Grades, AreLeastGrades}
use Rattle.hept_ast.specs.Erasure.{erased_expr, erased_decl, erased_escape, erased_node, erased}
use Rattle.hept_ast.specs.declared.tree.Node.{Node}
use Rattle.hept_ast.specs.declared.tree.Program.{Program}

abbrev pub erased_around : Around → Around
erased_around (Branch_of on locals) = Branch_of (erased_expr on) (map erased_decl locals)
erased_around (Body_of every locals) = Body_of (erased_expr every) (map erased_decl locals)
erased_around (State_of strong locals) = State_of (map erased_expr strong) (map erased_decl locals)

abbrev pub erased_part : Part → Part
erased_part (Block locals equations) = Block (map erased_decl locals) equations
erased_part (Plain p left right) = Plain p left (erased_expr right)
erased_part (Switch p on branches) = Switch p (erased_expr on) branches
erased_part (Reset p every sets) = Reset p (erased_expr every) sets
erased_part (Automaton p states) = Automaton p states
erased_part (Transition strong states e) = Transition strong states (erased_escape e)

abbrev pub erased_placed : Placed → Placed
erased_placed q = record { site = map erased_around q.site; part = erased_part q.part }

-- the parts of an erased node are the erased parts of the node
abbrev pub ErasedKeepsParts : Type 0
ErasedKeepsParts = (n : Node) → parts (erased_node n) ≡ map erased_placed (parts n)

-- each variable reads the same
abbrev pub ErasedKeepsVariableReads : Type 0
ErasedKeepsVariableReads = (n : Node) (clock : Name → Clock) (x : Name) → variable_reads (erased_node n) clock x ≡ variable_reads n clock x

-- a program without cycles of reads has an erasure without them
abbrev pub ErasedKeepsCausal : Type 0
ErasedKeepsCausal = (p : Program) (clock : ℕ → Name → Clock) → IsCausal p clock → IsCausal (erased p) clock

-- the least grades of a node are those of the erased node
abbrev pub ErasedKeepsLeastGrades : Type 0
ErasedKeepsLeastGrades = (n : Node) (g : Grades) → AreLeastGrades n g → AreLeastGrades (erased_node n) g
