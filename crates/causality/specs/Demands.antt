-- The demands of a node, as they are asked.
use Rattle.std.specs.Prelude.{ℕ, List, [], ◌++◌, Option, None, Some, if◌then◌else◌, is_some}
use Rattle.std.specs.List.{flat_map}
use Rattle.hept_ast.specs.Texts.{Name, is_in}
use Rattle.hept_ast.specs.Initial.{Grades, unmet_decl, unmet_part}
use Rattle.hept_ast.specs.SeenParts.{SeenPart, seen_parts, seen_block, seen_state}
use Rattle.hept_ast.specs.declared.tree.Decl.{Decl}
use Rattle.hept_ast.specs.declared.tree.Block.{Block}
use Rattle.hept_ast.specs.declared.tree.Node.{Node}
use Rattle.hept_ast.specs.declared.tree.Equation.{Equation}
use Rattle.hept_ast.specs.declared.tree.State.{State}

-- the grades by which these variables may be undefined
abbrev pub grades_from : List Name → Grades
grades_from nil = λ x. is_in x nil

-- a variable with `last`
abbrev pub unmet_last : Grades → Decl → List ℕ
unmet_last g d = if is_some d.init then unmet_decl g d else []

-- a part, where a node declares these itself
abbrev pub unmet_seen : Grades → (own : List Decl) → SeenPart → List ℕ
unmet_seen g own q = unmet_part g (q.inner ++ own) q.part

-- a variable, where it is declared
abbrev pub unmet_declared : Grades → Option Decl → List ℕ
unmet_declared g None = []
unmet_declared g (Some d) = unmet_decl g d

-- all parts inside an equation, a block or a state, where the blocks around declare these
abbrev pub unmet_in_equation : Grades → (own inner : List Decl) → Equation → List ℕ
unmet_in_equation g own inner e = flat_map (unmet_seen g own) (seen_parts inner e)

abbrev pub unmet_in_block : Grades → (own inner : List Decl) → Block → List ℕ
unmet_in_block g own inner block = flat_map (unmet_seen g own) (seen_block inner block)

abbrev pub unmet_in_state : Grades → (own inner : List Decl) → List State → State → List ℕ
unmet_in_state g own inner states q = flat_map (unmet_seen g own) (seen_state inner states q)

-- all parts of a node
abbrev pub unmet_parts : Grades → Node → List ℕ
unmet_parts g node =
    flat_map (unmet_last g) node.outputs ++ flat_map (unmet_last g) node.block.locals
    ++ flat_map (unmet_in_equation g (node.block.locals ++ node.outputs ++ node.inputs) []) node.block.body
