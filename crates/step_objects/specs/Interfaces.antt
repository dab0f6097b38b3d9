-- The shapes of the rows of inputs and outputs of the node of a program that is run.
use Rattle.std.specs.Prelude.{ℕ, ◌+◌, List, [], ◌∷◌, Option, Some, None}
use Rattle.hept_ast.specs.Scopes.{Text, Written, input_decls, output_decls}
use Rattle.hept_ast.specs.declared.tree.Node.{Node}
use Rattle.hept_ast.specs.declared.tree.Program.{Program}
use Rattle.hept_ast.specs.declared.tree.TypeDec.{TypeDec}
use Rattle.step_objects.specs.declared.shape.Values.{Values}
use Rattle.step_objects.specs.Shapes.{shape_of}

-- the last node, the nodes being numbered from n
abbrev pub last_text : ℕ → List Node → Option Text
last_text n [] = None
last_text n (node ∷ []) = Some (Written n node)
last_text n (node ∷ next ∷ nodes) = last_text (n + 1) (next ∷ nodes)

-- the node of a program that is run
abbrev pub main_text : Program → Option Text
main_text p = last_text 0 p.nodes

abbrev pub inputs_shape : List TypeDec → Option Text → List Values
inputs_shape types None = []
inputs_shape types (Some text) = shape_of types (input_decls text)

abbrev pub outputs_shape : List TypeDec → Option Text → List Values
outputs_shape types None = []
outputs_shape types (Some text) = shape_of types (output_decls text)

-- the values of the rows of inputs and outputs of the node that is run
abbrev pub input_shape : Program → List Values
input_shape p = inputs_shape p.types (main_text p)

abbrev pub output_shape : Program → List Values
output_shape p = outputs_shape p.types (main_text p)
