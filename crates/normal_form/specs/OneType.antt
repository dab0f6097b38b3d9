-- The type of an expression that has exactly one.
use Rattle.std.specs.Prelude.{◌≡◌, Bool, [], ◌∷◌, Option, Some}
use Rattle.hept_ast.specs.Texts.{Name}
use Rattle.hept_ast.specs.Types.{types_of}
use Rattle.hept_ast.specs.Faults.{Judging, judge, node_named}
use Rattle.hept_ast.specs.declared.tree.BinaryOp.{BinaryOp}
use Rattle.hept_ast.specs.declared.tree.BinaryOp.TheVariants.{Add, Sub, Mul, Div, Rem}
use Rattle.hept_ast.specs.declared.tree.Expr.{Expr}
use Rattle.hept_ast.specs.declared.tree.Node.{Node}
use Rattle.hept_ast.specs.declared.tree.Plain.TheVariants.{Int, Bool as Truth_value}
use Rattle.hept_ast.specs.declared.tree.Ty.{Ty}
use Rattle.hept_ast.specs.declared.tree.Ty.TheVariants as ty
use Rattle.hept_ast.specs.declared.tree.UnaryOp.{UnaryOp}
use Rattle.hept_ast.specs.declared.tree.UnaryOp.TheVariants.{Minus, Not}

-- the value of an option that has one
abbrev pub IsValueOf : {A : Type 0} → Option A → A → Type 0
IsValueOf {A} o t = (u : A) → o ≡ Some u → t ≡ u

-- the type of an expression that has just one, whether it is the operand of a get or not
abbrev pub IsTypeOf : Judging → Expr → Ty → Type 0
IsTypeOf w e t = (under : Bool) (u : Ty) → (judge w under e.place.0 e.form).types ≡ Some (u ∷ []) → t ≡ u

-- the type of the output of a node that has just one
abbrev pub IsOutputOf : Judging → Name → Ty → Type 0
IsOutputOf w f t = (g : Node) (u : Ty) → node_named w.nodes f ≡ Some g → types_of g.outputs ≡ u ∷ [] → t ≡ u

abbrev pub unary_type : UnaryOp → Ty
unary_type Minus = ty.Plain Int
unary_type Not = ty.Plain Truth_value

abbrev pub binary_type : BinaryOp → Ty
binary_type Add = ty.Plain Int
binary_type Sub = ty.Plain Int
binary_type Mul = ty.Plain Int
binary_type Div = ty.Plain Int
binary_type Rem = ty.Plain Int
binary_type _ = ty.Plain Truth_value

-- the type of what a future holds
abbrev pub plain_of : Ty → Ty
plain_of (ty.Plain t) = ty.Plain t
plain_of (ty.Future t) = ty.Plain t
