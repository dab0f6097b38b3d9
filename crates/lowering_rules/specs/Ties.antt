-- What links a node of a program to the core's node that comes of it, so that what the one gives the other gives.
use Rattle.std.specs.Prelude.{◌≡◌, ℕ, suc, true, false, List, [], ◌∷◌, ◌++◌, Some, slice_get}
use Rattle.hept_ast.specs.Texts.{Name, is_in, names}
use Rattle.hept_ast.specs.Scopes.{Clock, Text, Written, Lowered, equation_of}
use Rattle.hept_ast.specs.Meaning.{clock_of_equation}
use Rattle.hept_ast.specs.declared.name.Place.{Place}
use Rattle.hept_ast.specs.declared.tree.Expr.{Expr}
use Rattle.hept_ast.specs.declared.tree.Equation.{Equation}
use Rattle.hept_ast.specs.declared.tree.Equation.TheVariants as equation
use Rattle.hept_ast.specs.declared.tree.Node.{Node}
use Rattle.hept_ast.specs.declared.tree.CoreNode.{CoreNode}
use Rattle.hept_ast.specs.declared.tree.CoreEquation.{CoreEquation}
use Rattle.lowering_rules.specs.Lowering.{node_frame, clock_of_left, Lowers}

abbrev pub core_equation : Place → List Name → Clock → Expr → CoreEquation
core_equation p left c r = record { place = p; left = left; clock = record { steps = c }; right = r; resets = [] }

-- the equations of a node's own scope, the variables of each left side being on its equation's clock
pub data TiedEquations (clock : Name → Clock) : (n : ℕ) → List Equation → List CoreEquation → (m : ℕ) → Type 0 where
  no_equations : {n : ℕ} → TiedEquations clock n [] [] n
  more_equations : {n m k : ℕ} {p : Place} {left : List Name} {right r : Expr} {es : List Equation} {cs : List CoreEquation} →
      Lowers node_frame n right r m → ((x : Name) → is_in x left ≡ true → clock x ≡ clock_of_left clock left) → TiedEquations clock m es cs k →
      TiedEquations clock n (equation.Define p left right ∷ es) (core_equation p left (clock_of_left clock left) r ∷ cs) k

pub record TiedNode (clock : Name → Clock) (node : Node) (low : CoreNode) : Type 0 where
  pub name : low.name ≡ node.name
  pub inputs : names low.inputs ≡ names node.inputs
  pub outputs : names low.outputs ≡ names node.outputs
  pub calls : ℕ
  pub equations : TiedEquations clock 0 node.block.body low.equations calls
  -- what the node does not declare is on the base clock, and each name is on the clock of the core's equation that has it on the left
  pub undeclared : (x : Name) → is_in x (names (node.inputs ++ node.outputs ++ node.block.locals)) ≡ false → clock x ≡ []
  pub clocks : (x : Name) → clock_of_equation (equation_of low x) ≡ clock x

pub data TiedNodes (clock : ℕ → Name → Clock) : (k : ℕ) → List Node → List CoreNode → Type 0 where
  no_nodes : {k : ℕ} → TiedNodes clock k [] []
  more_nodes : {k : ℕ} {node : Node} {low : CoreNode} {nodes : List Node} {lows : List CoreNode} → TiedNode (clock k) node low → TiedNodes clock (suc k) nodes lows →
      TiedNodes clock k (node ∷ nodes) (low ∷ lows)

-- the nodes of both, with the clocks of the program's variables, and the text of the chosen node
pub record Sides : Type 0 where
  pub clock : ℕ → Name → Clock
  pub nodes : List Node
  pub lows : List CoreNode
  pub chosen : Text

-- the nodes at one position
pub data TiedText (z : Sides) : Text → Text → Type 0 where
  tied_text : {k : ℕ} {node : Node} {low : CoreNode} → slice_get z.nodes k ≡ Some node → slice_get z.lows k ≡ Some low → TiedNode (z.clock k) node low →
      TiedText z (Written k node) (Lowered low)
