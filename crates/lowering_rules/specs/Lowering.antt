-- What the text of a program becomes in a core, rule by rule.
--
-- A rule goes over a frame: how a scope of a node is seen from the core's node that comes of it. So far there are the rules of a node's own
-- scope; those of blocks within it will have frames of their own.
use Rattle.std.specs.Prelude.{◌≡◌, ℕ, suc, List, [], ◌∷◌, ◌++◌, map, Option, Some, None}
use Rattle.hept_ast.specs.Texts.{Name}
use Rattle.hept_ast.specs.Scopes.{Clock}
use Rattle.hept_ast.specs.ClockMaps.{clock_in}
use Rattle.hept_ast.specs.Stages.{ClockedProgram}
use Rattle.hept_ast.specs.declared.name.Place.{Place}
use Rattle.hept_ast.specs.declared.tree.ClockStep.{ClockStep}
use Rattle.hept_ast.specs.declared.tree.Const.{Const}
use Rattle.hept_ast.specs.declared.tree.Tag.{Tag}
use Rattle.hept_ast.specs.declared.tree.UnaryOp.{UnaryOp}
use Rattle.hept_ast.specs.declared.tree.BinaryOp.{BinaryOp}
use Rattle.hept_ast.specs.declared.tree.Decl.{Decl}
use Rattle.hept_ast.specs.declared.tree.Expr.{Expr}
use Rattle.hept_ast.specs.declared.tree.MergeBranch.{MergeBranch}
use Rattle.hept_ast.specs.declared.tree.Form.{Form}
use Rattle.hept_ast.specs.declared.tree.Form.TheVariants as form
use Rattle.hept_ast.specs.declared.tree.Equation.{Equation}
use Rattle.hept_ast.specs.declared.tree.Equation.TheVariants as equation
use Rattle.hept_ast.specs.declared.tree.Node.{Node}
use Rattle.hept_ast.specs.declared.tree.Core.{Core}
use Rattle.hept_ast.specs.declared.tree.CoreNode.{CoreNode}
use Rattle.hept_ast.specs.declared.tree.CoreEquation.{CoreEquation}

-- ---- frames

-- A scope seen from the core's node: on which clock it is active, which variables restart it, the outermost first, and what its variables
-- and their `last` are called there.
pub record Frame : Type 0 where
  pub base : Clock
  pub resets : List Name
  pub variable : Name → Name
  pub last : Name → Option Name

-- the scope of a node itself
abbrev pub node_frame : Frame
node_frame = record { base = []; resets = []; variable = λ x. x; last = λ x. None }

abbrev pub renamed_step : Frame → ClockStep → ClockStep
renamed_step f s = record { tag = s.tag; name = f.variable s.name }

-- a clock of the scope, in the core
abbrev pub lowered_clock : Frame → Clock → Clock
lowered_clock f c = f.base ++ map (renamed_step f) c

-- ---- expressions

abbrev pub at : Place → Form → Expr
at p f = record { place = p; form = f }

abbrev pub branch : Place → Tag → Expr → MergeBranch
branch p tag e = record { place = p; tag = tag; value = e }

-- a call's number stands in the place of its place
abbrev pub numbered : ℕ → Form → Expr
numbered n f = record { place = record { 0 = n }; form = f }

-- An expression in which the next call has number n, and what it becomes, after which the next call has number m. Names are replaced by
-- the frame's, and the calls are numbered in text order, each before those of its arguments.
mutual
  pub data Lowers (f : Frame) : (n : ℕ) → Expr → Expr → (m : ℕ) → Type 0 where
    const : {n : ℕ} {p : Place} {k : Const} → Lowers f n (at p (form.Const k)) (at p (form.Const k)) n
    var : {n : ℕ} {p : Place} {x : Name} → Lowers f n (at p (form.Var x)) (at p (form.Var (f.variable x))) n
    last : {n : ℕ} {p : Place} {x y : Name} → f.last x ≡ Some y → Lowers f n (at p (form.Last x)) (at p (form.Var y)) n
    unary : {n m : ℕ} {p : Place} {op : UnaryOp} {a b : Expr} → Lowers f n a b m → Lowers f n (at p (form.Unary op a)) (at p (form.Unary op b)) m
    binary : {n m k : ℕ} {p : Place} {op : BinaryOp} {a b c d : Expr} → Lowers f n a b m → Lowers f m c d k →
        Lowers f n (at p (form.Binary op a c)) (at p (form.Binary op b d)) k
    choice : {n m k l : ℕ} {p : Place} {i j a b c d : Expr} → Lowers f n i j m → Lowers f m a b k → Lowers f k c d l →
        Lowers f n (at p (form.If i a c)) (at p (form.If j b d)) l
    fby : {n m k : ℕ} {p : Place} {a b c d : Expr} → Lowers f n a b m → Lowers f m c d k → Lowers f n (at p (form.Fby a c)) (at p (form.Fby b d)) k
    pre : {n m : ℕ} {p : Place} {a b : Expr} → Lowers f n a b m → Lowers f n (at p (form.Pre a)) (at p (form.Pre b)) m
    arrow : {n m k : ℕ} {p : Place} {a b c d : Expr} → Lowers f n a b m → Lowers f m c d k → Lowers f n (at p (form.Arrow a c)) (at p (form.Arrow b d)) k
    when : {n m : ℕ} {p : Place} {a b : Expr} {tag : Tag} {x : Name} → Lowers f n a b m →
        Lowers f n (at p (form.When a tag x)) (at p (form.When b tag (f.variable x))) m
    merge : {n m : ℕ} {p : Place} {x : Name} {bs cs : List MergeBranch} → LowersBranches f n bs cs m →
        Lowers f n (at p (form.Merge x bs)) (at p (form.Merge (f.variable x) cs)) m
    call : {n m : ℕ} {p : Place} {g : Name} {es rs : List Expr} → LowersAll f (suc n) es rs m →
        Lowers f n (at p (form.Call g es)) (numbered n (form.Call g rs)) m
    async_call : {n m : ℕ} {p : Place} {q : ℕ} {g : Name} {es rs : List Expr} → LowersAll f (suc n) es rs m →
        Lowers f n (at p (form.AsyncCall q g es)) (numbered n (form.AsyncCall q g rs)) m
    async_const : {n : ℕ} {p : Place} {k : Const} → Lowers f n (at p (form.AsyncConst k)) (at p (form.AsyncConst k)) n
    get : {n m : ℕ} {p : Place} {a b : Expr} → Lowers f n a b m → Lowers f n (at p (form.Get a)) (at p (form.Get b)) m

  pub data LowersAll (f : Frame) : (n : ℕ) → List Expr → List Expr → (m : ℕ) → Type 0 where
    no_exprs : {n : ℕ} → LowersAll f n [] [] n
    more_exprs : {n m k : ℕ} {e r : Expr} {es rs : List Expr} → Lowers f n e r m → LowersAll f m es rs k → LowersAll f n (e ∷ es) (r ∷ rs) k

  pub data LowersBranches (f : Frame) : (n : ℕ) → List MergeBranch → List MergeBranch → (m : ℕ) → Type 0 where
    no_branches : {n : ℕ} → LowersBranches f n [] [] n
    more_branches : {n m k : ℕ} {p : Place} {tag : Tag} {e r : Expr} {bs cs : List MergeBranch} → Lowers f n e r m → LowersBranches f m bs cs k →
        LowersBranches f n (branch p tag e ∷ bs) (branch p tag r ∷ cs) k

-- ---- equations

-- the clock of a left side, by the clocks of its variables
abbrev pub clock_of_left : (Name → Clock) → List Name → Clock
clock_of_left clock [] = []
clock_of_left clock (x ∷ xs) = clock x

-- An equation of a scope, whose variables have these clocks there, and the equations that it becomes.
pub data LowersEquation (f : Frame) (clock : Name → Clock) : (n : ℕ) → Equation → List CoreEquation → (m : ℕ) → Type 0 where
  define : {n m : ℕ} {p : Place} {left : List Name} {right r : Expr} → Lowers f n right r m →
      LowersEquation f clock n (equation.Define p left right)
      (record { place = p; left = map f.variable left; clock = record { steps = lowered_clock f (clock_of_left clock left) }; right = r; resets = f.resets } ∷ []) m

pub data LowersEquations (f : Frame) (clock : Name → Clock) : (n : ℕ) → List Equation → List CoreEquation → (m : ℕ) → Type 0 where
  no_equations : {n : ℕ} → LowersEquations f clock n [] [] n
  more_equations : {n m k : ℕ} {e : Equation} {es : List Equation} {cs ds : List CoreEquation} → LowersEquation f clock n e cs m → LowersEquations f clock m es ds k →
      LowersEquations f clock n (e ∷ es) (cs ++ ds) k

-- ---- nodes and programs

-- no declaration of a core has an initial constant
abbrev pub without_initial : Decl → Decl
without_initial d = record { place = d.place; name = d.name; ty = d.ty; init = None }

pub record LowersNode (clock : Name → Clock) (node : Node) (low : CoreNode) : Type 0 where
  pub name : low.name ≡ node.name
  pub inputs : low.inputs ≡ map without_initial node.inputs
  pub outputs : low.outputs ≡ map without_initial node.outputs
  pub locals : low.locals ≡ map without_initial node.block.locals
  pub calls : ℕ
  pub equations : LowersEquations node_frame clock 0 node.block.body low.equations calls

-- nodes from position k on
pub data LowersNodes (clock : ℕ → Name → Clock) : (k : ℕ) → List Node → List CoreNode → Type 0 where
  no_nodes : {k : ℕ} → LowersNodes clock k [] []
  more_nodes : {k : ℕ} {node : Node} {low : CoreNode} {nodes : List Node} {lows : List CoreNode} → LowersNode (clock k) node low → LowersNodes clock (suc k) nodes lows →
      LowersNodes clock k (node ∷ nodes) (low ∷ lows)

-- a program with the clocks of its variables, and the core that comes of it
pub record LowersProgram (c : ClockedProgram) (core : Core) : Type 0 where
  pub types : core.types ≡ c.program.types
  pub nodes : LowersNodes (clock_in c.clocks) 0 c.program.nodes core.nodes
