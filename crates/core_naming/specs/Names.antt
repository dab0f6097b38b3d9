-- A core in which one subexpression of an equation has become a variable of its own.
use Rattle.std.specs.Prelude.{◌≡◌, ◌==◌, ◌&&◌, ◌||◌, ℕ, Bool, false, IsTrue, List, [], ◌∷◌, ◌++◌, ◌-◌, length, map, take, Some, None}
use Rattle.std.specs.List.{flat_map}
use Rattle.hept_ast.specs.Texts.{Name, is_in, names}
use Rattle.hept_ast.specs.Scopes.{Clock}
use Rattle.hept_ast.specs.Faults.{judge_expr}
use Rattle.hept_ast.specs.declared.name.Place.{Place}
use Rattle.hept_ast.specs.declared.tree.Core.{Core}
use Rattle.hept_ast.specs.declared.tree.CoreNode.{CoreNode}
use Rattle.hept_ast.specs.declared.tree.CoreEquation.{CoreEquation}
use Rattle.hept_ast.specs.declared.tree.Decl.{Decl}
use Rattle.hept_ast.specs.declared.tree.Ty.{Ty}
use Rattle.hept_ast.specs.declared.tree.Tag.{Tag}
use Rattle.hept_ast.specs.declared.tree.UnaryOp.{UnaryOp}
use Rattle.hept_ast.specs.declared.tree.BinaryOp.{BinaryOp}
use Rattle.hept_ast.specs.declared.tree.Expr.{Expr}
use Rattle.hept_ast.specs.declared.tree.MergeBranch.{MergeBranch}
use Rattle.hept_ast.specs.declared.tree.Form.{out-Form}
use Rattle.hept_ast.specs.declared.tree.Form.TheOpen.{Form-F}
use Rattle.hept_ast.specs.declared.tree.Form.TheVariants as form
use Rattle.core_rules.specs.Cores.{core_decls, core_judging}
use Rattle.core_naming.specs.Normal.{is_simple}

-- ---- new names

-- two bytes `#` in succession, which no name of a program holds
abbrev pub begins_mark : ℕ → List ℕ → Bool
begins_mark byte [] = false
begins_mark byte (next ∷ bytes) = byte == 35 && next == 35

abbrev pub has_mark : Name → Bool
has_mark [] = false
has_mark (byte ∷ bytes) = begins_mark byte bytes || has_mark bytes

-- all names that a core declares, and those in its clocks and resets
abbrev pub equation_names : CoreEquation → List Name
equation_names e = e.left ++ map (λ s. s.name) e.clock.steps ++ e.resets

abbrev pub node_names : CoreNode → List Name
node_names node = node.name ∷ names (core_decls node) ++ flat_map equation_names node.equations

abbrev pub core_names : Core → List Name
core_names core = flat_map (λ d. d.name ∷ d.constructors) core.types ++ flat_map node_names core.nodes

pub record IsNewName (core : Core) (x : Name) : Type 0 where
  pub marked : IsTrue (has_mark x)
  pub fresh : is_in x (core_names core) ≡ false

-- ---- expressions

abbrev pub variable_at : Place → Name → Expr
variable_at p x = record { place = p; form = form.Var x }

mutual
  -- In an expression on a clock, one subexpression a, which stands there on the clock d, becomes the variable x.
  pub data Names (x : Name) (a : Expr) (d : Clock) : Clock → Expr → Expr → Type 0 where
    whole : Names x a d d a (variable_at a.place x)
    in_unary : {c : Clock} {e r b m : Expr} {op : UnaryOp} → r.place ≡ e.place →
        out-Form e.form ≡ Form-F.Unary op b → out-Form r.form ≡ Form-F.Unary op m → Names x a d c b m → Names x a d c e r
    in_left : {c : Clock} {e r b f m : Expr} {op : BinaryOp} → r.place ≡ e.place →
        out-Form e.form ≡ Form-F.Binary op b f → out-Form r.form ≡ Form-F.Binary op m f → Names x a d c b m → Names x a d c e r
    in_right : {c : Clock} {e r b f m : Expr} {op : BinaryOp} → r.place ≡ e.place →
        out-Form e.form ≡ Form-F.Binary op b f → out-Form r.form ≡ Form-F.Binary op b m → Names x a d c f m → Names x a d c e r
    in_condition : {c : Clock} {e r i b f m : Expr} → r.place ≡ e.place →
        out-Form e.form ≡ Form-F.If i b f → out-Form r.form ≡ Form-F.If m b f → Names x a d c i m → Names x a d c e r
    in_then : {c : Clock} {e r i b f m : Expr} → r.place ≡ e.place →
        out-Form e.form ≡ Form-F.If i b f → out-Form r.form ≡ Form-F.If i m f → Names x a d c b m → Names x a d c e r
    in_else : {c : Clock} {e r i b f m : Expr} → r.place ≡ e.place →
        out-Form e.form ≡ Form-F.If i b f → out-Form r.form ≡ Form-F.If i b m → Names x a d c f m → Names x a d c e r
    in_fby_first : {c : Clock} {e r b f m : Expr} → r.place ≡ e.place →
        out-Form e.form ≡ Form-F.Fby b f → out-Form r.form ≡ Form-F.Fby m f → Names x a d c b m → Names x a d c e r
    in_fby_next : {c : Clock} {e r b f m : Expr} → r.place ≡ e.place →
        out-Form e.form ≡ Form-F.Fby b f → out-Form r.form ≡ Form-F.Fby b m → Names x a d c f m → Names x a d c e r
    in_pre : {c : Clock} {e r b m : Expr} → r.place ≡ e.place →
        out-Form e.form ≡ Form-F.Pre b → out-Form r.form ≡ Form-F.Pre m → Names x a d c b m → Names x a d c e r
    in_arrow_first : {c : Clock} {e r b f m : Expr} → r.place ≡ e.place →
        out-Form e.form ≡ Form-F.Arrow b f → out-Form r.form ≡ Form-F.Arrow m f → Names x a d c b m → Names x a d c e r
    in_arrow_next : {c : Clock} {e r b f m : Expr} → r.place ≡ e.place →
        out-Form e.form ≡ Form-F.Arrow b f → out-Form r.form ≡ Form-F.Arrow b m → Names x a d c f m → Names x a d c e r
    in_when : {c : Clock} {e r b m : Expr} {tag : Tag} {y : Name} → r.place ≡ e.place →
        out-Form e.form ≡ Form-F.When b tag y → out-Form r.form ≡ Form-F.When m tag y → Names x a d (take (length c - 1) c) b m → Names x a d c e r
    in_merge : {c : Clock} {e r : Expr} {y : Name} {bs ms : List MergeBranch} → r.place ≡ e.place →
        out-Form e.form ≡ Form-F.Merge y bs → out-Form r.form ≡ Form-F.Merge y ms → NamesBranch x a d y c bs ms → Names x a d c e r
    in_call : {c : Clock} {e r : Expr} {f : Name} {es ms : List Expr} → r.place ≡ e.place →
        out-Form e.form ≡ Form-F.Call f es → out-Form r.form ≡ Form-F.Call f ms → NamesArgument x a d c es ms → Names x a d c e r
    in_async_call : {c : Clock} {e r : Expr} {q : ℕ} {f : Name} {es ms : List Expr} → r.place ≡ e.place →
        out-Form e.form ≡ Form-F.AsyncCall q f es → out-Form r.form ≡ Form-F.AsyncCall q f ms → NamesArgument x a d c es ms → Names x a d c e r
    in_get : {c : Clock} {e r b m : Expr} → r.place ≡ e.place →
        out-Form e.form ≡ Form-F.Get b → out-Form r.form ≡ Form-F.Get m → Names x a d c b m → Names x a d c e r

  -- in one of the arguments of a call
  pub data NamesArgument (x : Name) (a : Expr) (d : Clock) : Clock → List Expr → List Expr → Type 0 where
    this_argument : {c : Clock} {e m : Expr} {es : List Expr} → Names x a d c e m → NamesArgument x a d c (e ∷ es) (m ∷ es)
    later_argument : {c : Clock} {e : Expr} {es ms : List Expr} → NamesArgument x a d c es ms → NamesArgument x a d c (e ∷ es) (e ∷ ms)

  -- in one of the branches of a merge over y on a clock
  pub data NamesBranch (x : Name) (a : Expr) (d : Clock) : Name → Clock → List MergeBranch → List MergeBranch → Type 0 where
    this_branch : {y : Name} {c : Clock} {b m : MergeBranch} {bs : List MergeBranch} → m.place ≡ b.place → m.tag ≡ b.tag →
        Names x a d (c ++ record { tag = b.tag; name = y } ∷ []) b.value m.value → NamesBranch x a d y c (b ∷ bs) (m ∷ bs)
    later_branch : {y : Name} {c : Clock} {b : MergeBranch} {bs ms : List MergeBranch} → NamesBranch x a d y c bs ms → NamesBranch x a d y c (b ∷ bs) (b ∷ ms)

-- ---- nodes

abbrev pub new_decl : Name → Expr → Ty → Decl
new_decl x a t = record { place = a.place; name = x; ty = t; init = None }

-- the new variable's equation, which is restarted with the one that it comes from
abbrev pub new_equation : Name → Expr → Clock → List Name → CoreEquation
new_equation x a d resets = record { place = a.place; left = x ∷ []; clock = record { steps = d }; right = a; resets = resets }

abbrev pub with_right : CoreEquation → Expr → CoreEquation
with_right e right = record { place = e.place; left = e.left; clock = e.clock; right = right; resets = e.resets }

-- in one equation of a node
pub record NamesInNode (x : Name) (a : Expr) (d : Clock) (t : Ty) (node moved : CoreNode) : Type 0 where
  pub front : List CoreEquation
  pub equation : CoreEquation
  pub back : List CoreEquation
  pub right : Expr
  pub equations : node.equations ≡ front ++ equation ∷ back
  pub named : Names x a d equation.clock.steps equation.right right
  pub name : moved.name ≡ node.name
  pub inputs : moved.inputs ≡ node.inputs
  pub outputs : moved.outputs ≡ node.outputs
  pub locals : moved.locals ≡ node.locals ++ new_decl x a t ∷ []
  pub others : moved.equations ≡ front ++ with_right equation right ∷ back ++ new_equation x a d equation.resets ∷ []

-- a core, and the core in which one subexpression that is no variable or constant has a new name
pub record IsNaming (core other : Core) : Type 0 where
  pub x : Name
  pub a : Expr
  pub d : Clock
  pub t : Ty
  pub front : List CoreNode
  pub node : CoreNode
  pub moved : CoreNode
  pub back : List CoreNode
  pub types : other.types ≡ core.types
  pub nodes : core.nodes ≡ front ++ node ∷ back
  pub others : other.nodes ≡ front ++ moved ∷ back
  pub step : NamesInNode x a d t node moved
  pub new : IsNewName core x
  pub large : is_simple (out-Form a.form) ≡ false
  pub typed : (judge_expr (core_judging core node) a).types ≡ Some (t ∷ [])
