-- Scopes of a program, and those of the core that comes of it: each call that leads to one stands in its text, with a number.
use Rattle.std.specs.Prelude.{◌≡◌, ℕ, suc, true, List, [], ◌∷◌, Some, slice_get}
use Rattle.hept_ast.specs.Texts.{Name, is_in}
use Rattle.hept_ast.specs.Scopes.{Clock, Text, Scope, Top, Called, Under, text_of}
use Rattle.hept_ast.specs.Settings.{written_node}
use Rattle.hept_ast.specs.declared.name.Place.{Place}
use Rattle.hept_ast.specs.declared.tree.Const.{Const}
use Rattle.hept_ast.specs.declared.tree.Tag.{Tag}
use Rattle.hept_ast.specs.declared.tree.UnaryOp.{UnaryOp}
use Rattle.hept_ast.specs.declared.tree.BinaryOp.{BinaryOp}
use Rattle.hept_ast.specs.declared.tree.Expr.{Expr}
use Rattle.hept_ast.specs.declared.tree.MergeBranch.{MergeBranch}
use Rattle.hept_ast.specs.declared.tree.Form.TheVariants as form
use Rattle.hept_ast.specs.declared.tree.Equation.{Equation}
use Rattle.hept_ast.specs.declared.tree.Equation.TheVariants as equation
use Rattle.hept_ast.specs.declared.tree.CoreEquation.{CoreEquation}
use Rattle.lowering_rules.specs.Lowering.{at, branch, numbered, clock_of_left}
use Rattle.lowering_rules.specs.CallPaths.{Call, call_at, text_calls}
use Rattle.lowering_rules.specs.Ties.{core_equation, Sides, TiedText}

-- An expression in a text with these calls, the next of which has number n, and what it becomes, after which the next has number m.
mutual
  pub data LowersIn (calls : List Call) : (n : ℕ) → Expr → Expr → (m : ℕ) → Type 0 where
    const : {n : ℕ} {p : Place} {k : Const} → LowersIn calls n (at p (form.Const k)) (at p (form.Const k)) n
    var : {n : ℕ} {p : Place} {x : Name} → LowersIn calls n (at p (form.Var x)) (at p (form.Var x)) n
    unary : {n m : ℕ} {p : Place} {op : UnaryOp} {a b : Expr} → LowersIn calls n a b m → LowersIn calls n (at p (form.Unary op a)) (at p (form.Unary op b)) m
    binary : {n m k : ℕ} {p : Place} {op : BinaryOp} {a b c d : Expr} → LowersIn calls n a b m → LowersIn calls m c d k →
        LowersIn calls n (at p (form.Binary op a c)) (at p (form.Binary op b d)) k
    choice : {n m k l : ℕ} {p : Place} {i j a b c d : Expr} → LowersIn calls n i j m → LowersIn calls m a b k → LowersIn calls k c d l →
        LowersIn calls n (at p (form.If i a c)) (at p (form.If j b d)) l
    fby : {n m k : ℕ} {p : Place} {a b c d : Expr} → LowersIn calls n a b m → LowersIn calls m c d k → LowersIn calls n (at p (form.Fby a c)) (at p (form.Fby b d)) k
    pre : {n m : ℕ} {p : Place} {a b : Expr} → LowersIn calls n a b m → LowersIn calls n (at p (form.Pre a)) (at p (form.Pre b)) m
    arrow : {n m k : ℕ} {p : Place} {a b c d : Expr} → LowersIn calls n a b m → LowersIn calls m c d k → LowersIn calls n (at p (form.Arrow a c)) (at p (form.Arrow b d)) k
    when : {n m : ℕ} {p : Place} {a b : Expr} {tag : Tag} {x : Name} → LowersIn calls n a b m → LowersIn calls n (at p (form.When a tag x)) (at p (form.When b tag x)) m
    merge : {n m : ℕ} {p : Place} {x : Name} {bs cs : List MergeBranch} → LowersBranchesIn calls n bs cs m → LowersIn calls n (at p (form.Merge x bs)) (at p (form.Merge x cs)) m
    call : {n m : ℕ} {p : Place} {g : Name} {es rs : List Expr} → slice_get calls n ≡ Some (call_at p g) → LowersAllIn calls (suc n) es rs m →
        LowersIn calls n (at p (form.Call g es)) (numbered n (form.Call g rs)) m
    async_call : {n m : ℕ} {p : Place} {q : ℕ} {g : Name} {es rs : List Expr} → slice_get calls n ≡ Some (call_at p g) → LowersAllIn calls (suc n) es rs m →
        LowersIn calls n (at p (form.AsyncCall q g es)) (numbered n (form.AsyncCall q g rs)) m
    async_const : {n : ℕ} {p : Place} {k : Const} → LowersIn calls n (at p (form.AsyncConst k)) (at p (form.AsyncConst k)) n
    get : {n m : ℕ} {p : Place} {a b : Expr} → LowersIn calls n a b m → LowersIn calls n (at p (form.Get a)) (at p (form.Get b)) m

  pub data LowersAllIn (calls : List Call) : (n : ℕ) → List Expr → List Expr → (m : ℕ) → Type 0 where
    no_exprs : {n : ℕ} → LowersAllIn calls n [] [] n
    more_exprs : {n m k : ℕ} {e r : Expr} {es rs : List Expr} → LowersIn calls n e r m → LowersAllIn calls m es rs k → LowersAllIn calls n (e ∷ es) (r ∷ rs) k

  pub data LowersBranchesIn (calls : List Call) : (n : ℕ) → List MergeBranch → List MergeBranch → (m : ℕ) → Type 0 where
    no_branches : {n : ℕ} → LowersBranchesIn calls n [] [] n
    more_branches : {n m k : ℕ} {p : Place} {tag : Tag} {e r : Expr} {bs cs : List MergeBranch} → LowersIn calls n e r m → LowersBranchesIn calls m bs cs k →
        LowersBranchesIn calls n (branch p tag e ∷ bs) (branch p tag r ∷ cs) k

-- the equations of a node's own scope, as tied equations
pub data EquationsIn (calls : List Call) (clock : Name → Clock) : (n : ℕ) → List Equation → List CoreEquation → (m : ℕ) → Type 0 where
  no_equations : {n : ℕ} → EquationsIn calls clock n [] [] n
  more_equations : {n m k : ℕ} {p : Place} {left : List Name} {right r : Expr} {es : List Equation} {cs : List CoreEquation} →
      LowersIn calls n right r m → ((x : Name) → is_in x left ≡ true → clock x ≡ clock_of_left clock left) → EquationsIn calls clock m es cs k →
      EquationsIn calls clock n (equation.Define p left right ∷ es) (core_equation p left (clock_of_left clock left) r ∷ cs) k

-- a call with this number and place in a text, of the node with another text
pub record CallsText (z : Sides) (around : Text) (n p : ℕ) (called : Text) : Type 0 where
  pub name : Name
  pub at : slice_get (text_calls around) n ≡ Some (record { place = p; name = name })
  pub node : written_node z.nodes 0 name ≡ Some called

-- the bodies of the chosen node and of those that it calls: an argument of a call stands under the resets of its equation, of which there are none
pub data TiedScope (z : Sides) : Scope → Scope → Type 0 where
  top : {text low : Text} → text ≡ z.chosen → TiedText z text low → TiedScope z (Top text) (Top low)
  called : {s r : Scope} {c : Clock} {p n k m : ℕ} {es rs : List Expr} {text low : Text} → TiedScope z s r → LowersAllIn (text_calls (text_of s)) k es rs m → TiedText z text low →
      CallsText z (text_of s) n p text → TiedScope z (Called s c p es text) (Called (Under r []) c n rs low)
