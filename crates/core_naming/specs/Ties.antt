-- What a question about a core is tied to, once a subexpression is named.
--
-- A subexpression is named only where the scopes are in the moved node and what it became, since a core may hold one text at two positions;
-- and only in an expression that mentions no x itself, since of that the first core knows nothing.
use Rattle.std.specs.Prelude.{◌≡◌, ℕ, false, List, [], ◌∷◌, ◌++◌, map, Contains}
use Rattle.std.specs.List.{flat_map}
use Rattle.hept_ast.specs.Texts.{Name, is_in}
use Rattle.hept_ast.specs.Scopes.{Clock, Text, Lowered, Scope, Top, Called, Under}
use Rattle.hept_ast.specs.Parts.{inside}
use Rattle.hept_ast.specs.Sites.{Site}
use Rattle.hept_ast.specs.declared.tree.Core.{Core}
use Rattle.hept_ast.specs.declared.tree.CoreNode.{CoreNode}
use Rattle.hept_ast.specs.declared.tree.Expr.{Expr}
use Rattle.hept_ast.specs.declared.tree.MergeBranch.{MergeBranch}
use Rattle.hept_ast.specs.declared.tree.Form.{Form, out-Form}
use Rattle.hept_ast.specs.declared.tree.Form.TheOpen.{Form-F}
use Rattle.core_naming.specs.Names.{IsNaming, Names}

-- the variables that a form names itself, and those of an expression and of all inside it
abbrev pub form_names : Form-F Form Expr MergeBranch → List Name
form_names (Form-F.Var y) = y ∷ []
form_names (Form-F.Last y) = y ∷ []
form_names (Form-F.When b tag y) = y ∷ []
form_names (Form-F.Merge y bs) = y ∷ []
form_names _ = []

abbrev pub mentions : Expr → List Name
mentions e = flat_map (λ b. form_names (out-Form b.form)) (inside e)

abbrev pub clock_names : Clock → List Name
clock_names c = map (λ s. s.name) c

-- the body of the chosen node or of a called one, with this text
pub data IsBodyOf (text : Text) : Scope → Type 0 where
  of_top : IsBodyOf text (Top text)
  of_call : {s : Scope} {c : Clock} {p : ℕ} {es : List Expr} → IsBodyOf text (Called s c p es text)

module _ (core other : Core) (n : IsNaming core other) where
  pub data TiedText : Text → Text → Type 0 where
    the_node : TiedText (Lowered n.node) (Lowered n.moved)
    a_node : {m : CoreNode} → Contains (n.front ++ n.back) m → TiedText (Lowered m) (Lowered m)

  -- the right sides of the equation in which a subexpression is named, in both cores
  pub data IsOfEquation : Scope → Scope → Type 0 where
    of_equation : {outer inner : Scope} → IsBodyOf (Lowered n.node) outer → IsBodyOf (Lowered n.moved) inner →
        IsOfEquation (Under outer n.step.equation.resets) (Under inner n.step.equation.resets)

  -- an expression on a clock that names no x stays, or has the subexpression named
  pub data TiedExpr (s r : Scope) (c : Clock) : Expr → Expr → Type 0 where
    same_expr : {e : Expr} → is_in n.x (mentions e) ≡ false → TiedExpr s r c e e
    named_expr : {e m : Expr} → Names n.x n.a n.d c e m → is_in n.x (mentions e) ≡ false → IsOfEquation s r → TiedExpr s r c e m

  pub data TiedArguments (s r : Scope) (c : Clock) : List Expr → List Expr → Type 0 where
    no_arguments : TiedArguments s r c [] []
    more_arguments : {e m : Expr} {es ms : List Expr} → TiedExpr s r c e m → TiedArguments s r c es ms → TiedArguments s r c (e ∷ es) (m ∷ ms)

  pub data TiedScope : Scope → Scope → Type 0 where
    top : {text moved : Text} → TiedText text moved → TiedScope (Top text) (Top moved)
    called : {s r : Scope} {c : Clock} {p : ℕ} {es ms : List Expr} {text moved : Text} → TiedScope s r → is_in n.x (clock_names c) ≡ false →
        TiedArguments s r c es ms → TiedText text moved → TiedScope (Called s c p es text) (Called r c p ms moved)
    under : {s r : Scope} {resets : List Name} → TiedScope s r → is_in n.x resets ≡ false → TiedScope (Under s resets) (Under r resets)

  -- a site and the one that it becomes
  pub record TiedSite (site moved : Site) : Type 0 where
    pub scope : TiedScope site.scope moved.scope
    pub clock : moved.clock ≡ site.clock
    pub free : is_in n.x (clock_names site.clock) ≡ false
    pub place : moved.place ≡ site.place
    pub queue : moved.queue ≡ site.queue
    pub args : TiedArguments site.scope moved.scope site.clock site.args moved.args
    pub text : TiedText site.text moved.text
