-- Which variables of a node may be undefined, by rounds: each adds what equations define from what may be undefined so far.
use Rattle.std.specs.Prelude.{◌≡◌, Bool, if◌then◌else◌, IsTrue, List, [], ◌∷◌}
use Rattle.std.specs.List.{list_any, flat_map}
use Rattle.hept_ast.specs.Texts.{Name, is_in}
use Rattle.hept_ast.specs.Initial.{Grades, grade}
use Rattle.hept_ast.specs.declared.tree.Expr.{Expr}
use Rattle.causality.specs.Flows.{DataFlow}

-- what some equations define
abbrev pub lefts_where : (DataFlow → Bool) → List DataFlow → List Name
lefts_where c flows = flat_map (λ f. if c f then f.left else []) flows

-- an equation whose right side may be undefined where these variables may be
abbrev pub is_nil : List Name → DataFlow → Bool
is_nil nil f = grade (λ x. is_in x nil) f.right.form

-- what is defined from what may be undefined
abbrev pub next_nil : List DataFlow → List Name → List Name
next_nil flows nil = lefts_where (is_nil nil) flows

-- the right sides that define a variable
abbrev pub rights : List DataFlow → Name → List Expr
rights flows x = flat_map (λ f. if is_in x f.left then f.right ∷ [] else []) flows

-- each variable has the greatest grade of its right sides
abbrev pub AreGradesOf : List DataFlow → Grades → Type 0
AreGradesOf flows g = (x : Name) → g x ≡ list_any (λ e. grade g e.form) (rights flows x)

-- no grades call one of these defined
abbrev pub AreBelow : List DataFlow → List Name → Type 0
AreBelow flows nil = (h : Grades) → AreGradesOf flows h → (x : Name) → IsTrue (is_in x nil) → IsTrue (h x)

-- what a round leaves: what some equations define, each of which the next round counts again
pub record IsRound (flows : List DataFlow) (nil : List Name) : Type 0 where
  pub counted : DataFlow → Bool
  pub is : nil ≡ lefts_where counted flows
  pub again : (f : DataFlow) → IsTrue (counted f) → IsTrue (is_nil nil f)
  pub below : AreBelow flows nil

-- the variables that may be undefined: another round changes nothing, and no grades call one of them defined
pub record AreNil (flows : List DataFlow) (nil : List Name) : Type 0 where
  pub stays : next_nil flows nil ≡ nil
  pub below : AreBelow flows nil
