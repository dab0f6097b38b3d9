-- By what resets variables and expressions of a core may be undefined.
use Rattle.std.specs.Prelude.{◌≡◌, Bool, true, false, List, [], ◌∷◌, ◌++◌}
use Rattle.hept_ast.specs.Texts.{Name, is_in}
use Rattle.hept_ast.specs.declared.tree.Form.{Form, Const, Var, Last, Unary', Binary', If', Fby', Pre', Arrow', When', Merge', Call', AsyncCall', AsyncConst, Get', Row_of-Expr, end_of-Expr, more_of-Expr}

pub data Among {A : Type 0} (x : A) : List A → Type 0 where
  first : {xs : List A} → Among x (x ∷ xs)
  next : {y : A} {xs : List A} → Among x xs → Among x (y ∷ xs)

-- The grade of a variable: the lists of resets by one of which it may be undefined, namely only where its clock had no earlier
-- instant since a restart by that list. No list: it is never undefined.
abbrev pub Grades : Type 0
Grades = Name → List (List Name)

abbrev pub AreIn : List Name → List Name → Type 0
AreIn xs ys = (x : Name) → is_in x xs ≡ true → is_in x ys ≡ true

-- more resets restart more often, so a grade allows each grade with fewer of them
abbrev pub Allows : List (List Name) → List (List Name) → Type 0
Allows n m = (l : List Name) → Among l m → (k : List Name) × Among k n × AreIn l k

-- all that may be undefined is so only by these resets, or fewer
abbrev pub AreWithin : List (List Name) → List Name → Type 0
AreWithin n resets = (l : List Name) → Among l n → AreIn l resets

-- whether a variable may be undefined: the grade of the language
abbrev pub is_some_list : List (List Name) → Bool
is_some_list [] = false
is_some_list (l ∷ ls) = true

abbrev pub may : Grades → Name → Bool
may g x = is_some_list (g x)

-- the lists of resets by which an expression may be undefined that stands under some
unfoldable mutual
  pub lists_of : Grades → List Name → Form → List (List Name)
  lists_of g rs (Const k) = []
  lists_of g rs (Var x) = g x
  lists_of g rs (Last x) = []
  lists_of g rs (Unary' op s a) = lists_row g rs a
  lists_of g rs (Binary' op s a t b) = lists_row g rs a ++ lists_row g rs b
  lists_of g rs (If' s c t a u b) = lists_row g rs c ++ lists_row g rs a ++ lists_row g rs b
  lists_of g rs (Fby' s a t b) = lists_row g rs a
  lists_of g rs (Pre' s a) = rs ∷ []
  lists_of g rs (Arrow' s a t b) = lists_row g rs a
  lists_of g rs (When' s a tag x) = lists_row g rs a
  lists_of g rs (Merge' x s bs) = []
  lists_of g rs (Call' f s args) = []
  lists_of g rs (AsyncCall' q f s args) = []
  lists_of g rs (AsyncConst k) = []
  lists_of g rs (Get' s a) = lists_row g rs a

  pub lists_row : Grades → List Name → {n : _} → Row_of-Expr n → List (List Name)
  lists_row g rs end_of-Expr = []
  lists_row g rs (more_of-Expr p form rest) = lists_of g rs form ++ lists_row g rs rest
