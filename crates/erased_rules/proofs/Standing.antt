-- When an expression can stand on a clock, said without numbers, and that this is what the numbered conditions of clocks say.
use Rattle.std.proofs.Common.{◌≡◌, ℕ, ◌+◌, Bool, true, false, List, [], ◌∷◌, ◌++◌, length, subst, arith}
use Rattle.std.specs.Prelude.{⊤, if◌then◌else◌}
use Rattle.hept_ast.specs.Texts.{Name, is_in}
use Rattle.hept_ast.specs.Scopes.{Clock}
use Rattle.hept_ast.specs.Clocks.{Condition, Assignment, Meets}
use Rattle.hept_ast.specs.declared.tree.Tag.{Tag}
use Rattle.hept_ast.specs.declared.tree.Form.{Form, Const, Var, Last, Unary', Binary', If', Fby', Pre', Arrow', When', Merge', Call', AsyncCall', AsyncConst, Get', Row_of-Expr, end_of-Expr, more_of-Expr, Row_of-MergeBranch, end_of-MergeBranch, more_of-MergeBranch}

-- a variable that is declared here is read on its own clock, and one from outside is on the base clock
abbrev pub Reading : Bool → (own k : Clock) → Type 0
Reading true own k = own ≡ k
Reading false own k = (own ≡ []) × (k ≡ [])

abbrev pub Outer : Bool → (own : Clock) → Type 0
Outer true own = ⊤
Outer false own = own ≡ []

module _ (own : List Name) (c : Name → Clock) where
  abbrev pub read : Name → Clock
  read x = if is_in x own then c x else []

  abbrev pub sampled : Tag → Name → Clock
  sampled tag x = read x ++ record { tag = tag; name = x } ∷ []

  unfoldable mutual
    -- an expression of a form can stand on a clock
    pub Stands : Clock → Form → Type 0
    Stands k (Const q) = ⊤
    Stands k (Var x) = Reading (is_in x own) (c x) k
    Stands k (Last x) = Reading (is_in x own) (c x) k
    Stands k (Unary' op s a) = Row_stands k a
    Stands k (Binary' op s a t b) = Row_stands k a × Row_stands k b
    Stands k (If' s d t a u b) = Row_stands k d × Row_stands k a × Row_stands k b
    Stands k (Fby' s a t b) = Row_stands k a × Row_stands k b
    Stands k (Pre' s a) = Row_stands k a
    Stands k (Arrow' s a t b) = Row_stands k a × Row_stands k b
    Stands k (When' s a tag x) = Row_stands (read x) a × (k ≡ sampled tag x) × Outer (is_in x own) (c x)
    Stands k (Merge' x s bs) = (k ≡ read x) × Outer (is_in x own) (c x) × Branches_stand x bs
    Stands k (Call' f s args) = Row_stands k args
    Stands k (AsyncCall' q f s args) = Row_stands k args
    Stands k (AsyncConst q) = ⊤
    Stands k (Get' s a) = Row_stands k a

    pub Row_stands : Clock → {n : _} → Row_of-Expr n → Type 0
    Row_stands k end_of-Expr = ⊤
    Row_stands k (more_of-Expr p form rest) = Stands k form × Row_stands k rest

    pub Branches_stand : Name → {n : _} → Row_of-MergeBranch n → Type 0
    Branches_stand x end_of-MergeBranch = ⊤
    Branches_stand x (more_of-MergeBranch p tag q form rest) = Stands (sampled tag x) form × Branches_stand x rest

  unfoldable mutual
    -- the clocks of all expressions inside one that stands on a clock, in the order of their numbers
    pub under : Clock → Form → List Clock
    under k (Const q) = []
    under k (Var x) = []
    under k (Last x) = []
    under k (Unary' op s a) = row_under k a
    under k (Binary' op s a t b) = row_under k a ++ row_under k b
    under k (If' s d t a u b) = row_under k d ++ row_under k a ++ row_under k b
    under k (Fby' s a t b) = row_under k a ++ row_under k b
    under k (Pre' s a) = row_under k a
    under k (Arrow' s a t b) = row_under k a ++ row_under k b
    under k (When' s a tag x) = row_under (read x) a
    under k (Merge' x s bs) = branches_under x bs
    under k (Call' f s args) = row_under k args
    under k (AsyncCall' q f s args) = row_under k args
    under k (AsyncConst q) = []
    under k (Get' s a) = row_under k a

    pub row_under : Clock → {n : _} → Row_of-Expr n → List Clock
    row_under k end_of-Expr = []
    row_under k (more_of-Expr p form rest) = k ∷ under k form ++ row_under k rest

    pub branches_under : Name → {n : _} → Row_of-MergeBranch n → List Clock
    branches_under x end_of-MergeBranch = []
    branches_under x (more_of-MergeBranch p tag q form rest) = sampled tag x ∷ under (sampled tag x) form ++ branches_under x rest

-- ---- conditions in a row

pub meets_left : (a : Assignment) (cs ds : List Condition) → Meets a (cs ++ ds) → Meets a cs
meets_left a [] ds h = tt
meets_left a (c ∷ cs) ds h = (h.0, meets_left a cs ds h.1)

pub meets_right : (a : Assignment) (cs ds : List Condition) → Meets a (cs ++ ds) → Meets a ds
meets_right a [] ds h = h
meets_right a (c ∷ cs) ds h = meets_right a cs ds h.1

pub meets_both : (a : Assignment) (cs ds : List Condition) → Meets a cs → Meets a ds → Meets a (cs ++ ds)
meets_both a [] ds h k = k
meets_both a (c ∷ cs) ds h k = (h.0, meets_both a cs ds h.1 k)

-- the clocks from a number on
abbrev pub Given : (ℕ → Clock) → ℕ → List Clock → Type 0
Given e n [] = ⊤
Given e n (k ∷ ks) = (e n ≡ k) × Given e (n + 1) ks

pub given_left : (e : ℕ → Clock) (n : ℕ) (ks ls : List Clock) → Given e n (ks ++ ls) → Given e n ks
given_left e n [] ls g = tt
given_left e n (k ∷ ks) ls g = (g.0, given_left e (n + 1) ks ls g.1)

pub given_right : (e : ℕ → Clock) (n m : ℕ) (ks ls : List Clock) → n + length ks ≡ m → Given e n (ks ++ ls) → Given e m ls
given_right e n m [] ls is g = let i : n ≡ m = omega arith in subst (λ (j : ℕ). Given e j ls) i g
given_right e n m (k ∷ ks) ls is g = given_right e (n + 1) m ks ls (omega arith) g.1
