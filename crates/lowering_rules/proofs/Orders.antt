-- The text order of a core's sites: sites whose paths rise stand in it already.
use Rattle.std.proofs.Common.{◌≡◌, ◌==◌, ℕ, suc, ◌<◌, ◌≤◌, Bool, true, false, if◌then◌else◌, List, [], ◌∷◌, ◌++◌, refl, ap, ◌∙◌, arith}
use Rattle.std.specs.Prelude.{⊤, nat_lt}
use Rattle.hept_ast.specs.Sites.{Site, path_of, is_before, insert, by_number}
use Rattle.hept_ast.specs.declared.tree.Expr.{Expr}
use Rattle.hept_ast.specs.declared.tree.MergeBranch.{MergeBranch}
use Rattle.naming_rules.proofs.Shapes.{Each}
use Rattle.lowering_rules.specs.CallPaths.{Call}
use Rattle.lowering_rules.specs.TiedScopes.{LowersIn, const, var, unary, binary, choice, fby, pre, arrow, when, merge, call, async_call, async_const, get, LowersAllIn, no_exprs, more_exprs, LowersBranchesIn, no_branches, more_branches}

-- ---- paths

same_number : (n : ℕ) → (n == n) ≡ true
same_number n = grind arith

other_number : (k l : ℕ) → k < l → (k == l) ≡ false
other_number k l h = grind arith

is_less : (k l : ℕ) → k < l → nat_lt k l ≡ true
is_less k l h = grind arith

-- a path that goes on with a smaller number comes before
pub before_by : (path : List ℕ) (k l : ℕ) (r s : List ℕ) → k < l → is_before (path ++ k ∷ r) (path ++ l ∷ s) ≡ true
before_by [] k l r s h = ap (λ (b : Bool). if b then is_before r s else nat_lt k l) (other_number k l h) ∙ is_less k l h
before_by (p ∷ path) k l r s h = ap (λ (b : Bool). if b then is_before (path ++ k ∷ r) (path ++ l ∷ s) else nat_lt p p) (same_number p) ∙ before_by path k l r s h

-- ---- sites in order

abbrev pub Ordered : List Site → Type 0
Ordered [] = ⊤
Ordered (a ∷ fs) = Each (λ b. is_before (path_of a) (path_of b) ≡ true) fs × Ordered fs

insert_first : (a : Site) (fs : List Site) → Each (λ b. is_before (path_of a) (path_of b) ≡ true) fs → insert a fs ≡ a ∷ fs
insert_first a [] h = refl
insert_first a (b ∷ bs) h = ap (λ (x : Bool). if x then a ∷ b ∷ bs else b ∷ insert a bs) h.0

pub in_order : (fs : List Site) → Ordered fs → by_number fs ≡ fs
in_order [] h = refl
in_order (a ∷ fs) h = ap (insert a) (in_order fs h.1) ∙ insert_first a fs h.0

-- a site whose path goes on with a number from `least` on and below `end`
pub record Numbered (path : List ℕ) (least end : ℕ) (site : Site) : Type 0 where
  pub number : ℕ
  pub rest : List ℕ
  pub is : path_of site ≡ path ++ number ∷ rest
  pub from : least ≤ number
  pub to : number < end

abbrev pub AllNumbered : List ℕ → ℕ → ℕ → List Site → Type 0
AllNumbered path least end sites = Each (Numbered path least end) sites

each_mapped : {P Q : Site → Type 0} → ((a : Site) → P a → Q a) → (fs : List Site) → Each P fs → Each Q fs
each_mapped f [] h = tt
each_mapped f (a ∷ fs) h = (f a h.0, each_mapped f fs h.1)

pub each_append : (P : Site → Type 0) (fs bs : List Site) → Each P fs → Each P bs → Each P (fs ++ bs)
each_append P [] bs h k = k
each_append P (a ∷ fs) bs h k = (h.0, each_append P fs bs h.1 k)

pub wider : (path : List ℕ) (least end from to : ℕ) (fs : List Site) → from ≤ least → end ≤ to → AllNumbered path least end fs → AllNumbered path from to fs
wider path least end from to fs h k = each_mapped (λ a i. record {
  number = i.number;
  rest = i.rest;
  is = i.is;
  from = (let p : least ≤ i.number = i.from in omega arith);
  to = (let p : i.number < end = i.to in omega arith);
}) fs

-- the sites of a called node, whose path is one number longer
pub outwards : (path : List ℕ) (n : ℕ) (least end : ℕ) (fs : List Site) → AllNumbered (path ++ n ∷ []) least end fs → AllNumbered path n (suc n) fs
outwards path n least end fs = each_mapped (λ a i. record {
  number = n;
  rest = i.number ∷ i.rest;
  is = i.is ∙ turned path n (i.number ∷ i.rest);
  from = omega arith;
  to = omega arith;
}) fs
  where
    turned : (path : List ℕ) (n : ℕ) (rest : List ℕ) → (path ++ n ∷ []) ++ rest ≡ path ++ n ∷ rest
    turned [] n rest = refl
    turned (p ∷ path) n rest = ap (λ (l : List ℕ). p ∷ l) (turned path n rest)

comes_before : (path : List ℕ) (least middle end : ℕ) (a b : Site) → Numbered path least middle a → Numbered path middle end b → is_before (path_of a) (path_of b) ≡ true
comes_before path least middle end a b h k =
    let p : h.number < middle = h.to in
    let q : middle ≤ k.number = k.from in
    ap (λ (x : List ℕ). is_before x (path_of b)) h.is ∙ ap (λ (y : List ℕ). is_before (path ++ h.number ∷ h.rest) y) k.is ∙ before_by path h.number k.number h.rest k.rest (omega arith)

pub both_ordered : (path : List ℕ) (least middle end : ℕ) (fs bs : List Site) → Ordered fs → Ordered bs → AllNumbered path least middle fs → AllNumbered path middle end bs → Ordered (fs ++ bs)
both_ordered path least middle end [] bs h k i j = k
both_ordered path least middle end (a ∷ fs) bs h k i j =
    (each_append (λ b. is_before (path_of a) (path_of b) ≡ true) fs bs h.0 (each_mapped (λ b l. comes_before path least middle end a b i.0 l) bs j), both_ordered path least middle end fs bs h.1 k i.1 j)

-- ---- numbers grow

mutual
  pub grows : {calls : List Call} {n m : ℕ} {e r : Expr} → LowersIn calls n e r m → n ≤ m
  grows const = omega arith
  grows var = omega arith
  grows (unary h) = grows h
  grows (binary {n = n} {m = m} {k = k} h i) = let p : n ≤ m = grows h in let q : m ≤ k = grows i in omega arith
  grows (choice {n = n} {m = m} {k = k} {l = l} h i j) = let p : n ≤ m = grows h in let q : m ≤ k = grows i in let o : k ≤ l = grows j in omega arith
  grows (fby {n = n} {m = m} {k = k} h i) = let p : n ≤ m = grows h in let q : m ≤ k = grows i in omega arith
  grows (pre h) = grows h
  grows (arrow {n = n} {m = m} {k = k} h i) = let p : n ≤ m = grows h in let q : m ≤ k = grows i in omega arith
  grows (when h) = grows h
  grows (merge h) = branches_grow h
  grows (call {n = n} {m = m} i h) = let p : suc n ≤ m = all_grow h in omega arith
  grows (async_call {n = n} {m = m} i h) = let p : suc n ≤ m = all_grow h in omega arith
  grows async_const = omega arith
  grows (get h) = grows h

  pub all_grow : {calls : List Call} {n m : ℕ} {es rs : List Expr} → LowersAllIn calls n es rs m → n ≤ m
  all_grow no_exprs = omega arith
  all_grow (more_exprs {n = n} {m = m} {k = k} h hs) = let p : n ≤ m = grows h in let q : m ≤ k = all_grow hs in omega arith

  pub branches_grow : {calls : List Call} {n m : ℕ} {bs cs : List MergeBranch} → LowersBranchesIn calls n bs cs m → n ≤ m
  branches_grow no_branches = omega arith
  branches_grow (more_branches {n = n} {m = m} {k = k} h hs) = let p : n ≤ m = grows h in let q : m ≤ k = branches_grow hs in omega arith
