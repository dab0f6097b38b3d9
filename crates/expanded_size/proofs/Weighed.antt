-- The sizes of the pieces of an expanded text, by the expressions that stand in them.
use Rattle.std.proofs.Common.{◌≡◌, ℕ, ◌+◌, List, [], ◌∷◌, ◌++◌, length, map, refl, sym, subst, arith, length-append, zero-add, Some}
use Rattle.std.specs.List.{flat_map}
use Rattle.std.proofs.lemmas.Grind.{flat_map-append}
use Rattle.hept_ast.specs.Texts.{Name}
use Rattle.hept_ast.specs.Scopes.{Scope, Written, block_of, text_of}
use Rattle.hept_ast.specs.Meaning.{Setting}
use Rattle.hept_ast.specs.Faults.{called, node_named}
use Rattle.hept_ast.specs.Sites.{Piece, Body}
use Rattle.hept_ast.specs.ExpandedSize.{SizeOf, SizeOfAll, no_parts, one_part}
use Rattle.hept_ast.specs.declared.tree.Expr.{Expr}
use Rattle.hept_ast.specs.declared.tree.Node.{Node}

abbrev pub calls_at : Expr → List Name
calls_at e = called e.form

module _ (nodes : List Node) (w : Setting) where
  -- each of these calls names a node whose bodies have this size, together
  pub data AllAre : List Name → ℕ → Type 0 where
    no_more : AllAre [] 0
    one_more : {f : Name} {fs : List Name} {g : Node} {n m : ℕ} → node_named nodes f ≡ Some g → ((s : Scope) (j : ℕ) → text_of s ≡ Written j g → block_of s ≡ g.block → SizeOf w (Body s) n) → AllAre fs m → AllAre (f ∷ fs) (n + m)

  -- one for each of these expressions, and the sizes of the nodes that they call
  pub record Weigh (es : List Expr) (n : ℕ) : Type 0 where
    pub callees : ℕ
    pub are : AllAre (flat_map calls_at es) callees
    pub sum : n ≡ length es + callees

  -- ---- lists of calls

  pub record Split (fs gs : List Name) (m : ℕ) : Type 0 where
    pub first : ℕ
    pub second : ℕ
    pub left : AllAre fs first
    pub right : AllAre gs second
    pub total : m ≡ first + second

  pub split : (fs gs : List Name) (m : ℕ) → AllAre (fs ++ gs) m → Split fs gs m
  split [] gs m h = record { first = 0; second = m; left = no_more; right = h; total = sym (zero-add m) }
  split (f ∷ fs) gs m (one_more {n = n} {m = k} named good rest) =
      let r = split fs gs k rest in
      let sum : n + k ≡ n + r.first + r.second = omega (arith, r.total) in
      record { first = n + r.first; second = r.second; left = one_more named good r.left; right = r.right; total = sum }

  join : (fs gs : List Name) (a b : ℕ) → AllAre fs a → AllAre gs b → AllAre (fs ++ gs) (a + b)
  join fs gs a b no_more right = subst (AllAre gs) (sym (zero-add b)) right
  join fs gs a b (one_more {fs = rest} {n = n} {m = k} named good left) right =
      let sum : n + (k + b) ≡ n + k + b = omega arith in
      subst (AllAre (fs ++ gs)) sum (one_more named good (join rest gs k b left right))

  pub none : (n : ℕ) → AllAre [] n → n ≡ 0
  none n no_more = refl

  -- ---- lists of expressions

  record SplitWeight (es fs : List Expr) (n : ℕ) : Type 0 where
    first : ℕ
    second : ℕ
    left : Weigh es first
    right : Weigh fs second
    total : n ≡ first + second

  split_weight : (es fs : List Expr) (n : ℕ) → Weigh (es ++ fs) n → SplitWeight es fs n
  split_weight es fs n h =
      let r = split (flat_map calls_at es) (flat_map calls_at fs) h.callees (subst (λ (xs : List Name). AllAre xs h.callees) (flat_map-append calls_at es fs) h.are) in
      let sum : n ≡ (length es + r.first) + (length fs + r.second) = omega (arith, h.sum, r.total, length-append es fs) in
      record {
        first = length es + r.first;
        second = length fs + r.second;
        left = record { callees = r.first; are = r.left; sum = refl };
        right = record { callees = r.second; are = r.right; sum = refl };
        total = sum;
      }

  turned_weight : (es fs : List Expr) (n : ℕ) → Weigh (es ++ fs) n → Weigh (fs ++ es) n
  turned_weight es fs n h =
      let r = split (flat_map calls_at es) (flat_map calls_at fs) h.callees (subst (λ (xs : List Name). AllAre xs h.callees) (flat_map-append calls_at es fs) h.are) in
      let total : n ≡ length (fs ++ es) + (r.second + r.first) = omega (arith, h.sum, r.total, length-append es fs, length-append fs es) in
      record {
        callees = r.second + r.first;
        are = subst (λ (xs : List Name). AllAre xs (r.second + r.first)) (sym (flat_map-append calls_at fs es)) (join (flat_map calls_at fs) (flat_map calls_at es) r.second r.first r.right r.left);
        sum = total;
      }

  -- ---- pieces that have the sizes of expressions

  abbrev pub Makes : List Expr → Piece → Type 0
  Makes es piece = (n : ℕ) → Weigh es n → SizeOf w piece n

  abbrev pub MakeAll : List Expr → List Piece → Type 0
  MakeAll es pieces = (n : ℕ) → Weigh es n → SizeOfAll w pieces n

  pub make_none : MakeAll [] []
  make_none n h =
      let zero_is : n ≡ 0 = omega (arith, h.sum, none h.callees h.are) in
      subst (SizeOfAll w []) (sym zero_is) no_parts

  pub make_one : (es fs : List Expr) (p : Piece) (ps : List Piece) → Makes es p → MakeAll fs ps → MakeAll (es ++ fs) (p ∷ ps)
  make_one es fs p ps here rest n h =
      let r = split_weight es fs n h in
      subst (SizeOfAll w (p ∷ ps)) (sym r.total) (one_part (here r.first r.left) (rest r.second r.right))

  pub sizes_join : (ps qs : List Piece) (a b : ℕ) → SizeOfAll w ps a → SizeOfAll w qs b → SizeOfAll w (ps ++ qs) (a + b)
  sizes_join ps qs a b no_parts right = subst (SizeOfAll w qs) (sym (zero-add b)) right
  sizes_join ps qs a b (one_part {rest = rest} {n = n} {m = m} here left) right =
      let sum : n + (m + b) ≡ n + m + b = omega arith in
      subst (SizeOfAll w (ps ++ qs)) sum (one_part here (sizes_join rest qs m b left right))

  pub make_both : (es fs : List Expr) (ps qs : List Piece) → MakeAll es ps → MakeAll fs qs → MakeAll (es ++ fs) (ps ++ qs)
  make_both es fs ps qs here rest n h =
      let r = split_weight es fs n h in
      subst (SizeOfAll w (ps ++ qs)) (sym r.total) (sizes_join ps qs r.first r.second (here r.first r.left) (rest r.second r.right))

  pub make_turned : (es fs : List Expr) (ps : List Piece) → MakeAll (es ++ fs) ps → MakeAll (fs ++ es) ps
  make_turned es fs ps h n k = h n (turned_weight fs es n k)

  pub make_along : (es fs : List Expr) (ps : List Piece) → es ≡ fs → MakeAll es ps → MakeAll fs ps
  make_along es fs ps e h = subst (λ (xs : List Expr). MakeAll xs ps) e h

  -- a list of pieces, each by what it is made of
  pub make_each : {X Y : Type 0} (v : Y → X) (f : X → List Expr) (g : X → Piece) → ((y : Y) → Makes (f (v y)) (g (v y))) → (ys : List Y) → MakeAll (flat_map f (map v ys)) (map g (map v ys))
  make_each v f g h [] = make_none
  make_each v f g h (y ∷ ys) = make_one (f (v y)) (flat_map f (map v ys)) (g (v y)) (map g (map v ys)) (h y) (make_each v f g h ys)
