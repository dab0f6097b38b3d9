-- A core's node calls what its node in the program calls, and no calls lead back to it.
use Rattle.std.proofs.Common.{◌≡◌, ◌⊎◌, ⊎_elim, ℕ, zero, suc, Bool, true, false, ◌||◌, ◌&&◌, if◌then◌else◌, List, [], ◌∷◌, ◌++◌, map, length, refl, sym, ap, subst, ◌∙◌, Option, Some, None}
use Rattle.std.specs.Prelude.{not}
use Rattle.std.specs.List.{flat_map, list_any}
use Rattle.hept_ast.specs.Texts.{Name, same, is_in}
use Rattle.hept_ast.specs.Parts.{inside}
use Rattle.hept_ast.specs.Types.{Fit, Untyped, alike, async_fit, binary_fit, call_fit, divides, get_fit, if_fit, same_tag, unary_fit}
use Rattle.hept_ast.specs.Faults.{Duplicate, Fault, Judged, Judging, NestedAsync, Recursive, UnknownName, ZeroDivisor, barred, both, branch_fit, call_judged, called, calls_lead, calls_of, fault, is_nonzero, judged, lack_faults, lead, merge_fit, nested, node_named, read_faults, type_of_variable, unknown_tag, when_fit}
use Rattle.hept_ast.specs.declared.tree.Decl.{Decl}
use Rattle.hept_ast.specs.declared.tree.Node.{Node}
use Rattle.hept_ast.specs.declared.tree.Tag.{Tag}
use Rattle.hept_ast.specs.declared.tree.Ty.{Ty}
use Rattle.hept_ast.specs.declared.tree.TypeDec.{TypeDec}
use Rattle.hept_ast.specs.declared.tree.Expr.{Expr}
use Rattle.hept_ast.specs.declared.tree.MergeBranch.{MergeBranch}
use Rattle.hept_ast.proofs.FormsOf.{below-Const, below-Var, below-AsyncConst, below-Unary, below-Binary, below-If, below-Fby, below-Pre, below-Arrow, below-When, below-Merge, below-Call, below-AsyncCall, below-Get}
use Rattle.hept_ast.proofs.JudgeOf.{judge_of, one, row, branch_row, judge-Unary, judge-Binary, judge-If, judge-Fby, judge-Pre, judge-Arrow, judge-When, judge-Merge, judge-Call, judge-AsyncCall, judge-Get}
use Rattle.sound_expressions.proofs.Lists.{not_nil, nil_left, nil_right, no_fault, or_left, same_is}
use Rattle.accepted_meaning.proofs.StaticNodes.{named_node}
use Rattle.erased_rules.proofs.Lists.{flat_append, flat_flat}
use Rattle.erased_rules.proofs.Judgings.{own_nil, operands_nil}
use Rattle.naming_rules.proofs.Names.{in_cases}
use Rattle.naming_rules.proofs.CallsAlike.{judging_in}
use Rattle.lowering_rules.specs.Lowering.{node_frame, Lowers, const, var, last, unary, binary, choice, fby, pre, arrow, when, merge, call, async_call, async_const, get, LowersAll, no_exprs, more_exprs, LowersBranches, no_branches, more_branches}

-- ---- the calls in an expression

abbrev pub calls_in : Expr → List Name
calls_in e = flat_map (λ (x : Expr). called x.form) (inside e)

abbrev all_calls : List Expr → List Name
all_calls es = flat_map (λ (x : Expr). called x.form) es

two_calls : (es : List Expr) (a b : Expr) → es ≡ inside a ++ inside b → all_calls es ≡ calls_in a ++ calls_in b
two_calls es a b e = ap all_calls e ∙ flat_append (λ (x : Expr). called x.form) (inside a) (inside b)

three_calls : (es : List Expr) (c a b : Expr) → es ≡ inside c ++ inside a ++ inside b → all_calls es ≡ calls_in c ++ calls_in a ++ calls_in b
three_calls es c a b e =
    ap all_calls e ∙ flat_append (λ (x : Expr). called x.form) (inside c ++ inside a) (inside b)
    ∙ ap (λ (l : List Name). l ++ calls_in b) (flat_append (λ (x : Expr). called x.form) (inside c) (inside a))

row_calls : (es : List Expr) → all_calls (flat_map inside es) ≡ flat_map calls_in es
row_calls es = flat_flat (λ (x : Expr). called x.form) inside es

branch_calls : (bs : List MergeBranch) → all_calls (flat_map (λ (b : MergeBranch). inside b.value) bs) ≡ flat_map (λ (b : MergeBranch). calls_in b.value) bs
branch_calls bs = flat_flat (λ (x : Expr). called x.form) (λ (b : MergeBranch). inside b.value) bs

-- ---- the same calls after lowering

two : {a b c d : List Name} → b ≡ a → d ≡ c → b ++ d ≡ a ++ c
two p q = cc

mutual
  pub calls_same : {n m : ℕ} {e r : Expr} → Lowers node_frame n e r m → calls_in r ≡ calls_in e
  calls_same const = refl
  calls_same var = refl
  calls_same (last e) = cc
  calls_same (unary {op = op} {a = a} {b = b} h) = ap all_calls (below-Unary op b) ∙ calls_same h ∙ sym (ap all_calls (below-Unary op a))
  calls_same (binary {op = op} {a = a} {b = b} {c = c} {d = d} h i) = two_calls _ b d (below-Binary op b d) ∙ two (calls_same h) (calls_same i) ∙ sym (two_calls _ a c (below-Binary op a c))
  calls_same (choice {i = i} {j = j} {a = a} {b = b} {c = c} {d = d} h k l) =
      three_calls _ j b d (below-If j b d) ∙ two (two (calls_same h) (calls_same k)) (calls_same l) ∙ sym (three_calls _ i a c (below-If i a c))
  calls_same (fby {a = a} {b = b} {c = c} {d = d} h i) = two_calls _ b d (below-Fby b d) ∙ two (calls_same h) (calls_same i) ∙ sym (two_calls _ a c (below-Fby a c))
  calls_same (pre {a = a} {b = b} h) = ap all_calls (below-Pre b) ∙ calls_same h ∙ sym (ap all_calls (below-Pre a))
  calls_same (arrow {a = a} {b = b} {c = c} {d = d} h i) = two_calls _ b d (below-Arrow b d) ∙ two (calls_same h) (calls_same i) ∙ sym (two_calls _ a c (below-Arrow a c))
  calls_same (when {a = a} {b = b} {tag = tag} {x = x} h) = ap all_calls (below-When b tag x) ∙ calls_same h ∙ sym (ap all_calls (below-When a tag x))
  calls_same (merge {x = x} {bs = bs} {cs = cs} h) = ap all_calls (below-Merge x cs) ∙ branch_calls cs ∙ branches_same h ∙ sym (ap all_calls (below-Merge x bs) ∙ branch_calls bs)
  calls_same (call {g = g} {es = es} {rs = rs} h) =
      ap (λ (l : List Expr). g ∷ all_calls l) (below-Call g rs) ∙ ap (λ (l : List Name). g ∷ l) (row_calls rs ∙ all_same h ∙ sym (row_calls es)) ∙ sym (ap (λ (l : List Expr). g ∷ all_calls l) (below-Call g es))
  calls_same (async_call {q = q} {g = g} {es = es} {rs = rs} h) =
      ap (λ (l : List Expr). g ∷ all_calls l) (below-AsyncCall q g rs) ∙ ap (λ (l : List Name). g ∷ l) (row_calls rs ∙ all_same h ∙ sym (row_calls es)) ∙ sym (ap (λ (l : List Expr). g ∷ all_calls l) (below-AsyncCall q g es))
  calls_same async_const = refl
  calls_same (get {a = a} {b = b} h) = ap all_calls (below-Get b) ∙ calls_same h ∙ sym (ap all_calls (below-Get a))

  all_same : {n m : ℕ} {es rs : List Expr} → LowersAll node_frame n es rs m → flat_map calls_in rs ≡ flat_map calls_in es
  all_same no_exprs = refl
  all_same (more_exprs h hs) = two (calls_same h) (all_same hs)

  branches_same : {n m : ℕ} {bs cs : List MergeBranch} → LowersBranches node_frame n bs cs m → flat_map (λ (b : MergeBranch). calls_in b.value) cs ≡ flat_map (λ (b : MergeBranch). calls_in b.value) bs
  branches_same no_branches = refl
  branches_same (more_branches h hs) = two (calls_same h) (branches_same hs)

-- ---- where an expression has no fault, its calls do not lead back

module _ (types : List TypeDec) (ns : List Node) (n : Node) (ds : List Decl) where
  abbrev w : Judging
  w = judging_in types ns n ds

  abbrev pub Free : List Name → Type 0
  Free xs = (f : Name) → is_in f xs ≡ true → calls_lead ns f n.name ≡ false

  free_both : (xs ys : List Name) → Free xs → Free ys → Free (xs ++ ys)
  free_both xs ys h i f is = ⊎_elim (λ j. h f j) (λ j. i f j) (in_cases f xs ys is)

  free_none : Free []
  free_none f is = cc

  clean_of : {j j' : Judged (List Ty)} → j ≡ j' → j.faults ≡ [] → j'.faults ≡ []
  clean_of p f = ap (λ (x : Judged (List Ty)). x.faults) (sym p) ∙ f

  one_clean : (under : Bool) (a : Expr) → (one w under a).faults ≡ [] → (judge_of w under a).faults ≡ []
  one_clean under a f = nil_left (judge_of w under a).faults [] f

  call_free : (p : ℕ) (g : Name) (o : Option Node) (own : List Fault) (give : Fit → Fit) (args : Judged (List (List Ty))) → node_named ns g ≡ o → (call_judged w p o own give args).faults ≡ [] →
      (calls_lead ns g n.name ≡ false) × (args.faults ≡ [])
  call_free p g None own give args is f =
      absurd (not_nil (record { place = p; kind = UnknownName }) own (own_nil p (record { place = p; kind = UnknownName } ∷ own) args (λ ts. barred w Untyped) f))
  call_free p g (Some m) own give args is f =
      let mine = fault p Recursive (calls_lead ns m.name n.name) in
      let fit = λ (ts : List (List Ty)). barred w (give (call_fit m ts)) in
      let (u, g_is) = named_node ns g m (λ (x : Node). Unit {0}) (λ j d lt. tt) is in (
        subst (λ (x : Name). calls_lead ns x n.name ≡ false) (sym g_is) (no_fault p Recursive (calls_lead ns m.name n.name) (nil_left mine own (own_nil p (mine ++ own) args fit f))),
        operands_nil p (mine ++ own) args fit f,
      )

  free_call : (g : Name) (xs : List Name) → calls_lead ns g n.name ≡ false → Free xs → Free (g ∷ xs)
  free_call g xs e h f is = go (same f g) refl is
    where
      go : (b : Bool) → same f g ≡ b → (b || is_in f xs) ≡ true → calls_lead ns f n.name ≡ false
      go true s i = subst (λ (x : Name). calls_lead ns x n.name ≡ false) (sym (same_is f g s)) e
      go false s i = h f i

  two_free : (a b : Expr) → ((one w false a).faults ≡ [] → Free (calls_in a)) → ((one w false b).faults ≡ [] → Free (calls_in b)) → (both (one w false a) (one w false b)).faults ≡ [] → Free (calls_in a ++ calls_in b)
  two_free a b h i f = free_both (calls_in a) (calls_in b) (h (nil_left (one w false a).faults (one w false b).faults f)) (i (nil_right (one w false a).faults (one w false b).faults f))

  mutual
    pub free_calls : {i k : ℕ} {e r : Expr} → Lowers node_frame i e r k → (under : Bool) → (judge_of w under e).faults ≡ [] → Free (calls_in e)
    free_calls (const {k = k}) under f = subst Free (sym (ap all_calls (below-Const k))) free_none
    free_calls (var {x = x}) under f = subst Free (sym (ap all_calls (below-Var x))) free_none
    free_calls (last e) under f = cc
    free_calls (unary {p = p} {op = op} {a = a} h) under f =
        let g = operands_nil p.0 [] (one w false a) (unary_fit op) (clean_of (judge-Unary w under p.0 op a) f) in
        subst Free (sym (ap all_calls (below-Unary op a))) (free_calls h false (one_clean false a g))
    free_calls (binary {p = p} {op = op} {a = a} {c = c} h i) under f =
        let g = operands_nil p.0 (fault p.0 ZeroDivisor (divides op && not (is_nonzero c.form && true))) (both (one w false a) (one w false c)) (binary_fit op) (clean_of (judge-Binary w under p.0 op a c) f) in
        subst Free (sym (two_calls _ a c (below-Binary op a c))) (two_free a c (λ x. free_calls h false (one_clean false a x)) (λ x. free_calls i false (one_clean false c x)) g)
    free_calls (choice {p = p} {i = i} {a = a} {c = c} h k l) under f =
        let rest = both (one w false a) (one w false c) in
        let g = operands_nil p.0 [] (both (one w false i) rest) if_fit (clean_of (judge-If w under p.0 i a c) f) in
        let later = nil_right (one w false i).faults rest.faults g in
        subst Free (sym (three_calls _ i a c (below-If i a c)))
        (free_both (calls_in i ++ calls_in a) (calls_in c)
        (free_both (calls_in i) (calls_in a) (free_calls h false (one_clean false i (nil_left (one w false i).faults rest.faults g))) (free_calls k false (one_clean false a (nil_left (one w false a).faults (one w false c).faults later))))
        (free_calls l false (one_clean false c (nil_right (one w false a).faults (one w false c).faults later))))
    free_calls (fby {p = p} {a = a} {c = c} h i) under f =
        let g = operands_nil p.0 [] (both (one w false a) (one w false c)) alike (clean_of (judge-Fby w under p.0 a c) f) in
        subst Free (sym (two_calls _ a c (below-Fby a c))) (two_free a c (λ x. free_calls h false (one_clean false a x)) (λ x. free_calls i false (one_clean false c x)) g)
    free_calls (pre {p = p} {a = a} h) under f =
        let g = operands_nil p.0 [] (one w false a) alike (clean_of (judge-Pre w under p.0 a) f) in
        subst Free (sym (ap all_calls (below-Pre a))) (free_calls h false (one_clean false a g))
    free_calls (arrow {p = p} {a = a} {c = c} h i) under f =
        let g = operands_nil p.0 [] (both (one w false a) (one w false c)) alike (clean_of (judge-Arrow w under p.0 a c) f) in
        subst Free (sym (two_calls _ a c (below-Arrow a c))) (two_free a c (λ x. free_calls h false (one_clean false a x)) (λ x. free_calls i false (one_clean false c x)) g)
    free_calls (when {p = p} {a = a} {tag = tag} {x = x} h) under f =
        let g = operands_nil p.0 (read_faults w p.0 x ++ fault p.0 UnknownName (unknown_tag w tag)) (one w false a) (when_fit w tag (type_of_variable w x)) (clean_of (judge-When w under p.0 a tag x) f) in
        subst Free (sym (ap all_calls (below-When a tag x))) (free_calls h false (one_clean false a g))
    free_calls (merge {p = p} {x = x} {bs = bs} h) under f =
        let on = type_of_variable w x in
        let g = operands_nil p.0 (read_faults w p.0 x ++ lack_faults w p.0 (map (λ (b : MergeBranch). b.tag) bs) on) (branch_row w on [] bs) (merge_fit w on) (clean_of (judge-Merge w under p.0 x bs) f) in
        subst Free (sym (ap all_calls (below-Merge x bs) ∙ branch_calls bs)) (branches_free h on [] g)
    free_calls (call {p = p} {g = g} {es = es} h) under f =
        let (e, args) = call_free p.0 g (node_named ns g) [] (λ x. x) (row w false es) refl (clean_of (judge-Call w under p.0 g es) f) in
        subst Free (sym (ap (λ (l : List Expr). g ∷ all_calls l) (below-Call g es) ∙ ap (λ (l : List Name). g ∷ l) (row_calls es))) (free_call g (flat_map calls_in es) e (row_free h args))
    free_calls (async_call {p = p} {q = q} {g = g} {es = es} h) under f =
        let (e, args) = call_free p.0 g (node_named ns g) (fault p.0 NestedAsync (nested w)) async_fit (row w false es) refl (clean_of (judge-AsyncCall w under p.0 q g es) f) in
        subst Free (sym (ap (λ (l : List Expr). g ∷ all_calls l) (below-AsyncCall q g es) ∙ ap (λ (l : List Name). g ∷ l) (row_calls es))) (free_call g (flat_map calls_in es) e (row_free h args))
    free_calls (async_const {k = k}) under f = subst Free (sym (ap all_calls (below-AsyncConst k))) free_none
    free_calls (get {p = p} {a = a} h) under f =
        let g = operands_nil p.0 [] (one w true a) get_fit (clean_of (judge-Get w under p.0 a) f) in
        subst Free (sym (ap all_calls (below-Get a))) (free_calls h true (one_clean true a g))

    row_free : {i k : ℕ} {es rs : List Expr} → LowersAll node_frame i es rs k → (row w false es).faults ≡ [] → Free (flat_map calls_in es)
    row_free no_exprs f = free_none
    row_free (more_exprs {e = e} {es = es} h hs) f =
        free_both (calls_in e) (flat_map calls_in es) (free_calls h false (nil_left (judge_of w false e).faults (row w false es).faults f)) (row_free hs (nil_right (judge_of w false e).faults (row w false es).faults f))

    branches_free : {i k : ℕ} {bs cs : List MergeBranch} → LowersBranches node_frame i bs cs k → (on : Option Ty) (earlier : List Tag) → (branch_row w on earlier bs).faults ≡ [] → Free (flat_map (λ (b : MergeBranch). calls_in b.value) bs)
    branches_free no_branches on earlier f = free_none
    branches_free (more_branches {p = p} {tag = tag} {e = e} {bs = bs} h hs) on earlier f =
        let own = fault p.0 UnknownName (unknown_tag w tag) ++ fault p.0 Duplicate (list_any (same_tag tag) earlier) in
        let j = judged p.0 own (judge_of w false e) (branch_fit w tag on) in
        let rest = branch_row w on (tag ∷ earlier) bs in
        free_both (calls_in e) (flat_map (λ (b : MergeBranch). calls_in b.value) bs)
        (free_calls h false (operands_nil p.0 own (judge_of w false e) (branch_fit w tag on) (nil_left j.faults rest.faults f)))
        (branches_free hs on (tag ∷ earlier) (nil_right j.faults rest.faults f))

-- ---- nodes with the same names and calls

pub data SameNodes : List Node → List Node → Type 0 where
  no_nodes : SameNodes [] []
  more_nodes : {n m : Node} {ns ms : List Node} → m.name ≡ n.name → calls_of (Some m) ≡ calls_of (Some n) → SameNodes ns ms → SameNodes (n ∷ ns) (m ∷ ms)

calls_named : (ns ms : List Node) → SameNodes ns ms → (f : Name) → calls_of (node_named ms f) ≡ calls_of (node_named ns f)
calls_named _ _ no_nodes f = refl
calls_named _ _ (more_nodes {n = n} {m = m} {ns = ns} {ms = ms} a b rest) f =
    ap (λ (x : Name). calls_of (if same f x then Some m else node_named ms f)) a ∙ go (same f n.name) (calls_named ns ms rest f)
  where
    go : (c : Bool) → calls_of (node_named ms f) ≡ calls_of (node_named ns f) → calls_of (if c then Some m else node_named ms f) ≡ calls_of (if c then Some n else node_named ns f)
    go true k = b
    go false k = k

any_same : (p q : Name → Bool) → ((x : Name) → p x ≡ q x) → (xs : List Name) → list_any p xs ≡ list_any q xs
any_same p q h [] = refl
any_same p q h (x ∷ xs) = let e : p x ≡ q x = h x in let f : list_any p xs ≡ list_any q xs = any_same p q h xs in cc

lead_same : (ns ms : List Node) → SameNodes ns ms → (k : ℕ) (f g : Name) → lead ms k f g ≡ lead ns k f g
lead_same ns ms h zero f g = refl
lead_same ns ms h (suc k) f g =
    ap (λ b. same f g || b) (any_same (λ x. lead ms k x g) (λ x. lead ns k x g) (λ x. lead_same ns ms h k x g) (calls_of (node_named ms f))
    ∙ ap (λ (xs : List Name). list_any (λ x. lead ns k x g) xs) (calls_named ns ms h f))

length_same : (ns ms : List Node) → SameNodes ns ms → length ms ≡ length ns
length_same _ _ no_nodes = refl
length_same _ _ (more_nodes a b rest) = ap suc (length_same _ _ rest)

pub leads_same : (ns ms : List Node) → SameNodes ns ms → (f g : Name) → calls_lead ms f g ≡ calls_lead ns f g
leads_same ns ms h f g = ap (λ k. lead ms k f g) (length_same ns ms h) ∙ lead_same ns ms h (length ns) f g

-- ---- nodes without calls

-- where calls do not lead from one name to another, these differ
pub lead_differs : (ns : List Node) (f g : Name) → calls_lead ns f g ≡ false → same f g ≡ false
lead_differs ns f g h = go (length ns) h
  where
    go : (k : ℕ) → lead ns k f g ≡ false → same f g ≡ false
    go zero e = e
    go (suc k) e = or_left (same f g) _ e

pub lead_nowhere : (ms : List Node) (f g : Name) → calls_of (node_named ms f) ≡ [] → same f g ≡ false → calls_lead ms f g ≡ false
lead_nowhere ms f g h e = go (length ms)
  where
    go : (k : ℕ) → lead ms k f g ≡ false
    go zero = e
    go (suc k) = ap (λ (xs : List Name). same f g || list_any (λ x. lead ms k x g) xs) h ∙ ap (λ b. b || false) e
