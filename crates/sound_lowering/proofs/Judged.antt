-- An expression without faults and what it becomes have the same types, and the latter has no fault either.
use Rattle.std.proofs.Common.{◌≡◌, ℕ, Bool, true, false, ◌&&◌, if◌then◌else◌, List, [], ◌∷◌, ◌++◌, map, refl, sym, ap, ◌∙◌, Option, Some, None}
use Rattle.std.specs.Prelude.{is_some, not}
use Rattle.std.specs.List.{list_any}
use Rattle.std.specs.Option.{option_map, option_map_or}
use Rattle.hept_ast.specs.Texts.{Name}
use Rattle.hept_ast.specs.Parts.{declaration}
use Rattle.hept_ast.specs.Types.{Fit, Fits, Misfit, Untyped, Plain_type, alike, async_fit, binary_fit, call_fit, divides, get_fit, has_tags, if_fit, same_tag, type_of_const, type_of_tag, unary_fit}
use Rattle.hept_ast.specs.Faults.{Duplicate, Fault, FutureKept, Judged, Judging, Mismatch, NestedAsync, Recursive, UnknownName, ZeroDivisor, async_nodes, barred, both, branch_fit, call_judged, calls_lead, const_judged, fault, is_kept, is_nonzero, judged, judged_by, judged_of, lack_faults, merge_fit, nested, no_operands, node_named, read_faults, tag_fits, type_of_variable, unknown_tag, unknown_variable, var_judged, when_fit, with_operand, with_own}
use Rattle.hept_ast.specs.declared.tree.Decl.{Decl}
use Rattle.hept_ast.specs.declared.tree.Node.{Node}
use Rattle.hept_ast.specs.declared.tree.Tag.{Tag}
use Rattle.hept_ast.specs.declared.tree.Ty.{Ty}
use Rattle.hept_ast.specs.declared.tree.Ty.TheVariants as ty
use Rattle.hept_ast.specs.declared.tree.TypeDec.{TypeDec}
use Rattle.hept_ast.specs.declared.tree.Expr.{Expr}
use Rattle.hept_ast.specs.declared.tree.MergeBranch.{MergeBranch}
use Rattle.hept_ast.proofs.JudgeOf.{judge_of, one, row, branch_row, judge-Const, judge-Var, judge-Unary, judge-Binary, judge-If, judge-Fby, judge-Pre, judge-Arrow, judge-When, judge-Merge, judge-Call, judge-AsyncCall, judge-AsyncConst, judge-Get}
use Rattle.sound_expressions.proofs.Lists.{not_nil, nil_left, nil_right, no_fault}
use Rattle.erased_rules.proofs.Lists.{nil_both}
use Rattle.erased_rules.proofs.Judgings.{own_nil, operands_nil}
use Rattle.naming_rules.proofs.JudgedAlike.{and_false, kept_none, nested_none}
use Rattle.naming_rules.proofs.CallsAlike.{judging_in}
use Rattle.lowering_rules.specs.Lowering.{node_frame, Lowers, const, var, last, unary, binary, choice, fby, pre, arrow, when, merge, call, async_call, async_const, get, LowersAll, no_exprs, more_exprs, LowersBranches, no_branches, more_branches}

-- ---- nodes that are called, in the program and in the core

module _ (ns ms : List Node) (n m : Node) where
  -- the same call fits both, and where no calls lead from the one to its caller, none lead from the other
  pub record AlikeCallee (g i : Node) : Type 0 where
    pub fit : (ts : List (List Ty)) → call_fit i ts ≡ call_fit g ts
    pub lead : calls_lead ns g.name n.name ≡ false → calls_lead ms i.name m.name ≡ false

  pub data AlikeCallees : Option Node → Option Node → Type 0 where
    neither : AlikeCallees None None
    both_found : {g i : Node} → AlikeCallee g i → AlikeCallees (Some g) (Some i)

-- ---- what is judged twice

-- the same types, and no fault
abbrev pub As : {A : Type 0} → Judged A → Judged A → Type 0
As j i = i ≡ record { types = j.types; faults = [] }

again_by : (p q : ℕ) (y z : Fit) → z ≡ y → (judged_by p [] y).faults ≡ [] → judged_by q [] z ≡ record { types = (judged_by p [] y).types; faults = [] }
again_by p q (Fits ts) z e f = ap (judged_by q []) e
again_by p q Misfit z e f = absurd (not_nil (record { place = p; kind = Mismatch }) [] f)
again_by p q Untyped z e f = ap (judged_by q []) e

again_of : {A : Type 0} (p q : ℕ) (o : Option A) (fit fit' : A → Fit) → ((x : A) → fit' x ≡ fit x) → (judged_of p [] o fit).faults ≡ [] →
    judged_of q [] o fit' ≡ record { types = (judged_of p [] o fit).types; faults = [] }
again_of p q None fit fit' e f = refl
again_of p q (Some x) fit fit' e f = again_by p q (fit x) (fit' x) (e x) f

again : {A : Type 0} (p q : ℕ) (own own' : List Fault) (j i : Judged A) (fit fit' : A → Fit) → (judged p own j fit).faults ≡ [] → own' ≡ [] → As j i → ((x : A) → fit' x ≡ fit x) →
    As (judged p own j fit) (judged q own' i fit')
again {A} p q own own' j i fit fit' f o e k =
    let a : own ++ j.faults ≡ [] = nil_both own j.faults (own_nil p own j fit f) (operands_nil p own j fit f) in
    let s : judged p own j fit ≡ judged_of p [] j.types fit = ap (λ (fs : List Fault). judged_of p fs j.types fit) a in
    ap (λ (fs : List Fault). judged q fs i fit') o ∙ ap (λ (x : Judged A). judged q [] x fit') e
    ∙ again_of p q j.types fit fit' k (ap (λ (x : Judged (List Ty)). x.faults) (sym s) ∙ f)
    ∙ ap (λ (x : Judged (List Ty)). record { types = x.types; faults = [] }) (sym s)

through : {j j' i i' : Judged (List Ty)} → j ≡ j' → i ≡ i' → (j'.faults ≡ [] → As j' i') → j.faults ≡ [] → As j i
through p q h f = q ∙ h (ap (λ (x : Judged (List Ty)). x.faults) (sym p) ∙ f) ∙ ap (λ (x : Judged (List Ty)). record { types = x.types; faults = [] }) (sym p)

operand_again : (j i : Judged (List Ty)) (js is : Judged (List (List Ty))) → As j i → As js is → As (with_operand j js) (with_operand i is)
operand_again j i js is e f = ap (λ (x : Judged (List Ty)). with_operand x is) e ∙ ap (λ (x : Judged (List (List Ty))). with_operand (record { types = j.types; faults = [] }) x) f

both_again : (j i js is : Judged (List (List Ty))) → As j i → As js is → As (both j js) (both i is)
both_again j i js is e f = ap (λ (x : Judged (List (List Ty))). both x is) e ∙ ap (λ (x : Judged (List (List Ty))). both (record { types = j.types; faults = [] }) x) f

-- ---- an operator divides by the same

nonzero_same : {n m : ℕ} {e r : Expr} → Lowers node_frame n e r m → is_nonzero r.form ≡ is_nonzero e.form
nonzero_same const = refl
nonzero_same var = refl
nonzero_same (last e) = cc
nonzero_same (unary h) = refl
nonzero_same (binary h i) = refl
nonzero_same (choice h i j) = refl
nonzero_same (fby h i) = refl
nonzero_same (pre h) = refl
nonzero_same (arrow h i) = refl
nonzero_same (when h) = refl
nonzero_same (merge h) = refl
nonzero_same (call h) = refl
nonzero_same (async_call h) = refl
nonzero_same async_const = refl
nonzero_same (get h) = refl

tags_same : {n m : ℕ} {bs cs : List MergeBranch} → LowersBranches node_frame n bs cs m → map (λ (b : MergeBranch). b.tag) cs ≡ map (λ (b : MergeBranch). b.tag) bs
tags_same no_branches = refl
tags_same (more_branches {tag = tag} h hs) = ap (λ (ts : List Tag). tag ∷ ts) (tags_same hs)

some_type : (o : Option Decl) → is_some (option_map (λ (d : Decl). d.ty) o) ≡ is_some o
some_type None = refl
some_type (Some d) = refl

-- ---- expressions

module _ (types : List TypeDec) (ns ms : List Node) (n m : Node) (ds es : List Decl)
    (seen : (x : Name) → option_map (λ (d : Decl). d.ty) (declaration es x) ≡ option_map (λ (d : Decl). d.ty) (declaration ds x))
    (none : async_nodes ms ≡ []) (callees : (f : Name) → AlikeCallees ns ms n m (node_named ns f) (node_named ms f)) where
  abbrev w : Judging
  w = judging_in types ns n ds

  abbrev v : Judging
  v = judging_in types ms m es

  const_again : (p q : ℕ) (o : Option Plain_type) (give : Plain_type → Ty) → (const_judged w p o give).faults ≡ [] → As (const_judged w p o give) (const_judged v q o give)
  const_again p q None give f = absurd (not_nil (record { place = p; kind = UnknownName }) [] f)
  const_again p q (Some t) give f = refl

  var_by : (p : ℕ) (under : Bool) (x : Name) (o : Option Ty) → (var_judged w p under x o).faults ≡ [] → As (var_judged w p under x o) (var_judged v p under x o)
  var_by p under x None f = absurd (not_nil (record { place = p; kind = UnknownName }) [] f)
  var_by p under x (Some t) f =
      ap (λ (b : Bool). judged_by p (fault p FutureKept (not under && b)) (Fits (t ∷ []))) (kept_none v none x t)
      ∙ ap (λ (b : Bool). judged_by p (fault p FutureKept b) (Fits (t ∷ []))) (and_false (not under))
      ∙ ap (λ (fs : List Fault). record { types = with_own fs (t ∷ []); faults = [] }) (sym f)

  var_again : (p : ℕ) (under : Bool) (x : Name) → (var_judged w p under x (type_of_variable w x)).faults ≡ [] → As (var_judged w p under x (type_of_variable w x)) (var_judged v p under x (type_of_variable v x))
  var_again p under x f = ap (λ (o : Option Ty). var_judged v p under x o) (seen x) ∙ var_by p under x (type_of_variable w x) f

  no_future : (x : Name) (o : Option Ty) → option_map_or (is_kept v x) o false ≡ false
  no_future x None = refl
  no_future x (Some t) = kept_none v none x t

  unknown_same : (p : ℕ) (x : Name) → unknown_variable v p x ≡ unknown_variable w p x
  unknown_same p x = ap (λ (b : Bool). fault p UnknownName (not b)) (sym (some_type (declaration es x)) ∙ ap (λ (o : Option Ty). is_some o) (seen x) ∙ some_type (declaration ds x))

  read_again : (p : ℕ) (x : Name) → read_faults w p x ≡ [] → read_faults v p x ≡ []
  read_again p x f =
      nil_both (unknown_variable v p x) (fault p FutureKept (option_map_or (is_kept v x) (type_of_variable v x) false))
      (unknown_same p x ∙ nil_left (unknown_variable w p x) (fault p FutureKept (option_map_or (is_kept w x) (type_of_variable w x) false)) f)
      (ap (fault p FutureKept) (no_future x (type_of_variable v x)))

  tag_by : (o : Option Plain_type) (t : Ty) → tag_fits v o t ≡ tag_fits w o t
  tag_by None t = refl
  tag_by (Some s) t = refl

  when_by : (tag : Tag) (o : Option Ty) (ts : List (List Ty)) → when_fit v tag o ts ≡ when_fit w tag o ts
  when_by tag None ts = refl
  when_by tag (Some on) ts = ap (λ (b : Bool). if b && has_tags on then alike ts else Misfit) (tag_by (type_of_tag types tag) on)

  merge_by : (o : Option Ty) (ts : List (List Ty)) → merge_fit v o ts ≡ merge_fit w o ts
  merge_by None ts = refl
  merge_by (Some on) ts = refl

  branch_by : (tag : Tag) (o : Option Ty) (ts : List Ty) → branch_fit v tag o ts ≡ branch_fit w tag o ts
  branch_by tag None ts = refl
  branch_by tag (Some on) ts = ap (λ (b : Bool). if b then Fits ts else Misfit) (tag_by (type_of_tag types tag) on)

  lack_by : (p : ℕ) (given : List Tag) (o : Option Ty) → lack_faults v p given o ≡ lack_faults w p given o
  lack_by p given None = refl
  lack_by p given (Some on) = refl

  -- ---- calls

  call_operands : (p : ℕ) (o : Option Node) (own : List Fault) (give : Fit → Fit) (args : Judged (List (List Ty))) → (call_judged w p o own give args).faults ≡ [] → args.faults ≡ []
  call_operands p None own give args f = operands_nil p (record { place = p; kind = UnknownName } ∷ own) args (λ ts. barred w Untyped) f
  call_operands p (Some g) own give args f = operands_nil p (fault p Recursive (calls_lead ns g.name n.name) ++ own) args (λ ts. barred w (give (call_fit g ts))) f

  call_again : (p q : ℕ) (o o' : Option Node) (own own' : List Fault) (give : Fit → Fit) (args args' : Judged (List (List Ty))) → AlikeCallees ns ms n m o o' → (call_judged w p o own give args).faults ≡ [] →
      own' ≡ [] → As args args' → As (call_judged w p o own give args) (call_judged v q o' own' give args')
  call_again p q _ _ own own' give args args' neither f e a =
      absurd (not_nil (record { place = p; kind = UnknownName }) own (own_nil p (record { place = p; kind = UnknownName } ∷ own) args (λ ts. barred w Untyped) f))
  call_again p q _ _ own own' give args args' (both_found {g = g} {i = i} c) f e a =
      let mine = fault p Recursive (calls_lead ns g.name n.name) in
      let fit = λ (ts : List (List Ty)). give (call_fit g ts) in
      let other = λ (ts : List (List Ty)). give (call_fit i ts) in
      let free = no_fault p Recursive (calls_lead ns g.name n.name) (nil_left mine own (own_nil p (mine ++ own) args fit f)) in
      again p q (mine ++ own) (fault q Recursive (calls_lead ms i.name m.name) ++ own') args args' fit other f
      (nil_both (fault q Recursive (calls_lead ms i.name m.name)) own' (ap (fault q Recursive) (c.lead free)) e) a (λ ts. ap give (c.fit ts))

  -- ---- forms

  one_again : (under : Bool) (a b : Expr) → As (judge_of w under a) (judge_of v under b) → As (one w under a) (one v under b)
  one_again under a b h = ap (λ (x : Judged (List Ty)). with_operand x no_operands) h

  one_faults : (under : Bool) (a : Expr) → (one w under a).faults ≡ [] → (judge_of w under a).faults ≡ []
  one_faults under a f = nil_left (judge_of w under a).faults [] f

  abbrev Again : Bool → Expr → Expr → Type 0
  Again under e r = (judge_of w under e).faults ≡ [] → As (judge_of w under e) (judge_of v under r)

  alone : (under : Bool) (a b : Expr) → Again under a b → (one w under a).faults ≡ [] → As (one w under a) (one v under b)
  alone under a b h f = one_again under a b (h (one_faults under a f))

  pair : (a b c d : Expr) → Again false a b → Again false c d → (both (one w false a) (one w false c)).faults ≡ [] → As (both (one w false a) (one w false c)) (both (one v false b) (one v false d))
  pair a b c d h i f =
      both_again (one w false a) (one v false b) (one w false c) (one v false d)
      (alone false a b h (nil_left (one w false a).faults (one w false c).faults f)) (alone false c d i (nil_right (one w false a).faults (one w false c).faults f))

  mutual
    pub judged_again : {i k : ℕ} {e r : Expr} → Lowers node_frame i e r k → (under : Bool) → Again under e r
    judged_again (const {p = p} {k = k}) under = through (judge-Const w under p.0 k) (judge-Const v under p.0 k) (const_again p.0 p.0 (type_of_const types k) ty.Plain)
    judged_again (var {p = p} {x = x}) under = through (judge-Var w under p.0 x) (judge-Var v under p.0 x) (var_again p.0 under x)
    judged_again (last e) under = cc
    judged_again (unary {p = p} {op = op} {a = a} {b = b} h) under = through (judge-Unary w under p.0 op a) (judge-Unary v under p.0 op b)
        (λ f. again p.0 p.0 [] [] (one w false a) (one v false b) (unary_fit op) (unary_fit op) f refl (alone false a b (judged_again h false) (operands_nil p.0 [] (one w false a) (unary_fit op) f)) (λ ts. refl))
    judged_again (binary {p = p} {op = op} {a = a} {b = b} {c = c} {d = d} h i) under = through (judge-Binary w under p.0 op a c) (judge-Binary v under p.0 op b d)
        (λ f. let own = fault p.0 ZeroDivisor (divides op && not (is_nonzero c.form && true)) in
        let args = both (one w false a) (one w false c) in
        again p.0 p.0 own (fault p.0 ZeroDivisor (divides op && not (is_nonzero d.form && true))) args (both (one v false b) (one v false d)) (binary_fit op) (binary_fit op) f
        (ap (λ (z : Bool). fault p.0 ZeroDivisor (divides op && not (z && true))) (nonzero_same i) ∙ own_nil p.0 own args (binary_fit op) f)
        (pair a b c d (judged_again h false) (judged_again i false) (operands_nil p.0 own args (binary_fit op) f)) (λ ts. refl))
    judged_again (choice {p = p} {i = i} {j = j} {a = a} {b = b} {c = c} {d = d} h k l) under = through (judge-If w under p.0 i a c) (judge-If v under p.0 j b d)
        (λ f. let rest = both (one w false a) (one w false c) in
        let args = both (one w false i) rest in
        let g = operands_nil p.0 [] args if_fit f in
        again p.0 p.0 [] [] args (both (one v false j) (both (one v false b) (one v false d))) if_fit if_fit f refl
        (both_again (one w false i) (one v false j) rest (both (one v false b) (one v false d)) (alone false i j (judged_again h false) (nil_left (one w false i).faults rest.faults g))
        (pair a b c d (judged_again k false) (judged_again l false) (nil_right (one w false i).faults rest.faults g))) (λ ts. refl))
    judged_again (fby {p = p} {a = a} {b = b} {c = c} {d = d} h i) under = through (judge-Fby w under p.0 a c) (judge-Fby v under p.0 b d)
        (λ f. again p.0 p.0 [] [] (both (one w false a) (one w false c)) (both (one v false b) (one v false d)) alike alike f refl
        (pair a b c d (judged_again h false) (judged_again i false) (operands_nil p.0 [] (both (one w false a) (one w false c)) alike f)) (λ ts. refl))
    judged_again (pre {p = p} {a = a} {b = b} h) under = through (judge-Pre w under p.0 a) (judge-Pre v under p.0 b)
        (λ f. again p.0 p.0 [] [] (one w false a) (one v false b) alike alike f refl (alone false a b (judged_again h false) (operands_nil p.0 [] (one w false a) alike f)) (λ ts. refl))
    judged_again (arrow {p = p} {a = a} {b = b} {c = c} {d = d} h i) under = through (judge-Arrow w under p.0 a c) (judge-Arrow v under p.0 b d)
        (λ f. again p.0 p.0 [] [] (both (one w false a) (one w false c)) (both (one v false b) (one v false d)) alike alike f refl
        (pair a b c d (judged_again h false) (judged_again i false) (operands_nil p.0 [] (both (one w false a) (one w false c)) alike f)) (λ ts. refl))
    judged_again (when {p = p} {a = a} {b = b} {tag = tag} {x = x} h) under = through (judge-When w under p.0 a tag x) (judge-When v under p.0 b tag x)
        (λ f. let tagged = fault p.0 UnknownName (unknown_tag w tag) in
        let own = read_faults w p.0 x ++ tagged in
        let fit = when_fit w tag (type_of_variable w x) in
        let mine = own_nil p.0 own (one w false a) fit f in
        again p.0 p.0 own (read_faults v p.0 x ++ tagged) (one w false a) (one v false b) fit (when_fit v tag (type_of_variable v x)) f
        (nil_both (read_faults v p.0 x) tagged (read_again p.0 x (nil_left (read_faults w p.0 x) tagged mine)) (nil_right (read_faults w p.0 x) tagged mine))
        (alone false a b (judged_again h false) (operands_nil p.0 own (one w false a) fit f))
        (λ ts. ap (λ (o : Option Ty). when_fit v tag o ts) (seen x) ∙ when_by tag (type_of_variable w x) ts))
    judged_again (merge {p = p} {x = x} {bs = bs} {cs = cs} h) under = through (judge-Merge w under p.0 x bs) (judge-Merge v under p.0 x cs)
        (λ f. let on = type_of_variable w x in
        let given = map (λ (b : MergeBranch). b.tag) bs in
        let lack = lack_faults w p.0 given on in
        let own = read_faults w p.0 x ++ lack in
        let args = branch_row w on [] bs in
        let mine = own_nil p.0 own args (merge_fit w on) f in
        let lack' = lack_faults v p.0 (map (λ (b : MergeBranch). b.tag) cs) (type_of_variable v x) in
        again p.0 p.0 own (read_faults v p.0 x ++ lack') args (branch_row v (type_of_variable v x) [] cs) (merge_fit w on) (merge_fit v (type_of_variable v x)) f
        (nil_both (read_faults v p.0 x) lack' (read_again p.0 x (nil_left (read_faults w p.0 x) lack mine))
        (ap (λ (ts : List Tag). lack_faults v p.0 ts (type_of_variable v x)) (tags_same h) ∙ ap (λ (o : Option Ty). lack_faults v p.0 given o) (seen x) ∙ lack_by p.0 given on ∙ nil_right (read_faults w p.0 x) lack mine))
        (ap (λ (o : Option Ty). branch_row v o [] cs) (seen x) ∙ branches_again h on [] (operands_nil p.0 own args (merge_fit w on) f))
        (λ ts. ap (λ (o : Option Ty). merge_fit v o ts) (seen x) ∙ merge_by on ts))
    judged_again (call {n = i} {p = p} {g = g} {es = xs} {rs = rs} h) under = through (judge-Call w under p.0 g xs) (judge-Call v under i g rs)
        (λ f. call_again p.0 i (node_named ns g) (node_named ms g) [] [] (λ x. x) (row w false xs) (row v false rs) (callees g) f refl
        (row_again h (call_operands p.0 (node_named ns g) [] (λ x. x) (row w false xs) f)))
    judged_again (async_call {n = i} {p = p} {q = q} {g = g} {es = xs} {rs = rs} h) under = through (judge-AsyncCall w under p.0 q g xs) (judge-AsyncCall v under i q g rs)
        (λ f. call_again p.0 i (node_named ns g) (node_named ms g) (fault p.0 NestedAsync (nested w)) (fault i NestedAsync (nested v)) async_fit (row w false xs) (row v false rs) (callees g) f
        (ap (fault i NestedAsync) (nested_none v none))
        (row_again h (call_operands p.0 (node_named ns g) (fault p.0 NestedAsync (nested w)) async_fit (row w false xs) f)))
    judged_again (async_const {p = p} {k = k}) under = through (judge-AsyncConst w under p.0 k) (judge-AsyncConst v under p.0 k)
        (λ f. let j = const_judged w p.0 (type_of_const types k) ty.Future in
        again p.0 p.0 [] [] j (const_judged v p.0 (type_of_const types k) ty.Future) (λ ts. Fits ts) (λ ts. Fits ts) f refl
        (const_again p.0 p.0 (type_of_const types k) ty.Future (operands_nil p.0 [] j (λ ts. Fits ts) f)) (λ ts. refl))
    judged_again (get {p = p} {a = a} {b = b} h) under = through (judge-Get w under p.0 a) (judge-Get v under p.0 b)
        (λ f. again p.0 p.0 [] [] (one w true a) (one v true b) get_fit get_fit f refl (alone true a b (judged_again h true) (operands_nil p.0 [] (one w true a) get_fit f)) (λ ts. refl))

    row_again : {i k : ℕ} {xs rs : List Expr} → LowersAll node_frame i xs rs k → (row w false xs).faults ≡ [] → As (row w false xs) (row v false rs)
    row_again no_exprs f = refl
    row_again (more_exprs {e = e} {r = r} {es = xs} {rs = rs} h hs) f =
        operand_again (judge_of w false e) (judge_of v false r) (row w false xs) (row v false rs)
        (judged_again h false (nil_left (judge_of w false e).faults (row w false xs).faults f)) (row_again hs (nil_right (judge_of w false e).faults (row w false xs).faults f))

    branches_again : {i k : ℕ} {bs cs : List MergeBranch} → LowersBranches node_frame i bs cs k → (on : Option Ty) (earlier : List Tag) → (branch_row w on earlier bs).faults ≡ [] → As (branch_row w on earlier bs) (branch_row v on earlier cs)
    branches_again no_branches on earlier f = refl
    branches_again (more_branches {p = p} {tag = tag} {e = e} {r = r} {bs = bs} {cs = cs} h hs) on earlier f =
        let own = fault p.0 UnknownName (unknown_tag w tag) ++ fault p.0 Duplicate (list_any (same_tag tag) earlier) in
        let j = judged p.0 own (judge_of w false e) (branch_fit w tag on) in
        let rest = branch_row w on (tag ∷ earlier) bs in
        let first = nil_left j.faults rest.faults f in
        operand_again j (judged p.0 own (judge_of v false r) (branch_fit v tag on)) rest (branch_row v on (tag ∷ earlier) cs)
        (again p.0 p.0 own own (judge_of w false e) (judge_of v false r) (branch_fit w tag on) (branch_fit v tag on) first (own_nil p.0 own (judge_of w false e) (branch_fit w tag on) first)
        (judged_again h false (operands_nil p.0 own (judge_of w false e) (branch_fit w tag on) first)) (branch_by tag on))
        (branches_again hs on (tag ∷ earlier) (nil_right j.faults rest.faults f))
