-- An expression that does not mention a variable is judged alike whether or not that variable is declared.
use Rattle.std.proofs.Common.{◌≡◌, ℕ, Bool, true, false, ◌&&◌, if◌then◌else◌, List, [], ◌∷◌, ◌++◌, map, refl, sym, ap, ◌∙◌, Option, Some, None}
use Rattle.std.specs.Prelude.{is_some, not}
use Rattle.std.specs.List.{flat_map, list_any}
use Rattle.std.specs.Option.{option_map, option_map_or}
use Rattle.std.proofs.lemmas.Bool.{or_parts}
use Rattle.hept_ast.specs.Texts.{Name, same, is_in}
use Rattle.hept_ast.specs.Parts.{declaration}
use Rattle.hept_ast.specs.Types.{Fit, Fits, Misfit, Plain_type, alike, async_fit, binary_fit, divides, get_fit, has_tags, if_fit, same_tag, type_of_const, type_of_tag, unary_fit}
use Rattle.hept_ast.specs.Faults.{Duplicate, Fault, FutureKept, Judged, Judging, NestedAsync, UnknownName, ZeroDivisor, async_nodes, barred, both, branch_fit, call_judged, const_judged, fault, is_kept, is_nonzero, judged, judged_by, lack_faults, last_judged, left_types, merge_fit, nested, no_operands, node_named, pair_types, read_faults, tag_fits, type_of_variable, unknown_tag, unknown_variable, var_judged, when_fit, with_operand}
use Rattle.hept_ast.specs.declared.tree.Decl.{Decl}
use Rattle.hept_ast.specs.declared.tree.Node.{Node}
use Rattle.hept_ast.specs.declared.tree.Tag.{Tag}
use Rattle.hept_ast.specs.declared.tree.Ty.{Ty}
use Rattle.hept_ast.specs.declared.tree.Ty.TheVariants as ty
use Rattle.hept_ast.specs.declared.tree.TypeDec.{TypeDec}
use Rattle.hept_ast.specs.declared.tree.Expr.{Expr}
use Rattle.hept_ast.specs.declared.tree.MergeBranch.{MergeBranch}
use Rattle.hept_ast.proofs.JudgeOf.{judge_of, one, row, branch_row, judge-Const, judge-Var, judge-Last, judge-Unary, judge-Binary, judge-If, judge-Fby, judge-Pre, judge-Arrow, judge-When, judge-Merge, judge-Call, judge-AsyncCall, judge-AsyncConst, judge-Get}
use Rattle.core_naming.specs.Ties.{mentions}
use Rattle.naming_rules.proofs.Shapes.{Each, Cases, by_forms}
use Rattle.naming_rules.proofs.Names.{out_left, out_right}
use Rattle.naming_rules.proofs.MentionsOf.{mentions_Var, mentions_Last, mentions_Unary, mentions_Binary, mentions_If, mentions_Fby, mentions_Pre, mentions_Arrow, mentions_When, mentions_Merge, mentions_Call, mentions_AsyncCall, mentions_Get}
use Rattle.naming_rules.proofs.CallsAlike.{AlikeNodes, called_alike, judging_in}

pub and_false : (b : Bool) → b && false ≡ false
and_false true = refl
and_false false = refl

-- where no node is called by async, nothing is kept
pub kept_none : (w : Judging) → async_nodes w.nodes ≡ [] → (y : Name) (t : Ty) → is_kept w y t ≡ false
kept_none w e y t = rw e (and_false _)

pub nested_none : (w : Judging) → async_nodes w.nodes ≡ [] → nested w ≡ false
nested_none w e = rw e refl

module _ (types : List TypeDec) (ns ms : List Node) (alike_nodes : AlikeNodes ns ms) (none : async_nodes ns ≡ []) (no : async_nodes ms ≡ []) (n m : Node) (name : m.name ≡ n.name)
    (ds es : List Decl) (x : Name) (seen : (y : Name) → same x y ≡ false → declaration es y ≡ declaration ds y) where
  abbrev w : Judging
  w = judging_in types ns n ds

  abbrev v : Judging
  v = judging_in types ms m es

  kept_same : (y : Name) (t : Ty) → is_kept v y t ≡ is_kept w y t
  kept_same y t = kept_none v no y t ∙ sym (kept_none w none y t)

  pub type_same : (y : Name) → same x y ≡ false → type_of_variable v y ≡ type_of_variable w y
  type_same y f = ap (option_map (λ (d : Decl). d.ty)) (seen y f)

  pub left_same : (ys : List Name) → is_in x ys ≡ false → left_types v ys ≡ left_types w ys
  left_same [] f = refl
  left_same (y ∷ ys) f =
      let q = or_parts (same x y) (is_in x ys) f in
      ap (λ (t : Option Ty). pair_types t (left_types v ys)) (type_same y q.0) ∙ ap (λ (ts : Option (List Ty)). pair_types (type_of_variable w y) ts) (left_same ys q.1)

  const_same : (p : ℕ) (o : Option Plain_type) (give : Plain_type → Ty) → const_judged v p o give ≡ const_judged w p o give
  const_same p None give = refl
  const_same p (Some t) give = refl

  var_by : (p : ℕ) (under : Bool) (y : Name) (o : Option Ty) → var_judged v p under y o ≡ var_judged w p under y o
  var_by p under y None = refl
  var_by p under y (Some t) = ap (λ (b : Bool). judged_by p (fault p FutureKept (not under && b)) (Fits (t ∷ []))) (kept_same y t)

  last_by : (p : ℕ) (o : Option Decl) → last_judged v p o ≡ last_judged w p o
  last_by p None = refl
  last_by p (Some d) = refl

  tag_by : (o : Option Plain_type) (t : Ty) → tag_fits v o t ≡ tag_fits w o t
  tag_by None t = refl
  tag_by (Some s) t = refl

  when_by : (tag : Tag) (o : Option Ty) (ts : List (List Ty)) → when_fit v tag o ts ≡ when_fit w tag o ts
  when_by tag None ts = refl
  when_by tag (Some on) ts = ap (λ (b : Bool). if b && has_tags on then alike ts else Misfit) (tag_by (type_of_tag types tag) on)

  merge_by : (o : Option Ty) (ts : List (List Ty)) → merge_fit v o ts ≡ merge_fit w o ts
  merge_by None ts = refl
  merge_by (Some on) ts = refl

  branch_by : (tag : Tag) (o : Option Ty) (ts : List Ty) → branch_fit v tag o ts ≡ branch_fit w tag o ts
  branch_by tag None ts = refl
  branch_by tag (Some on) ts = ap (λ (b : Bool). if b then Fits ts else Misfit) (tag_by (type_of_tag types tag) on)

  lack_by : (p : ℕ) (given : List Tag) (o : Option Ty) → lack_faults v p given o ≡ lack_faults w p given o
  lack_by p given None = refl
  lack_by p given (Some on) = refl

  kept_by : (y : Name) (o : Option Ty) → option_map_or (is_kept v y) o false ≡ option_map_or (is_kept w y) o false
  kept_by y None = refl
  kept_by y (Some t) = kept_same y t

  read_same : (p : ℕ) (y : Name) → same x y ≡ false → read_faults v p y ≡ read_faults w p y
  read_same p y f =
      ap (λ (d : Option Decl). fault p UnknownName (not (is_some d)) ++ fault p FutureKept (option_map_or (is_kept v y) (type_of_variable v y) false)) (seen y f)
      ∙ ap (λ (b : Bool). unknown_variable w p y ++ fault p FutureKept b) (ap (λ (t : Option Ty). option_map_or (is_kept v y) t false) (type_same y f) ∙ kept_by y (type_of_variable w y))

  abbrev Same : Expr → Type 0
  Same e = (under : Bool) → is_in x (mentions e) ≡ false → judge_of v under e ≡ judge_of w under e

  one_same : (under : Bool) (a : Expr) → judge_of v under a ≡ judge_of w under a → one v under a ≡ one w under a
  one_same under a e = ap (λ (j : Judged (List Ty)). with_operand j no_operands) e

  two_same : (a b : Expr) → Same a → Same b → is_in x (mentions a ++ mentions b) ≡ false → both (one v false a) (one v false b) ≡ both (one w false a) (one w false b)
  two_same a b i j f =
      ap (λ (k : Judged (List (List Ty))). both k (one v false b)) (one_same false a (i false (out_left x (mentions a) (mentions b) f)))
      ∙ ap (λ (k : Judged (List (List Ty))). both (one w false a) k) (one_same false b (j false (out_right x (mentions a) (mentions b) f)))

  row_same : (args : List Expr) → Each Same args → is_in x (flat_map mentions args) ≡ false → row v false args ≡ row w false args
  row_same [] i f = refl
  row_same (e ∷ es) i f =
      ap (λ (j : Judged (List Ty)). with_operand j (row v false es)) (i.0 false (out_left x (mentions e) (flat_map mentions es) f))
      ∙ ap (λ (k : Judged (List (List Ty))). with_operand (judge_of w false e) k) (row_same es i.1 (out_right x (mentions e) (flat_map mentions es) f))

  branches_same : (on : Option Ty) (earlier : List Tag) (bs : List MergeBranch) → Each (λ b. Same b.value) bs → is_in x (flat_map (λ b. mentions b.value) bs) ≡ false → branch_row v on earlier bs ≡ branch_row w on earlier bs
  branches_same on earlier [] i f = refl
  branches_same on earlier (b ∷ bs) i f =
      let own = fault b.place.0 UnknownName (unknown_tag w b.tag) ++ fault b.place.0 Duplicate (list_any (same_tag b.tag) earlier) in
      ap (λ (j : Judged (List Ty)). with_operand (judged b.place.0 own j (branch_fit v b.tag on)) (branch_row v on (b.tag ∷ earlier) bs))
      (i.0 false (out_left x (mentions b.value) (flat_map (λ (b : MergeBranch). mentions b.value) bs) f))
      ∙ ap (λ (fit : List Ty → Fit). with_operand (judged b.place.0 own (judge_of w false b.value) fit) (branch_row v on (b.tag ∷ earlier) bs)) (λ k. λ ts. branch_by b.tag on ts k)
      ∙ ap (λ (k : Judged (List (List Ty))). with_operand (judged b.place.0 own (judge_of w false b.value) (branch_fit w b.tag on)) k)
      (branches_same on (b.tag ∷ earlier) bs i.1 (out_right x (mentions b.value) (flat_map (λ (b : MergeBranch). mentions b.value) bs) f))

  free : (ls ks : List Name) → ls ≡ ks → is_in x ls ≡ false → is_in x ks ≡ false
  free ls ks e f = ap (is_in x) (sym e) ∙ f

  same_cases : Cases Same
  same_cases = record {
    of_const = λ p k under f. judge-Const v under p.0 k ∙ const_same p.0 (type_of_const types k) ty.Plain ∙ sym (judge-Const w under p.0 k);
    of_var = λ p y under f. judge-Var v under p.0 y
        ∙ ap (var_judged v p.0 under y) (type_same y (or_parts (same x y) false (free _ (y ∷ []) (mentions_Var p y) f)).0) ∙ var_by p.0 under y (type_of_variable w y) ∙ sym (judge-Var w under p.0 y);
    of_last = λ p y under f. judge-Last v under p.0 y
        ∙ ap (last_judged v p.0) (seen y (or_parts (same x y) false (free _ (y ∷ []) (mentions_Last p y) f)).0) ∙ last_by p.0 (declaration ds y) ∙ sym (judge-Last w under p.0 y);
    of_unary = λ p op a i under f. judge-Unary v under p.0 op a
        ∙ ap (λ (k : Judged (List (List Ty))). judged p.0 [] k (unary_fit op)) (one_same false a (i false (free _ (mentions a) (mentions_Unary p op a) f))) ∙ sym (judge-Unary w under p.0 op a);
    of_binary = λ p op a b i j under f. judge-Binary v under p.0 op a b
        ∙ ap (λ (k : Judged (List (List Ty))). judged p.0 (fault p.0 ZeroDivisor (divides op && not (is_nonzero b.form && true))) k (binary_fit op)) (two_same a b i j (free _ (mentions a ++ mentions b) (mentions_Binary p op a b) f))
        ∙ sym (judge-Binary w under p.0 op a b);
    of_if = λ p c a b l i j under f.
        let g = free _ (mentions c ++ mentions a ++ mentions b) (mentions_If p c a b) f in
        let first = out_left x (mentions c ++ mentions a) (mentions b) g in
        judge-If v under p.0 c a b
        ∙ ap (λ (k : Judged (List (List Ty))). judged p.0 [] (both k (both (one v false a) (one v false b))) if_fit) (one_same false c (l false (out_left x (mentions c) (mentions a) first)))
        ∙ ap (λ (k : Judged (List (List Ty))). judged p.0 [] (both (one w false c) (both k (one v false b))) if_fit) (one_same false a (i false (out_right x (mentions c) (mentions a) first)))
        ∙ ap (λ (k : Judged (List (List Ty))). judged p.0 [] (both (one w false c) (both (one w false a) k)) if_fit) (one_same false b (j false (out_right x (mentions c ++ mentions a) (mentions b) g)))
        ∙ sym (judge-If w under p.0 c a b);
    of_fby = λ p a b i j under f. judge-Fby v under p.0 a b
        ∙ ap (λ (k : Judged (List (List Ty))). judged p.0 [] k (λ ts. barred w (alike ts))) (two_same a b i j (free _ (mentions a ++ mentions b) (mentions_Fby p a b) f)) ∙ sym (judge-Fby w under p.0 a b);
    of_pre = λ p a i under f. judge-Pre v under p.0 a
        ∙ ap (λ (k : Judged (List (List Ty))). judged p.0 [] k (λ ts. barred w (alike ts))) (one_same false a (i false (free _ (mentions a) (mentions_Pre p a) f))) ∙ sym (judge-Pre w under p.0 a);
    of_arrow = λ p a b i j under f. judge-Arrow v under p.0 a b
        ∙ ap (λ (k : Judged (List (List Ty))). judged p.0 [] k (λ ts. barred w (alike ts))) (two_same a b i j (free _ (mentions a ++ mentions b) (mentions_Arrow p a b) f)) ∙ sym (judge-Arrow w under p.0 a b);
    of_when = λ p a tag y i under f.
        let q = or_parts (same x y) (is_in x (mentions a)) (free _ (y ∷ mentions a) (mentions_When p a tag y) f) in
        judge-When v under p.0 a tag y
        ∙ ap (λ (fs : List Fault). judged p.0 (fs ++ fault p.0 UnknownName (unknown_tag w tag)) (one v false a) (when_fit v tag (type_of_variable v y))) (read_same p.0 y q.0)
        ∙ ap (λ (k : Judged (List (List Ty))). judged p.0 (read_faults w p.0 y ++ fault p.0 UnknownName (unknown_tag w tag)) k (when_fit v tag (type_of_variable v y))) (one_same false a (i false q.1))
        ∙ ap (λ (fit : List (List Ty) → Fit). judged p.0 (read_faults w p.0 y ++ fault p.0 UnknownName (unknown_tag w tag)) (one w false a) fit)
        (ap (λ (o : Option Ty). when_fit v tag o) (type_same y q.0) ∙ (λ k. λ ts. when_by tag (type_of_variable w y) ts k))
        ∙ sym (judge-When w under p.0 a tag y);
    of_merge = λ p y bs i under f.
        let q = or_parts (same x y) (is_in x (flat_map (λ (b : MergeBranch). mentions b.value) bs)) (free _ (y ∷ flat_map (λ b. mentions b.value) bs) (mentions_Merge p y bs) f) in
        let on = type_of_variable w y in
        let given = map (λ (b : MergeBranch). b.tag) bs in
        judge-Merge v under p.0 y bs
        ∙ ap (λ (o : Option Ty). judged p.0 (read_faults v p.0 y ++ lack_faults v p.0 given o) (branch_row v o [] bs) (merge_fit v o)) (type_same y q.0)
        ∙ ap (λ (fs : List Fault). judged p.0 (fs ++ lack_faults v p.0 given on) (branch_row v on [] bs) (merge_fit v on)) (read_same p.0 y q.0)
        ∙ ap (λ (fs : List Fault). judged p.0 (read_faults w p.0 y ++ fs) (branch_row v on [] bs) (merge_fit v on)) (lack_by p.0 given on)
        ∙ ap (λ (k : Judged (List (List Ty))). judged p.0 (read_faults w p.0 y ++ lack_faults w p.0 given on) k (merge_fit v on)) (branches_same on [] bs i q.1)
        ∙ ap (λ (fit : List (List Ty) → Fit). judged p.0 (read_faults w p.0 y ++ lack_faults w p.0 given on) (branch_row w on [] bs) fit) (λ k. λ ts. merge_by on ts k)
        ∙ sym (judge-Merge w under p.0 y bs);
    of_call = λ p g args i under f. judge-Call v under p.0 g args
        ∙ ap (λ (k : Judged (List (List Ty))). call_judged v p.0 (node_named ms g) [] (λ h. h) k) (row_same args i (free _ (flat_map mentions args) (mentions_Call p g args) f))
        ∙ called_alike types ns ms alike_nodes n m name ds es p.0 g [] (λ h. h) (row w false args)
        ∙ sym (judge-Call w under p.0 g args);
    of_async = λ p q g args i under f. judge-AsyncCall v under p.0 q g args
        ∙ ap (λ (k : Judged (List (List Ty))). call_judged v p.0 (node_named ms g) (fault p.0 NestedAsync (nested v)) async_fit k) (row_same args i (free _ (flat_map mentions args) (mentions_AsyncCall p q g args) f))
        ∙ called_alike types ns ms alike_nodes n m name ds es p.0 g (fault p.0 NestedAsync (nested v)) async_fit (row w false args)
        ∙ ap (λ (b : Bool). call_judged w p.0 (node_named ns g) (fault p.0 NestedAsync b) async_fit (row w false args)) (nested_none v no ∙ sym (nested_none w none))
        ∙ sym (judge-AsyncCall w under p.0 q g args);
    of_ready = λ p k under f. judge-AsyncConst v under p.0 k
        ∙ ap (λ (j : Judged (List Ty)). judged p.0 [] j (λ ts. barred w (Fits ts))) (const_same p.0 (type_of_const types k) ty.Future) ∙ sym (judge-AsyncConst w under p.0 k);
    of_get = λ p a i under f. judge-Get v under p.0 a
        ∙ ap (λ (k : Judged (List (List Ty))). judged p.0 [] k (λ ts. barred w (get_fit ts))) (one_same true a (i true (free _ (mentions a) (mentions_Get p a) f))) ∙ sym (judge-Get w under p.0 a);
  }

  pub judged_alike : (e : Expr) (under : Bool) → is_in x (mentions e) ≡ false → judge_of v under e ≡ judge_of w under e
  judged_alike e under f = by_forms Same same_cases e under f
