-- Erasure keeps the demands: each grade is kept, and what an erased form demands is what the form did.
use Rattle.std.proofs.Common.{◌≡◌, ℕ, Bool, true, false, List, [], ◌∷◌, ◌++◌, map, refl, sym, ap, ◌∙◌, append-nil}
use Rattle.std.specs.Prelude.{Option, Some, None, is_some, if◌then◌else◌, filter_map}
use Rattle.std.specs.List.{flat_map, cons_option}
use Rattle.std.specs.Option.{option_map}
use Rattle.std.proofs.lemmas.List.Elements.{All-map, All-weaker}
use Rattle.hept_ast.specs.Texts.{Name}
use Rattle.hept_ast.specs.Parts.{Part, Block as Block_part, Plain, Switch as Switch_part, Reset as Reset_part, Automaton as Automaton_part, Transition, Placed, parts, seen_at, declaration, expressions}
use Rattle.hept_ast.specs.Initial.{Grades, grade, AreLeastGrades, unmet, unmet_row, unmet_branches, unmet_by, unmet_expr, unmet_decl, unmet_outside, unmet_part, unmet_in}
use Rattle.hept_ast.specs.Erasure.{erased_expr, erased_branch, erased_decl, erased_node}
use Rattle.hept_ast.specs.ErasedParts.{erased_part, erased_placed}
use Rattle.hept_ast.specs.declared.tree.Const.{Const}
use Rattle.hept_ast.specs.declared.tree.Tag.{Tag}
use Rattle.hept_ast.specs.declared.tree.UnaryOp.{UnaryOp}
use Rattle.hept_ast.specs.declared.tree.BinaryOp.{BinaryOp}
use Rattle.hept_ast.specs.declared.tree.Decl.{Decl}
use Rattle.hept_ast.specs.declared.tree.Expr.{Expr}
use Rattle.hept_ast.specs.declared.tree.MergeBranch.{MergeBranch}
use Rattle.hept_ast.specs.declared.tree.Node.{Node}
use Rattle.hept_ast.specs.declared.tree.Form.TheVariants as form
use Rattle.hept_ast.specs.declared.tree.Form.TheBlock.{hidden-the_row-Expr-2, hidden-the_row-MergeBranch-1}
use Rattle.hept_ast.proofs.Unfolded.{static}
use Rattle.hept_ast.proofs.ErasedGrades.{grade_kept}
use Rattle.hept_ast.proofs.ErasedPartsOf.{erased_keeps_parts, erased_keeps_least_grades}
use Rattle.erased_rules.specs.ErasedDemands.{ErasedKeepsDemands, ErasedKeepsInitialised}
use Rattle.erased_rules.proofs.Lists.{nil_left, nil_right, nil_both, flat_same, flat_nil}
use Rattle.erased_rules.proofs.Totals.{own_of, Step}
use Rattle.erased_rules.proofs.ErasedNodes.{node_nil, seen_same, declaration_same, init_same}

-- ---- what each form demands

branches_are : (g : Grades) (bs : List MergeBranch) → unmet_branches g (hidden-the_row-MergeBranch-1 bs) ≡ flat_map (λ b. unmet_expr g b.value) bs
unfolding static
branches_are g [] = refl
branches_are g (b ∷ bs) = ap (λ (l : List ℕ). unmet_expr g b.value ++ l) (branches_are g bs)

row_is : (g : Grades) (es : List Expr) → unmet_row g (hidden-the_row-Expr-2 es) ≡ flat_map (unmet_expr g) es
unfolding static
row_is g [] = refl
row_is g (e ∷ es) = ap (λ (l : List ℕ). unmet_expr g e ++ l) (row_is g es)

by-Fby : (g : Grades) (p : ℕ) (a b : Expr) → unmet_by g p (form.Fby a b) ≡ unmet_expr g b
unfolding static
by-Fby g p a b = append-nil (unmet_expr g b)

by-Pre : (g : Grades) (p : ℕ) (a : Expr) → unmet_by g p (form.Pre a) ≡ unmet_expr g a
unfolding static
by-Pre g p a = append-nil (unmet_expr g a)

by-When : (g : Grades) (p : ℕ) (a : Expr) (tag : Tag) (x : Name) → unmet_by g p (form.When a tag x) ≡ unmet p (g x)
unfolding static
by-When g p a tag x = refl

by-Merge : (g : Grades) (p : ℕ) (x : Name) (bs : List MergeBranch) → unmet_by g p (form.Merge x bs) ≡ unmet p (g x) ++ flat_map (λ b. unmet_expr g b.value) bs
unfolding static
by-Merge g p x bs = ap (λ (l : List ℕ). unmet p (g x) ++ l) (branches_are g bs)

by-Call : (g : Grades) (p : ℕ) (f : Name) (args : List Expr) → unmet_by g p (form.Call f args) ≡ flat_map (unmet_expr g) args
unfolding static
by-Call g p f args = row_is g args

by-AsyncCall : (g : Grades) (p q : ℕ) (f : Name) (args : List Expr) → unmet_by g p (form.AsyncCall q f args) ≡ flat_map (unmet_expr g) args
unfolding static
by-AsyncCall g p q f args = row_is g args

by-Const : (g : Grades) (p : ℕ) (k : Const) → unmet_by g p (form.Const k) ≡ []
unfolding static
by-Const g p k = refl

by-Var : (g : Grades) (p : ℕ) (x : Name) → unmet_by g p (form.Var x) ≡ []
unfolding static
by-Var g p x = refl

by-Last : (g : Grades) (p : ℕ) (x : Name) → unmet_by g p (form.Last x) ≡ []
unfolding static
by-Last g p x = refl

by-Unary : (g : Grades) (p : ℕ) (op : UnaryOp) (a : Expr) → unmet_by g p (form.Unary op a) ≡ []
unfolding static
by-Unary g p op a = refl

by-Binary : (g : Grades) (p : ℕ) (op : BinaryOp) (a b : Expr) → unmet_by g p (form.Binary op a b) ≡ []
unfolding static
by-Binary g p op a b = refl

by-If : (g : Grades) (p : ℕ) (c a b : Expr) → unmet_by g p (form.If c a b) ≡ []
unfolding static
by-If g p c a b = refl

by-Arrow : (g : Grades) (p : ℕ) (a b : Expr) → unmet_by g p (form.Arrow a b) ≡ []
unfolding static
by-Arrow g p a b = refl

-- ---- a demand of what has the same grade

unmet_same : (p q : ℕ) (b c : Bool) → c ≡ b → unmet p b ≡ [] → unmet q c ≡ []
unmet_same p q true true e h = cc
unmet_same p q false false e h = refl
unmet_same p q true false e h = refl
unmet_same p q false true e h = cc

expr_kept : (g : Grades) (e : Expr) → unmet_expr g e ≡ [] → unmet_expr g (erased_expr e) ≡ []
expr_kept g e h = unmet_same e.place.0 (erased_expr e).place.0 (grade g e.form) (grade g (erased_expr e).form) (grade_kept g e) h

demands_kept : (g : Grades) → Step (unmet_by g) (unmet_by g)
demands_kept g = record {
  on_const = λ p k h. h;
  on_var = λ p x h. h;
  on_last = λ p x h. h;
  on_unary = λ p op a h. by-Unary g p op (erased_expr a);
  on_binary = λ p op a b h. by-Binary g p op (erased_expr a) (erased_expr b);
  on_if = λ p c a b h. by-If g p (erased_expr c) (erased_expr a) (erased_expr b);
  on_fby = λ p a b h. by-Fby g p (erased_expr a) (erased_expr b) ∙ expr_kept g b (sym (by-Fby g p a b) ∙ h);
  on_pre = λ p a h. by-Pre g p (erased_expr a) ∙ expr_kept g a (sym (by-Pre g p a) ∙ h);
  on_arrow = λ p a b h. by-Arrow g p (erased_expr a) (erased_expr b);
  on_when = λ p a tag x h. by-When g p (erased_expr a) tag x ∙ sym (by-When g p a tag x) ∙ h;
  on_merge = λ p x bs h.
      let both : unmet p (g x) ++ flat_map (λ (b : MergeBranch). unmet_expr g b.value) bs ≡ [] = sym (by-Merge g p x bs) ∙ h in
      by-Merge g p x (map erased_branch bs)
      ∙ nil_both (unmet p (g x)) (flat_map (λ (b : MergeBranch). unmet_expr g b.value) (map erased_branch bs)) (nil_left (unmet p (g x)) (flat_map (λ (b : MergeBranch). unmet_expr g b.value) bs) both)
      (flat_nil (λ (b : MergeBranch). unmet_expr g b.value) erased_branch (λ (b : MergeBranch). unmet_expr g b.value) (λ b k. expr_kept g b.value k) bs
      (nil_right (unmet p (g x)) (flat_map (λ (b : MergeBranch). unmet_expr g b.value) bs) both));
  on_call = λ p f args h.
      by-Call g p f (map erased_expr args) ∙ flat_nil (unmet_expr g) erased_expr (unmet_expr g) (expr_kept g) args (sym (by-Call g p f args) ∙ h);
  on_async = λ p q f args h.
      by-Call g p f (map erased_expr args) ∙ flat_nil (unmet_expr g) erased_expr (unmet_expr g) (expr_kept g) args (sym (by-AsyncCall g p q f args) ∙ h);
  on_ready = λ p k h. by-Const g p k;
}

-- ---- what parts demand

found_same : (g : Grades) (d : Option Decl) (xs ys : List Decl) → flat_map (unmet_decl g) xs ≡ flat_map (unmet_decl g) ys →
    flat_map (unmet_decl g) (cons_option (option_map erased_decl d) xs) ≡ flat_map (unmet_decl g) (cons_option d ys)
found_same g None xs ys e = e
found_same g (Some d) xs ys e = ap (λ (l : List ℕ). unmet_decl g d ++ l) e

outside_kept : (g : Grades) (seen : List Decl) (xs : List Name) → unmet_outside g (map erased_decl seen) xs ≡ unmet_outside g seen xs
outside_kept g seen [] = refl
outside_kept g seen (x ∷ xs) =
    ap (λ (d : Option Decl). flat_map (unmet_decl g) (cons_option d (filter_map (declaration (map erased_decl seen)) xs))) (declaration_same seen x)
    ∙ found_same g (declaration seen x) (filter_map (declaration (map erased_decl seen)) xs) (filter_map (declaration seen) xs) (outside_kept g seen xs)

part_kept : (g : Grades) (seen : List Decl) (q : Part) → unmet_part g seen q ≡ [] → unmet_part g (map erased_decl seen) (erased_part q) ≡ []
part_kept g seen (Block_part ds equations) h =
    flat_same (λ (d : Decl). if is_some d.init then unmet_decl g d else []) erased_decl (λ (d : Decl). if is_some d.init then unmet_decl g d else [])
    (λ d. ap (λ (b : Bool). if b then unmet_decl g d else []) (init_same d)) ds ∙ h
part_kept g seen (Plain p left right) h = refl
part_kept g seen (Switch_part p on branches) h =
    let xs = flat_map (λ c. c.sets) branches in
    nil_both (unmet_expr g (erased_expr on)) (unmet_outside g (map erased_decl seen) xs) (expr_kept g on (nil_left (unmet_expr g on) (unmet_outside g seen xs) h))
    (outside_kept g seen xs ∙ nil_right (unmet_expr g on) (unmet_outside g seen xs) h)
part_kept g seen (Reset_part p every sets) h =
    nil_both (unmet_expr g (erased_expr every)) (unmet_outside g (map erased_decl seen) sets) (expr_kept g every (nil_left (unmet_expr g every) (unmet_outside g seen sets) h))
    (outside_kept g seen sets ∙ nil_right (unmet_expr g every) (unmet_outside g seen sets) h)
part_kept g seen (Automaton_part p states) h = outside_kept g seen (flat_map (λ c. c.sets) states) ∙ h
part_kept g seen (Transition strong states e) h = expr_kept g e.condition h

abbrev unmet_placed : Grades → Node → Placed → List ℕ
unmet_placed g n q = unmet_part g (seen_at n q.site) q.part

placed_kept : (g : Grades) (n : Node) (q : Placed) → unmet_placed g n q ≡ [] → unmet_placed g (erased_node n) (erased_placed q) ≡ []
placed_kept g n q h = ap (λ (seen : List Decl). unmet_part g seen (erased_part q.part)) (seen_same n q.site) ∙ part_kept g (seen_at n q.site) q.part h

pub erased_keeps_demands : ErasedKeepsDemands
erased_keeps_demands g n h =
    let a = flat_map (unmet_decl g) n.outputs in
    let b = flat_map (unmet_placed g n) (parts n) in
    let c = flat_map (own_of (unmet_by g)) (expressions n) in
    let ab : a ++ b ≡ [] = nil_left (a ++ b) c h in
    let m = erased_node n in
    let a' = flat_map (unmet_decl g) m.outputs in
    let b' = flat_map (unmet_placed g m) (parts m) in
    nil_both (a' ++ b') (flat_map (own_of (unmet_by g)) (expressions m))
    (nil_both a' b' (flat_same (unmet_decl g) erased_decl (unmet_decl g) (λ d. refl) n.outputs ∙ nil_left a b ab)
    (ap (flat_map (unmet_placed g m)) (erased_keeps_parts n) ∙ flat_nil (unmet_placed g m) erased_placed (unmet_placed g n) (placed_kept g n) (parts n) (nil_right a b ab)))
    (node_nil (unmet_by g) (unmet_by g) (demands_kept g) n (nil_right (a ++ b) c h))

abbrev Is : Node → Type 0
Is n = (g : Grades) × AreLeastGrades n g × (unmet_in g n ≡ [])

pub erased_keeps_initialised : ErasedKeepsInitialised
erased_keeps_initialised p h =
    All-map Is erased_node p.nodes
    (All-weaker Is (λ n. Is (erased_node n)) (λ n i. (i.0, erased_keeps_least_grades n i.0 i.1, erased_keeps_demands i.0 n i.2)) p.nodes h)
