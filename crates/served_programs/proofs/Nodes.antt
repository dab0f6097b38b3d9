-- Which nodes are served, by the lists of what they hold.
use Rattle.std.proofs.Common.{◌≡◌, Bool, true, false, List, [], ◌∷◌, length, map, refl, sym, subst}
use Rattle.std.specs.Prelude.{◌↔◌, All, IsTrue}
use Rattle.std.proofs.lemmas.List.Elements.{All-nil, All-cons, All-head, All-tail, All-map}
use Rattle.hept_ast.specs.Parts.{expressions, variables}
use Rattle.hept_ast.specs.declared.tree.Decl.{Decl}
use Rattle.hept_ast.specs.declared.tree.Equation.{Equation, out-Equation}
use Rattle.hept_ast.specs.declared.tree.Expr.{Expr}
use Rattle.hept_ast.specs.declared.tree.Form.{out-Form}
use Rattle.hept_ast.specs.declared.tree.Node.{Node}
use Rattle.served_programs.specs.Served.{IsPlainDecl, IsServedEquation, IsServedNode, is_served_form}

abbrev IsServedExpr : Expr → Type 0
IsServedExpr e = IsTrue (is_served_form (out-Form e.form))

-- what holds of all that a list is seen as
seen_as : {X Y : Type 0} (P : X → Type 0) (f : Y → X) (ys : List Y) → All P (map f ys) → All (λ y. P (f y)) ys
seen_as P f [] h = All-nil (λ y. P (f y))
seen_as P f (y ∷ ys) h = All-cons (λ y. P (f y)) y ys (All-head P (f y) (map f ys) h) (seen_as P f ys (All-tail P (f y) (map f ys) h))

refuted : {A : Type 0} (r : Bool) → r ≡ false → (A → r ≡ true) → A → ⊥
refuted r e h a = absurd (let g = h a in cc)

pub without_equations : (node : Node) (body : List Equation) (r : Bool) → body ≡ node.block.body → r ≡ false → (IsTrue r ↔ All (λ e. IsServedEquation (out-Equation e)) body) →
    IsTrue false ↔ IsServedNode node
without_equations node body r same e h = (
  λ t. absurd (cc),
  λ n. absurd (refuted r e h.1 (subst (All (λ e. IsServedEquation (out-Equation e))) (sym same) n.equations)),
)

pub without_forms : {Y : Type 0} (node : Node) (f : Y → Expr) (ys : List Y) (r : Bool) → map f ys ≡ expressions node → r ≡ false →
    (IsTrue r ↔ All (λ y. IsTrue (is_served_form (out-Form (f y).form))) ys) → IsTrue false ↔ IsServedNode node
without_forms node f ys r same e h = (
  λ t. absurd (cc),
  λ n. absurd (refuted r e h.1 (seen_as IsServedExpr f ys (subst (All IsServedExpr) (sym same) n.forms))),
)

pub by_plain : {Y Z : Type 0} (node : Node) (body : List Equation) (f : Y → Expr) (ys : List Y) (g : Z → Decl) (zs : List Z) (a b r : Bool) → body ≡ node.block.body →
    map f ys ≡ expressions node → map g zs ≡ variables node → a ≡ true → b ≡ true → (IsTrue a ↔ All (λ e. IsServedEquation (out-Equation e)) body) →
    (IsTrue b ↔ All (λ y. IsTrue (is_served_form (out-Form (f y).form))) ys) → (IsTrue r ↔ All (λ z. IsPlainDecl (g z)) zs) → IsTrue r ↔ IsServedNode node
by_plain node body f ys g zs a b r body_is exprs_are decls_are a_true b_true equations forms plain = (
  λ t. record {
    equations = subst (All (λ e. IsServedEquation (out-Equation e))) body_is (equations.0 a_true);
    forms = subst (All IsServedExpr) exprs_are (All-map IsServedExpr f ys (forms.0 b_true));
    plain = subst (All IsPlainDecl) decls_are (All-map IsPlainDecl g zs (plain.0 t));
  },
  λ n. plain.1 (seen_as IsPlainDecl g zs (subst (All IsPlainDecl) (sym decls_are) n.plain)),
)

-- ---- all nodes, one after another

pub not_this : {X : Type 0} (P : X → Type 0) (all xs rest : List X) (x : X) (b : Bool) → (All P xs ↔ All P all) → xs ≡ x ∷ rest → b ≡ false → (IsTrue b ↔ P x) → IsTrue false ↔ All P all
not_this P all xs rest x b h e f k = (λ t. absurd (cc), λ a. absurd (refuted b f k.1 (All-head P x rest (subst (All P) e (h.1 a)))))

pub and_next : {X : Type 0} (P : X → Type 0) (all xs rest : List X) (x : X) (b : Bool) → (All P xs ↔ All P all) → xs ≡ x ∷ rest → b ≡ true → (IsTrue b ↔ P x) → All P rest ↔ All P all
and_next P all xs rest x b h e f k =
    (λ r. h.0 (subst (All P) (sym e) (All-cons P x rest (k.0 f) r)), λ a. All-tail P x rest (subst (All P) e (h.1 a)))

pub to_the_end : {X : Type 0} (P : X → Type 0) (all xs : List X) → (All P xs ↔ All P all) → length xs ≡ 0 → IsTrue true ↔ All P all
to_the_end P all [] h e = (λ t. h.0 (All-nil P), λ a. refl)
to_the_end P all (x ∷ xs) h e = absurd (cc)
