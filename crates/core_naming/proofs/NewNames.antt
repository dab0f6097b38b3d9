-- The new name of a naming stands nowhere in the core.
use Rattle.std.proofs.Common.{◌≡◌, ◌==◌, true, false, List, [], ◌∷◌, ◌++◌, length, refl, sym, ap, subst, ◌∙◌, All, Option, Some, None}
use Rattle.std.specs.List.{flat_map}
use Rattle.std.proofs.lemmas.Bool.{false≢true}
use Rattle.std.proofs.lemmas.List.Elements.{All-head}
use Rattle.hept_ast.specs.Texts.{Name, names}
use Rattle.hept_ast.specs.Faults.{Judging, judge, judge_expr, left_types, pair_types, type_of_variable}
use Rattle.hept_ast.specs.declared.tree.Core.{Core}
use Rattle.hept_ast.specs.declared.tree.CoreNode.{CoreNode}
use Rattle.hept_ast.specs.declared.tree.CoreEquation.{CoreEquation}
use Rattle.hept_ast.specs.declared.tree.Ty.{Ty}
use Rattle.hept_ast.specs.declared.tree.Expr.{Expr}
use Rattle.hept_ast.specs.declared.tree.MergeBranch.{MergeBranch}
use Rattle.hept_ast.specs.declared.tree.Form.{Form, out-Form}
use Rattle.hept_ast.specs.declared.tree.Form.TheOpen.{Form-F}
use Rattle.hept_ast.specs.declared.tree.Form.TheVariants as form
use Rattle.core_rules.specs.Cores.{core_decls, core_judging}
use Rattle.core_rules.specs.WellFormed.{IsTypedEquation, IsWellFormedNode, IsWellFormed}
use Rattle.core_naming.specs.Names.{IsNaming, equation_names, node_names}
use Rattle.core_naming.specs.Ties.{clock_names}
use Rattle.core_naming.proofs.Mentions.{NotIn, not_left, not_right, not_tail, not_flat, by_view}
use Rattle.core_naming.proofs.TiedForms.{IsNoGet}
use Rattle.core_naming.proofs.TiedTexts.{IsQuietEquation, IsQuietNode, IsQuiet, all_right}
use Rattle.core_naming.proofs.Judged.{not_declared, faultless_free, one_of_get}

equation_is_quiet : (core : Core) (x : Name) (node : CoreNode) (e : CoreEquation) → NotIn x (names (core_decls node)) → IsTypedEquation core node e → NotIn x (equation_names e) → IsQuietEquation x e
equation_is_quiet core x node e h k l = record {
  left = not_left x e.left (clock_names e.clock.steps) (not_left x (e.left ++ clock_names e.clock.steps) e.resets l);
  clock = not_right x e.left (clock_names e.clock.steps) (not_left x (e.left ++ clock_names e.clock.steps) e.resets l);
  resets = not_right x (e.left ++ clock_names e.clock.steps) e.resets l;
  right = faultless_free (core_judging core node) x (not_declared x (core_decls node) h) e.right k.faults;
}

node_is_quiet : (core : Core) (x : Name) (node : CoreNode) → IsWellFormedNode core node → NotIn x (node_names node) → IsQuietNode x node
node_is_quiet core x node h k =
    let decls = not_tail x node.name (names (core_decls node)) (not_left x (node.name ∷ names (core_decls node)) (flat_map equation_names node.equations) k) in
    let equations = not_flat x equation_names node.equations (not_right x (node.name ∷ names (core_decls node)) (flat_map equation_names node.equations) k) in
    record { decls = decls; equations = λ i d l. equation_is_quiet core x node _ decls (h.typed i d l) (equations i d l) }

-- ---- left sides of one name

left_is_one : (w : Judging) (left : List Name) (t : Ty) → left_types w left ≡ Some (t ∷ []) → (length left == 1) ≡ true
left_is_one w [] t e = cc
left_is_one w (x ∷ []) t e = refl
left_is_one w (x ∷ y ∷ ys) t e = go (type_of_variable w x) (type_of_variable w y) (left_types w ys) e
  where
    go : (a b : Option Ty) (cs : Option (List Ty)) → pair_types a (pair_types b cs) ≡ Some (t ∷ []) → (length (x ∷ y ∷ ys) == 1) ≡ true
    go None b cs h = cc
    go (Some a) None cs h = cc
    go (Some a) (Some b) None h = cc
    go (Some a) (Some b) (Some cs) h = cc

module _ (core other : Core) (n : IsNaming core other) (formed : IsWellFormed core) where
  moved_node : IsWellFormedNode core n.node
  moved_node =
      All-head (IsWellFormedNode core) n.node n.back
      (all_right (IsWellFormedNode core) n.front (n.node ∷ n.back) (subst (λ (ms : List CoreNode). All (IsWellFormedNode core) ms) n.nodes formed))

  equation_typed : IsTypedEquation core n.node n.step.equation
  equation_typed =
      All-head (IsTypedEquation core n.node) n.step.equation n.step.back
      (all_right (IsTypedEquation core n.node) n.step.front (n.step.equation ∷ n.step.back)
      (subst (λ (es : List CoreEquation). All (IsTypedEquation core n.node) es) n.step.equations moved_node.typed))

  -- a left side of several names has no one type
  no_one_type : (length n.step.equation.left == 1) ≡ false → (t : Ty) → equation_typed.types ≡ t ∷ [] → ⊥
  no_one_type several t e =
      false≢true (sym several ∙ left_is_one (core_judging core n.node) n.step.equation.left t (equation_typed.left ∙ ap Some e))

  is_several : (length n.step.equation.left == 1) ≡ false → (n.step.equation.right ≡ n.a → ⊥) × IsNoGet (out-Form n.step.equation.right.form)
  is_several several = (
    λ e. no_one_type several n.t (same_some _ _ (sym equation_typed.right ∙ ap (λ (a : Expr). (judge_expr (core_judging core n.node) a).types) e ∙ n.typed)),
    go (out-Form n.step.equation.right.form) refl,
  )
    where
      same_some : (us ts : List Ty) → Some us ≡ Some ts → us ≡ ts
      same_some us ts e = cc

      go : (f : Form-F Form Expr MergeBranch) → out-Form n.step.equation.right.form ≡ f → IsNoGet f
      go (Form-F.Get a) o =
          let e = by_view n.step.equation.right.form (Form-F.Get a) (form.Get a) o (form.rolls-Get a) in
          let (t, k) = one_of_get (core_judging core n.node) false n.step.equation.right.place.0 a equation_typed.types refl
          (subst (λ (f : Form). (judge (core_judging core n.node) false n.step.equation.right.place.0 f).types ≡ Some equation_typed.types) e equation_typed.right) in
          no_one_type several t k
      go (Form-F.Const k) o = tt
      go (Form-F.Var y) o = tt
      go (Form-F.Last y) o = tt
      go (Form-F.Unary op a) o = tt
      go (Form-F.Binary op a b) o = tt
      go (Form-F.If i a b) o = tt
      go (Form-F.Fby a b) o = tt
      go (Form-F.Pre a) o = tt
      go (Form-F.Arrow a b) o = tt
      go (Form-F.When a tag y) o = tt
      go (Form-F.Merge y bs) o = tt
      go (Form-F.Call f args) o = tt
      go (Form-F.AsyncCall q f args) o = tt
      go (Form-F.AsyncConst k) o = tt

  node_free : All (λ m. NotIn n.x (node_names m)) core.nodes
  node_free = not_flat n.x node_names core.nodes (not_right n.x (flat_map (λ d. d.name ∷ d.constructors) core.types) (flat_map node_names core.nodes) n.new.fresh)

  pub naming_is_quiet : IsQuiet core other n
  naming_is_quiet = record {
    nodes = λ i d l. node_is_quiet core n.x _ (formed i d l) (node_free i d l);
    several = is_several;
  }
