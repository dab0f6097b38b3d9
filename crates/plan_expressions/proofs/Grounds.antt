-- What the operands of an expression need of the ground.
use Rattle.std.proofs.Common.{◌≡◌, ℕ, ◌-◌, List, ◌∷◌, length, take, Some, sym, subst}
use Rattle.std.specs.Prelude.{slice_get}
use Rattle.hept_ast.specs.Texts.{Name}
use Rattle.hept_ast.specs.Scopes.{Clock, Scope}
use Rattle.hept_ast.specs.declared.tree.CoreNode.{CoreNode}
use Rattle.hept_ast.specs.declared.tree.Tag.{Tag}
use Rattle.hept_ast.specs.declared.tree.UnaryOp.{UnaryOp}
use Rattle.hept_ast.specs.declared.tree.BinaryOp.{BinaryOp}
use Rattle.hept_ast.specs.declared.tree.Expr.{Expr}
use Rattle.hept_ast.specs.declared.tree.MergeBranch.{MergeBranch}
use Rattle.hept_ast.specs.declared.tree.Form.{Form, out-Form}
use Rattle.hept_ast.specs.declared.tree.Form.TheOpen.{Form-F}
use Rattle.hept_ast.specs.declared.tree.Form.TheVariants as form
use Rattle.step_plans.specs.Plans.{Ground, Covers}
use Rattle.step_plans.proofs.FormsOut.{const_form, var_form, unary_form, binary_form, if_form}
use Rattle.plan_expressions.specs.Grounded.{Grounded, constant, variable, unary, binary, conditional, sampled, merged, AreGrounded, more, IsTested, branch_clock}
use Rattle.plan_expressions.proofs.FormsMore.{when_form, merge_form}

module _ (g : Ground) (node : CoreNode) (b s : Scope) where
  pub record IsMerge (c : Clock) (x : Name) (branches : List MergeBranch) : Type 0 where
    pub tested : IsTested g node b s c x
    pub place : ℕ
    pub covered : slice_get g.covered place ≡ Some (Covers x s branches)
    pub branches_are : AreGrounded g node b s c x branches

  abbrev AreGroundedIn : Clock → Form-F Form Expr MergeBranch → Type 0
  AreGroundedIn c (Form-F.Unary op a) = Grounded g node b s c a
  AreGroundedIn c (Form-F.Binary op a d) = Grounded g node b s c a × Grounded g node b s c d
  AreGroundedIn c (Form-F.If k a d) = Grounded g node b s c k × Grounded g node b s c a × Grounded g node b s c d
  AreGroundedIn c (Form-F.When a tag x) = Grounded g node b s (take (length c - 1) c) a
  AreGroundedIn c (Form-F.Merge x branches) = IsMerge c x branches
  AreGroundedIn c _ = Unit {0}

  grounded_operands : (c : Clock) (e : Expr) → Grounded g node b s c e → AreGroundedIn c (out-Form e.form)
  grounded_operands c e (constant k is) = subst (AreGroundedIn c) (sym (const_form e k is)) tt
  grounded_operands c e (variable x is) = subst (AreGroundedIn c) (sym (var_form e x is)) tt
  grounded_operands c e (unary op a is h) = subst (AreGroundedIn c) (sym (unary_form e op a is)) h
  grounded_operands c e (binary op a d is h k) = subst (AreGroundedIn c) (sym (binary_form e op a d is)) (h, k)
  grounded_operands c e (conditional k a d is h m n) = subst (AreGroundedIn c) (sym (if_form e k a d is)) (h, m, n)
  grounded_operands c e (sampled a tag x is h) = subst (AreGroundedIn c) (sym (when_form e a tag x is)) h
  grounded_operands c e (merged x branches place is tested covered h) =
      subst (AreGroundedIn c) (sym (merge_form e x branches is)) (record { tested = tested; place = place; covered = covered; branches_are = h })

  module _ (c : Clock) (e : Expr) where
    pub unary_ground : (op : UnaryOp) (a : Expr) → e.form ≡ form.Unary op a → Grounded g node b s c e → Grounded g node b s c a
    unary_ground op a is h = subst (AreGroundedIn c) (unary_form e op a is) (grounded_operands c e h)

    pub binary_ground : (op : BinaryOp) (a d : Expr) → e.form ≡ form.Binary op a d → Grounded g node b s c e → Grounded g node b s c a × Grounded g node b s c d
    binary_ground op a d is h = subst (AreGroundedIn c) (binary_form e op a d is) (grounded_operands c e h)

    pub if_ground : (k a d : Expr) → e.form ≡ form.If k a d → Grounded g node b s c e → Grounded g node b s c k × Grounded g node b s c a × Grounded g node b s c d
    if_ground k a d is h = subst (AreGroundedIn c) (if_form e k a d is) (grounded_operands c e h)

    pub when_ground : (a : Expr) (tag : Tag) (x : Name) → e.form ≡ form.When a tag x → Grounded g node b s c e → Grounded g node b s (take (length c - 1) c) a
    when_ground a tag x is h = subst (AreGroundedIn c) (when_form e a tag x is) (grounded_operands c e h)

    pub merge_ground : (x : Name) (branches : List MergeBranch) → e.form ≡ form.Merge x branches → Grounded g node b s c e → IsMerge c x branches
    merge_ground x branches is h = subst (AreGroundedIn c) (merge_form e x branches is) (grounded_operands c e h)

  pub first_ground : (c : Clock) (x : Name) (d : MergeBranch) (branches : List MergeBranch) → AreGrounded g node b s c x (d ∷ branches) → Grounded g node b s (branch_clock c x d) d.value
  first_ground c x d branches (more h rest) = h

  pub rest_ground : (c : Clock) (x : Name) (d : MergeBranch) (branches : List MergeBranch) → AreGrounded g node b s c x (d ∷ branches) → AreGrounded g node b s c x branches
  rest_ground c x d branches (more h rest) = rest
