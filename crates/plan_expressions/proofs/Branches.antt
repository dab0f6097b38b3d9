-- The branches of a merge, from the last one to the first.
use Rattle.std.proofs.Common.{◌≡◌, ℕ, zero, suc, ◌+◌, ◌-◌, ◌<◌, true, List, [], ◌∷◌, length, drop, get_or, sym, subst, ap, ◌∙◌, arith}
use Rattle.std.specs.Prelude.{slice_index}
use Rattle.std.proofs.Math.Seq.{drop-cons}
use Rattle.std.proofs.Math.ListN.{drop_of_length-le}
use Rattle.hept_ast.specs.Texts.{Name, is_in, place_in, tag_value}
use Rattle.hept_ast.specs.declared.tree.TypeDec.{TypeDec}
use Rattle.hept_ast.specs.declared.tree.Expr.{Expr}
use Rattle.hept_ast.specs.declared.tree.MergeBranch.{MergeBranch}
use Rattle.hept_ast.specs.declared.tree.Form.TheVariants as form
use Rattle.step_plans.specs.declared.instruction.Instruction.TheVariants as does
use Rattle.plan_expressions.specs.Computable.{Computable, AreComputable, one, more}
use Rattle.plan_expressions.specs.Building.{IsAdded}
use Rattle.plan_expressions.specs.Clocked.{EmitsBranch, EmitsBranches, KeepsWithinOn}
use Rattle.plan_expressions.specs.declared.draft.Draft.{Draft}
use Rattle.plan_expressions.proofs.Operands.{merge_operands}
use Rattle.plan_expressions.proofs.Emitting.{emit_last, emit_more}
use Rattle.plan_expressions.proofs.KeptWithin.{keeps_more}

branch_at : (types : List TypeDec) (ks : List Name) (n : ℕ) (branches : List MergeBranch) (k : ℕ) (d : MergeBranch) → k < length branches → AreComputable types ks n branches → Computable types ks n (get_or branches k d).value
branch_at types ks n [] k d lt h = absurd (omega arith)
branch_at types ks n (b ∷ []) zero d lt (one h) = h
branch_at types ks n (b ∷ []) (suc k) d lt (one h) = absurd (omega arith)
branch_at types ks n (b ∷ bs) zero d lt (more h rest) = h
branch_at types ks n (b ∷ bs) (suc k) d lt (more h rest) = branch_at types ks n bs k d (omega arith) rest

pub computable_branch : (types : List TypeDec) (ks : List Name) (n : ℕ) (branches : List MergeBranch) (k : ℕ) (d : MergeBranch) → k < length branches → d ≡ get_or branches k d → AreComputable types ks n branches → Computable types ks n d.value
computable_branch types ks n branches k d lt is h = subst (λ (b : MergeBranch). Computable types ks n b.value) (sym is) (branch_at types ks n branches k d lt h)

pub some_branch : (types : List TypeDec) (ks : List Name) (n : ℕ) (branches : List MergeBranch) → AreComputable types ks n branches → 0 < length branches
some_branch types ks n branches (one h) = omega arith
some_branch types ks n branches (more h rest) = omega arith

pub computable_merge : (types : List TypeDec) (ks : List Name) (n : ℕ) (e : Expr) (x : Name) (branches all : List MergeBranch) → e.form ≡ form.Merge x branches → all ≡ branches → Computable types ks n e →
    (is_in x ks ≡ true) × (0 < n) × (0 < length all) × AreComputable types ks (n + 1) all
computable_merge types ks n e x branches all is same h =
    let m = merge_operands types ks n e x branches is h in
    subst (λ (bs : List MergeBranch). (is_in x ks ≡ true) × (0 < n) × (0 < length bs) × AreComputable types ks (n + 1) bs) (sym same) (m.1, m.0, some_branch types ks (n + 1) branches m.2, m.2)

from_branch : (branches : List MergeBranch) (k : ℕ) (d : MergeBranch) → k < length branches → d ≡ get_or branches k d → drop k branches ≡ d ∷ drop (suc k) branches
from_branch branches k d lt is = drop-cons branches k d lt ∙ ap (λ (b : MergeBranch). b ∷ drop (suc k) branches) (sym is)

module _ (types : List TypeDec) (variables : List Name) (registers presences : List ℕ) (x : Name) (branches : List MergeBranch) where
  -- the branches from one on are done
  pub record AreDone (old now : Draft) (k chosen : ℕ) : Type 0 where
    pub emits : EmitsBranches types variables registers presences old now x (drop k branches) chosen
    pub within : KeepsWithinOn registers presences old now chosen

  pub last_done : (old now : Draft) (d : MergeBranch) (r : ℕ) → 0 < length branches → d ≡ get_or branches (length branches - 1) d → EmitsBranch types variables registers presences old now x d r → KeepsWithinOn registers presences old now r →
      AreDone old now (length branches - 1) r
  last_done old now d r some is emits within =
      let e : drop (length branches - 1) branches ≡ d ∷ [] =
      from_branch branches (length branches - 1) d (omega arith) is ∙ ap (λ (bs : List MergeBranch). d ∷ bs) (drop_of_length-le branches {i = suc (length branches - 1)} (omega arith)) in
      record {
        emits = subst (λ (bs : List MergeBranch). EmitsBranches types variables registers presences old now x bs r) (sym e) (emit_last types variables registers presences old now x d r emits);
        within = within;
      }

  pub more_done : (old half mid new : Draft) (d : MergeBranch) (k on value rest other r : ℕ) → k < length branches → d ≡ get_or branches k d → length registers ≡ length variables → is_in x variables ≡ true → on ≡ slice_index registers (place_in x variables) →
      value ≡ tag_value types d.tag → AreDone old half (suc k) rest → EmitsBranch types variables registers presences half mid x d other → KeepsWithinOn registers presences half mid other → IsAdded mid new (does.Select on value other rest) r → AreDone old new k r
  more_done old half mid new d k on value rest other r lt is many among at tag done emits within added = record {
    emits = subst (λ (bs : List MergeBranch). EmitsBranches types variables registers presences old new x bs r) (sym (from_branch branches k d lt is))
        (emit_more types variables registers presences old half mid new x d (drop (suc k) branches) on value rest other r among at tag done.emits emits added);
    within = keeps_more registers presences variables old half mid new x on value rest other r many among at done.within within added;
  }

  pub all_done : (old now : Draft) (k chosen : ℕ) → k ≡ 0 → AreDone old now k chosen → EmitsBranches types variables registers presences old now x branches chosen
  all_done old now k chosen none done = subst (λ (n : ℕ). EmitsBranches types variables registers presences old now x (drop n branches) chosen) none done.emits
