-- What becomes of an expression stands on the clock on which the expression stands.
use Rattle.std.proofs.Common.{◌≡◌, ℕ, Bool, if◌then◌else◌, List, [], ◌∷◌, ◌++◌, sym, ap, subst, ◌∙◌}
use Rattle.hept_ast.specs.Texts.{Name, is_in}
use Rattle.hept_ast.specs.Scopes.{Clock}
use Rattle.hept_ast.specs.declared.tree.Tag.{Tag}
use Rattle.hept_ast.specs.declared.tree.Expr.{Expr}
use Rattle.hept_ast.specs.declared.tree.MergeBranch.{MergeBranch}
use Rattle.hept_ast.proofs.Unfolded.{static}
use Rattle.erased_rules.proofs.Standing.{Reading, Outer, read, sampled, Stands, Row_stands, Branches_stand}
use Rattle.naming_rules.proofs.StandsOf.{Arguments_stand, Values_stand, arguments_of, of_arguments, values_of, of_values}
use Rattle.lowering_rules.specs.Lowering.{node_frame, Lowers, const, var, last, unary, binary, choice, fby, pre, arrow, when, merge, call, async_call, async_const, get, LowersAll, no_exprs, more_exprs, LowersBranches, no_branches, more_branches}

module _ (own others : List Name) (c v : Name → Clock) (own_same : (x : Name) → is_in x others ≡ is_in x own) (clock_same : (x : Name) → v x ≡ c x) where
  reading_again : (x : Name) (k : Clock) → Reading (is_in x own) (c x) k → Reading (is_in x others) (v x) k
  reading_again x k h = subst (λ (b : Bool). Reading b (v x) k) (sym (own_same x)) (subst (λ (d : Clock). Reading (is_in x own) d k) (sym (clock_same x)) h)

  outer_again : (x : Name) → Outer (is_in x own) (c x) → Outer (is_in x others) (v x)
  outer_again x h = subst (λ (b : Bool). Outer b (v x)) (sym (own_same x)) (subst (λ (d : Clock). Outer (is_in x own) d) (sym (clock_same x)) h)

  read_same : (x : Name) → read others v x ≡ read own c x
  read_same x = ap (λ (b : Bool). if b then v x else []) (own_same x) ∙ ap (λ (d : Clock). if is_in x own then d else []) (clock_same x)

  sampled_same : (tag : Tag) (x : Name) → sampled others v tag x ≡ sampled own c tag x
  sampled_same tag x = ap (λ (k : Clock). k ++ record { tag = tag; name = x } ∷ []) (read_same x)

  mutual
    unfolding static Stands Row_stands Branches_stand

    pub stands_again : {n m : ℕ} {e r : Expr} → Lowers node_frame n e r m → (k : Clock) → Stands own c k e.form → Stands others v k r.form
    stands_again const k h = tt
    stands_again (var {x = x}) k h = reading_again x k h
    stands_again (last e) k h = cc
    stands_again (unary i) k h = (stands_again i k h.0, tt)
    stands_again (binary i j) k h = ((stands_again i k h.0.0, tt), (stands_again j k h.1.0, tt))
    stands_again (choice i j l) k h = ((stands_again i k h.0.0, tt), (stands_again j k h.1.0, tt), (stands_again l k h.2.0, tt))
    stands_again (fby i j) k h = ((stands_again i k h.0.0, tt), (stands_again j k h.1.0, tt))
    stands_again (pre i) k h = (stands_again i k h.0, tt)
    stands_again (arrow i j) k h = ((stands_again i k h.0.0, tt), (stands_again j k h.1.0, tt))
    stands_again (when {a = a} {tag = tag} {x = x} i) k h =
        ((stands_again i (read others v x) (subst (λ (d : Clock). Stands own c d a.form) (sym (read_same x)) h.0.0), tt), h.1 ∙ sym (sampled_same tag x), outer_again x h.2)
    stands_again (merge {x = x} {bs = bs} {cs = cs} i) k h = (h.0 ∙ sym (read_same x), outer_again x h.1, of_values others v x cs (values_stand i x (values_of own c x bs h.2)))
    stands_again (call {es = es} {rs = rs} i) k h = of_arguments others v k rs (all_stand i k (arguments_of own c k es h))
    stands_again (async_call {es = es} {rs = rs} i) k h = of_arguments others v k rs (all_stand i k (arguments_of own c k es h))
    stands_again async_const k h = tt
    stands_again (get i) k h = (stands_again i k h.0, tt)

    all_stand : {n m : ℕ} {es rs : List Expr} → LowersAll node_frame n es rs m → (k : Clock) → Arguments_stand own c k es → Arguments_stand others v k rs
    all_stand no_exprs k h = tt
    all_stand (more_exprs i is) k h = (stands_again i k h.0, all_stand is k h.1)

    values_stand : {n m : ℕ} {bs cs : List MergeBranch} → LowersBranches node_frame n bs cs m → (x : Name) → Values_stand own c x bs → Values_stand others v x cs
    values_stand no_branches x h = tt
    values_stand (more_branches {tag = tag} {e = e} {r = r} i is) x h =
        (stands_again i (sampled others v tag x) (subst (λ (k : Clock). Stands own c k e.form) (sym (sampled_same tag x)) h.0), values_stand is x h.1)
