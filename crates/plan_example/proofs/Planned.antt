-- The plans of the nodes.
use Rattle.std.proofs.Common.{◌≡◌, ℕ, zero, suc, ◌+◌, ◌<◌, ◌≤◌, true, false, List, [], ◌∷◌, length, Some, None, refl, sym, subst, ap, ◌∙◌, arith}
use Rattle.std.specs.Prelude.{slice_get, codes, pos}
use Rattle.hept_ast.specs.Texts.{Name, names}
use Rattle.hept_ast.specs.Scopes.{Scope, Under}
use Rattle.hept_ast.specs.Sites.{Site}
use Rattle.hept_ast.specs.declared.tree.BinaryOp.TheVariants.{Add}
use Rattle.hept_ast.specs.declared.tree.Const.TheVariants as const
use Rattle.hept_ast.specs.declared.tree.Tag.TheVariants as tag
use Rattle.hept_ast.specs.declared.tree.CoreNode.{CoreNode}
use Rattle.hept_ast.specs.declared.tree.Expr.{Expr}
use Rattle.hept_ast.specs.declared.tree.Form.TheVariants as form
use Rattle.core_rules.specs.WellFormed.{expr, sum_node}
use Rattle.step_plans.specs.Things.{Here, Named, Part, Again, Result, Branch_of, Memory, Value_of}
use Rattle.step_plans.specs.Operations.{In_values, In_futures, storing_of}
use Rattle.step_plans.specs.Plans.{Has, newest, older, quiet_top, quiet_equation, left, left_unless, constant, binary, fby_constant, part, flag, no_reset, reset, branch, variable, sampled, last_branch, merged, defines, variable_under, here_under, again_under, async_call, computes, moves, offers, gets, known, Progress, MakesAll, made, action, also, Keeps, value_always, value_unless, IsInputAt, start_of, top_of}
use Rattle.step_plans.specs.declared.instruction.Store.{Store}
use Rattle.step_plans.specs.declared.instruction.Store.TheVariants as keeps
use Rattle.step_plans.specs.declared.action.Offering.{Offering}
use Rattle.step_plans.proofs.FormsOut.{const_form, var_form, binary_form, fby_form}
use Rattle.plan_example.proofs.FormsMore.{when_form, merge_form}
use Rattle.plan_example.specs.Example.{Holds_plan, var, inside, sum_ground, sum_actions, SumHasPlan, on_true, on_false, true_branch, false_branch, zero as zero_const, chosen_node, restarted, chosen_ground, chosen_actions, ChosenHasPlan}

sum_made : (last : Progress) × MakesAll sum_ground [] [] (start_of sum_node 0) sum_actions last × Has last.entries (Here [] (inside sum_node)) (In_values 0) × Has last.entries (Part (var (codes "s")) [] (inside sum_node)) (In_values 3) × Has last.entries (Named (codes "s") (top_of sum_node)) (In_values 3)
sum_made = (
  _,
  also (known (Here [] (inside sum_node)) (In_values 0) (omega arith) (here_under [] (top_of sum_node) [] newest))
      (action (computes (Part (expr (form.Fby zero_const (var (codes "s")))) [] (inside sum_node)) (part (In_values 0) (expr (form.Fby zero_const (var (codes "s")))) [] (inside sum_node) newest (fby_constant zero_const (var (codes "s")) (const.Number (pos 0)) (fby_form (expr (form.Fby zero_const (var (codes "s")))) _ _ refl) (const_form zero_const _ refl) refl (left {m = In_values 0} (quiet_equation quiet_top) refl))))
      (also (known (Named (codes "y") (top_of sum_node)) (In_values 2) (omega arith) (defines sum_node (codes "y") _ (top_of sum_node) (In_values 0) refl refl refl refl (older (older newest)) newest))
      (also (known (Named (codes "x") (inside sum_node)) (In_values 1) (omega arith) (variable_under (codes "x") (top_of sum_node) [] (older (older (older (older newest))))))
      (also (known (Part (var (codes "x")) [] (inside sum_node)) (In_values 1) (omega arith) (variable (var (codes "x")) (codes "x") [] (inside sum_node) (In_values 0) (var_form (var (codes "x")) _ refl) (older (older (older newest))) newest))
      (also (known (Named (codes "y") (inside sum_node)) (In_values 2) (omega arith) (variable_under (codes "y") (top_of sum_node) [] (older (older newest))))
      (also (known (Part (var (codes "y")) [] (inside sum_node)) (In_values 2) (omega arith) (variable (var (codes "y")) (codes "y") [] (inside sum_node) (In_values 0) (var_form (var (codes "y")) _ refl) (older (older (older (older (older newest))))) newest))
      (action (computes (Part (expr (form.Binary Add (var (codes "x")) (var (codes "y")))) [] (inside sum_node)) (part (In_values 0) (expr (form.Binary Add (var (codes "x")) (var (codes "y")))) [] (inside sum_node) (older (older (older (older (older (older newest)))))) (binary (var (codes "x")) (var (codes "y")) (binary_form (expr (form.Binary Add (var (codes "x")) (var (codes "y")))) _ _ _ refl) (older (older newest)) newest)))
      (also (known (Named (codes "s") (top_of sum_node)) (In_values 3) (omega arith) (defines sum_node (codes "s") _ (top_of sum_node) (In_values 0) refl refl refl refl (older (older (older (older (older (older (older (older newest)))))))) newest))
      (also (known (Named (codes "s") (inside sum_node)) (In_values 3) (omega arith) (variable_under (codes "s") (top_of sum_node) [] newest))
      (also (known (Part (var (codes "s")) [] (inside sum_node)) (In_values 3) (omega arith) (variable (var (codes "s")) (codes "s") [] (inside sum_node) (In_values 0) (var_form (var (codes "s")) _ refl) (older (older (older (older (older (older (older (older (older newest))))))))) newest))
      made)))))))))),
  (older (older (older (older (older (older (older (older (older (older newest)))))))))),
  newest,
  (older (older newest)),
)

pub sum_has_plan : SumHasPlan
sum_has_plan plan h = record {
  last = sum_made.0;
  inputs = h.has_inputs;
  places = λ k x at. place k x at;
  makes = subst (λ os. MakesAll sum_ground [] os (start_of sum_node 0) plan.actions.items sum_made.0) (sym h.has_offerings)
      (subst (λ actions. MakesAll sum_ground [] [] (start_of sum_node 0) actions sum_made.0) (sym h.has_actions) sum_made.1);
  each = λ k site at. absurd (cc);
  keeps = λ k m at. kept k m at;
  keeps_futures = λ k m at. absurd (cc);
  future_cells = ap (λ ss. length ss) h.has_future_stores;
  initial = h.has_initial;
  future_initial = h.has_future_initial;
  marks = λ k site at. absurd (cc);
  counted = λ k call at. absurd (cc);
  as_many = ap (λ rs. length rs) h.has_outputs;
  outputs = λ k x at. output k x at;
}
  where
    place : (k : ℕ) (x : Name) → slice_get (names sum_node.inputs) k ≡ Some x → IsInputAt sum_node k x
    place zero x at =
        let e : codes "x" ≡ x = cc in
        subst (λ (y : Name). IsInputAt sum_node 0 y) e (record { place = refl; among = refl; free = refl })
    place (suc k) x at = absurd (cc)

    kept : (k : ℕ) (m : Memory) → slice_get sum_ground.memories k ≡ Some m → (s : Store) × (slice_get plan.stores.items k ≡ Some s) × Keeps sum_ground sum_made.0.entries m (storing_of s)
    kept zero m at =
        let e : Value_of (var (codes "s")) [] (inside sum_node) 0 ≡ m = cc in
        (keeps.Always 3, ap (λ ss. slice_get ss 0) h.has_stores, subst (λ (n : Memory). Keeps sum_ground sum_made.0.entries n (storing_of (keeps.Always 3))) e (value_always (var (codes "s")) [] (inside sum_node) 0 sum_made.2 sum_made.3))
    kept (suc k) m at = absurd (cc)

    output : (k : ℕ) (x : Name) → slice_get (names sum_node.outputs) k ≡ Some x → (r : ℕ) × (slice_get plan.outputs.items k ≡ Some r) × Has sum_made.0.entries (Named x (top_of sum_node)) (In_values r)
    output zero x at =
        let e : codes "s" ≡ x = cc in
        (3, ap (λ rs. slice_get rs 0) h.has_outputs, subst (λ (y : Name). Has sum_made.0.entries (Named y (top_of sum_node)) (In_values 3)) e sum_made.4)
    output (suc k) x at = absurd (cc)

chosen_made : (last : Progress) × MakesAll chosen_ground [] [] (start_of chosen_node 0) chosen_actions last × Has last.entries (Here [] restarted) (In_values 0) × Has last.entries (Part (var (codes "y")) [] restarted) (In_values 6) × Has last.entries (Again restarted) (In_values 8) × Has last.entries (Named (codes "y") (top_of chosen_node)) (In_values 6) × Has last.entries (Named (codes "n") (top_of chosen_node)) (In_values 9)
chosen_made = (
  _,
  action (computes (Here (on_true ∷ []) (top_of chosen_node)) (flag chosen_node [] on_true (top_of chosen_node) 0 refl newest (older newest) refl refl refl))
      (action (computes (Here (on_false ∷ []) (top_of chosen_node)) (flag chosen_node [] on_false (top_of chosen_node) 0 refl (older newest) (older (older newest)) refl refl refl))
      (also (known (Here [] (inside chosen_node)) (In_values 0) (omega arith) (here_under [] (top_of chosen_node) [] (older (older newest))))
      (also (known (Here (on_true ∷ []) (inside chosen_node)) (In_values 3) (omega arith) (here_under (on_true ∷ []) (top_of chosen_node) [] (older (older newest))))
      (also (known (Here (on_false ∷ []) (inside chosen_node)) (In_values 4) (omega arith) (here_under (on_false ∷ []) (top_of chosen_node) [] (older (older newest))))
      (also (known (Named (codes "x") (inside chosen_node)) (In_values 2) (omega arith) (variable_under (codes "x") (top_of chosen_node) [] (older (older (older (older (older (older (older (older newest))))))))))
      (also (known (Part (var (codes "x")) [] (inside chosen_node)) (In_values 2) (omega arith) (variable (var (codes "x")) (codes "x") [] (inside chosen_node) (In_values 0) (var_form (var (codes "x")) _ refl) (older (older (older newest))) newest))
      (also (known (Part (expr (form.When (var (codes "x")) (tag.Truth true) (codes "c"))) (on_true ∷ []) (inside chosen_node)) (In_values 2) (omega arith) (sampled (expr (form.When (var (codes "x")) (tag.Truth true) (codes "c"))) (var (codes "x")) (tag.Truth true) (codes "c") (on_true ∷ []) (inside chosen_node) (In_values 3) (when_form (expr (form.When (var (codes "x")) (tag.Truth true) (codes "c"))) _ _ _ refl) (older (older (older newest))) newest))
      (also (known (Named (codes "a") (top_of chosen_node)) (In_values 2) (omega arith) (defines chosen_node (codes "a") _ (top_of chosen_node) (In_values 3) refl refl refl refl (older (older (older (older (older (older (older newest))))))) newest))
      (action (computes (Part (expr (form.Const (const.Number (pos 5)))) (on_false ∷ []) (inside chosen_node)) (part (In_values 4) (expr (form.Const (const.Number (pos 5)))) (on_false ∷ []) (inside chosen_node) (older (older (older (older newest)))) (constant (const.Number (pos 5)) (const_form (expr (form.Const (const.Number (pos 5)))) _ refl) refl)))
      (also (known (Named (codes "b") (top_of chosen_node)) (In_values 5) (omega arith) (defines chosen_node (codes "b") _ (top_of chosen_node) (In_values 4) refl refl refl refl (older (older (older (older (older (older (older (older newest)))))))) newest))
      (also (known (Named (codes "a") (inside chosen_node)) (In_values 2) (omega arith) (variable_under (codes "a") (top_of chosen_node) [] (older (older newest))))
      (also (known (Part (var (codes "a")) (on_true ∷ []) (inside chosen_node)) (In_values 2) (omega arith) (variable (var (codes "a")) (codes "a") (on_true ∷ []) (inside chosen_node) (In_values 3) (var_form (var (codes "a")) _ refl) (older (older (older (older (older (older (older (older newest)))))))) newest))
      (also (known (Named (codes "b") (inside chosen_node)) (In_values 5) (omega arith) (variable_under (codes "b") (top_of chosen_node) [] (older (older newest))))
      (also (known (Part (var (codes "b")) (on_false ∷ []) (inside chosen_node)) (In_values 5) (omega arith) (variable (var (codes "b")) (codes "b") (on_false ∷ []) (inside chosen_node) (In_values 4) (var_form (var (codes "b")) _ refl) (older (older (older (older (older (older (older (older (older newest))))))))) newest))
      (also (known (Named (codes "c") (inside chosen_node)) (In_values 1) (omega arith) (variable_under (codes "c") (top_of chosen_node) [] (older (older (older (older (older (older (older (older (older (older (older (older (older (older (older (older newest))))))))))))))))))
      (also (known (Branch_of (codes "c") (false_branch ∷ []) [] (inside chosen_node)) (In_values 5) (omega arith) (last_branch (codes "c") false_branch [] (inside chosen_node) (older newest)))
      (action (computes (Branch_of (codes "c") (true_branch ∷ false_branch ∷ []) [] (inside chosen_node)) (branch (codes "c") true_branch (false_branch ∷ []) [] (inside chosen_node) (older newest) refl (older (older (older (older newest)))) newest))
      (also (known (Part (expr (form.Merge (codes "c") (true_branch ∷ false_branch ∷ []))) [] (inside chosen_node)) (In_values 6) (omega arith) (merged (expr (form.Merge (codes "c") (true_branch ∷ false_branch ∷ []))) (codes "c") (true_branch ∷ false_branch ∷ []) [] (inside chosen_node) (In_values 0) (In_values 1) 0 (merge_form (expr (form.Merge (codes "c") (true_branch ∷ false_branch ∷ []))) _ _ refl) (older (older (older (older (older (older (older (older (older (older (older (older (older (older (older newest))))))))))))))) (older (older newest)) refl newest))
      (also (known (Named (codes "y") (top_of chosen_node)) (In_values 6) (omega arith) (defines chosen_node (codes "y") _ (top_of chosen_node) (In_values 0) refl refl refl refl (older (older (older (older (older (older (older (older (older (older (older (older (older (older (older (older (older (older (older newest))))))))))))))))))) newest))
      (action (computes (Again (inside chosen_node)) (no_reset (inside chosen_node) (quiet_equation quiet_top)))
      (action (computes (Again restarted) (reset chosen_node (codes "c") [] (top_of chosen_node) 0 refl newest (older (older (older (older (older (older (older (older (older (older (older (older (older (older (older (older (older (older (older (older (older newest))))))))))))))))))))) (older (older (older (older (older (older (older (older (older (older (older (older (older (older (older (older (older (older (older (older (older (older newest)))))))))))))))))))))) refl))
      (also (known (Here [] restarted) (In_values 0) (omega arith) (here_under [] (top_of chosen_node) (codes "c" ∷ []) (older (older (older (older (older (older (older (older (older (older (older (older (older (older (older (older (older (older (older (older (older (older newest))))))))))))))))))))))))
      (action (computes (Part (expr (form.Fby zero_const (var (codes "y")))) [] restarted) (part (In_values 0) (expr (form.Fby zero_const (var (codes "y")))) [] restarted newest (fby_constant zero_const (var (codes "y")) (const.Number (pos 0)) (fby_form (expr (form.Fby zero_const (var (codes "y")))) _ _ refl) (const_form zero_const _ refl) refl (left_unless {m = In_values 0} (older newest) refl))))
      (also (known (Named (codes "n") (top_of chosen_node)) (In_values 9) (omega arith) (defines chosen_node (codes "n") _ (top_of chosen_node) (In_values 0) refl refl refl refl (older (older (older (older (older (older (older (older (older (older (older (older (older (older (older (older (older (older (older (older (older (older (older (older newest)))))))))))))))))))))))) newest))
      (also (known (Named (codes "y") restarted) (In_values 6) (omega arith) (variable_under (codes "y") (top_of chosen_node) (codes "c" ∷ []) (older (older (older (older (older newest)))))))
      (also (known (Part (var (codes "y")) [] restarted) (In_values 6) (omega arith) (variable (var (codes "y")) (codes "y") [] restarted (In_values 0) (var_form (var (codes "y")) _ refl) (older (older (older newest))) newest))
      made)))))))))))))))))))))))))),
  (older (older (older (older newest)))),
  newest,
  (older (older (older (older (older newest))))),
  (older (older (older (older (older (older (older newest))))))),
  (older (older newest)),
)

pub chosen_has_plan : ChosenHasPlan
chosen_has_plan plan h = record {
  last = chosen_made.0;
  inputs = h.has_inputs;
  places = λ k x at. place k x at;
  makes = subst (λ os. MakesAll chosen_ground [] os (start_of chosen_node 0) plan.actions.items chosen_made.0) (sym h.has_offerings)
      (subst (λ actions. MakesAll chosen_ground [] [] (start_of chosen_node 0) actions chosen_made.0) (sym h.has_actions) chosen_made.1);
  each = λ k site at. absurd (cc);
  keeps = λ k m at. kept k m at;
  keeps_futures = λ k m at. absurd (cc);
  future_cells = ap (λ ss. length ss) h.has_future_stores;
  initial = h.has_initial;
  future_initial = h.has_future_initial;
  marks = λ k site at. absurd (cc);
  counted = λ k call at. absurd (cc);
  as_many = ap (λ rs. length rs) h.has_outputs;
  outputs = λ k x at. output k x at;
}
  where
    place : (k : ℕ) (x : Name) → slice_get (names chosen_node.inputs) k ≡ Some x → IsInputAt chosen_node k x
    place zero x at =
        let e : codes "c" ≡ x = cc in
        subst (λ (y : Name). IsInputAt chosen_node 0 y) e (record { place = refl; among = refl; free = refl })
    place (suc zero) x at =
        let e : codes "x" ≡ x = cc in
        subst (λ (y : Name). IsInputAt chosen_node 1 y) e (record { place = refl; among = refl; free = refl })
    place (suc (suc k)) x at = absurd (cc)

    kept : (k : ℕ) (m : Memory) → slice_get chosen_ground.memories k ≡ Some m → (s : Store) × (slice_get plan.stores.items k ≡ Some s) × Keeps chosen_ground chosen_made.0.entries m (storing_of s)
    kept zero m at =
        let e : Value_of (var (codes "y")) [] restarted 0 ≡ m = cc in
        (keeps.Unless 0 6 8 0, ap (λ ss. slice_get ss 0) h.has_stores, subst (λ (n : Memory). Keeps chosen_ground chosen_made.0.entries n (storing_of (keeps.Unless 0 6 8 0))) e (value_unless (var (codes "y")) [] restarted 0 chosen_made.2 chosen_made.3 chosen_made.4))
    kept (suc k) m at = absurd (cc)

    output : (k : ℕ) (x : Name) → slice_get (names chosen_node.outputs) k ≡ Some x → (r : ℕ) × (slice_get plan.outputs.items k ≡ Some r) × Has chosen_made.0.entries (Named x (top_of chosen_node)) (In_values r)
    output zero x at =
        let e : codes "y" ≡ x = cc in
        (6, ap (λ rs. slice_get rs 0) h.has_outputs, subst (λ (y : Name). Has chosen_made.0.entries (Named y (top_of chosen_node)) (In_values 6)) e chosen_made.5)
    output (suc zero) x at =
        let e : codes "n" ≡ x = cc in
        (9, ap (λ rs. slice_get rs 1) h.has_outputs, subst (λ (y : Name). Has chosen_made.0.entries (Named y (top_of chosen_node)) (In_values 9)) e chosen_made.6)
    output (suc (suc k)) x at = absurd (cc)
