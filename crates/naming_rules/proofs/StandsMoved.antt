-- Where an expression stands on a clock, the subexpression that is named stands on its own, and the expression stands with the variable in its place.
use Rattle.std.proofs.Common.{◌≡◌, ℕ, zero, suc, List, [], ◌∷◌, ◌++◌, ◌-◌, length, take, refl, sym, ap, subst, ◌∙◌, arith}
use Rattle.std.proofs.lemmas.List.{length-append}
use Rattle.hept_ast.specs.Texts.{Name}
use Rattle.hept_ast.specs.Scopes.{Clock}
use Rattle.hept_ast.specs.declared.tree.ClockStep.{ClockStep}
use Rattle.hept_ast.specs.declared.tree.Expr.{Expr}
use Rattle.hept_ast.specs.declared.tree.Form.TheVariants as form
use Rattle.hept_ast.proofs.Unfolded.{static}
use Rattle.core_naming.specs.Names.{Names}
use Rattle.erased_rules.proofs.Standing.{read, sampled, Stands, Row_stands, Branches_stand}
use Rattle.naming_rules.proofs.StandsOf.{Arguments_stand, Values_stand, arguments_of, of_arguments, values_of, of_values}
use Rattle.naming_rules.proofs.NamedShapes.{NamedCases, branch_clock, by_names}

-- a clock without its last step
taken : (k : Clock) (s : ClockStep) (n : ℕ) → length (k ++ s ∷ []) ≡ suc n → take n (k ++ s ∷ []) ≡ k
taken [] s zero e = refl
taken [] s (suc n) e = absurd (omega arith)
taken (q ∷ k) s zero e = let a = length-append k (s ∷ []) in absurd (omega arith)
taken (q ∷ k) s (suc n) e = ap (λ (l : Clock). q ∷ l) (taken k s n (omega arith))

without_last : (c k : Clock) (s : ClockStep) → c ≡ k ++ s ∷ [] → take (length c - 1) c ≡ k
without_last c k s e =
    let a = length-append k (s ∷ []) in
    let l : length (k ++ s ∷ []) ≡ suc (length (k ++ s ∷ []) - 1) = omega arith in
    ap (λ (d : Clock). take (length d - 1) d) e ∙ taken k s (length (k ++ s ∷ []) - 1) l

module _ (x : Name) (a : Expr) (d : Clock) (own : List Name) (v : Name → Clock) (var : Stands own v d (form.Var x)) where
  abbrev Both : Clock → Expr → Type 0
  Both c r = Stands own v d a.form × Stands own v c r.form

  moved_cases : NamedCases x a d (λ c e r. Stands own v c e.form → Both c r) (λ c es ms. Arguments_stand own v c es → Stands own v d a.form × Arguments_stand own v c ms)
      (λ y c bs ms. c ≡ read own v y → Values_stand own v y bs → Stands own v d a.form × Values_stand own v y ms)
  unfolding static Stands Row_stands Branches_stand
  moved_cases = record {
    at_whole = λ h. (h, var);
    at_unary = λ c p op b m i h. let q = i h.0 in (q.0, (q.1, tt));
    at_left = λ c p op b f m i h. let q = i h.0.0 in (q.0, ((q.1, tt), h.1));
    at_right = λ c p op b f m n i h. let q = i h.1.0 in (q.0, (h.0, (q.1, tt)));
    at_condition = λ c p t b f m i h. let q = i h.0.0 in (q.0, ((q.1, tt), h.1, h.2));
    at_then = λ c p t b f m i h. let q = i h.1.0 in (q.0, (h.0, (q.1, tt), h.2));
    at_else = λ c p t b f m i h. let q = i h.2.0 in (q.0, (h.0, h.1, (q.1, tt)));
    at_fby_first = λ c p b f m i h. let q = i h.0.0 in (q.0, ((q.1, tt), h.1));
    at_fby_next = λ c p b f m i h. let q = i h.1.0 in (q.0, (h.0, (q.1, tt)));
    at_pre = λ c p b m i h. let q = i h.0 in (q.0, (q.1, tt));
    at_arrow_first = λ c p b f m i h. let q = i h.0.0 in (q.0, ((q.1, tt), h.1));
    at_arrow_next = λ c p b f m i h. let q = i h.1.0 in (q.0, (h.0, (q.1, tt)));
    at_when = λ c p b m tag y i h.
        let e : take (length c - 1) c ≡ read own v y = without_last c (read own v y) (record { tag = tag; name = y }) h.1 in
        let q = i (subst (λ (k : Clock). Stands own v k b.form) (sym e) h.0.0) in
        (q.0, ((subst (λ (k : Clock). Stands own v k m.form) e q.1, tt), h.1, h.2));
    at_merge = λ c p y bs ms i h. let q = i h.0 (values_of own v y bs h.2) in (q.0, (h.0, h.1, of_values own v y ms q.1));
    at_call = λ c p f es ms i h. let q = i (arguments_of own v c es h) in (q.0, of_arguments own v c ms q.1);
    at_async = λ c p n f es ms i h. let q = i (arguments_of own v c es h) in (q.0, of_arguments own v c ms q.1);
    at_get = λ c p b m i h. let q = i h.0 in (q.0, (q.1, tt));
    this_one = λ c e m es i h. let q = i h.0 in (q.0, (q.1, h.1));
    later_one = λ c e es ms i h. let q = i h.1 in (q.0, (h.0, q.1));
    this_value = λ y c p tag e m bs i same h.
        let s : branch_clock c tag y ≡ sampled own v tag y = ap (λ (k : Clock). k ++ record { tag = tag; name = y } ∷ []) same in
        let q = i (subst (λ (k : Clock). Stands own v k e.form) (sym s) h.0) in
        (q.0, (subst (λ (k : Clock). Stands own v k m.form) s q.1, h.1));
    later_value = λ y c b bs ms i same h. let q = i same h.1 in (q.0, (h.0, q.1));
  }

  pub stands_moved : (c : Clock) (e r : Expr) → Names x a d c e r → Stands own v c e.form → Stands own v d a.form × Stands own v c r.form
  stands_moved c e r n h = by_names x a d _ _ _ moved_cases c e r n h
