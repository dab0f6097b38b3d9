-- The outputs of a sound run.
use Rattle.std.proofs.Common.{◌≡◌, ◌⊎◌, inl, inr, ℕ, suc, ◌+◌, ◌<◌, true, false, List, [], ◌∷◌, map, Some, length, refl, ap, arith}
use Rattle.std.specs.Prelude.{Contains, slice_get}
use Rattle.hept_ast.specs.Texts.{Name, names}
use Rattle.hept_ast.specs.Scopes.{Top}
use Rattle.hept_ast.specs.Meaning.{Variable, Present, Active, Answer, Value, Is}
use Rattle.hept_ast.specs.Outputs.{said, asked, HaveValues, OutputsFrom, Outputs}
use Rattle.hept_ast.specs.declared.tree.Decl.{Decl}
use Rattle.hept_ast.proofs.Depths.{to_rule, one_answer}
use Rattle.hept_ast.specs.TypedValues.{IsValueOf, RowFits, RowsFit}
use Rattle.sound_expressions.specs.Sound.{Within, Sees}
use Rattle.accepted_meaning.specs.SoundNodes.{within}
use Rattle.accepted_meaning.specs.Placing.{at_top}
use Rattle.accepted_meaning.specs.Running.{Run, StandsIn, IsKnown, IsSoundRun, IsDataOf, no_data, nil_data, value_data, AbsentIsNotPresent, DefinedIsNotNil, setting_of, text_run, types_in}
use Rattle.accepted_meaning.proofs.KnownRules.{tells}
use Rattle.accepted_meaning.proofs.KnownScopes.{Texts, Fits}
use Rattle.accepted_meaning.proofs.KnownAll.{everything_known}
use Rattle.accepted_meaning.proofs.KnownTrees.{contains_cases, none_contained, contains_first, contains_more}

-- where an element stands
place_of_element : {A : Type 0} (xs : List A) (x : A) → Contains xs x → (j : ℕ) × (slice_get xs j ≡ Some x)
place_of_element [] x h = absurd (none_contained x h)
place_of_element {A} (y ∷ ys) x h = split (λ i. place_of_element ys x i) (contains_cases y ys x h)
  where
    split : (Contains ys x → (j : ℕ) × (slice_get ys j ≡ Some x)) → (y ≡ x) ⊎ Contains ys x → (j : ℕ) × (slice_get (y ∷ ys) j ≡ Some x)
    split next (inl e) = (0, ap (λ (z : A). Some z) e)
    split next (inr i) = let n = next i in (suc n.0, n.1)

-- all that fits
pub record AllFit (r : Run) : Type 0 where
  pub fits : Fits r
  pub absent : AbsentIsNotPresent r
  pub defined : DefinedIsNotNil r

module _ (r : Run) (sound : IsSoundRun r) (texts : Texts r) (all : AllFit r) where
  chosen_within : Within
  chosen_within = within r.program r.number r.node (sound.sound.sound_nodes r.number r.node sound.chosen).0

  at_the_top : StandsIn r chosen_within (Top (text_run r))
  unfolding chosen_within
  at_the_top = record {
    number = r.number;
    of_node = record { node = r.node; grades = (sound.sound.sound_nodes r.number r.node sound.chosen).0; at = sound.chosen; is = refl; sound_node = (sound.sound.sound_nodes r.number r.node sound.chosen).1 };
    text = refl;
    placed = at_top;
  }

  present_at_top : (t : ℕ) → IsKnown r (Present [] (Top (text_run r)) t) (Is true)
  present_at_top t = to_rule (setting_of r) r.rows (Present [] (Top (text_run r)) t) (Is true)
      (asked {a = Is true} (to_rule (setting_of r) r.rows (Active (Top (text_run r)) t) (Is true) said (tells (Is true) tt)) said) (tells (Is true) tt)

  value_at : (t : ℕ) (x : Name) (d : Decl) → Sees chosen_within [] x d [] → chosen_within.grade x ≡ false → (a : Answer) → IsKnown r (Variable x (Top (text_run r)) t) a → IsDataOf (types_in r) d.ty a →
      (v : ℕ) × IsKnown r (Variable x (Top (text_run r)) t) (Value v) × IsValueOf (types_in r) d.ty v
  value_at t x d sees grade _ h no_data = absurd (differ (one_answer (setting_of r) r.rows _ _ _ (present_at_top t) (all.absent chosen_within (Top (text_run r)) x d [] t at_the_top sees h)))
    where
      differ : Is true ≡ Is false → ⊥
      differ h = cc
  value_at t x d sees grade _ h nil_data = absurd (all.defined chosen_within (Top (text_run r)) x d [] t at_the_top sees grade h)
  value_at t x d sees grade _ h (value_data {v = v} i) = (v, h, i)

  row_known : (t : ℕ) → t < length r.rows → (ds : List Decl) → ((d : Decl) → Contains ds d → Sees chosen_within [] d.name d [] × (chosen_within.grade d.name ≡ false)) →
      (out : List ℕ) × HaveValues (setting_of r) r.rows (map (λ x. Variable x (Top (text_run r)) t) (names ds)) out × RowFits (types_in r) ds out
  row_known t l [] each = ([], tt, tt)
  row_known t l (d ∷ ds) each =
      let s = each d (contains_first d d ds refl) in
      let k = (everything_known r sound texts all.fits t l).variables chosen_within (Top (text_run r)) d.name d [] at_the_top tt s.0 tt in
      let v = value_at t d.name d s.0 s.1 k.0 k.1 (all.fits.variables chosen_within (Top (text_run r)) d.name d [] t k.0 at_the_top s.0 k.1) in
      let n = row_known t l ds (λ e i. each e (contains_more d ds e i)) in
      (v.0 ∷ n.0, (v.1, n.1), (v.2, n.2))

  outputs_seen : (d : Decl) → Contains r.node.outputs d → Sees chosen_within [] d.name d [] × (chosen_within.grade d.name ≡ false)
  unfolding chosen_within at_the_top
  outputs_seen d h = let j = place_of_element r.node.outputs d h in let o = texts.output_of chosen_within r.number j.0 d at_the_top.of_node j.1 in (o.0, o.1)

  rows_known : (left : List (List ℕ)) (t : ℕ) → t + length left ≡ length r.rows → (outs : List (List ℕ)) × OutputsFrom (setting_of r) r.rows (text_run r) t left outs × RowsFit (types_in r) r.node.outputs outs
  rows_known [] t e = ([], tt, tt)
  rows_known (row ∷ left) t e =
      let o = row_known t (before e) r.node.outputs outputs_seen in
      let n = rows_known left (suc t) (omega (arith, e)) in
      (o.0 ∷ n.0, (o.1, n.1), (o.2, n.2))
    where
      before : t + length (row ∷ left) ≡ length r.rows → t < length r.rows
      before e = omega (arith, e)

  pub outputs_known : (outs : List (List ℕ)) × Outputs (setting_of r) (text_run r) r.rows outs × RowsFit (types_in r) r.node.outputs outs
  outputs_known = rows_known r.rows 0 (omega arith)
