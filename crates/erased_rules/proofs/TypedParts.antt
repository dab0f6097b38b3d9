-- A part without faults has an erased part without faults.
use Rattle.std.proofs.Common.{◌≡◌, ℕ, Bool, true, false, ◌&&◌, List, [], ◌∷◌, ◌++◌, map, refl, sym, ap, ◌∙◌}
use Rattle.std.specs.Prelude.{Option, Some, None, is_some, not}
use Rattle.std.specs.List.{flat_map, list_any}
use Rattle.std.specs.Option.{option_map, option_map_or}
use mathlib.Core.Path.{fun_ext}
use Rattle.hept_ast.specs.Texts.{Name, same, is_in, names}
use Rattle.hept_ast.specs.Parts.{Case, Part, Block as Block_part, Plain, Switch as Switch_part, Reset as Reset_part, Automaton as Automaton_part, Transition, expressions_of}
use Rattle.hept_ast.specs.Types.{Plain_type, bool, type_is_known, type_of_const, same_tag}
use Rattle.hept_ast.specs.Faults.{Fault, Kind, UnknownName, Duplicate, Mismatch, NotDefined, fault, seconds, labels, second_definitions, Judged, Judging, tag_faults, lack_faults, type_of_variable, unknown_variable, pair_types, one_type, judge_expr, demanded, is_bool, can_branch, left_types, fits_left, gap_faults, const_fits, init_faults, decl_faults, left_faults, part_faults}
use Rattle.hept_ast.specs.Erasure.{erased_expr, erased_type, erased_decl, erased_init}
use Rattle.hept_ast.specs.ErasedParts.{erased_part}
use Rattle.hept_ast.specs.declared.tree.TypeDec.{TypeDec}
use Rattle.hept_ast.specs.declared.tree.Plain.TheVariants.{Int, Bool as Truth_value, Named}
use Rattle.hept_ast.specs.declared.tree.Decl.{Decl}
use Rattle.hept_ast.specs.declared.tree.Init.{Init}
use Rattle.hept_ast.specs.declared.tree.Expr.{Expr}
use Rattle.hept_ast.specs.declared.tree.Ty.{Ty}
use Rattle.hept_ast.specs.declared.tree.Ty.TheVariants as ty
use Rattle.hept_ast.proofs.ErasedTexts.{names_is}
use Rattle.erased_rules.proofs.Lists.{nil_left, nil_right, nil_both, flat_same, flat_nil}
use Rattle.erased_rules.proofs.ByForms.{Each}
use Rattle.erased_rules.proofs.Totals.{total}
use Rattle.erased_rules.proofs.Fits.{all_same_kept, tagged_same}
use Rattle.erased_rules.proofs.Judgings.{erased_judging, filled, clean, seen_type, unknown_same, last_same}
use Rattle.erased_rules.proofs.TypedExpressions.{async_at, each_left, Plain_outputs, Tags_there, typed_kept}

flat_pointwise : {A B : Type 0} (f g : A → List B) → ((x : A) → f x ≡ g x) → (xs : List A) → flat_map f xs ≡ flat_map g xs
flat_pointwise f g e [] = refl
flat_pointwise f g e (x ∷ xs) = ap (λ (l : List _). l ++ flat_map f xs) (e x) ∙ ap (λ (l : List _). g x ++ l) (flat_pointwise f g e xs)

denied : (p : ℕ) (k : Kind) (b b' : Bool) → (b ≡ true → b' ≡ true) → fault p k (not b) ≡ [] → fault p k (not b') ≡ []
denied p k true b' h n = ap (λ (x : Bool). fault p k (not x)) (h refl)
denied p k false b' h n = absurd (filled (record { place = p; kind = k }) [] n)

pub stands : (p : ℕ) (k : Kind) (b : Bool) → fault p k (not b) ≡ [] → b ≡ true
stands p k true n = refl
stands p k false n = absurd (filled (record { place = p; kind = k }) [] n)

-- ---- declarations

known_same : (types : List TypeDec) (t : Ty) → type_is_known types (erased_type t) ≡ type_is_known types t
known_same types (ty.Plain Int) = refl
known_same types (ty.Plain Truth_value) = refl
known_same types (ty.Plain (Named x)) = refl
known_same types (ty.Future Int) = refl
known_same types (ty.Future Truth_value) = refl
known_same types (ty.Future (Named x)) = refl

module _ (w : Judging) where
  const_fits_kept : (t : Ty) (ready : Bool) (s : Option Plain_type) → const_fits w t ready s ≡ true → const_fits (erased_judging w) (erased_type t) false s ≡ true
  const_fits_kept t true None h = refl
  const_fits_kept t false None h = refl
  const_fits_kept (ty.Plain t) true (Some s) h = cc
  const_fits_kept (ty.Future t) true (Some s) h = h
  const_fits_kept (ty.Plain t) false (Some s) h = h
  const_fits_kept (ty.Future t) false (Some s) h = cc

  init_kept : (d : Decl) (i : Option Init) → init_faults w d i ≡ [] → init_faults (erased_judging w) (erased_decl d) (option_map erased_init i) ≡ []
  init_kept d None h = refl
  init_kept d (Some i) h =
      let s = type_of_const w.types i.value in
      let u = fault d.place.0 UnknownName (not (is_some s)) in
      let m = fault d.place.0 Mismatch (not (const_fits w d.ty i.ready s)) in
      nil_both u (fault d.place.0 Mismatch (not (const_fits (erased_judging w) (erased_type d.ty) false s))) (nil_left u m h)
      (denied d.place.0 Mismatch (const_fits w d.ty i.ready s) (const_fits (erased_judging w) (erased_type d.ty) false s) (const_fits_kept d.ty i.ready s) (nil_right u m h))

  pub decl_kept : (d : Decl) → decl_faults w d ≡ [] → decl_faults (erased_judging w) (erased_decl d) ≡ []
  decl_kept d h =
      let u = fault d.place.0 UnknownName (not (type_is_known w.types d.ty)) in
      nil_both (fault d.place.0 UnknownName (not (type_is_known w.types (erased_type d.ty)))) (init_faults (erased_judging w) (erased_decl d) (option_map erased_init d.init))
      (ap (λ (b : Bool). fault d.place.0 UnknownName (not b)) (known_same w.types d.ty) ∙ nil_left u (init_faults w d d.init) h) (init_kept d d.init (nil_right u (init_faults w d d.init) h))

  pub decl_known : (d : Decl) → decl_faults w d ≡ [] → type_is_known w.types d.ty ≡ true
  decl_known d h = stands d.place.0 UnknownName (type_is_known w.types d.ty) (nil_left (fault d.place.0 UnknownName (not (type_is_known w.types d.ty))) (init_faults w d d.init) h)

-- ---- parts

module _ (w : Judging) (tags : Tags_there w) where
  abbrev v : Judging
  v = erased_judging w

  demanded_kept : (p : ℕ) (pass pass' : List Ty → Bool) (j j' : Judged (List Ty)) (ts : List Ty) → j ≡ clean ts → j' ≡ clean (map erased_type ts) → (pass ts ≡ true → pass' (map erased_type ts) ≡ true) →
      demanded w p pass j ≡ [] → demanded v p pass' j' ≡ []
  demanded_kept p pass pass' j j' ts e e' k h =
      ap (demanded v p pass') e'
      ∙ nil_both (fault p Mismatch (not (pass' (map erased_type ts)))) []
      (denied p Mismatch (pass ts) (pass' (map erased_type ts)) k (nil_left (fault p Mismatch (not (pass ts))) [] (ap (demanded w p pass) (sym e) ∙ h))) refl

  -- what it demands holds
  passes : (p : ℕ) (pass : List Ty → Bool) (j : Judged (List Ty)) (ts : List Ty) → j ≡ clean ts → demanded w p pass j ≡ [] → pass ts ≡ true
  passes p pass j ts e h = stands p Mismatch (pass ts) (nil_left (fault p Mismatch (not (pass ts))) [] (ap (demanded w p pass) (sym e) ∙ h))

  abbrev Clear : List Name → Type 0
  Clear fs = Each (Plain_outputs w.nodes) fs

  expr_typed : (p : ℕ) (pass : List Ty → Bool) (e : Expr) → Clear (total async_at e ++ []) → demanded w p pass (judge_expr w e) ≡ [] →
      (ts : List Ty) × (judge_expr w e ≡ clean ts) × (judge_expr v (erased_expr e) ≡ clean (map erased_type ts))
  expr_typed p pass e c h =
      let j = judge_expr w e in
      let r = typed_kept w tags e (each_left (Plain_outputs w.nodes) (total async_at e) [] c) false (nil_right (fault p Mismatch (not (option_map_or pass j.types true))) j.faults h) in
      (r.0, r.1, r.2 false)

  bool_kept : (p : ℕ) (e : Expr) → Clear (total async_at e ++ []) → demanded w p (is_bool w) (judge_expr w e) ≡ [] → demanded v p (is_bool v) (judge_expr v (erased_expr e)) ≡ []
  bool_kept p e c h =
      let r = expr_typed p (is_bool w) e c h in
      demanded_kept p (is_bool w) (is_bool v) (judge_expr w e) (judge_expr v (erased_expr e)) r.0 r.1 r.2 (all_same_kept bool r.0) h

  left_same : (p : ℕ) (x : Name) → left_faults v p x ≡ left_faults w p x
  left_same p x =
      ap (λ (fs : List Fault). fs ++ fault p Duplicate (is_in x (names (map erased_decl w.node.inputs)))) (unknown_same w p x)
      ∙ ap (λ (xs : List Name). unknown_variable w p x ++ fault p Duplicate (is_in x xs)) (names_is w.node.inputs)

  pair_kept : (t : Option Ty) (ts : Option (List Ty)) → pair_types (option_map erased_type t) (option_map (map erased_type) ts) ≡ option_map (map erased_type) (pair_types t ts)
  pair_kept None None = refl
  pair_kept None (Some ts) = refl
  pair_kept (Some t) None = refl
  pair_kept (Some t) (Some ts) = refl

  left_types_kept : (xs : List Name) → left_types v xs ≡ option_map (map erased_type) (left_types w xs)
  left_types_kept [] = refl
  left_types_kept (x ∷ xs) =
      ap (λ (t : Option Ty). pair_types t (left_types v xs)) (seen_type w x)
      ∙ ap (λ (ts : Option (List Ty)). pair_types (option_map erased_type (type_of_variable w x)) ts) (left_types_kept xs)
      ∙ pair_kept (type_of_variable w x) (left_types w xs)

  fits_left_kept : (left : Option (List Ty)) (ts : List Ty) → fits_left w left ts ≡ true → fits_left v (option_map (map erased_type) left) (map erased_type ts) ≡ true
  fits_left_kept None ts h = refl
  fits_left_kept (Some left) ts h = all_same_kept left ts h

  branch_same : (ts : List Ty) → can_branch w ts ≡ true → map erased_type ts ≡ ts
  branch_same [] h = refl
  branch_same (t ∷ []) h = ap (λ (u : Ty). u ∷ []) (tagged_same t h)
  branch_same (t ∷ u ∷ us) h = cc

  gap_same : {A : Type 0} (cases : List (Case A)) → gap_faults v cases ≡ gap_faults w cases
  gap_same cases =
      ap (λ (h : Name → Bool). flat_map (λ c. fault c.place NotDefined (list_any (λ x. not (is_in x c.sets) && not (h x)) (flat_map (λ d. d.sets) cases))) cases) (fun_ext (last_same w))

  pub part_kept : (q : Part) → Clear (flat_map (total async_at) (expressions_of q)) → part_faults w q ≡ [] → part_faults v (erased_part q) ≡ []
  part_kept (Block_part ds equations) c h =
      let undefined : Decl → List Fault = λ d. fault d.place.0 NotDefined (not (is_in d.name (flat_map (λ c. c.sets) equations))) in
      let a = flat_map (decl_faults w) ds in
      let b = flat_map undefined ds in
      let s = second_definitions [] equations in
      let ab = nil_left (a ++ b) s h in
      nil_both (flat_map (decl_faults v) (map erased_decl ds) ++ flat_map undefined (map erased_decl ds)) s
      (nil_both (flat_map (decl_faults v) (map erased_decl ds)) (flat_map undefined (map erased_decl ds)) (flat_nil (decl_faults v) erased_decl (decl_faults w) (decl_kept w) ds (nil_left a b ab))
      (flat_same undefined erased_decl undefined (λ d. refl) ds ∙ nil_right a b ab)) (nil_right (a ++ b) s h)
  part_kept (Plain p left right) c h =
      let a = flat_map (left_faults w p) left in
      let s = seconds same [] (map (λ (x : Name). (p, x)) left) in
      let pass = fits_left w (left_types w left) in
      let pass' = fits_left v (left_types v left) in
      let d = demanded w p pass (judge_expr w right) in
      let hd = nil_right (a ++ s) d h in
      let as' = nil_left (a ++ s) d h in
      let r = expr_typed p pass right c hd in
      nil_both (flat_map (left_faults v p) left ++ s) (demanded v p pass' (judge_expr v (erased_expr right)))
      (nil_both (flat_map (left_faults v p) left) s (flat_pointwise (left_faults v p) (left_faults w p) (left_same p) left ∙ nil_left a s as') (nil_right a s as'))
      (demanded_kept p pass pass' (judge_expr w right) (judge_expr v (erased_expr right)) r.0 r.1 r.2
      (λ k. ap (λ (l : Option (List Ty)). fits_left v l (map erased_type r.0)) (left_types_kept left) ∙ fits_left_kept (left_types w left) r.0 k) hd)
  part_kept (Switch_part p on branches) c h =
      let o = one_type w (judge_expr w on).types in
      let o' = one_type v (judge_expr v (erased_expr on)).types in
      let d = demanded w p (can_branch w) (judge_expr w on) in
      let t = flat_map (λ c. tag_faults w c.place c.label o) branches in
      let t' = flat_map (λ c. tag_faults v c.place c.label o') branches in
      let s = seconds same_tag [] (labels branches) in
      let l = lack_faults w p (map (λ c. c.label) branches) o in
      let l' = lack_faults v p (map (λ c. c.label) branches) o' in
      let g = gap_faults w branches in
      let h4 = nil_left (d ++ t ++ s ++ l) g h in
      let h3 = nil_left (d ++ t ++ s) l h4 in
      let h2 = nil_left (d ++ t) s h3 in
      let hd = nil_left d t h2 in
      let r = expr_typed p (can_branch w) on c hd in
      let b = branch_same r.0 (passes p (can_branch w) (judge_expr w on) r.0 r.1 hd) in
      let e : judge_expr v (erased_expr on) ≡ judge_expr w on = r.2 ∙ ap (λ (ts : List Ty). clean ts) b ∙ sym r.1 in
      let i : o' ≡ o = ap (λ (j : Judged (List Ty)). one_type v j.types) e in
      let d' = demanded v p (can_branch v) (judge_expr v (erased_expr on)) in
      nil_both (d' ++ t' ++ s ++ l') (gap_faults v branches)
      (nil_both (d' ++ t' ++ s) l' (nil_both (d' ++ t') s (nil_both d' t' (ap (demanded v p (can_branch v)) e ∙ hd) (ap (λ (x : Option Ty). flat_map (λ c. tag_faults v c.place c.label x) branches) i ∙ nil_right d t h2)) (nil_right (d ++ t) s h3))
      (ap (λ (x : Option Ty). lack_faults v p (map (λ c. c.label) branches) x) i ∙ nil_right (d ++ t ++ s) l h4)) (gap_same branches ∙ nil_right (d ++ t ++ s ++ l) g h)
  part_kept (Reset_part p every sets) c h = bool_kept p every c h
  part_kept (Automaton_part p states) c h =
      let s = seconds same [] (labels states) in
      nil_both s (gap_faults v states) (nil_left s (gap_faults w states) h) (gap_same states ∙ nil_right s (gap_faults w states) h)
  part_kept (Transition strong states e) c h =
      let d = demanded w e.place.0 (is_bool w) (judge_expr w e.condition) in
      let u = fault e.place.0 UnknownName (not (is_in e.target states)) in
      nil_both (demanded v e.place.0 (is_bool v) (judge_expr v (erased_expr e.condition))) u (bool_kept e.place.0 e.condition c (nil_left d u h)) (nil_right d u h)
