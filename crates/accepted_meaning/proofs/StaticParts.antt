-- A part without faults, whose conditions of clocks and demands are met, is sound.
use Rattle.std.proofs.Common.{◌≡◌, ℕ, Bool, true, false, not, ◌&&◌, if◌then◌else◌, List, [], ◌∷◌, ◌++◌, map, refl, sym, ap, subst, ◌∙◌, All, Contains, ◌⊎◌, inl, inr, Option, Some, None, is_some, option_to_list}
use Rattle.std.specs.List.{list_any, flat_map, filter_map, cons_option}
use Rattle.std.specs.Option.{option_map, option_map_or, option_and_then}
use Rattle.std.proofs.lemmas.Bool.{false≢true}
use Rattle.std.proofs.lemmas.List.Elements.{All-nil, All-cons, All-contains}
use Rattle.std.proofs.lemmas.Map.Views.{Contains-from_any}
use Rattle.hept_ast.specs.Texts.{Name, same, is_in}
use Rattle.hept_ast.specs.Scopes.{Clock}
use Rattle.hept_ast.specs.Parts.{Case, Part, Block, Plain, Switch, Reset, Automaton, Transition, Surroundings, seen_at, declaration, inside, expressions_of, declared_in}
use Rattle.hept_ast.specs.Clocks.{Assignment, Base, Condition, Meets, Of, Term, clock, declared_on_base, defined, equal, expression, on_base, own_names, part_conditions, term_of}
use Rattle.hept_ast.specs.Initial.{Grades, unmet_decl, unmet_expr, unmet_outside, unmet_part}
use Rattle.hept_ast.specs.Types.{Plain_type, bool, has_tags, same_tag, type_of_const}
use Rattle.hept_ast.specs.Faults.{Duplicate, Judged, Judging, Mismatch, NotDefined, UnknownName, can_branch, const_fits, decl_faults, demanded, fault, fits_left, gap_faults, has_last, init_faults, is_bool, labels, lack_faults, left_faults, left_types, one_type, pair_types, part_faults, second_definitions, seconds, tag_faults, unknown_tag, unknown_variable}
use Rattle.hept_ast.specs.declared.tree.Decl.{Decl}
use Rattle.hept_ast.specs.declared.tree.Init.{Init}
use Rattle.hept_ast.specs.declared.tree.Expr.{Expr}
use Rattle.hept_ast.specs.declared.tree.Tag.{Tag}
use Rattle.hept_ast.specs.declared.tree.Ty.{Ty}
use Rattle.hept_ast.specs.declared.tree.Ty.TheVariants as ty
use Rattle.hept_ast.proofs.JudgeOf.{judge_of}
use Rattle.accepted_meaning.specs.Ranges.{FitsInit}
use Rattle.sound_expressions.specs.Sound.{Within, Sees, Sound}
use Rattle.accepted_meaning.specs.SoundNodes.{SoundInit, SoundLeft, no_left, a_left, all_sets, HasNoGap, AreSoundCases, SoundSwitch, SoundCondition, SoundPart}
use Rattle.sound_expressions.specs.Demands.{NoTagTwice}
use Rattle.sound_expressions.proofs.Lists.{no_tag_twice, nil_left, nil_right, none_of, no_fault, any_false, same_is, same_type_is, same_types_is}
use Rattle.sound_expressions.specs.Demands.{Demanded, assigned, judging_at}
use Rattle.sound_expressions.proofs.Expressions.{meets_left, meets_right, all_left, is_met, found, tag_is, all_tags, expression_sound}

-- ---- lists

all_meet : {X : Type 0} (a : Assignment) (f : X → List Condition) (xs : List X) → Meets a (flat_map f xs) → All (λ x. Meets a (f x)) xs
all_meet a f [] h = All-nil (λ x. Meets a (f x))
all_meet a f (x ∷ xs) h = All-cons (λ x. Meets a (f x)) x xs (meets_left a (f x) _ h) (all_meet a f xs (meets_right a (f x) _ h))

pub each_meets : {X : Type 0} (a : Assignment) (f : X → List Condition) (xs : List X) (x : X) → Meets a (flat_map f xs) → Contains xs x → Meets a (f x)
each_meets a f xs x h at = All-contains (λ x. Meets a (f x)) xs x (all_meet a f xs h) at

pub among : (x : Name) (xs : List Name) → is_in x xs ≡ true → Contains xs x
among x xs h = Contains-from_any same_is x xs h

name_by : (x : Name) (c d : Decl) (b : Bool) (rest : Option Decl) → same x c.name ≡ b → (rest ≡ Some d → x ≡ d.name) → (if b then Some c else rest) ≡ Some d → x ≡ d.name
name_by x c d true rest h later e = same_is x c.name h ∙ ap (λ (z : Decl). z.name) (some_is e)
  where
    some_is : Some c ≡ Some d → c ≡ d
    some_is e = cc
name_by x c d false rest h later e = later e

pub declaration_name : (ds : List Decl) (x : Name) (d : Decl) → declaration ds x ≡ Some d → x ≡ d.name
declaration_name [] x d e = cc
declaration_name (c ∷ ds) x d e = name_by x c d (same x c.name) (declaration ds x) refl (declaration_name ds x d) e

label_tags : (cases : List (Case Tag)) → map (λ q. q.1) (labels cases) ≡ map (λ c. c.label) cases
label_tags [] = refl
label_tags (c ∷ cs) = ap (λ l. c.label ∷ l) (label_tags cs)

not_true : (b : Bool) → not b ≡ false → b ≡ true
not_true true h = refl
not_true false h = absurd (false≢true (sym h))

-- ---- demands of what cases define

outside_step : (g : Grades) (seen : List Decl) (x : Name) (o : Option Decl) (rest : List Decl) → declaration seen x ≡ o → flat_map (unmet_decl g) (cons_option o rest) ≡ [] →
    (flat_map (unmet_decl g) rest ≡ []) × ((d : Decl) → declaration seen x ≡ Some d → g x ≡ false)
outside_step g seen x None rest is e = (e, λ d h. absurd (none_some d (sym is ∙ h)))
  where
    none_some : (d : Decl) → None ≡ Some d → ⊥
    none_some d e = cc
outside_step g seen x (Some c) rest is e =
    (nil_right (unmet_decl g c) _ e, λ d h. subst (λ (z : Name). g z ≡ false) (sym (declaration_name seen x c is)) (is_met c.place.0 _ (nil_left (unmet_decl g c) _ e)))

outside_met : (g : Grades) (seen : List Decl) (xs : List Name) → unmet_outside g seen xs ≡ [] → All (λ x. (d : Decl) → declaration seen x ≡ Some d → g x ≡ false) xs
outside_met g seen [] e = All-nil (λ x. (d : Decl) → declaration seen x ≡ Some d → g x ≡ false)
outside_met g seen (x ∷ xs) e =
    let (rest, h) = outside_step g seen x (declaration seen x) (filter_map (declaration seen) xs) refl e in
    All-cons (λ x. (d : Decl) → declaration seen x ≡ Some d → g x ≡ false) x xs h (outside_met g seen xs rest)

pub defined_outside : (g : Grades) (seen : List Decl) (xs : List Name) → unmet_outside g seen xs ≡ [] → (x : Name) (d : Decl) → is_in x xs ≡ true → declaration seen x ≡ Some d → g x ≡ false
defined_outside g seen xs e x d h is = All-contains (λ x. (d : Decl) → declaration seen x ≡ Some d → g x ≡ false) xs x (outside_met g seen xs e) (among x xs h) d is

-- ---- declarations

init_of : (k : Within) (w : Judging) → w.types ≡ k.types → (d : Decl) (o : Option Init) → FitsInit o → init_faults w d o ≡ [] → (is_some o ≡ true → k.clock d.name ≡ []) → (is_some o ≡ true → k.grade d.name ≡ false) → SoundInit k d o
init_of k w same_types_there d None number e base met = tt
init_of k w same_types_there d (Some i) number e base met =
    let s = type_of_const w.types i.value in
    let (plain, is) = found s (no_fault d.place.0 UnknownName _ (nil_left _ _ e)) in
    let fit = not_true _ (no_fault d.place.0 Mismatch _ (nil_right (fault d.place.0 UnknownName (not (is_some s))) _ e)) in
    record {
      plain = plain;
      known = sym (ap (λ types. type_of_const types i.value) same_types_there) ∙ is;
      number = number;
      fits = fits_of plain i.ready (subst (λ (o : Option Plain_type). const_fits w d.ty i.ready o ≡ true) is fit);
      base = base refl;
      defined = met refl;
    }
  where
    fits_of : (plain : Plain_type) (ready : Bool) → const_fits w d.ty ready (Some plain) ≡ true → (d.ty ≡ ty.Plain plain) ⊎ (d.ty ≡ ty.Future plain)
    fits_of plain true h = inr (sym (same_type_is (ty.Future plain) d.ty h))
    fits_of plain false h = inl (sym (same_type_is (ty.Plain plain) d.ty h))

pub init_sound : (k : Within) (w : Judging) → w.types ≡ k.types → (d : Decl) → FitsInit d.init → decl_faults w d ≡ [] → (is_some d.init ≡ true → k.clock d.name ≡ []) → (is_some d.init ≡ true → k.grade d.name ≡ false) → SoundInit k d d.init
init_sound k w same_types_there d number e base met = init_of k w same_types_there d d.init number (nil_right _ (init_faults w d d.init) e) base met

-- ---- parts

module _ (k : Within) (site : Surroundings) (strong : Bool) (numbers : ℕ → Clock) where
  abbrev w : Judging
  w = judging_at k site strong k.node

  abbrev a : Assignment
  a = assigned k numbers

  abbrev own : List Name
  own = own_names k.node site

  abbrev seen : List Decl
  seen = seen_at k.node site

  right_sound : (e : Expr) (n : ℕ) → (judge_of w false e).faults ≡ [] → Meets a (expression own n e.place.0 e.form) → All (Demanded k site) (inside e) →
      (ts : List Ty) × ((judge_of w false e).types ≡ Some ts) × Sound k site e (clock a (term_of own n e.form)) ts
  right_sound e n f meets d = expression_sound k site strong k.node refl numbers e false n f meets d

  base_sound : (e : Expr) (n : ℕ) → (judge_of w false e).faults ≡ [] → Meets a (on_base own n e) → All (Demanded k site) (inside e) →
      (ts : List Ty) × ((judge_of w false e).types ≡ Some ts) × Sound k site e [] ts
  base_sound e n f meets d =
      let (ts, t, s) = right_sound e n f meets.1 d in
      (ts, t, subst (λ (c : Clock). Sound k site e c ts) meets.0 s)

  passed : (p : ℕ) (pass : List Ty → Bool) (j : Judged (List Ty)) (ts : List Ty) → demanded w p pass j ≡ [] → j.types ≡ Some ts → pass ts ≡ true
  passed p pass j ts e h = sym (ap (λ (o : Option (List Ty)). option_map_or pass o true) h) ∙ not_true _ (no_fault p Mismatch _ (nil_left _ j.faults e))

  below_demanded : (p : ℕ) (pass : List Ty → Bool) (j : Judged (List Ty)) → demanded w p pass j ≡ [] → j.faults ≡ []
  below_demanded p pass j e = nil_right (fault p Mismatch (not (option_map_or pass j.types true))) j.faults e

  condition_sound : (p : ℕ) (e : Expr) (n : ℕ) → demanded w p (is_bool w) (judge_of w false e) ≡ [] → Meets a (on_base own n e) → All (Demanded k site) (inside e) → unmet_expr k.grade e ≡ [] → SoundCondition k site e
  condition_sound p e n f meets d met =
      let (ts, t, s) = base_sound e n (below_demanded p (is_bool w) (judge_of w false e) f) meets d in
      record {
        sound = subst (λ (us : List Ty). Sound k site e [] us) (sym (same_types_is bool ts (passed p (is_bool w) (judge_of w false e) ts f t))) s;
        defined = is_met e.place.0 _ met;
      }

  -- ---- left sides

  left_seen : (p : ℕ) (x : Name) (right : Term) (d : Decl) → declaration seen x ≡ Some d → Meets a (defined own p right x) → Sees k site x d (clock a right)
  left_seen p x right d is meets = go (is_in x own) refl meets
    where
      go : (b : Bool) → is_in x own ≡ b → Meets a (if b then equal p (Of x) right else equal p (Of x) Base ++ equal p right Base) → Sees k site x d (clock a right)
      go true h m = record { declared = is; here = ap (λ b. if b then k.clock x else []) h ∙ m.0; outer = inl h }
      go false h m = record { declared = is; here = ap (λ b. if b then k.clock x else []) h ∙ sym m.1.0; outer = inr m.0 }

  left_sound : (p : ℕ) (right : Term) (left : List Name) → flat_map (left_faults w p) left ≡ [] → Meets a (flat_map (defined own p right) left) →
      (tys : List Ty) × (left_types w left ≡ Some tys) × SoundLeft k site (clock a right) left tys
  left_sound p right [] e meets = ([], refl, no_left)
  left_sound p right (x ∷ xs) e meets =
      let here = nil_left (left_faults w p x) _ e in
      let (d, is) = found (declaration seen x) (no_fault p UnknownName _ (nil_left (unknown_variable w p x) _ here)) in
      let input = no_fault p Duplicate _ (nil_right (unknown_variable w p x) _ here) in
      let (tys, t, s) = left_sound p right xs (nil_right (left_faults w p x) _ e) (meets_right a (defined own p right x) _ meets) in (
        d.ty ∷ tys,
        ap (λ (o : Option Decl). pair_types (option_map (λ (c : Decl). c.ty) o) (left_types w xs)) is ∙ ap (λ (o : Option (List Ty)). pair_types (Some d.ty) o) t,
        a_left (left_seen p x right d is (meets_left a (defined own p right x) _ meets)) input s,
      )

  -- ---- cases

  no_gap : {A : Type 0} (cases : List (Case A)) → gap_faults w cases ≡ [] → HasNoGap k site cases
  no_gap {A} cases e c x at h =
      let one = none_of (λ (c : Case A). fault c.place NotDefined (list_any (λ y. not (is_in y c.sets) && not (has_last w y)) (all_sets cases))) cases e c at in
      let test = All-contains (λ (y : Name). not (is_in y c.sets) && not (has_last w y) ≡ false) (all_sets cases) x (any_false (λ y. not (is_in y c.sets) && not (has_last w y)) (all_sets cases) (no_fault c.place NotDefined _ one)) (among x (all_sets cases) h) in
      go (is_in x c.sets) refl test
    where
      last_of : (o : Option Decl) → declaration seen x ≡ o → is_some (option_and_then (λ (d : Decl). d.init) o) ≡ true → (d : Decl) × (declaration seen x ≡ Some d) × (is_some d.init ≡ true)
      last_of None is l = absurd (false≢true l)
      last_of (Some d) is l = (d, is, l)

      go : (b : Bool) → is_in x c.sets ≡ b → not b && not (has_last w x) ≡ false → (is_in x c.sets ≡ true) ⊎ ((d : Decl) × (declaration (seen_at k.node site) x ≡ Some d) × (is_some d.init ≡ true))
      go true is t = inl is
      go false is t = inr (last_of (declaration seen x) refl (not_true (has_last w x) t))

  cases_sound : {A : Type 0} (cases : List (Case A)) → gap_faults w cases ≡ [] → Meets a (declared_on_base own seen (all_sets cases)) → unmet_outside k.grade seen (all_sets cases) ≡ [] → AreSoundCases k site cases
  cases_sound cases e meets met = (λ x d h is. (base x d h is, defined_outside k.grade seen (all_sets cases) met x d h is), no_gap cases e)
    where
      base : (x : Name) (d : Decl) → is_in x (all_sets cases) ≡ true → declaration seen x ≡ Some d → k.clock x ≡ []
      base x d h is =
          let m = each_meets a (λ (y : Name). flat_map (λ (c : Decl). equal c.place.0 (Of y) Base) (option_to_list (declaration seen y))) (all_sets cases) x meets (among x (all_sets cases) h) in
          (subst (λ (o : Option Decl). Meets a (flat_map (λ (c : Decl). equal c.place.0 (Of x) Base) (option_to_list o))) is m).0

  one_type_of : (ts : List Ty) → can_branch w ts ≡ true → (t : Ty) × (ts ≡ t ∷ []) × (has_tags t ≡ true)
  one_type_of [] h = absurd (false≢true h)
  one_type_of (t ∷ []) h = (t, refl, h)
  one_type_of (t ∷ u ∷ us) h = absurd (false≢true h)

  switch_sound : (p : ℕ) (on : Expr) (cases : List (Case Tag)) (n : ℕ) → part_faults w (Switch p on cases) ≡ [] → Meets a (part_conditions own seen n (Switch p on cases)) →
      All (Demanded k site) (inside on) → unmet_part k.grade seen (Switch p on cases) ≡ [] → SoundSwitch k site on cases
  switch_sound p on cases n e meets d met =
      let j = judge_of w false on in
      let type = one_type w j.types in
      let first = demanded w p (can_branch w) j in
      let tags = λ (o : Option Ty). flat_map (λ (c : Case Tag). tag_faults w c.place c.label o) cases in
      let twice = seconds same_tag [] (labels cases) in
      let lack = λ (o : Option Ty). lack_faults w p (map (λ (c : Case Tag). c.label) cases) o in
      let e4 : first ++ tags type ++ twice ++ lack type ≡ [] = nil_left (first ++ tags type ++ twice ++ lack type) (gap_faults w cases) e in
      let e3 : first ++ tags type ++ twice ≡ [] = nil_left (first ++ tags type ++ twice) (lack type) e4 in
      let e2 : first ++ tags type ≡ [] = nil_left (first ++ tags type) twice e3 in
      let e1 : first ≡ [] = nil_left first (tags type) e2 in
      let (ts, t, s) = base_sound on n (below_demanded p (can_branch w) j e1) (meets_right a (declared_on_base own seen (all_sets cases)) _ meets) d in
      let (t1, one, with_tags) = one_type_of ts (passed p (can_branch w) j ts e1 t) in
      let type_is = ap (one_type w) t ∙ ap (λ (us : List Ty). one_type w (Some us)) one in
      let tags_ok = subst (λ (o : Option Ty). tags o ≡ []) type_is (nil_right first (tags type) e2) in
      let lack_ok = subst (λ (o : Option Ty). lack o ≡ []) type_is (nil_right (first ++ tags type ++ twice) (lack type) e4) in
      record {
        type = t1;
        sound = subst (λ (us : List Ty). Sound k site on [] us) one s;
        tagged = with_tags;
        defined = is_met on.place.0 _ (nil_left (unmet_expr k.grade on) _ met);
        tags = λ c at.
            let f = none_of (λ (c : Case Tag). tag_faults w c.place c.label (Some t1)) cases tags_ok c at in
            let known = no_fault c.place UnknownName (unknown_tag w c.label) (nil_left _ _ f) in
            let fits = not_true _ (no_fault c.place Mismatch _ (nil_right (fault c.place UnknownName (unknown_tag w c.label)) _ f)) in
            tag_is k w refl c.label t1 known fits with_tags;
        all = all_tags w p (map (λ (c : Case Tag). c.label) cases) t1 lack_ok;
        once = subst NoTagTwice (label_tags cases) (no_tag_twice (labels cases) (nil_right (first ++ tags type) twice e3));
        sound_cases = cases_sound cases (nil_right (first ++ tags type ++ twice ++ lack type) (gap_faults w cases) e) (meets_left a (declared_on_base own seen (all_sets cases)) _ meets) (nil_right (unmet_expr k.grade on) _ met);
      }

  block_sound : (ds : List Decl) (equations : List (Case (Unit {0}))) (n : ℕ) → All (λ (d : Decl). FitsInit d.init) ds → part_faults w (Block ds equations) ≡ [] → Meets a (part_conditions own seen n (Block ds equations)) →
      unmet_part k.grade seen (Block ds equations) ≡ [] → SoundPart k site (Block ds equations)
  block_sound ds equations n small e meets met d at =
      let e2 = nil_left _ (second_definitions [] equations) e in
      let declared = none_of (decl_faults w) ds (nil_left _ _ e2) d at in
      let sets = none_of (λ (d : Decl). fault d.place.0 NotDefined (not (is_in d.name (flat_map (λ (c : Case (Unit {0})). c.sets) equations)))) ds (nil_right (flat_map (decl_faults w) ds) _ e2) d at in
      (init_sound k w refl d (All-contains (λ (d : Decl). FitsInit d.init) ds d small at) declared base defined_here, not_true _ (no_fault d.place.0 NotDefined _ sets))
    where
      base : is_some d.init ≡ true → k.clock d.name ≡ []
      base h = (subst (λ (b : Bool). Meets a (if b then equal d.place.0 (Of d.name) Base else [])) h (each_meets a (λ (d : Decl). if is_some d.init then equal d.place.0 (Of d.name) Base else []) ds d meets at)).0

      defined_here : is_some d.init ≡ true → k.grade d.name ≡ false
      defined_here h = is_met d.place.0 _ (subst (λ (b : Bool). (if b then unmet_decl k.grade d else []) ≡ []) h (none_of (λ (d : Decl). if is_some d.init then unmet_decl k.grade d else []) ds met d at))

  pub part_sound : (q : Part) (n : ℕ) → All (λ (d : Decl). FitsInit d.init) (declared_in q) → part_faults w q ≡ [] → Meets a (part_conditions own seen n q) → All (Demanded k site) (flat_map inside (expressions_of q)) → unmet_part k.grade seen q ≡ [] → SoundPart k site q
  part_sound (Block ds equations) n small e meets d met = block_sound ds equations n small e meets met
  part_sound (Plain p left right) n small e meets d met =
      let j = judge_of w false right in
      let first = flat_map (left_faults w p) left in
      let twice = seconds same [] (map (λ (x : Name). (p, x)) left) in
      let demand = demanded w p (fits_left w (left_types w left)) j in
      let e2 : first ++ twice ≡ [] = nil_left (first ++ twice) demand e in
      let e3 : demand ≡ [] = nil_right (first ++ twice) demand e in
      let term = term_of own n right.form in
      let (tys, t, s) = left_sound p term left (nil_left first twice e2) (meets_left a (flat_map (defined own p term) left) _ meets) in
      let (ts, u, r) = right_sound right n (below_demanded p _ j e3) (meets_right a (flat_map (defined own p term) left) _ meets) (all_left (Demanded k site) (inside right) [] d) in
      let pass = passed p (fits_left w (left_types w left)) j ts e3 u in
      let same_ts = same_types_is tys ts (subst (λ (o : Option (List Ty)). fits_left w o ts ≡ true) t pass) in
      (clock a term, ts, r, subst (SoundLeft k site (clock a term) left) same_ts s)
  part_sound (Switch p on cases) n small e meets d met = switch_sound p on cases n e meets (all_left (Demanded k site) (inside on) [] d) met
  part_sound (Reset p every sets) n small e meets d met =
      (condition_sound p every n e meets (all_left (Demanded k site) (inside every) [] d) (nil_left (unmet_expr k.grade every) _ met), defined_outside k.grade seen sets (nil_right (unmet_expr k.grade every) _ met))
  part_sound (Automaton p cases) n small e meets d met = cases_sound cases (nil_right _ (gap_faults w cases) e) meets met
  part_sound (Transition strong_one states t) n small e meets d met =
      let demand = demanded w t.place.0 (is_bool w) (judge_of w false t.condition) in
      (condition_sound t.place.0 t.condition n (nil_left demand _ e) meets (all_left (Demanded k site) (inside t.condition) [] d) met, not_true _ (no_fault t.place.0 UnknownName _ (nil_right demand _ e)))
