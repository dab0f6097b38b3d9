-- The types of equations, once a subexpression is named.
use Rattle.std.proofs.Common.{◌≡◌, Bool, false, ◌&&◌, List, [], ◌∷◌, map, sym, ap, ◌∙◌, All, Option, Some}
use Rattle.std.specs.Prelude.{not}
use Rattle.std.specs.Option.{option_map}
use Rattle.std.proofs.lemmas.Bool.{or_parts}
use Rattle.hept_ast.specs.Texts.{Name, same, is_in}
use Rattle.hept_ast.specs.Parts.{declaration, inside}
use Rattle.hept_ast.specs.Types.{Fits}
use Rattle.hept_ast.specs.Faults.{FutureKept, Judged, Judging, fault, judged_by, left_types, pair_types, type_of_variable, var_judged}
use Rattle.hept_ast.specs.declared.tree.Core.{Core}
use Rattle.hept_ast.specs.declared.tree.CoreNode.{CoreNode}
use Rattle.hept_ast.specs.declared.tree.CoreEquation.{CoreEquation}
use Rattle.hept_ast.specs.declared.tree.Decl.{Decl}
use Rattle.hept_ast.specs.declared.tree.Expr.{Expr}
use Rattle.hept_ast.specs.declared.tree.Ty.{Ty}
use Rattle.hept_ast.specs.declared.tree.Ty.TheVariants as ty
use Rattle.hept_ast.specs.declared.tree.Plain.TheVariants.{Bool as Truth_value}
use Rattle.hept_ast.specs.declared.tree.TypeDec.{TypeDec}
use Rattle.hept_ast.proofs.JudgeOf.{judge_of, judge-Var}
use Rattle.core_rules.specs.Cores.{as_interface, core_decls, core_judging}
use Rattle.core_rules.specs.WellFormed.{IsTypedEquation, IsWellFormed}
use Rattle.core_naming.specs.Names.{IsNaming, new_equation, variable_at, with_right}
use Rattle.core_naming.specs.Ties.{mentions}
use Rattle.naming_rules.proofs.Shapes.{Each}
use Rattle.naming_rules.proofs.Lists.{each_from, each_to}
use Rattle.naming_rules.proofs.Mentions.{named_mentions_nothing_new}
use Rattle.naming_rules.proofs.CallsAlike.{judging_in, no_async}
use Rattle.naming_rules.proofs.JudgedAlike.{and_false, judged_alike, kept_none, left_same}
use Rattle.naming_rules.proofs.JudgedNamed.{judged_large, judged_named, named_no_faults}
use Rattle.naming_rules.proofs.InsideMoved.{NoLast, inside_changed, last_changed}
use Rattle.naming_rules.proofs.NodeCalls.{interfaces_alike}
use Rattle.naming_rules.proofs.Declarations.{seen_moved, seen_new}

judged_is : (j : Judged (List Ty)) (ts : List Ty) → j.types ≡ Some ts → j.faults ≡ [] → j ≡ record { types = Some ts; faults = [] }
judged_is j ts e h = λ i. record { types = e i; faults = h i }

module _ (core other : Core) (n : IsNaming core other) where
  judging_is : (m : CoreNode) → core_judging other m ≡ judging_in core.types (map as_interface other.nodes) (as_interface m) (core_decls m)
  judging_is m = ap (λ (types : List TypeDec). judging_in types (map as_interface other.nodes) (as_interface m) (core_decls m)) n.types

  -- a node, and what it is in the other core, which declares the same but for the new variable
  module _ (m k : CoreNode) (name : k.name ≡ m.name) (seen : (y : Name) → same n.x y ≡ false → declaration (core_decls k) y ≡ declaration (core_decls m) y) where
    pub judge_kept : (e : Expr) (under : Bool) → is_in n.x (mentions e) ≡ false → judge_of (core_judging other k) under e ≡ judge_of (core_judging core m) under e
    judge_kept e under f =
        ap (λ (w : Judging). judge_of w under e) (judging_is k)
        ∙ judged_alike core.types (map as_interface core.nodes) (map as_interface other.nodes) (interfaces_alike core other n) (no_async core.nodes) (no_async other.nodes) (as_interface m) (as_interface k) name
        (core_decls m) (core_decls k) n.x seen e under f

    type_kept : (y : Name) → same n.x y ≡ false → type_of_variable (core_judging other k) y ≡ type_of_variable (core_judging core m) y
    type_kept y f = ap (option_map (λ (d : Decl). d.ty)) (seen y f)

    left_kept : (ys : List Name) → is_in n.x ys ≡ false → left_types (core_judging other k) ys ≡ left_types (core_judging core m) ys
    left_kept ys f =
        ap (λ (w : Judging). left_types w ys) (judging_is k)
        ∙ left_same core.types (map as_interface core.nodes) (map as_interface other.nodes) (interfaces_alike core other n) (no_async core.nodes) (no_async other.nodes) (as_interface m) (as_interface k) name
        (core_decls m) (core_decls k) n.x seen ys f

    each_kept : (ys : List Name) → is_in n.x ys ≡ false → Each (λ y. type_of_variable (core_judging core m) y ≡ Some (ty.Plain Truth_value)) ys →
        Each (λ y. type_of_variable (core_judging other k) y ≡ Some (ty.Plain Truth_value)) ys
    each_kept [] f h = tt
    each_kept (y ∷ ys) f h = let q = or_parts (same n.x y) (is_in n.x ys) f in (type_kept y q.0 ∙ h.0, each_kept ys q.1 h.1)

    resets_kept : (ys : List Name) → is_in n.x ys ≡ false → All (λ y. type_of_variable (core_judging core m) y ≡ Some (ty.Plain Truth_value)) ys →
        All (λ y. type_of_variable (core_judging other k) y ≡ Some (ty.Plain Truth_value)) ys
    resets_kept ys f h =
        each_to (λ y. type_of_variable (core_judging other k) y ≡ Some (ty.Plain Truth_value)) ys
        (each_kept ys f (each_from (λ y. type_of_variable (core_judging core m) y ≡ Some (ty.Plain Truth_value)) ys h))

    pub typed_kept : (e : CoreEquation) → is_in n.x (mentions e.right) ≡ false → is_in n.x e.left ≡ false → is_in n.x e.resets ≡ false → IsTypedEquation core m e → IsTypedEquation other k e
    typed_kept e f g r h = record {
      faults = ap (λ (j : Judged (List Ty)). j.faults) (judge_kept e.right false f) ∙ h.faults;
      types = h.types;
      right = ap (λ (j : Judged (List Ty)). j.types) (judge_kept e.right false f) ∙ h.right;
      left = left_kept e.left g ∙ h.left;
      last = h.last;
      resets = resets_kept e.resets r h.resets;
    }

module _ (core other : Core) (well : IsWellFormed core) (n : IsNaming core other) where
  abbrev w : Judging
  w = core_judging core n.node

  abbrev v : Judging
  v = core_judging other n.moved

  abbrev old : CoreEquation
  old = n.step.equation

  abbrev changed : CoreEquation
  changed = with_right old n.step.right

  abbrev new : CoreEquation
  new = new_equation n.x n.a n.d old.resets

  judge_moved : (e : Expr) (under : Bool) → is_in n.x (mentions e) ≡ false → judge_of v under e ≡ judge_of w under e
  judge_moved e under f = judge_kept core other n n.node n.moved n.step.name (seen_moved core other well n) e under f

  abbrev given : Judged (List Ty)
  given = record { types = Some (n.t ∷ []); faults = [] }

  module _ (typed : IsTypedEquation core n.node old) where
    named_judged : (under : Bool) → judge_of v under n.a ≡ given
    named_judged under =
        judged_large v n.a n.large under
        ∙ judge_moved n.a false (named_mentions_nothing_new core other well n)
        ∙ judged_is (judge_of w false n.a) (n.t ∷ []) n.typed (named_no_faults w n.x n.a n.d n.large old.clock.steps old.right n.step.right n.step.named false typed.faults)

    type_new : type_of_variable v n.x ≡ Some n.t
    type_new = ap (option_map (λ (d : Decl). d.ty)) (seen_new core other well n)

    variable_judged : (under : Bool) → judge_of v under (variable_at n.a.place n.x) ≡ given
    variable_judged under =
        judge-Var v under n.a.place.0 n.x
        ∙ ap (var_judged v n.a.place.0 under n.x) type_new
        ∙ ap (λ (b : Bool). judged_by n.a.place.0 (fault n.a.place.0 FutureKept (not under && b)) (Fits (n.t ∷ []))) (kept_none v (no_async other.nodes) n.x n.t)
        ∙ ap (λ (b : Bool). judged_by n.a.place.0 (fault n.a.place.0 FutureKept b) (Fits (n.t ∷ []))) (and_false (not under))

    changed_judged : judge_of v false n.step.right ≡ judge_of v false old.right
    changed_judged = judged_named v n.x n.a n.d n.large (λ under. variable_judged under ∙ sym (named_judged under)) old.clock.steps old.right n.step.right n.step.named false

    no_last : Each NoLast (inside n.step.right) × Each NoLast (inside n.a)
    no_last =
        last_changed n.x n.a n.d (inside old.right) (inside n.step.right) (inside_changed n.x n.a n.d old.clock.steps old.right n.step.right n.step.named) (each_from NoLast (inside old.right) typed.last)

    module _ (moved : IsTypedEquation other n.moved old) where
      pub changed_typed : IsTypedEquation other n.moved changed
      changed_typed = record {
        faults = ap (λ (j : Judged (List Ty)). j.faults) changed_judged ∙ moved.faults;
        types = moved.types;
        right = ap (λ (j : Judged (List Ty)). j.types) changed_judged ∙ moved.right;
        left = moved.left;
        last = each_to NoLast (inside n.step.right) no_last.0;
        resets = moved.resets;
      }

      pub new_typed : IsTypedEquation other n.moved new
      new_typed = record {
        faults = ap (λ (j : Judged (List Ty)). j.faults) (named_judged false);
        types = n.t ∷ [];
        right = ap (λ (j : Judged (List Ty)). j.types) (named_judged false);
        left = ap (λ (t : Option Ty). pair_types t (Some [])) type_new;
        last = each_to NoLast (inside n.a) no_last.1;
        resets = moved.resets;
      }
