-- The example has the static facts, and the premises of the laws can be met.
use Rattle.std.proofs.Common.{◌≡◌, ◌⊎◌, inl, inr, ℕ, Bool, true, false, ◌||◌, if◌then◌else◌, ◌==◌, IsTrue, List, [], ◌∷◌, ◌++◌, map, refl, sym, ap, subst, arith, ◌∙◌, Some, None, pos, rules, w32}
use Rattle.std.specs.Prelude.{codes, All, Contains}
use Rattle.std.proofs.lemmas.Bool.{false≢true}
use Rattle.std.proofs.lemmas.List.Elements.{All-cons, All-nil, All-from_recursion}
use mir.Val.{SFits}
use Rattle.hept_ast.specs.declared.tree.Tag.TheVariants as tag
use Rattle.std.specs.List.{list_all, list_any}
use Rattle.hept_ast.specs.Texts.{Name, same, is_in, names}
use Rattle.hept_ast.specs.Parts.{declaration, inside}
use Rattle.hept_ast.specs.Faults.{calls_lead, calls_of, type_of_variable}
use Rattle.hept_ast.specs.Scopes.{Clock, equation_of}
use Rattle.hept_ast.specs.Types.{is_plain, same_tag, tags_of, types_of}
use Rattle.hept_ast.specs.declared.tree.CoreNode.{CoreNode}
use Rattle.hept_ast.specs.declared.tree.CoreEquation.{CoreEquation}
use Rattle.hept_ast.specs.declared.tree.Decl.{Decl}
use Rattle.hept_ast.specs.declared.tree.Expr.{Expr}
use Rattle.hept_ast.specs.declared.tree.Tag.{Tag}
use Rattle.hept_ast.specs.declared.tree.Ty.TheVariants as ty
use Rattle.hept_ast.specs.declared.tree.Plain.TheVariants.{Int, Bool as Truth_value}
use Rattle.hept_ast.specs.declared.tree.Form.{out-Form}
use Rattle.hept_ast.specs.declared.tree.Form.TheBlock.{shown-the_row-Expr-0, shown-the_row-Expr-2, shown-the_row-MergeBranch-1}
use Rattle.hept_ast.specs.TypedValues.{FitsConst}
use Rattle.hept_ast.specs.declared.tree.Const.TheVariants.{Number}
use Rattle.hept_ast.proofs.Unfolded.{static}
use denote.Hole.Carrier
use Rattle.hept_ast.specs.declared.tree.Node.{Node}
use Rattle.core_facts.specs.Static.{GivesNoFuture, StaticCore, StaticExpr, StaticEquation, StaticNode}
use Rattle.core_facts.specs.Undefined.{lists_of, lists_row}
use Rattle.core_rules.specs.Cores.{as_interface, as_node, core_clock, core_decls, core_judging, lefts_of}
use Rattle.core_rules.specs.WellFormed.{CallsNode, IsClockedEquation, IsNoLast, IsTypedEquation, IsWellFormedNode}
use Rattle.core_rules.proofs.SumCore.{differ}
use Rattle.core_naming.specs.Normal.{AreNormal, IsNormalRight, is_simple, is_step, operands, plain, step}
use Rattle.schedule.specs.Order.{IsOrdered, IsOrderedNode}
use Rattle.sound_expressions.proofs.Forms.{out_Arrow, out_AsyncCall, out_Binary, out_Call, out_Const, out_Get, out_Merge, out_Pre, out_Var, out_When}
use Rattle.core_facts.specs.Undefined.{Allows, Among, AreIn, Grades, first, next}
use Rattle.core_fitting.specs.Sound.{IsProper, Reads, Sound, SoundCore, SoundEquation, SoundInterface, SoundNode, SoundResets, Within, a_branch, an_argument, async, base, expressions_in, is_arrow, is_binary, is_call, is_constant, is_get, is_merge, is_pre, is_result, is_variable, is_when, no_arguments, no_branches, one_more, one_name, sync, within}
use Rattle.fitting_example.specs.Examples.{ExampleIsFit, e_arrow, e_async, e_call, e_get, e_merge, e_pre, e_when, example_core, if_false, if_true, main_node, next_node, next_sum, var, torn_arrow, torn_core, torn_node, torn_pre}
use Rattle.core_fitting.proofs.NamesRead.{only}
use Rattle.core_fitting.proofs.Lists.{EachOf, each_declared, each_named, each_of, in_order}

-- ---- well formed

next_sum_typed : IsTypedEquation example_core next_node next_sum
unfolding static out-Form Carrier.out
next_sum_typed = record {
  faults = refl;
  types = ty.Plain Int ∷ [];
  right = refl;
  left = refl;
  last = All-from_recursion (λ (x : Expr). IsNoLast (out-Form x.form)) (inside next_sum.right) (tt, (tt, (tt, tt)));
  resets = All-nil (λ x. type_of_variable (core_judging example_core next_node) x ≡ Some (ty.Plain Truth_value));
}

next_sum_clocked : IsClockedEquation next_node next_sum
unfolding static
next_sum_clocked = record { numbers = λ n. []; right = refl; meets = (refl, (refl, tt)) }

next_sum_normal : IsNormalRight next_sum.right
unfolding static out-Form Carrier.out
next_sum_normal = plain (All-from_recursion (λ (x : Expr). is_step (out-Form x.form) ≡ false) (inside next_sum.right) (refl, (refl, (refl, tt))))

e_pre_typed : IsTypedEquation example_core main_node e_pre
unfolding static out-Form Carrier.out
e_pre_typed = record {
  faults = refl;
  types = ty.Plain Int ∷ [];
  right = refl;
  left = refl;
  last = All-from_recursion (λ (x : Expr). IsNoLast (out-Form x.form)) (inside e_pre.right) (tt, (tt, tt));
  resets = All-from_recursion (λ (x : Name). type_of_variable (core_judging example_core main_node) x ≡ Some (ty.Plain Truth_value)) (codes "b" ∷ []) (refl, tt);
}

e_pre_clocked : IsClockedEquation main_node e_pre
unfolding static
e_pre_clocked = record { numbers = λ n. []; right = refl; meets = (refl, tt) }

e_pre_normal : IsNormalRight e_pre.right
unfolding static out-Form Carrier.out Carrier.shown Carrier.hidden shown-the_row-Expr-0 shown-the_row-Expr-2
e_pre_normal = step refl (All-from_recursion (λ (a : Expr). IsTrue (is_simple (out-Form a.form))) (operands (out-Form e_pre.right.form)) (refl, tt))

e_arrow_typed : IsTypedEquation example_core main_node e_arrow
unfolding static out-Form Carrier.out
e_arrow_typed = record {
  faults = refl;
  types = ty.Plain Int ∷ [];
  right = refl;
  left = refl;
  last = All-from_recursion (λ (x : Expr). IsNoLast (out-Form x.form)) (inside e_arrow.right) (tt, (tt, (tt, tt)));
  resets = All-from_recursion (λ (x : Name). type_of_variable (core_judging example_core main_node) x ≡ Some (ty.Plain Truth_value)) (codes "b" ∷ []) (refl, tt);
}

e_arrow_clocked : IsClockedEquation main_node e_arrow
unfolding static
e_arrow_clocked = record { numbers = λ n. []; right = refl; meets = (refl, (refl, tt)) }

e_arrow_normal : IsNormalRight e_arrow.right
unfolding static out-Form Carrier.out Carrier.shown Carrier.hidden shown-the_row-Expr-0 shown-the_row-Expr-2
e_arrow_normal = step refl (All-from_recursion (λ (a : Expr). IsTrue (is_simple (out-Form a.form))) (operands (out-Form e_arrow.right.form)) (refl, (refl, tt)))

e_when_typed : IsTypedEquation example_core main_node e_when
unfolding static out-Form Carrier.out
e_when_typed = record {
  faults = refl;
  types = ty.Plain Int ∷ [];
  right = refl;
  left = refl;
  last = All-from_recursion (λ (x : Expr). IsNoLast (out-Form x.form)) (inside e_when.right) (tt, (tt, tt));
  resets = All-nil (λ x. type_of_variable (core_judging example_core main_node) x ≡ Some (ty.Plain Truth_value));
}

e_when_clocked : IsClockedEquation main_node e_when
unfolding static
e_when_clocked = record { numbers = λ n. if_true (codes "b") ∷ []; right = refl; meets = (refl, (refl, tt)) }

e_when_normal : IsNormalRight e_when.right
unfolding static out-Form Carrier.out
e_when_normal = plain (All-from_recursion (λ (x : Expr). is_step (out-Form x.form) ≡ false) (inside e_when.right) (refl, (refl, tt)))

e_call_typed : IsTypedEquation example_core main_node e_call
unfolding static out-Form Carrier.out
e_call_typed = record {
  faults = refl;
  types = ty.Plain Int ∷ [];
  right = refl;
  left = refl;
  last = All-from_recursion (λ (x : Expr). IsNoLast (out-Form x.form)) (inside e_call.right) (tt, (tt, tt));
  resets = All-nil (λ x. type_of_variable (core_judging example_core main_node) x ≡ Some (ty.Plain Truth_value));
}

e_call_clocked : IsClockedEquation main_node e_call
unfolding static
e_call_clocked = record { numbers = λ n. if_true (codes "b") ∷ []; right = refl; meets = (refl, tt) }

e_call_normal : IsNormalRight e_call.right
unfolding static out-Form Carrier.out Carrier.shown Carrier.hidden shown-the_row-Expr-0 shown-the_row-Expr-2
e_call_normal = step refl (All-from_recursion (λ (a : Expr). IsTrue (is_simple (out-Form a.form))) (operands (out-Form e_call.right.form)) (refl, tt))

e_merge_typed : IsTypedEquation example_core main_node e_merge
unfolding static out-Form Carrier.out
e_merge_typed = record {
  faults = refl;
  types = ty.Plain Int ∷ [];
  right = refl;
  left = refl;
  last = All-from_recursion (λ (x : Expr). IsNoLast (out-Form x.form)) (inside e_merge.right) (tt, (tt, (tt, (tt, tt))));
  resets = All-nil (λ x. type_of_variable (core_judging example_core main_node) x ≡ Some (ty.Plain Truth_value));
}

e_merge_clocked : IsClockedEquation main_node e_merge
unfolding static
e_merge_clocked = record { numbers = λ n. if n == 2 then if_false (codes "b") ∷ [] else []; right = refl; meets = (refl, (refl, (refl, (refl, (refl, tt))))) }

e_merge_normal : IsNormalRight e_merge.right
unfolding static out-Form Carrier.out
e_merge_normal = plain (All-from_recursion (λ (x : Expr). is_step (out-Form x.form) ≡ false) (inside e_merge.right) (refl, (refl, (refl, (refl, tt)))))

e_async_typed : IsTypedEquation example_core main_node e_async
unfolding static out-Form Carrier.out
e_async_typed = record {
  faults = refl;
  types = ty.Future Int ∷ [];
  right = refl;
  left = refl;
  last = All-from_recursion (λ (x : Expr). IsNoLast (out-Form x.form)) (inside e_async.right) (tt, (tt, tt));
  resets = All-nil (λ x. type_of_variable (core_judging example_core main_node) x ≡ Some (ty.Plain Truth_value));
}

e_async_clocked : IsClockedEquation main_node e_async
unfolding static
e_async_clocked = record { numbers = λ n. []; right = refl; meets = (refl, tt) }

e_async_normal : IsNormalRight e_async.right
unfolding static out-Form Carrier.out Carrier.shown Carrier.hidden shown-the_row-Expr-0 shown-the_row-Expr-2
e_async_normal = step refl (All-from_recursion (λ (a : Expr). IsTrue (is_simple (out-Form a.form))) (operands (out-Form e_async.right.form)) (refl, tt))

e_get_typed : IsTypedEquation example_core main_node e_get
unfolding static out-Form Carrier.out
e_get_typed = record {
  faults = refl;
  types = ty.Plain Int ∷ [];
  right = refl;
  left = refl;
  last = All-from_recursion (λ (x : Expr). IsNoLast (out-Form x.form)) (inside e_get.right) (tt, (tt, tt));
  resets = All-nil (λ x. type_of_variable (core_judging example_core main_node) x ≡ Some (ty.Plain Truth_value));
}

e_get_clocked : IsClockedEquation main_node e_get
unfolding static
e_get_clocked = record { numbers = λ n. []; right = refl; meets = (refl, tt) }

e_get_normal : IsNormalRight e_get.right
unfolding static out-Form Carrier.out Carrier.shown Carrier.hidden shown-the_row-Expr-0 shown-the_row-Expr-2
e_get_normal = step refl (All-from_recursion (λ (a : Expr). IsTrue (is_simple (out-Form a.form))) (operands (out-Form e_get.right.form)) (refl, tt))

next_calls : calls_of (Some (as_node next_node)) ≡ []
unfolding static
next_calls = refl

main_calls : calls_of (Some (as_node main_node)) ≡ codes "next" ∷ codes "next" ∷ []
unfolding static
main_calls = refl

next_leads : calls_lead (map as_node example_core.nodes) (codes "next") (codes "main") ≡ false
unfolding static
next_leads = refl

either_same : (f g : Name) → is_in f (g ∷ g ∷ []) ≡ true → is_in f (g ∷ []) ≡ true
either_same f g h = go (same f g) h
  where
    go : (b : Bool) → b || (b || false) ≡ true → b || false ≡ true
    go true e = refl
    go false e = e

no_call_back : (f : Name) → is_in f (calls_of (Some (as_node main_node))) ≡ true → calls_lead (map as_node example_core.nodes) f (codes "main") ≡ false
no_call_back f h = subst (λ (g : Name). calls_lead (map as_node example_core.nodes) g (codes "main") ≡ false)
    (sym (only f (codes "next") (either_same f (codes "next") (ap (is_in f) (sym main_calls) ∙ h)))) next_leads

-- the left sides in another order
turned : (m u y k z h w : Bool) → m || (u || (y || (k || (z || (h || (w || false)))))) ≡ z || (w || (m || (u || (y || (k || (h || false))))))
turned true u y k z h w = grind arith
turned false u y k z h w = grind arith

next_well_formed : IsWellFormedNode example_core next_node
next_well_formed = record {
  once = differ (names (core_decls next_node)) refl;
  one_left = differ (lefts_of next_node) refl;
  defined = λ x. refl;
  calls = λ f e. absurd (false≢true (ap (is_in f) (sym next_calls) ∙ e));
  typed = All-from_recursion (IsTypedEquation example_core next_node) next_node.equations (next_sum_typed, tt);
  clocked = All-from_recursion (IsClockedEquation next_node) next_node.equations (next_sum_clocked, tt);
  outputs = All-from_recursion (λ (d : Decl). core_clock next_node d.name ≡ []) next_node.outputs (refl, tt);
}

main_well_formed : IsWellFormedNode example_core main_node
main_well_formed = record {
  once = differ (names (core_decls main_node)) refl;
  one_left = differ (lefts_of main_node) refl;
  defined = λ x. turned (same x (codes "m")) (same x (codes "u")) (same x (codes "y")) (same x (codes "k")) (same x (codes "z")) (same x (codes "h")) (same x (codes "w"));
  calls = no_call_back;
  typed = All-from_recursion (IsTypedEquation example_core main_node) main_node.equations (e_pre_typed, (e_arrow_typed, (e_when_typed, (e_call_typed, (e_merge_typed, (e_async_typed, (e_get_typed, tt)))))));
  clocked = All-from_recursion (IsClockedEquation main_node) main_node.equations (e_pre_clocked, (e_arrow_clocked, (e_when_clocked, (e_call_clocked, (e_merge_clocked, (e_async_clocked, (e_get_clocked, tt)))))));
  outputs = All-from_recursion (λ (d : Decl). core_clock main_node d.name ≡ []) main_node.outputs (refl, (refl, tt));
}

next_order : IsOrderedNode next_node
unfolding static
next_order = in_order next_node.equations refl

main_order : IsOrderedNode main_node
unfolding static
main_order = in_order main_node.equations refl

pub example_ordered : IsOrdered example_core
example_ordered = record {
  well_formed = All-from_recursion (IsWellFormedNode example_core) example_core.nodes (next_well_formed, (main_well_formed, tt));
  normal = All-from_recursion (λ (node : CoreNode). AreNormal node.equations) example_core.nodes (
    All-from_recursion (λ (e : CoreEquation). IsNormalRight e.right) next_node.equations (next_sum_normal, tt),
    (All-from_recursion (λ (e : CoreEquation). IsNormalRight e.right) main_node.equations (e_pre_normal, (e_arrow_normal, (e_when_normal, (e_call_normal, (e_merge_normal, (e_async_normal, (e_get_normal, tt))))))), tt),
  );
  order = All-from_recursion IsOrderedNode example_core.nodes (next_order, (main_order, tt));
}

-- ---- the static facts

-- m may be undefined, by the reset b
abbrev main_grades : Grades
main_grades x = if same x (codes "m") then (codes "b" ∷ []) ∷ [] else []

abbrev next_grades : Grades
next_grades x = []

abbrev main_within : Within
main_within = within (codes "main") main_node main_grades

abbrev next_within : Within
next_within = within (codes "next") next_node next_grades

-- a grade allows itself
itself : (n : List (List Name)) → Allows n n
itself n l i = (l, i, λ x h. h)

one_within : (rs l : List Name) → Among l (rs ∷ []) → AreIn l rs
one_within rs _ first x h = h
one_within rs l (next i) x h = elim i [ ]

small : (n : ℕ) → SFits w32 (pos n) → FitsConst (Number (pos n))
small n h = h

zero_fits : FitsConst (Number (pos 0))
zero_fits = let fits : SFits w32 (pos 0) = search rules in fits

one_fits : FitsConst (Number (pos 1))
one_fits = let fits : SFits w32 (pos 1) = search rules in fits

sees_b : Reads main_within (codes "b") (record { place = record { 0 = 0 }; name = codes "b"; ty = ty.Plain Truth_value; init = None }) []
sees_b = record { declared = refl; clock = refl }

base_clock : IsProper main_within []
base_clock = base

on_b : IsProper main_within (if_true (codes "b") ∷ [])
on_b = one_more (if_true (codes "b")) base sees_b refl

no_resets : (k : Within) → SoundResets k []
no_resets k x h = absurd (false≢true h)

by_b : SoundResets main_within (codes "b" ∷ [])
by_b x h = subst (λ (z : Name). (d : Decl) × (declaration (core_decls main_node) z ≡ Some d) × (d.ty ≡ ty.Plain Truth_value) × (main_grades z ≡ [])) (sym (only x (codes "b") h))
    (record { place = record { 0 = 0 }; name = codes "b"; ty = ty.Plain Truth_value; init = None }, refl, refl, refl)

leads : CallsNode (map as_node example_core.nodes) (codes "main") (codes "next")
unfolding static
leads = refl

call_stands : Contains (expressions_in main_node) e_call.right
unfolding static
call_stands = (7, omega arith, refl)

async_stands : Contains (expressions_in main_node) e_async.right
unfolding static
async_stands = (13, omega arith, refl)

var_of : (k : Within) (rs : List Name) (x : Name) (d : Decl) (c : Clock) → Reads k x d c → Sound example_core k rs (var x) c d.ty (k.grade x)
var_of k rs x d c sees = is_variable (out_Var x) sees

abbrev Node_equation : CoreEquation → Type 0
Node_equation e = SoundEquation example_core main_within e

pre_sound : Node_equation e_pre
pre_sound = record {
  right = one_name refl (record { declared = refl; clock = refl }) (is_pre (out_Pre _) (is_variable (out_Var (codes "x")) (record { declared = refl; clock = refl }))) (itself ((codes "b" ∷ []) ∷ []));
  clock = base;
  resets = by_b;
}

arrow_sound : Node_equation e_arrow
arrow_sound = record {
  right = one_name refl (record { declared = refl; clock = refl })
      (is_arrow (out_Arrow _ _) (is_constant (out_Const _) refl zero_fits) (is_variable (out_Var (codes "m")) (record { declared = refl; clock = refl })) (one_within (codes "b" ∷ []))) (itself []);
  clock = base;
  resets = by_b;
}

when_sound : Node_equation e_when
when_sound = record {
  right = one_name refl (record { declared = refl; clock = refl }) (is_when (out_When _ _ (codes "b")) sees_b refl (is_variable (out_Var (codes "x")) (record { declared = refl; clock = refl }))) (itself []);
  clock = on_b;
  resets = no_resets main_within;
}

call_sound : Node_equation e_call
call_sound = record {
  right = one_name refl (record { declared = refl; clock = refl })
      (is_result (is_call (sync (out_Call (codes "next") _)) refl leads call_stands (an_argument (is_variable (out_Var (codes "y")) (record { declared = refl; clock = refl })) no_arguments) refl)) (itself []);
  clock = on_b;
  resets = no_resets main_within;
}

merge_sound : Node_equation e_merge
merge_sound = record {
  right = one_name refl (record { declared = refl; clock = refl })
      (is_merge (out_Merge (codes "b") _) sees_b refl refl (All-from_recursion (λ (t : Tag). IsTrue (list_any (same_tag t) (tag.Truth true ∷ tag.Truth false ∷ []))) (tags_of [] (ty.Plain Truth_value)) (refl, (refl, tt)))
      (a_branch (is_variable (out_Var (codes "k")) (record { declared = refl; clock = refl }))
      (a_branch (is_when (out_When _ _ (codes "b")) sees_b refl (is_variable (out_Var (codes "u")) (record { declared = refl; clock = refl }))) no_branches))) (itself []);
  clock = base;
  resets = no_resets main_within;
}

async_sound : Node_equation e_async
async_sound = record {
  right = one_name refl (record { declared = refl; clock = refl })
      (is_result (is_call (async (out_AsyncCall 1 (codes "next") _)) refl leads async_stands (an_argument (is_variable (out_Var (codes "x")) (record { declared = refl; clock = refl })) no_arguments) refl)) (itself []);
  clock = base;
  resets = no_resets main_within;
}

get_sound : Node_equation e_get
get_sound = record {
  right = one_name refl (record { declared = refl; clock = refl }) (is_get (out_Get _) (is_variable (out_Var (codes "h")) (record { declared = refl; clock = refl }))) (itself []);
  clock = base;
  resets = no_resets main_within;
}

sum_sound : SoundEquation example_core next_within next_sum
sum_sound = record {
  right = one_name refl (record { declared = refl; clock = refl })
      (is_binary (out_Binary _ _ _) (is_variable (out_Var (codes "i")) (record { declared = refl; clock = refl })) (is_constant (out_Const _) refl one_fits) refl) (itself []);
  clock = base;
  resets = no_resets next_within;
}

abbrev Home : CoreNode → Name → Decl → Type 0
Home node x d = ((is_in x (names node.inputs) ≡ true) × (core_clock node x ≡ [])) ⊎ ((e : CoreEquation) × (equation_of node x ≡ Some e) × (is_in x (names node.inputs) ≡ false))

interface : (k : Within) (ds : List Decl) → EachOf (λ (d : Decl). Reads k d.name d [] × (k.grade d.name ≡ [])) ds → SoundInterface k ds
interface k ds h d i = each_of (λ (b : Decl). Reads k b.name b [] × (k.grade b.name ≡ [])) ds h d i

main_sound : SoundNode example_core main_within
main_sound = record {
  equations = each_of Node_equation main_node.equations (pre_sound, (arrow_sound, (when_sound, (call_sound, (merge_sound, (async_sound, (get_sound, tt)))))));
  inputs = interface main_within main_node.inputs ((record { declared = refl; clock = refl }, refl), ((record { declared = refl; clock = refl }, refl), tt));
  outputs = interface main_within main_node.outputs ((record { declared = refl; clock = refl }, refl), ((record { declared = refl; clock = refl }, refl), tt));
  defined = each_declared (Home main_node) (core_decls main_node)
      (inl (refl, refl), (inl (refl, refl), (inr (e_merge, refl, refl), (inr (e_get, refl, refl), (inr (e_pre, refl, refl), (inr (e_arrow, refl, refl), (inr (e_when, refl, refl), (inr (e_call, refl, refl), (inr (e_async, refl, refl), tt)))))))));
}

next_sound : SoundNode example_core next_within
next_sound = record {
  equations = each_of (SoundEquation example_core next_within) next_node.equations (sum_sound, tt);
  inputs = interface next_within next_node.inputs ((record { declared = refl; clock = refl }, refl), tt);
  outputs = interface next_within next_node.outputs ((record { declared = refl; clock = refl }, refl), tt);
  defined = each_declared (Home next_node) (core_decls next_node) (inl (refl, refl), (inr (next_sum, refl, refl), tt));
}

example_sound : SoundCore example_core
example_sound = record {
  types = tt;
  constructors = tt;
  nodes = each_named (λ f node. (g : Grades) × SoundNode example_core (within f node g)) example_core.nodes ((next_grades, next_sound), ((main_grades, main_sound), tt));
}

no_reply : {A P : Type 0} (x : A) → None ≡ Some x → P
no_reply x h = cc

pub example_is_fit : ExampleIsFit
example_is_fit = (
  main_grades,
  record {
    ordered = example_ordered;
    sound = example_sound;
    named = refl;
    node = main_sound;
    rows_fit = ((omega arith, (omega arith, tt)), ((omega arith, (omega arith, tt)), tt));
    replies_fit = λ path ts n outs i e. no_reply outs e;
  },
)

-- ---- the short facts

same_node : (x y : Node) → Some x ≡ Some y → x ≡ y
same_node x y h = cc

next_plain : GivesNoFuture example_core (codes "next")
next_plain n e = subst (λ (z : Node). list_all is_plain (types_of z.outputs) ≡ true) (same_node (as_interface next_node) n e) refl

async_plain : All (GivesNoFuture example_core) (codes "next" ∷ [])
async_plain = All-cons (GivesNoFuture example_core) (codes "next") [] next_plain (All-nil (GivesNoFuture example_core))

no_calls : All (GivesNoFuture example_core) []
no_calls = All-nil (GivesNoFuture example_core)

static_next_sum : StaticEquation example_core next_node next_grades next_sum
unfolding static out-Form Carrier.out lists_of lists_row
static_next_sum = record {
  left = λ x h. subst (λ (z : Name). Allows (next_grades z) (lists_of next_grades next_sum.resets next_sum.right.form)) (sym (only x (codes "o") h)) (itself []);
  right = All-from_recursion (StaticExpr example_core next_grades next_sum.resets) (inside next_sum.right)
      (record { demands = refl; arrow = tt; number = tt; plain = no_calls; branch = tt }, (record { demands = refl; arrow = tt; number = tt; plain = no_calls; branch = tt }, (record { demands = refl; arrow = tt; number = one_fits; plain = no_calls; branch = tt }, tt)));
  clock = tt;
  resets = λ x h. absurd (false≢true h);
}

static_e_pre : StaticEquation example_core main_node main_grades e_pre
unfolding static out-Form Carrier.out lists_of lists_row
static_e_pre = record {
  left = λ x h. subst (λ (z : Name). Allows (main_grades z) (lists_of main_grades e_pre.resets e_pre.right.form)) (sym (only x (codes "m") h)) (itself ((codes "b" ∷ []) ∷ []));
  right = All-from_recursion (StaticExpr example_core main_grades e_pre.resets) (inside e_pre.right)
      (record { demands = refl; arrow = tt; number = tt; plain = no_calls; branch = tt }, (record { demands = refl; arrow = tt; number = tt; plain = no_calls; branch = tt }, tt));
  clock = tt;
  resets = λ x h. subst (λ (z : Name). main_grades z ≡ []) (sym (only x (codes "b") h)) refl;
}

static_e_arrow : StaticEquation example_core main_node main_grades e_arrow
unfolding static out-Form Carrier.out lists_of lists_row Carrier.shown
static_e_arrow = record {
  left = λ x h. subst (λ (z : Name). Allows (main_grades z) (lists_of main_grades e_arrow.resets e_arrow.right.form)) (sym (only x (codes "u") h)) (itself []);
  right = All-from_recursion (StaticExpr example_core main_grades e_arrow.resets) (inside e_arrow.right)
      (record { demands = refl; arrow = one_within (codes "b" ∷ []); number = tt; plain = no_calls; branch = tt }, (record { demands = refl; arrow = tt; number = zero_fits; plain = no_calls; branch = tt }, (record { demands = refl; arrow = tt; number = tt; plain = no_calls; branch = tt }, tt)));
  clock = tt;
  resets = λ x h. subst (λ (z : Name). main_grades z ≡ []) (sym (only x (codes "b") h)) refl;
}

static_e_when : StaticEquation example_core main_node main_grades e_when
unfolding static out-Form Carrier.out lists_of lists_row
static_e_when = record {
  left = λ x h. subst (λ (z : Name). Allows (main_grades z) (lists_of main_grades e_when.resets e_when.right.form)) (sym (only x (codes "y") h)) (itself []);
  right = All-from_recursion (StaticExpr example_core main_grades e_when.resets) (inside e_when.right)
      (record { demands = refl; arrow = tt; number = tt; plain = no_calls; branch = tt }, (record { demands = refl; arrow = tt; number = tt; plain = no_calls; branch = tt }, tt));
  clock = ((refl, refl, refl), tt);
  resets = λ x h. absurd (false≢true h);
}

static_e_call : StaticEquation example_core main_node main_grades e_call
unfolding static out-Form Carrier.out lists_of lists_row
static_e_call = record {
  left = λ x h. subst (λ (z : Name). Allows (main_grades z) (lists_of main_grades e_call.resets e_call.right.form)) (sym (only x (codes "k") h)) (itself []);
  right = All-from_recursion (StaticExpr example_core main_grades e_call.resets) (inside e_call.right)
      (record { demands = refl; arrow = tt; number = tt; plain = no_calls; branch = tt }, (record { demands = refl; arrow = tt; number = tt; plain = no_calls; branch = tt }, tt));
  clock = ((refl, refl, refl), tt);
  resets = λ x h. absurd (false≢true h);
}

static_e_merge : StaticEquation example_core main_node main_grades e_merge
unfolding static out-Form Carrier.out lists_of lists_row shown-the_row-MergeBranch-1 Carrier.shown
static_e_merge = record {
  left = λ x h. subst (λ (z : Name). Allows (main_grades z) (lists_of main_grades e_merge.resets e_merge.right.form)) (sym (only x (codes "z") h)) (itself []);
  right = All-from_recursion (StaticExpr example_core main_grades e_merge.resets) (inside e_merge.right)
      (record { demands = refl; arrow = tt; number = tt; plain = no_calls; branch = tt }, (record { demands = refl; arrow = tt; number = tt; plain = no_calls; branch = tt }, (record { demands = refl; arrow = tt; number = tt; plain = no_calls; branch = tt }, (record { demands = refl; arrow = tt; number = tt; plain = no_calls; branch = tt }, tt))));
  clock = tt;
  resets = λ x h. absurd (false≢true h);
}

static_e_async : StaticEquation example_core main_node main_grades e_async
unfolding static out-Form Carrier.out lists_of lists_row
static_e_async = record {
  left = λ x h. subst (λ (z : Name). Allows (main_grades z) (lists_of main_grades e_async.resets e_async.right.form)) (sym (only x (codes "h") h)) (itself []);
  right = All-from_recursion (StaticExpr example_core main_grades e_async.resets) (inside e_async.right)
      (record { demands = refl; arrow = tt; number = tt; plain = async_plain; branch = tt }, (record { demands = refl; arrow = tt; number = tt; plain = no_calls; branch = tt }, tt));
  clock = tt;
  resets = λ x h. absurd (false≢true h);
}

static_e_get : StaticEquation example_core main_node main_grades e_get
unfolding static out-Form Carrier.out lists_of lists_row
static_e_get = record {
  left = λ x h. subst (λ (z : Name). Allows (main_grades z) (lists_of main_grades e_get.resets e_get.right.form)) (sym (only x (codes "w") h)) (itself []);
  right = All-from_recursion (StaticExpr example_core main_grades e_get.resets) (inside e_get.right)
      (record { demands = refl; arrow = tt; number = tt; plain = no_calls; branch = tt }, (record { demands = refl; arrow = tt; number = tt; plain = no_calls; branch = tt }, tt));
  clock = tt;
  resets = λ x h. absurd (false≢true h);
}

static_next : StaticNode example_core next_node next_grades
static_next = record {
  equations = All-from_recursion (StaticEquation example_core next_node next_grades) next_node.equations (static_next_sum, tt);
  interface = All-from_recursion (λ (d : Decl). next_grades d.name ≡ []) (next_node.inputs ++ next_node.outputs) (refl, (refl, tt));
}

static_main : StaticNode example_core main_node main_grades
static_main = record {
  equations = All-from_recursion (StaticEquation example_core main_node main_grades) main_node.equations (static_e_pre, (static_e_arrow, (static_e_when, (static_e_call, (static_e_merge, (static_e_async, (static_e_get, tt)))))));
  interface = All-from_recursion (λ (d : Decl). main_grades d.name ≡ []) (main_node.inputs ++ main_node.outputs) (refl, (refl, (refl, (refl, tt))));
}

pub example_is_static : StaticCore example_core
example_is_static = record {
  types = tt;
  constructors = tt;
  nodes = All-from_recursion (λ (node : CoreNode). (g : Grades) × StaticNode example_core node g) example_core.nodes ((next_grades, static_next), ((main_grades, static_main), tt));
}

-- ---- the torn core is in order all the same

torn_pre_typed : IsTypedEquation torn_core torn_node torn_pre
unfolding static out-Form Carrier.out
torn_pre_typed = record {
  faults = refl;
  types = ty.Plain Int ∷ [];
  right = refl;
  left = refl;
  last = All-from_recursion (λ (x : Expr). IsNoLast (out-Form x.form)) (inside torn_pre.right) (tt, (tt, tt));
  resets = All-from_recursion (λ (x : Name). type_of_variable (core_judging torn_core torn_node) x ≡ Some (ty.Plain Truth_value)) (codes "r" ∷ []) (refl, tt);
}

torn_pre_clocked : IsClockedEquation torn_node torn_pre
unfolding static
torn_pre_clocked = record { numbers = λ n. []; right = refl; meets = (refl, tt) }

torn_pre_normal : IsNormalRight torn_pre.right
unfolding static out-Form Carrier.out Carrier.shown Carrier.hidden shown-the_row-Expr-0 shown-the_row-Expr-2
torn_pre_normal = step refl (All-from_recursion (λ (a : Expr). IsTrue (is_simple (out-Form a.form))) (operands (out-Form torn_pre.right.form)) (refl, tt))

torn_arrow_typed : IsTypedEquation torn_core torn_node torn_arrow
unfolding static out-Form Carrier.out
torn_arrow_typed = record {
  faults = refl;
  types = ty.Plain Int ∷ [];
  right = refl;
  left = refl;
  last = All-from_recursion (λ (x : Expr). IsNoLast (out-Form x.form)) (inside torn_arrow.right) (tt, (tt, (tt, tt)));
  resets = All-nil (λ x. type_of_variable (core_judging torn_core torn_node) x ≡ Some (ty.Plain Truth_value));
}

torn_arrow_clocked : IsClockedEquation torn_node torn_arrow
unfolding static
torn_arrow_clocked = record { numbers = λ n. []; right = refl; meets = (refl, (refl, tt)) }

torn_arrow_normal : IsNormalRight torn_arrow.right
unfolding static out-Form Carrier.out Carrier.shown Carrier.hidden shown-the_row-Expr-0 shown-the_row-Expr-2
torn_arrow_normal = step refl (All-from_recursion (λ (a : Expr). IsTrue (is_simple (out-Form a.form))) (operands (out-Form torn_arrow.right.form)) (refl, (refl, tt)))

torn_calls : calls_of (Some (as_node torn_node)) ≡ []
unfolding static
torn_calls = refl

turned_two : (v z : Bool) → v || (z || false) ≡ z || (v || false)
turned_two true true = refl
turned_two true false = refl
turned_two false true = refl
turned_two false false = refl

torn_well_formed : IsWellFormedNode torn_core torn_node
torn_well_formed = record {
  once = differ (names (core_decls torn_node)) refl;
  one_left = differ (lefts_of torn_node) refl;
  defined = λ x. turned_two (same x (codes "v")) (same x (codes "z"));
  calls = λ f e. absurd (false≢true (ap (is_in f) (sym torn_calls) ∙ e));
  typed = All-from_recursion (IsTypedEquation torn_core torn_node) torn_node.equations (torn_pre_typed, (torn_arrow_typed, tt));
  clocked = All-from_recursion (IsClockedEquation torn_node) torn_node.equations (torn_pre_clocked, (torn_arrow_clocked, tt));
  outputs = All-from_recursion (λ (d : Decl). core_clock torn_node d.name ≡ []) torn_node.outputs (refl, tt);
}

torn_order : IsOrderedNode torn_node
unfolding static
torn_order = in_order torn_node.equations refl

pub torn_is_ordered : IsOrdered torn_core
torn_is_ordered = record {
  well_formed = All-from_recursion (IsWellFormedNode torn_core) torn_core.nodes (torn_well_formed, tt);
  normal = All-from_recursion (λ (node : CoreNode). AreNormal node.equations) torn_core.nodes
      (All-from_recursion (λ (e : CoreEquation). IsNormalRight e.right) torn_node.equations (torn_pre_normal, (torn_arrow_normal, tt)), tt);
  order = All-from_recursion IsOrderedNode torn_core.nodes (torn_order, tt);
}
