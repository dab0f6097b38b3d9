-- The example is well formed and in normal form, its reads have no cycle, and it is not in order.
use Rattle.std.proofs.Common.{◌≡◌, ◌⊎◌, inl, inr, ◌<◌, Bool, true, false, ◌||◌, if◌then◌else◌, [], ◌∷◌, ◌++◌, refl, sym, ap, subst, arith, ◌∙◌, Some, List, pos}
use Rattle.std.specs.Prelude.{All, codes}
use Rattle.std.proofs.lemmas.Bool.{false≢true}
use Rattle.std.proofs.lemmas.List.Elements.{All-cons, All-nil, All-from_recursion}
use Rattle.hept_ast.specs.Texts.{Name, same, is_in, names}
use Rattle.hept_ast.specs.Parts.{inside}
use Rattle.hept_ast.specs.Causal.{HasNoCycle}
use Rattle.hept_ast.specs.Faults.{calls_of, type_of_variable}
use Rattle.hept_ast.specs.TypedValues.{FitsConst}
use Rattle.hept_ast.specs.declared.tree.Const.TheVariants.{Number}
use Rattle.hept_ast.specs.declared.tree.CoreEquation.{CoreEquation}
use Rattle.hept_ast.specs.declared.tree.CoreNode.{CoreNode}
use Rattle.hept_ast.specs.declared.tree.Decl.{Decl}
use Rattle.hept_ast.specs.declared.tree.Expr.{Expr}
use Rattle.hept_ast.specs.declared.tree.Form.{out-Form}
use Rattle.hept_ast.specs.declared.tree.Ty.TheVariants as ty
use Rattle.hept_ast.specs.declared.tree.Plain.TheVariants.{Int, Bool as Truth_value}
use Rattle.hept_ast.proofs.Unfolded.{static}
use denote.Hole.Carrier
use Rattle.core_rules.specs.Cores.{CoreReads, as_node, core_clock, core_decls, core_judging, core_reads, equation_reads, lefts_of}
use Rattle.core_rules.specs.WellFormed.{IsClockedEquation, IsNoLast, IsTypedEquation, IsWellFormedNode, int_decl}
use Rattle.core_rules.proofs.Ends.{same_is, same_self}
use Rattle.core_rules.proofs.SumCore.{differ}
use Rattle.core_naming.specs.Normal.{AreNormal, IsNormalRight, is_step, plain}
use Rattle.core_facts.specs.Undefined.{Among, Grades, lists_of, lists_row}
use Rattle.core_facts.specs.Static.{GivesNoFuture, StaticCore, StaticEquation, StaticExpr, StaticNode}
use Rattle.schedule.specs.Order.{IsOrdered, IsOrderedNode}
use Rattle.schedule_example.specs.Example.{TurnedCanBeOrdered, copy_of, sum_of, turned_core, turned_node}

sum_typed : IsTypedEquation turned_core turned_node sum_of
unfolding static out-Form Carrier.out
sum_typed = record {
  faults = refl;
  types = ty.Plain Int ∷ [];
  right = refl;
  left = refl;
  last = All-from_recursion (λ (x : Expr). IsNoLast (out-Form x.form)) (inside sum_of.right) (tt, (tt, (tt, tt)));
  resets = All-nil (λ x. type_of_variable (core_judging turned_core turned_node) x ≡ Some (ty.Plain Truth_value));
}

copy_typed : IsTypedEquation turned_core turned_node copy_of
unfolding static out-Form Carrier.out
copy_typed = record {
  faults = refl;
  types = ty.Plain Int ∷ [];
  right = refl;
  left = refl;
  last = All-from_recursion (λ (x : Expr). IsNoLast (out-Form x.form)) (inside copy_of.right) (tt, tt);
  resets = All-nil (λ x. type_of_variable (core_judging turned_core turned_node) x ≡ Some (ty.Plain Truth_value));
}

sum_clocked : IsClockedEquation turned_node sum_of
unfolding static
sum_clocked = record { numbers = λ n. []; right = refl; meets = (refl, (refl, tt)) }

copy_clocked : IsClockedEquation turned_node copy_of
unfolding static
copy_clocked = record { numbers = λ n. []; right = refl; meets = tt }

calls_none : calls_of (Some (as_node turned_node)) ≡ []
unfolding static
calls_none = refl

node_well_formed : IsWellFormedNode turned_core turned_node
node_well_formed = record {
  once = differ (names (core_decls turned_node)) refl;
  one_left = differ (lefts_of turned_node) refl;
  defined = λ x. refl;
  calls = λ f e. absurd (false≢true (ap (is_in f) (sym calls_none) ∙ e));
  typed = All-cons (IsTypedEquation turned_core turned_node) sum_of (copy_of ∷ []) sum_typed (All-cons (IsTypedEquation turned_core turned_node) copy_of [] copy_typed (All-nil (IsTypedEquation turned_core turned_node)));
  clocked = All-cons (IsClockedEquation turned_node) sum_of (copy_of ∷ []) sum_clocked (All-cons (IsClockedEquation turned_node) copy_of [] copy_clocked (All-nil (IsClockedEquation turned_node)));
  outputs = All-cons (λ (d : Decl). core_clock turned_node d.name ≡ []) (int_decl (codes "y")) [] refl (All-nil (λ (d : Decl). core_clock turned_node d.name ≡ []));
}

-- ---- its reads

no_three_steps : (R : Name → Name → Type 0) → ((a b c d : Name) → R a b → R b c → R c d → ⊥) → HasNoCycle R
no_three_steps R three [] h = h
no_three_steps R three (x ∷ []) h = three x x x x h h h
no_three_steps R three (x ∷ y ∷ []) h = three x y x y h.0 h.1 h.0
no_three_steps R three (x ∷ y ∷ z ∷ []) h = three x y z x h.0 h.1.0 h.1.1
no_three_steps R three (x ∷ y ∷ z ∷ u ∷ us) h = three x y z u h.0 h.1.0 h.1.1.0

reads_are : (a : Name) → core_reads turned_node a ≡ (if is_in a (codes "y" ∷ []) then codes "a" ∷ [] else []) ++ ((if is_in a (codes "a" ∷ []) then codes "x" ∷ [] else []) ++ [])
unfolding static
reads_are a = refl

one_name : (b c : Name) → is_in b (c ∷ []) ≡ true → b ≡ c
one_name b c e = same_is b c (first_of (same b c) e)
  where
    first_of : (t : Bool) → t || false ≡ true → t ≡ true
    first_of true e = refl
    first_of false e = e

leads_on : (a b : Name) → CoreReads turned_node a b → ((a ≡ codes "y") × (b ≡ codes "a")) ⊎ ((a ≡ codes "a") × (b ≡ codes "x"))
leads_on a b h = go (is_in a (codes "y" ∷ [])) (is_in a (codes "a" ∷ [])) refl refl (ap (is_in b) (sym (reads_are a)) ∙ h)
  where
    go : (t u : Bool) → is_in a (codes "y" ∷ []) ≡ t → is_in a (codes "a" ∷ []) ≡ u → is_in b ((if t then codes "a" ∷ [] else []) ++ ((if u then codes "x" ∷ [] else []) ++ [])) ≡ true →
        ((a ≡ codes "y") × (b ≡ codes "a")) ⊎ ((a ≡ codes "a") × (b ≡ codes "x"))
    go true false s r e = inl (one_name a (codes "y") s, one_name b (codes "a") e)
    go false true s r e = inr (one_name a (codes "a") r, one_name b (codes "x") e)
    go false false s r e = absurd (false≢true e)
    go true true s r e = absurd (false≢true (subst (λ (z : Name). is_in z (codes "a" ∷ []) ≡ true) (one_name a (codes "y") s) r))

no_cycle : HasNoCycle (CoreReads turned_node)
no_cycle = no_three_steps (CoreReads turned_node) (λ a b c d h k l. go a b c d (leads_on a b h) (leads_on b c k) (leads_on c d l))
  where
    other : (a b c : Name) → a ≡ b → a ≡ c → same b c ≡ false → ⊥
    other a b c e f s = false≢true (sym s ∙ subst (λ (z : Name). same z c ≡ true) e (subst (λ (z : Name). same a z ≡ true) f (same_self a)))

    go : (a b c d : Name) → ((a ≡ codes "y") × (b ≡ codes "a")) ⊎ ((a ≡ codes "a") × (b ≡ codes "x")) → ((b ≡ codes "y") × (c ≡ codes "a")) ⊎ ((b ≡ codes "a") × (c ≡ codes "x")) →
        ((c ≡ codes "y") × (d ≡ codes "a")) ⊎ ((c ≡ codes "a") × (d ≡ codes "x")) → ⊥
    go a b c d (inl h) (inl k) l = other b (codes "a") (codes "y") h.1 k.0 refl
    go a b c d (inr h) (inl k) l = other b (codes "x") (codes "y") h.1 k.0 refl
    go a b c d (inr h) (inr k) l = other b (codes "x") (codes "a") h.1 k.0 refl
    go a b c d (inl h) (inr k) (inl l) = other c (codes "x") (codes "y") k.1 l.0 refl
    go a b c d (inl h) (inr k) (inr l) = other c (codes "x") (codes "a") k.1 l.0 refl

-- ---- its form, and its order

sum_normal : IsNormalRight sum_of.right
unfolding static out-Form Carrier.out
sum_normal = plain (All-from_recursion (λ (x : Expr). is_step (out-Form x.form) ≡ false) (inside sum_of.right) (refl, (refl, (refl, tt))))

copy_normal : IsNormalRight copy_of.right
unfolding static out-Form Carrier.out
copy_normal = plain (All-from_recursion (λ (x : Expr). is_step (out-Form x.form) ≡ false) (inside copy_of.right) (refl, tt))

reads_copy : is_in (codes "a") (equation_reads sum_of) ≡ true
unfolding static
reads_copy = refl

not_in_order : IsOrdered turned_core → ⊥
not_in_order h =
    let first : IsOrderedNode turned_node = h.order 0 turned_node (omega arith) in
    let less : 1 < 0 = first 0 1 sum_of copy_of refl refl (codes "a", reads_copy, refl) in
    absurd (omega arith)

-- ---- its static facts

-- none of its variables is ever undefined
never : Grades
never x = []

defined : {A : Type 0} (l : List Name) → Among l [] → A
defined l i = elim i [ ]

no_calls : All (GivesNoFuture turned_core) []
no_calls = All-nil (GivesNoFuture turned_core)

one_fits : FitsConst (Number (pos 1))
one_fits = omega arith

static_equations : StaticNode turned_core turned_node never
unfolding static lists_of lists_row out-Form Carrier.out never
static_equations = record {
  equations = All-from_recursion (StaticEquation turned_core turned_node never) turned_node.equations (
    record {
      left = λ x i l j. defined l j;
      right = All-from_recursion (StaticExpr turned_core never []) (inside sum_of.right) (
        record { demands = refl; arrow = tt; number = tt; plain = no_calls; branch = tt },
        (record { demands = refl; arrow = tt; number = tt; plain = no_calls; branch = tt }, (record { demands = refl; arrow = tt; number = one_fits; plain = no_calls; branch = tt }, tt)),
      );
      clock = tt;
      resets = λ x i. refl;
    },
    (
      record {
        left = λ x i l j. defined l j;
        right = All-from_recursion (StaticExpr turned_core never []) (inside copy_of.right) (record { demands = refl; arrow = tt; number = tt; plain = no_calls; branch = tt }, tt);
        clock = tt;
        resets = λ x i. refl;
      },
      tt,
    ),
  );
  interface = All-from_recursion (λ (d : Decl). never d.name ≡ []) (turned_node.inputs ++ turned_node.outputs) (refl, (refl, tt));
}

static_core : StaticCore turned_core
static_core = record {
  types = tt;
  constructors = tt;
  nodes = All-cons (λ (n : CoreNode). (g : Grades) × StaticNode turned_core n g) turned_node [] (never, static_equations) (All-nil (λ (n : CoreNode). (g : Grades) × StaticNode turned_core n g));
}

pub turned_can_be_ordered : TurnedCanBeOrdered
turned_can_be_ordered = record {
  well_formed = All-cons (IsWellFormedNode turned_core) turned_node [] node_well_formed (All-nil (IsWellFormedNode turned_core));
  normal = All-cons (λ (node : CoreNode). AreNormal node.equations) turned_node []
      (All-cons (λ (e : CoreEquation). IsNormalRight e.right) sum_of (copy_of ∷ []) sum_normal (All-cons (λ (e : CoreEquation). IsNormalRight e.right) copy_of [] copy_normal (All-nil (λ (e : CoreEquation). IsNormalRight e.right))))
      (All-nil (λ (node : CoreNode). AreNormal node.equations));
  acyclic = All-cons (λ (node : CoreNode). HasNoCycle (CoreReads node)) turned_node [] no_cycle (All-nil (λ (node : CoreNode). HasNoCycle (CoreReads node)));
  facts = static_core;
  not_ordered = not_in_order;
}
