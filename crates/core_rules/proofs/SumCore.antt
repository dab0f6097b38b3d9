-- The core that sums its inputs is well formed, and its reads have no cycle.
use Rattle.std.proofs.Common.{◌≡◌, Bool, true, false, ◌||◌, ◌&&◌, not, if◌then◌else◌, List, [], ◌∷◌, ◌++◌, refl, sym, ap, subst, ◌∙◌, Some, None, pos}
use Rattle.std.specs.Prelude.{codes}
use Rattle.std.proofs.lemmas.Bool.{false≢true}
use Rattle.std.proofs.lemmas.List.Elements.{All-cons, All-nil, All-from_recursion}
use Rattle.hept_ast.specs.Texts.{Name, same, is_in, names}
use Rattle.hept_ast.specs.Parts.{inside}
use Rattle.hept_ast.specs.Causal.{HasNoCycle}
use Rattle.hept_ast.specs.Faults.{calls_of, type_of_variable}
use Rattle.hept_ast.specs.Paths.{AllDiffer, IsAmong, at_head, in_tail}
use Rattle.hept_ast.specs.declared.tree.CoreEquation.{CoreEquation}
use Rattle.hept_ast.specs.declared.tree.CoreNode.{CoreNode}
use Rattle.hept_ast.specs.declared.tree.Decl.{Decl}
use Rattle.hept_ast.specs.declared.tree.Expr.{Expr}
use Rattle.hept_ast.specs.declared.tree.Form.{out-Form}
use Rattle.hept_ast.specs.declared.tree.Form.TheVariants as form
use Rattle.hept_ast.specs.declared.tree.Const.TheVariants.{Number}
use Rattle.hept_ast.specs.declared.tree.BinaryOp.TheVariants.{Add}
use Rattle.hept_ast.specs.declared.tree.Ty.TheVariants as ty
use Rattle.hept_ast.specs.declared.tree.Plain.TheVariants.{Int, Bool as Truth_value}
use Rattle.hept_ast.proofs.Unfolded.{static}
use denote.Hole.Carrier
use Rattle.core_rules.specs.Cores.{CoreReads, as_node, core_clock, core_decls, core_judging, core_reads, lefts_of}
use Rattle.core_rules.specs.WellFormed.{IsClockedEquation, IsNoLast, IsTypedEquation, IsWellFormedNode, SumIsWellFormed, expr, sum_core, sum_node}
use Rattle.core_rules.proofs.Ends.{same_is, same_self}

-- ---- different names

abbrev pub all_differ : List Name → Bool
all_differ [] = true
all_differ (x ∷ xs) = not (is_in x xs) && all_differ xs

not_among : (x : Name) (xs : List Name) → is_in x xs ≡ false → IsAmong x xs → ⊥
not_among x [] e a = elim a [ ]
not_among x (y ∷ ys) e at_head = false≢true (sym e ∙ ap (λ b. b || is_in x ys) (same_self x))
not_among x (y ∷ ys) e (in_tail a) = not_among x ys (later (same x y) e) a
  where
    later : (b : Bool) → b || is_in x ys ≡ false → is_in x ys ≡ false
    later true e = absurd (false≢true (sym e))
    later false e = e

differ_by : (b : Bool) (x : Name) (xs : List Name) → is_in x xs ≡ b → (all_differ xs ≡ true → AllDiffer xs) → not b && all_differ xs ≡ true → AllDiffer (x ∷ xs)
differ_by true x xs s later e = absurd (false≢true e)
differ_by false x xs s later e = (not_among x xs s, later e)

pub differ : (xs : List Name) → all_differ xs ≡ true → AllDiffer xs
differ [] e = tt
differ (x ∷ xs) e = differ_by (is_in x xs) x xs refl (differ xs) e

swapped : (b c : Bool) → b || (c || false) ≡ c || (b || false)
swapped true true = refl
swapped true false = refl
swapped false true = refl
swapped false false = refl

-- ---- its equations

abbrev first : CoreEquation
first = record { place = record { 0 = 0 }; left = codes "y" ∷ []; clock = record { steps = [] }; right = expr (form.Fby (expr (form.Const (Number (pos 0)))) (expr (form.Var (codes "s")))); resets = [] }

abbrev second : CoreEquation
second = record { place = record { 0 = 0 }; left = codes "s" ∷ []; clock = record { steps = [] }; right = expr (form.Binary Add (expr (form.Var (codes "x"))) (expr (form.Var (codes "y")))); resets = [] }

first_typed : IsTypedEquation sum_core sum_node first
unfolding static out-Form Carrier.out
first_typed = record {
  faults = refl;
  types = ty.Plain Int ∷ [];
  right = refl;
  left = refl;
  last = All-from_recursion (λ (x : Expr). IsNoLast (out-Form x.form)) (inside first.right) (tt, (tt, (tt, tt)));
  resets = All-nil (λ x. type_of_variable (core_judging sum_core sum_node) x ≡ Some (ty.Plain Truth_value));
}

second_typed : IsTypedEquation sum_core sum_node second
unfolding static out-Form Carrier.out
second_typed = record {
  faults = refl;
  types = ty.Plain Int ∷ [];
  right = refl;
  left = refl;
  last = All-from_recursion (λ (x : Expr). IsNoLast (out-Form x.form)) (inside second.right) (tt, (tt, (tt, tt)));
  resets = All-nil (λ x. type_of_variable (core_judging sum_core sum_node) x ≡ Some (ty.Plain Truth_value));
}

first_clocked : IsClockedEquation sum_node first
unfolding static
first_clocked = record { numbers = λ n. []; right = refl; meets = (refl, (refl, tt)) }

second_clocked : IsClockedEquation sum_node second
unfolding static
second_clocked = record { numbers = λ n. []; right = refl; meets = (refl, (refl, tt)) }

calls_none : calls_of (Some (as_node sum_node)) ≡ []
unfolding static
calls_none = refl

node_well_formed : IsWellFormedNode sum_core sum_node
node_well_formed = record {
  once = differ (names (core_decls sum_node)) refl;
  one_left = differ (lefts_of sum_node) refl;
  defined = λ x. swapped (same x (codes "y")) (same x (codes "s"));
  calls = λ f e. absurd (false≢true (ap (is_in f) (sym calls_none) ∙ e));
  typed = All-cons (IsTypedEquation sum_core sum_node) first (second ∷ []) first_typed (All-cons (IsTypedEquation sum_core sum_node) second [] second_typed (All-nil (IsTypedEquation sum_core sum_node)));
  clocked = All-cons (IsClockedEquation sum_node) first (second ∷ []) first_clocked (All-cons (IsClockedEquation sum_node) second [] second_clocked (All-nil (IsClockedEquation sum_node)));
  outputs = All-cons (λ (d : Decl). core_clock sum_node d.name ≡ []) (record { place = record { 0 = 0 }; name = codes "s"; ty = ty.Plain Int; init = None }) [] refl (All-nil (λ (d : Decl). core_clock sum_node d.name ≡ []));
}

-- ---- its reads

-- where nothing leads on twice there is no cycle
no_two_steps : (R : Name → Name → Type 0) → ((a b c : Name) → R a b → R b c → ⊥) → HasNoCycle R
no_two_steps R two [] h = h
no_two_steps R two (x ∷ []) h = two x x x h h
no_two_steps R two (x ∷ y ∷ []) h = two x y x h.0 h.1
no_two_steps R two (x ∷ y ∷ z ∷ zs) h = two x y z h.0 h.1.0

reads_are : (a : Name) → core_reads sum_node a ≡ (if is_in a (codes "y" ∷ []) then [] else []) ++ ((if is_in a (codes "s" ∷ []) then codes "x" ∷ codes "y" ∷ [] else []) ++ [])
unfolding static
reads_are a = refl

leads_on : (a b : Name) → CoreReads sum_node a b → (is_in a (codes "s" ∷ []) ≡ true) × (is_in b (codes "x" ∷ codes "y" ∷ []) ≡ true)
leads_on a b h = go (is_in a (codes "y" ∷ [])) (is_in a (codes "s" ∷ [])) refl (ap (is_in b) (sym (reads_are a)) ∙ h)
  where
    go : (t u : Bool) → is_in a (codes "s" ∷ []) ≡ u → is_in b ((if t then [] else []) ++ ((if u then codes "x" ∷ codes "y" ∷ [] else []) ++ [])) ≡ true → (is_in a (codes "s" ∷ []) ≡ true) × (is_in b (codes "x" ∷ codes "y" ∷ []) ≡ true)
    go true true s e = (s, e)
    go true false s e = absurd (false≢true e)
    go false true s e = (s, e)
    go false false s e = absurd (false≢true e)

one_name : (b : Name) → is_in b (codes "s" ∷ []) ≡ true → b ≡ codes "s"
one_name b e = same_is b (codes "s") (first_of (same b (codes "s")) e)
  where
    first_of : (t : Bool) → t || false ≡ true → t ≡ true
    first_of true e = refl
    first_of false e = e

no_cycle : HasNoCycle (CoreReads sum_node)
no_cycle = no_two_steps (CoreReads sum_node) (λ a b c h k.
    let is = one_name b (leads_on b c k).0 in
    false≢true (subst (λ (z : Name). is_in z (codes "x" ∷ codes "y" ∷ []) ≡ true) is (leads_on a b h).1))

pub sum_is_well_formed : SumIsWellFormed
sum_is_well_formed = (
  All-cons (IsWellFormedNode sum_core) sum_node [] node_well_formed (All-nil (IsWellFormedNode sum_core)),
  All-cons (λ (node : CoreNode). HasNoCycle (CoreReads node)) sum_node [] no_cycle (All-nil (λ (node : CoreNode). HasNoCycle (CoreReads node))),
)
