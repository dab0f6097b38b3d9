-- Naming a subexpression of a well-formed core adds one name.
use Rattle.std.proofs.Common.{◌≡◌, ◌⊎◌, inl, inr, ⊎_elim, ℕ, zero, suc, ◌-◌, Bool, true, false, ◌||◌, not, List, [], ◌∷◌, ◌++◌, length, take, refl, sym, ap, ◌∙◌, subst, append_assoc}
use Rattle.std.specs.Prelude.{Option, Some, is_some, if◌then◌else◌}
use Rattle.std.specs.List.{All, flat_map}
use Rattle.std.specs.Option.{option_map_or}
use Rattle.std.proofs.lemmas.Bool.{false≢true}
use Rattle.std.proofs.lemmas.Grind.{flat_map-append}
use Rattle.std.proofs.lemmas.List.{map-append}
use Rattle.std.proofs.lemmas.List.Elements.{All-head, All-tail}
use Rattle.std.proofs.lemmas.Slice.Eq.{bytes_eq-Decides}
use Rattle.hept_ast.specs.Texts.{Name, is_in, names, same}
use Rattle.hept_ast.specs.Scopes.{Clock}
use Rattle.hept_ast.specs.Parts.{declaration}
use Rattle.hept_ast.specs.Faults.{FutureKept, Judging, Kind, UnknownName, fault, is_kept, read_faults, type_of_variable, unknown_variable}
use Rattle.hept_ast.specs.declared.tree.ClockStep.{ClockStep}
use Rattle.hept_ast.specs.declared.tree.Core.{Core}
use Rattle.hept_ast.specs.declared.tree.CoreEquation.{CoreEquation}
use Rattle.hept_ast.specs.declared.tree.CoreNode.{CoreNode}
use Rattle.hept_ast.specs.declared.tree.Decl.{Decl}
use Rattle.hept_ast.specs.declared.tree.Expr.{Expr}
use Rattle.hept_ast.specs.declared.tree.MergeBranch.{MergeBranch}
use Rattle.hept_ast.specs.declared.tree.Tag.{Tag}
use Rattle.hept_ast.specs.declared.tree.TypeDec.{TypeDec}
use Rattle.hept_ast.specs.declared.tree.Ty.{Ty}
use Rattle.hept_ast.proofs.JudgeOf.{judge_of}
use Rattle.core_rules.specs.Cores.{core_decls, core_judging}
use Rattle.core_rules.specs.WellFormed.{IsTypedEquation, IsWellFormed, IsWellFormedNode}
use Rattle.core_naming.specs.Ties.{clock_names}
use Rattle.core_naming.specs.Names.{IsNaming, Names, NamesArgument, NamesBranch, NamesInNode, equation_names, new_decl, new_equation, node_names, with_right, whole, in_unary, in_left, in_right, in_condition, in_then, in_else, in_fby_first, in_fby_next, in_pre, in_arrow_first, in_arrow_next, in_when, in_merge, in_call, in_async_call, in_get, this_argument, later_argument, this_branch, later_branch}
use Rattle.normal_form.specs.NewNames.{AddsOnly, type_names}
use Rattle.normal_form.proofs.TypedOperands.{BranchesHaveOneType, HaveOneType, empty_parts, merge_reads, operands_typed}

-- ---- names in lists

or_cases : (a b : Bool) → a || b ≡ true → (a ≡ true) ⊎ (b ≡ true)
or_cases true b e = inl refl
or_cases false b e = inr e

or_left : (a b : Bool) → a ≡ true → a || b ≡ true
or_left true b e = refl
or_left false b e = absurd (false≢true e)

or_right : (a b : Bool) → b ≡ true → a || b ≡ true
or_right true b e = refl
or_right false b e = e

in_cases : (y : Name) (xs zs : List Name) → is_in y (xs ++ zs) ≡ true → (is_in y xs ≡ true) ⊎ (is_in y zs ≡ true)
in_cases y [] zs e = inr e
in_cases y (x ∷ xs) zs e =
    ⊎_elim (λ h. inl (or_left (same y x) (is_in y xs) h)) (λ h. ⊎_elim (λ k. inl (or_right (same y x) (is_in y xs) k)) (λ k. inr k) (in_cases y xs zs h))
    (or_cases (same y x) (is_in y (xs ++ zs)) e)

in_first : (y : Name) (xs zs : List Name) → is_in y xs ≡ true → is_in y (xs ++ zs) ≡ true
in_first y [] zs e = absurd (false≢true e)
in_first y (x ∷ xs) zs e = ⊎_elim (λ h. or_left (same y x) (is_in y (xs ++ zs)) h) (λ h. or_right (same y x) (is_in y (xs ++ zs)) (in_first y xs zs h)) (or_cases (same y x) (is_in y xs) e)

in_second : (y : Name) (xs zs : List Name) → is_in y zs ≡ true → is_in y (xs ++ zs) ≡ true
in_second y [] zs e = e
in_second y (x ∷ xs) zs e = or_right (same y x) (is_in y (xs ++ zs)) (in_second y xs zs e)

only_name : (y x : Name) → is_in y (x ∷ []) ≡ true → y ≡ x
only_name y x e = ⊎_elim (λ h. (bytes_eq-Decides y x).0 h) (λ h. absurd (false≢true h)) (or_cases (same y x) false e)

-- all names of zs are x or names of xs
abbrev Adds : Name → List Name → List Name → Type 0
Adds x xs zs = (y : Name) → is_in y zs ≡ true → (y ≡ x) ⊎ (is_in y xs ≡ true)

adds_none : (x : Name) (xs : List Name) → Adds x xs xs
adds_none x xs y h = inr h

adds_both : (x : Name) (xs ys zs vs : List Name) → Adds x xs zs → Adds x ys vs → Adds x (xs ++ ys) (zs ++ vs)
adds_both x xs ys zs vs h k y e =
    ⊎_elim (λ i. ⊎_elim (λ p. inl p) (λ q. inr (in_first y xs ys q)) (h y i)) (λ i. ⊎_elim (λ p. inl p) (λ q. inr (in_second y xs ys q)) (k y i)) (in_cases y zs vs e)

adds_middle : {A : Type 0} (x : Name) (f : A → List Name) (front back : List A) (a b : A) → Adds x (f a) (f b) → Adds x (flat_map f (front ++ a ∷ back)) (flat_map f (front ++ b ∷ back))
adds_middle x f [] back a b h = adds_both x (f a) (flat_map f back) (f b) (flat_map f back) h (adds_none x (flat_map f back))
adds_middle x f (c ∷ front) back a b h =
    adds_both x (f c) (flat_map f (front ++ a ∷ back)) (f c) (flat_map f (front ++ b ∷ back)) (adds_none x (f c)) (adds_middle x f front back a b h)

-- ---- the clock on which a named subexpression stands

declared : (seen : List Decl) (y : Name) (o : Option Decl) → declaration seen y ≡ o → is_some o ≡ true → is_in y (names seen) ≡ true
declared [] y o e s = absurd (false≢true (ap is_some e ∙ s))
declared (d ∷ ds) y o e s = tested (same y d.name) e (λ k. declared ds y o k s)
  where
    tested : (b : Bool) → (if b then Some d else declaration ds y) ≡ o → (declaration ds y ≡ o → is_in y (names ds) ≡ true) → b || is_in y (names ds) ≡ true
    tested true k h = refl
    tested false k h = h k

no_fault : (p : ℕ) (kind : Kind) (b : Bool) → fault p kind (not b) ≡ [] → b ≡ true
no_fault p kind true e = refl
no_fault p kind false e = cc

-- the variable of a merge without faults is declared
read_declared : (w : Judging) (p : ℕ) (y : Name) → read_faults w p y ≡ [] → is_in y (names w.seen) ≡ true
read_declared w p y e = declared w.seen y (declaration w.seen y) refl (no_fault p UnknownName (is_some (declaration w.seen y)) (empty_parts (unknown_variable w p y) (fault p FutureKept (option_map_or (is_kept w y) (type_of_variable w y) false)) e).0)

in_taken : (y : Name) (k : ℕ) (c : Clock) → is_in y (clock_names (take k c)) ≡ true → is_in y (clock_names c) ≡ true
in_taken y zero c e = absurd (false≢true e)
in_taken y (suc k) [] e = absurd (false≢true e)
in_taken y (suc k) (s ∷ c) e =
    ⊎_elim (λ h. or_left (same y s.name) (is_in y (clock_names c)) h) (λ h. or_right (same y s.name) (is_in y (clock_names c)) (in_taken y k c h))
    (or_cases (same y s.name) (is_in y (clock_names (take k c))) e)

module _ (w : Judging) (x : Name) (a : Expr) (d : Clock) where
  -- the clock's variables are those of the other or seen
  abbrev Over : Clock → Type 0
  Over c = (y : Name) → is_in y (clock_names d) ≡ true → (is_in y (clock_names c) ≡ true) ⊎ (is_in y (names w.seen) ≡ true)

  shorter : (k : ℕ) (c : Clock) → Over (take k c) → Over c
  shorter k c h y e = ⊎_elim (λ i. inl (in_taken y k c i)) (λ i. inr i) (h y e)

  longer : (c : Clock) (tag : Tag) (z : Name) → is_in z (names w.seen) ≡ true → Over (c ++ record { tag = tag; name = z } ∷ []) → Over c
  longer c tag z seen h y e =
      ⊎_elim (λ i. ⊎_elim (λ j. inl j) (λ j. inr (ap (λ (v : Name). is_in v (names w.seen)) (only_name y z j) ∙ seen))
      (in_cases y (clock_names c) (z ∷ []) (ap (is_in y) (sym (map-append (λ (s : ClockStep). s.name) c (record { tag = tag; name = z } ∷ []))) ∙ i))) (λ i. inr i) (h y e)

  mutual
    over : (c : Clock) (e r : Expr) → Names x a d c e r → (under : Bool) (ts : List Ty) → (judge_of w under e).types ≡ Some ts → Over c
    over _ _ _ whole under ts h = λ y i. inl i
    over _ _ _ (in_unary {e = e} {b = b} {m = m} p o q n) under ts h = over _ b m n false _ (operands_typed w under e _ ts o h).0.types
    over _ _ _ (in_left {e = e} {b = b} {m = m} p o q n) under ts h = over _ b m n false _ (operands_typed w under e _ ts o h).0.types
    over _ _ _ (in_right {e = e} {f = b} {m = m} p o q n) under ts h = over _ b m n false _ (operands_typed w under e _ ts o h).1.0.types
    over _ _ _ (in_condition {e = e} {i = b} {m = m} p o q n) under ts h = over _ b m n false _ (operands_typed w under e _ ts o h).0.types
    over _ _ _ (in_then {e = e} {b = b} {m = m} p o q n) under ts h = over _ b m n false _ (operands_typed w under e _ ts o h).1.0.types
    over _ _ _ (in_else {e = e} {f = b} {m = m} p o q n) under ts h = over _ b m n false _ (operands_typed w under e _ ts o h).1.1.0.types
    over _ _ _ (in_fby_first {e = e} {b = b} {m = m} p o q n) under ts h = over _ b m n false _ (operands_typed w under e _ ts o h).0.types
    over _ _ _ (in_fby_next {e = e} {f = b} {m = m} p o q n) under ts h = over _ b m n false _ (operands_typed w under e _ ts o h).1.0.types
    over _ _ _ (in_pre {e = e} {b = b} {m = m} p o q n) under ts h = over _ b m n false _ (operands_typed w under e _ ts o h).0.types
    over _ _ _ (in_arrow_first {e = e} {b = b} {m = m} p o q n) under ts h = over _ b m n false _ (operands_typed w under e _ ts o h).0.types
    over _ _ _ (in_arrow_next {e = e} {f = b} {m = m} p o q n) under ts h = over _ b m n false _ (operands_typed w under e _ ts o h).1.0.types
    over _ _ _ (in_get {e = e} {b = b} {m = m} p o q n) under ts h = over _ b m n true _ (operands_typed w under e _ ts o h).0.types
    over _ _ _ (in_when {c = c} {e = e} {b = b} {m = m} p o q n) under ts h = shorter (length c - 1) c (over (take (length c - 1) c) b m n false _ (operands_typed w under e _ ts o h).0.types)
    over _ _ _ (in_merge {c = c} {e = e} {y = y} {bs = bs} p o q n) under ts h =
        over_branch y c bs _ n (read_declared w e.place.0 y (merge_reads w under e y bs ts o h)) (operands_typed w under e _ ts o h)
    over _ _ _ (in_call {c = c} {e = e} p o q n) under ts h = over_argument c _ _ n (operands_typed w under e _ ts o h)
    over _ _ _ (in_async_call {c = c} {e = e} p o q n) under ts h = over_argument c _ _ n (operands_typed w under e _ ts o h)

    over_argument : (c : Clock) (es ms : List Expr) → NamesArgument x a d c es ms → HaveOneType w false es → Over c
    over_argument _ _ _ (this_argument {e = e} {m = m} n) h = over _ e m n false _ h.0.types
    over_argument _ _ _ (later_argument n) h = over_argument _ _ _ n h.1

    over_branch : (y : Name) (c : Clock) (bs ms : List MergeBranch) → NamesBranch x a d y c bs ms → is_in y (names w.seen) ≡ true → BranchesHaveOneType w bs → Over c
    over_branch _ _ _ _ (this_branch {y = y} {c = c} {b = b} {m = m} p t n) seen h = longer c b.tag y seen (over _ b.value m.value n false _ h.0.types)
    over_branch _ _ _ _ (later_branch n) seen h = over_branch _ _ _ _ n seen h.1

-- ---- cores

all_middle : {A : Type 0} (P : A → Type 0) (front back : List A) (a : A) → All P (front ++ a ∷ back) → P a
all_middle P [] back a h = All-head P a back h
all_middle P (b ∷ front) back a h = all_middle P front back a (All-tail P b (front ++ a ∷ back) h)

in_flat : {A : Type 0} (f : A → List Name) (front back : List A) (a : A) (y : Name) → is_in y (f a) ≡ true → is_in y (flat_map f (front ++ a ∷ back)) ≡ true
in_flat f [] back a y e = in_first y (f a) (flat_map f back) e
in_flat f (b ∷ front) back a y e = in_second y (f b) (flat_map f (front ++ a ∷ back)) (in_flat f front back a y e)

module _ (core other : Core) (formed : IsWellFormed core) (n : IsNaming core other) where
  step : NamesInNode n.x n.a n.d n.t n.node n.moved
  step = n.step

  typed_equation : IsTypedEquation core n.node n.step.equation
  typed_equation =
      all_middle (IsTypedEquation core n.node) n.step.front n.step.back n.step.equation
      (subst (All (IsTypedEquation core n.node)) n.step.equations (all_middle (IsWellFormedNode core) n.front n.back n.node (subst (All (IsWellFormedNode core)) n.nodes formed)).typed)

  in_equations : (y : Name) → is_in y (equation_names n.step.equation) ≡ true → is_in y (node_names n.node) ≡ true
  in_equations y e =
      in_second y (n.node.name ∷ names (core_decls n.node)) (flat_map equation_names n.node.equations)
      (subst (λ (es : List CoreEquation). is_in y (flat_map equation_names es) ≡ true) (sym n.step.equations) (in_flat equation_names n.step.front n.step.back n.step.equation y e))

  in_decls : (y : Name) → is_in y (names (core_decls n.node)) ≡ true → is_in y (node_names n.node) ≡ true
  in_decls y e = in_first y (n.node.name ∷ names (core_decls n.node)) (flat_map equation_names n.node.equations) (or_right (same y n.node.name) (is_in y (names (core_decls n.node))) e)

  new_clock : (y : Name) → is_in y (clock_names n.d) ≡ true → is_in y (node_names n.node) ≡ true
  new_clock y e =
      let k = n.step.equation in
      ⊎_elim (λ i. in_equations y (in_first y (k.left ++ clock_names k.clock.steps) k.resets (in_second y k.left (clock_names k.clock.steps) i))) (λ i. in_decls y i)
      (over (core_judging core n.node) n.x n.a n.d k.clock.steps k.right n.step.right n.step.named false typed_equation.types typed_equation.right y e)

  -- the new equation has the new name, and names that the node has
  new_names : Adds n.x (node_names n.node) (equation_names (new_equation n.x n.a n.d n.step.equation.resets))
  new_names y e =
      ⊎_elim (λ i. ⊎_elim (λ j. inl (only_name y n.x j)) (λ j. inr (new_clock y j)) (in_cases y (n.x ∷ []) (clock_names n.d) i))
      (λ i. inr (in_equations y (in_second y (n.step.equation.left ++ clock_names n.step.equation.clock.steps) n.step.equation.resets i)))
      (in_cases y (n.x ∷ [] ++ clock_names n.d) n.step.equation.resets e)

  more_decls : names (core_decls n.moved) ≡ names (core_decls n.node) ++ n.x ∷ []
  more_decls =
      let v : Decl = new_decl n.x n.a n.t in
      let e : core_decls n.moved ≡ n.node.inputs ++ n.node.outputs ++ (n.node.locals ++ v ∷ []) =
      ap (λ (l : List Decl). l ++ n.moved.outputs ++ n.moved.locals) step.inputs
      ∙ (ap (λ (l : List Decl). n.node.inputs ++ l ++ n.moved.locals) step.outputs ∙ ap (λ (l : List Decl). n.node.inputs ++ n.node.outputs ++ l) step.locals) in
      ap names (e ∙ sym (append_assoc (n.node.inputs ++ n.node.outputs) n.node.locals (v ∷ []))) ∙ map-append (λ (z : Decl). z.name) (core_decls n.node) (v ∷ [])

  declared_names : Adds n.x (n.node.name ∷ names (core_decls n.node)) (n.moved.name ∷ names (core_decls n.moved))
  declared_names y e =
      let own = n.node.name ∷ names (core_decls n.node) in
      let is : n.moved.name ∷ names (core_decls n.moved) ≡ own ++ n.x ∷ [] =
      ap (λ (z : Name). z ∷ names (core_decls n.moved)) step.name ∙ ap (λ (l : List Name). n.node.name ∷ l) more_decls in
      ⊎_elim (λ i. inr i) (λ i. inl (only_name y n.x i)) (in_cases y own (n.x ∷ []) (ap (is_in y) (sym is) ∙ e))

  added_equations : Adds n.x (node_names n.node) (flat_map equation_names n.moved.equations)
  added_equations y e =
      let front = n.step.front in
      let back = n.step.back in
      let kept = with_right n.step.equation n.step.right in
      let new = new_equation n.x n.a n.d n.step.equation.resets in
      let is : flat_map equation_names n.moved.equations ≡ flat_map equation_names (front ++ kept ∷ back) ++ (equation_names new ++ []) =
      ap (λ (es : List CoreEquation). flat_map equation_names es) n.step.others ∙ flat_map-append equation_names (front ++ kept ∷ back) (new ∷ []) in
      ⊎_elim
      (λ i. ⊎_elim (λ j. inl j)
      (λ j. inr (in_second y (n.node.name ∷ names (core_decls n.node)) (flat_map equation_names n.node.equations) (ap (λ (es : List CoreEquation). is_in y (flat_map equation_names es)) n.step.equations ∙ j)))
      (adds_middle n.x equation_names front back n.step.equation kept (adds_none n.x (equation_names kept)) y i))
      (λ i. ⊎_elim (λ j. new_names y j) (λ j. absurd (false≢true j)) (in_cases y (equation_names new) [] i))
      (in_cases y (flat_map equation_names (front ++ kept ∷ back)) (equation_names new ++ []) (ap (is_in y) (sym is) ∙ e))

  added_in_node : Adds n.x (node_names n.node) (node_names n.moved)
  added_in_node y e =
      ⊎_elim (λ i. ⊎_elim (λ j. inl j) (λ j. inr (in_first y (n.node.name ∷ names (core_decls n.node)) (flat_map equation_names n.node.equations) j)) (declared_names y i))
      (λ i. added_equations y i) (in_cases y (n.moved.name ∷ names (core_decls n.moved)) (flat_map equation_names n.moved.equations) e)

  added_in_nodes : Adds n.x (flat_map node_names core.nodes) (flat_map node_names other.nodes)
  added_in_nodes =
      subst (λ (l : List CoreNode). Adds n.x (flat_map node_names l) (flat_map node_names other.nodes)) (sym n.nodes)
      (subst (λ (l : List CoreNode). Adds n.x (flat_map node_names (n.front ++ n.node ∷ n.back)) (flat_map node_names l)) (sym n.others)
      (adds_middle n.x node_names n.front n.back n.node n.moved added_in_node))

  added_types : Adds n.x (flat_map type_names core.types) (flat_map type_names other.types)
  added_types = subst (λ (l : List TypeDec). Adds n.x (flat_map type_names core.types) (flat_map type_names l)) (sym n.types) (adds_none n.x (flat_map type_names core.types))

  pub adds_one : AddsOnly core n.x other
  adds_one =
      adds_both n.x (flat_map type_names core.types) (flat_map node_names core.nodes) (flat_map type_names other.types) (flat_map node_names other.nodes) added_types added_in_nodes
