-- In a well-formed core no right side mentions a name that the core does not have.
use Rattle.std.proofs.Common.{◌≡◌, false, List, [], ◌∷◌, ◌++◌, ◌-◌, length, take, refl, sym, ap, subst, ◌∙◌, Contains, ℕ, zero, suc, arith}
use Rattle.std.specs.List.{flat_map}
use Rattle.std.proofs.lemmas.Bool.{or_parts}
use Rattle.std.proofs.lemmas.List.Elements.{All-contains, Contains-append_right}
use Rattle.hept_ast.specs.Texts.{Name, same, is_in, names}
use Rattle.hept_ast.specs.Scopes.{Clock}
use Rattle.std.proofs.lemmas.List.{map-append}
use Rattle.hept_ast.specs.declared.tree.Tag.{Tag}
use Rattle.hept_ast.specs.declared.tree.ClockStep.{ClockStep}
use Rattle.hept_ast.specs.declared.tree.Core.{Core}
use Rattle.hept_ast.specs.declared.tree.CoreNode.{CoreNode}
use Rattle.hept_ast.specs.declared.tree.CoreEquation.{CoreEquation}
use Rattle.hept_ast.specs.declared.tree.Expr.{Expr}
use Rattle.hept_ast.specs.declared.tree.MergeBranch.{MergeBranch}
use Rattle.core_rules.specs.Cores.{core_decls, core_judging}
use Rattle.core_rules.specs.WellFormed.{IsTypedEquation, IsWellFormed, IsWellFormedNode}
use Rattle.core_naming.specs.Names.{IsNaming, Names, core_names, equation_names, node_names}
use Rattle.core_naming.specs.Ties.{clock_names, mentions}
use Rattle.naming_rules.proofs.Names.{both_false, out_both, out_each, out_left, out_right}
use Rattle.naming_rules.proofs.MentionsOf.{mentions_Unary, mentions_Binary, mentions_If, mentions_Fby, mentions_Pre, mentions_Arrow, mentions_When, mentions_Merge, mentions_Call, mentions_AsyncCall, mentions_Get}
use Rattle.naming_rules.proofs.Undeclared.{mentions_declared}
use Rattle.naming_rules.proofs.NamedShapes.{NamedCases, branch_clock, by_names}

-- ---- what is in a core

pub node_name_new : (core : Core) (x : Name) → is_in x (core_names core) ≡ false → (node : CoreNode) → Contains core.nodes node → is_in x (node_names node) ≡ false
node_name_new core x new node c = out_each node_names x node core.nodes c (out_right x _ (flat_map node_names core.nodes) new)

pub decl_name_new : (x : Name) (node : CoreNode) → is_in x (node_names node) ≡ false → is_in x (names (core_decls node)) ≡ false
decl_name_new x node new = (or_parts (same x node.name) (is_in x (names (core_decls node))) (out_left x (node.name ∷ names (core_decls node)) _ new)).1

pub equation_name_new : (x : Name) (node : CoreNode) → is_in x (node_names node) ≡ false → (e : CoreEquation) → Contains node.equations e → is_in x (equation_names e) ≡ false
equation_name_new x node new e c = out_each equation_names x e node.equations c (out_right x (node.name ∷ names (core_decls node)) (flat_map equation_names node.equations) new)

pub equation_mentions_nothing_new : (core : Core) (x : Name) (node : CoreNode) (e : CoreEquation) → is_in x (names (core_decls node)) ≡ false → IsTypedEquation core node e → is_in x (mentions e.right) ≡ false
equation_mentions_nothing_new core x node e new typed = mentions_declared (core_judging core node) x new e.right false typed.faults

-- no right side mentions a name that is none of the core's
pub mentions_nothing_new : (core : Core) (x : Name) → IsWellFormed core → is_in x (core_names core) ≡ false →
    (node : CoreNode) → Contains core.nodes node → (e : CoreEquation) → Contains node.equations e → is_in x (mentions e.right) ≡ false
mentions_nothing_new core x well new node c e d =
    let w = All-contains (IsWellFormedNode core) core.nodes node well c in
    equation_mentions_nothing_new core x node e (decl_name_new x node (node_name_new core x new node c)) (All-contains (IsTypedEquation core node) node.equations e w.typed d)

-- ---- what is in an expression with a named subexpression

module _ (x : Name) (a : Expr) (d : Clock) (z : Name) where
  -- a name that is in neither the expression nor its clock is in neither the subexpression nor its clock
  abbrev Without : Clock → List Name → Type 0
  Without c ms = is_in z ms ≡ false → (is_in z (mentions a) ≡ false) × (is_in z (clock_names c) ≡ false → is_in z (clock_names d) ≡ false)

  by : (c : Clock) (ls ms : List Name) → ls ≡ ms → Without c ms → Without c ls
  by c ls ms m go h = go (ap (is_in z) (sym m) ∙ h)

  left : (c : Clock) (xs ys : List Name) → Without c xs → Without c (xs ++ ys)
  left c xs ys i h = i (out_left z xs ys h)

  right : (c : Clock) (xs ys : List Name) → Without c ys → Without c (xs ++ ys)
  right c xs ys i h = i (out_right z xs ys h)

  shorter : (n : ℕ) (k : Clock) → is_in z (clock_names k) ≡ false → is_in z (clock_names (take n k)) ≡ false
  shorter zero k h = refl
  shorter (suc n) [] h = refl
  shorter (suc n) (s ∷ k) h = let q = or_parts (same z s.name) (is_in z (clock_names k)) h in both_false (same z s.name) (is_in z (clock_names (take n k))) q.0 (shorter n k q.1)

  longer : (c : Clock) (tag : Tag) (y : Name) → is_in z (clock_names c) ≡ false → is_in z (y ∷ []) ≡ false → is_in z (clock_names (branch_clock c tag y)) ≡ false
  longer c tag y h n = ap (is_in z) (map-append (λ (s : ClockStep). s.name) c (record { tag = tag; name = y } ∷ [])) ∙ out_both z (clock_names c) (y ∷ []) h n

  values : List MergeBranch → List Name
  values bs = flat_map (λ b. mentions b.value) bs

  without_cases : NamedCases x a d (λ c e r. Without c (mentions e)) (λ c es ms. Without c (flat_map mentions es))
      (λ y c bs ms. is_in z (y ∷ []) ≡ false → Without c (flat_map (λ b. mentions b.value) bs))
  unfolding values
  without_cases = record {
    at_whole = λ h. (h, λ k. k);
    at_unary = λ c p op b m i. by c _ (mentions b) (mentions_Unary p op b) i;
    at_left = λ c p op b f m i. by c _ (mentions b ++ mentions f) (mentions_Binary p op b f) (left c (mentions b) (mentions f) i);
    at_right = λ c p op b f m n i. by c _ (mentions b ++ mentions f) (mentions_Binary p op b f) (right c (mentions b) (mentions f) i);
    at_condition = λ c p t b f m i. by c _ (mentions t ++ mentions b ++ mentions f) (mentions_If p t b f) (left c (mentions t ++ mentions b) (mentions f) (left c (mentions t) (mentions b) i));
    at_then = λ c p t b f m i. by c _ (mentions t ++ mentions b ++ mentions f) (mentions_If p t b f) (left c (mentions t ++ mentions b) (mentions f) (right c (mentions t) (mentions b) i));
    at_else = λ c p t b f m i. by c _ (mentions t ++ mentions b ++ mentions f) (mentions_If p t b f) (right c (mentions t ++ mentions b) (mentions f) i);
    at_fby_first = λ c p b f m i. by c _ (mentions b ++ mentions f) (mentions_Fby p b f) (left c (mentions b) (mentions f) i);
    at_fby_next = λ c p b f m i. by c _ (mentions b ++ mentions f) (mentions_Fby p b f) (right c (mentions b) (mentions f) i);
    at_pre = λ c p b m i. by c _ (mentions b) (mentions_Pre p b) i;
    at_arrow_first = λ c p b f m i. by c _ (mentions b ++ mentions f) (mentions_Arrow p b f) (left c (mentions b) (mentions f) i);
    at_arrow_next = λ c p b f m i. by c _ (mentions b ++ mentions f) (mentions_Arrow p b f) (right c (mentions b) (mentions f) i);
    at_when = λ c p b m tag y i. by c _ (y ∷ mentions b) (mentions_When p b tag y)
        (λ h. let r = i (or_parts (same z y) (is_in z (mentions b)) h).1 in (r.0, λ k. r.1 (shorter (length c - 1) c k)));
    at_merge = λ c p y bs ms i. by c _ (y ∷ values bs) (mentions_Merge p y bs)
        (λ h. let q = or_parts (same z y) (is_in z (values bs)) h in i (both_false (same z y) false q.0 refl) q.1);
    at_call = λ c p f es ms i. by c _ (flat_map mentions es) (mentions_Call p f es) i;
    at_async = λ c p q f es ms i. by c _ (flat_map mentions es) (mentions_AsyncCall p q f es) i;
    at_get = λ c p b m i. by c _ (mentions b) (mentions_Get p b) i;
    this_one = λ c e m es i. left c (mentions e) (flat_map mentions es) i;
    later_one = λ c e es ms i. right c (mentions e) (flat_map mentions es) i;
    this_value = λ y c p tag e m bs i n h. let r = i (out_left z (mentions e) (values bs) h) in (r.0, λ k. r.1 (longer c tag y k n));
    later_value = λ y c b bs ms i n h. i n (out_right z (mentions b.value) (values bs) h);
  }

  pub without_named : (c : Clock) (e r : Expr) → Names x a d c e r → is_in z (mentions e) ≡ false → (is_in z (mentions a) ≡ false) × (is_in z (clock_names c) ≡ false → is_in z (clock_names d) ≡ false)
  without_named c e r h = by_names x a d _ _ _ without_cases c e r h

-- ---- in a naming

module _ (core other : Core) (well : IsWellFormed core) (n : IsNaming core other) where
  pub the_node : Contains core.nodes n.node
  the_node = subst (λ (l : List CoreNode). Contains l n.node) (sym n.nodes) (Contains-append_right n.front (n.node ∷ n.back) n.node (0, omega arith, refl))

  pub the_equation : Contains n.node.equations n.step.equation
  the_equation =
      subst (λ (l : List CoreEquation). Contains l n.step.equation) (sym n.step.equations) (Contains-append_right n.step.front (n.step.equation ∷ n.step.back) n.step.equation (0, omega arith, refl))

  pub old_mentions_nothing_new : is_in n.x (mentions n.step.equation.right) ≡ false
  old_mentions_nothing_new = mentions_nothing_new core n.x well n.new.fresh n.node the_node n.step.equation the_equation

  -- nor does the subexpression that is named
  pub named_mentions_nothing_new : is_in n.x (mentions n.a) ≡ false
  named_mentions_nothing_new = (without_named n.x n.a n.d n.x n.step.equation.clock.steps n.step.equation.right n.step.right n.step.named old_mentions_nothing_new).0

  equation_is_new : is_in n.x (equation_names n.step.equation) ≡ false
  equation_is_new = equation_name_new n.x n.node (node_name_new core n.x n.new.fresh n.node the_node) n.step.equation the_equation

  pub old_clock_is_new : is_in n.x (clock_names n.step.equation.clock.steps) ≡ false
  old_clock_is_new = out_right n.x n.step.equation.left (clock_names n.step.equation.clock.steps) (out_left n.x (n.step.equation.left ++ clock_names n.step.equation.clock.steps) n.step.equation.resets equation_is_new)

  pub old_resets_are_new : is_in n.x n.step.equation.resets ≡ false
  old_resets_are_new = out_right n.x (n.step.equation.left ++ clock_names n.step.equation.clock.steps) n.step.equation.resets equation_is_new

  -- nor its clock
  pub named_clock_is_new : is_in n.x (clock_names n.d) ≡ false
  named_clock_is_new = (without_named n.x n.a n.d n.x n.step.equation.clock.steps n.step.equation.right n.step.right n.step.named old_mentions_nothing_new).1 old_clock_is_new
