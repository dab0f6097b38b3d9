-- The nodes of a core in which a subexpression is named have the static facts.
use Rattle.std.proofs.Common.{◌≡◌, Bool, true, false, if◌then◌else◌, List, [], ◌∷◌, ◌++◌, map, refl, sym, ap, subst, ◌∙◌, All, Contains, Option, Some}
use Rattle.std.specs.List.{flat_map, list_all}
use Rattle.std.proofs.lemmas.Bool.{or_parts}
use Rattle.std.proofs.lemmas.List.Elements.{All-contains, All-weaker}
use Rattle.hept_ast.specs.Texts.{Name, same, is_in, names}
use Rattle.hept_ast.specs.Scopes.{Clock}
use Rattle.hept_ast.specs.Parts.{inside}
use Rattle.hept_ast.specs.Faults.{node_named}
use Rattle.hept_ast.specs.Types.{is_plain, types_of}
use Rattle.hept_ast.specs.declared.tree.Core.{Core}
use Rattle.hept_ast.specs.declared.tree.CoreNode.{CoreNode}
use Rattle.hept_ast.specs.declared.tree.CoreEquation.{CoreEquation}
use Rattle.hept_ast.specs.declared.tree.Node.{Node}
use Rattle.hept_ast.specs.declared.tree.Decl.{Decl}
use Rattle.hept_ast.specs.declared.tree.Expr.{Expr}
use Rattle.hept_ast.specs.declared.tree.TypeDec.{TypeDec}
use Rattle.hept_ast.specs.declared.tree.Form.{out-Form}
use Rattle.core_rules.specs.Cores.{as_interface, core_decls, core_judging}
use Rattle.core_rules.specs.WellFormed.{IsClockedEquation, IsTypedEquation, IsWellFormed, IsWellFormedNode}
use Rattle.core_rules.proofs.Ends.{same_is, same_self}
use Rattle.sound_expressions.specs.Demands.{NamesDiffer}
use Rattle.core_facts.specs.Undefined.{Allows, Grades, lists_of}
use Rattle.core_facts.specs.Static.{AreProper, GivesNoFuture, StaticCore, StaticEquation, StaticExpr, StaticNode}
use Rattle.core_facts.proofs.Reordered.{expr_by}
use Rattle.core_naming.specs.Names.{IsNaming, new_equation, with_right}
use Rattle.core_naming.specs.Ties.{clock_names, form_names, mentions}
use Rattle.naming_rules.specs.Namings.{Namings, no_naming, one_more}
use Rattle.naming_rules.proofs.Shapes.{Each}
use Rattle.naming_rules.proofs.Lists.{each_both, each_from, each_left, each_of, each_right, each_to}
use Rattle.naming_rules.proofs.Names.{never, out_left, out_right, same_turned}
use Rattle.naming_rules.proofs.CallsAlike.{AlikeFound, both_found, found_alike, neither}
use Rattle.naming_rules.proofs.NodeCalls.{interfaces_alike}
use Rattle.naming_rules.proofs.Mentions.{equation_name_new, named_clock_is_new, node_name_new, the_equation, the_node}
use Rattle.naming_rules.proofs.Undeclared.{mentions_declared}
use Rattle.naming_rules.proofs.Declarations.{names_append, own_moved, undeclared}
use Rattle.naming_rules.proofs.ClocksMoved.{clock_moved, clocked_stands}
use Rattle.naming_rules.proofs.WellNamed.{names_new, naming_keeps_well_formed, with_others}
use Rattle.naming_facts.specs.Kept.{NamingKeepsGrades, NamingKeepsStatic, NamingsKeepStatic, named_grade}
use Rattle.naming_facts.proofs.Unmentioned.{Given, Regraded, Same, stays}
use Rattle.naming_facts.proofs.Moved.{Known, Moved, facts_of, moved_kept}

-- ---- names

not_that : (x y : Name) (xs : List Name) → is_in x xs ≡ false → is_in y xs ≡ true → same x y ≡ false
not_that x y xs f t = go (same x y) refl
  where
    go : (b : Bool) → same x y ≡ b → b ≡ false
    go true e = never f (subst (λ (z : Name). is_in z xs ≡ true) (sym (same_is x y e)) t)
    go false e = refl

only_one : (y x : Name) → is_in y (x ∷ []) ≡ true → y ≡ x
only_one y x h = go (same y x) refl h
  where
    go : (b : Bool) → same y x ≡ b → is_in y (x ∷ []) ≡ true → y ≡ x
    go true e i = same_is y x e
    go false e i = never (ap (λ b. b) (rw e refl)) i

-- a name that no element of a list has
each_free : (f : Expr → List Name) (x : Name) (es : List Expr) → is_in x (flat_map f es) ≡ false → Each (λ e. is_in x (f e) ≡ false) es
each_free f x [] h = tt
each_free f x (e ∷ es) h = (out_left x (f e) (flat_map f es) h, each_free f x es (out_right x (f e) (flat_map f es) h))

-- names that are all among others
each_among : (f : Expr → List Name) (own : List Name) (es : List Expr) → ((z : Name) → is_in z own ≡ false → is_in z (flat_map f es) ≡ false) → Each (λ e. (y : Name) → is_in y (f e) ≡ true → is_in y own ≡ true) es
each_among f own [] h = tt
each_among f own (e ∷ es) h = (here, each_among f own es (λ z n. out_right z (f e) (flat_map f es) (h z n)))
  where
    here : (y : Name) → is_in y (f e) ≡ true → is_in y own ≡ true
    here y i = go (is_in y own) refl
      where
        go : (b : Bool) → is_in y own ≡ b → b ≡ true
        go true q = refl
        go false q = never (out_left y (f e) (flat_map f es) (h y q)) i

-- ---- nodes that are called

found_plain : (o q : Option Node) → AlikeFound o q → ((i : Node) → o ≡ Some i → list_all is_plain (types_of i.outputs) ≡ true) → (i : Node) → q ≡ Some i → list_all is_plain (types_of i.outputs) ≡ true
found_plain _ _ neither h i e = cc
found_plain _ _ (both_found {n = n} {m = m} a) h i e =
    let s : m ≡ i = cc in
    subst (λ (z : Node). list_all is_plain (types_of z.outputs) ≡ true) s (subst (λ (ds : List Decl). list_all is_plain (types_of ds) ≡ true) (sym a.outputs) (h n refl))

module _ (core other : Core) (well : IsWellFormed core) (n : IsNaming core other) where
  plain_kept : (f : Name) → GivesNoFuture core f → GivesNoFuture other f
  plain_kept f h i e = found_plain (node_named (map as_interface core.nodes) f) (node_named (map as_interface other.nodes) f) (found_alike _ _ (interfaces_alike core other n) f) h i e

  -- ---- nodes that stay

  node_stays : (m : CoreNode) (g : Grades) → StaticNode core m g → StaticNode other m g
  node_stays m g s = record {
    equations = All-weaker (StaticEquation core m g) (StaticEquation other m g)
        (λ e t. record { left = t.left; right = All-weaker (StaticExpr core g e.resets) (StaticExpr other g e.resets) (expr_by core other plain_kept g e.resets) (inside e.right) t.right; clock = t.clock; resets = t.resets })
        m.equations s.equations;
    interface = s.interface;
  }

  -- ---- the node with the new variable

  abbrev old : CoreEquation
  old = n.step.equation

  abbrev rs : List Name
  rs = old.resets

  well_node : IsWellFormedNode core n.node
  well_node = All-contains (IsWellFormedNode core) core.nodes n.node well (the_node core other well n)

  module _ (g : Grades) (s : StaticNode core n.node g) where
    abbrev h : Grades
    h = named_grade g n.x (lists_of g rs n.a.form)

    same_grade : (y : Name) → same n.x y ≡ false → h y ≡ g y
    same_grade y f = ap (λ b. if b then lists_of g rs n.a.form else g y) (same_turned n.x y f)

    new_grade : h n.x ≡ lists_of g rs n.a.form
    new_grade = ap (λ b. if b then lists_of g rs n.a.form else g n.x) (same_self n.x)

    regraded : Regraded core other g h n.x
    regraded = record { plain = plain_kept; same_grade = same_grade }

    proper_kept : (before c : Clock) → is_in n.x (clock_names c) ≡ false → AreProper n.node g before c → AreProper n.moved h before c
    proper_kept before [] f p = tt
    proper_kept before (q ∷ c) f p =
        let d = or_parts (same n.x q.name) (is_in n.x (clock_names c)) f in (
          (own_moved core other well n q.name d.0 ∙ p.0.0, clock_moved core other well n q.name d.0 ∙ p.0.1, same_grade q.name d.0 ∙ p.0.2),
          proper_kept (before ++ q ∷ []) c d.1 p.1,
        )

    -- an equation of the node, and what is known of it
    module _ (e : CoreEquation) (at : Contains n.node.equations e) where
      static : StaticEquation core n.node g e
      static = All-contains (StaticEquation core n.node g) n.node.equations e s.equations at

      typed : IsTypedEquation core n.node e
      typed = All-contains (IsTypedEquation core n.node) n.node.equations e well_node.typed at

      free : (is_in n.x (mentions e.right) ≡ false) × (is_in n.x e.left ≡ false) × (is_in n.x e.resets ≡ false)
      free = names_new core other well n n.node (the_node core other well n) e at

      clock_free : is_in n.x (clock_names e.clock.steps) ≡ false
      clock_free = out_right n.x e.left (clock_names e.clock.steps) (out_left n.x (e.left ++ clock_names e.clock.steps) e.resets (equation_name_new n.x n.node (node_name_new core n.x n.new.fresh n.node (the_node core other well n)) e at))

      static_resets : (y : Name) → is_in y e.resets ≡ true → h y ≡ []
      static_resets y i = same_grade y (not_that n.x y e.resets free.2 i) ∙ static.resets y i

      static_clock : AreProper n.moved h [] e.clock.steps
      static_clock = proper_kept [] e.clock.steps clock_free static.clock

      static_left : (r : Expr) → lists_of h e.resets r.form ≡ lists_of g e.resets e.right.form → (y : Name) → is_in y e.left ≡ true → Allows (h y) (lists_of h e.resets r.form)
      static_left r same_lists y i =
          subst (λ (m : List (List Name)). Allows m (lists_of h e.resets r.form)) (sym (same_grade y (not_that n.x y e.left free.1 i)))
          (subst (λ (m : List (List Name)). Allows (g y) m) (sym same_lists) (static.left y i))

      given : Each (Given core other g h n.x regraded e.resets) (inside e.right)
      given = each_pairs (inside e.right) (each_from (StaticExpr core g e.resets) (inside e.right) static.right) (each_free (λ b. form_names (out-Form b.form)) n.x (inside e.right) free.0)
        where
          each_pairs : (es : List Expr) → Each (StaticExpr core g e.resets) es → Each (λ b. is_in n.x (form_names (out-Form b.form)) ≡ false) es → Each (Given core other g h n.x regraded e.resets) es
          each_pairs [] a b = tt
          each_pairs (d ∷ ds) a b = (record { static = a.0; free = b.0 }, each_pairs ds a.1 b.1)

      stay : Same core other g h n.x regraded e.resets e.right
      stay = stays core other g h n.x regraded e.resets e.right given

      equation_stays : StaticEquation other n.moved h e
      equation_stays = record { left = static_left e.right stay.lists; right = each_to (StaticExpr other h e.resets) (inside e.right) stay.all; clock = static_clock; resets = static_resets }

    -- ---- the equation in which the subexpression is named

    abbrev at_old : Contains n.node.equations old
    at_old = the_equation core other well n

    known : Each (Known core other g h n.x regraded rs n.node n.a n.d new_grade) (inside old.right)
    known = each_pairs (inside old.right) (given old at_old)
        (each_among (λ b. form_names (out-Form b.form)) (names (core_decls n.node)) (inside old.right) (λ z f. mentions_declared (core_judging core n.node) z f old.right false (typed old at_old).faults))
      where
        each_pairs : (es : List Expr) → Each (Given core other g h n.x regraded rs) es → Each (λ b. (y : Name) → is_in y (form_names (out-Form b.form)) ≡ true → is_in y (names (core_decls n.node)) ≡ true) es →
            Each (Known core other g h n.x regraded rs n.node n.a n.d new_grade) es
        each_pairs [] a b = tt
        each_pairs (d ∷ ds) a b = (record { facts = a.0; declared = b.0 }, each_pairs ds a.1 b.1)

    moved : Moved core other g h n.x regraded rs n.node n.a n.d new_grade old.right n.step.right
    moved =
        moved_kept core other g h n.x regraded rs n.node n.a n.d new_grade old.clock.steps old.right n.step.right n.step.named known
        (clocked_stands n.node old (All-contains (IsClockedEquation n.node) n.node.equations old well_node.clocked at_old)) (static old at_old).clock

    changed_static : StaticEquation other n.moved h (with_right old n.step.right)
    changed_static = record {
      left = static_left old at_old n.step.right moved.lists;
      right = each_to (StaticExpr other h rs) (inside n.step.right) moved.all;
      clock = static_clock old at_old;
      resets = static_resets old at_old;
    }

    named_stays : Same core other g h n.x regraded rs n.a
    named_stays = stays core other g h n.x regraded rs n.a (facts_of core other g h n.x regraded rs n.node n.a n.d new_grade (inside n.a) moved.found.named)

    new_static : StaticEquation other n.moved h (new_equation n.x n.a n.d rs)
    new_static = record {
      left = λ y i. subst (λ (z : Name). Allows (h z) (lists_of h rs n.a.form)) (sym (only_one y n.x i))
          (subst (λ (m : List (List Name)). Allows m (lists_of h rs n.a.form)) (sym new_grade) (subst (λ (m : List (List Name)). Allows (lists_of g rs n.a.form) m) (sym named_stays.lists) (λ l j. (l, j, λ z k. k))));
      right = each_to (StaticExpr other h rs) (inside n.a) named_stays.all;
      clock = proper_kept [] n.d (named_clock_is_new core other well n) moved.found.clock;
      resets = static_resets old at_old;
    }

    interface_free : is_in n.x (names (n.node.inputs ++ n.node.outputs)) ≡ false
    interface_free = out_left n.x (names (n.node.inputs ++ n.node.outputs)) (names n.node.locals) (ap (is_in n.x) (sym (names_append (n.node.inputs ++ n.node.outputs) n.node.locals)) ∙ undeclared core other well n)

    interface_by : (ds : List Decl) → is_in n.x (names ds) ≡ false → Each (λ d. g d.name ≡ []) ds → Each (λ d. h d.name ≡ []) ds
    interface_by [] f k = tt
    interface_by (d ∷ ds) f k = let q = or_parts (same n.x d.name) (is_in n.x (names ds)) f in (same_grade d.name q.0 ∙ k.0, interface_by ds q.1 k.1)

    node_moved : StaticNode other n.moved h
    node_moved = record {
      equations = with_others core other well n (StaticEquation other n.moved h) (each_of (StaticEquation other n.moved h) n.node.equations equation_stays) changed_static new_static;
      interface = subst (λ (ds : List Decl). All (λ (d : Decl). h d.name ≡ []) (ds ++ n.moved.outputs)) (sym n.step.inputs)
          (subst (λ (ds : List Decl). All (λ (d : Decl). h d.name ≡ []) (n.node.inputs ++ ds)) (sym n.step.outputs)
          (each_to (λ (d : Decl). h d.name ≡ []) (n.node.inputs ++ n.node.outputs)
          (interface_by (n.node.inputs ++ n.node.outputs) interface_free (each_from (λ (d : Decl). g d.name ≡ []) (n.node.inputs ++ n.node.outputs) s.interface))));
    }

  -- ---- the core

  abbrev Was : CoreNode → Type 0
  Was m = (g : Grades) × StaticNode core m g

  abbrev Is : CoreNode → Type 0
  Is m = (g : Grades) × StaticNode other m g

  each_stays : (ms : List CoreNode) → Each Was ms → Each Is ms
  each_stays [] k = tt
  each_stays (m ∷ ms) k = ((k.0.0, node_stays m k.0.0 k.0.1), each_stays ms k.1)

  core_static : StaticCore core → StaticCore other
  core_static k =
      let all : Each Was (n.front ++ n.node ∷ n.back) = subst (λ (l : List CoreNode). Each Was l) n.nodes (each_from Was core.nodes k.nodes) in
      let rest = each_right Was n.front (n.node ∷ n.back) all in
      record {
        types = subst (λ (ts : List TypeDec). NamesDiffer (map (λ (d : TypeDec). d.name) ts)) (sym n.types) k.types;
        constructors = subst (λ (ts : List TypeDec). NamesDiffer (flat_map (λ (d : TypeDec). d.constructors) ts)) (sym n.types) k.constructors;
        nodes = subst (λ (l : List CoreNode). All Is l) (sym n.others)
            (each_to Is (n.front ++ n.moved ∷ n.back)
            (each_both Is n.front (n.moved ∷ n.back) (each_stays n.front (each_left Was n.front (n.node ∷ n.back) all)) ((h rest.0.0 rest.0.1, node_moved rest.0.0 rest.0.1), each_stays n.back rest.1)));
      }

pub naming_keeps_grades : NamingKeepsGrades
naming_keeps_grades core other n g well s = node_moved core other well n g s

pub naming_keeps_static : NamingKeepsStatic
naming_keeps_static core other well n k = core_static core other well n k

-- one naming after another
record Reached (other : Core) : Type 0 where
  well : IsWellFormed other
  static : StaticCore other

reached : (core other : Core) → IsWellFormed core → StaticCore core → Namings core other → Reached other
reached _ _ well k (no_naming {core = core}) = record { well = well; static = k }
reached _ _ well k (one_more {core = core} {other = other} {last = last} hs n) =
    let r = reached core other well k hs in
    record { well = naming_keeps_well_formed other last r.well n; static = naming_keeps_static other last r.well n r.static }

pub namings_keep_static : NamingsKeepStatic
namings_keep_static core other well hs k = (reached core other well k hs).static
