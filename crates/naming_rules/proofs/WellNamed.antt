-- A core in which a subexpression is named is well formed.
use Rattle.std.proofs.Common.{◌≡◌, false, List, [], ◌∷◌, ◌++◌, map, refl, sym, ap, subst, ◌∙◌, All, Contains}
use Rattle.std.proofs.lemmas.Bool.{or_parts}
use Rattle.std.proofs.lemmas.List.Elements.{All-contains}
use Rattle.hept_ast.specs.Texts.{Name, same, is_in, names}
use Rattle.hept_ast.specs.Parts.{declaration}
use Rattle.hept_ast.specs.Faults.{calls_lead}
use Rattle.hept_ast.specs.declared.tree.Core.{Core}
use Rattle.hept_ast.specs.declared.tree.CoreNode.{CoreNode}
use Rattle.hept_ast.specs.declared.tree.CoreEquation.{CoreEquation}
use Rattle.hept_ast.specs.declared.tree.Decl.{Decl}
use Rattle.core_rules.specs.Cores.{as_node, core_clock, core_decls}
use Rattle.core_rules.specs.WellFormed.{IsClockedEquation, IsTypedEquation, IsWellFormed, IsWellFormedNode}
use Rattle.core_naming.specs.Names.{IsNaming, new_equation, with_right}
use Rattle.core_naming.specs.NamingLaws.{NamingKeepsWellFormed}
use Rattle.core_naming.specs.Ties.{clock_names, mentions}
use Rattle.naming_rules.proofs.Shapes.{Each}
use Rattle.naming_rules.proofs.Lists.{each_both, each_from, each_left, each_of, each_right, each_to}
use Rattle.naming_rules.proofs.Names.{out_left, out_right}
use Rattle.naming_rules.proofs.Mentions.{equation_mentions_nothing_new, equation_name_new, decl_name_new, node_name_new, the_equation, the_node}
use Rattle.naming_rules.proofs.CallsAlike.{calls_lead_alike}
use Rattle.naming_rules.proofs.NodeCalls.{moved_calls, nodes_alike}
use Rattle.naming_rules.proofs.Declarations.{defined_moved, names_append, once_moved, one_left_moved, seen_moved, undeclared}
use Rattle.naming_rules.proofs.ClocksMoved.{changed_clocked, clock_moved, clocked_moved, new_clocked, stands_clocked}
use Rattle.naming_rules.proofs.TypesMoved.{changed_typed, new_typed, typed_kept}

module _ (core other : Core) (well : IsWellFormed core) (n : IsNaming core other) where
  abbrev old : CoreEquation
  old = n.step.equation

  abbrev changed : CoreEquation
  changed = with_right old n.step.right

  abbrev new : CoreEquation
  new = new_equation n.x n.a n.d old.resets

  well_node : (m : CoreNode) → Contains core.nodes m → IsWellFormedNode core m
  well_node m c = All-contains (IsWellFormedNode core) core.nodes m well c

  -- ---- equations of a node

  pub names_new : (m : CoreNode) → Contains core.nodes m → (e : CoreEquation) → Contains m.equations e → (is_in n.x (mentions e.right) ≡ false) × (is_in n.x e.left ≡ false) × (is_in n.x e.resets ≡ false)
  names_new m c e d =
      let is_new = node_name_new core n.x n.new.fresh m c in
      let q = equation_name_new n.x m is_new e d in (
        equation_mentions_nothing_new core n.x m e (decl_name_new n.x m is_new) (All-contains (IsTypedEquation core m) m.equations e (well_node m c).typed d),
        out_left n.x e.left (clock_names e.clock.steps) (out_left n.x (e.left ++ clock_names e.clock.steps) e.resets q),
        out_right n.x (e.left ++ clock_names e.clock.steps) e.resets q,
      )

  typed_all : (m k : CoreNode) → Contains core.nodes m → k.name ≡ m.name → ((y : Name) → same n.x y ≡ false → declaration (core_decls k) y ≡ declaration (core_decls m) y) → Each (IsTypedEquation other k) m.equations
  typed_all m k c name seen =
      each_of (IsTypedEquation other k) m.equations
      (λ e d. let q = names_new m c e d in typed_kept core other n m k name seen e q.0 q.1 q.2 (All-contains (IsTypedEquation core m) m.equations e (well_node m c).typed d))

  -- ---- nodes that stay

  node_kept : (m : CoreNode) → Contains core.nodes m → IsWellFormedNode other m
  node_kept m c =
      let w = well_node m c in
      record {
        once = w.once;
        one_left = w.one_left;
        defined = w.defined;
        calls = λ f e. calls_lead_alike (map as_node core.nodes) (map as_node other.nodes) (nodes_alike core other n) f m.name ∙ w.calls f e;
        typed = each_to (IsTypedEquation other m) m.equations (typed_all m m c refl (λ y f. refl));
        clocked = w.clocked;
        outputs = w.outputs;
      }

  -- ---- the node with the new variable

  pub with_others : (P : CoreEquation → Type 0) → Each P n.node.equations → P changed → P new → All P n.moved.equations
  with_others P h c k =
      let all : Each P (n.step.front ++ old ∷ n.step.back) = subst (λ (l : List CoreEquation). Each P l) n.step.equations h in
      subst (λ (l : List CoreEquation). All P l) (sym n.step.others)
      (each_to P (n.step.front ++ changed ∷ n.step.back ++ new ∷ [])
      (each_both P (n.step.front ++ changed ∷ n.step.back) (new ∷ [])
      (each_both P n.step.front (changed ∷ n.step.back) (each_left P n.step.front (old ∷ n.step.back) all) (c, (each_right P n.step.front (old ∷ n.step.back) all).1)) (k, tt)))

  node_well : IsWellFormedNode core n.node
  node_well = well_node n.node (the_node core other well n)

  typed_moved : All (IsTypedEquation other n.moved) n.moved.equations
  typed_moved =
      let all = typed_all n.node n.moved (the_node core other well n) n.step.name (seen_moved core other well n) in
      let before = All-contains (IsTypedEquation core n.node) n.node.equations old node_well.typed (the_equation core other well n) in
      let after = All-contains (IsTypedEquation other n.moved) n.node.equations old (each_to (IsTypedEquation other n.moved) n.node.equations all) (the_equation core other well n) in
      with_others (IsTypedEquation other n.moved) all (changed_typed core other well n before after) (new_typed core other well n before after)

  clocked_all : All (IsClockedEquation n.moved) n.moved.equations
  clocked_all =
      let before = All-contains (IsClockedEquation n.node) n.node.equations old node_well.clocked (the_equation core other well n) in
      with_others (IsClockedEquation n.moved)
      (each_of (IsClockedEquation n.moved) n.node.equations
      (λ e d. stands_clocked n.moved e (clocked_moved core other well n e (names_new n.node (the_node core other well n) e d).0 (All-contains (IsClockedEquation n.node) n.node.equations e node_well.clocked d))))
      (changed_clocked core other well n before) (new_clocked core other well n before)

  output_names : is_in n.x (names n.node.outputs) ≡ false
  output_names =
      let all : is_in n.x (names (n.node.inputs ++ n.node.outputs) ++ names n.node.locals) ≡ false =
      ap (is_in n.x) (sym (names_append (n.node.inputs ++ n.node.outputs) n.node.locals)) ∙ undeclared core other well n in
      out_right n.x (names n.node.inputs) (names n.node.outputs)
      (ap (is_in n.x) (sym (names_append n.node.inputs n.node.outputs)) ∙ out_left n.x (names (n.node.inputs ++ n.node.outputs)) (names n.node.locals) all)

  outputs_by : (ds : List Decl) → is_in n.x (names ds) ≡ false → Each (λ d. core_clock n.node d.name ≡ []) ds → Each (λ d. core_clock n.moved d.name ≡ []) ds
  outputs_by [] f h = tt
  outputs_by (d ∷ ds) f h = let q = or_parts (same n.x d.name) (is_in n.x (names ds)) f in (clock_moved core other well n d.name q.0 ∙ h.0, outputs_by ds q.1 h.1)

  outputs_moved : All (λ d. core_clock n.moved d.name ≡ []) n.moved.outputs
  outputs_moved =
      subst (λ (ds : List Decl). All (λ d. core_clock n.moved d.name ≡ []) ds) (sym n.step.outputs)
      (each_to (λ (d : Decl). core_clock n.moved d.name ≡ []) n.node.outputs (outputs_by n.node.outputs output_names (each_from (λ (d : Decl). core_clock n.node d.name ≡ []) n.node.outputs node_well.outputs)))

  node_moved : IsWellFormedNode other n.moved
  node_moved = record {
    once = once_moved core other well n node_well.once;
    one_left = one_left_moved core other well n node_well.one_left;
    defined = defined_moved core other well n node_well.defined;
    calls = λ f e.
        calls_lead_alike (map as_node core.nodes) (map as_node other.nodes) (nodes_alike core other n) f n.moved.name
        ∙ ap (λ (g : Name). calls_lead (map as_node core.nodes) f g) n.step.name
        ∙ node_well.calls f (sym (moved_calls core other n (same f)) ∙ e);
    typed = typed_moved;
    clocked = clocked_all;
    outputs = outputs_moved;
  }

  -- ---- the core

  all_well : IsWellFormed other
  all_well =
      let all : Each (IsWellFormedNode other) (n.front ++ n.node ∷ n.back) → Each (IsWellFormedNode other) (n.front ++ n.moved ∷ n.back) =
      λ h. each_both (IsWellFormedNode other) n.front (n.moved ∷ n.back) (each_left (IsWellFormedNode other) n.front (n.node ∷ n.back) h) (node_moved, (each_right (IsWellFormedNode other) n.front (n.node ∷ n.back) h).1) in
      subst (λ (l : List CoreNode). All (IsWellFormedNode other) l) (sym n.others)
      (each_to (IsWellFormedNode other) (n.front ++ n.moved ∷ n.back) (all (subst (λ (l : List CoreNode). Each (IsWellFormedNode other) l) n.nodes (each_of (IsWellFormedNode other) core.nodes node_kept))))

pub naming_keeps_well_formed : NamingKeepsWellFormed
naming_keeps_well_formed core other well n = all_well core other well n
