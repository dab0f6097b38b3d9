-- The calls of a node, once a subexpression in it is named.
use Rattle.std.proofs.Common.{◌≡◌, Bool, true, false, ◌||◌, List, [], ◌∷◌, ◌++◌, map, refl, sym, ap, subst, ◌∙◌, append-nil, Some}
use Rattle.std.specs.List.{flat_map, list_any}
use Rattle.hept_ast.specs.Texts.{Name}
use Rattle.hept_ast.specs.Parts.{Placed, expressions_of, inside, parts_of}
use Rattle.hept_ast.specs.Faults.{calls_of}
use Rattle.hept_ast.specs.declared.tree.Core.{Core}
use Rattle.hept_ast.specs.declared.tree.CoreNode.{CoreNode}
use Rattle.hept_ast.specs.declared.tree.CoreEquation.{CoreEquation}
use Rattle.hept_ast.specs.declared.tree.Expr.{Expr}
use Rattle.hept_ast.proofs.Unfolded.{static}
use Rattle.core_rules.specs.Cores.{as_equation, as_interface, as_node}
use Rattle.core_naming.specs.Names.{IsNaming, new_equation, with_right}
use Rattle.naming_rules.proofs.Names.{flat_append}
use Rattle.naming_rules.proofs.InsideMoved.{any_both, any_call, any_changed, calls_in, inside_changed}
use Rattle.naming_rules.proofs.CallsAlike.{AlikeNodes, alike_at, interface_alike}

-- all expressions of some equations
abbrev all_inside : List CoreEquation → List Expr
all_inside es = flat_map (λ e. inside e.right) es

expressions_are : (es : List CoreEquation) → flat_map (λ (q : Placed). flat_map inside (expressions_of q.part)) (flat_map (parts_of []) (map as_equation es)) ≡ all_inside es
unfolding static
expressions_are [] = refl
expressions_are (e ∷ es) =
    ap (λ (l : List Expr). l ++ flat_map (λ (q : Placed). flat_map inside (expressions_of q.part)) (flat_map (parts_of []) (map as_equation es))) (append-nil (inside e.right))
    ∙ ap (λ (l : List Expr). inside e.right ++ l) (expressions_are es)

module _ (core other : Core) (n : IsNaming core other) (p : Name → Bool) where
  abbrev calls : List Expr → Bool
  calls es = any_call n.x n.a n.d p es

  calls_are : (m : CoreNode) → list_any p (calls_of (Some (as_node m))) ≡ calls (all_inside m.equations)
  calls_are m = ap (λ (es : List Expr). list_any p (flat_map calls_in es)) (expressions_are m.equations)

  both : (es fs : List Expr) → calls (es ++ fs) ≡ calls es || calls fs
  both es fs = any_both n.x n.a n.d p es fs

  of_two : (es fs : List CoreEquation) → calls (all_inside (es ++ fs)) ≡ calls (all_inside es) || calls (all_inside fs)
  of_two es fs = ap calls (flat_append (λ (e : CoreEquation). inside e.right) es fs) ∙ both (all_inside es) (all_inside fs)

  abbrev old : CoreEquation
  old = n.step.equation

  abbrev changed : CoreEquation
  changed = with_right old n.step.right

  abbrev new : CoreEquation
  new = new_equation n.x n.a n.d old.resets

  mixed : (f c b k : Bool) → (f || (c || b)) || (k || false) ≡ f || ((c || k) || b)
  mixed true c b k = refl
  mixed false true b k = refl
  mixed false false true true = refl
  mixed false false true false = refl
  mixed false false false true = refl
  mixed false false false false = refl

  old_calls : calls (all_inside (n.step.front ++ old ∷ n.step.back)) ≡ calls (all_inside n.step.front) || (calls (inside old.right) || calls (all_inside n.step.back))
  old_calls = of_two n.step.front (old ∷ n.step.back) ∙ ap (λ b. calls (all_inside n.step.front) || b) (both (inside old.right) (all_inside n.step.back))

  changed_calls : calls (all_inside (n.step.front ++ changed ∷ n.step.back)) ≡ calls (all_inside n.step.front) || (calls (inside n.step.right) || calls (all_inside n.step.back))
  changed_calls = of_two n.step.front (changed ∷ n.step.back) ∙ ap (λ b. calls (all_inside n.step.front) || b) (both (inside n.step.right) (all_inside n.step.back))

  named_calls : calls (inside old.right) ≡ calls (inside n.step.right) || calls (inside n.a)
  named_calls = any_changed n.x n.a n.d p (inside old.right) (inside n.step.right) (inside_changed n.x n.a n.d old.clock.steps old.right n.step.right n.step.named)

  new_calls : calls (all_inside (n.step.front ++ changed ∷ n.step.back ++ new ∷ [])) ≡ calls (all_inside (n.step.front ++ old ∷ n.step.back))
  new_calls =
      of_two (n.step.front ++ changed ∷ n.step.back) (new ∷ [])
      ∙ ap (λ b. b || calls (all_inside (new ∷ []))) changed_calls
      ∙ ap (λ b. (calls (all_inside n.step.front) || (calls (inside n.step.right) || calls (all_inside n.step.back))) || b) (both (inside n.a) [])
      ∙ mixed (calls (all_inside n.step.front)) (calls (inside n.step.right)) (calls (all_inside n.step.back)) (calls (inside n.a))
      ∙ ap (λ b. calls (all_inside n.step.front) || (b || calls (all_inside n.step.back))) (sym named_calls)
      ∙ sym old_calls

  pub moved_calls : list_any p (calls_of (Some (as_node n.moved))) ≡ list_any p (calls_of (Some (as_node n.node)))
  moved_calls =
      calls_are n.moved
      ∙ ap (λ (es : List CoreEquation). calls (all_inside es)) n.step.others
      ∙ new_calls
      ∙ ap (λ (es : List CoreEquation). calls (all_inside es)) (sym n.step.equations)
      ∙ sym (calls_are n.node)

module _ (core other : Core) (n : IsNaming core other) where
  pub nodes_alike : AlikeNodes (map as_node core.nodes) (map as_node other.nodes)
  nodes_alike =
      subst (λ (l : List CoreNode). AlikeNodes (map as_node l) (map as_node other.nodes)) (sym n.nodes)
      (subst (λ (l : List CoreNode). AlikeNodes (map as_node (n.front ++ n.node ∷ n.back)) (map as_node l)) (sym n.others)
      (alike_at as_node n.front n.back n.node n.moved (record { name = n.step.name; inputs = n.step.inputs; outputs = n.step.outputs; calls = λ p. moved_calls core other n p })))

  pub interfaces_alike : AlikeNodes (map as_interface core.nodes) (map as_interface other.nodes)
  interfaces_alike =
      subst (λ (l : List CoreNode). AlikeNodes (map as_interface l) (map as_interface other.nodes)) (sym n.nodes)
      (subst (λ (l : List CoreNode). AlikeNodes (map as_interface (n.front ++ n.node ∷ n.back)) (map as_interface l)) (sym n.others)
      (alike_at as_interface n.front n.back n.node n.moved (interface_alike n.node n.moved n.step.name n.step.inputs n.step.outputs)))
