-- No call that a node's expanded text makes has a reply, where none of those of its ground has.
use Rattle.std.proofs.Common.{◌≡◌, ℕ, suc, Bool, true, false, if◌then◌else◌, List, [], ◌∷◌, ◌++◌, map, Option, Some, None, sym, subst, ap, ◌∙◌}
use Rattle.std.specs.Prelude.{All, Contains, option_map}
use Rattle.std.specs.List.{find, flat_map}
use Rattle.std.proofs.lemmas.List.{append_assoc}
use Rattle.std.proofs.lemmas.List.Elements.{All-contains, All-head, All-tail}
use Rattle.hept_ast.specs.Texts.{Name, is_in, same}
use Rattle.hept_ast.specs.Parts.{below, inside}
use Rattle.hept_ast.specs.Scopes.{Scope, Text, Lowered, calls_around}
use Rattle.hept_ast.specs.Faults.{calls_of, node_named}
use Rattle.hept_ast.specs.Meaning.{Setting}
use Rattle.hept_ast.specs.declared.tree.Core.{Core}
use Rattle.hept_ast.specs.declared.tree.CoreNode.{CoreNode}
use Rattle.hept_ast.specs.declared.tree.CoreEquation.{CoreEquation}
use Rattle.hept_ast.specs.declared.tree.Expr.{Expr}
use Rattle.hept_ast.specs.declared.tree.MergeBranch.{MergeBranch}
use Rattle.hept_ast.specs.declared.tree.Node.{Node}
use Rattle.hept_ast.specs.declared.tree.Ty.{Ty}
use Rattle.hept_ast.specs.declared.tree.Form.{Form, out-Form}
use Rattle.hept_ast.specs.declared.tree.Form.TheOpen.{Form-F}
use Rattle.core_naming.specs.Normal.{AreNormal, IsNormal, is_step}
use Rattle.core_rules.specs.Cores.{as_node}
use Rattle.core_rules.specs.WellFormed.{CallsNode}
use Rattle.core_fitting.specs.Sound.{IsCall, IsNamed, SoundCall, SoundCore, SoundNode, async, expressions_in, is_call, sync, within}
use Rattle.core_fitting.specs.Holding.{IsCallPath, inner_call, own_call}
use Rattle.core_fitting.proofs.StaticSound.{as_contains}
use Rattle.call_depths.specs.Depths.{EndsWithin, ends}
use Rattle.step_plans.specs.Instants.{HasNoReply}
use Rattle.step_plans.specs.Memories.{nodes_of}
use Rattle.plan_equations.specs.Grounds.{Body, bodies, call_scope, called_bodies, calling_of, calls_in, form_bodies, text_bodies}
use Rattle.ready_nodes.specs.Ready.{IsNoAsyncCall, MakesNoAsyncCall}
use Rattle.ready_nodes.proofs.Elements.{all_each}
use Rattle.ready_nodes.proofs.Expanded.{call_of}
use Rattle.ready_nodes.proofs.TopCalls.{IsRightOf, all_found, step_on_top}

-- ---- a node by its name, seen as one of a program

named_as_node : (f : Name) (ns : List CoreNode) (g : CoreNode) → find (λ n. same f n.name) ns ≡ Some g → node_named (map as_node ns) f ≡ Some (as_node g)
named_as_node f [] g h = cc
named_as_node f (n ∷ ns) g h = go (same f n.name) (named_as_node f ns g) h
  where
    go : (b : Bool) → (find (λ n. same f n.name) ns ≡ Some g → node_named (map as_node ns) f ≡ Some (as_node g)) → (if b then Some n else find (λ n. same f n.name) ns) ≡ Some g → (if b then Some (as_node n) else node_named (map as_node ns) f) ≡ Some (as_node g)
    go true rest e = let one : n ≡ g = cc in ap (λ (z : CoreNode). Some (as_node z)) one
    go false rest e = rest e

a_step : (x : Expr) (f : Name) (args : List Expr) (future : Bool) → IsCall x f args future → is_step (out-Form x.form) ≡ true
a_step x f args _ (sync eq) = ap is_step eq
a_step x f args _ (async eq) = ap is_step eq

module _ (w : Setting) (core : Core) (normal_core : IsNormal core) (sound_core : SoundCore core) (quiet : All MakesNoAsyncCall core.nodes) where
  abbrev IsUnanswered : Body → Type 0
  IsUnanswered body = All (HasNoReply w) (calls_in body)

  abbrev Unanswered : CoreNode → List ℕ → (d : ℕ) → Scope → Type 0
  Unanswered node path d b = All IsUnanswered (bodies core d node b) → (n : ℕ) → w.replies (calls_around b ++ path) n ≡ None

  module _ (name : Name) (node : CoreNode) (named : IsNamed core name node) where
    normal : AreNormal node.equations
    normal = all_found (λ n. AreNormal n.equations) (λ n. same name n.name) core.nodes node normal_core named

    no_async : MakesNoAsyncCall node
    no_async = all_found MakesNoAsyncCall (λ n. same name n.name) core.nodes node quiet named

    sound : SoundNode core (within name node (sound_core.nodes name node named).0)
    sound = (sound_core.nodes name node named).1

    on_top : (x : Expr) (f : Name) (args : List Expr) (future : Bool) → Contains (expressions_in node) x → IsCall x f args future → IsRightOf node.equations x
    on_top x f args future stands call = step_on_top node normal x stands (a_step x f args future call)

    module _ (e : CoreEquation) (there : Contains node.equations e) where
      -- it is no async call
      is_sync : (f : Name) (args : List Expr) (future : Bool) → IsCall e.right f args future → out-Form e.right.form ≡ Form-F.Call f args
      is_sync f args _ (sync eq) = eq
      is_sync f args _ (async eq) =
          absurd (subst IsNoAsyncCall eq (All-head (λ (a : Expr). IsNoAsyncCall (out-Form a.form)) e.right (below e.right.form) (All-contains (λ (d : CoreEquation). All (λ a. IsNoAsyncCall (out-Form a.form)) (inside d.right)) node.equations e no_async there)))

      -- the node that it calls is named in the node's calls
      leads : (f : Name) (args : List Expr) → out-Form e.right.form ≡ Form-F.Call f args → is_in f (calls_of (Some (as_node node))) ≡ true
      leads f args is = go (call_of core (within name node (sound_core.nodes name node named).0) e f args is (sound.equations e there).right).1
        where
          here : (g : Name) → CallsNode (map as_node core.nodes) name g → is_in g (calls_of (Some (as_node node))) ≡ true
          here g h = subst (λ (o : Option Node). is_in g (calls_of o) ≡ true) (named_as_node name core.nodes node named) h

          go : {ts : List Ty} → SoundCall core (within name node (sound_core.nodes name node named).0) e.resets e.right e.clock.steps ts → is_in f (calls_of (Some (as_node node))) ≡ true
          go (is_call {f = g} {args = passed} (sync eq) found calls stands fits same) =
              let q : Form-F.Call g passed ≡ Form-F.Call f args = sym eq ∙ is in
              let one : g ≡ f = cc in
              subst (λ (z : Name). is_in z (calls_of (Some (as_node node))) ≡ true) one (here g calls)
          go (is_call {f = g} {args = passed} (async {q = q} eq) found calls stands fits same) = absurd (let clash : Form-F.Call f args ≡ Form-F.AsyncCall q g passed = sym is ∙ eq in cc)

      module _ (f : Name) (args : List Expr) (is : out-Form e.right.form ≡ Form-F.Call f args) (b : Scope) (d : ℕ) (all : All IsUnanswered (bodies core (suc d) node b)) where
        -- the call itself
        own : (n : ℕ) → w.replies (calls_around b ++ e.right.place.0 ∷ []) n ≡ None
        unfolding bodies
        own =
            let body : Body = record { node = node; scope = b } in
            let mine = All-head IsUnanswered body (flat_map (called_bodies (bodies core d) (nodes_of core) b) node.equations) all in
            let here = All-contains (λ (c : CoreEquation). All (HasNoReply w) (calling_of b c (out-Form c.right.form))) node.equations e (all_each (HasNoReply w) (λ c. calling_of b c (out-Form c.right.form)) node.equations mine) there in
            All-head (HasNoReply w) _ [] (subst (λ (v : Form-F Form Expr MergeBranch). All (HasNoReply w) (calling_of b e v)) is here)

        -- and those of the node that it calls
        inner : (callee : CoreNode) → IsNamed core f callee → All IsUnanswered (bodies core d callee (call_scope b e args callee))
        unfolding bodies
        inner callee found =
            let body : Body = record { node = node; scope = b } in
            let rest = All-tail IsUnanswered body (flat_map (called_bodies (bodies core d) (nodes_of core) b) node.equations) all in
            let here = All-contains (λ (c : CoreEquation). All IsUnanswered (called_bodies (bodies core d) (nodes_of core) b c)) node.equations e (all_each IsUnanswered (called_bodies (bodies core d) (nodes_of core) b) node.equations rest) there in
            subst (λ (o : Option Text). All IsUnanswered (text_bodies (bodies core d) b e args o)) (ap (option_map Lowered) found)
            (subst (λ (v : Form-F Form Expr MergeBranch). All IsUnanswered (form_bodies (bodies core d) (nodes_of core) b e v)) is here)

  pub unanswered : (node : CoreNode) (path : List ℕ) (ts : List Ty) → IsCallPath core node path ts → (name : Name) → IsNamed core name node → (d : ℕ) → EndsWithin core d node → (b : Scope) → Unanswered node path d b
  unanswered node _ _ (own_call {e = x} {f = f} {args = args} {future = future} stands call found) name named _ (ends {depth = d} go) b all n =
      let top = on_top name node named x f args future stands call in
      let there = as_contains top.equation node.equations top.there in
      let is = is_sync name node named top.equation there f args future (subst (λ (z : Expr). IsCall z f args future) top.same call) in
      subst (λ (z : Expr). w.replies (calls_around b ++ z.place.0 ∷ []) n ≡ None) (sym top.same) (own name node named top.equation there f args is b d all n)
  unanswered node _ ts (inner_call {g = g} {e = x} {f = f} {args = args} {future = future} {path = path} stands call found inside_it) name named _ (ends {depth = d} go) b all n =
      let top = on_top name node named x f args future stands call in
      let there = as_contains top.equation node.equations top.there in
      let is = is_sync name node named top.equation there f args future (subst (λ (z : Expr). IsCall z f args future) top.same call) in
      let later = unanswered g path ts inside_it f found d (go f g (leads name node named top.equation there f args is) (ap (option_map Lowered) found)) (call_scope b top.equation args g) (inner name node named top.equation there f args is b d all g found) n in
      let joined : (calls_around b ++ top.equation.right.place.0 ∷ []) ++ path ≡ calls_around b ++ (top.equation.right.place.0 ∷ path) = append_assoc (calls_around b) (top.equation.right.place.0 ∷ []) path in
      subst (λ (z : Expr). w.replies (calls_around b ++ z.place.0 ∷ path) n ≡ None) (sym top.same) (subst (λ (p : List ℕ). w.replies p n ≡ None) joined later)
