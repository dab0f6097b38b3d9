-- Another order of the equations keeps the static facts.
use Rattle.std.proofs.Common.{◌≡◌, true, List, [], ◌∷◌, ◌++◌, map, All, refl, sym, ap, subst, arith, ◌∙◌}
use Rattle.std.specs.List.{flat_map}
use Rattle.std.proofs.lemmas.List.Elements.{All-weaker}
use Rattle.std.proofs.lemmas.List.Sorted.{All-permutation}
use Rattle.hept_ast.specs.Texts.{Name, is_in, names}
use Rattle.hept_ast.specs.Scopes.{Clock}
use Rattle.hept_ast.specs.Meaning.{clock_of_equation}
use Rattle.hept_ast.specs.Parts.{inside}
use Rattle.hept_ast.specs.Faults.{called_async, node_named}
use Rattle.hept_ast.specs.declared.tree.Node.{Node}
use Rattle.hept_ast.specs.declared.tree.Core.{Core}
use Rattle.hept_ast.specs.declared.tree.CoreNode.{CoreNode}
use Rattle.hept_ast.specs.declared.tree.CoreEquation.{CoreEquation}
use Rattle.hept_ast.specs.declared.tree.TypeDec.{TypeDec}
use Rattle.hept_ast.specs.declared.tree.Decl.{Decl}
use Rattle.hept_ast.specs.declared.tree.Expr.{Expr}
use Rattle.hept_ast.specs.Reordering.{Reordered, ReorderedNodes, none, next, Reordering}
use Rattle.hept_ast.proofs.Reordering.{all_cons, all_head, all_tail, equation_same}
use Rattle.core_rules.specs.Cores.{as_interface, core_clock, core_decls}
use Rattle.sound_expressions.specs.Demands.{NamesDiffer}
use Rattle.core_facts.specs.Undefined.{Grades}
use Rattle.core_facts.specs.Static.{AreProper, GivesNoFuture, StaticEquation, StaticExpr, StaticNode}
use Rattle.core_facts.specs.Kept.{OrderKeepsStatic}

decls_same : (n m : CoreNode) → Reordered n m → core_decls m ≡ core_decls n
decls_same n m h = rw h.inputs (rw h.outputs (rw h.locals refl))

clocks_same : (n m : CoreNode) → Reordered n m → core_clock m ≡ core_clock n
clocks_same n m h = λ i. λ x. ap clock_of_equation (equation_same n m h x) i

interface_same : (n m : CoreNode) → Reordered n m → as_interface m ≡ as_interface n
interface_same n m h = rw h.name (rw h.inputs (rw h.outputs (rw h.locals refl)))

interfaces_same : (nodes others : List CoreNode) → ReorderedNodes nodes others → map as_interface others ≡ map as_interface nodes
interfaces_same _ _ none = refl
interfaces_same _ _ (next {node = n} {other = m} {nodes = ns} {others = ms} h hs) =
    let e : as_interface m ≡ as_interface n = interface_same n m h in
    let f : map as_interface ms ≡ map as_interface ns = interfaces_same ns ms hs in
    cc

proper_kept : (n m : CoreNode) → Reordered n m → (g : Grades) (before c : Clock) → AreProper n g before c → AreProper m g before c
proper_kept n m k g before [] h = tt
proper_kept n m k g before (p ∷ c) h = (
  (
    subst (λ (ds : List Decl). is_in p.name (names ds) ≡ true) (sym (decls_same n m k)) h.0.0,
    ap (λ (f : Name → Clock). f p.name) (clocks_same n m k) ∙ h.0.1,
    h.0.2,
  ),
  proper_kept n m k g (before ++ p ∷ []) c h.1,
)

-- where no call becomes one that gives futures, an expression keeps its facts
pub expr_by : (core other : Core) → ((f : Name) → GivesNoFuture core f → GivesNoFuture other f) → (g : Grades) (rs : List Name) (e : Expr) → StaticExpr core g rs e → StaticExpr other g rs e
expr_by core other plain g rs e s = record {
  demands = s.demands;
  arrow = s.arrow;
  number = s.number;
  plain = All-weaker (GivesNoFuture core) (GivesNoFuture other) plain (called_async e.form) s.plain;
  branch = s.branch;
}

module _ (core other : Core) (h : Reordering core other) where
  plain_kept : (f : Name) → GivesNoFuture core f → GivesNoFuture other f
  plain_kept f k n is = k n (ap (λ (ns : List Node). node_named ns f) (sym (interfaces_same core.nodes other.nodes h.nodes)) ∙ is)

  equation_kept : (n m : CoreNode) → Reordered n m → (g : Grades) (e : CoreEquation) → StaticEquation core n g e → StaticEquation other m g e
  equation_kept n m k g e s = record {
    left = s.left;
    right = All-weaker (StaticExpr core g e.resets) (StaticExpr other g e.resets) (expr_by core other plain_kept g e.resets) (inside e.right) s.right;
    clock = proper_kept n m k g [] e.clock.steps s.clock;
    resets = s.resets;
  }

  node_kept : (n m : CoreNode) → Reordered n m → (g : Grades) → StaticNode core n g → StaticNode other m g
  node_kept n m k g s = record {
    equations = All-permutation (StaticEquation other m g) n.equations m.equations k.equations
        (All-weaker (StaticEquation core n g) (StaticEquation other m g) (equation_kept n m k g) n.equations s.equations);
    interface = subst (λ (ds : List Decl). All (λ (d : Decl). g d.name ≡ []) (ds ++ m.outputs)) (sym k.inputs)
        (subst (λ (ds : List Decl). All (λ (d : Decl). g d.name ≡ []) (n.inputs ++ ds)) (sym k.outputs) s.interface);
  }

  nodes_kept : (nodes others : List CoreNode) → ReorderedNodes nodes others →
      All (λ (n : CoreNode). (g : Grades) × StaticNode core n g) nodes → All (λ (n : CoreNode). (g : Grades) × StaticNode other n g) others
  nodes_kept _ _ none s = λ k d lt. absurd (omega arith)
  nodes_kept _ _ (next {node = n} {other = m} {nodes = ns} {others = ms} k ks) s =
      let one = all_head (λ (n : CoreNode). (g : Grades) × StaticNode core n g) n ns s in
      all_cons (λ (n : CoreNode). (g : Grades) × StaticNode other n g) m ms (one.0, node_kept n m k one.0 one.1)
      (nodes_kept ns ms ks (all_tail (λ (n : CoreNode). (g : Grades) × StaticNode core n g) n ns s))

pub order_keeps_static : OrderKeepsStatic
order_keeps_static core other h s = record {
  types = subst (λ (ts : List TypeDec). NamesDiffer (map (λ (d : TypeDec). d.name) ts)) (sym h.types) s.types;
  constructors = subst (λ (ts : List TypeDec). NamesDiffer (flat_map (λ (d : TypeDec). d.constructors) ts)) (sym h.types) s.constructors;
  nodes = nodes_kept core other h core.nodes other.nodes h.nodes s.nodes;
}
