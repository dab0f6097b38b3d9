-- The core that comes of a served program is flat.
use Rattle.std.proofs.Common.{ℕ, List, refl}
use Rattle.std.specs.Prelude.{All}
use Rattle.std.proofs.lemmas.List.Elements.{All-nil, All-cons, All-head, All-tail}
use Rattle.hept_ast.specs.Texts.{Name}
use Rattle.hept_ast.specs.Scopes.{Clock}
use Rattle.hept_ast.specs.declared.tree.CoreNode.{CoreNode}
use Rattle.hept_ast.specs.declared.tree.CoreEquation.{CoreEquation}
use Rattle.hept_ast.specs.declared.tree.Equation.{Equation}
use Rattle.hept_ast.specs.declared.tree.Expr.{Expr}
use Rattle.hept_ast.specs.declared.tree.MergeBranch.{MergeBranch}
use Rattle.hept_ast.specs.declared.tree.Node.{Node}
use Rattle.lowering_rules.specs.Lowering.{node_frame, Lowers, LowersAll, LowersBranches, LowersEquations, LowersNodes}
use Rattle.lowering_rules.specs.Lowering as lowering
use Rattle.served_programs.specs.Served.{IsServedNode}
use Rattle.flat_cores.specs.Flat.{IsFlatEquation}
use Rattle.flat_cores.specs.FlatLaws.{LoweringIsFlat}
use Rattle.flat_cores.proofs.ServedForms.{Served, served_var, served_unary, served_binary, served_if, served_fby, served_pre, served_arrow, of_unary, of_binary, of_if, of_fby, of_pre, of_arrow, of_when, of_merge, of_branch, of_call, of_argument, served_when, served_merge, served_branch, served_call, served_argument, ServedArguments, ServedBranches, no_last, no_async, no_ready, no_get}
use Rattle.flat_cores.proofs.ServedNodes.{ServedBody, served_body}
use Rattle.flat_cores.proofs.ServedNodes as body

mutual
  lowered_served : {n m : ℕ} {e r : Expr} → Lowers node_frame n e r m → Served e → Served r
  lowered_served lowering.const h = h
  lowered_served (lowering.var {p = p} {x = x}) h = served_var p x
  lowered_served (lowering.last {p = p} {x = x} i) h = absurd (no_last p x h)
  lowered_served (lowering.unary {p = p} {op = op} {a = a} {b = b} l) h = served_unary p op b (lowered_served l (of_unary p op a h))
  lowered_served (lowering.binary {p = p} {op = op} {a = a} {b = b} {c = c} {d = d} l m) h =
      let s = of_binary p op a c h in
      served_binary p op b d (lowered_served l s.0) (lowered_served m s.1)
  lowered_served (lowering.choice {p = p} {i = i} {j = j} {a = a} {b = b} {c = c} {d = d} k l m) h =
      let s = of_if p i a c h in
      served_if p j b d (lowered_served k s.0) (lowered_served l s.1) (lowered_served m s.2)
  lowered_served (lowering.fby {p = p} {a = a} {b = b} {c = c} {d = d} l m) h =
      let s = of_fby p a c h in
      served_fby p b d (lowered_served l s.0) (lowered_served m s.1)
  lowered_served (lowering.pre {p = p} {a = a} {b = b} l) h = served_pre p b (lowered_served l (of_pre p a h))
  lowered_served (lowering.arrow {p = p} {a = a} {b = b} {c = c} {d = d} l m) h =
      let s = of_arrow p a c h in
      served_arrow p b d (lowered_served l s.0) (lowered_served m s.1)
  lowered_served (lowering.when {p = p} {a = a} {b = b} {tag = tag} {x = x} l) h = served_when p b tag x (lowered_served l (of_when p a tag x h))
  lowered_served (lowering.merge {p = p} {x = x} {bs = bs} {cs = cs} l) h = served_merge p x cs (branches_served l (of_merge p x bs h))
  lowered_served (lowering.call {n = n} {p = p} {g = g} {es = es} {rs = rs} l) h = served_call (record { 0 = n }) g rs (arguments_served l (of_call p g es h))
  lowered_served (lowering.async_call {p = p} {q = q} {g = g} {es = es} l) h = absurd (no_async p q g es h)
  lowered_served (lowering.async_const {p = p} {k = k}) h = absurd (no_ready p k h)
  lowered_served (lowering.get {p = p} {a = a} l) h = absurd (no_get p a h)

  arguments_served : {n m : ℕ} {es rs : List Expr} → LowersAll node_frame n es rs m → ServedArguments es → ServedArguments rs
  arguments_served lowering.no_exprs h = h
  arguments_served (lowering.more_exprs {e = e} {r = r} {es = es} {rs = rs} l ls) h =
      let s = of_argument e es h in
      served_argument r rs (lowered_served l s.0) (arguments_served ls s.1)

  branches_served : {n m : ℕ} {bs cs : List MergeBranch} → LowersBranches node_frame n bs cs m → ServedBranches bs → ServedBranches cs
  branches_served lowering.no_branches h = h
  branches_served (lowering.more_branches {p = p} {tag = tag} {e = e} {r = r} {bs = bs} {cs = cs} l ls) h =
      let s = of_branch (lowering.branch p tag e) bs h in
      served_branch (lowering.branch p tag r) cs (lowered_served l s.0) (branches_served ls s.1)

-- ---- nodes

flat_equations : {clock : Name → Clock} {n m : ℕ} {es : List Equation} {cs : List CoreEquation} → ServedBody es → LowersEquations node_frame clock n es cs m → All IsFlatEquation cs
flat_equations body.no_equation lowering.no_equations = All-nil IsFlatEquation
flat_equations (body.one_more s more) (lowering.more_equations (lowering.define l) ls) =
    All-cons IsFlatEquation _ _ (record { resets = refl; forms = lowered_served l s }) (flat_equations more ls)

flat_nodes : {clock : ℕ → Name → Clock} {k : ℕ} {nodes : List Node} {lows : List CoreNode} → All IsServedNode nodes → LowersNodes clock k nodes lows → All (λ node. All IsFlatEquation node.equations) lows
flat_nodes h lowering.no_nodes = All-nil _
flat_nodes h (lowering.more_nodes {node = node} {low = low} {nodes = nodes} {lows = lows} l ls) =
    All-cons (λ n. All IsFlatEquation n.equations) low lows (flat_equations (served_body node (All-head IsServedNode node nodes h)) l.equations) (flat_nodes (All-tail IsServedNode node nodes h) ls)

pub lowering_is_flat : LoweringIsFlat
lowering_is_flat c core served h = flat_nodes served h.nodes
