-- The calls of a lowered node are numbered from 0 in text order, so no two of them have one place.
use Rattle.std.proofs.Common.{◌≡◌, ℕ, zero, suc, ◌≤◌, List, ◌++◌, map, Some, slice_get, sym, ap, subst, ◌∙◌, arith}
use Rattle.std.specs.List.{concat}
use Rattle.hept_ast.specs.Texts.{Name}
use Rattle.hept_ast.specs.Scopes.{Clock, Lowered}
use Rattle.hept_ast.specs.CallPlaces.{expr_places, text_places}
use Rattle.hept_ast.specs.ClockMaps.{clock_in}
use Rattle.hept_ast.specs.Paths.{IsAmong, at_head, in_tail, AllDiffer}
use Rattle.hept_ast.specs.declared.tree.Expr.{Expr}
use Rattle.hept_ast.specs.declared.tree.MergeBranch.{MergeBranch}
use Rattle.hept_ast.specs.declared.tree.Form.{Form, out-Form}
use Rattle.hept_ast.specs.declared.tree.Form.TheOpen.{Form-F}
use Rattle.hept_ast.specs.declared.tree.Equation.{Equation}
use Rattle.hept_ast.specs.declared.tree.Node.{Node}
use Rattle.hept_ast.specs.declared.tree.CoreNode.{CoreNode}
use Rattle.hept_ast.specs.declared.tree.CoreEquation.{CoreEquation}
use Rattle.hept_ast.proofs.CallPlacesOf.{form_view, expr_is}
use Rattle.naming_rules.proofs.Shapes.{out_Const, out_Var, out_Unary, out_Binary, out_If, out_Fby, out_Pre, out_Arrow, out_When, out_Merge, out_Call, out_AsyncCall, out_AsyncConst, out_Get}
use Rattle.lowering_rules.specs.Lowering.{node_frame, Lowers, const, var, last, unary, binary, choice, fby, pre, arrow, when, merge, call, async_call, async_const, get, LowersAll, no_exprs, more_exprs, LowersBranches, no_branches, more_branches}
use Rattle.lowering_rules.specs.Ties.{TiedEquations, no_equations, more_equations, TiedNodes, no_nodes, more_nodes}
use Rattle.lowering_rules.proofs.Accepted.{accepted_is_tied}
use Rattle.lowering_facts.specs.FactLaws.{CountsUp, no_numbers, next_number, LoweringNumbersCalls}

-- ---- numbers that count up

counts_append : (n m k : ℕ) (xs ys : List ℕ) → CountsUp n xs m → CountsUp m ys k → CountsUp n (xs ++ ys) k
counts_append n m k _ ys no_numbers h = h
counts_append n m k _ ys (next_number {xs = xs} i) h = next_number (counts_append (suc n) m k xs ys i h)

all_later : (n m : ℕ) (xs : List ℕ) (x : ℕ) → CountsUp n xs m → IsAmong x xs → n ≤ x
all_later n m _ x no_numbers i = elim i [ ]
all_later n m _ x (next_number h) at_head = omega arith
all_later n m _ x (next_number {xs = xs} h) (in_tail i) = let p : suc n ≤ x = all_later (suc n) m xs x h i in omega arith

not_later : (n : ℕ) → suc n ≤ n → ⊥
not_later n h = omega arith

pub all_differ : (n m : ℕ) (xs : List ℕ) → CountsUp n xs m → AllDiffer xs
all_differ n m _ no_numbers = tt
all_differ n m _ (next_number {xs = xs} h) = ((λ i. not_later n (all_later (suc n) m xs n h i)), all_differ (suc n) m xs h)

-- ---- expressions

counted : (n m : ℕ) (r : Expr) (f : Form-F Form Expr MergeBranch) → out-Form r.form ≡ f → CountsUp n (form_view f r.place) m → CountsUp n (expr_places r) m
counted n m r f p h = subst (λ (xs : List ℕ). CountsUp n xs m) (sym (expr_is r ∙ ap (λ (g : Form-F Form Expr MergeBranch). form_view g r.place) p)) h

mutual
  expr_counts : {n m : ℕ} {e r : Expr} → Lowers node_frame n e r m → CountsUp n (expr_places r) m
  expr_counts (const {k = k}) = counted _ _ _ _ (out_Const k) no_numbers
  expr_counts (var {x = x}) = counted _ _ _ _ (out_Var x) no_numbers
  expr_counts (last e) = cc
  expr_counts (unary {op = op} {b = b} h) = counted _ _ _ _ (out_Unary op b) (expr_counts h)
  expr_counts (binary {op = op} {b = b} {d = d} h i) = counted _ _ _ _ (out_Binary op b d) (counts_append _ _ _ (expr_places b) (expr_places d) (expr_counts h) (expr_counts i))
  expr_counts (choice {j = j} {b = b} {d = d} h i k) =
      counted _ _ _ _ (out_If j b d) (counts_append _ _ _ (expr_places j) (expr_places b ++ expr_places d) (expr_counts h) (counts_append _ _ _ (expr_places b) (expr_places d) (expr_counts i) (expr_counts k)))
  expr_counts (fby {b = b} {d = d} h i) = counted _ _ _ _ (out_Fby b d) (counts_append _ _ _ (expr_places b) (expr_places d) (expr_counts h) (expr_counts i))
  expr_counts (pre {b = b} h) = counted _ _ _ _ (out_Pre b) (expr_counts h)
  expr_counts (arrow {b = b} {d = d} h i) = counted _ _ _ _ (out_Arrow b d) (counts_append _ _ _ (expr_places b) (expr_places d) (expr_counts h) (expr_counts i))
  expr_counts (when {b = b} {tag = tag} {x = x} h) = counted _ _ _ _ (out_When b tag x) (expr_counts h)
  expr_counts (merge {x = x} {cs = cs} h) = counted _ _ _ _ (out_Merge x cs) (branches_count h)
  expr_counts (call {g = g} {rs = rs} h) = counted _ _ _ _ (out_Call g rs) (next_number (all_count h))
  expr_counts (async_call {q = q} {g = g} {rs = rs} h) = counted _ _ _ _ (out_AsyncCall q g rs) (next_number (all_count h))
  expr_counts (async_const {k = k}) = counted _ _ _ _ (out_AsyncConst k) no_numbers
  expr_counts (get {b = b} h) = counted _ _ _ _ (out_Get b) (expr_counts h)

  all_count : {n m : ℕ} {es rs : List Expr} → LowersAll node_frame n es rs m → CountsUp n (concat (map expr_places rs)) m
  all_count no_exprs = no_numbers
  all_count (more_exprs {r = r} {rs = rs} h hs) = counts_append _ _ _ (expr_places r) (concat (map expr_places rs)) (expr_counts h) (all_count hs)

  branches_count : {n m : ℕ} {bs cs : List MergeBranch} → LowersBranches node_frame n bs cs m → CountsUp n (concat (map (λ (b : MergeBranch). expr_places b.value) cs)) m
  branches_count no_branches = no_numbers
  branches_count (more_branches {r = r} {cs = cs} h hs) = counts_append _ _ _ (expr_places r) (concat (map (λ (b : MergeBranch). expr_places b.value) cs)) (expr_counts h) (branches_count hs)

-- ---- nodes

equations_count : (clock : Name → Clock) (n m : ℕ) (es : List Equation) (cs : List CoreEquation) → TiedEquations clock n es cs m → CountsUp n (concat (map (λ (e : CoreEquation). expr_places e.right) cs)) m
equations_count clock n m _ _ no_equations = no_numbers
equations_count clock n m _ _ (more_equations {r = r} {es = es} {cs = cs} l on ls) =
    counts_append _ _ _ (expr_places r) (concat (map (λ (e : CoreEquation). expr_places e.right) cs)) (expr_counts l) (equations_count clock _ m es cs ls)

node_at : (clock : ℕ → Name → Clock) (k i : ℕ) (nodes : List Node) (lows : List CoreNode) (low : CoreNode) → TiedNodes clock k nodes lows → slice_get lows i ≡ Some low →
    (m : ℕ) × CountsUp 0 (text_places (Lowered low)) m
node_at clock k i _ _ low no_nodes e = cc
node_at clock k zero _ _ low (more_nodes {node = node} {low = first} h hs) e =
    (h.calls, subst (λ (x : CoreNode). CountsUp 0 (text_places (Lowered x)) h.calls) (some_same first low e) (equations_count (clock k) 0 h.calls node.block.body first.equations h.equations))
  where
    some_same : (a b : CoreNode) → Some a ≡ Some b → a ≡ b
    some_same a b e = cc
node_at clock k (suc i) _ _ low (more_nodes {nodes = nodes} {lows = lows} h hs) e = node_at clock (suc k) i nodes lows low hs e

pub lowering_numbers_calls : LoweringNumbersCalls
lowering_numbers_calls c core k low range accepted h at =
    let a = node_at (clock_in c.clocks) 0 k c.program.nodes core.nodes low (accepted_is_tied c core range accepted h) at in
    (a.0, a.1, all_differ 0 a.0 (text_places (Lowered low)) a.1)
