-- What becomes of an expression reads no `last`.
use Rattle.std.proofs.Common.{◌≡◌, ℕ, List, [], ◌++◌, All, sym, subst}
use Rattle.std.specs.List.{flat_map}
use Rattle.std.proofs.lemmas.List.Elements.{All-nil, All-cons, All-append}
use Rattle.hept_ast.specs.Parts.{inside, below}
use Rattle.hept_ast.specs.declared.name.Place.{Place}
use Rattle.hept_ast.specs.declared.tree.Expr.{Expr}
use Rattle.hept_ast.specs.declared.tree.MergeBranch.{MergeBranch}
use Rattle.hept_ast.specs.declared.tree.Form.{Form, out-Form}
use Rattle.hept_ast.specs.declared.tree.Form.TheOpen.{Form-F}
use Rattle.hept_ast.specs.declared.tree.Form.TheVariants as form
use Rattle.hept_ast.proofs.FormsOf.{below-Const, below-Var, below-Unary, below-Binary, below-If, below-Fby, below-Pre, below-Arrow, below-When, below-Merge, below-Call, below-AsyncCall, below-AsyncConst, below-Get}
use Rattle.core_rules.specs.WellFormed.{IsNoLast}
use Rattle.naming_rules.proofs.Shapes.{out_Const, out_Var, out_Unary, out_Binary, out_If, out_Fby, out_Pre, out_Arrow, out_When, out_Merge, out_Call, out_AsyncCall, out_AsyncConst, out_Get}
use Rattle.lowering_rules.specs.Lowering.{node_frame, at, Lowers, const, var, last, unary, binary, choice, fby, pre, arrow, when, merge, call, async_call, async_const, get, LowersAll, no_exprs, more_exprs, LowersBranches, no_branches, more_branches}

abbrev None_last : Expr → Type 0
None_last e = IsNoLast (out-Form e.form)

abbrev None_in : List Expr → Type 0
None_in es = All None_last es

-- an expression of this view, over these expressions
over : (p : Place) (f : Form) (v : Form-F Form Expr MergeBranch) (es : List Expr) → out-Form f ≡ v → IsNoLast v → below f ≡ es → None_in es → None_in (inside (at p f))
over p f v es o h b i = All-cons None_last (at p f) (below f) (subst IsNoLast (sym o) h) (subst None_in (sym b) i)

mutual
  pub no_last : {n m : ℕ} {e r : Expr} → Lowers node_frame n e r m → None_in (inside r)
  no_last (const {p = p} {k = k}) = over p (form.Const k) (Form-F.Const k) [] (out_Const k) tt (below-Const k) (All-nil None_last)
  no_last (var {p = p} {x = x}) = over p (form.Var x) (Form-F.Var x) [] (out_Var x) tt (below-Var x) (All-nil None_last)
  no_last (last e) = cc
  no_last (unary {p = p} {op = op} {b = b} h) = over p (form.Unary op b) (Form-F.Unary op b) (inside b) (out_Unary op b) tt (below-Unary op b) (no_last h)
  no_last (binary {p = p} {op = op} {b = b} {d = d} h i) =
      over p (form.Binary op b d) (Form-F.Binary op b d) (inside b ++ inside d) (out_Binary op b d) tt (below-Binary op b d) (All-append None_last (inside b) (inside d) (no_last h) (no_last i))
  no_last (choice {p = p} {j = j} {b = b} {d = d} h k l) =
      over p (form.If j b d) (Form-F.If j b d) (inside j ++ inside b ++ inside d) (out_If j b d) tt (below-If j b d)
      (All-append None_last (inside j ++ inside b) (inside d) (All-append None_last (inside j) (inside b) (no_last h) (no_last k)) (no_last l))
  no_last (fby {p = p} {b = b} {d = d} h i) = over p (form.Fby b d) (Form-F.Fby b d) (inside b ++ inside d) (out_Fby b d) tt (below-Fby b d) (All-append None_last (inside b) (inside d) (no_last h) (no_last i))
  no_last (pre {p = p} {b = b} h) = over p (form.Pre b) (Form-F.Pre b) (inside b) (out_Pre b) tt (below-Pre b) (no_last h)
  no_last (arrow {p = p} {b = b} {d = d} h i) =
      over p (form.Arrow b d) (Form-F.Arrow b d) (inside b ++ inside d) (out_Arrow b d) tt (below-Arrow b d) (All-append None_last (inside b) (inside d) (no_last h) (no_last i))
  no_last (when {p = p} {b = b} {tag = tag} {x = x} h) = over p (form.When b tag x) (Form-F.When b tag x) (inside b) (out_When b tag x) tt (below-When b tag x) (no_last h)
  no_last (merge {p = p} {x = x} {cs = cs} h) =
      over p (form.Merge x cs) (Form-F.Merge x cs) (flat_map (λ (b : MergeBranch). inside b.value) cs) (out_Merge x cs) tt (below-Merge x cs) (no_last_branches h)
  no_last (call {n = n} {g = g} {rs = rs} h) =
      over (record { 0 = n }) (form.Call g rs) (Form-F.Call g rs) (flat_map inside rs) (out_Call g rs) tt (below-Call g rs) (no_last_all h)
  no_last (async_call {n = n} {q = q} {g = g} {rs = rs} h) =
      over (record { 0 = n }) (form.AsyncCall q g rs) (Form-F.AsyncCall q g rs) (flat_map inside rs) (out_AsyncCall q g rs) tt (below-AsyncCall q g rs) (no_last_all h)
  no_last (async_const {p = p} {k = k}) = over p (form.AsyncConst k) (Form-F.AsyncConst k) [] (out_AsyncConst k) tt (below-AsyncConst k) (All-nil None_last)
  no_last (get {p = p} {b = b} h) = over p (form.Get b) (Form-F.Get b) (inside b) (out_Get b) tt (below-Get b) (no_last h)

  no_last_all : {n m : ℕ} {es rs : List Expr} → LowersAll node_frame n es rs m → None_in (flat_map inside rs)
  no_last_all no_exprs = All-nil None_last
  no_last_all (more_exprs {r = r} {rs = rs} h hs) = All-append None_last (inside r) (flat_map inside rs) (no_last h) (no_last_all hs)

  no_last_branches : {n m : ℕ} {bs cs : List MergeBranch} → LowersBranches node_frame n bs cs m → None_in (flat_map (λ (b : MergeBranch). inside b.value) cs)
  no_last_branches no_branches = All-nil None_last
  no_last_branches (more_branches {r = r} {cs = cs} h hs) = All-append None_last (inside r) (flat_map (λ (b : MergeBranch). inside b.value) cs) (no_last h) (no_last_branches hs)
