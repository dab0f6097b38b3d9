-- A flat core stays flat while subexpressions become variables.
use Rattle.std.proofs.Common.{List, [], ◌∷◌, ◌++◌, sym, subst}
use Rattle.std.specs.Prelude.{All}
use Rattle.std.proofs.lemmas.List.Elements.{All-nil, All-cons, All-head, All-tail, All-append}
use Rattle.hept_ast.specs.Texts.{Name}
use Rattle.hept_ast.specs.Scopes.{Clock}
use Rattle.hept_ast.specs.declared.tree.Core.{Core}
use Rattle.hept_ast.specs.declared.tree.CoreNode.{CoreNode}
use Rattle.hept_ast.specs.declared.tree.CoreEquation.{CoreEquation}
use Rattle.hept_ast.specs.declared.tree.Expr.{Expr}
use Rattle.hept_ast.specs.declared.tree.MergeBranch.{MergeBranch}
use Rattle.hept_ast.specs.declared.tree.Ty.{Ty}
use Rattle.core_naming.specs.Names.{IsNaming, Names, NamesInNode, new_equation, with_right}
use Rattle.naming_rules.specs.Namings.{no_naming, one_more}
use Rattle.naming_rules.proofs.NamedShapes.{NamedCases, branch_at, by_names}
use Rattle.sound_expressions.proofs.Expressions.{all_left, all_right}
use Rattle.flat_cores.specs.Flat.{IsFlatCore, IsFlatEquation}
use Rattle.flat_cores.specs.FlatLaws.{NamingKeepsFlat}
use Rattle.flat_cores.proofs.ServedForms.{Served, served_var, served_unary, served_binary, served_if, served_fby, served_pre, served_arrow, of_unary, of_binary, of_if, of_fby, of_pre, of_arrow, of_when, of_merge, of_branch, of_call, of_argument, served_when, served_merge, served_branch, served_call, served_argument, ServedArguments, ServedBranches, no_async, no_get}

-- what stays of a served expression, and what was taken out
record StaysServed (a r : Expr) : Type 0 where
  right : Served r
  taken : Served a

-- the same of a call's arguments
record StayArguments (a : Expr) (ms : List Expr) : Type 0 where
  values : ServedArguments ms
  taken : Served a

-- and of a merge's branches
record StayServed (a : Expr) (ms : List MergeBranch) : Type 0 where
  values : ServedBranches ms
  taken : Served a

module _ (x : Name) (a : Expr) (d : Clock) where
  abbrev Q : Clock → Expr → Expr → Type 0
  Q c e r = Served e → StaysServed a r

  abbrev QA : Clock → List Expr → List Expr → Type 0
  QA c es ms = ServedArguments es → StayArguments a ms

  abbrev QB : Name → Clock → List MergeBranch → List MergeBranch → Type 0
  QB y c bs ms = ServedBranches bs → StayServed a ms

  with : {m r : Expr} → StaysServed a m → Served r → StaysServed a r
  with h r = record { right = r; taken = h.taken }

  cases : NamedCases x a d Q QA QB
  cases = record {
    at_whole = λ h. record { right = served_var a.place x; taken = h };
    at_unary = λ c p op b m q h. let s = q (of_unary p op b h) in with s (served_unary p op m s.right);
    at_left = λ c p op b f m q h. let o = of_binary p op b f h in let s = q o.0 in with s (served_binary p op m f s.right o.1);
    at_right = λ c p op b f m n q h. let o = of_binary p op b f h in let s = q o.1 in with s (served_binary p op b m o.0 s.right);
    at_condition = λ c p i b f m q h. let o = of_if p i b f h in let s = q o.0 in with s (served_if p m b f s.right o.1 o.2);
    at_then = λ c p i b f m q h. let o = of_if p i b f h in let s = q o.1 in with s (served_if p i m f o.0 s.right o.2);
    at_else = λ c p i b f m q h. let o = of_if p i b f h in let s = q o.2 in with s (served_if p i b m o.0 o.1 s.right);
    at_fby_first = λ c p b f m q h. let o = of_fby p b f h in let s = q o.0 in with s (served_fby p m f s.right o.1);
    at_fby_next = λ c p b f m q h. let o = of_fby p b f h in let s = q o.1 in with s (served_fby p b m o.0 s.right);
    at_pre = λ c p b m q h. let s = q (of_pre p b h) in with s (served_pre p m s.right);
    at_arrow_first = λ c p b f m q h. let o = of_arrow p b f h in let s = q o.0 in with s (served_arrow p m f s.right o.1);
    at_arrow_next = λ c p b f m q h. let o = of_arrow p b f h in let s = q o.1 in with s (served_arrow p b m o.0 s.right);
    at_when = λ c p b m tag y q h. let s = q (of_when p b tag y h) in with s (served_when p m tag y s.right);
    at_merge = λ c p y bs ms q h. let s = q (of_merge p y bs h) in record { right = served_merge p y ms s.values; taken = s.taken };
    at_call = λ c p f es ms q h. let s = q (of_call p f es h) in record { right = served_call p f ms s.values; taken = s.taken };
    at_async = λ c p k f es ms q h. absurd (no_async p k f es h);
    at_get = λ c p b m q h. absurd (no_get p b h);
    this_one = λ c e m es q h.
        let o = of_argument e es h in
        let s = q o.0 in
        record { values = served_argument m es s.right o.1; taken = s.taken };
    later_one = λ c e es ms q h.
        let o = of_argument e es h in
        let s = q o.1 in
        record { values = served_argument e ms o.0 s.values; taken = s.taken };
    this_value = λ y c p tag e m bs q h.
        let o = of_branch (branch_at p tag e) bs h in
        let s = q o.0 in
        record { values = served_branch (branch_at p tag m) bs s.right o.1; taken = s.taken };
    later_value = λ y c b bs ms q h.
        let o = of_branch b bs h in
        let s = q o.1 in
        record { values = served_branch b ms o.0 s.values; taken = s.taken };
  }

  stays_served : (c : Clock) (e r : Expr) → Names x a d c e r → Served e → StaysServed a r
  stays_served c e r n = by_names x a d Q QA QB cases c e r n

-- ---- nodes

flat_node : (x : Name) (a : Expr) (d : Clock) (t : Ty) (node moved : CoreNode) → NamesInNode x a d t node moved → All IsFlatEquation node.equations → All IsFlatEquation moved.equations
flat_node x a d t node moved n h =
    let all : All IsFlatEquation (n.front ++ n.equation ∷ n.back) = subst (All IsFlatEquation) n.equations h in
    let here = all_right IsFlatEquation n.front (n.equation ∷ n.back) all in
    let flat = All-head IsFlatEquation n.equation n.back here in
    let s = stays_served x a d n.equation.clock.steps n.equation.right n.right n.named flat.forms in
    let new : IsFlatEquation (new_equation x a d n.equation.resets) = record { resets = flat.resets; forms = s.taken } in
    let changed : IsFlatEquation (with_right n.equation n.right) = record { resets = flat.resets; forms = s.right } in
    subst (All IsFlatEquation) (sym n.others)
    (flat_parts n.front (with_right n.equation n.right) n.back (new_equation x a d n.equation.resets) (all_left IsFlatEquation n.front (n.equation ∷ n.back) all) changed
    (All-tail IsFlatEquation n.equation n.back here) new)
  where
    flat_parts : (front : List CoreEquation) (e : CoreEquation) (back : List CoreEquation) (new : CoreEquation) → All IsFlatEquation front → IsFlatEquation e → All IsFlatEquation back → IsFlatEquation new →
        All IsFlatEquation (front ++ e ∷ back ++ new ∷ [])
    flat_parts front e back new f h b k = All-append IsFlatEquation (front ++ e ∷ back) (new ∷ []) (All-append IsFlatEquation front (e ∷ back) f (All-cons IsFlatEquation e back h b)) (All-cons IsFlatEquation new [] k (All-nil IsFlatEquation))

abbrev IsFlatNode : CoreNode → Type 0
IsFlatNode node = All IsFlatEquation node.equations

flat_core : (core other : Core) → IsNaming core other → IsFlatCore core → IsFlatCore other
flat_core core other n h =
    let all : All IsFlatNode (n.front ++ n.node ∷ n.back) = subst (All IsFlatNode) n.nodes h in
    let here = all_right IsFlatNode n.front (n.node ∷ n.back) all in
    subst (All IsFlatNode) (sym n.others)
    (All-append IsFlatNode n.front (n.moved ∷ n.back) (all_left IsFlatNode n.front (n.node ∷ n.back) all)
    (All-cons IsFlatNode n.moved n.back (flat_node n.x n.a n.d n.t n.node n.moved n.step (All-head IsFlatNode n.node n.back here)) (All-tail IsFlatNode n.node n.back here)))

pub naming_keeps_flat : NamingKeepsFlat
naming_keeps_flat _ _ no_naming h = h
naming_keeps_flat _ _ (one_more {core = core} {other = other} {last = last} hs n) h = flat_core other last n (naming_keeps_flat core other hs h)
