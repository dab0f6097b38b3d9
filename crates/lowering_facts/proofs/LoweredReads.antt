-- A lowered expression reads what the expression reads, so the core's reads have no cycle.
use Rattle.std.proofs.Common.{◌≡◌, ◌+◌, arith, ◌⊎◌, inl, inr, ⊎_elim, ℕ, suc, Bool, true, false, ◌||◌, if◌then◌else◌, List, [], ◌∷◌, ◌++◌, map, All, Some, slice_get, refl, sym, ap, subst, ◌∙◌}
use Rattle.std.specs.List.{flat_map}
use Rattle.std.proofs.lemmas.List.Elements.{All-nil, All-cons}
use Rattle.hept_ast.specs.Texts.{Name, is_in}
use Rattle.hept_ast.specs.Scopes.{Clock}
use Rattle.hept_ast.specs.Parts.{Placed, parts_of}
use Rattle.hept_ast.specs.Causal.{HasNoCycle, InTurn, IsCycle, Reads, reads, reads_in}
use Rattle.hept_ast.specs.declared.name.Place.{Place}
use Rattle.hept_ast.specs.declared.tree.Expr.{Expr}
use Rattle.hept_ast.specs.declared.tree.MergeBranch.{MergeBranch}
use Rattle.hept_ast.specs.declared.tree.Equation.{Equation}
use Rattle.hept_ast.specs.declared.tree.Equation.TheVariants as equation
use Rattle.hept_ast.specs.declared.tree.Node.{Node}
use Rattle.hept_ast.specs.declared.tree.CoreNode.{CoreNode}
use Rattle.hept_ast.specs.declared.tree.CoreEquation.{CoreEquation}
use Rattle.hept_ast.proofs.PartsOf.{parts-Define}
use Rattle.hept_ast.proofs.ReadsOf.{reads-Pre, reads-Unary, reads-Binary, reads-If, reads-Fby, reads-Arrow, reads-When, reads-Get, reads-Merge, reads-Call, reads-AsyncCall}
use Rattle.core_rules.specs.Cores.{CoreReads, equation_reads}
use Rattle.accepted_meaning.proofs.TextLists.{is_in_append, is_in_left, is_in_right}
use Rattle.lowering_rules.specs.Lowering.{node_frame, clock_of_left, Lowers, const, var, last, unary, binary, choice, fby, pre, arrow, when, merge, call, async_call, async_const, get, LowersAll, no_exprs, more_exprs, LowersBranches, no_branches, more_branches}
use Rattle.hept_ast.specs.ClockMaps.{clock_in}
use Rattle.lowering_facts.specs.FactLaws.{LoweringMakesNoCycle}
use Rattle.lowering_rules.proofs.Accepted.{accepted_is_tied}
use Rattle.lowering_rules.specs.Ties.{TiedEquations, no_equations, more_equations, TiedNode, TiedNodes, no_nodes, more_nodes}

-- ---- expressions

two : {a b c d : List Name} → b ≡ a → d ≡ c → b ++ d ≡ a ++ c
two p q = cc

mutual
  pub reads_same : {n m : ℕ} {e r : Expr} → Lowers node_frame n e r m → reads r.form ≡ reads e.form
  reads_same const = refl
  reads_same var = refl
  reads_same (last e) = cc
  reads_same (unary {op = op} {a = a} {b = b} h) = reads-Unary op b ∙ reads_same h ∙ sym (reads-Unary op a)
  reads_same (binary {op = op} {a = a} {b = b} {c = c} {d = d} h i) = reads-Binary op b d ∙ two (reads_same h) (reads_same i) ∙ sym (reads-Binary op a c)
  reads_same (choice {i = i} {j = j} {a = a} {b = b} {c = c} {d = d} h k l) = reads-If j b d ∙ two (two (reads_same h) (reads_same k)) (reads_same l) ∙ sym (reads-If i a c)
  reads_same (fby {a = a} {b = b} {c = c} {d = d} h i) = reads-Fby b d ∙ reads_same h ∙ sym (reads-Fby a c)
  reads_same (pre {a = a} {b = b} h) = reads-Pre b ∙ sym (reads-Pre a)
  reads_same (arrow {a = a} {b = b} {c = c} {d = d} h i) = reads-Arrow b d ∙ two (reads_same h) (reads_same i) ∙ sym (reads-Arrow a c)
  reads_same (when {a = a} {b = b} {tag = tag} {x = x} h) = reads-When b tag x ∙ ap (λ (l : List Name). l ++ x ∷ []) (reads_same h) ∙ sym (reads-When a tag x)
  reads_same (merge {x = x} {bs = bs} {cs = cs} h) = reads-Merge x cs ∙ ap (λ (l : List Name). x ∷ l) (branches_same h) ∙ sym (reads-Merge x bs)
  reads_same (call {g = g} {es = es} {rs = rs} h) = reads-Call g rs ∙ all_same h ∙ sym (reads-Call g es)
  reads_same (async_call {q = q} {g = g} {es = es} {rs = rs} h) = reads-AsyncCall q g rs ∙ all_same h ∙ sym (reads-AsyncCall q g es)
  reads_same async_const = refl
  reads_same (get {a = a} {b = b} h) = reads-Get b ∙ reads_same h ∙ sym (reads-Get a)

  all_same : {n m : ℕ} {es rs : List Expr} → LowersAll node_frame n es rs m → flat_map (λ (e : Expr). reads e.form) rs ≡ flat_map (λ (e : Expr). reads e.form) es
  all_same no_exprs = refl
  all_same (more_exprs h hs) = two (reads_same h) (all_same hs)

  branches_same : {n m : ℕ} {bs cs : List MergeBranch} → LowersBranches node_frame n bs cs m → flat_map (λ (b : MergeBranch). reads b.value.form) cs ≡ flat_map (λ (b : MergeBranch). reads b.value.form) bs
  branches_same no_branches = refl
  branches_same (more_branches h hs) = two (reads_same h) (branches_same hs)

-- ---- nodes

-- what the core's equations read of a name, the name or its clock reads in the program
abbrev clock_names : Clock → List Name
clock_names c = map (λ s. s.name) c

abbrev core_part : List CoreEquation → Name → List Name
core_part cs x = flat_map (λ (e : CoreEquation). if is_in x e.left then equation_reads e else []) cs

abbrev text_part : List Equation → Name → List Name
text_part es x = flat_map (λ (q : Placed). reads_in x q.site q.part) (flat_map (parts_of []) es)

either : (y : Name) (xs ys : List Name) → is_in y (xs ++ ys) ≡ true → (is_in y xs ≡ true) ⊎ (is_in y ys ≡ true)
either y xs ys h = go (is_in y xs) refl
  where
    go : (b : Bool) → is_in y xs ≡ b → (is_in y xs ≡ true) ⊎ (is_in y ys ≡ true)
    go true e = inl e
    go false e = inr (sym (is_in_append y xs ys ∙ ap (λ (b : Bool). b || is_in y ys) e) ∙ h)

text_first : (x : Name) (p : Place) (left : List Name) (right : Expr) (es : List Equation) → text_part (equation.Define p left right ∷ es) x ≡ (if is_in x left then reads right.form ++ [] else []) ++ text_part es x
text_first x p left right es = ap (λ (qs : List Placed). flat_map (λ (q : Placed). reads_in x q.site q.part) (qs ++ flat_map (parts_of []) es)) (parts-Define [] p left right)

module _ (clock : Name → Clock) (x y : Name) where
  abbrev Found : List Equation → Type 0
  Found es = (is_in y (text_part es x) ≡ true) ⊎ (is_in y (clock_names (clock x)) ≡ true)

  this_equation : (left : List Name) (right : Expr) (c : Clock) (more : List Name) (b : Bool) → clock x ≡ c → is_in y (reads right.form ++ clock_names c ++ []) ≡ true →
      (is_in y ((reads right.form ++ []) ++ more) ≡ true) ⊎ (is_in y (clock_names (clock x)) ≡ true)
  this_equation left right c more b on h = ⊎_elim of_right of_clock (either y (reads right.form ++ clock_names c) [] h)
    where
      of_right : is_in y (reads right.form ++ clock_names c) ≡ true → (is_in y ((reads right.form ++ []) ++ more) ≡ true) ⊎ (is_in y (clock_names (clock x)) ≡ true)
      of_right i = ⊎_elim (λ j. inl (is_in_left y (reads right.form ++ []) more (is_in_left y (reads right.form) [] j)))
          (λ j. inr (subst (λ (k : Clock). is_in y (clock_names k) ≡ true) (sym on) j)) (either y (reads right.form) (clock_names c) i)

      of_clock : is_in y [] ≡ true → (is_in y ((reads right.form ++ []) ++ more) ≡ true) ⊎ (is_in y (clock_names (clock x)) ≡ true)
      of_clock i = cc

  equations_read : (n m : ℕ) (es : List Equation) (cs : List CoreEquation) → TiedEquations clock n es cs m → is_in y (core_part cs x) ≡ true → Found es
  equations_read n m _ _ no_equations h = cc
  equations_read n m _ _ (more_equations {p = p} {left = left} {right = right} {r = r} {es = es} {cs = cs} l on ls) h =
      subst (λ (xs : List Name). (is_in y xs ≡ true) ⊎ (is_in y (clock_names (clock x)) ≡ true)) (sym (text_first x p left right es)) (go (is_in x left) refl h (equations_read _ _ es cs ls))
    where
      rest : Found es → (first : List Name) → (is_in y (first ++ text_part es x) ≡ true) ⊎ (is_in y (clock_names (clock x)) ≡ true)
      rest i first = ⊎_elim (λ j. inl (is_in_right y first (text_part es x) j)) (λ j. inr j) i

      go : (b : Bool) → is_in x left ≡ b → is_in y ((if b then reads r.form ++ clock_names (clock_of_left clock left) ++ [] else []) ++ core_part cs x) ≡ true →
          (is_in y (core_part cs x) ≡ true → Found es) →
          (is_in y ((if b then reads right.form ++ [] else []) ++ text_part es x) ≡ true) ⊎ (is_in y (clock_names (clock x)) ≡ true)
      go true e i later =
          ⊎_elim (λ j. this_equation left right (clock_of_left clock left) (text_part es x) true (on x e)
          (subst (λ (xs : List Name). is_in y (xs ++ clock_names (clock_of_left clock left) ++ []) ≡ true) (reads_same l) j))
          (λ j. rest (later j) (reads right.form ++ [])) (either y (reads r.form ++ clock_names (clock_of_left clock left) ++ []) (core_part cs x) i)
      go false e i later = rest (later i) []

node_reads : (clock : Name → Clock) (node : Node) (low : CoreNode) → TiedNode clock node low → (x y : Name) → CoreReads low x y → Reads node clock x y
node_reads clock node low h x y i =
    ⊎_elim (λ j. is_in_left y (text_part node.block.body x) (clock_names (clock x)) j) (λ j. is_in_right y (text_part node.block.body x) (clock_names (clock x)) j)
    (equations_read clock x y 0 h.calls node.block.body low.equations h.equations i)

-- ---- cycles

module _ (R S : Name → Name → Type 0) (h : (x y : Name) → R x y → S x y) where
  in_turn : (first : Name) (xs : List Name) → InTurn R first xs → InTurn S first xs
  in_turn first [] i = tt
  in_turn first (x ∷ []) i = h x first i
  in_turn first (x ∷ y ∷ rest) i = (h x y i.0, in_turn first (y ∷ rest) i.1)

  is_cycle : (xs : List Name) → IsCycle R xs → IsCycle S xs
  is_cycle [] i = i
  is_cycle (x ∷ xs) i = in_turn x (x ∷ xs) i

  no_cycle : HasNoCycle S → HasNoCycle R
  no_cycle k xs i = k xs (is_cycle xs i)

no_cycles : (clock : ℕ → Name → Clock) (k : ℕ) (nodes : List Node) (lows : List CoreNode) → ((n : ℕ) (node : Node) → slice_get nodes n ≡ Some node → HasNoCycle (Reads node (clock (k + n)))) → TiedNodes clock k nodes lows →
    All (λ low. HasNoCycle (CoreReads low)) lows
no_cycles clock k _ _ h no_nodes = All-nil (λ (low : CoreNode). HasNoCycle (CoreReads low))
no_cycles clock k _ _ h (more_nodes {node = node} {low = low} {nodes = nodes} {lows = lows} t ts) =
    let e : k + 0 ≡ k = omega arith in
    All-cons (λ (low : CoreNode). HasNoCycle (CoreReads low)) low lows
    (no_cycle (CoreReads low) (Reads node (clock k)) (node_reads (clock k) node low t) (subst (λ (i : ℕ). HasNoCycle (Reads node (clock i))) e (h 0 node refl)))
    (no_cycles clock (suc k) nodes lows (λ n m at. let f : k + suc n ≡ suc k + n = omega arith in subst (λ (i : ℕ). HasNoCycle (Reads m (clock i))) f (h (suc n) m at)) ts)

pub lowering_makes_no_cycle : LoweringMakesNoCycle
lowering_makes_no_cycle c core range accepted h =
    no_cycles (clock_in c.clocks) 0 c.program.nodes core.nodes
    (λ n node at. let e : n ≡ 0 + n = omega arith in subst (λ (i : ℕ). HasNoCycle (Reads node (clock_in c.clocks i))) e (accepted.causal n node at)) (accepted_is_tied c core range accepted h)
