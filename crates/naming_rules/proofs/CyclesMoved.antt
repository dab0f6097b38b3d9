-- A named subexpression makes no cycle.
use Rattle.std.proofs.Common.{◌≡◌, Bool, true, false, if◌then◌else◌, List, [], ◌∷◌, ◌++◌, refl, sym, ap, subst, ◌∙◌, ⊎_elim, All, Contains}
use Rattle.std.specs.List.{flat_map}
use Rattle.hept_ast.specs.Texts.{Name, same, is_in}
use Rattle.hept_ast.specs.Causal.{reads, HasNoCycle}
use Rattle.hept_ast.specs.declared.tree.Core.{Core}
use Rattle.hept_ast.specs.declared.tree.CoreNode.{CoreNode}
use Rattle.hept_ast.specs.declared.tree.CoreEquation.{CoreEquation}
use Rattle.core_rules.proofs.Ends.{same_self}
use Rattle.core_rules.specs.Cores.{CoreReads, HasNoCoreCycle, equation_reads}
use Rattle.core_rules.specs.WellFormed.{IsWellFormed}
use Rattle.core_naming.specs.Names.{IsNaming, new_equation, with_right}
use Rattle.core_naming.specs.NamingLaws.{NamingMakesNoCycle}
use Rattle.core_naming.specs.Ties.{clock_names}
use Rattle.naming_rules.proofs.Shapes.{Each}
use Rattle.naming_rules.proofs.Lists.{each_of, each_from, each_to, each_left, each_right, each_both}
use Rattle.naming_rules.proofs.Names.{flat_append, in_cases, in_left, in_right, never, or_cases, out_both, out_left, out_right}
use Rattle.naming_rules.proofs.Mentions.{equation_name_new, mentions_nothing_new, named_clock_is_new, named_mentions_nothing_new, node_name_new, old_clock_is_new, old_mentions_nothing_new, old_resets_are_new, the_node}
use Rattle.naming_rules.proofs.ReadsMentioned.{unread}
use Rattle.naming_rules.proofs.ReadsMoved.{Moves, Passes, reads_moved}
use Rattle.naming_rules.proofs.Cycles.{PutBetween, no_cycle_between}

-- ---- reads by equations

-- what an equation reads for a variable
abbrev read_for : Name → CoreEquation → List Name
read_for y e = if is_in y e.left then equation_reads e else []

abbrev Reads : List CoreEquation → Name → Name → Type 0
Reads es y z = is_in z (flat_map (read_for y) es) ≡ true

for_left : (b : Bool) (z : Name) (rs : List Name) → is_in z (if b then rs else []) ≡ true → (b ≡ true) × (is_in z rs ≡ true)
for_left true z rs h = (refl, h)
for_left false z rs h = never refl h

left_for : (b : Bool) (z : Name) (rs : List Name) → b ≡ true → is_in z rs ≡ true → is_in z (if b then rs else []) ≡ true
left_for true z rs e h = h
left_for false z rs e h = never refl e

-- a variable on no left side, and one that is read nowhere
module _ (x : Name) where
  abbrev Beside : CoreEquation → Type 0
  Beside e = (is_in x e.left ≡ false) × (is_in x (equation_reads e) ≡ false)

  no_reader : (y : Name) (es : List CoreEquation) → Each Beside es → Reads es y x → ⊥
  no_reader y [] h r = never refl r
  no_reader y (e ∷ es) h r =
      ⊎_elim (λ (i : is_in x (read_for y e) ≡ true). never h.0.1 (for_left (is_in y e.left) x (equation_reads e) i).1) (λ (i : Reads es y x). no_reader y es h.1 i)
      (in_cases x (read_for y e) (flat_map (read_for y) es) r)

  no_reads : (z : Name) (es : List CoreEquation) → Each Beside es → Reads es x z → ⊥
  no_reads z [] h r = never refl r
  no_reads z (e ∷ es) h r =
      ⊎_elim (λ (i : is_in z (read_for x e) ≡ true). never h.0.0 (for_left (is_in x e.left) z (equation_reads e) i).0) (λ (i : Reads es x z). no_reads z es h.1 i)
      (in_cases z (read_for x e) (flat_map (read_for x) es) r)

-- ---- the node with the new variable

module _ (core other : Core) (well : IsWellFormed core) (n : IsNaming core other) where
  abbrev x : Name
  x = n.x

  abbrev old : CoreEquation
  old = n.step.equation

  abbrev changed : CoreEquation
  changed = with_right old n.step.right

  abbrev new : CoreEquation
  new = new_equation n.x n.a n.d old.resets

  abbrev front : List CoreEquation
  front = n.step.front

  abbrev back : List CoreEquation
  back = n.step.back

  beside : (e : CoreEquation) → Contains n.node.equations e → Beside n.x e
  beside e c =
      let is_new = equation_name_new n.x n.node (node_name_new core n.x n.new.fresh n.node (the_node core other well n)) e c in
      let first = out_left n.x (e.left ++ clock_names e.clock.steps) e.resets is_new in
      let read = unread n.x e.right (mentions_nothing_new core n.x well n.new.fresh n.node (the_node core other well n) e c) in (
        out_left n.x e.left (clock_names e.clock.steps) first,
        out_both n.x (reads e.right.form ++ clock_names e.clock.steps) e.resets (out_both n.x (reads e.right.form) (clock_names e.clock.steps) read (out_right n.x e.left (clock_names e.clock.steps) first))
            (out_right n.x (e.left ++ clock_names e.clock.steps) e.resets is_new),
      )

  all_beside : Each (Beside n.x) (front ++ old ∷ back)
  all_beside = subst (λ (l : List CoreEquation). Each (Beside n.x) l) n.step.equations (each_of (Beside n.x) n.node.equations beside)

  front_beside : Each (Beside n.x) front
  front_beside = each_left (Beside n.x) front (old ∷ back) all_beside

  old_beside : Beside n.x old
  old_beside = (each_right (Beside n.x) front (old ∷ back) all_beside).0

  back_beside : Each (Beside n.x) back
  back_beside = (each_right (Beside n.x) front (old ∷ back) all_beside).1

  moved_reads : Moves n.x n.a n.d (clock_names old.clock.steps) (reads old.right.form) (reads n.step.right.form)
  moved_reads = reads_moved n.x n.a n.d old.clock.steps old.right n.step.right n.step.named

  -- ---- which equation reads

  Before : Name → Name → Type 0
  Before y z = Reads (front ++ old ∷ back) y z

  After : Name → Name → Type 0
  After y z = Reads (front ++ changed ∷ back ++ new ∷ []) y z

  by_front : (y z : Name) → Reads front y z → Before y z
  unfolding Before
  by_front y z h = ap (is_in z) (flat_append (read_for y) front (old ∷ back)) ∙ in_left z (flat_map (read_for y) front) (flat_map (read_for y) (old ∷ back)) h

  by_back : (y z : Name) → Reads back y z → Before y z
  unfolding Before
  by_back y z h =
      ap (is_in z) (flat_append (read_for y) front (old ∷ back))
      ∙ in_right z (flat_map (read_for y) front) (flat_map (read_for y) (old ∷ back)) (in_right z (read_for y old) (flat_map (read_for y) back) h)

  by_old : (y z : Name) → is_in y old.left ≡ true → is_in z (equation_reads old) ≡ true → Before y z
  unfolding Before
  by_old y z i h =
      ap (is_in z) (flat_append (read_for y) front (old ∷ back))
      ∙ in_right z (flat_map (read_for y) front) (flat_map (read_for y) (old ∷ back)) (in_left z (read_for y old) (flat_map (read_for y) back) (left_for (is_in y old.left) z (equation_reads old) i h))

  by_which : {P : Type 0} (y z : Name) → After y z → (Reads front y z → P) → (is_in y old.left ≡ true → is_in z (equation_reads changed) ≡ true → P) → (Reads back y z → P) →
      (is_in y (n.x ∷ []) ≡ true → is_in z (equation_reads new) ≡ true → P) → P
  unfolding After
  by_which {P} y z r f c b w =
      ⊎_elim
      (λ (i : Reads (front ++ changed ∷ back) y z).
      ⊎_elim (λ (j : Reads front y z). f j)
      (λ (j : Reads (changed ∷ back) y z).
      ⊎_elim (λ (k : is_in z (read_for y changed) ≡ true). let q = for_left (is_in y old.left) z (equation_reads changed) k in c q.0 q.1) (λ (k : Reads back y z). b k)
      (in_cases z (read_for y changed) (flat_map (read_for y) back) j))
      (in_cases z (flat_map (read_for y) front) (flat_map (read_for y) (changed ∷ back)) (sym (ap (is_in z) (flat_append (read_for y) front (changed ∷ back))) ∙ i)))
      (λ (i : Reads (new ∷ []) y z).
      ⊎_elim (λ (k : is_in z (read_for y new) ≡ true). let q = for_left (is_in y (n.x ∷ [])) z (equation_reads new) k in w q.0 q.1) (λ (k : is_in z [] ≡ true). never refl k)
      (in_cases z (read_for y new) [] i))
      (in_cases z (flat_map (read_for y) (front ++ changed ∷ back)) (flat_map (read_for y) (new ∷ []))
      (sym (ap (is_in z) (flat_append (read_for y) (front ++ changed ∷ back) (new ∷ []))) ∙ r))

  is_x : {P : Type 0} (y : Name) → same y n.x ≡ false → is_in y (n.x ∷ []) ≡ true → P
  is_x y f h = ⊎_elim (λ (i : same y n.x ≡ true). never f i) (λ (i : false ≡ true). never refl i) (or_cases (same y n.x) false h)

  -- what the changed equation reads, but for the new variable, was read before
  read_before : (z : Name) → same z n.x ≡ false → is_in z (equation_reads changed) ≡ true → is_in z (equation_reads old) ≡ true
  read_before z f h =
      ⊎_elim
      (λ (i : is_in z (reads n.step.right.form ++ clock_names old.clock.steps) ≡ true).
      in_left z (reads old.right.form ++ clock_names old.clock.steps) old.resets
      (⊎_elim
      (λ (j : is_in z (reads n.step.right.form) ≡ true).
      in_left z (reads old.right.form) (clock_names old.clock.steps)
      (⊎_elim (λ (e : z ≡ n.x). never f (ap (λ (v : Name). same v n.x) e ∙ same_self n.x)) (λ (k : is_in z (reads old.right.form) ≡ true). k) (moved_reads.old z j)))
      (λ (j : is_in z (clock_names old.clock.steps) ≡ true). in_right z (reads old.right.form) (clock_names old.clock.steps) j)
      (in_cases z (reads n.step.right.form) (clock_names old.clock.steps) i)))
      (λ (i : is_in z old.resets ≡ true). in_right z (reads old.right.form ++ clock_names old.clock.steps) old.resets i)
      (in_cases z (reads n.step.right.form ++ clock_names old.clock.steps) old.resets h)

  -- where it reads the new variable, what the new equation reads was read before
  passes : is_in n.x (equation_reads changed) ≡ true → Passes n.x n.a n.d (clock_names old.clock.steps) (reads old.right.form)
  passes h =
      ⊎_elim
      (λ (i : is_in n.x (reads n.step.right.form ++ clock_names old.clock.steps) ≡ true).
      ⊎_elim
      (λ (j : is_in n.x (reads n.step.right.form) ≡ true).
      ⊎_elim (λ (k : is_in n.x (reads old.right.form) ≡ true). never (unread n.x old.right (old_mentions_nothing_new core other well n)) k) (λ p. p) (moved_reads.through j))
      (λ (j : is_in n.x (clock_names old.clock.steps) ≡ true). never (old_clock_is_new core other well n) j)
      (in_cases n.x (reads n.step.right.form) (clock_names old.clock.steps) i))
      (λ (i : is_in n.x old.resets ≡ true). never (old_resets_are_new core other well n) i)
      (in_cases n.x (reads n.step.right.form ++ clock_names old.clock.steps) old.resets h)

  new_read_before : (z : Name) → is_in n.x (equation_reads changed) ≡ true → is_in z (equation_reads new) ≡ true → is_in z (equation_reads old) ≡ true
  new_read_before z r h =
      let p = passes r in
      ⊎_elim
      (λ (i : is_in z (reads n.a.form ++ clock_names n.d) ≡ true).
      in_left z (reads old.right.form ++ clock_names old.clock.steps) old.resets
      (⊎_elim (λ (j : is_in z (reads n.a.form) ≡ true). in_left z (reads old.right.form) (clock_names old.clock.steps) (p.own z j))
      (λ (j : is_in z (clock_names n.d) ≡ true).
      ⊎_elim (λ (k : is_in z (clock_names old.clock.steps) ≡ true). in_right z (reads old.right.form) (clock_names old.clock.steps) k)
      (λ (k : is_in z (reads old.right.form) ≡ true). in_left z (reads old.right.form) (clock_names old.clock.steps) k) (p.clock z j))
      (in_cases z (reads n.a.form) (clock_names n.d) i)))
      (λ (i : is_in z old.resets ≡ true). in_right z (reads old.right.form ++ clock_names old.clock.steps) old.resets i)
      (in_cases z (reads n.a.form ++ clock_names n.d) old.resets h)

  new_beside : is_in n.x (equation_reads new) ≡ false
  new_beside =
      out_both n.x (reads n.a.form ++ clock_names n.d) old.resets (out_both n.x (reads n.a.form) (clock_names n.d) (unread n.x n.a (named_mentions_nothing_new core other well n)) (named_clock_is_new core other well n))
      (old_resets_are_new core other well n)

  put_between : PutBetween Before After n.x
  put_between = record {
    kept = λ y z f g r. by_which y z r (λ h. by_front y z h) (λ i h. by_old y z i (read_before z g h)) (λ h. by_back y z h) (λ i h. is_x y f i);
    through = λ y z f g r s.
        by_which y n.x r (λ h. absurd (no_reader n.x y front front_beside h))
        (λ i h. by_which n.x z s (λ k. absurd (no_reads n.x z front front_beside k)) (λ k l. never old_beside.0 k) (λ k. absurd (no_reads n.x z back back_beside k)) (λ k l. by_old y z i (new_read_before z h l)))
        (λ h. absurd (no_reader n.x y back back_beside h)) (λ i h. is_x y f i);
    not_itself = λ r.
        by_which n.x n.x r (λ h. no_reads n.x n.x front front_beside h) (λ i h. never old_beside.0 i) (λ h. no_reads n.x n.x back back_beside h) (λ i h. never new_beside h);
  }

  moved_no_cycle : HasNoCycle (CoreReads n.node) → HasNoCycle (CoreReads n.moved)
  unfolding Before After
  moved_no_cycle h =
      subst (λ (es : List CoreEquation). HasNoCycle (Reads es)) (sym n.step.others)
      (no_cycle_between Before After n.x put_between (subst (λ (es : List CoreEquation). HasNoCycle (Reads es)) n.step.equations h))

  no_cycle : HasNoCoreCycle core → HasNoCoreCycle other
  no_cycle h =
      let P : CoreNode → Type 0 = λ m. HasNoCycle (CoreReads m) in
      let all : Each P (n.front ++ n.node ∷ n.back) = subst (λ (l : List CoreNode). Each P l) n.nodes (each_from P core.nodes h) in
      let rest = each_right P n.front (n.node ∷ n.back) all in
      subst (λ (l : List CoreNode). All P l) (sym n.others) (each_to P (n.front ++ n.moved ∷ n.back) (each_both P n.front (n.moved ∷ n.back) (each_left P n.front (n.node ∷ n.back) all) (moved_no_cycle rest.0, rest.1)))

pub naming_makes_no_cycle : NamingMakesNoCycle
naming_makes_no_cycle core other well h n = no_cycle core other well n h
