-- The demands of a node, by its parts, and those of all nodes.
use Rattle.std.proofs.Common.{◌≡◌, ℕ, ◌+◌, ◌<◌, ◌≤◌, min, List, [], ◌∷◌, ◌++◌, length, map, refl, sym, ◌∙◌, ap, subst, arith, append-nil, append_assoc, Some, None, Bool, true, false, if◌then◌else◌, ◌⊎◌, inl, inr, Contains, slice_index_or}
use Rattle.std.specs.Prelude.{Option, slice_get}
use Rattle.std.specs.List.{flat_map, list_any}
use Rattle.std.proofs.Math.Path.{fun_ext}
use Rattle.std.proofs.lemmas.Grind.{flat_map-append}
use Rattle.std.proofs.lemmas.Option.{slice_get-get_or, slice_get_within, none-some}
use Rattle.std.proofs.lemmas.List.Elements.{Contains-append_right, Contains-append_cases}
use Rattle.hept_ast.specs.Texts.{Name, is_in}
use Rattle.hept_ast.specs.Initial.{Grades, grade, AreLeastGrades, right_sides, right_sides_in, unmet_in, unmet_part, IsInitialised, IsMayBeNil}
use Rattle.hept_ast.specs.Parts.{Part, Block, Plain, Switch, Reset, Automaton, Transition, Placed, parts, seen_at, locals_around}
use Rattle.hept_ast.specs.SeenParts.{seen_in, seen_parts}
use Rattle.hept_ast.proofs.SeenParts.{seen_node}
use Rattle.hept_ast.specs.declared.tree.Program.{Program}
use Rattle.hept_ast.specs.declared.tree.Expr.{Expr}
use Rattle.hept_ast.specs.declared.tree.Node.{Node}
use Rattle.causality.specs.Flows.{DataFlow, flow_in, flow_by, node_flows}
use Rattle.causality.specs.Rounds.{rights, AreNil}
use Rattle.causality.specs.Lowest.{lower, lowest}
use Rattle.causality.specs.Demands.{unmet_last, unmet_seen, unmet_in_equation, unmet_parts}
use Rattle.causality.specs.Initialised.{IsNoted, IsUnmetAt, AreNoted}
use Rattle.causality.proofs.FlowsOf.{flows_of_parts}
use Rattle.causality.proofs.LowestOf.{flat_flat, lowest-nil, lowest-cons}
use Rattle.causality.proofs.Ranks.{same_or_not}
use Rattle.causality.proofs.Rounds.{are_grades}

-- ---- the least grades of a node

right_of : (x : Name) (names : List Name) (q : Part) → flat_map (λ f. if is_in x f.left then f.right ∷ [] else []) (flow_by names q) ≡ right_sides_in x q
right_of x names (Block ds es) = refl
right_of x names (Plain p left right) = append-nil _
right_of x names (Switch p on bs) = refl
right_of x names (Reset p every sets) = refl
right_of x names (Automaton p qs) = refl
right_of x names (Transition s qs e) = refl

rights_each : (x : Name) (qs : List Placed) → rights (flat_map flow_in qs) x ≡ flat_map (λ q. right_sides_in x q.part) qs
rights_each x [] = refl
rights_each x (q ∷ qs) =
    flat_map-append (λ (f : DataFlow). if is_in x f.left then f.right ∷ [] else []) (flow_in q) (flat_map flow_in qs)
    ∙ (ap (λ t. t ++ rights (flat_map flow_in qs) x) (right_of x _ q.part) ∙ ap (λ t. right_sides_in x q.part ++ t) (rights_each x qs))

rights_are : (node : Node) (x : Name) → rights (node_flows node) x ≡ right_sides node x
rights_are node x = ap (λ t. rights t x) (sym (flows_of_parts node)) ∙ rights_each x (parts node)

pub nil_least : (node : Node) (nil : List Name) → AreNil (node_flows node) nil → AreLeastGrades node (λ x. is_in x nil)
nil_least node nil a = record {
  meets = λ x. are_grades (node_flows node) nil a x ∙ ap (list_any (λ (e : Expr). grade (λ y. is_in y nil) e.form)) (rights_are node x);
  least = λ h meets x e. a.below h (λ y. meets y ∙ ap (list_any (λ (e : Expr). grade h e.form)) (sym (rights_are node y))) x e;
}

same_bool : (b c : Bool) → (b ≡ true → c ≡ true) → (c ≡ true → b ≡ true) → b ≡ c
same_bool true c f g = sym (f refl)
same_bool false true f g = g refl
same_bool false false f g = refl

pub least_same : (node : Node) (g h : Grades) → AreLeastGrades node g → AreLeastGrades node h → g ≡ h
least_same node g h a b = fun_ext (λ x. same_bool (g x) (h x) (a.least h b.meets x) (b.least g a.meets x))

-- ---- the parts of a node

seen_whole : (g : Grades) (node : Node) (q : Placed) → unmet_part g (seen_at node q.site) q.part ≡ unmet_seen g (node.block.locals ++ node.outputs ++ node.inputs) (seen_in q)
seen_whole g node q =
    ap (λ ds. unmet_part g ds q.part)
    (append_assoc (locals_around q.site ++ node.block.locals) node.outputs node.inputs
    ∙ (append_assoc (locals_around q.site) node.block.locals (node.outputs ++ node.inputs)
    ∙ ap (λ t. locals_around q.site ++ t) (sym (append_assoc node.block.locals node.outputs node.inputs))))

seen_each : (g : Grades) (node : Node) (qs : List Placed) → flat_map (λ q. unmet_part g (seen_at node q.site) q.part) qs ≡ flat_map (unmet_seen g (node.block.locals ++ node.outputs ++ node.inputs)) (map seen_in qs)
seen_each g node [] = refl
seen_each g node (q ∷ qs) =
    ap (λ t. t ++ flat_map (λ (q : Placed). unmet_part g (seen_at node q.site) q.part) qs) (seen_whole g node q)
    ∙ ap (λ t. unmet_seen g (node.block.locals ++ node.outputs ++ node.inputs) (seen_in q) ++ t) (seen_each g node qs)

pub parts_are : (g : Grades) (node : Node) → flat_map (λ q. unmet_part g (seen_at node q.site) q.part) (parts node) ≡ unmet_parts g node
parts_are g node =
    let own = node.block.locals ++ node.outputs ++ node.inputs in
    seen_each g node (parts node)
    ∙ (ap (flat_map (unmet_seen g own)) (seen_node node)
    ∙ (ap (λ t. flat_map (unmet_last g) (node.outputs ++ node.block.locals) ++ t) (flat_flat (unmet_seen g own) (seen_parts []) node.block.body)
    ∙ ap (λ t. t ++ flat_map (unmet_in_equation g own []) node.block.body) (flat_map-append (unmet_last g) node.outputs node.block.locals)))

-- ---- the least of some places

first_or_second : (q r p : ℕ) → min q r ≡ p → (q ≡ p) ⊎ (r ≡ p)
first_or_second q r p e = elim (same_or_not q p) [ inl k ↦ inl k | inr n ↦ inr (omega (arith, e, n)) ]

stands_by : (q : ℕ) (qs : List ℕ) (o : Option ℕ) → ((p : ℕ) → o ≡ Some p → Contains qs p) → (p : ℕ) → lower (Some q) o ≡ Some p → Contains (q ∷ qs) p
stands_by q qs None rest p e = (0, omega arith, cc)
stands_by q qs (Some r) rest p e = elim (first_or_second q r p cc) [
  | inl k ↦ (0, omega arith, k)
  | inr k ↦ Contains-append_right (q ∷ []) qs p (rest p (ap (λ n. Some n) k))
]

pub lowest_stands : (ps : List ℕ) (p : ℕ) → lowest ps ≡ Some p → Contains ps p
lowest_stands [] p e = absurd (none-some p (sym lowest-nil ∙ e))
lowest_stands (q ∷ qs) p e = stands_by q qs (lowest qs) (lowest_stands qs) p (sym (lowest-cons q qs) ∙ e)

pub lower_left : (a : ℕ) (q : Option ℕ) → (p : ℕ) × (lower (Some a) q ≡ Some p) × (p ≤ a)
lower_left a None = (a, refl, omega arith)
lower_left a (Some b) = (min a b, refl, omega arith)

pub lower_right : (q : Option ℕ) (b : ℕ) → (p : ℕ) × (lower q (Some b) ≡ Some p) × (p ≤ b)
lower_right None b = (b, refl, omega arith)
lower_right (Some a) b = (min a b, refl, omega arith)

pub lower_either : (o q : Option ℕ) (p : ℕ) → lower o q ≡ Some p → (o ≡ Some p) ⊎ (q ≡ Some p)
lower_either None q p e = inr e
lower_either (Some a) None p e = inl e
lower_either (Some a) (Some b) p e = elim (first_or_second a b p cc) [ inl k ↦ inl (ap (λ n. Some n) k) | inr k ↦ inr (ap (λ n. Some n) k) ]

first_of : (q x : ℕ) → Contains (q ∷ []) x → q ≡ x
first_of q x c = let z : c.0 ≡ 0 = omega (arith, c.1) in subst (λ i. slice_index_or (q ∷ []) i x ≡ x) z c.2

pub lowest_least : (ps : List ℕ) (x : ℕ) → Contains ps x → (p : ℕ) × (lowest ps ≡ Some p) × (p ≤ x)
lowest_least [] x c = absurd (omega (arith, c.1))
lowest_least (q ∷ qs) x c = elim (Contains-append_cases (q ∷ []) qs x c) [
  | inl k ↦
      let e : q ≡ x = first_of q x k in
      let l = lower_left q (lowest qs) in
      (l.0, lowest-cons q qs ∙ l.1, omega (arith, l.2, e))
  | inr k ↦
      let r = lowest_least qs x k in
      let l = lower_right (Some q) r.0 in
      (l.0, lowest-cons q qs ∙ (ap (lower (Some q)) r.1 ∙ l.1), omega (arith, l.2, r.2))
]

-- ---- one node after the other

pub none_noted : (nodes : List Node) → AreNoted nodes 0 None
none_noted nodes = record {
  graded = λ k node lt at. absurd (omega arith);
  stands = λ p e. absurd (none-some p e);
  least = λ k p lt u. absurd (omega arith);
}

same_node : (nodes : List Node) (k : ℕ) (a b : Node) → slice_get nodes k ≡ Some a → slice_get nodes k ≡ Some b → a ≡ b
same_node nodes k a b e h = cc

module _ (nodes : List Node) (n : ℕ) (old new : Option ℕ) (node : Node) (before : AreNoted nodes n old) (noted : IsNoted old new node) (at : slice_get nodes n ≡ Some node) where
  next_graded : (k : ℕ) (other : Node) → k < n + 1 → slice_get nodes k ≡ Some other → (g : Grades) × AreLeastGrades other g
  next_graded k other lt here = elim (same_or_not k n) [
    | inl e ↦
        let same : node ≡ other = same_node nodes n node other at (subst (λ i. slice_get nodes i ≡ Some other) e here) in
        (noted.grades, subst (λ (m : Node). AreLeastGrades m noted.grades) same noted.least)
    | inr ne ↦ before.graded k other (omega (arith, lt, ne)) here
  ]

  next_stands : (p : ℕ) → new ≡ Some p → (k : ℕ) × (k < n + 1) × IsUnmetAt nodes k p
  next_stands p e = elim (lower_either old (lowest (unmet_in noted.grades node)) p (sym noted.found ∙ e)) [
    | inl h ↦ let b = before.stands p h in (b.0, omega (arith, b.1), b.2)
    | inr h ↦ (n, omega arith, record { node = node; grades = noted.grades; at = at; least = noted.least; unmet = lowest_stands (unmet_in noted.grades node) p h })
  ]

  here_least : (k p : ℕ) → k ≡ n → IsUnmetAt nodes k p → Contains (unmet_in noted.grades node) p
  here_least k p e u =
      let same : u.node ≡ node = same_node nodes n u.node node (subst (λ i. slice_get nodes i ≡ Some u.node) e u.at) at in
      let least : AreLeastGrades node u.grades = subst (λ (m : Node). AreLeastGrades m u.grades) same u.least in
      let grades : u.grades ≡ noted.grades = least_same node u.grades noted.grades least noted.least in
      subst (λ (g : Grades). Contains (unmet_in g node) p) grades (subst (λ (m : Node). Contains (unmet_in u.grades m) p) same u.unmet)

  next_least : (k p : ℕ) → k < n + 1 → IsUnmetAt nodes k p → (q : ℕ) × (new ≡ Some q) × (q ≤ p)
  next_least k p lt u = elim (same_or_not k n) [
    | inl e ↦
        let c = lowest_least (unmet_in noted.grades node) p (here_least k p e u) in
        let l = lower_right old c.0 in
        (l.0, noted.found ∙ (ap (lower old) c.1 ∙ l.1), omega (arith, l.2, c.2))
    | inr ne ↦
        let b = before.least k p (omega (arith, lt, ne)) u in
        let l = lower_left b.0 (lowest (unmet_in noted.grades node)) in
        (l.0, noted.found ∙ (ap (λ t. lower t (lowest (unmet_in noted.grades node))) b.1 ∙ l.1), omega (arith, l.2, b.2))
  ]

  pub next_noted : AreNoted nodes (n + 1) new
  next_noted = record { graded = next_graded; stands = next_stands; least = next_least }

-- ---- all nodes

no_elements : (ps : List ℕ) → ((p : ℕ) → Contains ps p → ⊥) → ps ≡ []
no_elements [] none = refl
no_elements (p ∷ ps) none = absurd (none p (0, omega arith, refl))

pub all_initialised : (program : Program) → AreNoted program.nodes (length program.nodes) None → IsInitialised program
all_initialised program a k d lt =
    let node = slice_index_or program.nodes k d in
    let at : slice_get program.nodes k ≡ Some node = slice_get-get_or program.nodes k d lt in
    let g = a.graded k node lt at in
    (g.0, g.1, no_elements (unmet_in g.0 node) (λ p c. let l = a.least k p lt (record { node = node; grades = g.0; at = at; least = g.1; unmet = c }) in none-some l.0 l.1))

pub first_unmet : (program : Program) (p : ℕ) → AreNoted program.nodes (length program.nodes) (Some p) → IsMayBeNil program p
first_unmet program p a =
    let s = a.stands p refl in
    record {
      stands = (s.0, s.2.node, s.2.grades, s.2.at, s.2.least, s.2.unmet);
      least = λ q u.
          let l = a.least u.0 q (slice_get_within program.nodes u.0 u.1 u.3) (record { node = u.1; grades = u.2; at = u.3; least = u.4; unmet = u.5 }) in
          let e : p ≡ l.0 = cc in
          omega (arith, e, l.2);
    }

pub not_both : (program : Program) (p : ℕ) → IsInitialised program → IsMayBeNil program p → ⊥
not_both program p i m =
    let u = m.stands in
    let lt = slice_get_within program.nodes u.0 u.1 u.3 in
    let all = i u.0 u.1 lt in
    let same : slice_index_or program.nodes u.0 u.1 ≡ u.1 = same_node program.nodes u.0 _ _ (slice_get-get_or program.nodes u.0 u.1 lt) u.3 in
    let least : AreLeastGrades u.1 all.0 = subst (λ (m : Node). AreLeastGrades m all.0) same all.1 in
    let none : unmet_in u.2 u.1 ≡ [] = ap (λ (g : Grades). unmet_in g u.1) (least_same u.1 u.2 all.0 u.4 least) ∙ (ap (λ (m : Node). unmet_in all.0 m) (sym same) ∙ all.2) in
    let c = subst (λ (ps : List ℕ). Contains ps p) none u.5 in
    omega (arith, c.1)
