-- A node's variables have some clocks exactly where each of its parts stands on them, said without numbers.
use Rattle.std.proofs.Common.{◌≡◌, ℕ, ◌+◌, suc, Bool, true, false, List, [], ◌∷◌, ◌++◌, length, get_or, refl, sym, ap, subst, ◌∙◌, arith, append-nil}
use Rattle.std.specs.Prelude.{Option, Some, None, is_some, if◌then◌else◌}
use Rattle.std.specs.List.{flat_map}
use Rattle.std.specs.Option.{option_to_list}
use Rattle.hept_ast.specs.Texts.{Name, is_in}
use Rattle.hept_ast.specs.Scopes.{Clock}
use Rattle.hept_ast.specs.Parts.{Part, Block as Block_part, Plain, Switch as Switch_part, Reset as Reset_part, Automaton as Automaton_part, Transition, Placed, parts, seen_at, declaration, expressions_of, inside, below}
use Rattle.hept_ast.specs.Clocks.{Term, Base, Of, Condition, Assignment, clock, Meets, equal, term_of, expression, defined, declared_on_base, on_base, part_conditions, own_names, numbered, AreClocks}
use Rattle.hept_ast.specs.declared.tree.Decl.{Decl}
use Rattle.hept_ast.specs.declared.tree.Expr.{Expr}
use Rattle.hept_ast.specs.declared.tree.Node.{Node}
use Rattle.erased_rules.proofs.ByForms.{Each}
use Rattle.erased_rules.proofs.Standing.{Reading, Stands, under, meets_left, meets_right, meets_both, Given, given_left, given_right}
use Rattle.erased_rules.proofs.Numbering.{under_length, stands_if, if_stands}

-- ---- conditions on declared variables ask no expression

abbrev pub fixed : (Name → Clock) → Assignment
fixed c = record { variable = c; expression = λ n. [] }

-- those of variables with a last value, and of inputs and outputs
abbrev pub inits : List Decl → List Condition
inits ds = flat_map (λ d. if is_some d.init then equal d.place.0 (Of d.name) Base else []) ds

abbrev pub interface : List Decl → List Condition
interface ds = flat_map (λ d. equal d.place.0 (Of d.name) Base) ds

module _ (c : Name → Clock) (e e' : ℕ → Clock) where
  abbrev one : Assignment
  one = record { variable = c; expression = e }

  abbrev other : Assignment
  other = record { variable = c; expression = e' }

  init_free : (b : Bool) (p : ℕ) (x : Name) → Meets one (if b then equal p (Of x) Base else []) → Meets other (if b then equal p (Of x) Base else [])
  init_free true p x h = h
  init_free false p x h = h

  pub inits_free : (ds : List Decl) → Meets one (inits ds) → Meets other (inits ds)
  inits_free [] h = tt
  inits_free (d ∷ ds) h =
      let cs = (if is_some d.init then equal d.place.0 (Of d.name) Base else []) in
      meets_both other cs (inits ds) (init_free (is_some d.init) d.place.0 d.name (meets_left one cs (inits ds) h)) (inits_free ds (meets_right one cs (inits ds) h))

  pub interface_free : (ds : List Decl) → Meets one (interface ds) → Meets other (interface ds)
  interface_free [] h = tt
  interface_free (d ∷ ds) h = (h.0, interface_free ds h.1)

  found_free : (x : Name) (d : Option Decl) → Meets one (flat_map (λ d. equal d.place.0 (Of x) Base) (option_to_list d)) → Meets other (flat_map (λ d. equal d.place.0 (Of x) Base) (option_to_list d))
  found_free x None h = h
  found_free x (Some d) h = h

  pub based_free : (own : List Name) (seen : List Decl) (xs : List Name) → Meets one (declared_on_base own seen xs) → Meets other (declared_on_base own seen xs)
  based_free own seen [] h = tt
  based_free own seen (x ∷ xs) h =
      let cs = flat_map (λ (d : Decl). equal d.place.0 (Of x) Base) (option_to_list (declaration seen x)) in
      let ds = declared_on_base own seen xs in
      meets_both other cs ds (found_free x (declaration seen x) (meets_left one cs ds h)) (based_free own seen xs (meets_right one cs ds h))

-- ---- parts

-- a part stands on some clocks
abbrev pub Part_stands : List Name → (Name → Clock) → List Decl → Part → Type 0
Part_stands own c seen (Block_part ds equations) = Meets (fixed c) (inits ds)
Part_stands own c seen (Plain p left right) = (k : Clock) × Each (λ x. Reading (is_in x own) (c x) k) left × Stands own c k right.form
Part_stands own c seen (Switch_part p on cases) = Meets (fixed c) (declared_on_base own seen (flat_map (λ c. c.sets) cases)) × Stands own c [] on.form
Part_stands own c seen (Reset_part p every sets) = Stands own c [] every.form
Part_stands own c seen (Automaton_part p states) = Meets (fixed c) (declared_on_base own seen (flat_map (λ c. c.sets) states))
Part_stands own c seen (Transition strong states e) = Stands own c [] e.condition.form

-- the clocks of its expressions
abbrev part_clocks : (own : List Name) (c : Name → Clock) (seen : List Decl) (q : Part) → Part_stands own c seen q → List Clock
part_clocks own c seen (Block_part ds equations) h = []
part_clocks own c seen (Plain p left right) h = h.0 ∷ under own c h.0 right.form
part_clocks own c seen (Switch_part p on cases) h = [] ∷ under own c [] on.form
part_clocks own c seen (Reset_part p every sets) h = [] ∷ under own c [] every.form
part_clocks own c seen (Automaton_part p states) h = []
part_clocks own c seen (Transition strong states e) h = [] ∷ under own c [] e.condition.form

module _ (own : List Name) (c : Name → Clock) where
  expr_length : (k : Clock) (e : Expr) → length (k ∷ under own c k e.form) ≡ length (inside e ++ [])
  expr_length k e = ap suc (under_length own c k e.form ∙ sym (ap length (append-nil (below e.form))))

  part_length : (seen : List Decl) (q : Part) (h : Part_stands own c seen q) → length (part_clocks own c seen q h) ≡ length (flat_map inside (expressions_of q))
  part_length seen (Block_part ds equations) h = refl
  part_length seen (Plain p left right) h = expr_length h.0 right
  part_length seen (Switch_part p on cases) h = expr_length [] on
  part_length seen (Reset_part p every sets) h = expr_length [] every
  part_length seen (Automaton_part p states) h = refl
  part_length seen (Transition strong states e) h = expr_length [] e.condition

module _ (own : List Name) (c : Name → Clock) (e : ℕ → Clock) where
  abbrev a : Assignment
  a = record { variable = c; expression = e }

  name_if : (b : Bool) (p : ℕ) (t : Term) (x : Name) → Meets a (if b then equal p (Of x) t else equal p (Of x) Base ++ equal p t Base) → Reading b (c x) (clock a t)
  name_if true p t x h = h.0
  name_if false p t x h = (h.0, h.1.0)

  if_name : (b : Bool) (p : ℕ) (t : Term) (x : Name) → Reading b (c x) (clock a t) → Meets a (if b then equal p (Of x) t else equal p (Of x) Base ++ equal p t Base)
  if_name true p t x h = (h, tt)
  if_name false p t x h = (h.0, (h.1, tt))

  names_if : (p : ℕ) (t : Term) (left : List Name) → Meets a (flat_map (defined own p t) left) → Each (λ x. Reading (is_in x own) (c x) (clock a t)) left
  names_if p t [] h = tt
  names_if p t (x ∷ xs) h =
      (name_if (is_in x own) p t x (meets_left a (defined own p t x) (flat_map (defined own p t) xs) h), names_if p t xs (meets_right a (defined own p t x) (flat_map (defined own p t) xs) h))

  if_names : (p : ℕ) (t : Term) (left : List Name) → Each (λ x. Reading (is_in x own) (c x) (clock a t)) left → Meets a (flat_map (defined own p t) left)
  if_names p t [] h = tt
  if_names p t (x ∷ xs) h = meets_both a (defined own p t x) (flat_map (defined own p t) xs) (if_name (is_in x own) p t x h.0) (if_names p t xs h.1)

  base_if : (n : ℕ) (x : Expr) → Meets a (on_base own n x) → Stands own c [] x.form
  base_if n x h = stands_if own c e n x.place.0 [] x.form h.0 h.1

  if_base : (n : ℕ) (x : Expr) → Given e n ([] ∷ under own c [] x.form) → Stands own c [] x.form → Meets a (on_base own n x)
  if_base n x g h = if_stands own c e n x.place.0 [] x.form g.0 g.1 h

  pub part_if : (seen : List Decl) (n : ℕ) (q : Part) → Meets a (part_conditions own seen n q) → Part_stands own c seen q
  part_if seen n (Block_part ds equations) h = inits_free c e (λ n. []) ds h
  part_if seen n (Plain p left right) h =
      let t = term_of own n right.form in
      let cs = flat_map (defined own p t) left in
      let ds = expression own n right.place.0 right.form in
      (clock a t, names_if p t left (meets_left a cs ds h), stands_if own c e n right.place.0 (clock a t) right.form refl (meets_right a cs ds h))
  part_if seen n (Switch_part p on cases) h =
      let cs = declared_on_base own seen (flat_map (λ c. c.sets) cases) in
      (based_free c e (λ n. []) own seen (flat_map (λ c. c.sets) cases) (meets_left a cs (on_base own n on) h), base_if n on (meets_right a cs (on_base own n on) h))
  part_if seen n (Reset_part p every sets) h = base_if n every h
  part_if seen n (Automaton_part p states) h = based_free c e (λ n. []) own seen (flat_map (λ c. c.sets) states) h
  part_if seen n (Transition strong states x) h = base_if n x.condition h

  pub if_part : (seen : List Decl) (n : ℕ) (q : Part) (h : Part_stands own c seen q) → Given e n (part_clocks own c seen q h) → Meets a (part_conditions own seen n q)
  if_part seen n (Block_part ds equations) h g = inits_free c (λ n. []) e ds h
  if_part seen n (Plain p left right) h g =
      let t = term_of own n right.form in
      let i = if_stands own c e n right.place.0 h.0 right.form g.0 g.1 h.2 in
      meets_both a (flat_map (defined own p t) left) (expression own n right.place.0 right.form)
      (if_names p t left (subst (λ (k : Clock). Each (λ x. Reading (is_in x own) (c x) k) left) (sym i.0) h.1)) i.1
  if_part seen n (Switch_part p on cases) h g =
      meets_both a (declared_on_base own seen (flat_map (λ c. c.sets) cases)) (on_base own n on) (based_free c (λ n. []) e own seen (flat_map (λ c. c.sets) cases) h.0) (if_base n on g h.1)
  if_part seen n (Reset_part p every sets) h g = if_base n every g h
  if_part seen n (Automaton_part p states) h g = based_free c (λ n. []) e own seen (flat_map (λ c. c.sets) states) h
  if_part seen n (Transition strong states x) h g = if_base n x.condition g h

-- ---- nodes

abbrev pub Placed_stands : Node → (Name → Clock) → Placed → Type 0
Placed_stands node c q = Part_stands (own_names node q.site) c (seen_at node q.site) q.part

abbrev pub Node_stands : Node → (Name → Clock) → Type 0
Node_stands node c = Meets (fixed c) (interface (node.inputs ++ node.outputs)) × Each (Placed_stands node c) (parts node)

module _ (node : Node) (c : Name → Clock) where
  abbrev all_clocks : (qs : List Placed) → Each (Placed_stands node c) qs → List Clock
  all_clocks [] hs = []
  all_clocks (q ∷ qs) hs = part_clocks (own_names node q.site) c (seen_at node q.site) q.part hs.0 ++ all_clocks qs hs.1

  parts_if : (e : ℕ → Clock) (n : ℕ) (qs : List Placed) → Meets (record { variable = c; expression = e }) (numbered node n qs) → Each (Placed_stands node c) qs
  parts_if e n [] h = tt
  parts_if e n (q ∷ qs) h =
      let w : Assignment = record { variable = c; expression = e } in
      let cs = part_conditions (own_names node q.site) (seen_at node q.site) n q.part in
      let ds = numbered node (n + length (flat_map inside (expressions_of q.part))) qs in
      (part_if (own_names node q.site) c e (seen_at node q.site) n q.part (meets_left w cs ds h), parts_if e (n + length (flat_map inside (expressions_of q.part))) qs (meets_right w cs ds h))

  if_parts : (e : ℕ → Clock) (n : ℕ) (qs : List Placed) (hs : Each (Placed_stands node c) qs) → Given e n (all_clocks qs hs) → Meets (record { variable = c; expression = e }) (numbered node n qs)
  if_parts e n [] hs g = tt
  if_parts e n (q ∷ qs) hs g =
      let own = own_names node q.site in
      let seen = seen_at node q.site in
      let m = n + length (flat_map inside (expressions_of q.part)) in
      let ks = part_clocks own c seen q.part hs.0 in
      let l : n + length ks ≡ m = ap (λ (j : ℕ). n + j) (part_length own c seen q.part hs.0) in
      meets_both (record { variable = c; expression = e }) (part_conditions own seen n q.part) (numbered node m qs)
      (if_part own c e seen n q.part hs.0 (given_left e n ks (all_clocks qs hs.1) g)) (if_parts e m qs hs.1 (given_right e n m ks (all_clocks qs hs.1) l g))

given_from : (e : ℕ → Clock) (n : ℕ) (ks : List Clock) → ((i : ℕ) → e (n + i) ≡ get_or ks i []) → Given e n ks
given_from e n [] h = tt
given_from e n (k ∷ ks) h = (
  (let z : n ≡ n + 0 = omega arith in ap e z ∙ h 0),
  given_from e (n + 1) ks (λ i. let z : n + 1 + i ≡ n + suc i = omega arith in ap e z ∙ h (suc i)),
)

pub node_if : (node : Node) (c : Name → Clock) → AreClocks node c → Node_stands node c
node_if node c h =
    let w : Assignment = record { variable = c; expression = h.0 } in
    let cs = interface (node.inputs ++ node.outputs) in
    let ds = numbered node 0 (parts node) in
    (interface_free c h.0 (λ n. []) (node.inputs ++ node.outputs) (meets_left w cs ds h.1), parts_if node c h.0 0 (parts node) (meets_right w cs ds h.1))

pub if_node : (node : Node) (c : Name → Clock) → Node_stands node c → AreClocks node c
if_node node c h =
    let ks = all_clocks node c (parts node) h.1 in
    let e : ℕ → Clock = λ i. get_or ks i [] in (
      e,
      meets_both (record { variable = c; expression = e }) (interface (node.inputs ++ node.outputs)) (numbered node 0 (parts node)) (interface_free c (λ n. []) e (node.inputs ++ node.outputs) h.0)
          (if_parts node c e 0 (parts node) h.1 (given_from e 0 ks (λ i. let z : 0 + i ≡ i = omega arith in ap e z))),
    )
