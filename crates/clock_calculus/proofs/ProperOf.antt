-- The conditions of a node name its own expressions and variables; a name that is not declared has to be on the base clock.
use Rattle.std.proofs.Common.{◌≡◌, ℕ, ◌+◌, ◌<◌, ◌≤◌, List, [], ◌∷◌, ◌++◌, length, length-append, map, refl, sym, ◌∙◌, ap, arith, Bool, true, false, if◌then◌else◌, ◌||◌, ◌⊎◌, inl, inr}
use Rattle.std.specs.List.{flat_map}
use Rattle.std.specs.Prelude.{is_some, ⊤}
use Rattle.std.specs.Option.{option_to_list}
use Rattle.std.proofs.lemmas.List.{map-append}
use Rattle.std.proofs.lemmas.List.Folds.{list_any-append}
use Rattle.hept_ast.specs.Texts.{Name, is_in, names, same}
use Rattle.hept_ast.specs.Parts.{Branch_of, Body_of, State_of, Surroundings, Part, Placed, Block, Plain, Switch, Reset, Automaton, Transition, inside, below, inside_row, inside_branches, declaration, declared_in, expressions_of, expressions, variables, seen_at, transitions, parts, parts_of, parts_of_all, parts_of_branches, parts_of_body, parts_of_states, strong_in, states_in}
use Rattle.hept_ast.specs.Clocks.{Term, Base, Of, Inner, On, Condition, equal, unless, read_clock, outer_read, term_of, reading, expression, operands, branches, on_base, defined, declared_on_base, part_conditions, own_names, numbered, conditions}
use Rattle.hept_ast.specs.declared.tree.Decl.{Decl}
use Rattle.hept_ast.specs.declared.tree.Expr.{Expr}
use Rattle.hept_ast.specs.declared.tree.Node.{Node}
use Rattle.hept_ast.specs.declared.tree.Escape.{Escape}
use Rattle.hept_ast.specs.declared.tree.Form.{Form, Const, Var, Last, Unary', Binary', If', Fby', Pre', Arrow', When', Merge', Call', AsyncCall', AsyncConst, Get', Row_of-Expr, end_of-Expr, more_of-Expr, Row_of-MergeBranch, end_of-MergeBranch, more_of-MergeBranch}
use Rattle.hept_ast.specs.declared.tree.Equation.{Equation, Define, Switch', Reset', Automaton', Row_of-Equation, end_of-Equation, more_of-Equation, Row_of-Branch, end_of-Branch, more_of-Branch, Row_of-Block, end_of-Block, more_of-Block, Row_of-State, end_of-State, more_of-State}
use Rattle.hept_ast.proofs.Unfolded.{static}
use Rattle.clock_calculus.specs.Proper.{HasNumber, IsDeclared, AreProper}

module _ (V : List Name) (N : ℕ) where
  both : (cs ds : List Condition) → AreProper V N cs → AreProper V N ds → AreProper V N (cs ++ ds)
  both [] ds p q = q
  both (c ∷ cs) ds p q = (p.0, both cs ds p.1 q)

  flat : {X : Type 0} (f : X → List Condition) → ((x : X) → AreProper V N (f x)) → (xs : List X) → AreProper V N (flat_map f xs)
  flat f h [] = tt
  flat f h (x ∷ xs) = both (f x) (flat_map f xs) (h x) (flat f h xs)

  one : (p : ℕ) (l r : Term) → HasNumber N l → HasNumber N r → IsDeclared V l → IsDeclared V r → AreProper V N (equal p l r)
  one p l r hl hr dl dr = (record { left = hl; right = hr; declared = inl (dl, dr) }, tt)

  outer : (p : ℕ) (x : Name) → AreProper V N (equal p (Of x) Base)
  outer p x = (record { left = tt; right = tt; declared = inr (x, refl, refl) }, tt)

-- names that are all among others
abbrev Among : List Name → List Name → Type 0
Among V xs = (x : Name) → is_in x xs ≡ true → is_in x V ≡ true

module _ (V : List Name) (N : ℕ) (own : List Name) (sub : Among V own) where
  read_tested : (x : Name) (t : Bool) → is_in x own ≡ t → IsDeclared V (if t then Of x else Base) × HasNumber N (if t then Of x else Base)
  read_tested x true e = (sub x e, tt)
  read_tested x false e = (tt, tt)

  read_declared : (x : Name) → IsDeclared V (read_clock own x) × HasNumber N (read_clock own x)
  read_declared x = read_tested x (is_in x own) refl

  unless_own : (t : Bool) (cs : List Condition) → AreProper V N cs → AreProper V N (unless t cs)
  unless_own true cs h = tt
  unless_own false cs h = h

  outer_proper : (p : ℕ) (x : Name) → AreProper V N (outer_read own p x)
  outer_proper p x = unless_own (is_in x own) (equal p (Of x) Base) (outer V N p x)

  reading_proper : (p n : ℕ) (x : Name) → n < N → AreProper V N (reading own p n x)
  reading_proper p n x h = unless_own (is_in x own) (equal p (Of x) Base ++ equal p (Inner n) Base) (both V N (equal p (Of x) Base) (equal p (Inner n) Base) (outer V N p x) (one V N p (Inner n) Base h tt tt tt))

  own_tested : (x : Name) (m : ℕ) (t : Bool) → m < N → is_in x own ≡ t → IsDeclared V (if t then Of x else Inner m) × HasNumber N (if t then Of x else Inner m)
  own_tested x m true h e = (sub x e, tt)
  own_tested x m false h e = (tt, h)

  term_proper : (m : ℕ) (f : Form) → m < N → IsDeclared V (term_of own m f) × HasNumber N (term_of own m f)
  term_proper m (Var x) h = own_tested x m (is_in x own) h refl
  term_proper m (Last x) h = own_tested x m (is_in x own) h refl
  term_proper m _ h = (tt, h)

  mutual
    unfolding static

    expression_proper : (n p : ℕ) (f : Form) → n + (1 + length (below f)) ≤ N → AreProper V N (expression own n p f)
    expression_proper n p (Const k) h = tt
    expression_proper n p (Var x) h = reading_proper p n x (omega arith)
    expression_proper n p (Last x) h = reading_proper p n x (omega arith)
    expression_proper n p (Unary' op s a) h = operands_proper p (Inner n) (n + 1) a tt (omega arith) (omega arith)
    expression_proper n p (Binary' op s a t b) h =
        both V N _ _ (operands_proper p (Inner n) (n + 1) a tt (omega arith) (omega (arith, length-append (inside_row a) (inside_row b))))
        (operands_proper p (Inner n) (n + 1 + length (inside_row a)) b tt (omega arith) (omega (arith, length-append (inside_row a) (inside_row b))))
    expression_proper n p (If' s c t a u b) h =
        let l = length-append (inside_row c ++ inside_row a) (inside_row b) in
        let m = length-append (inside_row c) (inside_row a) in
        both V N _ _ (both V N _ _ (operands_proper p (Inner n) (n + 1) c tt (omega arith) (omega arith)) (operands_proper p (Inner n) (n + 1 + length (inside_row c)) a tt (omega arith) (omega arith)))
        (operands_proper p (Inner n) (n + 1 + length (inside_row c) + length (inside_row a)) b tt (omega arith) (omega arith))
    expression_proper n p (Fby' s a t b) h =
        both V N _ _ (operands_proper p (Inner n) (n + 1) a tt (omega arith) (omega (arith, length-append (inside_row a) (inside_row b))))
        (operands_proper p (Inner n) (n + 1 + length (inside_row a)) b tt (omega arith) (omega (arith, length-append (inside_row a) (inside_row b))))
    expression_proper n p (Pre' s a) h = operands_proper p (Inner n) (n + 1) a tt (omega arith) (omega arith)
    expression_proper n p (Arrow' s a t b) h =
        both V N _ _ (operands_proper p (Inner n) (n + 1) a tt (omega arith) (omega (arith, length-append (inside_row a) (inside_row b))))
        (operands_proper p (Inner n) (n + 1 + length (inside_row a)) b tt (omega arith) (omega (arith, length-append (inside_row a) (inside_row b))))
    expression_proper n p (When' s a tag x) h =
        let d = read_declared x in
        both V N _ _ (both V N _ _ (operands_proper p (read_clock own x) (n + 1) a d.0 d.1 (omega arith)) (one V N p (Inner n) (On (read_clock own x) tag x) (omega arith) d.1 tt d.0)) (outer_proper p x)
    expression_proper n p (Merge' x s bs) h =
        let d = read_declared x in
        both V N (equal p (Inner n) (read_clock own x) ++ outer_read own p x) (branches own p x (n + 1) bs)
        (both V N (equal p (Inner n) (read_clock own x)) (outer_read own p x) (one V N p (Inner n) (read_clock own x) (omega arith) d.1 tt d.0) (outer_proper p x)) (branches_proper p x (n + 1) bs (omega arith))
    expression_proper n p (Call' f s args) h = operands_proper p (Inner n) (n + 1) args tt (omega arith) (omega arith)
    expression_proper n p (AsyncCall' q f s args) h = operands_proper p (Inner n) (n + 1) args tt (omega arith) (omega arith)
    expression_proper n p (AsyncConst k) h = tt
    expression_proper n p (Get' s a) h = operands_proper p (Inner n) (n + 1) a tt (omega arith) (omega arith)

    operands_proper : (p : ℕ) (on : Term) (m : ℕ) {k : _} (row : Row_of-Expr k) → IsDeclared V on → HasNumber N on → m + length (inside_row row) ≤ N → AreProper V N (operands own p on m row)
    operands_proper p on m end_of-Expr d o h = tt
    operands_proper p on m (more_of-Expr q form rest) d o h =
        let l = length-append (below form) (inside_row rest) in
        let t = term_proper m form (omega arith) in
        both V N (equal p (term_of own m form) on ++ expression own m q.0 form) (operands own p on (m + 1 + length (below form)) rest)
        (both V N (equal p (term_of own m form) on) (expression own m q.0 form) (one V N p (term_of own m form) on t.1 o t.0 d) (expression_proper m q.0 form (omega arith))) (operands_proper p on (m + 1 + length (below form)) rest d o (omega arith))

    branches_proper : (p : ℕ) (x : Name) (m : ℕ) {k : _} (row : Row_of-MergeBranch k) → m + length (inside_branches row) ≤ N → AreProper V N (branches own p x m row)
    branches_proper p x m end_of-MergeBranch h = tt
    branches_proper p x m (more_of-MergeBranch r tag q form rest) h =
        let l = length-append (below form) (inside_branches rest) in
        let t = term_proper m form (omega arith) in
        let d = read_declared x in
        both V N (equal p (term_of own m form) (On (read_clock own x) tag x) ++ expression own m q.0 form) (branches own p x (m + 1 + length (below form)) rest)
        (both V N (equal p (term_of own m form) (On (read_clock own x) tag x)) (expression own m q.0 form) (one V N p (term_of own m form) (On (read_clock own x) tag x) t.1 d.1 t.0 d.0) (expression_proper m q.0 form (omega arith))) (branches_proper p x (m + 1 + length (below form)) rest (omega arith))

  based_proper : (n : ℕ) (e : Expr) → n + length (inside e ++ []) ≤ N → AreProper V N (on_base own n e)
  based_proper n e h =
      let l = length-append (inside e) [] in
      let t = term_proper n e.form (omega arith) in
      both V N (equal e.place.0 (term_of own n e.form) Base) (expression own n e.place.0 e.form) (one V N e.place.0 (term_of own n e.form) Base t.1 tt t.0 tt) (expression_proper n e.place.0 e.form (omega arith))

  last_proper : (d : Decl) (t : Bool) → AreProper V N (if t then equal d.place.0 (Of d.name) Base else [])
  last_proper d true = outer V N d.place.0 d.name
  last_proper d false = tt

  set_proper : (x : Name) (seen : List Decl) → AreProper V N (flat_map (λ (d : Decl). equal d.place.0 (Of x) Base) (option_to_list (declaration seen x)))
  set_proper x seen = flat V N (λ (d : Decl). equal d.place.0 (Of x) Base) (λ d. outer V N d.place.0 x) (option_to_list (declaration seen x))

  defined_tested : (p : ℕ) (right : Term) (x : Name) (t : Bool) → is_in x own ≡ t → IsDeclared V right → HasNumber N right → AreProper V N (if t then equal p (Of x) right else equal p (Of x) Base ++ equal p right Base)
  defined_tested p right x true e d h = one V N p (Of x) right tt h (sub x e) d
  defined_tested p right x false e d h = both V N (equal p (Of x) Base) (equal p right Base) (outer V N p x) (one V N p right Base h tt d tt)

  part_proper : (seen : List Decl) (n : ℕ) (q : Part) → n + length (flat_map inside (expressions_of q)) ≤ N → AreProper V N (part_conditions own seen n q)
  part_proper seen n (Block ds equations) h = flat V N (λ (d : Decl). if is_some d.init then equal d.place.0 (Of d.name) Base else []) (λ d. last_proper d (is_some d.init)) ds
  part_proper seen n (Plain p left right) h =
      let l = length-append (inside right) [] in
      let t = term_proper n right.form (omega arith) in
      both V N (flat_map (defined own p (term_of own n right.form)) left) (expression own n right.place.0 right.form)
      (flat V N (defined own p (term_of own n right.form)) (λ x. defined_tested p (term_of own n right.form) x (is_in x own) refl t.0 t.1) left) (expression_proper n right.place.0 right.form (omega arith))
  part_proper seen n (Switch p on cases) h =
      both V N (declared_on_base own seen (flat_map (λ c. c.sets) cases)) (on_base own n on)
      (flat V N (λ x. flat_map (λ (d : Decl). equal d.place.0 (Of x) Base) (option_to_list (declaration seen x))) (λ x. set_proper x seen) (flat_map (λ c. c.sets) cases)) (based_proper n on h)
  part_proper seen n (Reset p every sets) h = based_proper n every h
  part_proper seen n (Automaton p states) h = flat V N (λ x. flat_map (λ (d : Decl). equal d.place.0 (Of x) Base) (option_to_list (declaration seen x))) (λ x. set_proper x seen) (flat_map (λ c. c.sets) states)
  part_proper seen n (Transition strong states e) h = based_proper n e.condition h

-- ---- what the sites of a node declare

or_first : (a b : Bool) → a ≡ true → (a || b) ≡ true
or_first a b e = ap (λ t. t || b) e

or_second : (a b : Bool) → b ≡ true → (a || b) ≡ true
or_second true b e = refl
or_second false b e = e

in_first : (x : Name) (xs ys : List Name) → is_in x xs ≡ true → is_in x (xs ++ ys) ≡ true
in_first x xs ys e = list_any-append (same x) xs ys ∙ or_first (is_in x xs) (is_in x ys) e

in_second : (x : Name) (xs ys : List Name) → is_in x ys ≡ true → is_in x (xs ++ ys) ≡ true
in_second x xs ys e = list_any-append (same x) xs ys ∙ or_second (is_in x xs) (is_in x ys) e

module _ (V : List Name) (node : Node) where
  abbrev SitesIn : List Placed → Type 0
  SitesIn [] = ⊤
  SitesIn (q ∷ qs) = Among V (own_names node q.site) × SitesIn qs

  abbrev DeclaresIn : List Placed → Type 0
  DeclaresIn [] = ⊤
  DeclaresIn (q ∷ qs) = Among V (names (declared_in q.part)) × DeclaresIn qs

  joined : (xs ys : List Placed) → SitesIn xs → SitesIn ys → SitesIn (xs ++ ys)
  joined [] ys p q = q
  joined (x ∷ xs) ys p q = (p.0, joined xs ys p.1 q)

  split : (xs ys : List Placed) → DeclaresIn (xs ++ ys) → DeclaresIn xs × DeclaresIn ys
  split [] ys d = (tt, d)
  split (x ∷ xs) ys d = let r = split xs ys d.1 in ((d.0, r.0), r.1)

  or_true : (a b : Bool) → (a || b) ≡ true → (a ≡ true) ⊎ (b ≡ true)
  or_true true b e = inl refl
  or_true false b e = inr e

  among_both : (xs ys : List Name) → Among V xs → Among V ys → Among V (xs ++ ys)
  among_both xs ys p q x e = elim (or_true (is_in x xs) (is_in x ys) (sym (list_any-append (same x) xs ys) ∙ e)) [ inl h ↦ p x h | inr h ↦ q x h ]

  sites_of_transitions : (site : Surroundings) (strong : Bool) (states : List Name) (es : List Escape) → Among V (own_names node site) → SitesIn (transitions site strong states es)
  sites_of_transitions site strong states [] sub = tt
  sites_of_transitions site strong states (e ∷ es) sub = (sub, sites_of_transitions site strong states es sub)

  mutual
    unfolding static

    sites : (s : Surroundings) (e : Equation) → Among V (own_names node s) → DeclaresIn (parts_of s e) → SitesIn (parts_of s e)
    sites s (Define p left right) sub d = (sub, tt)
    sites s (Switch' p on n branches) sub d = (sub, sites_of_branches s on branches sub d.1)
    sites s (Reset' p n body every) sub d = (sub, sites_of_body s every body sub d.1)
    sites s (Automaton' p n states) sub d = (sub, sites_of_states s (strong_in states) (map (λ c. c.label) (states_in states)) states sub d.1)

    sites_of_all : {n : _} (s : Surroundings) (row : Row_of-Equation n) → Among V (own_names node s) → DeclaresIn (parts_of_all s row) → SitesIn (parts_of_all s row)
    sites_of_all s end_of-Equation sub d = tt
    sites_of_all s (more_of-Equation e rest) sub d =
        let r = split (parts_of s e) (parts_of_all s rest) d in
        joined (parts_of s e) (parts_of_all s rest) (sites s e sub r.0) (sites_of_all s rest sub r.1)

    sites_of_branches : {n : _} (s : Surroundings) (on : Expr) (row : Row_of-Branch n) → Among V (own_names node s) → DeclaresIn (parts_of_branches s on row) → SitesIn (parts_of_branches s on row)
    sites_of_branches s on end_of-Branch sub d = tt
    sites_of_branches s on (more_of-Branch p tag locals n body rest) sub d =
        let inner = Branch_of on locals ∷ s in
        let r = split (parts_of_all inner body) (parts_of_branches s on rest) d.1 in
        (d.0, joined (parts_of_all inner body) (parts_of_branches s on rest) (sites_of_all inner body d.0 r.0) (sites_of_branches s on rest sub r.1))

    sites_of_body : {n : _} (s : Surroundings) (every : Expr) (row : Row_of-Block n) → Among V (own_names node s) → DeclaresIn (parts_of_body s every row) → SitesIn (parts_of_body s every row)
    sites_of_body s every end_of-Block sub d = tt
    sites_of_body s every (more_of-Block locals n body rest) sub d =
        let inner = Body_of every locals ∷ s in
        let r = split (parts_of_all inner body) (parts_of_body s every rest) d.1 in
        let own = among_both (names locals) (own_names node s) d.0 sub in
        (own, joined (parts_of_all inner body) (parts_of_body s every rest) (sites_of_all inner body own r.0) (sites_of_body s every rest sub r.1))

    sites_of_states : {n : _} (s : Surroundings) (strong : List Expr) (labels : List Name) (row : Row_of-State n) → Among V (own_names node s) → DeclaresIn (parts_of_states s strong labels row) → SitesIn (parts_of_states s strong labels row)
    sites_of_states s strong labels end_of-State sub d = tt
    sites_of_states s strong labels (more_of-State p name locals n body weak own rest) sub d =
        let inner = State_of strong locals ∷ s in
        let tw = transitions inner false labels weak in
        let ts = transitions s true labels own in
        let r = split (parts_of_all inner body ++ tw ++ ts) (parts_of_states s strong labels rest) d.1 in
        let b = split (parts_of_all inner body ++ tw) ts r.0 in
        let c = split (parts_of_all inner body) tw b.0 in (
          d.0,
          joined (parts_of_all inner body ++ tw ++ ts) (parts_of_states s strong labels rest)
              (joined (parts_of_all inner body ++ tw) ts (joined (parts_of_all inner body) tw (sites_of_all inner body d.0 c.0) (sites_of_transitions inner false labels weak d.0)) (sites_of_transitions s true labels own sub))
              (sites_of_states s strong labels rest sub r.1),
        )

  -- what parts declare is among what they all declare
  all_declared : (qs : List Placed) → Among V (names (flat_map (λ (q : Placed). declared_in q.part) qs)) → DeclaresIn qs
  all_declared [] h = tt
  all_declared (q ∷ qs) h =
      let rest = flat_map (λ (q : Placed). declared_in q.part) qs in
      let e : names (declared_in q.part ++ rest) ≡ names (declared_in q.part) ++ names rest = map-append (λ (d : Decl). d.name) (declared_in q.part) rest in
      let here : Among V (names (declared_in q.part)) = λ x i. h x (ap (is_in x) e ∙ in_first x (names (declared_in q.part)) (names rest) i) in
      let there : Among V (names rest) = λ x i. h x (ap (is_in x) e ∙ in_second x (names (declared_in q.part)) (names rest) i) in
      (here, all_declared qs there)

  numbered_proper : (N n : ℕ) (qs : List Placed) → SitesIn qs → n + length (flat_map (λ (q : Placed). flat_map inside (expressions_of q.part)) qs) ≤ N → AreProper V N (numbered node n qs)
  numbered_proper N n [] s h = tt
  numbered_proper N n (q ∷ qs) s h =
      let l = length-append (flat_map inside (expressions_of q.part)) (flat_map (λ (q : Placed). flat_map inside (expressions_of q.part)) qs) in
      both V N _ _ (part_proper V N (own_names node q.site) s.0 (seen_at node q.site) n q.part (omega arith)) (numbered_proper N (n + length (flat_map inside (expressions_of q.part))) qs s.1 (omega arith))

-- ---- nodes

module _ (node : Node) where
  abbrev V : List Name
  V = names (variables node)

  abbrev inner_decls : List Decl
  inner_decls = flat_map (λ (q : Placed). declared_in q.part) (parts node)

  split_names : V ≡ names node.inputs ++ names inner_decls
  split_names = map-append (λ (d : Decl). d.name) node.inputs inner_decls

  inputs_among : Among V (names node.inputs)
  inputs_among x e = ap (is_in x) split_names ∙ in_first x (names node.inputs) (names inner_decls) e

  inner_among : Among V (names inner_decls)
  inner_among x e = ap (is_in x) split_names ∙ in_second x (names node.inputs) (names inner_decls) e

  declared : DeclaresIn V node (parts node)
  declared = all_declared V node (parts node) inner_among

  -- the outputs and the locals are declared by the node's own block
  block_among : Among V (names node.outputs ++ names node.block.locals)
  block_among x e = declared.0 x (ap (is_in x) (map-append (λ (d : Decl). d.name) node.outputs node.block.locals) ∙ e)

  own_among : Among V (own_names node [])
  own_among =
      among_both V node (names node.block.locals ++ names node.outputs) (names node.inputs)
      (among_both V node (names node.block.locals) (names node.outputs) (λ x e. block_among x (in_second x (names node.outputs) (names node.block.locals) e)) (λ x e. block_among x (in_first x (names node.outputs) (names node.block.locals) e)))
      inputs_among

  body_sites : (es : List Equation) → DeclaresIn V node (flat_map (parts_of []) es) → SitesIn V node (flat_map (parts_of []) es)
  body_sites [] d = tt
  body_sites (e ∷ es) d =
      let r = split V node (parts_of [] e) (flat_map (parts_of []) es) d in
      joined V node (parts_of [] e) (flat_map (parts_of []) es) (sites V node [] e own_among r.0) (body_sites es r.1)

  -- the conditions of a node are proper
  pub conditions_proper : AreProper V (length (expressions node)) (conditions node)
  conditions_proper =
      let N = length (expressions node) in
      both V N (flat_map (λ (d : Decl). equal d.place.0 (Of d.name) Base) (node.inputs ++ node.outputs)) (numbered node 0 (parts node))
      (flat V N (λ (d : Decl). equal d.place.0 (Of d.name) Base) (λ d. outer V N d.place.0 d.name) (node.inputs ++ node.outputs))
      (numbered_proper V node N 0 (parts node) (own_among, body_sites node.block.body declared.1) (omega arith))
