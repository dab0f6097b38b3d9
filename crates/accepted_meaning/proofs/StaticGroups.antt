-- The parts of one block and of the reset bodies inside it: what is declared furthest out there tells them from all others.
use Rattle.std.proofs.Common.{◌≡◌, Bool, true, false, ◌||◌, if◌then◌else◌, List, [], ◌∷◌, ◌++◌, map, refl, sym, ap, subst, ◌∙◌, ⊎_elim, Contains, Option, Some, None}
use Rattle.std.specs.List.{AllByRecursion as Each, flat_map, find}
use Rattle.std.proofs.lemmas.Bool.{false≢true}
use Rattle.std.proofs.lemmas.List.Elements.{All-weaker, All-contains, All-contains_itself, All-from_recursion, recursion_from_All}
use Rattle.hept_ast.specs.Texts.{Name, is_in, names}
use Rattle.hept_ast.specs.Parts.{Branch_of, Body_of, State_of, Surroundings, Placed, declared_in, parts, parts_of, parts_of_all, parts_of_branches, parts_of_body, parts_of_states, states_in, strong_in, transitions, variables}
use Rattle.hept_ast.specs.Clocks.{own_names}
use Rattle.hept_ast.specs.declared.tree.Decl.{Decl}
use Rattle.hept_ast.specs.declared.tree.Expr.{Expr}
use Rattle.hept_ast.specs.declared.tree.Node.{Node}
use Rattle.hept_ast.specs.declared.tree.Escape.{Escape}
use Rattle.hept_ast.specs.declared.tree.Equation.{Equation, Define, Switch', Reset', Automaton', Row_of-Equation, end_of-Equation, more_of-Equation, Row_of-Branch, end_of-Branch, more_of-Branch, Row_of-Block, end_of-Block, more_of-Block, Row_of-State, end_of-State, more_of-State}
use Rattle.hept_ast.proofs.Unfolded.{static}
use Rattle.sound_expressions.specs.Demands.{NamesDiffer}
use Rattle.sound_expressions.proofs.Values.{differ_right, not_in_first}
use Rattle.accepted_meaning.proofs.StaticScopes.{each_left, each_right, each_append}
use Rattle.accepted_meaning.proofs.StaticEnds.{either_in}
use Rattle.sound_expressions.proofs.Lists.{is_in_left, is_in_right, same_self}
use Rattle.accepted_meaning.proofs.TextLists.{contains_cases, contains_none, names_append}

-- ---- the last name of a list

abbrev last_of : Name → List Name → Name
last_of d [] = d
last_of d (x ∷ xs) = last_of x xs

abbrev pub peak : List Name → Name
peak xs = last_of [] xs

last_append : (d : Name) (xs : List Name) (y : Name) (ys : List Name) → last_of d (xs ++ y ∷ ys) ≡ last_of y ys
last_append d [] y ys = refl
last_append d (x ∷ xs) y ys = last_append x xs y ys

pub peak_append : (xs ys : List Name) (v : Name) → is_in v ys ≡ true → peak (xs ++ ys) ≡ peak ys
peak_append xs [] v e = absurd (false≢true e)
peak_append xs (y ∷ ys) v e = last_append [] xs y ys

last_in : (y : Name) (ys : List Name) → is_in (last_of y ys) (y ∷ ys) ≡ true
last_in y [] = ap (λ b. b || false) (same_self y)
last_in y (z ∷ zs) = is_in_right (last_of z zs) (y ∷ []) (z ∷ zs) (last_in z zs)

pub peak_in : (ys : List Name) (v : Name) → is_in v ys ≡ true → is_in (peak ys) ys ≡ true
peak_in [] v e = absurd (false≢true e)
peak_in (y ∷ ys) v e = last_in y ys

-- ---- where a variable is declared

abbrev declares_it : Name → Placed → Bool
declares_it v q = is_in v (names (declared_in q.part))

abbrev site_or_none : Option Placed → Surroundings
site_or_none None = []
site_or_none (Some q) = q.site

-- the site of the block that declares it, and the last name that is own there
abbrev site_declaring : Node → Name → Surroundings
site_declaring node v = site_or_none (find (declares_it v) (parts node))

abbrev pub peak_of : Node → Name → Name
peak_of node v = peak (own_names node (site_declaring node v))

abbrev all_declared : List Placed → List Decl
all_declared qs = flat_map (λ q. declared_in q.part) qs

in_names : (x : Name) (qs : List Placed) (q : Placed) → Contains qs q → declares_it x q ≡ true → is_in x (names (all_declared qs)) ≡ true
in_names x [] q at e = contains_none q at
in_names x (p ∷ qs) q at e =
    ap (λ l. is_in x l) (names_append (declared_in p.part) (all_declared qs))
    ∙ ⊎_elim (λ is. is_in_left x (names (declared_in p.part)) (names (all_declared qs)) (subst (λ (z : Placed). declares_it x z ≡ true) (sym is) e))
    (λ c. is_in_right x (names (declared_in p.part)) (names (all_declared qs)) (in_names x qs q c e)) (contains_cases p q qs at)

found_by : (v : Name) (p q : Placed) (qs : List Placed) → declares_it v p ≡ false → site_or_none (find (declares_it v) qs) ≡ q.site → site_or_none (find (declares_it v) (p ∷ qs)) ≡ q.site
found_by v p q qs e r = ap (λ b. site_or_none (if b then Some p else find (declares_it v) qs)) e ∙ r

found_at : (qs : List Placed) → NamesDiffer (names (all_declared qs)) → (q : Placed) → Contains qs q → (v : Name) → declares_it v q ≡ true → site_or_none (find (declares_it v) qs) ≡ q.site
found_at [] differ q at v e = contains_none q at
found_at (p ∷ qs) differ q at v e =
    let apart = subst NamesDiffer (names_append (declared_in p.part) (all_declared qs)) differ in
    ⊎_elim (λ is. ap (λ b. site_or_none (if b then Some p else find (declares_it v) qs)) (subst (λ (z : Placed). declares_it v z ≡ true) (sym is) e) ∙ ap (λ (z : Placed). z.site) is)
    (λ c. found_by v p q qs (not_in_first v (names (declared_in p.part)) (names (all_declared qs)) apart (in_names v qs q c e)) (found_at qs (differ_right (names (declared_in p.part)) (names (all_declared qs)) apart) q c v e))
    (contains_cases p q qs at)

not_found : (qs : List Placed) (v : Name) → is_in v (names (all_declared qs)) ≡ false → site_or_none (find (declares_it v) qs) ≡ []
not_found [] v e = refl
not_found (p ∷ qs) v e = go (declares_it v p) refl (either_not (sym (ap (λ l. is_in v l) (names_append (declared_in p.part) (all_declared qs))) ∙ e)) (not_found qs v)
  where
    either_not : is_in v (names (declared_in p.part) ++ names (all_declared qs)) ≡ false → (declares_it v p ≡ true → ⊥) × (is_in v (names (all_declared qs)) ≡ true → ⊥)
    either_not f = (λ t. false≢true (sym f ∙ is_in_left v (names (declared_in p.part)) (names (all_declared qs)) t), λ t. false≢true (sym f ∙ is_in_right v (names (declared_in p.part)) (names (all_declared qs)) t))

    is_false : (b : Bool) → (b ≡ true → ⊥) → b ≡ false
    is_false true h = absurd (h refl)
    is_false false h = refl

    go : (b : Bool) → declares_it v p ≡ b → (declares_it v p ≡ true → ⊥) × (is_in v (names (all_declared qs)) ≡ true → ⊥) → (is_in v (names (all_declared qs)) ≡ false → site_or_none (find (declares_it v) qs) ≡ []) →
        site_or_none (if b then Some p else find (declares_it v) qs) ≡ []
    go true s h later = absurd (h.0 s)
    go false s h later = later (is_false (is_in v (names (all_declared qs))) h.1)

-- ---- the peaks of sites

module _ (node : Node) where
  abbrev pub IsPeaked : Surroundings → Type 0
  IsPeaked s = (v : Name) → is_in v (own_names node s) ≡ true → peak (own_names node s) ≡ peak_of node v

  abbrev Found : Placed → Type 0
  Found q = (v : Name) → declares_it v q ≡ true → site_declaring node v ≡ q.site

  abbrev PeakedAt : Placed → Type 0
  PeakedAt q = IsPeaked q.site

  -- a block that has only its own names
  in_branch : (s : Surroundings) (ls : List Decl) → own_names node s ≡ names ls → ((v : Name) → is_in v (names ls) ≡ true → site_declaring node v ≡ s) → IsPeaked s
  in_branch s ls own found v e = ap (λ (z : Surroundings). peak (own_names node z)) (sym (found v (sym (ap (is_in v) own) ∙ e)))

  in_body : (s : Surroundings) (every : Expr) (ls : List Decl) → IsPeaked s → ((v : Name) → is_in v (names ls) ≡ true → site_declaring node v ≡ Body_of every ls ∷ s) → IsPeaked (Body_of every ls ∷ s)
  in_body s every ls h found v e =
      ⊎_elim (λ i. ap (λ (z : Surroundings). peak (own_names node z)) (sym (found v i))) (λ o. peak_append (names ls) (own_names node s) v o ∙ h v o) (either_in v (names ls) (own_names node s) e)

  escapes_peaked : (site : Surroundings) (strong : Bool) (states : List Name) (es : List Escape) → IsPeaked site → Each PeakedAt (transitions site strong states es)
  escapes_peaked site strong states [] h = tt
  escapes_peaked site strong states (e ∷ es) h = (h, escapes_peaked site strong states es h)

  mutual
    unfolding static

    peaked : (site : Surroundings) (e : Equation) → IsPeaked site → Each Found (parts_of site e) → Each PeakedAt (parts_of site e)
    peaked site (Define p left right) h d = (h, tt)
    peaked site (Switch' p on n branches) h d = (h, peaked_branches site on branches h d.1)
    peaked site (Reset' p n body every) h d = (h, peaked_body site every body h d.1)
    peaked site (Automaton' p n states) h d = (h, peaked_states site (strong_in states) (map (λ c. c.label) (states_in states)) states h d.1)

    peaked_all : {n : _} (site : Surroundings) (row : Row_of-Equation n) → IsPeaked site → Each Found (parts_of_all site row) → Each PeakedAt (parts_of_all site row)
    peaked_all site end_of-Equation h d = tt
    peaked_all site (more_of-Equation e rest) h d =
        each_append PeakedAt (parts_of site e) (parts_of_all site rest) (peaked site e h (each_left Found (parts_of site e) (parts_of_all site rest) d))
        (peaked_all site rest h (each_right Found (parts_of site e) (parts_of_all site rest) d))

    peaked_branches : {n : _} (site : Surroundings) (on : Expr) (row : Row_of-Branch n) → IsPeaked site → Each Found (parts_of_branches site on row) → Each PeakedAt (parts_of_branches site on row)
    peaked_branches site on end_of-Branch h d = tt
    peaked_branches site on (more_of-Branch p tag locals n body rest) h d =
        let inner = Branch_of on locals ∷ site in
        let hi : IsPeaked inner = in_branch inner locals refl d.0 in
        let first = parts_of_all inner body in
        let others = parts_of_branches site on rest in
        (hi, each_append PeakedAt first others (peaked_all inner body hi (each_left Found first others d.1)) (peaked_branches site on rest h (each_right Found first others d.1)))

    peaked_body : {n : _} (site : Surroundings) (every : Expr) (row : Row_of-Block n) → IsPeaked site → Each Found (parts_of_body site every row) → Each PeakedAt (parts_of_body site every row)
    peaked_body site every end_of-Block h d = tt
    peaked_body site every (more_of-Block locals n body rest) h d =
        let inner = Body_of every locals ∷ site in
        let hi : IsPeaked inner = in_body site every locals h d.0 in
        let first = parts_of_all inner body in
        let others = parts_of_body site every rest in
        (hi, each_append PeakedAt first others (peaked_all inner body hi (each_left Found first others d.1)) (peaked_body site every rest h (each_right Found first others d.1)))

    peaked_states : {n : _} (site : Surroundings) (strong : List Expr) (states : List Name) (row : Row_of-State n) → IsPeaked site → Each Found (parts_of_states site strong states row) →
        Each PeakedAt (parts_of_states site strong states row)
    peaked_states site strong states end_of-State h d = tt
    peaked_states site strong states (more_of-State p name locals n body weak own rest) h d =
        let inner = State_of strong locals ∷ site in
        let hi : IsPeaked inner = in_branch inner locals refl d.0 in
        let first = parts_of_all inner body in
        let w = transitions inner false states weak in
        let o = transitions site true states own in
        let others = parts_of_states site strong states rest in
        let here_d : Each Found (first ++ w ++ o) = each_left Found (first ++ w ++ o) others d.1 in
        let body_d : Each Found first = each_left Found first w (each_left Found (first ++ w) o here_d) in
        let here : Each PeakedAt (first ++ w ++ o) = each_append PeakedAt (first ++ w) o (each_append PeakedAt first w (peaked_all inner body hi body_d) (escapes_peaked inner false states weak hi)) (escapes_peaked site true states own h) in
        (hi, each_append PeakedAt (first ++ w ++ o) others here (peaked_states site strong states rest h (each_right Found (first ++ w ++ o) others d.1)))

  peaked_each : (es : List Equation) → IsPeaked [] → Each Found (flat_map (parts_of []) es) → Each PeakedAt (flat_map (parts_of []) es)
  peaked_each [] h d = tt
  peaked_each (e ∷ es) h d =
      let others = flat_map (parts_of []) es in
      each_append PeakedAt (parts_of [] e) others (peaked [] e h (each_left Found (parts_of [] e) others d)) (peaked_each es h (each_right Found (parts_of [] e) others d))

  module _ (differ : NamesDiffer (names (variables node))) where
    apart : NamesDiffer (names node.inputs ++ names (all_declared (parts node)))
    apart = subst NamesDiffer (names_append node.inputs (all_declared (parts node))) differ

    found_each : Each Found (parts node)
    found_each = recursion_from_All Found (parts node) (All-weaker (Contains (parts node)) Found
        (λ q at. found_at (parts node) (differ_right (names node.inputs) (names (all_declared (parts node))) apart) q at) (parts node) (All-contains_itself (parts node)))

    input_site : (v : Name) → is_in v (names node.inputs) ≡ true → site_declaring node v ≡ []
    input_site v e = not_found (parts node) v (go (is_in v (names (all_declared (parts node)))) refl)
      where
        go : (b : Bool) → is_in v (names (all_declared (parts node))) ≡ b → b ≡ false
        go true s = absurd (false≢true (sym (not_in_first v (names node.inputs) (names (all_declared (parts node))) apart s) ∙ e))
        go false s = refl

    own_site : (v : Name) → is_in v (own_names node []) ≡ true → site_declaring node v ≡ []
    own_site v e = ⊎_elim block (λ i. input_site v i) (either_in v (names node.block.locals ++ names node.outputs) (names node.inputs) e)
      where
        declared : is_in v (names node.outputs ++ names node.block.locals) ≡ true → site_declaring node v ≡ []
        declared e = found_each.0 v (ap (is_in v) (names_append node.outputs node.block.locals) ∙ e)

        block : is_in v (names node.block.locals ++ names node.outputs) ≡ true → site_declaring node v ≡ []
        block e = ⊎_elim (λ l. declared (is_in_right v (names node.outputs) (names node.block.locals) l)) (λ o. declared (is_in_left v (names node.outputs) (names node.block.locals) o)) (either_in v (names node.block.locals) (names node.outputs) e)

    own_peaked : IsPeaked []
    own_peaked v e = ap (λ (z : Surroundings). peak (own_names node z)) (sym (own_site v e))

    pub parts_peaked : (q : Placed) → Contains (parts node) q → IsPeaked q.site
    parts_peaked q at = All-contains PeakedAt (parts node) q (All-from_recursion PeakedAt (parts node) (own_peaked, peaked_each node.block.body own_peaked found_each.1)) at
