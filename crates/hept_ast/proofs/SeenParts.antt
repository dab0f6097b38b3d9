-- What `seen_parts` gives of each equation: the parts inside an equation depend on what the blocks around it declare, and on nothing else there.
use Rattle.std.proofs.Common.{◌≡◌, ℕ, Bool, true, false, List, [], ◌∷◌, ◌++◌, refl, sym, ◌∙◌, ap, map, append-nil, append_assoc}
use Rattle.std.specs.List.{flat_map}
use Rattle.std.proofs.lemmas.List.{map-append, take_all}
use Rattle.hept_ast.specs.Texts.{Name}
use Rattle.hept_ast.specs.Parts.{Branch_of, Body_of, State_of, Surroundings, Part, Block, Plain, Switch, Reset, Automaton, Transition, Placed, equations_in, branches_in, states_in, strong_in, sets_of_body, transitions, parts, parts_of, parts_of_all, parts_of_branches, parts_of_body, parts_of_states, block_sets, equation_case, branch_case, block_parts, locals_around, state_case, strong_of_all, state_parts}
use Rattle.hept_ast.specs.declared.name.Place.{Place}
use Rattle.hept_ast.specs.declared.tree.Decl.{Decl}
use Rattle.hept_ast.specs.declared.tree.Expr.{Expr}
use Rattle.hept_ast.specs.declared.tree.Node.{Node}
use Rattle.hept_ast.specs.declared.tree.Block as b
use Rattle.hept_ast.specs.declared.tree.Branch.{Branch}
use Rattle.hept_ast.specs.declared.tree.State.{State}
use Rattle.hept_ast.specs.declared.tree.Escape.{Escape}
use Rattle.hept_ast.specs.declared.tree.Equation as eq
use Rattle.hept_ast.specs.declared.tree.Equation.{Equation, Define, Switch', Reset', Automaton', Row_of-Equation, end_of-Equation, more_of-Equation, Row_of-Branch, end_of-Branch, more_of-Branch, Row_of-Block, end_of-Block, more_of-Block, Row_of-State, end_of-State, more_of-State}
use Rattle.hept_ast.proofs.Unfolded.{static}
use Rattle.hept_ast.proofs.PartsOf.{parts-Define, parts-Switch, parts-Reset, parts-Automaton}
use Rattle.hept_ast.specs.InnerParts.{state_names}
use Rattle.hept_ast.specs.SeenParts.{SeenPart, seen_in, site_with, seen_parts, seen_block, seen_escapes, seen_state}

joined : (xs ys us vs : List Placed) → map seen_in xs ≡ map seen_in us → map seen_in ys ≡ map seen_in vs → map seen_in (xs ++ ys) ≡ map seen_in (us ++ vs)
joined xs ys us vs e h = map-append seen_in xs ys ∙ (ap (λ t. t ++ map seen_in ys) e ∙ (ap (λ t. map seen_in us ++ t) h ∙ sym (map-append seen_in us vs)))

headed : (ds es : List Decl) (part : Part) (xs ys : List SeenPart) → ds ≡ es → xs ≡ ys → record { inner = ds; part = part } ∷ xs ≡ record { inner = es; part = part } ∷ ys
headed ds es part xs ys e h = ap (λ t. record { inner = t; part = part } ∷ xs) e ∙ ap (λ t. record { inner = es; part = part } ∷ t) h

of_escapes : (s : Surroundings) (inner : List Decl) (strong : Bool) (names : List Name) (es : List Escape) → locals_around s ≡ inner
    → map seen_in (transitions s strong names es) ≡ map (λ e. record { inner = inner; part = Transition strong names e }) es
of_escapes s inner strong names [] h = refl
of_escapes s inner strong names (e ∷ es) h = headed _ _ (Transition strong names e) _ _ h (of_escapes s inner strong names es h)

mutual
  unfolding static

  free : (s t : Surroundings) → locals_around s ≡ locals_around t → (e : Equation) → map seen_in (parts_of s e) ≡ map seen_in (parts_of t e)
  free s t h (Define p left right) = headed _ _ (Plain p.0 left right) _ _ h refl
  free s t h (Switch' p on n branches) = headed _ _ (Switch p.0 on (branches_in branches)) _ _ h (free_branches s t h on branches)
  free s t h (Reset' p n body every) = headed _ _ (Reset p.0 every (sets_of_body body)) _ _ h (free_body s t h every body)
  free s t h (Automaton' p n states) = headed _ _ (Automaton p.0 (states_in states)) _ _ h (free_states s t h (strong_in states) (map (λ c. c.label) (states_in states)) states)

  free_all : {n : _} (s t : Surroundings) → locals_around s ≡ locals_around t → (row : Row_of-Equation n) → map seen_in (parts_of_all s row) ≡ map seen_in (parts_of_all t row)
  free_all s t h end_of-Equation = refl
  free_all s t h (more_of-Equation e rest) = joined (parts_of s e) (parts_of_all s rest) (parts_of t e) (parts_of_all t rest) (free s t h e) (free_all s t h rest)

  free_branches : {n : _} (s t : Surroundings) → locals_around s ≡ locals_around t → (on : Expr) (row : Row_of-Branch n) → map seen_in (parts_of_branches s on row) ≡ map seen_in (parts_of_branches t on row)
  free_branches s t h on end_of-Branch = refl
  free_branches s t h on (more_of-Branch p tag locals n body rest) =
      let si = Branch_of on locals ∷ s in
      let ti = Branch_of on locals ∷ t in
      let hi : locals_around si ≡ locals_around ti = ap (λ ds. locals ++ ds) h in
      headed _ _ (Block locals (equations_in body)) _ _ hi (joined (parts_of_all si body) (parts_of_branches s on rest) (parts_of_all ti body) (parts_of_branches t on rest) (free_all si ti hi body) (free_branches s t h on rest))

  free_body : {n : _} (s t : Surroundings) → locals_around s ≡ locals_around t → (every : Expr) (row : Row_of-Block n) → map seen_in (parts_of_body s every row) ≡ map seen_in (parts_of_body t every row)
  free_body s t h every end_of-Block = refl
  free_body s t h every (more_of-Block locals n body rest) =
      let si = Body_of every locals ∷ s in
      let ti = Body_of every locals ∷ t in
      let hi : locals_around si ≡ locals_around ti = ap (λ ds. locals ++ ds) h in
      headed _ _ (Block locals (equations_in body)) _ _ hi (joined (parts_of_all si body) (parts_of_body s every rest) (parts_of_all ti body) (parts_of_body t every rest) (free_all si ti hi body) (free_body s t h every rest))

  free_states : {n : _} (s t : Surroundings) → locals_around s ≡ locals_around t → (strong : List Expr) (names : List Name) (row : Row_of-State n) → map seen_in (parts_of_states s strong names row) ≡ map seen_in (parts_of_states t strong names row)
  free_states s t h strong names end_of-State = refl
  free_states s t h strong names (more_of-State p name locals n body weak own rest) =
      let si = State_of strong locals ∷ s in
      let ti = State_of strong locals ∷ t in
      let hi : locals_around si ≡ locals_around ti = ap (λ ds. locals ++ ds) h in
      let w = of_escapes si _ false names weak hi ∙ sym (of_escapes ti _ false names weak refl) in
      let o = of_escapes s _ true names own h ∙ sym (of_escapes t _ true names own refl) in
      headed _ _ (Block locals (equations_in body)) _ _ hi
      (joined (parts_of_all si body ++ transitions si false names weak ++ transitions s true names own) (parts_of_states s strong names rest)
      (parts_of_all ti body ++ transitions ti false names weak ++ transitions t true names own) (parts_of_states t strong names rest)
      (joined (parts_of_all si body ++ transitions si false names weak) (transitions s true names own) (parts_of_all ti body ++ transitions ti false names weak) (transitions t true names own)
      (joined (parts_of_all si body) (transitions si false names weak) (parts_of_all ti body) (transitions ti false names weak) (free_all si ti hi body) w) o)
      (free_states s t h strong names rest))

-- lists
map_flat : {X : Type 0} (f : X → List Placed) (g : X → List SeenPart) → ((x : X) → map seen_in (f x) ≡ g x) → (xs : List X) → map seen_in (flat_map f xs) ≡ flat_map g xs
map_flat f g e [] = refl
map_flat f g e (x ∷ xs) = map-append seen_in (f x) (flat_map f xs) ∙ (ap (λ t. t ++ map seen_in (flat_map f xs)) (e x) ∙ ap (λ t. g x ++ t) (map_flat f g e xs))

around_is : (s : Surroundings) (ds : List Decl) → locals_around s ≡ ds → locals_around s ≡ locals_around (site_with ds)
around_is s ds h = h ∙ sym (append-nil ds)

of_block : (s : Surroundings) (inner : List Decl) (block : b.Block) → locals_around s ≡ block.locals ++ inner → map seen_in (block_parts s block) ≡ seen_block inner block
of_block s inner block h =
    headed _ _ (Block block.locals (map equation_case block.body)) _ _ h
    (map_flat (parts_of s) (seen_parts (block.locals ++ inner)) (λ e. free s (site_with (block.locals ++ inner)) (around_is s (block.locals ++ inner) h) e) block.body)

of_state : (s : Surroundings) (inner : List Decl) (qs : List State) (q : State) → locals_around s ≡ inner → map seen_in (state_parts s (strong_of_all qs) (state_names qs) q) ≡ seen_state inner qs q
of_state s inner qs q h =
    let si = State_of (strong_of_all qs) q.block.locals ∷ s in
    let hi : locals_around si ≡ q.block.locals ++ inner = ap (λ ds. q.block.locals ++ ds) h in
    map-append seen_in (block_parts si q.block ++ transitions si false (state_names qs) q.weak) (transitions s true (state_names qs) q.strong)
    ∙ (ap (λ t. t ++ map seen_in (transitions s true (state_names qs) q.strong)) (map-append seen_in (block_parts si q.block) (transitions si false (state_names qs) q.weak))
    ∙ (ap (λ t. t ++ map seen_in (transitions si false (state_names qs) q.weak) ++ map seen_in (transitions s true (state_names qs) q.strong)) (of_block si inner q.block hi)
    ∙ (ap (λ t. seen_block inner q.block ++ t ++ map seen_in (transitions s true (state_names qs) q.strong)) (of_escapes si (q.block.locals ++ inner) false (state_names qs) q.weak hi)
    ∙ ap (λ t. seen_block inner q.block ++ seen_escapes (q.block.locals ++ inner) false qs q.weak ++ t) (of_escapes s inner true (state_names qs) q.strong h))))

pub seen-Define : (inner : List Decl) (p : Place) (left : List Name) (right : Expr) → seen_parts inner (eq.Define p left right) ≡ record { inner = inner; part = Plain p.0 left right } ∷ []
seen-Define inner p left right = ap (map seen_in) (parts-Define (site_with inner) p left right) ∙ headed _ _ (Plain p.0 left right) _ _ (append-nil inner) refl

pub seen-Switch : (inner : List Decl) (p : Place) (on : Expr) (bs : List Branch)
    → seen_parts inner (eq.Switch p on bs) ≡ record { inner = inner; part = Switch p.0 on (map branch_case bs) } ∷ flat_map (λ b. seen_block inner b.block) bs
seen-Switch inner p on bs =
    ap (map seen_in) (parts-Switch (site_with inner) p on bs)
    ∙ headed _ _ (Switch p.0 on (map branch_case bs)) _ _ (append-nil inner)
    (map_flat (λ b. block_parts (Branch_of on b.block.locals ∷ site_with inner) b.block) (λ b. seen_block inner b.block) (λ b. of_block (Branch_of on b.block.locals ∷ site_with inner) inner b.block (ap (λ ds. b.block.locals ++ ds) (append-nil inner))) bs)

pub seen-Reset : (inner : List Decl) (p : Place) (block : b.Block) (every : Expr)
    → seen_parts inner (eq.Reset p block every) ≡ record { inner = inner; part = Reset p.0 every (block_sets block) } ∷ seen_block inner block
seen-Reset inner p block every =
    ap (map seen_in) (parts-Reset (site_with inner) p block every)
    ∙ headed _ _ (Reset p.0 every (block_sets block)) _ _ (append-nil inner) (of_block (Body_of every block.locals ∷ site_with inner) inner block (ap (λ ds. block.locals ++ ds) (append-nil inner)))

pub seen-Automaton : (inner : List Decl) (p : Place) (qs : List State)
    → seen_parts inner (eq.Automaton p qs) ≡ record { inner = inner; part = Automaton p.0 (map state_case qs) } ∷ flat_map (seen_state inner qs) qs
seen-Automaton inner p qs =
    ap (map seen_in) (parts-Automaton (site_with inner) p qs)
    ∙ headed _ _ (Automaton p.0 (map state_case qs)) _ _ (append-nil inner)
    (map_flat (state_parts (site_with inner) (strong_of_all qs) (state_names qs)) (seen_state inner qs) (λ q. of_state (site_with inner) inner qs q (append-nil inner)) qs)

-- all parts of a node
pub seen_node : (node : Node) → map seen_in (parts node) ≡ record { inner = []; part = Block (node.outputs ++ node.block.locals) (map equation_case node.block.body) } ∷ flat_map (seen_parts []) node.block.body
seen_node node = headed _ _ (Block (node.outputs ++ node.block.locals) (map equation_case node.block.body)) _ _ refl (map_flat (parts_of []) (seen_parts []) (λ e. free [] (site_with []) refl e) node.block.body)

pub ruleset seen_parts_of = (seen-Define, seen-Switch, seen-Reset, seen-Automaton, append_assoc, append-nil, take_all)
