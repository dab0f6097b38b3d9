-- What `inner_parts` gives of each equation: the parts inside an equation are the same wherever it stands.
use Rattle.std.proofs.Common.{◌≡◌, ℕ, Bool, true, false, List, [], ◌∷◌, ◌++◌, refl, sym, ◌∙◌, ap, map, append-nil, append_assoc}
use Rattle.std.specs.List.{flat_map}
use Rattle.std.proofs.lemmas.List.{map-append, take_all}
use Rattle.hept_ast.specs.Texts.{Name}
use Rattle.hept_ast.specs.Parts.{Branch_of, Body_of, State_of, Surroundings, Part, Block, Plain, Switch, Reset, Automaton, Transition, Placed, equations_in, branches_in, states_in, strong_in, sets_of_body, transitions, parts_of, parts_of_all, parts_of_branches, parts_of_body, parts_of_states, block_sets, equation_case, branch_case, block_parts, state_case, strong_of_all, state_parts}
use Rattle.hept_ast.specs.declared.name.Place.{Place}
use Rattle.hept_ast.specs.declared.tree.Expr.{Expr}
use Rattle.hept_ast.specs.declared.tree.Block as b
use Rattle.hept_ast.specs.declared.tree.Branch.{Branch}
use Rattle.hept_ast.specs.declared.tree.State.{State}
use Rattle.hept_ast.specs.declared.tree.Escape.{Escape}
use Rattle.hept_ast.specs.declared.tree.Equation as eq
use Rattle.hept_ast.specs.declared.tree.Equation.{Equation, Define, Switch', Reset', Automaton', Row_of-Equation, end_of-Equation, more_of-Equation, Row_of-Branch, end_of-Branch, more_of-Branch, Row_of-Block, end_of-Block, more_of-Block, Row_of-State, end_of-State, more_of-State}
use Rattle.hept_ast.proofs.Unfolded.{static}
use Rattle.hept_ast.proofs.PartsOf.{parts-Define, parts-Switch, parts-Reset, parts-Automaton}
use Rattle.hept_ast.specs.InnerParts.{part_in, inner_parts, parts_of_block, parts_of_state, state_names, escape_parts}

joined : (xs ys us vs : List Placed) → map part_in xs ≡ map part_in us → map part_in ys ≡ map part_in vs → map part_in (xs ++ ys) ≡ map part_in (us ++ vs)
joined xs ys us vs e h = map-append part_in xs ys ∙ (ap (λ t. t ++ map part_in ys) e ∙ (ap (λ t. map part_in us ++ t) h ∙ sym (map-append part_in us vs)))

of_escapes : (s : Surroundings) (strong : Bool) (names : List Name) (es : List Escape) → map part_in (transitions s strong names es) ≡ map (Transition strong names) es
of_escapes s strong names [] = refl
of_escapes s strong names (e ∷ es) = ap (λ t. Transition strong names e ∷ t) (of_escapes s strong names es)

mutual
  unfolding static

  free : (s t : Surroundings) (e : Equation) → map part_in (parts_of s e) ≡ map part_in (parts_of t e)
  free s t (Define p left right) = refl
  free s t (Switch' p on n branches) = ap (λ u. Switch p.0 on (branches_in branches) ∷ u) (free_branches s t on branches)
  free s t (Reset' p n body every) = ap (λ u. Reset p.0 every (sets_of_body body) ∷ u) (free_body s t every body)
  free s t (Automaton' p n states) = ap (λ u. Automaton p.0 (states_in states) ∷ u) (free_states s t (strong_in states) (map (λ c. c.label) (states_in states)) states)

  free_all : {n : _} (s t : Surroundings) (row : Row_of-Equation n) → map part_in (parts_of_all s row) ≡ map part_in (parts_of_all t row)
  free_all s t end_of-Equation = refl
  free_all s t (more_of-Equation e rest) = joined (parts_of s e) (parts_of_all s rest) (parts_of t e) (parts_of_all t rest) (free s t e) (free_all s t rest)

  free_branches : {n : _} (s t : Surroundings) (on : Expr) (row : Row_of-Branch n) → map part_in (parts_of_branches s on row) ≡ map part_in (parts_of_branches t on row)
  free_branches s t on end_of-Branch = refl
  free_branches s t on (more_of-Branch p tag locals n body rest) =
      let si = Branch_of on locals ∷ s in
      let ti = Branch_of on locals ∷ t in
      ap (λ u. Block locals (equations_in body) ∷ u) (joined (parts_of_all si body) (parts_of_branches s on rest) (parts_of_all ti body) (parts_of_branches t on rest) (free_all si ti body) (free_branches s t on rest))

  free_body : {n : _} (s t : Surroundings) (every : Expr) (row : Row_of-Block n) → map part_in (parts_of_body s every row) ≡ map part_in (parts_of_body t every row)
  free_body s t every end_of-Block = refl
  free_body s t every (more_of-Block locals n body rest) =
      let si = Body_of every locals ∷ s in
      let ti = Body_of every locals ∷ t in
      ap (λ u. Block locals (equations_in body) ∷ u) (joined (parts_of_all si body) (parts_of_body s every rest) (parts_of_all ti body) (parts_of_body t every rest) (free_all si ti body) (free_body s t every rest))

  free_states : {n : _} (s t : Surroundings) (strong : List Expr) (names : List Name) (row : Row_of-State n) → map part_in (parts_of_states s strong names row) ≡ map part_in (parts_of_states t strong names row)
  free_states s t strong names end_of-State = refl
  free_states s t strong names (more_of-State p name locals n body weak own rest) =
      let si = State_of strong locals ∷ s in
      let ti = State_of strong locals ∷ t in
      let w = of_escapes si false names weak ∙ sym (of_escapes ti false names weak) in
      let o = of_escapes s true names own ∙ sym (of_escapes t true names own) in
      ap (λ u. Block locals (equations_in body) ∷ u)
      (joined (parts_of_all si body ++ transitions si false names weak ++ transitions s true names own) (parts_of_states s strong names rest)
      (parts_of_all ti body ++ transitions ti false names weak ++ transitions t true names own) (parts_of_states t strong names rest)
      (joined (parts_of_all si body ++ transitions si false names weak) (transitions s true names own) (parts_of_all ti body ++ transitions ti false names weak) (transitions t true names own)
      (joined (parts_of_all si body) (transitions si false names weak) (parts_of_all ti body) (transitions ti false names weak) (free_all si ti body) w) o)
      (free_states s t strong names rest))

-- lists
map_flat : {X : Type 0} (f : X → List Placed) (g : X → List Part) → ((x : X) → map part_in (f x) ≡ g x) → (xs : List X) → map part_in (flat_map f xs) ≡ flat_map g xs
map_flat f g e [] = refl
map_flat f g e (x ∷ xs) = map-append part_in (f x) (flat_map f xs) ∙ (ap (λ t. t ++ map part_in (flat_map f xs)) (e x) ∙ ap (λ t. g x ++ t) (map_flat f g e xs))

pub of_block : (s : Surroundings) (block : b.Block) → map part_in (block_parts s block) ≡ parts_of_block block
of_block s block = ap (λ t. Block block.locals (map equation_case block.body) ∷ t) (map_flat (parts_of s) inner_parts (λ e. free s [] e) block.body)

of_state : (s : Surroundings) (qs : List State) (q : State) → map part_in (state_parts s (strong_of_all qs) (state_names qs) q) ≡ parts_of_state qs q
of_state s qs q =
    let inner = State_of (strong_of_all qs) q.block.locals ∷ s in
    map-append part_in (block_parts inner q.block ++ transitions inner false (state_names qs) q.weak) (transitions s true (state_names qs) q.strong)
    ∙ (ap (λ t. t ++ map part_in (transitions s true (state_names qs) q.strong)) (map-append part_in (block_parts inner q.block) (transitions inner false (state_names qs) q.weak))
    ∙ (ap (λ t. t ++ map part_in (transitions inner false (state_names qs) q.weak) ++ map part_in (transitions s true (state_names qs) q.strong)) (of_block inner q.block)
    ∙ (ap (λ t. parts_of_block q.block ++ t ++ map part_in (transitions s true (state_names qs) q.strong)) (of_escapes inner false (state_names qs) q.weak)
    ∙ ap (λ t. parts_of_block q.block ++ escape_parts false qs q.weak ++ t) (of_escapes s true (state_names qs) q.strong))))

pub inner-Define : (p : Place) (left : List Name) (right : Expr) → inner_parts (eq.Define p left right) ≡ Plain p.0 left right ∷ []
inner-Define p left right = ap (map part_in) (parts-Define [] p left right)

pub inner-Switch : (p : Place) (on : Expr) (bs : List Branch) → inner_parts (eq.Switch p on bs) ≡ Switch p.0 on (map branch_case bs) ∷ flat_map (λ b. parts_of_block b.block) bs
inner-Switch p on bs = ap (map part_in) (parts-Switch [] p on bs) ∙ ap (λ t. Switch p.0 on (map branch_case bs) ∷ t) (map_flat (λ b. block_parts (Branch_of on b.block.locals ∷ []) b.block) (λ b. parts_of_block b.block) (λ b. of_block _ b.block) bs)

pub inner-Reset : (p : Place) (block : b.Block) (every : Expr) → inner_parts (eq.Reset p block every) ≡ Reset p.0 every (block_sets block) ∷ parts_of_block block
inner-Reset p block every = ap (map part_in) (parts-Reset [] p block every) ∙ ap (λ t. Reset p.0 every (block_sets block) ∷ t) (of_block _ block)

pub inner-Automaton : (p : Place) (qs : List State) → inner_parts (eq.Automaton p qs) ≡ Automaton p.0 (map state_case qs) ∷ flat_map (parts_of_state qs) qs
inner-Automaton p qs = ap (map part_in) (parts-Automaton [] p qs) ∙ ap (λ t. Automaton p.0 (map state_case qs) ∷ t) (map_flat (state_parts [] (strong_of_all qs) (state_names qs)) (parts_of_state qs) (of_state [] qs) qs)

pub ruleset inner_parts_of = (inner-Define, inner-Switch, inner-Reset, inner-Automaton, append_assoc, append-nil, take_all)
