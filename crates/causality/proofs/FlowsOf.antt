-- What `flows_of` gives of each equation: the plain equations inside an equation depend on what the blocks around it read, and on nothing else there.
use Rattle.std.proofs.Common.{◌≡◌, ℕ, Bool, true, false, List, [], ◌∷◌, ◌++◌, refl, sym, ◌∙◌, ap, map, append-nil, append_assoc}
use Rattle.std.specs.List.{flat_map}
use Rattle.std.proofs.lemmas.Grind.{flat_map-append}
use Rattle.std.proofs.lemmas.List.{map-append, take_all}
use Rattle.hept_ast.specs.Texts.{Name}
use Rattle.hept_ast.specs.Causal.{reads}
use Rattle.hept_ast.specs.Parts.{Branch_of, Body_of, State_of, Surroundings, Plain, Placed, states_in, strong_in, transitions, conditions_of, parts, parts_of, parts_of_all, parts_of_branches, parts_of_body, parts_of_states, block_parts, strong_of_all, state_parts, state_case}
use Rattle.hept_ast.specs.declared.name.Place.{Place}
use Rattle.hept_ast.specs.declared.tree.Expr.{Expr}
use Rattle.hept_ast.specs.declared.tree.Node.{Node}
use Rattle.hept_ast.specs.declared.tree.Block as b
use Rattle.hept_ast.specs.declared.tree.Branch.{Branch}
use Rattle.hept_ast.specs.declared.tree.State.{State}
use Rattle.hept_ast.specs.declared.tree.Escape.{Escape}
use Rattle.hept_ast.specs.declared.tree.Form.TheVariants as form
use Rattle.hept_ast.specs.declared.tree.Equation as eq
use Rattle.hept_ast.specs.declared.tree.Equation.{Equation, Define, Switch', Reset', Automaton', Row_of-Equation, end_of-Equation, more_of-Equation, Row_of-Branch, end_of-Branch, more_of-Branch, Row_of-Block, end_of-Block, more_of-Block, Row_of-State, end_of-State, more_of-State}
use Rattle.hept_ast.proofs.Unfolded.{static}
use Rattle.hept_ast.proofs.ReadsOf.{reads-Var}
use Rattle.hept_ast.proofs.PartsOf.{parts-Define, parts-Switch, parts-Reset, parts-Automaton}
use Rattle.causality.specs.Flows.{DataFlow, around, flow_by, flow_in, site_reading, flows_of, flows_of_all, strong_reads, node_flows}

joined : (xs ys us vs : List Placed) → flat_map flow_in xs ≡ flat_map flow_in us → flat_map flow_in ys ≡ flat_map flow_in vs → flat_map flow_in (xs ++ ys) ≡ flat_map flow_in (us ++ vs)
joined xs ys us vs e h = flat_map-append flow_in xs ys ∙ (ap (λ t. t ++ flat_map flow_in ys) e ∙ (ap (λ t. flat_map flow_in us ++ t) h ∙ sym (flat_map-append flow_in us vs)))

none_of_escapes : (s : Surroundings) (strong : Bool) (names : List Name) (es : List Escape) → flat_map flow_in (transitions s strong names es) ≡ []
none_of_escapes s strong names [] = refl
none_of_escapes s strong names (e ∷ es) = none_of_escapes s strong names es

same_escapes : (s t : Surroundings) (strong : Bool) (names : List Name) (es : List Escape) → flat_map flow_in (transitions s strong names es) ≡ flat_map flow_in (transitions t strong names es)
same_escapes s t strong names es = none_of_escapes s strong names es ∙ sym (none_of_escapes t strong names es)

mutual
  unfolding static

  free : (s t : Surroundings) → around s ≡ around t → (e : Equation) → flat_map flow_in (parts_of s e) ≡ flat_map flow_in (parts_of t e)
  free s t h (Define p left right) = ap (λ names. flow_by names (Plain p.0 left right) ++ []) h
  free s t h (Switch' p on n branches) = free_branches s t h on branches
  free s t h (Reset' p n body every) = free_body s t h every body
  free s t h (Automaton' p n states) = free_states s t h (strong_in states) (map (λ c. c.label) (states_in states)) states

  free_all : {n : _} (s t : Surroundings) → around s ≡ around t → (row : Row_of-Equation n) → flat_map flow_in (parts_of_all s row) ≡ flat_map flow_in (parts_of_all t row)
  free_all s t h end_of-Equation = refl
  free_all s t h (more_of-Equation e rest) = joined (parts_of s e) (parts_of_all s rest) (parts_of t e) (parts_of_all t rest) (free s t h e) (free_all s t h rest)

  free_branches : {n : _} (s t : Surroundings) → around s ≡ around t → (on : Expr) (row : Row_of-Branch n) → flat_map flow_in (parts_of_branches s on row) ≡ flat_map flow_in (parts_of_branches t on row)
  free_branches s t h on end_of-Branch = refl
  free_branches s t h on (more_of-Branch p tag locals n body rest) =
      let si = Branch_of on locals ∷ s in
      let ti = Branch_of on locals ∷ t in
      let hi : around si ≡ around ti = ap (λ ds. reads on.form ++ ds) h in
      joined (parts_of_all si body) (parts_of_branches s on rest) (parts_of_all ti body) (parts_of_branches t on rest) (free_all si ti hi body) (free_branches s t h on rest)

  free_body : {n : _} (s t : Surroundings) → around s ≡ around t → (every : Expr) (row : Row_of-Block n) → flat_map flow_in (parts_of_body s every row) ≡ flat_map flow_in (parts_of_body t every row)
  free_body s t h every end_of-Block = refl
  free_body s t h every (more_of-Block locals n body rest) =
      let si = Body_of every locals ∷ s in
      let ti = Body_of every locals ∷ t in
      let hi : around si ≡ around ti = ap (λ ds. reads every.form ++ ds) h in
      joined (parts_of_all si body) (parts_of_body s every rest) (parts_of_all ti body) (parts_of_body t every rest) (free_all si ti hi body) (free_body s t h every rest)

  free_states : {n : _} (s t : Surroundings) → around s ≡ around t → (strong : List Expr) (names : List Name) (row : Row_of-State n) → flat_map flow_in (parts_of_states s strong names row) ≡ flat_map flow_in (parts_of_states t strong names row)
  free_states s t h strong names end_of-State = refl
  free_states s t h strong names (more_of-State p name locals n body weak own rest) =
      let si = State_of strong locals ∷ s in
      let ti = State_of strong locals ∷ t in
      let hi : around si ≡ around ti = ap (λ ds. flat_map (λ e. reads e.form) strong ++ ds) h in
      joined (parts_of_all si body ++ transitions si false names weak ++ transitions s true names own) (parts_of_states s strong names rest)
      (parts_of_all ti body ++ transitions ti false names weak ++ transitions t true names own) (parts_of_states t strong names rest)
      (joined (parts_of_all si body ++ transitions si false names weak) (transitions s true names own) (parts_of_all ti body ++ transitions ti false names weak) (transitions t true names own)
      (joined (parts_of_all si body) (transitions si false names weak) (parts_of_all ti body) (transitions ti false names weak) (free_all si ti hi body) (same_escapes si ti false names weak))
      (same_escapes s t true names own))
      (free_states s t h strong names rest)

-- lists
flat_each : {X : Type 0} (f : X → List Placed) (g : X → List DataFlow) → ((x : X) → flat_map flow_in (f x) ≡ g x) → (xs : List X) → flat_map flow_in (flat_map f xs) ≡ flat_map g xs
flat_each f g e [] = refl
flat_each f g e (x ∷ xs) = flat_map-append flow_in (f x) (flat_map f xs) ∙ (ap (λ t. t ++ flat_map flow_in (flat_map f xs)) (e x) ∙ ap (λ t. g x ++ t) (flat_each f g e xs))

reads_of_vars : (names : List Name) → flat_map (λ (e : Expr). reads e.form) (map (λ x. record { place = record { 0 = 0 }; form = form.Var x }) names) ≡ names
reads_of_vars [] = refl
reads_of_vars (x ∷ xs) = ap (λ t. t ++ flat_map (λ (e : Expr). reads e.form) (map (λ x. record { place = record { 0 = 0 }; form = form.Var x }) xs)) (reads-Var x) ∙ ap (λ t. x ∷ t) (reads_of_vars xs)

around_reading : (names : List Name) → around (site_reading names) ≡ names
around_reading names = append-nil _ ∙ reads_of_vars names

-- the equations of a block at a site around which these are read
of_body : (s : Surroundings) (names : List Name) (block : b.Block) → around s ≡ names → flat_map flow_in (block_parts s block) ≡ flows_of_all names block.body
of_body s names block h = flat_each (parts_of s) (flows_of names) (λ e. free s (site_reading names) (h ∙ sym (around_reading names)) e) block.body

of_state : (s : Surroundings) (names : List Name) (qs : List State) (q : State) → around s ≡ names
    → flat_map flow_in (state_parts s (strong_of_all qs) (map (λ c. c.label) (map state_case qs)) q) ≡ flows_of_all (strong_reads qs ++ names) q.block.body
of_state s names qs q h =
    let si = State_of (strong_of_all qs) q.block.locals ∷ s in
    let labels = map (λ (c : _). c.label) (map state_case qs) in
    flat_map-append flow_in (block_parts si q.block ++ transitions si false labels q.weak) (transitions s true labels q.strong)
    ∙ (ap (λ t. flat_map flow_in (block_parts si q.block ++ transitions si false labels q.weak) ++ t) (none_of_escapes s true labels q.strong)
    ∙ (append-nil _ ∙ (flat_map-append flow_in (block_parts si q.block) (transitions si false labels q.weak)
    ∙ (ap (λ t. flat_map flow_in (block_parts si q.block) ++ t) (none_of_escapes si false labels q.weak)
    ∙ (append-nil _ ∙ of_body si (strong_reads qs ++ names) q.block (ap (λ t. strong_reads qs ++ t) h))))))

pub flows-Define : (names : List Name) (p : Place) (left : List Name) (right : Expr) → flows_of names (eq.Define p left right) ≡ record { left = left; right = right; reads = reads right.form ++ names } ∷ []
flows-Define names p left right = ap (flat_map flow_in) (parts-Define (site_reading names) p left right) ∙ ap (λ t. flow_by t (Plain p.0 left right) ++ []) (around_reading names)

pub flows-Switch : (names : List Name) (p : Place) (on : Expr) (bs : List Branch) → flows_of names (eq.Switch p on bs) ≡ flat_map (λ b. flows_of_all (reads on.form ++ names) b.block.body) bs
flows-Switch names p on bs =
    ap (flat_map flow_in) (parts-Switch (site_reading names) p on bs)
    ∙ flat_each (λ b. block_parts (Branch_of on b.block.locals ∷ site_reading names) b.block) (λ b. flows_of_all (reads on.form ++ names) b.block.body)
    (λ b. of_body (Branch_of on b.block.locals ∷ site_reading names) (reads on.form ++ names) b.block (ap (λ t. reads on.form ++ t) (around_reading names))) bs

pub flows-Reset : (names : List Name) (p : Place) (block : b.Block) (every : Expr) → flows_of names (eq.Reset p block every) ≡ flows_of_all (reads every.form ++ names) block.body
flows-Reset names p block every =
    ap (flat_map flow_in) (parts-Reset (site_reading names) p block every)
    ∙ of_body (Body_of every block.locals ∷ site_reading names) (reads every.form ++ names) block (ap (λ t. reads every.form ++ t) (around_reading names))

pub flows-Automaton : (names : List Name) (p : Place) (qs : List State) → flows_of names (eq.Automaton p qs) ≡ flat_map (λ q. flows_of_all (strong_reads qs ++ names) q.block.body) qs
flows-Automaton names p qs =
    ap (flat_map flow_in) (parts-Automaton (site_reading names) p qs)
    ∙ flat_each (state_parts (site_reading names) (strong_of_all qs) (map (λ c. c.label) (map state_case qs))) (λ q. flows_of_all (strong_reads qs ++ names) q.block.body)
    (λ q. of_state (site_reading names) names qs q (around_reading names)) qs

pub ruleset flows_by_form = (flows-Define, flows-Switch, flows-Reset, flows-Automaton, append_assoc, append-nil, take_all)

-- all parts of a node
pub flows_of_parts : (node : Node) → flat_map flow_in (parts node) ≡ node_flows node
flows_of_parts node = flat_each (parts_of []) (flows_of []) (λ e. free [] (site_reading []) refl e) node.block.body

-- strong conditions, state by state
of_conditions : (es : List Escape) → flat_map (λ e. reads e.form) (conditions_of es) ≡ flat_map (λ e. reads e.condition.form) es
of_conditions [] = refl
of_conditions (e ∷ es) = ap (λ t. reads e.condition.form ++ t) (of_conditions es)

pub strong_each : (qs : List State) → strong_reads qs ≡ flat_map (λ q. flat_map (λ e. reads e.condition.form) q.strong) qs
strong_each [] = refl
strong_each (q ∷ qs) =
    flat_map-append (λ e. reads e.form) (conditions_of q.strong) (strong_of_all qs)
    ∙ (ap (λ t. t ++ strong_reads qs) (of_conditions q.strong) ∙ ap (λ t. flat_map (λ e. reads e.condition.form) q.strong ++ t) (strong_each qs))

pub ruleset strong_of = (strong_each, append_assoc, append-nil, take_all)
