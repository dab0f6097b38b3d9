-- What the solved conditions of a node say of its clocks.
use Rattle.std.proofs.Common.{◌≡◌, ℕ, ◌+◌, ◌≤◌, List, [], ◌∷◌, length, map, refl, sym, ◌∙◌, ap, arith, subst, Bool, true, false, ◌||◌}
use Rattle.std.specs.Prelude.{All, sum_by}
use Rattle.std.proofs.lemmas.List.{length-map}
use Rattle.std.proofs.lemmas.List.Sums.{sum_by-cons}
use Rattle.std.proofs.lemmas.List.Elements.{All-nil, All-cons}
use Rattle.std.proofs.lemmas.Slice.Eq.{bytes_eq-Decides}
use Rattle.hept_ast.specs.Texts.{Name, is_in, names, same}
use Rattle.hept_ast.specs.Parts.{expressions, variables}
use Rattle.hept_ast.specs.Scopes.{Clock}
use Rattle.hept_ast.specs.Clocks.{conditions}
use Rattle.hept_ast.specs.declared.tree.Decl.{Decl}
use Rattle.hept_ast.specs.declared.tree.Node.{Node}
use Rattle.hept_ast.specs.declared.tree.ClockStep.{ClockStep}
use Rattle.clock_calculus.specs.Collecting.{collection, of_node}
use Rattle.clock_calculus.specs.Noted.{IsSolvedNode, SolutionOf}
use Rattle.clock_calculus.specs.Numbering.{IsNumbered, KnowsStep, equation_of, equations_of, names_of, solved_clock, steps_of}
use Rattle.clock_calculus.specs.Proper.{AreProper}
use Rattle.clock_calculus.specs.Solving.{IsAnswer}
use Rattle.clock_calculus.specs.Unify.{least}
use Rattle.clock_calculus.specs.Written.{clock_term, condition_of}
use Rattle.clock_calculus.specs.declared.conditions.Condition.{Condition}
use Rattle.clock_calculus.specs.declared.conditions.Collected.{Collected}
use Rattle.clock_calculus.specs.declared.numbers.Numbers.{Numbers}
use Rattle.clock_calculus.specs.declared.solve.Solution as solution
use Rattle.clock_calculus.specs.declared.solve.Solution.TheVariants as variant
use Rattle.clock_calculus.proofs.Numbered.{known_all}
use Rattle.clock_calculus.proofs.ProperOf.{conditions_proper}
use Rattle.clock_calculus.proofs.Translated.{KnowsAll, proper_numbered, from_numbers, solved_meets, solved_least, clash_before, clash_with}

numbered_all : (V : List Name) (S : List ClockStep) (n : ℕ) (cs : List Condition) → AreProper V n (map condition_of cs) → All (λ c. IsNumbered (length V + n) V S (condition_of c)) cs
numbered_all V S n [] p = All-nil (λ c. IsNumbered (length V + n) V S (condition_of c))
numbered_all V S n (c ∷ cs) p = All-cons (λ c. IsNumbered (length V + n) V S (condition_of c)) c cs (proper_numbered V S n (condition_of c) p.0) (numbered_all V S n cs p.1)

mapped_twice : (V : List Name) (S : List ClockStep) (cs : List Condition) → map (λ c. equation_of V S (condition_of c)) cs ≡ map (equation_of V S) (map condition_of cs)
mapped_twice V S [] = refl
mapped_twice V S (c ∷ cs) = ap (λ t. equation_of V S (condition_of c) ∷ t) (mapped_twice V S cs)

or_second : (a b : Bool) → b ≡ true → (a || b) ≡ true
or_second true b e = refl
or_second false b e = e

-- clocks that are nowhere longer have no greater total
sums : (c d : Name → Clock) (ds : List Decl) → ((x : Name) → is_in x (names ds) ≡ true → length (c x) ≤ length (d x)) → sum_by (λ (e : Decl). length (c e.name)) ds ≤ sum_by (λ (e : Decl). length (d e.name)) ds
sums c d [] h = omega arith
sums c d (e ∷ ds) h =
    let here : length (c e.name) ≤ length (d e.name) = h e.name (ap (λ t. t || is_in e.name (names ds)) ((bytes_eq-Decides e.name e.name).1 refl)) in
    let rest = sums c d ds (λ x i. h x (or_second (same x e.name) (is_in x (names ds)) i)) in
    omega (arith, here, rest, sum_by-cons (λ (e : Decl). length (c e.name)) e ds, sum_by-cons (λ (e : Decl). length (d e.name)) e ds)

-- by the variables and the conditions of the node
solution_of : (node : Node) (S : List ClockStep) (u : ℕ) → KnowsAll (names (variables node)) S (conditions node) → (s : solution.Solution) → IsAnswer u (map (equation_of (names (variables node)) S) (conditions node)) s → SolutionOf node (names (variables node)) S s
unfolding from_numbers solved_clock
solution_of node S u known (variant.Solved b) a =
    let V = names (variables node) in
    let m = solved_meets V S u b.items (conditions node) known a in
    record {
      meets = ((from_numbers V S (least b.items)).expression, m);
      least = λ d k. sums (solved_clock V S b.items) d (variables node) (λ x i. solved_least V S u (length (expressions node)) b.items (conditions node) (conditions_proper node) a (record { variable = d; expression = k.0 }) k.1 x i);
    }
solution_of node S u known (variant.Clash place) a =
    let V = names (variables node) in
    record { before_it = clash_before V S place.0 (conditions node) known a; with_it = clash_with V S (length (expressions node)) place.0 (conditions node) (conditions_proper node) a }

module _ (node : Node) (col : Collected) (e : collection col ≡ of_node node) (cs : List Condition) (same_cs : cs ≡ col.conditions.items) where
  variables_are : map (λ r. r.now) col.variables.items ≡ names (variables node)
  variables_are = ap (λ s. s.variables) e

  conditions_are : map condition_of cs ≡ conditions node
  conditions_are = ap (map condition_of) same_cs ∙ ap (λ s. s.conditions) e

  pub all_numbered : (S : List ClockStep) (u : ℕ) → u ≡ length col.variables.items + col.expressions → All (λ c. IsNumbered u (map (λ r. r.now) col.variables.items) S (condition_of c)) cs
  all_numbered S u h =
      let V = map (λ r. r.now) col.variables.items in
      let p : AreProper V col.expressions (map condition_of col.conditions.items) = subst (λ s. AreProper s.variables s.count s.conditions) (sym e) (conditions_proper node) in
      let n : length V + col.expressions ≡ u = ap (λ t. t + col.expressions) (length-map col.variables.items (λ r. r.now)) ∙ sym h in
      subst (λ t. All (λ c. IsNumbered t V S (condition_of c)) cs) n (numbered_all V S col.expressions cs (subst (λ t. AreProper V col.expressions (map condition_of t)) (sym same_cs) p))

  pub solved_node : (n : Numbers) → names_of n ≡ map (λ r. r.now) col.variables.items → All (λ c. KnowsStep (steps_of n) (clock_term c.right)) cs → (s : solution.Solution) → IsAnswer n.unknowns (equations_of n cs) s
      → IsSolvedNode node (record { numbers = n; solution = s })
  solved_node n named known s a =
      let v : names_of n ≡ names (variables node) = named ∙ variables_are in
      let S = steps_of n in
      let k : KnowsAll (names (variables node)) S (conditions node) = subst (λ t. KnowsAll (names (variables node)) S t) conditions_are (known_all (names (variables node)) S cs known) in
      let q : equations_of n cs ≡ map (equation_of (names (variables node)) S) (conditions node) = mapped_twice (names_of n) S cs ∙ ap (λ t. map (equation_of (names_of n) S) t) conditions_are ∙ ap (λ V. map (equation_of V S) (conditions node)) v in
      record {
        named = v;
        solution = subst (λ V. SolutionOf node V S s) (sym v) (solution_of node S n.unknowns k s (subst (λ es. IsAnswer n.unknowns es s) q a));
      }
