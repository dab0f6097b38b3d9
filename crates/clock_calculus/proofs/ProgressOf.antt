-- One node after another: their clocks, or the place where they have none.
use Rattle.std.proofs.Common.{◌≡◌, ℕ, ◌+◌, ◌<◌, ◌≤◌, ◌≢◌, List, [], ◌∷◌, length, take, refl, sym, ◌∙◌, ap, arith, subst, Bool, true, false, if◌then◌else◌, ◌==◌, ◌&&◌, ◌⊎◌, inl, inr, Some, None, nat_lt, nat_le, slice_index_or, cond}
use Rattle.std.specs.Prelude.{Option, All, filter, is_some, slice_get}
use Rattle.std.proofs.lemmas.Bool.{cases_lt}
use Rattle.std.proofs.lemmas.Bool.Decides.{nat_tests}
use Rattle.std.proofs.lemmas.List.{get_or-take, length-take, take_all}
use Rattle.std.proofs.lemmas.List.Elements.{All-more}
use Rattle.std.proofs.lemmas.Option.{slice_get-get_or, slice_get_past, slice_get_within, same_Some}
use mathlib.Core.Path.{fun_ext}
use Rattle.hept_ast.specs.Texts.{Name, is_in, names, same}
use Rattle.hept_ast.specs.Parts.{variables}
use Rattle.hept_ast.specs.Scopes.{Clock}
use Rattle.hept_ast.specs.Clocks.{Assignment, AreLeastClocks, CanMeet, Condition, Meets, before, conditions, up_to}
use Rattle.hept_ast.specs.ClockMaps.{ClockMap, clock_in, path_in, steps_or_none}
use Rattle.hept_ast.specs.Stages.{HasLeastClocks, declares_at, declares_in}
use Rattle.hept_ast.specs.declared.name.Place.{Place}
use Rattle.hept_ast.specs.declared.tree.ClockPath.{ClockPath}
use Rattle.hept_ast.specs.declared.tree.ClockStep.{ClockStep}
use Rattle.hept_ast.specs.declared.tree.Node.{Node}
use Rattle.hept_ast.specs.declared.tree.Program.{Program}
use Rattle.clock_calculus.specs.Checked.{HasNoClock}
use Rattle.clock_calculus.specs.Filled.{IsFilled}
use Rattle.clock_calculus.specs.Noted.{AreClockedUpTo, IsClashIn, IsNoClockIn, IsNoted, IsNotedAs, IsProgress, IsSolvedNode, SolutionOf}
use Rattle.clock_calculus.specs.Numbering.{clock_path, names_of, solved_clock, steps_of}
use Rattle.clock_calculus.specs.Unify.{Bindings, base_path, least}
use Rattle.clock_calculus.specs.declared.nodes.SolvedNode.{SolvedNode}
use Rattle.clock_calculus.specs.declared.solve.Solution as solution
use Rattle.clock_calculus.specs.declared.solve.Solution.TheVariants as variant
use Rattle.clock_calculus.proofs.Bindings.{same_or_not}
use Rattle.clock_calculus.proofs.Translated.{not_listed}

none_is : (o : Option ClockPath) → is_some o ≡ false → o ≡ None
none_is None e = refl
none_is (Some p) e = cc

not_below : (i : ℕ) → nat_lt i i ≡ false
not_below i = grind (arith, nat_tests)

-- ---- fewer conditions

fewer_tested : (a : Assignment) (keep less : Condition → Bool) (c : Condition) (cs : List Condition) (t u : Bool) → (u ≡ true → t ≡ true) → (Meets a (filter keep cs) → Meets a (filter less cs))
    → Meets a (cond t (c ∷ filter keep cs) (filter keep cs)) → Meets a (cond u (c ∷ filter less cs) (filter less cs))
fewer_tested a keep less c cs true true h f m = (m.0, f m.1)
fewer_tested a keep less c cs true false h f m = f m.1
fewer_tested a keep less c cs false true h f m = let e = h refl in cc
fewer_tested a keep less c cs false false h f m = f m

fewer : (a : Assignment) (keep less : Condition → Bool) → ((c : Condition) → less c ≡ true → keep c ≡ true) → (cs : List Condition) → Meets a (filter keep cs) → Meets a (filter less cs)
fewer a keep less h [] m = m
fewer a keep less h (c ∷ cs) m = fewer_tested a keep less c cs (keep c) (less c) (h c) (fewer a keep less h cs) m

some_tested : (a : Assignment) (keep : Condition → Bool) (c : Condition) (cs : List Condition) (t : Bool) → Meets a (filter keep cs) → Meets a (c ∷ cs) → Meets a (cond t (c ∷ filter keep cs) (filter keep cs))
some_tested a keep c cs true f m = (m.0, f)
some_tested a keep c cs false f m = f

some : (a : Assignment) (keep : Condition → Bool) (cs : List Condition) → Meets a cs → Meets a (filter keep cs)
some a keep [] m = m
some a keep (c ∷ cs) m = some_tested a keep c cs (keep c) (some a keep cs m.1) m

less_before : (r p n : ℕ) → r ≤ p → nat_lt n r ≡ true → nat_lt n p ≡ true
less_before r p n h e = grind (arith, nat_tests)

before_less : (r p : ℕ) → r ≤ p → (cs : List Condition) → CanMeet (before p cs) → CanMeet (before r cs)
before_less r p h cs m = (m.0, fewer m.0 (λ c. nat_lt c.place p) (λ c. nat_lt c.place r) (λ c e. less_before r p c.place h e) cs m.1)

-- a node with clocks meets all its conditions
clocked_before : (node : Node) (c : Name → Clock) (p : ℕ) → AreLeastClocks node c → CanMeet (before p (conditions node))
clocked_before node c p l = (record { variable = c; expression = l.meets.0 }, some _ (λ d. nat_lt d.place p) (conditions node) l.meets.1)

-- ---- the first nodes

module _ (nodes : List Node) (i : ℕ) (node : Node) (below : i < length nodes) (at : node ≡ slice_index_or nodes i node) where
  all_but_last : (P : Node → Type 0) → All P (take (i + 1) nodes) → All P (take i nodes)
  all_but_last P all k d h =
      let ki : k < i = omega (arith, length-take i nodes) in
      subst P (get_or-take (i + 1) nodes k d (omega arith) ∙ sym (get_or-take i nodes k d ki)) (all k d (omega (arith, length-take (i + 1) nodes)))

  last_one : (P : Node → Type 0) → All P (take (i + 1) nodes) → P node
  last_one P all = subst P (get_or-take (i + 1) nodes i node (omega arith) ∙ sym at) (all i node (omega (arith, length-take (i + 1) nodes)))

  and_last : (P : Node → Type 0) → All P (take i nodes) → P node → All P (take (i + 1) nodes)
  and_last P all h = All-more P nodes i node below all (subst P at h)

  abbrev Before : ℕ → Node → Type 0
  Before p n = CanMeet (before p (conditions n))

  abbrev UpTo : ℕ → Node → Type 0
  UpTo p n = CanMeet (up_to p (conditions n))

  first_before : (p : ℕ) (m : ClockMap) → AreClockedUpTo nodes i m → All (Before p) (take i nodes)
  first_before p m c k d h =
      let ki : k < i = omega (arith, length-take i nodes) in
      let n = slice_index_or nodes k d in
      subst (Before p) (sym (get_or-take i nodes k d ki)) (clocked_before n (clock_in m k) p (c.least k n ki (slice_get-get_or nodes k d (omega arith))))

  clash_first : (p : ℕ) (m : ClockMap) → AreClockedUpTo nodes i m → IsClashIn node p → IsNoClockIn (take (i + 1) nodes) p
  clash_first p m c s = record { before_it = and_last (Before p) (first_before p m c) s.before_it; with_it = λ all. s.with_it (last_one (UpTo p) all) }

  clash_earlier : (p q : ℕ) → q ≤ p → IsNoClockIn (take i nodes) p → IsClashIn node q → IsNoClockIn (take (i + 1) nodes) q
  clash_earlier p q h c s = record { before_it = and_last (Before q) (λ k d l. before_less q p h (conditions (slice_index_or (take i nodes) k d)) (c.before_it k d l)) s.before_it; with_it = λ all. s.with_it (last_one (UpTo q) all) }

  clash_kept : (p : ℕ) → IsNoClockIn (take i nodes) p → Before p node → IsNoClockIn (take (i + 1) nodes) p
  clash_kept p c s = record { before_it = and_last (Before p) c.before_it s; with_it = λ all. c.with_it (all_but_last (UpTo p) all) }

  lt_le : (q p : ℕ) → nat_lt q p ≡ true → q ≤ p
  lt_le q p e = grind (arith, nat_tests)

  not_lt_le : (q p : ℕ) → nat_lt q p ≡ false → p ≤ q
  not_lt_le q p e = grind (arith, nat_tests)

  clash_either : (p q : Place) (t : Bool) → nat_lt q.0 p.0 ≡ t → IsNoClockIn (take i nodes) p.0 → IsClashIn node q.0 → IsNoClockIn (take (i + 1) nodes) ((if t then q else p).0)
  clash_either p q true e c s = clash_earlier p.0 q.0 (lt_le q.0 p.0 e) c s
  clash_either p q false e c s = clash_kept p.0 c (before_less p.0 q.0 (not_lt_le q.0 p.0 e) (conditions node) s.before_it)

  -- ---- a node whose clocks are set

  module _ (xs : List Name) (named : xs ≡ names (variables node)) (S : List ClockStep) (b : Bindings) (old new : ClockMap) (c : AreClockedUpTo nodes i old) (f : IsFilled old new i xs (solved_clock xs S b)) (l : AreLeastClocks node (solved_clock xs S b)) where
    apart : (k : ℕ) → k ≢ i → (k == i) ≡ false
    apart k h = grind (arith, nat_tests)

    same_here : (i == i) ≡ true
    same_here = grind (arith, nat_tests)

    elsewhere : (k : ℕ) → k ≢ i → (y : Name) → path_in new k y ≡ path_in old k y
    elsewhere k h y = f k y ∙ ap (λ t. if t && is_in y xs then Some (record { steps = solved_clock xs S b y }) else path_in old k y) (apart k h)

    none_here : (y : Name) → path_in old i y ≡ None
    none_here y = none_is (path_in old i y) (c.exact i y ∙ ap (λ t. if t then declares_at nodes i y else false) (not_below i))

    here : (y : Name) → path_in new i y ≡ (if is_in y xs then Some (record { steps = solved_clock xs S b y }) else None)
    here y =
        f i y ∙ ap (λ t. if t && is_in y xs then Some (record { steps = solved_clock xs S b y }) else path_in old i y) same_here
        ∙ ap (λ o. if is_in y xs then Some (record { steps = solved_clock xs S b y }) else o) (none_here y)

    steps_tested : (y : Name) (t : Bool) → is_in y xs ≡ t → steps_or_none (if t then Some (record { steps = solved_clock xs S b y }) else None) ≡ solved_clock xs S b y
    unfolding solved_clock
    steps_tested y true e = refl
    steps_tested y false e = ap (λ o. clock_path S (base_path (least b) o)) (sym (not_listed (same y) xs e))

    clocks_here : (y : Name) → clock_in new i y ≡ solved_clock xs S b y
    clocks_here y = ap steps_or_none (here y) ∙ steps_tested y (is_in y xs) refl

    least_here : AreLeastClocks node (clock_in new i)
    least_here = subst (AreLeastClocks node) (sym (fun_ext clocks_here)) l

    least_elsewhere : (k : ℕ) (n : Node) → k ≢ i → AreLeastClocks n (clock_in old k) → AreLeastClocks n (clock_in new k)
    least_elsewhere k n h m = subst (AreLeastClocks n) (sym (fun_ext (λ y. ap steps_or_none (elsewhere k h y)))) m

    node_there : slice_get nodes i ≡ Some node
    node_there = slice_get-get_or nodes i node below ∙ ap Some (sym at)

    some_or_none : (p : ClockPath) (t : Bool) → is_some (if t then Some p else None) ≡ t
    some_or_none p true = refl
    some_or_none p false = refl

    exact_here : (y : Name) → is_some (path_in new i y) ≡ declares_at nodes i y
    exact_here y =
        ap is_some (here y) ∙ some_or_none (record { steps = solved_clock xs S b y }) (is_in y xs) ∙ ap (is_in y) named ∙ ap (λ o. declares_in o y) (sym node_there)

    same_test : (k : ℕ) → k ≢ i → nat_lt k i ≡ nat_lt k (i + 1)
    same_test k h = grind (arith, nat_tests)

    below_next : nat_lt i (i + 1) ≡ true
    below_next = grind (arith, nat_tests)

    clocked_more : AreClockedUpTo nodes (i + 1) new
    clocked_more = record {
      least = λ k n h e. elim (same_or_not k i) [
        | inl s ↦
            let g : n ≡ node = same_Some n node (sym e ∙ ap (slice_get nodes) s ∙ node_there) in
            subst (λ j. AreLeastClocks n (clock_in new j)) (sym s) (subst (λ m. AreLeastClocks m (clock_in new i)) (sym g) least_here)
        | inr s ↦ least_elsewhere k n s (c.least k n (omega arith) e)
      ];
      exact = λ k y. elim (same_or_not k i) [
        | inl s ↦ subst (λ j. is_some (path_in new j y) ≡ (if nat_lt j (i + 1) then declares_at nodes j y else false)) (sym s) (exact_here y ∙ ap (λ t. if t then declares_at nodes i y else false) (sym below_next))
        | inr s ↦ ap is_some (elsewhere k s y) ∙ c.exact k y ∙ ap (λ t. if t then declares_at nodes k y else false) (same_test k s)
      ];
    }

  -- ---- one more node

  noted : (xs : List Name) → xs ≡ names (variables node) → (S : List ClockStep) (s : solution.Solution) → SolutionOf node xs S s → (old new : ClockMap) (first next : Option Place) → IsProgress nodes i old first → IsNotedAs xs S s i old first new next → IsProgress nodes (i + 1) new next
  noted xs named S (variant.Clash q) s old new None next p h = subst (IsProgress nodes (i + 1) new) (sym h) (clash_first q.0 old p s)
  noted xs named S (variant.Clash q) s old new (Some r) next p h = subst (IsProgress nodes (i + 1) new) (sym h) (clash_either r q (nat_lt q.0 r.0) refl p s)
  noted xs named S (variant.Solved b) s old new None next p h = subst (IsProgress nodes (i + 1) new) (sym h.0) (clocked_more xs named S b.items old new p h.1 s)
  noted xs named S (variant.Solved b) s old new (Some r) next p h = subst (IsProgress nodes (i + 1) new) (sym h) (clash_kept r.0 p (clocked_before node (solved_clock xs S b.items) r.0 s))

  pub progress_more : (s : SolvedNode) → IsSolvedNode node s → (old new : ClockMap) (first next : Option Place) → IsProgress nodes i old first → IsNoted s i old first new next → IsProgress nodes (i + 1) new next
  progress_more s n old new first next p h = noted (names_of s.numbers) n.named (steps_of s.numbers) s.solution n.solution old new first next p h

-- ---- the first node, and the last

no_nodes : (k : ℕ) → nat_lt k 0 ≡ false
no_nodes k = grind (arith, nat_tests)

pub progress_none : (nodes : List Node) (m : ClockMap) → m ≡ [] → IsProgress nodes 0 m None
progress_none nodes m e = subst (λ m. IsProgress nodes 0 m None) (sym e) (record { least = λ k n h g. absurd (omega arith); exact = λ k x. ap (λ t. if t then declares_at nodes k x else false) (sym (no_nodes k)) })

nodes_tested : (nodes : List Node) (k : ℕ) (x : Name) → (k < length nodes) ⊎ (length nodes ≤ k) → (if nat_lt k (length nodes) then declares_at nodes k x else false) ≡ declares_at nodes k x
nodes_tested nodes k x (inl h) = let e : nat_lt k (length nodes) ≡ true = grind (arith, nat_tests) in ap (λ t. if t then declares_at nodes k x else false) e
nodes_tested nodes k x (inr h) =
    let e : nat_lt k (length nodes) ≡ false = grind (arith, nat_tests) in
    ap (λ t. if t then declares_at nodes k x else false) e ∙ ap (λ o. declares_in o x) (sym (slice_get_past nodes k h))

-- all nodes have their clocks
pub all_clocked : (program : Program) (m : ClockMap) → IsProgress program.nodes (length program.nodes) m None → HasLeastClocks program m
all_clocked program m c = record {
  least = λ k n e. c.least k n (slice_get_within program.nodes k n e) e;
  exact = λ k x. c.exact k x ∙ nodes_tested program.nodes k x (cases_lt k (length program.nodes));
}

-- or there is a place
pub none_clocked : (program : Program) (m : ClockMap) (p : Place) → IsProgress program.nodes (length program.nodes) m (Some p) → HasNoClock program p.0
none_clocked program m p c =
    let all : IsNoClockIn program.nodes p.0 = subst (λ ns. IsNoClockIn ns p.0) (take_all (length program.nodes) program.nodes (omega arith)) c in
    record {
      none = λ h. all.with_it (λ k d l. let a = h k d l in (record { variable = a.0; expression = a.1.0 }, some _ (λ e. nat_le e.place p.0) (conditions (slice_index_or program.nodes k d)) a.1.1));
      place = record { before_it = all.before_it; with_it = all.with_it };
    }
