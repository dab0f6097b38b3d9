-- Reads of variables end: where they have no cycle, no chain of them goes on without end.
use Rattle.std.proofs.Common.{◌≡◌, ℕ, zero, suc, ◌+◌, ◌<◌, ◌≤◌, Bool, true, false, ◌||◌, if◌then◌else◌, List, [], ◌∷◌, ◌++◌, map, length, refl, sym, ap, subst, ◌∙◌, ◌⊎◌, inl, inr, Option, Some, slice_get, unwrap_or, arith}
use Rattle.std.specs.Prelude.{⊤}
use Rattle.std.specs.List.{flat_map, find}
use Rattle.std.specs.Option.{option_map}
use Rattle.std.proofs.lemmas.Bool.{false≢true}
use Rattle.hept_ast.specs.Texts.{Name, same, is_in}
use Rattle.hept_ast.specs.Scopes.{Clock}
use Rattle.hept_ast.specs.Parts.{Surroundings, Part, Block, Plain, Switch, Reset, Automaton, Transition, Placed, parts}
use Rattle.hept_ast.specs.Causal.{HasNoCycle, InTurn, Reads, reads, reads_around, reads_in}
use Rattle.hept_ast.specs.ClockMaps.{clock_in, path_among, steps_or_none}
use Rattle.hept_ast.specs.declared.clocks.NamedClock.{NamedClock}
use Rattle.sound_expressions.specs.Sound.{Within}
use Rattle.accepted_meaning.specs.Running.{Run}
use Rattle.accepted_meaning.specs.Structure.{Accessible, ReadsEnd, reach}
use Rattle.sound_expressions.proofs.Lists.{is_in_left, is_in_right, same_is}

-- ---- a list without a name

without : Name → List Name → List Name
without x [] = []
without x (z ∷ zs) = if same x z then without x zs else z ∷ without x zs

kept_by : (b : Bool) (z : Name) (zs rest : List Name) → length rest ≤ length zs → length (if b then rest else z ∷ rest) ≤ length (z ∷ zs)
kept_by true z zs rest h = omega arith
kept_by false z zs rest h = omega arith

kept : (x : Name) (zs : List Name) → length (without x zs) ≤ length zs
unfolding without
kept x [] = omega arith
kept x (z ∷ zs) = kept_by (same x z) z zs (without x zs) (kept x zs)

fewer_by : (b : Bool) (z : Name) (zs rest : List Name) (r : Bool) → length rest ≤ length zs → (r ≡ true → length rest < length zs) → b || r ≡ true → length (if b then rest else z ∷ rest) < length (z ∷ zs)
fewer_by true z zs rest r h later e = omega arith
fewer_by false z zs rest r h later e = let k = later e in omega arith

fewer : (x : Name) (zs : List Name) → is_in x zs ≡ true → length (without x zs) < length zs
unfolding without
fewer x [] e = absurd (false≢true e)
fewer x (z ∷ zs) e = fewer_by (same x z) z zs (without x zs) (is_in x zs) (kept x zs) (fewer x zs) e

still_by : (b : Bool) (x y z : Name) (rest : List Name) (r : Bool) → same x z ≡ b → same y x ≡ false → (r ≡ true → is_in y rest ≡ true) → same y z || r ≡ true → is_in y (if b then rest else z ∷ rest) ≡ true
still_by true x y z rest r s n later e = go (same y z) refl e
  where
    go : (c : Bool) → same y z ≡ c → c || r ≡ true → is_in y rest ≡ true
    go true t e = absurd (false≢true (sym n ∙ subst (λ (v : Name). same y v ≡ true) (sym (same_is x z s)) t))
    go false t e = later e
still_by false x y z rest r s n later e = go (same y z) e
  where
    go : (c : Bool) → c || r ≡ true → c || is_in y rest ≡ true
    go true e = refl
    go false e = later e

still : (x y : Name) (zs : List Name) → same y x ≡ false → is_in y zs ≡ true → is_in y (without x zs) ≡ true
unfolding without
still x y [] n e = absurd (false≢true e)
still x y (z ∷ zs) n e = still_by (same x z) x y z (without x zs) (is_in y zs) refl n (still x y zs n) e

-- ---- relations by lists

-- each name of a path leads to the one before, and the first to x
abbrev pub Chain : (Name → Name → Type 0) → Name → List Name → Type 0
Chain R x [] = ⊤
Chain R x (p ∷ ps) = R p x × Chain R p ps

-- each name that leads on is among these, and no path of at most as many names comes back
pub record Ends (R : Name → Name → Type 0) (all : List Name) : Type 0 where
  pub among : (x y : Name) → R x y → is_in x all ≡ true
  pub no_return : (x : Name) (path : List Name) → length path ≤ length all → Chain R x path → is_in x path ≡ true → ⊥

-- the names that are not on the path, at most so many
record LeftOver (all path rest : List Name) : Type 0 where
  covers : (z : Name) → is_in z all ≡ true → (is_in z path ≡ true) ⊎ (is_in z rest ≡ true)
  count : length path + length rest ≤ length all

left_over : (all path rest : List Name) (x : Name) → LeftOver all path rest → is_in x rest ≡ true → LeftOver all (x ∷ path) (without x rest)
left_over all path rest x h at = record {
  covers = λ z e. cover z (same z x) refl (h.covers z e);
  count = let k = fewer x rest at in omega (arith, h.count);
}
  where
    cover : (z : Name) (b : Bool) → same z x ≡ b → (is_in z path ≡ true) ⊎ (is_in z rest ≡ true) → (is_in z (x ∷ path) ≡ true) ⊎ (is_in z (without x rest) ≡ true)
    cover z true s e = inl (ap (λ b. b || is_in z path) s)
    cover z false s (inl e) = inl (ap (λ b. b || is_in z path) s ∙ e)
    cover z false s (inr e) = inr (still x z rest s e)

ends_from : (R : Name → Name → Type 0) (all : List Name) → Ends R all → (m : ℕ) (path rest : List Name) (x : Name) → length rest ≤ m → LeftOver all path rest → Chain R x path → Accessible R x
ends_from R all ends zero path rest x few left chain = reach (λ y r. go (left.covers x (ends.among x y r)))
  where
    go : {y : Name} → (is_in x path ≡ true) ⊎ (is_in x rest ≡ true) → Accessible R y
    go (inl e) = absurd (ends.no_return x path (omega (arith, left.count)) chain e)
    go (inr e) = let k = fewer x rest e in absurd (omega arith)
ends_from R all ends (suc m) path rest x few left chain =
    reach (λ y r. go y r (left.covers x (ends.among x y r)) (λ (e : is_in x rest ≡ true). ends_from R all ends m (x ∷ path) (without x rest) y (less e) (left_over all path rest x left e) (r, chain)))
  where
    less : is_in x rest ≡ true → length (without x rest) ≤ m
    less e = let k = fewer x rest e in omega arith

    go : (y : Name) → R x y → (is_in x path ≡ true) ⊎ (is_in x rest ≡ true) → (is_in x rest ≡ true → Accessible R y) → Accessible R y
    go y r (inl e) later = absurd (ends.no_return x path (omega (arith, left.count)) chain e)
    go y r (inr e) later = later e

pub all_end : (R : Name → Name → Type 0) (all : List Name) → Ends R all → (x : Name) → Accessible R x
all_end R all ends x = ends_from R all ends (length all) [] all x (omega arith) (record { covers = λ z e. inr e; count = omega arith }) tt

-- ---- no cycle

module _ (R : Name → Name → Type 0) (none : HasNoCycle R) where
  -- z and those after it lead to x
  come_round : (x z : Name) (later path : List Name) → InTurn R x (z ∷ later) → Chain R z path → is_in x path ≡ true → ⊥
  come_round x z later [] turn chain e = false≢true e
  come_round x z later (p ∷ ps) turn chain e = go (same x p) refl e (come_round x p (z ∷ later) ps (chain.0, turn) chain.1)
    where
      go : (b : Bool) → same x p ≡ b → b || is_in x ps ≡ true → (is_in x ps ≡ true → ⊥) → ⊥
      go true s e rest = none (x ∷ z ∷ later) (subst (λ (v : Name). R v z) (sym (same_is x p s)) chain.0, turn)
      go false s e rest = rest e

  no_return : (x : Name) (path : List Name) → Chain R x path → is_in x path ≡ true → ⊥
  no_return x [] chain e = false≢true e
  no_return x (p ∷ ps) chain e = go (same x p) refl e
    where
      go : (b : Bool) → same x p ≡ b → b || is_in x ps ≡ true → ⊥
      go true s e = none (x ∷ []) (subst (λ (v : Name). R v x) (sym (same_is x p s)) chain.0)
      go false s e = come_round x p [] ps chain.0 chain.1 e

-- ---- reads

abbrev lefts : Part → List Name
lefts (Plain p left right) = left
lefts _ = []

chosen : (b : Bool) (y : Name) (ys : List Name) → is_in y (if b then ys else []) ≡ true → b ≡ true
chosen true y ys e = refl
chosen false y ys e = absurd (false≢true e)

reads_from : (x y : Name) (site : Surroundings) (q : Part) → is_in y (reads_in x site q) ≡ true → is_in x (lefts q) ≡ true
reads_from x y site (Plain p left right) e = chosen (is_in x left) y (reads right.form ++ flat_map reads_around site) e
reads_from x y site (Block ds equations) e = absurd (false≢true e)
reads_from x y site (Switch p on cases) e = absurd (false≢true e)
reads_from x y site (Reset p every sets) e = absurd (false≢true e)
reads_from x y site (Automaton p cases) e = absurd (false≢true e)
reads_from x y site (Transition strong states t) e = absurd (false≢true e)

pub either_in : (y : Name) (xs ys : List Name) → is_in y (xs ++ ys) ≡ true → (is_in y xs ≡ true) ⊎ (is_in y ys ≡ true)
either_in y [] ys e = inr e
either_in y (x ∷ xs) ys e = go (same y x) e (either_in y xs ys)
  where
    go : (b : Bool) → b || is_in y (xs ++ ys) ≡ true → (is_in y (xs ++ ys) ≡ true → (is_in y xs ≡ true) ⊎ (is_in y ys ≡ true)) → (b || is_in y xs ≡ true) ⊎ (is_in y ys ≡ true)
    go true e later = inl refl
    go false e later = later e

reads_among : (x y : Name) (qs : List Placed) → is_in y (flat_map (λ q. reads_in x q.site q.part) qs) ≡ true → is_in x (flat_map (λ q. lefts q.part) qs) ≡ true
reads_among x y [] e = absurd (false≢true e)
reads_among x y (q ∷ qs) e = go (either_in y (reads_in x q.site q.part) (flat_map (λ (q : Placed). reads_in x q.site q.part) qs) e) (reads_among x y qs)
  where
    go : (is_in y (reads_in x q.site q.part) ≡ true) ⊎ (is_in y (flat_map (λ (q : Placed). reads_in x q.site q.part) qs) ≡ true) →
        (is_in y (flat_map (λ (q : Placed). reads_in x q.site q.part) qs) ≡ true → is_in x (flat_map (λ (q : Placed). lefts q.part) qs) ≡ true) → is_in x (lefts q.part ++ flat_map (λ (q : Placed). lefts q.part) qs) ≡ true
    go (inl e) later = is_in_left x (lefts q.part) (flat_map (λ (q : Placed). lefts q.part) qs) (reads_from x y q.site q.part e)
    go (inr e) later = is_in_right x (lefts q.part) (flat_map (λ (q : Placed). lefts q.part) qs) (later e)

-- a name with a clock other than the base clock is named in the map
clocked_by : (b : Bool) (c : NamedClock) (rest : Option NamedClock) (y : Name) (r : Bool) →
    (is_in y (map (λ s. s.name) (steps_or_none (option_map (λ (c : NamedClock). c.path) rest))) ≡ true → r ≡ true) →
    is_in y (map (λ s. s.name) (steps_or_none (option_map (λ (c : NamedClock). c.path) (if b then Some c else rest)))) ≡ true → b || r ≡ true
clocked_by true c rest y r later e = refl
clocked_by false c rest y r later e = later e

clocked_among : (cs : List NamedClock) (x y : Name) → is_in y (map (λ s. s.name) (steps_or_none (path_among cs x))) ≡ true → is_in x (map (λ c. c.name) cs) ≡ true
clocked_among [] x y e = absurd (false≢true e)
clocked_among (c ∷ cs) x y e = clocked_by (same x c.name) c (find (λ (d : NamedClock). same x d.name) cs) y (is_in x (map (λ (d : NamedClock). d.name) cs)) (clocked_among cs x y) e

pub reads_end : (r : Run) → ReadsEnd r
reads_end r k n x h = all_end (Reads k.node k.clock) (places ++ clocks) (record { among = among; no_return = λ y path few chain e. no_return (Reads k.node k.clock) h.sound_node.acyclic y path chain e }) x
  where
    places : List Name
    places = flat_map (λ (q : Placed). lefts q.part) (parts k.node)

    clocks : List Name
    clocks = map (λ (c : NamedClock). c.name) (unwrap_or (slice_get r.program.clocks n) [])

    clock_is : (y : Name) → k.clock y ≡ clock_in r.program.clocks n y
    clock_is y = ap (λ (w : Within). w.clock y) h.is

    among : (y z : Name) → Reads k.node k.clock y z → is_in y (places ++ clocks) ≡ true
    among y z e = go (either_in z (flat_map (λ (q : Placed). reads_in y q.site q.part) (parts k.node)) (map (λ s. s.name) (k.clock y)) e)
      where
        go : (is_in z (flat_map (λ (q : Placed). reads_in y q.site q.part) (parts k.node)) ≡ true) ⊎ (is_in z (map (λ s. s.name) (k.clock y)) ≡ true) → is_in y (places ++ clocks) ≡ true
        go (inl e) = is_in_left y places clocks (reads_among y z (parts k.node) e)
        go (inr e) = is_in_right y places clocks (clocked_among (unwrap_or (slice_get r.program.clocks n) []) y z (subst (λ (c : Clock). is_in z (map (λ s. s.name) c) ≡ true) (clock_is y) e))
