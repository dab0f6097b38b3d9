-- What a block defines is known where what is read is.
use Rattle.std.proofs.Common.{◌≡◌, ◌⊎◌, inl, inr, ℕ, zero, suc, ◌+◌, ◌<◌, Bool, true, false, ◌||◌, List, [], ◌∷◌, ◌++◌, map, Option, Some, length, refl, sym, ap, subst, arith, ◌∙◌}
use Rattle.std.specs.Prelude.{if◌then◌else◌, ◌==◌, Contains, slice_get, is_some}
use Rattle.std.specs.List.{flat_map}
use Rattle.std.proofs.lemmas.List.{length-map}
use Rattle.std.proofs.lemmas.List.Folds.{list_any-append}
use Rattle.hept_ast.specs.Texts.{Name, same, is_in, place_in, branch_of, tag_value}
use Rattle.hept_ast.specs.Scopes.{Clock, Text, Scope, In_branch, In_body, In_state, block_of, block_or_none, state_block}
use Rattle.hept_ast.specs.Parts.{Case, Surroundings, declaration, seen_at, sets_of, branch_case, state_case, strong_of_all}
use Rattle.hept_ast.specs.Causal.{Reads, reads}
use Rattle.hept_ast.specs.Meaning.{Question, Gives, Output, Last, Defined, Defines, Active_state, Answer, Value, Is, Rule, Asks, answer_to, if_defined, right_rule, defined_or_last, branch_rule, equation_rule, block_rule, defined_rule}
use Rattle.hept_ast.specs.Outputs.{asked}
use Rattle.hept_ast.specs.declared.name.Place.{Place}
use Rattle.hept_ast.specs.declared.tree.Expr.{Expr}
use Rattle.hept_ast.specs.declared.tree.Decl.{Decl}
use Rattle.hept_ast.specs.declared.tree.Ty.{Ty}
use Rattle.hept_ast.specs.declared.tree.TypeDec.{TypeDec}
use Rattle.hept_ast.specs.declared.tree.Block.{Block}
use Rattle.hept_ast.specs.declared.tree.Branch.{Branch}
use Rattle.hept_ast.specs.declared.tree.State.{State}
use Rattle.hept_ast.specs.declared.tree.Equation.{Equation, out-Equation}
use Rattle.hept_ast.specs.declared.tree.Equation.TheOpen.{Equation-F}
use Rattle.sound_expressions.specs.Sound.{Within, Sees, AreAllTags}
use Rattle.accepted_meaning.specs.SoundNodes.{SoundLeft, no_left, a_left, SoundSwitch, HasNoGap, all_sets}
use Rattle.accepted_meaning.specs.Placing.{site_of}
use Rattle.accepted_meaning.specs.Running.{Run, StandsIn, IsKnown, setting_of, types_in}
use Rattle.accepted_meaning.specs.Structure.{IsEquationOf}
use Rattle.accepted_meaning.specs.Asked.{AreReached, IsScoped}
use Rattle.accepted_meaning.proofs.KnownRules.{Known, Ends, known_by, answers, values, states}
use Rattle.accepted_meaning.proofs.KnownTrees.{never, IsSingle, single_of, in_first, in_more, in_parts, contains_first, contains_more, contains_map}
use Rattle.accepted_meaning.proofs.KnownScopes.{IsOn, scoped_step, Texts, Fits, Here, IsAround, around_branch, around_body, around_state, IsReady, StepsKnown, data_of, stands_in_branch, stands_in_body, stands_in_state}
use Rattle.accepted_meaning.proofs.KnownReached.{last_known, scoped_moved, with_body}
use Rattle.accepted_meaning.proofs.KnownForms.{AllIn, value_of, gives, outputs}
use Rattle.accepted_meaning.proofs.KnownAround.{InFrame, active_standing, active_state_known, branch_here, body_here, state_here, base_ready}
use Rattle.accepted_meaning.proofs.KnownTexts.{Descends, descend, inner_blocks, descends, contains_at, sets_define, sets_switch, sets_reset, sets_automaton}
use Rattle.accepted_meaning.proofs.KnownReads.{left_sees}

-- a question with a known answer
asks_at : (r : Run) (q : Question) (go : Answer → Rule) (a : Answer) → IsKnown r q a → Ends r (go a) → Ends r (Asks q go)
asks_at r q go a h n = record { answer = n.answer; follows = asked h n.follows; known = n.known }

-- ---- left sides

left_length : (k : Within) (site : Surroundings) (c : Clock) (left : List Name) (ts : List Ty) → SoundLeft k site c left ts → length left ≡ length ts
left_length k site c _ _ no_left = refl
left_length k site c _ _ (a_left {xs = xs} {ts = ts} sees free rest) = ap suc (left_length k site c xs ts rest)

place_next : (b c : Bool) (n m : ℕ) → (b || c) ≡ true → (c ≡ true → n < m) → (if b then 0 else n + 1) < suc m
place_next true c n m h k = omega arith
place_next false c n m h k = let l = k h in omega arith

place_within : (x : Name) (xs : List Name) → is_in x xs ≡ true → place_in x xs < length xs
place_within x [] i = absurd (none i)
  where
    none : is_in x [] ≡ true → ⊥
    none i = cc
place_within x (y ∷ ys) i = place_next (same x y) (is_in x ys) (place_in x ys) (length ys) i (place_within x ys)

chosen_by : (r : Run) (b : Bool) (c d : Rule) → (b ≡ true → Ends r c) → (b ≡ false → Ends r d) → Ends r (if b then c else d)
chosen_by r true c d h k = h refl
chosen_by r false c d h k = k refl

if_split : (r : Run) (b rest : Bool) (go : Bool → Rule) (d : Rule) → Ends r (go (b || rest)) → (Ends r (go rest) → Ends r d) → Ends r (if b then go true else d)
if_split r true rest go d h next = h
if_split r false rest go d h next = next h

some_same : {A : Type 0} (x y : A) → Some x ≡ Some y → x ≡ y
some_same x y h = cc

element_at : {A : Type 0} (xs : List A) (j : ℕ) → j < length xs → (x : A) × (slice_get xs j ≡ Some x)
element_at [] j l = absurd (omega (arith, l))
element_at (x ∷ xs) zero l = (x, refl)
element_at (x ∷ xs) (suc j) l = element_at xs j (omega (arith, l))

not_empty : {A : Type 0} (x : Name) (f : A → List Name) (xs : List A) → is_in x (flat_map f xs) ≡ true → 0 < length xs
not_empty x f [] h = absurd (none h)
  where
    none : is_in x [] ≡ true → ⊥
    none h = cc
not_empty x f (y ∷ ys) h = omega arith

module _ (r : Run) (texts : Texts r) (fits : Fits r) (k : Within) (f : Scope) (t : ℕ) (x : Name) (w : InFrame r k f t (Reads k.node k.clock x)) where
  -- what holds of an equation that defines x
  abbrev Step : Equation → Type 0
  Step e = (s : Scope) (d : Decl) (c : Clock) → IsAround f s → Here r k s t (Reads k.node k.clock x) → IsEquationOf r k s e → Sees k (site_of s) x d c → IsScoped r k s c → is_in x (sets_of e) ≡ true →
      Ends r (equation_rule (setting_of r) (out-Equation e) x s t)

  block_end : (s : Scope) (d : Decl) (c : Clock) → IsAround f s → Here r k s t (Reads k.node k.clock x) → Sees k (site_of s) x d c → IsScoped r k s c → (es : List Equation) → ((e : Equation) → Contains es e → Contains (block_of s).body e) →
      ((e : Equation) → Contains es e → Step e) → is_in x (flat_map sets_of es) ≡ true → Ends r (block_rule (setting_of r) es x s t)
  block_end s d c i here sees sc [] sub step sets = absurd (none sets)
    where
      none : is_in x [] ≡ true → ⊥
      none h = cc
  block_end s d c i here sees sc (e ∷ es) sub step sets =
      let h : IsEquationOf r k s e = record { stands = here.stands; in_block = sub e (zero, omega arith, refl) } in
      asks_at r (Defines x e) _ (Is (is_in x (sets_of e))) (texts.defines_is k s e x d (setting_of r) r.rows h sees.declared)
      (chosen_by r (is_in x (sets_of e)) (equation_rule (setting_of r) (out-Equation e) x s t) (block_rule (setting_of r) es x s t)
      (λ yes. step e (zero, omega arith, refl) s d c i here h sees sc yes)
      (λ no. block_end s d c i here sees sc es (λ y j. sub y (contains_more e es y j)) (λ y j. step y (contains_more e es y j)) (second no (in_parts x (sets_of e) (flat_map sets_of es) sets))))
    where
      second : is_in x (sets_of e) ≡ false → (is_in x (sets_of e) ≡ true) ⊎ (is_in x (flat_map sets_of es) ≡ true) → is_in x (flat_map sets_of es) ≡ true
      second n (inl y) = never (is_in x (sets_of e)) y n
      second n (inr y) = y

  defined_known : (s : Scope) (d : Decl) (c : Clock) → IsAround f s → Here r k s t (Reads k.node k.clock x) → Sees k (site_of s) x d c → IsScoped r k s c → ((e : Equation) → Contains (block_of s).body e → Step e) →
      is_in x (flat_map sets_of (block_of s).body) ≡ true → Known r (Defined x s t)
  defined_known s d c i here sees sc step sets = known_by r (Defined x s t)
      (subst (λ (text : Text). Ends r (defined_rule (setting_of r) text x s t)) (sym here.stands.text) (block_end s d c i here sees sc (block_of s).body (λ e j. j) step sets))

  -- whether a block defines x
  if_defined_end : (s : Scope) (d : Decl) (c : Clock) → StandsIn r k s → Sees k (site_of s) x d c → (es : List Equation) → ((e : Equation) → Contains es e → Contains (block_of s).body e) →
      (go : Bool → Rule) → Ends r (go (is_in x (flat_map sets_of es))) → Ends r (if_defined x es go)
  if_defined_end s d c stands sees [] sub go h = h
  if_defined_end s d c stands sees (e ∷ es) sub go h =
      asks_at r (Defines x e) _ (Is (is_in x (sets_of e)))
      (texts.defines_is k s e x d (setting_of r) r.rows (record { stands = stands; in_block = sub e (zero, omega arith, refl) }) sees.declared)
      (if_split r (is_in x (sets_of e)) (is_in x (flat_map sets_of es)) go (if_defined x es go)
      (subst (λ (b : Bool). Ends r (go b)) (list_any-append (same x) (sets_of e) (flat_map sets_of es)) h)
      (if_defined_end s d c stands sees es (λ y j. sub y (contains_more e es y j)) go))

  -- the definition in an inner block, or the last value
  inner_end : (inner outer : Scope) (d : Decl) (c : Clock) → IsAround f inner → Here r k inner t (Reads k.node k.clock x) → Sees k (site_of inner) x d c → IsScoped r k inner c → ((e : Equation) → Contains (block_of inner).body e → Step e) →
      (is_in x (flat_map sets_of (block_of inner).body) ≡ false → Known r (Last x outer t)) → Ends r (defined_or_last (setting_of r) (block_of inner) x inner outer t)
  inner_end inner outer d c i here sees sc step last =
      if_defined_end inner d c here.stands sees (block_of inner).body (λ e j. j) _
      (chosen_by r (is_in x (flat_map sets_of (block_of inner).body)) (answer_to (Defined x inner t)) (answer_to (Last x outer t))
      (λ yes. answers r (Defined x inner t) (defined_known inner d c i here sees sc step yes)) (λ no. answers r (Last x outer t) (last no)))

  -- ---- the forms of equations

  steps_by : (s : Scope) (before c : Clock) → Here r k s t (Reads k.node k.clock x) → IsScoped r k s before → AreReached r k s before c → AllIn (Reads k.node k.clock x) (map (λ z. z.name) c) → IsOn r s t → StepsKnown r c s t
  steps_by s before [] here sb sc all o = tt
  steps_by s before (step ∷ c) here sb sc all o = (
    here.reached step.name before (all step.name (in_first step.name _)) sc.0 sb o,
    steps_by s (before ++ step ∷ []) c here (scoped_step r k s before step sb sc.0) sc.1 (λ y i. all y (in_more y step.name _ i)) o,
  )

  pub clock_ready : (s : Scope) (d : Decl) (c : Clock) → Here r k s t (Reads k.node k.clock x) → Sees k (site_of s) x d c → IsScoped r k s c → IsReady r k s t c
  clock_ready s d c here sees sc = record {
    scoped = sc;
    steps = λ o. steps_by s [] c here tt sc (λ y i. texts.reads_clock k x y (subst (λ (z : Clock). is_in y (map (λ q. q.name) z) ≡ true) (sym (texts.clock_of_seen k (site_of s) x d c sees)) i)) o;
  }

  one_name : (n : ℕ) (ts : List Ty) → n ≡ length ts → (n == 1) ≡ true → IsSingle ts
  one_name n ts e h = single_of ts (subst (λ (m : ℕ). (m == 1) ≡ true) e h)

  many_names : (n : ℕ) (ts : List Ty) → n ≡ length ts → (n == 1) ≡ false → IsSingle ts → ⊥
  many_names n ts e h one = never (n == 1) (ap (λ (m : ℕ). m == 1) (e ∙ ap length one.is)) h

  define_end : (e : Equation) (p : Place) (left : List Name) (right : Expr) → out-Equation e ≡ Equation-F.Define p left right → (s : Scope) (d : Decl) (c : Clock) → Here r k s t (Reads k.node k.clock x) → IsEquationOf r k s e → Sees k (site_of s) x d c → IsScoped r k s c → is_in x (sets_of e) ≡ true →
      Ends r (equation_rule (setting_of r) (Equation-F.Define p left right) x s t)
  define_end e p left right eq s d c here h sees sc sets =
      let part = texts.sound_define k s e p left right h eq in
      let inside : is_in x left ≡ true = subst (λ (xs : List Name). is_in x xs ≡ true) (sets_define e p left right eq) sets in
      let seen = left_sees k (site_of s) part.0 left part.1 x part.3 inside in
      let same : c ≡ part.0 = sym (texts.clock_of_seen k (site_of s) x d c sees) ∙ texts.clock_of_seen k (site_of s) x seen.0 part.0 seen.1 in
      let ready = clock_ready s seen.0 part.0 here seen.1 (subst (λ (z : Clock). IsScoped r k s z) same sc) in
      let size = left_length k (site_of s) part.0 left part.1 part.3 in
      let reads_it : AllIn (Reads k.node k.clock x) (reads right.form) = λ y i. texts.reads_right k s e p left right x y h eq inside i in
      subst (λ (c : Clock). Ends r (right_rule (setting_of r) left right x c s t)) (sym (texts.clock_here k s x seen.0 part.0 here.stands seen.1))
      (chosen_by r (length left == 1) (answer_to (Gives right part.0 s t)) (answer_to (Output right (place_in x left) part.0 s t))
      (λ o. answers r (Gives right part.0 s t) (gives r texts fits k s t (Reads k.node k.clock x) here right part.0 part.1 part.2 reads_it ready (one_name (length left) part.1 size o)))
      (λ o. answers r (Output right (place_in x left) part.0 s t)
      (outputs r texts fits k s t (Reads k.node k.clock x) here right part.0 part.1 part.2 reads_it ready (many_names (length left) part.1 size o) (place_in x left)
      (subst (λ (n : ℕ). place_in x left < n) size (place_within x left inside)))))

  types_are : (s : Scope) → StandsIn r k s → k.types ≡ types_in r
  types_are s stands = ap (λ (z : Within). z.types) stands.of_node.is

  -- the last value of what a case leaves out
  gap_last : {A : Type 0} (s : Scope) (d : Decl) (c : Clock) (cases : List (Case A)) (one : Case A) (block : Block) → Here r k s t (Reads k.node k.clock x) → Sees k (site_of s) x d c → IsScoped r k s c → HasNoGap k (site_of s) cases → Contains cases one → is_in x (all_sets cases) ≡ true →
      is_in x one.sets ≡ is_in x (flat_map sets_of block.body) → is_in x (flat_map sets_of block.body) ≡ false → Known r (Last x s t)
  gap_last s d c cases one block here sees sc gap has sets same_sets none = split (gap one x has sets)
    where
      split : (is_in x one.sets ≡ true) ⊎ ((d : Decl) × (declaration (seen_at k.node (site_of s)) x ≡ Some d) × (is_some d.init ≡ true)) → Known r (Last x s t)
      split (inl i) = never (is_in x one.sets) i (same_sets ∙ none)
      split (inr (d', at, init)) = last_known texts here x d c sees sc (subst (λ (z : Decl). is_some z.init ≡ true) (some_same d' d (sym at ∙ sees.declared)) init)

  on_base : (s : Scope) (d : Decl) (c : Clock) → Sees k (site_of s) x d c → k.clock x ≡ [] → Sees k (site_of s) x d []
  on_base s d c sees e = subst (λ (z : Clock). Sees k (site_of s) x d z) (sym (texts.clock_of_seen k (site_of s) x d c sees) ∙ e) sees

  abbrev Inner : Equation-F Equation Block Branch State → Type 0
  Inner v = (block : Block) (y : Equation) → Contains (inner_blocks v) block → Contains block.body y → Step y

  branch_next : (e : Equation) (p : Place) (on : Expr) (bs : List Branch) → out-Equation e ≡ Equation-F.Switch p on bs → Inner (Equation-F.Switch p on bs) →
      (s : Scope) (d : Decl) (c : Clock) → IsAround f s → Here r k s t (Reads k.node k.clock x) → IsEquationOf r k s e → Sees k (site_of s) x d c → IsScoped r k s c → SoundSwitch k (site_of s) on (map branch_case bs) →
      AllIn (Reads k.node k.clock x) (reads on.form) → is_in x (all_sets (map branch_case bs)) ≡ true → (v : ℕ) →
      (b : Branch) × (branch_of r.program.program.types v bs ≡ Some b) × Contains bs b × (tag_value r.program.program.types b.tag ≡ v) →
      Ends r (branch_rule (setting_of r) (branch_of r.program.program.types v bs) on x s t)
  branch_next e p on bs eq step s d c i here h sees sc sound reads_it all v (b, at, has, tag) =
      let stands : StandsIn r k (In_branch s on b) = stands_in_branch p on bs b h eq has in
      let inner : Here r k (In_branch s on b) t (Reads k.node k.clock x) = branch_here r texts fits k f s t (Reads k.node k.clock x) w on b i stands reads_it here in
      let base : k.clock x ≡ [] = (sound.sound_cases.0 x d all sees.declared).0 in
      subst (λ (o : Option Branch). Ends r (branch_rule (setting_of r) o on x s t)) (sym at)
      (inner_end (In_branch s on b) s d [] (around_branch i) inner (texts.sees_in_branch k s e p on bs b x d h eq has (on_base s d c sees base)) tt
      (λ y j. step b.block y (contains_map (λ (z : Branch). z.block) bs b has) j)
      (gap_last s d c (map branch_case bs) (branch_case b) b.block here sees sc sound.sound_cases.1 (contains_map branch_case bs b has) all (texts.not_local_in_branch k s e p on bs b x d h eq has sees.declared).1))

  state_next : (e : Equation) (p : Place) (qs : List State) → out-Equation e ≡ Equation-F.Automaton p qs → Inner (Equation-F.Automaton p qs) →
      (s : Scope) (d : Decl) (c : Clock) → IsAround f s → Here r k s t (Reads k.node k.clock x) → IsEquationOf r k s e → Sees k (site_of s) x d c → IsScoped r k s c →
      AllIn (Reads k.node k.clock x) (flat_map (λ z. reads z.form) (strong_of_all qs)) → is_in x (all_sets (map state_case qs)) ≡ true → (j : ℕ) →
      (q : State) × (slice_get qs j ≡ Some q) → Ends r (defined_or_last (setting_of r) (state_block qs j) x (In_state s qs j) s t)
  state_next e p qs eq step s d c i here h sees sc reads_it all j (q, at) =
      let stands : StandsIn r k (In_state s qs j) = stands_in_state p qs j q h eq at in
      let inner : Here r k (In_state s qs j) t (Reads k.node k.clock x) = state_here r texts fits k f s t (Reads k.node k.clock x) w qs j i stands reads_it here in
      let part = texts.sound_automaton k s e p qs h eq in
      let base : k.clock x ≡ [] = (part.0 x d all sees.declared).0 in
      let is : q.block ≡ state_block qs j = ap block_or_none (sym at) in
      let has : Contains qs q = contains_at qs j q at in
      inner_end (In_state s qs j) s d [] (around_state i) inner (texts.sees_in_state k s e p qs j q x d h eq at (on_base s d c sees base)) tt
      (λ y z. step q.block y (contains_map (λ (z : State). z.block) qs q has) (subst (λ (b : Block). Contains b.body y) (sym is) z))
      (λ none. gap_last s d c (map state_case qs) (state_case q) q.block here sees sc part.1 (contains_map state_case qs q has) all
      (texts.not_local_in_state k s e p qs j q x d h eq at sees.declared).1 (subst (λ (b : Block). is_in x (flat_map sets_of b.body) ≡ false) (sym is) none))

  switch_end : (e : Equation) (p : Place) (on : Expr) (bs : List Branch) → out-Equation e ≡ Equation-F.Switch p on bs → Inner (Equation-F.Switch p on bs) →
      (s : Scope) (d : Decl) (c : Clock) → IsAround f s → Here r k s t (Reads k.node k.clock x) → IsEquationOf r k s e → Sees k (site_of s) x d c → IsScoped r k s c → is_in x (sets_of e) ≡ true → Ends r (equation_rule (setting_of r) (Equation-F.Switch p on bs) x s t)
  switch_end e p on bs eq step s d c i here h sees sc sets =
      let sound : SoundSwitch k (site_of s) on (map branch_case bs) = texts.sound_switch k s e p on bs h eq in
      let one : IsSingle (sound.type ∷ []) = record { type = sound.type; is = refl } in
      let reads_it : AllIn (Reads k.node k.clock x) (reads on.form) = λ y j. texts.reads_on k s e p on bs x y h eq sets j in
      let all : is_in x (all_sets (map branch_case bs)) ≡ true = subst (λ (xs : List Name). is_in x xs ≡ true) (sets_switch e p on bs eq) sets in
      values r (Gives on [] s t) _ (gives r texts fits k s t (Reads k.node k.clock x) here on [] (sound.type ∷ []) sound.sound reads_it base_ready one)
      (λ a g. data_of r fits k s on [] (sound.type ∷ []) t a here.stands sound.sound one g)
      (λ v g. branch_next e p on bs eq step s d c i here h sees sc sound reads_it all v
      (texts.branch_of_value sound.type v bs sound.tagged (subst (λ (types : List TypeDec). AreAllTags types sound.type (map (λ q. q.label) (map branch_case bs))) (types_are s here.stands) sound.all)
      (value_of r sound.type v (fits.expressions k s on [] sound.type t (Value v) here.stands sound.sound g))))

  reset_end : (e : Equation) (p : Place) (block : Block) (every : Expr) → out-Equation e ≡ Equation-F.Reset p block every → Inner (Equation-F.Reset p block every) →
      (s : Scope) (d : Decl) (c : Clock) → IsAround f s → Here r k s t (Reads k.node k.clock x) → IsEquationOf r k s e → Sees k (site_of s) x d c → IsScoped r k s c → is_in x (sets_of e) ≡ true → Ends r (equation_rule (setting_of r) (Equation-F.Reset p block every) x s t)
  reset_end e p block every eq step s d c i here h sees sc sets =
      let stands : StandsIn r k (In_body s every block) = stands_in_body p block every h eq in
      let inner : Here r k (In_body s every block) t (Reads k.node k.clock x) =
      body_here r texts fits k f s t (Reads k.node k.clock x) w every block i stands (λ y j. texts.reads_every k s e p block every x y h eq sets j) here in
      let inside : is_in x (flat_map sets_of block.body) ≡ true =
      sym (texts.not_local_in_body k s e p block every x d h eq sees.declared).1 ∙ subst (λ (xs : List Name). is_in x xs ≡ true) (sets_reset e p block every eq) sets in
      answers r (Defined x (In_body s every block) t)
      (defined_known (In_body s every block) d c (around_body i) inner (texts.sees_in_body k s e p block every x d c h eq sees) (scoped_moved r k s (In_body s every block) c (with_body s every block) sc) (λ y j. step block y (contains_first block block [] refl) j) inside)

  automaton_end : (e : Equation) (p : Place) (qs : List State) → out-Equation e ≡ Equation-F.Automaton p qs → Inner (Equation-F.Automaton p qs) →
      (s : Scope) (d : Decl) (c : Clock) → IsAround f s → Here r k s t (Reads k.node k.clock x) → IsEquationOf r k s e → Sees k (site_of s) x d c → IsScoped r k s c → is_in x (sets_of e) ≡ true → Ends r (equation_rule (setting_of r) (Equation-F.Automaton p qs) x s t)
  automaton_end e p qs eq step s d c i here h sees sc sets =
      let reads_it : AllIn (Reads k.node k.clock x) (flat_map (λ z. reads z.form) (strong_of_all qs)) = λ y j. texts.reads_strong k s e p qs x y h eq sets j in
      let all : is_in x (all_sets (map state_case qs)) ≡ true = subst (λ (xs : List Name). is_in x xs ≡ true) (sets_automaton e p qs eq) sets in
      let some : 0 < length qs = subst (λ (n : ℕ). 0 < n) (length-map qs state_case) (not_empty x (λ z. z.sets) (map state_case qs) all) in
      states r (Active_state s qs t) _ (active_state_known r texts fits k s t (Reads k.node k.clock x) here e p qs h eq reads_it) (active_standing r s qs t)
      (λ j m g. state_next e p qs eq step s d c i here h sees sc reads_it all j (element_at qs j (fits.states k s e p qs t j m here.stands h.in_block eq some g)))

  equation_view : (v : Equation-F Equation Block Branch State) (e : Equation) → out-Equation e ≡ v → Inner v →
      (s : Scope) (d : Decl) (c : Clock) → IsAround f s → Here r k s t (Reads k.node k.clock x) → IsEquationOf r k s e → Sees k (site_of s) x d c → IsScoped r k s c → is_in x (sets_of e) ≡ true → Ends r (equation_rule (setting_of r) v x s t)
  equation_view (Equation-F.Define p left right) e eq step s d c i here h sees sc sets = define_end e p left right eq s d c here h sees sc sets
  equation_view (Equation-F.Switch p on bs) e eq step s d c i here h sees sc sets = switch_end e p on bs eq step s d c i here h sees sc sets
  equation_view (Equation-F.Reset p block every) e eq step s d c i here h sees sc sets = reset_end e p block every eq step s d c i here h sees sc sets
  equation_view (Equation-F.Automaton p qs) e eq step s d c i here h sees sc sets = automaton_end e p qs eq step s d c i here h sees sc sets

  equation_end : (e : Equation) → Descends e → Step e
  equation_end e (descend g) = equation_view (out-Equation e) e refl (λ block y i j. equation_end y (g block y i j))

  -- what a block defines is known
  pub definition_known : (s : Scope) (d : Decl) (c : Clock) → IsAround f s → Here r k s t (Reads k.node k.clock x) → Sees k (site_of s) x d c → IsScoped r k s c → is_in x (flat_map sets_of (block_of s).body) ≡ true → Known r (Defined x s t)
  definition_known s d c i here sees sc sets = defined_known s d c i here sees sc (λ e j. equation_end e (descends e)) sets
