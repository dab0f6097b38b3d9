-- What equations define and what the variables read that they define, from where parts stand and what is local.
use Rattle.std.proofs.Common.{◌≡◌, ◌⊎◌, inl, inr, ℕ, suc, Bool, true, false, not, ◌||◌, List, [], ◌∷◌, ◌++◌, map, Some, refl, sym, ap, subst, ◌∙◌, append_assoc}
use Rattle.std.specs.Prelude.{if◌then◌else◌, Contains, slice_get}
use Rattle.std.specs.List.{flat_map, list_any}
use Rattle.std.proofs.lemmas.Grind.{flat_map-append}
use Rattle.std.proofs.lemmas.List.Folds.{list_any-append, flat_map-map}
use Rattle.hept_ast.specs.Texts.{Name, same, is_in, names}
use Rattle.hept_ast.specs.Scopes.{Clock, Scope, In_branch, In_body, In_state, state_block, block_or_none}
use Rattle.hept_ast.specs.Parts.{Case, from_outside, Surroundings, Around, Branch_of, Body_of, State_of, Plain, Placed, declaration, locals_around, seen_at, parts, parts_of, sets_of, block_sets, branch_case, state_case, block_parts, state_parts, strong_of_all, transitions}
use Rattle.hept_ast.specs.Initial.{grade, right_sides, right_sides_in}
use Rattle.hept_ast.specs.Causal.{Reads, reads, reads_around, reads_in}
use Rattle.hept_ast.specs.Meaning.{Defines, Answer, Is, Rule, Says, Setting, if_defined, defines_rule}
use Rattle.hept_ast.specs.Outputs.{Knows, Follows, said, asked}
use Rattle.hept_ast.specs.declared.name.Place.{Place}
use Rattle.hept_ast.specs.declared.tree.Expr.{Expr}
use Rattle.hept_ast.specs.declared.tree.Decl.{Decl}
use Rattle.hept_ast.specs.declared.tree.Node.{Node}
use Rattle.hept_ast.specs.declared.tree.Tag.{Tag}
use Rattle.hept_ast.specs.declared.tree.Block.{Block}
use Rattle.hept_ast.specs.declared.tree.Branch.{Branch}
use Rattle.hept_ast.specs.declared.tree.State.{State}
use Rattle.hept_ast.specs.declared.tree.Equation.{Equation, out-Equation}
use Rattle.hept_ast.specs.declared.tree.Equation.TheOpen.{Equation-F}
use Rattle.hept_ast.specs.declared.tree.Equation.TheViews.{roll-Equation}
use Rattle.hept_ast.specs.declared.tree.Equation.TheVariants as eqv
use Rattle.hept_ast.proofs.PartsOf.{parts-Define, parts-Switch, parts-Reset, parts-Automaton}
use Rattle.hept_ast.proofs.Depths.{to_rule}
use Rattle.sound_expressions.specs.Sound.{Within, Sees}
use Rattle.accepted_meaning.specs.SoundNodes.{a_left, no_left, SoundLeft}
use Rattle.accepted_meaning.specs.Placing.{site_of}
use Rattle.accepted_meaning.specs.Running.{Run}
use Rattle.accepted_meaning.specs.Structure.{IsEquationOf, PartsOfScope, NotLocalInBranch, NotLocalInBody, NotLocalInState, HasPart, PlainOf, DefinesIs, GradeOfRight, ReadsRight, ReadsOn, ReadsEvery, ReadsStrong, ReadsAround, ReadsClock}
use Rattle.accepted_meaning.proofs.KnownTrees.{or_first, or_parts, in_parts, in_left, in_right, in_more, contains_cases, contains_first, contains_more, none_contained, contains_map, in_flat}
use Rattle.accepted_meaning.proofs.KnownRules.{tells}
use Rattle.accepted_meaning.proofs.KnownTexts.{Descends, descend, inner_blocks, descends, equation_by, sets_define, sets_switch, sets_reset, sets_automaton}
use Rattle.accepted_meaning.proofs.KnownScopes.{stands_in_branch, stands_in_body, stands_in_state}
use Rattle.hept_ast.specs.declared.tree.Ty.{Ty}
use Rattle.std.proofs.lemmas.Slice.Eq.{bytes_eq-Decides}

-- ---- lists

pub contains_left : {A : Type 0} (xs ys : List A) (x : A) → Contains xs x → Contains (xs ++ ys) x
contains_left [] ys x h = absurd (none_contained x h)
contains_left {A} (y ∷ xs) ys x h = split (λ i. contains_left xs ys x i) (contains_cases y xs x h)
  where
    split : (Contains xs x → Contains (xs ++ ys) x) → (y ≡ x) ⊎ Contains xs x → Contains (y ∷ (xs ++ ys)) x
    split next (inl e) = contains_first y x (xs ++ ys) e
    split next (inr i) = contains_more y (xs ++ ys) x (next i)

pub contains_right : {A : Type 0} (xs ys : List A) (x : A) → Contains ys x → Contains (xs ++ ys) x
contains_right [] ys x h = h
contains_right (y ∷ xs) ys x h = contains_more y (xs ++ ys) x (contains_right xs ys x h)

pub contains_flat : {A B : Type 0} (f : A → List B) (xs : List A) (a : A) (b : B) → Contains xs a → Contains (f a) b → Contains (flat_map f xs) b
contains_flat f [] a b h i = absurd (none_contained a h)
contains_flat {A} f (y ∷ xs) a b h i = split (λ j. contains_flat f xs a b j i) (contains_cases y xs a h)
  where
    split : (Contains xs a → Contains (flat_map f xs) b) → (y ≡ a) ⊎ Contains xs a → Contains (f y ++ flat_map f xs) b
    split next (inl e) = contains_left (f y) (flat_map f xs) b (subst (λ (z : A). Contains (f z) b) (sym e) i)
    split next (inr j) = contains_right (f y) (flat_map f xs) b (next j)

-- an element that has a name
pub record HasName {A : Type 0} (f : A → List Name) (xs : List A) (x : Name) : Type 0 where
  pub element : A
  pub among : Contains xs element
  pub has : is_in x (f element) ≡ true

pub flat_in : {A : Type 0} (f : A → List Name) (xs : List A) (x : Name) → is_in x (flat_map f xs) ≡ true → HasName f xs x
flat_in f [] x h = absurd (none h)
  where
    none : is_in x [] ≡ true → ⊥
    none h = cc
flat_in {A} f (y ∷ xs) x h = split (λ i. flat_in f xs x i) (in_parts x (f y) (flat_map f xs) h)
  where
    split : (is_in x (flat_map f xs) ≡ true → HasName f xs x) → (is_in x (f y) ≡ true) ⊎ (is_in x (flat_map f xs) ≡ true) → HasName f (y ∷ xs) x
    split next (inl i) = record { element = y; among = contains_first y y xs refl; has = i }
    split next (inr i) = let n = next i in record { element = n.element; among = contains_more y xs n.element n.among; has = n.has }

pub map_in : {A B : Type 0} (f : A → B) (xs : List A) (y : B) → Contains (map f xs) y → (x : A) × Contains xs x × (f x ≡ y)
map_in f [] y h = absurd (none_contained y h)
map_in {A} {B} f (x ∷ xs) y h = split (λ i. map_in f xs y i) (contains_cases (f x) (map f xs) y h)
  where
    split : (Contains (map f xs) y → (z : A) × Contains xs z × (f z ≡ y)) → (f x ≡ y) ⊎ Contains (map f xs) y → (z : A) × Contains (x ∷ xs) z × (f z ≡ y)
    split next (inl e) = (x, contains_first x x xs refl, e)
    split next (inr i) = let n = next i in (n.0, contains_more x xs n.0 n.1, n.2)

-- ---- parts by the views of equations

parts_by : (site : Surroundings) (e : Equation) (v : Equation-F Equation Block Branch State) (g : Equation) (qs : List Placed) → out-Equation e ≡ v → roll-Equation v ≡ g → parts_of site g ≡ qs → parts_of site e ≡ qs
parts_by site e v g qs h k l = ap (parts_of site) (equation_by e v h ∙ k) ∙ l

parts_define : (site : Surroundings) (e : Equation) (p : Place) (left : List Name) (right : Expr) → out-Equation e ≡ Equation-F.Define p left right → parts_of site e ≡ record { site = site; part = Plain p.0 left right } ∷ []
parts_define site e p left right h = parts_by site e _ _ _ h (eqv.rolls-Define p left right) (parts-Define site p left right)

pub part_in_branch : (site : Surroundings) (e : Equation) (p : Place) (on : Expr) (bs : List Branch) (b : Branch) (q : Placed) → out-Equation e ≡ Equation-F.Switch p on bs → Contains bs b →
    Contains (block_parts (Branch_of on b.block.locals ∷ site) b.block) q → Contains (parts_of site e) q
part_in_branch site e p on bs b q h i j =
    subst (λ (qs : List Placed). Contains qs q) (sym (parts_by site e _ _ _ h (eqv.rolls-Switch p on bs) (parts-Switch site p on bs)))
    (contains_more _ _ q (contains_flat (λ (z : Branch). block_parts (Branch_of on z.block.locals ∷ site) z.block) bs b q i j))

pub part_in_body : (site : Surroundings) (e : Equation) (p : Place) (block : Block) (every : Expr) (q : Placed) → out-Equation e ≡ Equation-F.Reset p block every →
    Contains (block_parts (Body_of every block.locals ∷ site) block) q → Contains (parts_of site e) q
part_in_body site e p block every q h j =
    subst (λ (qs : List Placed). Contains qs q) (sym (parts_by site e _ _ _ h (eqv.rolls-Reset p block every) (parts-Reset site p block every))) (contains_more _ (block_parts (Body_of every block.locals ∷ site) block) q j)

pub part_in_state : (site : Surroundings) (e : Equation) (p : Place) (qs : List State) (z : State) (q : Placed) → out-Equation e ≡ Equation-F.Automaton p qs → Contains qs z →
    Contains (block_parts (State_of (strong_of_all qs) z.block.locals ∷ site) z.block) q → Contains (parts_of site e) q
part_in_state site e p qs z q h i j =
    subst (λ (xs : List Placed). Contains xs q) (sym (parts_by site e _ _ _ h (eqv.rolls-Automaton p qs) (parts-Automaton site p qs)))
    (contains_more _ _ q (contains_flat (state_parts site (strong_of_all qs) (map (λ c. c.label) (map state_case qs))) qs z q i
    (contains_left
    (block_parts (State_of (strong_of_all qs) z.block.locals ∷ site) z.block ++ transitions (State_of (strong_of_all qs) z.block.locals ∷ site) false (map (λ c. c.label) (map state_case qs)) z.weak)
    (transitions site true (map (λ c. c.label) (map state_case qs)) z.strong) q
    (contains_left (block_parts (State_of (strong_of_all qs) z.block.locals ∷ site) z.block)
    (transitions (State_of (strong_of_all qs) z.block.locals ∷ site) false (map (λ c. c.label) (map state_case qs)) z.weak) q j))))

pub part_in_block : (site : Surroundings) (block : Block) (e : Equation) (q : Placed) → Contains block.body e → Contains (parts_of site e) q → Contains (block_parts site block) q
part_in_block site block e q i j = contains_more _ _ q (contains_flat (parts_of site) block.body e q i j)

or_none : (a b : Bool) → (a || b) ≡ false → (a ≡ false) × (b ≡ false)
or_none true b h = absurd (no_truth h)
  where
    no_truth : true ≡ false → ⊥
    no_truth h = cc
or_none false b h = (refl, h)

-- ---- the plain equation that defines a variable

in_filter_step : (x y : Name) (b : Bool) (ys zs : List Name) → is_in x (if b then y ∷ zs else zs) ≡ true → (is_in x zs ≡ true → is_in x ys ≡ true) → is_in x (y ∷ ys) ≡ true
in_filter_step x y true ys zs h next = split (or_parts (same x y) (is_in x zs) h)
  where
    split : (same x y ≡ true) ⊎ (is_in x zs ≡ true) → is_in x (y ∷ ys) ≡ true
    split (inl e) = or_first (same x y) (is_in x ys) e
    split (inr i) = in_more x y ys (next i)
in_filter_step x y false ys zs h next = in_more x y ys (next h)

pub in_outside : (ds : List Decl) (x : Name) (xs : List Name) → is_in x (from_outside ds xs) ≡ true → is_in x xs ≡ true
in_outside ds x [] h = h
in_outside ds x (y ∷ ys) h = in_filter_step x y (not (is_in y (names ds))) ys (from_outside ds ys) h (in_outside ds x ys)

-- a plain equation inside an equation
record PlainIn (site : Surroundings) (e : Equation) (x : Name) : Type 0 where
  inner : Surroundings
  place : ℕ
  left : List Name
  right : Expr
  inside : Contains (parts_of site e) (record { site = inner ++ site; part = Plain place left right })
  defines : is_in x left ≡ true

-- one from an inner block
from_inner : (site : Surroundings) (around : Around) (e y : Equation) (x : Name) → ((q : Placed) → Contains (parts_of (around ∷ site) y) q → Contains (parts_of site e) q) → PlainIn (around ∷ site) y x → PlainIn site e x
from_inner site around e y x outward h = record {
  inner = h.inner ++ around ∷ [];
  place = h.place;
  left = h.left;
  right = h.right;
  inside = outward _ (subst (λ (z : Surroundings). Contains (parts_of (around ∷ site) y) (record { site = z; part = Plain h.place h.left h.right })) (sym (append_assoc h.inner (around ∷ []) site)) h.inside);
  defines = h.defines;
}

abbrev FindsPlain : Name → Equation → Type 0
FindsPlain x e = (site : Surroundings) → is_in x (sets_of e) ≡ true → PlainIn site e x

plain_view : (x : Name) (v : Equation-F Equation Block Branch State) (e : Equation) → out-Equation e ≡ v → ((block : Block) (y : Equation) → Contains (inner_blocks v) block → Contains block.body y → FindsPlain x y) → FindsPlain x e
plain_view x (Equation-F.Define p left right) e eq step site sets = record {
  inner = [];
  place = p.0;
  left = left;
  right = right;
  inside = subst (λ (qs : List Placed). Contains qs (record { site = site; part = Plain p.0 left right })) (sym (parts_define site e p left right eq)) (contains_first _ _ [] refl);
  defines = subst (λ (xs : List Name). is_in x xs ≡ true) (sets_define e p left right eq) sets;
}
plain_view x (Equation-F.Switch p on bs) e eq step site sets =
    let c = flat_in (λ z. z.sets) (map branch_case bs) x (subst (λ (xs : List Name). is_in x xs ≡ true) (sets_switch e p on bs eq) sets) in
    let b = map_in branch_case bs c.element c.among in
    let y = flat_in sets_of b.0.block.body x (in_outside b.0.block.locals x _ (subst (λ (z : Case Tag). is_in x z.sets ≡ true) (sym b.2) c.has)) in
    from_inner site (Branch_of on b.0.block.locals) e y.element x
    (λ q i. part_in_branch site e p on bs b.0 q eq b.1 (part_in_block _ b.0.block y.element q y.among i))
    (step b.0.block y.element (contains_map (λ (z : Branch). z.block) bs b.0 b.1) y.among (Branch_of on b.0.block.locals ∷ site) y.has)
plain_view x (Equation-F.Reset p block every) e eq step site sets =
    let y = flat_in sets_of block.body x (in_outside block.locals x _ (subst (λ (xs : List Name). is_in x xs ≡ true) (sets_reset e p block every eq) sets)) in
    from_inner site (Body_of every block.locals) e y.element x
    (λ q i. part_in_body site e p block every q eq (part_in_block _ block y.element q y.among i))
    (step block y.element (contains_first block block [] refl) y.among (Body_of every block.locals ∷ site) y.has)
plain_view x (Equation-F.Automaton p qs) e eq step site sets =
    let c = flat_in (λ z. z.sets) (map state_case qs) x (subst (λ (xs : List Name). is_in x xs ≡ true) (sets_automaton e p qs eq) sets) in
    let b = map_in state_case qs c.element c.among in
    let y = flat_in sets_of b.0.block.body x (in_outside b.0.block.locals x _ (subst (λ (z : Case Name). is_in x z.sets ≡ true) (sym b.2) c.has)) in
    from_inner site (State_of (strong_of_all qs) b.0.block.locals) e y.element x
    (λ q i. part_in_state site e p qs b.0 q eq b.1 (part_in_block _ b.0.block y.element q y.among i))
    (step b.0.block y.element (contains_map (λ (z : State). z.block) qs b.0 b.1) y.among (State_of (strong_of_all qs) b.0.block.locals ∷ site) y.has)

plain_in : (x : Name) (e : Equation) → Descends e → FindsPlain x e
plain_in x e (descend g) = plain_view x (out-Equation e) e refl (λ block y i j. plain_in x y (g block y i j))

pub plain_of : (r : Run) → PartsOfScope r → PlainOf r
plain_of r parts_in k s e x h sets =
    let o = plain_in x e (descends e) (site_of s) sets in
    record { inner = o.inner; place = o.place; left = o.left; right = o.right; within = o.inside; of_node = parts_in k s e _ h o.inside; defines = o.defines }

-- ---- reads

reads_by_part : (k : Within) (x y : Name) (site : Surroundings) (place : ℕ) (left : List Name) (right : Expr) → HasPart k site (Plain place left right) → is_in x left ≡ true →
    is_in y (reads right.form ++ flat_map reads_around site) ≡ true → Reads k.node k.clock x y
reads_by_part k x y site place left right has defines i =
    (in_left y (flat_map (λ q. reads_in x q.site q.part) (parts k.node)) (map (λ s. s.name) (k.clock x))
    (in_flat (λ q. reads_in x q.site q.part) (parts k.node) (record { site = site; part = Plain place left right }) y has
    (subst (λ (b : Bool). is_in y (if b then reads right.form ++ flat_map reads_around site else []) ≡ true) (sym defines) i)))

pub reads_right : (r : Run) → PartsOfScope r → ReadsRight r
reads_right r parts_in k s e p left right x y h eq defines i =
    reads_by_part k x y (site_of s) p.0 left right
    (parts_in k s e _ h (subst (λ (qs : List Placed). Contains qs (record { site = site_of s; part = Plain p.0 left right })) (sym (parts_define (site_of s) e p left right eq)) (contains_first _ _ [] refl)))
    defines (in_left y (reads right.form) (flat_map reads_around (site_of s)) i)

pub reads_around_of : (r : Run) → PartsOfScope r → ReadsAround r
reads_around_of r parts_in k s e x y h sets i =
    let o = plain_of r parts_in k s e x h sets in
    reads_by_part k x y (o.inner ++ site_of s) o.place o.left o.right o.of_node o.defines
    (in_right y (reads o.right.form) _
    (subst (λ (xs : List Name). is_in y xs ≡ true) (sym (flat_map-append reads_around o.inner (site_of s))) (in_right y (flat_map reads_around o.inner) (flat_map reads_around (site_of s)) i)))

pub reads_clock : ReadsClock
reads_clock k x y i = (in_right y (flat_map (λ q. reads_in x q.site q.part) (parts k.node)) (map (λ s. s.name) (k.clock x)) i)

-- what is read around an inner block that defines a variable
pub reads_on : (r : Run) → PartsOfScope r → ReadsOn r
reads_on r parts_in k s e p on bs x y h eq sets i =
    let c = flat_in (λ z. z.sets) (map branch_case bs) x (subst (λ (xs : List Name). is_in x xs ≡ true) (sets_switch e p on bs eq) sets) in
    let b = map_in branch_case bs c.element c.among in
    let z = flat_in sets_of b.0.block.body x (in_outside b.0.block.locals x _ (subst (λ (q : Case Tag). is_in x q.sets ≡ true) (sym b.2) c.has)) in
    reads_around_of r parts_in k (In_branch s on b.0) z.element x y (record { stands = stands_in_branch p on bs b.0 h eq b.1; in_block = z.among }) z.has
    (in_left y (reads on.form) (flat_map reads_around (site_of s)) i)

pub reads_every : (r : Run) → PartsOfScope r → ReadsEvery r
reads_every r parts_in k s e p block every x y h eq sets i =
    let z = flat_in sets_of block.body x (in_outside block.locals x _ (subst (λ (xs : List Name). is_in x xs ≡ true) (sets_reset e p block every eq) sets)) in
    reads_around_of r parts_in k (In_body s every block) z.element x y (record { stands = stands_in_body p block every h eq; in_block = z.among }) z.has
    (in_left y (reads every.form) (flat_map reads_around (site_of s)) i)

pub state_in : (qs : List State) (q : State) → Contains qs q → (j : ℕ) × (slice_get qs j ≡ Some q)
state_in [] q h = absurd (none_contained q h)
state_in (z ∷ qs) q h = split (λ i. state_in qs q i) (contains_cases z qs q h)
  where
    split : (Contains qs q → (j : ℕ) × (slice_get qs j ≡ Some q)) → (z ≡ q) ⊎ Contains qs q → (j : ℕ) × (slice_get (z ∷ qs) j ≡ Some q)
    split next (inl e) = (0, ap (λ (x : State). Some x) e)
    split next (inr i) = let n = next i in (suc n.0, n.1)

pub reads_strong : (r : Run) → PartsOfScope r → ReadsStrong r
reads_strong r parts_in k s e p qs x y h eq sets i =
    let c = flat_in (λ z. z.sets) (map state_case qs) x (subst (λ (xs : List Name). is_in x xs ≡ true) (sets_automaton e p qs eq) sets) in
    let b = map_in state_case qs c.element c.among in
    let z = flat_in sets_of b.0.block.body x (in_outside b.0.block.locals x _ (subst (λ (q : Case Name). is_in x q.sets ≡ true) (sym b.2) c.has)) in
    let j = state_in qs b.0 b.1 in
    reads_around_of r parts_in k (In_state s qs j.0) z.element x y
    (record { stands = stands_in_state p qs j.0 b.0 h eq j.1; in_block = subst (λ (block : Block). Contains block.body z.element) (ap block_or_none (sym j.1)) z.among }) z.has
    (in_left y (flat_map (λ q. reads q.form) (strong_of_all qs)) (flat_map reads_around (site_of s)) i)

-- ---- grades

right_side_of : (k : Within) (x : Name) (site : Surroundings) (place : ℕ) (left : List Name) (right : Expr) → HasPart k site (Plain place left right) → is_in x left ≡ true → Contains (right_sides k.node x) right
right_side_of k x site place left right has defines =
    contains_flat (λ q. right_sides_in x q.part) (parts k.node) (record { site = site; part = Plain place left right }) right has
    (subst (λ (b : Bool). Contains (if b then right ∷ [] else []) right) (sym defines) (contains_first right right [] refl))

none_true : {A : Type 0} (f : A → Bool) (xs : List A) (x : A) → Contains xs x → list_any f xs ≡ false → f x ≡ false
none_true f [] x h e = absurd (none_contained x h)
none_true {A} f (y ∷ xs) x h e = split (λ i. none_true f xs x i (or_none (f y) (list_any f xs) e).1) (contains_cases y xs x h)
  where
    split : (Contains xs x → f x ≡ false) → (y ≡ x) ⊎ Contains xs x → f x ≡ false
    split next (inl q) = subst (λ (z : A). f z ≡ false) q (or_none (f y) (list_any f xs) e).0
    split next (inr i) = next i

pub grade_of_right : (r : Run) → PartsOfScope r → GradeOfRight r
grade_of_right r parts_in k s e p left right x h eq defines grade_x =
    none_true (λ z. grade k.grade z.form) (right_sides k.node x) right
    (right_side_of k x (site_of s) p.0 left right
    (parts_in k s e _ h (subst (λ (qs : List Placed). Contains qs (record { site = site_of s; part = Plain p.0 left right })) (sym (parts_define (site_of s) e p left right eq)) (contains_first _ _ [] refl))) defines)
    (sym (h.stands.of_node.sound_node.grades x) ∙ grade_x)

-- ---- whether an equation defines a variable

declared_after : (x : Name) (ds es : List Decl) → is_in x (names ds) ≡ false → declaration (ds ++ es) x ≡ declaration es x
declared_after x [] es h = refl
declared_after x (d ∷ ds) es h =
    let k = or_none (same x d.name) (is_in x (names ds)) h in
    ap (λ (b : Bool). if b then Some d else declaration (ds ++ es) x) k.0 ∙ declared_after x ds es k.1

pub seen_more : (node : Node) (around : Around) (site : Surroundings) (ls : List Decl) → locals_around (around ∷ site) ≡ ls ++ locals_around site → seen_at node (around ∷ site) ≡ ls ++ seen_at node site
seen_more node around site ls e =
    ap (λ (ds : List Decl). ds ++ node.block.locals ++ node.outputs ++ node.inputs) e
    ∙ ap (λ (ds : List Decl). ds ++ node.outputs ++ node.inputs) (append_assoc ls (locals_around site) node.block.locals)
    ∙ ap (λ (ds : List Decl). ds ++ node.inputs) (append_assoc ls (locals_around site ++ node.block.locals) node.outputs)
    ∙ append_assoc ls (locals_around site ++ node.block.locals ++ node.outputs) node.inputs

contains_parts : {A : Type 0} (xs ys : List A) (x : A) → Contains (xs ++ ys) x → Contains xs x ⊎ Contains ys x
contains_parts [] ys x h = inr h
contains_parts (y ∷ xs) ys x h = split (λ i. contains_parts xs ys x i) (contains_cases y (xs ++ ys) x h)
  where
    split : (Contains (xs ++ ys) x → Contains xs x ⊎ Contains ys x) → (y ≡ x) ⊎ Contains (xs ++ ys) x → Contains (y ∷ xs) x ⊎ Contains ys x
    split next (inl e) = inl (contains_first y x xs e)
    split next (inr i) = again (next i)
      where
        again : Contains xs x ⊎ Contains ys x → Contains (y ∷ xs) x ⊎ Contains ys x
        again (inl j) = inl (contains_more y xs x j)
        again (inr j) = inr j

first_or_next : (w : Setting) (rows : List (List ℕ)) (b rest : Bool) (go : Bool → Rule) (d : Rule) (a : Answer) → Follows (Knows w rows) rows (go (b || rest)) a →
    (Follows (Knows w rows) rows (go rest) a → Follows (Knows w rows) rows d a) → Follows (Knows w rows) rows (if b then go true else d) a
first_or_next w rows true rest go d a h next = h
first_or_next w rows false rest go d a h next = next h

-- all of a list of equations
if_defined_follows : (w : Setting) (rows : List (List ℕ)) (x : Name) (es : List Equation) → ((e : Equation) → Contains es e → Knows w rows (Defines x e) (Is (is_in x (sets_of e)))) →
    (go : Bool → Rule) (a : Answer) → Follows (Knows w rows) rows (go (is_in x (flat_map sets_of es))) a → Follows (Knows w rows) rows (if_defined x es go) a
if_defined_follows w rows x [] each go a h = h
if_defined_follows w rows x (e ∷ es) each go a h =
    asked (each e (contains_first e e es refl))
    (first_or_next w rows (is_in x (sets_of e)) (is_in x (flat_map sets_of es)) go (if_defined x es go) a
    (subst (λ (b : Bool). Follows (Knows w rows) rows (go b) a) (list_any-append (same x) (sets_of e) (flat_map sets_of es)) h)
    (if_defined_follows w rows x es (λ y i. each y (contains_more e es y i)) go a))

pub flat_contains : {A B : Type 0} (f : A → List B) (xs : List A) (b : B) → Contains (flat_map f xs) b → (a : A) × Contains xs a × Contains (f a) b
flat_contains f [] b h = absurd (none_contained b h)
flat_contains {A} {B} f (x ∷ xs) b h = split (λ i. flat_contains f xs b i) (contains_parts (f x) (flat_map f xs) b h)
  where
    split : (Contains (flat_map f xs) b → (a : A) × Contains xs a × Contains (f a) b) → Contains (f x) b ⊎ Contains (flat_map f xs) b → (a : A) × Contains (x ∷ xs) a × Contains (f a) b
    split next (inl i) = (x, contains_first x x xs refl, i)
    split next (inr i) = let n = next i in (n.0, contains_more x xs n.0 n.1, n.2)

-- blocks that set the same as their bodies
same_sets : {A : Type 0} (block : A → Block) (xs : List A) (x : Name) → ((a : A) → Contains xs a → is_in x (block_sets (block a)) ≡ is_in x (flat_map sets_of (block a).body)) →
    is_in x (flat_map sets_of (flat_map (λ a. (block a).body) xs)) ≡ is_in x (flat_map (λ a. block_sets (block a)) xs)
same_sets block [] x each = refl
same_sets block (a ∷ xs) x each =
    ap (is_in x) (flat_map-append sets_of (block a).body (flat_map (λ a. (block a).body) xs)) ∙ list_any-append (same x) (flat_map sets_of (block a).body) (flat_map sets_of (flat_map (λ a. (block a).body) xs))
    ∙ ap (λ (b : Bool). b || is_in x (flat_map sets_of (flat_map (λ a. (block a).body) xs))) (sym (each a (contains_first a a xs refl)))
    ∙ ap (λ (b : Bool). is_in x (block_sets (block a)) || b) (same_sets block xs x (λ z i. each z (contains_more a xs z i)))
    ∙ sym (list_any-append (same x) (block_sets (block a)) (flat_map (λ a. block_sets (block a)) xs))

module _ (r : Run) (not_in_branch : NotLocalInBranch r) (not_in_body : NotLocalInBody r) (not_in_state : NotLocalInState r) (k : Within) (x : Name) (d : Decl) (w : Setting) (rows : List (List ℕ)) where
  abbrev SaysWhether : Equation → Type 0
  SaysWhether e = (s : Scope) → IsEquationOf r k s e → declaration (seen_at k.node (site_of s)) x ≡ Some d → Knows w rows (Defines x e) (Is (is_in x (sets_of e)))

  seen_inside : (around : Around) (site : Surroundings) (ls : List Decl) → locals_around (around ∷ site) ≡ ls ++ locals_around site → is_in x (names ls) ≡ false → declaration (seen_at k.node site) x ≡ Some d → declaration (seen_at k.node (around ∷ site)) x ≡ Some d
  seen_inside around site ls e free seen = ap (λ (ds : List Decl). declaration ds x) (seen_more k.node around site ls e) ∙ declared_after x ls (seen_at k.node site) free ∙ seen

  defines_by : (e : Equation) (v : Equation-F Equation Block Branch State) (b : Bool) → out-Equation e ≡ v → is_in x (sets_of e) ≡ b → Follows (Knows w rows) rows (defines_rule w v x) (Is b) → Knows w rows (Defines x e) (Is (is_in x (sets_of e)))
  defines_by e v b eq is h = to_rule w rows (Defines x e) (Is (is_in x (sets_of e)))
      (subst (λ (z : Equation-F Equation Block Branch State). Follows (Knows w rows) rows (defines_rule w z x) (Is (is_in x (sets_of e)))) (sym eq)
      (subst (λ (c : Bool). Follows (Knows w rows) rows (defines_rule w v x) (Is c)) (sym is) h)) (tells (Is (is_in x (sets_of e))) tt)

  whether_view : (v : Equation-F Equation Block Branch State) (e : Equation) → out-Equation e ≡ v → ((block : Block) (y : Equation) → Contains (inner_blocks v) block → Contains block.body y → SaysWhether y) → SaysWhether e
  whether_view (Equation-F.Define p left right) e eq step s h seen =
      defines_by e (Equation-F.Define p left right) (is_in x left) eq (ap (is_in x) (sets_define e p left right eq)) said
  whether_view (Equation-F.Switch p on bs) e eq step s h seen =
      defines_by e (Equation-F.Switch p on bs) _ eq
      (ap (is_in x) (sets_switch e p on bs eq ∙ flat_map-map (λ c. c.sets) branch_case bs) ∙ sym (same_sets (λ (b : Branch). b.block) bs x (λ b i. (not_in_branch k s e p on bs b x d h eq i seen).1)))
      (if_defined_follows w rows x (flat_map (λ b. b.block.body) bs)
      (λ y i. let o = flat_contains (λ (b : Branch). b.block.body) bs y i in
      step o.0.block y (contains_map (λ (b : Branch). b.block) bs o.0 o.1) o.2 (In_branch s on o.0) (record { stands = stands_in_branch p on bs o.0 h eq o.1; in_block = o.2 })
      (seen_inside (Branch_of on o.0.block.locals) (site_of s) o.0.block.locals refl (not_in_branch k s e p on bs o.0 x d h eq o.1 seen).0 seen))
      (λ yes. Says (Is yes)) _ said)
  whether_view (Equation-F.Reset p block every) e eq step s h seen =
      defines_by e (Equation-F.Reset p block every) _ eq
      (ap (is_in x) (sets_reset e p block every eq) ∙ (not_in_body k s e p block every x d h eq seen).1)
      (if_defined_follows w rows x block.body
      (λ y i. step block y (contains_first block block [] refl) i (In_body s every block) (record { stands = stands_in_body p block every h eq; in_block = i })
      (seen_inside (Body_of every block.locals) (site_of s) block.locals refl (not_in_body k s e p block every x d h eq seen).0 seen))
      (λ yes. Says (Is yes)) _ said)
  whether_view (Equation-F.Automaton p qs) e eq step s h seen =
      defines_by e (Equation-F.Automaton p qs) _ eq
      (ap (is_in x) (sets_automaton e p qs eq ∙ flat_map-map (λ c. c.sets) state_case qs)
      ∙ sym (same_sets (λ (q : State). q.block) qs x (λ q i. let j = state_in qs q i in (not_in_state k s e p qs j.0 q x d h eq j.1 seen).1)))
      (if_defined_follows w rows x (flat_map (λ q. q.block.body) qs)
      (λ y i. let o = flat_contains (λ (q : State). q.block.body) qs y i in let j = state_in qs o.0 o.1 in
      let block : o.0.block ≡ state_block qs j.0 = ap block_or_none (sym j.1) in
      step o.0.block y (contains_map (λ (q : State). q.block) qs o.0 o.1) o.2 (In_state s qs j.0)
      (record { stands = stands_in_state p qs j.0 o.0 h eq j.1; in_block = subst (λ (b : Block). Contains b.body y) block o.2 })
      (subst (λ (b : Block). declaration (seen_at k.node (State_of (strong_of_all qs) b.locals ∷ site_of s)) x ≡ Some d) block
      (seen_inside (State_of (strong_of_all qs) o.0.block.locals) (site_of s) o.0.block.locals refl (not_in_state k s e p qs j.0 o.0 x d h eq j.1 seen).0 seen)))
      (λ yes. Says (Is yes)) _ said)

  says_whether : (e : Equation) → Descends e → SaysWhether e
  says_whether e (descend g) = whether_view (out-Equation e) e refl (λ block y i j. says_whether y (g block y i j))

pub defines_is : (r : Run) → NotLocalInBranch r → NotLocalInBody r → NotLocalInState r → DefinesIs r
defines_is r not_in_branch not_in_body not_in_state k s e x d w rows h seen = says_whether r not_in_branch not_in_body not_in_state k x d w rows e (descends e) s h seen

-- ---- left sides

pub left_sees : (k : Within) (site : Surroundings) (c : Clock) (left : List Name) (ts : List Ty) (x : Name) → SoundLeft k site c left ts → is_in x left ≡ true → (d : Decl) × Sees k site x d c
left_sees k site c _ _ x no_left i = absurd (none i)
  where
    none : is_in x [] ≡ true → ⊥
    none i = cc
left_sees k site c _ _ x (a_left {x = y} {xs = xs} {d = d} {ts = ts} sees free rest) i = split (λ j. left_sees k site c xs ts x rest j) (or_parts (same x y) (is_in x xs) i)
  where
    split : (is_in x xs ≡ true → (d : Decl) × Sees k site x d c) → (same x y ≡ true) ⊎ (is_in x xs ≡ true) → (d : Decl) × Sees k site x d c
    split next (inl e) = (d, subst (λ (z : Name). Sees k site z d c) (sym ((bytes_eq-Decides x y).0 e)) sees)
    split next (inr j) = next j
