-- Whether a name is set somewhere inside an equation, and where it is then declared.
use Rattle.std.proofs.Common.{◌≡◌, ◌⊎◌, inl, inr, Bool, true, false, ◌||◌, List, [], ◌∷◌, ◌++◌, map, refl, sym, ap, subst, ◌∙◌, append-nil}
use Rattle.std.specs.Prelude.{if◌then◌else◌, Contains}
use Rattle.std.specs.List.{flat_map}
use Rattle.std.proofs.lemmas.List.Folds.{flat_map-map}
use Rattle.hept_ast.specs.Texts.{Name, is_in, names}
use Rattle.hept_ast.specs.Scopes.{Scope, In_branch, In_body, In_state, block_of, state_block, block_or_none}
use Rattle.hept_ast.specs.Parts.{Surroundings, Around, Branch_of, Body_of, State_of, Block as Block_part, Placed, declared_in, locals_around, seen_at, parts_of, block_parts, equation_case, strong_of_all}
use Rattle.hept_ast.specs.Meaning.{Defines, Is, Rule, Says, is_true, if_defined, defines_rule}
use Rattle.hept_ast.specs.Outputs.{said}
use Rattle.hept_ast.specs.declared.name.Place.{Place}
use Rattle.hept_ast.specs.declared.tree.Expr.{Expr}
use Rattle.hept_ast.specs.declared.tree.Decl.{Decl}
use Rattle.hept_ast.specs.declared.tree.Node.{Node}
use Rattle.hept_ast.specs.declared.tree.Block.{Block}
use Rattle.hept_ast.specs.declared.tree.Branch.{Branch}
use Rattle.hept_ast.specs.declared.tree.State.{State}
use Rattle.hept_ast.specs.declared.tree.Equation.{Equation, out-Equation}
use Rattle.hept_ast.specs.declared.tree.Equation.TheOpen.{Equation-F}
use Rattle.hept_ast.proofs.Depths.{to_rule}
use Rattle.sound_expressions.specs.Sound.{Within}
use Rattle.sound_expressions.specs.Demands.{NamesDiffer}
use Rattle.accepted_meaning.specs.Placing.{site_of}
use Rattle.accepted_meaning.specs.Running.{Run, IsKnown, setting_of}
use Rattle.accepted_meaning.specs.Structure.{IsEquationOf}
use Rattle.accepted_meaning.proofs.KnownRules.{tells}
use Rattle.accepted_meaning.proofs.KnownTrees.{or_first, or_second, or_parts, in_parts, contains_cases, contains_first, contains_more, none_contained, in_flat, never}
use Rattle.accepted_meaning.proofs.KnownScopes.{Texts, stands_in_branch, stands_in_body, stands_in_state}
use Rattle.accepted_meaning.proofs.KnownTexts.{Descends, descend, inner_blocks, descends}
use Rattle.accepted_meaning.proofs.KnownReads.{flat_in, map_in, contains_flat, flat_contains, part_in_branch, part_in_body, part_in_state, part_in_block, seen_more, state_in, left_sees}
use Rattle.accepted_meaning.proofs.KnownSame.{Comes, Same, same_itself, same_trans, same_ask}
use Rattle.accepted_meaning.proofs.TextLists.{names_append, is_in_declared}
use Rattle.accepted_meaning.proofs.TextApart.{declared_by, declared_append, inner, inside, IsApart}
use Rattle.sound_expressions.proofs.Values.{differ_right, not_in_first}

-- ---- set somewhere inside an equation

pub data Inside (z : Name) : Equation → Type 0 where
  set_here : {e : Equation} {p : Place} {left : List Name} {right : Expr} → out-Equation e ≡ Equation-F.Define p left right → is_in z left ≡ true → Inside z e
  set_within : {e y : Equation} {block : Block} → Contains (inner_blocks (out-Equation e)) block → Contains block.body y → Inside z y → Inside z e

-- an inner block with an equation inside which a name is set
pub record InnerSet (z : Name) (v : Equation-F Equation Block Branch State) : Type 0 where
  pub block : Block
  pub equation : Equation
  pub in_blocks : Contains (inner_blocks v) block
  pub in_body : Contains block.body equation
  pub set : Inside z equation

abbrev pub IsNested : Equation-F Equation Block Branch State → Type 0
IsNested (Equation-F.Define p left right) = ⊥
IsNested _ = Unit {0}

nested_is : (v : Equation-F Equation Block Branch State) (p : Place) (left : List Name) (right : Expr) → IsNested v → v ≡ Equation-F.Define p left right → ⊥
nested_is (Equation-F.Define q l x) p left right h e = h
nested_is (Equation-F.Switch q on bs) p left right h e = cc
nested_is (Equation-F.Reset q block every) p left right h e = cc
nested_is (Equation-F.Automaton q qs) p left right h e = cc

pub inside_nested : (z : Name) (e : Equation) (v : Equation-F Equation Block Branch State) → out-Equation e ≡ v → IsNested v → Inside z e → InnerSet z v
inside_nested z e v eq nested (set_here {p = p} {left = left} {right = right} h i) = absurd (nested_is v p left right nested (sym eq ∙ h))
inside_nested z e v eq nested (set_within {y = y} {block = block} i j s) =
    record { block = block; equation = y; in_blocks = subst (λ (x : Equation-F Equation Block Branch State). Contains (inner_blocks x) block) eq i; in_body = j; set = s }

abbrev left_of : Equation-F Equation Block Branch State → List Name
left_of (Equation-F.Define p left right) = left
left_of _ = []

inside_plain : (z : Name) (e : Equation) (p : Place) (left : List Name) (right : Expr) → out-Equation e ≡ Equation-F.Define p left right → Inside z e → is_in z left ≡ true
inside_plain z e p left right eq (set_here {left = l} h i) = subst (λ (xs : List Name). is_in z xs ≡ true) (ap (λ (v : Equation-F Equation Block Branch State). left_of v) (sym h ∙ eq)) i
inside_plain z e p left right eq (set_within {block = block} i j s) = absurd (none_contained block (subst (λ (x : Equation-F Equation Block Branch State). Contains (inner_blocks x) block) eq i))

-- ---- whether it is so is known

pub record Whether (r : Run) (z : Name) (e : Equation) : Type 0 where
  pub bit : Bool
  pub known : IsKnown r (Defines z e) (Is bit)
  pub to : bit ≡ true → Inside z e
  pub from : Inside z e → bit ≡ true

pub record SomeSet (z : Name) (es : List Equation) : Type 0 where
  pub equation : Equation
  pub among : Contains es equation
  pub set : Inside z equation

pub record WhetherSome (r : Run) (z : Name) (es : List Equation) : Type 0 where
  pub bit : Bool
  pub same : (go : Bool → Rule) → Same r (if_defined z es go) (go bit)
  pub to : bit ≡ true → SomeSet z es
  pub from : SomeSet z es → bit ≡ true

or_same : (r : Run) (b c : Bool) (go : Bool → Rule) (d : Rule) → Same r d (go c) → Same r (if b then go true else d) (go (b || c))
or_same r true c go d h = same_itself
or_same r false c go d h = h

pub whether_some : (r : Run) (z : Name) (es : List Equation) → ((e : Equation) → Contains es e → Whether r z e) → WhetherSome r z es
whether_some r z [] each = record { bit = false; same = λ go. same_itself; to = λ h. absurd (no_truth h); from = λ s. absurd (none_contained s.equation s.among) }
  where
    no_truth : false ≡ true → ⊥
    no_truth h = cc
whether_some r z (e ∷ es) each =
    let w = each e (contains_first e e es refl) in
    let n = whether_some r z es (λ y i. each y (contains_more e es y i)) in
    record {
      bit = w.bit || n.bit;
      same = λ go. same_trans (same_ask r (Defines z e) (λ a. if is_true a then go true else if_defined z es go) (Is w.bit) w.known) (or_same r w.bit n.bit go (if_defined z es go) (n.same go));
      to = λ h. split w.bit n.bit w.to n.to (or_parts w.bit n.bit h);
      from = λ s. join w n s (contains_cases e es s.equation s.among);
    }
  where
    split : (b c : Bool) → (b ≡ true → Inside z e) → (c ≡ true → SomeSet z es) → (b ≡ true) ⊎ (c ≡ true) → SomeSet z (e ∷ es)
    split b c g h (inl k) = record { equation = e; among = contains_first e e es refl; set = g k }
    split b c g h (inr k) = let s = h k in record { equation = s.equation; among = contains_more e es s.equation s.among; set = s.set }

    join : (w : Whether r z e) (n : WhetherSome r z es) (s : SomeSet z (e ∷ es)) → (e ≡ s.equation) ⊎ Contains es s.equation → (w.bit || n.bit) ≡ true
    join w n s (inl k) = or_first w.bit n.bit (w.from (subst (λ (y : Equation). Inside z y) (sym k) s.set))
    join w n s (inr k) = or_second w.bit n.bit (n.from (record { equation = s.equation; among = k; set = s.set }))

abbrev pub inner_equations : Equation-F Equation Block Branch State → List Equation
inner_equations v = flat_map (λ b. b.body) (inner_blocks v)

nested_rule : (r : Run) (z : Name) (v : Equation-F Equation Block Branch State) → IsNested v → defines_rule (setting_of r) v z ≡ if_defined z (inner_equations v) (λ yes. Says (Is yes))
nested_rule r z (Equation-F.Define p left right) h = absurd h
nested_rule r z (Equation-F.Switch p on bs) h = ap (λ (es : List Equation). if_defined z es (λ yes. Says (Is yes))) (sym (flat_map-map (λ (b : Block). b.body) (λ (b : Branch). b.block) bs))
nested_rule r z (Equation-F.Reset p block every) h = ap (λ (es : List Equation). if_defined z es (λ yes. Says (Is yes))) (sym (append-nil block.body))
nested_rule r z (Equation-F.Automaton p qs) h = ap (λ (es : List Equation). if_defined z es (λ yes. Says (Is yes))) (sym (flat_map-map (λ (b : Block). b.body) (λ (q : State). q.block) qs))

whether_nested : (r : Run) (z : Name) (v : Equation-F Equation Block Branch State) (e : Equation) → IsNested v → out-Equation e ≡ v → ((block : Block) (y : Equation) → Contains (inner_blocks v) block → Contains block.body y → Whether r z y) → Whether r z e
whether_nested r z v e nested eq step =
    let n = whether_some r z (inner_equations v) (λ y i. let o = flat_contains (λ (b : Block). b.body) (inner_blocks v) y i in step o.0 y o.1 o.2) in
    record {
      bit = n.bit;
      known = to_rule (setting_of r) r.rows (Defines z e) (Is n.bit)
          (subst (λ (x : Rule). Comes r x (Is n.bit)) (sym (ap (λ (x : Equation-F Equation Block Branch State). defines_rule (setting_of r) x z) eq ∙ nested_rule r z v nested)) ((n.same (λ yes. Says (Is yes))).from (Is n.bit) said)) (tells (Is n.bit) tt);
      to = λ h. let s = n.to h in let o = flat_contains (λ (b : Block). b.body) (inner_blocks v) s.equation s.among in
          set_within (subst (λ (x : Equation-F Equation Block Branch State). Contains (inner_blocks x) o.0) (sym eq) o.1) o.2 s.set;
      from = λ s. let o = inside_nested z e v eq nested s in
          n.from (record { equation = o.equation; among = contains_flat (λ (b : Block). b.body) (inner_blocks v) o.block o.equation o.in_blocks o.in_body; set = o.set });
    }

whether_view : (r : Run) (z : Name) (v : Equation-F Equation Block Branch State) (e : Equation) → out-Equation e ≡ v → ((block : Block) (y : Equation) → Contains (inner_blocks v) block → Contains block.body y → Whether r z y) → Whether r z e
whether_view r z (Equation-F.Define p left right) e eq step = record {
  bit = is_in z left;
  known = to_rule (setting_of r) r.rows (Defines z e) (Is (is_in z left))
      (subst (λ (x : Equation-F Equation Block Branch State). Comes r (defines_rule (setting_of r) x z) (Is (is_in z left))) (sym eq) said) (tells (Is (is_in z left)) tt);
  to = λ h. set_here eq h;
  from = λ s. inside_plain z e p left right eq s;
}
whether_view r z (Equation-F.Switch p on bs) e eq step = whether_nested r z (Equation-F.Switch p on bs) e tt eq step
whether_view r z (Equation-F.Reset p block every) e eq step = whether_nested r z (Equation-F.Reset p block every) e tt eq step
whether_view r z (Equation-F.Automaton p qs) e eq step = whether_nested r z (Equation-F.Automaton p qs) e tt eq step

whether_by : (r : Run) (z : Name) (e : Equation) → Descends e → Whether r z e
whether_by r z e (descend g) = whether_view r z (out-Equation e) e refl (λ block y i j. whether_by r z y (g block y i j))

pub whether : (r : Run) (z : Name) (e : Equation) → Whether r z e
whether r z e = whether_by r z e (descends e)

-- ---- where a name that is set inside is declared

names_flat : {A : Type 0} (f : A → List Decl) (xs : List A) → names (flat_map f xs) ≡ flat_map (λ x. names (f x)) xs
names_flat f [] = refl
names_flat f (x ∷ xs) = names_append (f x) (flat_map f xs) ∙ ap (λ (t : List Name). names (f x) ++ t) (names_flat f xs)

abbrev part_names : Placed → List Name
part_names q = names (declared_in q.part)

pub declared_at : (z : Name) (qs : List Placed) (q : Placed) → Contains qs q → is_in z (names (declared_in q.part)) ≡ true → is_in z (declared_by qs) ≡ true
declared_at z qs q i h = ap (is_in z) (names_flat (λ x. declared_in x.part) qs) ∙ in_flat part_names qs q z i h

pub declared_more : (z : Name) (ps qs : List Placed) → ((q : Placed) → Contains ps q → Contains qs q) → is_in z (declared_by ps) ≡ true → is_in z (declared_by qs) ≡ true
declared_more z ps qs more h =
    let o = flat_in part_names ps z (sym (ap (is_in z) (names_flat (λ x. declared_in x.part) ps)) ∙ h) in
    declared_at z qs o.element (more o.element o.among) o.has

-- what is seen inside a block is declared in it or seen outside
seen_parts : (node : Node) (z : Name) (around : Around) (site : Surroundings) (ls : List Decl) → locals_around (around ∷ site) ≡ ls ++ locals_around site →
    is_in z (names (seen_at node (around ∷ site))) ≡ true → (is_in z (names ls) ≡ true) ⊎ (is_in z (names (seen_at node site)) ≡ true)
seen_parts node z around site ls e h =
    in_parts z (names ls) (names (seen_at node site)) (sym (ap (is_in z) (ap names (seen_more node around site ls e) ∙ names_append ls (seen_at node site))) ∙ h)

abbrev pub Located : Within → Name → Surroundings → List Placed → Type 0
Located k z site qs = (is_in z (declared_by qs) ≡ true) ⊎ (is_in z (names (seen_at k.node site)) ≡ true)

-- one level out
located_out : (k : Within) (z : Name) (around : Around) (site : Surroundings) (block : Block) (y : Equation) (qs : List Placed) → locals_around (around ∷ site) ≡ block.locals ++ locals_around site → Contains block.body y →
    ((q : Placed) → Contains (block_parts (around ∷ site) block) q → Contains qs q) → Located k z (around ∷ site) (parts_of (around ∷ site) y) → Located k z site qs
located_out k z around site block y qs e i more (inl h) = inl (declared_more z (parts_of (around ∷ site) y) qs (λ q j. more q (part_in_block (around ∷ site) block y q i j)) h)
located_out k z around site block y qs e i more (inr h) = split (seen_parts k.node z around site block.locals e h)
  where
    split : (is_in z (names block.locals) ≡ true) ⊎ (is_in z (names (seen_at k.node site)) ≡ true) → Located k z site qs
    split (inl j) = inl (declared_at z qs (record { site = around ∷ site; part = Block_part block.locals (map equation_case block.body) }) (more _ (contains_first _ _ _ refl)) j)
    split (inr j) = inr j

abbrev Locates : Run → Within → Name → Equation → Type 0
Locates r k z e = (s : Scope) → IsEquationOf r k s e → Located k z (site_of s) (parts_of (site_of s) e)

locate_view : (r : Run) → Texts r → (k : Within) (z : Name) (v : Equation-F Equation Block Branch State) (e : Equation) → out-Equation e ≡ v → (IsNested v → (o : InnerSet z v) → Locates r k z o.equation) → Inside z e → Locates r k z e
locate_view r texts k z (Equation-F.Define p left right) e eq step set s h =
    let part = texts.sound_define k s e p left right h eq in
    let seen = left_sees k (site_of s) part.0 left part.1 z part.3 (inside_plain z e p left right eq set) in
    inr (is_in_declared (seen_at k.node (site_of s)) z seen.0 seen.1.declared)
locate_view r texts k z (Equation-F.Switch p on bs) e eq step set s h =
    let o = inside_nested z e (Equation-F.Switch p on bs) eq tt set in
    let b = map_in (λ (x : Branch). x.block) bs o.block o.in_blocks in
    let i : Contains b.0.block.body o.equation = subst (λ (x : Block). Contains x.body o.equation) (sym b.2) o.in_body in
    located_out k z (Branch_of on b.0.block.locals) (site_of s) b.0.block o.equation (parts_of (site_of s) e) refl i (λ q j. part_in_branch (site_of s) e p on bs b.0 q eq b.1 j)
    (step tt o (In_branch s on b.0) (record { stands = stands_in_branch p on bs b.0 h eq b.1; in_block = i }))
locate_view r texts k z (Equation-F.Reset p block every) e eq step set s h =
    let o = inside_nested z e (Equation-F.Reset p block every) eq tt set in
    let same : block ≡ o.block = only_one block o.block o.in_blocks in
    let i : Contains block.body o.equation = subst (λ (x : Block). Contains x.body o.equation) (sym same) o.in_body in
    located_out k z (Body_of every block.locals) (site_of s) block o.equation (parts_of (site_of s) e) refl i (λ q j. part_in_body (site_of s) e p block every q eq j)
    (step tt o (In_body s every block) (record { stands = stands_in_body p block every h eq; in_block = i }))
  where
    only_one : (x y : Block) → Contains (x ∷ []) y → x ≡ y
    only_one x y c = split (contains_cases x [] y c)
      where
        split : (x ≡ y) ⊎ Contains [] y → x ≡ y
        split (inl e) = e
        split (inr n) = absurd (none_contained y n)
locate_view r texts k z (Equation-F.Automaton p qs) e eq step set s h =
    let o = inside_nested z e (Equation-F.Automaton p qs) eq tt set in
    let b = map_in (λ (x : State). x.block) qs o.block o.in_blocks in
    let i : Contains b.0.block.body o.equation = subst (λ (x : Block). Contains x.body o.equation) (sym b.2) o.in_body in
    let j = state_in qs b.0 b.1 in
    let same : b.0.block ≡ state_block qs j.0 = ap block_or_none (sym j.1) in
    located_out k z (State_of (strong_of_all qs) b.0.block.locals) (site_of s) b.0.block o.equation (parts_of (site_of s) e) refl i (λ q l. part_in_state (site_of s) e p qs b.0 q eq b.1 l)
    (subst (λ (x : Block). Located k z (State_of (strong_of_all qs) x.locals ∷ site_of s) (parts_of (State_of (strong_of_all qs) x.locals ∷ site_of s) o.equation)) (sym same)
    (step tt o (In_state s qs j.0) (record { stands = stands_in_state p qs j.0 b.0 h eq j.1; in_block = subst (λ (x : Block). Contains x.body o.equation) same i })))

locate_by : (r : Run) → Texts r → (k : Within) (z : Name) (e : Equation) → Descends e → Inside z e → Locates r k z e
locate_by r texts k z e (descend g) set = locate_view r texts k z (out-Equation e) e refl (λ nested o. locate_by r texts k z o.equation (g o.block o.equation o.in_blocks o.in_body) o.set) set

pub located : (r : Run) → Texts r → (k : Within) (z : Name) (e : Equation) → Inside z e → (s : Scope) → IsEquationOf r k s e → Located k z (site_of s) (parts_of (site_of s) e)
located r texts k z e set s h = locate_by r texts k z e (descends e) set s h

-- ---- one equation of a block declares a name inside

unique : (site : Surroundings) (z : Name) (es : List Equation) → NamesDiffer (declared_by (flat_map (parts_of site) es)) → (a b : Equation) → Contains es a → Contains es b →
    is_in z (declared_by (parts_of site a)) ≡ true → is_in z (declared_by (parts_of site b)) ≡ true → a ≡ b
unique site z [] h a b i j m n = absurd (none_contained a i)
unique site z (e ∷ es) h a b i j m n =
    let d : NamesDiffer (declared_by (parts_of site e) ++ declared_by (flat_map (parts_of site) es)) = subst NamesDiffer (declared_append (parts_of site e) (flat_map (parts_of site) es)) h in
    split d (λ k l. unique site z es (differ_right (declared_by (parts_of site e)) _ d) a b k l m n) (contains_cases e es a i) (contains_cases e es b j)
  where
    among : (y : Equation) → Contains es y → is_in z (declared_by (parts_of site y)) ≡ true → is_in z (declared_by (flat_map (parts_of site) es)) ≡ true
    among y k g = declared_more z (parts_of site y) (flat_map (parts_of site) es) (λ q l. contains_flat (parts_of site) es y q k l) g

    clash : (x y : Equation) → NamesDiffer (declared_by (parts_of site e) ++ declared_by (flat_map (parts_of site) es)) → e ≡ x → is_in z (declared_by (parts_of site x)) ≡ true → Contains es y → is_in z (declared_by (parts_of site y)) ≡ true → ⊥
    clash x y d g first k later =
        never (is_in z (declared_by (parts_of site e))) (subst (λ (q : Equation). is_in z (declared_by (parts_of site q)) ≡ true) (sym g) first)
        (not_in_first z (declared_by (parts_of site e)) (declared_by (flat_map (parts_of site) es)) d (among y k later))

    split : NamesDiffer (declared_by (parts_of site e) ++ declared_by (flat_map (parts_of site) es)) → (Contains es a → Contains es b → a ≡ b) → (e ≡ a) ⊎ Contains es a → (e ≡ b) ⊎ Contains es b → a ≡ b
    split d next (inl g) (inl k) = sym g ∙ k
    split d next (inl g) (inr k) = absurd (clash a b d g m k n)
    split d next (inr g) (inl k) = absurd (clash b a d k n g m)
    split d next (inr g) (inr k) = next g k

-- an equation inside which a name is set that one of them declares
pub only_one_sets : (r : Run) → Texts r → (k : Within) (s : Scope) → IsApart k.node s → (z : Name) (e : Equation) → IsEquationOf r k s e → is_in z (declared_by (parts_of (site_of s) e)) ≡ true →
    (y : Equation) → Contains (block_of s).body y → Inside z y → y ≡ e
only_one_sets r texts k s apart z e h declared y i set = split (located r texts k z y set s (record { stands = h.stands; in_block = i }))
  where
    inside_it : is_in z (inside s) ≡ true
    inside_it = declared_more z (parts_of (site_of s) e) (inner s) (λ q l. contains_flat (parts_of (site_of s)) (block_of s).body e q h.in_block l) declared

    split : Located k z (site_of s) (parts_of (site_of s) y) → y ≡ e
    split (inl d) = unique (site_of s) z (block_of s).body apart.differ y e i h.in_block d declared
    split (inr seen) = never (is_in z (inside s)) inside_it (apart.apart z seen)
