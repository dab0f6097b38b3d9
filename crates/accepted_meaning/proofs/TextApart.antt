-- What is seen where an equation stands is declared nowhere inside it, since all variables of a node have different names.
use Rattle.std.proofs.Common.{◌≡◌, inl, inr, ⊎_elim, ℕ, ◌||◌, Bool, true, false, not, List, [], ◌∷◌, ◌++◌, Some, map, refl, sym, ◌∙◌, ap, subst, append_assoc, append-nil}
use Rattle.std.specs.Prelude.{if◌then◌else◌, Contains, slice_get}
use Rattle.std.specs.List.{flat_map}
use Rattle.hept_ast.specs.Texts.{Name, same, is_in, names}
use Rattle.hept_ast.specs.Scopes.{Written, Scope, Top, Called, In_branch, In_body, text_of, block_of, block_or_none, state_block}
use Rattle.hept_ast.specs.Parts.{Branch_of, State_of, Surroundings, Placed, parts, parts_of, block_parts, from_outside, sets_of, state_case, state_parts, strong_of_all, transitions, seen_at, locals_around, declaration, declared_in, variables}
use Rattle.hept_ast.specs.Clocks.{own_names}
use Rattle.hept_ast.specs.declared.name.Place.{Place}
use Rattle.hept_ast.specs.declared.tree.Block as tree
use Rattle.hept_ast.specs.declared.tree.Decl.{Decl}
use Rattle.hept_ast.specs.declared.tree.Branch.{Branch}
use Rattle.hept_ast.specs.declared.tree.State.{State}
use Rattle.hept_ast.specs.declared.tree.Expr.{Expr}
use Rattle.hept_ast.specs.declared.tree.Node.{Node}
use Rattle.hept_ast.specs.declared.tree.Equation.{Equation, out-Equation}
use Rattle.hept_ast.specs.declared.tree.Equation.TheOpen.{Equation-F}
use Rattle.sound_expressions.specs.Sound.{Within}
use Rattle.sound_expressions.specs.Demands.{NamesDiffer}
use Rattle.accepted_meaning.specs.Placing.{IsPlaced, at_top, at_call, at_branch, at_reset, at_state, site_of}
use Rattle.accepted_meaning.specs.Running.{Run, StandsIn, setting_of, text_run}
use Rattle.accepted_meaning.specs.Structure.{IsNotLocal, NotLocalInBranch, NotLocalInBody, NotLocalInState, SeesInBranch, SeesInBody, SeesInState}
use Rattle.accepted_meaning.proofs.TextLists.{contains_cases, contains_none, contains_got, is_in_append, names_append, is_in_declared, declaration_right, not_both, same_is}
use Rattle.accepted_meaning.proofs.FitsTexts.{parts_are, clock_of_seen}
use Rattle.accepted_meaning.proofs.FitsScopes.{written_is}

-- ---- names that differ

or_parts : (a b : Bool) → (a || b) ≡ false → (a ≡ false) × (b ≡ false)
or_parts true b e = cc
or_parts false b e = (refl, e)

none_of_either : (a b : Bool) → a ≡ false → b ≡ false → (a || b) ≡ false
none_of_either true b e f = cc
none_of_either false b e f = f

either_of : {P : Type 0} (a b : Bool) → (a || b) ≡ true → (a ≡ true → P) → (b ≡ true → P) → P
either_of true b e f g = f refl
either_of false b e f g = g e

not_in_right : (x : Name) (xs ys : List Name) → is_in x (xs ++ ys) ≡ false → is_in x ys ≡ false
not_in_right x xs ys e = (or_parts (is_in x xs) (is_in x ys) (sym (is_in_append x xs ys) ∙ e)).1

not_in_left : (x : Name) (xs ys : List Name) → is_in x (xs ++ ys) ≡ false → is_in x xs ≡ false
not_in_left x xs ys e = (or_parts (is_in x xs) (is_in x ys) (sym (is_in_append x xs ys) ∙ e)).0

differ_left : (xs ys : List Name) → NamesDiffer (xs ++ ys) → NamesDiffer xs
differ_left [] ys h = tt
differ_left (x ∷ xs) ys h = (not_in_left x xs ys h.0, differ_left xs ys h.1)

differ_right : (xs ys : List Name) → NamesDiffer (xs ++ ys) → NamesDiffer ys
differ_right [] ys h = h
differ_right (x ∷ xs) ys h = differ_right xs ys h.1

not_right : (x : Name) (xs ys : List Name) → NamesDiffer (xs ++ ys) → is_in x xs ≡ true → is_in x ys ≡ false
not_right x [] ys h e = not_both false e refl
not_right x (y ∷ xs) ys h e = go (same x y) refl e (λ g. not_right x xs ys h.1 g)
  where
    go : (b : Bool) → same x y ≡ b → (b || is_in x xs) ≡ true → (is_in x xs ≡ true → is_in x ys ≡ false) → is_in x ys ≡ false
    go true f g later = ap (λ (z : Name). is_in z ys) (same_is x y f) ∙ not_in_right y xs ys h.0
    go false f g later = later g

-- ---- a list that stands whole within another

record IsPartOf {A : Type 0} (ys xs : List A) : Type 0 where
  earlier : List A
  later : List A
  is : earlier ++ (ys ++ later) ≡ xs

part_of_flat : {A B : Type 0} (f : A → List B) (xs : List A) (a : A) → Contains xs a → IsPartOf (f a) (flat_map f xs)
part_of_flat f [] a h = contains_none a h
part_of_flat f (x ∷ xs) a h =
    ⊎_elim (λ e. subst (λ y. IsPartOf (f y) (flat_map f (x ∷ xs))) e (record { earlier = []; later = flat_map f xs; is = refl }))
    (λ c. let p = part_of_flat f xs a c in
    record { earlier = f x ++ p.earlier; later = p.later; is = append_assoc (f x) p.earlier (f a ++ p.later) ∙ ap (λ t. f x ++ t) p.is }) (contains_cases x a xs h)

part_after : {A : Type 0} (x : A) (ys xs : List A) → IsPartOf ys xs → IsPartOf ys (x ∷ xs)
part_after x ys xs p = record { earlier = x ∷ p.earlier; later = p.later; is = ap (λ t. x ∷ t) p.is }

part_first : {A : Type 0} (ys zs : List A) → IsPartOf ys (ys ++ zs)
part_first ys zs = record { earlier = []; later = zs; is = refl }

part_of_part : {A : Type 0} (zs ys xs : List A) → IsPartOf zs ys → IsPartOf ys xs → IsPartOf zs xs
part_of_part zs ys xs p q = record {
  earlier = q.earlier ++ p.earlier;
  later = p.later ++ q.later;
  is = append_assoc q.earlier p.earlier (zs ++ (p.later ++ q.later))
      ∙ ap (λ t. q.earlier ++ (p.earlier ++ t)) (sym (append_assoc zs p.later q.later))
      ∙ ap (λ t. q.earlier ++ t) (sym (append_assoc p.earlier (zs ++ p.later) q.later))
      ∙ ap (λ t. q.earlier ++ (t ++ q.later)) p.is
      ∙ q.is;
}

part_differs : (ys xs : List Name) → IsPartOf ys xs → NamesDiffer xs → NamesDiffer ys
part_differs ys xs p h = differ_left ys p.later (differ_right p.earlier (ys ++ p.later) (subst NamesDiffer (sym p.is) h))

part_lacks : (x : Name) (ys xs : List Name) → IsPartOf ys xs → is_in x xs ≡ false → is_in x ys ≡ false
part_lacks x ys xs p e = not_in_left x ys p.later (not_in_right x p.earlier (ys ++ p.later) (ap (is_in x) p.is ∙ e))

-- ---- what parts declare

abbrev pub declared_by : List Placed → List Name
declared_by qs = names (flat_map (λ q. declared_in q.part) qs)

pub declared_append : (ps qs : List Placed) → declared_by (ps ++ qs) ≡ declared_by ps ++ declared_by qs
declared_append [] qs = refl
declared_append (p ∷ ps) qs =
    names_append (declared_in p.part) (flat_map (λ q. declared_in q.part) (ps ++ qs))
    ∙ (ap (λ t. names (declared_in p.part) ++ t) (declared_append ps qs)
    ∙ (sym (append_assoc (names (declared_in p.part)) (declared_by ps) (declared_by qs))
    ∙ ap (λ t. t ++ declared_by qs) (sym (names_append (declared_in p.part) (flat_map (λ q. declared_in q.part) ps)))))

part_declares : (ps qs : List Placed) → IsPartOf ps qs → IsPartOf (declared_by ps) (declared_by qs)
part_declares ps qs p = record {
  earlier = declared_by p.earlier;
  later = declared_by p.later;
  is = ap (λ t. declared_by p.earlier ++ t) (sym (declared_append ps p.later)) ∙ sym (declared_append p.earlier (ps ++ p.later)) ∙ ap declared_by p.is;
}

abbrev pub inner : Scope → List Placed
inner s = flat_map (parts_of (site_of s)) (block_of s).body

abbrev pub inside : Scope → List Name
inside s = declared_by (inner s)

-- what is seen at a scope is declared nowhere inside its equations
pub record IsApart (node : Node) (s : Scope) : Type 0 where
  pub apart : (x : Name) → is_in x (names (seen_at node (site_of s))) ≡ true → is_in x (inside s) ≡ false
  pub differ : NamesDiffer (inside s)

-- ---- blocks inside a scope's equations

seen_more : (node : Node) (locals : List Decl) (site : Surroundings) →
    (((locals ++ locals_around site) ++ node.block.locals) ++ node.outputs) ++ node.inputs ≡ locals ++ seen_at node site
seen_more node locals site =
    ap (λ t. (t ++ node.outputs) ++ node.inputs) (append_assoc locals (locals_around site) node.block.locals)
    ∙ ap (λ t. t ++ node.inputs) (append_assoc locals (locals_around site ++ node.block.locals) node.outputs)
    ∙ append_assoc locals ((locals_around site ++ node.block.locals) ++ node.outputs) node.inputs

abbrev pub rest_of : Surroundings → tree.Block → List Placed
rest_of site block = flat_map (parts_of site) block.body

pub block_declares : (site : Surroundings) (block : tree.Block) → declared_by (block_parts site block) ≡ names block.locals ++ declared_by (rest_of site block)
block_declares site block = names_append block.locals (flat_map (λ q. declared_in q.part) (rest_of site block))

module _ (node : Node) (s : Scope) (is : IsApart node s) (site : Surroundings) (block : tree.Block) (within : IsPartOf (block_parts site block) (inner s)) where
  block_differs : NamesDiffer (names block.locals ++ declared_by (rest_of site block))
  block_differs = subst NamesDiffer (block_declares site block) (part_differs (declared_by (block_parts site block)) (inside s) (part_declares (block_parts site block) (inner s) within) is.differ)

  not_in_block : (x : Name) → is_in x (names (seen_at node (site_of s))) ≡ true → is_in x (names block.locals ++ declared_by (rest_of site block)) ≡ false
  not_in_block x e = ap (is_in x) (sym (block_declares site block)) ∙ part_lacks x (declared_by (block_parts site block)) (inside s) (part_declares (block_parts site block) (inner s) within) (is.apart x e)

  rest_apart : (x : Name) → is_in x (names ((((block.locals ++ locals_around (site_of s)) ++ node.block.locals) ++ node.outputs) ++ node.inputs)) ≡ true → is_in x (declared_by (rest_of site block)) ≡ false
  rest_apart x e =
      either_of (is_in x (names block.locals)) (is_in x (names (seen_at node (site_of s))))
      (sym (is_in_append x (names block.locals) (names (seen_at node (site_of s)))) ∙ ap (is_in x) (sym (ap names (seen_more node block.locals (site_of s)) ∙ names_append block.locals (seen_at node (site_of s)))) ∙ e)
      (λ f. not_right x (names block.locals) (declared_by (rest_of site block)) block_differs f)
      (λ f. not_in_right x (names block.locals) (declared_by (rest_of site block)) (not_in_block x f))

  rest_differs : NamesDiffer (declared_by (rest_of site block))
  rest_differs = differ_right (names block.locals) (declared_by (rest_of site block)) block_differs

-- ---- the block of each branch, body and state is a part

in_equation : (s : Scope) (e : Equation) (qs : List Placed) → Contains (block_of s).body e → IsPartOf qs (parts_of (site_of s) e) → IsPartOf qs (inner s)
in_equation s e qs h p = part_of_part qs (parts_of (site_of s) e) (inner s) p (part_of_flat (parts_of (site_of s)) (block_of s).body e h)

branch_part : (s : Scope) (e : Equation) (p : Place) (on : Expr) (branches : List Branch) (b : Branch) →
    Contains (block_of s).body e → out-Equation e ≡ Equation-F.Switch p on branches → Contains branches b → IsPartOf (block_parts (site_of (In_branch s on b)) b.block) (inner s)
branch_part s e p on branches b h view among =
    in_equation s e _ h (subst (λ qs. IsPartOf (block_parts (site_of (In_branch s on b)) b.block) qs) (sym (parts_are (site_of s) e (Equation-F.Switch p on branches) view))
    (part_after _ _ _ (part_of_flat (λ (x : Branch). block_parts (Branch_of on x.block.locals ∷ site_of s) x.block) branches b among)))

body_part : (s : Scope) (e : Equation) (p : Place) (block : tree.Block) (every : Expr) →
    Contains (block_of s).body e → out-Equation e ≡ Equation-F.Reset p block every → IsPartOf (block_parts (site_of (In_body s every block)) block) (inner s)
body_part s e p block every h view =
    in_equation s e _ h (subst (λ qs. IsPartOf (block_parts (site_of (In_body s every block)) block) qs) (sym (parts_are (site_of s) e (Equation-F.Reset p block every) view))
    (part_after _ _ _ (record { earlier = []; later = []; is = append-nil (block_parts (site_of (In_body s every block)) block) })))

abbrev pub state_site : Scope → List State → tree.Block → Surroundings
state_site s states block = State_of (strong_of_all states) block.locals ∷ site_of s

state_part : (s : Scope) (e : Equation) (p : Place) (states : List State) (j : ℕ) (q : State) →
    Contains (block_of s).body e → out-Equation e ≡ Equation-F.Automaton p states → slice_get states j ≡ Some q → IsPartOf (block_parts (state_site s states q.block) q.block) (inner s)
state_part s e p states j q h view at =
    let site : Surroundings = state_site s states q.block in
    let labels : List Name = map (λ c. c.label) (map state_case states) in
    in_equation s e _ h (subst (λ qs. IsPartOf (block_parts site q.block) qs) (sym (parts_are (site_of s) e (Equation-F.Automaton p states) view))
    (part_after _ _ _ (part_of_part _ (state_parts (site_of s) (strong_of_all states) labels q) _
    (part_of_part _ (block_parts site q.block ++ transitions site false labels q.weak) _
    (part_first (block_parts site q.block) (transitions site false labels q.weak))
    (part_first (block_parts site q.block ++ transitions site false labels q.weak) (transitions (site_of s) true labels q.strong)))
    (part_of_flat (state_parts (site_of s) (strong_of_all states) labels) states q (contains_got states j q at)))))

-- ---- the body of a node

module _ (node : Node) (h : NamesDiffer (names (variables node))) where
  abbrev rest : List Name
  rest = declared_by (flat_map (parts_of []) node.block.body)

  all_names : NamesDiffer (names node.inputs ++ (names (node.outputs ++ node.block.locals) ++ rest))
  all_names = subst NamesDiffer
      (names_append node.inputs (flat_map (λ q. declared_in q.part) (parts node))
      ∙ ap (λ t. names node.inputs ++ t) (names_append (node.outputs ++ node.block.locals) (flat_map (λ q. declared_in q.part) (flat_map (parts_of []) node.block.body)))) h

  own_apart : (x : Name) → is_in x (names (node.outputs ++ node.block.locals)) ≡ true → is_in x rest ≡ false
  own_apart x e = not_right x (names (node.outputs ++ node.block.locals)) rest (differ_right (names node.inputs) (names (node.outputs ++ node.block.locals) ++ rest) all_names) e

  own_in : (x : Name) → (is_in x (names node.block.locals) || is_in x (names node.outputs)) ≡ true → is_in x (names (node.outputs ++ node.block.locals)) ≡ true
  own_in x e = ap (is_in x) (names_append node.outputs node.block.locals) ∙ is_in_append x (names node.outputs) (names node.block.locals)
      ∙ turned (is_in x (names node.block.locals)) (is_in x (names node.outputs)) ∙ e
    where
      turned : (a b : Bool) → (b || a) ≡ (a || b)
      turned true true = refl
      turned true false = refl
      turned false true = refl
      turned false false = refl

  body_apart : (x : Name) → is_in x (names ((node.block.locals ++ node.outputs) ++ node.inputs)) ≡ true → is_in x rest ≡ false
  body_apart x e =
      either_of (is_in x (names (node.block.locals ++ node.outputs))) (is_in x (names node.inputs))
      (sym (is_in_append x (names (node.block.locals ++ node.outputs)) (names node.inputs)) ∙ ap (is_in x) (sym (names_append (node.block.locals ++ node.outputs) node.inputs)) ∙ e)
      (λ f. own_apart x (own_in x (sym (is_in_append x (names node.block.locals) (names node.outputs)) ∙ ap (is_in x) (sym (names_append node.block.locals node.outputs)) ∙ f)))
      (λ f. not_in_right x (names (node.outputs ++ node.block.locals)) rest (not_right x (names node.inputs) (names (node.outputs ++ node.block.locals) ++ rest) all_names f))

  body_differs : NamesDiffer rest
  body_differs = differ_right (names (node.outputs ++ node.block.locals)) rest (differ_right (names node.inputs) (names (node.outputs ++ node.block.locals) ++ rest) all_names)

-- ---- every placed scope

placed_apart : (r : Run) (s : Scope) (n : ℕ) (node : Node) → IsPlaced r.program (setting_of r) (text_run r) s → text_of s ≡ Written n node → NamesDiffer (names (variables node)) → IsApart node s
placed_apart r s n node at_top is h =
    subst (λ (y : Node). NamesDiffer (names (variables y)) → IsApart y (Top (Written r.number r.node))) (written_is r.number n r.node node is)
    (λ k. record { apart = body_apart r.node k; differ = body_differs r.node k }) h
placed_apart r s n node (at_call {s = outer} {e = e} {clock = clock} {args = args} {m = m} {callee = callee} placed text node_sound sound call) is h =
    subst (λ (y : Node). NamesDiffer (names (variables y)) → IsApart y (Called outer clock e.place.0 args (Written m callee))) (written_is m n callee node is)
    (λ k. record { apart = body_apart callee k; differ = body_differs callee k }) h
placed_apart r s n node (at_branch {s = outer} {e = e} {p = p} {on = on} {branches = branches} {b = b} placed inside view among) is h =
    let a : IsApart node outer = placed_apart r outer n node placed is h in
    let part = branch_part outer e p on branches b inside view among in
    record { apart = rest_apart node outer a (site_of (In_branch outer on b)) b.block part; differ = rest_differs node outer a (site_of (In_branch outer on b)) b.block part }
placed_apart r s n node (at_reset {s = outer} {e = e} {p = p} {block = block} {every = every} placed inside view) is h =
    let a : IsApart node outer = placed_apart r outer n node placed is h in
    let part = body_part outer e p block every inside view in
    record { apart = rest_apart node outer a (site_of (In_body outer every block)) block part; differ = rest_differs node outer a (site_of (In_body outer every block)) block part }
placed_apart r s n node (at_state {s = outer} {e = e} {p = p} {states = states} {k = j} {q = q} placed inside view at) is h =
    let a : IsApart node outer = placed_apart r outer n node placed is h in
    let part = state_part outer e p states j q inside view at in
    let same_block : q.block ≡ state_block states j = sym (ap block_or_none at) in
    let site : tree.Block → Surroundings = λ y. state_site outer states y in
    record {
      apart = subst (λ (y : tree.Block). (x : Name) → is_in x (names (seen_at node (site y))) ≡ true → is_in x (declared_by (rest_of (site y) y)) ≡ false) same_block
          (rest_apart node outer a (site q.block) q.block part);
      differ = subst (λ (y : tree.Block). NamesDiffer (declared_by (rest_of (site y) y))) same_block (rest_differs node outer a (site q.block) q.block part);
    }

pub scope_apart : (r : Run) (k : Within) (s : Scope) → StandsIn r k s → IsApart k.node s
scope_apart r k s stands = placed_apart r s stands.number k.node stands.placed stands.text stands.of_node.sound_node.once

-- ---- what is seen is not local

outside_none : (x : Name) (locals : List Decl) (xs : List Name) → is_in x (names locals) ≡ false → is_in x (from_outside locals xs) ≡ is_in x xs
outside_none x locals [] e = refl
outside_none x locals (y ∷ ys) e = go (is_in y (names locals)) refl (same x y) refl (outside_none x locals ys e)
  where
    go : (c : Bool) → is_in y (names locals) ≡ c → (b : Bool) → same x y ≡ b → is_in x (from_outside locals ys) ≡ is_in x ys →
        is_in x (if not c then y ∷ from_outside locals ys else from_outside locals ys) ≡ (b || is_in x ys)
    go true f true g later = not_both (is_in x (names locals)) (ap (λ (z : Name). is_in z (names locals)) (same_is x y g) ∙ f) e
    go true f false g later = later
    go false f b g later = ap (λ (t : Bool). t || is_in x (from_outside locals ys)) g ∙ ap (λ t. b || t) later

not_local : (r : Run) (k : Within) (s : Scope) (site : Surroundings) (block : tree.Block) (x : Name) (d : Decl) → StandsIn r k s → IsPartOf (block_parts site block) (inner s) →
    declaration (seen_at k.node (site_of s)) x ≡ Some d → IsNotLocal x block
not_local r k s site block x d stands part declared =
    let lacks = not_in_left x (names block.locals) (declared_by (rest_of site block))
    (not_in_block k.node s (scope_apart r k s stands) site block part x (is_in_declared (seen_at k.node (site_of s)) x d declared)) in
    (lacks, outside_none x block.locals (flat_map sets_of block.body) lacks)

pub not_local_in_branch : (r : Run) → NotLocalInBranch r
not_local_in_branch r k s e p on branches b x d h view among declared = not_local r k s (site_of (In_branch s on b)) b.block x d h.stands (branch_part s e p on branches b h.in_block view among) declared

pub not_local_in_body : (r : Run) → NotLocalInBody r
not_local_in_body r k s e p block every x d h view declared = not_local r k s (site_of (In_body s every block)) block x d h.stands (body_part s e p block every h.in_block view) declared

pub not_local_in_state : (r : Run) → NotLocalInState r
not_local_in_state r k s e p states j q x d h view at declared = not_local r k s (state_site s states q.block) q.block x d h.stands (state_part s e p states j q h.in_block view at) declared

-- ---- and so it is seen inside

seen_inside : (node : Node) (locals : List Decl) (site : Surroundings) (x : Name) (d : Decl) → is_in x (names locals) ≡ false → declaration (seen_at node site) x ≡ Some d →
    declaration ((((locals ++ locals_around site) ++ node.block.locals) ++ node.outputs) ++ node.inputs) x ≡ Some d
seen_inside node locals site x d lacks declared = ap (λ ds. declaration ds x) (seen_more node locals site) ∙ declaration_right locals (seen_at node site) x lacks ∙ declared

pub sees_in_branch : (r : Run) → SeesInBranch r
sees_in_branch r k s e p on branches b x d h view among sees =
    let lacks = (not_local_in_branch r k s e p on branches b x d h view among sees.declared).0 in
    record {
      declared = seen_inside k.node b.block.locals (site_of s) x d lacks sees.declared;
      here = ap (λ (t : Bool). if t then k.clock x else []) lacks;
      outer = inr (clock_of_seen k (site_of s) x d [] sees);
    }

pub sees_in_body : (r : Run) → SeesInBody r
sees_in_body r k s e p block every x d c h view sees =
    let lacks = (not_local_in_body r k s e p block every x d h view sees.declared).0 in
    let own : is_in x (names block.locals ++ own_names k.node (site_of s)) ≡ is_in x (own_names k.node (site_of s)) =
    is_in_append x (names block.locals) (own_names k.node (site_of s)) ∙ ap (λ (t : Bool). t || is_in x (own_names k.node (site_of s))) lacks in
    record {
      declared = seen_inside k.node block.locals (site_of s) x d lacks sees.declared;
      here = ap (λ (t : Bool). if t then k.clock x else []) own ∙ sees.here;
      outer = ⊎_elim (λ f. inl (own ∙ f)) (λ f. inr f) sees.outer;
    }

pub sees_in_state : (r : Run) → SeesInState r
sees_in_state r k s e p states j q x d h view at sees =
    let lacks : is_in x (names (state_block states j).locals) ≡ false =
    subst (λ (y : tree.Block). is_in x (names y.locals) ≡ false) (sym (ap block_or_none at)) (not_local_in_state r k s e p states j q x d h view at sees.declared).0 in
    record {
      declared = seen_inside k.node (state_block states j).locals (site_of s) x d lacks sees.declared;
      here = ap (λ (t : Bool). if t then k.clock x else []) lacks;
      outer = inr (clock_of_seen k (site_of s) x d [] sees);
    }
