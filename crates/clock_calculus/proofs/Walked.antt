-- What is collected of each part.
use Rattle.std.proofs.Common.{◌≡◌, ℕ, ◌+◌, List, [], ◌∷◌, ◌++◌, length, length-append, refl, sym, ◌∙◌, ap, arith, ◌<◌, take, get_or, append-nil, append_assoc, Bool, true, false, if◌then◌else◌, fold, map, Some, None}
use Rattle.std.specs.Prelude.{Option, is_some}
use Rattle.std.specs.List.{flat_map}
use Rattle.std.specs.Option.{option_to_list}
use Rattle.std.proofs.lemmas.List.{take_all, take_more, map-append}
use Rattle.std.proofs.lemmas.List.Sums.{fold-append}
use Rattle.hept_ast.specs.Texts.{Name, is_in, names}
use Rattle.hept_ast.specs.InnerParts.{state_names}
use Rattle.hept_ast.specs.Parts.{Surroundings, Placed, Case, Block, Plain, Switch, Reset, Automaton, Transition, inside, below, declaration, seen_at, expressions_of, transitions, parts_of, block_parts, state_parts, state_case, branch_case, block_sets, equation_case, strong_of_all, Branch_of, Body_of, State_of, parts, expressions, declared_in, place_of, sets_of}
use Rattle.hept_ast.specs.Clocks.{Term, Base, Of, Condition, equal, term_of, expression, defined, declared_on_base, on_base, part_conditions, own_names, numbered}
use Rattle.hept_ast.specs.declared.tree.Block as b
use Rattle.hept_ast.specs.declared.tree.Decl.{Decl}
use Rattle.hept_ast.specs.declared.tree.Node.{Node}
use Rattle.hept_ast.specs.declared.tree.Expr.{Expr}
use Rattle.hept_ast.specs.declared.tree.Tag.{Tag}
use Rattle.hept_ast.specs.declared.tree.Escape.{Escape}
use Rattle.hept_ast.specs.declared.tree.State.{State}
use Rattle.hept_ast.specs.declared.tree.Branch.{Branch}
use Rattle.hept_ast.specs.declared.tree.Equation as eq
use Rattle.hept_ast.specs.declared.name.Place.{Place}
use Rattle.hept_ast.proofs.PartsOf.{parts-Define, parts-Switch, parts-Reset, parts-Automaton}
use Rattle.clock_calculus.specs.Collecting.{Collection, added, wrote, after_form, after_on_base, after_condition, after_defined, after_plain, after_declared, after_last, after_set, after_part, declaring, empty_collection, of_node}
use Rattle.clock_calculus.proofs.Collected.{same_collection, wrote_two, wrote_none, wrote_same, added_is, after_one}

-- ---- definitions

defined_tested : (own : List Name) (p : ℕ) (right : Term) (s : Collection) (x : Name) (t : Bool) → is_in x own ≡ t
    → after_defined own p right s x ≡ (if t then added s p (Of x) right else added (added s p (Of x) Base) p right Base)
unfolding after_defined wrote added
defined_tested own p right s x true e = ap (λ t. wrote s (if t then equal p (Of x) right else equal p (Of x) Base ++ equal p right Base) 0) e ∙ same_collection _ _ refl refl (omega arith)
defined_tested own p right s x false e =
    ap (λ t. wrote s (if t then equal p (Of x) right else equal p (Of x) Base ++ equal p right Base) 0) e ∙ same_collection _ _ refl (sym (append_assoc s.conditions (equal p (Of x) Base) (equal p right Base))) (omega arith)

pub defined_is : (own : List Name) (p : ℕ) (right : Term) (s : Collection) (x : Name) → after_defined own p right s x ≡ (if is_in x own then added s p (Of x) right else added (added s p (Of x) Base) p right Base)
defined_is own p right s x = defined_tested own p right s x (is_in x own) refl

pub ruleset definitions = (defined_is)

set_found : (seen : List Decl) (s : Collection) (x : Name) (o : Option Decl) → wrote s (flat_map (λ (d : Decl). equal d.place.0 (Of x) Base) (option_to_list o)) 0 ≡ wrote s (flat_map (λ (d : Decl). equal d.place.0 (Of x) Base) (option_to_list o)) 0
set_found seen s x o = refl

pub set_none : (seen : List Decl) (s : Collection) (x : Name) → None ≡ declaration seen x → after_set seen s x ≡ s
unfolding after_set
set_none seen s x e = ap (λ o. wrote s (flat_map (λ (d : Decl). equal d.place.0 (Of x) Base) (option_to_list o)) 0) (sym e) ∙ wrote_none s

pub set_some : (seen : List Decl) (s : Collection) (x : Name) (d : Decl) → Some d ≡ declaration seen x → after_set seen s x ≡ added s d.place.0 (Of x) Base
unfolding after_set
set_some seen s x d e = ap (λ o. wrote s (flat_map (λ (d : Decl). equal d.place.0 (Of x) Base) (option_to_list o)) 0) (sym e) ∙ sym (added_is s d.place.0 (Of x) Base)

pub ruleset sets = (set_none, set_some)

-- ---- parts

-- a fold of pieces that are written one after another
fold_wrote : {X : Type 0} (f : X → List Condition) (s : Collection) (xs : List X) → fold (λ t x. wrote t (f x) 0) s xs ≡ wrote s (flat_map f xs) 0
fold_wrote f s [] = sym (wrote_none s)
fold_wrote f s (x ∷ xs) = fold_wrote f (wrote s (f x) 0) xs ∙ wrote_two s (f x) (flat_map f xs) 0 0 ∙ wrote_same s _ _ _ _ refl (omega arith)

flat_mapped : {X Y Z : Type 0} (f : Y → List Z) (g : X → Y) (xs : List X) → flat_map f (map g xs) ≡ flat_map (λ x. f (g x)) xs
flat_mapped f g [] = refl
flat_mapped f g (x ∷ xs) = ap (λ t. f (g x) ++ t) (flat_mapped f g xs)

-- what a block equation defines, by the declarations that are seen
sets_wrote : (seen : List Decl) (s : Collection) (xs : List Name) → fold (after_set seen) s xs ≡ wrote s (declared_on_base [] seen xs) 0
unfolding after_set
sets_wrote seen s xs = fold_wrote (λ x. flat_map (λ (d : Decl). equal d.place.0 (Of x) Base) (option_to_list (declaration seen x))) s xs

lasts_tested : (s : Collection) (d : Decl) (t : Bool) → wrote s (if t then equal d.place.0 (Of d.name) Base else []) 0 ≡ (if t then after_declared s d else s)
lasts_tested s d true = sym (added_is s d.place.0 (Of d.name) Base)
lasts_tested s d false = wrote_none s

last_wrote : (s : Collection) (d : Decl) → wrote s (if is_some d.init then equal d.place.0 (Of d.name) Base else []) 0 ≡ after_last s d
unfolding after_last
last_wrote s d = lasts_tested s d (is_some d.init)

lasts_wrote : (s : Collection) (ds : List Decl) → fold after_last s ds ≡ wrote s (flat_map (λ (d : Decl). if is_some d.init then equal d.place.0 (Of d.name) Base else []) ds) 0
lasts_wrote s [] = sym (wrote_none s)
lasts_wrote s (d ∷ ds) =
    let f : Decl → List Condition = λ d. if is_some d.init then equal d.place.0 (Of d.name) Base else [] in
    lasts_wrote (after_last s d) ds ∙ ap (λ t. wrote t (flat_map f ds) 0) (sym (last_wrote s d)) ∙ wrote_two s (f d) (flat_map f ds) 0 0 ∙ wrote_same s _ _ _ _ refl (omega arith)

based : (own : List Name) (s : Collection) (e : Expr) → wrote s (on_base own s.count e) (length (inside e ++ [])) ≡ after_on_base own s e
based own s e = ap (λ t. wrote s (on_base own s.count e) (length t)) (append-nil (inside e)) ∙ sym (after_one own e.place.0 Base s e)

same_count : (s : Collection) (cs : List Condition) → (wrote s cs 0).count ≡ s.count
unfolding wrote
same_count s cs = omega arith

-- after what was written without an expression, an expression has the same number
based_after : (own : List Name) (s : Collection) (cs : List Condition) (e : Expr) → wrote s (cs ++ on_base own s.count e) (length (inside e ++ [])) ≡ after_on_base own (wrote s cs 0) e
based_after own s cs e =
    wrote_same s _ _ _ _ refl (omega arith) ∙ sym (wrote_two s cs (on_base own s.count e) 0 (length (inside e ++ [])))
    ∙ ap (λ n. wrote (wrote s cs 0) (on_base own n e) (length (inside e ++ []))) (sym (same_count s cs)) ∙ based own (wrote s cs 0) e

plain_is : (own : List Name) (p : ℕ) (left : List Name) (right : Expr) (s : Collection)
    → wrote s (flat_map (defined own p (term_of own s.count right.form)) left ++ expression own s.count right.place.0 right.form) (length (inside right ++ [])) ≡ after_plain own p left right s
unfolding after_plain after_form after_defined wrote
plain_is own p left right s =
    let t = term_of own s.count right.form in
    let n : s.count + 0 ≡ s.count = omega arith in
    wrote_same s _ _ _ _ refl (ap length (append-nil (inside right)) ∙ omega arith)
    ∙ sym (wrote_two s (flat_map (defined own p t) left) (expression own s.count right.place.0 right.form) 0 (1 + length (below right.form)))
    ∙ ap (λ n. wrote (wrote s (flat_map (defined own p t) left) 0) (expression own n right.place.0 right.form) (1 + length (below right.form))) (sym n)
    ∙ ap (λ u. wrote u (expression own u.count right.place.0 right.form) (1 + length (below right.form))) (sym (fold_wrote (defined own p t) s left))

-- ---- equations, blocks and states

declaring_none : (s : Collection) → declaring s [] ≡ s
unfolding declaring
declaring_none s = same_collection _ _ (append-nil s.variables) refl refl

-- a part that declares nothing
undeclared : (s : Collection) (cs : List Condition) (n : ℕ) → wrote (declaring s []) cs n ≡ wrote s cs n
undeclared s cs n = ap (λ t. wrote t cs n) (declaring_none s)

module _ (node : Node) (s : Collection) (site : Surroundings) where
  part-Plain : (p : ℕ) (left : List Name) (right : Expr) → after_part node s (record { site = site; part = Plain p left right }) ≡ after_plain (own_names node site) p left right s
  unfolding after_part
  part-Plain p left right = undeclared s _ _ ∙ plain_is (own_names node site) p left right s

  part-Block : (ds : List Decl) (es : List (Case (Unit {0}))) → after_part node s (record { site = site; part = Block ds es }) ≡ fold after_last (declaring s ds) ds
  unfolding after_part
  part-Block ds es = sym (lasts_wrote (declaring s ds) ds)

  part-Switch : (p : ℕ) (on : Expr) (cs : List (Case Tag)) → after_part node s (record { site = site; part = Switch p on cs }) ≡ after_on_base (own_names node site) (fold (after_set (seen_at node site)) s (flat_map (λ c. c.sets) cs)) on
  unfolding after_part
  part-Switch p on cs =
      undeclared s _ _ ∙ based_after (own_names node site) s (declared_on_base [] (seen_at node site) (flat_map (λ c. c.sets) cs)) on
      ∙ ap (λ t. after_on_base (own_names node site) t on) (sym (sets_wrote (seen_at node site) s (flat_map (λ c. c.sets) cs)))

  part-Reset : (p : ℕ) (every : Expr) (sets : List Name) → after_part node s (record { site = site; part = Reset p every sets }) ≡ after_on_base (own_names node site) s every
  unfolding after_part
  part-Reset p every sets = undeclared s _ _ ∙ based (own_names node site) s every

  part-Automaton : (p : ℕ) (cs : List (Case Name)) → after_part node s (record { site = site; part = Automaton p cs }) ≡ fold (after_set (seen_at node site)) s (flat_map (λ c. c.sets) cs)
  unfolding after_part
  part-Automaton p cs = undeclared s _ _ ∙ sym (sets_wrote (seen_at node site) s (flat_map (λ c. c.sets) cs))

  part-Transition : (strong : Bool) (states : List Name) (e : Escape) → after_part node s (record { site = site; part = Transition strong states e }) ≡ after_condition (own_names node site) s e
  unfolding after_part after_condition
  part-Transition strong states e = undeclared s _ _ ∙ based (own_names node site) s e.condition

of_transitions : (node : Node) (s : Collection) (site : Surroundings) (strong : Bool) (states : List Name) (es : List Escape) → fold (after_part node) s (transitions site strong states es) ≡ fold (after_condition (own_names node site)) s es
of_transitions node s site strong states [] = refl
of_transitions node s site strong states (e ∷ es) =
    of_transitions node (after_part node s (record { site = site; part = Transition strong states e })) site strong states es ∙ ap (λ t. fold (after_condition (own_names node site)) t es) (part-Transition node s site strong states e)

pub walk-Define : (node : Node) (s : Collection) (site : Surroundings) (p : Place) (left : List Name) (right : Expr) → fold (after_part node) s (parts_of site (eq.Define p left right)) ≡ after_plain (own_names node site) p.0 left right s
walk-Define node s site p left right = ap (fold (after_part node) s) (parts-Define site p left right) ∙ part-Plain node s site p.0 left right

pub walk-Switch : (node : Node) (s : Collection) (site : Surroundings) (p : Place) (on : Expr) (bs : List Branch)
    → fold (after_part node) s (parts_of site (eq.Switch p on bs))
    ≡ fold (after_part node) (after_on_base (own_names node site) (fold (after_set (seen_at node site)) s (flat_map (λ b. block_sets b.block) bs)) on) (flat_map (λ b. block_parts (Branch_of on b.block.locals ∷ site) b.block) bs)
walk-Switch node s site p on bs =
    let rest = flat_map (λ (b : Branch). block_parts (Branch_of on b.block.locals ∷ site) b.block) bs in
    ap (fold (after_part node) s) (parts-Switch site p on bs)
    ∙ ap (λ t. fold (after_part node) t rest) (part-Switch node s site p.0 on (map branch_case bs) ∙ ap (λ xs. after_on_base (own_names node site) (fold (after_set (seen_at node site)) s xs) on) (flat_mapped (λ c. c.sets) branch_case bs))

pub walk-Reset : (node : Node) (s : Collection) (site : Surroundings) (p : Place) (block : b.Block) (every : Expr)
    → fold (after_part node) s (parts_of site (eq.Reset p block every)) ≡ fold (after_part node) (after_on_base (own_names node site) s every) (block_parts (Body_of every block.locals ∷ site) block)
walk-Reset node s site p block every =
    ap (fold (after_part node) s) (parts-Reset site p block every) ∙ ap (λ t. fold (after_part node) t (block_parts (Body_of every block.locals ∷ site) block)) (part-Reset node s site p.0 every (block_sets block))

pub walk-Automaton : (node : Node) (s : Collection) (site : Surroundings) (p : Place) (qs : List State)
    → fold (after_part node) s (parts_of site (eq.Automaton p qs))
    ≡ fold (after_part node) (fold (after_set (seen_at node site)) s (flat_map (λ q. block_sets q.block) qs)) (flat_map (state_parts site (strong_of_all qs) (state_names qs)) qs)
walk-Automaton node s site p qs =
    let rest = flat_map (state_parts site (strong_of_all qs) (state_names qs)) qs in
    ap (fold (after_part node) s) (parts-Automaton site p qs)
    ∙ ap (λ t. fold (after_part node) t rest) (part-Automaton node s site p.0 (map state_case qs) ∙ ap (λ xs. fold (after_set (seen_at node site)) s xs) (flat_mapped (λ c. c.sets) state_case qs))

pub walk-block : (node : Node) (s : Collection) (site : Surroundings) (block : b.Block) → fold (after_part node) s (block_parts site block) ≡ fold (after_part node) (fold after_last (declaring s block.locals) block.locals) (flat_map (parts_of site) block.body)
walk-block node s site block = ap (λ t. fold (after_part node) t (flat_map (parts_of site) block.body)) (part-Block node s site block.locals (map equation_case block.body))

pub walk-state : (node : Node) (s : Collection) (site : Surroundings) (strong : List Expr) (states : List Name) (q : State)
    → fold (after_part node) s (state_parts site strong states q)
    ≡ fold (after_condition (own_names node site)) (fold (after_condition (own_names node (State_of strong q.block.locals ∷ site))) (fold (after_part node) s (block_parts (State_of strong q.block.locals ∷ site) q.block)) q.weak) q.strong
walk-state node s site strong states q =
    let inner = State_of strong q.block.locals ∷ site in
    fold-append (after_part node) s (block_parts inner q.block ++ transitions inner false states q.weak) (transitions site true states q.strong)
    ∙ of_transitions node (fold (after_part node) s (block_parts inner q.block ++ transitions inner false states q.weak)) site true states q.strong
    ∙ ap (λ t. fold (after_condition (own_names node site)) t q.strong) (fold-append (after_part node) s (block_parts inner q.block) (transitions inner false states q.weak) ∙ of_transitions node (fold (after_part node) s (block_parts inner q.block)) inner false states q.weak)

-- one more element of a list whose pieces are folded over
pub fold_flat_more : {X Y S : Type 0} (f : S → Y → S) (s : S) (g : X → List Y) (xs : List X) (i : ℕ) (d : X) → i < length xs
    → fold f s (flat_map g (take (i + 1) xs)) ≡ fold f (fold f s (flat_map g (take i xs))) (g (get_or xs i d))
fold_flat_more f s g xs i d below =
    ap (λ t. fold f s (flat_map g t)) (take_more xs i d below) ∙ ap (fold f s) (flat_append g (take i xs) (get_or xs i d ∷ [])) ∙ fold-append f s (flat_map g (take i xs)) (flat_map g (get_or xs i d ∷ [])) ∙ ap (fold f (fold f s (flat_map g (take i xs)))) (append-nil (g (get_or xs i d)))
  where
    flat_append : {X Y : Type 0} (g : X → List Y) (xs ys : List X) → flat_map g (xs ++ ys) ≡ flat_map g xs ++ flat_map g ys
    flat_append g [] ys = refl
    flat_append g (x ∷ xs) ys = ap (λ t. g x ++ t) (flat_append g xs ys) ∙ sym (append_assoc (g x) (flat_map g xs) (flat_map g ys))

pub ruleset walked = (take_all, fold_flat_more, walk-Define, walk-Switch, walk-Reset, walk-Automaton, walk-block, walk-state)

-- ---- nodes

-- variables that were declared on both sides of what was written
declared_both : (s : Collection) (ds es : List Decl) (cs : List Condition) (rest : ℕ → List Condition) (xs ys : List Expr)
    → (let t = wrote (declaring s ds) cs (length xs) in declaring (wrote t (rest t.count) (length ys)) es) ≡ declaring (wrote s (cs ++ rest (s.count + length xs)) (length (xs ++ ys))) (ds ++ es)
unfolding wrote declaring
declared_both s ds es cs rest xs ys =
    same_collection _ _ (append_assoc s.variables (names ds) (names es) ∙ ap (λ t. s.variables ++ t) (sym (map-append (λ (d : Decl). d.name) ds es))) (append_assoc s.conditions cs (rest (s.count + length xs))) (omega (arith, length-append xs ys))

none_written : (s : Collection) → s ≡ declaring (wrote s [] 0) []
none_written s = sym (ap (λ t. declaring t []) (wrote_none s) ∙ declaring_none s)

parts_wrote : (node : Node) (s : Collection) (qs : List Placed)
    → fold (after_part node) s qs ≡ declaring (wrote s (numbered node s.count qs) (length (flat_map (λ (q : Placed). flat_map inside (expressions_of q.part)) qs))) (flat_map (λ (q : Placed). declared_in q.part) qs)
unfolding after_part
parts_wrote node s [] = none_written s
parts_wrote node s (q ∷ qs) =
    parts_wrote node (after_part node s q) qs
    ∙ declared_both s (declared_in q.part) (flat_map (λ (q : Placed). declared_in q.part) qs) (part_conditions (own_names node q.site) (seen_at node q.site) s.count q.part) (λ m. numbered node m qs) (flat_map inside (expressions_of q.part)) (flat_map (λ (q : Placed). flat_map inside (expressions_of q.part)) qs)

declared_wrote : (s : Collection) (ds : List Decl) → fold after_declared s ds ≡ wrote s (flat_map (λ (d : Decl). equal d.place.0 (Of d.name) Base) ds) 0
declared_wrote s [] = sym (wrote_none s)
declared_wrote s (d ∷ ds) =
    declared_wrote (after_declared s d) ds ∙ ap (λ t. wrote t (flat_map (λ (d : Decl). equal d.place.0 (Of d.name) Base) ds) 0) (added_is s d.place.0 (Of d.name) Base)
    ∙ wrote_two s (equal d.place.0 (Of d.name) Base) (flat_map (λ (d : Decl). equal d.place.0 (Of d.name) Base) ds) 0 0 ∙ wrote_same s _ _ _ _ refl (omega arith)

whole_is : (ds es : List Decl) (cs : List Condition) (rest : ℕ → List Condition) (n : ℕ)
    → (let t = wrote (declaring empty_collection ds) cs 0 in declaring (wrote t (rest t.count) n) es) ≡ record { conditions = cs ++ rest 0; count = n; variables = names (ds ++ es) }
unfolding wrote declaring
whole_is ds es cs rest n =
    same_collection _ _ (sym (map-append (λ (d : Decl). d.name) ds es)) refl (omega arith)

declaring_two : (s : Collection) (ds es : List Decl) → declaring (declaring s ds) es ≡ declaring s (ds ++ es)
unfolding declaring
declaring_two s ds es = same_collection _ _ (append_assoc s.variables (names ds) (names es) ∙ ap (λ t. s.variables ++ t) (sym (map-append (λ (d : Decl). d.name) ds es))) refl refl

pub whole_node : (node : Node)
    → fold (after_part node)
    (fold after_last (fold after_last (declaring (declaring (fold after_declared (fold after_declared (declaring empty_collection node.inputs) node.inputs) node.outputs) node.outputs) node.block.locals) node.outputs) node.block.locals)
    (flat_map (parts_of []) node.block.body) ≡ of_node node
whole_node node =
    let f : Decl → List Condition = λ d. equal d.place.0 (Of d.name) Base in
    let body = flat_map (parts_of []) node.block.body in
    let locals = node.outputs ++ node.block.locals in
    let cs = flat_map f (node.inputs ++ node.outputs) in
    let s = wrote (declaring empty_collection node.inputs) cs 0 in
    let first = fold after_declared (fold after_declared (declaring empty_collection node.inputs) node.inputs) node.outputs in
    ap (λ t. fold (after_part node) t body)
    (ap (λ t. fold after_last (fold after_last t node.outputs) node.block.locals) (declaring_two first node.outputs node.block.locals)
    ∙ sym (fold-append after_last (declaring first locals) node.outputs node.block.locals)
    ∙ ap (λ t. fold after_last (declaring t locals) locals) (sym (fold-append after_declared (declaring empty_collection node.inputs) node.inputs node.outputs) ∙ declared_wrote (declaring empty_collection node.inputs) (node.inputs ++ node.outputs))
    ∙ sym (part-Block node s [] locals (map (λ e. record { place = place_of e; label = tt; sets = sets_of e }) node.block.body)))
    ∙ parts_wrote node s (parts node)
    ∙ whole_is node.inputs (flat_map (λ (q : Placed). declared_in q.part) (parts node)) cs (λ n. numbered node n (parts node)) (length (expressions node))

pub ruleset whole = (take_all, fold_flat_more, whole_node)
