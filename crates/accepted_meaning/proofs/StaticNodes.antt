-- The nodes of an accepted program are sound.
use Rattle.std.proofs.Common.{◌≡◌, ℕ, zero, suc, ◌+◌, Bool, true, false, not, ◌&&◌, ◌||◌, if◌then◌else◌, List, [], ◌∷◌, ◌++◌, map, length, refl, sym, ap, subst, ◌∙◌, All, Contains, Option, Some, slice_get, arith, ◌⊎◌, inl, inr, ◌≤◌, is_some, None}
use Rattle.std.specs.List.{list_any, list_all, flat_map}
use Rattle.std.proofs.lemmas.Bool.{false≢true}
use Rattle.std.proofs.lemmas.List.{map-append}
use Rattle.std.proofs.lemmas.List.Elements.{All-head, All-tail, All-nil, All-cons, All-append, All-contains, All-weaker, All-contains_itself, Contains-append_left, Contains-append_right}
use Rattle.hept_ast.specs.Texts.{Name, same, is_in, names}
use Rattle.hept_ast.specs.Scopes.{Clock}
use Rattle.hept_ast.specs.Parts.{Part, Block, Plain, Switch, Reset, Automaton, Transition, Placed, declared_in, equation_case, expressions, expressions_of, inside, locals_around, parts, seen_at, variables}
use Rattle.hept_ast.specs.Clocks.{Assignment, Base, Condition, Meets, Of, conditions, equal, numbered, own_names, part_conditions, total_length, AreClocks}
use Rattle.hept_ast.specs.Stages.{declares_in}
use Rattle.hept_ast.specs.Initial.{AreGrades, AreLeastGrades, Grades, grade, right_sides_in, unmet_by, unmet_decl, unmet_in, unmet_part}
use Rattle.hept_ast.specs.Causal.{HasNoCycle, Reads}
use Rattle.hept_ast.specs.ClockMaps.{clock_in, path_in, steps_or_none}
use Rattle.hept_ast.specs.declared.tree.ClockPath.{ClockPath}
use Rattle.hept_ast.specs.Types.{is_plain, type_is_known, types_of}
use Rattle.hept_ast.specs.Faults.{Duplicate, FutureKept, Judging, UnknownName, async_nodes, called, called_async, decl_faults, demanded, fault, faults, fits_left, init_faults, is_strong, judging, left_faults, left_types, node_faults, node_named, part_faults, seconds, second_definitions, unknown_variable, judge_expr}
use Rattle.hept_ast.specs.declared.tree.Form.{out-Form}
use Rattle.hept_ast.specs.declared.tree.Program.{Program}
use Rattle.hept_ast.specs.declared.tree.TypeDec.{TypeDec}
use Rattle.hept_ast.specs.declared.tree.Node.{Node}
use Rattle.hept_ast.specs.declared.tree.Decl.{Decl}
use Rattle.hept_ast.specs.declared.tree.Expr.{Expr}
use Rattle.accepted_meaning.specs.Ranges.{FitsInit, IsInRange}
use Rattle.sound_expressions.specs.Demands.{Demanded, FitsForm}
use Rattle.sound_expressions.specs.Sound.{Within}
use Rattle.accepted_meaning.specs.SoundNodes.{SoundInterface, SoundNode, SoundPart}
use Rattle.sound_expressions.specs.Demands.{NamesDiffer}
use Rattle.accepted_meaning.specs.Laws.{AcceptedIsSound}
use Rattle.sound_expressions.proofs.Lists.{is_in_right, nil_left, nil_right, none_of_each, none_of, no_fault, same_is, same_self, names_differ}
use Rattle.sound_expressions.proofs.Expressions.{is_met, meets_left, meets_right, all_left, all_right}
use Rattle.accepted_meaning.proofs.StaticParts.{among, each_meets, init_sound, part_sound}
use Rattle.accepted_meaning.proofs.StaticSteps.{steps_seen}
use Rattle.accepted_meaning.proofs.StaticScopes.{around_parts, of_declared, some_tag}

-- ---- lists

pub at_place : {X : Type 0} (xs : List X) (i : ℕ) (x : X) → slice_get xs i ≡ Some x → Contains xs x
at_place [] i x e = cc
at_place (y ∷ ys) zero x e = (0, omega arith, cc)
at_place (y ∷ ys) (suc i) x e = let r = at_place ys i x e in (suc r.0, omega arith, r.2)

all_within : {X Y : Type 0} (P : Y → Type 0) (f : X → List Y) (xs : List X) → All P (flat_map f xs) → All (λ x. All P (f x)) xs
all_within P f [] h = All-nil (λ x. All P (f x))
all_within P f (x ∷ xs) h = All-cons (λ x. All P (f x)) x xs (all_left P (f x) _ h) (all_within P f xs (all_right P (f x) _ h))

pub each_within : {X Y : Type 0} (P : Y → Type 0) (f : X → List Y) (xs : List X) (x : X) → All P (flat_map f xs) → Contains xs x → All P (f x)
each_within P f xs x h at = All-contains (λ x. All P (f x)) xs x (all_within P f xs h) at

-- each name of a list is in it
all_in : (xs : List Name) → All (λ x. is_in x xs ≡ true) xs
all_in [] = All-nil (λ x. is_in x [] ≡ true)
all_in (x ∷ xs) = All-cons (λ y. is_in y (x ∷ xs) ≡ true) x xs (ap (λ b. b || is_in x xs) (same_self x)) (All-weaker (λ y. is_in y xs ≡ true) (λ y. is_in y (x ∷ xs) ≡ true) (λ y h. is_in_right y (x ∷ []) xs h) xs (all_in xs))

-- what one element gives is among what all give
all_among : {X : Type 0} (f : X → List Name) (xs : List X) → All (λ x. All (λ y. is_in y (flat_map f xs) ≡ true) (f x)) xs
all_among f xs = all_within (λ y. is_in y (flat_map f xs) ≡ true) f xs (all_in (flat_map f xs))

pub each_among : {X : Type 0} (f : X → List Name) (xs : List X) (x : X) → Contains xs x → All (λ y. is_in y (flat_map f xs) ≡ true) (f x)
each_among f xs x at = All-contains (λ x. All (λ y. is_in y (flat_map f xs) ≡ true) (f x)) xs x (all_among f xs) at

map_map : {X : Type 0} (f : X → ℕ × Name) (g : X → Name) → ((x : X) → (f x).1 ≡ g x) → (xs : List X) → map (λ q. q.1) (map f xs) ≡ map g xs
map_map f g e [] = refl
map_map f g e (x ∷ xs) = let h = e x in let t = map_map f g e xs in cc

all_not_any : {X : Type 0} (p : X → Bool) (xs : List X) → All (λ x. p x ≡ true) xs → list_all p xs ≡ true
all_not_any p [] h = refl
all_not_any p (x ∷ xs) h = ap (λ b. b && list_all p xs) (All-head (λ x. p x ≡ true) x xs h) ∙ all_not_any p xs (All-tail (λ x. p x ≡ true) x xs h)

-- ---- numbers of parts

-- the conditions of each part are met, by the number that its expression has
numbered_meet : (a : Assignment) (node : Node) (n : ℕ) (qs : List Placed) → Meets a (numbered node n qs) → All (λ q. (m : ℕ) × Meets a (part_conditions (own_names node q.site) (seen_at node q.site) m q.part)) qs
numbered_meet a node n [] h = All-nil (λ (q : Placed). (m : ℕ) × Meets a (part_conditions (own_names node q.site) (seen_at node q.site) m q.part))
numbered_meet a node n (q ∷ qs) h =
    let here = part_conditions (own_names node q.site) (seen_at node q.site) n q.part in
    All-cons (λ (q : Placed). (m : ℕ) × Meets a (part_conditions (own_names node q.site) (seen_at node q.site) m q.part)) q qs (n, meets_left a here _ h)
    (numbered_meet a node (n + length (flat_map inside (expressions_of q.part))) qs (meets_right a here _ h))

-- ---- the node that a name names

named_by : (b : Bool) (f : Name) (n g : Node) (rest : Option Node) (P : Node → Type 0) → same f n.name ≡ b → P n → (rest ≡ Some g → P g × (f ≡ g.name)) → (if b then Some n else rest) ≡ Some g → P g × (f ≡ g.name)
named_by true f n g rest P s h later e = (subst P is h, same_is f n.name s ∙ ap (λ (z : Node). z.name) is)
  where
    is : n ≡ g
    is = cc
named_by false f n g rest P s h later e = later e

pub named_node : (nodes : List Node) (f : Name) (g : Node) (P : Node → Type 0) → All P nodes → node_named nodes f ≡ Some g → P g × (f ≡ g.name)
named_node [] f g P h e = cc
named_node (n ∷ ns) f g P h e = named_by (same f n.name) f n g (node_named ns f) P refl (All-head P n ns h) (named_node ns f g P (All-tail P n ns h)) e

-- ---- a program without faults

abbrev input_judging : Program → Node → Judging
input_judging program node = record { types = program.types; nodes = program.nodes; node = node; seen = []; strong = false }

-- the faults of a node, one kind after another
record CleanNode (program : Program) (node : Node) : Type 0 where
  once : seconds same [] (map (λ d. (d.place.0, d.name)) (variables node)) ≡ []
  inputs : flat_map (λ d. decl_faults (input_judging program node) d) node.inputs ≡ []
  outputs : flat_map (λ d. fault d.place.0 FutureKept (not (is_plain d.ty) && is_in node.name (async_nodes program.nodes))) node.outputs ≡ []
  each_part : flat_map (λ q. part_faults (judging program node q) q.part) (parts node) ≡ []

clean_node : (program : Program) (node : Node) → node_faults program node ≡ [] → CleanNode program node
clean_node program node e =
    let once = seconds same [] (map (λ (d : Decl). (d.place.0, d.name)) (variables node)) in
    let inputs = flat_map (λ (d : Decl). decl_faults (input_judging program node) d) node.inputs in
    let outputs = flat_map (λ (d : Decl). fault d.place.0 FutureKept (not (is_plain d.ty) && is_in node.name (async_nodes program.nodes))) node.outputs in
    let each_part = flat_map (λ (q : Placed). part_faults (judging program node q) q.part) (parts node) in
    let e3 : once ++ inputs ++ outputs ≡ [] = nil_left (once ++ inputs ++ outputs) each_part e in
    let e2 : once ++ inputs ≡ [] = nil_left (once ++ inputs) outputs e3 in
    record { once = nil_left once inputs e2; inputs = nil_right once inputs e2; outputs = nil_right (once ++ inputs) outputs e3; each_part = nil_right (once ++ inputs ++ outputs) each_part e }

record CleanProgram (program : Program) : Type 0 where
  types : seconds same [] (map (λ t. (t.place.0, t.name)) program.types) ≡ []
  constructors : seconds same [] (flat_map (λ t. map (λ c. (t.place.0, c)) t.constructors) program.types) ≡ []
  names : seconds same [] (map (λ n. (n.place.0, n.name)) program.nodes) ≡ []
  each_node : All (λ node. node_faults program node ≡ []) program.nodes

clean_program : (program : Program) → faults program ≡ [] → CleanProgram program
clean_program program e =
    let types = seconds same [] (map (λ (t : TypeDec). (t.place.0, t.name)) program.types) in
    let constructors = seconds same [] (flat_map (λ (t : TypeDec). map (λ (c : Name). (t.place.0, c)) t.constructors) program.types) in
    let nodes = seconds same [] (map (λ (n : Node). (n.place.0, n.name)) program.nodes) in
    let each_node = flat_map (node_faults program) program.nodes in
    let e3 : types ++ constructors ++ nodes ≡ [] = nil_left (types ++ constructors ++ nodes) each_node e in
    let e2 : types ++ constructors ≡ [] = nil_left (types ++ constructors) nodes e3 in
    record {
      types = nil_left types constructors e2;
      constructors = nil_right types constructors e2;
      names = nil_right (types ++ constructors) nodes e3;
      each_node = none_of_each (node_faults program) program.nodes (nil_right (types ++ constructors ++ nodes) each_node e);
    }

-- a node that async calls name gives no futures
plain_outputs : (program : Program) (node : Node) → node_faults program node ≡ [] → is_in node.name (async_nodes program.nodes) ≡ true → list_all is_plain (types_of node.outputs) ≡ true
plain_outputs program node e h = each_plain node.outputs (clean_node program node e).outputs
  where
    is_true : (b c : Bool) → c ≡ true → not b && c ≡ false → b ≡ true
    is_true true c k f = refl
    is_true false c k f = absurd (false≢true (sym f ∙ k))

    each_plain : (ds : List Decl) → flat_map (λ (d : Decl). fault d.place.0 FutureKept (not (is_plain d.ty) && is_in node.name (async_nodes program.nodes))) ds ≡ [] → list_all is_plain (types_of ds) ≡ true
    each_plain [] f = refl
    each_plain (d ∷ ds) f =
        let one = fault d.place.0 FutureKept (not (is_plain d.ty) && is_in node.name (async_nodes program.nodes)) in
        ap (λ b. b && list_all is_plain (types_of ds)) (is_true (is_plain d.ty) _ h (no_fault d.place.0 FutureKept _ (nil_left one _ f))) ∙ each_plain ds (nil_right one _ f)

-- ---- one node

-- what is known of a node of an accepted program, with its grades and the clocks of its expressions
record Facts (program : Program) (node : Node) (clock : Name → Clock) (g : Grades) : Type 0 where
  in_range : IsInRange program
  each_node : All (λ n. node_faults program n ≡ []) program.nodes
  among_nodes : Contains program.nodes node
  numbers : ℕ → Clock
  meets : Meets (record { variable = clock; expression = numbers }) (conditions node)
  grades : AreGrades node g
  met : unmet_in g node ≡ []
  acyclic : HasNoCycle (Reads node clock)
  least : (d : Name → Clock) → AreClocks node d → total_length node clock ≤ total_length node d
  declared : (y : Name) → (is_in y (names (variables node)) ≡ true) ⊎ (clock y ≡ [])

module _ (program : Program) (node : Node) (clock : Name → Clock) (g : Grades) (h : Facts program node clock g) where
  abbrev k : Within
  k = record { types = program.types; nodes = program.nodes; node = node; clock = clock; grade = g }

  abbrev a : Assignment
  a = record { variable = clock; expression = h.numbers }

  node_clean : CleanNode program node
  node_clean = clean_node program node (All-contains (λ (n : Node). node_faults program n ≡ []) program.nodes node h.each_node h.among_nodes)

  -- the three lists of demands
  outputs_met : flat_map (unmet_decl g) node.outputs ≡ []
  outputs_met = nil_left (flat_map (unmet_decl g) node.outputs) _ (nil_left (flat_map (unmet_decl g) node.outputs ++ flat_map (λ (q : Placed). unmet_part g (seen_at node q.site) q.part) (parts node)) _ h.met)

  parts_met : flat_map (λ q. unmet_part g (seen_at node q.site) q.part) (parts node) ≡ []
  parts_met = nil_right (flat_map (unmet_decl g) node.outputs) _ (nil_left (flat_map (unmet_decl g) node.outputs ++ flat_map (λ (q : Placed). unmet_part g (seen_at node q.site) q.part) (parts node)) _ h.met)

  expressions_met : flat_map (λ e. unmet_by g e.place.0 e.form) (expressions node) ≡ []
  expressions_met = nil_right (flat_map (unmet_decl g) node.outputs ++ flat_map (λ (q : Placed). unmet_part g (seen_at node q.site) q.part) (parts node)) _ h.met

  started_plain : (f : Name) → is_in f (async_nodes program.nodes) ≡ true → (n : Node) → node_named program.nodes f ≡ Some n → list_all is_plain (types_of n.outputs) ≡ true
  started_plain f started n is =
      let (clean, named) = named_node program.nodes f n (λ (n : Node). node_faults program n ≡ []) h.each_node is in
      plain_outputs program n clean (subst (λ (x : Name). is_in x (async_nodes program.nodes) ≡ true) named started)

  -- ---- types of declarations

  abbrev Known : Decl → Type 0
  Known d = type_is_known program.types d.ty ≡ true

  known_by : (w : Judging) (d : Decl) → w.types ≡ program.types → decl_faults w d ≡ [] → Known d
  known_by w d same_types_there e =
      subst (λ types. type_is_known types d.ty ≡ true) same_types_there (is_true _ (no_fault d.place.0 UnknownName _ (nil_left _ (init_faults w d d.init) e)))
    where
      is_true : (b : Bool) → not b ≡ false → b ≡ true
      is_true true f = refl
      is_true false f = absurd (false≢true (sym f))

  part_clean : (q : Placed) → Contains (parts node) q → part_faults (judging program node q) q.part ≡ []
  part_clean q at = none_of (λ (q : Placed). part_faults (judging program node q) q.part) (parts node) node_clean.each_part q at

  known_in_block : (w : Judging) (q : Part) → w.types ≡ program.types → part_faults w q ≡ [] → All Known (declared_in q)
  known_in_block w (Block ds equations) s e =
      All-weaker (λ d. decl_faults w d ≡ []) Known (λ d f. known_by w d s f) ds (none_of_each (decl_faults w) ds (nil_left _ _ (nil_left _ (second_definitions [] equations) e)))
  known_in_block w (Plain p left right) s e = All-nil Known
  known_in_block w (Switch p on cases) s e = All-nil Known
  known_in_block w (Reset p every sets) s e = All-nil Known
  known_in_block w (Automaton p cases) s e = All-nil Known
  known_in_block w (Transition strong states t) s e = All-nil Known

  known_inside : All (λ q. All Known (declared_in q.part)) (parts node)
  known_inside = All-weaker (Contains (parts node)) (λ q. All Known (declared_in q.part)) (λ q at. known_in_block (judging program node q) q.part refl (part_clean q at)) (parts node) (All-contains_itself (parts node))

  known_inputs : All Known node.inputs
  known_inputs = All-weaker (λ d. decl_faults (input_judging program node) d ≡ []) Known (λ d f. known_by (input_judging program node) d input_types f) node.inputs
      (none_of_each (decl_faults (input_judging program node)) node.inputs node_clean.inputs)
    where
      input_types : (input_judging program node).types ≡ program.types
      input_types = refl

  -- what the node's own block declares, and what is seen at a site
  known_own : All Known (node.outputs ++ node.block.locals)
  known_own = All-head (λ (q : Placed). All Known (declared_in q.part)) _ _ known_inside

  known_seen : (q : Placed) → Contains (parts node) q → All Known (seen_at node q.site)
  known_seen q at =
      All-append Known (locals_around q.site ++ node.block.locals ++ node.outputs) node.inputs
      (All-append Known (locals_around q.site ++ node.block.locals) node.outputs
      (All-append Known (locals_around q.site) node.block.locals (All-contains (λ (q : Placed). All Known (locals_around q.site)) (parts node) q (around_parts Known node known_inside) at)
      (all_right Known node.outputs node.block.locals known_own))
      (all_left Known node.outputs node.block.locals known_own)) known_inputs

  -- ---- expressions

  demanded_of : (q : Placed) → Contains (parts node) q → (e : Expr) → Contains (expressions node) e → Demanded k q.site e
  demanded_of q there_is e at =
      let started = λ (n : Node). flat_map (λ (x : Expr). called_async x.form) (expressions n) in
      let here = each_among (λ (x : Expr). called_async x.form) (expressions node) e at in
      let there = each_among started program.nodes node h.among_nodes in
      record {
        met = none_of (λ (x : Expr). unmet_by g x.place.0 x.form) (expressions node) expressions_met e at;
        made = each_among (λ (x : Expr). called x.form) (expressions node) e at;
        number = All-contains (λ (x : Expr). FitsForm (out-Form x.form)) (expressions node) e (All-contains (λ (n : Node). All (λ (x : Expr). FitsForm (out-Form x.form)) (expressions n)) program.nodes node h.in_range.constants h.among_nodes) at;
        plain = All-weaker (λ (f : Name). is_in f (async_nodes program.nodes) ≡ true) (λ (f : Name). (n : Node) → node_named program.nodes f ≡ Some n → list_all is_plain (types_of n.outputs) ≡ true) started_plain (called_async e.form)
            (each_within (λ (f : Name). is_in f (async_nodes program.nodes) ≡ true) (λ (x : Expr). called_async x.form) (expressions node) e there at);
        merged = λ x d none is tagged f. some_tag program.types d.ty h.in_range.constructors (of_declared Known (seen_at node q.site) x d (known_seen q there_is) is) tagged f;
      }

  demanded_in : (q : Placed) → Contains (parts node) q → All (Demanded k q.site) (flat_map inside (expressions_of q.part))
  demanded_in q at =
      each_within (Demanded k q.site) (λ (q : Placed). flat_map inside (expressions_of q.part)) (parts node) q
      (All-weaker (Contains (expressions node)) (Demanded k q.site) (demanded_of q at) (expressions node) (All-contains_itself (expressions node))) at

  -- ---- parts

  initials_fit : All (λ d. FitsInit d.init) (variables node)
  initials_fit = All-contains (λ (n : Node). All (λ (d : Decl). FitsInit d.init) (variables n)) program.nodes node h.in_range.initials h.among_nodes

  initials_in : (q : Placed) → Contains (parts node) q → All (λ d. FitsInit d.init) (declared_in q.part)
  initials_in q at = each_within (λ (d : Decl). FitsInit d.init) (λ (q : Placed). declared_in q.part) (parts node) q (all_right (λ (d : Decl). FitsInit d.init) node.inputs _ initials_fit) at

  abbrev interface_conditions : List Condition
  interface_conditions = flat_map (λ (d : Decl). equal d.place.0 (Of d.name) Base) (node.inputs ++ node.outputs)

  sound_part : (q : Placed) → Contains (parts node) q → SoundPart k q.site q.part
  sound_part q at =
      let m = All-contains (λ (q : Placed). (m : ℕ) × Meets a (part_conditions (own_names node q.site) (seen_at node q.site) m q.part)) (parts node) q
      (numbered_meet a node 0 (parts node) (meets_right a interface_conditions _ h.meets)) at in
      part_sound k q.site (is_strong q.part) h.numbers q.part m.0 (initials_in q at) (part_clean q at) m.1 (demanded_in q at)
      (none_of (λ (q : Placed). unmet_part g (seen_at node q.site) q.part) (parts node) parts_met q at)

  -- ---- inputs and outputs

  interface_base : (d : Decl) → Contains (node.inputs ++ node.outputs) d → clock d.name ≡ []
  interface_base d at = (each_meets a (λ (d : Decl). equal d.place.0 (Of d.name) Base) (node.inputs ++ node.outputs) d (meets_left a interface_conditions _ h.meets) at).0

  -- no equation defines an input
  not_left : (w : Judging) (p : ℕ) (left : List Name) → flat_map (left_faults w p) left ≡ [] → (x : Name) → is_in x (names w.node.inputs) ≡ true → is_in x left ≡ false
  not_left w p left e x input = go (is_in x left) refl
    where
      go : (b : Bool) → is_in x left ≡ b → b ≡ false
      go true is =
          let f = none_of (left_faults w p) left e x (among x left is) in
          absurd (false≢true (sym (no_fault p Duplicate (is_in x (names w.node.inputs)) (nil_right (unknown_variable w p x) _ f)) ∙ input))
      go false is = refl

  no_right : (w : Judging) (q : Part) → part_faults w q ≡ [] → (x : Name) → is_in x (names w.node.inputs) ≡ true → right_sides_in x q ≡ []
  no_right w (Plain p left right) e x input =
      let first = flat_map (left_faults w p) left in
      let twice = seconds same [] (map (λ (y : Name). (p, y)) left) in
      let demand = demanded w p (fits_left w (left_types w left)) (judge_expr w right) in
      ap (λ b. if b then right ∷ [] else []) (not_left w p left (nil_left first twice (nil_left (first ++ twice) demand e)) x input)
  no_right w (Block ds equations) e x input = refl
  no_right w (Switch p on cases) e x input = refl
  no_right w (Reset p every sets) e x input = refl
  no_right w (Automaton p cases) e x input = refl
  no_right w (Transition strong states t) e x input = refl

  none_from : {X Y : Type 0} (f : X → List Y) (xs : List X) → All (λ x. f x ≡ []) xs → flat_map f xs ≡ []
  none_from f [] e = refl
  none_from f (x ∷ xs) e = ap (λ l. l ++ flat_map f xs) (All-head (λ x. f x ≡ []) x xs e) ∙ none_from f xs (All-tail (λ x. f x ≡ []) x xs e)

  name_in : (ds : List Decl) (d : Decl) → Contains ds d → is_in d.name (names ds) ≡ true
  name_in ds d at = All-contains (λ (d : Decl). is_in d.name (names ds) ≡ true) ds d (all_names ds) at
    where
      all_names : (ds : List Decl) → All (λ (d : Decl). is_in d.name (names ds) ≡ true) ds
      all_names [] = All-nil (λ (d : Decl). is_in d.name (names []) ≡ true)
      all_names (c ∷ cs) = All-cons (λ (d : Decl). is_in d.name (names (c ∷ cs)) ≡ true) c cs (ap (λ b. b || is_in c.name (names cs)) (same_self c.name))
          (All-weaker (λ (d : Decl). is_in d.name (names cs) ≡ true) (λ (d : Decl). is_in d.name (names (c ∷ cs)) ≡ true) (λ d i. is_in_right d.name (c.name ∷ []) (names cs) i) cs (all_names cs))

  input_defined : (d : Decl) → Contains node.inputs d → g d.name ≡ false
  input_defined d at =
      let none = none_from (λ (q : Placed). right_sides_in d.name q.part) (parts node)
      (All-weaker (Contains (parts node)) (λ (q : Placed). right_sides_in d.name q.part ≡ []) (λ q in_parts. no_right (judging program node q) q.part (part_clean q in_parts) d.name (name_in node.inputs d at)) (parts node) (All-contains_itself (parts node))) in
      h.grades d.name ∙ ap (λ (es : List Expr). list_any (λ e. grade g e.form) es) none

  sound_input : (d : Decl) → Contains node.inputs d → SoundInterface k d
  sound_input d at =
      let base = interface_base d (Contains-append_left node.inputs node.outputs d at) in
      let met = input_defined d at in (
        base,
        met,
        init_sound k (input_judging program node) refl d (All-contains (λ (d : Decl). FitsInit d.init) node.inputs d (all_left (λ (d : Decl). FitsInit d.init) node.inputs _ initials_fit) at)
            (none_of (decl_faults (input_judging program node)) node.inputs node_clean.inputs d at) (λ i. base) (λ i. met),
      )

  sound_output : (d : Decl) → Contains node.outputs d → SoundInterface k d
  sound_output d at =
      let base = interface_base d (Contains-append_right node.inputs node.outputs d at) in
      let met = is_met d.place.0 _ (none_of (unmet_decl g) node.outputs outputs_met d at) in
      (base, met, (sound_part (record { site = []; part = Block (node.outputs ++ node.block.locals) (map equation_case node.block.body) }) (0, omega arith, refl) d (Contains-append_left node.outputs node.block.locals d at)).0)

  names_once : NamesDiffer (names (variables node))
  names_once = subst NamesDiffer (map_map (λ (d : Decl). (d.place.0, d.name)) (λ (d : Decl). d.name) (λ d. refl) (variables node)) (names_differ (map (λ (d : Decl). (d.place.0, d.name)) (variables node)) node_clean.once)

  sound_node : SoundNode k
  sound_node = record {
    once = names_once;
    grades = h.grades;
    inputs = sound_input;
    outputs = sound_output;
    sound_parts = sound_part;
    acyclic = h.acyclic;
    steps = steps_seen k (record { differ = names_once; sound_parts = sound_part; numbers = h.numbers; meets = h.meets; least = h.least; declared = h.declared });
  }

-- ---- programs

-- a variable that has no clock of its own is on the base clock
declared_or_base : (o : Option ClockPath) (b : Bool) → is_some o ≡ b → (b ≡ true) ⊎ (steps_or_none o ≡ [])
declared_or_base None b e = inr refl
declared_or_base (Some p) b e = inl (sym e)

pub accepted_is_sound : AcceptedIsSound
accepted_is_sound c in_range h = record {
  types = subst NamesDiffer (map_map (λ (t : TypeDec). (t.place.0, t.name)) (λ (t : TypeDec). t.name) (λ t. refl) c.program.types) (names_differ (map (λ (t : TypeDec). (t.place.0, t.name)) c.program.types) clean.types);
  constructors = subst NamesDiffer (constructor_names c.program.types) (names_differ (flat_map (λ (t : TypeDec). map (λ (x : Name). (t.place.0, x)) t.constructors) c.program.types) clean.constructors);
  nodes = subst NamesDiffer (map_map (λ (n : Node). (n.place.0, n.name)) (λ (n : Node). n.name) (λ n. refl) c.program.nodes) (names_differ (map (λ (n : Node). (n.place.0, n.name)) c.program.nodes) clean.names);
  sound_nodes = λ n node at.
      let among_nodes = at_place c.program.nodes n node at in
      let (g, least, met) = All-contains (λ (node : Node). (g : Grades) × AreLeastGrades node g × (unmet_in g node ≡ [])) c.program.nodes node h.initialised among_nodes in
      let clocks = (h.clocked.least n node at).meets in (
        g,
        sound_node c.program node (clock_in c.clocks n) g (record {
          in_range = in_range;
          each_node = clean.each_node;
          among_nodes = among_nodes;
          numbers = clocks.0;
          meets = clocks.1;
          grades = least.meets;
          met = met;
          acyclic = h.causal n node at;
          least = (h.clocked.least n node at).least;
          declared = λ y. declared_or_base (path_in c.clocks n y) (is_in y (names (variables node))) (h.clocked.exact n y ∙ ap (λ (o : Option Node). declares_in o y) at);
        }),
      );
}
  where
    clean : CleanProgram c.program
    clean = clean_program c.program h.typed

    second_of : (p : ℕ) (xs : List Name) → map (λ (q : ℕ × Name). q.1) (map (λ (x : Name). (p, x)) xs) ≡ xs
    second_of p [] = refl
    second_of p (x ∷ xs) = ap (λ l. x ∷ l) (second_of p xs)

    constructor_names : (types : List TypeDec) → map (λ (q : ℕ × Name). q.1) (flat_map (λ (t : TypeDec). map (λ (x : Name). (t.place.0, x)) t.constructors) types) ≡ flat_map (λ t. t.constructors) types
    constructor_names [] = refl
    constructor_names (t ∷ ts) =
        map-append (λ (q : ℕ × Name). q.1) (map (λ (x : Name). (t.place.0, x)) t.constructors) (flat_map (λ (t : TypeDec). map (λ (x : Name). (t.place.0, x)) t.constructors) ts)
        ∙ (ap (λ l. l ++ map (λ (q : ℕ × Name). q.1) (flat_map (λ (t : TypeDec). map (λ (x : Name). (t.place.0, x)) t.constructors) ts)) (second_of t.place.0 t.constructors)
        ∙ ap (λ l. t.constructors ++ l) (constructor_names ts))
