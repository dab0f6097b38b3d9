-- The core that comes of an accepted program has the static facts.
use Rattle.std.proofs.Common.{◌≡◌, ◌⊎◌, ⊎_elim, ℕ, suc, ◌+◌, Bool, true, false, ◌||◌, if◌then◌else◌, List, [], ◌∷◌, ◌++◌, map, All, Contains, Some, slice_get, refl, sym, ap, subst, ◌∙◌, arith}
use Rattle.std.specs.List.{flat_map, list_any, list_all}
use Rattle.std.proofs.lemmas.Bool.{false≢true}
use Rattle.std.proofs.lemmas.List.{map-append}
use Rattle.std.proofs.lemmas.List.Elements.{All-nil, All-cons, All-append, All-contains, Contains-append_left}
use Rattle.hept_ast.specs.Texts.{Name, same, is_in, names}
use Rattle.hept_ast.specs.Scopes.{Clock}
use Rattle.hept_ast.specs.Parts.{Block, Plain, Placed, declaration, equation_case, expressions, expressions_of, inside, parts, parts_of, seen_at}
use Rattle.hept_ast.specs.Clocks.{own_names}
use Rattle.hept_ast.specs.Initial.{AreLeastGrades, grade, right_sides, right_sides_in, unmet_by, unmet_decl, unmet_in, unmet_part}
use Rattle.hept_ast.specs.Types.{is_plain, types_of}
use Rattle.hept_ast.specs.Faults.{Duplicate, UnknownName, called_async, fault, left_faults, node_named}
use Rattle.hept_ast.specs.ClockMaps.{clock_in}
use Rattle.hept_ast.specs.Stages.{ClockedProgram, IsAcceptedProgram}
use Rattle.hept_ast.specs.declared.name.Place.{Place}
use Rattle.hept_ast.specs.declared.tree.Core.{Core}
use Rattle.hept_ast.specs.declared.tree.CoreNode.{CoreNode}
use Rattle.hept_ast.specs.declared.tree.CoreEquation.{CoreEquation}
use Rattle.hept_ast.specs.declared.tree.Decl.{Decl}
use Rattle.hept_ast.specs.declared.tree.Node.{Node}
use Rattle.hept_ast.specs.declared.tree.Expr.{Expr}
use Rattle.hept_ast.specs.declared.tree.Ty.{Ty}
use Rattle.hept_ast.specs.declared.tree.TypeDec.{TypeDec}
use Rattle.hept_ast.specs.declared.tree.Form.{out-Form}
use Rattle.hept_ast.specs.declared.tree.Equation.{Equation}
use Rattle.hept_ast.specs.declared.tree.Equation.TheVariants as equation
use Rattle.hept_ast.proofs.PartsOf.{parts-Define}
use Rattle.core_rules.specs.Cores.{as_interface, core_clock, core_decls}
use Rattle.core_facts.specs.Undefined.{Among, first, Allows, AreIn, Grades, lists_of, may}
use Rattle.core_facts.specs.Static.{AreProper, GivesNoFuture, HasBranch, StaticEquation, StaticNode}
use Rattle.core_facts.proofs.Undefined.{none_of as no_lists}
use Rattle.sound_expressions.specs.Demands.{FitsForm, NamesDiffer}
use Rattle.sound_expressions.specs.Sound.{Within, Sees, Sound, no_branches, is_constant, is_async_constant, is_variable, is_last, is_unary, is_binary, is_if, is_fby, is_pre, is_arrow, is_when, is_merge, is_call, is_async_call, is_get}
use Rattle.sound_expressions.proofs.Expressions.{found}
use Rattle.sound_expressions.proofs.Lists.{nil_left, nil_right, none_of, no_fault}
use Rattle.accepted_meaning.specs.Ranges.{IsInRange}
use Rattle.accepted_meaning.specs.SoundNodes.{AreSeenBeside, IsSeenBeside, SoundNode, SoundProgram, within}
use Rattle.accepted_meaning.proofs.StaticInside.{SoundAt, part_inside}
use Rattle.accepted_meaning.proofs.StaticNodes.{accepted_is_sound, at_place}
use Rattle.accepted_meaning.proofs.TextLists.{contains_cases, contains_flat, contains_here, contains_none, contains_there, is_in_declared}
use Rattle.erased_rules.proofs.TypedExpressions.{Plain_outputs}
use Rattle.naming_rules.proofs.CallsAlike.{judging_in}
use Rattle.naming_rules.proofs.Lists.{each_of}
use Rattle.lowering_rules.specs.Lowering.{without_initial, clock_of_left, LowersNode, LowersNodes, LowersProgram, no_nodes, more_nodes}
use Rattle.lowering_rules.specs.Ties as ties
use Rattle.lowering_rules.specs.Ties.{core_equation, TiedEquations, TiedNode, TiedNodes}
use Rattle.lowering_rules.proofs.Accepted.{accepted_is_tied}
use Rattle.sound_lowering.specs.SoundLaws.{LoweringIsStatic}
use Rattle.sound_lowering.proofs.Clean.{plain_outputs, clean_equation, async_named}
use Rattle.sound_lowering.proofs.Undefined.{Facts, empty_lists, from_start, grade_same, may_same, static_again}
use Rattle.sound_lowering.proofs.WellLowered.{own_same, types_same}

-- ---- lists

all_of : {A : Type 0} (P : A → Type 0) (xs : List A) → ((x : A) → Contains xs x → P x) → All P xs
all_of P [] h = All-nil P
all_of P (x ∷ xs) h = All-cons P x xs (h x (contains_here x xs)) (all_of P xs (λ y i. h y (contains_there x y xs i)))

any_at : {A : Type 0} (p : A → Bool) (xs : List A) (x : A) → Contains xs x → list_any p xs ≡ false → p x ≡ false
any_at p [] x i e = contains_none x i
any_at {A} p (y ∷ ys) x i e = ⊎_elim (λ (q : y ≡ x). subst (λ (z : A). p z ≡ false) q (first_false (p y) (list_any p ys) e)) (λ j. any_at p ys x j (rest_false (p y) (list_any p ys) e)) (contains_cases y x ys i)
  where
    first_false : (b c : Bool) → b || c ≡ false → b ≡ false
    first_false true c e = e
    first_false false c e = refl

    rest_false : (b c : Bool) → b || c ≡ false → c ≡ false
    rest_false true c e = absurd (false≢true (sym e))
    rest_false false c e = e

-- a merge of an accepted program has a branch
branch_of : (k : Within) (e : Expr) (c : Clock) (ts : List Ty) → Sound k [] e c ts → HasBranch (out-Form e.form)
branch_of k e c ts (is_constant o t n) = subst HasBranch (sym o) tt
branch_of k e c ts (is_async_constant o t n) = subst HasBranch (sym o) tt
branch_of k e c ts (is_variable o s) = subst HasBranch (sym o) tt
branch_of k e c ts (is_last o s i) = subst HasBranch (sym o) tt
branch_of k e c ts (is_unary o s f) = subst HasBranch (sym o) tt
branch_of k e c ts (is_binary o s r f n) = subst HasBranch (sym o) tt
branch_of k e c ts (is_if o i s r f) = subst HasBranch (sym o) tt
branch_of k e c ts (is_fby o s r f n) = subst HasBranch (sym o) tt
branch_of k e c ts (is_pre o s f n) = subst HasBranch (sym o) tt
branch_of k e c ts (is_arrow o s r f) = subst HasBranch (sym o) tt
branch_of k e c ts (is_when o v s t i f g) = subst HasBranch (sym o) tt
branch_of k e c ts (is_merge {x = x} {bs = []} {tss = tss} o v i g no_branches a f) = cc
branch_of k e c ts (is_merge {x = x} {bs = b ∷ bs} o v i g s a f) = subst HasBranch (sym o) tt
branch_of k e c ts (is_call o n s f l m) = subst HasBranch (sym o) tt
branch_of k e c ts (is_async_call o n s f l m) = subst HasBranch (sym o) tt
branch_of k e c ts (is_get o s f) = subst HasBranch (sym o) tt

-- ---- one node

module _ (c : ClockedProgram) (core : Core) (range : IsInRange c.program) (accepted : IsAcceptedProgram c) (h : LowersProgram c core) where
  abbrev sound : SoundProgram c
  sound = accepted_is_sound c range accepted

  abbrev ns : List Node
  ns = c.program.nodes

  -- an interface that is found gives the types of the program's node
  interface_in : (j : ℕ) (nodes : List Node) (lows : List CoreNode) → LowersNodes (clock_in c.clocks) j nodes lows → (f : Name) (i : Node) → node_named (map as_interface lows) f ≡ Some i →
      (g : Node) × (node_named nodes f ≡ Some g) × (types_of i.outputs ≡ types_of g.outputs)
  interface_in j _ _ no_nodes f i e = cc
  interface_in j _ _ (more_nodes {node = g} {low = low} {nodes = nodes} {lows = lows} a rest) f i e =
      go (same f g.name) (interface_in (suc j) nodes lows rest f i) (ap (λ (x : Name). if same f x then Some (as_interface low) else node_named (map as_interface lows) f) (sym a.name) ∙ e)
    where
      go : (b : Bool) → (node_named (map as_interface lows) f ≡ Some i → (m : Node) × (node_named nodes f ≡ Some m) × (types_of i.outputs ≡ types_of m.outputs)) →
          (if b then Some (as_interface low) else node_named (map as_interface lows) f) ≡ Some i →
          (m : Node) × ((if b then Some g else node_named nodes f) ≡ Some m) × (types_of i.outputs ≡ types_of m.outputs)
      go true later s =
          let is : as_interface low ≡ i = cc in
          (g, refl, ap (λ (m : Node). types_of m.outputs) (sym is) ∙ ap types_of a.outputs ∙ types_same g.outputs)
      go false later s = later s

  no_future : (f : Name) → Plain_outputs ns f → GivesNoFuture core f
  no_future f plain i e =
      let (g, is, alike) = interface_in 0 ns core.nodes h.nodes f i e in
      ap (list_all is_plain) alike ∙ plain g is

  module _ (n : ℕ) (node : Node) (at : slice_get c.program.nodes n ≡ Some node) (low : CoreNode) (lowers : LowersNode (clock_in c.clocks n) node low) (t : TiedNode (clock_in c.clocks n) node low) where
    abbrev k : Within
    k = within c n node (sound.sound_nodes n node at).0

    s : SoundNode k
    s = (sound.sound_nodes n node at).1

    among : Contains c.program.nodes node
    among = at_place c.program.nodes n node at

    least : (g : Name → Bool) × AreLeastGrades node g × (unmet_in g node ≡ [])
    least = All-contains (λ node. (g : Name → Bool) × AreLeastGrades node g × (unmet_in g node ≡ [])) c.program.nodes node accepted.initialised among

    abbrev g : Name → Bool
    g = least.0

    abbrev G : Grades
    G = from_start g

    abbrev body : List Equation
    body = node.block.body

    -- what is defined by some grades is so by the least ones
    not_more : (x : Name) → k.grade x ≡ false → g x ≡ false
    not_more x e = go (g x) refl
      where
        go : (b : Bool) → g x ≡ b → b ≡ false
        go true f = absurd (false≢true (sym e ∙ least.1.least k.grade s.grades x f))
        go false f = refl

    never : (x : Name) → g x ≡ false → G x ≡ []
    never x e = ap (λ (b : Bool). if b then [] ∷ [] else []) e

    demands_met : flat_map (λ e. unmet_by g e.place.0 e.form) (expressions node) ≡ []
    demands_met = nil_right (flat_map (unmet_decl g) node.outputs ++ flat_map (λ q. unmet_part g (seen_at node q.site) q.part) (parts node)) (flat_map (λ e. unmet_by g e.place.0 e.form) (expressions node)) least.2

    -- ---- one equation of the program

    module _ (p : Place) (left : List Name) (right : Expr) (j : Contains body (equation.Define p left right)) where
      abbrev placed : Placed
      placed = record { site = []; part = Plain p.0 left right }

      in_parts : Contains (parts node) placed
      in_parts =
          contains_there _ placed (flat_map (parts_of []) body)
          (contains_flat (parts_of []) body (equation.Define p left right) placed j (subst (λ (qs : List Placed). Contains qs placed) (sym (parts-Define [] p left right)) (contains_here placed [])))

      in_node : (e : Expr) → Contains (inside right) e → Contains (expressions node) e
      in_node e i = contains_flat (λ (q : Placed). flat_map inside (expressions_of q.part)) (parts node) placed e in_parts (Contains-append_left (inside right) [] e i)

      facts : (e : Expr) → Contains (inside right) e → Facts ns g e
      facts e i =
          let (z, ts, r) = All-contains (SoundAt k []) (flat_map inside (expressions_of (Plain p.0 left right))) e (part_inside k [] (Plain p.0 left right) (s.sound_parts placed in_parts)) (Contains-append_left (inside right) [] e i) in
          record {
            demands = none_of (λ (e : Expr). unmet_by g e.place.0 e.form) (expressions node) demands_met e (in_node e i);
            number = All-contains (λ (e : Expr). FitsForm (out-Form e.form)) (expressions node) e (All-contains (λ (m : Node). All (λ e. FitsForm (out-Form e.form)) (expressions m)) c.program.nodes node range.constants among) (in_node e i);
            plain = all_of (Plain_outputs ns) (called_async e.form) (λ f l. plain_outputs c.program accepted.typed range.constructors f (async_named c.program node among e (in_node e i) f l));
            branch = branch_of k e z ts r;
          }

      -- by what resets the right side may be undefined, its variables may be so too
      right_grade : (x : Name) → is_in x left ≡ true → g x ≡ false → grade g right.form ≡ false
      right_grade x e f =
          any_at (λ (r : Expr). grade g r.form) (right_sides node x) right
          (contains_flat (λ (q : Placed). right_sides_in x q.part) (parts node) placed right in_parts (subst (λ (b : Bool). Contains (if b then right ∷ [] else []) right) (sym e) (contains_here right [])))
          (sym (least.1.meets x) ∙ f)

      left_allowed : (r : Expr) → grade g r.form ≡ grade g right.form → (x : Name) → is_in x left ≡ true → Allows (G x) (lists_of G [] r.form)
      left_allowed r same_grade x e l i = go (g x) refl
        where
          there : l ≡ []
          there = empty_lists g r l i

          go : (b : Bool) → g x ≡ b → (y : List Name) × Among y (if b then [] ∷ [] else []) × AreIn l y
          go true f = ([], first, subst (λ (z : List Name). AreIn z []) (sym there) (λ y a. a))
          go false f =
              let none = no_lists G [] r (ap (λ (m : Name → Bool). grade m r.form) (may_same g) ∙ same_grade ∙ right_grade x e f) in
              absurd (subst (λ (ls : List (List Name)). Among l ls → ⊥) (sym none) (λ a. elim a [ ]) i)

      -- ---- the clock of the left side

      left_owned : (x : Name) → Contains left x → is_in x (own_names node []) ≡ true
      left_owned x i =
          let none = none_of (left_faults (judging_in c.program.types ns node (seen_at node [])) p.0) left (clean_equation c.program accepted.typed range.constructors node among p left right j).lefts x i in
          let (d, is) = found (declaration (seen_at node []) x) (no_fault p.0 UnknownName _ (nil_left _ (fault p.0 Duplicate (is_in x (names node.inputs))) none)) in
          subst (λ (xs : List Name). is_in x xs ≡ true) (map-append (λ (d : Decl). d.name) (node.block.locals ++ node.outputs) node.inputs
          ∙ ap (λ (xs : List Name). xs ++ names node.inputs) (map-append (λ (d : Decl). d.name) node.block.locals node.outputs)) (is_in_declared (seen_at node []) x d is)

    -- all parts stand in the node's own scope
    sites_in : (i m : ℕ) (es : List Equation) (cs : List CoreEquation) → TiedEquations k.clock i es cs m → (q : Placed) → Contains (flat_map (parts_of []) es) q → q.site ≡ []
    sites_in i m _ _ ties.no_equations q l = contains_none q l
    sites_in i m _ _ (ties.more_equations {p = p} {left = left} {right = right} {es = es} {cs = cs} a on rest) q l =
        let placed : Placed = record { site = []; part = Plain p.0 left right } in
        ⊎_elim (λ (e : placed ≡ q). ap (λ (z : Placed). z.site) (sym e)) (λ o. sites_in _ m es cs rest q o)
        (contains_cases placed q (flat_map (parts_of []) es) (subst (λ (qs : List Placed). Contains (qs ++ flat_map (parts_of []) es) q) (parts-Define [] p left right) l))

    site_none : (q : Placed) → Contains (parts node) q → q.site ≡ []
    site_none q l =
        ⊎_elim (λ (e : record { site = []; part = Block (node.outputs ++ node.block.locals) (map equation_case body) } ≡ q). ap (λ (z : Placed). z.site) (sym e)) (λ o. sites_in 0 t.calls body low.equations t.equations q o)
        (contains_cases _ q (flat_map (parts_of []) body) l)

    step_proper : (z : Name) (before : Clock) → IsSeenBeside k [] z before → (is_in z (names (core_decls low)) ≡ true) × (core_clock low z ≡ before) × (G z ≡ [])
    step_proper z before b =
        let sees : Sees k [] z b.decl before = subst (λ site. Sees k site z b.decl before) (site_none b.at b.of_node) b.sees in
        let owned : is_in z (own_names node []) ≡ true =
        subst (λ (xs : List Name). is_in z xs ≡ true) (map-append (λ (d : Decl). d.name) (node.block.locals ++ node.outputs) node.inputs
        ∙ ap (λ (xs : List Name). xs ++ names node.inputs) (map-append (λ (d : Decl). d.name) node.block.locals node.outputs)) (is_in_declared (seen_at node []) z b.decl sees.declared) in (
          own_same c core range accepted h n node at low lowers t z ∙ owned,
          t.clocks z ∙ sym (ap (λ (x : Bool). if x then k.clock z else []) owned) ∙ sees.here,
          never z (not_more z b.defined),
        )

    proper : (before steps : Clock) → AreSeenBeside k [] before steps → AreProper low G before steps
    proper before [] b = tt
    proper before (q ∷ steps) b = (step_proper q.name before b.0, proper (before ++ q ∷ []) steps b.1)

    left_proper : (left : List Name) → ((x : Name) → Contains left x → is_in x (own_names node []) ≡ true) → AreProper low G [] (clock_of_left k.clock left)
    left_proper [] owned = tt
    left_proper (x ∷ xs) owned =
        let block : Placed = record { site = []; part = Block (node.outputs ++ node.block.locals) (map equation_case body) } in
        proper [] (k.clock x) (s.steps block x (contains_here block (flat_map (parts_of []) body)) (owned x (contains_here x xs)))

    -- ---- the core's equations

    equations_static : (i m : ℕ) (es : List Equation) (cs : List CoreEquation) → TiedEquations k.clock i es cs m → ((e : Equation) → Contains es e → Contains body e) → All (StaticEquation core low G) cs
    equations_static i m _ _ ties.no_equations b = All-nil (StaticEquation core low G)
    equations_static i m _ _ (ties.more_equations {p = p} {left = left} {right = right} {r = r} {es = es} {cs = cs} l on ls) b =
        let e = equation.Define p left right in
        let j = b e (contains_here e es) in
        All-cons (StaticEquation core low G) (core_equation p left (clock_of_left k.clock left) r) cs
        (record {
          left = left_allowed p left right j r (grade_same g l);
          right = static_again core ns g no_future l (each_of (Facts ns g) (inside right) (facts p left right j));
          clock = left_proper left (left_owned p left right j);
          resets = λ x none. cc;
        })
        (equations_static _ m es cs ls (λ f o. b f (contains_there e f es o)))

    interface_static : (ds : List Decl) → ((d : Decl) → Contains ds d → k.grade d.name ≡ false) → All (λ d. G d.name ≡ []) (map without_initial ds)
    interface_static [] b = All-nil (λ d. G d.name ≡ [])
    interface_static (d ∷ ds) b =
        All-cons (λ d. G d.name ≡ []) (without_initial d) (map without_initial ds) (never d.name (not_more d.name (b d (contains_here d ds)))) (interface_static ds (λ e o. b e (contains_there d e ds o)))

    static_node : (G : Grades) × StaticNode core low G
    static_node = (
      G,
      record {
        equations = equations_static 0 t.calls body low.equations t.equations (λ e o. o);
        interface = All-append (λ d. G d.name ≡ []) low.inputs low.outputs
            (subst (λ (ds : List Decl). All (λ d. G d.name ≡ []) ds) (sym lowers.inputs) (interface_static node.inputs (λ d o. (s.inputs d o).1)))
            (subst (λ (ds : List Decl). All (λ d. G d.name ≡ []) ds) (sym lowers.outputs) (interface_static node.outputs (λ d o. (s.outputs d o).1)));
      },
    )

  -- ---- all nodes

  static_nodes : (j : ℕ) (nodes : List Node) (lows : List CoreNode) → ((i : ℕ) (node : Node) → slice_get nodes i ≡ Some node → slice_get c.program.nodes (j + i) ≡ Some node) →
      LowersNodes (clock_in c.clocks) j nodes lows → TiedNodes (clock_in c.clocks) j nodes lows → All (λ low. (G : Grades) × StaticNode core low G) lows
  static_nodes j _ _ at no_nodes t = All-nil (λ low. (G : Grades) × StaticNode core low G)
  static_nodes j _ _ at (more_nodes {node = node} {low = low} {nodes = nodes} {lows = lows} a rest) (ties.more_nodes t ts) =
      let e : j + 0 ≡ j = omega arith in
      All-cons (λ low. (G : Grades) × StaticNode core low G) low lows (static_node j node (subst (λ (i : ℕ). slice_get c.program.nodes i ≡ Some node) e (at 0 node refl)) low a t)
      (static_nodes (suc j) nodes lows (λ i node p. let f : j + suc i ≡ suc j + i = omega arith in subst (λ (i : ℕ). slice_get c.program.nodes i ≡ Some node) f (at (suc i) node p)) rest ts)

pub lowering_is_static : LoweringIsStatic
lowering_is_static c core range accepted h =
    let sound = accepted_is_sound c range accepted in
    record {
      types = subst (λ (ts : List TypeDec). NamesDiffer (map (λ d. d.name) ts)) (sym h.types) sound.types;
      constructors = subst (λ (ts : List TypeDec). NamesDiffer (flat_map (λ d. d.constructors) ts)) (sym h.types) sound.constructors;
      nodes = static_nodes c core range accepted h 0 c.program.nodes core.nodes (λ i node p. let e : i ≡ 0 + i = omega arith in subst (λ (j : ℕ). slice_get c.program.nodes j ≡ Some node) e p) h.nodes (accepted_is_tied c core range accepted h);
    }
