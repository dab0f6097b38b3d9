-- An accepted program is tied to the core that comes of it.
use Rattle.std.proofs.Common.{◌≡◌, ◌⊎◌, inl, inr, ℕ, suc, ◌+◌, Bool, true, false, ◌||◌, cond, List, [], ◌∷◌, ◌++◌, map, Contains, Option, Some, None, is_some, slice_get, refl, sym, ap, subst, ◌∙◌, append-nil, append_assoc, arith}
use Rattle.std.specs.List.{find, flat_map}
use Rattle.std.proofs.lemmas.List.Elements.{Contains-append_right, Contains-append_cases}
use Rattle.hept_ast.specs.Texts.{Name, same, is_in, names}
use Rattle.hept_ast.specs.Scopes.{Clock}
use Rattle.hept_ast.specs.Meaning.{clock_of_equation}
use Rattle.hept_ast.specs.Parts.{Block, Plain, Placed, declared_in, equation_case, parts_of, sets_of, variables}
use Rattle.hept_ast.specs.ClockMaps.{clock_in, path_in, steps_or_none}
use Rattle.hept_ast.specs.Stages.{ClockedProgram, IsAcceptedProgram, HasLeastClocks, declares_in}
use Rattle.hept_ast.specs.declared.name.Place.{Place}
use Rattle.hept_ast.specs.declared.tree.ClockPath.{ClockPath}
use Rattle.hept_ast.specs.declared.tree.Decl.{Decl}
use Rattle.hept_ast.specs.declared.tree.Ty.{Ty}
use Rattle.hept_ast.specs.declared.tree.Expr.{Expr}
use Rattle.hept_ast.specs.declared.tree.Equation.{Equation}
use Rattle.hept_ast.specs.declared.tree.Equation.TheVariants as equation
use Rattle.hept_ast.specs.declared.tree.Node.{Node}
use Rattle.hept_ast.specs.declared.tree.Core.{Core}
use Rattle.hept_ast.specs.declared.tree.CoreNode.{CoreNode}
use Rattle.hept_ast.specs.declared.tree.CoreEquation.{CoreEquation}
use Rattle.hept_ast.proofs.PartsOf.{parts-Define, sets-Define}
use Rattle.sound_expressions.specs.Sound.{Within}
use Rattle.accepted_meaning.specs.Ranges.{IsInRange}
use Rattle.accepted_meaning.specs.SoundNodes.{SoundLeft, no_left, a_left, SoundNode, SoundPart, SoundProgram, all_sets, within}
use Rattle.accepted_meaning.proofs.FitsTexts.{clock_of_seen}
use Rattle.accepted_meaning.proofs.StaticNodes.{accepted_is_sound}
use Rattle.accepted_meaning.proofs.TextLists.{same_is, same_self, not_both, contains_here, contains_there, declared_is_in, declared_name, is_in_append}
use Rattle.lowering_rules.specs.Lowering.{node_frame, without_initial, clock_of_left, LowersEquations, no_equations, more_equations, define, LowersNode, LowersNodes, no_nodes, more_nodes, LowersProgram}
use Rattle.lowering_rules.proofs.Steps.{plainly}
use Rattle.lowering_rules.specs.Ties as ties
use Rattle.lowering_rules.specs.Ties.{core_equation, TiedEquations, TiedNode, TiedNodes}

-- ---- the frame of a node changes nothing

pub same_names : (ds : List Decl) → names (map without_initial ds) ≡ names ds
same_names [] = refl
same_names (d ∷ ds) = ap (λ (l : List Name). d.name ∷ l) (same_names ds)

-- ---- equations

-- each name on a left side is on one clock
lefts_on : (k : Within) (c : Clock) (left : List Name) {ts : List Ty} → SoundLeft k [] c left ts → (x : Name) → is_in x left ≡ true → k.clock x ≡ c
lefts_on k c _ no_left x e = cc
lefts_on k c _ (a_left {x = y} {xs = ys} {d = d} sees other rest) x e = go (same x y) refl e (lefts_on k c ys rest x)
  where
    go : (b : Bool) → same x y ≡ b → (b || is_in x ys) ≡ true → (is_in x ys ≡ true → k.clock x ≡ c) → k.clock x ≡ c
    go true p q later = subst (λ (z : Name). k.clock z ≡ c) (sym (same_is x y p)) (clock_of_seen k [] y d c sees)
    go false p q later = later q

one_clock : (clock : Name → Clock) (c : Clock) (left : List Name) → ((x : Name) → is_in x left ≡ true → clock x ≡ c) → (x : Name) → is_in x left ≡ true → clock x ≡ clock_of_left clock left
one_clock clock c [] h x e = cc
one_clock clock c (y ∷ ys) h x e = h x e ∙ sym (h y (head_in y ys))
  where
    head_in : (y : Name) (ys : List Name) → is_in y (y ∷ ys) ≡ true
    head_in y ys = ap (λ (b : Bool). b || is_in y ys) (same_self y)

module _ (k : Within) where
  abbrev SoundParts : List Equation → Type 0
  SoundParts es = (q : Placed) → Contains (flat_map (parts_of []) es) q → SoundPart k q.site q.part

  sound_head : (p : Place) (left : List Name) (right : Expr) (es : List Equation) → SoundParts (equation.Define p left right ∷ es) → SoundPart k [] (Plain p.0 left right)
  sound_head p left right es h =
      h (record { site = []; part = Plain p.0 left right })
      (subst (λ (l : List Placed). Contains (l ++ flat_map (parts_of []) es) (record { site = []; part = Plain p.0 left right })) (sym (parts-Define [] p left right))
      (contains_here (record { site = []; part = Plain p.0 left right }) (flat_map (parts_of []) es)))

  sound_tail : (e : Equation) (es : List Equation) → SoundParts (e ∷ es) → SoundParts es
  sound_tail e es h q i = h q (Contains-append_right (parts_of [] e) (flat_map (parts_of []) es) q i)

  equations_tied : (n m : ℕ) (es : List Equation) (cs : List CoreEquation) → LowersEquations node_frame k.clock n es cs m → SoundParts es → TiedEquations k.clock n es cs m
  equations_tied n m _ _ no_equations h = ties.no_equations
  equations_tied n m _ _ (more_equations {es = es} {ds = ds} (define {p = p} {left = left} {right = right} {r = r} l) ls) h =
      let s = sound_head p left right es h in
      subst (λ (e : CoreEquation). TiedEquations k.clock n (equation.Define p left right ∷ es) (e ∷ ds) m) (sym (plainly k.clock p left r))
      (ties.more_equations l (one_clock k.clock s.0 left (lefts_on k s.0 left s.3)) (equations_tied _ m es ds ls (sound_tail (equation.Define p left right) es h)))

-- ---- clocks

-- what no equation has on the left is on the base clock
clocks_found : (clock : Name → Clock) (x : Name) (n m : ℕ) (es : List Equation) (cs : List CoreEquation) → TiedEquations clock n es cs m →
    (is_in x (flat_map sets_of es) ≡ false → clock x ≡ []) → clock_of_equation (find (λ e. is_in x e.left) cs) ≡ clock x
clocks_found clock x n m _ _ ties.no_equations h = sym (h refl)
clocks_found clock x n m _ _ (ties.more_equations {p = p} {left = left} {right = right} {r = r} {es = es} {cs = cs} l on ls) h =
    go (is_in x left) refl
    (λ e. clocks_found clock x _ m es cs ls
    (λ f. h (ap (λ (l : List Name). is_in x (l ++ flat_map sets_of es)) (sets-Define p left right) ∙ is_in_append x left (flat_map sets_of es) ∙ ap (λ (b : Bool). b || is_in x (flat_map sets_of es)) e ∙ f)))
  where
    go : (b : Bool) → is_in x left ≡ b → (is_in x left ≡ false → clock_of_equation (find (λ e. is_in x e.left) cs) ≡ clock x) → clock_of_equation (cond b (Some (core_equation p left (clock_of_left clock left) r)) (find (λ e. is_in x e.left) cs)) ≡ clock x
    go true e later = sym (on x e)
    go false e later = later e

plain_declares : (clock : Name → Clock) (n m : ℕ) (es : List Equation) (cs : List CoreEquation) → TiedEquations clock n es cs m → flat_map (λ (q : Placed). declared_in q.part) (flat_map (parts_of []) es) ≡ []
plain_declares clock n m _ _ ties.no_equations = refl
plain_declares clock n m _ _ (ties.more_equations {p = p} {left = left} {right = right} {es = es} {cs = cs} l on ls) =
    ap (λ (qs : List Placed). flat_map (λ (q : Placed). declared_in q.part) (qs ++ flat_map (parts_of []) es)) (parts-Define [] p left right) ∙ plain_declares clock _ m es cs ls

declared_or_base : (o : Option ClockPath) (b : Bool) → is_some o ≡ b → b ≡ false → steps_or_none o ≡ []
declared_or_base None b e f = refl
declared_or_base (Some p) b e f = cc

-- ---- nodes

module _ (c : ClockedProgram) (sound : SoundProgram c) (least : HasLeastClocks c.program c.clocks) where
  module _ (n : ℕ) (node : Node) (at : slice_get c.program.nodes n ≡ Some node) (low : CoreNode) (h : LowersNode (clock_in c.clocks n) node low) where
    abbrev k : Within
    k = within c n node (sound.sound_nodes n node at).0

    s : SoundNode k
    s = (sound.sound_nodes n node at).1

    abbrev body : List Equation
    body = node.block.body

    abbrev decls : List Decl
    decls = node.inputs ++ node.outputs ++ node.block.locals

    pub tied_equations : TiedEquations k.clock 0 body low.equations h.calls
    tied_equations = equations_tied k 0 h.calls body low.equations h.equations (λ q i. s.sound_parts q (contains_there _ q (flat_map (parts_of []) body) i))

    pub variables_are : variables node ≡ decls
    variables_are =
        ap (λ (ds : List Decl). node.inputs ++ ((node.outputs ++ node.block.locals) ++ ds)) (plain_declares k.clock 0 h.calls body low.equations tied_equations)
        ∙ ap (λ (ds : List Decl). node.inputs ++ ds) (append-nil (node.outputs ++ node.block.locals))
        ∙ sym (append_assoc node.inputs node.outputs node.block.locals)

    declares_it : (x : Name) → is_in x (names decls) ≡ false → declares_in (slice_get c.program.nodes n) x ≡ false
    declares_it x e = ap (λ (o : Option Node). declares_in o x) at ∙ ap (λ (ds : List Decl). is_in x (names ds)) variables_are ∙ e

    undeclared : (x : Name) → is_in x (names decls) ≡ false → k.clock x ≡ []
    undeclared x e = declared_or_base (path_in c.clocks n x) (declares_in (slice_get c.program.nodes n) x) (least.exact n x) (declares_it x e)

    -- each output and local is defined
    pub is_defined : (d : Decl) → Contains (node.outputs ++ node.block.locals) d → is_in d.name (flat_map sets_of body) ≡ true
    is_defined d i =
        subst (λ (xs : List Name). is_in d.name xs ≡ true) (sets_are body)
        (s.sound_parts (record { site = []; part = Block (node.outputs ++ node.block.locals) (map equation_case body) }) (contains_here _ (flat_map (parts_of []) body)) d i).1
      where
        sets_are : (es : List Equation) → all_sets (map equation_case es) ≡ flat_map sets_of es
        sets_are [] = refl
        sets_are (e ∷ es) = ap (λ (xs : List Name). sets_of e ++ xs) (sets_are es)

    cases : (d : Decl) → Contains decls d → Contains node.inputs d ⊎ Contains (node.outputs ++ node.block.locals) d
    cases d i =
        Contains-append_cases node.inputs (node.outputs ++ node.block.locals) d
        (subst (λ (ds : List Decl). Contains ds d) (append_assoc node.inputs node.outputs node.block.locals) i)

    -- so what no equation has on the left is an input, or not declared
    not_defined : (x : Name) → is_in x (flat_map sets_of body) ≡ false → k.clock x ≡ []
    not_defined x e = go (is_in x (names decls)) refl
      where
        declared : (d : Decl) → x ≡ d.name → Contains node.inputs d ⊎ Contains (node.outputs ++ node.block.locals) d → k.clock x ≡ []
        declared d p (inl i) = subst (λ (y : Name). k.clock y ≡ []) (sym p) (s.inputs d i).0
        declared d p (inr i) = not_both (is_in x (flat_map sets_of body)) (subst (λ (y : Name). is_in y (flat_map sets_of body) ≡ true) (sym p) (is_defined d i)) e

        go : (b : Bool) → is_in x (names decls) ≡ b → k.clock x ≡ []
        go true p = let (d, q) = declared_is_in decls x p in let (i, r) = declared_name decls x d q in declared d r (cases d i)
        go false p = undeclared x p

    node_tied : TiedNode k.clock node low
    node_tied = record {
      name = h.name;
      inputs = ap names h.inputs ∙ same_names node.inputs;
      outputs = ap names h.outputs ∙ same_names node.outputs;
      calls = h.calls;
      equations = tied_equations;
      undeclared = undeclared;
      clocks = λ x. clocks_found k.clock x 0 h.calls body low.equations tied_equations (not_defined x);
    }

  nodes_tied : (j : ℕ) (nodes : List Node) (lows : List CoreNode) → ((i : ℕ) (node : Node) → slice_get nodes i ≡ Some node → slice_get c.program.nodes (j + i) ≡ Some node) →
      LowersNodes (clock_in c.clocks) j nodes lows → TiedNodes (clock_in c.clocks) j nodes lows
  nodes_tied j _ _ at no_nodes = ties.no_nodes
  nodes_tied j _ _ at (more_nodes {node = node} {low = low} {nodes = nodes} {lows = lows} h hs) =
      let e : j + 0 ≡ j = omega arith in
      ties.more_nodes (node_tied j node (subst (λ (i : ℕ). slice_get c.program.nodes i ≡ Some node) e (at 0 node refl)) low h)
      (nodes_tied (suc j) nodes lows (λ i node p. let f : j + suc i ≡ suc j + i = omega arith in subst (λ (i : ℕ). slice_get c.program.nodes i ≡ Some node) f (at (suc i) node p)) hs)

-- an accepted program in range is tied to what it becomes
pub accepted_is_tied : (c : ClockedProgram) (core : Core) → IsInRange c.program → IsAcceptedProgram c → LowersProgram c core → TiedNodes (clock_in c.clocks) 0 c.program.nodes core.nodes
accepted_is_tied c core range accepted h =
    nodes_tied c (accepted_is_sound c range accepted) accepted.clocked 0 c.program.nodes core.nodes (λ i node p. let e : i ≡ 0 + i = omega arith in subst (λ (j : ℕ). slice_get c.program.nodes j ≡ Some node) e p) h.nodes
