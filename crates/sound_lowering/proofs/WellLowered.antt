-- The core that comes of an accepted program is well formed.
use Rattle.std.proofs.Common.{◌≡◌, ◌⊎◌, ⊎_elim, ℕ, suc, ◌+◌, Bool, true, false, ◌||◌, if◌then◌else◌, List, [], ◌∷◌, ◌++◌, map, get_or, All, Contains, Option, Some, None, slice_get, refl, sym, ap, subst, ◌∙◌, append-nil, arith}
use Rattle.std.specs.List.{flat_map}
use Rattle.std.specs.Option.{option_map}
use Rattle.std.proofs.lemmas.List.{map-append}
use Rattle.std.proofs.lemmas.List.Elements.{All-nil, All-cons, All-contains, Contains-append_left, Contains-append_right, Contains-append_cases}
use Rattle.hept_ast.specs.Texts.{Name, same, is_in, names}
use Rattle.hept_ast.specs.Scopes.{Clock}
use Rattle.hept_ast.specs.Paths.{AllDiffer}
use Rattle.hept_ast.specs.Parts.{Plain, Placed, declaration, expressions_of, inside, parts, parts_of, seen_at, sets_of}
use Rattle.hept_ast.specs.Clocks.{clock, own_names}
use Rattle.hept_ast.specs.Types.{call_fit, types_of}
use Rattle.hept_ast.specs.Faults.{Duplicate, Judged, Judging, UnknownName, called, calls_lead, calls_of, faults, fits_left, judge_expr, left_faults, left_types, node_named, pair_types, type_of_variable, unknown_variable, fault}
use Rattle.hept_ast.specs.ClockMaps.{clock_in}
use Rattle.hept_ast.specs.Stages.{ClockedProgram, IsAcceptedProgram}
use Rattle.hept_ast.specs.declared.name.Place.{Place}
use Rattle.hept_ast.specs.declared.tree.Core.{Core}
use Rattle.hept_ast.specs.declared.tree.CoreNode.{CoreNode}
use Rattle.hept_ast.specs.declared.tree.CoreEquation.{CoreEquation}
use Rattle.hept_ast.specs.declared.tree.Decl.{Decl}
use Rattle.hept_ast.specs.declared.tree.Node.{Node}
use Rattle.hept_ast.specs.declared.tree.Expr.{Expr}
use Rattle.hept_ast.specs.declared.tree.Ty.{Ty}
use Rattle.hept_ast.specs.declared.tree.Ty.TheVariants as ty
use Rattle.hept_ast.specs.declared.tree.Plain.TheVariants.{Bool as Truth_value}
use Rattle.hept_ast.specs.declared.tree.TypeDec.{TypeDec}
use Rattle.hept_ast.specs.declared.tree.Equation.{Equation}
use Rattle.hept_ast.specs.declared.tree.Equation.TheVariants as equation
use Rattle.hept_ast.proofs.JudgeOf.{judge_of}
use Rattle.hept_ast.proofs.PartsOf.{parts-Define, sets-Define}
use Rattle.core_rules.specs.Cores.{as_equation, as_interface, as_node, core_clock, core_decls, core_judging, lefts_of}
use Rattle.core_rules.specs.WellFormed.{IsTypedEquation, IsClockedEquation, IsWellFormedNode}
use Rattle.sound_expressions.specs.Demands.{NamesDiffer}
use Rattle.sound_expressions.specs.Sound.{Within}
use Rattle.sound_expressions.proofs.Expressions.{found}
use Rattle.sound_expressions.proofs.Lists.{nil_left, nil_right, none_of, no_fault, same_is, same_self, same_types_is}
use Rattle.accepted_meaning.specs.Ranges.{IsInRange, HasLeft}
use Rattle.accepted_meaning.specs.SoundNodes.{SoundNode, SoundProgram, within}
use Rattle.accepted_meaning.proofs.StaticNodes.{accepted_is_sound, at_place}
use Rattle.accepted_meaning.proofs.TextLists.{contains_here, contains_there, contains_cases, contains_flat, contains_is_in, contains_none, declared_name, declared_is_in, is_in_append, is_in_contains, not_both}
use Rattle.erased_rules.proofs.ByForms.{Each}
use Rattle.erased_rules.proofs.Judgings.{clean}
use Rattle.erased_rules.proofs.Lists.{flat_append}
use Rattle.erased_rules.proofs.NodesStanding.{Placed_stands, node_if}
use Rattle.erased_rules.proofs.Numbering.{if_stands}
use Rattle.erased_rules.proofs.Standing.{Given, Reading, Stands, under}
use Rattle.naming_rules.proofs.CallsAlike.{judging_in, no_async}
use Rattle.naming_rules.proofs.Names.{in_cases}
use Rattle.lowering_rules.specs.Lowering.{without_initial, clock_of_left, LowersNode, LowersNodes, LowersProgram, no_nodes, more_nodes}
use Rattle.lowering_rules.specs.Ties as ties
use Rattle.lowering_rules.specs.Ties.{core_equation, TiedEquations, TiedNode, TiedNodes}
use Rattle.lowering_rules.proofs.Accepted.{accepted_is_tied, is_defined, same_names, variables_are}
use Rattle.sound_lowering.specs.SoundLaws.{LoweringIsWellFormed}
use Rattle.sound_lowering.proofs.Called as called_
use Rattle.sound_lowering.proofs.Called.{SameNodes, calls_in, calls_same, free_calls, lead_differs, lead_nowhere, leads_same}
use Rattle.sound_lowering.proofs.Clean as clean_
use Rattle.sound_lowering.proofs.Clean.{CleanEquation, clean_equation}
use Rattle.sound_lowering.proofs.Defined.{all_differ, defined_once}
use Rattle.sound_lowering.proofs.Judged.{AlikeCallee, AlikeCallees, neither, both_found, judged_again}
use Rattle.sound_lowering.proofs.NoLast.{no_last}
use Rattle.sound_lowering.proofs.Standing.{stands_again}

-- ---- lists

equal_if : (b c : Bool) → (b ≡ true → c ≡ true) → (c ≡ true → b ≡ true) → b ≡ c
equal_if true true h i = refl
equal_if true false h i = sym (h refl)
equal_if false true h i = i refl
equal_if false false h i = refl

each_at : {A : Type 0} (P : A → Type 0) (xs : List A) (x : A) → Each P xs → Contains xs x → P x
each_at P [] x h i = contains_none x i
each_at {A} P (y ∷ ys) x h i = ⊎_elim (λ (e : y ≡ x). subst P e h.0) (λ j. each_at P ys x h.1 j) (contains_cases y x ys i)

-- ---- declarations without their initial constants

type_same : (ds : List Decl) (x : Name) → option_map (λ (d : Decl). d.ty) (declaration (map without_initial ds) x) ≡ option_map (λ (d : Decl). d.ty) (declaration ds x)
type_same [] x = refl
type_same (d ∷ ds) x = go (same x d.name) (type_same ds x)
  where
    go : (b : Bool) → option_map (λ (d : Decl). d.ty) (declaration (map without_initial ds) x) ≡ option_map (λ (d : Decl). d.ty) (declaration ds x) →
        option_map (λ (d : Decl). d.ty) (if b then Some (without_initial d) else declaration (map without_initial ds) x) ≡ option_map (λ (d : Decl). d.ty) (if b then Some d else declaration ds x)
    go true e = refl
    go false e = e

pub types_same : (ds : List Decl) → types_of (map without_initial ds) ≡ types_of ds
types_same [] = refl
types_same (d ∷ ds) = ap (λ (ts : List Ty). d.ty ∷ ts) (types_same ds)

-- where names differ, each declaration is the one of its name
name_there : (ds : List Decl) (d : Decl) → Contains ds d → Contains (names ds) d.name
name_there [] d k = contains_none d k
name_there (c ∷ cs) d k =
    ⊎_elim (λ (p : c ≡ d). subst (λ (x : Decl). Contains (names (c ∷ cs)) x.name) p (contains_here c.name (names cs))) (λ l. contains_there c.name d.name (names cs) (name_there cs d l)) (contains_cases c d cs k)

declared_here : (ds : List Decl) (d : Decl) → NamesDiffer (names ds) → Contains ds d → declaration ds d.name ≡ Some d
declared_here [] d h i = contains_none d i
declared_here (c ∷ cs) d h i = ⊎_elim first (λ j. later j (declared_here cs d h.1 j)) (contains_cases c d cs i)
  where
    first : c ≡ d → declaration (c ∷ cs) d.name ≡ Some d
    first e = subst (λ (x : Decl). (if same x.name c.name then Some c else declaration cs x.name) ≡ Some x) e (ap (λ (b : Bool). if b then Some c else declaration cs c.name) (same_self c.name))

    later : Contains cs d → declaration cs d.name ≡ Some d → declaration (c ∷ cs) d.name ≡ Some d
    later j rest = go (same d.name c.name) refl
      where
        go : (b : Bool) → same d.name c.name ≡ b → (if b then Some c else declaration cs d.name) ≡ Some d
        go true e = not_both (is_in c.name (names cs)) (subst (λ (x : Name). is_in x (names cs) ≡ true) (same_is d.name c.name e) (is_in_contains d.name (names cs) (name_there cs d j))) h.0
        go false e = rest

-- the same declarations in another order
module _ (ds es : List Decl) (differ : NamesDiffer (names ds)) (there : (d : Decl) → Contains es d → Contains ds d) (back : (d : Decl) → Contains ds d → Contains es d) where
  declared_same : (x : Name) → declaration ds x ≡ declaration es x
  declared_same x = go (declaration es x) refl
    where
      none : (o : Option Decl) → declaration ds x ≡ o → declaration es x ≡ None → o ≡ None
      none None e f = refl
      none (Some d) e f =
          let r = declared_name ds x d e in
          let i = is_in_contains x (names es) (subst (λ (y : Name). Contains (names es) y) (sym r.1) (name_there es d (back d r.0))) in
          let s = declared_is_in es x i in
          absurd (no_some s.0 (sym f ∙ s.1))
        where
          no_some : (c : Decl) → None ≡ Some c → ⊥
          no_some c e = cc

      go : (o : Option Decl) → declaration es x ≡ o → declaration ds x ≡ declaration es x
      go None f = none (declaration ds x) refl f ∙ sym f
      go (Some d) f = let r = declared_name es x d f in ap (declaration ds) r.1 ∙ declared_here ds d differ (there d r.0) ∙ sym f

-- ---- calls of equations

abbrev part_expressions : Placed → List Expr
part_expressions q = flat_map inside (expressions_of q.part)

abbrev text_calls : List Equation → List Name
text_calls es = flat_map (λ (e : Expr). called e.form) (flat_map part_expressions (flat_map (parts_of []) es))

first_calls : (p : Place) (left : List Name) (right : Expr) (es : List Equation) → text_calls (equation.Define p left right ∷ es) ≡ calls_in right ++ text_calls es
first_calls p left right es =
    let rest = flat_map part_expressions (flat_map (parts_of []) es) in
    ap (λ (qs : List Placed). flat_map (λ (e : Expr). called e.form) (flat_map part_expressions (qs ++ flat_map (parts_of []) es))) (parts-Define [] p left right)
    ∙ ap (λ (l : List Expr). flat_map (λ (e : Expr). called e.form) (l ++ rest)) (append-nil (inside right))
    ∙ flat_append (λ (e : Expr). called e.form) (inside right) rest

two : {a b c d : List Name} → b ≡ a → d ≡ c → b ++ d ≡ a ++ c
two p q = cc

calls_tied : (clock : Name → Clock) (n m : ℕ) (es : List Equation) (cs : List CoreEquation) → TiedEquations clock n es cs m → text_calls (map as_equation cs) ≡ text_calls es
calls_tied clock n m _ _ ties.no_equations = refl
calls_tied clock n m _ _ (ties.more_equations {p = p} {left = left} {right = right} {r = r} {es = es} {cs = cs} l on ls) =
    first_calls p left r (map as_equation cs) ∙ two (calls_same l) (calls_tied clock _ m es cs ls) ∙ sym (first_calls p left right es)

lefts_tied : (clock : Name → Clock) (n m : ℕ) (es : List Equation) (cs : List CoreEquation) → TiedEquations clock n es cs m → flat_map (λ (e : CoreEquation). e.left) cs ≡ flat_map sets_of es
lefts_tied clock n m _ _ ties.no_equations = refl
lefts_tied clock n m _ _ (ties.more_equations {p = p} {left = left} {right = right} {es = es} {cs = cs} l on ls) =
    ap (λ (xs : List Name). left ++ xs) (lefts_tied clock _ m es cs ls) ∙ ap (λ (xs : List Name). xs ++ flat_map sets_of es) (sym (sets-Define p left right))

-- ---- numbers of clocks

given_from : (e : ℕ → Clock) (n : ℕ) (ks : List Clock) → ((i : ℕ) → e (n + i) ≡ get_or ks i []) → Given e n ks
given_from e n [] h = tt
given_from e n (k ∷ ks) h = (
  (let z : n ≡ n + 0 = omega arith in ap e z ∙ h 0),
  given_from e (n + 1) ks (λ i. let z : n + 1 + i ≡ n + suc i = omega arith in ap e z ∙ h (suc i)),
)

-- ---- one node

module _ (c : ClockedProgram) (core : Core) (range : IsInRange c.program) (accepted : IsAcceptedProgram c) (h : LowersProgram c core) where
  abbrev sound : SoundProgram c
  sound = accepted_is_sound c range accepted

  -- nodes found by their names
  nodes_same : (j : ℕ) (nodes : List Node) (lows : List CoreNode) → LowersNodes (clock_in c.clocks) j nodes lows → TiedNodes (clock_in c.clocks) j nodes lows → SameNodes nodes (map as_node lows)
  nodes_same j _ _ no_nodes t = called_.no_nodes
  nodes_same j _ _ (more_nodes {node = node} {low = low} {nodes = nodes} {lows = lows} a rest) (ties.more_nodes t ts) =
      called_.more_nodes t.name (calls_tied (clock_in c.clocks j) 0 t.calls node.block.body low.equations t.equations) (nodes_same (suc j) nodes lows rest ts)

  no_calls : (lows : List CoreNode) (f : Name) → calls_of (node_named (map as_interface lows) f) ≡ []
  no_calls [] f = refl
  no_calls (low ∷ lows) f = go (same f low.name) (no_calls lows f)
    where
      go : (b : Bool) → calls_of (node_named (map as_interface lows) f) ≡ [] → calls_of (if b then Some (as_interface low) else node_named (map as_interface lows) f) ≡ []
      go true e = refl
      go false e = e

  abbrev ns : List Node
  ns = c.program.nodes

  abbrev ms : List Node
  ms = map as_interface core.nodes

  tied : TiedNodes (clock_in c.clocks) 0 c.program.nodes core.nodes
  tied = accepted_is_tied c core range accepted h

  module _ (n : ℕ) (node : Node) (at : slice_get c.program.nodes n ≡ Some node) (low : CoreNode) (lowers : LowersNode (clock_in c.clocks n) node low) (t : TiedNode (clock_in c.clocks n) node low) where
    abbrev k : Within
    k = within c n node (sound.sound_nodes n node at).0

    s : SoundNode k
    s = (sound.sound_nodes n node at).1

    among : Contains c.program.nodes node
    among = at_place c.program.nodes n node at

    abbrev body : List Equation
    body = node.block.body

    abbrev decls : List Decl
    decls = node.inputs ++ node.outputs ++ node.block.locals

    abbrev own : List Decl
    own = node.outputs ++ node.block.locals

    abbrev seen : List Decl
    seen = seen_at node []

    abbrev w : Judging
    w = judging_in c.program.types ns node seen

    abbrev v : Judging
    v = judging_in c.program.types ms (as_interface low) (core_decls low)

    clean_one : (p : Place) (left : List Name) (right : Expr) → Contains body (equation.Define p left right) → CleanEquation w p.0 left right
    clean_one p left right i = clean_equation c.program accepted.typed range.constructors node among p left right i

    -- ---- declarations

    decls_are : core_decls low ≡ map without_initial decls
    decls_are =
        ap (λ (ds : List Decl). ds ++ low.outputs ++ low.locals) lowers.inputs ∙ ap (λ (ds : List Decl). map without_initial node.inputs ++ ds ++ low.locals) lowers.outputs
        ∙ ap (λ (ds : List Decl). map without_initial node.inputs ++ map without_initial node.outputs ++ ds) lowers.locals
        ∙ sym (map-append without_initial (node.inputs ++ node.outputs) node.block.locals
        ∙ ap (λ (ds : List Decl). ds ++ map without_initial node.block.locals) (map-append without_initial node.inputs node.outputs))

    decls_differ : NamesDiffer (names decls)
    decls_differ = subst (λ (ds : List Decl). NamesDiffer (names ds)) (variables_are c sound accepted.clocked n node at low lowers) s.once

    there : (d : Decl) → Contains seen d → Contains decls d
    there d i =
        ⊎_elim (λ j. ⊎_elim (λ l. Contains-append_right (node.inputs ++ node.outputs) node.block.locals d l)
        (λ o. Contains-append_left (node.inputs ++ node.outputs) node.block.locals d (Contains-append_right node.inputs node.outputs d o)) (Contains-append_cases node.block.locals node.outputs d j))
        (λ q. Contains-append_left (node.inputs ++ node.outputs) node.block.locals d (Contains-append_left node.inputs node.outputs d q)) (Contains-append_cases (node.block.locals ++ node.outputs) node.inputs d i)

    back : (d : Decl) → Contains decls d → Contains seen d
    back d i =
        ⊎_elim (λ j. ⊎_elim (λ q. Contains-append_right (node.block.locals ++ node.outputs) node.inputs d q)
        (λ o. Contains-append_left (node.block.locals ++ node.outputs) node.inputs d (Contains-append_right node.block.locals node.outputs d o)) (Contains-append_cases node.inputs node.outputs d j))
        (λ l. Contains-append_left (node.block.locals ++ node.outputs) node.inputs d (Contains-append_left node.block.locals node.outputs d l)) (Contains-append_cases (node.inputs ++ node.outputs) node.block.locals d i)

    seen_same : (x : Name) → option_map (λ (d : Decl). d.ty) (declaration (core_decls low) x) ≡ option_map (λ (d : Decl). d.ty) (declaration seen x)
    seen_same x =
        ap (λ (ds : List Decl). option_map (λ (d : Decl). d.ty) (declaration ds x)) decls_are ∙ type_same decls x
        ∙ ap (option_map (λ (d : Decl). d.ty)) (declared_same decls seen decls_differ there back x)

    -- ---- nodes that are called

    callees_in : (j : ℕ) (nodes : List Node) (lows : List CoreNode) → LowersNodes (clock_in c.clocks) j nodes lows → (f : Name) →
        AlikeCallees ns ms node (as_interface low) (node_named nodes f) (node_named (map as_interface lows) f)
    callees_in j _ _ no_nodes f = neither
    callees_in j _ _ (more_nodes {node = g} {low = i} {nodes = nodes} {lows = lows} a rest) f =
        subst (λ (x : Name). AlikeCallees ns ms node (as_interface low) (if same f g.name then Some g else node_named nodes f) (if same f x then Some (as_interface i) else node_named (map as_interface lows) f)) (sym a.name)
        (go (same f g.name) (callees_in (suc j) nodes lows rest f))
      where
        callee : AlikeCallee ns ms node (as_interface low) g (as_interface i)
        callee = record {
          fit = λ ts. ap (λ (ds : List Decl). call_fit (record { place = record { 0 = 0 }; name = i.name; inputs = ds; outputs = i.outputs; block = record { locals = i.locals; body = [] } }) ts) a.inputs
              ∙ ap (λ (ds : List Decl). call_fit (record { place = record { 0 = 0 }; name = i.name; inputs = map without_initial g.inputs; outputs = ds; block = record { locals = i.locals; body = [] } }) ts) a.outputs
              ∙ rw (types_same g.inputs) (rw (types_same g.outputs) refl);
          lead = λ e. lead_nowhere ms i.name low.name (no_calls core.nodes i.name)
              (ap (λ (x : Name). same x low.name) a.name ∙ ap (λ (x : Name). same g.name x) lowers.name ∙ lead_differs ns g.name node.name e);
        }

        go : (b : Bool) → AlikeCallees ns ms node (as_interface low) (node_named nodes f) (node_named (map as_interface lows) f) →
            AlikeCallees ns ms node (as_interface low) (if b then Some g else node_named nodes f) (if b then Some (as_interface i) else node_named (map as_interface lows) f)
        go true r = both_found callee
        go false r = r

    -- ---- types

    judging_is : core_judging core low ≡ v
    judging_is = ap (λ (types : List TypeDec). record { types = types; nodes = ms; node = as_interface low; seen = core_decls low; strong = false }) h.types

    left_again : (xs : List Name) → left_types v xs ≡ left_types w xs
    left_again [] = refl
    left_again (x ∷ xs) = ap (λ (o : Option Ty). pair_types o (left_types v xs)) (seen_same x) ∙ ap (pair_types (type_of_variable w x)) (left_again xs)

    lefts_have : (p : ℕ) (xs : List Name) → flat_map (left_faults w p) xs ≡ [] → (ts : List Ty) × (left_types w xs ≡ Some ts)
    lefts_have p [] e = ([], refl)
    lefts_have p (x ∷ xs) e =
        let (d, is) = found (declaration seen x) (no_fault p UnknownName _ (nil_left (unknown_variable w p x) (fault p Duplicate (is_in x (names node.inputs))) (nil_left (left_faults w p x) (flat_map (left_faults w p) xs) e))) in
        let (ts, rest) = lefts_have p xs (nil_right (left_faults w p x) (flat_map (left_faults w p) xs) e) in
        (d.ty ∷ ts, ap (λ (o : Option Decl). pair_types (option_map (λ (d : Decl). d.ty) o) (left_types w xs)) is ∙ ap (pair_types (Some d.ty)) rest)

    left_is : (p : ℕ) (left : List Name) (right : Expr) (q : CleanEquation w p left right) → left_types v left ≡ Some q.types
    left_is p left right q =
        let (ts, is) = lefts_have p left q.lefts in
        left_again left ∙ is ∙ ap Some (same_types_is ts q.types (ap (λ (o : Option (List Ty)). fits_left w o q.types) (sym is) ∙ q.fits))

    equations_typed : (i m : ℕ) (es : List Equation) (cs : List CoreEquation) → TiedEquations k.clock i es cs m → ((e : Equation) → Contains es e → Contains body e) → All (IsTypedEquation core low) cs
    equations_typed i m _ _ ties.no_equations b = All-nil (IsTypedEquation core low)
    equations_typed i m _ _ (ties.more_equations {p = p} {left = left} {right = right} {r = r} {es = es} {cs = cs} l on ls) b =
        let e = equation.Define p left right in
        let q = clean_one p left right (b e (contains_here e es)) in
        let again = judged_again c.program.types ns ms node (as_interface low) seen (core_decls low) seen_same (no_async core.nodes) (callees_in 0 ns core.nodes h.nodes) l false (ap (λ (j : Judged (List Ty)). j.faults) q.judged) in
        let is : judge_of v false r ≡ clean q.types = again ∙ ap (λ (j : Judged (List Ty)). record { types = j.types; faults = [] }) q.judged in
        All-cons (IsTypedEquation core low) (core_equation p left (clock_of_left k.clock left) r) cs
        (record {
          faults = subst (λ (j : Judging). (judge_expr j r).faults ≡ []) (sym judging_is) (ap (λ (j : Judged (List Ty)). j.faults) is);
          types = q.types;
          right = subst (λ (j : Judging). (judge_expr j r).types ≡ Some q.types) (sym judging_is) (ap (λ (j : Judged (List Ty)). j.types) is);
          left = subst (λ (j : Judging). left_types j left ≡ Some q.types) (sym judging_is) (left_is p.0 left right q);
          last = no_last l;
          resets = All-nil (λ x. type_of_variable (core_judging core low) x ≡ Some (ty.Plain Truth_value));
        })
        (equations_typed _ m es cs ls (λ f j. b f (contains_there e f es j)))

    -- ---- clocks

    abbrev outer : List Name
    outer = own_names node []

    abbrev inner : List Name
    inner = names (core_decls low)

    or_turned : (a b d : Bool) → ((a || b) || d) ≡ ((d || b) || a)
    or_turned true true true = refl
    or_turned true true false = refl
    or_turned true false true = refl
    or_turned true false false = refl
    or_turned false true true = refl
    or_turned false true false = refl
    or_turned false false true = refl
    or_turned false false false = refl

    names_are : inner ≡ names node.inputs ++ names node.outputs ++ names node.block.locals
    names_are =
        ap names decls_are ∙ same_names decls ∙ map-append (λ (d : Decl). d.name) (node.inputs ++ node.outputs) node.block.locals
        ∙ ap (λ (xs : List Name). xs ++ names node.block.locals) (map-append (λ (d : Decl). d.name) node.inputs node.outputs)

    in_three : (x : Name) (xs ys zs : List Name) → is_in x (xs ++ ys ++ zs) ≡ ((is_in x xs || is_in x ys) || is_in x zs)
    in_three x xs ys zs = is_in_append x (xs ++ ys) zs ∙ ap (λ (b : Bool). b || is_in x zs) (is_in_append x xs ys)

    pub own_same : (x : Name) → is_in x inner ≡ is_in x outer
    own_same x =
        ap (is_in x) names_are ∙ in_three x (names node.inputs) (names node.outputs) (names node.block.locals)
        ∙ or_turned (is_in x (names node.inputs)) (is_in x (names node.outputs)) (is_in x (names node.block.locals))
        ∙ sym (in_three x (names node.block.locals) (names node.outputs) (names node.inputs))

    standing : Each (Placed_stands node k.clock) (parts node)
    standing = (node_if node k.clock (accepted.clocked.least n node at).meets).1

    reading_clock : (b : Bool) (x z : Clock) → Reading b x z → z ≡ x
    reading_clock true x z r = sym r
    reading_clock false x z r = r.1 ∙ sym r.0

    has_left : (q : Placed) → Contains (parts node) q → HasLeft q.part
    has_left q i = All-contains (λ (q : Placed). HasLeft q.part) (parts node) q (All-contains (λ (m : Node). All (λ (q : Placed). HasLeft q.part) (parts m)) c.program.nodes node range.lefts among) i

    left_clock : (p : ℕ) (left : List Name) (right : Expr) (z : Clock) → HasLeft (Plain p left right) → Each (λ x. Reading (is_in x outer) (k.clock x) z) left → z ≡ clock_of_left k.clock left
    left_clock p [] right z none e = absurd none
    left_clock p (x ∷ xs) right z some e = reading_clock (is_in x outer) (k.clock x) z e.0

    equations_clocked : (i m : ℕ) (es : List Equation) (cs : List CoreEquation) → TiedEquations k.clock i es cs m → ((e : Equation) → Contains es e → Contains body e) → All (IsClockedEquation low) cs
    equations_clocked i m _ _ ties.no_equations b = All-nil (IsClockedEquation low)
    equations_clocked i m _ _ (ties.more_equations {p = p} {left = left} {right = right} {r = r} {es = es} {cs = cs} l on ls) b =
        let e = equation.Define p left right in
        let placed : Placed = record { site = []; part = Plain p.0 left right } in
        let in_parts : Contains (parts node) placed =
        contains_there _ placed (flat_map (parts_of []) body)
        (contains_flat (parts_of []) body e placed (b e (contains_here e es)) (subst (λ (qs : List Placed). Contains qs placed) (sym (parts-Define [] p left right)) (contains_here placed []))) in
        let (z, lefts, stands) = each_at (Placed_stands node k.clock) (parts node) placed standing in_parts in
        let now : Stands inner (core_clock low) z r.form = stands_again outer inner k.clock (core_clock low) own_same t.clocks l z stands in
        let ks = z ∷ under inner (core_clock low) z r.form in
        let numbers : ℕ → Clock = λ j. get_or ks j [] in
        let given = given_from numbers 0 ks (λ j. let q : 0 + j ≡ j = omega arith in ap numbers q) in
        let met = if_stands inner (core_clock low) numbers 0 r.place.0 z r.form given.0 given.1 now in
        All-cons (IsClockedEquation low) (core_equation p left (clock_of_left k.clock left) r) cs
        (record { numbers = numbers; right = met.0 ∙ left_clock p.0 left right z (has_left placed in_parts) lefts; meets = met.1 })
        (equations_clocked _ m es cs ls (λ f j. b f (contains_there e f es j)))

    -- ---- left sides

    differ_each : (i m : ℕ) (es : List Equation) (cs : List CoreEquation) → TiedEquations k.clock i es cs m → ((e : Equation) → Contains es e → Contains body e) → (e : Equation) → Contains es e → NamesDiffer (sets_of e)
    differ_each i m _ _ ties.no_equations b e j = contains_none e j
    differ_each i m _ _ (ties.more_equations {p = p} {left = left} {right = right} {es = es} {cs = cs} l on ls) b e j =
        let d = equation.Define p left right in
        ⊎_elim (λ (q : d ≡ e). subst (λ (f : Equation). NamesDiffer (sets_of f)) q (subst NamesDiffer (sym (sets-Define p left right)) (clean_one p left right (b d (contains_here d es))).differ))
        (λ o. differ_each _ m es cs ls (λ f g. b f (contains_there d f es g)) e o) (contains_cases d e es j)

    lefts_are : lefts_of low ≡ flat_map sets_of body
    lefts_are = lefts_tied k.clock 0 t.calls body low.equations t.equations

    one_left : AllDiffer (lefts_of low)
    one_left =
        subst AllDiffer (sym lefts_are)
        (all_differ (flat_map sets_of body) (defined_once [] body (clean_.once c.program accepted.typed range.constructors node among) (differ_each 0 t.calls body low.equations t.equations (λ e j. j))).0)

    own_names_are : names (low.outputs ++ low.locals) ≡ names own
    own_names_are =
        ap (λ (ds : List Decl). names (ds ++ low.locals)) lowers.outputs ∙ ap (λ (ds : List Decl). names (map without_initial node.outputs ++ ds)) lowers.locals
        ∙ ap names (sym (map-append without_initial node.outputs node.block.locals)) ∙ same_names own

    -- a name on a left side is an output or a local
    left_own : (x : Name) → is_in x (names node.inputs) ≡ false → (d : Decl) → Contains seen d → x ≡ d.name → is_in x (names own) ≡ true
    left_own x out d i is =
        let named = λ (ds : List Decl) (j : Contains ds d). subst (λ (y : Name). is_in y (names ds) ≡ true) (sym is) (is_in_contains d.name (names ds) (name_there ds d j)) in
        ⊎_elim
        (λ j. ⊎_elim (λ l. named own (Contains-append_right node.outputs node.block.locals d l)) (λ o. named own (Contains-append_left node.outputs node.block.locals d o)) (Contains-append_cases node.block.locals node.outputs d j))
        (λ q. not_both (is_in x (names node.inputs)) (named node.inputs q) out) (Contains-append_cases (node.block.locals ++ node.outputs) node.inputs d i)

    sets_own : (i m : ℕ) (es : List Equation) (cs : List CoreEquation) → TiedEquations k.clock i es cs m → ((e : Equation) → Contains es e → Contains body e) → (x : Name) → is_in x (flat_map sets_of es) ≡ true → is_in x (names own) ≡ true
    sets_own i m _ _ ties.no_equations b x e = cc
    sets_own i m _ _ (ties.more_equations {p = p} {left = left} {right = right} {es = es} {cs = cs} l on ls) b x e =
        let d = equation.Define p left right in
        ⊎_elim
        (λ j. let q = clean_one p left right (b d (contains_here d es)) in
        let none = none_of (left_faults w p.0) left q.lefts x (contains_is_in x left (ap (is_in x) (sym (sets-Define p left right)) ∙ j)) in
        let unknown = unknown_variable w p.0 x in
        let double = fault p.0 Duplicate (is_in x (names node.inputs)) in
        let (y, is) = found (declaration seen x) (no_fault p.0 UnknownName _ (nil_left unknown double none)) in
        let r = declared_name seen x y is in
        left_own x (no_fault p.0 Duplicate (is_in x (names node.inputs)) (nil_right unknown double none)) y r.0 r.1)
        (λ j. sets_own _ m es cs ls (λ f g. b f (contains_there d f es g)) x j) (in_cases x (sets_of d) (flat_map sets_of es) e)

    defined : (x : Name) → is_in x (lefts_of low) ≡ is_in x (names (low.outputs ++ low.locals))
    defined x =
        ap (is_in x) lefts_are
        ∙ equal_if (is_in x (flat_map sets_of body)) (is_in x (names own)) (sets_own 0 t.calls body low.equations t.equations (λ e j. j) x)
        (λ e. let (d, is) = declared_is_in own x e in
        let r = declared_name own x d is in
        subst (λ (y : Name). is_in y (flat_map sets_of body) ≡ true) (sym r.1) (is_defined c sound accepted.clocked n node at low lowers d r.0))
        ∙ sym (ap (is_in x) own_names_are)

    -- ---- calls

    free_all : (i m : ℕ) (es : List Equation) (cs : List CoreEquation) → TiedEquations k.clock i es cs m → ((e : Equation) → Contains es e → Contains body e) → (f : Name) → is_in f (text_calls es) ≡ true → calls_lead ns f node.name ≡ false
    free_all i m _ _ ties.no_equations b f e = cc
    free_all i m _ _ (ties.more_equations {p = p} {left = left} {right = right} {es = es} {cs = cs} l on ls) b f e =
        let d = equation.Define p left right in
        ⊎_elim (λ j. free_calls c.program.types ns node seen l false (ap (λ (q : Judged (List Ty)). q.faults) (clean_one p left right (b d (contains_here d es))).judged) f j)
        (λ j. free_all _ m es cs ls (λ g o. b g (contains_there d g es o)) f j)
        (in_cases f (calls_in right) (text_calls es) (ap (is_in f) (sym (first_calls p left right es)) ∙ e))

    calls : (f : Name) → is_in f (calls_of (Some (as_node low))) ≡ true → calls_lead (map as_node core.nodes) f low.name ≡ false
    calls f e =
        leads_same ns (map as_node core.nodes) (nodes_same 0 ns core.nodes h.nodes tied) f low.name ∙ ap (calls_lead ns f) lowers.name
        ∙ free_all 0 t.calls body low.equations t.equations (λ e j. j) f (ap (is_in f) (sym (calls_tied k.clock 0 t.calls body low.equations t.equations)) ∙ e)

    -- ---- the node

    outputs_based : (ds : List Decl) → ((d : Decl) → Contains ds d → Contains node.outputs d) → All (λ d. core_clock low d.name ≡ []) (map without_initial ds)
    outputs_based [] b = All-nil (λ d. core_clock low d.name ≡ [])
    outputs_based (d ∷ ds) b =
        All-cons (λ d. core_clock low d.name ≡ []) (without_initial d) (map without_initial ds) (t.clocks d.name ∙ (s.outputs d (b d (contains_here d ds))).0)
        (outputs_based ds (λ e j. b e (contains_there d e ds j)))

    well_formed_node : IsWellFormedNode core low
    well_formed_node = record {
      once = subst (λ (xs : List Name). AllDiffer xs) (sym (ap names decls_are ∙ same_names decls)) (all_differ (names decls) decls_differ);
      one_left = one_left;
      defined = defined;
      calls = calls;
      typed = equations_typed 0 t.calls body low.equations t.equations (λ e j. j);
      clocked = equations_clocked 0 t.calls body low.equations t.equations (λ e j. j);
      outputs = subst (λ (ds : List Decl). All (λ d. core_clock low d.name ≡ []) ds) (sym lowers.outputs) (outputs_based node.outputs (λ d j. j));
    }

  -- ---- all nodes

  well_formed_nodes : (j : ℕ) (nodes : List Node) (lows : List CoreNode) → ((i : ℕ) (node : Node) → slice_get nodes i ≡ Some node → slice_get c.program.nodes (j + i) ≡ Some node) →
      LowersNodes (clock_in c.clocks) j nodes lows → TiedNodes (clock_in c.clocks) j nodes lows → All (IsWellFormedNode core) lows
  well_formed_nodes j _ _ at no_nodes t = All-nil (IsWellFormedNode core)
  well_formed_nodes j _ _ at (more_nodes {node = node} {low = low} {nodes = nodes} {lows = lows} a rest) (ties.more_nodes t ts) =
      let e : j + 0 ≡ j = omega arith in
      All-cons (IsWellFormedNode core) low lows (well_formed_node j node (subst (λ (i : ℕ). slice_get c.program.nodes i ≡ Some node) e (at 0 node refl)) low a t)
      (well_formed_nodes (suc j) nodes lows (λ i node p. let f : j + suc i ≡ suc j + i = omega arith in subst (λ (i : ℕ). slice_get c.program.nodes i ≡ Some node) f (at (suc i) node p)) rest ts)

pub lowering_is_well_formed : LoweringIsWellFormed
lowering_is_well_formed c core range accepted h =
    well_formed_nodes c core range accepted h 0 c.program.nodes core.nodes (λ i node p. let e : i ≡ 0 + i = omega arith in subst (λ (j : ℕ). slice_get c.program.nodes j ≡ Some node) e p) h.nodes (accepted_is_tied c core range accepted h)
