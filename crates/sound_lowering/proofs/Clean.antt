-- What is judged of the equations of an accepted program's node.
use Rattle.std.proofs.Common.{◌≡◌, ◌⊎◌, ⊎_elim, ℕ, Bool, true, false, not, ◌&&◌, List, [], ◌∷◌, ◌++◌, map, All, Contains, refl, sym, ap, subst, ◌∙◌, Option, Some, None}
use Rattle.std.specs.List.{flat_map, list_all}
use Rattle.std.specs.Option.{option_map, option_map_or}
use Rattle.std.proofs.lemmas.Bool.{false≢true}
use Rattle.std.proofs.lemmas.List.Elements.{All-nil, All-cons, Contains-append_left, Contains-append_right, Contains-append_cases}
use Rattle.hept_ast.specs.Texts.{Name, same, is_in, names}
use Rattle.hept_ast.specs.Parts.{Block, Case, Plain, Placed, declaration, equation_case, expressions, parts, parts_of, seen_at}
use Rattle.hept_ast.specs.Types.{is_plain, type_is_known, types_of}
use Rattle.hept_ast.specs.Faults.{Fault, FutureKept, Judged, Judging, Mismatch, NotDefined, UnknownName, async_nodes, called_async, decl_faults, demanded, fault, faults, fits_left, init_faults, judge_expr, judging, left_faults, left_types, node_faults, part_faults, second_definitions, seconds}
use Rattle.hept_ast.specs.declared.name.Place.{Place}
use Rattle.hept_ast.specs.declared.tree.Program.{Program}
use Rattle.hept_ast.specs.declared.tree.Node.{Node}
use Rattle.hept_ast.specs.declared.tree.Decl.{Decl}
use Rattle.hept_ast.specs.declared.tree.Expr.{Expr}
use Rattle.hept_ast.specs.declared.tree.Ty.{Ty}
use Rattle.hept_ast.specs.declared.tree.Equation.TheVariants as equation
use Rattle.hept_ast.specs.TypedValues.{HaveConstructors}
use Rattle.hept_ast.proofs.JudgeOf.{judge_of}
use Rattle.hept_ast.proofs.PartsOf.{parts-Define}
use Rattle.sound_expressions.specs.Demands.{NamesDiffer}
use Rattle.sound_expressions.proofs.Lists.{nil_left, nil_right, none_of, no_fault, names_differ}
use Rattle.accepted_meaning.proofs.StaticNodes.{named_node}
use Rattle.accepted_meaning.proofs.StaticScopes.{some_tag}
use Rattle.accepted_meaning.proofs.TextLists.{contains_flat, contains_here, contains_there, declared_name, is_in_contains}
use Rattle.erased_rules.proofs.ByForms.{Each}
use Rattle.erased_rules.proofs.ErasedNodes.{all_of, of_placed}
use Rattle.erased_rules.proofs.Judgings.{clean}
use Rattle.erased_rules.proofs.Totals.{total}
use Rattle.erased_rules.proofs.TypedExpressions.{Plain_outputs, Tags_there, async_at, typed_kept}
use Rattle.naming_rules.proofs.CallsAlike.{judging_in}

not_true : (b : Bool) → not b ≡ false → b ≡ true
not_true true h = refl
not_true false h = absurd (false≢true (sym h))

each_of : {A : Type 0} (P : A → Type 0) (xs : List A) → ((x : A) → Contains xs x → P x) → Each P xs
each_of P [] h = tt
each_of P (x ∷ xs) h = (h x (contains_here x xs), each_of P xs (λ y i. h y (contains_there x y xs i)))

-- a node that an expression of a node calls by async is among those that the program calls so
pub async_named : (program : Program) (node : Node) → Contains program.nodes node → (e : Expr) → Contains (expressions node) e → (f : Name) → Contains (called_async e.form) f → is_in f (async_nodes program.nodes) ≡ true
async_named program node i e j f l =
    is_in_contains f (async_nodes program.nodes)
    (contains_flat (λ (n : Node). flat_map (λ (e : Expr). called_async e.form) (expressions n)) program.nodes node f i (contains_flat (λ (e : Expr). called_async e.form) (expressions node) e f j l))

-- the types of an equation without faults: those of its left side, which names no variable twice
pub record CleanEquation (w : Judging) (p : ℕ) (left : List Name) (right : Expr) : Type 0 where
  pub lefts : flat_map (left_faults w p) left ≡ []
  pub differ : NamesDiffer left
  pub types : List Ty
  pub judged : judge_of w false right ≡ clean types
  pub fits : fits_left w (left_types w left) types ≡ true

module _ (program : Program) (typed : faults program ≡ []) (constructors : HaveConstructors program.types) where
  each_node : (node : Node) → Contains program.nodes node → node_faults program node ≡ []
  each_node node i = none_of (node_faults program) program.nodes (nil_right _ (flat_map (node_faults program) program.nodes) typed) node i

  -- a node that async calls name gives no future
  abbrev kept_output : Name → Decl → List Fault
  kept_output f d = fault d.place.0 FutureKept (not (is_plain d.ty) && is_in f (async_nodes program.nodes))

  abbrev placed_faults : Node → Placed → List Fault
  placed_faults node q = part_faults (judging program node q) q.part

  outputs_of : (node : Node) → node_faults program node ≡ [] → flat_map (kept_output node.name) node.outputs ≡ []
  outputs_of node e = nil_right _ (flat_map (kept_output node.name) node.outputs) (nil_left _ (flat_map (placed_faults node) (parts node)) e)

  all_plain : (f : Name) (ds : List Decl) → is_in f (async_nodes program.nodes) ≡ true → flat_map (kept_output f) ds ≡ [] → list_all is_plain (types_of ds) ≡ true
  all_plain f [] i e = refl
  all_plain f (d ∷ ds) i e =
      ap (λ (b : Bool). b && list_all is_plain (types_of ds)) (one (is_plain d.ty) (is_in f (async_nodes program.nodes)) i (no_fault d.place.0 FutureKept _ (nil_left (kept_output f d) (flat_map (kept_output f) ds) e)))
      ∙ all_plain f ds i (nil_right (kept_output f d) (flat_map (kept_output f) ds) e)
    where
      one : (b c : Bool) → c ≡ true → not b && c ≡ false → b ≡ true
      one true c k g = refl
      one false c k g = absurd (false≢true (sym g ∙ k))

  pub plain_outputs : (f : Name) → is_in f (async_nodes program.nodes) ≡ true → Plain_outputs program.nodes f
  plain_outputs f i g e =
      let (none, f_is) = named_node program.nodes f g (λ (m : Node). node_faults program m ≡ []) (none_all program.nodes each_node) e in
      all_plain g.name g.outputs (subst (λ (x : Name). is_in x (async_nodes program.nodes) ≡ true) f_is i) (outputs_of g none)
    where
      none_all : (ns : List Node) → ((m : Node) → Contains ns m → node_faults program m ≡ []) → All (λ m. node_faults program m ≡ []) ns
      none_all [] h = All-nil (λ m. node_faults program m ≡ [])
      none_all (m ∷ ms) h = All-cons (λ m. node_faults program m ≡ []) m ms (h m (contains_here m ms)) (none_all ms (λ n j. h n (contains_there m n ms j)))

  module _ (node : Node) (i : Contains program.nodes node) where
    abbrev pub w : Judging
    w = judging_in program.types program.nodes node (seen_at node [])

    part_clean : (q : Placed) → Contains (parts node) q → part_faults (judging program node q) q.part ≡ []
    part_clean q j = none_of (placed_faults node) (parts node) (nil_right _ (flat_map (placed_faults node) (parts node)) (each_node node i)) q j

    abbrev own : List Decl
    own = node.outputs ++ node.block.locals

    abbrev cases : List (Case (Unit {0}))
    cases = map equation_case node.block.body

    abbrev block : Placed
    block = record { site = []; part = Block own cases }

    block_clean : part_faults w (Block own cases) ≡ []
    block_clean = part_clean block (contains_here block (flat_map (parts_of []) node.block.body))

    pub once : second_definitions [] cases ≡ []
    once = nil_right _ (second_definitions [] cases) block_clean

    -- ---- types with tags

    abbrev own_judging : Judging
    own_judging = record { types = program.types; nodes = program.nodes; node = node; seen = []; strong = false }

    known_by : (v : Judging) (d : Decl) → v.types ≡ program.types → decl_faults v d ≡ [] → type_is_known program.types d.ty ≡ true
    known_by v d s e = not_true _ (no_fault d.place.0 UnknownName (not (type_is_known program.types d.ty))
        (ap (λ types. fault d.place.0 UnknownName (not (type_is_known types d.ty))) (sym s) ∙ nil_left (fault d.place.0 UnknownName (not (type_is_known v.types d.ty))) (init_faults v d d.init) e))

    input_known : (d : Decl) → Contains node.inputs d → type_is_known program.types d.ty ≡ true
    input_known d j =
        let inputs = flat_map (decl_faults own_judging) node.inputs in
        let e = nil_left _ (flat_map (kept_output node.name) node.outputs) (nil_left _ (flat_map (placed_faults node) (parts node)) (each_node node i)) in
        known_by own_judging d refl (none_of (decl_faults own_judging) node.inputs (nil_right _ inputs e) d j)

    own_known : (d : Decl) → Contains own d → type_is_known program.types d.ty ≡ true
    own_known d j =
        let undefined = flat_map (λ (d : Decl). fault d.place.0 NotDefined (not (is_in d.name (flat_map (λ c. c.sets) cases)))) own in
        known_by w d refl (none_of (decl_faults w) own (nil_left (flat_map (decl_faults w) own) undefined (nil_left _ (second_definitions [] cases) block_clean)) d j)

    seen_known : (d : Decl) → Contains (seen_at node []) d → type_is_known program.types d.ty ≡ true
    seen_known d j =
        ⊎_elim
        (λ k. ⊎_elim (λ l. own_known d (Contains-append_right node.outputs node.block.locals d l)) (λ l. own_known d (Contains-append_left node.outputs node.block.locals d l)) (Contains-append_cases node.block.locals node.outputs d k))
        (λ k. input_known d k) (Contains-append_cases (node.block.locals ++ node.outputs) node.inputs d j)

    tags_there : Tags_there w
    tags_there x t is tagged none = go (declaration (seen_at node []) x) refl is
      where
        go : (o : Option Decl) → declaration (seen_at node []) x ≡ o → option_map (λ (d : Decl). d.ty) o ≡ Some t → ⊥
        go None e s = cc
        go (Some d) e s =
            let r = declared_name (seen_at node []) x d e in
            let ty_is : d.ty ≡ t = cc in
            some_tag program.types t constructors (subst (λ (u : Ty). type_is_known program.types u ≡ true) ty_is (seen_known d r.0)) tagged none

    -- ---- one equation

    module _ (p : Place) (left : List Name) (right : Expr) (j : Contains node.block.body (equation.Define p left right)) where
      abbrev placed : Placed
      placed = record { site = []; part = Plain p.0 left right }

      in_parts : Contains (parts node) placed
      in_parts =
          contains_there block placed (flat_map (parts_of []) node.block.body)
          (contains_flat (parts_of []) node.block.body (equation.Define p left right) placed j (subst (λ (qs : List Placed). Contains qs placed) (sym (parts-Define [] p left right)) (contains_here placed [])))

      abbrev lefts : List Fault
      lefts = flat_map (left_faults w p.0) left

      abbrev twice : List Fault
      twice = seconds same [] (map (λ (x : Name). (p.0, x)) left)

      abbrev demand : List Fault
      demand = demanded w p.0 (fits_left w (left_types w left)) (judge_expr w right)

      plain_clean : part_faults w (Plain p.0 left right) ≡ []
      plain_clean = part_clean placed in_parts

      demand_clean : demand ≡ []
      demand_clean = nil_right (lefts ++ twice) demand plain_clean

      right_clean : (judge_of w false right).faults ≡ []
      right_clean = nil_right (fault p.0 Mismatch (not (option_map_or (fits_left w (left_types w left)) (judge_of w false right).types true))) (judge_of w false right).faults demand_clean

      -- the nodes that the right side calls by async are among those of the program
      async_among : (f : Name) → Contains (total async_at right) f → is_in f (async_nodes program.nodes) ≡ true
      async_among f k =
          is_in_contains f (async_nodes program.nodes)
          (contains_flat (λ (n : Node). flat_map (λ (e : Expr). called_async e.form) (expressions n)) program.nodes node f i
          (subst (λ (fs : List Name). Contains fs f) (sym (all_of async_at node)) (contains_flat (of_placed async_at) (parts node) placed f in_parts (Contains-append_left (total async_at right) [] f k))))

      right_typed : (ts : List Ty) × (judge_of w false right ≡ clean ts)
      right_typed = let r = typed_kept w tags_there right (each_of (Plain_outputs program.nodes) (total async_at right) (λ f k. plain_outputs f (async_among f k))) false right_clean in (r.0, r.1)

      second_of : (xs : List Name) → map (λ (q : ℕ × Name). q.1) (map (λ (x : Name). (p.0, x)) xs) ≡ xs
      second_of [] = refl
      second_of (x ∷ xs) = ap (λ l. x ∷ l) (second_of xs)

      pub clean_equation : CleanEquation w p.0 left right
      clean_equation = record {
        lefts = nil_left lefts twice (nil_left (lefts ++ twice) demand plain_clean);
        differ = subst NamesDiffer (second_of left) (names_differ (map (λ (x : Name). (p.0, x)) left) (nil_right lefts twice (nil_left (lefts ++ twice) demand plain_clean)));
        types = right_typed.0;
        judged = right_typed.1;
        fits =
            let pass = fits_left w (left_types w left) in
            sym (ap (λ (k : Judged (List Ty)). option_map_or pass k.types true) right_typed.1)
            ∙ not_true _ (no_fault p.0 Mismatch (not (option_map_or pass (judge_of w false right).types true)) (nil_left (fault p.0 Mismatch (not (option_map_or pass (judge_of w false right).types true))) (judge_of w false right).faults demand_clean));
      }
