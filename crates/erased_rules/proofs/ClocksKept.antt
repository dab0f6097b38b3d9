-- A node's variables have some clocks exactly where those of the erased node have them.
use Rattle.std.proofs.Common.{◌≡◌, ℕ, ◌+◌, Bool, List, [], ◌∷◌, ◌++◌, length, map, refl, sym, ap, subst, ◌∙◌, arith}
use Rattle.std.specs.Prelude.{Option, Some, None, is_some, if◌then◌else◌, sum_by, fold}
use Rattle.std.specs.List.{flat_map, AllByRecursion}
use Rattle.std.specs.Option.{option_map, option_to_list}
use Rattle.std.proofs.lemmas.List.{map-append}
use Rattle.std.proofs.lemmas.List.Elements.{All-map, All-from_recursion, recursion_from_All, All-weaker}
use Rattle.hept_ast.specs.Texts.{Name, names}
use Rattle.hept_ast.specs.Scopes.{Clock}
use Rattle.hept_ast.specs.Parts.{Branch_of, Body_of, State_of, Surroundings, Part, Block as Block_part, Plain, Switch as Switch_part, Reset as Reset_part, Automaton as Automaton_part, Transition, Placed, parts, seen_at, variables, declaration}
use Rattle.hept_ast.specs.Clocks.{Base, Of, Condition, Assignment, Meets, equal, declared_on_base, own_names, AreClocks, total_length}
use Rattle.hept_ast.specs.Erasure.{erased_decl, erased_node}
use Rattle.hept_ast.specs.ErasedParts.{erased_around, erased_part, erased_placed}
use Rattle.hept_ast.specs.declared.tree.Decl.{Decl}
use Rattle.hept_ast.specs.declared.tree.Node.{Node}
use Rattle.hept_ast.proofs.ErasedPartsOf.{erased_keeps_parts}
use Rattle.hept_ast.proofs.ErasedTexts.{names_is}
use Rattle.erased_rules.specs.ErasedClocks.{ErasedKeepsClocks, ClocksOfErased, ErasedKeepsLeastClocks, LeastClocksOfErased, ErasedKeepsClocked, ClockedOfErased}
use Rattle.erased_rules.proofs.Lists.{flat_same}
use Rattle.erased_rules.proofs.ByForms.{Each}
use Rattle.erased_rules.proofs.StandingKept.{Iff, same_iff, after, beside, stands_kept}
use Rattle.erased_rules.proofs.NodesStanding.{fixed, inits, interface, Part_stands, Placed_stands, Node_stands, node_if, if_node}
use Rattle.erased_rules.proofs.ErasedNodes.{variables_same, locals_same, seen_same, declaration_same, init_same}

own_same : (n : Node) (site : Surroundings) → own_names (erased_node n) (map erased_around site) ≡ own_names n site
own_same n [] =
    ap (λ (ds : List Decl). names ds ++ names (map erased_decl n.outputs) ++ names (map erased_decl n.inputs)) (locals_same n)
    ∙ ap (λ (xs : List Name). xs ++ names (map erased_decl n.outputs) ++ names (map erased_decl n.inputs)) (names_is n.block.locals)
    ∙ ap (λ (xs : List Name). names n.block.locals ++ xs ++ names (map erased_decl n.inputs)) (names_is n.outputs)
    ∙ ap (λ (xs : List Name). names n.block.locals ++ names n.outputs ++ xs) (names_is n.inputs)
own_same n (Branch_of on locals ∷ site) = names_is locals
own_same n (Body_of every locals ∷ site) = ap (λ (xs : List Name). xs ++ own_names (erased_node n) (map erased_around site)) (names_is locals) ∙ ap (λ (xs : List Name). names locals ++ xs) (own_same n site)
own_same n (State_of strong locals ∷ site) = names_is locals

found_same : (x : Name) (d : Option Decl) → flat_map (λ (d : Decl). equal d.place.0 (Of x) Base) (option_to_list (option_map erased_decl d)) ≡ flat_map (λ (d : Decl). equal d.place.0 (Of x) Base) (option_to_list d)
found_same x None = refl
found_same x (Some d) = refl

based_same : (own : List Name) (seen : List Decl) (xs : List Name) → declared_on_base own (map erased_decl seen) xs ≡ declared_on_base own seen xs
based_same own seen [] = refl
based_same own seen (x ∷ xs) =
    ap (λ (d : Option Decl). flat_map (λ (d : Decl). equal d.place.0 (Of x) Base) (option_to_list d) ++ declared_on_base own (map erased_decl seen) xs) (declaration_same seen x)
    ∙ ap (λ (cs : List Condition). cs ++ declared_on_base own (map erased_decl seen) xs) (found_same x (declaration seen x))
    ∙ ap (λ (cs : List Condition). flat_map (λ (d : Decl). equal d.place.0 (Of x) Base) (option_to_list (declaration seen x)) ++ cs) (based_same own seen xs)

by_equation : (a : Assignment) (cs ds : List Condition) → cs ≡ ds → Iff (Meets a cs) (Meets a ds)
by_equation a cs ds e = record { to = λ h. subst (Meets a) e h; back = λ h. subst (Meets a) (sym e) h }

part_kept : (own : List Name) (c : Name → Clock) (seen : List Decl) (q : Part) → Iff (Part_stands own c (map erased_decl seen) (erased_part q)) (Part_stands own c seen q)
part_kept own c seen (Block_part ds equations) =
    by_equation (fixed c) (inits (map erased_decl ds)) (inits ds)
    (flat_same (λ (d : Decl). if is_some d.init then equal d.place.0 (Of d.name) Base else []) erased_decl (λ (d : Decl). if is_some d.init then equal d.place.0 (Of d.name) Base else [])
    (λ d. ap (λ (b : Bool). if b then equal d.place.0 (Of d.name) Base else []) (init_same d)) ds)
part_kept own c seen (Plain p left right) = record { to = λ h. (h.0, h.1, (stands_kept own c right h.0).to h.2); back = λ h. (h.0, h.1, (stands_kept own c right h.0).back h.2) }
part_kept own c seen (Switch_part p on cases) =
    let xs = flat_map (λ c. c.sets) cases in
    beside (by_equation (fixed c) (declared_on_base own (map erased_decl seen) xs) (declared_on_base own seen xs) (based_same own seen xs)) (stands_kept own c on [])
part_kept own c seen (Reset_part p every sets) = stands_kept own c every []
part_kept own c seen (Automaton_part p states) =
    let xs = flat_map (λ c. c.sets) states in
    by_equation (fixed c) (declared_on_base own (map erased_decl seen) xs) (declared_on_base own seen xs) (based_same own seen xs)
part_kept own c seen (Transition strong states e) = stands_kept own c e.condition []

placed_kept : (n : Node) (c : Name → Clock) (q : Placed) → Iff (Placed_stands (erased_node n) c (erased_placed q)) (Placed_stands n c q)
placed_kept n c q =
    let i = own_same n q.site in
    let j = seen_same n q.site in
    let part = erased_part q.part in
    let first : Iff (Placed_stands (erased_node n) c (erased_placed q)) (Part_stands (own_names n q.site) c (map erased_decl (seen_at n q.site)) part) = record {
      to = λ h. subst (λ (ds : List Decl). Part_stands (own_names n q.site) c ds part) j (subst (λ (xs : List Name). Part_stands xs c (seen_at (erased_node n) (map erased_around q.site)) part) i h);
      back = λ h. subst (λ (xs : List Name). Part_stands xs c (seen_at (erased_node n) (map erased_around q.site)) part) (sym i) (subst (λ (ds : List Decl). Part_stands (own_names n q.site) c ds part) (sym j) h);
    } in
    after first (part_kept (own_names n q.site) c (seen_at n q.site) q.part)

each_kept : {A B : Type 0} (P : B → Type 0) (Q : A → Type 0) (f : A → B) → ((x : A) → Iff (P (f x)) (Q x)) → (xs : List A) → Iff (Each P (map f xs)) (Each Q xs)
each_kept P Q f h [] = same_iff
each_kept P Q f h (x ∷ xs) = beside (h x) (each_kept P Q f h xs)

node_kept : (n : Node) (c : Name → Clock) → Iff (Node_stands (erased_node n) c) (Node_stands n c)
node_kept n c =
    let e : interface (map erased_decl n.inputs ++ map erased_decl n.outputs) ≡ interface (n.inputs ++ n.outputs) =
    ap interface (sym (map-append erased_decl n.inputs n.outputs))
    ∙ flat_same (λ (d : Decl). equal d.place.0 (Of d.name) Base) erased_decl (λ (d : Decl). equal d.place.0 (Of d.name) Base) (λ d. refl) (n.inputs ++ n.outputs) in
    let i = erased_keeps_parts n in
    let P : Placed → Type 0 = Placed_stands (erased_node n) c in
    let first : Iff (Each P (parts (erased_node n))) (Each P (map erased_placed (parts n))) = record { to = λ h. subst (λ (qs : List Placed). Each P qs) i h; back = λ h. subst (λ (qs : List Placed). Each P qs) (sym i) h } in
    beside (by_equation (fixed c) (interface (map erased_decl n.inputs ++ map erased_decl n.outputs)) (interface (n.inputs ++ n.outputs)) e)
    (after first (each_kept P (Placed_stands n c) erased_placed (placed_kept n c) (parts n)))

pub erased_keeps_clocks : ErasedKeepsClocks
erased_keeps_clocks n c h = if_node (erased_node n) c ((node_kept n c).back (node_if n c h))

pub clocks_of_erased : ClocksOfErased
clocks_of_erased n c h = if_node n c ((node_kept n c).to (node_if (erased_node n) c h))

-- ---- least clocks

lengths_same : (c : Name → Clock) (z : ℕ) (ds : List Decl) → fold (λ a d. a + length (c d.name)) z (map erased_decl ds) ≡ fold (λ a d. a + length (c d.name)) z ds
lengths_same c z [] = refl
lengths_same c z (d ∷ ds) = lengths_same c (z + length (c d.name)) ds

total_same : (n : Node) (c : Name → Clock) → total_length (erased_node n) c ≡ total_length n c
total_same n c = ap (λ (ds : List Decl). sum_by (λ (d : Decl). length (c d.name)) ds) (variables_same n) ∙ lengths_same c 0 (variables n)

pub erased_keeps_least_clocks : ErasedKeepsLeastClocks
erased_keeps_least_clocks n c h = record {
  meets = erased_keeps_clocks n c h.meets;
  least = λ d m. let i = total_same n c in let j = total_same n d in let l = h.least d (clocks_of_erased n d m) in omega arith;
}

pub least_clocks_of_erased : LeastClocksOfErased
least_clocks_of_erased n c h = record {
  meets = clocks_of_erased n c h.meets;
  least = λ d m. let i = total_same n c in let j = total_same n d in let l = h.least d (erased_keeps_clocks n d m) in omega arith;
}

-- ---- programs

abbrev Has : Node → Type 0
Has n = (c : Name → Clock) × AreClocks n c

pub erased_keeps_clocked : ErasedKeepsClocked
erased_keeps_clocked p h = All-map Has erased_node p.nodes (All-weaker Has (λ n. Has (erased_node n)) (λ n i. (i.0, erased_keeps_clocks n i.0 i.1)) p.nodes h)

pub clocked_of_erased : ClockedOfErased
clocked_of_erased p h =
    All-from_recursion Has p.nodes (go p.nodes (recursion_from_All Has (map erased_node p.nodes) h))
  where
    go : (ns : List Node) → AllByRecursion Has (map erased_node ns) → AllByRecursion Has ns
    go [] h = tt
    go (n ∷ ns) h = ((h.0.0, clocks_of_erased n h.0.0 h.0.1), go ns h.1)
