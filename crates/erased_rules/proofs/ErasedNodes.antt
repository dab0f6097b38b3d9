-- What erasing keeps of nodes: what they declare and see, and their expressions.
use Rattle.std.proofs.Common.{◌≡◌, ℕ, List, [], ◌∷◌, ◌++◌, map, refl, sym, ap, ◌∙◌}
use Rattle.std.specs.Prelude.{Option, Some, None, is_some}
use Rattle.std.specs.List.{flat_map}
use Rattle.std.specs.Option.{option_map}
use Rattle.std.proofs.lemmas.List.{map-append}
use Rattle.hept_ast.specs.Texts.{Name, same}
use Rattle.hept_ast.specs.Parts.{Branch_of, Body_of, State_of, Surroundings, locals_around, seen_at, declaration, Part, Block as Block_part, Plain, Switch as Switch_part, Reset as Reset_part, Automaton as Automaton_part, Transition, Placed, parts, declared_in, variables, expressions_of, inside, expressions}
use Rattle.hept_ast.specs.Erasure.{erased_expr, erased_decl, erased_init, erased_node}
use Rattle.hept_ast.specs.ErasedParts.{erased_around, erased_part, erased_placed}
use Rattle.hept_ast.specs.declared.tree.Block.{Block}
use Rattle.hept_ast.specs.declared.tree.Decl.{Decl}
use Rattle.hept_ast.specs.declared.tree.Init.{Init}
use Rattle.hept_ast.specs.declared.tree.Form.{Form}
use Rattle.hept_ast.specs.declared.tree.Node.{Node}
use Rattle.hept_ast.proofs.ErasedPartsOf.{erased_keeps_parts}
use Rattle.hept_ast.proofs.ErasedTexts.{find_map}
use Rattle.hept_ast.proofs.ErasedViews.{block_is}
use Rattle.erased_rules.proofs.Lists.{flat_flat, flat_same, flat_mapped, flat_nil}
use Rattle.erased_rules.proofs.Totals.{own_of, total, Step, total_nil, Alike, total_same}

pub declared_same : (q : Part) → declared_in (erased_part q) ≡ map erased_decl (declared_in q)
declared_same (Block_part ds es) = refl
declared_same (Plain p left right) = refl
declared_same (Switch_part p on cs) = refl
declared_same (Reset_part p every sets) = refl
declared_same (Automaton_part p states) = refl
declared_same (Transition strong states e) = refl

pub variables_same : (n : Node) → variables (erased_node n) ≡ map erased_decl (variables n)
variables_same n =
    ap (λ (qs : List Placed). map erased_decl n.inputs ++ flat_map (λ (q : Placed). declared_in q.part) qs) (erased_keeps_parts n)
    ∙ ap (λ (ds : List Decl). map erased_decl n.inputs ++ ds) (flat_mapped (λ (q : Placed). declared_in q.part) erased_placed (λ (q : Placed). declared_in q.part) erased_decl (λ q. declared_same q.part) (parts n))
    ∙ sym (map-append erased_decl n.inputs (flat_map (λ (q : Placed). declared_in q.part) (parts n)))

pub expressions_same : (q : Part) → expressions_of (erased_part q) ≡ map erased_expr (expressions_of q)
expressions_same (Block_part ds es) = refl
expressions_same (Plain p left right) = refl
expressions_same (Switch_part p on cs) = refl
expressions_same (Reset_part p every sets) = refl
expressions_same (Automaton_part p states) = refl
expressions_same (Transition strong states e) = refl

-- what is listed of all expressions of a node
abbrev pub of_placed : {A : Type 0} → (ℕ → Form → List A) → Placed → List A
of_placed o q = flat_map (total o) (expressions_of q.part)

pub all_of : {A : Type 0} (o : ℕ → Form → List A) (n : Node) → flat_map (own_of o) (expressions n) ≡ flat_map (of_placed o) (parts n)
all_of o n = flat_flat (own_of o) (λ (q : Placed). flat_map inside (expressions_of q.part)) (parts n) ∙ go (parts n)
  where
    go : (qs : List Placed) → flat_map (λ (q : Placed). flat_map (own_of o) (flat_map inside (expressions_of q.part))) qs ≡ flat_map (of_placed o) qs
    go [] = refl
    go (q ∷ qs) =
        ap (λ (l : List _). l ++ flat_map (λ (r : Placed). flat_map (own_of o) (flat_map inside (expressions_of r.part))) qs) (flat_flat (own_of o) inside (expressions_of q.part))
        ∙ ap (λ (l : List _). of_placed o q ++ l) (go qs)

-- and of those of the erased node
erased_all : {A : Type 0} (o : ℕ → Form → List A) (n : Node) → flat_map (own_of o) (expressions (erased_node n)) ≡ flat_map (of_placed o) (map erased_placed (parts n))
erased_all o n = all_of o (erased_node n) ∙ ap (flat_map (of_placed o)) (erased_keeps_parts n)

pub node_nil : {A B : Type 0} (o : ℕ → Form → List A) (o' : ℕ → Form → List B) → Step o o' → (n : Node) → flat_map (own_of o) (expressions n) ≡ [] → flat_map (own_of o') (expressions (erased_node n)) ≡ []
node_nil o o' s n h =
    erased_all o' n
    ∙ flat_nil (of_placed o') erased_placed (of_placed o) (λ q k. ap (flat_map (total o')) (expressions_same q.part)
    ∙ flat_nil (total o') erased_expr (total o) (λ e m. total_nil o o' s e m) (expressions_of q.part) k) (parts n) (sym (all_of o n) ∙ h)

pub node_same : {A : Type 0} (o : ℕ → Form → List A) → Alike o → (n : Node) → flat_map (own_of o) (expressions (erased_node n)) ≡ flat_map (own_of o) (expressions n)
node_same o s n =
    erased_all o n
    ∙ flat_same (of_placed o) erased_placed (of_placed o) (λ q. ap (flat_map (total o)) (expressions_same q.part)
    ∙ flat_same (total o) erased_expr (total o) (λ e. total_same o s e) (expressions_of q.part)) (parts n)
    ∙ sym (all_of o n)

-- ---- what is seen

pub locals_same : (n : Node) → (erased_node n).block.locals ≡ map erased_decl n.block.locals
locals_same n = ap (λ (b : Block). b.locals) (block_is n.block)

pub around_same : (site : Surroundings) → locals_around (map erased_around site) ≡ map erased_decl (locals_around site)
around_same [] = refl
around_same (Branch_of on locals ∷ site) = ap (λ (ds : List Decl). map erased_decl locals ++ ds) (around_same site) ∙ sym (map-append erased_decl locals (locals_around site))
around_same (Body_of every locals ∷ site) = ap (λ (ds : List Decl). map erased_decl locals ++ ds) (around_same site) ∙ sym (map-append erased_decl locals (locals_around site))
around_same (State_of strong locals ∷ site) = ap (λ (ds : List Decl). map erased_decl locals ++ ds) (around_same site) ∙ sym (map-append erased_decl locals (locals_around site))

four : (as' bs cs ds : List Decl) → map erased_decl as' ++ map erased_decl bs ++ map erased_decl cs ++ map erased_decl ds ≡ map erased_decl (as' ++ bs ++ cs ++ ds)
four as' bs cs ds =
    let a = map-append erased_decl as' bs in
    let b = map-append erased_decl (as' ++ bs) cs in
    let c = map-append erased_decl (as' ++ bs ++ cs) ds in
    cc

pub seen_same : (n : Node) (site : Surroundings) → seen_at (erased_node n) (map erased_around site) ≡ map erased_decl (seen_at n site)
seen_same n site =
    ap (λ (ds : List Decl). ds ++ (erased_node n).block.locals ++ map erased_decl n.outputs ++ map erased_decl n.inputs) (around_same site)
    ∙ ap (λ (ds : List Decl). map erased_decl (locals_around site) ++ ds ++ map erased_decl n.outputs ++ map erased_decl n.inputs) (locals_same n)
    ∙ four (locals_around site) n.block.locals n.outputs n.inputs

pub declaration_same : (ds : List Decl) (x : Name) → declaration (map erased_decl ds) x ≡ option_map erased_decl (declaration ds x)
declaration_same ds x = find_map erased_decl (λ d. same x d.name) (λ d. same x d.name) (λ d. refl) ds

pub init_same : (d : Decl) → is_some (erased_decl d).init ≡ is_some d.init
init_same d = go d.init
  where
    go : (i : Option Init) → is_some (option_map erased_init i) ≡ is_some i
    go None = refl
    go (Some i) = refl
