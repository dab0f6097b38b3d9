-- A program without faults of names, types and futures has an erasure without them, where each declared type has a constructor.
use Rattle.std.proofs.Common.{◌≡◌, ℕ, Bool, true, false, ◌&&◌, ◌||◌, List, [], ◌∷◌, ◌++◌, map, refl, sym, ap, subst, ◌∙◌}
use Rattle.std.specs.Prelude.{Option, Some, None, not, if◌then◌else◌}
use Rattle.std.specs.List.{flat_map, list_any, list_all, AllByRecursion}
use Rattle.std.specs.Option.{option_map}
use Rattle.std.proofs.lemmas.List.Elements.{recursion_from_All}
use Rattle.std.proofs.lemmas.Slice.Eq.{bytes_eq-Decides}
use Rattle.hept_ast.specs.Texts.{Name, same, is_in}
use Rattle.hept_ast.specs.Parts.{Part, Block as Block_part, Plain, Switch as Switch_part, Reset as Reset_part, Automaton as Automaton_part, Transition, Placed, parts, declared_in, seen_at, variables, declaration, expressions}
use Rattle.hept_ast.specs.Types.{is_plain, types_of, has_tags, tags_of, constructors_of, type_is_known}
use Rattle.hept_ast.specs.Faults.{Fault, FutureKept, NotDefined, fault, seconds, second_definitions, async_nodes, node_named, Judging, decl_faults, part_faults, is_strong, judging, node_faults}
use Rattle.hept_ast.specs.Erasure.{erased_decl, erased_node, erased}
use Rattle.hept_ast.specs.ErasedParts.{erased_part, erased_placed}
use Rattle.hept_ast.specs.declared.tree.TypeDec.{TypeDec}
use Rattle.hept_ast.specs.declared.tree.Tag.TheVariants as tag
use Rattle.hept_ast.specs.declared.tree.Plain.TheVariants.{Int, Bool as Truth_value, Named}
use Rattle.hept_ast.specs.declared.tree.Decl.{Decl}
use Rattle.hept_ast.specs.declared.tree.Node.{Node}
use Rattle.hept_ast.specs.declared.tree.Program.{Program}
use Rattle.hept_ast.specs.declared.tree.Ty.{Ty}
use Rattle.hept_ast.specs.declared.tree.Ty.TheVariants as ty
use Rattle.hept_ast.proofs.ErasedPartsOf.{erased_keeps_parts}
use Rattle.erased_rules.specs.ErasedTypes.{ErasedKeepsTyped}
use Rattle.erased_rules.proofs.Lists.{nil_left, nil_right, nil_both, flat_nil, map_mapped}
use Rattle.erased_rules.proofs.ByForms.{Each}
use Rattle.erased_rules.proofs.Totals.{own_of}
use Rattle.erased_rules.proofs.ErasedNodes.{variables_same, of_placed, all_of, seen_same}
use Rattle.erased_rules.proofs.Fits.{and_both, plain_after}
use Rattle.erased_rules.proofs.Judgings.{erased_judging, filled}
use Rattle.erased_rules.proofs.TypedExpressions.{async_at, each_left, each_right, Plain_outputs, Tags_there}
use Rattle.erased_rules.proofs.TypedParts.{decl_kept, decl_known, part_kept}
use Rattle.erased_rules.proofs.SeenDeclared.{node_sees}

-- ---- each type that is known has a tag where it is to have tags

abbrev Filled : TypeDec → Type 0
Filled t = t.constructors ≡ [] → ⊥

constructors_there : (types : List TypeDec) → AllByRecursion Filled types → (x : Name) → list_any (λ d. same x d.name) types ≡ true → constructors_of types x ≡ [] → ⊥
constructors_there [] a x h n = cc
constructors_there (d ∷ ds) a x h n = go (same x d.name) (constructors_there ds a.1 x) h n
  where
    go : (b : Bool) → (list_any (λ d. same x d.name) ds ≡ true → constructors_of ds x ≡ [] → ⊥) → b || list_any (λ d. same x d.name) ds ≡ true → (if b then d.constructors else constructors_of ds x) ≡ [] → ⊥
    go true below h n = a.0 n
    go false below h n = below h n

mapped_nil : (cs : List Name) → map tag.Constructor cs ≡ [] → cs ≡ []
mapped_nil [] h = refl
mapped_nil (c ∷ cs) h = absurd (filled (tag.Constructor c) (map tag.Constructor cs) h)

tags_there : (types : List TypeDec) → AllByRecursion Filled types → (t : Ty) → type_is_known types t ≡ true → has_tags t ≡ true → tags_of types t ≡ [] → ⊥
tags_there types a (ty.Plain Int) k h n = cc
tags_there types a (ty.Plain Truth_value) k h n = filled (tag.Truth true) (tag.Truth false ∷ []) n
tags_there types a (ty.Plain (Named x)) k h n = constructors_there types a x k (mapped_nil (constructors_of types x) n)
tags_there types a (ty.Future t) k h n = cc

found : (K : Decl → Type 0) (x : Name) (ds : List Decl) → Each K ds → (d : Decl) → declaration ds x ≡ Some d → K d
found K x [] h d e = let z : ⊥ = cc in absurd z
found K x (c ∷ ds) h d e = go (same x c.name) (found K x ds h.1 d) e
  where
    go : (b : Bool) → (declaration ds x ≡ Some d → K d) → (if b then Some c else declaration ds x) ≡ Some d → K d
    go true below e = let i : c ≡ d = cc in subst K i h.0
    go false below e = below e

abbrev Known : List TypeDec → Decl → Type 0
Known types d = type_is_known types d.ty ≡ true

seen_tags : (w : Judging) → AllByRecursion Filled w.types → Each (Known w.types) w.seen → Tags_there w
seen_tags w a k x t is = go (declaration w.seen x) refl is
  where
    go : (d : Option Decl) → declaration w.seen x ≡ d → option_map (λ (d : Decl). d.ty) d ≡ Some t → has_tags t ≡ true → tags_of w.types t ≡ [] → ⊥
    go None e is = λ h n. cc
    go (Some d) e is =
        let i : d.ty ≡ t = cc in
        tags_there w.types a t (subst (λ (t : Ty). type_is_known w.types t ≡ true) i (found (Known w.types) x w.seen k d e))

-- ---- each node that is called by async gives no future

each_then : {A : Type 0} (P Q : A → Type 0) → ((x : A) → P x → Q x) → (xs : List A) → Each P xs → Each Q xs
each_then P Q f [] h = tt
each_then P Q f (x ∷ xs) h = (f x h.0, each_then P Q f xs h.1)

or_right : (b c : Bool) → c ≡ true → b || c ≡ true
or_right true c h = refl
or_right false c h = h

or_left : (b c : Bool) → b ≡ true → b || c ≡ true
or_left true c h = refl
or_left false c h = cc

each_in : (xs : List Name) → Each (λ x. is_in x xs ≡ true) xs
each_in [] = tt
each_in (x ∷ xs) = (
  or_left (same x x) (is_in x xs) ((bytes_eq-Decides x x).1 refl),
  each_then (λ y. is_in y xs ≡ true) (λ y. is_in y (x ∷ xs) ≡ true) (λ y h. or_right (same y x) (is_in y xs) h) xs (each_in xs),
)

found_node : (p : Program) (nodes : List Node) (f : Name) (g : Node) → node_named nodes f ≡ Some g → flat_map (node_faults p) nodes ≡ [] → (f ≡ g.name) × (node_faults p g ≡ [])
found_node p [] f g e h = let z : ⊥ = cc in absurd z
found_node p (n ∷ ns) f g e h = go (same f n.name) (λ i. found_node p ns f g i (nil_right (node_faults p n) (flat_map (node_faults p) ns) h)) refl e
  where
    go : (b : Bool) → (node_named ns f ≡ Some g → (f ≡ g.name) × (node_faults p g ≡ [])) → same f n.name ≡ b → (if b then Some n else node_named ns f) ≡ Some g → (f ≡ g.name) × (node_faults p g ≡ [])
    go true below s e =
        let i : n ≡ g = cc in
        ((bytes_eq-Decides f n.name).0 s ∙ ap (λ (n : Node). n.name) i, subst (λ (n : Node). node_faults p n ≡ []) i (nil_left (node_faults p n) (flat_map (node_faults p) ns) h))
    go false below s e = below e

abbrev pub kept_output : Name → List Name → Decl → List Fault
kept_output name async d = fault d.place.0 FutureKept (not (is_plain d.ty) && is_in name async)

plain_output : (p : ℕ) (b c : Bool) → c ≡ true → fault p FutureKept (not b && c) ≡ [] → b ≡ true
plain_output p true c i h = refl
plain_output p false c i h = absurd (filled (record { place = p; kind = FutureKept }) [] (ap (fault p FutureKept) (sym i) ∙ h))

plain_outputs : (name : Name) (async : List Name) (ds : List Decl) → is_in name async ≡ true → flat_map (kept_output name async) ds ≡ [] → list_all is_plain (types_of ds) ≡ true
plain_outputs name async [] i h = refl
plain_outputs name async (d ∷ ds) i h =
    and_both (is_plain d.ty) (list_all is_plain (types_of ds)) (plain_output d.place.0 (is_plain d.ty) (is_in name async) i (nil_left (kept_output name async d) (flat_map (kept_output name async) ds) h))
    (plain_outputs name async ds i (nil_right (kept_output name async d) (flat_map (kept_output name async) ds) h))

-- the faults of a node: those of its names, its inputs, its outputs and its parts
abbrev pub own_judging : Program → Node → Judging
own_judging p n = record { types = p.types; nodes = p.nodes; node = n; seen = []; strong = false }

abbrev pub name_faults : Node → List Fault
name_faults n = seconds same [] (map (λ d. (d.place.0, d.name)) (variables n))

abbrev pub input_faults : Program → Node → List Fault
input_faults p n = flat_map (decl_faults (own_judging p n)) n.inputs

abbrev pub output_faults : Program → Node → List Fault
output_faults p n = flat_map (kept_output n.name (async_nodes p.nodes)) n.outputs

abbrev pub placed_faults : Program → Node → Placed → List Fault
placed_faults p n q = part_faults (judging p n q) q.part

clear_outputs : (p : Program) → flat_map (node_faults p) p.nodes ≡ [] → (f : Name) → is_in f (async_nodes p.nodes) ≡ true → Plain_outputs p.nodes f
clear_outputs p h f i g e =
    let (named, none) = found_node p p.nodes f g e h in
    let a = name_faults g ++ input_faults p g in
    let o : output_faults p g ≡ [] = nil_right a (output_faults p g) (nil_left (a ++ output_faults p g) (flat_map (placed_faults p g) (parts g)) none) in
    plain_outputs g.name (async_nodes p.nodes) g.outputs (ap (λ (x : Name). is_in x (async_nodes p.nodes)) (sym named) ∙ i) o

all_clear : (p : Program) → flat_map (node_faults p) p.nodes ≡ [] → Each (Plain_outputs p.nodes) (async_nodes p.nodes)
all_clear p h = each_then (λ f. is_in f (async_nodes p.nodes) ≡ true) (Plain_outputs p.nodes) (clear_outputs p h) (async_nodes p.nodes) (each_in (async_nodes p.nodes))

each_flat : {A B : Type 0} (P : B → Type 0) (f : A → List B) (xs : List A) → Each P (flat_map f xs) → Each (λ x. Each P (f x)) xs
each_flat P f [] h = tt
each_flat P f (x ∷ xs) h = (each_left P (f x) (flat_map f xs) h, each_flat P f xs (each_right P (f x) (flat_map f xs) h))

-- ---- nodes

strong_same : (q : Part) → is_strong (erased_part q) ≡ is_strong q
strong_same (Block_part ds es) = refl
strong_same (Plain p left right) = refl
strong_same (Switch_part p on cs) = refl
strong_same (Reset_part p every sets) = refl
strong_same (Automaton_part p states) = refl
strong_same (Transition strong states e) = refl

pub judging_same : (p : Program) (n : Node) (q : Placed) → judging (erased p) (erased_node n) (erased_placed q) ≡ erased_judging (judging p n q)
judging_same p n q =
    ap (λ (ds : List Decl). record { types = p.types; nodes = map erased_node p.nodes; node = erased_node n; seen = ds; strong = is_strong (erased_part q.part) }) (seen_same n q.site)
    ∙ ap (λ (b : Bool). record { types = p.types; nodes = map erased_node p.nodes; node = erased_node n; seen = map erased_decl (seen_at n q.site); strong = b }) (strong_same q.part)

parts_kept : (p : Program) → AllByRecursion Filled p.types → (n : Node) (qs : List Placed) → Each (λ q. Each (Known p.types) (seen_at n q.site)) qs → Each (λ q. Each (Plain_outputs p.nodes) (of_placed async_at q)) qs →
    flat_map (placed_faults p n) qs ≡ [] → flat_map (placed_faults (erased p) (erased_node n)) (map erased_placed qs) ≡ []
parts_kept p a n [] k c h = refl
parts_kept p a n (q ∷ qs) k c h =
    let w = judging p n q in
    nil_both (placed_faults (erased p) (erased_node n) (erased_placed q)) (flat_map (placed_faults (erased p) (erased_node n)) (map erased_placed qs))
    (ap (λ (v : Judging). part_faults v (erased_part q.part)) (judging_same p n q) ∙ part_kept w (seen_tags w a k.0) q.part c.0 (nil_left (placed_faults p n q) (flat_map (placed_faults p n) qs) h))
    (parts_kept p a n qs k.1 c.1 (nil_right (placed_faults p n q) (flat_map (placed_faults p n) qs) h))

each_nil : {A : Type 0} (P : A → Type 0) (f : A → List Fault) → ((x : A) → f x ≡ [] → P x) → (xs : List A) → flat_map f xs ≡ [] → Each P xs
each_nil P f e [] h = tt
each_nil P f e (x ∷ xs) h = (e x (nil_left (f x) (flat_map f xs) h), each_nil P f e xs (nil_right (f x) (flat_map f xs) h))

declares : (w : Judging) (q : Part) → part_faults w q ≡ [] → Each (Known w.types) (declared_in q)
declares w (Block_part ds es) h =
    let a = flat_map (decl_faults w) ds in
    let b = flat_map (λ (d : Decl). fault d.place.0 NotDefined (not (is_in d.name (flat_map (λ c. c.sets) es)))) ds in
    each_nil (Known w.types) (decl_faults w) (decl_known w) ds (nil_left a b (nil_left (a ++ b) (second_definitions [] es) h))
declares w (Plain p left right) h = tt
declares w (Switch_part p on cs) h = tt
declares w (Reset_part p every sets) h = tt
declares w (Automaton_part p states) h = tt
declares w (Transition strong states e) h = tt

node_kept : (p : Program) → AllByRecursion Filled p.types → (n : Node) → Each (Plain_outputs p.nodes) (flat_map (own_of async_at) (expressions n)) → node_faults p n ≡ [] → node_faults (erased p) (erased_node n) ≡ []
node_kept p a n c h =
    let m = erased_node n in
    let s = name_faults n in
    let i = input_faults p n in
    let o = output_faults p n in
    let t = flat_map (placed_faults p n) (parts n) in
    let sio = nil_left (s ++ i ++ o) t h in
    let si = nil_left (s ++ i) o sio in
    let ht : t ≡ [] = nil_right (s ++ i ++ o) t h in
    let hi : i ≡ [] = nil_right s i si in
    let known = each_nil (Known p.types) (decl_faults (own_judging p n)) (decl_known (own_judging p n)) n.inputs hi in
    let declared = each_nil (λ (q : Placed). Each (Known p.types) (declared_in q.part)) (placed_faults p n) (λ q k. declares (judging p n q) q.part k) (parts n) ht in
    let seen = node_sees (Known p.types) n known declared in
    let clear : Each (λ q. Each (Plain_outputs p.nodes) (of_placed async_at q)) (parts n) =
    each_flat (Plain_outputs p.nodes) (of_placed async_at) (parts n) (subst (λ (fs : List Name). Each (Plain_outputs p.nodes) fs) (all_of async_at n) c) in
    let s' : name_faults m ≡ [] =
    ap (λ (ds : List Decl). seconds same [] (map (λ (d : Decl). (d.place.0, d.name)) ds)) (variables_same n)
    ∙ ap (seconds same []) (map_mapped (λ (d : Decl). (d.place.0, d.name)) erased_decl (λ (d : Decl). (d.place.0, d.name)) (λ d. refl) (variables n)) ∙ nil_left s i si in
    let i' : input_faults (erased p) m ≡ [] = flat_nil (decl_faults (own_judging (erased p) m)) erased_decl (decl_faults (own_judging p n)) (λ d k. decl_kept (own_judging p n) d k) n.inputs hi in
    let o' : output_faults (erased p) m ≡ [] =
    flat_nil (kept_output n.name (async_nodes (erased p).nodes)) erased_decl (kept_output n.name (async_nodes p.nodes))
    (λ d k. ap (λ (b : Bool). fault d.place.0 FutureKept (not b && is_in n.name (async_nodes (erased p).nodes))) (plain_after d.ty)) n.outputs (nil_right (s ++ i) o sio) in
    let t' : flat_map (placed_faults (erased p) m) (parts m) ≡ [] = ap (flat_map (placed_faults (erased p) m)) (erased_keeps_parts n) ∙ parts_kept p a n (parts n) seen clear ht in
    nil_both (name_faults m ++ input_faults (erased p) m ++ output_faults (erased p) m) (flat_map (placed_faults (erased p) m) (parts m))
    (nil_both (name_faults m ++ input_faults (erased p) m) (output_faults (erased p) m) (nil_both (name_faults m) (input_faults (erased p) m) s' i') o') t'

nodes_kept : (p : Program) → AllByRecursion Filled p.types → (ns : List Node) → Each (λ n. Each (Plain_outputs p.nodes) (flat_map (own_of async_at) (expressions n))) ns → flat_map (node_faults p) ns ≡ [] →
    flat_map (node_faults (erased p)) (map erased_node ns) ≡ []
nodes_kept p a [] c h = refl
nodes_kept p a (n ∷ ns) c h =
    nil_both (node_faults (erased p) (erased_node n)) (flat_map (node_faults (erased p)) (map erased_node ns)) (node_kept p a n c.0 (nil_left (node_faults p n) (flat_map (node_faults p) ns) h))
    (nodes_kept p a ns c.1 (nil_right (node_faults p n) (flat_map (node_faults p) ns) h))

-- ---- programs

pub erased_keeps_typed : ErasedKeepsTyped
erased_keeps_typed p full h =
    let a = seconds same [] (map (λ (t : TypeDec). (t.place.0, t.name)) p.types) in
    let b = seconds same [] (flat_map (λ (t : TypeDec). map (λ (c : Name). (t.place.0, c)) t.constructors) p.types) in
    let c = seconds same [] (map (λ (n : Node). (n.place.0, n.name)) p.nodes) in
    let c' = seconds same [] (map (λ (n : Node). (n.place.0, n.name)) (map erased_node p.nodes)) in
    let ns = flat_map (node_faults p) p.nodes in
    let abc = nil_left (a ++ b ++ c) ns h in
    let hn : ns ≡ [] = nil_right (a ++ b ++ c) ns h in
    let clear = each_flat (Plain_outputs p.nodes) (λ (n : Node). flat_map (own_of async_at) (expressions n)) p.nodes (all_clear p hn) in
    nil_both (a ++ b ++ c') (flat_map (node_faults (erased p)) (map erased_node p.nodes))
    (nil_both (a ++ b) c' (nil_left (a ++ b) c abc)
    (ap (seconds same []) (map_mapped (λ (n : Node). (n.place.0, n.name)) erased_node (λ (n : Node). (n.place.0, n.name)) (λ n. refl) p.nodes) ∙ nil_right (a ++ b) c abc))
    (nodes_kept p (recursion_from_All Filled p.types full) p.nodes clear hn)
