-- What the limits say of a program's nodes, of their inputs and of its types.
use Rattle.std.proofs.Common.{◌≡◌, ℕ, ◌<◌, ◌≤◌, ◌^◌, List, [], length, take, drop, All, Some, slice_get, ap, subst, arith}
use Rattle.std.specs.List.{flat_map}
use Rattle.std.proofs.lemmas.List.{length-map, length-take, length-drop}
use Rattle.std.proofs.lemmas.Option.{get_or_from_slice_get, slice_get_within}
use Rattle.hept_ast.specs.Faults.{faults}
use Rattle.hept_ast.specs.Limits.{all_faults, limits, name_limit, node_limits, over, type_limits}
use Rattle.hept_ast.specs.declared.tree.Decl.{Decl}
use Rattle.hept_ast.specs.declared.tree.Node.{Node}
use Rattle.hept_ast.specs.declared.tree.Program.{Program}
use Rattle.hept_ast.specs.declared.tree.TypeDec.{TypeDec}
use Rattle.sound_expressions.proofs.Lists.{nil_left, nil_right, none_of_each}

not_over : {A : Type 0} (limit : ℕ) (place : A → ℕ) (xs : List A) → over limit place xs ≡ [] → length xs ≤ limit
not_over {A = A} limit place xs h =
    let none : length (over limit place xs) ≡ 0 = ap length h in
    let some : length (over limit place xs) ≡ length (take 1 (drop limit xs)) = length-map (take 1 (drop limit xs)) _ in
    omega (arith, length-take {A = A}, length-drop {A = A})

no_limits : (p : Program) → all_faults p ≡ [] → limits p ≡ []
no_limits p clean = nil_right (faults p) (limits p) clean

pub few_nodes : (p : Program) → all_faults p ≡ [] → length p.nodes < 2 ^ 32
few_nodes p clean =
    let few : length p.nodes ≤ 1024 = not_over 1024 (λ (n : Node). n.place.0) p.nodes (nil_right _ (over 1024 (λ (n : Node). n.place.0) p.nodes) (nil_left _ _ (no_limits p clean))) in
    omega arith

inputs_at_most : (n : Node) → node_limits n ≡ [] → length n.inputs ≤ 64
inputs_at_most n none = not_over 64 (λ (d : Decl). d.place.0) n.inputs (nil_right (name_limit n.place.0 n.name) _ (nil_left _ _ (nil_left _ _ (nil_left _ _ (nil_left _ _ (nil_left _ _ none))))))

pub few_inputs : (p : Program) (k : ℕ) (n : Node) → all_faults p ≡ [] → slice_get p.nodes k ≡ Some n → length n.inputs < 2 ^ 32
few_inputs p k n clean at =
    let all : All (λ n. node_limits n ≡ []) p.nodes = none_of_each node_limits p.nodes (nil_right _ (flat_map node_limits p.nodes) (no_limits p clean)) in
    let here : node_limits n ≡ [] = subst (λ (m : Node). node_limits m ≡ []) (get_or_from_slice_get p.nodes k n n at) (all k n (slice_get_within p.nodes k n at)) in
    let few : length n.inputs ≤ 64 = inputs_at_most n here in
    omega arith

few_of : (t : TypeDec) → type_limits t ≡ [] → length t.constructors < 2 ^ 32
few_of t none =
    let few : length t.constructors ≤ 256 = not_over 256 (λ (c : List ℕ). t.place.0) t.constructors (nil_right (name_limit t.place.0 t.name) _ (nil_left _ _ none)) in
    omega arith

pub few_constructors : (p : Program) → all_faults p ≡ [] → All (λ t. length t.constructors < 2 ^ 32) p.types
few_constructors p clean =
    let all : All (λ t. type_limits t ≡ []) p.types =
    none_of_each type_limits p.types (nil_right (over 256 (λ (t : TypeDec). t.place.0) p.types) _ (nil_left _ _ (nil_left _ _ (no_limits p clean)))) in
    λ k d lt. few_of _ (all k d lt)
