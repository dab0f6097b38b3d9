-- What a node holds, by its own block and the parts of its equations.
use Rattle.std.proofs.Common.{◌≡◌, List, [], ◌∷◌, ◌++◌, refl, sym, ◌∙◌, ap, map, append_assoc}
use Rattle.std.specs.List.{flat_map}
use Rattle.std.proofs.lemmas.List.{map-append}
use Rattle.hept_ast.specs.Limits.{state_limits}
use Rattle.hept_ast.specs.Parts.{Part, Placed, declared_in, variables, expressions, parts, parts_of}
use Rattle.hept_ast.specs.declared.tree.Node.{Node}
use Rattle.hept_ast.specs.declared.tree.Equation.{Equation}
use Rattle.hept_ast.specs.InnerParts.{part_in, inner_parts, expressions_in, decl_label, declared_labels}

flat_flat : {X Y Z : Type 0} (f : Y → List Z) (g : X → List Y) (h : X → List Z) → ((x : X) → flat_map f (g x) ≡ h x) → (xs : List X) → flat_map f (flat_map g xs) ≡ flat_map h xs
flat_flat f g h e [] = refl
flat_flat f g h e (x ∷ xs) = flat_append f (g x) (flat_map g xs) ∙ (ap (λ t. t ++ flat_map f (flat_map g xs)) (e x) ∙ ap (λ t. h x ++ t) (flat_flat f g h e xs))
  where
    flat_append : {Y Z : Type 0} (f : Y → List Z) (ys zs : List Y) → flat_map f (ys ++ zs) ≡ flat_map f ys ++ flat_map f zs
    flat_append f [] zs = refl
    flat_append f (y ∷ ys) zs = ap (λ t. f y ++ t) (flat_append f ys zs) ∙ sym (append_assoc (f y) (flat_map f ys) (flat_map f zs))

by_part : {Z : Type 0} (f : Part → List Z) (qs : List Placed) → flat_map (λ q. f q.part) qs ≡ flat_map f (map part_in qs)
by_part f [] = refl
by_part f (q ∷ qs) = ap (λ t. f q.part ++ t) (by_part f qs)

-- whatever is listed of each part
pub of_parts : {Z : Type 0} (f : Part → List Z) (es : List Equation) → flat_map (λ q. f q.part) (flat_map (parts_of []) es) ≡ flat_map f (flat_map inner_parts es)
of_parts f es =
    flat_flat (λ q. f q.part) (parts_of []) (λ e. flat_map f (inner_parts e)) (λ e. by_part f (parts_of [] e)) es
    ∙ sym (flat_flat f inner_parts (λ e. flat_map f (inner_parts e)) (λ e. refl) es)

pub all_expressions : (node : Node) → expressions node ≡ flat_map expressions_in (flat_map inner_parts node.block.body)
all_expressions node = of_parts expressions_in node.block.body

pub all_state_limits : (node : Node) → flat_map (λ q. state_limits q.part) (parts node) ≡ flat_map state_limits (flat_map inner_parts node.block.body)
all_state_limits node = of_parts state_limits node.block.body

map_flat : {X Y Z : Type 0} (f : Y → Z) (g : X → List Y) (xs : List X) → map f (flat_map g xs) ≡ flat_map (λ x. map f (g x)) xs
map_flat f g [] = refl
map_flat f g (x ∷ xs) = map-append f (g x) (flat_map g xs) ∙ ap (λ t. map f (g x) ++ t) (map_flat f g xs)

pub all_variables : (node : Node)
    → map decl_label (variables node) ≡ map decl_label node.inputs ++ map decl_label node.outputs ++ map decl_label node.block.locals ++ flat_map declared_labels (flat_map inner_parts node.block.body)
all_variables node =
    let rest = flat_map (λ (q : Placed). declared_in q.part) (flat_map (parts_of []) node.block.body) in
    let inner = flat_map declared_labels (flat_map inner_parts node.block.body) in
    let e : map decl_label rest ≡ inner = map_flat decl_label (λ (q : Placed). declared_in q.part) (flat_map (parts_of []) node.block.body) ∙ of_parts declared_labels node.block.body in
    map-append decl_label node.inputs ((node.outputs ++ node.block.locals) ++ rest)
    ∙ (ap (λ t. map decl_label node.inputs ++ t) (map-append decl_label (node.outputs ++ node.block.locals) rest)
    ∙ (ap (λ t. map decl_label node.inputs ++ (t ++ map decl_label rest)) (map-append decl_label node.outputs node.block.locals)
    ∙ (ap (λ t. map decl_label node.inputs ++ ((map decl_label node.outputs ++ map decl_label node.block.locals) ++ t)) e
    ∙ (sym (append_assoc (map decl_label node.inputs) (map decl_label node.outputs ++ map decl_label node.block.locals) inner)
    ∙ ap (λ t. t ++ inner) (sym (append_assoc (map decl_label node.inputs) (map decl_label node.outputs) (map decl_label node.block.locals)))))))

pub ruleset whole_node = (all_expressions, all_variables)
