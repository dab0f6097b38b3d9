-- Where in each node no two calls have one place, none have one in the texts that are called.
use Rattle.std.proofs.Common.{◌≡◌, ℕ, suc, Bool, true, false, List, [], ◌∷◌, Option, Some, None, refl, subst}
use Rattle.std.specs.Prelude.{if◌then◌else◌, slice_get}
use Rattle.std.specs.List.{find}
use Rattle.std.specs.Option.{option_map}
use Rattle.hept_ast.specs.Texts.{Name, same}
use Rattle.hept_ast.specs.Scopes.{Text, Written, Lowered}
use Rattle.hept_ast.specs.Settings.{written_node}
use Rattle.hept_ast.specs.CallPlaces.{block_places, text_places}
use Rattle.hept_ast.specs.Paths.{AllDiffer, ProgramPlacesDiffer, CorePlacesDiffer}
use Rattle.hept_ast.specs.declared.tree.Node.{Node}
use Rattle.hept_ast.specs.declared.tree.CoreNode.{CoreNode}

no_some : {A : Type 0} {x : A} → None ≡ Some x → ⊥
no_some e = cc

same_some : {A : Type 0} {x y : A} → Some x ≡ Some y → x ≡ y
same_some e = cc

one_of : (b : Bool) (n : ℕ) (node : Node) (o : Option Text) (other : Text) → AllDiffer (block_places node.block) → (o ≡ Some other → AllDiffer (text_places other)) →
    (if b then Some (Written n node) else o) ≡ Some other → AllDiffer (text_places other)
one_of true n node o other d h is = subst (λ (t : Text). AllDiffer (text_places t)) (same_some is) d
one_of false n node o other d h is = h is

named : (nodes : List Node) (n : ℕ) (f : Name) (other : Text) → ((i : ℕ) (node : Node) → slice_get nodes i ≡ Some node → AllDiffer (block_places node.block)) →
    written_node nodes n f ≡ Some other → AllDiffer (text_places other)
named [] n f other d is = absurd (no_some is)
named (node ∷ nodes) n f other d is =
    one_of (same f node.name) n node (written_node nodes (suc n) f) other (d 0 node refl) (λ e. named nodes (suc n) f other (λ i m at. d (suc i) m at) e) is

pub program_places_differ : ProgramPlacesDiffer
program_places_differ p clock marked replies k node d at = record { own = d k node at; called = λ f other is. named p.nodes 0 f other d is }

-- ---- cores

core_one : (b : Bool) (node : CoreNode) (o : Option CoreNode) (other : Text) → AllDiffer (text_places (Lowered node)) → (option_map Lowered o ≡ Some other → AllDiffer (text_places other)) →
    option_map Lowered (if b then Some node else o) ≡ Some other → AllDiffer (text_places other)
core_one true node o other d h is = subst (λ (t : Text). AllDiffer (text_places t)) (same_some is) d
core_one false node o other d h is = h is

core_named : (p : CoreNode → Bool) (nodes : List CoreNode) (other : Text) → ((i : ℕ) (node : CoreNode) → slice_get nodes i ≡ Some node → AllDiffer (text_places (Lowered node))) →
    option_map Lowered (find p nodes) ≡ Some other → AllDiffer (text_places other)
core_named p [] other d is = absurd (no_some is)
core_named p (node ∷ nodes) other d is = core_one (p node) node (find p nodes) other (d 0 node refl) (λ e. core_named p nodes other (λ i m at. d (suc i) m at) e) is

pub core_places_differ : CorePlacesDiffer
core_places_differ core marked replies k node d at = record { own = d k node at; called = λ f other is. core_named (λ n. same f n.name) core.nodes other d is }
