-- In a program that is read no two calls of a node have one place, and no two sites have one path.
use Rattle.std.proofs.Common.{◌≡◌, ℕ, zero, suc, List, [], ◌∷◌, ◌++◌, Some, None, refl, sym, ap, subst, ◌∙◌, append_assoc}
use Rattle.std.specs.Prelude.{slice_get}
use Rattle.hept_ast.specs.Scopes.{Written}
use Rattle.hept_ast.specs.Settings.{of_program}
use Rattle.hept_ast.specs.CallPlaces.{block_places}
use Rattle.hept_ast.specs.declared.name.Place.{Place}
use Rattle.hept_ast.specs.declared.tree.Node.{Node}
use Rattle.hept_ast.proofs.PlacesOfNodes.{program_places_differ}
use Rattle.hept_ast.proofs.PathsApart.{paths_differ}
use Rattle.hept_ast.proofs.CallPlacesOf.{places_tell_calls}
use Rattle.hept_ast.proofs.PathsOf.{paths_tell_calls}
use Rattle.ept_grammar.specs.declared.parts.Role.{Role}
use Rattle.ept_tokens.specs.declared.token.Token.{Token}
use Rattle.ept_grammar.specs.Grammar.{Symbol, word, part, Values, joined, place_of, Spells}
use Rattle.read_laws.specs.Laws.{ReadPlacesDiffer, ReadPathsDiffer, ReadPathsTell}
use Rattle.read_laws.proofs.Sublists.{Sub, empty, taken, all, left, before, both, through, differ_sub}
use Rattle.read_laws.proofs.PartPlaces.{nodes_places, places, all_places, Starts_at, Fine, each_at, all_fine}
use Rattle.read_laws.proofs.Increasing.{token_places, tokens_differ}

begun : {ss : List Symbol} {vs : Values ss} {ts : List Token} {rs : List Role} → Spells ss vs ts rs → Starts_at ss vs (place_of ts)
begun Spells.none = tt
begun (Spells.token e d) = refl
begun (Spells.by r i us d) = tt

front_begun : (a b : List Symbol) (us : Values a) (vs : Values b) (p : Place) → Starts_at (a ++ b) (joined a b us vs) p → Starts_at a us p
front_begun [] b us vs p h = tt
front_begun (word r k ∷ a) b us vs p h = h
front_begun (part n ∷ a) b us vs p h = tt

places_joined : (a b : List Symbol) (us : Values a) (vs : Values b) → all_places (a ++ b) (joined a b us vs) ≡ all_places a us ++ all_places b vs
places_joined [] b us vs = refl
places_joined (word r k ∷ a) b us vs = ap (λ (x : List ℕ). us.0.place.0 ∷ x) (places_joined a b us.1 vs)
places_joined (part n ∷ a) b us vs = ap (λ (x : List ℕ). places n us.0 ++ x) (places_joined a b us.1 vs) ∙ sym (append_assoc (places n us.0) (all_places a us.1) (all_places b vs))

-- the places of calls are among those of the tokens, in their order
spelled : {ss : List Symbol} {vs : Values ss} {ts : List Token} {rs : List Role} → Spells ss vs ts rs → Sub (all_places ss vs) (token_places ts)
spelled Spells.none = empty
spelled (Spells.token e d) = taken (spelled d)
spelled (Spells.by {n = n} {ss = ss} {vs = vs} {ts = ts} r i us d) =
    through
    (both (all_places ss vs) (all_places ss vs) (each_at (Fine n) i (all_fine n) (place_of ts) us (front_begun r.right ss us vs (place_of ts) (begun d))) (all (all_places ss vs)))
    (subst (λ (x : List ℕ). Sub x (token_places ts)) (places_joined r.right ss us vs) (spelled d))

no_some : {A : Type 0} {x : A} → None ≡ Some x → ⊥
no_some e = cc

same_some : {A : Type 0} {x y : A} → Some x ≡ Some y → x ≡ y
same_some e = cc

in_nodes : (nodes : List Node) (i : ℕ) (node : Node) → slice_get nodes i ≡ Some node → Sub (block_places node.block) (nodes_places nodes)
in_nodes [] i node e = absurd (no_some e)
in_nodes (n ∷ nodes) zero node e = subst (λ (m : Node). Sub (block_places m.block) (nodes_places (n ∷ nodes))) (same_some e) (left (block_places n.block) (nodes_places nodes))
in_nodes (n ∷ nodes) (suc i) node e = before (block_places n.block) (in_nodes nodes i node e)

pub read_places_differ : ReadPlacesDiffer
read_places_differ bytes program text i node e =
    let whole : Sub (nodes_places program.nodes ++ []) (token_places text.tokens) = spelled text.text.1 in
    let own : Sub (block_places node.block) (nodes_places program.nodes) = in_nodes program.nodes i node e in
    differ_sub (through own (through (left (nodes_places program.nodes) []) whole)) (tokens_differ text.cut)

pub read_paths_differ : ReadPathsDiffer
read_paths_differ bytes program text clock marked replies k node sites e lefts h =
    paths_differ (of_program program clock marked replies) (Written k node) sites lefts
    (program_places_differ program clock marked replies k node (read_places_differ bytes program text) e) h

pub read_paths_tell : ReadPathsTell
read_paths_tell bytes program text clock marked replies k node sites e lefts h rows =
    paths_tell_calls (of_program program clock marked replies) rows (Written k node) sites
    (places_tell_calls (of_program program clock marked replies) (Written k node) lefts
    (program_places_differ program clock marked replies k node (read_places_differ bytes program text) e)) lefts h
