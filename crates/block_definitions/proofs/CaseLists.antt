-- Branches and states as cases.
use Rattle.std.proofs.Common.{◌≡◌, List, [], ◌∷◌, refl, sym, ◌∙◌, ap, map}
use Rattle.std.specs.List.{flat_map}
use Rattle.hept_ast.specs.Texts.{Name}
use Rattle.hept_ast.specs.Faults.{labels}
use Rattle.hept_ast.specs.Parts.{block_sets, branch_case, state_case}
use Rattle.hept_ast.specs.declared.tree.Branch.{Branch}
use Rattle.hept_ast.specs.declared.tree.Decl.{Decl}
use Rattle.hept_ast.specs.declared.tree.State.{State}
use Rattle.block_definitions.specs.Defined.{block_gap, gaps_in, state_label, tag_label}
use Rattle.earliest_fault.proofs.Noting.{flat_mapped}

pub branch_labels : (bs : List Branch) → labels (map branch_case bs) ≡ map tag_label bs
branch_labels [] = refl
branch_labels (b ∷ bs) = ap (λ t. tag_label b ∷ t) (branch_labels bs)

pub state_labels : (qs : List State) → labels (map state_case qs) ≡ map state_label qs
state_labels [] = refl
state_labels (q ∷ qs) = ap (λ t. state_label q ∷ t) (state_labels qs)

pub gaps_of_branches : (seen : List Decl) (all : List Name) (bs : List Branch) → all ≡ flat_map (λ b. block_sets b.block) bs
    → flat_map (λ b. block_gap seen all b.place.0 (block_sets b.block)) bs ≡ gaps_in seen (map branch_case bs)
gaps_of_branches seen all bs e =
    ap (λ t. flat_map (λ (b : Branch). block_gap seen t b.place.0 (block_sets b.block)) bs) (e ∙ sym (flat_mapped (λ d. d.sets) branch_case bs))
    ∙ sym (flat_mapped (λ c. block_gap seen (flat_map (λ d. d.sets) (map branch_case bs)) c.place c.sets) branch_case bs)

pub gaps_of_states : (seen : List Decl) (all : List Name) (qs : List State) → all ≡ flat_map (λ q. block_sets q.block) qs
    → flat_map (λ q. block_gap seen all q.place.0 (block_sets q.block)) qs ≡ gaps_in seen (map state_case qs)
gaps_of_states seen all qs e =
    ap (λ t. flat_map (λ (q : State). block_gap seen t q.place.0 (block_sets q.block)) qs) (e ∙ sym (flat_mapped (λ d. d.sets) state_case qs))
    ∙ sym (flat_mapped (λ c. block_gap seen (flat_map (λ d. d.sets) (map state_case qs)) c.place c.sets) state_case qs)

pub ruleset case_labels = (branch_labels, state_labels)
