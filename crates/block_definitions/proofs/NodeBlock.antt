-- What is found of a node's own block, list by list.
use Rattle.std.proofs.Common.{◌≡◌, List, [], ◌++◌, sym, ◌∙◌, ap, map, append_assoc}
use Rattle.std.specs.Prelude.{Option, Result, OnOk}
use Rattle.std.specs.List.{flat_map}
use Rattle.std.proofs.lemmas.Grind.{flat_map-append}
use Rattle.hept_ast.specs.Faults.{Fault, second_definitions}
use Rattle.hept_ast.specs.Limits.{earlier_of, earliest}
use Rattle.hept_ast.specs.Parts.{equation_case, sets_of}
use Rattle.hept_ast.specs.Texts.{Name, is_in}
use Rattle.hept_ast.specs.declared.name.Memory.{Memory}
use Rattle.hept_ast.specs.declared.tree.Decl.{Decl}
use Rattle.hept_ast.specs.declared.tree.Equation.{Equation}
use Rattle.hept_ast.specs.declared.tree.TypeDec.{TypeDec}
use Rattle.declared_types.specs.Typing.{decl_faults_by}
use Rattle.earliest_fault.proofs.Noting.{also_noted, noted_both, renamed}
use Rattle.block_definitions.specs.Defined.{block_faults, undefined_fault}
use Rattle.block_definitions.proofs.Again.{undefined_same}

regrouped : (types : List TypeDec) (os ls : List Decl) (body : List Equation)
    → flat_map (decl_faults_by types) os ++ flat_map (decl_faults_by types) ls ++ flat_map (undefined_fault (flat_map sets_of body)) os ++ flat_map (undefined_fault (flat_map sets_of body)) ls ++ second_definitions [] (map equation_case body)
    ≡ block_faults types (os ++ ls) body
regrouped types os ls body =
    let u = undefined_fault (flat_map sets_of body) in
    let s = second_definitions [] (map equation_case body) in
    ap (λ t. t ++ s) (append_assoc (flat_map (decl_faults_by types) os ++ flat_map (decl_faults_by types) ls) (flat_map u os) (flat_map u ls))
    ∙ (ap (λ t. t ++ (flat_map u os ++ flat_map u ls) ++ s) (sym (flat_map-append (decl_faults_by types) os ls))
    ∙ ap (λ t. flat_map (decl_faults_by types) (os ++ ls) ++ t ++ s) (sym (flat_map-append u os ls)))

pub node_block_noted : (types : List TypeDec) (os ls : List Decl) (body : List Equation) (met : List Name) (first a b c d q : Option Fault) (r : Result (Unit {0}) Memory)
    → ((x : Name) → is_in x met ≡ is_in x (flat_map sets_of body))
    → a ≡ earlier_of first (earliest (flat_map (decl_faults_by types) os)) → b ≡ earlier_of a (earliest (flat_map (decl_faults_by types) ls))
    → c ≡ earlier_of b (earliest (flat_map (undefined_fault met) os)) → d ≡ earlier_of c (earliest (flat_map (undefined_fault met) ls))
    → OnOk r (q ≡ earlier_of d (earliest (second_definitions [] (map equation_case body)))) → OnOk r (q ≡ earlier_of first (earliest (block_faults types (os ++ ls) body)))
node_block_noted types os ls body met first a b c d q r e ha hb hc hd h =
    let ds = flat_map (decl_faults_by types) os in
    let es = flat_map (decl_faults_by types) ls in
    let us = flat_map (undefined_fault (flat_map sets_of body)) os in
    let vs = flat_map (undefined_fault (flat_map sets_of body)) ls in
    renamed (ds ++ es ++ us ++ vs ++ second_definitions [] (map equation_case body)) (block_faults types (os ++ ls) body) first q r (regrouped types os ls body)
    (also_noted (ds ++ es ++ us ++ vs) (second_definitions [] (map equation_case body)) first d q r
    (noted_both (ds ++ es ++ us) vs first c d
    (noted_both (ds ++ es) us first b c (noted_both ds es first a b ha hb) (hc ∙ ap (λ t. earlier_of b (earliest t)) (undefined_same met (flat_map sets_of body) os e)))
    (hd ∙ ap (λ t. earlier_of c (earliest t)) (undefined_same met (flat_map sets_of body) ls e))) h)

pub block_renamed : (types : List TypeDec) (os ps ls ms : List Decl) (body other : List Equation) (first q : Option Fault) (r : Result (Unit {0}) Memory) → os ≡ ps → ls ≡ ms → body ≡ other
    → OnOk r (q ≡ earlier_of first (earliest (block_faults types (os ++ ls) body))) → OnOk r (q ≡ earlier_of first (earliest (block_faults types (ps ++ ms) other)))
block_renamed types os ps ls ms body other first q r e g h k =
    renamed (block_faults types (os ++ ls) body) (block_faults types (ps ++ ms) other) first q r
    (ap (λ t. block_faults types (t ++ ls) body) e ∙ (ap (λ t. block_faults types (ps ++ t) body) g ∙ ap (block_faults types (ps ++ ms)) h)) k
