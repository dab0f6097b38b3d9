-- A program without faults whose erasure has one: one of its types has no constructor.
--
-- A merge on a variable of that type needs no branch, and then it has no type and no fault. So the merge around it has no type either, and that it is one on a future is no fault. Erased, it is one on a bool, and a branch is missing.
use Rattle.std.proofs.Common.{◌≡◌, false, List, [], ◌∷◌, ◌++◌, map, refl, sym, ap, ◌∙◌}
use Rattle.std.specs.Prelude.{Some, true, not, codes}
use Rattle.std.specs.List.{flat_map}
use Rattle.std.specs.Option.{option_map_or}
use Rattle.hept_ast.specs.Texts.{Name, same}
use Rattle.hept_ast.specs.Parts.{Block as Block_part, Plain, Placed, parts}
use Rattle.hept_ast.specs.Faults.{Mismatch, NotDefined, fault, seconds, left_faults, demanded, fits_left, left_types, judge_expr, Judged, judged, Judging, part_faults, read_faults, lack_faults, merge_fit, type_of_variable, judging, node_faults, faults}
use Rattle.hept_ast.specs.Erasure.{erased_expr, erased_branch, erased_node, erased}
use Rattle.hept_ast.specs.ErasedParts.{erased_placed}
use Rattle.hept_ast.specs.declared.tree.Expr.{Expr}
use Rattle.hept_ast.specs.declared.tree.MergeBranch.{MergeBranch}
use Rattle.hept_ast.specs.declared.tree.Node.{Node}
use Rattle.hept_ast.specs.declared.tree.Program.{Program}
use Rattle.hept_ast.specs.declared.tree.Ty.{Ty}
use Rattle.hept_ast.specs.declared.tree.Ty.TheVariants as ty
use Rattle.hept_ast.specs.declared.tree.Plain.TheVariants.{Bool as Truth_value, Named}
use Rattle.hept_ast.specs.declared.tree.Tag.TheVariants as tag
use Rattle.hept_ast.specs.declared.tree.Form.TheVariants as form
use Rattle.hept_ast.proofs.PlacedPrograms.{at, ex, decl, int, define, node}
use Rattle.hept_ast.proofs.JudgeOf.{judge_of, branch_row, judge-Merge}
use Rattle.hept_ast.proofs.ErasedPartsOf.{erased_keeps_parts}
use Rattle.hept_ast.proofs.Unfolded.{static}
use Rattle.erased_rules.specs.ErasedTypes.{TypedNeedsConstructors}
use Rattle.erased_rules.proofs.Lists.{nil_left, nil_right}
use Rattle.erased_rules.proofs.ByForms.{erased-Merge}
use Rattle.erased_rules.proofs.Judgings.{erased_judging, filled, own_nil, seen_type}
use Rattle.erased_rules.proofs.TypesKept.{name_faults, input_faults, output_faults, placed_faults, judging_same}

abbrev branches : List MergeBranch
branches = record { place = at 14; tag = tag.Truth true; value = ex 15 (form.Merge (codes "y") []) } ∷ []

abbrev right : Expr
right = ex 13 (form.Merge (codes "x") branches)

-- node main(y:e; x:future bool) returns (z:int) let z = merge x (true -> merge y) tel
abbrev main : Node
main = node 8 (codes "main") (decl 9 (codes "y") (ty.Plain (Named (codes "e"))) ∷ decl 10 (codes "x") (ty.Future Truth_value) ∷ []) (decl 11 (codes "z") int ∷ []) [] (define 12 (codes "z") right ∷ [])

-- with a type e of no constructors
abbrev program : Program
program = record { types = record { place = at 5; name = codes "e"; constructors = [] } ∷ []; nodes = main ∷ [] }

has_no_fault : faults program ≡ []
unfolding static
has_no_fault = refl

abbrev plain : Placed
plain = record { site = []; part = Plain 12 (codes "z" ∷ []) right }

abbrev first : Placed
first = record { site = []; part = Block_part (decl 11 (codes "z") int ∷ []) (record { place = 12; label = tt; sets = codes "z" ∷ [] } ∷ []) }

parts_are : parts main ≡ first ∷ plain ∷ []
unfolding static
parts_are = refl

abbrev w : Judging
w = judging program main plain

abbrev v : Judging
v = erased_judging w

-- the equation of the erased node is judged without fault
equation_nil : faults (erased program) ≡ [] → placed_faults (erased program) (erased_node main) (erased_placed plain) ≡ []
equation_nil h =
    let p = erased program in
    let m = erased_node main in
    let f = placed_faults p m in
    let ns : node_faults p m ++ [] ≡ [] = nil_right (seconds same [] (map (λ t. (t.place.0, t.name)) p.types) ++ seconds same [] (flat_map (λ t. map (λ c. (t.place.0, c)) t.constructors) p.types)
    ++ seconds same [] (map (λ (n : Node). (n.place.0, n.name)) p.nodes)) (flat_map (node_faults p) p.nodes) h in
    let n : node_faults p m ≡ [] = nil_left (node_faults p m) [] ns in
    let ps : flat_map f (parts m) ≡ [] = nil_right (name_faults m ++ input_faults p m ++ output_faults p m) (flat_map f (parts m)) n in
    let qs : flat_map f (map erased_placed (parts main)) ≡ [] = ap (flat_map f) (sym (erased_keeps_parts main)) ∙ ps in
    let rs : f (erased_placed first) ++ f (erased_placed plain) ++ [] ≡ [] = ap (λ (l : List Placed). flat_map f (map erased_placed l)) (sym parts_are) ∙ qs in
    nil_left (f (erased_placed plain)) [] (nil_right (f (erased_placed first)) (f (erased_placed plain) ++ []) rs)

has_a_fault : faults (erased program) ≡ [] → ⊥
has_a_fault h =
    let left = codes "z" ∷ [] in
    let part = Plain 12 left (erased_expr right) in
    let n : part_faults v part ≡ [] = ap (λ (j : Judging). part_faults j part) (sym (judging_same program main plain)) ∙ equation_nil h in
    let j = judge_expr v (erased_expr right) in
    let pass = fits_left v (left_types v left) in
    let d : demanded v 12 pass j ≡ [] = nil_right (flat_map (left_faults v 12) left ++ seconds same [] (map (λ (x : Name). (12, x)) left)) (demanded v 12 pass j) n in
    let jn : j.faults ≡ [] = nil_right (fault 12 Mismatch (not (option_map_or pass j.types true))) j.faults d in
    let given = map (λ (b : MergeBranch). b.tag) (map erased_branch branches) in
    let on = type_of_variable v (codes "x") in
    let own = read_faults v 13 (codes "x") ++ lack_faults v 13 given on in
    let row = branch_row v on [] (map erased_branch branches) in
    let e : j ≡ judged 13 own row (merge_fit v on) = ap (judge_of v false) (erased-Merge (at 13) (codes "x") branches) ∙ judge-Merge v false 13 (codes "x") (map erased_branch branches) in
    let o : own ≡ [] = own_nil 13 own row (merge_fit v on) (ap (λ (k : Judged (List Ty)). k.faults) (sym e) ∙ jn) in
    let l : lack_faults v 13 given on ≡ [] = nil_right (read_faults v 13 (codes "x")) (lack_faults v 13 given on) o in
    let i : on ≡ Some (ty.Plain Truth_value) = seen_type w (codes "x") in
    filled (record { place = 13; kind = NotDefined }) [] (ap (lack_faults v 13 given) (sym i) ∙ l)

pub typed_needs_constructors : TypedNeedsConstructors
typed_needs_constructors = (program, has_no_fault, has_a_fault)
