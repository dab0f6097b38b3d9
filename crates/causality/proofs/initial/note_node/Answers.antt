use Rattle.std.proofs.Common.{◌≡◌, ◌++◌, List, ℕ, ◌∙◌, ap, map, subst, sym}
use Rattle.std.specs.List.{flat_map}
use Rattle.hept_ast.specs.Parts.{Placed, parts, seen_at, expressions}
use Rattle.hept_ast.specs.Initial.{unmet_decl, unmet_part, unmet_by}
use Rattle.hept_ast.specs.declared.tree.Expr.{Expr}
use Rattle.causality.specs.Flows.{flow_of}
use Rattle.causality.specs.Rounds.{AreNil}
use Rattle.causality.specs.Demands.{grades_from, unmet_parts}
use Rattle.causality.specs.Lowest.{lower, lowest}
use Rattle.causality.proofs.LowestOf.{lowest_both}
use Rattle.causality.proofs.Initialised.{nil_least, parts_are}
use Rattle.causality.proofs.initial.note_node.Goals as goal

pub returns : goal.returns
returns c =
    let nil : List (List ℕ) = map (λ r. r.now) c.in_ok-nil.nil.items in
    let g = grades_from nil in
    let node = c.args.node.now in
    let among = flat_map (λ (q : Placed). unmet_part g (seen_at node q.site) q.part) (parts node) in
    let own : List Expr → List ℕ = flat_map (λ (e : Expr). unmet_by g e.place.0 e.form) in
    record {
      grades = g;
      least = nil_least node nil (subst (λ fs. AreNil fs nil) (ap (map flow_of) c.as_slice.ensures.value ∙ c.in_ok-flows.ensures) c.in_ok-nil.ensures);
      found =
          lowest_both (flat_map (unmet_decl g) node.outputs ++ among) (own (expressions node)) _ _ _
          (lowest_both (flat_map (unmet_decl g) node.outputs) among _ _ _
          (subst (λ ns. c.note_decls.new.found ≡ lower c.args.found.now (lowest (flat_map (unmet_decl (grades_from ns)) node.outputs))) (ap (map (λ r. r.now)) c.as_slice-3.ensures.value)
          (subst (λ ds. c.note_decls.new.found ≡ lower c.args.found.now (lowest (flat_map (unmet_decl (grades_from (map (λ r. r.now) c.as_slice-3.result.now))) ds))) c.as_slice-2.ensures c.note_decls.ensures))
          (subst (λ ps. c.note_parts.new.found ≡ lower c.note_decls.new.found (lowest ps)) (sym (parts_are g node))
          (subst (λ ns. c.note_parts.new.found ≡ lower c.note_decls.new.found (lowest (unmet_parts (grades_from ns) node))) (ap (map (λ r. r.now)) c.as_slice-4.ensures.value) c.in_ok-note_parts.ensures)))
          (subst (λ es. c.note_operands.new.found ≡ lower c.note_parts.new.found (lowest (own es))) (ap (map (λ r. r.now)) c.as_slice-5.ensures.value ∙ c.in_ok-exprs.ensures)
          (subst (λ ns. c.note_operands.new.found ≡ lower c.note_parts.new.found (lowest (flat_map (λ (e : Expr). unmet_by (grades_from ns) e.place.0 e.form) (map (λ r. r.now) c.as_slice-5.result.now))))
          (ap (map (λ r. r.now)) c.as_slice-6.ensures.value) c.note_operands.ensures));
    }
