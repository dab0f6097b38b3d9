use Rattle.std.proofs.Common.{◌++◌, ℕ, List, ap}
use Rattle.std.specs.List.{flat_map}
use Rattle.hept_ast.specs.Limits.{name_limit, over}
use Rattle.earliest_fault.proofs.Noting.{noted_then}
use Rattle.text_limits.proofs.limits.note_type_limits.Goals as goal

pub returns : goal.returns
returns c =
    let p = c.args.declared.now.place.0 in
    let own = name_limit p c.args.declared.now.name in
    let many = over 256 (λ (k : List ℕ). p) c.args.declared.now.constructors in
    noted_then (own ++ many) (flat_map (name_limit p) c.args.declared.now.constructors) _ _ _ _ (ap (flat_map (name_limit p)) c.as_slice-2.ensures)
    (noted_then own many _ _ _ _ (ap (over 256 (λ (k : List ℕ). p)) c.as_slice.ensures) c.note_long.ensures c.note_over_names.ensures)
    c.note_long_names.ensures
