use Rattle.std.proofs.Common.{◌∙◌, ap, map, sym}
use Rattle.hept_ast.specs.Texts.{is_in, same}
use Rattle.earliest_fault.proofs.Noting.{any_mapped}
use Rattle.earliest_fault.proofs.name_set.has_name.Goals as goal

pub returns : goal.returns
returns c =
    let keys = c.args.names.now.keys in
    c.contains.ensures ∙ (sym (any_mapped (same c.bytes.result.now) (λ r. r.now) keys) ∙ ap (λ t. is_in t (map (λ r. r.now) keys)) c.bytes.ensures)
