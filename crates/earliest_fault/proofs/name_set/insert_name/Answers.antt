use Rattle.std.proofs.Common.{◌||◌, ◌∙◌, ap, map, not, sym}
use Rattle.hept_ast.specs.Texts.{is_in, same}
use Rattle.earliest_fault.proofs.NameSets.{inserted}
use Rattle.earliest_fault.proofs.Noting.{any_mapped}
use Rattle.earliest_fault.proofs.name_set.insert_name.Goals as goal

pub returns-in-Ok-clause-added : goal.returns-in-Ok-clause-added
returns-in-Ok-clause-added c =
    let keys = c.args.names.now.keys in
    c.in-Ok.ensures.added
    ∙ (ap not (sym (any_mapped (same c.bytes.result.now) (λ r. r.now) keys)) ∙ ap (λ t. not (is_in t (map (λ r. r.now) keys))) c.bytes.ensures)

pub returns-in-Ok-clause-names : goal.returns-in-Ok-clause-names
returns-in-Ok-clause-names c = λ x.
    let keys = c.args.names.now.keys in
    inserted (λ r. r.now) keys c.insert.new.self.keys c.bytes.result x c.in-Ok.ensures.keys ∙ ap (λ t. is_in x (map (λ r. r.now) keys) || same x t) c.bytes.ensures
