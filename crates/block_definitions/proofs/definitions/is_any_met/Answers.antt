use Rattle.std.proofs.Common.{sym, ◌∙◌, map}
use Rattle.hept_ast.specs.Texts.{is_in}
use Rattle.earliest_fault.proofs.Noting.{any_mapped}
use Rattle.block_definitions.proofs.definitions.is_any_met.Goals as goal

pub returns : goal.returns
returns c = c.is_one_met.ensures ∙ sym (any_mapped (λ x. is_in x (map (λ r. r.now) c.args.met.now.keys)) (λ r. r.now) c.args.names.now)
