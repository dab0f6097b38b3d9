use Rattle.std.proofs.Common.{sym, ◌∙◌, map}
use Rattle.block_definitions.specs.Defined.{is_gap}
use Rattle.earliest_fault.proofs.Noting.{any_mapped}
use Rattle.block_definitions.proofs.cases.has_gap.Goals as goal

pub returns : goal.returns
returns c = c.is_any_gap.ensures ∙ sym (any_mapped (is_gap (map (λ r. r.now) c.args.seen.now) (map (λ r. r.now) c.args.own.now)) (λ r. r.now) c.args.all.now)
