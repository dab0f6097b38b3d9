use Rattle.std.proofs.Common.{sym, ◌∙◌}
use Rattle.hept_ast.specs.Texts.{same}
use Rattle.node_text.proofs.Lists.{any_mapped}
use Rattle.node_text.proofs.names.is_listed.Goals as goal

pub returns : goal.returns
returns c = c.is_any.ensures ∙ sym (any_mapped (same c.args.name.now) (λ r. r.now) c.args.names.now)
