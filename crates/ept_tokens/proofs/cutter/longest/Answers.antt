use Rattle.std.proofs.Common.{rules, sym}
use Rattle.ept_tokens.proofs.Longest.{number_longest, capital_longest}
use Rattle.ept_tokens.proofs.cutter.longest.Goals as goal

pub returns-in-48-to-57 : goal.returns-in-48-to-57
returns-in-48-to-57 c = sym (number_longest _ _ c.requires (search rules) c.digits_length.ensures.value)

pub returns-in-65-to-90 : goal.returns-in-65-to-90
returns-in-65-to-90 c = sym (capital_longest _ _ c.requires (search rules) c.name_length.ensures.value)
