use Rattle.std.proofs.Common.{sym, Some, None}
use Rattle.ept_tokens.proofs.Longest.{two_longest, one_longest}
use Rattle.ept_tokens.proofs.cutter.sign.Goals as goal

pub returns-in-Some : goal.returns-in-Some
returns-in-Some c = sym (two_longest _ _ c.in-Some.ensures.0 c.requires.sign c.in-Some.ensures.1)

pub returns-in-Some-fixed_kind : goal.returns-in-Some-fixed_kind
returns-in-Some-fixed_kind c = sym (one_longest _ c.requires.within c.requires.sign c.in_default.ensures (Some c.in-Some-fixed_kind.kind) (sym c.in-Some-fixed_kind.ensures))

pub returns-in-None : goal.returns-in-None
returns-in-None c = sym (one_longest _ c.requires.within c.requires.sign c.in_default.ensures None (sym c.in-None.ensures))
