use Rattle.std.proofs.Common.{rules, sym}
use denote.Enum.Bare.{same_true}
use Rattle.ept_tokens.specs.contracts.token.Kind.{the_type}
use Rattle.ept_steps.proofs.look_ahead.take.Goals as goal

pub returns-then-eq : goal.returns-then-eq
returns-then-eq c = (c.in_ok-first.ensures.cases.0, same_true the_type (search rules) _ _ (sym c.if-eq.ensures))
