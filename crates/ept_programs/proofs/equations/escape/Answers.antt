use Rattle.std.proofs.Common.{refl, sym, subst}
use Rattle.ept_grammar.specs.Grammar.{Escape_of}
use Rattle.ept_grammar.specs.Reading.{Reads}
use Rattle.ept_grammar.proofs.Steps.{at_exit, begun_sole, fails_part, past_part}
use Rattle.ept_programs.proofs.equations.escape.Goals as goal

pub returns-in_err-condition-clause-reads : goal.returns-in_err-condition-clause-reads
returns-in_err-condition-clause-reads c =
    at_exit _ _ _ c.in_err-condition.field-0.0 c.from_residual.ensures.1 (fails_part (begun_sole _ refl) _ c.in_err-condition.ensures.reads)

pub returns-in_err-restart-clause-reads : goal.returns-in_err-restart-clause-reads
returns-in_err-restart-clause-reads c =
    at_exit _ _ _ c.in_err-restart.field-0.0 c.from_residual-in_err-restart.ensures.1 (fails_part (past_part (begun_sole _ refl) c.in_ok-condition.ensures.reads) _ c.in_err-restart.ensures.reads)

pub returns-clause-reads : goal.returns-clause-reads
returns-clause-reads c =
    subst (λ p. Reads Escape_of c.args.tokens.now c.args.counts (record { place = p; condition = c.in_ok-condition.condition; target = c.in_ok-restart.target; restart = c.in_ok-restart.restart }) c.in_ok-restart.rest.now c.in_ok-restart.counts) (sym c.place_of-place.ensures) (past_part (past_part (begun_sole _ refl) c.in_ok-condition.ensures.reads) c.in_ok-restart.ensures.reads)
