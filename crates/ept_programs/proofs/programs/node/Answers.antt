use Rattle.std.proofs.Common.{refl}
use Rattle.ept_grammar.proofs.Steps.{placed, at_exit, begun_sole, fails_part, fails_word, past_part, past_word}
use Rattle.ept_programs.proofs.programs.node.Goals as goal

pub returns-in_err-word-clause-reads : goal.returns-in_err-word-clause-reads
returns-in_err-word-clause-reads c =
    at_exit _ _ _ c.in_err-word.field-0.0 c.from_residual.ensures.1 (fails_word (begun_sole _ refl) c.in_err-word.ensures)

pub returns-in_err-title-clause-reads : goal.returns-in_err-title-clause-reads
returns-in_err-title-clause-reads c =
    at_exit _ _ _ c.in_err-title.field-0.0 c.from_residual-in_err-title.ensures.1 (fails_word (past_word (begun_sole _ refl) c.in_ok-word.ensures) c.in_err-title.ensures)

pub returns-in_err-inputs-clause-reads : goal.returns-in_err-inputs-clause-reads
returns-in_err-inputs-clause-reads c =
    at_exit _ _ _ c.in_err-inputs.field-0.0 c.from_residual-in_err-inputs.ensures.1 (fails_part (past_word (past_word (begun_sole _ refl) c.in_ok-word.ensures) c.in_ok-title.ensures) _ c.in_err-inputs.ensures.reads)

pub returns-in_err-block-clause-reads : goal.returns-in_err-block-clause-reads
returns-in_err-block-clause-reads c =
    at_exit _ _ _ c.in_err-block.field-0.0 c.from_residual-in_err-block.ensures.1 (fails_part (past_part (past_word (past_word (begun_sole _ refl) c.in_ok-word.ensures) c.in_ok-title.ensures) c.in_ok-inputs.ensures.reads) _ c.in_err-block.ensures.reads)

pub returns-clause-reads : goal.returns-clause-reads
returns-clause-reads c =
    placed (λ p. record { place = p; name = c.in_ok-name.name; inputs = c.in_ok-inputs.inputs; outputs = c.in_ok-inputs.outputs; block = c.in_ok-block.block }) _ c.in_ok-word.ensures refl (rw c.in_ok-name.ensures (past_part (past_part (past_word (past_word (begun_sole _ refl) c.in_ok-word.ensures) c.in_ok-title.ensures) c.in_ok-inputs.ensures.reads) c.in_ok-block.ensures.reads))
