use Rattle.ept_grammar.specs.Grammar.{here, there}
use Rattle.ept_grammar.proofs.Steps.{at_exit, begun_word, fails_part, past_part}
use Rattle.ept_grammar.proofs.Words.{item_node, type_begins}
use Rattle.ept_programs.proofs.programs.item.Goals as goal

pub returns-in_err-dec-clause-reads : goal.returns-in_err-dec-clause-reads
returns-in_err-dec-clause-reads c =
    at_exit _ _ _ c.in_err-dec.field-0.0 c.from_residual.ensures.1 (fails_part (begun_word (there here) type_begins c.in-Some.ensures) _ c.in_err-dec.ensures.reads)

pub returns-in-Some-clause-reads : goal.returns-in-Some-clause-reads
returns-in-Some-clause-reads c =
    rw c.in_ok-with_type.ensures (past_part (begun_word (there here) type_begins c.in-Some.ensures) c.in_ok-dec.ensures.reads)

pub returns-in_err-node-clause-reads : goal.returns-in_err-node-clause-reads
returns-in_err-node-clause-reads c =
    at_exit _ _ _ c.in_err-node.field-0.0 c.from_residual-in_err-node.ensures.1 (fails_part (item_node c.in_default.ensures) _ c.in_err-node.ensures.reads)

pub returns-clause-reads : goal.returns-clause-reads
returns-clause-reads c =
    rw c.in_ok-with_node.ensures (past_part (item_node c.in_default.ensures) c.in_ok-node.ensures.reads)
