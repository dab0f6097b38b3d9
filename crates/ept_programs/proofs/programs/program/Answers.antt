use Rattle.std.proofs.Common.{refl, sym, ◌∙◌}
use Rattle.ept_grammar.specs.Grammar.{here}
use Rattle.ept_grammar.proofs.Steps.{nest, same_gives, at_exit, begun_empty, fails_part, past_part}
use Rattle.ept_grammar.proofs.Words.{whole_begun, whole_first}
use Rattle.ept_programs.proofs.Wholes.{more_program, whole_program}
use Rattle.ept_programs.proofs.programs.program.Goals as goal

pub returns-in_err-next : goal.returns-in_err-next
returns-in_err-next c =
    at_exit _ _ _ c.in_err-next.field-0.0 c.from_residual.ensures.1 (fails_part c.items.invariant _ (fails_part (whole_begun (sym c.starts_item.ensures ∙ c.items-test.true)) _ c.in_err-next.ensures.reads))

pub items-preserved : goal.items-preserved
items-preserved c = same_gives _ _ (λ us. more_program _ _ _ _ us.0 c.in_ok-append.ensures c.in_ok-append-2.ensures) (nest c.items.invariant (past_part (whole_begun (sym c.starts_item.ensures ∙ c.items-test.true)) c.in_ok-next.ensures.reads))

pub returns : goal.returns
returns c =
    same_gives _ _ (λ us. whole_program c.items.types c.items.nodes) (nest c.items.invariant (begun_empty here refl (whole_first _ (sym c.starts_item.ensures ∙ c.items-test.false))))
