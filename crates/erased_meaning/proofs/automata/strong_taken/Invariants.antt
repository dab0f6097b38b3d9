use Rattle.std.proofs.Common.{drop}
use Rattle.hept_ast.specs.Meaning.{taken}
use Rattle.hept_ast.specs.Meaning as meaning
use Rattle.answer_table.specs.declared.questions.Answer.{Answer}
use Rattle.answer_table.specs.Tables.{setting_in}
use Rattle.erased_meaning.specs.Pending.{AutomatonGives, StrongGives}
use Rattle.erased_meaning.proofs.automata.strong_taken.Given as goal

-- what the transitions that are left come to, all come to
abbrev pub invariant-loop-escape : goal.invariant-loop-escape
invariant-loop-escape l =
    (a : Answer) → AutomatonGives l.answers l.scope l.equation l.states (λ z. taken (setting_in l.answers) (drop l.escape l.transition-items) l.states (meaning.State_at l.state l.mark) z l.t) a →
    StrongGives l.answers l.scope l.equation l.states (l.state, l.mark) l.t a
