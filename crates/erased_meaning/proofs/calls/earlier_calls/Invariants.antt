use Rattle.std.proofs.Common.{ℕ}
use Rattle.hept_ast.specs.Meaning.{Question}
use Rattle.answer_table.specs.declared.questions.Asked.TheVariants as asked_of
use Rattle.erased_meaning.specs.Rules.{AreAsked}
use Rattle.erased_meaning.specs.CallRules.{CountsOn}
use Rattle.erased_meaning.proofs.calls.earlier_calls.Given as goal

-- the instants from here on are counted
abbrev pub invariant-loop-at : goal.invariant-loop-at
invariant-loop-at l = (present : ℕ → Question) → AreAsked l.answers l.path asked_of.Present present → CountsOn l.answers present l.at l.t

abbrev pub decreases-loop-at : goal.decreases-loop-at
decreases-loop-at l = l.at
