use Rattle.std.proofs.Common.{ℕ, Option}
use Rattle.hept_ast.specs.Meaning.{Question}
use Rattle.answer_table.specs.declared.questions.Asked.TheVariants as asked_of
use Rattle.erased_meaning.specs.Rules.{AreAsked, GoesTo}
use Rattle.erased_meaning.proofs.delays.previous.Given as goal

-- where the search goes from here it goes from the beginning
abbrev pub invariant-loop-at : goal.invariant-loop-at
invariant-loop-at l = (p r : ℕ → Question) (o : Option ℕ) → AreAsked l.answers l.path l.present p → AreAsked l.answers l.scope asked_of.Restarted r → GoesTo l.answers p r l.at o → GoesTo l.answers p r l.t o

abbrev pub decreases-loop-at : goal.decreases-loop-at
decreases-loop-at l = l.at
