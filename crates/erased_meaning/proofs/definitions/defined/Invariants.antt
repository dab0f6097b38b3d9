use Rattle.std.proofs.Common.{◌≡◌, drop}
use Rattle.hept_ast.specs.Scopes.{Scope, block_of}
use Rattle.hept_ast.specs.Meaning.{block_rule}
use Rattle.answer_table.specs.declared.questions.Answer.{Answer}
use Rattle.answer_table.specs.Things.{In}
use Rattle.answer_table.specs.Tables.{RuleGives, setting_in, thing_in}
use Rattle.erased_meaning.proofs.definitions.defined.Given as goal

-- what the first of the equations that are left says, the first of all says
abbrev pub invariant-loop-equation : goal.invariant-loop-equation
invariant-loop-equation l = (scope : Scope) (a : Answer) → thing_in l.answers l.scope ≡ In scope →
    RuleGives l.answers (block_rule (setting_in l.answers) (drop l.equation (block_of scope).body) l.name scope l.t) a →
    RuleGives l.answers (block_rule (setting_in l.answers) (block_of scope).body l.name scope l.t) a
