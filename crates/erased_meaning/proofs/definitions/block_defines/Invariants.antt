use Rattle.std.proofs.Common.{◌≡◌, Bool, drop}
use Rattle.hept_ast.specs.Scopes.{Scope, block_of}
use Rattle.answer_table.specs.Things.{In}
use Rattle.answer_table.specs.Tables.{thing_in}
use Rattle.erased_meaning.specs.Rules.{TestsDefined}
use Rattle.erased_meaning.proofs.definitions.block_defines.Given as goal

-- what a test of the equations that are left shows, a test of all shows
abbrev pub invariant-loop-equation : goal.invariant-loop-equation
invariant-loop-equation l = (scope : Scope) (b : Bool) → thing_in l.answers l.scope ≡ In scope →
    TestsDefined l.answers l.name (drop l.equation (block_of scope).body) b → TestsDefined l.answers l.name (block_of scope).body b
