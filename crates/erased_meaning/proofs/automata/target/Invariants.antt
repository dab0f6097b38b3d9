use Rattle.std.proofs.Common.{◌≡◌, ◌+◌, drop}
use Rattle.hept_ast.specs.Texts.{state_named}
use Rattle.erased_meaning.proofs.automata.target.Given as goal

abbrev pub invariant-loop-position : goal.invariant-loop-position
invariant-loop-position l = state_named l.name l.states ≡ state_named l.name (drop l.position l.states) + l.position
