use Rattle.std.proofs.Common.{◌≡◌, ◌+◌, drop}
use Rattle.hept_ast.specs.Texts.{place_in}
use Rattle.plan_expressions.proofs.constants.position.Given as goal

abbrev pub invariant-loop-i : goal.invariant-loop-i
invariant-loop-i l = l.i + place_in l.name (drop l.i l.names) ≡ place_in l.name l.names
