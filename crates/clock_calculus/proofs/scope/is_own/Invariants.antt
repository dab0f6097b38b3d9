use Rattle.std.proofs.Common.{◌≡◌, map, drop}
use Rattle.hept_ast.specs.Clocks.{own_names}
use Rattle.hept_ast.specs.Texts.{is_in}
use Rattle.clock_calculus.specs.Sites.{around_of}
use Rattle.clock_calculus.proofs.scope.is_own.Given as goal

abbrev pub invariant-loop-around : goal.invariant-loop-around
invariant-loop-around l = is_in l.name (own_names l.node (map around_of l.site)) ≡ is_in l.name (own_names l.node (map around_of (drop l.around-index l.site)))
