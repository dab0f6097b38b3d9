use Rattle.std.proofs.Common.{◌≡◌, map, take}
use Rattle.std.specs.Option.{option_copied}
use Rattle.hept_ast.specs.Parts.{declaration, locals_around}
use Rattle.clock_calculus.specs.Sites.{around_of}
use Rattle.clock_calculus.proofs.scope.declaration_around.Given as goal

abbrev pub invariant-loop-around : goal.invariant-loop-around
invariant-loop-around l = option_copied l.found ≡ declaration (locals_around (map around_of (take l.around-index l.site))) l.name
