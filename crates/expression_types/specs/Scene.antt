-- What an expression is judged by, as code holds it.
use Rattle.std.specs.Prelude.{map}
use Rattle.hept_ast.specs.Faults.{Judging}
use Rattle.expression_types.specs.declared.scenes.Scene.{Scene}

abbrev pub judging_of : Scene → Judging
judging_of s = record { types = s.around.types.now; nodes = s.around.nodes.now; node = s.around.node.now; seen = map (λ r. r.now) s.seen.now; strong = s.strong }
