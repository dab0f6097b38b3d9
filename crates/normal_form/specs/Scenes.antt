-- What the right sides of a scene's node are judged by.
use Rattle.std.specs.Prelude.{◌∷◌, ◌++◌}
use Rattle.core_rules.specs.Cores.{core_judging}
use Rattle.hept_ast.specs.Faults.{Judging}
use Rattle.normal_form.specs.declared.types.Scene.{Scene}

abbrev pub judging_in : Scene → Judging
judging_in s = core_judging (record { types = s.types.now; nodes = s.before.now ++ s.node.now ∷ s.after.now }) s.node.now
