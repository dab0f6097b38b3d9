use Rattle.sound_expressions.proofs.Law.{judged_is_sound}
use Rattle.sound_expressions.proofs.Values.{constant_fits, merge_of_value}
use Rattle.sound_expressions.proofs.laws.sound_expression_laws.Goals as goal

pub returns : goal.returns
returns c = record { sound = judged_is_sound; constants = constant_fits; merges = merge_of_value }
