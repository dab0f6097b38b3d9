-- The law of expressions without faults.
use Rattle.std.proofs.Common.{false}
use Rattle.sound_expressions.specs.Judgings.{JudgedIsSound}
use Rattle.sound_expressions.proofs.Expressions.{expression_sound}

pub judged_is_sound : JudgedIsSound
judged_is_sound k site strong judged same numbers n e faults meets demanded = expression_sound k site strong judged same numbers e false n faults meets demanded
