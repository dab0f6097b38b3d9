use Rattle.core_fitting.proofs.StaticSound.{static_fits, static_is_sound}
use Rattle.core_fitting.proofs.laws.static_laws.Goals as goal

pub returns : goal.returns
returns c = record { sound = static_is_sound; fits = static_fits }
