use Rattle.sound_lowering.proofs.StaticLowered.{lowering_is_static}
use Rattle.sound_lowering.proofs.WellLowered.{lowering_is_well_formed}
use Rattle.sound_lowering.proofs.laws.sound_lowering_laws.Goals as goal

pub returns-clause-well_formed : goal.returns-clause-well_formed
returns-clause-well_formed c = lowering_is_well_formed

pub returns-clause-static_facts : goal.returns-clause-static_facts
returns-clause-static_facts c = lowering_is_static
