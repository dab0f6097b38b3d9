use Rattle.naming_facts.proofs.Nodes.{naming_keeps_grades, naming_keeps_static, namings_keep_static}
use Rattle.naming_facts.proofs.laws.naming_facts_laws.Goals as goal

pub returns : goal.returns
returns c = record { grades = naming_keeps_grades; step = naming_keeps_static; steps = namings_keep_static }
