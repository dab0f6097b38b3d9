use Rattle.accepted_meaning.proofs.TextLaws.{accepted_has_sites, accepted_lefts_agree, accepted_outputs_fit}
use Rattle.accepted_meaning.proofs.sites.site_laws.Goals as goal

pub returns : goal.returns
returns c = record { sites = accepted_has_sites; lefts = accepted_lefts_agree; outputs_fit = accepted_outputs_fit }
