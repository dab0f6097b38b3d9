-- The sites of accepted programs are sent calls that fit, on which their nodes give what the calls' bodies give.
use Rattle.accepted_meaning.specs.Running.{Run, IsSoundRun, setting_of}
use Rattle.accepted_meaning.specs.Laws.{AcceptedHasSent, AcceptedCallIsAlone, run_of}
use Rattle.accepted_meaning.proofs.StaticNodes.{accepted_is_sound}
use Rattle.accepted_meaning.proofs.KnownLaw.{texts_of, fits_texts_of, everything_at}
use Rattle.accepted_meaning.proofs.SentSites.{IsSoundSite, site_sound}
use Rattle.hept_ast.proofs.CallAlone.{call_is_alone}
use Rattle.accepted_meaning.proofs.SentBodies.{body_known}
use Rattle.accepted_meaning.proofs.SentRows.{sent_known, lefts_of}

pub accepted_has_sent : AcceptedHasSent
accepted_has_sent c k node marked replies rows range accepted chosen replies_fit rows_fit sites site all inside =
    let r : Run = run_of c k node marked replies rows in
    let sound : IsSoundRun r = record { sound = accepted_is_sound c range accepted; chosen = chosen; replies_fit = replies_fit; rows_fit = rows_fit } in
    let here : IsSoundSite r site = site_sound r sound (lefts_of r range) sites site all inside in
    sent_known r (fits_texts_of r sound) (texts_of r sound) (everything_at r sound) site here

pub accepted_call_is_alone : AcceptedCallIsAlone
accepted_call_is_alone c k node marked replies rows range accepted chosen replies_fit rows_fit sites site calls all inside sent =
    let r : Run = run_of c k node marked replies rows in
    let sound : IsSoundRun r = record { sound = accepted_is_sound c range accepted; chosen = chosen; replies_fit = replies_fit; rows_fit = rows_fit } in
    let here : IsSoundSite r site = site_sound r sound (lefts_of r range) sites site all inside in
    let o = body_known r (fits_texts_of r sound) (texts_of r sound) (everything_at r sound) site here in
    (o.0, o.1, call_is_alone (setting_of r) r.rows site calls o.0 sent o.1, o.2)
