-- The laws of sites, from the soundness of accepted programs.
use Rattle.std.proofs.Common.{ℕ, []}
use Rattle.hept_ast.specs.Settings.{Marks, Replies}
use Rattle.hept_ast.specs.Stages.{ClockedProgram}
use Rattle.hept_ast.specs.declared.tree.Node.{Node}
use Rattle.accepted_meaning.specs.Laws.{run_of}
use Rattle.accepted_meaning.specs.SiteLaws.{AcceptedHasSites, AcceptedLeftsAgree, AcceptedOutputsFit}
use Rattle.accepted_meaning.specs.Running.{Run, IsSoundRun}
use Rattle.accepted_meaning.proofs.StaticNodes.{accepted_is_sound}
use Rattle.accepted_meaning.proofs.SentOutputs.{outputs_fit}
use Rattle.accepted_meaning.proofs.SentRows.{lefts_of}
use Rattle.accepted_meaning.proofs.TextLefts.{lefts_agree}
use Rattle.accepted_meaning.proofs.TextSites.{sites_exist}

abbrev text_of_run : ClockedProgram → ℕ → Node → Marks → Replies → Run
text_of_run c k node marked replies = run_of c k node marked replies []

pub accepted_has_sites : AcceptedHasSites
accepted_has_sites c k node marked replies range accepted chosen =
    let r : Run = text_of_run c k node marked replies in
    sites_exist r (accepted_is_sound c range accepted) chosen (lefts_of r range)

pub accepted_lefts_agree : AcceptedLeftsAgree
accepted_lefts_agree c k node marked replies range accepted chosen =
    let r : Run = text_of_run c k node marked replies in
    lefts_agree r (accepted_is_sound c range accepted) (lefts_of r range) chosen

pub accepted_outputs_fit : AcceptedOutputsFit
accepted_outputs_fit c k node marked replies rows range accepted chosen replies_fit rows_fit sites all =
    let r : Run = run_of c k node marked replies rows in
    let sound : IsSoundRun r = record { sound = accepted_is_sound c range accepted; chosen = chosen; replies_fit = replies_fit; rows_fit = rows_fit } in
    outputs_fit r sound (lefts_of r range) sites all
