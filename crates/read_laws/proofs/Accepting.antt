-- Programs that are read and accepted: their sites have different paths, and their erasures are accepted.
use Rattle.hept_ast.specs.ClockMaps.{clock_in}
use Rattle.accepted_meaning.proofs.TextLaws.{accepted_has_sites, accepted_lefts_agree}
use Rattle.erased_rules.proofs.StagesKept.{erased_keeps_accepted}
use Rattle.read_laws.specs.AcceptedTexts.{AcceptedPathsTell, AcceptedIsErased}
use Rattle.read_laws.proofs.Places.{read_paths_differ, read_paths_tell}
use Rattle.read_laws.proofs.InRange.{read_in_range}

pub accepted_paths_tell : AcceptedPathsTell
accepted_paths_tell bytes c text accepted marked replies k node e =
    let range = read_in_range bytes c.program text in
    let found = accepted_has_sites c k node marked replies range accepted e in
    let lefts = accepted_lefts_agree c k node marked replies range accepted e in (
      found.0,
      found.1,
      read_paths_differ bytes c.program text (clock_in c.clocks) marked replies k node found.0 e lefts found.1,
      read_paths_tell bytes c.program text (clock_in c.clocks) marked replies k node found.0 e lefts found.1,
    )

pub accepted_is_erased : AcceptedIsErased
accepted_is_erased bytes c text accepted = erased_keeps_accepted c (read_in_range bytes c.program text).constructors accepted
