-- Replies that are the sites' own values change nothing in an accepted program.
use Rattle.std.proofs.Common.{◌≡◌, ℕ, Bool, List, refl, subst, Some, None, slice_get}
use Rattle.hept_ast.specs.Scopes.{Text, Written}
use Rattle.hept_ast.specs.Meaning.{Setting}
use Rattle.hept_ast.specs.Settings.{Marks, no_replies}
use Rattle.hept_ast.specs.Outputs.{Outputs}
use Rattle.hept_ast.specs.Sites.{Site, Sent, with_replies}
use Rattle.hept_ast.specs.OwnReplies.{OutputsFit, PathsTell}
use Rattle.hept_ast.specs.Paths.{LeftsAgree}
use Rattle.hept_ast.specs.ClockMaps.{clock_in}
use Rattle.hept_ast.specs.Stages.{ClockedProgram}
use Rattle.hept_ast.specs.declared.tree.Node.{Node}
use Rattle.hept_ast.proofs.Lists.{one_outputs, one_sent}
use Rattle.hept_ast.proofs.OwnReplies.{own_replies_keep_outputs, own_replies_keep_sent}
use Rattle.hept_ast.proofs.PathsOf.{paths_tell_calls}
use Rattle.hept_ast.proofs.CallPlacesOf.{places_tell_calls}
use Rattle.hept_ast.proofs.PlacesOfNodes.{program_places_differ}
use Rattle.accepted_meaning.specs.Placing.{RepliesFit}
use Rattle.accepted_meaning.specs.ReplyLaws.{IsOwnReplied, OutputsAreReplied, SentIsReplied, without_replies}
use Rattle.accepted_meaning.proofs.StaticNodes.{at_place}
use Rattle.accepted_meaning.proofs.KnownLaw.{accepted_has_outputs}
use Rattle.accepted_meaning.proofs.SentLaw.{accepted_has_sent}
use Rattle.accepted_meaning.proofs.TextLaws.{accepted_lefts_agree, accepted_outputs_fit}

-- without replies every reply fits
no_replies_fit : (c : ClockedProgram) (k : ℕ) (node : Node) (marked : Marks) → RepliesFit c (without_replies c marked) (Written k node) no_replies
no_replies_fit c k node marked = record { fit = λ s e clock ts args n m number caller callee g outs placed text sound_node sound call reply. absurd (none_some outs reply) }
  where
    none_some : (outs : List ℕ) → None ≡ Some outs → ⊥
    none_some outs e = cc

module _ (c : ClockedProgram) (k : ℕ) (node : Node) (marked : Marks) (rows : List (List ℕ)) (sites : List Site) (lists : List (List (List ℕ))) (h : IsOwnReplied c k node marked rows sites lists)
    (lefts : LeftsAgree (without_replies c marked) (Written k node)) (fit : OutputsFit (without_replies c marked) rows (Written k node) sites) where
  abbrev w : Setting
  w = without_replies c marked

  abbrev text : Text
  text = Written k node

  tells : PathsTell w rows text sites
  tells = paths_tell_calls w rows text sites (places_tell_calls w text lefts (program_places_differ c.program (clock_in c.clocks) marked no_replies k node h.places h.chosen)) lefts h.sites_are

  to_replied : (outs : List (List ℕ)) → Outputs w text rows outs → Outputs (with_replies w sites lists) text rows outs
  to_replied outs o = own_replies_keep_outputs w text sites lists rows outs (λ path n. refl) tells fit h.own o

  from_replied : (outs : List (List ℕ)) → Outputs (with_replies w sites lists) text rows outs → Outputs w text rows outs
  from_replied outs o =
      let (known, is, fits) = accepted_has_outputs c k node marked no_replies rows h.in_range h.accepted h.chosen (no_replies_fit c k node marked) h.rows_fit in
      subst (λ (l : List (List ℕ)). Outputs w text rows l) (one_outputs (with_replies w sites lists) text rows known outs (to_replied known is) o) is

  to_sent : (i : ℕ) (site : Site) (calls : List (Bool × List ℕ)) → slice_get sites i ≡ Some site → Sent w rows site calls → Sent (with_replies w sites lists) rows site calls
  to_sent i site calls at s = own_replies_keep_sent w text sites lists rows i site calls (λ path n. refl) tells fit h.own at s

  from_sent : (i : ℕ) (site : Site) (calls : List (Bool × List ℕ)) → slice_get sites i ≡ Some site → Sent (with_replies w sites lists) rows site calls → Sent w rows site calls
  from_sent i site calls at s =
      let (known, is, fits) = accepted_has_sent c k node marked no_replies rows h.in_range h.accepted h.chosen (no_replies_fit c k node marked) h.rows_fit sites site h.sites_are (at_place sites i site at) in
      subst (λ (l : List (Bool × List ℕ)). Sent w rows site l) (one_sent (with_replies w sites lists) rows site known calls (to_sent i site known at is) s) is

pub outputs_are_replied : OutputsAreReplied
outputs_are_replied c k node marked rows sites lists outs h =
    let lefts = accepted_lefts_agree c k node marked no_replies h.in_range h.accepted h.chosen in
    let fit = accepted_outputs_fit c k node marked no_replies rows h.in_range h.accepted h.chosen (no_replies_fit c k node marked) h.rows_fit sites h.sites_are in
    (to_replied c k node marked rows sites lists h lefts fit outs, from_replied c k node marked rows sites lists h lefts fit outs)

pub sent_is_replied : SentIsReplied
sent_is_replied c k node marked rows sites lists i site calls h at =
    let lefts = accepted_lefts_agree c k node marked no_replies h.in_range h.accepted h.chosen in
    let fit = accepted_outputs_fit c k node marked no_replies rows h.in_range h.accepted h.chosen (no_replies_fit c k node marked) h.rows_fit sites h.sites_are in
    (to_sent c k node marked rows sites lists h lefts fit i site calls at, from_sent c k node marked rows sites lists h lefts fit i site calls at)
