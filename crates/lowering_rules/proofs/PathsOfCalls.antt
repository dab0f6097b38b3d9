-- Each of the two paths of a call gives the other, so that replies by the one are replies by the other.
use Rattle.std.proofs.Common.{◌≡◌, ◌==◌, ◌↔◌, ℕ, zero, suc, Bool, true, false, if◌then◌else◌, List, [], ◌∷◌, ◌++◌, Option, Some, None, slice_get, refl, sym, ap, subst, ◌∙◌, append_assoc, arith}
use Rattle.std.specs.Str.{bytes_eq}
use Rattle.std.proofs.lemmas.Slice.Eq.{bytes_eq-Decides}
use Rattle.hept_ast.specs.Texts.{Name}
use Rattle.hept_ast.specs.Scopes.{Text, Written, Lowered}
use Rattle.hept_ast.specs.Settings.{Marks, Replies, no_replies, written_node}
use Rattle.hept_ast.specs.Sites.{Site, by_site, path_of}
use Rattle.hept_ast.specs.Paths.{IsAmong, at_head, in_tail, AllDiffer}
use Rattle.hept_ast.specs.Stages.{ClockedProgram}
use Rattle.hept_ast.specs.ClockMaps.{clock_in}
use Rattle.hept_ast.specs.declared.tree.Core.{Core}
use Rattle.hept_ast.specs.declared.tree.CoreNode.{CoreNode}
use Rattle.hept_ast.specs.declared.tree.Node.{Node}
use Rattle.accepted_meaning.specs.ReplyLaws.{HasPlacesOnce}
use Rattle.accepted_meaning.proofs.StaticReplies.{outputs_are_replied, sent_is_replied}
use Rattle.lowering_rules.specs.CallPaths.{Agree, Call, IsCallPath, LeadsTo, call_path, into, itself, text_calls}
use Rattle.lowering_rules.specs.LoweringLaws.{CoreRepliesAgree, LoweringKeepsOwnReplied, LoweringKeepsOwnSent, ProgramRepliesAgree, SiteRepliesAgree, StandFor, no_sites, more_sites, StandsFor}
use Rattle.lowering_rules.specs.Ties.{TiedNodes, no_nodes, more_nodes, tied_text}
use Rattle.lowering_rules.proofs.Accepted.{accepted_is_tied}
use Rattle.lowering_rules.proofs.CallsIn.{places_of, node_placed}
use Rattle.lowering_rules.proofs.KeptOutputs.{lowering_keeps_replied, no_agree, texts_at}
use Rattle.lowering_rules.proofs.KeptSites.{lowered_sites_stand}
use Rattle.lowering_rules.proofs.TiedQuestions.{sides_of}
use Rattle.lowering_rules.proofs.TiedTexts.{TiedOption, no_text, both, found_tied}

-- ---- from numbers to places

abbrev calls_of : Option Text → List Call
calls_of None = []
calls_of (Some text) = text_calls text

abbrev place_or_zero : Option Call → ℕ
place_or_zero None = 0
place_or_zero (Some call) = call.place

module _ (nodes : List Node) where
  -- the calls in the text of a called node
  abbrev inner_calls : Option Call → List Call
  inner_calls None = []
  inner_calls (Some call) = calls_of (written_node nodes 0 call.name)

  abbrev places_by : List Call → List ℕ → List ℕ
  places_by calls [] = []
  places_by calls (n ∷ ns) = place_or_zero (slice_get calls n) ∷ places_by (inner_calls (slice_get calls n)) ns

  places_led : (text around : Text) (places numbers tail : List ℕ) → LeadsTo nodes text places numbers around →
      places_by (text_calls text) (numbers ++ tail) ≡ places ++ places_by (text_calls around) tail
  places_led text _ _ _ tail itself = refl
  places_led text _ _ _ tail (into {places = ps} {numbers = ns} {around = around} {called = called} {call = call} n h at node) =
      ap (places_by (text_calls text)) (append_assoc ns (n ∷ []) tail)
      ∙ places_led text around ps ns (n ∷ tail) h
      ∙ ap (λ (o : Option Call). ps ++ (place_or_zero o ∷ places_by (inner_calls o) tail)) at
      ∙ ap (λ (o : Option Text). ps ++ (call.place ∷ places_by (calls_of o) tail)) node
      ∙ sym (append_assoc ps (call.place ∷ []) (places_by (text_calls called) tail))

  places_found : (text : Text) (places numbers : List ℕ) → IsCallPath nodes text places numbers → places_by (text_calls text) numbers ≡ places
  places_found text _ _ (call_path {places = ps} {numbers = ns} {around = around} {call = call} n h at) =
      places_led text around ps ns (n ∷ []) h ∙ ap (λ (o : Option Call). ps ++ (place_or_zero o ∷ [])) at

  -- ---- from places to numbers

  abbrev position : ℕ → List Call → ℕ
  position p [] = 0
  position p (c ∷ cs) = if p == c.place then 0 else suc (position p cs)

  abbrev numbers_by : List Call → List ℕ → List ℕ
  numbers_by calls [] = []
  numbers_by calls (p ∷ ps) = position p calls ∷ numbers_by (inner_calls (slice_get calls (position p calls))) ps

  -- a place tells a call
  abbrev Once : List Call → Type 0
  Once calls = (n : ℕ) (call : Call) → slice_get calls n ≡ Some call → position call.place calls ≡ n

  module _ (text : Text) (own : Once (text_calls text)) (inner : (f : Name) (other : Text) → written_node nodes 0 f ≡ Some other → Once (text_calls other)) where
    once_around : (around : Text) (places numbers : List ℕ) → LeadsTo nodes text places numbers around → Once (text_calls around)
    once_around _ _ _ itself = own
    once_around _ _ _ (into {called = called} {call = call} n h at node) = inner call.name called node

    numbers_led : (around : Text) (places numbers tail : List ℕ) → LeadsTo nodes text places numbers around →
        numbers_by (text_calls text) (places ++ tail) ≡ numbers ++ numbers_by (text_calls around) tail
    numbers_led _ _ _ tail itself = refl
    numbers_led _ _ _ tail (into {places = ps} {numbers = ns} {around = around} {called = called} {call = call} n h at node) =
        ap (numbers_by (text_calls text)) (append_assoc ps (call.place ∷ []) tail)
        ∙ numbers_led around ps ns (call.place ∷ tail) h
        ∙ ap (λ (m : ℕ). ns ++ (m ∷ numbers_by (inner_calls (slice_get (text_calls around) m)) tail)) (once_around around ps ns h n call at)
        ∙ ap (λ (o : Option Call). ns ++ (n ∷ numbers_by (inner_calls o) tail)) at
        ∙ ap (λ (o : Option Text). ns ++ (n ∷ numbers_by (calls_of o) tail)) node
        ∙ sym (append_assoc ns (n ∷ []) (numbers_by (text_calls called) tail))

    numbers_found : (places numbers : List ℕ) → IsCallPath nodes text places numbers → numbers_by (text_calls text) places ≡ numbers
    numbers_found _ _ (call_path {places = ps} {numbers = ns} {around = around} {call = call} n h at) =
        numbers_led around ps ns (call.place ∷ []) h ∙ ap (λ (m : ℕ). ns ++ (m ∷ [])) (once_around around ps ns h n call at)

    -- ---- replies by sites

    -- a path is that of a site by places where it is by numbers
    one_path : (places numbers others found : List ℕ) → IsCallPath nodes text places numbers → IsCallPath nodes text others found → bytes_eq found numbers ≡ bytes_eq others places
    one_path places numbers others found h i = same_truth (bytes_eq found numbers) (bytes_eq others places) (λ e. there ((bytes_eq-Decides found numbers).0 e)) (λ e. back ((bytes_eq-Decides others places).0 e))
      where
        same_truth : (a b : Bool) → (a ≡ true → b ≡ true) → (b ≡ true → a ≡ true) → a ≡ b
        same_truth true b f g = sym (f refl)
        same_truth false true f g = g refl
        same_truth false false f g = refl

        there : found ≡ numbers → bytes_eq others places ≡ true
        there e = (bytes_eq-Decides others places).1 (sym (places_found text others found i) ∙ ap (places_by (text_calls text)) e ∙ places_found text places numbers h)

        back : others ≡ places → bytes_eq found numbers ≡ true
        back e = (bytes_eq-Decides found numbers).1 (sym (numbers_found others found i) ∙ ap (numbers_by (text_calls text)) e ∙ numbers_found places numbers h)

-- ---- whatever is replied

pub program_replies_agree : ProgramRepliesAgree
program_replies_agree nodes text replies =
    ((λ numbers i. replies (places_by nodes (text_calls text) numbers) i), λ places numbers i h. ap (λ (path : List ℕ). replies path i) (places_found nodes text places numbers h))

-- ---- places that differ

same_number : (n : ℕ) → (n == n) ≡ true
same_number n = grind arith

one_number : (n m : ℕ) → (n == m) ≡ true → n ≡ m
one_number n m e = grind arith

same_call : (a b : Call) → Some a ≡ Some b → a ≡ b
same_call a b e = cc

call_among : (calls : List Call) (n : ℕ) (call : Call) → slice_get calls n ≡ Some call → IsAmong call.place (places_of calls)
call_among [] n call e = cc
call_among (c ∷ cs) zero call e = subst (λ (x : Call). IsAmong x.place (places_of (c ∷ cs))) (same_call c call e) at_head
call_among (c ∷ cs) (suc n) call e = in_tail (call_among cs n call e)

differ_once : (nodes : List Node) (calls : List Call) → AllDiffer (places_of calls) → Once nodes calls
differ_once nodes [] d n call e = cc
differ_once nodes (c ∷ cs) d zero call e =
    subst (λ (x : Call). position nodes x.place (c ∷ cs) ≡ 0) (same_call c call e) (ap (λ (b : Bool). if b then 0 else suc (position nodes c.place cs)) (same_number c.place))
differ_once nodes (c ∷ cs) d (suc n) call e = go (call.place == c.place) refl (differ_once nodes cs d.1 n call e)
  where
    go : (b : Bool) → (call.place == c.place) ≡ b → position nodes call.place cs ≡ n → (if call.place == c.place then 0 else suc (position nodes call.place cs)) ≡ suc n
    go true f later = absurd (d.0 (subst (λ (p : ℕ). IsAmong p (places_of cs)) (one_number call.place c.place f) (call_among cs n call e)))
    go false f later = ap (λ (b : Bool). if b then 0 else suc (position nodes call.place cs)) f ∙ ap suc later

module _ (c : ClockedProgram) (core : Core) (nodes : TiedNodes (clock_in c.clocks) 0 c.program.nodes core.nodes) (places : HasPlacesOnce c.program) where
  tied_once : (text chosen : Text) (low : Text) → TiedOption (sides_of c core chosen) (Some text) (Some low) → Once c.program.nodes (text_calls text)
  tied_once _ chosen _ (both (tied_text {k = k} {node = node} {low = low} at low_at t)) =
      differ_once c.program.nodes (text_calls (Written k node)) (subst (λ (l : List ℕ). AllDiffer l) (sym (node_placed (clock_in c.clocks k) node low t)) (places k node at))

  inner_once : (chosen : Text) (f : Name) (other : Text) → written_node c.program.nodes 0 f ≡ Some other → Once c.program.nodes (text_calls other)
  inner_once chosen f other e = go (written_node c.program.nodes 0 f) _ (found_tied (sides_of c core chosen) f nodes) e
    where
      same_text : (a b : Text) → Some a ≡ Some b → a ≡ b
      same_text a b e = cc

      go : (o u : Option Text) → TiedOption (sides_of c core chosen) o u → o ≡ Some other → Once c.program.nodes (text_calls other)
      go _ _ no_text e = cc
      go _ _ (both {text = text} {low = low} t) e = subst (λ (x : Text). Once c.program.nodes (text_calls x)) (same_text text other e) (tied_once text chosen low (both t))

  low_of : (j i : ℕ) (written : List Node) (lows : List CoreNode) (node : Node) → TiedNodes (clock_in c.clocks) j written lows → slice_get written i ≡ Some node → (low : CoreNode) × (slice_get lows i ≡ Some low)
  low_of j i _ _ node no_nodes e = cc
  low_of j zero _ _ node (more_nodes {low = low} h hs) e = (low, refl)
  low_of j (suc i) _ _ node (more_nodes {nodes = written} {lows = lows} h hs) e = low_of (suc j) i written lows node hs e

  own_once : (k : ℕ) (node : Node) → slice_get c.program.nodes k ≡ Some node → Once c.program.nodes (text_calls (Written k node))
  own_once k node at =
      let (low, low_at) = low_of 0 k c.program.nodes core.nodes node nodes at in
      tied_once (Written k node) (Written k node) (Lowered low) (both (texts_at c core (Written k node) nodes k node low at low_at))

pub core_replies_agree : CoreRepliesAgree
core_replies_agree c core k node others range accepted h places at =
    let nodes = accepted_is_tied c core range accepted h in
    let text : Text = Written k node in (
      (λ path i. others (numbers_by c.program.nodes (text_calls text) path) i),
      λ ps ns i p. ap (λ (path : List ℕ). others path i) (sym (numbers_found c.program.nodes text (own_once c core nodes places k node at) (inner_once c core nodes places text) ps ns p)),
    )

-- ---- replies by sites

module _ (c : ClockedProgram) (core : Core) (marked : Marks) (replies others : Replies) (text : Text) where
  site_at : (i : ℕ) (site moved : Site) (sites lowered : List Site) → StandFor c core marked replies others text sites lowered → slice_get sites i ≡ Some site → slice_get lowered i ≡ Some moved →
      StandsFor c core marked replies others text site moved
  site_at i site moved _ _ no_sites e f = cc
  site_at zero site moved _ _ (more_sites {site = a} {moved = b} h hs) e f =
      subst (λ (x : Site). StandsFor c core marked replies others text x moved) (same_site a site e) (subst (λ (y : Site). StandsFor c core marked replies others text a y) (same_site b moved f) h)
    where
      same_site : (a b : Site) → Some a ≡ Some b → a ≡ b
      same_site a b e = cc
  site_at (suc i) site moved _ _ (more_sites {sites = sites} {lowered = lowered} h hs) e f = site_at i site moved sites lowered hs e f

  module _ (own : Once c.program.nodes (text_calls text)) (inner : (f : Name) (other : Text) → written_node c.program.nodes 0 f ≡ Some other → Once c.program.nodes (text_calls other)) where
    listed : (sites lowered : List Site) (lists : List (List (List ℕ))) → StandFor c core marked replies others text sites lowered → Agree c.program.nodes text (by_site sites lists) (by_site lowered lists)
    listed _ _ lists no_sites places numbers i p = refl
    listed _ _ [] (more_sites h hs) places numbers i p = refl
    listed _ _ (outs ∷ lists) (more_sites {site = site} {moved = moved} {sites = sites} {lowered = lowered} h hs) places numbers i p =
        ap (λ (b : Bool). if b then slice_get outs i else by_site lowered lists numbers i) (one_path c.program.nodes text own inner places numbers (path_of site) (path_of moved) p h.path)
        ∙ ap (λ (o : Option (List ℕ)). if bytes_eq (path_of site) places then slice_get outs i else o) (listed sites lowered lists hs places numbers i p)

pub site_replies_agree : SiteRepliesAgree
site_replies_agree c core marked k node low sites lowered lists range accepted h places at low_at s i =
    let nodes = accepted_is_tied c core range accepted h in
    let text : Text = Written k node in
    listed c core marked no_replies no_replies text (own_once c core nodes places k node at) (inner_once c core nodes places text) sites lowered lists
    (lowered_sites_stand c core marked no_replies no_replies k node low sites lowered range accepted h at low_at s i (no_agree c.program.nodes text))

-- ---- own values

both_ways : {A B C : Type 0} → (A ↔ B) → (B ↔ C) → A ↔ C
both_ways p q = (λ a. q.0 (p.0 a), λ c. p.1 (q.1 c))

pub lowering_keeps_own_replied : LoweringKeepsOwnReplied
lowering_keeps_own_replied c core marked k node low rows outs sites lowered lists h low_at own s =
    both_ways (outputs_are_replied c k node marked rows sites lists outs own)
    (lowering_keeps_replied c core marked (by_site sites lists) (by_site lowered lists) k node low rows outs own.in_range own.accepted h own.chosen low_at
    (site_replies_agree c core marked k node low sites lowered lists own.in_range own.accepted h own.places own.chosen low_at own.sites_are s))

pub lowering_keeps_own_sent : LoweringKeepsOwnSent
lowering_keeps_own_sent c core marked k node low rows sites lowered lists i site moved calls h low_at own s at moved_at =
    let agree = site_replies_agree c core marked k node low sites lowered lists own.in_range own.accepted h own.places own.chosen low_at own.sites_are s in
    let stand = lowered_sites_stand c core marked (by_site sites lists) (by_site lowered lists) k node low sites lowered own.in_range own.accepted h own.chosen low_at own.sites_are s agree in
    let stands = site_at c core marked (by_site sites lists) (by_site lowered lists) (Written k node) i site moved sites lowered stand at moved_at in
    both_ways (sent_is_replied c k node marked rows sites lists i site calls own at) (stands.sent rows calls)
