-- Texts and programs that are refused are refused so.
use Rattle.std.proofs.Common.{true, ◌≡◌, ◌⊎◌, inl, inr, ⊎_elim, ℕ, ◌<◌, length, Some, Bool, false, List, None, Result, Ok, Err, sym, ap, subst, ◌∙◌, [], ◌∷◌, refl, arith}
use Rattle.std.specs.Prelude.{IfOk, IfErr, OnOk, MatchResult, IsTrue, ◌↔◌}
use Rattle.hept_ast.specs.declared.tree.Program.{Program}
use Rattle.hept_ast.specs.declared.tree.Node.{Node}
use Rattle.hept_ast.specs.Faults.{Fault}
use Rattle.hept_ast.specs.Limits.{IsFirst, all_faults}
use Rattle.hept_ast.specs.Causal.{IsCausal}
use Rattle.hept_ast.specs.ClockMaps.{ClockMap, clock_in}
use Rattle.hept_ast.specs.Clocks.{IsClocked}
use Rattle.hept_ast.specs.Initial.{IsInitialised}
use Rattle.hept_ast.specs.Stages.{ClockedProgram, HasLeastClocks}
use Rattle.std.proofs.lemmas.Option.{none-some, same_Some, slice_get-get_or}
use Rattle.clock_calculus.specs.Agreeing.{LeastMapsAgree}
use Rattle.clock_calculus.specs.Checked.{IsClockFault}
use Rattle.clock_calculus.specs.declared.check.ClockFault.{ClockFault}
use Rattle.clock_calculus.specs.declared.check.ClockFault.TheVariants as clocking
use Rattle.causality.proofs.Initialised.{not_both}
use Rattle.causality.specs.Acceptance.{IsAcceptFault, IsAcceptable}
use Rattle.causality.specs.declared.acceptance.AcceptFault.{AcceptFault}
use Rattle.causality.specs.declared.acceptance.AcceptFault.TheVariants as accepting
use Rattle.causality.specs.declared.initial.InitFault.TheVariants as starting
use Rattle.causality.specs.declared.causal.CausalFault.TheVariants as reading_in_turn
use Rattle.type_futures.specs.declared.check.TypeFault.{TypeFault}
use Rattle.type_futures.specs.declared.check.TypeFault.TheVariants as typing
use Rattle.type_futures.specs.declared.choice.TopFault.{TopFault}
use Rattle.type_futures.specs.declared.choice.TopFault.TheVariants as choosing
use Rattle.type_futures.specs.Checked.{IsTypeFault}
use Rattle.type_futures.specs.Chosen.{IsChosen, IsTopFault, chosen, future_at, last_of}
use Rattle.std.specs.Option.{option_and_then}
use Rattle.ept_reader.specs.declared.reader.ReadFault.{ReadFault}
use Rattle.ept_reader.specs.declared.reader.ReadFault.TheVariants as reading
use Rattle.ept_reader.specs.Spelling.{IsProgramText, IsRefusalOf}
use Rattle.run_messages.specs.declared.end.End.{End}
use Rattle.run_messages.specs.declared.end.End.TheVariants.{Refused, Memory}
use Rattle.run_messages.specs.declared.end.Refusal.{Refusal}
use Rattle.run_messages.specs.declared.end.Refusal.TheVariants.{NotServed, TooLarge as Too_large}
use Rattle.served_programs.specs.Served.{IsServed}
use Rattle.expanded_size.specs.Sizes.{HasSize, kept}
use Rattle.expanded_size.proofs.Existing.{one_size}
use Rattle.run_checks.specs.Stops.{HasMain, HasMainSize, IsSmall, by_size, IsRefused, IsRefusedByReads, by_clocks, by_initial, by_causal, IsRefusedProgram, by_types, by_choice, by_reads, by_form, IsRefusedText, IsRunnable, IsSound, IsUnreadText, end_of_acceptance, end_of_choice, end_of_clocks, end_of_text, end_of_types}

-- ---- programs

-- a program that was read ends so
abbrev pub StopsAt : Program → End → Type 0
StopsAt program e = (e ≡ Memory) ⊎ ((r : Refusal) × (e ≡ Refused r) × IsRefusedProgram program r)

no_first : (fs : List Fault) (f : Fault) → fs ≡ [] → IsFirst fs f → ⊥
no_first [] f e h = absurd (omega (arith, h.stands.1))
no_first (x ∷ fs) f e h = absurd cc

no_fault : (p : Program) (t : TypeFault) (r : Refusal) → all_faults p ≡ [] → IsTypeFault p t → end_of_types t ≡ Refused r → ⊥
no_fault p (typing.UnknownName at) r clean h e = no_first (all_faults p) _ clean h
no_fault p (typing.Duplicate at) r clean h e = no_first (all_faults p) _ clean h
no_fault p (typing.Mismatch at) r clean h e = no_first (all_faults p) _ clean h
no_fault p (typing.ZeroDivisor at) r clean h e = no_first (all_faults p) _ clean h
no_fault p (typing.Recursive at) r clean h e = no_first (all_faults p) _ clean h
no_fault p (typing.NotDefined at) r clean h e = no_first (all_faults p) _ clean h
no_fault p (typing.FutureKept at) r clean h e = no_first (all_faults p) _ clean h
no_fault p (typing.NestedAsync at) r clean h e = no_first (all_faults p) _ clean h
no_fault p (typing.Limit at kept limit) r clean h e = no_first (all_faults p) _ clean h
no_fault p typing.Memory r clean h e = absurd cc

no_choice : (nodes : List Node) (k : ℕ) (t : TopFault) → IsChosen nodes None k → IsTopFault nodes None t → ⊥
no_choice nodes k choosing.NoNode c h = let e = c.chosen in absurd cc
no_choice nodes k (choosing.FutureInterface at) c h =
    let e : option_and_then (future_at nodes) (chosen nodes None) ≡ future_at nodes k = ap (option_and_then (future_at nodes)) c.chosen in
    let n = c.plain in absurd cc

well_clocked : (p : Program) (clocks : ClockMap) → HasLeastClocks p clocks → IsClocked p
well_clocked p clocks h i node below = (clock_in clocks i, (h.least i _ (slice_get-get_or p.nodes i node below)).meets)

-- a program that is accepted isn't refused for its clocks and reads
not_by_reads : LeastMapsAgree → (p : Program) (r : Refusal) → IsSound p → IsRefusedByReads p r → ⊥
not_by_reads agree p r s (by_clocks at h is) = h.none (well_clocked p s.clocks s.least)
not_by_reads agree p r s (by_initial at clocks l h is) = not_both p at.0 s.initialised h
not_by_reads agree p r s (by_causal k vars clocks l i h is) =
    let causal : IsCausal p (clock_in clocks) = subst (IsCausal p) (agree p s.clocks clocks s.least l) s.causal in
    causal k h.cycle.0 h.cycle.1 vars h.cycle.2

-- the node that is run has one size
one_main_size : (p : Program) (n m : ℕ) → HasMainSize p n → HasMainSize p m → n ≡ m
one_main_size p n m (k, chosen, h) (j, again, g) =
    one_size p.nodes k n m h (subst (λ i. HasSize p.nodes i m) (same_Some j k (sym again.chosen ∙ chosen.chosen)) g)

not_by_size : (p : Program) (m : ℕ) → IsSmall p → HasMainSize p m → 1000000 < m → ⊥
not_by_size p m (n, h, small) g large = let e = one_main_size p n m h g in omega arith

pub not_refused : LeastMapsAgree → (p : Program) (r : Refusal) → IsRunnable p → IsRefusedProgram p r → ⊥
not_refused agree p r runs (by_types t h e) = no_fault p t r runs.clean h e
not_refused agree p r runs (by_choice t clean h e) = no_choice p.nodes runs.main.0 t runs.main.1 h
not_refused agree p r runs (by_reads clean main h) = not_by_reads agree p r runs.sound h
not_refused agree p r runs (by_form clean main sound h e) = h runs.served
not_refused agree p r runs (by_size m clean main sound served h large e) = not_by_size p m runs.small h large

pub types_end : (p : Program) (t : TypeFault) (e : End) → IsTypeFault p t → e ≡ end_of_types t → StopsAt p e
types_end p (typing.UnknownName at) e h is = inr (_, is, by_types (typing.UnknownName at) h refl)
types_end p (typing.Duplicate at) e h is = inr (_, is, by_types (typing.Duplicate at) h refl)
types_end p (typing.Mismatch at) e h is = inr (_, is, by_types (typing.Mismatch at) h refl)
types_end p (typing.ZeroDivisor at) e h is = inr (_, is, by_types (typing.ZeroDivisor at) h refl)
types_end p (typing.Recursive at) e h is = inr (_, is, by_types (typing.Recursive at) h refl)
types_end p (typing.NotDefined at) e h is = inr (_, is, by_types (typing.NotDefined at) h refl)
types_end p (typing.FutureKept at) e h is = inr (_, is, by_types (typing.FutureKept at) h refl)
types_end p (typing.NestedAsync at) e h is = inr (_, is, by_types (typing.NestedAsync at) h refl)
types_end p (typing.Limit at kept limit) e h is = inr (_, is, by_types (typing.Limit at kept limit) h refl)
types_end p typing.Memory e h is = inl is

pub choice_end : (p : Program) (t : TopFault) (e : End) → all_faults p ≡ [] → IsTopFault p.nodes None t → e ≡ end_of_choice t → (r : Refusal) × (e ≡ Refused r) × IsRefusedProgram p r
choice_end p choosing.NoNode e clean h is = (_, is, by_choice choosing.NoNode clean h refl)
choice_end p (choosing.FutureInterface at) e clean h is = (_, is, by_choice (choosing.FutureInterface at) clean h refl)

-- a well-typed program ends so for its clocks and reads
abbrev pub StopsByReads : Program → End → Type 0
StopsByReads program e = (e ≡ Memory) ⊎ ((r : Refusal) × (e ≡ Refused r) × IsRefusedByReads program r)

pub clocks_end : (p : Program) (f : ClockFault) (e : End) → IsClockFault p f → e ≡ end_of_clocks f → StopsByReads p e
clocks_end p (clocking.NoClock at) e h is = inr (_, is, by_clocks at h refl)
clocks_end p clocking.Memory e h is = inl is

acceptance_of : (c : ClockedProgram) (f : AcceptFault) (e : End) → HasLeastClocks c.program c.clocks → IsAcceptFault c f → e ≡ end_of_acceptance f → StopsByReads c.program e
acceptance_of c (accepting.Initial (starting.MayBeNil at)) e least h is = inr (_, is, by_initial at c.clocks least h refl)
acceptance_of c (accepting.Initial starting.Memory) e least h is = inl is
acceptance_of c (accepting.Causal (reading_in_turn.Cycle node vars)) e least h is = inr (_, is, by_causal node.0 vars c.clocks least h.0 h.1 refl)
acceptance_of c (accepting.Causal reading_in_turn.Memory) e least h is = inl is

pub acceptance_end : (p : Program) (c : ClockedProgram) (f : AcceptFault) (e : End) → c.program ≡ p → HasLeastClocks p c.clocks → IsAcceptFault c f → e ≡ end_of_acceptance f → StopsByReads p e
acceptance_end p c f e same least h is =
    subst (λ (x : Program). StopsByReads x e) same (acceptance_of c f e (subst (λ (x : Program). HasLeastClocks x c.clocks) (sym same) least) h is)

pub is_sound : (p : Program) (c : ClockedProgram) → c.program ≡ p → HasLeastClocks p c.clocks → IsAcceptable c → IsSound p
is_sound p c same least h = record {
  clocks = c.clocks;
  least = least;
  initialised = subst IsInitialised same h.initialised;
  causal = subst (λ (x : Program). IsCausal x (clock_in c.clocks)) same h.causal;
}

pub main_stops : (p q : Program) (e : End) → q ≡ p → (r : Refusal) × (e ≡ Refused r) × IsRefusedProgram q r → StopsAt p e
main_stops p q e same (r, is, h) = inr (r, is, subst (λ (x : Program). IsRefusedProgram x r) same h)

pub reads_stop : (p q : Program) (e : End) → q ≡ p → all_faults p ≡ [] → HasMain q → StopsByReads q e → StopsAt p e
reads_stop p q e same clean main (inl h) = inl h
reads_stop p q e same clean main (inr (r, is, h)) =
    inr (r, is, by_reads clean (subst HasMain same main) (subst (λ (x : Program). IsRefusedByReads x r) same h))

-- a program that was accepted, and isn't one that is run so far
pub form_stops : (p q : Program) (c : ClockedProgram) (e : End) → q ≡ p → all_faults p ≡ [] → HasMain q → c.program ≡ q → HasLeastClocks q c.clocks → IsAcceptable c
    → (e ≡ Memory) ⊎ ((e ≡ Refused NotServed) × (IsServed c.program → ⊥)) → StopsAt p e
form_stops p q c e same clean main kept least h (inl memory) = inl memory
form_stops p q c e same clean main kept least h (inr (is, other)) =
    inr (
      NotServed,
      is,
      by_form clean (subst HasMain same main) (subst IsSound same (is_sound q c kept least h)) (subst (λ (x : Program). IsServed x → ⊥) (kept ∙ same) other) refl,
    )

-- a program that is run so far, and is too large
pub size_stops : (p q : Program) (c : ClockedProgram) (e : End) → q ≡ p → all_faults p ≡ [] → HasMain q → c.program ≡ q → HasLeastClocks q c.clocks → IsAcceptable c → IsServed c.program
    → (e ≡ Memory) ⊎ ((n : ℕ) × HasMainSize c.program n × (1000000 < n) × (e ≡ Refused (Too_large (kept n)))) → StopsAt p e
size_stops p q c e same clean main is least h served (inl memory) = inl memory
size_stops p q c e same clean main is least h served (inr (n, size, large, stops)) =
    inr (
      Too_large (kept n),
      stops,
      by_size n clean (subst HasMain same main) (subst IsSound same (is_sound q c is least h)) (subst IsServed (is ∙ same) served) (subst (λ (x : Program). HasMainSize x n) (is ∙ same) size) large refl,
    )

pub is_runnable : (p q : Program) (c : ClockedProgram) → q ≡ p → all_faults p ≡ [] → HasMain q → c.program ≡ q → HasLeastClocks q c.clocks → IsAcceptable c → IsServed c.program → IsSmall c.program → IsRunnable p
is_runnable p q c same clean main kept least h served small = record {
  clean = clean;
  main = subst HasMain same main;
  sound = subst IsSound same (is_sound q c kept least h);
  served = subst IsServed (kept ∙ same) served;
  small = subst IsSmall (kept ∙ same) small;
}

-- ---- the node that is run

within_last : (nodes : List Node) (k : ℕ) → last_of nodes ≡ Some k → k < length nodes
within_last [] k e = absurd (none-some k e)
within_last (n ∷ ns) k e = let is : length ns ≡ k = same_Some (length ns) k e in omega arith

pub within_chosen : (nodes : List Node) (k : ℕ) → IsChosen nodes None k → k < length nodes
within_chosen nodes k h = within_last nodes k h.chosen

-- ---- texts that aren't read

abbrev pub Exactly : List ℕ → ReadFault → Type 0
Exactly text fault = (f : ReadFault) → IsRefusalOf text f → (fault ≡ f) ⊎ (fault ≡ reading.Memory)

abbrev pub Only : List ℕ → ReadFault → Type 0
Only text fault = (p : Program) → IsProgramText text p → fault ≡ reading.Memory

pub unread_exactly : (text : List ℕ) (fault : ReadFault) (e : End) → e ≡ end_of_text fault → Exactly text fault → (r : Refusal) → IsUnreadText text r → (e ≡ Refused r) ⊎ (e ≡ Memory)
unread_exactly text fault e is exactly r (f, refused, at) =
    ⊎_elim (λ same. inl (is ∙ ap end_of_text same ∙ at)) (λ memory. inr (is ∙ ap end_of_text memory)) (exactly f refused)

refused_or_memory : (e : End) (r : Refusal) → (e ≡ Refused r) ⊎ (e ≡ Memory) → IsRefused e ⊎ (e ≡ Memory)
refused_or_memory e r (inl h) = inl (subst IsRefused (sym h) tt)
refused_or_memory e r (inr h) = inr h

pub unread_refused : (text : List ℕ) (fault : ReadFault) (e : End) → e ≡ end_of_text fault → Exactly text fault → Only text fault → (r : Refusal) → IsRefusedText text r → IsRefused e ⊎ (e ≡ Memory)
unread_refused text fault e is exactly only r (inl h) = refused_or_memory e r (unread_exactly text fault e is exactly r h)
unread_refused text fault e is exactly only r (inr (p, spelled, why)) = inr (is ∙ ap end_of_text (only p spelled))

-- ---- programs that were read

abbrev pub NoRefusal : List ℕ → Type 0
NoRefusal text = (f : ReadFault) → IsRefusalOf text f → ⊥

abbrev pub OneProgram : List ℕ → Program → Type 0
OneProgram text program = (p : Program) → IsProgramText text p → program ≡ p

pub read_exactly : (text : List ℕ) (result : Result ClockedProgram End) → NoRefusal text → (r : Refusal) → IsUnreadText text r → MatchResult result (λ _. ⊥) (λ e. (e ≡ Refused r) ⊎ (e ≡ Memory))
read_exactly text result none r (f, refused, at) = absurd (none f refused)

pub read_refused : LeastMapsAgree → (text : List ℕ) (program : Program) (result : Result ClockedProgram End) → NoRefusal text → OneProgram text program → OnOk result (IsRunnable program) → IfErr result (StopsAt program) →
    (r : Refusal) → IsRefusedText text r → MatchResult result (λ _. ⊥) (λ e. IsRefused e ⊎ (e ≡ Memory))
read_refused agree text program result none one runs stops r (inl (f, refused, at)) = absurd (none f refused)
read_refused agree text program (Ok c) none one runs stops r (inr (p, spelled, why)) = not_refused agree program r runs (subst (λ (x : Program). IsRefusedProgram x r) (sym (one p spelled)) why)
read_refused agree text program (Err e) none one runs (inl memory) r (inr (p, spelled, why)) = inr memory
read_refused agree text program (Err e) none one runs (inr (s, is, because)) r (inr (p, spelled, why)) = inl (subst IsRefused (sym is) tt)

pub read_complete : LeastMapsAgree → (text : List ℕ) (program : Program) (result : Result ClockedProgram End) → OneProgram text program → IfOk result (λ c. c.program ≡ program) → IfErr result (StopsAt program) →
    (p : Program) → IsProgramText text p → IsRunnable p → MatchResult result (λ c. c.program ≡ p) (λ e. e ≡ Memory)
read_complete agree text program (Ok c) one same stops p spelled runs = same ∙ one p spelled
read_complete agree text program (Err e) one same (inl memory) p spelled runs = memory
read_complete agree text program (Err e) one same (inr (s, is, because)) p spelled runs =
    absurd (not_refused agree program s (subst (λ (x : Program). IsRunnable x) (sym (one p spelled)) runs) because)

pub read_text : (text : List ℕ) (program : Program) (result : Result ClockedProgram End) → IsProgramText text program → IfOk result (λ c. c.program ≡ program) → IfOk result (λ c. IsProgramText text c.program)
read_text text program (Ok c) spelled same = subst (λ (x : Program). IsProgramText text x) (sym same) spelled
read_text text program (Err e) spelled same = same

pub read_runs : (program : Program) (result : Result ClockedProgram End) → OnOk result (IsRunnable program) → IfOk result (λ c. c.program ≡ program) → IfOk result (λ c. IsRunnable c.program)
read_runs program (Ok c) runs same = subst (λ (x : Program). IsRunnable x) (sym same) runs
read_runs program (Err e) runs same = same

pub read_ends : (text : List ℕ) (program : Program) (result : Result ClockedProgram End) → IsProgramText text program → IfErr result (StopsAt program) →
    IfErr result (λ e. (e ≡ Memory) ⊎ ((r : Refusal) × (e ≡ Refused r) × IsRefusedText text r))
read_ends text program (Ok c) spelled stops = stops
read_ends text program (Err e) spelled (inl memory) = inl memory
read_ends text program (Err e) spelled (inr (r, is, why)) = inr (r, is, inr (program, spelled, why))

-- a test that held, and one that failed
pub is_so : (b : Bool) (P : Type 0) → b ≡ true → (IsTrue b ↔ P) → P
is_so b P e h = h.0 e

pub not_so : (b : Bool) (P : Type 0) → b ≡ false → (IsTrue b ↔ P) → P → ⊥
not_so b P e h p = let t : b ≡ true = h.1 p in absurd cc
