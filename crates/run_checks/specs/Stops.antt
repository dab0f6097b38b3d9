-- Why a file isn't read, and why a text isn't run.
use Rattle.std.specs.Prelude.{◌≡◌, ℕ, ◌<◌, ◌≤◌, List, [], Option, None, IfSome, ⊤, ◌⊎◌}
use Rattle.hept_ast.specs.declared.tree.Program.{Program}
use Rattle.ept_reader.specs.declared.reader.ReadFault.{ReadFault}
use Rattle.ept_reader.specs.declared.reader.ReadFault.TheVariants as reading
use Rattle.ept_reader.specs.Spelling.{IsProgramText, IsRefusalOf}
use Rattle.hept_io.specs.Outside.{Files, Rose, IsLarge, HasNone}
use Rattle.run_messages.specs.declared.end.End.{End}
use Rattle.run_messages.specs.declared.end.End.TheVariants.{Refused, Memory}
use Rattle.run_messages.specs.declared.end.FileFault.{FileFault}
use Rattle.run_messages.specs.declared.end.FileFault.TheVariants.{Failed, TooLarge, Missing}
use Rattle.run_messages.specs.declared.end.Refusal.{Refusal}
use Rattle.run_messages.specs.declared.end.Refusal.TheVariants.{BadByte, OpenComment, NumberTooLarge, Unexpected, TooDeep, UnknownName, Duplicate, Mismatch, ZeroDivisor, Recursive, NotDefined, FutureKept, NestedAsync, Limit, NoNode, FutureInterface, NoClock, MayBeNil, Cycle, NotServed, TooLarge as Too_large}
use Rattle.type_futures.specs.declared.check.TypeFault.{TypeFault}
use Rattle.type_futures.specs.declared.check.TypeFault.TheVariants as typing
use Rattle.type_futures.specs.declared.choice.TopFault.{TopFault}
use Rattle.type_futures.specs.declared.choice.TopFault.TheVariants as choosing
use Rattle.type_futures.specs.Checked.{IsTypeFault}
use Rattle.type_futures.specs.Chosen.{IsChosen, IsTopFault}
use Rattle.clock_calculus.specs.Checked.{HasNoClock}
use Rattle.clock_calculus.specs.declared.check.ClockFault.{ClockFault}
use Rattle.clock_calculus.specs.declared.check.ClockFault.TheVariants as clocking
use Rattle.causality.specs.declared.acceptance.AcceptFault.{AcceptFault}
use Rattle.causality.specs.declared.acceptance.AcceptFault.TheVariants as accepting
use Rattle.causality.specs.declared.initial.InitFault.TheVariants as starting
use Rattle.causality.specs.declared.causal.CausalFault.TheVariants as reading_in_turn
use Rattle.hept_ast.specs.Limits.{all_faults}
use Rattle.hept_ast.specs.Causal.{IsCausal, IsKeptCycle}
use Rattle.hept_ast.specs.ClockMaps.{ClockMap, clock_in}
use Rattle.hept_ast.specs.Initial.{IsInitialised, IsMayBeNil}
use Rattle.hept_ast.specs.Stages.{HasLeastClocks}
use Rattle.hept_ast.specs.Texts.{Name}
use Rattle.hept_ast.specs.declared.name.Place.{Place}
use Rattle.expanded_size.specs.Sizes.{HasSize, kept}
use Rattle.served_programs.specs.Served.{IsServed}

-- ---- files

-- why a file wasn't read: the store's count of faults rose, the file has too many bytes, or there is none of that name
abbrev pub IsNotRead : FileFault → Option Files → (old new : ℕ) → List ℕ → Type 0
IsNotRead Failed files old new name = Rose old new
IsNotRead TooLarge files old new name = IfSome files (λ map. IsLarge map name)
IsNotRead Missing files old new name = HasNone files name

-- ---- texts

-- how a run ends that doesn't read its text
abbrev pub end_of_text : ReadFault → End
end_of_text (reading.BadByte at) = Refused (BadByte at)
end_of_text (reading.OpenComment at) = Refused (OpenComment at)
end_of_text (reading.NumberTooLarge at) = Refused (NumberTooLarge at)
end_of_text (reading.Unexpected at) = Refused (Unexpected at)
end_of_text (reading.TooDeep at) = Refused (TooDeep at)
end_of_text reading.Memory = Memory

-- how a run ends of a program with this fault
abbrev pub end_of_types : TypeFault → End
end_of_types (typing.UnknownName at) = Refused (UnknownName at)
end_of_types (typing.Duplicate at) = Refused (Duplicate at)
end_of_types (typing.Mismatch at) = Refused (Mismatch at)
end_of_types (typing.ZeroDivisor at) = Refused (ZeroDivisor at)
end_of_types (typing.Recursive at) = Refused (Recursive at)
end_of_types (typing.NotDefined at) = Refused (NotDefined at)
end_of_types (typing.FutureKept at) = Refused (FutureKept at)
end_of_types (typing.NestedAsync at) = Refused (NestedAsync at)
end_of_types (typing.Limit at kept limit) = Refused (Limit at kept limit)
end_of_types typing.Memory = Memory

abbrev pub end_of_choice : TopFault → End
end_of_choice choosing.NoNode = Refused NoNode
end_of_choice (choosing.FutureInterface at) = Refused (FutureInterface at)

-- the program has a node to run, without futures among its inputs and outputs
abbrev pub HasMain : Program → Type 0
HasMain p = (k : ℕ) × IsChosen p.nodes None k

-- how a run ends of a program without clocks
abbrev pub end_of_clocks : ClockFault → End
end_of_clocks (clocking.NoClock at) = Refused (NoClock at)
end_of_clocks clocking.Memory = Memory

-- how a run ends of a program that may read an undefined value, or has a cycle of reads
abbrev pub end_of_acceptance : AcceptFault → End
end_of_acceptance (accepting.Initial (starting.MayBeNil at)) = Refused (MayBeNil at)
end_of_acceptance (accepting.Initial starting.Memory) = Memory
end_of_acceptance (accepting.Causal (reading_in_turn.Cycle node vars)) = Refused (Cycle vars)
end_of_acceptance (accepting.Causal reading_in_turn.Memory) = Memory

-- The program is well clocked, and with its least clocks it is initialised and causal.
pub record IsSound (p : Program) : Type 0 where
  pub clocks : ClockMap
  pub least : HasLeastClocks p clocks
  pub initialised : IsInitialised p
  pub causal : IsCausal p (clock_in clocks)

-- the expanded size of the node that is run
abbrev pub HasMainSize : Program → ℕ → Type 0
HasMainSize p n = (k : ℕ) × IsChosen p.nodes None k × HasSize p.nodes k n

-- that size is at most 1,000,000
abbrev pub IsSmall : Program → Type 0
IsSmall p = (n : ℕ) × HasMainSize p n × (n ≤ 1000000)

-- nothing is wrong with the program, it is one that is run so far, and it isn't too large
pub record IsRunnable (p : Program) : Type 0 where
  pub clean : all_faults p ≡ []
  pub main : HasMain p
  pub sound : IsSound p
  pub served : IsServed p
  pub small : IsSmall p

-- Why a well-typed program isn't accepted: it has no clocks, may read an undefined value, or has a cycle of reads with its least clocks.
pub data IsRefusedByReads (p : Program) : Refusal → Type 0 where
  by_clocks : {r : Refusal} (at : Place) → HasNoClock p at.0 → r ≡ NoClock at → IsRefusedByReads p r
  by_initial : {r : Refusal} (at : Place) (clocks : ClockMap) → HasLeastClocks p clocks → IsMayBeNil p at.0 → r ≡ MayBeNil at → IsRefusedByReads p r
  by_causal : {r : Refusal} (node : ℕ) (vars : List Name) (clocks : ClockMap) → HasLeastClocks p clocks → IsInitialised p → IsKeptCycle p (clock_in clocks) node vars → r ≡ Cycle vars → IsRefusedByReads p r

-- Why a program that was read isn't run: the first of its faults, no node to run, what it reads, that it isn't one that is run so far, or that it is too large.
pub data IsRefusedProgram (p : Program) : Refusal → Type 0 where
  by_types : {r : Refusal} (t : TypeFault) → IsTypeFault p t → end_of_types t ≡ Refused r → IsRefusedProgram p r
  by_choice : {r : Refusal} (t : TopFault) → all_faults p ≡ [] → IsTopFault p.nodes None t → end_of_choice t ≡ Refused r → IsRefusedProgram p r
  by_reads : {r : Refusal} → all_faults p ≡ [] → HasMain p → IsRefusedByReads p r → IsRefusedProgram p r
  by_form : {r : Refusal} → all_faults p ≡ [] → HasMain p → IsSound p → (IsServed p → ⊥) → r ≡ NotServed → IsRefusedProgram p r
  by_size : {r : Refusal} (n : ℕ) → all_faults p ≡ [] → HasMain p → IsSound p → IsServed p → HasMainSize p n → 1000000 < n → r ≡ Too_large (kept n) → IsRefusedProgram p r

-- The bytes are no text of a program.
abbrev pub IsUnreadText : List ℕ → Refusal → Type 0
IsUnreadText bytes r = (f : ReadFault) × IsRefusalOf bytes f × (end_of_text f ≡ Refused r)

-- The bytes are no text of a program, or that of one that isn't run.
abbrev pub IsRefusedText : List ℕ → Refusal → Type 0
IsRefusedText bytes r = IsUnreadText bytes r ⊎ ((p : Program) × IsProgramText bytes p × IsRefusedProgram p r)

abbrev pub IsRefused : End → Type 0
IsRefused (Refused refusal) = ⊤
IsRefused other = ⊥
