-- What the checker answers.
use Rattle.std.specs.Prelude.{Option, Some, None, IfSome, Result, Ok, Err}
use Rattle.std.specs.Option.{option_map}
use Rattle.hept_ast.specs.Faults as faults
use Rattle.hept_ast.specs.Faults.{Fault}
use Rattle.hept_ast.specs.Limits.{IsFirst, all_faults}
use Rattle.hept_ast.specs.declared.tree.Program.{Program}
use Rattle.type_futures.specs.declared.check.TypeFault.{TypeFault}
use Rattle.type_futures.specs.declared.check.TypeFault.TheVariants.{UnknownName, Duplicate, Mismatch, ZeroDivisor, Recursive, NotDefined, FutureKept, NestedAsync, Limit, Memory}

-- the fault that is answered, if it is not want of memory
abbrev pub answered : TypeFault → Option Fault
answered (UnknownName at) = Some (record { place = at.0; kind = faults.UnknownName })
answered (Duplicate at) = Some (record { place = at.0; kind = faults.Duplicate })
answered (Mismatch at) = Some (record { place = at.0; kind = faults.Mismatch })
answered (ZeroDivisor at) = Some (record { place = at.0; kind = faults.ZeroDivisor })
answered (Recursive at) = Some (record { place = at.0; kind = faults.Recursive })
answered (NotDefined at) = Some (record { place = at.0; kind = faults.NotDefined })
answered (FutureKept at) = Some (record { place = at.0; kind = faults.FutureKept })
answered (NestedAsync at) = Some (record { place = at.0; kind = faults.NestedAsync })
answered (Limit at kept limit) = Some (record { place = at.0; kind = faults.Limit kept limit })
answered Memory = None

-- what is answered is the first of the program's faults
abbrev pub IsTypeFault : Program → TypeFault → Type 0
IsTypeFault program t = IfSome (answered t) (IsFirst (all_faults program))

-- what an answer says that the earliest fault is, none where a program is given back; want of memory says nothing
abbrev pub said_earliest : {A : Type 0} → Result A TypeFault → Option (Option Fault)
said_earliest (Ok a) = Some None
said_earliest (Err t) = option_map (λ f. Some f) (answered t)
