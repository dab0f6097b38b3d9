-- How the earliest fault is found.
--
-- The static definitions list all faults of a program. No list of them is made: each function that looks
-- for faults takes what was found so far, and has the one contract
--
--     found.new ≡ earlier_of found.old (earliest (the faults that it looks for))
--
-- so that two such calls one after the other look for the faults of both lists, and a loop of them for
-- those of each element. The whole is one fold over the lists that the definition is made of.
use Rattle.hept_ast.specs.Faults as faults
use Rattle.earliest_fault.specs.declared.faults.Kind.{Kind}
use Rattle.earliest_fault.specs.declared.faults.Kind.TheVariants.{UnknownName, Duplicate, Mismatch, ZeroDivisor, Recursive, NotDefined, FutureKept, NestedAsync, Limit}
use Rattle.earliest_fault.specs.declared.faults.Fault.{Fault}

abbrev pub kind_of : Kind → faults.Kind
kind_of UnknownName = faults.UnknownName
kind_of Duplicate = faults.Duplicate
kind_of Mismatch = faults.Mismatch
kind_of ZeroDivisor = faults.ZeroDivisor
kind_of Recursive = faults.Recursive
kind_of NotDefined = faults.NotDefined
kind_of FutureKept = faults.FutureKept
kind_of NestedAsync = faults.NestedAsync
kind_of (Limit kept limit) = faults.Limit kept limit

abbrev pub fault_of : Fault → faults.Fault
fault_of f = record { place = f.place.0; kind = kind_of f.kind }
