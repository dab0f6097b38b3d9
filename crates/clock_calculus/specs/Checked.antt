-- Why a program has no clocks.
use Rattle.std.specs.Prelude.{ℕ, ⊤}
use Rattle.hept_ast.specs.Clocks.{IsClocked, IsNoClock}
use Rattle.hept_ast.specs.declared.tree.Program.{Program}
use Rattle.clock_calculus.specs.declared.check.ClockFault as fault
use Rattle.clock_calculus.specs.declared.check.ClockFault.TheVariants as variant

-- the program is not well clocked, and this is the least place that shows it
pub record HasNoClock (program : Program) (at : ℕ) : Type 0 where
  pub none : IsClocked program → ⊥
  pub place : IsNoClock program at

-- want of memory is free
abbrev pub IsClockFault : Program → fault.ClockFault → Type 0
IsClockFault program (variant.NoClock at) = HasNoClock program at.0
IsClockFault program variant.Memory = ⊤
