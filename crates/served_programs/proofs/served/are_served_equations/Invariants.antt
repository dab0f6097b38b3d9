use Rattle.std.proofs.Common.{length}
use Rattle.std.specs.Prelude.{◌↔◌, All}
use Rattle.hept_ast.specs.declared.tree.Equation.{out-Equation}
use Rattle.served_programs.specs.Served.{IsServedEquation}
use Rattle.served_programs.proofs.served.are_served_equations.Given as goal

abbrev pub invariant-loop-equations : goal.invariant-loop-equations
invariant-loop-equations l = All (λ e. IsServedEquation (out-Equation e)) l.equations ↔ All (λ e. IsServedEquation (out-Equation e)) l.initial.equations

abbrev pub decreases-loop-equations : goal.decreases-loop-equations
decreases-loop-equations l = length l.equations
