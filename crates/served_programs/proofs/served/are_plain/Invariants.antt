use Rattle.std.proofs.Common.{length}
use Rattle.std.specs.Prelude.{◌↔◌, All}
use Rattle.served_programs.specs.Served.{IsPlainDecl}
use Rattle.served_programs.proofs.served.are_plain.Given as goal

abbrev pub invariant-loop-decls : goal.invariant-loop-decls
invariant-loop-decls l = All (λ r. IsPlainDecl r.now) l.decls ↔ All (λ r. IsPlainDecl r.now) l.initial.decls

abbrev pub decreases-loop-decls : goal.decreases-loop-decls
decreases-loop-decls l = length l.decls
