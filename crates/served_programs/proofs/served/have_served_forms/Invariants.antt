use Rattle.std.proofs.Common.{length}
use Rattle.std.specs.Prelude.{◌↔◌, All, IsTrue}
use Rattle.hept_ast.specs.declared.tree.Form.{out-Form}
use Rattle.served_programs.specs.Served.{is_served_form}
use Rattle.served_programs.proofs.served.have_served_forms.Given as goal

abbrev pub invariant-loop-exprs : goal.invariant-loop-exprs
invariant-loop-exprs l = All (λ r. IsTrue (is_served_form (out-Form r.now.form))) l.exprs ↔ All (λ r. IsTrue (is_served_form (out-Form r.now.form))) l.initial.exprs

abbrev pub decreases-loop-exprs : goal.decreases-loop-exprs
decreases-loop-exprs l = length l.exprs
