use Rattle.std.proofs.Common.{◌≡◌, List, ℕ, length, ap, subst, sym, ◌∙◌}
use Rattle.std.specs.Prelude.{Option}
use Rattle.hept_ast.specs.declared.tree.Node.{Node}
use Rattle.hept_ast.specs.declared.tree.Program.{Program}
use Rattle.causality.specs.Initialised.{AreNoted}
use Rattle.causality.proofs.Initialised.{all_initialised, first_unmet, not_both}
use Rattle.causality.proofs.initial.check_initial.Goals as goal

-- what was noted of the program's nodes
of_program : (p q : Program) (nodes : List Node) (found o : Option ℕ) → q ≡ p → nodes ≡ q.nodes → o ≡ found → AreNoted nodes (length nodes) found → AreNoted p.nodes (length p.nodes) o
of_program p q nodes found o same is e a =
    subst (λ (f : Option ℕ). AreNoted p.nodes (length p.nodes) f) (sym e) (subst (λ (ns : List Node). AreNoted ns (length ns) found) (is ∙ ap (λ (p : Program). p.nodes) same) a)

pub returns-in-Some-clause-answer : goal.returns-in-Some-clause-answer
returns-in-Some-clause-answer c = first_unmet c.args.clocked.now.program _ (of_program c.args.clocked.now.program _ _ _ _ c.program.ensures.same c.as_slice.ensures c.in-Some.ensures c.in-Ok.ensures)

pub returns-in-Some-clause-exactly : goal.returns-in-Some-clause-exactly
returns-in-Some-clause-exactly c i = absurd (not_both c.args.clocked.now.program _ i (first_unmet c.args.clocked.now.program _ (of_program c.args.clocked.now.program _ _ _ _ c.program.ensures.same c.as_slice.ensures c.in-Some.ensures c.in-Ok.ensures)))

pub returns-in-None-clause-answer : goal.returns-in-None-clause-answer
returns-in-None-clause-answer c = all_initialised c.args.clocked.now.program (of_program c.args.clocked.now.program _ _ _ _ c.program.ensures.same c.as_slice.ensures c.in-None.ensures c.in-Ok.ensures)
