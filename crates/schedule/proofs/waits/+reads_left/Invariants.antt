use Rattle.std.proofs.Common.{◌≡◌, take, false}
use Rattle.std.specs.List.{list_any}
use Rattle.hept_ast.specs.Causal.{reads}
use Rattle.schedule.specs.Order.{is_left}
use Rattle.schedule.proofs.waits.+reads_left.Given as goal

abbrev pub invariant-loop-branch : goal.invariant-loop-branch
invariant-loop-branch l = list_any (λ b. list_any (is_left l.left) (reads b.value.form)) (take l.branch-index l.branch-items) ≡ false

abbrev pub invariant-loop-arg : goal.invariant-loop-arg
invariant-loop-arg l = list_any (λ b. list_any (is_left l.left) (reads b.form)) (take l.arg-index l.arg-items) ≡ false

abbrev pub invariant-loop-arg-2 : goal.invariant-loop-arg-2
invariant-loop-arg-2 l = list_any (λ b. list_any (is_left l.left) (reads b.form)) (take l.arg-index l.arg-items) ≡ false
