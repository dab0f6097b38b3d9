use Rattle.std.proofs.Common.{◌≡◌, fold, take}
use Rattle.hept_ast.specs.Clocks.{Inner}
use Rattle.clock_calculus.specs.Collecting.{collection, after_branch, after_operand}
use Rattle.clock_calculus.specs.Sites.{own_of}
use Rattle.clock_calculus.proofs.expressions.+push_expression.Given as goal

abbrev pub invariant-loop-branch : goal.invariant-loop-branch
invariant-loop-branch l = collection l.out ≡ fold (after_branch (own_of l.scope) l.e.place.0 l.x) (collection l.initial.out) (take l.branch-index l.branch-items)

abbrev pub invariant-loop-arg : goal.invariant-loop-arg
invariant-loop-arg l = collection l.out ≡ fold (after_operand (own_of l.scope) l.e.place.0 (Inner l.fn.out.expressions)) (collection l.initial.out) (take l.arg-index l.arg-items)

abbrev pub invariant-loop-arg-2 : goal.invariant-loop-arg-2
invariant-loop-arg-2 l = collection l.out ≡ fold (after_operand (own_of l.scope) l.e.place.0 (Inner l.fn.out.expressions)) (collection l.initial.out) (take l.arg-index l.arg-items)
