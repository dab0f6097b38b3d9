use Rattle.std.proofs.Common.{◌≡◌, ◌++◌, map, take}
use Rattle.std.specs.List.{flat_map}
use Rattle.hept_ast.specs.Parts.{inside}
use Rattle.node_text.proofs.expressions.+push_inside.Given as goal

abbrev pub invariant-loop-branch : goal.invariant-loop-branch
invariant-loop-branch l = map (λ r. r.now) l.exprs.items ≡ map (λ r. r.now) l.initial.exprs.items ++ flat_map (λ b. inside b.value) (take l.branch-index l.branch-items)

abbrev pub invariant-loop-arg : goal.invariant-loop-arg
invariant-loop-arg l = map (λ r. r.now) l.exprs.items ≡ map (λ r. r.now) l.initial.exprs.items ++ flat_map inside (take l.arg-index l.arg-items)

abbrev pub invariant-loop-arg-2 : goal.invariant-loop-arg-2
invariant-loop-arg-2 l = map (λ r. r.now) l.exprs.items ≡ map (λ r. r.now) l.initial.exprs.items ++ flat_map inside (take l.arg-index l.arg-items)
