use Rattle.std.proofs.Common.{◌≡◌, ◌++◌, map, take}
use Rattle.std.specs.List.{flat_map}
use Rattle.hept_ast.specs.Faults.{called_async}
use Rattle.call_graph.proofs.graph.push_async_names.Given as goal

abbrev pub invariant-loop-e : goal.invariant-loop-e
invariant-loop-e l = map (λ r. r.now) l.names.items ≡ map (λ r. r.now) l.initial.names.items ++ flat_map (λ e. called_async e.form) (map (λ r. r.now) (take l.e-index l.exprs))
