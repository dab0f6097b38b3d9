use Rattle.std.proofs.Common.{◌≡◌, take}
use Rattle.std.specs.List.{flat_map}
use Rattle.hept_ast.specs.Limits.{earlier_of, earliest}
use Rattle.type_futures.specs.NodeFaults.{kept_output}
use Rattle.type_futures.proofs.nodes.note_kept_outputs.Given as goal

abbrev pub invariant-loop-output : goal.invariant-loop-output
invariant-loop-output l = l.found ≡ earlier_of l.initial.found (earliest (flat_map (kept_output l.is_async) (take l.output-index l.outputs)))
