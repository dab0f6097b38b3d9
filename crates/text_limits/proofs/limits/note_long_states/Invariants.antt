use Rattle.std.proofs.Common.{◌≡◌, map, take}
use Rattle.std.specs.List.{flat_map}
use Rattle.hept_ast.specs.Limits.{earlier_of, earliest, name_limit}
use Rattle.hept_ast.specs.Parts.{state_case}
use Rattle.text_limits.proofs.limits.note_long_states.Given as goal

abbrev pub invariant-loop-state : goal.invariant-loop-state
invariant-loop-state l = l.found ≡ earlier_of l.initial.found (earliest (flat_map (λ c. name_limit c.place c.label) (map state_case (take l.state-index l.states))))
