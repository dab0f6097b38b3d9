use Rattle.std.proofs.Common.{◌≡◌, ◌||◌, map, take}
use Rattle.hept_ast.specs.Texts.{Name, is_in}
use Rattle.earliest_fault.proofs.name_set.insert_names.Given as goal

abbrev pub invariant-loop-name : goal.invariant-loop-name
invariant-loop-name l = (x : Name) → is_in x (map (λ r. r.now) l.names.keys) ≡ (is_in x (map (λ r. r.now) l.initial.names.keys) || is_in x (map (λ r. r.now) (take l.name-index l.more)))
