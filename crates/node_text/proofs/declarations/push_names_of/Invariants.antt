use Rattle.std.proofs.Common.{◌≡◌, ◌++◌, map, take}
use Rattle.hept_ast.specs.Texts.{names}
use Rattle.node_text.proofs.declarations.push_names_of.Given as goal

abbrev pub invariant-loop-decl : goal.invariant-loop-decl
invariant-loop-decl l = map (λ r. r.now) l.out.items ≡ map (λ r. r.now) l.initial.out.items ++ names (map (λ r. r.now) (take l.decl-index l.decls))
