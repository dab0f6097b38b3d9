use Rattle.std.proofs.Common.{◌≡◌, map, drop}
use Rattle.hept_ast.specs.Parts.{declaration}
use Rattle.node_text.proofs.declarations.declaration.Given as goal

abbrev pub invariant-loop-decl : goal.invariant-loop-decl
invariant-loop-decl l = declaration (map (λ r. r.now) l.seen) l.name ≡ declaration (map (λ r. r.now) (drop l.decl-index l.seen)) l.name
