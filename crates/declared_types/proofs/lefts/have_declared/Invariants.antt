use Rattle.std.proofs.Common.{◌≡◌, drop, map}
use Rattle.hept_ast.specs.Types.{types_of}
use Rattle.declared_types.specs.Lefts.{have_types}
use Rattle.declared_types.proofs.lefts.have_declared.Given as goal

abbrev pub invariant-loop-index : goal.invariant-loop-index
invariant-loop-index l = have_types (map (λ r. r.now) l.seen) l.names (types_of l.decls) ≡ have_types (map (λ r. r.now) l.seen) (drop l.index l.names) (types_of (drop l.index l.decls))
