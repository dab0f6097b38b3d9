use Rattle.std.proofs.Common.{[], ◌∷◌, map, arith}
use Rattle.declared_types.specs.Types.{type_in}
use Rattle.declared_types.proofs.LeftTypes.{have_others}
use Rattle.declared_types.proofs.lefts.have_one.Goals as goal

pub returns-in_default-2 : goal.returns-in_default-2
returns-in_default-2 c =
    have_others (map (λ r. r.now) c.args.seen.now) c.args.names.now (type_in c.args.held ∷ []) (λ e. omega (arith, e, c.in_default.len_at_least))
