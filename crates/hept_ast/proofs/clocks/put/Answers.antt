use Rattle.std.proofs.Common.{subst, sym, rules}
use Rattle.hept_ast.specs.ClockMaps.{IsPut}
use Rattle.hept_ast.proofs.ClockMapsOf.{put_over, put_last}
use Rattle.hept_ast.proofs.clocks.put.Goals as goal

pub returns-in-Some-clause-put : goal.returns-in-Some-clause-put
returns-in-Some-clause-put c =
    subst (λ t. IsPut c.args.clocks.now t c.args.name c.args.path) (sym c.set.ensures) (put_over c.args.clocks.now (record { name = c.args.name; path = c.args.path }) c.in-Some.index (search rules))

pub returns-in_ok-push-in-None-clause-put : goal.returns-in_ok-push-in-None-clause-put
returns-in_ok-push-in-None-clause-put c =
    subst (λ t. IsPut c.args.clocks.now t c.args.name c.args.path) (sym c.in_ok-push-in-None.ensures.ok) (put_last c.args.clocks.now (record { name = c.args.name; path = c.args.path }) (search rules))
