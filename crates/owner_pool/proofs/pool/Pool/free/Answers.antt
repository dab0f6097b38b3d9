use Rattle.std.proofs.Common.{List, ap, arith}
use Rattle.owner_pool.specs.declared.pool.Name.{Name}
use Rattle.owner_pool.specs.Counted.{times}
use Rattle.owner_pool.specs.Noting.{slots_of}
use Rattle.owner_pool.proofs.Names.{unnamed_at_zero}
use Rattle.owner_pool.proofs.pool.Pool.free.Goals as goal

pub returns-clause-unfinished : goal.returns-clause-unfinished
returns-clause-unfinished c sizes book h =
    let me = c.args.self.now in
    let none = c.free.ensures.unnamed in
    let is = h.called_is c.free.result in
    let all = ap (λ (l : List Name). times c.free.result (slots_of l)) h.waiting_is in
    unnamed_at_zero c.free.result me.seen.items book (omega arith)

pub returns-clause-cells : goal.returns-clause-cells
returns-clause-cells c cells told = let none = c.free.ensures.unnamed in let t = told c.free.result in omega arith
