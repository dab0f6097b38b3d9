use Rattle.earliest_fault.proofs.NameSets.{more_met}
use Rattle.earliest_fault.proofs.name_set.insert_names.Goals as goal

pub loop-name-preserved : goal.loop-name-preserved
loop-name-preserved c = λ x.
    more_met (λ r. r.now) c.args.more.now c.loop-name.name-index c.name-item.result c.name-item.result x _ _ _ c.loop-name-test.true c.name-item.is (c.loop-name.invariant x) (c.in_ok-insert_name.ensures.names x)
