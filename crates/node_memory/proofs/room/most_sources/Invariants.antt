use Rattle.std.proofs.Common.{ℕ, ◌<◌, ◌≤◌, length}
use Rattle.std.specs.Prelude.{slice_index_or}
use Rattle.step_plans.specs.declared.action.Offering.{Offering}
use Rattle.node_memory.proofs.room.most_sources.Given as goal

abbrev pub invariant-loop-offering : goal.invariant-loop-offering
invariant-loop-offering l = (k : ℕ) (d : Offering) → k < l.offering-index → length (slice_index_or l.offerings k d).sources.items ≤ l.most
