use Rattle.std.proofs.Common.{◌+◌, ◌%◌, ◌^◌, ap, ℕ}
use Rattle.station_example.proofs.Totals.{stands-push}
use Rattle.station_example.proofs.Sum.step.Goals as goal

pub returns : goal.returns
returns c = λ s is. stands-push _ _ c.args.value s is (ap (λ (n : ℕ). (n + c.args.value % 2 ^ 32) % 2 ^ 32) c.self.view_is)
