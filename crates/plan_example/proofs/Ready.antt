-- What an instant asks for is there.
use Rattle.std.proofs.Common.{◌≡◌, refl}
use Rattle.plan_example.specs.Example.{SumIsReady}

pub sum_is_ready : SumIsReady
sum_is_ready = (
  record { types = refl; nodes = λ f text h. absurd (cc) },
  λ calls marked replies t suits lt. record { firm = λ k x at. absurd (cc); covered = λ k x at. absurd (cc); arguments = λ k x at. absurd (cc) },
)
