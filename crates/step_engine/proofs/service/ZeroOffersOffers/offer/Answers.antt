use Rattle.std.proofs.Common.{[], ◌∷◌, ◌++◌, refl}
use Rattle.step_engine.proofs.service.ZeroOffersOffers.offer.Goals as goal

pub returns : goal.returns
returns c = λ book h. (
  record {
    calls = book.calls ++ record { instance = c.args._instance; reset = c.args._reset; input = c.args._input.now; handle = record { slot = 0; component = 0; generation = 0 } } ∷ [];
    reply = book.reply;
    outputs = book.outputs;
  },
  h,
  record { calls = refl; outputs = refl; replies = λ k of. refl },
)
