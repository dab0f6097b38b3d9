use Rattle.std.proofs.Common.{[], ◌∷◌, map, ◌∙◌, ap}
use Rattle.std.specs.List.{list_any}
use Rattle.std.proofs.lemmas.List.{map-append}
use Rattle.clock_calculus.specs.Numbering.{same_step, step_of}
use Rattle.clock_calculus.proofs.Numbered.{known_last}
use Rattle.clock_calculus.proofs.numbers.note_step.Goals as goal

pub returns-in-Ok-clause-known : goal.returns-in-Ok-clause-known
returns-in-Ok-clause-known c =
    let xs = c.args.steps.now.items in
    ap (λ t. list_any (same_step (step_of c.args.step)) (map step_of t)) c.in-Ok.ensures.items
    ∙ ap (list_any (same_step (step_of c.args.step))) (map-append step_of xs (c.args.step ∷ []))
    ∙ known_last (map step_of xs) (step_of c.args.step)
