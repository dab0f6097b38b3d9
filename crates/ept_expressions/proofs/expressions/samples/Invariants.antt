use Rattle.std.proofs.Common.{◌≡◌, ◌≤◌, length, List, [], ◌∷◌, ◌++◌}
use Rattle.ept_grammar.specs.declared.parts.Sample.{Sample}
use Rattle.ept_grammar.specs.Grammar.{Samples, part, sampled}
use Rattle.ept_grammar.specs.Reading.{To}
use Rattle.ept_expressions.proofs.expressions.samples.Given as goal

abbrev pub invariant-samples : goal.invariant-samples
invariant-samples l = record {
  so_far : (ss : List Sample) × To Samples l.tokens l.fn.counts (part Samples ∷ []) (λ us. ss ++ us.0) l.rest l.now × (l.left ≡ sampled l.fn.sampled ss);
  shorter : length l.rest ≤ length l.tokens;
}

abbrev pub decreases-samples : goal.decreases-samples
decreases-samples l = length l.rest
