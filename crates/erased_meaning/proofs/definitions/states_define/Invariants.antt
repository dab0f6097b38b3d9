use Rattle.std.proofs.Common.{Bool, drop}
use Rattle.std.specs.List.{flat_map}
use Rattle.erased_meaning.specs.Rules.{TestsDefined}
use Rattle.erased_meaning.specs.Equations.{AreStatesAt}
use Rattle.erased_meaning.proofs.definitions.states_define.Given as goal

abbrev pub invariant-loop-state : goal.invariant-loop-state
invariant-loop-state l = (b : Bool) → AreStatesAt l.answers l.scope l.equation l.states →
    TestsDefined l.answers l.name (flat_map (λ q. q.block.body) (drop l.state l.states)) b → TestsDefined l.answers l.name (flat_map (λ q. q.block.body) l.states) b
