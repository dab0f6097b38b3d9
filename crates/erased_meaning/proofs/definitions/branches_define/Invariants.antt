use Rattle.std.proofs.Common.{Bool, drop}
use Rattle.std.specs.List.{flat_map}
use Rattle.erased_meaning.specs.Rules.{TestsDefined}
use Rattle.erased_meaning.specs.Equations.{AreBranchesAt}
use Rattle.erased_meaning.proofs.definitions.branches_define.Given as goal

abbrev pub invariant-loop-branch : goal.invariant-loop-branch
invariant-loop-branch l = (b : Bool) → AreBranchesAt l.answers l.scope l.equation l.branches →
    TestsDefined l.answers l.name (flat_map (λ p. p.block.body) (drop l.branch l.branches)) b → TestsDefined l.answers l.name (flat_map (λ p. p.block.body) l.branches) b
