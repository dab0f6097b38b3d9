use Rattle.std.proofs.Common.{◌==◌, sym, ◌∙◌}
use Rattle.hept_ast.specs.Texts.{tag_value}
use Rattle.erased_meaning.proofs.FoundOf.{found_there}
use Rattle.erased_meaning.proofs.SaysOf.{equal_is}
use Rattle.erased_meaning.proofs.definitions.branch_of.Goals as goal

pub returns-then-tag_value-value : goal.returns-then-tag_value-value
returns-then-tag_value-value c =
    let there = found_there (λ b. tag_value c.args.types.now b.tag == c.args.value) c.args.branches.now c.loop-position.position c.index-branches-position.result c.loop-position-test.true
    c.index-branches-position.is (equal_is _ _ (sym c.tag_value.ensures ∙ c.if-tag_value-value.true)) c.loop-position.invariant in
    (c.index-branches-position.result, there.0, there.1)
