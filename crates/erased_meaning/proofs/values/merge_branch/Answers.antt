use Rattle.std.proofs.Common.{◌==◌, sym, ◌∙◌}
use Rattle.hept_ast.specs.Texts.{tag_value}
use Rattle.erased_meaning.proofs.FoundOf.{found_there}
use Rattle.erased_meaning.proofs.values.merge_branch.Goals as goal

pub returns-then-has_tag : goal.returns-then-has_tag
returns-then-has_tag c =
    found_there (λ b. tag_value c.args.types.now b.tag == c.args.value) c.args.branches.now c.loop-position.position c.index-branches-position.result c.loop-position-test.true
    c.index-branches-position.is (sym c.has_tag.ensures ∙ c.if-has_tag.true) c.loop-position.invariant
