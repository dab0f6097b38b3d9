use Rattle.std.proofs.Common.{◌∙◌, ap, sym}
use Rattle.std.specs.List.{list_any}
use Rattle.hept_ast.specs.Types.{constructors_of}
use Rattle.hept_ast.specs.declared.tree.Tag.TheVariants as tag_
use Rattle.hept_ast.specs.declared.tree.Ty.TheVariants as ty_
use Rattle.declared_types.specs.Tags.{is_lacking, is_left_out}
use Rattle.declared_types.specs.Typing.{plain_of}
use Rattle.declared_types.specs.declared.typing.PlainType.{PlainType}
use Rattle.earliest_fault.proofs.Noting.{any_mapped}
use Rattle.declared_types.proofs.tags.lacks_of_plain.Goals as goal

pub returns-in-Named : goal.returns-in-Named
returns-in-Named g c =
    let bs = c.args.branches.now in
    let out = is_left_out g.B.Tagged.tag_of bs in
    c.lacks_one_of.ensures
    ∙ (ap (list_any (λ k. out (tag_.Constructor k))) c.constructors_of.ensures
    ∙ (sym (any_mapped out tag_.Constructor (constructors_of c.args.types.now c.in-Named.name.now))
    ∙ ap (λ (p : PlainType). is_lacking c.args.types.now g.B.Tagged.tag_of bs (ty_.Plain (plain_of p))) (sym c.in-Named.is)))
