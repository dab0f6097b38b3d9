use Rattle.std.proofs.Common.{◌≡◌, Some, None, sym, ap, ◌∙◌}
use Rattle.std.specs.Option.{option_copied, option_map}
use Rattle.hept_ast.specs.declared.tree.CoreNode.{CoreNode}
use Rattle.core_rules.specs.Cores.{as_interface}
use Rattle.normal_form.proofs.Found.{named_after, named_before, named_here}
use Rattle.normal_form.proofs.types.called.Goals as goal

pub returns-in-Some : goal.returns-in-Some
returns-in-Some c =
    let s = c.args.scene.now in
    named_before c.args.name.now s.before.now s.after.now s.node.now c.in-Some.node.now (sym c.node_in.ensures ∙ ap option_copied c.in-Some.is)

pub returns-then-is_same : goal.returns-then-is_same
returns-then-is_same c =
    let s = c.args.scene.now in
    named_here c.args.name.now s.before.now s.after.now s.node.now (sym c.node_in.ensures ∙ ap option_copied c.in_default.is) (sym c.is_same.ensures ∙ c.if-is_same.true)

pub returns : goal.returns
returns c =
    let s = c.args.scene.now in
    ap (option_map as_interface) c.node_in-2.ensures
    ∙ named_after c.args.name.now s.before.now s.after.now s.node.now (sym c.node_in.ensures ∙ ap option_copied c.in_default.is) (sym c.is_same.ensures ∙ c.if-is_same.false)
