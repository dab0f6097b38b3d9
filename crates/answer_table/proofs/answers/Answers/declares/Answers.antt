use Rattle.std.proofs.Common.{◌∙◌, ap}
use Rattle.hept_ast.specs.Texts.{is_in, names}
use Rattle.answer_table.proofs.HomePaths.{declares_inside, declares_in_node}
use Rattle.answer_table.proofs.answers.Answers.declares.Goals as goal

pub returns-then-is_inner : goal.returns-then-is_inner
returns-then-is_inner c =
    declares_inside c.args.self.now c.args.scope.now _ _ _ c.args.name.now c.is_inner.result c.is_declared.result c.in_ok-node.ensures c.is_inner.ensures c.if-is_inner.true
    (c.is_declared.ensures ∙ ap (λ ds. is_in c.args.name.now (names ds)) c.as_slice.ensures)

pub returns-else-is_inner : goal.returns-else-is_inner
returns-else-is_inner c =
    declares_in_node c.args.self.now c.args.scope.now _ _ _ c.args.name.now c.is_inner.result c.node_declares.result c.in_ok-node.ensures c.is_inner.ensures c.if-is_inner.false c.node_declares.ensures
