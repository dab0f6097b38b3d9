use Rattle.std.proofs.Common.{List, [], refl, ap}
use Rattle.hept_ast.specs.declared.tree.CoreEquation.{CoreEquation}
use Rattle.normal_form.specs.declared.nodes.Unsettled.{Unsettled}
use Rattle.normal_form.specs.Settling.{with_equations}
use Rattle.normal_form.proofs.Settling.{settling_begins, settling_ends, settling_more, settling_requires}
use Rattle.normal_form.proofs.nodes.normalise_node.Goals as goal

-- a node with other equations, and those that are left
abbrev unsettled : Unsettled → List CoreEquation → List CoreEquation → Unsettled
unsettled rest done left = record { node = with_equations rest.node done; left = left }

pub equations-init : goal.equations-init
equations-init c =
    let node = c.args.node in
    settling_begins c.args.types.now c.args.before.now c.args.after.now c.args.names.now node (record { node = with_equations node c.new.result; left = node.equations }) c.requires
    (ap (λ (es : List CoreEquation). unsettled (record { node = node; left = [] }) es node.equations) c.new.ensures)

pub settle-requires : goal.settle-requires
settle-requires c =
    settling_requires c.args.types.now c.args.before.now c.args.after.now c.equations.names c.args.node c.remove-e.result c.equations.rest
    (unsettled c.equations.rest c.equations.rest.node.equations c.remove-e.new.self) c.remove-e.new.self c.equations.invariant c.remove-e.ensures.item c.remove-e.ensures.rest refl

pub equations-preserved : goal.equations-preserved
equations-preserved c =
    let rest = c.equations.rest in
    let moved = c.settle.new.rest in
    (settling_more c.args.types.now c.args.before.now c.args.after.now c.equations.names c.settle.new.names c.args.node c.remove-e.result c.in_ok-e.e rest
    (unsettled rest rest.node.equations c.remove-e.new.self) moved (unsettled moved c.push.new.self moved.left) c.remove-e.new.self
    c.equations.invariant c.remove-e.ensures.item c.remove-e.ensures.rest refl c.in_ok-e.ensures (ap (λ (es : List CoreEquation). unsettled moved es moved.left) c.in_ok-push.ensures.ok)).0

pub equations-smaller : goal.equations-smaller
equations-smaller c =
    let rest = c.equations.rest in
    let moved = c.settle.new.rest in
    (settling_more c.args.types.now c.args.before.now c.args.after.now c.equations.names c.settle.new.names c.args.node c.remove-e.result c.in_ok-e.e rest
    (unsettled rest rest.node.equations c.remove-e.new.self) moved (unsettled moved c.push.new.self moved.left) c.remove-e.new.self
    c.equations.invariant c.remove-e.ensures.item c.remove-e.ensures.rest refl c.in_ok-e.ensures (ap (λ (es : List CoreEquation). unsettled moved es moved.left) c.in_ok-push.ensures.ok)).1

pub returns : goal.returns
returns c = settling_ends c.args.types.now c.args.before.now c.args.after.now c.equations.names c.args.node c.equations.rest c.equations.invariant (c.is_empty.ensures.0 c.equations-test.false)
