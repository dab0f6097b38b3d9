use Rattle.std.proofs.Common.{◌≡◌, ◌<◌, true, length, rules, arith}
use Rattle.hept_ast.specs.Texts.{is_in, place_in}
use Rattle.plan_expressions.proofs.PlacesOf.{within_names}
use Rattle.plan_bodies.proofs.Outputs.{name_among}
use Rattle.plan_bodies.proofs.arguments.output_registers.Goals as goal

pub bounds-registers-position : goal.bounds-registers-position
bounds-registers-position c =
    let among : is_in c.output-item.result.name c.args.variables.now ≡ true =
    name_among c.args.variables.now c.args.outputs.now c.loop-output.output-index c.output-item.result c.requires.among (search rules) (search rules) in
    omega (arith, c.position.ensures, c.requires.known, within_names c.output-item.result.name c.args.variables.now among)

pub offset_bounds-registers-position : goal.offset_bounds-registers-position
offset_bounds-registers-position c =
    let among : is_in c.output-item.result.name c.args.variables.now ≡ true =
    name_among c.args.variables.now c.args.outputs.now c.loop-output.output-index c.output-item.result c.requires.among (search rules) (search rules) in
    let below : place_in c.output-item.result.name c.args.variables.now < length c.args.variables.now = within_names c.output-item.result.name c.args.variables.now among in
    search rules
