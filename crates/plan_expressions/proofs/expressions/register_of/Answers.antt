use Rattle.std.proofs.Common.{◌<◌, length, rules, arith, ap}
use Rattle.std.specs.Prelude.{slice_index}
use Rattle.hept_ast.specs.Texts.{place_in}
use Rattle.plan_expressions.proofs.PlacesOf.{within_names}
use Rattle.plan_expressions.proofs.expressions.register_of.Goals as goal

pub returns : goal.returns
returns c = ap (slice_index c.args.registers.now) c.position.ensures

pub bounds-registers-position : goal.bounds-registers-position
bounds-registers-position c = omega (arith, c.position.ensures, c.requires.known, within_names c.args.x.now c.args.variables.now c.requires.among)

pub offset_bounds-registers-position : goal.offset_bounds-registers-position
offset_bounds-registers-position c =
    let below : place_in c.args.x.now c.args.variables.now < length c.args.variables.now = within_names c.args.x.now c.args.variables.now c.requires.among in
    search rules
