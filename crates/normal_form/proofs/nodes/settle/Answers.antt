use Rattle.normal_form.proofs.Settling.{moves_none, moves_then}
use Rattle.normal_form.proofs.nodes.settle.Goals as goal

pub namings-init : goal.namings-init
namings-init c = moves_none c.args.types.now c.args.before.now c.args.after.now c.args.names.now c.args.e c.args.rest.now c.requires

pub name_one-requires : goal.name_one-requires
name_one-requires c = c.namings.invariant.sound

pub returns-then-settled : goal.returns-then-settled
returns-then-settled c = record {
  moves = moves_then c.args.types.now c.args.before.now c.args.after.now c.namings.names c.name_one.new.names c.args.e c.namings.e c.in_ok-f.f c.args.rest.now c.namings.rest c.name_one.new.rest
      c.namings.invariant c.in_ok-f.ensures.moves;
  normal = c.in_ok-f.ensures.normal c.if-settled.true;
}

pub namings-preserved : goal.namings-preserved
namings-preserved c =
    moves_then c.args.types.now c.args.before.now c.args.after.now c.namings.names c.name_one.new.names c.args.e c.namings.e c.in_ok-f.f c.args.rest.now c.namings.rest c.name_one.new.rest
    c.namings.invariant c.in_ok-f.ensures.moves

pub namings-smaller : goal.namings-smaller
namings-smaller c = c.in_ok-f.ensures.smaller c.if-settled.false
