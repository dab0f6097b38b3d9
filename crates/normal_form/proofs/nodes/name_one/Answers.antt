use Rattle.std.proofs.Common.{List, Option, refl, subst, ap, ◌∙◌}
use Rattle.hept_ast.specs.Texts.{Name}
use Rattle.hept_ast.specs.declared.tree.CoreEquation.{CoreEquation}
use Rattle.normal_form.specs.declared.cut.Taken.{Taken}
use Rattle.normal_form.specs.Cuts.{CutsRight}
use Rattle.normal_form.specs.Settling.{with_variable}
use Rattle.normal_form.proofs.Settling.{named_once, settled_once}
use Rattle.normal_form.proofs.nodes.name_one.Goals as goal

pub returns-in-None : goal.returns-in-None
returns-in-None c =
    let e = c.args.e in
    let x = c.in_ok-x.x in
    let f = c.in_ok-e.e in
    settled_once c.args.types.now c.args.before.now c.args.after.now c.args.names.now c.next.new.self x f.right e f c.args.rest.now c.args.rest.now
    c.requires c.in_ok-x.ensures (subst (λ (t : Option Taken). CutsRight x e.clock.steps e.right f.right t) c.in-None.is c.in_ok-e.ensures.right) c.in_ok-e.ensures.others refl

pub returns-in_ok-add_variable-in-Some : goal.returns-in_ok-add_variable-in-Some
returns-in_ok-add_variable-in-Some c =
    let e = c.args.e in
    let x = c.in_ok-x.x in
    let f = c.in_ok-e.e in
    let t : Taken = c.in-Some.taken in
    let rest = c.args.rest.now in
    let added = c.in_ok-add_variable-in-Some.ensures in
    named_once c.args.types.now c.args.before.now c.args.after.now c.args.names.now c.next.new.self x t added.ty f.right e f rest c.add_variable.new.rest
    c.requires c.in_ok-x.ensures (subst (λ (o : Option Taken). CutsRight x e.clock.steps e.right f.right o) c.in-Some.is c.in_ok-e.ensures.right) added.found c.in_ok-e.ensures.others
    (added.added ∙ ap (λ (l : List Name). with_variable x t added.ty l rest) (c.as_slice.ensures ∙ ap (λ (g : CoreEquation). g.resets) c.in_ok-e.ensures.others))
