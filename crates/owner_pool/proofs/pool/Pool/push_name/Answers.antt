use Rattle.std.proofs.Common.{◌≡◌, ◌<◌, ◌++◌, ◌∷◌, [], List, arith, ap, ◌∙◌, rules}
use Rattle.owner_pool.specs.declared.pool.Name.{Name}
use Rattle.owner_pool.specs.Counted.{times}
use Rattle.owner_pool.specs.Noting.{slots_of}
use Rattle.owner_pool.proofs.Names.{length-slots_of, times_few, times-append, slots_of-append}
use Rattle.owner_pool.proofs.pool.Pool.push_name.Goals as goal

pub name-requires-clause-few : goal.name-requires-clause-few
name-requires-clause-few c =
    let me = c.args.self.now in
    let is = c.requires.called c.args.slot in
    let few = times_few c.args.slot (slots_of me.waiting.items) in
    let long = length-slots_of me.waiting.items in
    let room = c.requires.room in
    let fits : me.room < 18446744073709551616 = search rules in
    omega arith

pub returns-clause-called : goal.returns-clause-called
returns-clause-called c z =
    let me = c.args.self.now in
    let name : Name = record { instance = c.args.instance; number = c.args.number; slot = c.args.slot } in
    let is = c.requires.called z in
    let now = c.name.ensures.called z in
    let items : c.push.new.self.items ≡ me.waiting.items ++ name ∷ [] = search rules in
    let all = ap (λ (l : List Name). times z (slots_of l)) items ∙ (ap (times z) (slots_of-append me.waiting.items (name ∷ [])) ∙ times-append z (slots_of me.waiting.items) (c.args.slot ∷ [])) in
    omega arith
