use Rattle.std.proofs.Common.{◌≡◌, ◌++◌, string_bytes, arith}
use Rattle.std.specs.Prelude.{decimal}
use Rattle.std.proofs.lemmas.Grind.{common_steps}
use Rattle.normal_form.proofs.NewNames.{next_new}
use Rattle.normal_form.proofs.new_names.NewNames.next.Goals as goal

pub returns : goal.returns
returns c =
    let is : c.in_ok-name.name ≡ string_bytes c.args.self.now.mark ++ decimal c.args.self.now.used = first_of (cc, grind (arith, common_steps)) in
    λ core h. next_new (string_bytes c.args.self.now.mark) c.in_ok-name.name c.args.self.now.used core (omega arith) is h
