-- Tests of lists, where something is among them.
use Rattle.std.specs.Prelude.{◌≡◌, Bool, true, List}
use Rattle.std.specs.List.{list_any, list_all}
use Rattle.ept_tokens.proofs.Bools.{or_left, or_right, and_both}
use Rattle.ept_grammar.specs.Grammar.{Among, here, there}

pub any_of : {A : Type 0} (p : A → Bool) {x : A} {xs : List A} → Among x xs → p x ≡ true → list_any p xs ≡ true
any_of p (here {xs = xs}) e = or_left _ (list_any p xs) e
any_of p (there {y = y} {xs = xs} i) e = or_right (p y) _ (any_of p i e)

pub all_of : {A : Type 0} (p : A → Bool) {x : A} {xs : List A} → Among x xs → list_all p xs ≡ true → p x ≡ true
all_of p (here {x = x} {xs = xs}) e = (and_both (p x) (list_all p xs) e).0
all_of p (there {y = y} {xs = xs} i) e = all_of p i (and_both (p y) (list_all p xs) e).1
