-- What some bytes begin with, computed.
use Rattle.std.specs.Prelude.{◌≡◌, codes, Some, None, refl}
use Rattle.ept_tokens.specs.declared.token.Kind.TheVariants.{Lower, OpenAngle, Fby, Mod}
use Rattle.ept_tokens.specs.Tokens.{kind_of, front, Blank, Word, Wrong, BadByte, OpenComment, NumberTooLarge}

kind_of_mod : kind_of (codes "mod") ≡ Some Mod
kind_of_mod = refl

kind_of_mode : kind_of (codes "mode") ≡ Some Lower
kind_of_mode = refl

kind_of_shift : kind_of (codes "<<") ≡ Some OpenAngle
kind_of_shift = refl

no_kind : kind_of (codes "?") ≡ None
no_kind = refl

front_of_word : front (codes "fby(x)") ≡ Word 3 Fby
front_of_word = refl

front_of_name : front (codes "fby_x)") ≡ Word 5 Lower
front_of_name = refl

front_of_comment : front (codes "(* (* *) *) x") ≡ Blank 11
front_of_comment = refl

front_of_open : front (codes "(* (* *)") ≡ Wrong OpenComment
front_of_open = refl

front_of_star : front (codes "(*)") ≡ Wrong OpenComment
front_of_star = refl

front_of_large : front (codes "2147483648 tel") ≡ Wrong NumberTooLarge
front_of_large = refl

front_of_bad : front (codes "?") ≡ Wrong BadByte
front_of_bad = refl
