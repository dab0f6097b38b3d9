-- Numbers that digits write.
use Rattle.std.specs.Prelude.{◌≡◌, ℕ, suc, ◌+◌, ◌-◌, ◌*◌, ◌≤◌, ◌<◌, [], ◌∷◌, length, drop}
use Rattle.std.proofs.Common.{arith, get_or, ap, drop-cons}
use Rattle.ept_tokens.specs.Tokens.{Bytes, decimal}

-- more digits write no smaller number
pub decimal_grows : (n : ℕ) (bs : Bytes) → n ≤ decimal n bs
decimal_grows n [] = omega arith
decimal_grows n (b ∷ bs) = omega (arith, decimal_grows (n * 10 + (b - 48)) bs)

-- one digit more
pub decimal_step : (bs : Bytes) (n i : ℕ) → i < length bs → decimal n (drop i bs) ≡ decimal (n * 10 + (get_or bs i 0 - 48)) (drop (suc i) bs)
decimal_step bs n i h = ap (decimal n) (drop-cons bs i 0 h)

pub decimal_at_least : (bs : Bytes) (n i now : ℕ) → i < length bs → decimal n (drop i bs) ≡ decimal 0 bs → now ≡ n * 10 + (get_or bs i 0 - 48) → now ≤ decimal 0 bs
decimal_at_least bs n i now h e s = omega (arith, decimal_grows (n * 10 + (get_or bs i 0 - 48)) (drop (suc i) bs), decimal_step bs n i h)
