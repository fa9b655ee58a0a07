-- The whole number that is nearest to a quotient.
use Rattle.std.proofs.Common.{◌≡◌, ℕ, ◌<◌, ◌≤◌, ◌+◌, ◌*◌, arith}
use Rattle.std.proofs.Math.Nat.{lt_of_mul-lt-mul_left}
use Rattle.meaning_words.specs.Rates.{IsNearest, nearest}

pub nearest_is : (number by : ℕ) → 0 < by → IsNearest number by (nearest number by)
unfolding nearest
nearest_is number by h = record { not_above = omega arith; not_below = omega arith }

-- one of two is not above the other
not_above : (number by r s : ℕ) → IsNearest number by r → IsNearest number by s → r ≤ s
not_above number by r s p q =
    let most = p.not_above in
    let more = q.not_below in
    let expanded : 2 * by * (s + 1) ≡ 2 * by * s + 2 * by = search arith in
    let below : r < s + 1 = lt_of_mul-lt-mul_left (2 * by) (omega (arith, most, more, expanded)) in
    omega arith

pub nearest_one : (number by r s : ℕ) → IsNearest number by r → IsNearest number by s → r ≡ s
nearest_one number by r s p q = let first = not_above number by r s p q in let second = not_above number by s r q p in omega arith
