-- Products of values that are below a range.
use Rattle.std.proofs.Common.{◌≡◌, ℕ, ◌<◌, ◌≤◌, ◌+◌, ◌*◌, arith}
use Rattle.std.proofs.Math.Nat.{mul-le-mul_left}

pub product_small : (times value range most : ℕ) → value < range → times * range ≤ most → times * value ≤ most
product_small times value range most h m = let more : times * value ≤ times * range = mul-le-mul_left times (omega (arith, h)) in omega (arith, more, m)

pub plus_small : (times value range plus most : ℕ) → value < range → times * range + plus ≤ most → times * value + plus ≤ most
plus_small times value range plus most h m = let more : times * value ≤ times * range = mul-le-mul_left times (omega (arith, h)) in omega (arith, more, m)
