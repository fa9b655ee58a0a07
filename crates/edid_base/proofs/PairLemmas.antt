-- Pairs of bits put together by shifts.
use Rattle.std.proofs.Common.{◌≡◌, ℕ, ◌<◌, ◌+◌, ◌*◌, ◌%◌, bit_and, bit_or, arith}
use Rattle.std.proofs.lemmas.Nat.{and_mask, or_shifted}
use Rattle.edid_base.specs.Pairs.{low_pairs}

pairs_or : (a b c d : ℕ) → a < 4 → b < 4 → c < 4 → d < 4
    → bit_or (bit_or (bit_or (a * 64) (b * 16)) (c * 4)) d ≡ a * 64 + b * 16 + c * 4 + d
pairs_or a b c d ha hb hc hd =
    let first : bit_or (a * 64) (b * 16) ≡ a * 64 + b * 16 = or_shifted a 6 (b * 16) (omega arith) in
    let two : a * 64 + b * 16 ≡ (a * 4 + b) * 16 = omega arith in
    let second : bit_or ((a * 4 + b) * 16) (c * 4) ≡ (a * 4 + b) * 16 + c * 4 = or_shifted (a * 4 + b) 4 (c * 4) (omega arith) in
    let three : (a * 4 + b) * 16 + c * 4 ≡ (a * 16 + b * 4 + c) * 4 = omega arith in
    let third : bit_or ((a * 16 + b * 4 + c) * 4) d ≡ (a * 16 + b * 4 + c) * 4 + d = or_shifted (a * 16 + b * 4 + c) 2 d (omega arith) in
    rw (first, two, second, three, third) (omega arith)

pub pairs_are : (a b c d : ℕ)
    → bit_or (bit_or (bit_or (bit_and a 3 * 64 % 65536) (bit_and b 3 * 16 % 65536)) (bit_and c 3 * 4 % 65536)) (bit_and d 3) ≡ low_pairs a b c d
pairs_are a b c d =
    let ea : bit_and a 3 ≡ a % 4 = and_mask a 2 in
    let eb : bit_and b 3 ≡ b % 4 = and_mask b 2 in
    let ec : bit_and c 3 ≡ c % 4 = and_mask c 2 in
    let ed : bit_and d 3 ≡ d % 4 = and_mask d 2 in
    let fa : a % 4 * 64 % 65536 ≡ a % 4 * 64 = omega arith in
    let fb : b % 4 * 16 % 65536 ≡ b % 4 * 16 = omega arith in
    let fc : c % 4 * 4 % 65536 ≡ c % 4 * 4 = omega arith in
    rw (ea, eb, ec, ed, fa, fb, fc) (pairs_or (a % 4) (b % 4) (c % 4) (d % 4) (omega arith) (omega arith) (omega arith) (omega arith))
