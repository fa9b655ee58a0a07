-- The bytes of a timing are those that it was read from.
use Rattle.std.proofs.Common.{◌≡◌, ℕ, ◌<◌, ◌+◌, ◌*◌, ◌/◌, ◌%◌, [], ◌∷◌, arith}
use Rattle.edid_base.specs.Timing.{low, high, nibbles}

low_of : (a n : ℕ) → a < 256 → low (a + n * 256) ≡ a
low_of a n h = omega arith

high_of : (a n : ℕ) → a < 256 → high (a + n * 256) ≡ n
high_of a n h = omega arith

split_nibbles : (a c n : ℕ) → a < 256 → c < 256 → n < 256 → nibbles (a + n / 16 * 256) (c + n % 16 * 256) ≡ n
split_nibbles a c n h k l = omega arith

sync_nibbles : (x y : ℕ) → x < 256 → y < 256
    → (x / 16 + y / 4 % 4 * 16) % 16 * 16 + (x % 16 + y % 4 * 16) % 16 ≡ x
sync_nibbles x y h k = omega arith

sync_pairs : (a c x y : ℕ) → a < 256 → c < 256 → x < 256 → y < 256
    → high (a + y / 64 * 256) * 64 + high (c + y / 16 % 4 * 256) * 16 + (x / 16 + y / 4 % 4 * 16) / 16 * 4 + (x % 16 + y % 4 * 16) / 16 ≡ y
sync_pairs a c x y h k l m = omega arith

pub read_back : (b : ℕ → ℕ) → ((i : ℕ) → b i < 256) → (clock : ℕ) → clock ≡ b 0 + b 1 * 256
    → low clock ∷ high clock ∷
    low (b 2 + b 4 / 16 * 256) ∷ low (b 3 + b 4 % 16 * 256) ∷ nibbles (b 2 + b 4 / 16 * 256) (b 3 + b 4 % 16 * 256) ∷
    low (b 5 + b 7 / 16 * 256) ∷ low (b 6 + b 7 % 16 * 256) ∷ nibbles (b 5 + b 7 / 16 * 256) (b 6 + b 7 % 16 * 256) ∷
    low (b 8 + b 11 / 64 * 256) ∷ low (b 9 + b 11 / 16 % 4 * 256) ∷
    ((b 10 / 16 + b 11 / 4 % 4 * 16) % 16 * 16 + (b 10 % 16 + b 11 % 4 * 16) % 16) ∷
    (high (b 8 + b 11 / 64 * 256) * 64 + high (b 9 + b 11 / 16 % 4 * 256) * 16 + (b 10 / 16 + b 11 / 4 % 4 * 16) / 16 * 4 + (b 10 % 16 + b 11 % 4 * 16) / 16) ∷
    low (b 12 + b 14 / 16 * 256) ∷ low (b 13 + b 14 % 16 * 256) ∷ nibbles (b 12 + b 14 / 16 * 256) (b 13 + b 14 % 16 * 256) ∷
    b 15 ∷ b 16 ∷ b 17 ∷ []
    ≡ b 0 ∷ b 1 ∷ b 2 ∷ b 3 ∷ b 4 ∷ b 5 ∷ b 6 ∷ b 7 ∷ b 8 ∷ b 9 ∷ b 10 ∷ b 11 ∷ b 12 ∷ b 13 ∷ b 14 ∷ b 15 ∷ b 16 ∷ b 17 ∷ []
read_back b fits clock e =
    rw (
      e,
      low_of (b 0) (b 1) (fits 0),
      high_of (b 0) (b 1) (fits 0),
      low_of (b 2) (b 4 / 16) (fits 2),
      low_of (b 3) (b 4 % 16) (fits 3),
      split_nibbles (b 2) (b 3) (b 4) (fits 2) (fits 3) (fits 4),
      low_of (b 5) (b 7 / 16) (fits 5),
      low_of (b 6) (b 7 % 16) (fits 6),
      split_nibbles (b 5) (b 6) (b 7) (fits 5) (fits 6) (fits 7),
      low_of (b 8) (b 11 / 64) (fits 8),
      low_of (b 9) (b 11 / 16 % 4) (fits 9),
      sync_nibbles (b 10) (b 11) (fits 10) (fits 11),
      sync_pairs (b 8) (b 9) (b 10) (b 11) (fits 8) (fits 9) (fits 10) (fits 11),
      low_of (b 12) (b 14 / 16) (fits 12),
      low_of (b 13) (b 14 % 16) (fits 13),
      split_nibbles (b 12) (b 13) (b 14) (fits 12) (fits 13) (fits 14),
    )
