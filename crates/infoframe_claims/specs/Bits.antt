-- Bits of a byte (own).
use Rattle.std.specs.Prelude.{ℕ, ◌/◌, ◌%◌, ◌^◌, ◌==◌, ◌&&◌, nat_lt, Bool}

abbrev pub has_bit : ℕ → ℕ → Bool
has_bit byte bit = nat_lt bit 8 && (byte / (2 ^ bit) % 2 == 1)
